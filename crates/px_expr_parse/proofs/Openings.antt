-- What a tree is by the token that it begins with.
use Rattle.std.proofs.Common.{◌≡◌, ℕ, zero, suc, ◌+◌, ◌≤◌, ◌⊎◌, inl, inr, refl, sym, ap, subst, ◌∙◌, List, Option, Some, true, false, arith}
use Rattle.std.specs.Option.{option_map, option_and_then}
use Rattle.std.proofs.lemmas.Option.{same_Some}
use Rattle.px_lex.specs.declared.keyword.Keyword.{Keyword}
use Rattle.px_lex.specs.declared.keyword.Keyword.TheVariants as words
use Rattle.px_lex.specs.declared.sign.Sign.TheVariants as signs
use Rattle.px_lex.specs.declared.token.Token.{Token}
use Rattle.px_lex.specs.declared.token.TokenKind.{TokenKind}
use Rattle.px_lex.specs.declared.token.TokenKind.TheVariants as kinds
use Rattle.px_syntax.specs.declared.expr.Attribute.{Attribute as AttributeWord}
use Rattle.px_syntax.specs.declared.expr.Enumerated.{Enumerated as EnumeratedValue}
use Rattle.px_syntax.specs.declared.expr.Enumerated.TheVariants as enumerated
use Rattle.px_syntax.specs.declared.expr.Identifier.{Identifier}
use Rattle.px_syntax.specs.declared.expr.Literal.{Literal as LiteralValue}
use Rattle.px_syntax.specs.declared.expr.Literal.TheVariants as literals
use Rattle.px_syntax.specs.declared.expr.NodeReference.TheVariants as nodes
use Rattle.px_syntax.specs.declared.expr.Tolerance.{Tolerance}
use Rattle.px_syntax.specs.declared.operator.Operator.TheVariants as operators
use Rattle.px_syntax.specs.declared.operator.UnaryOperator.{UnaryOperator}
use Rattle.px_syntax.specs.declared.word.BinaryFunction.{BinaryFunction}
use Rattle.px_syntax.specs.declared.word.BinaryFunction.TheVariants as binary_functions
use Rattle.px_syntax.specs.declared.word.LookWord.{LookWord}
use Rattle.px_syntax.specs.declared.word.LookWord.TheVariants as looks
use Rattle.px_syntax.specs.declared.word.UnaryFunction.{UnaryFunction}
use Rattle.px_syntax.specs.declared.word.UnaryFunction.TheVariants as unary_functions
use Rattle.px_value.specs.declared.enums.Failure.TheVariants as failures
use Rattle.px_value.specs.declared.enums.Handle.TheVariants as handles
use Rattle.px_value.specs.declared.enums.NodeState.TheVariants as states
use Rattle.px_value.specs.declared.enums.Outcome.TheVariants as outcomes
use Rattle.px_value.proofs.General.{option_map_some}
use Rattle.px_syntax.specs.Expr.{Term, Terms, Literal, Enumerated, Variable, Element, Attribute, Look, UnaryCall, BinaryCall, Unary, Binary}
use Rattle.px_syntax.specs.ExprGrammar.{indexed, operand, bare, term_level, literal_kind, enumerated_keyword, look_keyword, unary_keyword, binary_keyword, unary_at}
use Rattle.px_syntax.specs.Form.{Form, kind_at, identifier, in_pairs, sign, ◌then◌}
use Rattle.px_syntax.specs.Operator.{level_of, unary_of}
use Rattle.px_syntax.proofs.Levels.{binary_level, unary_level}
use Rattle.px_expr_parse.specs.declared.opening.Opening.{Opening}
use Rattle.px_expr_parse.specs.declared.opening.Opening.TheVariants as openings
use Rattle.px_expr_parse.specs.Opening.{opening_of, keyword_opening, enumerated_of, Begins}
use Rattle.px_expr_parse.specs.Tail.{closed, attribute, named, argument, two_arguments, look_state}

-- ---- what begins with the token of a word

opening_of_literal : (value : LiteralValue) → opening_of (literal_kind value) ≡ openings.Literal
unfolding opening_of keyword_opening
opening_of_literal (literals.Boolean true) = refl
opening_of_literal value = refl

opening_of_look : (word : LookWord) → opening_of (kinds.Keyword (look_keyword word)) ≡ openings.Look word
unfolding opening_of keyword_opening
opening_of_look looks.Lookup = refl
opening_of_look word = refl

opening_of_unary : (function : UnaryFunction) → opening_of (kinds.Keyword (unary_keyword function)) ≡ openings.UnaryCall function
unfolding opening_of keyword_opening
opening_of_unary unary_functions.IsKnown = refl
opening_of_unary function = refl

opening_of_binary : (function : BinaryFunction) → opening_of (kinds.Keyword (binary_keyword function)) ≡ openings.BinaryCall function
unfolding opening_of keyword_opening
opening_of_binary binary_functions.Min = refl
opening_of_binary binary_functions.Max = refl

opening_of_enumerated :
    (value : EnumeratedValue)
    → option_map (λ (word : Keyword). opening_of (kinds.Keyword word)) (enumerated_keyword value) ≡ Some (openings.Enumerated value)
unfolding opening_of keyword_opening enumerated_of enumerated_keyword
opening_of_enumerated (enumerated.State states.Inactive) = refl
opening_of_enumerated (enumerated.State state) = refl
opening_of_enumerated (enumerated.Outcome outcomes.Success) = refl
opening_of_enumerated (enumerated.Outcome outcome) = refl
opening_of_enumerated (enumerated.Failure failures.PreConditionFailed) = refl
opening_of_enumerated (enumerated.Failure failure) = refl
opening_of_enumerated (enumerated.Handle handles.CommandSentToSystem) = refl
opening_of_enumerated (enumerated.Handle handle) = refl

pub opening_of_name : (name : List ℕ) → opening_of (kinds.Identifier name) ≡ openings.Name
unfolding opening_of
opening_of_name name = refl

opening_of_paren : opening_of (kinds.Sign signs.OpenParen) ≡ openings.Paren
unfolding opening_of
opening_of_paren = refl

opening_of_self : opening_of (kinds.Keyword words.SelfNode) ≡ openings.SelfNode
unfolding opening_of keyword_opening
opening_of_self = refl

opening_of_parent : opening_of (kinds.Keyword words.Parent) ≡ openings.Parent
unfolding opening_of keyword_opening
opening_of_parent = refl

opening_of_sibling : opening_of (kinds.Keyword words.Sibling) ≡ openings.Sibling
unfolding opening_of keyword_opening
opening_of_sibling = refl

opening_of_child : opening_of (kinds.Keyword words.Child) ≡ openings.Child
unfolding opening_of keyword_opening
opening_of_child = refl

-- ---- the token of what begins

-- what the token is with which something begins
abbrev pub Token_of : Opening → TokenKind → Type 0
Token_of openings.Paren kind = kind ≡ kinds.Sign signs.OpenParen
Token_of openings.Literal kind = (value : LiteralValue) × (kind ≡ literal_kind value)
Token_of (openings.Enumerated value) kind =
    (word : Keyword) × ((enumerated_keyword value ≡ Some word) × (kind ≡ kinds.Keyword word))
Token_of openings.Name kind = (name : List ℕ) × (kind ≡ kinds.Identifier name)
Token_of openings.SelfNode kind = kind ≡ kinds.Keyword words.SelfNode
Token_of openings.Parent kind = kind ≡ kinds.Keyword words.Parent
Token_of openings.Sibling kind = kind ≡ kinds.Keyword words.Sibling
Token_of openings.Child kind = kind ≡ kinds.Keyword words.Child
Token_of (openings.Look word) kind = kind ≡ kinds.Keyword (look_keyword word)
Token_of (openings.UnaryCall function) kind = kind ≡ kinds.Keyword (unary_keyword function)
Token_of (openings.BinaryCall function) kind = kind ≡ kinds.Keyword (binary_keyword function)
Token_of openings.Nothing kind = Unit {0}

token_of : (kind : TokenKind) → Token_of (opening_of kind) kind
unfolding opening_of keyword_opening enumerated_of enumerated_keyword
token_of (kinds.Identifier name) = (name, refl)
token_of (kinds.Integer value) = (literals.Integer value, refl)
token_of (kinds.Text content) = (literals.Text content, refl)
token_of (kinds.Sign signs.OpenParen) = refl
token_of (kinds.Sign sign) = tt
token_of (kinds.Keyword words.True) = (literals.Boolean true, refl)
token_of (kinds.Keyword words.False) = (literals.Boolean false, refl)
token_of (kinds.Keyword words.SelfNode) = refl
token_of (kinds.Keyword words.Parent) = refl
token_of (kinds.Keyword words.Sibling) = refl
token_of (kinds.Keyword words.Child) = refl
token_of (kinds.Keyword words.Lookup) = refl
token_of (kinds.Keyword words.LookupNow) = refl
token_of (kinds.Keyword words.LookupOnChange) = refl
token_of (kinds.Keyword words.IsKnown) = refl
token_of (kinds.Keyword words.Abs) = refl
token_of (kinds.Keyword words.StrLen) = refl
token_of (kinds.Keyword words.Min) = refl
token_of (kinds.Keyword words.Max) = refl
token_of (kinds.Keyword words.Inactive) = (words.Inactive, (refl, refl))
token_of (kinds.Keyword words.Waiting) = (words.Waiting, (refl, refl))
token_of (kinds.Keyword words.Executing) = (words.Executing, (refl, refl))
token_of (kinds.Keyword words.Finishing) = (words.Finishing, (refl, refl))
token_of (kinds.Keyword words.IterationEnded) = (words.IterationEnded, (refl, refl))
token_of (kinds.Keyword words.Failing) = (words.Failing, (refl, refl))
token_of (kinds.Keyword words.Finished) = (words.Finished, (refl, refl))
token_of (kinds.Keyword words.Success) = (words.Success, (refl, refl))
token_of (kinds.Keyword words.Failure) = (words.Failure, (refl, refl))
token_of (kinds.Keyword words.Skipped) = (words.Skipped, (refl, refl))
token_of (kinds.Keyword words.Interrupted) = (words.Interrupted, (refl, refl))
token_of (kinds.Keyword words.PreConditionFailed) = (words.PreConditionFailed, (refl, refl))
token_of (kinds.Keyword words.PostConditionFailed) = (words.PostConditionFailed, (refl, refl))
token_of (kinds.Keyword words.InvariantConditionFailed) = (words.InvariantConditionFailed, (refl, refl))
token_of (kinds.Keyword words.ParentFailed) = (words.ParentFailed, (refl, refl))
token_of (kinds.Keyword words.Exited) = (words.Exited, (refl, refl))
token_of (kinds.Keyword words.ParentExited) = (words.ParentExited, (refl, refl))
token_of (kinds.Keyword words.CommandSentToSystem) = (words.CommandSentToSystem, (refl, refl))
token_of (kinds.Keyword words.CommandAccepted) = (words.CommandAccepted, (refl, refl))
token_of (kinds.Keyword words.CommandRcvdBySystem) = (words.CommandRcvdBySystem, (refl, refl))
token_of (kinds.Keyword words.CommandFailed) = (words.CommandFailed, (refl, refl))
token_of (kinds.Keyword words.CommandDenied) = (words.CommandDenied, (refl, refl))
token_of (kinds.Keyword words.CommandSuccess) = (words.CommandSuccess, (refl, refl))
token_of (kinds.Keyword word) = tt

-- the token at a place where something begins
pub token_there :
    (tokens : List Token) (place : ℕ) (opening : Opening) → Begins tokens place opening
    → (kind : TokenKind) × (kind_at tokens place ≡ Some kind) × Token_of opening kind
token_there tokens place opening begins =
    let found = option_map_some opening_of (kind_at tokens place) opening begins.opens in
    (found.0, found.1, subst (λ (which : Opening). Token_of which found.0) found.2 (token_of found.0))

-- nothing else begins with an operator before an operand
unary_opens :
    (kind : TokenKind) (operator : UnaryOperator) → unary_of kind ≡ Some operator
    → opening_of kind ≡ openings.Nothing
unfolding unary_of opening_of keyword_opening enumerated_of
unary_opens (kinds.Identifier name) operator e = cc
unary_opens (kinds.Integer value) operator e = cc
unary_opens (kinds.Text content) operator e = cc
unary_opens (kinds.Sign signs.Bang) operator e = refl
unary_opens (kinds.Sign signs.Minus) operator e = refl
unary_opens (kinds.Sign sign) operator e = cc
unary_opens (kinds.Keyword words.Not) operator e = refl
unary_opens (kinds.Keyword word) operator e = cc

-- ---- what stands behind the first token

-- a tree that is built of a part behind its first token
pub record Produced {B : Type 0} (build : B → Term) (form : B → Form) (tokens : List Token) (from : ℕ) (tree : Term) (end : ℕ) : Type 0 where
  pub part : B
  pub built : tree ≡ build part
  pub rest : form part tokens (from + 1) end

-- a tree of one token
abbrev pub IsLeaf : Term → ℕ → Term → ℕ → Type 0
IsLeaf leaf from tree end = (tree ≡ leaf) × (end ≡ from + 1)

-- a tree that begins with a name
abbrev pub NameRest : Identifier → List Token → ℕ → Term → ℕ → Type 0
NameRest name tokens from tree end =
    IsLeaf (Variable name) from tree end
    ⊎ (Produced (λ (place : Term). Element name place) indexed tokens from tree end
    ⊎ Produced (λ (which : AttributeWord). Attribute (nodes.Named name) which) attribute tokens from tree end)

-- the name in parentheses and the attribute of a node
abbrev pub named_attribute : Identifier × AttributeWord → Form
named_attribute parts = named parts.0 then attribute parts.1

-- what a tree is behind its first token
abbrev pub Rest : Opening → List Token → ℕ → Term → ℕ → Type 0
Rest openings.Paren tokens from = Produced (λ (tree : Term). tree) (closed signs.CloseParen) tokens from
Rest openings.Literal tokens from =
    λ tree end. (value : LiteralValue) × (kind_at tokens from ≡ Some (literal_kind value)) × IsLeaf (Literal value from) from tree end
Rest (openings.Enumerated value) tokens from = IsLeaf (Enumerated value from) from
Rest openings.Name tokens from =
    λ tree end. (name : Identifier) × identifier name tokens from (from + 1) × NameRest name tokens from tree end
Rest openings.SelfNode tokens from = Produced (λ (which : AttributeWord). Attribute (nodes.SelfNode from) which) attribute tokens from
Rest openings.Parent tokens from = Produced (λ (which : AttributeWord). Attribute (nodes.Parent from) which) attribute tokens from
Rest openings.Sibling tokens from =
    Produced (λ (parts : Identifier × AttributeWord). Attribute (nodes.Sibling from parts.0) parts.1) named_attribute tokens from
Rest openings.Child tokens from =
    Produced (λ (parts : Identifier × AttributeWord). Attribute (nodes.Child from parts.0) parts.1) named_attribute tokens from
Rest (openings.Look word) tokens from =
    Produced (λ (parts : Identifier × (Terms × Option Tolerance)). Look word from parts.0 parts.1.0 parts.1.1) (look_state word) tokens from
Rest (openings.UnaryCall function) tokens from =
    Produced (λ (tree : Term). UnaryCall function from tree) argument tokens from
Rest (openings.BinaryCall function) tokens from =
    Produced (λ (parts : Term × Term). BinaryCall function from parts.0 parts.1) two_arguments tokens from
Rest openings.Nothing tokens from = λ tree end. ⊥

pub record Opened (tokens : List Token) (from : ℕ) (tree : Term) (end : ℕ) : Type 0 where
  pub opening : Opening
  pub opens : option_map opening_of (kind_at tokens from) ≡ Some opening
  pub rest : Rest opening tokens from tree end

-- an operation of an operator before its operand
pub record Prefixed (tokens : List Token) (from : ℕ) (tree : Term) (end : ℕ) : Type 0 where
  pub operator : UnaryOperator
  pub is : unary_at tokens from ≡ Some operator
  pub made : Produced (λ (part : Term). Unary operator from part) (operand 8) tokens from tree end

module _ (tokens : List Token) (from : ℕ) where
  opens_by : (kind : TokenKind) (opening : Opening) → kind_at tokens from ≡ Some kind → opening_of kind ≡ opening
      → option_map opening_of (kind_at tokens from) ≡ Some opening
  opens_by kind opening at is = ap (option_map opening_of) at ∙ ap (λ (o : Opening). Some o) is

  -- a form behind a first token that ends one place on
  moved : (form : Form) (middle end : ℕ) → middle ≡ from + 1 → form tokens middle end → form tokens (from + 1) end
  moved form middle end is o = subst (λ (place : ℕ). form tokens place end) is o

  -- a tree of no operator before an operand, in no parentheses
  open_bare :
      (tree : Term) (end : ℕ) → 8 ≤ term_level tree → bare tree tokens from end
      → Opened tokens from tree end ⊎ Prefixed tokens from tree end
  open_bare (Literal value token) end tight o =
      inl (record {
        opening = openings.Literal;
        opens = opens_by (literal_kind value) openings.Literal o.1.0 (opening_of_literal value);
        rest = (value, o.1.0, (ap (λ (place : ℕ). Literal value place) o.0, o.1.1));
      })
  open_bare (Enumerated value token) end tight o =
      inl (record {
        opening = openings.Enumerated value;
        opens =
            ap (option_map opening_of) o.1.2.0
            ∙ sym (ap (option_map (λ (word : Keyword). opening_of (kinds.Keyword word))) o.1.1)
            ∙ opening_of_enumerated value;
        rest = (ap (λ (place : ℕ). Enumerated value place) o.0, o.1.2.1);
      })
  open_bare (Variable name) end tight o =
      inl (record {
        opening = openings.Name;
        opens = opens_by (kinds.Identifier name.name) openings.Name o.1.0 (opening_of_name name.name);
        rest = (name, (o.0, (o.1.0, refl)), inl (refl, o.1.1));
      })
  open_bare (Element array place) end tight o =
      inl (record {
        opening = openings.Name;
        opens = opens_by (kinds.Identifier array.name) openings.Name o.1.1.0 (opening_of_name array.name);
        rest = (
          array,
          (o.1.0, (o.1.1.0, refl)),
          inr (inl (record { part = place; built = refl; rest = moved (indexed place) o.0 end o.1.1.1 o.2 })),
        );
      })
  open_bare (Attribute (nodes.Named name) which) end tight o =
      inl (record {
        opening = openings.Name;
        opens = opens_by (kinds.Identifier name.name) openings.Name o.1.1.0 (opening_of_name name.name);
        rest = (
          name,
          (o.1.0, (o.1.1.0, refl)),
          inr (inr (record { part = which; built = refl; rest = moved (attribute which) o.0 end o.1.1.1 o.2 })),
        );
      })
  open_bare (Attribute (nodes.SelfNode token) which) end tight o =
      inl (record {
        opening = openings.SelfNode;
        opens = opens_by (kinds.Keyword words.SelfNode) openings.SelfNode o.1.1.0 opening_of_self;
        rest = record {
          part = which;
          built = ap (λ (place : ℕ). Attribute (nodes.SelfNode place) which) o.1.0;
          rest = moved (attribute which) o.0 end o.1.1.1 o.2;
        };
      })
  open_bare (Attribute (nodes.Parent token) which) end tight o =
      inl (record {
        opening = openings.Parent;
        opens = opens_by (kinds.Keyword words.Parent) openings.Parent o.1.1.0 opening_of_parent;
        rest = record {
          part = which;
          built = ap (λ (place : ℕ). Attribute (nodes.Parent place) which) o.1.0;
          rest = moved (attribute which) o.0 end o.1.1.1 o.2;
        };
      })
  open_bare (Attribute (nodes.Sibling token name) which) end tight o =
      inl (record {
        opening = openings.Sibling;
        opens = opens_by (kinds.Keyword words.Sibling) openings.Sibling o.1.1.1.0 opening_of_sibling;
        rest = record {
          part = (name, which);
          built = ap (λ (place : ℕ). Attribute (nodes.Sibling place name) which) o.1.1.0;
          rest = (o.0, moved (named name) o.1.0 o.0 o.1.1.1.1 o.1.2, o.2);
        };
      })
  open_bare (Attribute (nodes.Child token name) which) end tight o =
      inl (record {
        opening = openings.Child;
        opens = opens_by (kinds.Keyword words.Child) openings.Child o.1.1.1.0 opening_of_child;
        rest = record {
          part = (name, which);
          built = ap (λ (place : ℕ). Attribute (nodes.Child place name) which) o.1.1.0;
          rest = (o.0, moved (named name) o.1.0 o.0 o.1.1.1.1 o.1.2, o.2);
        };
      })
  open_bare (Look word token name args tolerance) end tight o =
      inl (record {
        opening = openings.Look word;
        opens = opens_by (kinds.Keyword (look_keyword word)) (openings.Look word) o.1.1.0 (opening_of_look word);
        rest = record {
          part = (name, (args, tolerance));
          built = ap (λ (place : ℕ). Look word place name args tolerance) o.1.0;
          rest = moved (look_state word (name, (args, tolerance))) o.0 end o.1.1.1 o.2;
        };
      })
  open_bare (UnaryCall function token tree) end tight o =
      inl (record {
        opening = openings.UnaryCall function;
        opens =
            opens_by (kinds.Keyword (unary_keyword function)) (openings.UnaryCall function) o.1.1.0 (opening_of_unary function);
        rest = record {
          part = tree;
          built = ap (λ (place : ℕ). UnaryCall function place tree) o.1.0;
          rest = moved (argument tree) o.0 end o.1.1.1 o.2;
        };
      })
  open_bare (BinaryCall function token first second) end tight o =
      inl (record {
        opening = openings.BinaryCall function;
        opens =
            opens_by (kinds.Keyword (binary_keyword function)) (openings.BinaryCall function) o.1.1.0 (opening_of_binary function);
        rest = record {
          part = (first, second);
          built = ap (λ (place : ℕ). BinaryCall function place first second) o.1.0;
          rest = moved (two_arguments (first, second)) o.0 end o.1.1.1 o.2;
        };
      })
  open_bare (Unary operator token tree) end tight o =
      inr (record {
        operator = operator;
        is = o.1.1.0;
        made = record {
          part = tree;
          built = ap (λ (place : ℕ). Unary operator place tree) o.1.0;
          rest =
              subst (λ (floor : ℕ). operand floor tree tokens (from + 1) end) (unary_level operator)
              (moved (operand (level_of (operators.Unary operator)) tree) o.0 end o.1.1.1 o.2);
        };
      })
  open_bare (Binary operator left right) end tight o =
      absurd (omega (arith, tight, (binary_level operator).1))

  pub opened :
      (tree : Term) (end : ℕ) → operand 8 tree tokens from end
      → Opened tokens from tree end ⊎ Prefixed tokens from tree end
  opened tree end (zero, free, o) = open_bare tree end (free refl) o
  opened tree end (suc pairs, free, o) =
      inl (record {
        opening = openings.Paren;
        opens = opens_by (kinds.Sign signs.OpenParen) openings.Paren o.1.0 opening_of_paren;
        rest = record {
          part = tree;
          built = refl;
          rest = (
            o.2.0,
            (pairs, λ z. omega arith, moved (in_pairs pairs (bare tree)) o.0 o.2.0 o.1.1 o.2.1),
            o.2.2,
          );
        };
      })

  -- the same where it is known what begins
  pub rest_of :
      (opening : Opening) → Begins tokens from opening
      → (tree : Term) (end : ℕ) → operand 8 tree tokens from end → Rest opening tokens from tree end
  rest_of opening begins tree end o =
      elim (opened tree end o) [
        | inl found ↦
            let same : found.opening ≡ opening = same_Some found.opening opening (sym found.opens ∙ begins.opens) in
            subst (λ (which : Opening). Rest which tokens from tree end) same found.rest
        | inr found ↦ let is = found.is in let none = begins.no_operator in cc
      ]

  -- and where an operator stands before an operand
  pub prefix_of :
      (operator : UnaryOperator) → unary_at tokens from ≡ Some operator
      → (tree : Term) (end : ℕ) → operand 8 tree tokens from end
      → Produced (λ (part : Term). Unary operator from part) (operand 8) tokens from tree end
  prefix_of operator is tree end o =
      elim (opened tree end o) [
        | inl found ↦
            let begun = option_map_some opening_of (kind_at tokens from) found.opening found.opens in
            let here : unary_of begun.0 ≡ Some operator = sym (ap (option_and_then unary_of) begun.1) ∙ is in
            let same : found.opening ≡ openings.Nothing = sym begun.2 ∙ unary_opens begun.0 operator here in
            absurd (subst (λ (which : Opening). Rest which tokens from tree end) same found.rest)
        | inr found ↦
            let same : found.operator ≡ operator = same_Some found.operator operator (sym found.is ∙ is) in
            subst (λ (which : UnaryOperator). Produced (λ (part : Term). Unary which from part) (operand 8) tokens from tree end) same found.made
      ]
