-- Each sort of expression that is no operation between two operands, from what is read behind its first token.
use Rattle.std.proofs.Common.{◌≡◌, ℕ, suc, ◌+◌, ◌≤◌, ◌<◌, inl, inr, refl, sym, ap, subst, ◌∙◌, List, length, Option, Some, None, true, false, arith, lit≤}
use Rattle.std.specs.Option.{option_map, option_and_then}
use Rattle.std.proofs.lemmas.Option.{same_Some}
use Rattle.px_lex.specs.declared.sign.Sign.TheVariants as signs
use Rattle.px_lex.specs.declared.token.Token.{Token}
use Rattle.px_lex.specs.declared.token.TokenKind.{TokenKind}
use Rattle.px_syntax.specs.declared.expr.Attribute.{Attribute as AttributeWord}
use Rattle.px_syntax.specs.declared.expr.Enumerated.{Enumerated as EnumeratedValue}
use Rattle.px_syntax.specs.declared.expr.Identifier.{Identifier}
use Rattle.px_syntax.specs.declared.expr.Literal.{Literal as LiteralValue}
use Rattle.px_syntax.specs.declared.expr.Literal.TheVariants as literals
use Rattle.px_syntax.specs.declared.expr.NodeReference.TheVariants as nodes
use Rattle.px_syntax.specs.declared.expr.Tolerance.{Tolerance}
use Rattle.px_syntax.specs.declared.fault.ParseFault.{ParseFault}
use Rattle.px_syntax.specs.declared.fault.ParseFault.TheVariants as faults
use Rattle.px_syntax.specs.declared.operator.UnaryOperator.{UnaryOperator}
use Rattle.px_syntax.specs.declared.word.BinaryFunction.{BinaryFunction}
use Rattle.px_syntax.specs.declared.word.LookWord.{LookWord}
use Rattle.px_syntax.specs.declared.word.UnaryFunction.{UnaryFunction}
use Rattle.px_syntax.specs.Expr.{Term, Terms, Literal, Enumerated, Variable, Element, Attribute, Look, UnaryCall, BinaryCall, Unary}
use Rattle.px_syntax.specs.ExprGrammar.{indexed, operand, literal_kind, unary_at}
use Rattle.px_syntax.specs.Form.{Form, kind_at, identifier, nothing, one}
use Rattle.px_syntax.specs.Operator.{unary_of}
use Rattle.px_syntax.proofs.Levels.{unary_level}
use Rattle.px_expr_parse.specs.declared.opening.Opening.{Opening}
use Rattle.px_expr_parse.specs.declared.opening.Opening.TheVariants as openings
use Rattle.px_expr_parse.specs.Opening.{opening_of, Begins}
use Rattle.px_expr_parse.specs.Tail.{closed, attribute, argument, two_arguments, look_state}
use Rattle.px_expr_parse.specs.Verdict.{Agree, index, attribute as attribute_follows, IsRead, IsRefused, IsFound, IsMissing, HasSign}
use Rattle.px_expr_parse.proofs.Closed.{not_both}
use Rattle.px_expr_parse.proofs.Completions.{begun_as, begun_here, short_operand}
use Rattle.px_expr_parse.proofs.Openings.{opened, IsLeaf, Produced, NameRest, named_attribute, rest_of, prefix_of, token_there}
use Rattle.px_expr_parse.proofs.Parts.{agree_before}
use Rattle.px_expr_parse.proofs.Productions.{begins_too, read_produced, IsOpened, Never, Produces}

-- no part behind the first token
abbrev pub alone : Unit {0} → Form
alone part = nothing

found_alone : (tokens : List Token) (place : ℕ) → place ≤ length tokens → IsFound alone tokens place tt place
found_alone tokens place within =
    record {
      advances = omega arith;
      within = within;
      only = λ others agree. record { spelled = refl; only = λ other end o. (refl, o) };
    }

-- a literal is told by its kind of token
pub literal_kind_one : (a b : LiteralValue) → literal_kind a ≡ literal_kind b → a ≡ b
literal_kind_one (literals.Boolean true) (literals.Boolean true) e = refl
literal_kind_one (literals.Boolean false) (literals.Boolean false) e = refl
literal_kind_one (literals.Integer x) (literals.Boolean true) e = cc
literal_kind_one (literals.Text x) (literals.Boolean true) e = cc
literal_kind_one a b e = cc

-- ---- what a word or a parenthesis begins

one_there :
    (others : List Token) (from : ℕ) {kind wanted : TokenKind} → kind_at others from ≡ Some kind → kind ≡ wanted
    → one wanted others from (from + 1)
one_there others from at is = (at ∙ ap (λ (k : TokenKind). Some k) is, refl)

module _ (from : ℕ) where
  pub opens_paren : IsOpened openings.Paren (λ (tree : Term). tree) (closed signs.CloseParen) from
  opens_paren =
      record {
        rest = λ others tree end r. r;
        builds = λ others kind at is tree end o.
            (suc o.1.0, λ z. absurd (omega arith), (from + 1, one_there others from at is, (o.0, o.1.2, o.2)));
      }

  pub opens_self : IsOpened openings.SelfNode (λ (which : AttributeWord). Attribute (nodes.SelfNode from) which) attribute from
  opens_self =
      record {
        rest = λ others tree end r. r;
        builds = λ others kind at is which end o. (0, λ z. lit≤ tt, (from + 1, (refl, one_there others from at is), o));
      }

  pub opens_parent : IsOpened openings.Parent (λ (which : AttributeWord). Attribute (nodes.Parent from) which) attribute from
  opens_parent =
      record {
        rest = λ others tree end r. r;
        builds = λ others kind at is which end o. (0, λ z. lit≤ tt, (from + 1, (refl, one_there others from at is), o));
      }

  pub opens_sibling :
      IsOpened openings.Sibling (λ (parts : Identifier × AttributeWord). Attribute (nodes.Sibling from parts.0) parts.1) named_attribute from
  opens_sibling =
      record {
        rest = λ others tree end r. r;
        builds = λ others kind at is parts end o. (0, λ z. lit≤ tt, (o.0, (from + 1, (refl, one_there others from at is), o.1), o.2));
      }

  pub opens_child :
      IsOpened openings.Child (λ (parts : Identifier × AttributeWord). Attribute (nodes.Child from parts.0) parts.1) named_attribute from
  opens_child =
      record {
        rest = λ others tree end r. r;
        builds = λ others kind at is parts end o. (0, λ z. lit≤ tt, (o.0, (from + 1, (refl, one_there others from at is), o.1), o.2));
      }

  pub opens_look :
      (word : LookWord)
      → IsOpened (openings.Look word) (λ (parts : Identifier × (Terms × Option Tolerance)). Look word from parts.0 parts.1.0 parts.1.1) (look_state word) from
  opens_look word =
      record {
        rest = λ others tree end r. r;
        builds = λ others kind at is parts end o. (0, λ z. lit≤ tt, (from + 1, (refl, one_there others from at is), o));
      }

  pub opens_unary_call :
      (function : UnaryFunction) → IsOpened (openings.UnaryCall function) (λ (tree : Term). UnaryCall function from tree) argument from
  opens_unary_call function =
      record {
        rest = λ others tree end r. r;
        builds = λ others kind at is tree end o. (0, λ z. lit≤ tt, (from + 1, (refl, one_there others from at is), o));
      }

  pub opens_binary_call :
      (function : BinaryFunction)
      → IsOpened (openings.BinaryCall function) (λ (parts : Term × Term). BinaryCall function from parts.0 parts.1) two_arguments from
  opens_binary_call function =
      record {
        rest = λ others tree end r. r;
        builds = λ others kind at is parts end o. (0, λ z. lit≤ tt, (from + 1, (refl, one_there others from at is), o));
      }

module _ (tokens : List Token) (from : ℕ) where
  -- ---- one token

  -- a tree of one token, where each tree that begins so is it
  read_leaf :
      (leaf : Term) → from < length tokens
      → ((others : List Token) → Agree tokens others (from + 1) → (tree : Term) (end : ℕ)
      → operand 8 tree others from end → IsLeaf leaf from tree end)
      → ((others : List Token) → kind_at others from ≡ kind_at tokens from → operand 8 leaf others from (from + 1))
      → IsRead 8 tokens from leaf (from + 1)
  read_leaf leaf inside one builds =
      read_produced {build = λ (part : Unit {0}). leaf} {form = alone} {Short = Never}
      (record {
        inverts = λ others agree tree end o.
            let is = one others agree tree end o in inl (record { part = tt; built = is.0; rest = is.1 });
        builds = λ others same part end o. subst (λ (place : ℕ). operand 8 leaf others from place) (sym o) (builds others same);
        goes_on = λ others ends. absurd ends;
      }) (λ others ends. absurd ends) (found_alone tokens (from + 1) (omega (arith, inside)))

  pub read_literal :
      (value : LiteralValue) → Begins tokens from openings.Literal
      → kind_at tokens from ≡ Some (literal_kind value) → from < length tokens
      → IsRead 8 tokens from (Literal value from) (from + 1)
  read_literal value begins at inside =
      read_leaf (Literal value from) inside
      (λ others agree tree end o.
      let r = rest_of others from openings.Literal
      (begins_too tokens others from openings.Literal (from + 1) (omega arith) agree begins) tree end o in
      let kinds_are : Some (literal_kind r.0) ≡ Some (literal_kind value) =
      sym r.1 ∙ agree from (omega arith) ∙ at in
      let same = literal_kind_one r.0 value (same_Some (literal_kind r.0) (literal_kind value) kinds_are) in
      (r.2.0 ∙ ap (λ (v : LiteralValue). Literal v from) same, r.2.1))
      (λ others same. (0, λ z. lit≤ tt, (refl, (same ∙ at, refl))))

  pub read_enumerated :
      (value : EnumeratedValue) → Begins tokens from (openings.Enumerated value) → from < length tokens
      → IsRead 8 tokens from (Enumerated value from) (from + 1)
  read_enumerated value begins inside =
      read_leaf (Enumerated value from) inside
      (λ others agree tree end o.
      rest_of others from (openings.Enumerated value)
      (begins_too tokens others from (openings.Enumerated value) (from + 1) (omega arith) agree begins) tree end o)
      (λ others same.
      let t = token_there tokens from (openings.Enumerated value) begins in (
        0,
        λ z. lit≤ tt,
        (refl, (t.2.0, t.2.1.0, (same ∙ t.1 ∙ ap (λ (k : TokenKind). Some k) t.2.1.1, refl))),
      ))

  -- ---- nothing

  pub refuse_nothing :
      Begins tokens from openings.Nothing → from ≤ length tokens
      → IsRefused 8 tokens from (faults.SyntaxFault from)
  refuse_nothing begins within = (
    omega arith,
    within,
    λ others agree tree end o.
        absurd (rest_of others from openings.Nothing
        (begins_too tokens others from openings.Nothing from (omega arith) agree begins) tree end o),
    begun_here (short_operand 8 (lit≤ tt)),
  )

  pub refuse_end :
      kind_at tokens from ≡ None → from ≤ length tokens → IsRefused 8 tokens from (faults.SyntaxFault from)
  refuse_end at within = (
    omega arith,
    within,
    λ others agree tree end o.
        let here : kind_at others from ≡ None = agree from (omega arith) ∙ at in
        elim (opened others from tree end o) [
          | inl found ↦
              let opens : option_map opening_of None ≡ Some found.opening =
              sym (ap (option_map opening_of) here) ∙ found.opens in cc
          | inr found ↦
              let is : option_and_then unary_of None ≡ Some found.operator =
              sym (ap (option_and_then unary_of) here) ∙ found.is in cc
        ],
    begun_here (short_operand 8 (lit≤ tt)),
  )

  -- ---- an operator before an operand

  module _ (operator : UnaryOperator) (is : unary_at tokens from ≡ Some operator) where
    prefixes : (others : List Token) → Agree tokens others (from + 1) → (tree : Term) (end : ℕ) → operand 8 tree others from end
        → Produced (λ (part : Term). Unary operator from part) (operand 8) others from tree end
    prefixes others agree tree end o =
        prefix_of others from operator (ap (option_and_then unary_of) (agree from (omega arith)) ∙ is) tree end o

    builds_prefix :
        (others : List Token) → kind_at others from ≡ kind_at tokens from → (tree : Term) (end : ℕ)
        → operand 8 tree others (from + 1) end → operand 8 (Unary operator from tree) others from end
    builds_prefix others same tree end o = (
      0,
      λ z. omega (arith, unary_level operator),
      (
        from + 1,
        (refl, (ap (option_and_then unary_of) same ∙ is, refl)),
        subst (λ (floor : ℕ). operand floor tree others (from + 1) end) (sym (unary_level operator)) o,
      ),
    )

    pub read_prefix :
        (tree : Term) (to : ℕ) → IsRead 8 tokens (from + 1) tree to → IsRead 8 tokens from (Unary operator from tree) to
    read_prefix tree to g =
        record {
          advances = omega (arith, g.advances);
          within = g.within;
          longest = λ others agree.
              let longest = g.longest others agree in
              let agree_next = agree_before tokens others (from + 1) to (omega (arith, g.advances)) agree in
              record {
                spelled = builds_prefix others (agree from (omega (arith, g.advances))) tree to longest.spelled;
                only = λ other end o.
                    let p = prefixes others agree_next other end o in
                    elim (longest.only p.part end p.rest) [
                      | inl same ↦ inl (p.built ∙ ap (λ (part : Term). Unary operator from part) same.0, same.1)
                      | inr ends ↦ inr ends
                    ];
                ended = longest.ended;
              };
        }

    pub refuse_prefix :
        (fault : ParseFault) → IsRefused 8 tokens (from + 1) fault → IsRefused 8 tokens from fault
    refuse_prefix (faults.SyntaxFault token) g = (
      omega (arith, g.0),
      g.1,
      λ others agree tree end o.
          let p = prefixes others (agree_before tokens others (from + 1) token g.0 agree) tree end o in
          g.2 others agree p.part end p.rest,
      begun_as g.3 (λ others agree end tree o.
          (Unary operator from tree, builds_prefix others (agree from (omega (arith, g.0))) tree end o)),
    )
    refuse_prefix (faults.Deep token) g = g
    refuse_prefix faults.NoMemory g = g

  -- ---- names

  module _ (name : Identifier) (begins : Begins tokens from openings.Name) (found : IsFound identifier tokens from name (from + 1)) where
    name_rest :
        (others : List Token) → Agree tokens others (from + 1) → (tree : Term) (end : ℕ)
        → operand 8 tree others from end → NameRest name others from tree end
    name_rest others agree tree end o =
        let r = rest_of others from openings.Name
        (begins_too tokens others from openings.Name (from + 1) (omega arith) agree begins) tree end o in
        let same = ((found.only others agree).only r.0 (from + 1) r.1).0 in
        subst (λ (which : Identifier). NameRest which others from tree end) same r.2

    name_there : (others : List Token) → kind_at others from ≡ kind_at tokens from → identifier name others from (from + 1)
    name_there others same =
        let at = (found.only tokens (λ place le. refl)).spelled in (at.0, (same ∙ at.1.0, refl))

    pub read_variable :
        (HasSign tokens (from + 1) signs.OpenBracket → ⊥) → (HasSign tokens (from + 1) signs.Dot → ⊥)
        → IsRead 8 tokens from (Variable name) (from + 1)
    read_variable no_bracket no_dot =
        read_leaf (Variable name) (omega (arith, found.within))
        (λ others agree tree end o.
        let same = sym (agree (from + 1) (omega arith)) in
        elim (name_rest others agree tree end o) [
          | inl leaf ↦ leaf
          | inr (inl p) ↦ absurd (no_bracket (same ∙ p.rest.1.0))
          | inr (inr p) ↦ absurd (no_dot (same ∙ p.rest.1.0))
        ])
        (λ others same. (0, λ z. lit≤ tt, name_there others same))

    -- a bracket or a dot behind the name: the name alone ends before it
    pub produces_element :
        HasSign tokens (from + 1) signs.OpenBracket
        → Produces (λ (place : Term). Element name place) indexed (λ others. HasSign others (from + 1) signs.OpenBracket) tokens from
    produces_element has =
        record {
          inverts = λ others agree tree end o.
              let there : HasSign others (from + 1) signs.OpenBracket = agree (from + 1) (omega arith) ∙ has in
              elim (name_rest others agree tree end o) [
                | inl leaf ↦ inr (leaf.1, there)
                | inr (inl p) ↦ inl p
                | inr (inr p) ↦ absurd (not_both others (from + 1) signs.OpenBracket signs.Dot (λ e. cc) there p.rest.1.0)
              ];
          builds = λ others same part end o. (0, λ z. lit≤ tt, (from + 1, name_there others same, o));
          goes_on = λ others there. index there;
        }

    pub produces_named :
        HasSign tokens (from + 1) signs.Dot
        → Produces (λ (which : AttributeWord). Attribute (nodes.Named name) which) attribute (λ others. HasSign others (from + 1) signs.Dot) tokens from
    produces_named has =
        record {
          inverts = λ others agree tree end o.
              let there : HasSign others (from + 1) signs.Dot = agree (from + 1) (omega arith) ∙ has in
              elim (name_rest others agree tree end o) [
                | inl leaf ↦ inr (leaf.1, there)
                | inr (inl p) ↦ absurd (not_both others (from + 1) signs.OpenBracket signs.Dot (λ e. cc) p.rest.1.0 there)
                | inr (inr p) ↦ inl p
              ];
          builds = λ others same part end o. (0, λ z. lit≤ tt, (from + 1, name_there others same, o));
          goes_on = λ others there. attribute_follows there;
        }

-- where a name begins, it is not missing
pub refuse_name :
    (tokens : List Token) (from : ℕ) (fault : ParseFault) → Begins tokens from openings.Name
    → IsMissing identifier tokens from fault → IsRefused 8 tokens from fault
refuse_name tokens from (faults.SyntaxFault token) begins g =
    let there = token_there tokens from openings.Name begins in
    let name : Identifier = record { name = there.2.0; token = from } in
    absurd (g.2 tokens (λ place le. refl) name (from + 1)
    (refl, (there.1 ∙ ap (λ (k : TokenKind). Some k) there.2.1, refl)))
refuse_name tokens from (faults.Deep token) begins g = g
refuse_name tokens from faults.NoMemory begins g = g

-- what begins with the token there
pub begins_with :
    (tokens : List Token) (from : ℕ) (kind : TokenKind) (opening : Opening) → kind_at tokens from ≡ Some kind
    → opening ≡ opening_of kind → unary_at tokens from ≡ None → Begins tokens from opening
begins_with tokens from kind opening at is none =
    record {
      opens = ap (option_map opening_of) at ∙ ap (λ (which : Opening). Some which) (sym is);
      no_operator = none;
    }
