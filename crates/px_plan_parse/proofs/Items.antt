-- What items consist of.
use Rattle.std.proofs.Common.{◌≡◌, ℕ, ◌+◌, ◌<◌, ◌⊎◌, inl, inr, refl, sym, ap, subst, ◌∙◌, List, length, Option, Some, None, true, arith}
use Rattle.px_lex.specs.declared.keyword.Keyword.TheVariants as words
use Rattle.px_lex.specs.declared.sign.Sign.{Sign}
use Rattle.px_lex.specs.declared.sign.Sign.TheVariants as signs
use Rattle.px_lex.specs.declared.token.Token.{Token}
use Rattle.px_lex.specs.declared.token.TokenKind.{TokenKind}
use Rattle.px_lex.specs.declared.token.TokenKind.TheVariants as kinds
use Rattle.px_syntax.specs.declared.block.ListedLiteral.{ListedLiteral}
use Rattle.px_syntax.specs.declared.expr.Identifier.{Identifier}
use Rattle.px_syntax.specs.declared.expr.Literal.{Literal}
use Rattle.px_syntax.specs.declared.expr.Literal.TheVariants as literals
use Rattle.px_syntax.specs.declared.fault.ParseFault.{ParseFault}
use Rattle.px_syntax.specs.declared.word.Condition.{Condition}
use Rattle.px_syntax.specs.declared.word.TypeName.{TypeName}
use Rattle.px_syntax.specs.Block.{InitialData, Value, Listed, Variables, Conditions, Priority, VariableData}
use Rattle.px_syntax.specs.BlockGrammar.{condition_word, first_value, initial, item, listed, literal, type_word, variable}
use Rattle.px_syntax.specs.Expr.{Term}
use Rattle.px_syntax.specs.ExprGrammar.{literal_kind}
use Rattle.px_syntax.specs.Form.{Form, identifier, kind_at, ◌then◌}
use Rattle.px_expr_parse.specs.Verdict.{Agree}
use Rattle.px_expr_parse.specs.Tail.{closed}
use Rattle.px_expr_parse.proofs.Arguments.{no_colon}
use Rattle.px_expr_parse.proofs.Primaries.{literal_kind_one}
use Rattle.px_plan_parse.specs.declared.start.Start.TheVariants as starts
use Rattle.px_plan_parse.specs.Part.{Anything, IsLacking, IsPart}
use Rattle.px_plan_parse.specs.Start.{keyword_start, start_at}
use Rattle.px_plan_parse.specs.Tail.{array_size, closed_variables, listed_values, NoLiteral, Only, priority, test, Unless, VariableEnded}
use Rattle.px_plan_parse.proofs.Commas.{Separates}
use Rattle.px_plan_parse.proofs.Parts.{Begins, HasKind, Makes, Splits, behind, both, lack_here, lack_memory, makes_by, optional_alone}
use Rattle.px_plan_parse.proofs.Shortests.{short_literal}
use Rattle.px_plan_parse.proofs.Spans.{local_variable}
use Rattle.px_plan_parse.proofs.Starts.{condition_starts, makes_by_start, start_keyword, type_starts}

-- ---- literals

-- what a literal begins with: itself, or a minus
pub literal_token :
    (others : List Token) (from : ℕ) (value : Literal) (end : ℕ) → literal value others from end
    → (HasKind others from (literal_kind value) × (end ≡ from + 1)) ⊎ HasKind others from (kinds.Sign signs.Minus)
literal_token others from (literals.Integer value) end (inl o) = inl o
literal_token others from (literals.Integer value) end (inr o) = inr o.2.1.0
literal_token others from (literals.Boolean true) end o = inl o
literal_token others from value end o = inl o

literal_itself : (others : List Token) (from : ℕ) (value : Literal) → HasKind others from (literal_kind value) → literal value others from (from + 1)
literal_itself others from (literals.Integer value) has = inl (has, refl)
literal_itself others from (literals.Boolean true) has = (has, refl)
literal_itself others from value has = (has, refl)

-- no sign is a literal by itself
pub no_sign : (value : Literal) (kind : TokenKind) (which : _) → kind ≡ kinds.Sign which → kind ≡ literal_kind value → ⊥
no_sign (literals.Boolean true) kind which e h = cc
no_sign value kind which e h = cc

module _ (tokens : List Token) (from : ℕ) (kind : TokenKind) (has : HasKind tokens from kind)
    (no_minus : HasKind tokens from (kinds.Sign signs.Minus) → ⊥) (inside : from < length tokens)
  where
    pub found_literal : (value : Literal) → kind ≡ literal_kind value → IsPart literal Anything tokens from value (from + 1)
    found_literal value is =
        record {
          advances = omega arith;
          within = omega (arith, inside);
          sole = λ others agree.
              let there : HasKind others from kind = agree from (omega arith) ∙ has in
              record {
                spelled = literal_itself others from value (there ∙ ap (λ (k : TokenKind). Some k) is);
                only = λ other end o next. elim (literal_token others from other end o) [
                  | inl itself ↦
                      let same : literal_kind other ≡ literal_kind value = let e = itself.0 in cc in
                      (literal_kind_one other value same, itself.1)
                  | inr minus ↦ absurd (no_minus (sym (agree from (omega arith)) ∙ minus))
                ];
              };
        }

    pub lacks_literal : (fault : ParseFault) → NoLiteral kind from fault → IsLacking literal Anything tokens from fault
    lacks_literal fault (inl other_kind) =
        lack_here other_kind.0 (omega (arith, inside)) short_literal (λ others same other end o. elim (literal_token others from other end o) [
          | inl itself ↦ other_kind.1 other (let there : HasKind others from kind = same ∙ has in let t = itself.0 in cc)
          | inr minus ↦ no_minus (sym same ∙ minus)
        ])
    lacks_literal fault (inr memory) = rw memory lack_memory

abbrev pub listed_as : Literal → ℕ → ListedLiteral
listed_as value token = record { value = value; token = token }

-- a literal of a list, and whether a comma is behind it
pub makes_listed :
    (tokens : List Token) (from : ℕ)
    → Makes listed (both literal (optional_alone (kinds.Sign signs.Comma))) (λ (parts : Literal × Unit {0}). listed_as parts.0 from) tokens from
makes_listed tokens from =
    makes_by (λ others parts end o. (o.0, (refl, o.1), o.2))
    (λ others same part end o. ((part.value, tt), ap (λ (t : ℕ). listed_as part.value t) o.1.0, (o.0, o.1.1, o.2)))

pub listed_begins :
    (which : Sign) → (which ≡ signs.Minus → ⊥) → (part : ListedLiteral) (tokens : List Token) (from end : ℕ) → listed part tokens from end
    → Unless which tokens from
listed_begins which no_minus part tokens from end o has = elim (literal_token tokens from part.value o.0 o.1.1) [
  | inl itself ↦ no_sign part.value (kinds.Sign which) which refl (let h = itself.0 in cc)
  | inr minus ↦ no_minus (let e : which ≡ signs.Minus = cc in e)
]

pub comma_is_no_minus : signs.Comma ≡ signs.Minus → ⊥
comma_is_no_minus e = cc

pub paren_is_no_minus : signs.CloseParen ≡ signs.Minus → ⊥
paren_is_no_minus e = cc

-- the parenthesis that closes a list is no comma
pub paren_no_comma : (others : List Token) (place : ℕ) → Only signs.CloseParen others place → Unless signs.Comma others place
paren_no_comma others place paren comma = cc

-- ---- initial values

module _ (tokens : List Token) (from : ℕ) where
  pub makes_list :
      HasKind tokens from (kinds.Sign signs.OpenList)
      → Makes initial (behind (kinds.Sign signs.OpenList) listed_values) (λ (values : List ListedLiteral). Listed values from) tokens from
  makes_list opens = makes_by (λ others part end o. (o.0, (refl, o.1), o.2)) (λ others same. split others (same ∙ opens))
    where
      split :
          (others : List Token) → HasKind others from (kinds.Sign signs.OpenList)
          → Splits initial (behind (kinds.Sign signs.OpenList) listed_values) (λ (values : List ListedLiteral). Listed values from) others from
      split others there (Listed values token) end o = (values, ap (λ (t : ℕ). Listed values t) o.1.0, (o.0, o.1.1, o.2))
      split others there (Value value token) end o = absurd (elim (literal_token others from value end o.1) [
        | inl itself ↦ no_sign value (kinds.Sign signs.OpenList) signs.OpenList refl (let h = itself.0 in cc)
        | inr minus ↦ (let e : signs.OpenList ≡ signs.Minus = cc in no_minus e)
      ])
        where
          no_minus : signs.OpenList ≡ signs.Minus → ⊥
          no_minus e = cc

  pub makes_value :
      (HasKind tokens from (kinds.Sign signs.OpenList) → ⊥)
      → Makes initial literal (λ (value : Literal). Value value from) tokens from
  makes_value no_list = makes_by (λ others part end o. (refl, o)) (λ others same. split others (sym same))
    where
      split : (others : List Token) → kind_at tokens from ≡ kind_at others from → Splits initial literal (λ (value : Literal). Value value from) others from
      split others same (Listed values token) end o = absurd (no_list (same ∙ o.1.1.0))
      split others same (Value value token) end o = (value, ap (λ (t : ℕ). Value value t) o.0, o.1)

  pub not_ended :
      HasKind tokens from (kinds.Sign signs.Assign) → (others : List Token) → Agree tokens others from → VariableEnded others from → ⊥
  not_ended has others agree ended = ended.1 (agree from (omega arith) ∙ has)

-- ---- variables

abbrev pub variable_parts : Identifier × (Option ℕ × Option InitialData) → Form
variable_parts = both identifier (both array_size first_value)

abbrev pub variable_build : Identifier × (Option ℕ × Option InitialData) → VariableData
variable_build parts = record { name = parts.0; size = parts.1.0; initial = parts.1.1 }

pub makes_variable : (tokens : List Token) (from : ℕ) → Makes variable variable_parts variable_build tokens from
makes_variable tokens from =
    makes_by (λ others part end o. o) (λ others same tree end o. ((tree.name, (tree.size, tree.initial)), refl, o))

pub size_begins : Begins first_value VariableEnded (Unless signs.OpenBracket)
size_begins tokens None from end o ended = subst (λ (p : ℕ). Unless signs.OpenBracket tokens p) o ended.0
size_begins tokens (Some value) from end o ended = λ has. let h = o.1.0 in cc

-- ---- items

pub variables_separate : Separates variable VariableEnded signs.Semicolon
variables_separate =
    record {
      no_comma = λ e. cc;
      comma_follows = λ others place has. (λ is. cc, λ is. cc);
      close_follows = λ others place has. (λ is. cc, λ is. cc);
      local = local_variable;
    }

-- a test doesn't begin with a colon
pub no_colon_test :
    (others : List Token) (from : ℕ) → HasKind others from (kinds.Sign signs.Colon) → (tree : Term) (end : ℕ) → closed signs.Semicolon tree others from end → ⊥
no_colon_test others from colon tree end o = no_colon others from colon tree o.0 o.1

-- an item by its first word
abbrev pub behind_type : TypeName → List VariableData → Form
behind_type of_type variables = type_word of_type then closed_variables variables

abbrev pub behind_condition : Condition → Term → Form
behind_condition condition tree = condition_word condition then test tree

-- only an item of its sort begins with a word
module _ (tokens : List Token) (from : ℕ) where
  pub makes_variables :
      (of_type : TypeName) → start_at tokens from ≡ starts.Type of_type
      → Makes item (behind_type of_type) (λ (variables : List VariableData). Variables of_type variables) tokens from
  unfolding keyword_start
  makes_variables of_type is = makes_by_start (λ others part end o. o) (λ others same. split others (same ∙ is))
    where
      split :
          (others : List Token) → start_at others from ≡ starts.Type of_type
          → Splits item (behind_type of_type) (λ (variables : List VariableData). Variables of_type variables) others from
      split others begins (Variables other variables) end o =
          let s = (type_starts other others from o.0 o.1).0 in
          let same : other ≡ of_type = cc in
          (variables, ap (λ (t : TypeName). Variables t variables) same, subst (λ (t : TypeName). behind_type t variables others from end) same o)
      split others begins (Conditions condition token tree) end o =
          let s = (condition_starts condition others from o.0 o.1.1).0 in absurd cc
      split others begins (Priority token value) end o =
          let s = start_keyword others from words.Priority o.1.1.0 in absurd cc

  pub makes_condition :
      (condition : Condition) → start_at tokens from ≡ starts.Condition condition
      → Makes item (behind_condition condition) (λ (tree : Term). Conditions condition from tree) tokens from
  unfolding keyword_start
  makes_condition condition is = makes_by_start (λ others part end o. (o.0, (refl, o.1), o.2)) (λ others same. split others (same ∙ is))
    where
      split :
          (others : List Token) → start_at others from ≡ starts.Condition condition
          → Splits item (behind_condition condition) (λ (tree : Term). Conditions condition from tree) others from
      split others begins (Variables other variables) end o =
          let s = (type_starts other others from o.0 o.1).0 in absurd cc
      split others begins (Conditions other token part) end o =
          let s = (condition_starts other others from o.0 o.1.1).0 in
          let same : other ≡ condition = cc in (
            part,
            ap (λ (t : ℕ). Conditions other t part) o.1.0 ∙ ap (λ (which : Condition). Conditions which from part) same,
            subst (λ (which : Condition). behind_condition which part others from end) same (o.0, o.1.1, o.2),
          )
      split others begins (Priority token value) end o =
          let s = start_keyword others from words.Priority o.1.1.0 in absurd cc

  pub makes_priority :
      start_at tokens from ≡ starts.Priority
      → Makes item (behind (kinds.Keyword words.Priority) priority) (λ (value : ℕ). Priority from value) tokens from
  makes_priority is = makes_by_start (λ others part end o. (o.0, (refl, o.1), o.2)) (λ others same. split others (same ∙ is))
    where
      split :
          (others : List Token) → start_at others from ≡ starts.Priority
          → Splits item (behind (kinds.Keyword words.Priority) priority) (λ (value : ℕ). Priority from value) others from
      split others begins (Variables other variables) end o =
          let s = (type_starts other others from o.0 o.1).0 in absurd cc
      split others begins (Conditions condition token tree) end o =
          let s = (condition_starts condition others from o.0 o.1.1).0 in absurd cc
      split others begins (Priority token value) end o = (value, ap (λ (t : ℕ). Priority t value) o.1.0, (o.0, o.1.1, o.2))
