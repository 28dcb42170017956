-- The items of blocks are printed.
use Rattle.std.proofs.Common.{ℕ, ℤ, List, [], ◌∷◌, ◌++◌, map, Option, Some, None, refl, sym, ap, subst, inl, inr}
use Rattle.std.specs.Prelude.{codes, pos, neg_ℤ, zero, suc}
use Rattle.std.specs.Fmt.{signed_decimal}
use Rattle.std.specs.List.{join_by}
use Rattle.std.specs.Option.{option_map}
use Rattle.px_value.specs.Text.{bracketed}
use Rattle.px_lex.specs.declared.keyword.Keyword.TheVariants as words
use Rattle.px_lex.specs.declared.sign.Sign.TheVariants as signs
use Rattle.px_lex.specs.declared.token.Token.{Token}
use Rattle.px_lex.specs.declared.token.TokenKind.TheVariants as kinds
use Rattle.px_syntax.specs.declared.block.ListedLiteral.{ListedLiteral}
use Rattle.px_syntax.specs.declared.expr.Literal.{Literal as LiteralValue}
use Rattle.px_syntax.specs.declared.expr.Literal.TheVariants as literals
use Rattle.px_syntax.specs.declared.word.Condition.{Condition}
use Rattle.px_syntax.specs.declared.word.Condition.TheVariants as conditions
use Rattle.px_syntax.specs.declared.word.TypeName.{TypeName}
use Rattle.px_syntax.specs.declared.word.TypeName.TheVariants as types
use Rattle.px_syntax.specs.Block.{InitialData, Value, Listed, VariableData, ItemData, Variables, Conditions, Priority}
use Rattle.px_syntax.specs.BlockGrammar.{type_word, condition_word, signed, literal, listed, initial, first_value, size_of, variable, item}
use Rattle.px_syntax.specs.Form.{Form, sign, ◌then◌, maybe, each, number}
use Rattle.px_print.specs.ExprLayout.{literal_text}
use Rattle.px_print.specs.BlockLayout.{type_text, condition_text, initial_text, first_value_text, variable_text, item_text}
use Rattle.px_print.specs.Unnumbered.{plain_listed, plain_initial, plain_variable, plain_item}
use Rattle.px_print.proofs.Exprs.{Alike, prints_close, prints_name, prints_number, prints_literal, prints_whole}
use Rattle.px_print.proofs.Lists.{prints_each, next_each, prints_commas}
use Rattle.px_print.proofs.Printing.{Prints, follow, prints_as, prints_then, prints_nothing, prints_behind}
use Rattle.px_print.proofs.Tokens.{AllCan, Ends, Stops, prints_keyword, prints_sign, prints_any, prints_integer}

pub prints_semicolon : {source : List ℕ} (rest : List ℕ) → Prints source (sign signs.Semicolon) (codes ";") rest
prints_semicolon rest = prints_any signs.Semicolon (codes ";") rest refl (λ c cs. refl)

-- `=` between blanks
pub prints_equals : {source : List ℕ} {g : Form} {text rest : List ℕ} → Prints source g text rest → Prints source (sign signs.Assign then g) (codes " = " ++ text) rest
prints_equals p =
    let next = prints_behind (codes " ") refl p in
    prints_behind (codes " ") refl (prints_then next (prints_sign signs.Assign (codes "=") (follow next) refl refl))

pub prints_type : {source : List ℕ} (of_type : TypeName) (rest : List ℕ) → Ends rest → Prints source (type_word of_type) (type_text of_type) rest
prints_type types.Integer rest ends = prints_keyword words.Integer (codes "Integer") rest refl ends
prints_type types.Boolean rest ends = prints_keyword words.Boolean (codes "Boolean") rest refl ends
prints_type types.String rest ends = prints_keyword words.String (codes "String") rest refl ends

prints_condition : {source : List ℕ} (condition : Condition) (rest : List ℕ) → Ends rest → Prints source (condition_word condition) (condition_text condition) rest
prints_condition conditions.Start rest ends = prints_as (prints_keyword words.Start (codes "Start") rest refl ends) (λ tokens from to r. inl r)
prints_condition conditions.End rest ends = prints_as (prints_keyword words.End (codes "End") rest refl ends) (λ tokens from to r. inl r)
prints_condition conditions.Exit rest ends = prints_as (prints_keyword words.Exit (codes "Exit") rest refl ends) (λ tokens from to r. inl r)
prints_condition conditions.Skip rest ends = prints_as (prints_keyword words.Skip (codes "Skip") rest refl ends) (λ tokens from to r. inl r)
prints_condition conditions.Repeat rest ends = prints_as (prints_keyword words.Repeat (codes "Repeat") rest refl ends) (λ tokens from to r. inl r)
prints_condition conditions.Pre rest ends = prints_as (prints_keyword words.Pre (codes "Pre") rest refl ends) (λ tokens from to r. inl r)
prints_condition conditions.Post rest ends = prints_as (prints_keyword words.Post (codes "Post") rest refl ends) (λ tokens from to r. inl r)
prints_condition conditions.Invariant rest ends = prints_as (prints_keyword words.Invariant (codes "Invariant") rest refl ends) (λ tokens from to r. inl r)

module _ {source : List ℕ} (given : List Token) (all : AllCan source given) where
  negated : (size : ℕ) (from to : ℕ) → number size given from to → (rest : List ℕ) → Stops rest
      → Prints source (signed (neg_ℤ (pos size))) (signed_decimal (neg_ℤ (pos size))) rest
  negated zero from to h rest stops = prints_as (prints_number given all zero from to h rest stops) (λ tokens from to r. inl r)
  negated (suc size) from to h rest stops =
      let behind = prints_number given all (suc size) from to h rest stops in
      prints_as (prints_then behind (prints_any signs.Minus (codes "-") (follow behind) refl (λ c cs. refl)))
      (λ tokens from to r. inr (suc size, refl, r))

  pub prints_signed : (value : ℤ) (from to : ℕ) → signed value given from to → (rest : List ℕ) → Stops rest
      → Prints source (signed value) (signed_decimal value) rest
  prints_signed value from to (inl h) rest stops =
      let size = all from (kinds.Integer value) h.0 in
      subst (λ z. Prints source (signed z) (signed_decimal z) rest) (sym size.1)
      (prints_as (prints_integer size.0 rest size.2 stops) (λ tokens from to r. inl r))
  prints_signed value from to (inr h) rest stops =
      subst (λ z. Prints source (signed z) (signed_decimal z) rest) (sym h.1) (negated h.0 h.2.0 to h.2.2 rest stops)

  prints_value : (value : LiteralValue) (from to : ℕ) → literal value given from to → (rest : List ℕ) → Stops rest
      → Prints source (literal value) (literal_text value) rest
  prints_value (literals.Integer value) from to h rest stops = prints_signed value from to h rest stops
  prints_value (literals.Boolean value) from to h rest stops = prints_literal given all (literals.Boolean value) from to h rest stops
  prints_value (literals.Text content) from to h rest stops = prints_literal given all (literals.Text content) from to h rest stops

  prints_listed : (part : ListedLiteral) (from to : ℕ) → listed part given from to → (rest : List ℕ) → Stops rest
      → Prints source (Alike listed plain_listed part) (literal_text part.value) rest
  prints_listed part from to h rest stops =
      prints_as (prints_value part.value from h.0 h.1.1 rest stops)
      (λ tokens from to r. (record { value = part.value; token = from }, refl, (to, (refl, r), inl refl)))

  -- behind a blank
  prints_next : (part : ListedLiteral) (from to : ℕ) → listed part given from to → (rest : List ℕ) → Stops rest
      → Prints source (Alike listed plain_listed part) (codes " " ++ literal_text part.value) rest
  prints_next part from to h rest stops = prints_behind (codes " ") refl (prints_listed part from to h rest stops)

  prints_values : (parts : List ListedLiteral) (from to : ℕ) → each listed parts given from to → (rest : List ℕ) → Stops rest
      → Prints source (Alike (each listed) (map plain_listed) parts) (join_by (λ part. literal_text part.value) (codes " ") parts) rest
  prints_values [] from to h rest stops = prints_as (prints_nothing rest) (λ tokens from to r. ([], refl, r))
  prints_values (part ∷ parts) from to h rest stops =
      let text = λ (part : ListedLiteral). codes " " ++ literal_text part.value in
      let behind = prints_each given listed plain_listed text Stops prints_next (λ part rest. (refl, refl)) parts h.0 to h.2 rest stops in
      prints_as (prints_then behind (prints_listed part from h.0 h.1 (follow behind)
      (next_each given listed plain_listed text Stops prints_next (λ part rest. (refl, refl)) parts rest stops)))
      (λ tokens from to r. (r.1.0 ∷ r.2.0, (λ i. r.1.1 i ∷ r.2.1 i), (r.0, r.1.2, r.2.2)))

  prints_initial : (value : InitialData) (from to : ℕ) → initial value given from to → (rest : List ℕ) → Stops rest
      → Prints source (Alike initial plain_initial value) (initial_text value) rest
  prints_initial (Value value token) from to h rest stops =
      prints_as (prints_value value from to h.1 rest stops) (λ tokens from to r. (Value value from, refl, (refl, r)))
  prints_initial (Listed values token) from to h rest stops =
      let close = prints_close rest in
      let inside = prints_then close (prints_values values h.0 h.2.0 h.2.1 (follow close) (refl, refl)) in
      prints_as (prints_then inside (prints_any signs.OpenList (codes "#(") (follow inside) refl (λ c cs. refl)))
      (λ tokens from to r. (Listed r.2.1.0 from, ap (λ vs. Listed vs 0) r.2.1.1, (r.0, (refl, r.1), (r.2.0, r.2.1.2, r.2.2))))

  -- ---- variables

  prints_first_value : (value : Option InitialData) (from to : ℕ) → first_value value given from to
      → (rest : List ℕ) → Stops rest
      → Prints source (Alike first_value (option_map plain_initial) value) (first_value_text value) rest
  prints_first_value None from to h rest stops = prints_as (prints_nothing rest) (λ tokens from to r. (None, refl, r))
  prints_first_value (Some value) from to h rest stops =
      prints_as (prints_equals (prints_initial value h.0 to h.2 rest stops))
      (λ tokens from to r. (Some r.2.0, ap (λ v. Some v) r.2.1, (r.0, r.1, r.2.2)))

  prints_size : (size : Option ℕ) (from to : ℕ) → maybe size_of size given from to → (rest : List ℕ)
      → Prints source (maybe size_of size) (bracketed size) rest
  prints_size None from to h rest = prints_nothing rest
  prints_size (Some size) from to h rest =
      let close = prints_any signs.CloseBracket (codes "]") rest refl (λ c cs. refl) in
      let inside = prints_then close (prints_number given all size h.0 h.2.0 h.2.1 (follow close) (refl, refl)) in
      prints_then inside (prints_any signs.OpenBracket (codes "[") (follow inside) refl (λ c cs. refl))

  variable_ends : (size : Option ℕ) (value : Option InitialData) (rest : List ℕ) → Stops rest
      → Ends ((bracketed size ++ first_value_text value) ++ rest)
  variable_ends None None rest stops = stops.0
  variable_ends None (Some value) rest stops = refl
  variable_ends (Some size) value rest stops = refl

  prints_variable : (part : VariableData) (from to : ℕ) → variable part given from to → (rest : List ℕ) → Stops rest
      → Prints source (Alike variable plain_variable part) (variable_text part) rest
  prints_variable part from to h rest stops =
      let value = prints_first_value part.initial h.2.0 to h.2.2 rest stops in
      let size = prints_then value (prints_size part.size h.0 h.2.0 h.2.1 (follow value)) in
      prints_as (prints_then size (prints_name given all part.name from h.0 h.1 (follow size) (variable_ends part.size part.initial rest stops)))
      (λ tokens from to r. (
        record { name = r.1.0; size = part.size; initial = r.2.2.0 },
        (λ i. record { name = r.1.1 i; size = part.size; initial = r.2.2.1 i }),
        (r.0, r.1.2, (r.2.0, r.2.1, r.2.2.2)),
      ))

  -- ---- items

  pub prints_item : (part : ItemData) (from to : ℕ) → item part given from to → (rest : List ℕ)
      → Prints source (Alike item plain_item part) (item_text part) rest
  prints_item (Variables of_type variables) from to h rest =
      let end = prints_semicolon rest in
      let list = prints_then end (prints_commas given variable plain_variable variable_text prints_variable variables h.0 h.2.0 h.2.1 (follow end) (refl, refl)) in
      let gap = prints_behind (codes " ") refl list in
      prints_as (prints_then gap (prints_type of_type (follow gap) refl))
      (λ tokens from to r. (Variables of_type r.2.1.0, ap (λ vs. Variables of_type vs) r.2.1.1, (r.0, r.1, (r.2.0, r.2.1.2, r.2.2))))
  prints_item (Conditions condition token test) from to h rest =
      let end = prints_semicolon rest in
      let gap = prints_behind (codes " ") refl (prints_then end (prints_whole given all test h.2.0 h.2.2.0 h.2.2.1 (follow end) (refl, refl))) in
      prints_as (prints_then gap (prints_condition condition (follow gap) refl))
      (λ tokens from to r. (
        Conditions condition from r.2.1.0,
        ap (λ t. Conditions condition 0 t) r.2.1.1,
        (r.0, (refl, r.1), (r.0, inl refl, (r.2.0, r.2.1.2, r.2.2))),
      ))
  prints_item (Priority token priority) from to h rest =
      let end = prints_semicolon rest in
      let gap = prints_behind (codes " ") refl (prints_then end (prints_number given all priority h.2.0 h.2.2.0 h.2.2.1 (follow end) (refl, refl))) in
      prints_as (prints_then gap (prints_keyword words.Priority (codes "Priority") (follow gap) refl refl))
      (λ tokens from to r. (Priority from priority, refl, (r.0, (refl, r.1), (r.0, inl refl, r.2))))
