-- Plans are printed, and read again.
use Rattle.std.proofs.Common.{◌≡◌, ℕ, true, List, [], ◌∷◌, ◌++◌, map, length, Option, Some, None, refl, ap, subst, inl}
use Rattle.std.specs.Prelude.{codes}
use Rattle.std.specs.Str.{is_utf8}
use Rattle.std.proofs.lemmas.Str.{IsUtf8-from_is_utf8, is_utf8-from_IsUtf8}
use Rattle.px_lex.specs.declared.keyword.Keyword.TheVariants as words
use Rattle.px_lex.specs.declared.sign.Sign.TheVariants as signs
use Rattle.px_lex.specs.declared.token.Token.{Token}
use Rattle.px_lex.specs.Lexer.{Splits, tokens_from}
use Rattle.px_lex.proofs.Unique.{one_way}
use Rattle.px_syntax.specs.declared.expr.Identifier.{Identifier}
use Rattle.px_syntax.specs.declared.plan.Parameter.{Parameter}
use Rattle.px_syntax.specs.declared.word.TypeName.{TypeName}
use Rattle.px_syntax.specs.BlockGrammar.{type_word}
use Rattle.px_syntax.specs.Depth.{too_deep}
use Rattle.px_syntax.specs.Form.{sign, identifier, ◌then◌, maybe, with_commas}
use Rattle.px_syntax.specs.Plan.{DeclarationData, Command, Lookup, PlanTree}
use Rattle.px_syntax.specs.PlanGrammar.{parameter, parameters, declaration, plan, Spells}
use Rattle.px_plan_parse.proofs.Plans.{only_memory}
use Rattle.px_print.specs.BlockLayout.{line, type_text}
use Rattle.px_print.specs.Layout.{name_text, parameter_text, parameters_text, answer_text, declaration_text, layout}
use Rattle.px_print.specs.Reading.{IsWritten, IsReadAs, IsAnswered}
use Rattle.px_print.specs.Unnumbered.{plain_parameter, plain_declaration, plain_plan, IsSame}
use Rattle.px_print.proofs.Bodies.{prints_label, prints_block}
use Rattle.px_print.proofs.Exprs.{Alike, prints_open, prints_close, prints_name}
use Rattle.px_print.proofs.Items.{prints_semicolon, prints_type}
use Rattle.px_print.proofs.Lists.{prints_each, prints_commas}
use Rattle.px_print.proofs.Printing.{Prints, follow, prints_as, prints_then, prints_nothing, prints_behind, prints_before, prints_whole}
use Rattle.px_print.proofs.Tokens.{AllCan, Ends, Stops, split_can, prints_keyword}

module _ {source : List ℕ} (given : List Token) (all : AllCan source given) where
  prints_parameter : (part : Parameter) (from to : ℕ) → parameter part given from to → (rest : List ℕ) → Stops rest
      → Prints source (Alike parameter plain_parameter part) (parameter_text part) rest
  prints_parameter part from to h rest stops = of_name part.name h.2
    where
      of_name : (name : Option Identifier) → maybe identifier name given h.0 to
          → Prints source (Alike parameter plain_parameter (record { of_type = part.of_type; name = name })) (type_text part.of_type ++ name_text name) rest
      of_name None nothing_is =
          let none = prints_nothing rest in
          prints_as (prints_then none (prints_type part.of_type (follow none) stops.0))
          (λ tokens from to r. (record { of_type = part.of_type; name = None }, refl, r))
      of_name (Some name) i =
          let behind = prints_behind (codes " ") refl (prints_name given all name h.0 to i rest stops.0) in
          prints_as (prints_then behind (prints_type part.of_type (follow behind) refl))
          (λ tokens from to r. (
            record { of_type = part.of_type; name = Some r.2.0 },
            ap (λ n. record { of_type = part.of_type; name = Some n }) r.2.1,
            (r.0, r.1, r.2.2),
          ))

  parameters_end : (parts : List Parameter) (rest : List ℕ) → Ends ((parameters_text parts ++ codes ";") ++ rest)
  parameters_end [] rest = refl
  parameters_end (part ∷ parts) rest = refl

  -- parameters in parentheses are some
  enclosed : (parts : List Parameter) (tokens : List Token) (from to : ℕ)
      → (sign signs.OpenParen then with_commas parameter parts then sign signs.CloseParen) tokens from to → parameters parts tokens from to
  enclosed [] tokens from to h = absurd h.2.1
  enclosed (part ∷ parts) tokens from to h = h

  prints_parameters : (parts : List Parameter) (from to : ℕ) → parameters parts given from to → (rest : List ℕ)
      → Prints source (Alike parameters (map plain_parameter) parts) (parameters_text parts) rest
  prints_parameters [] from to h rest = prints_as (prints_nothing rest) (λ tokens from to r. ([], refl, inl r))
  prints_parameters (part ∷ parts) from to h rest =
      let close = prints_close rest in
      let inside = prints_then close (prints_commas given parameter plain_parameter parameter_text prints_parameter (part ∷ parts) h.0 h.2.0 h.2.1
      (follow close) (refl, refl)) in
      prints_as (prints_then inside (prints_open (follow inside)))
      (λ tokens from to r. (r.2.1.0, r.2.1.1, enclosed r.2.1.0 tokens from to (r.0, r.1, (r.2.0, r.2.1.2, r.2.2))))

  prints_answer : (answer : Option TypeName) (rest : List ℕ) → Prints source (maybe type_word answer) (answer_text answer) rest
  prints_answer None rest = prints_nothing rest
  prints_answer (Some of_type) rest = prints_before (codes " ") rest refl (prints_type of_type (codes " " ++ rest) refl)

  prints_declaration : (part : DeclarationData) (from to : ℕ) → declaration part given from to → (rest : List ℕ)
      → Prints source (Alike declaration plain_declaration part) (declaration_text part) rest
  prints_declaration (Command answer name parts) from to h rest =
      let end = prints_semicolon rest in
      let list = prints_then end (prints_parameters parts h.2.2.0 h.2.2.2.0 h.2.2.2.1 (follow end)) in
      let named = prints_then list (prints_name given all name h.2.0 h.2.2.0 h.2.2.1 (follow list) (parameters_end parts rest)) in
      let gap = prints_behind (codes " ") refl named in
      let word = prints_then gap (prints_keyword words.Command (codes "Command") (follow gap) refl refl) in
      prints_as (prints_then word (prints_answer answer (follow word)))
      (λ tokens from to r. (
        Command answer r.2.2.1.0 r.2.2.2.1.0,
        (λ i. Command answer (r.2.2.1.1 i) (r.2.2.2.1.1 i)),
        (r.0, r.1, (r.2.0, r.2.1, (r.2.2.0, r.2.2.1.2, (r.2.2.2.0, r.2.2.2.1.2, r.2.2.2.2)))),
      ))
  prints_declaration (Lookup answer name parts) from to h rest =
      let end = prints_semicolon rest in
      let list = prints_then end (prints_parameters parts h.2.2.0 h.2.2.2.0 h.2.2.2.1 (follow end)) in
      let named = prints_then list (prints_name given all name h.2.0 h.2.2.0 h.2.2.1 (follow list) (parameters_end parts rest)) in
      let gap = prints_behind (codes " ") refl named in
      let word = prints_behind (codes " ") refl (prints_then gap (prints_keyword words.Lookup (codes "Lookup") (follow gap) refl refl)) in
      prints_as (prints_then word (prints_type answer (follow word) refl))
      (λ tokens from to r. (
        Lookup answer r.2.2.1.0 r.2.2.2.1.0,
        (λ i. Lookup answer (r.2.2.1.1 i) (r.2.2.2.1.1 i)),
        (r.0, r.1, (r.2.0, r.2.1, (r.2.2.0, r.2.2.1.2, (r.2.2.2.0, r.2.2.2.1.2, r.2.2.2.2)))),
      ))

  declaration_line : (part : DeclarationData) (from to : ℕ) → declaration part given from to → (rest : List ℕ) → Unit {0}
      → Prints source (Alike declaration plain_declaration part) (line [] (declaration_text part)) rest
  declaration_line part from to h rest any = prints_before (codes "\n") rest refl (prints_declaration part from to h (codes "\n" ++ rest))

  prints_plan : (tree : PlanTree) → plan tree given 0 (length given) → Prints source (Alike plan plain_plan tree) (layout tree) []
  prints_plan tree h =
      let root = prints_block given all tree.root h.2.0 (length given) h.2.2 [] refl (codes "\n") in
      let named = prints_before (codes "\n") [] refl (prints_then root (prints_label given all tree.label h.0 h.2.0 h.2.1 (follow root))) in
      prints_as (prints_then named (prints_each given declaration plain_declaration (λ part. line [] (declaration_text part)) (λ _. Unit {0})
      declaration_line (λ part rest. tt) tree.declarations 0 h.0 h.1 (follow named) tt))
      (λ tokens from to r. (
        record { declarations = r.1.0; label = r.2.1.0; root = r.2.2.0 },
        (λ i. record { declarations = r.1.1 i; label = r.2.1.1 i; root = r.2.2.1 i }),
        (r.0, r.1.2, (r.2.0, r.2.1.2, r.2.2.2)),
      ))

-- ---- plans are read again

pub read_again : (tree : PlanTree) → IsWritten tree → IsReadAs (layout tree) tree
read_again tree w =
    let printed = prints_plan w.tokens (split_can w.text w.tokens w.splits) tree w.spelled in
    let read = prints_whole (Alike plan plain_plan tree) (layout tree) printed in
    record {
      tokens = tokens_from 0 printed.pieces;
      splits = record { pieces = printed.pieces; whole = printed.whole; stand = printed.stand; listed = refl };
      read = read.0;
      spelled = read.2;
      same = read.1;
    }

-- the layout is UTF-8, if the text is that spells the tree
pub utf8_again : (tree : PlanTree) (w : IsWritten tree) → is_utf8 w.text ≡ true → is_utf8 (layout tree) ≡ true
utf8_again tree w u =
    is_utf8-from_IsUtf8 (layout tree) ((prints_plan w.tokens (split_can w.text w.tokens w.splits) tree w.spelled).kept (IsUtf8-from_is_utf8 w.text u))

pub answered_again : (tree : PlanTree) (tokens : List Token) → IsWritten tree → Splits (layout tree) tokens → too_deep tokens ≡ []
    → IsAnswered tree tokens
answered_again tree tokens w splits shallow =
    let again = read_again tree w in
    let spelled = subst (Spells again.read) (one_way (layout tree) again.tokens tokens again.splits splits) again.spelled in
    record {
      found = λ read is. subst (λ other. IsSame other tree) (is.only again.read spelled) again.same;
      refused = only_memory tokens again.read spelled shallow;
    }
