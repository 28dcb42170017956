-- What declarations consist of.
use Rattle.std.proofs.Common.{◌≡◌, ℕ, ◌+◌, ◌≤◌, ◌<◌, inl, inr, refl, sym, ap, subst, ◌∙◌, List, [], ◌∷◌, length, Option, Some, None, Bool, true, false, cond, arith}
use Rattle.px_lex.specs.declared.keyword.Keyword.TheVariants as words
use Rattle.px_lex.specs.declared.sign.Sign.TheVariants as signs
use Rattle.px_lex.specs.declared.token.Token.{Token}
use Rattle.px_lex.specs.declared.token.TokenKind.TheVariants as kinds
use Rattle.px_syntax.specs.declared.expr.Identifier.{Identifier}
use Rattle.px_syntax.specs.declared.fault.ParseFault.{ParseFault}
use Rattle.px_syntax.specs.declared.fault.ParseFault.TheVariants as faults
use Rattle.px_syntax.specs.declared.plan.Parameter.{Parameter}
use Rattle.px_syntax.specs.declared.word.TypeName.{TypeName}
use Rattle.px_syntax.specs.BlockGrammar.{type_word}
use Rattle.px_syntax.specs.Form.{Form, identifier, keyword, kind_at, sign, ◌then◌, maybe}
use Rattle.px_syntax.specs.Plan.{DeclarationData, Command, Lookup}
use Rattle.px_syntax.specs.PlanGrammar.{declaration, parameter}
use Rattle.px_expr_parse.proofs.Completions.{Shortest}
use Rattle.px_plan_parse.specs.declared.start.Start.{Start}
use Rattle.px_plan_parse.specs.declared.start.Start.TheVariants as starts
use Rattle.px_plan_parse.specs.Part.{Follow, Anything, IsLacking, IsPart}
use Rattle.px_plan_parse.specs.Start.{NoName, is_declaration, keyword_start, start_at}
use Rattle.px_plan_parse.specs.Tail.{closed_parameters, declared_parameters, signature}
use Rattle.px_plan_parse.proofs.Commas.{Separates, closed_commas}
use Rattle.px_plan_parse.proofs.Parts.{HasKind, Makes, Splits, alone, before, behind, lack_here, makes_by}
use Rattle.px_plan_parse.proofs.Spans.{local_parameter}
use Rattle.px_plan_parse.proofs.Starts.{makes_by_start, start_keyword, start_nothing, start_same, type_starts}

-- ---- a fault where no part begins

-- a form that begins otherwise than what is there
pub lacks_here :
    {A : Type 0} {form : A → Form} {Last : Follow} (tokens : List Token) (from : ℕ) (fault : ParseFault) → fault ≡ faults.SyntaxFault from
    → from ≤ length tokens → Shortest form
    → ((others : List Token) → start_at others from ≡ start_at tokens from → (part : A) (end : ℕ) → form part others from end → ⊥)
    → IsLacking form Last tokens from fault
lacks_here tokens from fault e within short none = lack_here e within short (λ others same. none others (start_same tokens others from same))

-- ---- parameters

abbrev pub named_type : TypeName → Option Identifier → Form
named_type of_type name = type_word of_type then maybe identifier name

abbrev pub as_parameter : TypeName → Option Identifier → Parameter
as_parameter of_type name = record { of_type = of_type; name = name }

module _ (tokens : List Token) (from : ℕ) where
  pub makes_parameter :
      (of_type : TypeName) → start_at tokens from ≡ starts.Type of_type
      → Makes parameter (named_type of_type) (as_parameter of_type) tokens from
  makes_parameter of_type is =
      makes_by_start (λ others part end o. o) (λ others same tree end o.
      let s = (type_starts tree.of_type others from o.0 o.1).0 in
      let same_type : tree.of_type ≡ of_type = cc in (
        tree.name,
        ap (λ (t : TypeName). as_parameter t tree.name) same_type,
        subst (λ (t : TypeName). named_type t tree.name others from end) same_type o,
      ))

  pub no_parameter :
      ((of_type : TypeName) → start_at tokens from ≡ starts.Type of_type → ⊥) → (others : List Token)
      → start_at others from ≡ start_at tokens from → (part : Parameter) (end : ℕ) → parameter part others from end → ⊥
  no_parameter none others same part end o = none part.of_type (sym same ∙ (type_starts part.of_type others from o.0 o.1).0)

pub parameters_separate : Separates parameter NoName signs.CloseParen
parameters_separate =
    record {
      no_comma = λ e. cc;
      comma_follows = λ others place has is. let e = start_nothing signs.Comma (λ f. cc) others place has in cc;
      close_follows = λ others place has is. let e = start_nothing signs.CloseParen (λ f. cc) others place has in cc;
      local = local_parameter;
    }

module _ (tokens : List Token) (from : ℕ) where
  pub no_parameters :
      from < length tokens → HasKind tokens from (kinds.Sign signs.CloseParen) → IsPart closed_parameters Anything tokens from [] (from + 1)
  no_parameters inside has =
      record {
        advances = omega arith;
        within = omega (arith, inside);
        sole = λ others agree.
            let there : HasKind others from (kinds.Sign signs.CloseParen) = agree from (omega arith) ∙ has in
            record { spelled = (there, refl); only = λ other end o next. only others there other end o };
      }
    where
      only :
          (others : List Token) → HasKind others from (kinds.Sign signs.CloseParen) → (other : List Parameter) (end : ℕ)
          → closed_parameters other others from end → (other ≡ []) × (end ≡ from + 1)
      only others there [] end o = (refl, o.1)
      only others there (first ∷ rest) end o =
          let s = (type_starts first.of_type others from o.1.1.0 o.1.1.1).0 in
          let n = start_nothing signs.CloseParen (λ f. cc) others from there in
          absurd cc

  pub makes_parameters :
      (HasKind tokens from (kinds.Sign signs.CloseParen) → ⊥)
      → Makes closed_parameters (closed_commas parameter signs.CloseParen) (λ (parts : List Parameter). parts) tokens from
  makes_parameters no_paren = makes_by build (λ others same. split others (sym same))
    where
      build :
          (others : List Token) (parts : List Parameter) (end : ℕ) → closed_commas parameter signs.CloseParen parts others from end
          → closed_parameters parts others from end
      build others [] end o = absurd o.1
      build others (first ∷ rest) end o = o

      split :
          (others : List Token) → kind_at tokens from ≡ kind_at others from
          → Splits closed_parameters (closed_commas parameter signs.CloseParen) (λ (parts : List Parameter). parts) others from
      split others same [] end o = absurd (no_paren (same ∙ o.0))
      split others same (first ∷ rest) end o = (first ∷ rest, refl, o)

  pub makes_no_parameters :
      (HasKind tokens from (kinds.Sign signs.OpenParen) → ⊥)
      → Makes declared_parameters (alone (kinds.Sign signs.Semicolon)) (λ (none : Unit {0}). []) tokens from
  makes_no_parameters no_paren = makes_by (λ others part end o. (from, inl refl, o)) (λ others same. split others (sym same))
    where
      split :
          (others : List Token) → kind_at tokens from ≡ kind_at others from
          → Splits declared_parameters (alone (kinds.Sign signs.Semicolon)) (λ (none : Unit {0}). []) others from
      split others same [] end (middle, inl none, o) = (tt, refl, subst (λ (p : ℕ). sign signs.Semicolon others p end) none o)
      split others same [] end (middle, inr given, o) = absurd (no_paren (same ∙ given.1.0))
      split others same (first ∷ rest) end (middle, given, o) = absurd (no_paren (same ∙ given.1.0))

  abbrev pub given_parameters : List Parameter → Form
  given_parameters = behind (kinds.Sign signs.OpenParen) (before closed_parameters (kinds.Sign signs.Semicolon))

  pub makes_given_parameters :
      HasKind tokens from (kinds.Sign signs.OpenParen)
      → Makes declared_parameters given_parameters (λ (parts : List Parameter). parts) tokens from
  makes_given_parameters has = makes_by build (λ others same. split others (same ∙ has))
    where
      build :
          (others : List Token) (parts : List Parameter) (end : ℕ) → given_parameters parts others from end
          → declared_parameters parts others from end
      build others [] end o = (o.2.0, inr (o.0, o.1, o.2.1), o.2.2)
      build others (first ∷ rest) end o = (o.2.0, (o.0, o.1, o.2.1), o.2.2)

      split :
          (others : List Token) → HasKind others from (kinds.Sign signs.OpenParen)
          → Splits declared_parameters given_parameters (λ (parts : List Parameter). parts) others from
      split others there [] end (middle, inl none, o) =
          let semicolon : HasKind others from (kinds.Sign signs.Semicolon) = subst (λ (p : ℕ). HasKind others p (kinds.Sign signs.Semicolon)) none o.0 in
          absurd cc
      split others there [] end (middle, inr given, o) = ([], refl, (given.0, given.1, (middle, given.2, o)))
      split others there (first ∷ rest) end (middle, given, o) = (first ∷ rest, refl, (given.0, given.1, (middle, given.2, o)))

-- ---- declarations

-- what stands behind the type of a declaration: the first is a command's, the second a lookup's
abbrev pub worded : Bool × (Identifier × List Parameter) → Form
worded (true, parts) = keyword words.Command then signature parts
worded (false, parts) = keyword words.Lookup then signature parts

abbrev pub typed_word : TypeName → Bool × (Identifier × List Parameter) → Form
typed_word answer parts = type_word answer then worded parts

abbrev pub typed_build : TypeName → Bool × (Identifier × List Parameter) → DeclarationData
typed_build answer (true, parts) = Command (Some answer) parts.0 parts.1
typed_build answer (false, parts) = Lookup answer parts.0 parts.1

module _ (tokens : List Token) (from : ℕ) where
  pub makes_typed :
      (answer : TypeName) → start_at tokens from ≡ starts.Type answer → Makes declaration (typed_word answer) (typed_build answer) tokens from
  unfolding keyword_start
  makes_typed answer is = makes_by_start build (λ others same. split others (same ∙ is))
    where
      build :
          (others : List Token) (parts : Bool × (Identifier × List Parameter)) (end : ℕ) → typed_word answer parts others from end
          → declaration (typed_build answer parts) others from end
      build others (true, parts) end o = o
      build others (false, parts) end o = o

      split : (others : List Token) → start_at others from ≡ starts.Type answer → Splits declaration (typed_word answer) (typed_build answer) others from
      split others begins (Command None name parts) end o =
          let there : HasKind others from (kinds.Keyword words.Command) =
          subst (λ (p : ℕ). HasKind others p (kinds.Keyword words.Command)) o.1 o.2.1.0 in
          let s = start_keyword others from words.Command there in absurd cc
      split others begins (Command (Some other) name parts) end o =
          let s = (type_starts other others from o.0 o.1).0 in
          let same : other ≡ answer = cc in (
            (true, (name, parts)),
            ap (λ (t : TypeName). Command (Some t) name parts) same,
            subst (λ (t : TypeName). typed_word t (true, (name, parts)) others from end) same o,
          )
      split others begins (Lookup other name parts) end o =
          let s = (type_starts other others from o.0 o.1).0 in
          let same : other ≡ answer = cc in (
            (false, (name, parts)),
            ap (λ (t : TypeName). Lookup t name parts) same,
            subst (λ (t : TypeName). typed_word t (false, (name, parts)) others from end) same o,
          )

  -- by the word behind the type
  pub makes_worded :
      (command : Bool) → start_at tokens from ≡ cond command starts.Command starts.Lookup
      → Makes worded (λ (parts : Identifier × List Parameter). worded (command, parts)) (λ (parts : Identifier × List Parameter). (command, parts)) tokens from
  unfolding keyword_start
  makes_worded command is = makes_by_start (λ others part end o. o) (λ others same. split command others (same ∙ is))
    where
      split :
          (which : Bool) (others : List Token) → start_at others from ≡ cond which starts.Command starts.Lookup
          → Splits worded (λ (parts : Identifier × List Parameter). worded (which, parts)) (λ (parts : Identifier × List Parameter). (which, parts)) others from
      split true others begins (true, parts) end o = (parts, refl, o)
      split false others begins (false, parts) end o = (parts, refl, o)
      split true others begins (false, parts) end o = let s = start_keyword others from words.Lookup o.1.0 in absurd cc
      split false others begins (true, parts) end o = let s = start_keyword others from words.Command o.1.0 in absurd cc

  pub no_word :
      (start_at tokens from ≡ starts.Command → ⊥) → (start_at tokens from ≡ starts.Lookup → ⊥) → (others : List Token)
      → start_at others from ≡ start_at tokens from → (tree : Bool × (Identifier × List Parameter)) (end : ℕ) → worded tree others from end → ⊥
  unfolding keyword_start
  no_word no_command no_lookup others same (true, parts) end o = no_command (sym same ∙ start_keyword others from words.Command o.1.0)
  no_word no_command no_lookup others same (false, parts) end o = no_lookup (sym same ∙ start_keyword others from words.Lookup o.1.0)

  pub makes_command :
      start_at tokens from ≡ starts.Command
      → Makes declaration (behind (kinds.Keyword words.Command) signature)
      (λ (parts : Identifier × List Parameter). Command None parts.0 parts.1) tokens from
  makes_command is = makes_by_start (λ others part end o. (from, refl, o)) (λ others same. split others (same ∙ is))
    where
      split :
          (others : List Token) → start_at others from ≡ starts.Command
          → Splits declaration (behind (kinds.Keyword words.Command) signature) (λ (parts : Identifier × List Parameter). Command None parts.0 parts.1) others from
      split others begins (Command None name parts) end o =
          ((name, parts), refl, subst (λ (p : ℕ). behind (kinds.Keyword words.Command) signature (name, parts) others p end) o.1 o.2)
      split others begins (Command (Some other) name parts) end o = let s = (type_starts other others from o.0 o.1).0 in absurd cc
      split others begins (Lookup other name parts) end o = let s = (type_starts other others from o.0 o.1).0 in absurd cc

pub declaration_starts :
    (tree : DeclarationData) (tokens : List Token) (from end : ℕ) → declaration tree tokens from end → is_declaration (start_at tokens from) ≡ true
unfolding keyword_start
declaration_starts (Command None name parts) tokens from end o =
    ap is_declaration (start_keyword tokens from words.Command (subst (λ (p : ℕ). HasKind tokens p (kinds.Keyword words.Command)) o.1 o.2.1.0))
declaration_starts (Command (Some answer) name parts) tokens from end o = ap is_declaration (type_starts answer tokens from o.0 o.1).0
declaration_starts (Lookup answer name parts) tokens from end o = ap is_declaration (type_starts answer tokens from o.0 o.1).0

pub not_declaration :
    (start : Start) → (start ≡ starts.Command → ⊥) → ((of_type : TypeName) → start ≡ starts.Type of_type → ⊥) → is_declaration start ≡ false
not_declaration starts.Command no_command no_type = absurd (no_command refl)
not_declaration (starts.Type of_type) no_command no_type = absurd (no_type of_type refl)
not_declaration start no_command no_type = refl
