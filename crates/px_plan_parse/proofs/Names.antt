-- What stands behind a name: a command, an assignment, the pairs of an update.
use Rattle.std.proofs.Common.{◌≡◌, ℕ, ◌+◌, ◌≤◌, ◌<◌, inl, inr, refl, sym, ap, subst, ◌∙◌, List, [], ◌∷◌, Option, Some, None, arith, lit≤}
use Rattle.px_lex.specs.declared.sign.Sign.{Sign}
use Rattle.px_lex.specs.declared.sign.Sign.TheVariants as signs
use Rattle.px_lex.specs.declared.token.Token.{Token}
use Rattle.px_lex.specs.declared.token.TokenKind.TheVariants as kinds
use Rattle.px_syntax.specs.declared.expr.Identifier.{Identifier}
use Rattle.px_syntax.specs.declared.fault.ParseFault.{ParseFault}
use Rattle.px_syntax.specs.declared.fault.ParseFault.TheVariants as faults
use Rattle.px_syntax.specs.Block.{CallData, PairData}
use Rattle.px_syntax.specs.BlockGrammar.{pair}
use Rattle.px_syntax.specs.Expr.{Term, Terms, Variable}
use Rattle.px_syntax.specs.ExprGrammar.{expression}
use Rattle.px_syntax.specs.Form.{Form, identifier, kind_at, optional, sign, ◌then◌}
use Rattle.px_expr_parse.specs.Verdict.{Agree, IsFound, IsMissing, IsRefused}
use Rattle.px_expr_parse.proofs.Closed.{closer_ends}
use Rattle.px_expr_parse.proofs.Calls.{inside_of, no_value}
use Rattle.px_expr_parse.proofs.Completions.{begun_as, moved}
use Rattle.px_expr_parse.proofs.Spans.{local_identifier}
use Rattle.px_plan_parse.specs.Named.{Calls, Writes, WrittenData, Value, Answer, called, named, optional_index, written}
use Rattle.px_plan_parse.specs.Part.{Follow, Anything, Ended, IsLacking, IsPart, IsSole, Lacks}
use Rattle.px_plan_parse.specs.Tail.{closed_pairs, Unless}
use Rattle.px_plan_parse.proofs.Commas.{Separates}
use Rattle.px_plan_parse.proofs.Parts.{Begins, HasKind, Makes, Splits, before, behind, both, lack_memory, makes_by}
use Rattle.px_plan_parse.proofs.Spans.{local_pair}
use Rattle.px_expr_parse.proofs.Parts.{EndsWith, agree_before}

-- ---- signs that follow

pub not_unless :
    (tokens : List Token) (from : ℕ) (which : Sign) → HasKind tokens from (kinds.Sign which) → (others : List Token) → Agree tokens others from
    → Unless which others from → ⊥
not_unless tokens from which has others agree none = none (agree from (omega arith) ∙ has)

pub semicolon_ends : (others : List Token) (place : ℕ) → HasKind others place (kinds.Sign signs.Semicolon) → Ended others place
semicolon_ends others place has goes_on = closer_ends others place signs.Semicolon refl has goes_on

pub pairs_separate : Separates pair Ended signs.Semicolon
pairs_separate =
    record {
      no_comma = λ e. cc;
      comma_follows = λ others place has goes_on. closer_ends others place signs.Comma refl has goes_on;
      close_follows = semicolon_ends;
      local = local_pair;
    }

-- ---- a command, or a value

module _ (tokens : List Token) (from : ℕ) where
  -- a name by itself is an expression, so a fault is behind it
  pub later :
      (name : List ℕ) → HasKind tokens from (kinds.Identifier name) → (token : ℕ) → IsRefused 0 tokens from (faults.SyntaxFault token)
      → from + 1 ≤ token
  later name has token refused =
      (refused.2 tokens (λ place le. refl) (Variable (record { name = name; token = from })) (from + 1)
      (0, λ z. lit≤ tt, (refl, (has, refl)))).0

  -- where a name stands none is missing
  pub name_missing :
      (name : List ℕ) → HasKind tokens from (kinds.Identifier name) → (fault : ParseFault) → IsMissing identifier tokens from fault
      → {A : Type 0} (form : A → Form) (Last : Follow) → IsLacking form Last tokens from fault
  name_missing name has (faults.SyntaxFault token) missing form Last =
      absurd (missing.2 tokens (λ place le. refl) (record { name = name; token = from }) (from + 1) (refl, (has, refl)))
  name_missing name has (faults.Deep token) missing form Last = absurd missing
  name_missing name has faults.NoMemory missing form Last = lack_memory

  -- what a command returns
  pub ends_answer :
      (name : Identifier) → IsFound identifier tokens from name (from + 1) → HasKind tokens (from + 1) (kinds.Sign signs.OpenParen)
      → EndsWith written called (λ (args : Terms). Answer (record { name = name; args = args })) tokens from (from + 1)
  ends_answer name found paren =
      record {
        begins = omega arith;
        builds = λ others agree args end o. (
          o.0,
          (from + 1, moved tokens (local_identifier name) (λ others agree. (found.only others agree).spelled) others agree, o.1),
          o.2,
        );
        splits = splits;
      }
    where
      splits :
          (others : List Token) → Agree tokens others (from + 1) → (other : WrittenData) (end : ℕ) → written other others from end
          → (args : Terms) × (other ≡ Answer (record { name = name; args = args })) × called args others (from + 1) end
      splits others agree (Value tree) end o =
          let name_there = (found.only others agree).spelled in
          let there : HasKind others (from + 1) (kinds.Sign signs.OpenParen) = agree (from + 1) (omega arith) ∙ paren in
          absurd (no_value others from name.name name_there.1.0 (omega (arith, inside_of others (from + 1) (kinds.Sign signs.OpenParen) there)) there tree o.0 o.1 o.2.0)
      splits others agree (Answer parts) end (middle, (place, named_is, rest), semicolon) =
          let is = (found.only others agree).only parts.name place named_is in (
            parts.args,
            ap (λ (n : Identifier). Answer (record { name = n; args = parts.args })) is.0,
            subst (λ (p : ℕ). called parts.args others p end) is.1 (middle, rest, semicolon),
          )

  -- what has no parenthesis behind its name
  module _ (no_call : (name : List ℕ) → HasKind tokens from (kinds.Identifier name) → HasKind tokens (from + 1) (kinds.Sign signs.OpenParen) → ⊥) where
    not_answer :
        (others : List Token) → Agree tokens others (from + 1) → (parts : CallData) (end : ℕ)
        → written (Answer parts) others from end → ⊥
    not_answer others agree parts end (middle, (place, named_is, rest), semicolon) =
        no_call parts.name.name (sym (agree from (omega arith)) ∙ named_is.1.0)
        (sym (agree (from + 1) (omega arith)) ∙ subst (λ (p : ℕ). HasKind others p (kinds.Sign signs.OpenParen)) named_is.1.1 rest.1.0)

    pub part_value :
        (tree : Term) (to : ℕ) → from < to → IsPart (before expression (kinds.Sign signs.Semicolon)) Anything tokens from tree to
        → IsPart written Anything tokens from (Value tree) to
    part_value tree to further f =
        record {
          advances = f.advances;
          within = f.within;
          sole = λ others agree.
              let one = f.sole others agree in
              record {
                spelled = one.spelled;
                only = λ other end o next. only others (agree_before tokens others (from + 1) to (omega (arith, further)) agree) one other end o;
              };
        }
      where
        only :
            (others : List Token) → Agree tokens others (from + 1)
            → IsSole (before expression (kinds.Sign signs.Semicolon)) Anything others from tree to → (other : WrittenData) (end : ℕ)
            → written other others from end → (other ≡ Value tree) × (end ≡ to)
        only others agree one (Value other) end o =
            let is = one.only other end o tt in (ap (λ (t : Term). Value t) is.0, is.1)
        only others agree one (Answer parts) end o = absurd (not_answer others agree parts end o)

    pub lack_value :
        (fault : ParseFault)
        → ((token : ℕ) → fault ≡ faults.SyntaxFault token → (name : List ℕ) → HasKind tokens from (kinds.Identifier name) → from + 1 ≤ token)
        → IsLacking (before expression (kinds.Sign signs.Semicolon)) Anything tokens from fault
        → IsLacking written Anything tokens from fault
    lack_value fault behind_name f =
        record {
          named = λ token is.
              let l = f.named token is in
              record {
                reached = l.reached;
                within = l.within;
                begun = begun_as l.begun (λ others agree end tree o. (Value tree, o));
                none = λ others agree. none others token (behind_name token is) l agree;
              };
          shallow = f.shallow;
        }
      where
        none :
            (others : List Token) (token : ℕ)
            → ((name : List ℕ) → HasKind tokens from (kinds.Identifier name) → from + 1 ≤ token)
            → Lacks (before expression (kinds.Sign signs.Semicolon)) Anything tokens from token → Agree tokens others token
            → (other : WrittenData) (end : ℕ) → written other others from end → Anything others end → ⊥
        none others token further l agree (Value other) end o next = l.none others agree other end o tt
        none others token further l agree (Answer parts) end o next =
            let has : HasKind tokens from (kinds.Identifier parts.name.name) = sym (agree from l.reached) ∙ o.1.1.1.0 in
            not_answer others (agree_before tokens others (from + 1) token (further parts.name.name has) agree) parts end o

-- ---- behind a name

module _ (tokens : List Token) (from : ℕ) where
  pub makes_call :
      HasKind tokens from (kinds.Sign signs.OpenParen) → Makes named called (λ (args : Terms). Calls args) tokens from
  makes_call paren = makes_by (λ others part end o. o) (λ others same. split others (same ∙ paren))
    where
      split : (others : List Token) → HasKind others from (kinds.Sign signs.OpenParen) → Splits named called (λ (args : Terms). Calls args) others from
      split others there (Calls args) end o = (args, refl, o)
      split others there (Writes None value) end o =
          let assign : HasKind others from (kinds.Sign signs.Assign) = subst (λ (p : ℕ). HasKind others p (kinds.Sign signs.Assign)) o.1 o.2.1.0 in
          absurd cc
      split others there (Writes (Some index) value) end o = let bracket = o.1.1.0 in absurd cc

  pub makes_assignment :
      (HasKind tokens from (kinds.Sign signs.OpenParen) → ⊥)
      → Makes named (both optional_index (behind (kinds.Sign signs.Assign) written))
      (λ (parts : Option Term × WrittenData). Writes parts.0 parts.1) tokens from
  makes_assignment no_paren = makes_by (λ others part end o. o) (λ others same. split others (sym same))
    where
      split :
          (others : List Token) → kind_at tokens from ≡ kind_at others from
          → Splits named (both optional_index (behind (kinds.Sign signs.Assign) written)) (λ (parts : Option Term × WrittenData). Writes parts.0 parts.1) others from
      split others same (Calls args) end o = absurd (no_paren (same ∙ o.1.1.0))
      split others same (Writes index value) end o = ((index, value), refl, o)

pub assign_begins : Begins (behind (kinds.Sign signs.Assign) written) Anything (Unless signs.OpenBracket)
assign_begins tokens part from end o next = λ has. let h = o.1.0 in cc

-- ---- updates

pub makes_pair :
    (tokens : List Token) (from : ℕ)
    → Makes pair (both identifier (behind (kinds.Sign signs.Assign) expression))
    (λ (parts : Identifier × Term). record { name = parts.0; value = parts.1 }) tokens from
makes_pair tokens from = makes_by (λ others part end o. o) (λ others same tree end o. ((tree.name, tree.value), refl, o))

pub no_colon_pairs : (others : List Token) (from : ℕ) → HasKind others from (kinds.Sign signs.Colon) → (pairs : List PairData) (end : ℕ)
    → closed_pairs pairs others from end → ⊥
no_colon_pairs others from colon [] end o = o.1
no_colon_pairs others from colon (first ∷ rest) end o = let h = o.1.1.1.1.0 in cc

-- an optional colon before what never begins with one
abbrev pub with_colon : {A : Type 0} → (A → Form) → A → Form
with_colon form part = optional (sign signs.Colon) then form part

module _ {A : Type 0} (form : A → Form)
    (no_colon : (others : List Token) (from : ℕ) → HasKind others from (kinds.Sign signs.Colon) → (part : A) (end : ℕ) → form part others from end → ⊥)
    (tokens : List Token) (from : ℕ)
  where
    pub makes_without_colon : (HasKind tokens from (kinds.Sign signs.Colon) → ⊥) → Makes (with_colon form) form (λ (part : A). part) tokens from
    makes_without_colon none = makes_by (λ others part end o. (from, inl refl, o)) (λ others same. split others (sym same))
      where
        split : (others : List Token) → kind_at tokens from ≡ kind_at others from → Splits (with_colon form) form (λ (part : A). part) others from
        split others same tree end (place, inl nothing_is, o) = (tree, refl, subst (λ (p : ℕ). form tree others p end) nothing_is o)
        split others same tree end (place, inr colon, o) = absurd (none (same ∙ colon.0))

    pub makes_with_colon :
        HasKind tokens from (kinds.Sign signs.Colon) → Makes (with_colon form) (behind (kinds.Sign signs.Colon) form) (λ (part : A). part) tokens from
    makes_with_colon colon = makes_by (λ others part end o. (o.0, inr o.1, o.2)) (λ others same. split others (same ∙ colon))
      where
        split :
            (others : List Token) → HasKind others from (kinds.Sign signs.Colon)
            → Splits (with_colon form) (behind (kinds.Sign signs.Colon) form) (λ (part : A). part) others from
        split others there tree end (place, inl nothing_is, o) =
            absurd (no_colon others from there tree end (subst (λ (p : ℕ). form tree others p end) nothing_is o))
        split others there tree end (place, inr given, o) = (tree, refl, (place, given, o))
