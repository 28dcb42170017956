-- What actions and branches consist of.
use Rattle.std.proofs.Common.{◌≡◌, ℕ, ℤ, ◌+◌, inl, inr, refl, sym, ap, subst, ◌∙◌, List, [], ◌∷◌, Option, Some, None, true, false, arith}
use Rattle.std.proofs.lemmas.Option.{none-some, same_Some}
use Rattle.px_lex.specs.declared.keyword.Keyword.TheVariants as words
use Rattle.px_lex.specs.declared.sign.Sign.TheVariants as signs
use Rattle.px_lex.specs.declared.token.Token.{Token}
use Rattle.px_lex.specs.declared.token.TokenKind.TheVariants as kinds
use Rattle.px_syntax.specs.declared.expr.Identifier.{Identifier}
use Rattle.px_syntax.specs.Block.{ActionTree, Labelled, BlockTree, BranchTree, Branch, GuardedTree, Guarded, ElseIfs, NoElseIfs, ElseIf, ElseTree, NoElse, Else, BodyTree, Inner, Assign, CallInto, Call, PairData, Update, If, While, For, else_ifs_in_turn, else_of}
use Rattle.px_syntax.specs.BlockGrammar.{action, block, body, branch, else_ifs, guarded, label, otherwise}
use Rattle.px_syntax.specs.Expr.{Term}
use Rattle.px_syntax.specs.Form.{Form, identifier, maybe, each}
use Rattle.px_expr_parse.specs.Tail.{closed}
use Rattle.px_expr_parse.specs.Verdict.{Agree, AgreeBefore, IsFound}
use Rattle.px_expr_parse.proofs.Completions.{before as before_late, moved}
use Rattle.px_expr_parse.proofs.Spans.{local_identifier}
use Rattle.px_expr_parse.proofs.Parts.{EndsWith, agree_before}
use Rattle.px_plan_parse.specs.declared.start.Start.{Start}
use Rattle.px_plan_parse.specs.declared.start.Start.TheVariants as starts
use Rattle.px_plan_parse.specs.Named.{NamedData, Calls, Writes, Value, Answer, named, named_body}
use Rattle.px_plan_parse.specs.Part.{Anything}
use Rattle.px_plan_parse.specs.Start.{NoBranch, NoElse as NotElse, NoElseIf as NotElseIf, NoName, is_branch, keyword_start, start_at}
use Rattle.px_plan_parse.specs.Tail.{closed_branch, counter, end_if, update_pairs, test}
use Rattle.px_plan_parse.proofs.Blocks.{block_sort, body_sort}
use Rattle.px_plan_parse.proofs.Parts.{Begins, HasKind, Joins, Makes, Splits, behind, both, makes_by}
use Rattle.px_plan_parse.proofs.Sorts as sorts
use Rattle.px_plan_parse.proofs.Sorts.{Sort, sort_of, tree_sort}
use Rattle.px_plan_parse.proofs.Starts.{makes_by_start, start_keyword, start_name}

-- ---- branches

pub block_no_name : Begins block Anything NoName
block_no_name tokens tree from end o next is =
    cc (sym (ap sort_of is) ∙ block_sort tree tokens from end o)

pub makes_branch :
    (tokens : List Token) (from : ℕ)
    → Makes branch (both label block) (λ (parts : Option Identifier × BlockTree). Branch parts.0 parts.1) tokens from
makes_branch tokens from = makes_by (λ others part end o. o) (λ others same. split others)
  where
    split : (others : List Token) → Splits branch (both label block) (λ (parts : Option Identifier × BlockTree). Branch parts.0 parts.1) others from
    split others (Branch name parts) end o = ((name, parts), refl, o)

abbrev pub test_and_branch : Term × BranchTree → Form
test_and_branch = behind (kinds.Sign signs.OpenParen) closed_branch

pub makes_guarded :
    (tokens : List Token) (from : ℕ)
    → Makes guarded test_and_branch (λ (parts : Term × BranchTree). Guarded parts.0 parts.1) tokens from
makes_guarded tokens from =
    makes_by (λ others part end o. (o.0, o.1, (o.2.1.0, o.2.1.1, (o.2.0, o.2.1.2, o.2.2)))) (λ others same. split others)
  where
    split : (others : List Token) → Splits guarded test_and_branch (λ (parts : Term × BranchTree). Guarded parts.0 parts.1) others from
    split others (Guarded test parts) end o =
        ((test, parts), refl, (o.0, o.1, (o.2.2.0, (o.2.0, o.2.1, o.2.2.1), o.2.2.2)))

-- ---- the branches of an if

abbrev pub one_else_if : GuardedTree → Form
one_else_if = behind (kinds.Keyword words.ElseIf) guarded

to_turn : (parts : List GuardedTree) (tokens : List Token) (from to : ℕ) → each one_else_if parts tokens from to
    → else_ifs (else_ifs_in_turn parts) tokens from to
to_turn [] tokens from to o = o
to_turn (first ∷ rest) tokens from to o = (o.1.0, o.1.1, (o.0, o.1.2, to_turn rest tokens o.0 to o.2))

from_turn : (tree : ElseIfs) (tokens : List Token) (from to : ℕ) → else_ifs tree tokens from to
    → (parts : List GuardedTree) × (tree ≡ else_ifs_in_turn parts) × each one_else_if parts tokens from to
from_turn NoElseIfs tokens from to o = ([], refl, o)
from_turn (ElseIf first rest) tokens from to o =
    let r = from_turn rest tokens o.2.0 to o.2.2 in
    (first ∷ r.0, ap (λ (more : ElseIfs). ElseIf first more) r.1, (o.2.0, (o.0, o.1, o.2.1), r.2))

pub makes_else_ifs : (tokens : List Token) (from : ℕ) → Makes else_ifs (each one_else_if) else_ifs_in_turn tokens from
makes_else_ifs tokens from =
    makes_by (λ others part end o. to_turn part others from end o) (λ others same tree end o. from_turn tree others from end o)

pub makes_otherwise :
    (tokens : List Token) (from : ℕ) → Makes otherwise (maybe (behind (kinds.Keyword words.Else) branch)) else_of tokens from
makes_otherwise tokens from = makes_by build (λ others same. split others)
  where
    build :
        (others : List Token) (part : Option BranchTree) (end : ℕ) → maybe (behind (kinds.Keyword words.Else) branch) part others from end
        → otherwise (else_of part) others from end
    build others None end o = o
    build others (Some part) end o = o

    split : (others : List Token) → Splits otherwise (maybe (behind (kinds.Keyword words.Else) branch)) else_of others from
    split others NoElse end o = (None, refl, o)
    split others (Else parts) end o = (Some parts, refl, o)

pub end_follows : Begins end_if NoBranch NotElse
unfolding keyword_start
end_follows tokens part from end (inl none) next is =
    let s : start_at tokens end ≡ starts.Else = ap (λ (p : ℕ). start_at tokens p) none ∙ is in
    let f : true ≡ false = sym (ap is_branch s) ∙ next in cc
end_follows tokens part from end (inr given) next is = let s = start_keyword tokens from words.EndIf given.0 in cc

pub else_follows : Begins (both otherwise end_if) NoBranch NotElseIf
unfolding keyword_start
else_follows tokens (NoElse, none) from end (middle, nothing_is, inl last) next is =
    let s : start_at tokens end ≡ starts.ElseIf = ap (λ (p : ℕ). start_at tokens p) (last ∙ nothing_is) ∙ is in
    let f : true ≡ false = sym (ap is_branch s) ∙ next in cc
else_follows tokens (NoElse, none) from end (middle, nothing_is, inr given) next is =
    let s = start_keyword tokens middle words.EndIf given.0 in
    let t : start_at tokens middle ≡ starts.ElseIf = ap (λ (p : ℕ). start_at tokens p) nothing_is ∙ is in cc
else_follows tokens (Else parts, none) from end (middle, given, last) next is = let s = start_keyword tokens from words.Else given.1.0 in cc

pub end_no_branch : (others : List Token) (place : ℕ) → HasKind others place (kinds.Keyword words.EndIf) → NoBranch others place → ⊥
unfolding keyword_start
end_no_branch others place has none = let f : true ≡ false = sym (ap is_branch (start_keyword others place words.EndIf has)) ∙ none in cc

-- ---- actions by their sorts

abbrev pub if_parts : GuardedTree × (ElseIfs × (ElseTree × Unit {0})) → Form
if_parts = behind (kinds.Keyword words.If) (both guarded (both else_ifs (both otherwise end_if)))

abbrev pub if_made : GuardedTree × (ElseIfs × (ElseTree × Unit {0})) → BodyTree
if_made parts = If parts.0 parts.1.0 parts.1.1.0

abbrev pub for_parts : (Identifier × ℤ) × (Term × (Term × BranchTree)) → Form
for_parts = behind (kinds.Keyword words.For) (both counter (both (closed signs.Semicolon) closed_branch))

abbrev pub for_made : (Identifier × ℤ) × (Term × (Term × BranchTree)) → BodyTree
for_made parts = For parts.0.0 parts.0.1 parts.1.0 parts.1.1.0 parts.1.1.1

-- each tree of a sort is made of parts of it
abbrev SplitsSort : {X : Type 0} → Sort → (X → Form) → (X → BodyTree) → List Token → ℕ → Type 0
SplitsSort sort parts made tokens from =
    (tree : BodyTree) (end : ℕ) → tree_sort tree ≡ sort → body tree tokens from end → (part : _) × (tree ≡ made part) × parts part tokens from end

module _ (tokens : List Token) (from : ℕ) where
  -- a body is made of the parts of its sort where each tree of that sort is
  makes_sort : {X : Type 0} (sort : Sort) (parts : X → Form) (made : X → BodyTree) → sort_of (start_at tokens from) ≡ Some sort
      → ((others : List Token) (part : X) (end : ℕ) → parts part others from end → body (made part) others from end)
      → ((others : List Token) → SplitsSort sort parts made others from) → Makes body parts made tokens from
  makes_sort sort parts made begins build split =
      makes_by_start build (λ others same tree end o.
      split others tree end (same_Some (tree_sort tree) sort (sym (body_sort tree others from end o) ∙ ap sort_of same ∙ begins)) o)

  pub makes_named :
      sort_of (start_at tokens from) ≡ Some sorts.Named
      → Makes body (both identifier named) (λ (parts : Identifier × NamedData). named_body parts.0 parts.1) tokens from
  makes_named begins =
      makes_sort sorts.Named (both identifier named) (λ (parts : Identifier × NamedData). named_body parts.0 parts.1) begins build split
    where
      build :
          (others : List Token) (parts : Identifier × NamedData) (end : ℕ) → both identifier named parts others from end
          → body (named_body parts.0 parts.1) others from end
      build others (name, Calls args) end o = (o.2.0, (o.0, o.1, o.2.1), o.2.2)
      build others (name, Writes index (Value value)) end o = (o.2.0, (o.0, o.1, o.2.1), o.2.2)
      build others (name, Writes index (Answer parts)) end o = (o.2.0, (o.0, o.1, o.2.1), o.2.2)

      split : (others : List Token) → SplitsSort sorts.Named (both identifier named) (λ (parts : Identifier × NamedData). named_body parts.0 parts.1) others from
      split others (Assign written value) end is o =
          ((written.name, Writes written.index (Value value)), refl, (o.1.0, o.1.1, (o.0, o.1.2, o.2)))
      split others (CallInto written parts) end is o =
          ((written.name, Writes written.index (Answer parts)), refl, (o.1.0, o.1.1, (o.0, o.1.2, o.2)))
      split others (Call parts) end is o = ((parts.name, Calls parts.args), refl, (o.1.0, o.1.1, (o.0, o.1.2, o.2)))
      split others tree end is o = absurd (cc)

  pub makes_inner : sort_of (start_at tokens from) ≡ Some sorts.Inner → Makes body block Inner tokens from
  makes_inner begins = makes_sort sorts.Inner block Inner begins (λ others part end o. o) split
    where
      split : (others : List Token) → SplitsSort sorts.Inner block Inner others from
      split others (Inner tree) end is o = (tree, refl, o)
      split others tree end is o = absurd (cc)

  pub makes_update :
      sort_of (start_at tokens from) ≡ Some sorts.Update
      → Makes body (behind (kinds.Keyword words.Update) update_pairs) (λ (pairs : List PairData). Update from pairs) tokens from
  makes_update begins =
      makes_sort sorts.Update (behind (kinds.Keyword words.Update) update_pairs) (λ (pairs : List PairData). Update from pairs) begins
      (λ others part end o. (o.0, (refl, o.1), o.2)) split
    where
      split :
          (others : List Token) → SplitsSort sorts.Update (behind (kinds.Keyword words.Update) update_pairs) (λ (pairs : List PairData). Update from pairs) others from
      split others (Update token pairs) end is o = (pairs, ap (λ (t : ℕ). Update t pairs) o.1.0, (o.0, o.1.1, o.2))
      split others tree end is o = absurd (cc)

  pub makes_if : sort_of (start_at tokens from) ≡ Some sorts.If → Makes body if_parts if_made tokens from
  makes_if begins = makes_sort sorts.If if_parts if_made begins (λ others part end o. o) split
    where
      split : (others : List Token) → SplitsSort sorts.If if_parts if_made others from
      split others (If first others_of last) end is o = ((first, (others_of, (last, tt))), refl, o)
      split others tree end is o = absurd (cc)

  pub makes_while :
      sort_of (start_at tokens from) ≡ Some sorts.While
      → Makes body (behind (kinds.Keyword words.While) guarded) While tokens from
  makes_while begins =
      makes_sort sorts.While (behind (kinds.Keyword words.While) guarded) While begins (λ others part end o. o) split
    where
      split : (others : List Token) → SplitsSort sorts.While (behind (kinds.Keyword words.While) guarded) While others from
      split others (While parts) end is o = (parts, refl, o)
      split others tree end is o = absurd (cc)

  pub makes_for : sort_of (start_at tokens from) ≡ Some sorts.For → Makes body for_parts for_made tokens from
  makes_for begins =
      makes_sort sorts.For for_parts for_made begins
      (λ others part end i. (i.0, i.1, (i.2.1.0, i.2.1.1, (i.2.1.2.0, i.2.1.2.1, (i.2.1.2.2.0, i.2.1.2.2.1, (i.2.1.2.2.2.0, i.2.1.2.2.2.1, (i.2.1.2.2.2.2.0, i.2.1.2.2.2.2.1, (i.2.0, i.2.1.2.2.2.2.2, (i.2.2.1.0, i.2.2.1.1, (i.2.2.0, i.2.2.1.2, (i.2.2.2.1.0, i.2.2.2.1.1, (i.2.2.2.0, i.2.2.2.1.2, i.2.2.2.2))))))))))))
      split
    where
      split : (others : List Token) → SplitsSort sorts.For for_parts for_made others from
      split others (For variable first test step parts) end is o =
          (((variable, first), (test, (step, parts))), refl, (o.0, o.1, (o.2.2.2.2.2.2.0, (o.2.0, o.2.1, (o.2.2.0, o.2.2.1, (o.2.2.2.0, o.2.2.2.1, (o.2.2.2.2.0, o.2.2.2.2.1, (o.2.2.2.2.2.0, o.2.2.2.2.2.1, o.2.2.2.2.2.2.1))))), (o.2.2.2.2.2.2.2.2.0, (o.2.2.2.2.2.2.2.0, o.2.2.2.2.2.2.2.1, o.2.2.2.2.2.2.2.2.1), (o.2.2.2.2.2.2.2.2.2.2.0, (o.2.2.2.2.2.2.2.2.2.0, o.2.2.2.2.2.2.2.2.2.1, o.2.2.2.2.2.2.2.2.2.2.1), o.2.2.2.2.2.2.2.2.2.2.2)))))
      split others tree end is o = absurd (cc)

  pub no_body :
      sort_of (start_at tokens from) ≡ None → (others : List Token) → start_at others from ≡ start_at tokens from → (tree : BodyTree) (end : ℕ)
      → body tree others from end → ⊥
  no_body none others same tree end o =
      none-some (tree_sort tree) (sym none ∙ ap sort_of (sym same) ∙ body_sort tree others from end o)

pub no_sort :
    (start : Start) → (start ≡ starts.Name → ⊥) → ((form : _) → start ≡ starts.Form form → ⊥) → (start ≡ starts.Brace → ⊥)
    → (start ≡ starts.Update → ⊥) → (start ≡ starts.If → ⊥) → (start ≡ starts.While → ⊥) → (start ≡ starts.For → ⊥) → sort_of start ≡ None
no_sort starts.Name n f b u i w r = absurd (n refl)
no_sort (starts.Form form) n f b u i w r = absurd (f form refl)
no_sort starts.Brace n f b u i w r = absurd (b refl)
no_sort starts.Update n f b u i w r = absurd (u refl)
no_sort starts.If n f b u i w r = absurd (i refl)
no_sort starts.While n f b u i w r = absurd (w refl)
no_sort starts.For n f b u i w r = absurd (r refl)
no_sort start n f b u i w r = refl

-- ---- labels of actions

module _ (tokens : List Token) (from : ℕ) where
  pub makes_unlabelled :
      (start_at tokens from ≡ starts.Name → ⊥) → Makes action body (λ (tree : BodyTree). Labelled None tree) tokens from
  makes_unlabelled no_name = makes_by_start (λ others part end o. (from, refl, o)) split
    where
      split :
          (others : List Token) → start_at others from ≡ start_at tokens from → Splits action body (λ (tree : BodyTree). Labelled None tree) others from
      split others same (Labelled None parts) end o = (parts, refl, subst (λ (p : ℕ). body parts others p end) o.1 o.2)
      split others same (Labelled (Some name) parts) end o =
          absurd (no_name (sym same ∙ start_name others from name.name o.1.1.1.0))

  module _ (name : Identifier) (found : IsFound identifier tokens from name (from + 1)) where
    name_is : (others : List Token) → Agree tokens others (from + 1) → start_at others from ≡ starts.Name
    name_is others agree = start_name others from name.name (found.only others agree).spelled.1.0

    -- the name in all tokens that agree
    name_there : (others : List Token) → AgreeBefore tokens others (from + 1) → identifier name others from (from + 1)
    name_there = moved tokens (local_identifier name) (λ others agree. (found.only others agree).spelled)

    -- an action without a label, by what is behind its name
    unlabelled :
        (others : List Token) → Agree tokens others (from + 1) → (parts : BodyTree) (end : ℕ) → body parts others from end
        → (inner : NamedData) × (parts ≡ named_body name inner) × named inner others (from + 1) end
    unlabelled others agree parts end o =
        let is = name_is others agree in
        let s = (makes_named others from (ap sort_of is)).splits others (λ place le. refl) parts end o in
        let same = (found.only others agree).only s.0.0 s.2.0 s.2.1 in (
          s.0.1,
          s.1 ∙ ap (λ (n : Identifier). named_body n s.0.1) same.0,
          subst (λ (p : ℕ). named s.0.1 others p end) same.1 s.2.2,
        )

    module _ (colon : HasKind tokens (from + 1) (kinds.Sign signs.Colon)) where
      no_named : (others : List Token) → HasKind others (from + 1) (kinds.Sign signs.Colon) → (inner : NamedData) (end : ℕ)
          → named inner others (from + 1) end → ⊥
      no_named others there (Calls args) end o = let h = o.1.1.0 in cc
      no_named others there (Writes None value) end o =
          let h : HasKind others (from + 1) (kinds.Sign signs.Assign) = subst (λ (p : ℕ). HasKind others p (kinds.Sign signs.Assign)) o.1 o.2.1.0 in cc
      no_named others there (Writes (Some index) value) end o = let h = o.1.1.0 in cc

      -- what stands behind the label
      labelled :
          (others : List Token) → Agree tokens others (from + 1) → (tree : ActionTree) (end : ℕ) → action tree others from end
          → (parts : BodyTree) × (tree ≡ Labelled (Some name) parts) × body parts others (from + 2) end
      labelled others agree (Labelled None parts) end o =
          let u = unlabelled others agree parts end (subst (λ (p : ℕ). body parts others p end) o.1 o.2) in
          absurd (no_named others (agree (from + 1) (omega arith) ∙ colon) u.0 end u.2)
      labelled others agree (Labelled (Some other) parts) end (middle, (place, named_is, colon_is), o) =
          let same = (found.only others agree).only other place named_is in
          let behind_colon : middle ≡ from + 2 = omega (arith, same.1, colon_is.1) in (
            parts,
            ap (λ (n : Identifier). Labelled (Some n) parts) same.0,
            subst (λ (p : ℕ). body parts others p end) behind_colon o,
          )

      pub ends_labelled : EndsWith action body (λ (parts : BodyTree). Labelled (Some name) parts) tokens from (from + 2)
      ends_labelled =
          record {
            begins = omega arith;
            builds = λ others agree parts end o. (
              from + 2,
              (
                from + 1,
                name_there others (before_late tokens others (from + 1) (from + 2) (omega arith) agree),
                (agree (from + 1) (omega arith) ∙ colon, omega arith),
              ),
              o,
            );
            splits = λ others agree. labelled others (agree_before tokens others (from + 1) (from + 2) (omega arith) agree);
          }

    module _ (no_colon : HasKind tokens (from + 1) (kinds.Sign signs.Colon) → ⊥) where
      plain :
          (others : List Token) → Agree tokens others (from + 1) → (tree : ActionTree) (end : ℕ) → action tree others from end
          → (inner : NamedData) × (tree ≡ Labelled None (named_body name inner)) × named inner others (from + 1) end
      plain others agree (Labelled None parts) end o =
          let u = unlabelled others agree parts end (subst (λ (p : ℕ). body parts others p end) o.1 o.2) in
          (u.0, ap (λ (b : BodyTree). Labelled None b) u.1, u.2)
      plain others agree (Labelled (Some other) parts) end (middle, (place, named_is, colon_is), o) =
          let same = (found.only others agree).only other place named_is in
          absurd (no_colon (sym (agree (from + 1) (omega arith)) ∙ subst (λ (p : ℕ). HasKind others p (kinds.Sign signs.Colon)) same.1 colon_is.0))

      pub joins_plain : Joins action named (λ (inner : NamedData). Labelled None (named_body name inner)) NoBranch Anything tokens from (from + 1)
      joins_plain =
          record {
            begins = omega arith;
            builds = λ others agree inner end o.
                let named_is = name_there others agree in (
                  from,
                  refl,
                  (makes_named others from (ap sort_of (start_name others from name.name named_is.1.0))).builds others (λ place inside. refl) (name, inner) end
                      (from + 1, named_is, o),
                );
            splits = λ others agree other end o last. let p = plain others agree other end o in (p.0, p.1, p.2, tt);
          }
