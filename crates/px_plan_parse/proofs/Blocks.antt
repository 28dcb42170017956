-- What blocks consist of.
use Rattle.std.proofs.Common.{◌≡◌, ◌≢◌, ℕ, ◌+◌, ◌≤◌, ◌<◌, refl, sym, ap, subst, ◌∙◌, List, [], ◌∷◌, length, Option, Some, None, true, false, arith}
use Rattle.std.proofs.lemmas.Option.{none-some}
use Rattle.px_lex.specs.declared.keyword.Keyword.TheVariants as words
use Rattle.px_lex.specs.declared.sign.Sign.TheVariants as signs
use Rattle.px_lex.specs.declared.token.Token.{Token}
use Rattle.px_lex.specs.declared.token.TokenKind.{TokenKind}
use Rattle.px_lex.specs.declared.token.TokenKind.TheVariants as kinds
use Rattle.px_syntax.specs.declared.expr.Identifier.{Identifier}
use Rattle.px_syntax.specs.declared.fault.ParseFault.{ParseFault}
use Rattle.px_syntax.specs.declared.word.BlockForm.{BlockForm}
use Rattle.px_syntax.specs.declared.word.BlockForm.TheVariants as forms
use Rattle.px_syntax.specs.Block.{ItemData, BlockTree, Braces, Actions, NoActions, More, ActionTree, Labelled, BodyTree, Inner, Assign, CallInto, Call, Update, If, While, For, actions_in_turn}
use Rattle.px_syntax.specs.BlockGrammar.{action, block, body, each_action}
use Rattle.px_syntax.specs.Form.{Form, identifier, maybe, sign, ◌then◌, each}
use Rattle.px_expr_parse.proofs.Parts.{EndsWith, ends_word}
use Rattle.px_plan_parse.specs.declared.start.Start.{Start}
use Rattle.px_plan_parse.specs.declared.start.Start.TheVariants as starts
use Rattle.px_plan_parse.specs.Part.{Anything, IsLacking, IsPart}
use Rattle.px_plan_parse.specs.Start.{NoBranch, NoItem, NoListWord, is_action, is_branch, is_item, keyword_start, start_at}
use Rattle.px_plan_parse.specs.Tail.{closed_actions, every_item, head, list_word, written_form, test}
use Rattle.px_plan_parse.proofs.Parts.{Begins, HasKind, LacksKind, Makes, Splits, alone, before, behind, both, both_of, lack_alone, lack_behind, lack_made, lack_present, makes_by, part_absent, part_alone, part_behind, part_made, part_present, two}
use Rattle.px_plan_parse.proofs.Sorts as sorts
use Rattle.px_plan_parse.proofs.Sorts.{sort_of, tree_sort}
use Rattle.px_plan_parse.proofs.Starts.{HasStart, found, makes_by_start, not_so, start_brace, start_keyword, start_name, start_nothing, start_same, starts_so, token_of}

-- ---- labels

abbrev pub colon_label : Identifier → Form
colon_label part = identifier part then sign signs.Colon

pub label_starts : (others : List Token) (part : Identifier) (from end : ℕ) → colon_label part others from end → start_at others from ≡ starts.Name
label_starts others part from end o = start_name others from part.name o.1.1.0

-- ---- before the brace

pub form_starts : (form : BlockForm) (tokens : List Token) (from to : ℕ) → written_form form tokens from to
    → (start_at tokens from ≡ starts.Form form) × (to ≡ from + 1)
unfolding keyword_start
form_starts forms.Plain tokens from to o = absurd o
form_starts forms.NodeList tokens from to o = absurd o
form_starts form tokens from to o = (start_keyword tokens from _ o.0, o.1)

form_stands : (form : BlockForm) (tokens : List Token) (from : ℕ) → HasStart tokens from (starts.Form form) → written_form form tokens from (from + 1)
form_stands forms.Plain tokens from (found kind has is) = absurd is
form_stands forms.NodeList tokens from (found kind has is) = absurd is
form_stands form tokens from (found kind has is) = (has ∙ ap (λ (k : TokenKind). Some k) is, refl)

abbrev pub form_brace : BlockForm → Unit {0} → Form
form_brace form none = written_form form then sign signs.OpenBrace

module _ (tokens : List Token) (from : ℕ) where
  makes_form :
      (form : BlockForm) → start_at tokens from ≡ starts.Form form
      → Makes head (form_brace form) (λ (none : Unit {0}). Some form) tokens from
  makes_form form is = makes_by_start (λ others part end o. o) (λ others same. split others (same ∙ is))
    where
      split : (others : List Token) → start_at others from ≡ starts.Form form → Splits head (form_brace form) (λ (none : Unit {0}). Some form) others from
      split others begins None end o = let s = start_brace others from o.0 in absurd cc
      split others begins (Some other) end o =
          let s = (form_starts other others from o.0 o.1).0 in
          let same : other ≡ form = cc in
          (tt, ap (λ (f : BlockForm). Some f) same, subst (λ (f : BlockForm). form_brace f tt others from end) same o)

  makes_brace :
      ((form : BlockForm) → start_at tokens from ≡ starts.Form form → ⊥)
      → Makes head (alone (kinds.Sign signs.OpenBrace)) (λ (none : Unit {0}). None) tokens from
  makes_brace no_form = makes_by_start (λ others part end o. o) split
    where
      split :
          (others : List Token) → start_at others from ≡ start_at tokens from
          → Splits head (alone (kinds.Sign signs.OpenBrace)) (λ (none : Unit {0}). None) others from
      split others same None end o = (tt, refl, o)
      split others same (Some other) end o = absurd (no_form other (sym same ∙ (form_starts other others from o.0 o.1).0))

  module _ (form : BlockForm) (is : start_at tokens from ≡ starts.Form form) where
    ends_form : EndsWith (form_brace form) (alone (kinds.Sign signs.OpenBrace)) (λ (none : Unit {0}). none) tokens from (from + 1)
    ends_form =
        ends_word (written_form form) (alone (kinds.Sign signs.OpenBrace))
        (λ others same. form_stands form others from (token_of others from (starts.Form form) (start_same tokens others from same ∙ is) (λ e. cc)))
        (λ others end o. (form_starts form others from end o).1)

    pub part_form :
        from + 1 < length tokens → HasKind tokens (from + 1) (kinds.Sign signs.OpenBrace) → IsPart head Anything tokens from (Some form) (from + 2)
    part_form inside has = rw (two from) (part_made (makes_form form is) (part_made ends_form (part_alone inside has)))

    pub lack_form :
        {fault : ParseFault} → from + 1 ≤ length tokens → LacksKind tokens (from + 1) (kinds.Sign signs.OpenBrace) fault
        → IsLacking head Anything tokens from fault
    lack_form within lacks = lack_made (makes_form form is) (lack_made ends_form (lack_alone within lacks))

  module _ (no_form : (form : BlockForm) → start_at tokens from ≡ starts.Form form → ⊥) where
    pub part_brace : from < length tokens → HasKind tokens from (kinds.Sign signs.OpenBrace) → IsPart head Anything tokens from None (from + 1)
    part_brace inside has = part_made (makes_brace no_form) (part_alone inside has)

    pub lack_brace :
        {fault : ParseFault} → from ≤ length tokens → LacksKind tokens from (kinds.Sign signs.OpenBrace) fault → IsLacking head Anything tokens from fault
    lack_brace within lacks = lack_made (makes_brace no_form) (lack_alone within lacks)

-- ---- behind the items

-- the word that makes a block a list, and its colon
abbrev list_mark : Unit {0} → Form
list_mark = behind (kinds.Keyword words.NodeList) (alone (kinds.Sign signs.Colon))

abbrev marked_form : Option (Unit {0}) → BlockForm
marked_form None = forms.Plain
marked_form (Some none) = forms.NodeList

module _ (tokens : List Token) (from : ℕ) where
  pub list_given : (form : BlockForm) → from ≤ length tokens → IsPart (list_word (Some form)) NoListWord tokens from form from
  list_given form within =
      record {
        advances = omega arith;
        within = within;
        sole = λ others agree. record { spelled = (refl, refl); only = λ other end o next. (o.0, o.1) };
      }

  makes_mark : Makes (list_word None) (maybe list_mark) marked_form tokens from
  makes_mark = makes_by build (λ others same. split others)
    where
      build : (others : List Token) (part : Option (Unit {0})) (end : ℕ) → maybe list_mark part others from end → list_word None (marked_form part) others from end
      build others None end o = o
      build others (Some none) end o = o

      split : (others : List Token) → Splits (list_word None) (maybe list_mark) marked_form others from
      split others forms.Plain end o = (None, refl, o)
      split others forms.NodeList end o = (Some tt, refl, o)
      split others form end o = absurd o

  pub list_absent :
      from ≤ length tokens → (start_at tokens from ≡ starts.NodeList → ⊥) → IsPart (list_word None) NoListWord tokens from forms.Plain from
  unfolding keyword_start
  list_absent within none =
      part_made makes_mark (part_absent within
      (not_so tokens from list_mark starts.NodeList (λ others part place end o. start_keyword others place words.NodeList o.1.0) none))

  module _ (is : start_at tokens from ≡ starts.NodeList) (has : HasKind tokens from (kinds.Keyword words.NodeList)) where
    pub list_present :
        from + 1 < length tokens → HasKind tokens (from + 1) (kinds.Sign signs.Colon)
        → IsPart (list_word None) NoListWord tokens from forms.NodeList (from + 2)
    list_present inside colon =
        rw (two from) (part_made makes_mark (part_present (starts_so tokens from starts.NodeList is) (part_behind has (part_alone inside colon))))

    pub list_lacks :
        {fault : ParseFault} → from + 1 ≤ length tokens → LacksKind tokens (from + 1) (kinds.Sign signs.Colon) fault
        → IsLacking (list_word None) NoListWord tokens from fault
    list_lacks within lacks =
        lack_made makes_mark (lack_present (starts_so tokens from starts.NodeList is) (lack_behind has (lack_alone within lacks)))

-- ---- with what actions begin

-- a block begins with a form or a brace
pub block_sort : (tree : BlockTree) (tokens : List Token) (from end : ℕ) → block tree tokens from end → sort_of (start_at tokens from) ≡ Some sorts.Inner
block_sort (Braces forms.Plain items actions) tokens from end o =
    ap sort_of (start_brace tokens from (subst (λ (p : ℕ). HasKind tokens p (kinds.Sign signs.OpenBrace)) o.1 o.2.1.0))
block_sort (Braces forms.NodeList items actions) tokens from end o =
    ap sort_of (start_brace tokens from (subst (λ (p : ℕ). HasKind tokens p (kinds.Sign signs.OpenBrace)) o.1 o.2.1.0))
block_sort (Braces form items actions) tokens from end o = ap sort_of (form_starts form tokens from o.0 o.1).0

pub body_sort : (tree : BodyTree) (tokens : List Token) (from end : ℕ) → body tree tokens from end → sort_of (start_at tokens from) ≡ Some (tree_sort tree)
unfolding keyword_start
body_sort (Inner tree) tokens from end o = block_sort tree tokens from end o
body_sort (Assign written value) tokens from end o = ap sort_of (start_name tokens from written.name.name o.1.1.1.0)
body_sort (CallInto written parts) tokens from end o = ap sort_of (start_name tokens from written.name.name o.1.1.1.0)
body_sort (Call parts) tokens from end o = ap sort_of (start_name tokens from parts.name.name o.1.1.1.0)
body_sort (Update token pairs) tokens from end o = ap sort_of (start_keyword tokens from words.Update o.1.1.0)
body_sort (If first others last) tokens from end o = ap sort_of (start_keyword tokens from words.If o.1.0)
body_sort (While parts) tokens from end o = ap sort_of (start_keyword tokens from words.While o.1.0)
body_sort (For variable first test step parts) tokens from end o = ap sort_of (start_keyword tokens from words.For o.1.0)

sort_acts : (start : Start) → sort_of start ≢ None → (is_action start ≡ true) × (is_branch start ≡ false) × (is_item start ≡ false)
    × (start ≡ starts.NodeList → ⊥)
sort_acts starts.Name some = (refl, refl, refl, λ e. cc)
sort_acts (starts.Form form) some = (refl, refl, refl, λ e. cc)
sort_acts starts.Brace some = (refl, refl, refl, λ e. cc)
sort_acts starts.Update some = (refl, refl, refl, λ e. cc)
sort_acts starts.If some = (refl, refl, refl, λ e. cc)
sort_acts starts.While some = (refl, refl, refl, λ e. cc)
sort_acts starts.For some = (refl, refl, refl, λ e. cc)
sort_acts start some = absurd (some refl)

pub action_acts :
    (tree : ActionTree) (tokens : List Token) (from end : ℕ) → action tree tokens from end
    → (is_action (start_at tokens from) ≡ true) × (is_branch (start_at tokens from) ≡ false) × (is_item (start_at tokens from) ≡ false)
    × (start_at tokens from ≡ starts.NodeList → ⊥)
action_acts (Labelled None parts) tokens from end o =
    let there : body parts tokens from end = subst (λ (p : ℕ). body parts tokens p end) o.1 o.2 in
    sort_acts (start_at tokens from) (λ e. none-some (tree_sort parts) (sym e ∙ body_sort parts tokens from end there))
action_acts (Labelled (Some name) parts) tokens from end o =
    let s = start_name tokens from name.name o.1.1.1.0 in
    sort_acts (start_at tokens from) (λ e. none-some sorts.Named (sym e ∙ ap sort_of s))

-- ---- actions up to the brace

abbrev pub closed_list : List ActionTree → Form
closed_list = before (each action) (kinds.Sign signs.CloseBrace)

to_turn : (actions : List ActionTree) (tokens : List Token) (from to : ℕ) → each action actions tokens from to
    → each_action (actions_in_turn actions) tokens from to
to_turn [] tokens from to o = o
to_turn (first ∷ rest) tokens from to o = (o.0, o.1, to_turn rest tokens o.0 to o.2)

from_turn : (actions : Actions) (tokens : List Token) (from to : ℕ) → each_action actions tokens from to
    → (parts : List ActionTree) × (actions ≡ actions_in_turn parts) × each action parts tokens from to
from_turn NoActions tokens from to o = ([], refl, o)
from_turn (More first rest) tokens from to o =
    let r = from_turn rest tokens o.0 to o.2 in
    (first ∷ r.0, ap (λ (more : Actions). More first more) r.1, (o.0, o.1, r.2))

pub makes_actions : (tokens : List Token) (from : ℕ) → Makes closed_actions closed_list actions_in_turn tokens from
makes_actions tokens from =
    makes_by (λ others part end o. (o.0, to_turn part others from o.0 o.1, o.2))
    (λ others same tree end o. let r = from_turn tree others from o.0 o.1 in (r.0, r.1, (o.0, r.2, o.2)))

-- a brace that closes is none of these
pub brace_closes :
    (others : List Token) (place : ℕ) → HasKind others place (kinds.Sign signs.CloseBrace)
    → (is_action (start_at others place) ≡ false) × (is_branch (start_at others place) ≡ false) × (is_item (start_at others place) ≡ false)
    × (start_at others place ≡ starts.NodeList → ⊥)
brace_closes others place has =
    let s = start_nothing signs.CloseBrace (λ e. cc) others place has in
    (ap is_action s, ap is_branch s, ap is_item s, λ e. cc)

pub closing_no_branch : (others : List Token) (place : ℕ) → HasKind others place (kinds.Sign signs.CloseBrace) → NoBranch others place
closing_no_branch others place has = (brace_closes others place has).1

-- what closed actions begin with
pub actions_begin :
    (tree : Actions) (tokens : List Token) (from end : ℕ) → closed_actions tree tokens from end
    → (is_item (start_at tokens from) ≡ false) × (start_at tokens from ≡ starts.NodeList → ⊥)
actions_begin NoActions tokens from end o =
    let b = brace_closes tokens from (subst (λ (p : ℕ). HasKind tokens p (kinds.Sign signs.CloseBrace)) o.1 o.2.0) in (b.2, b.3)
actions_begin (More first rest) tokens from end o = let a = action_acts first tokens from o.1.0 o.1.1 in (a.2, a.3)

-- ---- the whole block

abbrev pub block_tail : Option BlockForm → List ItemData × (BlockForm × Actions) → Form
block_tail word = both every_item (both (list_word word) closed_actions)

abbrev pub block_build : Option BlockForm × (List ItemData × (BlockForm × Actions)) → BlockTree
block_build parts = Braces parts.1.1.0 parts.1.0 parts.1.1.1

pub list_begins : (word : Option BlockForm) → Begins (both (list_word word) closed_actions) Anything NoItem
unfolding keyword_start
list_begins (Some word) tokens (form, actions) from end o next =
    subst (λ (p : ℕ). NoItem tokens p) o.1.1 (actions_begin actions tokens o.0 end o.2).0
list_begins None tokens (forms.Plain, actions) from end o next =
    subst (λ (p : ℕ). NoItem tokens p) o.1 (actions_begin actions tokens o.0 end o.2).0
list_begins None tokens (forms.NodeList, actions) from end o next = ap is_item (start_keyword tokens from words.NodeList o.1.1.0)
list_begins None tokens (form, actions) from end o next = absurd o.1

pub actions_follow : Begins closed_actions Anything NoListWord
actions_follow tokens tree from end o next = (actions_begin tree tokens from end o).1

pub makes_block : (tokens : List Token) (from : ℕ) → Makes block (both_of head block_tail) block_build tokens from
makes_block tokens from = makes_by build (λ others same. split others)
  where
    written :
        (others : List Token) (form : BlockForm) (items : List ItemData) (actions : Actions) (end : ℕ)
        → both_of head block_tail (Some form, (items, (form, actions))) others from end → block (Braces form items actions) others from end
    written others forms.Plain items actions end o = absurd o.1.1
    written others forms.NodeList items actions end o = absurd o.1.1
    written others form items actions end o = (o.1.0, o.1.1, (o.0, o.1.2, (o.2.0, o.2.1, (o.2.2.0, o.2.2.1.1, o.2.2.2))))

    build :
        (others : List Token) (parts : Option BlockForm × (List ItemData × (BlockForm × Actions))) (end : ℕ)
        → both_of head block_tail parts others from end → block (block_build parts) others from end
    build others (Some word, (items, (form, actions))) end o =
        let same : form ≡ word = o.2.2.1.0 in
        written others form items actions end
        (subst (λ (w : BlockForm). both_of head block_tail (Some w, (items, (form, actions))) others from end) (sym same) o)
    build others (None, (items, (forms.Plain, actions))) end o = (from, refl, (o.0, o.1, (o.2.0, o.2.1, (o.2.2.0, o.2.2.1, o.2.2.2))))
    build others (None, (items, (forms.NodeList, actions))) end o = (from, refl, (o.0, o.1, (o.2.0, o.2.1, (o.2.2.0, o.2.2.1, o.2.2.2))))
    build others (None, (items, (form, actions))) end o = absurd o.2.2.1

    split : (others : List Token) → Splits block (both_of head block_tail) block_build others from
    split others (Braces forms.Plain items actions) end o = (
      (None, (items, (forms.Plain, actions))),
      refl,
      (
        o.2.0,
        subst (λ (p : ℕ). sign signs.OpenBrace others p o.2.0) o.1 o.2.1,
        (o.2.2.0, o.2.2.1, (o.2.2.2.0, o.2.2.2.1, o.2.2.2.2)),
      ),
    )
    split others (Braces forms.NodeList items actions) end o = (
      (None, (items, (forms.NodeList, actions))),
      refl,
      (
        o.2.0,
        subst (λ (p : ℕ). sign signs.OpenBrace others p o.2.0) o.1 o.2.1,
        (o.2.2.0, o.2.2.1, (o.2.2.2.0, o.2.2.2.1, o.2.2.2.2)),
      ),
    )
    split others (Braces form items actions) end o = (
      (Some form, (items, (form, actions))),
      refl,
      (o.2.0, (o.0, o.1, o.2.1), (o.2.2.0, o.2.2.1, (o.2.2.2.0, (refl, o.2.2.2.1), o.2.2.2.2))),
    )
