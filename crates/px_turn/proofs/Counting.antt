-- A seat looks at the count.
use Rattle.std.proofs.Common.{rules, ◌≡◌, ℕ, List, length, set, get_or, refl, sym, ap, ◌∙◌, subst, arith, length-set}
use mathlib.Core.Option.{none}
use Rattle.atomic_table.specs.Table.{step, keeps, Allows}
use Rattle.px_turn.specs.declared.view.View.{View}
use Rattle.px_turn.specs.Histories.{AreMade}
use Rattle.px_turn.specs.Views.{with_known}
use Rattle.px_turn.specs.Rule.{waiting, Fits, IsRuled, words_of}
use Rattle.px_turn.specs.Steps.{Sat, counted}
use Rattle.px_turn.proofs.Fronts.{front_length}
use Rattle.px_turn.proofs.Seating.{each_set, waiting_same, tickets_same, numbered_same, longest_set, no_turn_before}

module _ {T I : Type 0} (list : T → List I) (goes_on : T → T → Type 0) (key : T) where
  pub counts : (slots id : ℕ) (me : Sat T I)
      → Allows (IsRuled list goes_on key) slots id me 2 (λ n. n) (counted (step slots 2 0 0 none) me)
  counts slots id me s ruled long at small =
      let found : get_or s.words 2 0 ≡ length ruled.history = ap (λ ws. get_or ws 2 0) ruled.words in
      let w : View T I = with_known (get_or s.words 2 0) me.0 in
      let fits = ruled.each id me.0 at in
      let wait : waiting (set s.views id w) ≡ waiting s.views = waiting_same s.views id me.0 w at refl in
      let seen = front_length me.0.seen ruled.history fits.seen in
      let known = fits.known in (
        w,
        keeps,
        tt,
        record {
          history = ruled.history;
          later = ruled.later;
          served = ruled.served;
          words = ap (λ ws. set ws 2 (get_or ws 2 0)) ruled.words
              ∙ ap (λ n. words_of ruled.served n (length ruled.history)) (sym wait);
          few = ruled.few;
          tickets = tickets_same ruled.served s.views id me.0 w at refl ruled.tickets;
          numbered = numbered_same s.views id me.0 w at refl refl refl refl ruled.numbered;
          each = each_set (Fits key ruled.history ruled.served) s.views id w
              (search rules)
              (λ j u apart there. ruled.each j u there);
          longest = longest_set ruled.history s.views id me.0 w at (λ is. is) ruled.longest;
          at_home = λ none_has.
              let home = ruled.at_home (no_turn_before s.views id me.0 w at (λ is. is) none_has) in search rules;
          begins = ruled.begins;
          makers = subst (λ n. AreMade n ruled.later) (sym (length-set s.views id w)) ruled.makers;
        },
        (refl, omega arith, omega arith),
      )
