-- What a torn write and a whole one leave below and above their range.
use Rattle.std.proofs.Common.{rules, ◌≡◌, ◌≤◌, ◌+◌, ℕ, List, ◌++◌, length, take, drop, refl, sym, ◌∙◌, ap, arith, append_assoc}
use Rattle.std.proofs.lemmas.List.{take_at, drop_at, drop-drop, length-drop, get_or-take, get_or-drop, length-take-le}
use Rattle.std.proofs.lemmas.Grind.{same_number_lists}
use Rattle.px_ports.specs.Moment.{Torn, overwritten}

module _ (at n : ℕ) (old new : List ℕ) (torn : Torn at n old new) where
  pub torn_below : at ≤ length old → take at new ≡ take at old
  torn_below fits =
      search (rules, length-take-le, same_number_lists, get_or-take)

  pub torn_length : at + n ≤ length old → length new ≡ length old
  torn_length fits = omega (arith, torn.no_shorter, torn.no_longer)

  pub torn_above : at + n ≤ length old → drop (at + n) new ≡ drop (at + n) old
  torn_above fits =
      search (rules, torn_length, same_number_lists, length-drop, get_or-drop)

module _ (at : ℕ) (bytes old : List ℕ) (fits : at ≤ length old) where
  whole : overwritten at bytes old ≡ take at old ++ (bytes ++ drop (at + length bytes) old)
  whole = append_assoc (take at old) bytes (drop (at + length bytes) old)

  pub written_below : take at (overwritten at bytes old) ≡ take at old
  written_below = ap (λ (l : List ℕ). take at l) whole ∙ take_at (take at old) (bytes ++ drop (at + length bytes) old) at (length-take-le at old fits)

  pub written_from : drop at (overwritten at bytes old) ≡ bytes ++ drop (at + length bytes) old
  written_from = ap (λ (l : List ℕ). drop at l) whole ∙ drop_at (take at old) (bytes ++ drop (at + length bytes) old) at (length-take-le at old fits)

  pub written_above : drop (at + length bytes) (overwritten at bytes old) ≡ drop (at + length bytes) old
  written_above =
      sym (drop-drop (length bytes) at (overwritten at bytes old)) ∙ ap (λ (l : List ℕ). drop (length bytes) l) written_from ∙ drop_at bytes (drop (at + length bytes) old) (length bytes) refl
