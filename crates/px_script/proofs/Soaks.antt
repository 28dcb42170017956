-- The script of `soak` is fit.
use Rattle.std.proofs.Common.{◌≡◌, ℕ, zero, suc, ◌+◌, ◌^◌, ◌<◌, ◌≤◌, Bool, true, false, List, [], ◌∷◌, ◌++◌, Some, length, map, refl, sym, ap, ◌∙◌, subst, arith}
use Rattle.std.specs.Prelude.{nat_lt}
use Rattle.std.specs.List.{list_all, range_with_len, slice_get}
use Rattle.std.proofs.lemmas.Bool.{lt-ltb, and_from, and_parts}
use Rattle.std.proofs.lemmas.List.FromFn.{length-map-range_with_len, map-range_with_len_more}
use Rattle.std.proofs.lemmas.List.Sums.{AllPass-from_list_all}
use Rattle.std.proofs.lemmas.Option.{get_or_from_slice_get, slice_get_within}
use Rattle.px_value.proofs.General.{list_all-filter}
use Rattle.px_core.specs.Plan.{Site}
use Rattle.px_event.specs.declared.entry.Entry.{Entry}
use Rattle.px_sem.specs.Log.{Log}
use Rattle.px_script.specs.Fit.{rise_above, is_fit_line, are_fit_lines, IsFitScript}
use Rattle.px_script.specs.Follows.{StandsAt, Stops, AreStalled}
use Rattle.px_script.specs.Remainder.{last_line, lines_above, left_of, has_a_line, rest}
use Rattle.px_script.specs.Soak.{soak_level, soak_line, soak_lines, soak_threads}
use Rattle.px_script.specs.declared.line.Line.{Line}
use Rattle.px_script.specs.declared.line.What.{What}
use Rattle.px_script.specs.declared.line.What.TheVariants as whats
use Rattle.px_script.specs.declared.script.Script.{Script}
use Rattle.px_script.specs.declared.stall.Stall.{Stall}
use Rattle.px_script.specs.declared.todo.Todo.{Todo}
use Rattle.px_script.proofs.Remainders.{fit_from}

-- one line more
pub lines_more : (seed n : ℕ) (lines : List Line) → lines ≡ map (soak_line seed) (range_with_len 1 n)
    → lines ++ soak_line seed (n + 1) ∷ [] ≡ map (soak_line seed) (range_with_len 1 (n + 1))
lines_more seed n lines is =
    ap (λ l. l ++ soak_line seed (n + 1) ∷ []) is ∙ sym (map-range_with_len_more (soak_line seed) 1 n (n + 1) (omega arith))

-- ---- the numbers rise, and each line is fit

rises : (seed low from count : ℕ) → low < from → rise_above low (map (λ (line : Line). line.number) (map (soak_line seed) (range_with_len from count))) ≡ true
rises seed low from zero above = refl
rises seed low from (suc count) above =
    and_from (nat_lt low from) (rise_above from (map (λ (line : Line). line.number) (map (soak_line seed) (range_with_len (from + 1) count))))
    (lt-ltb low from above) (rises seed from (from + 1) count (omega arith))

line_fit : (seed k : ℕ) → k ≤ 100000 → is_fit_line (soak_line seed k) ≡ true
line_fit seed k small =
    let low : soak_level seed k < 2 ^ 31 = omega (arith, small) in
    and_from (nat_lt k (2 ^ 32)) (nat_lt (soak_level seed k) (2 ^ 31)) (lt-ltb k (2 ^ 32) (omega (arith, small))) (lt-ltb (soak_level seed k) (2 ^ 31) low)

each_fit : (seed from count : ℕ) → from + count ≤ 100001 → list_all is_fit_line (map (soak_line seed) (range_with_len from count)) ≡ true
each_fit seed from zero within = refl
each_fit seed from (suc count) within =
    and_from (is_fit_line (soak_line seed from)) (list_all is_fit_line (map (soak_line seed) (range_with_len (from + 1) count)))
    (line_fit seed from (omega (arith, within))) (each_fit seed (from + 1) count (omega (arith, within)))

lines_fit : (count seed : ℕ) → 1 ≤ count → count ≤ 100000 → are_fit_lines (soak_lines count seed) ≡ true
lines_fit count seed some few =
    let long : length (soak_lines count seed) ≡ count = length-map-range_with_len (soak_line seed) 1 count in
    fit_from (soak_lines count seed)
    (record {
      some = omega (arith, long, some);
      few = omega (arith, long, few);
      rising = rises seed 0 1 count (omega arith);
      fit = each_fit seed 1 count (omega (arith, few));
    })

pub script_fit : (script : Script) (count seed : ℕ) → script.threads ≡ soak_threads count seed → script.names ≡ [] → 1 ≤ count → count ≤ 100000
    → IsFitScript script
script_fit script count seed is unnamed some few = record {
  rising = rw is refl;
  within = rw is refl;
  lines = rw is (and_from (are_fit_lines (soak_lines count seed)) true (lines_fit count seed some few) refl);
  names = rw unnamed refl;
  named = rw unnamed refl;
}

-- ---- no thread of it waits

abbrev is_post : Line → Bool
is_post line = by line.what
  where
    by : What → Bool
    by (whats.Post event) = true
    by (whats.Wait cond) = false

each_posts : (seed from count : ℕ) → list_all is_post (map (soak_line seed) (range_with_len from count)) ≡ true
each_posts seed from zero = refl
each_posts seed from (suc count) = each_posts seed (from + 1) count

post_at : (lines : List Line) (k : ℕ) (line : Line) → list_all is_post lines ≡ true → slice_get lines k ≡ Some line → is_post line ≡ true
post_at lines k line all is =
    subst (λ l. is_post l ≡ true) (get_or_from_slice_get lines k line line is)
    (AllPass-from_list_all is_post lines all k line (slice_get_within lines k line is))

module _ (plan : List Site) (first : List Entry) (log : Log) where
  never_stands : (todo : Todo) (stall : Stall) → list_all is_post todo.lines ≡ true → StandsAt plan first log todo stall → ⊥
  never_stands todo stall all stands = let posts : false ≡ true = post_at todo.lines stands.count _ all stands.line in cc

  none_stands : (threads : List Todo) (stalls : List Stall) → list_all (λ (todo : Todo). list_all is_post todo.lines) threads ≡ true
      → Stops plan first log threads stalls → stalls ≡ []
  none_stands _ _ all Stops.none = refl
  none_stands _ _ all (Stops.through todo threads stalls through more) =
      none_stands threads stalls (and_parts (list_all is_post todo.lines) (list_all (λ (t : Todo). list_all is_post t.lines) threads) all).1 more
  none_stands _ _ all (Stops.stands todo threads stall stalls stands more) =
      absurd (never_stands todo stall (and_parts (list_all is_post todo.lines) (list_all (λ (t : Todo). list_all is_post t.lines) threads) all).0 stands)

  pub soak_never_stalls : (count seed : ℕ) (stalls : List Stall) → AreStalled plan first log (rest (soak_threads count seed) []) stalls → ⊥
  soak_never_stalls count seed stalls stalled =
      let left : List Line = lines_above (last_line 1 []) (soak_lines count seed) in
      let posts : list_all is_post left ≡ true =
      list_all-filter is_post (λ line. nat_lt (last_line 1 []) line.number) (soak_lines count seed) (each_posts seed 1 count) in
      stalled.some_left
      (none_stands (rest (soak_threads count seed) []) stalls
      (list_all-filter (λ (todo : Todo). list_all is_post todo.lines) has_a_line (map (left_of []) (soak_threads count seed))
      (and_from (list_all is_post left) true posts refl)) stalled.stops)
