-- What a fit script has at each of its threads.
use Rattle.std.proofs.Common.{◌≡◌, ◌≢◌, ℕ, zero, suc, ◌+◌, ◌^◌, ◌<◌, ◌≤◌, true, List, [], ◌∷◌, length, map, get_or, sym, subst, arith, inl, inr}
use Rattle.std.specs.Prelude.{nat_lt, nat_le}
use Rattle.std.specs.List.{list_all, sum_by}
use Rattle.std.proofs.lemmas.Bool.{and_parts, leb-true, ltb-true, cases_lt}
use Rattle.std.proofs.lemmas.List.{length-map, get_or-map}
use Rattle.std.proofs.lemmas.List.Sums.{sum_by-le, AllPass-from_list_all}
use Rattle.std.proofs.lemmas.List.Sorted.{IsPermutation-refl}
use Rattle.px_event.specs.Fit.{is_fit_entry}
use Rattle.px_script.specs.Fit.{rise_above, are_fit_lines, IsFitScript}
use Rattle.px_flat.proofs.Known.{part_passes}
use Rattle.px_script.specs.Order.{thread_entries, all_entries}
use Rattle.px_script.specs.declared.script.Script.{Script}
use Rattle.px_script.specs.declared.todo.Todo.{Todo}
use Rattle.px_script.proofs.Orders.{entries_fit}
use Rattle.px_script.proofs.Remainders.{fit_parts}

-- ---- what each thread posts is fit

fit_thread : (script : Script) (i : ℕ) (d : Todo) → IsFitScript script → i < length script.threads
    → list_all is_fit_entry (thread_entries (get_or script.threads i d)) ≡ true
fit_thread script i d fit within =
    part_passes is_fit_entry thread_entries script.threads i d
    (entries_fit script (all_entries script.threads) fit (IsPermutation-refl (all_entries script.threads))) within

-- ---- the threads differ

rises : (low : ℕ) (numbers : List ℕ) (k : ℕ) → rise_above low numbers ≡ true → k < length numbers → low < get_or numbers k 0
rises low [] k rising within = absurd (omega arith)
rises low (number ∷ numbers) zero rising within = ltb-true low number (and_parts (nat_lt low number) (rise_above number numbers) rising).0
rises low (number ∷ numbers) (suc k) rising within =
    let parts = and_parts (nat_lt low number) (rise_above number numbers) rising in
    omega (arith, ltb-true low number parts.0, rises number numbers k parts.1 (omega arith))

ordered : (low : ℕ) (numbers : List ℕ) (i j : ℕ) → rise_above low numbers ≡ true → i < j → j < length numbers → get_or numbers i 0 < get_or numbers j 0
ordered low [] i j rising order within = absurd (omega arith)
ordered low (number ∷ numbers) i zero rising order within = absurd (omega arith)
ordered low (number ∷ numbers) zero (suc j) rising order within =
    rises number numbers j (and_parts (nat_lt low number) (rise_above number numbers) rising).1 (omega arith)
ordered low (number ∷ numbers) (suc i) (suc j) rising order within =
    ordered number numbers i j (and_parts (nat_lt low number) (rise_above number numbers) rising).1 (omega arith) (omega arith)

thread_of : Todo → ℕ
thread_of todo = todo.thread

pub threads_differ : (script : Script) (i j : ℕ) (d e : Todo) → IsFitScript script → i < length script.threads → j < length script.threads → j ≢ i
    → (get_or script.threads i d).thread ≢ (get_or script.threads j e).thread
unfolding thread_of
threads_differ script i j d e fit in_i in_j differ same =
    let numbers = map thread_of script.threads in
    let long : length numbers ≡ length script.threads = length-map script.threads thread_of in
    let at_i : get_or numbers i 0 ≡ (get_or script.threads i d).thread = get_or-map thread_of script.threads i d 0 in_i in
    let at_j : get_or numbers j 0 ≡ (get_or script.threads j e).thread = get_or-map thread_of script.threads j e 0 in_j in
    elim (cases_lt i j) [
      | inl less ↦ omega (arith, at_i, at_j, same, ordered 0 numbers i j fit.rising less (omega arith))
      | inr more ↦ omega (arith, at_i, at_j, same, ordered 0 numbers j i fit.rising (omega arith) (omega arith))
    ]

-- ---- there are at most eight, with at most 100,000 lines each

rise_within : (low : ℕ) (threads : List Todo) → rise_above low (map (λ todo. todo.thread) threads) ≡ true → list_all (λ todo. nat_le todo.thread 8) threads ≡ true
    → low ≤ 8 → low + length threads ≤ 8
rise_within low [] rising within least = omega arith
rise_within low (todo ∷ threads) rising within least =
    let rises = and_parts (nat_lt low todo.thread) (rise_above todo.thread (map (λ todo. todo.thread) threads)) rising in
    let below = and_parts (nat_le todo.thread 8) (list_all (λ todo. nat_le todo.thread 8) threads) within in
    let most : todo.thread ≤ 8 = leb-true todo.thread 8 below.0 in
    omega (arith, ltb-true low todo.thread rises.0, rise_within todo.thread threads rises.1 below.1 most)

pub few_threads : (script : Script) → IsFitScript script → length script.threads ≤ 8
few_threads script fit = omega (arith, rise_within 0 script.threads fit.rising fit.within (omega arith))

pub few_lines : (script : Script) (i : ℕ) (d : Todo) → IsFitScript script → i < length script.threads → length (get_or script.threads i d).lines ≤ 100000
few_lines script i d fit within =
    (fit_parts (get_or script.threads i d).lines
    (AllPass-from_list_all (λ (todo : Todo). are_fit_lines todo.lines) script.threads fit.lines i d within)).few

pub counts_fit : (script : Script) → IsFitScript script → sum_by (λ (todo : Todo). length todo.lines) script.threads < 2 ^ 64
counts_fit script fit =
    omega (
      arith,
      few_threads script fit,
      sum_by-le (λ (todo : Todo). length todo.lines) 100000 script.threads (λ i d within. few_lines script i d fit within),
    )

-- ---- one of the threads

pub record OneOf (script : Script) (i : ℕ) (todo : Todo) : Type 0 where
  pub within : i < length script.threads
  pub is : todo ≡ get_or script.threads i todo

pub one_of_script : (script : Script) (threads : List Todo) (i : ℕ) (todo : Todo) → threads ≡ script.threads → i < length threads → todo ≡ get_or threads i todo
    → OneOf script i todo
one_of_script script threads i todo same within is = record {
  within = subst (λ (threads : List Todo). i < length threads) same within;
  is = subst (λ (threads : List Todo). todo ≡ get_or threads i todo) same is;
}

pub fit_one : (script : Script) (i : ℕ) (todo : Todo) → IsFitScript script → OneOf script i todo → list_all is_fit_entry (thread_entries todo) ≡ true
fit_one script i todo fit one =
    subst (λ (t : Todo). list_all is_fit_entry (thread_entries t) ≡ true) (sym one.is) (fit_thread script i todo fit one.within)
