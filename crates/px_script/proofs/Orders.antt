-- What a fit script posts is fit.
use Rattle.std.proofs.Common.{◌≡◌, ℕ, ◌^◌, ◌<◌, ◌≤◌, true, List, [], ◌∷◌, map, refl, ◌∙◌, arith}
use Rattle.std.specs.Prelude.{nat_le, nat_lt}
use Rattle.std.specs.List.{list_all, cons_option}
use Rattle.std.specs.List.Sorted.{IsPermutation}
use Rattle.std.proofs.lemmas.List.Folds.{list_all-append}
use Rattle.std.proofs.lemmas.List.Sorted.{All-permutation}
use Rattle.std.proofs.lemmas.List.Sums.{AllPass-from_list_all, list_all-from_AllPass}
use Rattle.std.proofs.lemmas.Bool.{le-leb, leb-true, ltb-true, and_parts}
use Rattle.px_event.specs.Fit.{is_fit_event, is_fit_entry}
use Rattle.px_event.specs.declared.entry.Entry.{Entry}
use Rattle.px_script.specs.Fit.{rise_above, is_fit_line, are_fit_lines, IsFitScript}
use Rattle.px_script.specs.Order.{entry_of, posts_of, thread_entries, all_entries}
use Rattle.px_script.specs.declared.line.Line.{Line}
use Rattle.px_script.specs.declared.line.What.{What}
use Rattle.px_script.specs.declared.line.What.TheVariants as whats
use Rattle.px_script.specs.declared.todo.Todo.{Todo}
use Rattle.px_script.specs.declared.script.Script.{Script}
use Rattle.px_script.proofs.Remainders.{fit_parts}
use Rattle.px_script.proofs.Walks.{line_at}

-- what one line posts, before other entries
post_fit : (thread number : ℕ) (what : What) (entries : List Entry) → 0 < thread → thread ≤ 8 → 0 < number → is_fit_line (line_at number what) ≡ true
    → list_all is_fit_entry entries ≡ true → list_all is_fit_entry (cons_option (entry_of thread (line_at number what)) entries) ≡ true
post_fit thread number (whats.Post event) entries above within numbered fit others =
    let parts = and_parts (nat_lt number (2 ^ 32)) (is_fit_event event) fit in
    rw (le-leb 1 thread (omega arith), le-leb thread 8 within, le-leb 1 number (omega arith), parts.0, parts.1, others)
post_fit thread number (whats.Wait cond) entries above within numbered fit others = others

-- what lines post
lines_fit : (thread low : ℕ) (lines : List Line) → 0 < thread → thread ≤ 8 → rise_above low (map (λ line. line.number) lines) ≡ true
    → list_all is_fit_line lines ≡ true → list_all is_fit_entry (posts_of thread lines) ≡ true
lines_fit thread low [] above within rising fit = refl
lines_fit thread low (line ∷ lines) above within rising fit =
    let rise = and_parts (nat_lt low line.number) (rise_above line.number (map (λ line. line.number) lines)) rising in
    let both = and_parts (is_fit_line line) (list_all is_fit_line lines) fit in
    post_fit thread line.number line.what (posts_of thread lines) above within (omega (arith, ltb-true low line.number rise.0)) both.0
    (lines_fit thread line.number lines above within rise.1 both.1)

-- what one thread posts
thread_fit : (todo : Todo) → 0 < todo.thread → todo.thread ≤ 8 → are_fit_lines todo.lines ≡ true → list_all is_fit_entry (thread_entries todo) ≡ true
thread_fit todo above within fit =
    let parts = fit_parts todo.lines fit in
    lines_fit todo.thread 0 todo.lines above within parts.rising parts.fit

-- what all threads post
threads_fit : (low : ℕ) (threads : List Todo) → rise_above low (map (λ todo. todo.thread) threads) ≡ true
    → list_all (λ todo. nat_le todo.thread 8) threads ≡ true → list_all (λ todo. are_fit_lines todo.lines) threads ≡ true
    → list_all is_fit_entry (all_entries threads) ≡ true
threads_fit low [] rising within fit = refl
threads_fit low (todo ∷ threads) rising within fit =
    let rise = and_parts (nat_lt low todo.thread) (rise_above todo.thread (map (λ todo. todo.thread) threads)) rising in
    let few = and_parts (nat_le todo.thread 8) (list_all (λ todo. nat_le todo.thread 8) threads) within in
    let both = and_parts (are_fit_lines todo.lines) (list_all (λ todo. are_fit_lines todo.lines) threads) fit in
    let first : list_all is_fit_entry (thread_entries todo) ≡ true
    = thread_fit todo (omega (arith, ltb-true low todo.thread rise.0)) (leb-true todo.thread 8 few.0) both.0 in
    list_all-append is_fit_entry (thread_entries todo) (all_entries threads)
    ∙ rw (first, threads_fit todo.thread threads rise.1 few.1 both.1)

-- the same in another order
pub entries_fit : (script : Script) (entries : List Entry) → IsFitScript script → IsPermutation (all_entries script.threads) entries
    → list_all is_fit_entry entries ≡ true
entries_fit script entries fit same =
    list_all-from_AllPass is_fit_entry entries
    (All-permutation (λ entry. is_fit_entry entry ≡ true) (all_entries script.threads) entries same
    (AllPass-from_list_all is_fit_entry (all_entries script.threads) (threads_fit 0 script.threads fit.rising fit.within fit.lines)))
