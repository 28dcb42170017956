-- What makes a script fit.
use Rattle.std.specs.Prelude.{ℕ, Bool, true, ◌&&◌, ◌^◌, nat_le, nat_lt, List, [], ◌∷◌, length, map, IsTrue}
use Rattle.std.specs.List.{list_all}
use Rattle.px_event.specs.Fit.{is_fit_event}
use Rattle.px_event.specs.Names.{are_names}
use Rattle.px_script.specs.declared.line.Line.{Line}
use Rattle.px_script.specs.declared.line.What.{What}
use Rattle.px_script.specs.declared.line.What.TheVariants as whats
use Rattle.px_script.specs.declared.script.Script.{Script}
use Rattle.px_script.specs.ThreadLine.{is_thread}

-- each number is above the one before it, and the first above the given one
abbrev pub rise_above : ℕ → List ℕ → Bool
rise_above low [] = true
rise_above low (number ∷ numbers) = nat_lt low number && rise_above number numbers

-- the number is below 2^32, and what the line posts is fit
abbrev pub is_fit_line : Line → Bool
is_fit_line line = nat_lt line.number (2 ^ 32) && is_fit_what line.what
  where
    is_fit_what : What → Bool
    is_fit_what (whats.Post event) = is_fit_event event
    is_fit_what (whats.Wait cond) = true

-- 1 to 100,000 lines, by rising number from 1 on, each fit
abbrev pub are_fit_lines : List Line → Bool
are_fit_lines lines =
    nat_le 1 (length lines) && nat_le (length lines) 100000 && rise_above 0 (map (λ line. line.number) lines)
    && list_all is_fit_line lines

-- threads from 1 to 8, by rising number, each with fit lines; and names of such threads, each an identifier of at most 64
-- bytes and of a thread of its own
pub record IsFitScript (script : Script) : Type 0 where
  pub rising : IsTrue (rise_above 0 (map (λ todo. todo.thread) script.threads))
  pub within : IsTrue (list_all (λ todo. nat_le todo.thread 8) script.threads)
  pub lines : IsTrue (list_all (λ todo. are_fit_lines todo.lines) script.threads)
  pub names : IsTrue (are_names script.names)
  pub named : IsTrue (list_all (λ row. is_thread row.thread) script.names)
