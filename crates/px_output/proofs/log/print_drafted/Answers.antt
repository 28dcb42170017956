use Rattle.std.proofs.Common.{◌≡◌, ℕ, List, [], ◌++◌, ap, subst, refl, ◌∙◌}
use Rattle.px_sem.specs.Stepper.{State}
use Rattle.px_sem.specs.Text.{trace, log_lines, standing_text}
use Rattle.px_sem.specs.World.{standing_of}
use Rattle.px_sem.specs.declared.standing.Standing.{Standing}
use Rattle.px_output.specs.Printing.{Prints}
use Rattle.px_output.specs.View.{view}
use Rattle.px_output.proofs.Drafted.{handed_out}
use Rattle.px_output.proofs.Logging.{prints_text, world_is}
use Rattle.px_output.proofs.log.print_drafted.Goals as goal

pub print_log-requires-clause-nothing : goal.print_log-requires-clause-nothing
print_log-requires-clause-nothing g c = ap (λ (s : State). s.pending) c.requires.runs.1

pub print_log-requires-clause-runs : goal.print_log-requires-clause-runs
print_log-requires-clause-runs g c = rw c.requires.runs.0 refl

pub returns-in-Some-clause-prints : goal.returns-in-Some-clause-prints
returns-in-Some-clause-prints g c =
    let now : State = g.S.Stepper.state c.args.stepper.now in
    let plan = now.nodes in
    let history = c.args.history.now in
    let log = c.args.log.now in
    let old = view g.H.Host c.args.host.now in
    let new = view g.H.Host c.print_gathered.new.host in
    let text : List ℕ = c.in-Some.trace.items in
    let held : text ≡ trace plan history =
    handed_out (λ v. v.items) c.into_text.result c.in-Some.trace c.args.draft (trace plan history) c.into_text.ensures c.in-Some.is c.requires.holds in
    prints_text plan history log old new [] [] c.print_gathered.result (rw c.requires.runs.0 refl)
    (λ world is.
    let stands : c.standing.result ≡ standing_of plan world =
    ◌∙◌ {b = standing_of plan now.world} c.standing.ensures (ap (standing_of plan) (world_is plan plan history now.world world refl c.requires.runs.0 is)) in
    subst (λ (t : List ℕ). Prints old [] new [] (t ++ (log_lines log ++ standing_text (standing_of plan world))) c.print_gathered.result) held
    (subst (λ (s : Standing). Prints old [] new [] (text ++ (log_lines log ++ standing_text s)) c.print_gathered.result) stands
    c.print_gathered.ensures.prints))
