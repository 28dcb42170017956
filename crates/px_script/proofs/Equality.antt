-- `==` of scripts answers whether they are equal.
use Rattle.std.specs.Prelude.{◌≡◌, Bool}
use Rattle.std.specs.Bool.{Decides}
use Rattle.std.specs.Cmp.Lexicographic.{bytes_decides, pointwise_decides}
use Rattle.std.proofs.Common.{ap, rules}
use Rattle.std.proofs.lemmas.Bool.Decides.{Decides-like, Decides-and, Decides-eqb}
use Rattle.px_value.specs.contracts.enums.NodeState.{the_type as state_type}
use Rattle.px_event.specs.contracts.cond.CondPartialEq.TheImpl as cond_equality
use Rattle.px_event.specs.declared.cond.Cond.{Cond}
use Rattle.px_event.specs.declared.cond.Cond.TheVariants as conds
use Rattle.px_event.specs.Names.{is_same_row}
use Rattle.px_event.specs.declared.names.ThreadName.{ThreadName}
use Rattle.px_event.proofs.Equality.{bare_eq-decides, event_eq-decides}
use Rattle.px_script.specs.contracts.line.WhatPartialEq.TheImpl as what_equality
use Rattle.px_script.specs.declared.line.Line.{Line}
use Rattle.px_script.specs.declared.line.What.{What}
use Rattle.px_script.specs.declared.line.What.TheVariants as whats
use Rattle.px_script.specs.declared.todo.Todo.{Todo}
use Rattle.px_script.specs.declared.script.Script.{Script}
use Rattle.px_script.specs.Equality.{line_eq, todo_eq, script_eq}

abbrev cond_eq : Cond → Cond → Bool
cond_eq = (cond_equality.ghosts).eq

abbrev what_eq : What → What → Bool
what_eq = (what_equality.ghosts).eq

cond_eq-decides : (a b : Cond) → Decides (cond_eq a b) (a ≡ b)
cond_eq-decides (conds.State n s) (conds.State m t) =
    Decides-like _ (λ e. cc (e.0, e.1)) (λ e. (cc, cc))
    (Decides-and _ _ (bytes_decides n m) (bare_eq-decides state_type (search rules) s t))
cond_eq-decides (conds.Events n) (conds.Events m) = Decides-like _ (ap conds.Events) (λ e. cc) (Decides-eqb n m)
cond_eq-decides a b = (λ e. cc, λ e. cc)

what_eq-decides : (a b : What) → Decides (what_eq a b) (a ≡ b)
what_eq-decides (whats.Post a) (whats.Post b) = Decides-like _ (ap whats.Post) (λ e. cc) (event_eq-decides a b)
what_eq-decides (whats.Wait a) (whats.Wait b) = Decides-like _ (ap whats.Wait) (λ e. cc) (cond_eq-decides a b)
what_eq-decides a b = (λ e. cc, λ e. cc)

line_eq-decides : (a b : Line) → Decides (line_eq a b) (a ≡ b)
line_eq-decides a b =
    search (rules, Decides-like, Decides-and, Decides-eqb, what_eq-decides)

todo_eq-decides : (a b : Todo) → Decides (todo_eq a b) (a ≡ b)
todo_eq-decides a b =
    Decides-like _ (λ e i. record { thread = e.0 i; lines = e.1 i })
    (λ e. (ap (λ (x : Todo). x.thread) e, ap (λ (x : Todo). x.lines) e))
    (Decides-and _ _ (Decides-eqb a.thread b.thread) (pointwise_decides line_eq-decides a.lines b.lines))

row_eq-decides : (a b : ThreadName) → Decides (is_same_row a b) (a ≡ b)
row_eq-decides a b =
    search (rules, Decides-like, Decides-and, Decides-eqb)

pub script_eq-decides : (a b : Script) → Decides (script_eq a b) (a ≡ b)
script_eq-decides a b =
    Decides-like _ (λ e i. record { threads = e.0 i; names = e.1 i })
    (λ e. (ap (λ (x : Script). x.threads) e, ap (λ (x : Script). x.names) e))
    (Decides-and _ _ (pointwise_decides todo_eq-decides a.threads b.threads) (pointwise_decides row_eq-decides a.names b.names))
