-- `==` of values, events and entries answers whether they are equal.
use denote.Enum.Declared.{Declared}
use denote.Enum.Bare.{Bare, sameb, same_true, true_same}
use Rattle.std.specs.Prelude.{◌≡◌, refl}
use Rattle.std.specs.Bool.{Decides}
use Rattle.std.specs.Cmp.{booleans_Decides}
use Rattle.std.specs.Cmp.Lexicographic.{bytes_decides, pointwise_decides}
use Rattle.std.proofs.Common.{ap, rules}
use Rattle.std.proofs.lemmas.Bool.Decides.{Decides-int_eq, Decides-like, Decides-and, Decides-eqb}
use Rattle.px_value.specs.contracts.enums.NodeState.{the_type as state_type}
use Rattle.px_value.specs.contracts.enums.Outcome.{the_type as outcome_type}
use Rattle.px_value.specs.contracts.enums.Failure.{the_type as failure_type}
use Rattle.px_value.specs.contracts.enums.Handle.{the_type as handle_type}
use Rattle.px_value.specs.declared.value.Value.{Value}
use Rattle.px_value.specs.declared.value.Value.TheVariants as values
use Rattle.px_event.specs.Values.{value_eq}
use Rattle.px_event.specs.Equality.{event_eq, entry_eq}
use Rattle.px_event.specs.declared.event.Event.{Event}
use Rattle.px_event.specs.declared.event.Event.TheVariants as events
use Rattle.px_event.specs.declared.entry.Entry.{Entry}

-- of an enum without fields
pub bare_eq-decides : (D : Declared) → Bare D.parts → (a b : D.D) → Decides (sameb D a b) (a ≡ b)
bare_eq-decides D bare a b = (same_true D bare a b, true_same D a b)

pub value_eq-decides : (a b : Value) → Decides (value_eq a b) (a ≡ b)
value_eq-decides values.Unknown values.Unknown = (λ _. refl, λ _. refl)
value_eq-decides (values.Boolean a) (values.Boolean b) = Decides-like _ (ap values.Boolean) (λ e. cc) (booleans_Decides a b)
value_eq-decides (values.Integer a) (values.Integer b) = Decides-like _ (ap values.Integer) (λ e. cc) (Decides-int_eq a b)
value_eq-decides (values.Text a) (values.Text b) = Decides-like _ (ap values.Text) (λ e. cc) (bytes_decides a b)
value_eq-decides (values.State a) (values.State b) =
    Decides-like _ (ap values.State) (λ e. cc) (bare_eq-decides state_type (search rules) a b)
value_eq-decides (values.Outcome a) (values.Outcome b) =
    Decides-like _ (ap values.Outcome) (λ e. cc) (bare_eq-decides outcome_type (search rules) a b)
value_eq-decides (values.Failure a) (values.Failure b) =
    Decides-like _ (ap values.Failure) (λ e. cc) (bare_eq-decides failure_type (search rules) a b)
value_eq-decides (values.Handle a) (values.Handle b) =
    Decides-like _ (ap values.Handle) (λ e. cc) (bare_eq-decides handle_type (search rules) a b)
value_eq-decides a b = (λ e. cc, λ e. cc)

pub event_eq-decides : (a b : Event) → Decides (event_eq a b) (a ≡ b)
event_eq-decides (events.Report n a v) (events.Report m b w) =
    Decides-like _ (λ e. cc (e.0, e.1.0, e.1.1)) (λ e. (cc, (cc, cc)))
    (Decides-and _ _ (bytes_decides n m) (Decides-and _ _ (pointwise_decides value_eq-decides a b) (value_eq-decides v w)))
event_eq-decides (events.Handle n h) (events.Handle m k) =
    Decides-like _ (λ e. cc (e.0, e.1)) (λ e. (cc, cc))
    (Decides-and _ _ (bytes_decides n m) (bare_eq-decides handle_type (search rules) h k))
event_eq-decides (events.Return n v) (events.Return m w) =
    Decides-like _ (λ e. cc (e.0, e.1)) (λ e. (cc, cc)) (Decides-and _ _ (bytes_decides n m) (value_eq-decides v w))
event_eq-decides (events.AbortDone n) (events.AbortDone m) =
    Decides-like _ (ap events.AbortDone) (λ e. cc) (bytes_decides n m)
event_eq-decides (events.Acknowledged n) (events.Acknowledged m) =
    Decides-like _ (ap events.Acknowledged) (λ e. cc) (bytes_decides n m)
event_eq-decides a b = (λ e. cc, λ e. cc)

pub entry_eq-decides : (a b : Entry) → Decides (entry_eq a b) (a ≡ b)
entry_eq-decides a b =
    Decides-like _ (λ e i. record { thread = e.0 i; line = e.1.0 i; event = e.1.1 i })
    (λ e. (ap (λ (x : Entry). x.thread) e, (ap (λ (x : Entry). x.line) e, ap (λ (x : Entry). x.event) e)))
    (Decides-and _ _ (Decides-eqb a.thread b.thread)
    (Decides-and _ _ (Decides-eqb a.line b.line) (event_eq-decides a.event b.event)))
