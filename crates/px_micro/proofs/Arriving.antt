-- The cells and the act of a node after the turns of all that go.
use Rattle.std.proofs.Common.{◌≡◌, ◌≢◌, ℕ, ◌+◌, ◌<◌, false, List, length, set, fold, nat_eq, refl, sym, ◌∙◌, subst, arith, All, AllPairs}
use Rattle.std.specs.List.{find}
use Rattle.std.proofs.lemmas.Bool.{eqb-true, eqb-false}
use Rattle.std.proofs.lemmas.Grind.{common_steps}
use Rattle.std.proofs.lemmas.List.{get_or-set_same, get_or-set_other, length-set}
use Rattle.px_value.specs.declared.value.Value.{Value}
use Rattle.px_value.specs.declared.value.Value.TheVariants as values
use Rattle.px_core.specs.Plan.{Site}
use Rattle.px_sem.specs.Expressions.{outcome_value, failure_value}
use Rattle.px_flat.specs.declared.act.Act.{Act}
use Rattle.px_flat.specs.Layout.{all_cells, node_cell, state_cell, outcome_cell, failure_cell, handle_cell, acknowledgement_cell}
use Rattle.px_flat.specs.Numbered.{held}
use Rattle.px_flat.specs.Parts.{act_of}
use Rattle.px_command.proofs.Nodes.{elsewhere}
use Rattle.px_micro.specs.declared.effects.UnderWay.{UnderWay}
use Rattle.px_micro.specs.declared.effects.UnderWay.TheVariants as under_way
use Rattle.px_micro.specs.declared.turns.Turn.{Turn}
use Rattle.px_micro.specs.Moving.{with_said, arrived, with_turn, with_turn_act}
use Rattle.px_micro.specs.Turns.{act_then}
use Rattle.px_micro.proofs.Hits.{hit_by, fold_keeps, none_hit, one_hit, keys_apart}

-- ---- one turn

-- what the cells of a node hold, its variables apart
pub record Said : Type 0 where
  pub state : Value
  pub outcome : Value
  pub failure : Value
  pub handle : Value
  pub acknowledgement : Value

abbrev pub said_in : List Site → ℕ → List Value → Said
said_in plan node cells = record {
  state = held cells (state_cell plan node);
  outcome = held cells (outcome_cell plan node);
  failure = held cells (failure_cell plan node);
  handle = held cells (handle_cell plan node);
  acknowledgement = held cells (acknowledgement_cell plan node);
}

abbrev pub handle_after : UnderWay → Value → Value
handle_after (under_way.Begun act) old = values.Unknown
handle_after way old = old

abbrev pub acknowledgement_after : UnderWay → Value → Value
acknowledgement_after (under_way.Begun act) old = values.Boolean false
acknowledgement_after way old = old

abbrev pub said_after : Turn → Said → Said
said_after turn old = record {
  state = values.State turn.going.arrival.to;
  outcome = outcome_value turn.going.arrival.outcome;
  failure = failure_value turn.going.arrival.failure;
  handle = handle_after turn.under_way old.handle;
  acknowledgement = acknowledgement_after turn.under_way old.acknowledgement;
}

arrived_length : (plan : List Site) (cells : List Value) (turn : Turn) → length (arrived plan cells turn) ≡ length cells
arrived_length plan cells turn = grind (arith, common_steps, length-set)

said_length : (plan : List Site) (node : ℕ) (way : UnderWay) (cells : List Value)
    → length (with_said plan node way cells) ≡ length cells
said_length plan node under_way.Kept cells = refl
said_length plan node (under_way.Begun act) cells =
    length-set (set cells (handle_cell plan node) values.Unknown) (acknowledgement_cell plan node) (values.Boolean false)
    ∙ length-set cells (handle_cell plan node) values.Unknown
said_length plan node (under_way.Aborting index) cells = refl

pub turn_length : (plan : List Site) (cells : List Value) (turn : Turn) → length (with_turn plan cells turn) ≡ length cells
turn_length plan cells turn =
    said_length plan turn.going.node turn.under_way (arrived plan cells turn) ∙ arrived_length plan cells turn

pub turn_acts_length : (under : List Act) (turn : Turn) → length (with_turn_act under turn) ≡ length under
turn_acts_length under turn = grind (arith, common_steps, length-set)

-- a cell that is none of those that say where the node arrives
arrived_off : (plan : List Site) (cells : List Value) (turn : Turn) (cell : ℕ)
    → ((part : ℕ) → part < 3 → cell ≢ node_cell plan turn.going.node + part)
    → held (arrived plan cells turn) cell ≡ held cells cell
arrived_off plan cells turn cell apart =
    elsewhere (set (set cells s to) o outcome) f cell failure (apart 2 (omega arith))
    ∙ elsewhere (set cells s to) o cell outcome (apart 1 (omega arith))
    ∙ elsewhere cells s cell to (λ same. apart 0 (omega arith) (omega (arith, same)))
  where
    node : ℕ
    node = turn.going.node

    s : ℕ
    s = state_cell plan node

    o : ℕ
    o = outcome_cell plan node

    f : ℕ
    f = failure_cell plan node

    to : Value
    to = values.State turn.going.arrival.to

    outcome : Value
    outcome = outcome_value turn.going.arrival.outcome

    failure : Value
    failure = failure_value turn.going.arrival.failure

-- a cell that is none of those that say what was said of what the node has begun
said_off : (plan : List Site) (node : ℕ) (way : UnderWay) (cells : List Value) (cell : ℕ)
    → cell ≢ handle_cell plan node → cell ≢ acknowledgement_cell plan node
    → held (with_said plan node way cells) cell ≡ held cells cell
said_off plan node under_way.Kept cells cell handle acknowledgement = refl
said_off plan node (under_way.Begun act) cells cell handle acknowledgement =
    elsewhere (set cells (handle_cell plan node) values.Unknown) (acknowledgement_cell plan node) cell (values.Boolean false)
    acknowledgement
    ∙ elsewhere cells (handle_cell plan node) cell values.Unknown handle
said_off plan node (under_way.Aborting index) cells cell handle acknowledgement = refl

-- a cell that is none of the node's
pub turn_off : (plan : List Site) (cells : List Value) (turn : Turn) (cell : ℕ)
    → ((part : ℕ) → part < 5 → cell ≢ node_cell plan turn.going.node + part)
    → held (with_turn plan cells turn) cell ≡ held cells cell
turn_off plan cells turn cell apart =
    said_off plan turn.going.node turn.under_way (arrived plan cells turn) cell (apart 3 (omega arith)) (apart 4 (omega arith))
    ∙ arrived_off plan cells turn cell (λ part few. apart part (omega (arith, few)))

-- the node's own
said_now : (plan : List Site) (cells : List Value) (turn : Turn) → turn.going.node < length plan
    → length cells ≡ all_cells plan
    → said_in plan turn.going.node (with_turn plan cells turn) ≡ said_after turn (said_in plan turn.going.node cells)
said_now plan cells turn within all = λ i. record {
  state = (kept s (λ same. absurd (omega (arith, same))) (λ same. absurd (omega (arith, same))) ∙ state) i;
  outcome = (kept o (λ same. absurd (omega (arith, same))) (λ same. absurd (omega (arith, same))) ∙ outcome_is) i;
  failure = (kept f (λ same. absurd (omega (arith, same))) (λ same. absurd (omega (arith, same))) ∙ failure_is) i;
  handle = handle_is turn.under_way i;
  acknowledgement = acknowledgement_is turn.under_way i;
}
  where
    node : ℕ
    node = turn.going.node

    s : ℕ
    s = state_cell plan node

    o : ℕ
    o = outcome_cell plan node

    f : ℕ
    f = failure_cell plan node

    h : ℕ
    h = handle_cell plan node

    a : ℕ
    a = acknowledgement_cell plan node

    to : Value
    to = values.State turn.going.arrival.to

    outcome : Value
    outcome = outcome_value turn.going.arrival.outcome

    failure : Value
    failure = failure_value turn.going.arrival.failure

    one : List Value
    one = set cells s to

    two : List Value
    two = set one o outcome

    three : List Value
    three = set two f failure

    -- what was said of what it has begun changes no other cell
    kept : (cell : ℕ) → cell ≢ h → cell ≢ a → held (with_said plan node turn.under_way three) cell ≡ held three cell
    kept cell = said_off plan node turn.under_way three cell

    behind : (part : ℕ) → 2 < part → held three (node_cell plan node + part) ≡ held cells (node_cell plan node + part)
    behind part far =
        arrived_off plan cells turn (node_cell plan node + part) (λ other few same. absurd (omega (arith, far, few, same)))

    long : length three ≡ all_cells plan
    long = arrived_length plan cells turn ∙ all

    state : held three s ≡ to
    state =
        elsewhere two f s failure (λ same. absurd (omega (arith, same)))
        ∙ elsewhere one o s outcome (λ same. absurd (omega (arith, same)))
        ∙ get_or-set_same cells s to values.Unknown (omega (arith, all, within))

    outcome_is : held three o ≡ outcome
    outcome_is =
        elsewhere two f o failure (λ same. absurd (omega (arith, same)))
        ∙ get_or-set_same one o outcome values.Unknown (omega (arith, all, within, length-set cells s to))

    failure_is : held three f ≡ failure
    failure_is =
        get_or-set_same two f failure values.Unknown
        (omega (arith, all, within, length-set cells s to, length-set one o outcome))

    handle_is : (way : UnderWay) → held (with_said plan node way three) h ≡ handle_after way (held cells h)
    handle_is under_way.Kept = behind 3 (omega arith)
    handle_is (under_way.Begun act) =
        elsewhere (set three h values.Unknown) a h (values.Boolean false) (λ same. absurd (omega (arith, same)))
        ∙ get_or-set_same three h values.Unknown values.Unknown (omega (arith, long, within))
    handle_is (under_way.Aborting index) = behind 3 (omega arith)

    acknowledgement_is : (way : UnderWay) → held (with_said plan node way three) a ≡ acknowledgement_after way (held cells a)
    acknowledgement_is under_way.Kept = behind 4 (omega arith)
    acknowledgement_is (under_way.Begun act) =
        get_or-set_same (set three h values.Unknown) a (values.Boolean false) values.Unknown
        (omega (arith, long, within, length-set three h values.Unknown))
    acknowledgement_is (under_way.Aborting index) = behind 4 (omega arith)

-- another's
said_kept : (plan : List Site) (cells : List Value) (turn : Turn) (node : ℕ) → node ≢ turn.going.node
    → said_in plan node (with_turn plan cells turn) ≡ said_in plan node cells
said_kept plan cells turn node apart = λ i. record {
  state = turn_off plan cells turn (state_cell plan node) (λ part few same. apart (omega (arith, few, same))) i;
  outcome = turn_off plan cells turn (outcome_cell plan node) (λ part few same. apart (omega (arith, few, same))) i;
  failure = turn_off plan cells turn (failure_cell plan node) (λ part few same. apart (omega (arith, few, same))) i;
  handle = turn_off plan cells turn (handle_cell plan node) (λ part few same. apart (omega (arith, few, same))) i;
  acknowledgement =
      turn_off plan cells turn (acknowledgement_cell plan node) (λ part few same. apart (omega (arith, few, same))) i;
}

-- ---- all turns

abbrev pub AreWithin : List Site → List Turn → Type 0
AreWithin plan turns = All (λ turn. turn.going.node < length plan) turns

abbrev pub Rise : List Turn → Type 0
Rise turns = AllPairs (λ a b. a.going.node < b.going.node) turns

pub all_length : (plan : List Site) (turns : List Turn) (cells : List Value) → AreWithin plan turns
    → length cells ≡ all_cells plan → length (fold (with_turn plan) cells turns) ≡ all_cells plan
all_length plan turns cells within all =
    fold_keeps (with_turn plan) (λ cells. length cells ≡ all_cells plan) (λ turn. turn.going.node < length plan)
    (λ cells turn inside long. turn_length plan cells turn ∙ long) turns cells within all

pub all_acts_length : (plan : List Site) (turns : List Turn) (under : List Act) → AreWithin plan turns
    → length under ≡ length plan → length (fold with_turn_act under turns) ≡ length plan
all_acts_length plan turns under within all =
    fold_keeps with_turn_act (λ under. length under ≡ length plan) (λ turn. turn.going.node < length plan)
    (λ under turn inside long. turn_acts_length under turn ∙ long) turns under within all

-- a cell of variables
pub variable_stays : (plan : List Site) (turns : List Turn) (cells : List Value) (cell : ℕ) → AreWithin plan turns
    → length cells ≡ all_cells plan → cell < node_cell plan 0
    → held (fold (with_turn plan) cells turns) cell ≡ held cells cell
variable_stays plan turns cells cell within all small =
    none_hit (with_turn plan) (λ cells. held cells cell) (λ turn. false) (λ cells. length cells ≡ all_cells plan)
    (λ turn. turn.going.node < length plan)
    (λ cells turn inside long. turn_length plan cells turn ∙ long)
    (λ cells turn inside long other.
    turn_off plan cells turn cell (λ part few same. absurd (omega (arith, small, same))))
    turns cells within all (λ k d few. refl)

pub said_then : (plan : List Site) (turns : List Turn) (cells : List Value) (node : ℕ) → AreWithin plan turns → Rise turns
    → length cells ≡ all_cells plan
    → said_in plan node (fold (with_turn plan) cells turns)
    ≡ hit_by said_after (said_in plan node cells) (find (λ turn. nat_eq turn.going.node node) turns)
said_then plan turns cells node within rise all =
    one_hit (with_turn plan) (said_in plan node) (λ turn. nat_eq turn.going.node node)
    (λ cells. length cells ≡ all_cells plan) (λ turn. turn.going.node < length plan) said_after
    (λ cells turn inside long. turn_length plan cells turn ∙ long)
    (λ cells turn inside long other. said_kept plan cells turn node (λ same. eqb-false turn.going.node node other (sym same)))
    (λ cells turn inside long here.
    subst (λ node. said_in plan node (with_turn plan cells turn) ≡ said_after turn (said_in plan node cells))
    (eqb-true turn.going.node node here) (said_now plan cells turn inside long))
    turns cells within all (keys_apart (λ (turn : Turn). turn.going.node) turns node rise)

act_kept : (under : List Act) (turn : Turn) (node : ℕ) → node ≢ turn.going.node
    → act_of (with_turn_act under turn) node ≡ act_of under node
act_kept under turn node apart = grind (arith, common_steps, get_or-set_other)

act_now : (under : List Act) (turn : Turn) → turn.going.node < length under
    → act_of (with_turn_act under turn) turn.going.node ≡ act_then turn.under_way (act_of under turn.going.node)
act_now under turn within = grind (arith, common_steps, get_or-set_same)

pub acts_then : (plan : List Site) (turns : List Turn) (under : List Act) (node : ℕ) → AreWithin plan turns → Rise turns
    → length under ≡ length plan
    → act_of (fold with_turn_act under turns) node
    ≡ hit_by (λ turn. act_then turn.under_way) (act_of under node) (find (λ turn. nat_eq turn.going.node node) turns)
acts_then plan turns under node within rise all =
    one_hit with_turn_act (λ under. act_of under node) (λ turn. nat_eq turn.going.node node)
    (λ under. length under ≡ length plan) (λ turn. turn.going.node < length plan) (λ turn. act_then turn.under_way)
    (λ under turn inside long. turn_acts_length under turn ∙ long)
    (λ under turn inside long other. act_kept under turn node (λ same. eqb-false turn.going.node node other (sym same)))
    (λ under turn inside long here.
    subst (λ node. act_of (with_turn_act under turn) node ≡ act_then turn.under_way (act_of under node))
    (eqb-true turn.going.node node here) (act_now under turn (omega (arith, inside, long))))
    turns under within all (keys_apart (λ (turn : Turn). turn.going.node) turns node rise)
