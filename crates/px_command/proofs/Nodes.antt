-- Parts that stand for a world of a plan still do where cells and acts are written. (This could as well stand in px_flat.)
use Rattle.std.proofs.Common.{◌≡◌, ◌≢◌, ℕ, ◌+◌, ◌<◌, true, List, length, set, ap, ◌∙◌, sym, subst, arith, inl, inr}
use Rattle.std.proofs.lemmas.Bool.Decides.{eqb_tells}
use Rattle.std.proofs.lemmas.Grind.{common_steps}
use Rattle.std.proofs.lemmas.List.{length-set, get_or-set_same, get_or-set_other}
use Rattle.px_value.specs.declared.value.Value.{Value}
use Rattle.px_value.specs.declared.value.Value.TheVariants as values
use Rattle.px_core.specs.Plan.{Site}
use Rattle.px_flat.specs.declared.act.Act.{Act}
use Rattle.px_flat.specs.declared.act.Act.TheVariants as under_way
use Rattle.px_flat.specs.Layout.{node_cell, state_cell, handle_cell, acknowledgement_cell, variable_cells}
use Rattle.px_flat.specs.Numbered.{held}
use Rattle.px_flat.specs.Parts.{IsParts, IsNode, act_of, fits, is_handle_of, is_acknowledgement_of}
use Rattle.px_flat.specs.Row.{site_in}

-- what a write of another cell leaves
pub elsewhere : (cells : List Value) (cell at : ℕ) (value : Value) → at ≢ cell → held (set cells cell value) at ≡ held cells at
elsewhere cells cell at value apart = get_or-set_other cells cell at value values.Unknown apart

-- of a node these cells and what is under way are as they were
node_same : (plan : List Site) (cells new_cells : List Value) (acts new_acts : List Act) (node : ℕ)
    → held new_cells (state_cell plan node) ≡ held cells (state_cell plan node)
    → ((part : ℕ) → 0 < part → part < 5
    → held new_cells (node_cell plan node + part) ≡ held cells (node_cell plan node + part))
    → act_of new_acts node ≡ act_of acts node → IsNode plan cells acts node → IsNode plan new_cells new_acts node
node_same plan cells new_cells acts new_acts node state part act is = grind (arith, common_steps)

-- a cell of a variable is written
pub variable_kept : (plan : List Site) (cells : List Value) (acts : List Act) (cell : ℕ) (value : Value)
    → cell < variable_cells plan → IsParts plan cells acts → IsParts plan (set cells cell value) acts
variable_kept plan cells acts cell value variable is = grind (arith, common_steps, length-set, node_same, elsewhere)

-- a cell of a node is written
pub cell_kept : (plan : List Site) (cells : List Value) (acts : List Act) (node part : ℕ) (value : Value) → 0 < part → part < 5
    → IsParts plan cells acts → IsNode plan (set cells (node_cell plan node + part) value) acts node
    → IsParts plan (set cells (node_cell plan node + part) value) acts
cell_kept plan cells acts node part value some few is own = record {
  all_cells = length-set cells (node_cell plan node + part) value ∙ is.all_cells;
  all_acts = is.all_acts;
  nodes = λ other within. elim (eqb_tells other node) [
    | inl same ↦ subst (IsNode plan (set cells (node_cell plan node + part) value) acts) (sym same.1) own
    | inr apart ↦
        node_same plan cells (set cells (node_cell plan node + part) value) acts acts other
        (elsewhere cells (node_cell plan node + part) (state_cell plan other) value (λ same. absurd (omega (arith, same, some, few))))
        (λ at some_at few_at. elsewhere cells (node_cell plan node + part) (node_cell plan other + at) value
        (λ same. apart.1 (omega (arith, same, few, few_at))))
        (λ i. act_of acts other) (is.nodes other within)
  ];
}

-- what a node has under way is set to what its cells and its body may have
pub act_kept : (plan : List Site) (cells : List Value) (acts : List Act) (node : ℕ) (act : Act) → node < length plan
    → IsParts plan cells acts → is_handle_of act (held cells (handle_cell plan node)) ≡ true
    → is_acknowledgement_of act (held cells (acknowledgement_cell plan node)) ≡ true
    → fits plan (site_in plan node).head.body act ≡ true → IsParts plan cells (set acts node act)
act_kept plan cells acts node act here is handle acknowledgement fit = record {
  all_cells = is.all_cells;
  all_acts = length-set acts node act ∙ is.all_acts;
  nodes = λ other within. elim (eqb_tells other node) [
    | inl same ↦ subst (IsNode plan cells (set acts node act)) (sym same.1) own
    | inr apart ↦
        node_same plan cells cells acts (set acts node act) other (λ i. held cells (state_cell plan other))
        (λ part some few i. held cells (node_cell plan other + part))
        (get_or-set_other acts node other act under_way.Idle apart.1) (is.nodes other within)
  ];
}
  where
    old : IsNode plan cells acts node
    old = is.nodes node here

    put : act_of (set acts node act) node ≡ act
    put = get_or-set_same acts node act under_way.Idle (omega (arith, here, is.all_acts))

    own : IsNode plan cells (set acts node act) node
    own = record {
      state = old.state;
      outcome = old.outcome;
      failure = old.failure;
      handle = ap (λ act. is_handle_of act (held cells (handle_cell plan node))) put ∙ handle;
      acknowledgement = ap (λ act. is_acknowledgement_of act (held cells (acknowledgement_cell plan node))) put ∙ acknowledgement;
      act = ap (fits plan (site_in plan node).head.body) put ∙ fit;
    }
