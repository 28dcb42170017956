-- A row reads no guard but those that the rows of its state read.
use Rattle.std.proofs.Common.{◌≡◌, refl, ap, sym, ◌∙◌}
use Rattle.px_value.specs.declared.enums.NodeState.{NodeState}
use Rattle.px_value.specs.declared.enums.NodeState.TheVariants.{Inactive, Waiting, Executing, Finishing, IterationEnded, Failing, Finished}
use Rattle.px_core.specs.declared.node.Kind.{Kind}
use Rattle.px_core.specs.declared.node.Kind.TheVariants as kinds
use Rattle.px_sem.specs.declared.guards.Guards.{Guards}
use Rattle.px_sem.specs.Table.{dest}
use Rattle.px_tables.specs.Reading.{read_by}

pub dest_read : (kind : Kind) (state : NodeState) (g : Guards) → dest kind state (read_by state g) ≡ dest kind state g
dest_read kind Inactive g = refl
dest_read kind Waiting g = refl
dest_read kinds.List Executing g = refl
dest_read kinds.Empty Executing g = refl
dest_read kinds.Assignment Executing g = refl
dest_read kinds.Command Executing g = refl
dest_read kinds.Update Executing g = refl
dest_read kinds.List Finishing g = refl
dest_read kinds.Empty Finishing g = refl
dest_read kinds.Assignment Finishing g = refl
dest_read kinds.Command Finishing g = refl
dest_read kinds.Update Finishing g = refl
dest_read kind Failing g = refl
dest_read kind IterationEnded g = refl
dest_read kind Finished g = refl

pub dest_same : (kind : Kind) (state : NodeState) (g h : Guards) → read_by state g ≡ read_by state h
    → dest kind state g ≡ dest kind state h
dest_same kind state g h same =
    sym (dest_read kind state g) ∙ ap (dest kind state) same ∙ dest_read kind state h
