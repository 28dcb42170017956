-- Which kind of node a block is.
use Rattle.std.specs.Prelude.{Some, None, if◌then◌else◌}
use Rattle.px_syntax.specs.declared.word.BlockForm.TheVariants as forms
use Rattle.px_syntax.specs.Block.{BlockTree, Braces, Actions, NoActions, More, ActionTree, Labelled, BodyTree}
use Rattle.px_syntax.specs.Scope.{is_simple}

-- an Empty node, one node with its only action, or a List
pub data Shape : Type 0 where
  Rest : Shape
  OneAction : (body : BodyTree) → Shape
  Children : Shape

-- a plain block with this action alone
abbrev pub alone : ActionTree → Shape
alone (Labelled None body) = if is_simple body then OneAction body else Children
alone (Labelled (Some label) body) = Children

-- A plain block without actions is Empty. Its only action is one node with it where that is an assignment, a command or
-- an update without a label. Every other block is a List.
abbrev pub plain_shape : Actions → Shape
plain_shape NoActions = Rest
plain_shape (More action NoActions) = alone action
plain_shape (More first (More second rest)) = Children

abbrev pub shape_of : BlockTree → Shape
shape_of (Braces forms.Plain items actions) = plain_shape actions
shape_of block = Children
