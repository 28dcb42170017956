-- What the code has of shapes, with trees in place of what it holds.
use Rattle.px_syntax.specs.Block.{body_of}
use Rattle.px_expand.specs.declared.shape.Shape.{Shape as ShapeData}
use Rattle.px_expand.specs.declared.shape.Shape.TheVariants as shapes
use Rattle.px_expand.specs.Kinds.{Shape, Rest, OneAction, Children}

abbrev pub shape_data : ShapeData → Shape
shape_data shapes.Rest = Rest
shape_data (shapes.OneAction body) = OneAction (body_of body.now)
shape_data shapes.Children = Children
