-- Plans with lists in place of vectors.
use Rattle.std.specs.Prelude.{List, Option, map}
use Rattle.px_syntax.specs.declared.expr.Identifier.{Identifier}
use Rattle.px_syntax.specs.declared.plan.Declaration.{Declaration}
use Rattle.px_syntax.specs.declared.plan.Declaration.TheVariants as declarations
use Rattle.px_syntax.specs.declared.plan.Parameter.{Parameter}
use Rattle.px_syntax.specs.declared.plan.Surface.{Surface}
use Rattle.px_syntax.specs.declared.word.TypeName.{TypeName}
use Rattle.px_syntax.specs.Block.{BlockTree, block_of}

pub data DeclarationData : Type 0 where
  Command : (answer : Option TypeName) (name : Identifier) (parameters : List Parameter) → DeclarationData
  Lookup : (answer : TypeName) (name : Identifier) (parameters : List Parameter) → DeclarationData

abbrev pub declaration_data : Declaration → DeclarationData
declaration_data (declarations.Command answer name parameters) = Command answer name parameters.items
declaration_data (declarations.Lookup answer name parameters) = Lookup answer name parameters.items

pub record PlanTree : Type 0 where
  pub declarations : List DeclarationData
  pub label : Option Identifier
  pub root : BlockTree

abbrev pub tree_of_surface : Surface → PlanTree
tree_of_surface surface =
    record {
      declarations = map declaration_data surface.declarations.items;
      label = surface.label;
      root = block_of surface.root;
    }
