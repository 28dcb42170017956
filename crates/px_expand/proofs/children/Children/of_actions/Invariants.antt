use Rattle.px_expand.proofs.Actions.{SeenLeft}
use Rattle.px_expand.proofs.children.Children.of_actions.Given as goal

abbrev pub invariant-loop-number : goal.invariant-loop-number
invariant-loop-number l = SeenLeft l.path l.actions l.number l.children.by_name.entries l.children.listed.names.items l.children.listed.paths.items
