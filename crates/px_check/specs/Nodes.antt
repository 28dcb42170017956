-- What the kept nodes are, and the names that stand in their order.
use Rattle.std.specs.Prelude.{ℕ, Bool, List}
use Rattle.std.specs.List.{flat_map}
use Rattle.std.specs.Option.{option_map, option_to_list}
use Rattle.px_syntax.specs.Scope.{Head, Node, searched}
use Rattle.px_check.specs.declared.nodes.NodeHead.{NodeHead}

abbrev pub head_data : NodeHead → Head
head_data head = record { label = head.label; is_command = head.is_command }

-- the name of a node that has one, told whether the node is a Command
abbrev pub named_head : Head → List (List ℕ × Bool)
named_head head = option_to_list (option_map (λ label. (label, head.is_command)) head.label)

abbrev pub named_heads : List Head → List (List ℕ × Bool)
named_heads = flat_map named_head

-- the names of nodes and of their children, in the order in which they are looked for
abbrev pub names_of : List Node → List (List ℕ × Bool)
names_of nodes = named_heads (searched nodes)
