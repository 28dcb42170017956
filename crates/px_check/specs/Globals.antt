-- What the declarations before the root declare, by name.
use Rattle.std.specs.Prelude.{ℕ, List, map}
use Rattle.px_syntax.specs.Plan.{DeclarationData}
use Rattle.px_syntax.specs.Scope.{Global, global, commands_in, lookups_in}
use Rattle.px_check.specs.declared.globals.Callable.{Callable}
use Rattle.px_check.specs.declared.globals.Sort.{Sort}
use Rattle.px_check.specs.declared.globals.Sort.TheVariants as sorts

abbrev pub callable_data : Callable → Global
callable_data callable = global callable.answer callable.name.now callable.parameters.now

abbrev pub callables_data : List (List ℕ × Callable) → List (List ℕ × Global)
callables_data = map (λ named. (named.0, callable_data named.1))

-- declarations with their names
abbrev pub by_name : List Global → List (List ℕ × Global)
by_name = map (λ global. (global.name.name, global))

-- what a declaration declares of a sort
abbrev pub declared_as : Sort → DeclarationData → List Global
declared_as sorts.Command = commands_in
declared_as sorts.Lookup = lookups_in
