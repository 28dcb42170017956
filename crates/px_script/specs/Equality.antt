-- What `==` answers of two scripts, and of two of their parts.
use Rattle.std.specs.Prelude.{Bool}
use Rattle.px_script.specs.contracts.line.LinePartialEq.TheImpl as lines
use Rattle.px_script.specs.contracts.script.ScriptPartialEq.TheImpl as scripts
use Rattle.px_script.specs.contracts.todo.TodoPartialEq.TheImpl as todos
use Rattle.px_script.specs.declared.line.Line.{Line}
use Rattle.px_script.specs.declared.script.Script.{Script}
use Rattle.px_script.specs.declared.todo.Todo.{Todo}

abbrev pub line_eq : Line → Line → Bool
line_eq = (lines.ghosts).eq

abbrev pub todo_eq : Todo → Todo → Bool
todo_eq = (todos.ghosts).eq

abbrev pub script_eq : Script → Script → Bool
script_eq = (scripts.ghosts).eq
