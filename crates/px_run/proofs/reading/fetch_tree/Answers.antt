use Rattle.std.proofs.Common.{◌≡◌, ℕ, List, refl, sym}
use Rattle.px_compile.specs.Compiled.{IsCompiled, IsSpelled}
use Rattle.px_core.specs.Plan.{Tree, count_of}
use Rattle.px_syntax.specs.Plan.{PlanTree}
use Rattle.px_output.specs.View.{View, view}
use Rattle.px_run.specs.Kinds.{plan_file}
use Rattle.px_run.specs.Reading.{Content, Shows, Reads, with_text}
use Rattle.px_run.proofs.SeenFiles.{plan_refused}
use Rattle.px_run.proofs.reading.fetch_tree.Goals as goal

pub returns-in_err-compile_tree-clause-err : goal.returns-in_err-compile_tree-clause-err
returns-in_err-compile_tree-clause-err g c =
    plan_refused (view g.H.Host c.args.host.now) (view g.H.Host c.fetch_bytes.new.host) c.args.name.now c.in_ok-text.text.items c.in_err-compile_tree.field-0.0
    c.from_residual-in_err-compile_tree.result c.from_residual-in_err-compile_tree.ensures.1 c.in_ok-text.ensures.ok
    (rw (sym c.deref.ensures.value) c.in_err-compile_tree.ensures.fault)

-- what the bytes that were read spell
read : (old new : View) (name bytes seen : List ℕ) (tree : PlanTree) (plan : Tree) (nodes : ℕ) → seen ≡ bytes
    → Shows plan_file.limit old new name (Content bytes) → IsSpelled seen tree → IsCompiled seen plan → nodes ≡ count_of plan
    → (text : List ℕ) × (made : Tree) × Reads (with_text plan_file) old new name (text, made) × IsSpelled text tree × (nodes ≡ count_of made)
read old new name bytes seen tree plan nodes same shows spelled compiled counted =
    (bytes, plan, (Content bytes, shows, (refl, rw (sym same) compiled)), rw (sym same) spelled, counted)

pub returns-clause-ok : goal.returns-clause-ok
returns-clause-ok g c =
    let made = c.in_ok-compile_tree in
    read (view g.H.Host c.args.host.now) (view g.H.Host c.fetch_bytes.new.host) c.args.name.now c.in_ok-text.text.items c.deref.result.now
    _ _ _ c.deref.ensures.value c.in_ok-text.ensures.ok made.ensures.tree made.ensures.plan made.ensures.nodes
