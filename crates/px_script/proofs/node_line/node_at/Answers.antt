use Rattle.std.proofs.Common.{sym, ◌∙◌}
use Rattle.px_script.specs.Kinds.{plan_of}
use Rattle.px_script.proofs.Nodes.{node_found, none_found}
use Rattle.px_script.proofs.node_line.node_at.Goals as goal

pub returns-in-Some : goal.returns-in-Some
returns-in-Some c =
    node_found (plan_of c.args.kinds.now) c.args.text.now c.in-Ok.path c.in-Some.kind c.in-Ok.ensures.ok.0 c.in-Ok.ensures.ok.1
    (sym c.get.ensures ∙ c.in-Some.is)

pub returns-in-None : goal.returns-in-None
returns-in-None c =
    none_found (plan_of c.args.kinds.now) c.args.text.now c.in-Ok.path c.in-Ok.ensures.ok.0 (sym c.get.ensures ∙ c.in-None.is)
