use Rattle.std.proofs.Common.{◌∙◌}
use Rattle.px_value.proofs.General.{lookup-map}
use Rattle.px_core.specs.Plan.{Site, is_same}
use Rattle.px_script.specs.Kinds.{plan_of}
use Rattle.px_script.proofs.kinds.Kinds.get.Goals as goal

pub returns : goal.returns
returns c =
    let kinds = c.args.self.now in
    let path = c.args.path.now in
    c.copied.ensures ∙ c.get.ensures.value ∙ kinds.told path
    ∙ lookup-map (is_same path) (λ (site : Site). site.path) (λ site. site.head.kind) (plan_of kinds)
