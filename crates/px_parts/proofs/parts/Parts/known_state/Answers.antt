use Rattle.std.proofs.Common.{ap, sym, ◌∙◌, Some}
use Rattle.std.specs.Option.{option_map}
use Rattle.px_parts.specs.Parts.{record_of}
use Rattle.px_parts.proofs.Found.{state_known}
use Rattle.px_parts.proofs.parts.Parts.known_state.Goals as goal

pub returns-in-Some : goal.returns-in-Some
returns-in-Some c =
    ap Some c.state_of.ensures
    ∙ ap (option_map (λ node. (record_of c.args.self.now node).state)) (sym c.in-Some.is ∙ c.number_of.ensures.number)
    ∙ state_known c.args.self.now c.args.path.now

pub returns-in-None : goal.returns-in-None
returns-in-None c =
    ap (option_map (λ node. (record_of c.args.self.now node).state)) (sym c.in-None.is ∙ c.number_of.ensures.number)
    ∙ state_known c.args.self.now c.args.path.now
