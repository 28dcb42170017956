use Rattle.std.proofs.Common.{◌≡◌, ◌<◌, length, filter, not, nat_eq, All, AllPairs, ap, sym, ◌∙◌, subst}
use Rattle.std.specs.List.{list_any}
use Rattle.std.proofs.lemmas.Result.{IfOk-weaker}
use Rattle.px_assign.specs.Conflicts.{AreWriters}
use Rattle.px_micro.specs.declared.sight.Going.{Going}
use Rattle.px_micro.specs.Going.{wanted, wanting, holding, AreAllGoing}
use Rattle.px_parts.specs.Parts.{plan_in, world_in}
use Rattle.px_micro.proofs.Choosing.{writers_are, wanting_within, holding_within, wanted_within, losers_are, losers_rise, losing, staying_go}
use Rattle.px_micro.proofs.wanting.going.Goals as goal

pub wanting-requires-clause-within : goal.wanting-requires-clause-within
wanting-requires-clause-within c =
    let plan = plan_in c.args.parts.now in
    let now = world_in c.args.parts.now in
    subst (All (λ (one : Going). one.node < length plan)) (sym (c.deref.ensures.value ∙ c.in_ok-wanted.ensures))
    (wanted_within plan now c.args.candidates.now c.requires.candidates.within)

pub losers-requires-clause-wanting : goal.losers-requires-clause-wanting
losers-requires-clause-wanting c =
    let plan = plan_in c.args.parts.now in
    let now = world_in c.args.parts.now in
    subst (All (λ node. node < length plan))
    (sym (c.deref-2.ensures.value ∙ c.in_ok-wanting.ensures ∙ ap (wanting plan now) (c.deref.ensures.value ∙ c.in_ok-wanted.ensures)))
    (wanting_within plan now c.args.candidates.now c.requires.candidates)

pub losers-requires-clause-holding : goal.losers-requires-clause-holding
losers-requires-clause-holding c =
    let plan = plan_in c.args.parts.now in
    let now = world_in c.args.parts.now in
    subst (All (λ node. node < length plan)) (sym (c.deref-3.ensures.value ∙ c.in_ok-holding.ensures))
    (holding_within plan now)

pub staying-requires : goal.staying-requires
staying-requires c =
    let plan = plan_in c.args.parts.now in
    let now = world_in c.args.parts.now in
    let nodes = c.args.candidates.now in
    let wants : c.deref-2.result.now ≡ wanting plan now (wanted plan now nodes) =
    c.deref-2.ensures.value ∙ c.in_ok-wanting.ensures ∙ ap (wanting plan now) (c.deref.ensures.value ∙ c.in_ok-wanted.ensures) in
    let holds : c.deref-3.result.now ≡ holding plan now = c.deref-3.ensures.value ∙ c.in_ok-holding.ensures in
    let writers : AreWriters plan now c.deref-2.result.now c.deref-3.result.now =
    subst (λ holding. AreWriters plan now c.deref-2.result.now holding) (sym holds)
    (subst (λ wanting. AreWriters plan now wanting (holding plan now)) (sym wants)
    (writers_are plan now nodes c.requires.candidates)) in
    subst (AllPairs (λ a b. a < b))
    (sym (c.deref-5.ensures.value ∙ losers_are plan now nodes c.deref-2.result.now c.in_ok-losers.losers.items wants
    (c.in_ok-losers.ensures.nodes now writers)))
    (losers_rise plan now nodes c.requires.candidates)

pub returns : goal.returns
returns c =
    let plan = plan_in c.args.parts.now in
    let now = world_in c.args.parts.now in
    let nodes = c.args.candidates.now in
    let found : c.deref-4.result.now ≡ wanted plan now nodes = c.deref-4.ensures.value ∙ c.in_ok-wanted.ensures in
    let wants : c.deref-2.result.now ≡ wanting plan now (wanted plan now nodes) =
    c.deref-2.ensures.value ∙ c.in_ok-wanting.ensures ∙ ap (wanting plan now) (c.deref.ensures.value ∙ c.in_ok-wanted.ensures) in
    let holds : c.deref-3.result.now ≡ holding plan now = c.deref-3.ensures.value ∙ c.in_ok-holding.ensures in
    let writers : AreWriters plan now c.deref-2.result.now c.deref-3.result.now =
    subst (λ holding. AreWriters plan now c.deref-2.result.now holding) (sym holds)
    (subst (λ wanting. AreWriters plan now wanting (holding plan now)) (sym wants)
    (writers_are plan now nodes c.requires.candidates)) in
    let lost : c.deref-5.result.now ≡ losing plan now nodes =
    c.deref-5.ensures.value ∙ losers_are plan now nodes c.deref-2.result.now c.in_ok-losers.losers.items wants
    (c.in_ok-losers.ensures.nodes now writers) in
    IfOk-weaker c.staying.result
    (λ made. made.items ≡ filter (λ (one : Going). not (list_any (nat_eq one.node) c.deref-5.result.now)) c.deref-4.result.now)
    (λ made. AreAllGoing plan now made.items)
    (λ made are. subst (AreAllGoing plan now)
    (sym (are ∙ ap (filter (λ (one : Going). not (list_any (nat_eq one.node) c.deref-5.result.now))) found))
    (staying_go plan now nodes c.deref-5.result.now c.requires.candidates lost))
    c.staying.ensures
