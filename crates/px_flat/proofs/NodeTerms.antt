-- The values of a node's expressions, with numbers and without.
use Rattle.std.proofs.Common.{◌≡◌, ℕ, ◌<◌, List, ◌++◌, length, get_or, Some, rules}
use Rattle.std.specs.List.{flat_map, All}
use Rattle.std.specs.Option.{ForSome}
use Rattle.px_value.specs.declared.value.Value.{Value}
use Rattle.px_core.specs.Expr.{Term}
use Rattle.px_core.specs.Fit.{Reference, references, references_of_target, terms_of, terms_of_conditions, targets_of}
use Rattle.px_core.specs.Plan.{Site, Head, TargetData}
use Rattle.px_sem.specs.World.{LookState, Report}
use Rattle.px_flat.specs.declared.act.Act.{Act}
use Rattle.px_flat.specs.Lookups.{lookups_in, lookups_in_target, lookups_in_body, AreKnown}
use Rattle.px_flat.specs.Parts.{IsParts}
use Rattle.px_flat.specs.Row.{site_in}
use Rattle.px_flat.specs.Values.{HasValue, HaveValues}
use Rattle.px_flat.proofs.Known.{IsSound, front, back, each_known, conditions_known, body_known}
use Rattle.px_flat.proofs.NumberedValues.{numbered_value-numbered}

-- the index of a target is known with it
index_known : (plan : List Site) (target : TargetData) → AreKnown plan (references_of_target target) (lookups_in_target target)
    → (index : Term) → target.index ≡ Some index → AreKnown plan (references index) (lookups_in index)
index_known plan target known index is = search rules

each_index : (plan : List Site) (targets : List TargetData)
    → AreKnown plan (flat_map references_of_target targets) (flat_map lookups_in_target targets)
    → All (λ target. ForSome target.index (λ index. AreKnown plan (references index) (lookups_in index))) targets
each_index plan targets known k d within =
    index_known plan (get_or targets k d) (each_known plan references_of_target lookups_in_target targets known k d within)

pub have_values : (plan : List Site) (cells : List Value) (reports : List (LookState × Report)) (acts : List Act) (node : ℕ)
    → IsSound plan → node < length plan → IsParts plan cells acts
    → HaveValues plan cells reports acts (site_in plan node).head
have_values plan cells reports acts node sound within parts =
    let head : Head = (site_in plan node).head in
    let inner : List Reference = flat_map references (terms_of head.body) in
    let outer : List Reference = flat_map references_of_target (targets_of head.body) in
    let body : AreKnown plan (inner ++ outer) (lookups_in_body head.body) = body_known plan sound node within in
    let value : (term : Term) → AreKnown plan (references term) (lookups_in term) → HasValue plan cells reports acts term =
    λ term known. numbered_value-numbered plan cells reports acts term sound parts known in
    record {
      conditions = λ k d there. value (get_or (terms_of_conditions head.conditions) k d) (conditions_known plan sound node within k d there);
      body = λ k d there. value (get_or (terms_of head.body) k d) (each_known plan references lookups_in (terms_of head.body)
          (front plan inner outer (flat_map lookups_in (terms_of head.body)) (flat_map lookups_in_target (targets_of head.body)) body)
          k d there);
      indices = λ k d there index is. value index (each_index plan (targets_of head.body)
          (back plan inner outer (flat_map lookups_in (terms_of head.body)) (flat_map lookups_in_target (targets_of head.body)) body)
          k d there index is);
    }
