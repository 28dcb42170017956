-- Conditions by number, and what is laid for them one after another.
use Rattle.std.proofs.Common.{◌≡◌, ℕ, zero, suc, ◌+◌, ◌*◌, ◌/◌, ◌%◌, ◌<◌, ◌≤◌, Bool, false, List, [], ◌∷◌, ◌++◌, length, inl, inr, refl, ap, sym, ◌∙◌, subst, arith}
use Rattle.std.proofs.lemmas.Bool.{cases_lt}
use Rattle.std.proofs.lemmas.List.{get_or_append_left, get_or_default, length-append}
use Rattle.std.proofs.Math.Seq.{get_or-append_seam}
use Rattle.px_value.specs.declared.value.Value.TheVariants.{Boolean}
use Rattle.px_core.specs.declared.conditions.ConditionKind.{ConditionKind}
use Rattle.px_core.specs.declared.conditions.ConditionKind.TheVariants as which
use Rattle.px_core.specs.Plan.{Site}
use Rattle.px_flat.specs.declared.flat.Flat.{Flat}
use Rattle.px_flat.specs.Flat.{plan_of}
use Rattle.px_flat.specs.Numbered.{ConditionsNumbered, Numbered, Literal, numbered_node}
use Rattle.px_flat.specs.Row.{site_in}
use Rattle.px_flat.specs.Sources.{sources_in}
use Rattle.px_flat.specs.Within.{IsWithin, AreConditionsWithin}
use Rattle.px_flat.proofs.Tables.{flat_sound}
use Rattle.px_flat.proofs.Trees.{each_put}
use Rattle.px_flat.proofs.Withins.{node_is_within}
use Rattle.px_cached.specs.declared.part.Above.{Above}
use Rattle.px_cached.specs.declared.part.Above.TheVariants as aboves
use Rattle.px_cached.specs.declared.part.Part.{Part}
use Rattle.px_cached.specs.declared.part.Part.TheVariants as parts
use Rattle.px_cached.specs.declared.part.Root.{Root}
use Rattle.px_cached.specs.declared.part.Root.TheVariants as root
use Rattle.px_cached.specs.Conditions.{condition_at, condition_in, kind_at, number_of, of_kind, place_of}
use Rattle.px_cached.specs.Laying.{HasLaid, IsLaid, IsRead, IsReadIn, IsRoot, StandsBy, begin, past, root_at}
use Rattle.px_cached.specs.Network.{IsNetwork, Stands, above_at, part_at}
use Rattle.px_cached.proofs.Layers.{spells_inside, spells_on, stands_on}

-- ---- numbers

pub kind_of_node : (plan : List Site) (node : ℕ) (kind : ConditionKind)
    → of_kind (numbered_node plan (site_in plan node).head).conditions kind ≡ condition_in plan node kind
kind_of_node plan node which.Start = refl
kind_of_node plan node which.End = refl
kind_of_node plan node which.Exit = refl
kind_of_node plan node which.Skip = refl
kind_of_node plan node which.Repeat = refl
kind_of_node plan node which.Pre = refl
kind_of_node plan node which.Post = refl
kind_of_node plan node which.Invariant = refl

pub within_kind : (plan : List Site) (conditions : ConditionsNumbered) (kind : ConditionKind)
    → AreConditionsWithin plan conditions → IsWithin plan (of_kind conditions kind)
within_kind plan conditions which.Start within = within.start
within_kind plan conditions which.End within = within.end
within_kind plan conditions which.Exit within = within.exit
within_kind plan conditions which.Skip within = within.skip
within_kind plan conditions which.Repeat within = within.repeat
within_kind plan conditions which.Pre within = within.pre
within_kind plan conditions which.Post within = within.post
within_kind plan conditions which.Invariant within = within.invariant

-- each condition of a node lies within the tables
pub condition_within : (flat : Flat) (node : ℕ) (kind : ConditionKind) → node < length (plan_of flat)
    → IsWithin (plan_of flat) (condition_in (plan_of flat) node kind)
condition_within flat node kind there =
    let plan : List Site = plan_of flat in
    subst (IsWithin plan) (kind_of_node plan node kind)
    (within_kind plan (numbered_node plan (site_in plan node).head).conditions kind
    (node_is_within plan node (flat_sound flat) there).conditions)

kind_of_place : (kind : ConditionKind) → kind_at (place_of kind) ≡ kind
kind_of_place which.Start = refl
kind_of_place which.End = refl
kind_of_place which.Exit = refl
kind_of_place which.Skip = refl
kind_of_place which.Repeat = refl
kind_of_place which.Pre = refl
kind_of_place which.Post = refl
kind_of_place which.Invariant = refl

place_below : (kind : ConditionKind) → place_of kind < 8
place_below which.Start = omega arith
place_below which.End = omega arith
place_below which.Exit = omega arith
place_below which.Skip = omega arith
place_below which.Repeat = omega arith
place_below which.Pre = omega arith
place_below which.Post = omega arith
place_below which.Invariant = omega arith

node_of : (node place : ℕ) → place < 8 → (8 * node + place) / 8 ≡ node
node_of node place below = omega arith

rest_of : (node place : ℕ) → place < 8 → (8 * node + place) % 8 ≡ place
rest_of node place below = omega arith

pub node_back : (node : ℕ) (kind : ConditionKind) → number_of node kind / 8 ≡ node
node_back node kind = node_of node (place_of kind) (place_below kind)

pub condition_back : (plan : List Site) (node : ℕ) (kind : ConditionKind)
    → condition_at plan (number_of node kind) ≡ condition_in plan node kind
condition_back plan node kind =
    (λ i. condition_in plan (node_back node kind i)
    (kind_at (rest_of node (place_of kind) (place_below kind) i)))
    ∙ ap (condition_in plan node) (kind_of_place kind)

pub number_below : (nodes node : ℕ) (kind : ConditionKind) → node < nodes → number_of node kind < 8 * nodes
number_below nodes node kind inside = omega (arith, inside, place_below kind)

pub node_below : (nodes number : ℕ) → number < 8 * nodes → number / 8 < nodes
node_below nodes number inside = omega arith

-- ---- one condition more

module _ (plan : List Site) (number : ℕ) (inside : number < 8 * length plan) (old new : List Part)
    (old_above new_above : List Above) (roots : List Root) (before : HasLaid plan old old_above roots number)
    (longer : length old ≤ length new) (same : (part : ℕ) → part < length old → part_at new part ≡ part_at old part)
    (same_above : (part : ℕ) → part < length old → above_at new_above part ≡ above_at old_above part)
    (now : Root) (is : IsRoot plan new new_above number now)
    (stands : StandsBy new (begin roots number) now (condition_at plan number)) where
  abbrev then : List Root
  then = roots ++ now ∷ []

  root_on : (other : ℕ) (at : Root) → IsRoot plan old old_above other at → IsRoot plan new new_above other at
  root_on other (root.Constant truth) was = was
  root_on other (root.Part part) was = (
    spells_on old new longer same part (condition_at plan other) was.0,
    same_above part (spells_inside old part (condition_at plan other) was.0) ∙ was.1,
  )

  stands_by_on : (from : ℕ) (at : Root) (expr : Numbered) → StandsBy old from at expr → StandsBy new from at expr
  stands_by_on from (root.Constant truth) expr stood = tt
  stands_by_on from (root.Part part) expr stood = stands_on old new longer same from part expr stood

  root_now : root_at then number ≡ now
  root_now = ap (root_at then) (sym before.count) ∙ get_or-append_seam roots now [] (root.Constant false)

  root_then : (other : ℕ) → other < number → root_at then other ≡ root_at roots other
  root_then other sooner = get_or_append_left roots (now ∷ []) (root.Constant false) other (omega (arith, sooner, before.count))

  begin_then : (other : ℕ) → other ≤ number → begin then other ≡ begin roots other
  begin_then zero below = refl
  begin_then (suc other) below =
      (λ i. past (begin_then other (omega (arith, below)) i) (root_then other (omega (arith, below)) i))

  rooted_then : (other : ℕ) → other < number + 1 → IsRoot plan new new_above other (root_at then other)
  rooted_then other below = each_put (IsRoot plan new new_above) roots now
      (λ other d sooner. subst (IsRoot plan new new_above other) (get_or_default roots other (root.Constant false) d sooner)
      (root_on other (root_at roots other) (before.rooted other (omega (arith, sooner, before.count)))))
      (subst (λ number. IsRoot plan new new_above number now) (sym before.count) is) other (root.Constant false)
      (omega (arith, below, before.count, length-append roots (now ∷ [])))

  stands_then : (other : ℕ) → other < number + 1
      → StandsBy new (begin then other) (root_at then other) (condition_at plan other)
  stands_then other below = each_put (λ other at. StandsBy new (begin then other) at (condition_at plan other)) roots now
      (λ other d sooner.
      let earlier : other < number = omega (arith, sooner, before.count) in
      subst (λ at. StandsBy new (begin then other) at (condition_at plan other)) (get_or_default roots other (root.Constant false) d sooner)
      (subst (λ from. StandsBy new from (root_at roots other) (condition_at plan other))
      (sym (begin_then other (omega (arith, earlier))))
      (stands_by_on (begin roots other) (root_at roots other) (condition_at plan other) (before.stands other earlier))))
      (subst (λ number. StandsBy new (begin then number) now (condition_at plan number)) (sym before.count)
      (subst (λ from. StandsBy new from now (condition_at plan number)) (sym (begin_then number (omega arith))) stands))
      other (root.Constant false) (omega (arith, below, before.count, length-append roots (now ∷ [])))

  one_more : IsNetwork new new_above → length new ≡ past (begin roots number) now
      → ((part node : ℕ) → length old ≤ part → part < length new → above_at new_above part ≡ aboves.Condition node
      → node < length plan)
      → ((part : ℕ) → length old ≤ part → part < length new → IsRead plan (part_at new part))
      → HasLaid plan new new_above then (number + 1)
  one_more shape end named read = record {
    shape = shape;
    count = omega (arith, length-append roots (now ∷ []), before.count);
    rooted = rooted_then;
    named = λ part node there top. elim (cases_lt part (length old)) [
      | inl sooner ↦ before.named part node sooner (sym (same_above part sooner) ∙ top)
      | inr late ↦ named part node late there top
    ];
    read = λ part there. elim (cases_lt part (length old)) [
      | inl sooner ↦ subst (IsRead plan) (sym (same part sooner)) (before.read part sooner)
      | inr late ↦ read part late there
    ];
    stands = stands_then;
    end =
        let next : suc number ≡ number + 1 = omega arith in
        end ∙ (λ i. past (sym (begin_then number (omega arith)) i) (sym root_now i)) ∙ ap (begin then) next;
  }

module _ (plan : List Site) (number : ℕ) (inside : number < 8 * length plan) (old : List Part) (old_above : List Above)
    (roots : List Root) (before : HasLaid plan old old_above roots number) where
  -- a constant, which takes no part
  pub constant_laid : (truth : Bool) → condition_at plan number ≡ Literal (Boolean truth)
      → HasLaid plan old old_above (roots ++ root.Constant truth ∷ []) (number + 1)
  constant_laid truth is =
      one_more plan number inside old old old_above old_above roots before (omega arith) (λ part there. refl) (λ part there. refl)
      (root.Constant truth) is tt before.shape before.end (λ part node late there top. absurd (omega (arith, late, there)))
      (λ part late there. absurd (omega (arith, late, there)))

  -- what is laid in parts
  pub part_laid : (new : List Part) (new_above : List Above) (last : ℕ)
      → IsLaid plan (number / 8) (condition_at plan number) old new old_above new_above last
      → HasLaid plan new new_above (roots ++ root.Part last ∷ []) (number + 1)
  part_laid new new_above last laid =
      one_more plan number inside old new old_above new_above roots before laid.longer laid.same laid.same_above
      (root.Part last) (laid.spells, laid.top)
      (subst (λ from. Stands new from last (condition_at plan number)) before.end laid.stands) laid.network laid.end
      (λ part node late there top.
      let is : node ≡ number / 8 = laid.named part node late there top in
      omega (arith, is, node_below (length plan) number inside))
      (λ part late there. read_then (part_at new part) (laid.read part late there))
    where
      read_then : (p : Part) → IsReadIn plan (sources_in plan (condition_at plan number)) p → IsRead plan p
      read_then (parts.Whole expr) read =
          (read.0, (number / 8, kind_at (number % 8), (node_below (length plan) number inside, read.1)))
      read_then (parts.Joined joint left right) read = tt
