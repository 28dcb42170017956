-- What is kept is sound in what is present, where what was not touched is as it was seen; and then it is fresh.
use Rattle.std.proofs.Common.{◌≡◌, ℕ, ◌+◌, ◌/◌, ◌<◌, Bool, true, false, not, List, [], ◌∷◌, ◌++◌, length, map, get_or, Option, None, ◌⊎◌, inl, inr, refl, ap, sym, ◌∙◌, subst, arith, All}
use Rattle.std.proofs.lemmas.Bool.{cases_Bool, false_from_ne_true, false≢true, true_from_ne_false}
use Rattle.std.proofs.lemmas.List.Elements.{All-cons, All-tail}
use Rattle.std.proofs.lemmas.List.{get_or-map}
use Rattle.px_value.proofs.General.{All-back, All-front}
use Rattle.px_value.specs.Truth.{truth_of}
use Rattle.px_core.specs.declared.conditions.ConditionKind.{ConditionKind}
use Rattle.px_core.specs.Plan.{Site}
use Rattle.px_flat.specs.NumberedData.{expr_data}
use Rattle.px_flat.specs.Sources.{Source, Present, IsSame, sources_in}
use Rattle.px_flat.proofs.Sources.{read_only_sources}
use Rattle.px_links.specs.Links.{LinksData, is_absent}
use Rattle.px_listen.specs.Listening.{ListenData}
use Rattle.px_cached.specs.declared.looking.Kept.{Kept}
use Rattle.px_cached.specs.declared.part.Part.{Part}
use Rattle.px_cached.specs.declared.part.Part.TheVariants as parts
use Rattle.px_cached.specs.declared.part.Root.{Root}
use Rattle.px_cached.specs.declared.part.Root.TheVariants as root
use Rattle.px_cached.specs.Cached.{CachedData, is_touched}
use Rattle.px_cached.specs.Conditions.{condition_at, condition_in, number_of, source_number, truth_in}
use Rattle.px_cached.specs.Laying.{IsRead, IsRoot, IsStretch, root_at}
use Rattle.px_cached.specs.Looking.{AreRight, IsRight, IsSound, Tells}
use Rattle.px_cached.specs.Network.{IsAmong, part_at, root_truth, truth_at}
use Rattle.px_cached.specs.Noticing.{IsNoticed}
use Rattle.px_cached.specs.Reading.{AreListening, sources_at}
use Rattle.px_cached.proofs.Conditions.{condition_back, node_back, number_below}
use Rattle.px_cached.proofs.Freshness.{fresh_part}
use Rattle.px_cached.proofs.Layers.{spells_inside}

-- what is untouched was so before
pub was_untouched : (old new : CachedData) (source : ℕ)
    → ((source : ℕ) → is_touched old source ≡ true → is_touched new source ≡ true)
    → is_touched new source ≡ false → is_touched old source ≡ false
was_untouched old new source others untouched =
    false_from_ne_true (is_touched old source) (λ was. false≢true (sym untouched ∙ others source was))

-- what is true of all sources is true of a stretch of them
all_in_stretch : (P : Source → Type 0) (some all : List Source) → IsStretch some all → All P all → All P some
all_in_stretch P some all is each = All-front P some is.1 (All-back P is.0 (some ++ is.1) (subst (All P) is.2 each))

-- all of a list pass, or something holds where one doesn't
all_or : {X : Type 0} (P : X → Type 0) (Q : Type 0) (xs : List X) → All (λ x. P x ⊎ Q) xs → All P xs ⊎ Q
all_or P Q [] each = inl (λ k d inside. absurd (omega (arith, inside)))
all_or P Q (x ∷ xs) each = elim (each 0 x (omega arith)) [
  | inr holds ↦ inr holds
  | inl first ↦ elim (all_or P Q xs (All-tail (λ x. P x ⊎ Q) x xs each)) [
    | inr holds ↦ inr holds
    | inl rest ↦ inl (All-cons P x xs first rest)
  ]
]

module _ (plan : List Site) (seen present : Present) (long : length seen.cells ≡ length present.cells) (network : List Part)
    (Stays : ℕ → Type 0) (listeners : ListenData) (listening : AreListening plan network listeners) (touched then_touched stale then_stale : LinksData)
    (noticed : IsNoticed Stays listeners touched then_touched stale then_stale)
    (same : (node : ℕ) (kind : ConditionKind) → node < length plan
    → All (λ source. not (is_absent touched (source_number plan source)) ≡ false → IsSame plan seen present source)
    (sources_in plan (condition_in plan node kind))) where
  -- what is not to be looked at has no touched source, or stays
  untouched : (part : ℕ) → part < length network → is_absent then_stale part ≡ true
      → All (λ source. not (is_absent touched (source_number plan source)) ≡ false) (sources_at plan (part_at network part)) ⊎ Stays part
  untouched part there absent =
      all_or (λ source. not (is_absent touched (source_number plan source)) ≡ false) (Stays part) (sources_at plan (part_at network part))
      (λ k d inside. let source : Source = get_or (sources_at plan (part_at network part)) k d in
      elim (cases_Bool (is_absent touched (source_number plan source))) [
        | inl is ↦ inl (ap not is)
        | inr noted ↦ elim (noticed.marked (source_number plan source) part noted (listening.each part there k d inside)) [
          | inl marked ↦ absurd (cc)
          | inr stays ↦ inr stays
        ]
      ])

  was_absent : (part : ℕ) → is_absent then_stale part ≡ true → is_absent stale part ≡ true
  was_absent part absent =
      true_from_ne_false (is_absent stale part) (λ noted. false≢true (sym (noticed.still part noted) ∙ absent))

  right_by : (truth : Option Bool) (p : Part) → IsRead plan p
      → All (λ source. not (is_absent touched (source_number plan source)) ≡ false) (sources_at plan p)
      → IsRight plan seen truth p → IsRight plan present truth p
  right_by truth (parts.Joined joint left other) read none right = tt
  right_by truth (parts.Whole expr) read none right =
      let node = read.1.0 in
      let kind = read.1.1 in
      let sources : List Source = sources_in plan (expr_data expr) in
      let each = all_in_stretch
      (λ source. not (is_absent touched (source_number plan source)) ≡ false → IsSame plan seen present source)
      sources (sources_in plan (condition_in plan node kind)) read.1.2.1 (same node kind read.1.2.0) in
      right ∙ ap truth_of (read_only_sources plan (expr_data expr) seen present long
      (λ k d inside. each k d inside (none k d inside)))

  pub right_present : ((part : ℕ) → part < length network → IsRead plan (part_at network part))
      → (truths : List (Option Bool)) → ((part : ℕ) → Stays part → IsRight plan present (truth_at truths part) (part_at network part))
      → AreRight plan seen network truths stale → AreRight plan present network truths then_stale
  right_present read truths settled right part there absent = elim (untouched part there absent) [
    | inl none ↦ right_by (truth_at truths part) (part_at network part) (read part there) none (right part there (was_absent part absent))
    | inr stays ↦ settled part stays
  ]

-- ---- the truth of a condition

module _ (plan : List Site) (seen : Present) (kept : Kept) (sound : IsSound plan seen kept) (node : ℕ) (kind : ConditionKind)
    (there : node < length plan) where
  abbrev at : Root
  at = root_at kept.network.roots.items (number_of node kind)

  rooted : IsRoot plan kept.network.parts.items kept.network.above.items (number_of node kind) at
  rooted = sound.laid.rooted (number_of node kind) (number_below (length plan) node kind there)

  pub condition_inside : number_of node kind < length kept.network.roots.items
  condition_inside = omega (arith, number_below (length plan) node kind there, sound.laid.count)

  pub root_among : IsAmong (length kept.truths.items) at
  root_among = by at rooted
    where
      by : (at : Root) → IsRoot plan kept.network.parts.items kept.network.above.items (number_of node kind) at
          → IsAmong (length kept.truths.items) at
      by (root.Constant truth) is = tt
      by (root.Part part) is = omega (arith, spells_inside kept.network.parts.items part _ is.0, sound.sized)

  pub condition_kept : (truths : List (Option Bool))
      → get_or (map (root_truth truths) kept.network.roots.items) (number_of node kind) None ≡ root_truth truths at
  condition_kept truths =
      get_or-map (root_truth truths) kept.network.roots.items (number_of node kind) (root.Constant false) None condition_inside

  pub condition_fresh : ((part : ℕ) → is_absent kept.stale part ≡ true)
      → get_or (map (root_truth kept.truths.items) kept.network.roots.items) (number_of node kind) None
      ≡ truth_in plan seen (condition_in plan node kind)
  condition_fresh none =
      condition_kept kept.truths.items ∙ by at rooted ∙ ap (truth_in plan seen) (condition_back plan node kind)
    where
      by : (at : Root) → IsRoot plan kept.network.parts.items kept.network.above.items (number_of node kind) at
          → root_truth kept.truths.items at ≡ truth_in plan seen (condition_at plan (number_of node kind))
      by (root.Constant truth) is = sym (ap (truth_in plan seen) is)
      by (root.Part part) is = fresh_part plan seen kept.network.parts.items kept.truths.items sound.agree
          (λ part inside. sound.right part inside (none part)) part _ is.0

  pub condition_told : (truths : List (Option Bool)) (before after : LinksData) (list : ℕ)
      → Tells kept.network.above.items kept.truths.items truths before after list
      → (get_or (map (root_truth truths) kept.network.roots.items) (number_of node kind) None
      ≡ get_or (map (root_truth kept.truths.items) kept.network.roots.items) (number_of node kind) None)
      ⊎ (is_absent after node ≡ false)
  condition_told truths before after list tells = elim (by at rooted) [
    | inl same ↦ inl (condition_kept truths ∙ same ∙ sym (condition_kept kept.truths.items))
    | inr noted ↦ inr (ap (is_absent after) (sym (node_back node kind)) ∙ noted)
  ]
    where
      by : (at : Root) → IsRoot plan kept.network.parts.items kept.network.above.items (number_of node kind) at
          → (root_truth truths at ≡ root_truth kept.truths.items at) ⊎ (is_absent after (number_of node kind / 8) ≡ false)
      by (root.Constant truth) is = inl refl
      by (root.Part part) is = tells.changed part (number_of node kind / 8) is.1
