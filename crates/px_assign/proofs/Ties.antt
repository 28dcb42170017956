-- In a world where just these want to start and hold their variables, losers by number are those of the semantics.
use Rattle.std.proofs.Common.{◌≡◌, ◌≢◌, ℕ, suc, ◌<◌, Bool, true, false, not, ◌&&◌, ◌||◌, List, [], ◌∷◌, length, get_or, filter, is_some, refl, ap, sym, ◌∙◌, subst, arith, inl, inr, Option, Some, None}
use Rattle.std.specs.Prelude.{nat_eq, nat_lt}
use Rattle.std.specs.Cmp.{nat_eq_equiv}
use Rattle.std.specs.List.{list_any, All}
use Rattle.std.specs.Option.{option_map}
use Rattle.std.specs.Cmp.Lexicographic.{same_text}
use Rattle.std.proofs.lemmas.Bool.{and_parts, and_from, or_cases, or_left, or_right, eqb-true, eq-eqb, false≢true}
use Rattle.std.proofs.lemmas.List.{get_or_default}
use Rattle.std.proofs.lemmas.List.Folds.{Any-from_list_any, list_any_at}
use Rattle.px_value.proofs.General.{same_bool}
use Rattle.px_value.specs.declared.enums.NodeState.{NodeState}
use Rattle.px_value.specs.declared.enums.NodeState.TheVariants as states
use Rattle.px_core.specs.Fit.{AreDistinct}
use Rattle.px_core.specs.Plan.{Site, BodyData, Nothing, Assign, Command, Update, TargetData, no_site, is_same}
use Rattle.px_core.proofs.Paths.{same-self, same-other, place_is}
use Rattle.px_sem.specs.Conflicts.{target_of, is_same_variable, would_start, holds_variable, takes, keeps_back}
use Rattle.px_sem.specs.Conflicts as semantics
use Rattle.px_sem.specs.Guards.{is_active, is_waiting}
use Rattle.px_sem.specs.World.{World, state_at}
use Rattle.px_flat.specs.Numbered.{numbered_body, place_of}
use Rattle.px_flat.specs.Row.{site_in}
use Rattle.px_flat.proofs.Known.{IsSound}
use Rattle.px_flat.proofs.Variables.{IsDeclared, target_declared, one_variable}
use Rattle.px_assign.specs.Conflicts.{written, variable_of, of_variable, writes, goes_before, is_kept_from, is_loser, is_loser_in, is_writer, AreWriters}
use Rattle.px_assign.proofs.Staying.{not_itself, found_among}

-- ---- tests

-- what each that passes shows is so where one does
any_shows : {X : Type 0} (p : X → Bool) (xs : List X) (d : X) (b : Bool)
    → ((k : ℕ) → k < length xs → p (get_or xs k d) ≡ true → b ≡ true) → list_any p xs ≡ true → b ≡ true
any_shows p xs d b each some =
    let found = Any-from_list_any p xs some in
    each found.0 found.2 (ap p (get_or_default xs found.0 d found.1 found.2 ∙ found.3) ∙ found.4)

filter_alike : (p q : ℕ → Bool) (ns : List ℕ) → ((k : ℕ) → k < length ns → p (get_or ns k 0) ≡ q (get_or ns k 0))
    → filter p ns ≡ filter q ns
filter_alike p q [] same = refl
filter_alike p q (n ∷ ns) same =
    rw (same 0 (omega arith), filter_alike p q ns (λ k within. same (suc k) (omega arith))) refl

-- ---- places

goes_alike : (plan : List Site) (a b : ℕ) → AreDistinct plan → a < length plan → b < length plan
    → goes_before plan a b ≡ semantics.goes_before plan (site_in plan a) (site_in plan b)
goes_alike plan a b distinct within_a within_b = λ i.
    nat_lt (site_in plan a).head.priority (site_in plan b).head.priority
    || (nat_eq (site_in plan a).head.priority (site_in plan b).head.priority
    && nat_lt (sym (place_is plan a distinct within_a) i) (sym (place_is plan b distinct within_b) i))

-- ---- variables

-- the first cell of a target's variable
abbrev pub first_of : List Site → TargetData → ℕ
first_of plan target = (place_of plan target.owner target.name).first

pub written_is : (plan : List Site) (body : BodyData)
    → written (numbered_body plan body) ≡ option_map (first_of plan) (target_of body)
written_is plan Nothing = refl
written_is plan (Assign target value) = refl
written_is plan (Command name args None) = refl
written_is plan (Command name args (Some target)) = refl
written_is plan (Update pairs) = refl

-- two targets are of one variable just where they have one first cell
pub same_variable : (plan : List Site) (target other : TargetData) → IsSound plan
    → IsDeclared plan target.owner target.name → IsDeclared plan other.owner other.name
    → nat_eq (first_of plan target) (first_of plan other) ≡ is_same_variable other target
same_variable plan target other sound here there =
    same_bool (nat_eq (first_of plan target) (first_of plan other)) (is_same_variable other target)
    (λ first.
    let both = one_variable plan target.owner target.name other.owner other.name sound here there
    (eqb-true (first_of plan target) (first_of plan other) first) in
    and_from (is_same other.owner target.owner) (is_same other.name target.name)
    (subst (λ owner. is_same other.owner owner ≡ true) (sym both.0) (same-self other.owner))
    (subst (λ name. is_same other.name name ≡ true) (sym both.1) (same-self other.name)))
    (λ same.
    let both = and_parts (is_same other.owner target.owner) (is_same other.name target.name) same in
    let owner : other.owner ≡ target.owner = same_text other.owner target.owner (sym both.0) in
    let name : other.name ≡ target.name = same_text other.name target.name (sym both.1) in
    eq-eqb (first_of plan target) (first_of plan other) (λ i. (place_of plan (sym owner i) (sym name i)).first))

-- a node with another body
abbrev with_body : Site → BodyData → Site
with_body site body = record site { head = record site.head { body = body } }

writes_alike : (plan : List Site) (target : TargetData) (node : ℕ) → IsSound plan → IsDeclared plan target.owner target.name
    → node < length plan → writes plan (first_of plan target) node ≡ semantics.writes target (site_in plan node)
writes_alike plan target node sound here within =
    by (site_in plan node).head.body (λ other is. target_declared plan node other sound within is)
  where
    by : (body : BodyData) → ((other : TargetData) → target_of body ≡ Some other → IsDeclared plan other.owner other.name)
        → of_variable (nat_eq (first_of plan target)) (written (numbered_body plan body))
        ≡ semantics.writes target (with_body (site_in plan node) body)
    by Nothing there = refl
    by (Assign other value) there = same_variable plan target other sound here (there other refl)
    by (Command name args None) there = refl
    by (Command name args (Some other)) there = same_variable plan target other sound here (there other refl)
    by (Update pairs) there = refl

pub writes_is : (plan : List Site) (variable node : ℕ) → writes plan variable node ≡ true → variable_of plan node ≡ Some variable
writes_is plan variable node passes = by (variable_of plan node) passes
  where
    by : (own : Option ℕ) → of_variable (nat_eq variable) own ≡ true → own ≡ Some variable
    by None passes = absurd (false≢true passes)
    by (Some own) passes = ap Some (sym (eqb-true variable own passes))

writes_writer : (plan : List Site) (variable node : ℕ) → writes plan variable node ≡ true → is_writer plan node ≡ true
writes_writer plan variable node passes = ap is_some (writes_is plan variable node passes)

-- ---- who keeps a node back

not_both : (state : NodeState) → is_active state ≡ true → is_waiting state ≡ true → ⊥
not_both states.Waiting active waiting = false≢true active
not_both states.Inactive active waiting = false≢true active
not_both states.Executing active waiting = false≢true waiting
not_both states.Finishing active waiting = false≢true waiting
not_both states.Failing active waiting = false≢true waiting
not_both states.IterationEnded active waiting = false≢true active
not_both states.Finished active waiting = false≢true active

not_same : (a b : List ℕ) → a ≢ b → not (is_same a b) ≡ true
not_same a b differ = ap not (same-other a b differ)

keeps_from : (plan : List Site) (world : World) (target : TargetData) (site other : Site)
    → semantics.writes target other ≡ true → not (is_same other.path site.path) ≡ true → takes plan world site other ≡ true
    → keeps_back plan world target site other ≡ true
keeps_from plan world target site other writer differ taken =
    and_from (semantics.writes target other && not (is_same other.path site.path)) (takes plan world site other)
    (and_from (semantics.writes target other) (not (is_same other.path site.path)) writer differ) taken

record Kept (plan : List Site) (world : World) (wanting holding : List ℕ) (node : ℕ) (target : TargetData) : Type 0 where
  sound : IsSound plan
  within : node < length plan
  declared : IsDeclared plan target.owner target.name
  start : would_start plan world (site_in plan node) ≡ true
  all_want : All (λ node. node < length plan) wanting
  all_hold : All (λ node. node < length plan) holding
  are : AreWriters plan world wanting holding

kept_by_holder : (plan : List Site) (world : World) (wanting holding : List ℕ) (node : ℕ) (target : TargetData)
    → Kept plan world wanting holding node target → (k : ℕ) → k < length holding
    → writes plan (first_of plan target) (get_or holding k 0) ≡ true
    → list_any (keeps_back plan world target (site_in plan node)) plan ≡ true
kept_by_holder plan world wanting holding node target kept k inside passes =
    let other : ℕ = get_or holding k 0 in
    let there : other < length plan = kept.all_hold k 0 inside in
    let holds : holds_variable world (site_in plan other) ≡ true =
    sym (kept.are.holds other there (writes_writer plan (first_of plan target) other passes))
    ∙ list_any_at (nat_eq other) holding k 0 inside (nat_eq_equiv.refl other) in
    let waits = and_parts (is_waiting (state_at world (site_in plan node).path)) _ kept.start in
    list_any_at (keeps_back plan world target (site_in plan node)) plan other no_site there
    (keeps_from plan world target (site_in plan node) (site_in plan other)
    (sym (writes_alike plan target other kept.sound kept.declared there) ∙ passes)
    (not_same (site_in plan other).path (site_in plan node).path (λ same.
    not_both (state_at world (site_in plan node).path)
    (subst (λ path. is_active (state_at world path) ≡ true) same holds) waits.0))
    (or_left (holds_variable world (site_in plan other))
    (would_start plan world (site_in plan other) && semantics.goes_before plan (site_in plan other) (site_in plan node)) holds))

kept_by_wanter : (plan : List Site) (world : World) (wanting holding : List ℕ) (node : ℕ) (target : TargetData)
    → Kept plan world wanting holding node target → (k : ℕ) → k < length wanting
    → (writes plan (first_of plan target) (get_or wanting k 0) && goes_before plan (get_or wanting k 0) node) ≡ true
    → list_any (keeps_back plan world target (site_in plan node)) plan ≡ true
kept_by_wanter plan world wanting holding node target kept k inside passes =
    let other : ℕ = get_or wanting k 0 in
    let there : other < length plan = kept.all_want k 0 inside in
    let both = and_parts (writes plan (first_of plan target) other) (goes_before plan other node) passes in
    let starts : would_start plan world (site_in plan other) ≡ true =
    kept.are.starts other there (list_any_at (nat_eq other) wanting k 0 inside (nat_eq_equiv.refl other)) in
    list_any_at (keeps_back plan world target (site_in plan node)) plan other no_site there
    (keeps_from plan world target (site_in plan node) (site_in plan other)
    (sym (writes_alike plan target other kept.sound kept.declared there) ∙ both.0)
    (not_same (site_in plan other).path (site_in plan node).path (λ same.
    let itself : other ≡ node = kept.sound.distinct other node there kept.within same in
    false≢true (sym (not_itself plan node) ∙ subst (λ other. goes_before plan other node ≡ true) itself both.1)))
    (or_right (holds_variable world (site_in plan other))
    (would_start plan world (site_in plan other) && semantics.goes_before plan (site_in plan other) (site_in plan node))
    (and_from (would_start plan world (site_in plan other))
    (semantics.goes_before plan (site_in plan other) (site_in plan node)) starts
    (sym (goes_alike plan other node kept.sound.distinct there kept.within) ∙ both.1))))

kept_by_number : (plan : List Site) (world : World) (wanting holding : List ℕ) (node : ℕ) (target : TargetData)
    → Kept plan world wanting holding node target → (other : ℕ) → other < length plan
    → keeps_back plan world target (site_in plan node) (site_in plan other) ≡ true
    → is_kept_from plan wanting holding node (first_of plan target) ≡ true
kept_by_number plan world wanting holding node target kept other there passes =
    let variable : ℕ = first_of plan target in
    let rest = and_parts
    (semantics.writes target (site_in plan other) && not (is_same (site_in plan other).path (site_in plan node).path))
    (takes plan world (site_in plan node) (site_in plan other)) passes in
    let own = and_parts (semantics.writes target (site_in plan other))
    (not (is_same (site_in plan other).path (site_in plan node).path)) rest.0 in
    let writer : writes plan variable other ≡ true = writes_alike plan target other kept.sound kept.declared there ∙ own.0 in
    let is : is_writer plan other ≡ true = writes_writer plan variable other writer in
    let held : Bool = list_any (writes plan variable) holding in
    elim (or_cases (holds_variable world (site_in plan other))
    (would_start plan world (site_in plan other) && semantics.goes_before plan (site_in plan other) (site_in plan node)) rest.1) [
      | inl holds ↦
          or_left held _ (found_among (writes plan variable) other holding (kept.are.holds other there is ∙ holds) writer)
      | inr wants ↦
          let both = and_parts (would_start plan world (site_in plan other))
          (semantics.goes_before plan (site_in plan other) (site_in plan node)) wants in
          or_right held _ (found_among (λ other. writes plan variable other && goes_before plan other node) other wanting
          (kept.are.wants other there is both.0)
          (and_from (writes plan variable other) (goes_before plan other node) writer
          (goes_alike plan other node kept.sound.distinct there kept.within ∙ both.1)))
    ]

kept_alike : (plan : List Site) (world : World) (wanting holding : List ℕ) (node : ℕ) (target : TargetData)
    → Kept plan world wanting holding node target
    → is_kept_from plan wanting holding node (first_of plan target)
    ≡ list_any (keeps_back plan world target (site_in plan node)) plan
kept_alike plan world wanting holding node target kept =
    let variable : ℕ = first_of plan target in
    let other_keeps : Bool = list_any (keeps_back plan world target (site_in plan node)) plan in
    same_bool (is_kept_from plan wanting holding node variable) other_keeps
    (λ is. elim (or_cases (list_any (writes plan variable) holding) _ is) [
      | inl held ↦
          any_shows (writes plan variable) holding 0 other_keeps
          (kept_by_holder plan world wanting holding node target kept) held
      | inr wanted ↦
          any_shows (λ other. writes plan variable other && goes_before plan other node) wanting 0 other_keeps
          (kept_by_wanter plan world wanting holding node target kept) wanted
    ])
    (any_shows (keeps_back plan world target (site_in plan node)) plan no_site
    (is_kept_from plan wanting holding node variable)
    (kept_by_number plan world wanting holding node target kept))

-- ---- losers

pub loser_alike : (plan : List Site) (world : World) (wanting holding : List ℕ) (node : ℕ) → IsSound plan → node < length plan
    → All (λ node. node < length plan) wanting → All (λ node. node < length plan) holding
    → AreWriters plan world wanting holding → would_start plan world (site_in plan node) ≡ true
    → is_loser plan wanting holding node ≡ is_loser_in plan world node
loser_alike plan world wanting holding node sound within all_want all_hold are start =
    by (target_of (site_in plan node).head.body) refl
  where
    by : (target : Option TargetData) → target_of (site_in plan node).head.body ≡ target
        → is_loser plan wanting holding node ≡ is_loser_in plan world node
    by None is =
        let none : variable_of plan node ≡ None =
        written_is plan (site_in plan node).head.body ∙ ap (option_map (first_of plan)) is in
        let never : semantics.is_loser plan world (site_in plan node) ≡ false = rw is refl in
        ap (of_variable (is_kept_from plan wanting holding node)) none ∙ sym never
    by (Some target) is =
        let some : variable_of plan node ≡ Some (first_of plan target) =
        written_is plan (site_in plan node).head.body ∙ ap (option_map (first_of plan)) is in
        let over : semantics.is_loser plan world (site_in plan node)
        ≡ (would_start plan world (site_in plan node) && list_any (keeps_back plan world target (site_in plan node)) plan) =
        rw is refl in
        ap (of_variable (is_kept_from plan wanting holding node)) some
        ∙ kept_alike plan world wanting holding node target (record {
          sound = sound;
          within = within;
          declared = target_declared plan node target sound within is;
          start = start;
          all_want = all_want;
          all_hold = all_hold;
          are = are;
        })
        ∙ sym (over ∙ ap (λ starts. starts && list_any (keeps_back plan world target (site_in plan node)) plan) start)

pub losers_alike : (plan : List Site) (world : World) (wanting holding : List ℕ) → IsSound plan
    → All (λ node. node < length plan) wanting → All (λ node. node < length plan) holding
    → AreWriters plan world wanting holding
    → filter (is_loser plan wanting holding) wanting
    ≡ filter (is_loser_in plan world) wanting
losers_alike plan world wanting holding sound all_want all_hold are =
    filter_alike (is_loser plan wanting holding) (is_loser_in plan world) wanting
    (λ k inside.
    let node : ℕ = get_or wanting k 0 in
    let there : node < length plan = all_want k 0 inside in
    loser_alike plan world wanting holding node sound there all_want all_hold are
    (are.starts node there (list_any_at (nat_eq node) wanting k 0 inside (nat_eq_equiv.refl node))))
