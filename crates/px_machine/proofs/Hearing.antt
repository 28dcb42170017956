-- Which reports an event changes: those of the name that is heard of, at most.
use Rattle.std.proofs.Common.{◌≡◌, ◌≢◌, ℕ, ◌<◌, Bool, true, false, not, ◌&&◌, cond, [], ◌∷◌, ◌++◌, position, List, length, get_or, Option, Some, None, AllPairs, refl, ap, sym, ◌∙◌, subst, arith, if◌then◌else◌}
use Rattle.std.specs.Cmp.Lexicographic.{pointwise, same_text}
use Rattle.std.specs.List.{flat_map, list_any}
use Rattle.std.specs.Option.{option_and_then, option_map, unwrap_or}
use Rattle.std.proofs.lemmas.Bool.{and_parts, cond_both, false_from_ne_true}
use Rattle.px_value.specs.declared.value.Value.{Value}
use Rattle.px_value.specs.declared.value.Value.TheVariants.{Unknown}
use Rattle.px_value.specs.Value.{is_known}
use Rattle.px_value.proofs.General.{once_push, position_is}
use Rattle.px_core.specs.Plan.{Site, is_same}
use Rattle.px_core.proofs.Paths.{same-self, same-other}
use Rattle.px_event.specs.declared.event.Event.{Event}
use Rattle.px_event.specs.declared.event.Event.TheVariants as events
use Rattle.px_event.specs.Values.{value_eq}
use Rattle.px_sem.specs.Events.{first_report, next_report, reported}
use Rattle.px_sem.specs.Expressions.{read_report}
use Rattle.px_sem.specs.Tolerances.{tolerances}
use Rattle.px_sem.specs.World.{LookState, Report, is_same_state, latched_at, report_at}
use Rattle.px_flat.specs.Lookups.{lookups_in_head, lookups_of, with_name}
use Rattle.px_flat.specs.Numbered.{reported_of}
use Rattle.px_flat.specs.Sources.{Reports, IsSameReport}
use Rattle.px_cached.specs.Cached.{CachedData, is_touched}
use Rattle.px_cached.specs.Conditions.{source_number}
use Rattle.px_cached.proofs.Seeing.{was_untouched}
use Rattle.px_lookup.specs.Reports.{HasStayed, ReportsData, reports_after}
use Rattle.px_parts.specs.declared.parts.Parts.{Parts}
use Rattle.px_parts.specs.Parts.{plan_in}
use Rattle.px_micro.proofs.Hits.{fold_keeps}
use Rattle.px_machine.specs.Hearing.{heard_by}
use Rattle.px_machine.specs.Seen.{IsSeen}

-- ---- names

-- each name stands once
name_apart : (found : List (List ℕ)) (name : List ℕ) → AllPairs (λ a b. a ≢ b) found → AllPairs (λ a b. a ≢ b) (with_name found name)
name_apart found name apart =
    cond_both (list_any (is_same name) found) found (found ++ name ∷ []) (AllPairs (λ (a b : List ℕ). a ≢ b)) (λ _. apart)
    (λ fresh. once_push is_same same-self found name fresh apart)

names_differ : (plan : List Site) → AllPairs (λ a b. a ≢ b) (lookups_of plan)
names_differ plan =
    fold_keeps with_name (AllPairs (λ a b. a ≢ b)) (λ name. Unit {0}) (λ found name fit. name_apart found name)
    (flat_map (λ site. lookups_in_head site.head) plan) [] (λ k d inside. tt) (λ i j d before inside. absurd (omega (arith, inside)))

-- the number of a name is the one where it stands
number_is : (plan : List Site) (name : List ℕ) (number : ℕ) → number < length (lookups_of plan)
    → is_same name (get_or (lookups_of plan) number []) ≡ true → position (is_same name) (lookups_of plan) ≡ Some number
number_is plan name number within same =
    let names : List (List ℕ) = lookups_of plan in
    position_is (is_same name) names number [] within
    (λ k before. same-other name (get_or names k []) (λ is.
    names_differ plan k number [] before within (sym is ∙ same_text name (get_or names number []) (sym same))))
    same

-- ---- reports

-- a report of another name is no matter
report_elsewhere : (tolerances : List ℕ) (state : LookState) (given : Value) (reports : List (LookState × Report))
    (other : LookState) → is_same state.name other.name ≡ false
    → report_at (reported tolerances state given reports) other ≡ report_at reports other
report_elsewhere tolerances state given [] other apart =
    ap (λ same. cond (same && pointwise value_eq state.args other.args) (Some (first_report tolerances given)) None) apart
report_elsewhere tolerances state given (report ∷ reports) other apart =
    by (is_same_state report.0 state) refl (report_elsewhere tolerances state given reports other apart)
  where
    by : (same : Bool) → is_same_state report.0 state ≡ same
        → report_at (reported tolerances state given reports) other ≡ report_at reports other
        → report_at (if same then (report.0, next_report report.1 given) ∷ reports
        else report ∷ reported tolerances state given reports) other
        ≡ report_at (report ∷ reports) other
    by false is rest = λ i. cond (is_same_state report.0 other) (Some report.1) (rest i)
    by true is rest =
        let both = and_parts (is_same report.0.name state.name) (pointwise value_eq report.0.args state.args) is in
        let name : report.0.name ≡ state.name = same_text report.0.name state.name (sym both.0) in
        let differs : is_same report.0.name other.name ≡ false = ap (λ name. is_same name other.name) name ∙ apart in
        ap (λ same. cond (same && pointwise value_eq report.0.args other.args) (Some (next_report report.1 given)) (report_at reports other)) differs
        ∙ sym (ap (λ same. cond (same && pointwise value_eq report.0.args other.args) (Some report.1) (report_at reports other)) differs)

-- the same report reads the same
read_alike : (one other : List (LookState × Report)) (state : LookState) (tolerance : Option ℕ)
    → report_at one state ≡ report_at other state → read_report one state tolerance ≡ read_report other state tolerance
read_alike one other state None same = ap (option_map (λ (report : Report). report.last)) same
read_alike one other state (Some tolerance) same =
    ap (option_and_then (λ (report : Report). latched_at report tolerance)) same

reported_elsewhere : (tolerances : List ℕ) (state : LookState) (given : Value) (reports : List (LookState × Report))
    (name : List ℕ) (args : List Value) (tolerance : Option ℕ) → is_same state.name name ≡ false
    → reported_of (reported tolerances state given reports) name args tolerance ≡ reported_of reports name args tolerance
reported_elsewhere tolerances state given reports name args tolerance apart i =
    if list_any (λ arg. not (is_known arg)) args then Unknown
    else unwrap_or (read_alike (reported tolerances state given reports) reports (record { name = name; args = args }) tolerance
    (report_elsewhere tolerances state given reports (record { name = name; args = args }) apart) i) Unknown

-- what a tolerance has latched reads the same where it has stayed
pub stayed_reads : (plan : List Site) (held : ReportsData) (lookup tolerance : ℕ) → HasStayed held tolerance
    → IsSameReport plan (unwrap_or held.marked []) held.reports lookup (Some tolerance)
stayed_reads plan held lookup tolerance stayed args i =
    if list_any (λ arg. not (is_known arg)) args then Unknown
    else unwrap_or (stayed (record { name = get_or (lookups_of plan) lookup []; args = args }) i) Unknown

-- an event that is no report changes none; a report those of its own name
pub others_stay : (plan : List Site) (event : Event) (reports : List (LookState × Report)) (number : ℕ) (tolerance : Option ℕ)
    → number < length (lookups_of plan) → heard_by plan event ≢ Some number
    → IsSameReport plan reports (reports_after (tolerances plan) event reports) number tolerance
others_stay plan (events.Report name args value) reports number tolerance within other given =
    sym (reported_elsewhere (tolerances plan) (record { name = name; args = args }) value reports (get_or (lookups_of plan) number []) given tolerance
    (false_from_ne_true (is_same name (get_or (lookups_of plan) number [])) (λ same. other (number_is plan name number within same))))
others_stay plan (events.Handle node handle) reports number tolerance within other given = refl
others_stay plan (events.Return node value) reports number tolerance within other given = refl
others_stay plan (events.AbortDone node) reports number tolerance within other given = refl
others_stay plan (events.Acknowledged node) reports number tolerance within other given = refl

-- ---- what was seen stays what was seen, as the world goes on and back

-- The cells that were seen are the same, and so is what is read of reports where it isn't touched.
pub seen_then : (old new : Parts) (before after : CachedData) → IsSeen old before → new.cells.seen ≡ old.cells.seen
    → plan_in new ≡ plan_in old → after.seen ≡ before.seen
    → ((source : ℕ) → is_touched before source ≡ true → is_touched after source ≡ true)
    → ((number : ℕ) (tolerance : Option ℕ) → number < length (lookups_of (plan_in old))
    → is_touched after (source_number (plan_in old) (Reports number tolerance)) ≡ false
    → IsSameReport (plan_in old) old.reports.reports new.reports.reports number tolerance)
    → IsSeen new after
seen_then old new before after seen cells plan same touched others = record {
  cells = (λ i. (same i).cells) ∙ seen.cells ∙ sym cells;
  reports = subst (λ (sites : List Site). (number : ℕ) (tolerance : Option ℕ) → number < length (lookups_of sites)
      → is_touched after (source_number sites (Reports number tolerance)) ≡ false
      → IsSameReport sites after.seen.reports new.reports.reports number tolerance) (sym plan)
      (λ number tolerance within untouched args.
      (λ i. reported_of (same i).reports (get_or (lookups_of (plan_in old)) number []) args tolerance)
      ∙ seen.reports number tolerance within
      (was_untouched before after (source_number (plan_in old) (Reports number tolerance)) touched untouched) args
      ∙ others number tolerance within untouched args);
}
