-- What every kind of files keeps, and what becomes of a file that a host tells.
use Rattle.std.proofs.Common.{◌≡◌, ℕ, ◌<◌, inl, inr, List, Some, None, length, refl, arith, ap, subst, sym, ◌∙◌}
use Rattle.std.proofs.Math.Path.{Σ_path}
use Rattle.px_compile.proofs.Refusals.{one_plan, no_refusal}
use Rattle.px_core.specs.Plan.{Site, Tree}
use Rattle.px_output.specs.View.{View}
use Rattle.px_ports.specs.Host.{Files}
use Rattle.px_script.specs.Script.{Threads, Fault, script}
use Rattle.px_event.specs.declared.names.ThreadName.{ThreadName}
use Rattle.px_script.specs.declared.script.Script.{Script}
use Rattle.px_script.specs.declared.todo.Todo.{Todo}
use Rattle.px_ending.specs.Ending.{Ending}
use Rattle.px_run.specs.Course.{Course, Due, AfterFile}
use Rattle.px_run.specs.Reading.{FileKind, Seen, Content, Longer, Unreadable, Shows, Spells, Refuses, with_text, Holds, HoldsNone}
use Rattle.px_run.specs.Kinds.{plan_file, script_file}
use Rattle.px_run.proofs.SeenFiles.{WhereDue}

-- refusals have one status, bytes spell one thing, and none that is refused
pub record IsKind (A : Type 0) (kind : FileKind A) (status : ℕ) : Type 0 where
  pub too_long : kind.too_long.status ≡ status
  pub refused : (bytes : List ℕ) (ending : Ending) → kind.Refuses bytes ending → ending.status ≡ status
  pub one : (bytes : List ℕ) (a b : A) → kind.Spells bytes a → kind.Spells bytes b → a ≡ b
  pub never : (bytes : List ℕ) (a : A) (ending : Ending) → kind.Spells bytes a → kind.Refuses bytes ending → ⊥

pub plan_kind : IsKind Tree plan_file 3
plan_kind = record {
  too_long = refl;
  refused = λ bytes ending r. ap (λ e. e.status) r.3;
  one = λ bytes a b s t. one_plan bytes a b s t;
  never = λ bytes a ending s r. no_refusal bytes a r.0 r.1 s r.2;
}

-- a script is its threads and its names
pub same_script : (a b : Script) → a.threads ≡ b.threads → a.names ≡ b.names → a ≡ b
same_script a b threads names =
    let of : List Todo → List ThreadName → Script = λ threads names. record { threads = threads; names = names } in
    ap (λ threads. of threads a.names) threads ∙ ap (of b.threads) names

pub script_kind : (plan : List Site) → IsKind Script (script_file plan) 4
script_kind plan = record {
  too_long = refl;
  refused = λ bytes ending r. ap (λ e. e.status) r.3;
  one = λ bytes a b s t. same bytes a b s t;
  never = λ bytes a ending s r. none bytes a r.0 r.1 s r.2;
}
  where
    same : (bytes : List ℕ) (a b : Script) → script plan bytes ≡ Threads a.threads a.names → script plan bytes ≡ Threads b.threads b.names → a ≡ b
    same bytes a b s t =
        let both = sym s ∙ t in
        let threads : a.threads ≡ b.threads = cc in
        let names : a.names ≡ b.names = cc in
        same_script a b threads names

    none : (bytes : List ℕ) (a : Script) (number kind : ℕ) → script plan bytes ≡ Threads a.threads a.names → script plan bytes ≡ Fault number kind → ⊥
    none bytes a number kind s f = let both = sym s ∙ f in cc

-- a file whose text is asked for too
pub text_kind : (A : Type 0) (kind : FileKind A) (status : ℕ) → IsKind A kind status → IsKind (List ℕ × A) (with_text kind) status
text_kind A kind status is_kind = record {
  too_long = is_kind.too_long;
  refused = is_kind.refused;
  one = λ bytes a b s t. Σ_path {u = a} {v = b} (s.0 ∙ sym t.0) (is_kind.one bytes a.1 b.1 s.1 t.1);
  never = λ bytes a ending s r. is_kind.never bytes a.1 ending s.1 r;
}

pub holds_text : (A : Type 0) (kind : FileKind A) (files : Files) (name : List ℕ) (part : A) → (h : Holds kind files name part)
    → Holds (with_text kind) files name (h.0, part)
holds_text A kind files name part (bytes, here, short, spells) = (bytes, here, short, (refl, spells))

module _ (A : Type 0) (kind : FileKind A) (status : ℕ) (before now : View) (files : Files) (name : List ℕ) (is_kind : IsKind A kind status)
    (told : before.files ≡ Some files) where
  module _ (sound : ¬ (before.read_faults name < now.read_faults name)) where
    -- a file of the kind isn't refused
    not_refused : (part : A) (seen : Seen) (ending : Ending) → Holds kind files name part → Shows kind.limit before now name seen
        → Refuses kind seen ending → ⊥
    not_refused part Unreadable ending h shows refuses = sound shows
    not_refused part Longer ending (bytes, here, short, spells) shows refuses =
        let longer : kind.limit < length bytes = rw here at (shows files told) in omega arith
    not_refused part (Content found) ending (bytes, here, short, spells) (within, shows) refuses =
        let there = shows files told in
        let same : found ≡ bytes = cc in
        is_kind.never found part ending (subst (λ b. kind.Spells b part) (sym same) spells) refuses

    -- and spells one part
    same_part : (part other : A) (seen : Seen) → Holds kind files name part → Shows kind.limit before now name seen → Spells kind seen other → other ≡ part
    same_part part other Unreadable h shows spells = absurd spells
    same_part part other Longer h shows spells = absurd spells
    same_part part other (Content found) (bytes, here, short, spells) (within, shows) spelled =
        let there = shows files told in
        let same : found ≡ bytes = cc in
        is_kind.one found other part spelled (subst (λ b. kind.Spells b part) (sym same) spells)

    -- a file that is none of the kind is refused with its status
    status_of_none : (seen : Seen) (ending : Ending) → Shows kind.limit before now name seen → Refuses kind seen ending → ending.status ≡ status
    status_of_none Unreadable ending shows refuses = absurd (sound shows)
    status_of_none Longer ending shows is = ap (λ e. e.status) is ∙ is_kind.too_long
    status_of_none (Content found) ending shows refuses = is_kind.refused found ending refuses

    -- and spells nothing
    not_spelled : (other : A) (seen : Seen) → HoldsNone kind files name → Shows kind.limit before now name seen → Spells kind seen other → ⊥
    not_spelled other Unreadable h shows spells = spells
    not_spelled other Longer h shows spells = spells
    not_spelled other (Content found) (bytes, here, none) (within, shows) spelled =
        let there = shows files told in
        let same : found ≡ bytes = cc in
        elim none [
          | inl longer ↦ let more : kind.limit < length found = rw same longer in omega arith
          | inr refuses ↦ is_kind.never found other refuses.0 spelled (subst (λ b. kind.Refuses b refuses.0) (sym same) refuses.1)
        ]

    module _ (so_far : Course) (Next : A → Course → Due → Type 0) where
      -- what a file of the kind holds is what goes on
      pub held : (part : A) (course : Course) (due : Due) → Holds kind files name part → AfterFile kind before now name so_far Next course due
          → WhereDue (λ ending. Next part course (Some ending)) due
      held part _ _ h AfterFile.no_memory = tt
      held part _ _ h (AfterFile.refused seen ending shows refuses) = absurd (not_refused part seen ending h shows refuses)
      held part _ _ h (AfterFile.read seen other course None shows spells next) = tt
      held part _ _ h (AfterFile.read seen other course (Some ending) shows spells next) =
          subst (λ p. Next p course (Some ending)) (same_part part other seen h shows spells) next

      pub none_held : (course : Course) (due : Due) → HoldsNone kind files name → AfterFile kind before now name so_far Next course due
          → WhereDue (λ ending. ending.status ≡ status) due
      none_held _ _ h AfterFile.no_memory = tt
      none_held _ _ h (AfterFile.refused seen ending shows refuses) = status_of_none seen ending shows refuses
      none_held _ _ h (AfterFile.read seen other course due shows spells next) = absurd (not_spelled other seen h shows spells)
