-- Files that were read, seen from further off, and what stops the reading of one.
use Rattle.std.proofs.Common.{◌≡◌, ℕ, ◌≤◌, List, Result, IfErr, IfSome, IsErrAnd, refl, ap, arith}
use Rattle.px_value.proofs.General.{handed_on}
use Rattle.px_compile.specs.Compiled.{IsRefused}
use Rattle.px_core.specs.Plan.{Tree}
use Rattle.px_syntax.specs.declared.fault.PlanFault.{PlanFault}
use Rattle.px_syntax.specs.declared.fault.PlanFault.TheVariants as plans
use Rattle.px_output.specs.View.{View, OnlyPrints, OnlyReads}
use Rattle.px_run.specs.Course.{Course, Due, AfterFile}
use Rattle.px_ending.specs.Ending.{Ending}
use Rattle.px_run.specs.Reading.{FileKind, Seen, Content, Longer, Unreadable, Shows, Reads, with_text}
use Rattle.px_run.specs.Kinds.{plan_file}
use Rattle.px_run.specs.Stops.{stop_of_plan, StopsReading}
use Rattle.px_run.specs.declared.stop.Stop.{Stop}

-- ---- what was seen of a file is so of the whole call

pub shows_later : (limit : ℕ) (old mid new : View) (name : List ℕ) (seen : Seen)
    → ((other : List ℕ) → mid.read_faults other ≤ new.read_faults other) → Shows limit old mid name seen → Shows limit old new name seen
shows_later limit old mid new name (Content bytes) later s = s
shows_later limit old mid new name Longer later s = s
shows_later limit old mid new name Unreadable later s = let rose = later name in omega arith

pub shows_since : (limit : ℕ) (old mid new : View) (name : List ℕ) (seen : Seen) → OnlyReads old mid → Shows limit mid new name seen
    → Shows limit old new name seen
shows_since limit old mid new name (Content bytes) only (within, s) = (within, rw (← only.files) s)
shows_since limit old mid new name Longer only s = rw (← only.files) s
shows_since limit old mid new name Unreadable only s = let rose = only.read_faults name in omega arith

-- so is what is read of it, where what is seen is
reads_by : (A : Type 0) (kind : FileKind A) (old new before now : View) (name : List ℕ) (part : A)
    → ((seen : Seen) → Shows kind.limit old new name seen → Shows kind.limit before now name seen)
    → Reads kind old new name part → Reads kind before now name part
reads_by A kind old new before now name part shows (seen, shown, spells) = (seen, shows seen shown, spells)

pub reads_later : (A : Type 0) (kind : FileKind A) (old mid new : View) (name : List ℕ) (part : A)
    → ((other : List ℕ) → mid.read_faults other ≤ new.read_faults other) → Reads kind old mid name part → Reads kind old new name part
reads_later A kind old mid new name part later = reads_by A kind old mid old new name part (λ seen. shows_later kind.limit old mid new name seen later)

pub reads_since : (A : Type 0) (kind : FileKind A) (old mid new : View) (name : List ℕ) (part : A) → OnlyReads old mid
    → Reads kind mid new name part → Reads kind old new name part
reads_since A kind old mid new name part only = reads_by A kind mid new old new name part (λ seen. shows_since kind.limit old mid new name seen only)

-- a plan of which the text was asked for too
pub without_text : (old new : View) (name : List ℕ) (source : List ℕ × Tree) → Reads (with_text plan_file) old new name source
    → Reads plan_file old new name source.1
without_text old new name source (Content bytes, shows, spells) = (Content bytes, shows, spells.1)
without_text old new name source (Longer, shows, spells) = absurd spells
without_text old new name source (Unreadable, shows, spells) = absurd spells

-- ---- and what is called for behind it

pub after_reading : (A : Type 0) (kind : FileKind A) (old new : View) (name : List ℕ) (part : A) (so_far : Course) (Next : A → Course → Due → Type 0)
    (course : Course) (due : Due) → Reads kind old new name part → Next part course due → AfterFile kind old new name so_far Next course due
after_reading A kind old new name part so_far Next course due (seen, shows, spells) next = AfterFile.read seen part course due shows spells next

after_by : (A : Type 0) (kind : FileKind A) (old new before now : View) (name : List ℕ) (so_far : Course) (Next More : A → Course → Due → Type 0)
    (course : Course) (due : Due) → ((seen : Seen) → Shows kind.limit old new name seen → Shows kind.limit before now name seen)
    → ((part : A) → Next part course due → More part course due) → AfterFile kind old new name so_far Next course due
    → AfterFile kind before now name so_far More course due
after_by A kind old new before now name so_far Next More _ _ shows widen AfterFile.no_memory = AfterFile.no_memory
after_by A kind old new before now name so_far Next More _ _ shows widen (AfterFile.refused seen ending shown refuses) =
    AfterFile.refused seen ending (shows seen shown) refuses
after_by A kind old new before now name so_far Next More _ _ shows widen (AfterFile.read seen part course due shown spells next) =
    AfterFile.read seen part course due (shows seen shown) spells (widen part next)

pub after_since : (A : Type 0) (kind : FileKind A) (old mid new : View) (name : List ℕ) (so_far : Course) (Next More : A → Course → Due → Type 0)
    (course : Course) (due : Due) → OnlyReads old mid → ((part : A) → Next part course due → More part course due)
    → AfterFile kind mid new name so_far Next course due → AfterFile kind old new name so_far More course due
after_since A kind old mid new name so_far Next More course due only =
    after_by A kind mid new old new name so_far Next More course due (λ seen. shows_since kind.limit old mid new name seen only)

pub after_later : (A : Type 0) (kind : FileKind A) (old mid new : View) (name : List ℕ) (so_far : Course) (Next More : A → Course → Due → Type 0)
    (course : Course) (due : Due) → ((other : List ℕ) → mid.read_faults other ≤ new.read_faults other)
    → ((part : A) → Next part course due → More part course due) → AfterFile kind old mid name so_far Next course due
    → AfterFile kind old new name so_far More course due
after_later A kind old mid new name so_far Next More course due later =
    after_by A kind old mid old new name so_far Next More course due (λ seen. shows_later kind.limit old mid new name seen later)

-- what holds of the ending that is due, where one is
abbrev pub WhereDue : (Ending → Type 0) → Due → Type 0
WhereDue Holds due = IfSome due Holds

-- ---- what was kept

pub reads_at_once : (now : View) → OnlyReads now now
reads_at_once now = record { files = refl; emitted = refl; read_faults = λ name. omega arith; write_faults = refl; idle = refl }

pub reads_kept : (mid new : View) → OnlyPrints mid new → (other : List ℕ) → mid.read_faults other ≤ new.read_faults other
reads_kept mid new only other = let same = ap (λ count. count other) only.read_faults in omega arith

-- ---- what stops the reading

-- bytes that are no plan, or for whose plan memory is wanting
plan_stopped : (old new : View) (name bytes : List ℕ) (fault : PlanFault) → Shows plan_file.limit old new name (Content bytes)
    → IsRefused bytes fault → StopsReading plan_file old new name (stop_of_plan fault)
plan_stopped old new name bytes (plans.NotText at) shows refused = (Content bytes, shows, (plans.NotText at, λ is. cc, refused, refl))
plan_stopped old new name bytes (plans.Lex fault) shows refused = (Content bytes, shows, (plans.Lex fault, λ is. cc, refused, refl))
plan_stopped old new name bytes (plans.Parse fault) shows refused = (Content bytes, shows, (plans.Parse fault, λ is. cc, refused, refl))
plan_stopped old new name bytes (plans.Check fault) shows refused = (Content bytes, shows, (plans.Check fault, λ is. cc, refused, refl))
plan_stopped old new name bytes (plans.Expand fault) shows refused = (Content bytes, shows, (plans.Expand fault, λ is. cc, refused, refl))
plan_stopped old new name bytes plans.NoMemory shows refused = tt

pub plan_refused : {A : Type 0} (old new : View) (name bytes : List ℕ) (fault : PlanFault) (r : Result A Stop) → IsErrAnd r (λ e. e ≡ stop_of_plan fault)
    → Shows plan_file.limit old new name (Content bytes) → IsRefused bytes fault → IfErr r (StopsReading plan_file old new name)
plan_refused old new name bytes fault r is shows refused =
    handed_on (StopsReading plan_file old new name) (stop_of_plan fault) r is (plan_stopped old new name bytes fault shows refused)
