-- From one call of a disk to the next: what it keeps over both, and how its faults are counted.
use Rattle.std.proofs.Common.{◌≡◌, ◌≢◌, ◌≤◌, ℕ, Bool, List, length, Option, refl, sym, ◌∙◌, ap, arith}
use Rattle.std.proofs.lemmas.List.{take_all}
use Rattle.std.specs.Prelude.{Result, Ok, Err, IsErrAnd, is_some}
use Rattle.std.proofs.result.Match.{err_is}
use Rattle.px_value.proofs.General.{begins_further}
use Rattle.px_ports.specs.Disk.{CountsFaults, OnlyReads, StaysAttached, Syncs}
use Rattle.px_ports.specs.Host.{Rose}
use Rattle.px_ports.specs.Moment.{Elapses, Stays}
use Rattle.px_ports.specs.declared.disk.Disk
use Rattle.px_ports.specs.declared.disk.DiskFault.{DiskFault}
use Rattle.px_journal.specs.declared.fault.CreateWhy.TheVariants as CreateWhy
use Rattle.px_journal.specs.declared.fault.RecoverWhy.TheVariants as RecoverWhy
use Rattle.px_journal.specs.Goes.{RisesWhere, Goes, Reads}
use Rattle.px_journal.specs.Journal.{IsUnwritten}
use Rattle.px_journal.proofs.Moments.{elapses_on, reads_none, reads_on}

-- ---- counts

-- where a count rose, it rose since an earlier moment too
pub rose_on : (first before now : ℕ) → first ≤ before → Rose before now → Rose first now
rose_on first before now later rose = omega (arith, rose)

pub rises_none : {F : Type 0} (count : ℕ) → ¬ F → RisesWhere F count count
rises_none count unfailed = record { later = omega arith; rose = λ failed. absurd (unfailed failed); kept = λ right. refl }

pub rises_then : {F G : Type 0} {first before now : ℕ} → RisesWhere F first before → ¬ F → RisesWhere G before now → RisesWhere G first now
rises_then {F} {G} {first} {before} {now} early unfailed late = record {
  later = omega (arith, early.later, late.later);
  rose = λ failed. rose_on first before now early.later (late.rose failed);
  kept = λ right. late.kept right ∙ early.kept unfailed;
}

-- of a call of a disk that didn't fail, and of one that did, where that is told
pub rises_right : {T : Type 0} {before now : ℕ} {value : T} → CountsFaults before now (Ok value) → RisesWhere ⊥ before now
rises_right counts = record { later = counts.later; rose = λ failed. absurd failed; kept = λ right. counts.kept }

pub rises_failed : {T F : Type 0} {before now : ℕ} {fault : DiskFault} → CountsFaults {T = T} before now (Err fault) → F → RisesWhere F before now
rises_failed counts told = record { later = counts.later; rose = λ failed. counts.failed refl; kept = λ right. absurd (right told) }

-- a fault that is handed on is the fault that came
pub fault_came : {T E : Type 0} (result : Result T E) (given came : E) → IsErrAnd result (λ handed. handed ≡ came) → result ≡ Err given → came ≡ given
fault_came result given came handed same = let is = sym (err_is result came handed) ∙ same in cc

-- an error that `?` hands on is the call's
pub handed_to : {T U E : Type 0} {result : Result U E} {came why : E} → IsErrAnd result (λ given. given ≡ came) → ◌≡◌ {A = Result T E} (Err came) (Err why) → result ≡ Err why
handed_to {result = result} {came = came} handed same = let is = err_is result came handed in cc

pub handed_from : {T U E : Type 0} {result : Result U E} {came why : E} → IsErrAnd result (λ given. given ≡ came) → result ≡ Err why → ◌≡◌ {A = Result T E} (Err came) (Err why)
handed_from handed same = ap Err (fault_came _ _ _ handed same)

pub other_fault : {U E : Type 0} {result : Result U E} {came why : E} → IsErrAnd result (λ given. given ≡ came) → came ≢ why → result ≡ Err why → ⊥
other_fault handed other same = other (fault_came _ _ _ handed same)

-- an answer is no error, and want of memory is no fault of the disk
pub ok_no_err : {T E : Type 0} {value : T} {why : E} → ◌≡◌ {A = Result T E} (Ok value) (Err why) → ⊥
ok_no_err same = cc

pub create_memory_no_fault : CreateWhy.NoMemory ≢ CreateWhy.DiskFault
create_memory_no_fault same = cc

pub recover_memory_no_fault : RecoverWhy.NoMemory ≢ RecoverWhy.DiskFault
recover_memory_no_fault same = cc

-- the same failure, told in other words
pub rises_told : {F G : Type 0} {before now : ℕ} → RisesWhere F before now → (F → G) → (G → F) → RisesWhere G before now
rises_told counts to from = record {
  later = counts.later;
  rose = λ failed. counts.rose (from failed);
  kept = λ right. counts.kept (λ failed. right (to failed));
}

pub stays_on : {first before now : Option (List ℕ)} {first_attached before_attached now_attached : Bool} → StaysAttached first before first_attached before_attached
    → StaysAttached before now before_attached now_attached → StaysAttached first now first_attached now_attached
stays_on early late = record { bound = late.bound ∙ early.bound; attached = late.attached ∙ early.attached }

-- ---- disks

module _ {D : Type 0} (members : Disk.Ghosts D) where
  -- two calls that write nothing, one behind the other
  pub unwritten_then : {old mid new : D} → members.writes mid ≡ members.writes old → Elapses members.images Stays (members.moments old) (members.moments mid)
      → members.writes new ≡ members.writes mid → Elapses members.images Stays (members.moments mid) (members.moments new) → IsUnwritten members old new
  unwritten_then same early still late = record { writes = still ∙ same; elapses = elapses_on members.images Stays _ _ _ early late }

  -- a call of a disk that only reads, and didn't fail
  pub reads_by_call : {T : Type 0} {old new : D} (value : T)
      → OnlyReads members.images (members.content old) (members.content new) (members.moments old) (members.moments new)
      → members.writes new ≡ members.writes old
      → StaysAttached (members.bound_to old) (members.bound_to new) (members.is_attached old) (members.is_attached new)
      → CountsFaults (members.faults old) (members.faults new) (Ok value) → Reads members ⊥ old new
  reads_by_call value only unwritten stays counts = record {
    only = only;
    unwritten = unwritten;
    stays = stays;
    faults = rises_right counts;
  }

  -- and of one that failed, where that is told
  pub reads_by_fault : {T F : Type 0} {old new : D} {fault : DiskFault}
      → OnlyReads members.images (members.content old) (members.content new) (members.moments old) (members.moments new)
      → members.writes new ≡ members.writes old
      → StaysAttached (members.bound_to old) (members.bound_to new) (members.is_attached old) (members.is_attached new)
      → CountsFaults {T = T} (members.faults old) (members.faults new) (Err fault) → F → Reads members F old new
  reads_by_fault only unwritten stays counts told = record {
    only = only;
    unwritten = unwritten;
    stays = stays;
    faults = rises_failed counts told;
  }

  pub reads_nothing : {F : Type 0} (disk : D) → ¬ F → Reads members F disk disk
  reads_nothing disk unfailed = record {
    only = reads_none members.images (members.content disk) (members.moments disk);
    unwritten = refl;
    stays = record { bound = refl; attached = refl };
    faults = rises_none (members.faults disk) unfailed;
  }

  pub reads_then : {F G : Type 0} {old mid new : D} → Reads members F old mid → ¬ F → Reads members G mid new → Reads members G old new
  reads_then early unfailed late = record {
    only = reads_on members.images _ _ _ _ _ _ early.only late.only;
    unwritten = late.unwritten ∙ early.unwritten;
    stays = stays_on early.stays late.stays;
    faults = rises_then early.faults unfailed late.faults;
  }

  pub reads_told : {F G : Type 0} {old new : D} → Reads members F old new → (F → G) → (G → F) → Reads members G old new
  reads_told reads to from = record {
    only = reads.only;
    unwritten = reads.unwritten;
    stays = reads.stays;
    faults = rises_told reads.faults to from;
  }

  -- a call that didn't fail, whatever failing is called
  pub reads_right : {F G : Type 0} {old new : D} → Reads members F old new → ¬ F → ¬ G → Reads members G old new
  reads_right reads unfailed right = reads_told reads (λ failed. absurd (unfailed failed)) (λ failed. absurd (right failed))

  pub goes_none : {F : Type 0} (disk : D) → ¬ F → Goes members F disk disk
  goes_none disk unfailed = record {
    tells = refl;
    grows = take_all (length (members.moments disk)) (members.moments disk) (omega arith);
    stays = record { bound = refl; attached = refl };
    faults = rises_none (members.faults disk) unfailed;
  }

  -- a call that only reads, and a sync
  pub goes_by_reads : {F : Type 0} {old new : D} → Reads members F old new → Goes members F old new
  goes_by_reads reads = record {
    tells = ap is_some reads.only.bytes;
    grows = reads.only.elapses.grows;
    stays = reads.stays;
    faults = reads.faults;
  }

  pub goes_by_sync : {F : Type 0} {old new : D} {result : Result Unit DiskFault}
      → Syncs members.images (members.content old) (members.content new) (members.moments old) (members.moments new) result
      → StaysAttached (members.bound_to old) (members.bound_to new) (members.is_attached old) (members.is_attached new)
      → RisesWhere F (members.faults old) (members.faults new) → Goes members F old new
  goes_by_sync syncs stays faults = record {
    tells = syncs.tells;
    grows = syncs.elapses.grows;
    stays = stays;
    faults = faults;
  }

  pub goes_then : {F G : Type 0} {old mid new : D} → Goes members F old mid → ¬ F → Goes members G mid new → Goes members G old new
  goes_then early unfailed late = record {
    tells = late.tells ∙ early.tells;
    grows = begins_further _ _ _ early.grows late.grows;
    stays = stays_on early.stays late.stays;
    faults = rises_then early.faults unfailed late.faults;
  }

  pub goes_told : {F G : Type 0} {old new : D} → Goes members F old new → (F → G) → (G → F) → Goes members G old new
  goes_told goes to from = record {
    tells = goes.tells;
    grows = goes.grows;
    stays = goes.stays;
    faults = rises_told goes.faults to from;
  }

  pub goes_right : {F G : Type 0} {old new : D} → Goes members F old new → ¬ F → ¬ G → Goes members G old new
  goes_right goes unfailed right = goes_told goes (λ failed. absurd (unfailed failed)) (λ failed. absurd (right failed))
