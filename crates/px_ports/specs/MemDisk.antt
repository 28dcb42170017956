-- What a disk in memory holds, and how it answers.
use Rattle.std.specs.Prelude.{◌≡◌, ℕ, Bool, true, false, List, [], ◌∷◌, length, Option, None, Some, unwrap_or, Result, OnOk, OnErr}
use Rattle.px_ports.specs.Calls.{CallsState, call_fails, after_call}
use Rattle.px_ports.specs.Contents.{ContentsState, Adds, AddsIfRoom}
use Rattle.px_ports.specs.declared.disk.DiskFault.{DiskFault}
use Rattle.px_ports.specs.declared.moment.Moment.TheVariants.{Began, Wrote, FailedToWrite, Synced}

pub record MemDiskState : Type 0 where
  pub bound : Option (List ℕ)
  pub attached : Bool
  pub calls : CallsState
  pub contents : ContentsState

-- a disk with these bytes before its first call
pub record IsNew (bytes failing : List ℕ) (stop_after : Option ℕ) (disk : MemDiskState) : Type 0 where
  pub bound : disk.bound ≡ None
  pub attached : disk.attached ≡ false
  pub calls : disk.calls ≡ record { failing = failing; stop_after = stop_after; made = 0; faults = 0 }
  pub moments : disk.contents.moments ≡ Began bytes ∷ []

-- the call fails where it is to fail, and is counted
pub record CallsNext {T : Type 0} (old new : MemDiskState) (result : Result T DiskFault) : Type 0 where
  pub ok : OnOk result (call_fails old.calls ≡ false)
  pub after : new.calls ≡ after_call old.calls result

-- the disk keeps the name that it has, and else this one
pub record AttachesNext (name : List ℕ) (old new : MemDiskState) (result : Result Unit DiskFault) : Type 0 where
  pub calls : CallsNext old new result
  pub ok : OnOk result (new ≡ record old {
    bound = Some (unwrap_or old.bound name);
    attached = true;
    calls = new.calls;
  })
  pub err : OnErr result (new ≡ record old { calls = new.calls })

-- a call that asks for no memory fails nowhere else, and changes nothing but the count of calls and of faults
pub record ReadsNext {T : Type 0} (old new : MemDiskState) (result : Result T DiskFault) : Type 0 where
  pub calls : CallsNext old new result
  pub failed : OnErr result (call_fails old.calls ≡ true)
  pub same : new ≡ record old { calls = new.calls }

-- the write is the next moment, or else the failed write is, if there was room for it
pub record WritesNext (at : ℕ) (bytes : List ℕ) (old new : MemDiskState) (result : Result Unit DiskFault) : Type 0 where
  pub calls : CallsNext old new result
  pub wrote : OnOk result (Adds (Wrote at bytes) old.contents new.contents)
  pub failed : OnErr result (AddsIfRoom (FailedToWrite at (length bytes)) old.contents new.contents)
  pub same : new ≡ record old { calls = new.calls; contents = new.contents }

-- at Ok the sync is the next moment; a failed one adds none
pub record SyncsNext (old new : MemDiskState) (result : Result Unit DiskFault) : Type 0 where
  pub calls : CallsNext old new result
  pub synced : OnOk result (Adds Synced old.contents new.contents)
  pub failed : OnErr result (new.contents.moments ≡ old.contents.moments)
  pub same : new ≡ record old { calls = new.calls; contents = new.contents }
