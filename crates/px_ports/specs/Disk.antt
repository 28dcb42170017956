-- What the calls of a disk answer, and what they change.
use Rattle.std.specs.Prelude.{◌≡◌, ◌≤◌, ◌⊎◌, ℕ, Bool, true, List, length, Option, Some, Result, OnOk, OnErr, IsErr, is_some}
use Rattle.std.specs.Option.{option_map, ForSome}
use Rattle.px_ports.specs.Host.{Rose}
use Rattle.px_ports.specs.Moment.{Images, overwritten, Torn, Elapses, Stays}
use Rattle.px_ports.specs.declared.disk.DiskFault.{DiskFault}
use Rattle.px_ports.specs.declared.moment.Moment.{Moment}

-- bytes that are told, or none
abbrev pub Told : Type 0
Told = Option (List ℕ)

-- the disk is bound to no other name
abbrev pub IsFreeFor : List ℕ → Option (List ℕ) → Type 0
IsFreeFor name bound = ForSome bound (λ other. other ≡ name)

-- at Ok the disk is bound to the name and attached; after a fault it is bound to the name or as before
pub record Attaches (name : List ℕ) (bound_old bound_new : Option (List ℕ)) (attached_old attached_new : Bool)
    (result : Result Unit DiskFault) : Type 0 where
  pub bound : OnOk result (bound_new ≡ Some name)
  pub attached : OnOk result (attached_new ≡ true)
  pub bound_err : OnErr result ((bound_new ≡ Some name) ⊎ (bound_new ≡ bound_old))
  pub attached_err : OnErr result (attached_new ≡ attached_old)

-- the name and the attachment stay
pub record StaysAttached (bound_old bound_new : Option (List ℕ)) (attached_old attached_new : Bool) : Type 0 where
  pub bound : bound_new ≡ bound_old
  pub attached : attached_new ≡ attached_old

-- a call fails only where the count rose; the count never falls, and Ok leaves it as it was
pub record CountsFaults {T : Type 0} (before now : ℕ) (result : Result T DiskFault) : Type 0 where
  pub later : before ≤ now
  pub failed : IsErr result → Rose before now
  pub kept : OnOk result (now ≡ before)

-- no byte changes, and no image
pub record OnlyReads (images : Images) (old new : Told) (before now : List Moment) : Type 0 where
  pub bytes : new ≡ old
  pub elapses : Elapses images Stays before now
  pub kept : (image : List ℕ) → images before image → images now image

-- no call cuts the file: a read gives at least as many bytes as before, where the disk tells them
abbrev pub NoShorter : Told → Told → Type 0
NoShorter old new = ForSome old (λ was. ForSome new (λ is. length was ≤ length is))

-- at Ok the bytes stand in their range and the others as before; whatever the answer, a crash may tear the range and
-- nothing else: `elapses`, by `Torn`, is the guarantee that a torn write spares the bytes around it
pub record Writes (images : Images) (at : ℕ) (bytes : List ℕ) (old new : Told)
    (before now : List Moment) (result : Result Unit DiskFault) : Type 0 where
  pub written : OnOk result (new ≡ option_map (overwritten at bytes) old)
  pub tells : is_some new ≡ is_some old
  -- also where the write failed
  pub no_shorter : NoShorter old new
  pub elapses : Elapses images (Torn at (length bytes)) before now

-- at Ok the one image is what a read gives; whatever the answer, each image is one from before: `synced` is the
-- guarantee that synced bytes are not lost
pub record Syncs (images : Images) (old new : Told)
    (before now : List Moment) (result : Result Unit DiskFault) : Type 0 where
  pub bytes : OnOk result (new ≡ old)
  pub synced : OnOk result (ForSome old (λ told. (image : List ℕ) → images now image → image ≡ told))
  pub tells : is_some new ≡ is_some old
  -- also where the sync failed
  pub no_shorter : NoShorter old new
  pub elapses : Elapses images Stays before now
