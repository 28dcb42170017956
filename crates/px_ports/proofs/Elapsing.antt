-- What one moment more of a disk in memory means to a crash.
use Rattle.std.proofs.Common.{◌≡◌, ◌≤◌, ◌⊎◌, ⊎_elim, ℕ, List, [], ◌∷◌, ◌++◌, length, take, refl, sym, ◌∙◌, ap, subst, arith, inl, inr}
use Rattle.std.specs.Prelude.{Result, Ok, Err, IfOk, Some, Vec}
use Rattle.std.proofs.lemmas.Bool.{cases_lt}
use Rattle.std.proofs.lemmas.List.{take_at, take_all, length_push}
use Rattle.std.proofs.lemmas.Result.{IfOk-weaker}
use Rattle.px_ports.specs.Moment.{overwritten, Torn, Elapses, Stays}
use Rattle.px_ports.specs.Disk.{NoShorter, Writes, Syncs}
use Rattle.px_ports.specs.Replay.{read_after, LeftByWrite, MayLeave, read_of, images_of, picked}
use Rattle.px_ports.specs.ReplayLaws.{Torn-same, length-overwritten, picked-left, read_of-left}
use Rattle.px_ports.specs.declared.disk.DiskFault.{DiskFault}
use Rattle.px_ports.specs.declared.moment.Moment.{Moment}
use Rattle.px_ports.specs.declared.moment.Moment.TheVariants.{Began, Wrote, FailedToWrite, Synced}
use Rattle.px_ports.specs.declared.pick.Pick.{Pick}
use Rattle.px_ports.proofs.Replays.{read_of-push}

MayLeave-append : (left : List ℕ → Type 0) (read : List ℕ) (moments more : List Moment) (image : List ℕ)
    → MayLeave left read (moments ++ more) image → MayLeave (MayLeave left read moments) (read_after read moments) more image
MayLeave-append left read [] more image is = is
MayLeave-append left read (Began bytes ∷ moments) more image is = MayLeave-append (λ image. image ≡ bytes) bytes moments more image is
MayLeave-append left read (Wrote at bytes ∷ moments) more image is =
    MayLeave-append (LeftByWrite left at (length bytes) (overwritten at bytes read)) (overwritten at bytes read) moments more image is
MayLeave-append left read (FailedToWrite at n ∷ moments) more image is = MayLeave-append (LeftByWrite left at n read) read moments more image is
MayLeave-append left read (Synced ∷ moments) more image is = MayLeave-append (λ image. image ≡ read) read moments more image is

-- what a crash leaves after one moment more
images_of-push : (moments : List Moment) (moment : Moment) (image : List ℕ) → images_of (moments ++ moment ∷ []) image
    → MayLeave (images_of moments) (read_of moments) (moment ∷ []) image
images_of-push moments moment image is = MayLeave-append (λ image. image ≡ []) [] moments (moment ∷ []) image is

abbrev Comes : (List ℕ → List ℕ → Type 0) → List Moment → List ℕ → Type 0
Comes step moments image = (before : List ℕ) × images_of moments before × step before image

module _ (step : List ℕ → List ℕ → Type 0) (stays : (file : List ℕ) → step file file) where
  pub elapses_same : (moments later : List Moment) → later ≡ moments → Elapses images_of step moments later
  elapses_same moments later is = subst (Elapses images_of step moments) (sym is) (record {
    grows = take_all (length moments) moments (omega arith);
    each = λ image left. (image, subst (λ (ms : List Moment). images_of ms image) (take_all left.0 moments (left.1)) left.3, stays image);
  })

  pub elapses_push : (moments later : List Moment) (moment : Moment) → later ≡ moments ++ moment ∷ []
      → ((image : List ℕ) → MayLeave (images_of moments) (read_of moments) (moment ∷ []) image → Comes step moments image) → Elapses images_of step moments later
  elapses_push moments later moment is comes = subst (Elapses images_of step moments) (sym is) (record {
    grows = take_at moments (moment ∷ []) (length moments) refl;
    each = λ image left. each image left.0 left.1 left.2 left.3;
  })
    where
      each : (image : List ℕ) (now : ℕ) → length moments ≤ now → now ≤ length (moments ++ moment ∷ []) → images_of (take now (moments ++ moment ∷ [])) image → Comes step moments image
      each image now late within left = elim (cases_lt (length moments) now) [
        | inl after ↦
            let all : take now (moments ++ moment ∷ []) ≡ moments ++ moment ∷ [] = take_all now (moments ++ moment ∷ []) (omega (arith, length_push moments moment)) in
            comes image (images_of-push moments moment image (subst (λ (ms : List Moment). images_of ms image) all left))
        | inr here ↦
            let old : take now (moments ++ moment ∷ []) ≡ moments = take_at moments (moment ∷ []) now (omega arith) in
            (image, subst (λ (ms : List Moment). images_of ms image) old left, stays image)
      ]

-- ---- the calls

no_shorter_told : (old new : List ℕ) → length old ≤ length new → NoShorter (Some old) (Some new)
no_shorter_told old new fits was is_old is is_new =
    let before : old ≡ was = cc in
    let after : new ≡ is = cc in
    rw (← before, ← after) fits

no_shorter_same : (old new : List ℕ) → new ≡ old → NoShorter (Some old) (Some new)
no_shorter_same old new same = no_shorter_told old new (rw same (omega arith))

module _ (moments later : List Moment) where
  pub writes_ok : (at : ℕ) (bytes : List ℕ) → later ≡ moments ++ Wrote at bytes ∷ []
      → Writes images_of at bytes (Some (read_of moments)) (Some (read_of later)) moments later (Ok tt)
  writes_ok at bytes is = record {
    written = ap Some (read_of-push moments later (Wrote at bytes) is);
    tells = refl;
    no_shorter =
        let read : read_of later ≡ overwritten at bytes (read_of moments) = read_of-push moments later (Wrote at bytes) is in
        no_shorter_told (read_of moments) (read_of later) (rw read (omega (arith, length-overwritten at bytes (read_of moments))));
    elapses = elapses_push (Torn at (length bytes)) (Torn-same at (length bytes)) moments later (Wrote at bytes) is (λ image by. (by.0, by.1, by.2));
  }

  pub writes_err : (fault : DiskFault) (at : ℕ) (bytes : List ℕ) (room : ℕ) → (later ≡ moments ++ FailedToWrite at (length bytes) ∷ []) ⊎ ((room ≤ length moments) × (later ≡ moments))
      → Writes images_of at bytes (Some (read_of moments)) (Some (read_of later)) moments later (Err fault)
  writes_err fault at bytes room is = record {
    written = tt;
    tells = refl;
    no_shorter = no_shorter_same (read_of moments) (read_of later)
        (⊎_elim (λ added. read_of-push moments later (FailedToWrite at (length bytes)) added) (λ full. ap read_of full.1) is);
    elapses = ⊎_elim
        (λ added. elapses_push (Torn at (length bytes)) (Torn-same at (length bytes)) moments later (FailedToWrite at (length bytes)) added (λ image by. (by.0, by.1, by.2)))
        (λ full. elapses_same (Torn at (length bytes)) (Torn-same at (length bytes)) moments later full.1) is;
  }

  pub syncs_ok : later ≡ moments ++ Synced ∷ [] → Syncs images_of (Some (read_of moments)) (Some (read_of later)) moments later (Ok tt)
  syncs_ok is = record {
    bytes = ap Some (read_of-push moments later Synced is);
    synced = λ told same image left.
        let read : read_of moments ≡ told = cc in
        images_of-push moments Synced image (subst (λ (ms : List Moment). images_of ms image) is left) ∙ read;
    tells = refl;
    no_shorter = no_shorter_same (read_of moments) (read_of later) (read_of-push moments later Synced is);
    elapses = elapses_push Stays (λ file. refl) moments later Synced is (λ image read. (read_of moments, read_of-left moments, read));
  }

-- the picked image is one that a crash may leave
pub picked-if_ok : {Z E : Type 0} (result : Result (Vec ℕ Z) E) (pick : Pick) (moments : List Moment) → IfOk result (λ image. image.items ≡ picked pick moments)
    → IfOk result (λ image. images_of moments image.items)
picked-if_ok result pick moments is = IfOk-weaker result _ _ (λ image same. subst (images_of moments) (sym same) (picked-left pick moments)) is
