-- The laws of a replay: what a read gives and what is picked are images, and no image is longer than what a read gives.
use Rattle.std.specs.Prelude.{◌≡◌, ◌≤◌, ◌+◌, ◌-◌, ◌<◌, ℕ, min, List, [], ◌∷◌, ◌++◌, length, take, drop, replicate, refl, Some}
use Rattle.std.specs.Option.{ForSome}
use Rattle.std.proofs.Common.{arith, get_or, subst}
use Rattle.std.proofs.lemmas.List.{length-append, length-take, length-drop, length-replicate, get_or-take, get_or-drop, get_or_append_left, get_or-append_right}
use Rattle.px_ports.specs.Moment.{overwritten, Torn}
use Rattle.px_ports.specs.Replay.{read_after, LeftByWrite, MayLeave, read_of, images_of, picked_write, picked_after, picked}
use Rattle.px_ports.specs.declared.moment.Moment.{Moment}
use Rattle.px_ports.specs.declared.moment.Moment.TheVariants.{Began, Wrote, FailedToWrite, Synced}
use Rattle.px_ports.specs.declared.pick.Pick.{Pick}
use Rattle.px_ports.specs.declared.pick.Pick.TheVariants.{Stable, Reads, Fill}

-- a write may leave the file as it was
pub Torn-same : (at n : ℕ) (file : List ℕ) → Torn at n file file
Torn-same at n file = record {
  no_shorter = omega arith;
  no_longer = omega arith;
  below = λ i before within. refl;
  above = λ i behind within. refl;
}

pub length-overwritten : (at : ℕ) (bytes file : List ℕ) → length (overwritten at bytes file) ≡ min at (length file) + length bytes + (length file - (at + length bytes))
length-overwritten at bytes file =
    omega (arith, length-append (take at file ++ bytes) (drop (at + length bytes) file), length-append (take at file) bytes, length-take at file, length-drop (at + length bytes) file)

-- and may leave any bytes in its range
pub Torn-overwritten : (at n : ℕ) (bytes file : List ℕ) → length bytes ≡ n → Torn at n file (overwritten at bytes file)
Torn-overwritten at n bytes file is = record {
  no_shorter = omega (arith, length-overwritten at bytes file);
  no_longer = omega (arith, length-overwritten at bytes file);
  below = λ i before within. below i before within;
  above = λ i behind within. above i behind within;
}
  where
    below : (i : ℕ) → i < at → i < length file → get_or (overwritten at bytes file) i 0 ≡ get_or file i 0
    below i before within =
        rw (
          get_or_append_left (take at file ++ bytes) (drop (at + length bytes) file) 0 i
              (omega (arith, length-append (take at file) bytes, length-take at file)),
          get_or_append_left (take at file) bytes 0 i (omega (arith, length-take at file)),
          get_or-take at file i 0 before,
        ) refl

    above : (i : ℕ) → at + n ≤ i → i < length file → get_or (overwritten at bytes file) i 0 ≡ get_or file i 0
    above i behind within =
        let front : length (take at file ++ bytes) ≡ at + n = omega (arith, length-append (take at file) bytes, length-take at file) in
        let place : at + length bytes + (i - (at + n)) ≡ i = omega arith in
        rw (get_or-append_right (take at file ++ bytes) (drop (at + length bytes) file) (at + n) i 0 front behind, get_or-drop (at + length bytes) file (i - (at + n)) 0, place) refl

-- the picked image of a write is one that it may leave
picked_write-torn : (pick : Pick) (at : ℕ) (bytes image : List ℕ) → Torn at (length bytes) image (picked_write pick at bytes image)
picked_write-torn Stable at bytes image = Torn-same at (length bytes) image
picked_write-torn Reads at bytes image = Torn-overwritten at (length bytes) bytes image refl
picked_write-torn (Fill byte) at bytes image =
    Torn-overwritten at (length bytes) (replicate (length bytes) byte) image (length-replicate (length bytes) byte)

picked_write-short : (pick : Pick) (at : ℕ) (bytes image read : List ℕ) → length image ≤ length read → length (picked_write pick at bytes image) ≤ length (overwritten at bytes read)
picked_write-short Stable at bytes image read short = omega (arith, length-overwritten at bytes read)
picked_write-short Reads at bytes image read short =
    omega (arith, length-overwritten at bytes read, length-overwritten at bytes image)
picked_write-short (Fill byte) at bytes image read short =
    omega (arith, length-overwritten at bytes read, length-overwritten at (replicate (length bytes) byte) image, length-replicate (length bytes) byte)

picked_after-left : (pick : Pick) (left : List ℕ → Type 0) (image read : List ℕ) (moments : List Moment) → left image → length image ≤ length read
    → MayLeave left read moments (picked_after pick image read moments)
picked_after-left pick left image read [] is short = is
picked_after-left pick left image read (Began bytes ∷ more) is short =
    picked_after-left pick (λ image. image ≡ bytes) bytes bytes more refl (omega arith)
picked_after-left pick left image read (Wrote at bytes ∷ more) is short =
    let next = picked_write pick at bytes image in
    let fits = picked_write-short pick at bytes image read short in
    picked_after-left pick (LeftByWrite left at (length bytes) (overwritten at bytes read)) next (overwritten at bytes read) more
    (image, is, picked_write-torn pick at bytes image, fits) fits
picked_after-left pick left image read (FailedToWrite at n ∷ more) is short =
    picked_after-left pick (LeftByWrite left at n read) image read more (image, is, Torn-same at n image, short) short
picked_after-left pick left image read (Synced ∷ more) is short =
    picked_after-left pick (λ image. image ≡ read) read read more refl (omega arith)

-- the picked image is one that a crash may leave
pub picked-left : (pick : Pick) (moments : List Moment) → images_of moments (picked pick moments)
picked-left pick moments = picked_after-left pick (λ image. image ≡ []) [] [] moments refl (omega arith)

read_after-picked : (read : List ℕ) (moments : List Moment) → picked_after Reads read read moments ≡ read_after read moments
read_after-picked read [] = refl
read_after-picked read (Began bytes ∷ more) = read_after-picked bytes more
read_after-picked read (Wrote at bytes ∷ more) = read_after-picked (overwritten at bytes read) more
read_after-picked read (FailedToWrite at n ∷ more) = read_after-picked read more
read_after-picked read (Synced ∷ more) = read_after-picked read more

-- and so is what a read gives
pub read_of-left : (moments : List Moment) → images_of moments (read_of moments)
read_of-left moments = subst (images_of moments) (read_after-picked [] moments) (picked-left Reads moments)

MayLeave-short : (left : List ℕ → Type 0) (read : List ℕ) (moments : List Moment) → ((image : List ℕ) → left image → length image ≤ length read)
    → (image : List ℕ) → MayLeave left read moments image → length image ≤ length (read_after read moments)
MayLeave-short left read [] short image is = short image is
MayLeave-short left read (Began bytes ∷ more) short image is =
    MayLeave-short (λ image. image ≡ bytes) bytes more (λ same e. rw e (omega arith)) image is
MayLeave-short left read (Wrote at bytes ∷ more) short image is =
    MayLeave-short (LeftByWrite left at (length bytes) (overwritten at bytes read)) (overwritten at bytes read) more (λ other by. by.3) image is
MayLeave-short left read (FailedToWrite at n ∷ more) short image is =
    MayLeave-short (LeftByWrite left at n read) read more (λ other by. by.3) image is
MayLeave-short left read (Synced ∷ more) short image is =
    MayLeave-short (λ image. image ≡ read) read more (λ same e. rw e (omega arith)) image is

-- no image is longer than what a read gives
pub images_of-short : (moments : List Moment) (image : List ℕ) → images_of moments image → length image ≤ length (read_of moments)
images_of-short moments image is = MayLeave-short (λ image. image ≡ []) [] moments (λ same e. rw e (omega arith)) image is

-- the same as the laws of the trait say it
pub reads_are_left : (moments : List Moment) → ForSome (Some (read_of moments)) (λ told. images_of moments told)
reads_are_left moments told is =
    let same : read_of moments ≡ told = cc in
    subst (images_of moments) same (read_of-left moments)

pub none_is_longer : (moments : List Moment)
    → ForSome (Some (read_of moments)) (λ told. (image : List ℕ) → images_of moments image → length image ≤ length told)
none_is_longer moments told is image left =
    let same : read_of moments ≡ told = cc in
    rw (← same) (images_of-short moments image left)
