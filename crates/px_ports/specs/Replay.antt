-- How the moments of a disk in memory follow on one another. Before its first moment the disk is empty.
use Rattle.std.specs.Prelude.{◌≡◌, ◌≤◌, ℕ, Bool, true, false, List, [], ◌∷◌, length, replicate}
use Rattle.std.specs.List.{filter}
use Rattle.px_ports.specs.Moment.{Images, overwritten, Torn}
use Rattle.px_ports.specs.declared.moment.Moment.{Moment}
use Rattle.px_ports.specs.declared.moment.Moment.TheVariants.{Began, Wrote, FailedToWrite, Synced}
use Rattle.px_ports.specs.declared.pick.Pick.{Pick}
use Rattle.px_ports.specs.declared.pick.Pick.TheVariants.{Stable, Reads, Fill}

-- what a read gives after these moments, where it gave these bytes before them
abbrev pub read_after : List ℕ → List Moment → List ℕ
read_after read [] = read
read_after read (Began bytes ∷ more) = read_after bytes more
read_after read (Wrote at bytes ∷ more) = read_after (overwritten at bytes read) more
read_after read (FailedToWrite at n ∷ more) = read_after read more
read_after read (Synced ∷ more) = read_after read more

-- an image from before a write of n bytes, torn, and no longer than what a read gives after it
abbrev pub LeftByWrite : (List ℕ → Type 0) → ℕ → ℕ → List ℕ → List ℕ → Type 0
LeftByWrite left at n read image =
    (before : List ℕ) × left before × Torn at n before image × (length image ≤ length read)

-- what a crash leaves after these moments, where it left this before them and a read gave these bytes
abbrev pub MayLeave : (List ℕ → Type 0) → List ℕ → List Moment → List ℕ → Type 0
MayLeave left read [] = left
MayLeave left read (Began bytes ∷ more) = MayLeave (λ image. image ≡ bytes) bytes more
MayLeave left read (Wrote at bytes ∷ more) =
    MayLeave (LeftByWrite left at (length bytes) (overwritten at bytes read)) (overwritten at bytes read) more
MayLeave left read (FailedToWrite at n ∷ more) = MayLeave (LeftByWrite left at n read) read more
MayLeave left read (Synced ∷ more) = MayLeave (λ image. image ≡ read) read more

-- a write was asked for, also one that failed
abbrev pub is_write : Moment → Bool
is_write (Wrote at bytes) = true
is_write (FailedToWrite at n) = true
is_write moment = false

-- how many writes were asked for at these moments
abbrev pub writes_in : List Moment → ℕ
writes_in moments = length (filter is_write moments)

-- what a read gives, and what a crash leaves, after all these moments
abbrev pub read_of : List Moment → List ℕ
read_of moments = read_after [] moments

abbrev pub images_of : Images
images_of moments = MayLeave (λ image. image ≡ []) [] moments

-- what a write makes of the picked image: nothing, what it wrote, or this byte over all that it wrote
abbrev pub picked_write : Pick → ℕ → List ℕ → List ℕ → List ℕ
picked_write Stable at bytes image = image
picked_write Reads at bytes image = overwritten at bytes image
picked_write (Fill byte) at bytes image = overwritten at (replicate (length bytes) byte) image

-- the picked image after these moments, where it was this one before them and a read gave these bytes
abbrev pub picked_after : Pick → List ℕ → List ℕ → List Moment → List ℕ
picked_after pick image read [] = image
picked_after pick image read (Began bytes ∷ more) = picked_after pick bytes bytes more
picked_after pick image read (Wrote at bytes ∷ more) =
    picked_after pick (picked_write pick at bytes image) (overwritten at bytes read) more
picked_after pick image read (FailedToWrite at n ∷ more) = picked_after pick image read more
picked_after pick image read (Synced ∷ more) = picked_after pick read read more

-- the picked image: the bytes of the last sync, what a read gives, or that with each byte written since replaced
abbrev pub picked : Pick → List Moment → List ℕ
picked pick moments = picked_after pick [] [] moments
