-- What a window shows after a read.
use Rattle.std.proofs.Common.{◌≡◌, ◌≤◌, ◌+◌, ◌-◌, ℕ, List, [], ◌++◌, length, take, drop, sym, ◌∙◌, ap, arith}
use Rattle.std.specs.Prelude.{Result, Ok, Err, OnOk, slice_range}
use Rattle.std.specs.Option.{ForSome}
use Rattle.std.proofs.lemmas.List.{take_at, drop-take, drop-drop, length-take, length-take-le, length-drop}
use Rattle.px_journal.specs.Window.{WindowState, Shows}
use Rattle.px_ports.specs.Disk.{Told}
use Rattle.px_ports.specs.declared.disk.DiskFault.{DiskFault}
use Rattle.px_journal.proofs.Reading.{part_is}

pub shown : (bytes front from : List ℕ) (count : ℕ) → count ≤ length front → bytes ≡ take count front → take count front ≡ take count from → bytes ≡ take (length bytes) from
shown bytes front from count fits bytes_are front_is =
    let long : length bytes ≡ count = omega (arith, ap length bytes_are, length-take count front, fits) in
    bytes_are ∙ front_is ∙ ap (λ (n : ℕ). take n from) (sym long)

pub front_read : (result : Result Unit DiskFault) (was : Told) (into rest buffer : List ℕ) (place count : ℕ) → count ≤ length buffer → ForSome was (λ told. place + count ≤ length told)
    → OnOk result (ForSome was (λ told. into ≡ slice_range told place (place + length (take count buffer))))
    → OnOk result (ForSome was (λ told. take count (into ++ rest) ≡ slice_range told place (place + count)))
front_read (Err fault) was into rest buffer place count room within read = tt
front_read (Ok unit) was into rest buffer place count room within read = λ told is.
    let n : length (take count buffer) ≡ count = length-take-le count buffer room in
    let into_is : into ≡ slice_range told place (place + count) = read told is ∙ ap (λ (k : ℕ). slice_range told place (place + k)) n in
    let long : length into ≡ count = omega (arith, ap length (into_is ∙ part_is told place count), length-take count (drop place told), length-drop place told, within told is) in
    take_at into rest count long ∙ into_is

-- what is shown from a gate on
pub front_shown : (told bytes front : List ℕ) (place gate : ℕ) → place ≤ gate → gate ≤ place + length bytes → bytes ≡ take (length bytes) (drop place told)
    → front ≡ drop (gate - place) bytes → front ≡ take (length bytes - (gate - place)) (drop gate told)
front_shown told bytes front place gate reaches within shows front_is =
    let k = gate - place in
    let m = length bytes - (gate - place) in
    front_is
    ∙ ap (λ (l : List ℕ). drop k l) (shows ∙ ap (λ (n : ℕ). take n (drop place told)) (let sum : length bytes ≡ k + m = omega (arith, reaches, within) in sum))
    ∙ drop-take k m (drop place told)
    ∙ ap (λ (l : List ℕ). take m l) (drop-drop k place told ∙ ap (λ (n : ℕ). drop n told) (let sum : place + k ≡ gate = omega (arith, reaches) in sum))

pub shows_nothing : (window : WindowState) (told : List ℕ) → window.bytes ≡ [] → Shows window told
shows_nothing window told none = none ∙ ap (λ (l : List ℕ). take (length l) (drop window.place told)) (sym none)
