-- Arguments that are read one after another, as a loop does.
use Rattle.std.proofs.Common.{◌≡◌, ℕ, suc, ◌-◌, ◌+◌, ◌≤◌, ◌<◌, List, [], ◌∷◌, ◌++◌, Some, None, refl, sym, ap, ◌∙◌, append_assoc, arith}
use Rattle.std.proofs.lemmas.List.{append-nil}
use Rattle.px_value.specs.declared.value.Value.{Value}
use Rattle.std.specs.Prelude.{Err, Vec}
use Rattle.std.specs.declared.alloc.Global.{Global}
use Rattle.px_event.specs.Reading.{Read, ◌>>=◌, argument_at, arguments_at, Reads}
use Rattle.px_event.specs.declared.fault.DecodeFault.{DecodeFault}
use Rattle.px_event.specs.declared.fault.DecodeFault.TheVariants.{Bad, NoMemory}
use Rattle.px_event.proofs.Fields.{after}

-- what was read before, and what is still read
abbrev pub with_front : List Value → Read (List Value) → Read (List Value)
with_front front read = read >>= λ others. Some (front ++ others.0, others.1)

abbrev pub read_on : Value → List Value × List ℕ → Read (List Value)
read_on first others = Some (first ∷ others.0, others.1)

regroup : (front : List Value) (first : Value) (read : Read (List Value)) → with_front front (read >>= read_on first) ≡ with_front (front ++ first ∷ []) read
regroup front first (Some others) = ap (λ (l : List Value). Some (l, others.1)) (simp append_assoc)
regroup front first None = refl

pub goes_on : (front : List Value) (count i : ℕ) (bytes : List ℕ) (first : Value) (behind : List ℕ) (whole : Read (List Value)) → i < count → argument_at bytes ≡ Some (first, behind)
    → with_front front (arguments_at (count - i) bytes) ≡ whole → with_front (front ++ first ∷ []) (arguments_at (count - (i + 1)) behind) ≡ whole
unfolding arguments_at
goes_on front count i bytes first behind whole lt read so_far =
    let left : count - i ≡ suc (count - (i + 1)) = omega arith in
    let one : arguments_at (suc (count - (i + 1))) bytes ≡ (arguments_at (count - (i + 1)) behind >>= read_on first) =
    after (argument_at bytes) (λ first. arguments_at (count - (i + 1)) first.1 >>= read_on first.0) (first, behind) _ read refl in
    sym (regroup front first (arguments_at (count - (i + 1)) behind)) ∙ ap (with_front front) (sym one ∙ ap (λ (k : ℕ). arguments_at k bytes) (sym left)) ∙ so_far

pub ends : (front : List Value) (count i : ℕ) (bytes : List ℕ) (whole : Read (List Value)) → i < count → argument_at bytes ≡ None
    → with_front front (arguments_at (count - i) bytes) ≡ whole → whole ≡ None
unfolding arguments_at
ends front count i bytes whole lt read so_far =
    let left : count - i ≡ suc (count - (i + 1)) = omega arith in
    let one : arguments_at (suc (count - (i + 1))) bytes ≡ None = ap (λ r. r >>= λ first. arguments_at (count - (i + 1)) first.1 >>= read_on first.0) read in
    sym so_far ∙ ap (λ (k : ℕ). with_front front (arguments_at k bytes)) left ∙ ap (with_front front) one

pub is_done : (front : List Value) (count i : ℕ) (bytes : List ℕ) (whole : Read (List Value)) → count ≤ i → with_front front (arguments_at (count - i) bytes) ≡ whole → whole ≡ Some (front, bytes)
unfolding arguments_at
is_done front count i bytes whole le so_far =
    let none : count - i ≡ 0 = omega arith in
    sym so_far ∙ ap (λ (k : ℕ). with_front front (arguments_at k bytes)) none ∙ ap (λ (l : List Value). Some (l, bytes)) (append-nil front)

-- at a fault of an argument all of them have it
pub ends_so : (fault : DecodeFault) (front : List Value) (count i : ℕ) (bytes left : List ℕ) (whole : Read (List Value)) → i < count → Reads (λ (v : Value). v) (argument_at bytes) (Err fault) left
    → with_front front (arguments_at (count - i) bytes) ≡ whole → Reads (λ (values : Vec Value Global). values.items) whole (Err fault) left
ends_so Bad front count i bytes left whole lt read so_far = ends front count i bytes whole lt read so_far
ends_so NoMemory front count i bytes left whole lt read so_far = tt
