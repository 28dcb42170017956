-- Two seats of a desk, one of which has posted and the other counted.
use Rattle.std.proofs.Common.{◌≡◌, ◌≢◌, ℕ, zero, suc, List, [], ◌∷◌, map, length, Result, refl, ap, ◌∙◌, arith}
use Rattle.std.specs.Prelude.{slice_index_or, slice_set}
use Rattle.std.specs.List.{All, range_with_len}
use Rattle.std.proofs.lemmas.List.Elements.{All-cons, All-nil}
use Rattle.px_event.specs.declared.entry.Entry.{Entry}
use Rattle.px_exec.specs.declared.fault.PostFault.{PostFault}
use Rattle.px_exec.specs.declared.receipt.Receipt.{Receipt}
use Rattle.px_desk.specs.Listing.{Start, Answers}
use Rattle.px_desk.specs.Seating.{Seating, newcomer, Adds, IsLooked, AreAll}
use Rattle.px_desk.specs.declared.listing.Listing.{Listing}
use Rattle.px_desk.proofs.Dealing.{seats_count}
use Rattle.px_desk.proofs.Lists.{added_or_looked}
use Rattle.px_desk.proofs.Shown.{added_number, looked_number}

-- a post leaves the seat its number
pub posted : (start : Start) (old new : Seating) (list : List Listing) (entry : Entry) (answer : Result Receipt PostFault)
    → Answers start (Adds old new) (IsLooked old new) list entry answer → new.number ≡ old.number
posted start old new list entry answer =
    added_or_looked start entry (Adds old new) (IsLooked old new) list answer (λ item listed adds. added_number adds) (λ unlisted looked. looked_number looked)

pub both : {S : Type 0} (P : S → Type 0) (seats : List S) (a b : S) → length seats ≡ 2 → P a → P b → All P (slice_set (slice_set seats 0 a) 1 b)
both P [] a b two at_a at_b k d within = absurd (omega arith)
both P (x ∷ []) a b two at_a at_b k d within = absurd (omega arith)
both P (x ∷ y ∷ []) a b two at_a at_b zero d within = at_a
both P (x ∷ y ∷ []) a b two at_a at_b (suc zero) d within = at_b
both P (x ∷ y ∷ []) a b two at_a at_b (suc (suc k)) d within = absurd (omega arith)
both P (x ∷ y ∷ z ∷ seats) a b two at_a at_b k d within = absurd (omega arith)

numbered : {S : Type 0} (seating : S → Seating) (first : List Listing) (x y : S) (seats : List S)
    → map seating (x ∷ y ∷ seats) ≡ map (newcomer first) (range_with_len 0 2) → ((seating x).number ≡ 0) × ((seating y).number ≡ 1)
numbered seating first x y seats seated = (
  ap (λ (l : List Seating). (slice_index_or l 0 (seating x)).number) seated,
  ap (λ (l : List Seating). (slice_index_or l 1 (seating x)).number) seated,
)

others : (number : ℕ) → number ≡ 1 → All (λ n. n ≢ 0) (number ∷ [])
others number is =
    All-cons (λ (n : ℕ). n ≢ 0) number [] (λ zero_is. absurd (omega (arith, is, zero_is))) (All-nil (λ (n : ℕ). n ≢ 0))

pub all : {S : Type 0} (seating : S → Seating) (first : List Listing) (seats : List S)
    → map seating seats ≡ map (newcomer first) (range_with_len 0 2) → (a b d e : S)
    → (seating a).number ≡ (seating (slice_index_or seats 0 d)).number
    → (seating b).number ≡ (seating (slice_index_or (slice_set seats 0 a) 1 e)).number
    → AreAll 2 (map (λ seat. (seating seat).number) (slice_set (slice_set seats 0 a) 1 b))
all seating first [] seated a b d e at_a at_b = absurd (omega (arith, seats_count seating first [] 2 seated))
all seating first (x ∷ []) seated a b d e at_a at_b = absurd (omega (arith, seats_count seating first (x ∷ []) 2 seated))
all seating first (x ∷ y ∷ []) seated a b d e at_a at_b =
    let number = numbered seating first x y [] seated in
    (at_a ∙ number.0, others (seating b).number (at_b ∙ number.1), refl)
all seating first (x ∷ y ∷ z ∷ seats) seated a b d e at_a at_b = absurd (omega (arith, seats_count seating first (x ∷ y ∷ z ∷ seats) 2 seated))
