-- What becomes of a seat that takes the turn and leaves, with an entry more or without.
use Rattle.std.proofs.Common.{◌≡◌, ℕ, List, [], ◌∷◌, ◌++◌, length, Some, Result, true, refl, sym, ap, ◌∙◌, subst}
use Rattle.std.proofs.lemmas.List.{map-append, same_from_push}
use Rattle.px_event.specs.declared.entry.Entry.{Entry}
use Rattle.px_exec.specs.Executive.{Executive}
use Rattle.px_exec.specs.declared.fault.PostFault.{PostFault}
use Rattle.px_exec.specs.declared.receipt.Receipt.{Receipt}
use Rattle.px_sem.specs.declared.stepper.Stepper
use Rattle.px_turn.proofs.Positions.{positions_own}
use Rattle.px_turn.specs.Histories.{items, stamped}
use Rattle.px_turn.specs.Steps.{IsShown}
use Rattle.px_turn.specs.Views.{entered, without_turn, with_entry}
use Rattle.px_turn.specs.declared.view.Stamped.{Stamped}
use Rattle.px_desk.specs.EventDesk.{ViewOf, seating_of, IsSeated}
use Rattle.px_desk.specs.Listing.{listing, Start, start_of, IsLegalList, is_listed, Answers}
use Rattle.px_desk.specs.Seating.{Seating, IsLooked, Adds, HasMade}
use Rattle.px_desk.specs.declared.listing.Listing.{Listing}
use Rattle.px_desk.proofs.Lists.{answers_told}

-- an executive goes on with another
abbrev pub goes_on : {S D : Type 0} → Executive S D → Executive S D → Type 0
goes_on opened exec = exec.opening ≡ opened.opening

-- a seat keeps its number
pub looked_number : {old new : Seating} → IsLooked old new → new.number ≡ old.number
looked_number looked = ap (λ (s : Seating). s.number) looked.same

pub added_number : {old new : Seating} {item : Listing} → Adds old new item → new.number ≡ old.number
added_number adds = ap (λ (s : Seating). s.number) adds.same

module _ {S D : Type 0} where
  -- the start of the executive that was found is that of the desk
  pub same_start : (runs : Stepper.Ghosts S) (old : ViewOf S D) (history : List (Stamped Listing)) (found value opened : Executive S D) (count : ℕ)
      → IsSeated opened count old → IsShown listing goes_on old history found → value.opening ≡ found.opening
      → start_of runs value.opening ≡ start_of runs opened.opening
  same_start runs old history found value opened count seated shown same =
      ap (start_of runs) (same ∙ shown.goes_on_with opened seated.0)

  -- it has seen the list that was found
  pub seen_back : (old mid new : ViewOf S D) (found : Executive S D) → new ≡ without_turn mid → IsShown listing goes_on old mid.seen found
      → items new.seen ≡ listing found
  seen_back old mid new found left shown = ap (λ (v : ViewOf S D). items v.seen) left ∙ sym shown.stands

  -- it has made an entry more
  module _ (old mid new : ViewOf S D) (item : Listing) (turn : mid ≡ entered mid.ticket mid.seen old)
      (marked : new ≡ without_turn (with_entry item mid)) where
    added : new ≡ without_turn (with_entry item (entered mid.ticket mid.seen old))
    added = marked ∙ ap (λ (v : ViewOf S D). without_turn (with_entry item v)) turn

    pub seen_added : items new.seen ≡ items mid.seen ++ item ∷ []
    seen_added = ap (λ (v : ViewOf S D). items v.seen) added
        ∙ map-append (λ (e : Stamped Listing). e.item) mid.seen (stamped (Some old.number) item ∷ [])

    module _ (found : Executive S D) (shown : IsShown listing goes_on old mid.seen found) where
      pub adds_it : Adds (seating_of old) (seating_of new) item
      adds_it = subst (λ (v : ViewOf S D). Adds (seating_of old) (seating_of v) item) (sym added)
          (record { found = mid.seen; finds = record { begins = shown.begins; known = shown.known }; same = refl })

      pub made_added : HasMade (seating_of new)
      made_added = subst (λ (v : ViewOf S D). HasMade (seating_of v)) (sym added)
          (ap (λ (places : List ℕ). places ++ length mid.seen ∷ []) shown.made ∙ sym (positions_own old.number mid.seen item))

      -- what is told of a post that is in the list
      pub told_added : (start start' : Start) → start ≡ start' → (entry : Entry) (answer : Result Receipt PostFault) → is_listed answer ≡ true
          → (value : Executive S D) → listing value ≡ items mid.seen ++ item ∷ []
          → Answers start (λ more. listing value ≡ listing found ++ more ∷ []) (listing value ≡ listing found) (listing value) entry answer
          → Answers start' (Adds (seating_of old) (seating_of new)) (IsLooked (seating_of old) (seating_of new)) (items new.seen) entry answer
      told_added start start' same entry answer is value stands told =
          subst (λ s. Answers s (Adds (seating_of old) (seating_of new)) (IsLooked (seating_of old) (seating_of new)) (items new.seen) entry answer) same
          (answers_told start entry (λ more. listing value ≡ listing found ++ more ∷ []) (Adds (seating_of old) (seating_of new))
          (listing value ≡ listing found) (IsLooked (seating_of old) (seating_of new)) (listing value) (items new.seen) answer
          (λ other listed more. subst (λ i. Adds (seating_of old) (seating_of new) i)
          (sym (same_from_push (listing found) (items mid.seen) other item (sym more ∙ stands)).1) adds_it)
          (λ isnt. absurd (cc)) (stands ∙ sym seen_added) told)

-- what is legal, of an equal list behind an equal start
pub legal_seen : (start start' : Start) (list list' : List Listing) → start ≡ start' → list ≡ list' → IsLegalList start list → IsLegalList start' list'
legal_seen start start' list list' same same_list legal =
    subst (λ s. IsLegalList s list') same (subst (IsLegalList start) same_list legal)
