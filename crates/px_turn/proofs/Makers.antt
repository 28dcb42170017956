-- Who made which position.
use Rattle.std.proofs.Common.{rules, ◌≡◌, ◌≢◌, ℕ, zero, suc, ◌+◌, ◌<◌, ◌≤◌, Bool, true, false, if◌then◌else◌, List, [], ◌∷◌, ◌++◌, map, length, get_or, Option, Some, None, refl, ap, ◌∙◌, arith, length-append, All}
use Rattle.std.specs.Cmp.{nat_eq_equiv}
use Rattle.std.proofs.lemmas.List.{get_or_past, length-map}
use Rattle.std.proofs.lemmas.List.Elements.{All-head, All-tail}
use Rattle.px_value.specs.General.{is_number}
use Rattle.px_turn.specs.declared.view.Record.{Record}
use Rattle.px_turn.specs.declared.view.Stamped.{Stamped}
use Rattle.px_turn.specs.declared.view.View.{View}
use Rattle.px_turn.specs.Histories.{stamped, opened, positions, positions_from, HasPositions, IsMade, AreMade}
use Rattle.px_turn.specs.Views.{records}
use Rattle.px_turn.specs.Rule.{one_if, times, total}
use Rattle.px_turn.specs.Seats.{IsWhole, makers_at, AreMadeOnce}
use Rattle.px_turn.proofs.Seating.{one_if_same, one_if_other}

-- of an entry that carries no number, and of one that carries this
none_makes : (list : List Record) → total (λ (r : Record). one_if (is_number None r.number)) list ≡ 0
none_makes [] = refl
none_makes (r ∷ list) = let rest = none_makes list in omega arith

one_makes : (number : ℕ) (list : List Record)
    → total (λ (r : Record). one_if (is_number (Some number) r.number)) list
    ≡ times number (map (λ (r : Record). r.number) list)
one_makes number [] = refl
one_makes number (r ∷ list) =
    let here = ap one_if (nat_eq_equiv.symm number r.number) in
    let rest = one_makes number list in
    omega arith

-- a place more or less changes nothing of how often another place is among them
elsewhere : (at position : ℕ) → at ≢ position → (b : Bool) (places : List ℕ)
    → times position (if b then at ∷ places else places) ≡ times position places
elsewhere at position apart true places = let none_here = one_if_other at position apart in omega arith
elsewhere at position apart false places = refl

module _ {I : Type 0} where
  -- who made the entry at a position
  abbrev maker_at : List (Stamped I) → ℕ → Option ℕ
  maker_at history position = get_or (map (λ e. e.maker) history) position None

  none_before : (number at position : ℕ) (history : List (Stamped I)) → position < at
      → times position (positions_from number at history) ≡ 0
  none_before number at position [] low = refl
  none_before number at position (e ∷ history) low =
      elsewhere at position (λ same. absurd (omega arith)) (is_number e.maker number) (positions_from number (at + 1) history)
      ∙ none_before number (at + 1) position history (omega arith)

  -- a position is one of a number's where the entry there carries it
  times-positions : (number at k : ℕ) (history : List (Stamped I))
      → times (at + k) (positions_from number at history) ≡ one_if (is_number (maker_at history k) number)
  times-positions number at k [] = refl
  times-positions number at zero (e ∷ history) =
      search (rules, none_before, one_if_same)
  times-positions number at (suc k) (e ∷ history) =
      elsewhere at (at + suc k) (λ same. absurd (omega arith)) (is_number e.maker number) (positions_from number (at + 1) history)
      ∙ (ap (λ n. times n (positions_from number (at + 1) history)) (omega arith)
      ∙ times-positions number (at + 1) k history)

  -- so many records have a position: as many as have its maker's number
  makers_are : (history : List (Stamped I)) (list : List Record) (k : ℕ) → All (HasPositions history) list
      → total (λ (r : Record). times k r.made) list
      ≡ total (λ (r : Record). one_if (is_number (maker_at history k) r.number)) list
  makers_are history [] k all = refl
  makers_are history (r ∷ list) k all =
      let here : times k r.made ≡ one_if (is_number (maker_at history k) r.number) =
      ap (times k) (All-head (HasPositions history) r list all)
      ∙ (ap (λ n. times n (positions r.number history)) (omega arith) ∙ times-positions r.number 0 k history) in
      let rest = makers_are history list k (All-tail (HasPositions history) r list all) in
      omega arith

  -- the makers of the opening and of what came later
  maker_opened : (list : List I) (later : List (Stamped I)) (k : ℕ) → k < length list
      → maker_at (opened list ++ later) k ≡ None
  maker_opened [] later k low = absurd (omega arith)
  maker_opened (x ∷ list) later zero low = refl
  maker_opened (x ∷ list) later (suc k) low = maker_opened list later k (omega arith)

  maker_later : (list : List I) (later : List (Stamped I)) (below k : ℕ) → AreMade below later → length list ≤ k
      → k < length list + length later
      → (number : ℕ) × (maker_at (opened list ++ later) k ≡ Some number) × (number < below)
  maker_later [] [] below k made low high = absurd (omega arith)
  maker_later [] (e ∷ later) below zero made low high = All-head (IsMade below) e later made
  maker_later [] (e ∷ later) below (suc k) made low high =
      maker_later [] later below k (All-tail (IsMade below) e later made) (omega arith) (omega arith)
  maker_later (x ∷ list) later below zero made low high = absurd (omega arith)
  maker_later (x ∷ list) later below (suc k) made low high =
      maker_later list later below k made (omega arith) (omega arith)

  maker_behind : (history : List (Stamped I)) (k : ℕ) → length history ≤ k → maker_at history k ≡ None
  maker_behind history k high =
      get_or_past (map (λ (e : Stamped I). e.maker) history) k None (omega (arith, length-map history (λ (e : Stamped I). e.maker), high))

module _ {T I : Type 0} (list : T → List I) (goes_on : T → T → Type 0) where
  pub made_once : (v : View T I) (value opening : T) → IsWhole list goes_on v value → v.opening ≡ Some opening
      → AreMadeOnce list v opening
  made_once v value opening whole is =
      let begins = whole.begins opening is in
      let long : length v.seen ≡ length (list opening) + length whole.later = omega (
        arith,
        ap (λ (l : List (Stamped I)). length l) begins,
        length-append (opened (list opening)) whole.later,
        length-map (list opening) (λ (item : I). stamped None item),
      ) in
      let unmade : (position : ℕ) → maker_at v.seen position ≡ None → makers_at position v ≡ 0 =
      λ position none_made. makers_are v.seen (records v) position whole.made
      ∙ (ap (λ m. total (λ (r : Record). one_if (is_number m r.number)) (records v)) none_made
      ∙ none_makes (records v)) in
      record {
        before = λ position low. unmade position
            (ap (λ h. maker_at h position) begins ∙ maker_opened (list opening) whole.later position low);
        since = λ position low high.
            let maker = maker_later (list opening) whole.later (v.splits + 1) position whole.makers low (omega arith) in
            makers_are v.seen (records v) position whole.made
            ∙ (ap (λ m. total (λ (r : Record). one_if (is_number m r.number)) (records v))
            (ap (λ h. maker_at h position) begins ∙ maker.1)
            ∙ (one_makes maker.0 (records v) ∙ whole.once maker.0 (let low_number = maker.2 in omega arith)));
        behind = λ position high. unmade position (maker_behind v.seen position high);
      }
