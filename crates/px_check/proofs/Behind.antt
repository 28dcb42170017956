-- The first of faults behind a floor is the earliest that was noted behind it.
use Rattle.std.proofs.Common.{◌≡◌, ℕ, ◌||◌, ◌&&◌, ◌==◌, nat_lt, Bool, true, false, List, [], ◌∷◌, fold, slice_get}
use Rattle.std.proofs.Common.{Option, Some, None, if◌then◌else◌, refl, ap, sym, ◌∙◌, arith}
use Rattle.std.specs.List.{filter}
use Rattle.std.proofs.lemmas.List.Folds.{fold_along}
use Rattle.px_syntax.specs.Fault.{Fault, number_of, is_before, placed, in_order}
use Rattle.px_check.specs.Found.{Sought, is_behind, behind, first_with, earlier, noted}

-- ---- the order of faults

number_before : (a b c d e f : ℕ) → (nat_lt a c || (a == c && nat_lt b d)) ≡ true → (nat_lt c e || (c == e && nat_lt d f)) ≡ true
    → (nat_lt a e || (a == e && nat_lt b f)) ≡ true
number_before a b c d e f first second = grind arith

same_token : (c d e f : ℕ) → (nat_lt c e || (c == e && nat_lt d f)) ≡ false → (nat_lt e c || (e == c && nat_lt f d)) ≡ false → c ≡ e
same_token c d e f first second = grind arith

same_kind : (c d e f : ℕ) → (nat_lt c e || (c == e && nat_lt d f)) ≡ false → (nat_lt e c || (e == c && nat_lt f d)) ≡ false → d ≡ f
same_kind c d e f first second = grind arith

before_both : (low middle high : Fault) → is_before low middle ≡ true → is_before middle high ≡ true → is_before low high ≡ true
before_both low middle high =
    number_before low.token (number_of low.kind) middle.token (number_of middle.kind) high.token (number_of high.kind)

number_alike : (a b c d e f : ℕ) → (nat_lt c e || (c == e && nat_lt d f)) ≡ false → (nat_lt e c || (e == c && nat_lt f d)) ≡ false
    → (nat_lt a c || (a == c && nat_lt b d)) ≡ (nat_lt a e || (a == e && nat_lt b f))
number_alike a b c d e f first second =
    let tokens = same_token c d e f first second in
    let kinds = same_kind c d e f first second in
    rw (tokens, kinds) refl

behind_both : (floor : Option Fault) (low high : Fault) → is_behind floor low ≡ true → is_before low high ≡ true → is_behind floor high ≡ true
behind_both None low high first second = refl
behind_both (Some floor) low high first second = before_both floor low high first second

behind_alike : (floor : Option Fault) (fault other : Fault) → is_before fault other ≡ false → is_before other fault ≡ false
    → is_behind floor fault ≡ is_behind floor other
behind_alike None fault other first second = refl
behind_alike (Some floor) fault other first second =
    number_alike floor.token (number_of floor.kind) fault.token (number_of fault.kind) other.token (number_of other.kind) first second

-- ---- the faults behind the floor, put in order

module _ (floor : Option Fault) where
  placed_behind : (faults : List Fault) (fault : Fault)
      → filter (is_behind floor) (placed faults fault)
      ≡ (if is_behind floor fault then placed (filter (is_behind floor) faults) fault else filter (is_behind floor) faults)
  placed_behind [] fault = refl
  placed_behind (other ∷ others) fault =
      let both = behind_both floor fault other in
      let alike = behind_alike floor fault other in
      let rest = placed_behind others fault in
      grind (arith, both, alike, rest)

  all_behind : (faults before : List Fault)
      → filter (is_behind floor) (fold placed before faults)
      ≡ fold placed (filter (is_behind floor) before) (filter (is_behind floor) faults)
  all_behind [] before = refl
  all_behind (fault ∷ faults) before =
      all_behind faults (placed before fault)
      ∙ ap (λ kept. fold placed kept (filter (is_behind floor) faults)) (placed_behind before fault)
      ∙ moved (is_behind floor fault)
    where
      moved : (fault_is : Bool)
          → fold placed (if fault_is then placed (filter (is_behind floor) before) fault else filter (is_behind floor) before)
          (filter (is_behind floor) faults)
          ≡ fold placed (filter (is_behind floor) before)
          (if fault_is then fault ∷ filter (is_behind floor) faults else filter (is_behind floor) faults)
      moved true = refl
      moved false = refl

  noted_behind : (faults : List Fault) (first : Option Fault)
      → noted (record { floor = floor; first = first }) faults
      ≡ record { floor = floor; first = fold first_with first (filter (is_behind floor) faults) }
  unfolding noted
  noted_behind [] first = refl
  noted_behind (fault ∷ faults) first =
      by (is_behind floor fault) (noted_behind faults)
    where
      by : (fault_is : Bool)
          → ((first : Option Fault) → fold earlier (record { floor = floor; first = first }) faults
          ≡ record { floor = floor; first = fold first_with first (filter (is_behind floor) faults) })
          → fold earlier (if fault_is then record { floor = floor; first = first_with first fault }
          else record { floor = floor; first = first }) faults
          ≡ record {
            floor = floor;
            first = fold first_with first
                (if fault_is then fault ∷ filter (is_behind floor) faults else filter (is_behind floor) faults);
          }
      by true rest = rest (first_with first fault)
      by false rest = rest first

-- ---- the first of them

first_placed : (faults : List Fault) (fault : Fault)
    → slice_get (placed faults fault) 0 ≡ first_with (slice_get faults 0) fault
first_placed [] fault = refl
first_placed (other ∷ others) fault = by (is_before fault other) (is_before other fault)
  where
    by : (before behind : Bool)
        → slice_get (if before then fault ∷ other ∷ others else if behind then other ∷ placed others fault else other ∷ others) 0
        ≡ (if before then Some fault else Some other)
    by true behind = refl
    by false true = refl
    by false false = refl

first_of : (faults before : List Fault) → slice_get (fold placed before faults) 0 ≡ fold first_with (slice_get before 0) faults
first_of faults before =
    fold_along placed first_with (λ (kept : List Fault) (found : Option Fault). slice_get kept 0 ≡ found)
    (λ kept found fault same. first_placed kept fault ∙ ap (λ found. first_with found fault) same)
    before (slice_get before 0) faults refl

pub first_in_order : (floor : Option Fault) (faults : List Fault)
    → slice_get (behind floor (in_order faults)) 0 ≡ (noted (record { floor = floor; first = None }) faults).first
first_in_order floor faults =
    ap (λ ordered. slice_get ordered 0) (all_behind floor faults [])
    ∙ first_of (filter (is_behind floor) faults) []
    ∙ ap (λ (sought : Sought). sought.first) (sym (noted_behind floor faults None))

pub none_behind : (faults : List Fault) → slice_get (behind None faults) 0 ≡ None → faults ≡ []
none_behind [] none = refl
none_behind (fault ∷ faults) none = absurd (cc)

pub all_behind_none : (faults : List Fault) → behind None faults ≡ faults
all_behind_none [] = refl
all_behind_none (fault ∷ faults) = ap (λ others. fault ∷ others) (all_behind_none faults)
