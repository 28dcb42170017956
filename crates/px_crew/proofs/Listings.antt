-- What lists of a desk have of logs, of failed appends and of the entries that carry a number.
use Rattle.std.proofs.Common.{◌≡◌, ℕ, ◌+◌, Bool, true, false, if◌then◌else◌, List, [], ◌∷◌, ◌++◌, map, filter, length, Option, Some, None, refl, sym, ap, ◌∙◌, subst, append-nil}
use Rattle.std.proofs.lemmas.List.{append_cancel_left, map-append}
use Rattle.std.proofs.lemmas.List.Elements.{filter-append}
use Rattle.std.proofs.lemmas.Option.{none-some}
use Rattle.std.specs.Option.{option_or}
use Rattle.px_value.specs.General.{is_number}
use Rattle.px_value.proofs.General.{none_from}
use Rattle.px_exec.specs.declared.closing.Failed.{Failed}
use Rattle.px_sem.specs.Log.{Log}
use Rattle.px_turn.specs.Histories.{items, positions_from, positions}
use Rattle.px_turn.specs.declared.view.Stamped.{Stamped}
use Rattle.px_turn.proofs.Positions.{positions-append}
use Rattle.px_desk.specs.Listing.{listing_of, log_in, failed_in}
use Rattle.px_desk.specs.declared.listing.Listing.{Listing}
use Rattle.px_desk.specs.declared.listing.Listing.TheVariants as listings
use Rattle.px_crew.specs.Seat.{own}

-- ---- logs

pub log_in-append : (xs ys : List Listing) → log_in (xs ++ ys) ≡ log_in xs ++ log_in ys
log_in-append [] ys = refl
log_in-append (listings.Answered logged ∷ xs) ys = ap (λ (log : Log). logged ∷ log) (log_in-append xs ys)
log_in-append (listings.Failed entry faults ∷ xs) ys = log_in-append xs ys

-- of histories
pub log_in-items-append : (xs ys : List (Stamped Listing)) → log_in (items (xs ++ ys)) ≡ log_in (items xs) ++ log_in (items ys)
log_in-items-append xs ys = ap log_in (map-append (λ (e : Stamped Listing). e.item) xs ys) ∙ log_in-append (items xs) (items ys)

-- ---- failed appends

pub failed_in-answered : (xs : List Listing) (log : Log) → failed_in (xs ++ map listings.Answered log) ≡ failed_in xs
failed_in-answered [] [] = refl
failed_in-answered [] (logged ∷ log) = failed_in-answered [] log
failed_in-answered (listings.Answered logged ∷ xs) log = failed_in-answered xs log
failed_in-answered (listings.Failed entry faults ∷ xs) log = refl

-- that of a front, or else that of what is behind it
failed_in-append : (xs ys : List Listing) → failed_in (xs ++ ys) ≡ option_or (failed_in xs) (failed_in ys)
failed_in-append [] ys = refl
failed_in-append (listings.Answered logged ∷ xs) ys = failed_in-append xs ys
failed_in-append (listings.Failed entry faults ∷ xs) ys = refl

-- behind a list without one
pub failed_in-behind : (xs ys : List Listing) → failed_in xs ≡ None → failed_in (xs ++ ys) ≡ failed_in ys
failed_in-behind xs ys none = failed_in-append xs ys ∙ ap (λ failed. option_or failed (failed_in ys)) none

-- a front that has one decides
pub failed_in-front : (xs ys : List Listing) (failed : Failed) → failed_in xs ≡ Some failed → failed_in (xs ++ ys) ≡ Some failed
failed_in-front xs ys failed is = failed_in-append xs ys ∙ ap (λ found. option_or found (failed_in ys)) is

-- a front of such a list has none
pub clear_front : (xs ys : List Listing) → failed_in (xs ++ ys) ≡ None → failed_in xs ≡ None
clear_front xs ys none = none_from (failed_in xs) (λ failed is. none-some failed (sym none ∙ failed_in-front xs ys failed is))

-- only the last of a list can have failed
pub clear_before : (xs : List Listing) (item : Listing) (log : Log) (failed : Option Failed) → xs ++ item ∷ [] ≡ listing_of log failed → failed_in xs ≡ None
clear_before [] item log failed is = refl
clear_before (x ∷ xs) item (logged ∷ log) failed is =
    let head : x ≡ listings.Answered logged = cc in
    let tail : xs ++ item ∷ [] ≡ listing_of log failed = cc in
    subst (λ (x : Listing). failed_in (x ∷ xs) ≡ None) (sym head) (clear_before xs item log failed tail)
clear_before (x ∷ xs) item [] None is = absurd (cc)
clear_before (x ∷ []) item [] (Some failed) is = absurd (cc)
clear_before (x ∷ y ∷ xs) item [] (Some failed) is = absurd (cc)

-- ---- the entries that carry a number

pub own-append : (number : ℕ) (xs ys : List (Stamped Listing)) → own number (xs ++ ys) ≡ own number xs ++ own number ys
own-append number xs ys =
    ap items (filter-append (λ (e : Stamped Listing). is_number e.maker number) xs ys)
    ∙ map-append (λ (e : Stamped Listing). e.item) (filter (λ (e : Stamped Listing). is_number e.maker number) xs) (filter (λ (e : Stamped Listing). is_number e.maker number) ys)

pub own_yes : (number : ℕ) (e : Stamped Listing) (list : List (Stamped Listing)) → is_number e.maker number ≡ true → own number (e ∷ list) ≡ e.item ∷ own number list
own_yes number e list is = rw is refl

pub own_no : (number : ℕ) (e : Stamped Listing) (list : List (Stamped Listing)) → is_number e.maker number ≡ false → own number (e ∷ list) ≡ own number list
own_no number e list is = rw is refl

-- where none has a position, there is none
pub none_own : (number at : ℕ) (xs : List (Stamped Listing)) → positions_from number at xs ≡ [] → own number xs ≡ []
none_own number at [] none = refl
none_own number at (x ∷ xs) none = by (is_number x.maker number) refl none (λ none. none_own number (at + 1) xs none)
  where
    by : (b : Bool) → is_number x.maker number ≡ b → (if b then at ∷ positions_from number (at + 1) xs else positions_from number (at + 1) xs) ≡ []
        → (positions_from number (at + 1) xs ≡ [] → own number xs ≡ []) → own number (x ∷ xs) ≡ []
    by true is none others = absurd (cc)
    by false is none others = rw is (others none)

-- a list that goes on with the same positions of a number goes on with none that carries it
pub own_stays : (number : ℕ) (xs ys : List (Stamped Listing)) → positions number xs ≡ positions number (xs ++ ys) → own number (xs ++ ys) ≡ own number xs
own_stays number xs ys same =
    own-append number xs ys
    ∙ ap (λ (more : List Listing). own number xs ++ more)
    (none_own number (0 + length xs) ys
    (sym (append_cancel_left (positions number xs) [] (positions_from number (0 + length xs) ys) (append-nil (positions number xs) ∙ same ∙ positions-append number 0 xs ys))))
    ∙ append-nil (own number xs)

-- where a list has no failed append, none of those has failed
pub clear_own : (number : ℕ) (xs : List (Stamped Listing)) → failed_in (items xs) ≡ None → failed_in (own number xs) ≡ None
clear_own number [] none = refl
clear_own number (x ∷ xs) none = by x.item (is_number x.maker number) refl none (λ none. clear_own number xs none)
  where
    by : (item : Listing) (b : Bool) → is_number x.maker number ≡ b → failed_in (item ∷ items xs) ≡ None
        → (failed_in (items xs) ≡ None → failed_in (own number xs) ≡ None) → failed_in (own number (record { maker = x.maker; item = item } ∷ xs)) ≡ None
    by (listings.Answered logged) true is none others = rw is (others none)
    by (listings.Answered logged) false is none others = rw is (others none)
    by (listings.Failed entry faults) b is none others = absurd (cc)
