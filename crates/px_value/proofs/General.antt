-- What holds of options, Booleans, lists, results and texts in general, and several crates need.
use mathlib.Core.List.{append-eq-nil_iff}
use Rattle.std.proofs.Common.{◌≡◌, ℕ, zero, suc, ◌+◌, ◌-◌, ◌<◌, ◌≤◌, ◌==◌, Bool, true, false, ◌||◌, cond, nat_lt, List, [], ◌∷◌, ◌++◌, All, AllPairs, find, filter, map, take, drop, length, replicate, get_or, Option, Some, None, is_none, is_some, IsSome, IfSome, option_map, Result, Ok, Err, IsErrAnd, IfErr, refl, sym, ap, ◌∙◌, subst, arith, append_assoc, inl, inr, ◌≢◌}
use Rattle.std.specs.List.{cons_option, filter_map, list_all, list_any, position, position_or_len, prefix_len, range_with_len, AllByRecursion as Each}
use Rattle.std.specs.Map.{lookup}
use Rattle.std.specs.Option.{option_and_then, option_or, unwrap_or}
use Rattle.std.specs.Result.{OnErr, OnOk}
use Rattle.std.specs.Str.{is_utf8, IsUtf8}
use Rattle.std.proofs.lemmas.Bool.{and_parts, cases_lt, cond-false, false_from_ne_true, lt-ltb, ltb-false, not-true, or_cases, or_left, or_right, false≢true}
use Rattle.std.proofs.lemmas.Bool.Decides.{nat_tests, same_from_decides}
use Rattle.std.proofs.lemmas.List.{drop_more, get_or-map, get_or_past, length-map, length-take, take-take}
use Rattle.std.proofs.lemmas.Grind.{common_steps}
use Rattle.std.proofs.lemmas.List.Elements.{All-append, All-cons, All-drop, All-filter, All-from_recursion, All-head, All-nil, All-replicate, All-tail, All-take, All-weaker, recursion_from_All}
use Rattle.std.proofs.lemmas.List.Folds.{list_all-append, list_any-append, list_any_at, map_fixed}
use Rattle.std.proofs.lemmas.List.FromFn.{map-range_with_len_more}
use Rattle.std.proofs.lemmas.List.Kept.{AllPairs-cons}
use Rattle.std.proofs.lemmas.List.Quantifiers.{all_pairs_push}
use Rattle.std.proofs.lemmas.List.Sums.{fails_before_first, position_or_len_is, AllPass-from_list_all, list_all-from_AllPass}
use Rattle.std.proofs.lemmas.Option.{none-some}
use Rattle.std.proofs.lemmas.Str.{IsUtf8-from_is_utf8}
use Rattle.std.proofs.NetLemmas.Options.{map_some}
use Rattle.std.proofs.iter.Lists.{front as cut_first}
use Rattle.std.proofs.iter.Next.{is_mapped}
use Rattle.std.proofs.option.Match.{None-if_not_some, not_some, Some-tests}
use Rattle.std.proofs.result.Match.{if_ok_any}
use Rattle.std.proofs.Math.Bool.{or-false, or_comm}
use Rattle.std.proofs.Math.Seq.{drop-append_seam, take-append_seam}
use Rattle.std.proofs.Recursive.{every_back, every_front}

-- there is none where each would be absurd
pub none_from : {X : Type 0} (found : Option X) → ((x : X) → found ≡ Some x → ⊥) → found ≡ None
none_from None each = refl
none_from (Some x) each = absurd (each x refl)

-- a test as a number
abbrev pub one_if : Bool → ℕ
one_if b = cond b 1 0

-- options that hold nothing
pub is_none-None : {X : Type 0} (found : Option X) → is_none found ≡ true → found ≡ None
is_none-None found none = None-if_not_some found (not-true (is_some found) none)

-- what holds nothing does not hold something
pub none_or_some : {X : Type 0} (found : Option X) → found ≡ None → IsSome found → ⊥
none_or_some found none some = not_some found some none

-- an image is there where what it is the image of is
pub is_some_mapped : {X Y : Type 0} (f : X → Y) (found : Option X) → is_some found ≡ is_some (option_map f found)
is_some_mapped f found = sym (is_mapped f found (option_map f found) refl)

-- an image that is there is that of what is there
pub option_map_some : {X Y : Type 0} (f : X → Y) (found : Option X) (y : Y) → option_map f found ≡ Some y → (x : X) × (found ≡ Some x) × (f x ≡ y)
option_map_some f found y is = map_some f found y is (λ x there same. (x, there, same))

-- an image that is not there is that of nothing
pub option_map_none : {X Y : Type 0} (f : X → Y) (found : Option X) → option_map f found ≡ None → found ≡ None
option_map_none f None is = refl
option_map_none f (Some x) is = absurd (none-some (f x) (sym is))

-- what two functions make one after the other is made at once by one that does what they do
pub option_map-map : {X Y Z : Type 0} (g : Y → Z) (f : X → Y) (both : X → Z) → ((x : X) → both x ≡ g (f x)) → (found : Option X)
    → option_map both found ≡ option_map g (option_map f found)
option_map-map g f both same None = refl
option_map-map g f both same (Some x) = ap Some (same x)

-- what is held by an option that holds something
pub told_of : {X : Type 0} (found : Option X) → IsSome found → (told : X) × (found ≡ Some told)
told_of None some = absurd (cc)
told_of (Some told) some = (told, refl)

-- what holds of an image or of what follows holds of it where there is one
pub IfSome-map : {X Y : Type 0} (P : Y → Type 0) (f : X → Y) (found : Option X) → ((x : X) → found ≡ Some x → P (f x)) → IfSome (option_map f found) P
IfSome-map P f None holds = tt
IfSome-map P f (Some x) holds = holds x refl

pub IfSome-and_then : {X Y : Type 0} (P : Y → Type 0) (f : X → Option Y) (found : Option X) → ((x : X) → found ≡ Some x → IfSome (f x) P) → IfSome (option_and_then f found) P
IfSome-and_then P f None holds = tt
IfSome-and_then P f (Some x) holds = holds x refl

-- and of it or what stands for nothing
pub unwrapped_has : {X : Type 0} (P : X → Type 0) (found : Option X) (default : X) → IfSome found P → P default → P (unwrap_or found default)
unwrapped_has P None default some none = none
unwrapped_has P (Some x) default some none = some

-- an option that is told holds something
pub is_some_at : {X : Type 0} (found : Option X) (x : X) → found ≡ Some x → IsSome found
is_some_at found x is = sym (Some-tests found x is)

-- tests that pass together are one
pub same_bool : (a b : Bool) → (a ≡ true → b ≡ true) → (b ≡ true → a ≡ true) → a ≡ b
same_bool a b to from = same_from_decides a b (to, from) ((λ is. is), (λ is. is))

-- what is left of a list at a place is the item there and what is left behind it
pub cut_at : {X : Type 0} (xs : List X) (place : ℕ) (x : X) → place < length xs → x ≡ get_or xs place x
    → drop place xs ≡ x ∷ drop (place + 1) xs
cut_at xs place x within is = drop_more xs place x within ∙ ap (λ first. first ∷ drop (place + 1) xs) (sym is)

-- a list is its first item and the rest
pub first_and_rest : {X : Type 0} (xs : List X) (x : X) → 0 < length xs → x ≡ get_or xs 0 x → xs ≡ x ∷ take (length xs - 1) (drop 1 xs)
first_and_rest xs x some is = cut_first xs x (λ none. omega (arith, some, none)) is

-- a list of one item is that item alone
pub only_one : {X : Type 0} (xs : List X) (x : X) → length xs ≡ 1 → x ≡ get_or xs 0 x → xs ≡ x ∷ []
only_one xs x one is = first_and_rest xs x (omega (arith, one)) is ∙ ap (λ n. x ∷ take (n - 1) (drop 1 xs)) one

-- what holds of each element and of the default holds of what is read
pub read_anywhere : {X : Type 0} (P : X → Type 0) (xs : List X) (k : ℕ) (d : X) → All P xs → P d → P (get_or xs k d)
read_anywhere P xs k d all none = elim (cases_lt k (length xs)) [
  | inl within ↦ all k d within
  | inr past ↦ subst P (sym (get_or_past xs k d past)) none
]

-- a list of one item again and again has it at each place, and is read as it beyond its end
pub replicate-same : {X : Type 0} (count at : ℕ) (x : X) → get_or (replicate count x) at x ≡ x
replicate-same count at x = read_anywhere (λ y. y ≡ x) (replicate count x) at x (All-replicate (λ y. y ≡ x) count x refl) refl

-- what begins with another list is no shorter
pub begins_shorter : {X : Type 0} (old new : List X) → take (length old) new ≡ old → length old ≤ length new
begins_shorter old new begins = omega (arith, ap length begins, length-take (length old) new)

-- what begins with a list that begins with another begins with that one
pub begins_further : {X : Type 0} (old mid new : List X) → take (length old) mid ≡ old → take (length mid) new ≡ mid → take (length old) new ≡ old
begins_further old mid new first second =
    sym (take-take (length old) (length mid) new (begins_shorter old mid first)) ∙ ap (take (length old)) second ∙ first

-- a range and the number behind it
pub range_more : (from count : ℕ) → range_with_len from (count + 1) ≡ range_with_len from count ++ (from + count) ∷ []
range_more from count =
    sym (map_fixed (λ k. k) (range_with_len from (count + 1)) (λ k d within. refl))
    ∙ map-range_with_len_more (λ k. k) from count (from + count) refl
    ∙ ap (λ front. front ++ (from + count) ∷ []) (map_fixed (λ k. k) (range_with_len from count) (λ k d within. refl))

-- two lists that are nothing together
pub neither : {X : Type 0} (xs ys : List X) → xs ++ ys ≡ [] → (xs ≡ []) × (ys ≡ [])
neither xs ys none = (append-eq-nil_iff {p = xs} {q = ys}).0 none

-- what holds of each of two lists together holds of each of the first
pub All-front : {X : Type 0} (P : X → Type 0) (xs ys : List X) → All P (xs ++ ys) → All P xs
All-front P xs ys all = subst (All P) (take-append_seam xs ys) (All-take P (length xs) (xs ++ ys) all)

-- and of each of the second
pub All-back : {X : Type 0} (P : X → Type 0) (xs ys : List X) → All P (xs ++ ys) → All P ys
All-back P xs ys all = subst (All P) (drop-append_seam xs ys) (All-drop P (length xs) (xs ++ ys) all)

-- what holds of each of two lists together, by recursion on the list, holds of each of one of them
pub each_front : {X : Type 0} (P : X → Type 0) (xs ys : List X) → Each P (xs ++ ys) → Each P xs
each_front P xs ys each = every_front P (xs ++ ys) xs ys each refl

pub each_back : {X : Type 0} (P : X → Type 0) (xs ys : List X) → Each P (xs ++ ys) → Each P ys
each_back P xs ys each = every_back P (xs ++ ys) xs ys each refl

-- and what follows from it does
pub each_map : {X : Type 0} (P Q : X → Type 0) (xs : List X) → ((x : X) → P x → Q x) → Each P xs → Each Q xs
each_map P Q xs f each = recursion_from_All Q xs (All-weaker P Q f xs (All-from_recursion P xs each))

-- what holds of each element's image holds of each element
pub All-unmap : {X Y : Type 0} (P : Y → Type 0) (f : X → Y) (xs : List X) → All P (map f xs) → All (λ x. P (f x)) xs
All-unmap P f xs all k d within = subst P (get_or-map f xs k d (f d) within) (all k (f d) (omega (arith, length-map xs f)))

-- two functions that agree on each item map a list alike
pub map-same : {X Y : Type 0} (f g : X → Y) (xs : List X) → All (λ x. f x ≡ g x) xs → map f xs ≡ map g xs
map-same f g [] same = refl
map-same f g (x ∷ xs) same = λ i.
    same 0 x (omega arith) i ∷ map-same f g xs (λ k d within. same (suc k) d (omega (arith, within))) i

-- what holds of all that each element gives holds of all that is given
given_first : {X : Type 0} (P : X → Type 0) (o : Option X) (xs : List X) → IfSome o P → All P xs → All P (cons_option o xs)
given_first P None xs one all = all
given_first P (Some x) xs one all = All-cons P x xs one all

pub all_given : {X Y : Type 0} (P : Y → Type 0) (f : X → Option Y) (xs : List X) → All (λ x. IfSome (f x) P) xs → All P (filter_map f xs)
all_given P f [] all = All-nil P
all_given P f (x ∷ xs) all =
    given_first P (f x) (filter_map f xs) (All-head (λ x. IfSome (f x) P) x xs all) (all_given P f xs (All-tail (λ x. IfSome (f x) P) x xs all))

-- what all of two lists together pass all of each of them do
pub list_all_parts : {X : Type 0} (p : X → Bool) (xs ys : List X) → list_all p (xs ++ ys) ≡ true
    → (list_all p xs ≡ true) × (list_all p ys ≡ true)
list_all_parts p xs ys all = and_parts (list_all p xs) (list_all p ys) (sym (list_all-append p xs ys) ∙ all)

-- what each element passes each passes that a filter keeps
pub list_all-filter : {X : Type 0} (q p : X → Bool) (xs : List X) → list_all q xs ≡ true → list_all q (filter p xs) ≡ true
list_all-filter q p xs all =
    list_all-from_AllPass q (filter p xs) (All-filter p (λ x. q x ≡ true) xs (AllPass-from_list_all q xs all))

-- where one passes a test one passes a weaker one
pub list_any-weaker : {X : Type 0} (strong weak : X → Bool) → ((x : X) → strong x ≡ true → weak x ≡ true) → (xs : List X)
    → list_any strong xs ≡ true → list_any weak xs ≡ true
list_any-weaker strong weak each [] any = any
list_any-weaker strong weak each (x ∷ xs) any = elim (or_cases (strong x) (list_any strong xs) any) [
  | inl here ↦ or_left (weak x) (list_any weak xs) (each x here)
  | inr later ↦ or_right (weak x) (list_any weak xs) (list_any-weaker strong weak each xs later)
]

-- one more at the end passes as one more in front does
pub list_any-push : {X : Type 0} (p : X → Bool) (xs : List X) (x : X) → list_any p (xs ++ x ∷ []) ≡ (p x || list_any p xs)
list_any-push p xs x =
    list_any-append p xs (x ∷ []) ∙ ap (λ b. list_any p xs || b) (or-false (p x)) ∙ or_comm (list_any p xs) (p x)

-- what passes a test that fails beyond the end stands within
pub passes_within : {X : Type 0} (p : X → Bool) (xs : List X) (k : ℕ) (d : X) → p d ≡ false → p (get_or xs k d) ≡ true → k < length xs
passes_within p xs k d fails passes = elim (cases_lt k (length xs)) [
  | inl within ↦ within
  | inr past ↦ absurd (false≢true (sym fails ∙ ap p (sym (get_or_past xs k d past)) ∙ passes))
]

-- what passes stands no earlier than the first that does
pub not_behind : {X : Type 0} (p : X → Bool) (xs : List X) (k : ℕ) (d : X) → p (get_or xs k d) ≡ true → position_or_len p xs ≤ k
not_behind p xs k d is = elim (cases_lt k (position_or_len p xs)) [
  | inl below ↦ absurd (false≢true (sym (fails_before_first p xs k d below) ∙ is))
  | inr from ↦ from
]

-- what stands nowhere fails everywhere
pub nowhere : {X : Type 0} (p : X → Bool) (xs : List X) (k : ℕ) (d : X) → position p xs ≡ None → k < length xs → p (get_or xs k d) ≡ false
nowhere p xs k d none within = by (nat_lt (position_or_len p xs) (length xs)) refl none
  where
    by : (few : Bool) → nat_lt (position_or_len p xs) (length xs) ≡ few → cond few (Some (position_or_len p xs)) None ≡ None
        → p (get_or xs k d) ≡ false
    by true is none = absurd (cc none)
    by false is none = fails_before_first p xs k d (omega (arith, within, ltb-false (position_or_len p xs) (length xs) is))

-- what passes behind none that does stands first
pub position_is : {X : Type 0} (p : X → Bool) (xs : List X) (k : ℕ) (d : X) → k < length xs
    → ((before : ℕ) → before < k → p (get_or xs before d) ≡ false) → p (get_or xs k d) ≡ true → position p xs ≡ Some k
position_is p xs k d within fails passes =
    let first : position_or_len p xs ≡ k = position_or_len_is p xs k d (omega (arith, within)) fails (λ inside. passes) in
    rw (first, lt-ltb k (length xs) within) refl

-- none of a range passes
pub no_filtered : (p : ℕ → Bool) (from count : ℕ) → ((k : ℕ) → k < count → p (from + k) ≡ false) → filter p (range_with_len from count) ≡ []
no_filtered p from zero none = refl
no_filtered p from (suc count) none =
    cond-false (p from) (from ∷ filter p (range_with_len (from + 1) count)) (filter p (range_with_len (from + 1) count))
    (ap p (omega arith) ∙ none 0 (omega arith))
    ∙ no_filtered p (from + 1) count (λ k below. ap p (omega arith) ∙ none (k + 1) (omega (arith, below)))

-- the front that passes is a run of items that pass and nothing of what is behind it
pub prefix_run : {X : Type 0} (p : X → Bool) (run behind : List X) → list_all p run ≡ true → prefix_len p behind ≡ 0 → prefix_len p (run ++ behind) ≡ length run
prefix_run p [] behind all stop = stop
prefix_run p (x ∷ run) behind all stop =
    let both = and_parts (p x) (list_all p run) all in
    ap (λ b. cond b (1 + prefix_len p (run ++ behind)) 0) both.0 ∙ omega (arith, prefix_run p run behind both.1 stop)

-- what is found passes, and has what all have
pub found_has : {X : Type 0} (P : X → Type 0) (p : X → Bool) (xs : List X) (x : X) → All P xs → find p xs ≡ Some x
    → P x × (p x ≡ true)
found_has P p [] x all is = absurd (cc is)
found_has P p (first ∷ xs) x all is = by (p first) refl is (found_has P p xs x (All-tail P first xs all))
  where
    by : (b : Bool) → p first ≡ b → cond b (Some first) (find p xs) ≡ Some x
        → (find p xs ≡ Some x → P x × (p x ≡ true)) → P x × (p x ≡ true)
    by true passes is rest =
        let same : first ≡ x = cc is in
        (subst P same (All-head P first xs all), subst (λ x. p x ≡ true) same passes)
    by false fails is rest = rest is

-- where none is found none passes
pub none_found : {X : Type 0} (p : X → Bool) (xs : List X) → find p xs ≡ None → All (λ x. p x ≡ false) xs
none_found p [] is = All-nil (λ x. p x ≡ false)
none_found p (first ∷ xs) is = grind (arith, common_steps, All-cons, none_found p xs)

-- what is found among images is the image of what is found
pub find-map : {X Y : Type 0} (p : Y → Bool) (f : X → Y) (xs : List X) → find p (map f xs) ≡ option_map f (find (λ x. p (f x)) xs)
find-map p f [] = refl
find-map p f (x ∷ xs) = by (p (f x)) (find-map p f xs)
  where
    by : (passes : Bool) → find p (map f xs) ≡ option_map f (find (λ x. p (f x)) xs)
        → cond passes (Some (f x)) (find p (map f xs)) ≡ option_map f (cond passes (Some x) (find (λ x. p (f x)) xs))
    by true rest = refl
    by false rest = rest

-- a look-up in two lists together, in the first and else in the second
pub lookup-append : {K V : Type 0} (p : K → Bool) (xs ys : List (K × V)) → lookup p (xs ++ ys) ≡ option_or (lookup p xs) (lookup p ys)
lookup-append p [] ys = refl
lookup-append p (x ∷ xs) ys = by (p x.0) (lookup-append p xs ys)
  where
    by : (passes : Bool) → lookup p (xs ++ ys) ≡ option_or (lookup p xs) (lookup p ys)
        → cond passes (Some x.1) (lookup p (xs ++ ys)) ≡ option_or (cond passes (Some x.1) (lookup p xs)) (lookup p ys)
    by true rest = refl
    by false rest = rest

-- what is looked up by the keys of items is the value of the item that is found by its key
pub lookup-map : {X K V : Type 0} (p : K → Bool) (key : X → K) (value : X → V) (xs : List X)
    → lookup p (map (λ x. (key x, value x)) xs) ≡ option_map value (find (λ x. p (key x)) xs)
lookup-map p key value [] = refl
lookup-map p key value (x ∷ xs) = by (p (key x)) (lookup-map p key value xs)
  where
    by : (passes : Bool) → lookup p (map (λ x. (key x, value x)) xs) ≡ option_map value (find (λ x. p (key x)) xs)
        → cond passes (Some (value x)) (lookup p (map (λ x. (key x, value x)) xs))
        ≡ option_map value (cond passes (Some x) (find (λ x. p (key x)) xs))
    by true rest = refl
    by false rest = rest

-- what holds of the pairs of each of two lists, and across them, holds of the pairs of both
pub pairs_append : {X : Type 0} (R : X → X → Type 0) (xs ys : List X) → AllPairs R xs → AllPairs R ys
    → ((i j : ℕ) (d : X) → i < length xs → j < length ys → R (get_or xs i d) (get_or ys j d)) → AllPairs R (xs ++ ys)
pairs_append R [] ys front back cross = back
pairs_append R (x ∷ xs) ys front back cross = AllPairs-cons R x (xs ++ ys)
    (All-append (R x) xs ys (λ k d below. front 0 (suc k) d (omega arith) (omega (arith, below))) (λ k d below. cross 0 k d (omega arith) below))
    (pairs_append R xs ys (λ i j d before below. front (suc i) (suc j) d (omega (arith, before)) (omega (arith, below))) back
    (λ i j d near far. cross (suc i) j d (omega (arith, near)) far))

-- where no item stands twice, none does with one more that isn't there yet
pub once_push : {X : Type 0} (test : X → X → Bool) → ((x : X) → test x x ≡ true) → (xs : List X) (y : X)
    → list_any (test y) xs ≡ false → AllPairs (λ a b. a ≢ b) xs → AllPairs (λ a b. a ≢ b) (xs ++ y ∷ [])
once_push test itself xs y new once = all_pairs_push (λ a b. a ≢ b) xs y once (λ k d within same.
    absurd (false≢true (sym new ∙ list_any_at (test y) xs k d within (ap (test y) same ∙ itself y))))

-- what holds in any case holds where there is an answer, and where there is an error
pub on_ok : {T E P : Type 0} (r : Result T E) → P → OnOk r P
on_ok {P = P} r holds = if_ok_any r (λ _. P) (λ _. holds)

pub on_err : {T E P : Type 0} (r : Result T E) → P → OnErr r P
on_err (Ok value) holds = tt
on_err (Err fault) holds = holds

-- what holds of an error holds where it is handed on
pub handed_on : {T E : Type 0} (P : E → Type 0) (fault : E) (r : Result T E) → IsErrAnd r (λ e. e ≡ fault) → P fault → IfErr r P
handed_on P fault (Ok done) is holds = absurd is
handed_on P fault (Err other) is holds = subst P (sym is) holds

-- bytes that are no text
pub not_utf8 : (bytes : List ℕ) → (IsUtf8 bytes → ⊥) → is_utf8 bytes ≡ false
not_utf8 bytes none = false_from_ne_true (is_utf8 bytes) (λ is. none (IsUtf8-from_is_utf8 bytes is))

-- five texts that are appended one behind another
pub joined_five : {X : Type 0} (out a b c d e o1 o2 o3 o4 new : List X) → o1 ≡ out ++ a → o2 ≡ o1 ++ b → o3 ≡ o2 ++ c → o4 ≡ o3 ++ d → new ≡ o4 ++ e
    → new ≡ out ++ (a ++ (b ++ (c ++ (d ++ e))))
joined_five out a b c d e o1 o2 o3 o4 new e1 e2 e3 e4 e5 = rw (e5, e4, e3, e2, e1) (simp append_assoc)

-- numbers that differ do so the other way round
pub differs_turned : (a b : ℕ) → (a == b) ≡ false → (b == a) ≡ false
differs_turned a b differs = grind (arith, nat_tests)
