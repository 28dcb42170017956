-- Numbers that rise still do as some are left out, in a front of them, and with greater ones behind; what holds of all that
-- stays of a list.
use Rattle.std.proofs.Common.{rules, ◌≡◌, ℕ, Bool, true, false, List, [], ◌∷◌, ◌++◌, map, take, drop, Option, Some, None, refl, sym, ap, ◌∙◌, subst, arith, cond, eqb, inl, inr}
use Rattle.std.specs.Prelude.{max, nat_lt, IfSome}
use Rattle.std.specs.List.{filter, filter_map, cons_option, fold, All}
use Rattle.std.proofs.lemmas.List.{map-append, take-append-drop}
use Rattle.std.proofs.lemmas.List.Elements.{filter-append, All-nil, All-cons, All-head, All-tail}
use Rattle.std.proofs.lemmas.Bool.{ltb-true, and_parts, and_from, cases_Bool}
use Rattle.px_event.specs.declared.entry.Entry.{Entry}
use Rattle.px_script.specs.Fit.{rise_above}
use Rattle.px_script.specs.Order.{entry_of, posts_of}
use Rattle.px_script.specs.Remainder.{entries_of, lines_above}
use Rattle.px_script.specs.declared.line.Line.{Line}
use Rattle.px_script.specs.declared.line.What.{What}
use Rattle.px_script.specs.declared.line.What.TheVariants as whats
use Rattle.px_script.proofs.Remainders.{line_of, numbers_of, rise_from, rise-filter}
use Rattle.px_script.proofs.Walks.{line_at}
use Rattle.px_sem.specs.Log.{Log, is_accepted, posted_in, accepted}

-- ---- what holds of all that stays

one_kept : {X : Type 0} (P : X → Type 0) (p : X → Bool) (x : X) (xs : List X) → p x ≡ true → All P (filter p (x ∷ xs)) → P x
one_kept P p x xs is all = All-head P x (filter p xs) (rw is at all)

others_kept : {X : Type 0} (P : X → Type 0) (b : Bool) (x : X) (xs : List X) → All P (cond b (x ∷ xs) xs) → All P xs
others_kept P true x xs all = All-tail P x xs all
others_kept P false x xs all = all

pub All-unfilter : {X : Type 0} (P : X → Type 0) (p : X → Bool) (xs : List X) → All P (filter p xs) → All (λ x. p x ≡ true → P x) xs
All-unfilter P p [] all = All-nil (λ x. p x ≡ true → P x)
All-unfilter P p (x ∷ xs) all =
    All-cons (λ x. p x ≡ true → P x) x xs (λ is. one_kept P p x xs is all) (All-unfilter P p xs (others_kept P (p x) x (filter p xs) all))

first_given : {X : Type 0} (P : X → Type 0) (o : Option X) (xs : List X) → All P (cons_option o xs) → IfSome o P × All P xs
first_given P None xs all = (tt, all)
first_given P (Some x) xs all = (All-head P x xs all, All-tail P x xs all)

pub each_given : {X Y : Type 0} (P : Y → Type 0) (f : X → Option Y) (xs : List X) → All P (filter_map f xs) → All (λ x. IfSome (f x) P) xs
each_given P f [] all = All-nil (λ x. IfSome (f x) P)
each_given P f (x ∷ xs) all =
    let parts = first_given P (f x) (filter_map f xs) all in
    All-cons (λ x. IfSome (f x) P) x xs parts.0 (each_given P f xs parts.1)

-- ---- numbers that rise

pub rise-front : (low : ℕ) (xs ys : List ℕ) → rise_above low (xs ++ ys) ≡ true → rise_above low xs ≡ true
rise-front low [] ys rising = refl
rise-front low (x ∷ xs) ys rising =
    let parts = and_parts (nat_lt low x) (rise_above x (xs ++ ys)) rising in
    and_from (nat_lt low x) (rise_above x xs) parts.0 (rise-front x xs ys parts.1)

pub rise-append : (low : ℕ) (xs ys : List ℕ) → rise_above low xs ≡ true → rise_above (fold max low xs) ys ≡ true → rise_above low (xs ++ ys) ≡ true
rise-append low [] ys rising more = more
rise-append low (x ∷ xs) ys rising more =
    let parts = and_parts (nat_lt low x) (rise_above x xs) rising in
    let greater : max low x ≡ x = omega (arith, ltb-true low x parts.0) in
    and_from (nat_lt low x) (rise_above x (xs ++ ys)) parts.0
    (rise-append x xs ys parts.1 (subst (λ (top : ℕ). rise_above (fold max top xs) ys ≡ true) greater more))

pub rise-take : {X : Type 0} (number : X → ℕ) (low count : ℕ) (xs : List X) → rise_above low (map number xs) ≡ true → rise_above low (map number (take count xs)) ≡ true
rise-take number low count xs rising =
    rise-front low (map number (take count xs)) (map number (drop count xs))
    (ap (rise_above low) (sym (map-append number (take count xs) (drop count xs)) ∙ ap (map number) (take-append-drop count xs)) ∙ rising)

-- the lines above a number rise above it
pub lines_above_rise : (high low : ℕ) (lines : List Line) → rise_above low (map (λ line. line.number) lines) ≡ true
    → rise_above high (map (λ line. line.number) (lines_above high lines)) ≡ true
lines_above_rise high low [] rising = refl
lines_above_rise high low (line ∷ lines) rising =
    let parts = and_parts (nat_lt low line.number) (rise_above line.number (map (λ line. line.number) lines)) rising in
    elim (cases_Bool (nat_lt high line.number)) [
      | inl above ↦
          rw above
          (and_from (nat_lt high line.number) (rise_above line.number (map (λ line. line.number) (lines_above high lines))) above
          (rise-filter (λ line. line.number) (λ (line : Line). nat_lt high line.number) line.number lines parts.1))
      | inr below ↦ rw below (lines_above_rise high line.number lines parts.1)
    ]

post_rises : (thread low number : ℕ) (what : What) (entries : List Entry) → nat_lt low number ≡ true → rise_above number (map line_of entries) ≡ true
    → rise_above low (map line_of (cons_option (entry_of thread (line_at number what)) entries)) ≡ true
post_rises thread low number (whats.Post event) entries above rising = and_from (nat_lt low number) (rise_above number (map line_of entries)) above rising
post_rises thread low number (whats.Wait cond) entries above rising =
    rise_from low number (map line_of entries) (omega (arith, ltb-true low number above)) rising

-- what rising lines post rises
pub posts_rise : (thread low : ℕ) (lines : List Line) → rise_above low (map (λ line. line.number) lines) ≡ true → rise_above low (map line_of (posts_of thread lines)) ≡ true
posts_rise thread low [] rising = refl
posts_rise thread low (line ∷ lines) rising =
    let parts = and_parts (nat_lt low line.number) (rise_above line.number (map (λ line. line.number) lines)) rising in
    post_rises thread low line.number line.what (posts_of thread lines) parts.0 (posts_rise thread line.number lines parts.1)

-- ---- the lines of a thread

pub numbers_of-append : (thread : ℕ) (history more : List Entry) → numbers_of thread (history ++ more) ≡ numbers_of thread history ++ numbers_of thread more
numbers_of-append thread history more =
    ap (map line_of) (filter-append (λ (entry : Entry). eqb entry.thread thread) history more)
    ∙ map-append line_of (entries_of thread history) (entries_of thread more)

-- some of the entries rise where all of them do
abbrev Thinner : ℕ → List Entry → List Entry → Type 0
Thinner thread all some = (low : ℕ) → rise_above low (numbers_of thread all) ≡ true → rise_above low (numbers_of thread some) ≡ true

one_stays : (thread low : ℕ) (entry : Entry) (all some : List Entry) → Thinner thread all some → rise_above low (numbers_of thread (entry ∷ all)) ≡ true
    → rise_above low (numbers_of thread (entry ∷ some)) ≡ true
one_stays thread low entry all some thinner rising =
    search (rules, cases_Bool, and_parts, numbers_of, and_from)

one_goes : (thread low : ℕ) (entry : Entry) (all some : List Entry) → Thinner thread all some → rise_above low (numbers_of thread (entry ∷ all)) ≡ true
    → rise_above low (numbers_of thread some) ≡ true
one_goes thread low entry all some thinner rising =
    search (rules, cases_Bool, and_parts, numbers_of, rise_from, ltb-true)

-- what was accepted rises where all that was posted does
pub accepted_rise : (thread : ℕ) (log : Log) (more : List Entry) (low : ℕ) → rise_above low (numbers_of thread (posted_in log ++ more)) ≡ true
    → rise_above low (numbers_of thread (accepted log ++ more)) ≡ true
accepted_rise thread [] more low rising = rising
accepted_rise thread (logged ∷ log) more low rising =
    elim (cases_Bool (is_accepted logged.reply)) [
      | inl is ↦ rw is (one_stays thread low logged.entry (posted_in log ++ more) (accepted log ++ more) (accepted_rise thread log more) rising)
      | inr isnt ↦ rw isnt (one_goes thread low logged.entry (posted_in log ++ more) (accepted log ++ more) (accepted_rise thread log more) rising)
    ]
