-- A field that is read is the field that was spelled, and a field that was spelled is read again.
use Rattle.std.proofs.Common.{◌≡◌, ℕ, suc, ◌+◌, ◌^◌, ◌<◌, ◌≤◌, Bool, true, false, cond, ltb, List, [], ◌∷◌, ◌++◌, length, get_or, take, drop, Option, Some, None, refl, sym, ap, subst, ◌∙◌, append_assoc, arith, inl, inr}
use Rattle.std.specs.Str.{is_utf8}
use Rattle.std.proofs.lemmas.Bool.{cases_lt, ltb-false, le-ltb}
use Rattle.std.proofs.lemmas.List.{take_at, drop_at, take-append-drop, length-append, length-take, get_or-drop, get_or-take, get_or_past}
use Rattle.std.proofs.lemmas.Nat.{be_bytes_2, be_bytes_4}
use Rattle.std.proofs.lemmas.Option.{cond_some, same_Some}
use Rattle.std.proofs.NetLemmas.Options.{cond_none}
use Rattle.byteorder.specs.Endian.{big_bytes, big_number}
use Rattle.byteorder.specs.Numbers.{big_from-take, big_from-lt, big_number-reads_back, length-bytes_high_first}
use Rattle.px_event.specs.Bytes.{text_bytes}
use Rattle.px_event.specs.Reading.{Read, ◌>>=◌, only, byte_at, number_at, front_at, text_at}

abbrev pub IsBytes : List ℕ → Type 0
IsBytes bytes = (i : ℕ) → get_or bytes i 0 < 256

pub IsBytes-drop : (n : ℕ) (bytes : List ℕ) → IsBytes bytes → IsBytes (drop n bytes)
IsBytes-drop n bytes h i = rw get_or-drop (h (n + i))

pub IsBytes-take : (n : ℕ) (bytes : List ℕ) → IsBytes bytes → IsBytes (take n bytes)
IsBytes-take n bytes h i =
    elim (cases_lt i n) [
      | inl lt ↦ rw (get_or-take n bytes i 0 lt) (h i)
      | inr le ↦ rw (get_or_past (take n bytes) i 0 (omega (arith, length-take n bytes))) (omega arith)
    ]

-- the value of a step that did not fail
pub bind_some : {X Y : Type 0} (r : Option X) (next : X → Option Y) (y : Y) → (r >>= next) ≡ Some y → (x : X) × (r ≡ Some x) × (next x ≡ Some y)
bind_some None next y e = absurd cc
bind_some (Some x) next y e = (x, refl, e)

-- a step that does not fail, and what follows it
pub after : {X Y : Type 0} (r : Option X) (next : X → Option Y) (x : X) (y : Option Y) → r ≡ Some x → next x ≡ y → (r >>= next) ≡ y
after r next x y is e = ap (λ o. o >>= next) is ∙ e

abbrev found : {X : Type 0} → X → Option X
found x = Some x

guard_some : {X : Type 0} (b : Bool) (x y : X) → cond b None (Some x) ≡ Some y → (b ≡ false) × (x ≡ y)
guard_some b x y e = let parts = cond_none b (Some x) y e in (parts.0, same_Some x y parts.1)

pub only_some : {X : Type 0} (test : X → Bool) (read other : X × List ℕ) → only test read ≡ Some other → (test read.0 ≡ true) × (read ≡ other)
only_some test read other e = cond_some (test read.0) read other e

pub only_passes : {X : Type 0} (test : X → Bool) (read : X × List ℕ) → test read.0 ≡ true → only test read ≡ Some read
only_passes test read pass = ap (λ b. cond b (Some read) None) pass

-- what a reader took from the front
pub record Takes (bytes spelled rest : List ℕ) : Type 0 where
  pub parts : bytes ≡ spelled ++ rest
  pub rest_fits : IsBytes rest

pub Takes-then : (a x b y c : List ℕ) → Takes a x b → Takes b y c → Takes a (x ++ y) c
Takes-then a x b y c p q = record { parts = p.parts ∙ ap (λ (t : List ℕ). x ++ t) q.parts ∙ sym (append_assoc x y c); rest_fits = q.rest_fits }

-- a byte in front of what was taken
pub tagged : (tag : ℕ) (bytes spelled rest : List ℕ) → Takes bytes spelled rest → Takes (tag ∷ bytes) (tag ∷ spelled) rest
tagged tag bytes spelled rest t = record { parts = ap (λ (l : List ℕ). tag ∷ l) t.parts; rest_fits = t.rest_fits }

-- ---- a byte

pub byte_takes : (bytes : List ℕ) (x : ℕ) (rest : List ℕ) → IsBytes bytes → byte_at bytes ≡ Some (x, rest) → Takes bytes (x ∷ []) rest × (x < 256)
byte_takes [] x rest fits e = absurd cc
byte_takes (b ∷ bytes) x rest fits e =
    subst (λ (p : ℕ × List ℕ). Takes (b ∷ bytes) (p.0 ∷ []) p.1 × (p.0 < 256)) (same_Some (b, bytes) (x, rest) e)
    (record { parts = refl; rest_fits = λ i. fits (suc i) }, fits 0)

-- ---- numbers

-- bytes of this number are the spelling of the number that they read as
pub record SpellsBack (n : ℕ) : Type 0 where
  pub back : (bytes : List ℕ) → length bytes ≡ n → IsBytes bytes → big_bytes n (big_number n bytes) ≡ bytes

pub two_back : SpellsBack 2
two_back = record { back = λ bytes len fits. be_bytes_2 bytes (big_number 2 bytes) len fits (omega arith) }

pub four_back : SpellsBack 4
four_back = record { back = λ bytes len fits. be_bytes_4 bytes (big_number 4 bytes) len fits (omega arith) }

-- what stands at the front is the spelling of the number that it reads as
pub front_spelled : (n : ℕ) (spells : SpellsBack n) (bytes : List ℕ) → IsBytes bytes → n ≤ length bytes → big_bytes n (big_number n bytes) ≡ take n bytes
front_spelled n spells bytes fits long =
    ap (λ (y : ℕ). big_bytes n y) (sym (big_from-take 0 n n bytes (omega arith)))
    ∙ spells.back (take n bytes) (omega (arith, long, length-take n bytes)) (IsBytes-take n bytes fits)

pub number_takes : (n : ℕ) (spells : SpellsBack n) (bytes : List ℕ) (x : ℕ) (rest : List ℕ) → IsBytes bytes → number_at n bytes ≡ Some (x, rest) → Takes bytes (big_bytes n x) rest × (x < 256 ^ n)
number_takes n spells bytes x rest fits e =
    let g = guard_some (ltb (length bytes) n) (big_number n bytes, drop n bytes) (x, rest) e in
    let long : n ≤ length bytes = ltb-false _ _ g.0 in
    let front : big_bytes n (big_number n bytes) ≡ take n bytes = front_spelled n spells bytes fits long in
    subst (λ (p : ℕ × List ℕ). Takes bytes (big_bytes n p.0) p.1 × (p.0 < 256 ^ n)) g.1
    (record { parts = rw front (sym (take-append-drop n bytes)); rest_fits = IsBytes-drop n bytes fits }, big_from-lt 0 n bytes fits)

pub number_again : (n x : ℕ) (rest : List ℕ) → x < 256 ^ n → number_at n (big_bytes n x ++ rest) ≡ Some (x, rest)
number_again n x rest lt =
    let len : length (big_bytes n x) ≡ n = length-bytes_high_first n x in
    let long : ltb (length (big_bytes n x ++ rest)) n ≡ false = le-ltb _ _ (omega (arith, length-append (big_bytes n x) rest)) in
    let read : big_number n (big_bytes n x ++ rest) ≡ x = big_number-reads_back n x rest lt in
    let left : drop n (big_bytes n x ++ rest) ≡ rest = drop_at (big_bytes n x) rest n len in
    ap (λ (b : Bool). cond b None (found (big_number n (big_bytes n x ++ rest), drop n (big_bytes n x ++ rest)))) long
    ∙ (λ i. found (read i, left i))

-- ---- so many bytes

front_takes : (n : ℕ) (bytes front rest : List ℕ) → IsBytes bytes → front_at n bytes ≡ Some (front, rest) → Takes bytes front rest × (length front ≡ n)
front_takes n bytes front rest fits e =
    let g = guard_some (ltb (length bytes) n) (take n bytes, drop n bytes) (front, rest) e in
    let long : n ≤ length bytes = ltb-false _ _ g.0 in
    subst (λ (p : List ℕ × List ℕ). Takes bytes p.0 p.1 × (length p.0 ≡ n)) g.1
    (record { parts = sym (take-append-drop n bytes); rest_fits = IsBytes-drop n bytes fits }, omega (arith, length-take n bytes))

front_again : (front rest : List ℕ) → front_at (length front) (front ++ rest) ≡ Some (front, rest)
front_again front rest =
    let long : ltb (length (front ++ rest)) (length front) ≡ false = le-ltb _ _ (omega (arith, length-append front rest)) in
    let read : take (length front) (front ++ rest) ≡ front = take_at front rest (length front) refl in
    let left : drop (length front) (front ++ rest) ≡ rest = drop_at front rest (length front) refl in
    ap (λ (b : Bool). cond b None (found (take (length front) (front ++ rest), drop (length front) (front ++ rest)))) long
    ∙ (λ i. found (read i, left i))

-- ---- texts

abbrev text_behind : ℕ × List ℕ → Read (List ℕ)
text_behind size = front_at size.0 size.1 >>= λ text. only is_utf8 text

-- what stands in the place of a text, read as one
pub text_is : (bytes : List ℕ) (size : ℕ × List ℕ) (text : List ℕ × List ℕ) → number_at 2 bytes ≡ Some size → front_at size.0 size.1 ≡ Some text → is_utf8 text.0 ≡ true → text_at bytes ≡ Some text
unfolding text_at
text_is bytes size text a b utf8 =
    after (number_at 2 bytes) text_behind size _ a (after (front_at size.0 size.1) (λ text. only is_utf8 text) text _ b (only_passes is_utf8 text utf8))

pub text_is_none : (bytes : List ℕ) (size : ℕ × List ℕ) (text : List ℕ × List ℕ) → number_at 2 bytes ≡ Some size → front_at size.0 size.1 ≡ Some text → is_utf8 text.0 ≡ false → text_at bytes ≡ None
unfolding text_at
text_is_none bytes size text a b other =
    after (number_at 2 bytes) text_behind size _ a
    (after (front_at size.0 size.1) (λ text. only is_utf8 text) text _ b (ap (λ (b : Bool). cond b (Some text) None) other))

pub text_takes : (bytes text rest : List ℕ) → IsBytes bytes → text_at bytes ≡ Some (text, rest) → Takes bytes (text_bytes text) rest × (is_utf8 text ≡ true)
unfolding text_at
text_takes bytes text rest fits e =
    let b = bind_some (number_at 2 bytes) text_behind (text, rest) e in
    let n = number_takes 2 two_back bytes b.0.0 b.0.1 fits b.1 in
    let d = bind_some (front_at b.0.0 b.0.1) (λ text. only is_utf8 text) (text, rest) b.2 in
    let f = front_takes b.0.0 b.0.1 d.0.0 d.0.1 n.0.rest_fits d.1 in
    let o = only_some is_utf8 d.0 (text, rest) d.2 in
    let both = Takes-then bytes (big_bytes 2 b.0.0) b.0.1 d.0.0 d.0.1 n.0 f.0 in
    let whole : Takes bytes (text_bytes d.0.0) d.0.1 = subst (λ (k : ℕ). Takes bytes (big_bytes 2 k ++ d.0.0) d.0.1) (sym f.1) both in
    subst (λ (p : List ℕ × List ℕ). Takes bytes (text_bytes p.0) p.1 × (is_utf8 p.0 ≡ true)) o.1 (whole, o.0)

pub text_again : (text rest : List ℕ) → length text < 65536 → is_utf8 text ≡ true → text_at (text_bytes text ++ rest) ≡ Some (text, rest)
unfolding text_at
text_again text rest short utf8 =
    after (number_at 2 (text_bytes text ++ rest)) text_behind (length text, text ++ rest) _ (number_again 2 (length text) (text ++ rest) short)
    (after (front_at (length text) (text ++ rest)) (λ text. only is_utf8 text) (text, rest) _ (front_again text rest) (only_passes is_utf8 (text, rest) utf8))

-- a text that passes a test
pub tested_takes : (test : List ℕ → Bool) (bytes text rest : List ℕ) → IsBytes bytes → (text_at bytes >>= λ text. only test text) ≡ Some (text, rest)
    → Takes bytes (text_bytes text) rest × (test text ≡ true) × (is_utf8 text ≡ true)
tested_takes test bytes text rest fits e =
    let b = bind_some (text_at bytes) (λ text. only test text) (text, rest) e in
    let o = only_some test b.0 (text, rest) b.2 in
    let t = text_takes bytes b.0.0 b.0.1 fits b.1 in
    subst (λ (p : List ℕ × List ℕ). Takes bytes (text_bytes p.0) p.1 × (test p.0 ≡ true) × (is_utf8 p.0 ≡ true)) o.1 (t.0, o.0, t.1)

pub tested_again : (test : List ℕ → Bool) (text rest : List ℕ) → length text < 65536 → is_utf8 text ≡ true → test text ≡ true
    → (text_at (text_bytes text ++ rest) >>= λ text. only test text) ≡ Some (text, rest)
tested_again test text rest short utf8 pass =
    after (text_at (text_bytes text ++ rest)) (λ text. only test text) (text, rest) _ (text_again text rest short utf8) (only_passes test (text, rest) pass)
