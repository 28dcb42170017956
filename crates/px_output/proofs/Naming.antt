-- The lines of names on their way to the sink.
use Rattle.std.proofs.Common.{◌≡◌, ◌≤◌, ◌-◌, take, drop, get_or, length, arith, ℕ, ◌+◌, List, [], ◌∷◌, ◌++◌, Option, map, refl, ap, sym, ◌∙◌, append_assoc}
use Rattle.px_value.proofs.General.{first_and_rest}
use Rattle.px_event.specs.declared.entry.Entry.{Entry}
use Rattle.px_event.specs.declared.named.NamedEntry.{NamedEntry}
use Rattle.px_trace.specs.Names.{name_line, name_lines}
use Rattle.px_output.specs.Printing.{Buffers}
use Rattle.px_output.specs.View.{View}
use Rattle.px_output.proofs.Printed.{buffers_none, goes_on}

-- the entries and the names are those of this list
pub record Are (history : List Entry) (names : List (Option (List ℕ))) (named : List NamedEntry) : Type 0 where
  pub entries_are : map (λ (it : NamedEntry). it.entry) named ≡ history
  pub names_are : map (λ (it : NamedEntry). it.name) named ≡ names

-- of the lines of all, these are told, and those of what is left come behind them
pub record IsNaming (named : List NamedEntry) (old : View) (p : List ℕ) (position : ℕ) (history : List Entry)
    (names : List (Option (List ℕ))) (new : View) (q : List ℕ) : Type 0 where
  pub told : List ℕ
  pub left : List NamedEntry
  pub are : Are history names left
  pub whole : name_lines 1 named ≡ told ++ name_lines (position + 1) left
  pub buffers : Buffers old p new q told

pub naming_at_once : (named : List NamedEntry) (old : View) (p : List ℕ) (history : List Entry) (names : List (Option (List ℕ)))
    → Are history names named → IsNaming named old p 0 history names old p
naming_at_once named old p history names are =
    record { told = []; left = named; are = are; whole = refl; buffers = buffers_none old p }

-- the first of what is left, and its line
pub record IsFirst (left : List NamedEntry) (x : NamedEntry) (later : List Entry) (others : List (Option (List ℕ))) : Type 0 where
  pub behind : List NamedEntry
  pub is : left ≡ x ∷ behind
  pub are : Are later others behind

pub first_of : (left : List NamedEntry) (entry : Entry) (later : List Entry) (name : Option (List ℕ)) (others : List (Option (List ℕ)))
    → Are (entry ∷ later) (name ∷ others) left → IsFirst left (record { name = name; entry = entry }) later others
first_of [] entry later name others are = absurd (let none = are.entries_are in cc)
first_of (x ∷ behind) entry later name others are =
    let entry_is : x.entry ≡ entry = let all = are.entries_are in cc in
    let name_is : x.name ≡ name = let all = are.names_are in cc in
    record {
      behind = behind;
      is = rw (sym entry_is, sym name_is) refl;
      are = record { entries_are = let all = are.entries_are in cc; names_are = let all = are.names_are in cc };
    }

-- a list that has a first item, and what is behind it
pub parted_as : {X : Type 0} (xs : List X) (x y : X) → 1 ≤ length xs → x ≡ get_or xs 0 x → y ≡ x → xs ≡ y ∷ take (length xs - 1) (drop 1 xs)
parted_as {X} xs x y some is same = first_and_rest xs x (omega (arith, some)) is ∙ ap (λ (z : X). z ∷ take (length xs - 1) (drop 1 xs)) (sym same)

pub counted_more : {X : Type 0} (position : ℕ) (xs : List X) (x : X) (all : ℕ) → 1 ≤ length xs → x ≡ get_or xs 0 x → position + length xs ≡ all
    → position + 1 + length (take (length xs - 1) (drop 1 xs)) ≡ all
counted_more position xs x all some is counted =
    let whole : length xs ≡ length (x ∷ take (length xs - 1) (drop 1 xs)) = ap length (first_and_rest xs x (omega (arith, some)) is) in
    omega (arith, whole, counted)

module _ (named : List NamedEntry) (old mid new : View) (p q r : List ℕ) (position : ℕ) (history : List Entry)
    (names : List (Option (List ℕ))) (naming : IsNaming named old p position history names mid q) (entry : Entry) (name : Option (List ℕ))
    (later : List Entry) (others : List (Option (List ℕ))) (h : history ≡ entry ∷ later) (n : names ≡ name ∷ others) where
  abbrev pub here : NamedEntry
  here = record { name = name; entry = entry }

  abbrev pub first : IsFirst naming.left here later others
  first = first_of naming.left entry later name others
      (record { entries_are = naming.are.entries_are ∙ h; names_are = naming.are.names_are ∙ n })

  -- the line of the next, and those behind it
  pub line_left : name_lines 1 named ≡ naming.told ++ (name_line (position + 1) here ++ name_lines (position + 1 + 1) first.behind)
  line_left = naming.whole ∙ ap (λ left. naming.told ++ name_lines (position + 1) left) first.is

  pub naming_more : Buffers mid q new r (name_line (position + 1) here) → IsNaming named old p (position + 1) later others new r
  naming_more buffers = record {
    told = naming.told ++ name_line (position + 1) here;
    left = first.behind;
    are = first.are;
    whole = line_left ∙ sym (append_assoc naming.told (name_line (position + 1) here) (name_lines (position + 1 + 1) first.behind));
    buffers = goes_on old mid new p q r naming.told (name_line (position + 1) here) naming.buffers buffers;
  }
