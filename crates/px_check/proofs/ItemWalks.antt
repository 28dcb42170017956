-- What a block's items are at fault for, noted part by part.
use Rattle.std.proofs.Common.{◌≡◌, ℕ, ◌+◌, ◌<◌, Bool, true, false, ◌||◌, List, [], ◌∷◌, ◌++◌, map, drop, length, get_or}
use Rattle.std.proofs.Common.{flat_map, Option, Some, None, option_map, refl, sym, ap, ◌∙◌, rules}
use Rattle.std.specs.Option.{option_to_list}
use Rattle.std.specs.List.{list_any}
use denote.Enum.Bare.{same_true}
use Rattle.px_value.proofs.General.{cut_at}
use Rattle.px_syntax.specs.contracts.word.Condition.{the_type as condition_type}
use Rattle.px_syntax.specs.Block.{item_data}
use Rattle.px_syntax.specs.BlockFaults.{Once, TheCondition, ThePriority, is_same_once, once_in, repeated}
use Rattle.px_syntax.specs.Fault.{Fault, fault_where}
use Rattle.px_syntax.specs.ValueType.{named_type, allowed_as}
use Rattle.px_syntax.specs.declared.block.Item.{Item}
use Rattle.px_syntax.specs.declared.fault.FaultKind.{FaultKind}
use Rattle.px_syntax.specs.declared.fault.FaultKind.TheVariants.{DoubleCondition}
use Rattle.px_syntax.specs.declared.word.TypeName.{TypeName}
use Rattle.px_syntax.specs.declared.word.TypeName.TheVariants as names
use Rattle.px_check.specs.Found.{Sought, noted}
use Rattle.px_check.specs.Once.{once_data, once_pair}
use Rattle.px_check.specs.declared.once.Once as seen
use Rattle.px_check.proofs.Noting.{noted_append}

-- a declared type allows itself alone
pub allowed_alone : (of_type : TypeName) → allowed_as (named_type of_type) ≡ named_type of_type ∷ []
allowed_alone names.Integer = refl
allowed_alone names.Boolean = refl
allowed_alone names.String = refl

-- what stands twice depends on what stands before by the tests alone
pub repeated_alike : {X : Type 0} (same : X → X → Bool) (kind : FaultKind) (before other : List X) (parts : List (X × ℕ))
    → ((part : X) → list_any (same part) before ≡ list_any (same part) other)
    → repeated same kind before parts ≡ repeated same kind other parts
repeated_alike same kind before other [] alike = refl
repeated_alike same kind before other ((part, token) ∷ parts) alike = λ i.
    fault_where (alike part i) kind token
    ++ repeated_alike same kind (part ∷ before) (part ∷ other) parts (λ one. ap (λ any. same one part || any) (alike one)) i

same_once_is : (part other : Once) → is_same_once part other ≡ true → part ≡ other
same_once_is (TheCondition condition) (TheCondition other) is =
    ap TheCondition (same_true condition_type (search rules) condition other is)
same_once_is (TheCondition condition) ThePriority is = absurd (cc)
same_once_is ThePriority (TheCondition other) is = absurd (cc)
same_once_is ThePriority ThePriority is = refl

-- a part that stands before already adds nothing
pub once_again : (part : Once) (before : List Once) → list_any (is_same_once part) before ≡ true
    → (one : Once) → list_any (is_same_once one) before ≡ list_any (is_same_once one) (part ∷ before)
once_again part before is one = by (is_same_once one part) (same_once_is one part)
  where
    by : (same : Bool) → (same ≡ true → one ≡ part)
        → list_any (is_same_once one) before ≡ (same || list_any (is_same_once one) before)
    by true known = ap (λ one. list_any (is_same_once one) before) (known refl) ∙ is
    by false known = refl

-- ---- the walk over items

abbrev once_left : List Item → List (Once × ℕ)
once_left items = flat_map once_in (map item_data items)

abbrev twice : List seen.Once → List (Once × ℕ) → List Fault
twice before parts = repeated is_same_once DoubleCondition (map once_data before) parts

module _ (items : List Item) (place : ℕ) (item : Item) (pair : Option (seen.Once × ℕ))
    (within : place < length items) (is : item ≡ get_or items place item)
    (pair_is : option_to_list (option_map once_pair pair) ≡ once_in (item_data item)) where
  once_cut : option_to_list (option_map once_pair pair) ++ once_left (drop (place + 1) items) ≡ once_left (drop place items)
  once_cut =
      ap (λ parts. parts ++ once_left (drop (place + 1) items)) pair_is ∙ ap once_left (sym (cut_at items place item within is))

  -- an item that declares variables
  pub once_none : (before more : List seen.Once) (found new : Sought) → pair ≡ None → new ≡ found → more ≡ before
      → noted new (twice more (once_left (drop (place + 1) items))) ≡ noted found (twice before (once_left (drop place items)))
  once_none before more found new none new_is more_is =
      (λ i. noted (new_is i) (twice (more_is i) (once_left (drop (place + 1) items))))
      ∙ ap (λ parts. noted found (twice before parts))
      (ap (λ pair. option_to_list (option_map once_pair pair) ++ once_left (drop (place + 1) items)) (sym none) ∙ once_cut)

  -- a condition, or the priority
  pub once_some : (before more : List seen.Once) (part : seen.Once) (token : ℕ) (is_again : Bool) (found new : Sought)
      → pair ≡ Some (part, token)
      → is_again ≡ list_any (is_same_once (once_data part)) (map once_data before)
      → new ≡ noted found (fault_where is_again DoubleCondition token)
      → ((one : Once) → list_any (is_same_once one) (map once_data more)
      ≡ list_any (is_same_once one) (once_data part ∷ map once_data before))
      → noted new (twice more (once_left (drop (place + 1) items))) ≡ noted found (twice before (once_left (drop place items)))
  once_some before more part token is_again found new some again new_is alike =
      let rest = once_left (drop (place + 1) items) in
      let first = fault_where (list_any (is_same_once (once_data part)) (map once_data before)) DoubleCondition token in
      let later = repeated is_same_once DoubleCondition (once_data part ∷ map once_data before) rest in
      (λ i. noted ((new_is ∙ ap (λ again. noted found (fault_where again DoubleCondition token)) again) i)
      (repeated_alike is_same_once DoubleCondition (map once_data more) (once_data part ∷ map once_data before) rest alike i))
      ∙ sym (noted_append found first later)
      ∙ ap (λ parts. noted found (twice before parts))
      (ap (λ pair. option_to_list (option_map once_pair pair) ++ rest) (sym some) ∙ once_cut)
