-- How the arguments of a set line are read one after another.
use Rattle.std.proofs.Common.{◌≡◌, ℕ, suc, ◌-◌, ◌+◌, ◌<◌, List, [], ◌∷◌, ◌++◌, length, get_or, drop, map, refl, sym, ap, ◌∙◌, arith, Option, Some, None, inl, inr}
use Rattle.std.specs.Prelude.{◌==◌}
use Rattle.std.specs.Option.{option_map}
use Rattle.std.proofs.lemmas.Bool.{cases_Bool, eqb-true}
use Rattle.std.specs.Borrow.{Bor}
use Rattle.std.proofs.lemmas.List.{append_assoc, at_drop_more, length_push, map-append}
use Rattle.px_value.specs.declared.value.Value.{Value}
use Rattle.px_value.proofs.General.{option_map-map}
use Rattle.px_script.specs.Place.{in_place, behind_place, behind_sign}
use Rattle.px_script.specs.SetLine.{with_argument, arguments_from, arguments_in, all_values}
use Rattle.px_script.specs.Setting.{places_of}
use Rattle.px_script.specs.Value.{argument_of}

abbrev Arguments : Type 0
Arguments = List (List ℕ) × List ℕ

-- arguments and what is behind them, with others before them
abbrev pub with_arguments : List (List ℕ) → Arguments → Arguments
with_arguments args more = (args ++ more.0, more.1)

-- what is read of arguments behind these, where so many may be left
abbrev pub reading : List (List ℕ) → ℕ → List ℕ → Option Arguments
reading args most text = option_map (with_arguments args) (arguments_in most text)

push : (args : List (List ℕ)) (arg : List ℕ) (o : Option Arguments) → option_map (with_arguments (args ++ arg ∷ [])) o ≡ option_map (with_arguments args) (option_map (with_argument arg) o)
push args arg = option_map-map (with_arguments args) (with_argument arg) (with_arguments (args ++ arg ∷ []))
    (λ more. ap (λ (list : List (List ℕ)). (list, more.1)) (append_assoc args (arg ∷ []) more.0))

comma_from : (args : List (List ℕ)) (arg : List ℕ) (more : List ℕ → Option Arguments) (text rest : List ℕ) → behind_sign 44 text ≡ Some rest
    → option_map (with_arguments (args ++ arg ∷ [])) (more rest) ≡ option_map (with_arguments args) (arguments_from arg more text)
comma_from args arg more [] rest h = cc
comma_from args arg more (c ∷ cs) rest h = elim (cases_Bool (c == 44)) [
  | inl comma ↦
      let same : Some cs ≡ Some rest = rw comma at h in
      rw comma (ap (λ o. option_map (with_arguments (args ++ arg ∷ [])) (more (tail o))) (sym same) ∙ push args arg (more cs))
  | inr other ↦ let none : ◌≡◌ {A = Option (List ℕ)} None (Some rest) = rw other at h in cc
]
  where
    tail : Option (List ℕ) → List ℕ
    tail None = []
    tail (Some list) = list

-- a comma goes on to the next argument
pub comma : (args : List (List ℕ)) (most : ℕ) (text rest : List ℕ) → behind_sign 44 (behind_place text) ≡ Some rest
    → reading (args ++ in_place text ∷ []) most rest ≡ reading args (suc most) text
comma args most text rest h = comma_from args (in_place text) (arguments_in most) (behind_place text) rest h

close_from : (args : List (List ℕ)) (arg : List ℕ) (more : List ℕ → Option Arguments) (text rest : List ℕ) → behind_sign 41 text ≡ Some rest
    → Some (args ++ arg ∷ [], rest) ≡ option_map (with_arguments args) (arguments_from arg more text)
close_from args arg more [] rest h = cc
close_from args arg more (c ∷ cs) rest h = elim (cases_Bool (c == 41)) [
  | inl close ↦
      let same : Some cs ≡ Some rest = rw close at h in
      let is : c ≡ 41 = eqb-true c 41 close in
      rw is (ap (λ o. option_map (λ rest. (args ++ arg ∷ [], rest)) o) (sym same))
  | inr other ↦ let none : ◌≡◌ {A = Option (List ℕ)} None (Some rest) = rw other at h in cc
]

-- a parenthesis closes them
pub close : (args : List (List ℕ)) (most : ℕ) (text rest : List ℕ) → behind_sign 41 (behind_place text) ≡ Some rest
    → ◌≡◌ {A = Option Arguments} (Some (args ++ in_place text ∷ [], rest)) (reading args (suc most) text)
close args most text rest h = close_from args (in_place text) (arguments_in most) (behind_place text) rest h

pub reading_all : (o : Option Arguments) → option_map (with_arguments []) o ≡ o
reading_all None = refl
reading_all (Some more) = refl

-- one value more
pub value_more : (values : List Value) (value : Value) (o : Option (List Value))
    → option_map (λ more. (values ++ value ∷ []) ++ more) o ≡ option_map (λ more. values ++ more) (option_map (λ more. value ∷ more) o)
value_more values value = option_map-map (λ more. values ++ more) (λ more. value ∷ more) (λ more. (values ++ value ∷ []) ++ more)
    (append_assoc values (value ∷ []))

abbrev values_from : List Value → List (Bor (List ℕ)) → Option (List Value)
values_from values left = option_map (λ more. values ++ more) (all_values (map argument_of (places_of left)))

values_at : (values : List Value) (value : Value) (place : Bor (List ℕ)) (left : List (Bor (List ℕ))) → argument_of place.now ≡ Some value
    → values_from (values ++ value ∷ []) left ≡ values_from values (place ∷ left)
values_at values value place left is = rw is (value_more values value (all_values (map argument_of (places_of left))))

pub values_step : (places : List (Bor (List ℕ))) (i : ℕ) (d : Bor (List ℕ)) (values : List Value) (value : Value) → i < length places
    → argument_of (get_or places i d).now ≡ Some value → values_from (values ++ value ∷ []) (drop (i + 1) places) ≡ values_from values (drop i places)
values_step places i d values value within is =
    values_at values value (get_or places i d) (drop (i + 1) places) is ∙ sym (at_drop_more (values_from values) places i d within)

pub places_push : (items : List (Bor (List ℕ))) (arg : Bor (List ℕ)) → places_of (items ++ arg ∷ []) ≡ places_of items ++ arg.now ∷ []
places_push items arg = map-append (λ (place : Bor (List ℕ)). place.now) items (arg ∷ [])

pub comma_step : (args : List (List ℕ)) (n : ℕ) (text rest : List ℕ) → n < 8 → behind_sign 44 (behind_place text) ≡ Some rest
    → reading (args ++ in_place text ∷ []) (8 - (n + 1)) rest ≡ reading args (8 - n) text
comma_step args n text rest few h =
    let more : 8 - n ≡ suc (8 - (n + 1)) = omega arith in
    comma args (8 - (n + 1)) text rest h ∙ ap (λ most. reading args most text) (sym more)

pub close_step : (args : List (List ℕ)) (n : ℕ) (text rest : List ℕ) → n < 8 → behind_sign 41 (behind_place text) ≡ Some rest
    → ◌≡◌ {A = Option Arguments} (Some (args ++ in_place text ∷ [], rest)) (reading args (8 - n) text)
close_step args n text rest few h =
    let more : 8 - n ≡ suc (8 - (n + 1)) = omega arith in
    close args (8 - (n + 1)) text rest h ∙ ap (λ most. reading args most text) (sym more)

-- the same of the places that the code keeps
pub comma_kept : (kept new : List (Bor (List ℕ))) (arg : Bor (List ℕ)) (text rest : List ℕ) → new ≡ kept ++ arg ∷ [] → arg.now ≡ in_place text → length kept < 8
    → behind_sign 44 (behind_place text) ≡ Some rest → reading (places_of new) (8 - length new) rest ≡ reading (places_of kept) (8 - length kept) text
comma_kept kept new arg text rest is place few h =
    let long : length new ≡ length kept + 1 = ap length is ∙ length_push kept arg in
    ap (λ most. reading (places_of new) (8 - most) rest) long
    ∙ ap (λ args. reading args (8 - (length kept + 1)) rest) (ap places_of is ∙ places_push kept arg ∙ ap (λ place. places_of kept ++ place ∷ []) place)
    ∙ comma_step (places_of kept) (length kept) text rest few h
