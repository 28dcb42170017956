-- A value that is read is the value that was spelled, and one that was spelled is read again.
use Rattle.std.proofs.Common.{◌≡◌, ℕ, zero, suc, ◌*◌, ◌^◌, ◌<◌, ◌≤◌, Bool, true, false, List, [], ◌∷◌, ◌++◌, length, get_or, Some, refl, sym, ap, subst, ◌∙◌, append_assoc, arith}
use Rattle.std.specs.Prelude.{ℤ, ◌&&◌}
use Rattle.std.specs.List.{list_all, flat_map}
use Rattle.std.specs.Int.{w32, cast_signed, cast_unsigned}
use Rattle.std.specs.Str.{is_utf8}
use Rattle.std.proofs.lemmas.Bool.{and_parts, and_from, leb-true}
use Rattle.std.proofs.lemmas.Int.{to_z-of_z, of_z-to_z}
use Rattle.std.proofs.lemmas.List.Concat.{length-flat_map}
use Rattle.std.proofs.lemmas.List.Sums.{sum_by-le, AllPass-from_list_all}
use Rattle.std.proofs.lemmas.Option.{same_Some}
use mir.ValLaws.{of_z_fits, to_z-Fits}
use Rattle.byteorder.specs.Endian.{big_bytes}
use Rattle.px_value.specs.Arithmetic.{fits_32_bits}
use Rattle.px_value.specs.Text.{is_short_text}
use Rattle.px_value.specs.Value.{is_known}
use Rattle.px_value.specs.declared.value.Value.{Value}
use Rattle.px_value.specs.declared.value.Value.TheVariants as values
use Rattle.px_value.proofs.Integers.{fits_from, fits_of}
use Rattle.px_event.specs.Values.{is_plain, is_plain_or_unknown}
use Rattle.px_event.specs.Bytes.{text_bytes, integer_bytes, value_bytes}
use Rattle.px_event.specs.Reading.{Read, ◌>>=◌, only, byte_at, number_at, text_at, value_behind, value_at, argument_at, arguments_at}
use Rattle.px_event.proofs.Arguments.{read_on}
use Rattle.px_event.proofs.Fields.{tagged, IsBytes, bind_some, after, only_some, only_passes, Takes, Takes-then, byte_takes, four_back, number_takes, number_again, text_again, tested_takes}

-- ---- integers

signed_fits : (n : ℕ) → n < 2 ^ 32 → fits_32_bits (cast_signed w32 n) ≡ true
signed_fits n lt = fits_from (cast_signed w32 n) (to_z-Fits w32 n (record { fits = lt }))

unsigned_below : (z : ℤ) → fits_32_bits z ≡ true → cast_unsigned w32 z < 2 ^ 32
unsigned_below z fits = (of_z_fits w32 z (fits_of z fits)).fits

-- a text that is shown as bytes of UTF-8
pub shown_plain : (value : Value) (text shown : List ℕ) → value ≡ values.Text text → shown ≡ text → is_utf8 shown ≡ true → is_short_text shown ≡ is_plain value
shown_plain value text shown is shows utf8 =
    let plain : is_plain value ≡ (is_utf8 shown && is_short_text shown) = ap is_plain is ∙ ap (λ (t : List ℕ). is_utf8 t && is_short_text t) (sym shows) in
    sym (plain ∙ ap (λ (b : Bool). b && is_short_text shown) utf8)

-- ---- a value behind its tag

abbrev Told : List ℕ → Value × List ℕ → Type 0
Told bytes read = Takes bytes (value_bytes read.0) read.1 × (is_plain_or_unknown read.0 ≡ true)

abbrev integer_read : ℕ × List ℕ → Read Value
integer_read number = Some (values.Integer (cast_signed w32 number.0), number.1)

abbrev text_read : List ℕ × List ℕ → Read Value
text_read short = Some (values.Text short.0, short.1)

value_behind_takes : (tag : ℕ) (bytes : List ℕ) (read : Value × List ℕ) → IsBytes bytes → value_behind tag bytes ≡ Some read → Told (tag ∷ bytes) read
unfolding value_behind
value_behind_takes zero bytes read fits e =
    subst (Told (0 ∷ bytes)) (same_Some (values.Unknown, bytes) read e) (record { parts = refl; rest_fits = fits }, refl)
value_behind_takes (suc zero) bytes read fits e =
    subst (Told (1 ∷ bytes)) (same_Some (values.Boolean false, bytes) read e) (record { parts = refl; rest_fits = fits }, refl)
value_behind_takes (suc (suc zero)) bytes read fits e =
    subst (Told (2 ∷ bytes)) (same_Some (values.Boolean true, bytes) read e) (record { parts = refl; rest_fits = fits }, refl)
value_behind_takes (suc (suc (suc zero))) bytes read fits e =
    let b = bind_some (number_at 4 bytes) integer_read read e in
    let n = number_takes 4 four_back bytes b.0.0 b.0.1 fits b.1 in
    let same : cast_unsigned w32 (cast_signed w32 b.0.0) ≡ b.0.0 = of_z-to_z w32 b.0.0 n.1 in
    let spelled : Takes bytes (integer_bytes (cast_signed w32 b.0.0)) b.0.1 = subst (λ (k : ℕ). Takes bytes (big_bytes 4 k) b.0.1) (sym same) n.0 in
    subst (Told (3 ∷ bytes)) (same_Some (values.Integer (cast_signed w32 b.0.0), b.0.1) read b.2)
    (tagged 3 bytes (integer_bytes (cast_signed w32 b.0.0)) b.0.1 spelled, signed_fits b.0.0 n.1)
value_behind_takes (suc (suc (suc (suc zero)))) bytes read fits e =
    let b = bind_some (text_at bytes) (λ text. only is_short_text text >>= text_read) read e in
    let d = bind_some (only is_short_text b.0) text_read read b.2 in
    let t = tested_takes is_short_text bytes d.0.0 d.0.1 fits (after (text_at bytes) (λ text. only is_short_text text) b.0 (Some d.0) b.1 d.1) in
    subst (Told (4 ∷ bytes)) (same_Some (values.Text d.0.0, d.0.1) read d.2)
    (tagged 4 bytes (text_bytes d.0.0) d.0.1 t.0, and_from (is_utf8 d.0.0) (is_short_text d.0.0) t.2 t.1)
value_behind_takes (suc (suc (suc (suc (suc tag))))) bytes read fits e = absurd cc

pub value_takes : (bytes : List ℕ) (read : Value × List ℕ) → IsBytes bytes → value_at bytes ≡ Some read → Told bytes read
unfolding value_at
value_takes bytes read fits e =
    let b = bind_some (byte_at bytes) (λ tag. value_behind tag.0 tag.1) read e in
    let t = byte_takes bytes b.0.0 b.0.1 fits b.1 in
    subst (λ (l : List ℕ). Told l read) (sym t.0.parts) (value_behind_takes b.0.0 b.0.1 read t.0.rest_fits b.2)

short_below : (text : List ℕ) → is_short_text text ≡ true → length text < 65536
short_below text short = let small : length text ≤ 1024 = leb-true (length text) 1024 short in omega arith

pub value_again : (value : Value) (rest : List ℕ) → is_plain_or_unknown value ≡ true → value_at (value_bytes value ++ rest) ≡ Some (value, rest)
unfolding value_at value_behind
value_again values.Unknown rest fit = refl
value_again (values.Boolean false) rest fit = refl
value_again (values.Boolean true) rest fit = refl
value_again (values.Integer number) rest fit =
    after (number_at 4 (integer_bytes number ++ rest)) integer_read (cast_unsigned w32 number, rest) _
    (number_again 4 (cast_unsigned w32 number) rest (unsigned_below number fit))
    (ap (λ (z : ℤ). integer_read_as z rest) (to_z-of_z w32 number (fits_of number fit)))
  where
    integer_read_as : ℤ → List ℕ → Read Value
    integer_read_as z left = Some (values.Integer z, left)
value_again (values.Text text) rest fit =
    let both = and_parts (is_utf8 text) (is_short_text text) fit in
    after (text_at (text_bytes text ++ rest)) (λ text. only is_short_text text >>= text_read) (text, rest) _
    (text_again text rest (short_below text both.1) both.0)
    (after (only is_short_text (text, rest)) text_read (text, rest) _ (only_passes is_short_text (text, rest) both.1) refl)
value_again (values.State state) rest fit = absurd cc
value_again (values.Outcome outcome) rest fit = absurd cc
value_again (values.Failure failure) rest fit = absurd cc
value_again (values.Handle handle) rest fit = absurd cc

-- ---- arguments

known_plain : (value : Value) → is_plain_or_unknown value ≡ true → is_known value ≡ true → is_plain value ≡ true
known_plain values.Unknown fit known = absurd cc
known_plain (values.Boolean truth) fit known = fit
known_plain (values.Integer number) fit known = fit
known_plain (values.Text text) fit known = fit
known_plain (values.State state) fit known = fit
known_plain (values.Outcome outcome) fit known = fit
known_plain (values.Failure failure) fit known = fit
known_plain (values.Handle handle) fit known = fit

pub plain_known : (value : Value) → is_plain value ≡ true → (is_plain_or_unknown value ≡ true) × (is_known value ≡ true)
plain_known values.Unknown plain = absurd cc
plain_known (values.Boolean truth) plain = (plain, refl)
plain_known (values.Integer number) plain = (plain, refl)
plain_known (values.Text text) plain = (plain, refl)
plain_known (values.State state) plain = (plain, refl)
plain_known (values.Outcome outcome) plain = (plain, refl)
plain_known (values.Failure failure) plain = (plain, refl)
plain_known (values.Handle handle) plain = (plain, refl)

argument_takes : (bytes : List ℕ) (read : Value × List ℕ) → IsBytes bytes → argument_at bytes ≡ Some read → Takes bytes (value_bytes read.0) read.1 × (is_plain read.0 ≡ true)
unfolding argument_at
argument_takes bytes read fits e =
    let b = bind_some (value_at bytes) (λ value. only is_known value) read e in
    let o = only_some is_known b.0 read b.2 in
    let t = value_takes bytes b.0 fits b.1 in
    subst (λ (p : Value × List ℕ). Takes bytes (value_bytes p.0) p.1 × (is_plain p.0 ≡ true)) o.1 (t.0, known_plain b.0.0 t.1 o.0)

argument_again : (value : Value) (rest : List ℕ) → is_plain value ≡ true → argument_at (value_bytes value ++ rest) ≡ Some (value, rest)
unfolding argument_at
argument_again value rest plain =
    let both = plain_known value plain in
    after (value_at (value_bytes value ++ rest)) (λ value. only is_known value) (value, rest) _ (value_again value rest both.0)
    (only_passes is_known (value, rest) both.1)

abbrev AllTold : ℕ → List ℕ → List Value × List ℕ → Type 0
AllTold n bytes read = Takes bytes (flat_map value_bytes read.0) read.1 × (list_all is_plain read.0 ≡ true) × (length read.0 ≡ n)

pub arguments_takes : (n : ℕ) (bytes : List ℕ) (read : List Value × List ℕ) → IsBytes bytes → arguments_at n bytes ≡ Some read → AllTold n bytes read
unfolding arguments_at
arguments_takes zero bytes read fits e =
    subst (AllTold 0 bytes) (same_Some ([], bytes) read e) (record { parts = refl; rest_fits = fits }, refl, refl)
arguments_takes (suc n) bytes read fits e =
    let b = bind_some (argument_at bytes) (λ first. arguments_at n first.1 >>= read_on first.0) read e in
    let t = argument_takes bytes b.0 fits b.1 in
    let d = bind_some (arguments_at n b.0.1) (read_on b.0.0) read b.2 in
    let o = arguments_takes n b.0.1 d.0 t.0.rest_fits d.1 in
    subst (AllTold (suc n) bytes) (same_Some (b.0.0 ∷ d.0.0, d.0.1) read d.2)
    (Takes-then bytes (value_bytes b.0.0) b.0.1 (flat_map value_bytes d.0.0) d.0.1 t.0 o.0, and_from (is_plain b.0.0) (list_all is_plain d.0.0) t.1 o.1, ap suc o.2)

pub arguments_again : (args : List Value) (rest : List ℕ) → list_all is_plain args ≡ true → arguments_at (length args) (flat_map value_bytes args ++ rest) ≡ Some (args, rest)
unfolding arguments_at
arguments_again [] rest plain = refl
arguments_again (value ∷ args) rest plain =
    let both = and_parts (is_plain value) (list_all is_plain args) plain in
    let behind = flat_map value_bytes args ++ rest in
    let split : flat_map value_bytes (value ∷ args) ++ rest ≡ value_bytes value ++ behind = append_assoc (value_bytes value) (flat_map value_bytes args) rest in
    ap (λ (l : List ℕ). argument_at l >>= λ first. arguments_at (length args) first.1 >>= read_on first.0) split
    ∙ after (argument_at (value_bytes value ++ behind)) (λ first. arguments_at (length args) first.1 >>= read_on first.0) (value, behind) _
    (argument_again value behind both.0)
    (after (arguments_at (length args) behind) (read_on value) (args, rest) _ (arguments_again args rest both.1) refl)

-- ---- how long they are

pub value_short : (value : Value) → is_plain_or_unknown value ≡ true → length (value_bytes value) ≤ 1027
value_short values.Unknown fit = omega arith
value_short (values.Boolean false) fit = omega arith
value_short (values.Boolean true) fit = omega arith
value_short (values.Integer number) fit = omega arith
value_short (values.Text text) fit = let small : length text ≤ 1024 = leb-true (length text) 1024 (and_parts (is_utf8 text) (is_short_text text) fit).1 in omega arith
value_short (values.State state) fit = absurd cc
value_short (values.Outcome outcome) fit = absurd cc
value_short (values.Failure failure) fit = absurd cc
value_short (values.Handle handle) fit = absurd cc

pub arguments_short : (args : List Value) → list_all is_plain args ≡ true → length (flat_map value_bytes args) ≤ 1027 * length args
arguments_short args plain =
    omega (
      arith,
      length-flat_map value_bytes args,
      sum_by-le (λ (value : Value). length (value_bytes value)) 1027 args
          (λ k d inside. value_short (get_or args k d) (plain_known (get_or args k d) (AllPass-from_list_all is_plain args plain k d inside)).0),
    )
