-- What the first bytes from a gate on, as they were read, say of all the bytes from there on.
use Rattle.std.proofs.Common.{◌≡◌, ◌≢◌, ◌≤◌, ◌<◌, ◌+◌, ◌-◌, ◌⊎◌, inl, inr, ⊎_elim, ℕ, zero, suc, List, [], ◌∷◌, length, take, drop, refl, sym, ◌∙◌, ap, subst, arith, IsTrue}
use Rattle.std.specs.Prelude.{slice_index, slice_range, IsErrOf, Err}
use Rattle.std.proofs.lemmas.Bool.Decides.{nat_tests}
use Rattle.std.proofs.lemmas.List.{take-take, length-take, length-drop, get_or-drop, get_or-take}
use Rattle.byteorder.specs.Endian.{big_number}
use Rattle.byteorder.specs.Numbers.{big_from-take}
use Rattle.px_event.specs.declared.named.NamedEntry.{NamedEntry}
use Rattle.px_journal.specs.Damage as Damage
use Rattle.px_journal.specs.Damage.{body, body_length, text_length, IsNoBody}
use Rattle.px_journal.specs.Damage.Damaged.{magic_differs, version_differs, text_is_cut}
use Rattle.px_journal.specs.declared.fault.RecoverWhy.TheVariants.{Damaged}
use Rattle.px_journal.specs.Layout.{digit, is_closed, is_open, magic, record_bytes, Opens, HasVersion}
use Rattle.px_journal.specs.declared.version.Version.{Version}
use Rattle.px_journal.proofs.Bodies.{body_short}
use Rattle.px_journal.proofs.Fronts.{same_part}
use Rattle.px_journal.proofs.Histories.{length-record}

pub part_is : (told : List ℕ) (gate n : ℕ) → slice_range told gate (gate + n) ≡ take n (drop gate told)
part_is told gate n = ap (λ (k : ℕ). take k (drop gate told)) (let sum : gate + n - gate ≡ n = omega arith in sum)

module _ (rest front : List ℕ) (n : ℕ) (is : front ≡ take n rest) where
  fits : length front ≤ n
  fits = omega (arith, ap length is, length-take n rest)

  same : take n front ≡ take n rest
  same = ap (λ (l : List ℕ). take n l) is ∙ take-take n n rest (omega arith)

  pub front_open : 1 ≤ length front → slice_index front 0 ≢ 0 → IsTrue (is_open rest)
  front_open long other = gate rest n is
    where
      gate : (rest : List ℕ) (n : ℕ) → front ≡ take n rest → IsTrue (is_open rest)
      gate [] zero front_is = absurd (omega (arith, long, ap length front_is))
      gate [] (suc n) front_is = absurd (omega (arith, long, ap length front_is))
      gate (byte ∷ bytes) zero front_is = absurd (omega (arith, long, ap length front_is))
      gate (byte ∷ bytes) (suc n) front_is =
          let differs : byte ≢ 0 = λ zero_is. other (ap (λ (l : List ℕ). slice_index l 0) front_is ∙ zero_is) in
          grind (arith, nat_tests, differs)

  pub front_closed : 1 ≤ length front → slice_index front 0 ≡ 0 → IsTrue (is_closed rest)
  front_closed long shut = gate rest n is
    where
      gate : (rest : List ℕ) (n : ℕ) → front ≡ take n rest → IsTrue (is_closed rest)
      gate [] zero front_is = absurd (omega (arith, long, ap length front_is))
      gate [] (suc n) front_is = absurd (omega (arith, long, ap length front_is))
      gate (byte ∷ bytes) zero front_is = absurd (omega (arith, long, ap length front_is))
      gate (byte ∷ bytes) (suc n) front_is =
          let zero_is : byte ≡ 0 = sym (ap (λ (l : List ℕ). slice_index l 0) front_is) ∙ shut in
          rw zero_is refl

  pub front_content : (content : List ℕ) → 1 ≤ length content → take (length content) (drop 1 front) ≡ content → take (length content) (drop 1 rest) ≡ content
  front_content content long content_is =
      let within : 1 + length content ≤ length front = omega (arith, long, ap length content_is, length-take (length content) (drop 1 front), length-drop 1 front) in
      sym (same_part n 1 (length content) front rest same (omega (arith, within, fits))) ∙ content_is

  pub front_opens : (version : Version) (entry : NamedEntry) → slice_index front 0 ≢ 0 → take (length (record_bytes version entry)) (drop 1 front) ≡ record_bytes version entry → Opens (record_bytes version entry) rest
  front_opens version entry other content_is =
      let long : 1 ≤ length (record_bytes version entry) = omega (arith, length-record version entry) in
      let within : 1 ≤ length front = omega (arith, long, ap length content_is, length-take (length (record_bytes version entry)) (drop 1 front), length-drop 1 front) in
      record { gate = front_open within other; content = front_content (record_bytes version entry) long content_is }

  front_length : 3 ≤ length front → body_length front ≡ body_length rest
  front_length long =
      sym (big_from-take 0 2 2 (drop 1 front) (omega arith))
      ∙ ap (λ (l : List ℕ). big_number 2 l) (same_part n 1 2 front rest same (omega (arith, long, fits)))
      ∙ big_from-take 0 2 2 (drop 1 rest) (omega arith)

  pub front_cut : (left : ℕ) → left ≡ length rest → (left < 3) ⊎ ((3 ≤ length front) × (left ≤ 3 + body_length front)) → length rest ≤ 3 + body_length rest
  front_cut left left_is cut = ⊎_elim (λ short. omega (arith, short, left_is)) (λ long. omega (arith, long.1, left_is, front_length (long.0))) cut

  front_body : 3 + body_length front ≤ length front → body front ≡ body rest
  front_body long =
      same_part n 3 (body_length front) front rest same (omega (arith, long, fits))
      ∙ ap (λ (k : ℕ). take k (drop 3 rest)) (front_length (omega (arith, long)))

  -- a body that is too long is none
  long_body : (version : Version) → 9382 < body_length rest → 3 + body_length rest < length rest → IsNoBody version (body rest)
  long_body version long within named fit is_body = absurd (omega (
    arith,
    long,
    within,
    ap length is_body,
    length-take (body_length rest) (drop 3 rest),
    length-drop 3 rest,
    body_short version named fit,
  ))

  pub front_no_body : (version : Version) (left : ℕ) → left ≡ length rest
      → (3 + body_length front < left) × (3 ≤ length front)
      × ((9382 < body_length front) ⊎ ((3 + body_length front ≤ length front) × IsNoBody version (body front)))
      → (3 + body_length rest < length rest) × IsNoBody version (body rest)
  front_no_body version left left_is broken =
      let long = front_length (broken.1) in
      let within : 3 + body_length rest < length rest = omega (arith, broken.0, left_is, long) in (
        within,
        ⊎_elim (λ much. long_body version (omega (arith, much, long)) within) (λ none. subst (IsNoBody version) (front_body (none.0)) (none.1)) (broken.2),
      )

pub damaged_at : {T : Type 0} (a b : ℕ) → IsErrOf {T = T} (Err (Damaged a)) (Damaged b) → b ≡ a
damaged_at a b same = cc

-- ---- the first 13 bytes

module _ (told heading : List ℕ) (is : heading ≡ take 13 told) (long : length heading ≡ 13) where
  pub heading_magic : take 7 (drop 1 heading) ≡ take 7 (drop 1 told)
  heading_magic = same_part 13 1 7 heading told (same told heading 13 is) (omega arith)

  pub heading_number : take 4 (drop 9 heading) ≡ take 4 (drop 9 told)
  heading_number = same_part 13 9 4 heading told (same told heading 13 is) (omega arith)

  heading_byte : slice_index told 8 ≡ slice_index heading 8
  heading_byte = sym (get_or-take 13 told 8 0 (omega arith)) ∙ ap (λ (l : List ℕ). slice_index l 8) (sym is)

  pub heading_version : (version : Version) → take 7 (drop 1 heading) ≡ magic → slice_index heading 8 ≡ digit version → HasVersion version told
  heading_version version is_magic is_digit = (sym heading_magic ∙ is_magic, heading_byte ∙ is_digit)

  -- the magic differs
  pub magic_damaged : (i : ℕ) → i < 7 → take i (take 7 (drop 1 heading)) ≡ take i magic → slice_index (take 7 (drop 1 heading)) i ≢ slice_index magic i
      → Damage.Damaged told (1 + i)
  magic_damaged i below before differs =
      let front : take i (drop 1 told) ≡ take i magic =
      sym (take-take i 7 (drop 1 told) (omega (arith, below))) ∙ ap (λ (l : List ℕ). take i l) (sym heading_magic) ∙ before in
      let at : slice_index told (1 + i) ≡ slice_index (take 7 (drop 1 heading)) i =
      sym (get_or-drop 1 told i 0) ∙ sym (get_or-take 7 (drop 1 told) i 0 below) ∙ ap (λ (l : List ℕ). slice_index l i) (sym heading_magic) in
      magic_differs i below front (λ same. differs (sym at ∙ same))

  -- the version is none
  pub version_damaged : take 7 (drop 1 heading) ≡ magic → ((version : Version) → slice_index heading 8 ≢ digit version) → Damage.Damaged told 8
  version_damaged is_magic none = version_differs (sym heading_magic ∙ is_magic) (λ version same. none version (sym heading_byte ∙ same))

  -- the text is too long, or cut
  pub text_damaged : (version : Version) (n : ℕ) → HasVersion version told → n ≡ big_number 4 (drop 9 heading) → (1048576 < n) ⊎ (length told ≤ 13 + n)
      → Damage.Damaged told 9
  text_damaged version n has n_is cut =
      let number : n ≡ text_length told =
      n_is
      ∙ sym (big_from-take 0 4 4 (drop 9 heading) (omega arith))
      ∙ ap (λ (l : List ℕ). big_number 4 l) heading_number
      ∙ big_from-take 0 4 4 (drop 9 told) (omega arith) in
      text_is_cut version has (⊎_elim (λ much. inl (omega (arith, much, number))) (λ short. inr (omega (arith, short, number))) cut)
