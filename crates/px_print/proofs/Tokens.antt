-- Which tokens a text can have, and how each is printed.
use Rattle.std.proofs.Common.{◌≡◌, ℕ, ◌+◌, ◌<◌, ◌≤◌, ◌^◌, true, false, ◌&&◌, ◌==◌, List, [], ◌∷◌, ◌++◌, length, drop, Some, None, refl, ap, ◌∙◌, subst, arith, append_assoc}
use Rattle.std.specs.Prelude.{if◌then◌else◌, codes, decimal, pos, nat_lt}
use Rattle.std.specs.Char.{digit_value}
use Rattle.std.specs.List.{list_all, flat_map}
use Rattle.std.specs.Str.{IsUtf8}
use Rattle.std.specs.Str.Parse.{digits_value}
use Rattle.std.proofs.Math.Bool.{and-false}
use Rattle.std.proofs.lemmas.Bool.{and_left, and_parts, or_right, and_from, lt-ltb}
use Rattle.std.proofs.lemmas.Bool.Decides.{nat_tests}
use Rattle.std.proofs.lemmas.Fmt.{decimal_is_IsNumeral, decimal_nonempty, IsAscii-decimal}
use Rattle.std.proofs.lemmas.Str.{IsUtf8-from_ascii}
use Rattle.px_value.specs.Name.{is_digit, begins_identifier, continues_identifier, is_identifier}
use Rattle.px_value.proofs.Ascii.{list_all-weaker, ascii_text, identifier_text}
use Rattle.px_value.proofs.Digits.{decimal_digits, of_ten}
use Rattle.px_lex.specs.declared.keyword.Keyword.{Keyword}
use Rattle.px_lex.specs.declared.sign.Sign.{Sign}
use Rattle.px_lex.specs.declared.token.Token.{Token}
use Rattle.px_lex.specs.declared.token.TokenKind.{TokenKind}
use Rattle.px_lex.specs.declared.token.TokenKind.TheVariants as kinds
use Rattle.px_lex.specs.Gap.{begins}
use Rattle.px_lex.specs.Keyword.{keyword_rows, keyword_of}
use Rattle.px_lex.specs.Lexer.{Splits}
use Rattle.px_lex.specs.Number.{IsNumber, numeral, number_of, is_fraction}
use Rattle.px_lex.specs.Sign.{sign_of, ends_sign}
use Rattle.px_lex.specs.String.{string_from}
use Rattle.px_lex.specs.Token.{IsToken}
use Rattle.px_lex.specs.Word.{is_real_type}
use Rattle.px_lex.proofs.Fronts.{opened}
use Rattle.px_lex.proofs.Numbers.{numeral_some}
use Rattle.px_lex.proofs.Signs.{row_of-all, sign_is_ascii}
use Rattle.px_syntax.specs.Form.{kind_at, one, sign, keyword}
use Rattle.px_syntax.proofs.Spelled.{spelled_in}
use Rattle.px_value.specs.Text.{escaped, quoted}
use Rattle.px_print.proofs.Printing.{Prints, prints_token}
use Rattle.px_print.proofs.Strings.{is_spelled, all_spelled, read_all}
use Rattle.px_print.proofs.Utf8.{behind_byte, content_text, quoted_text}

-- ---- what holds of the tokens of a text

-- a word that is no keyword
pub record IsName (name : List ℕ) : Type 0 where
  pub word : is_identifier name ≡ true
  pub no_keyword : keyword_of name ≡ None
  pub allowed : is_real_type name ≡ false
  pub short : length name ≤ 64

-- what a string of a text holds
pub record IsContent (source content : List ℕ) : Type 0 where
  pub bytes : list_all is_spelled content ≡ true
  pub short : length content ≤ 1024
  pub kept : IsUtf8 source → IsUtf8 content

abbrev pub Can : List ℕ → TokenKind → Type 0
Can source (kinds.Identifier name) = IsName name
Can source (kinds.Keyword word) = Unit {0}
Can source (kinds.Integer z) = (value : ℕ) × (z ≡ pos value) × (value < 2 ^ 31)
Can source (kinds.Text content) = IsContent source content
Can source (kinds.Sign sign) = Unit {0}

can : (source front : List ℕ) (kind : TokenKind) (spelling rest : List ℕ) → source ≡ front ++ (spelling ++ rest)
    → IsToken kind spelling rest → Can source kind
can source front (kinds.Identifier name) spelling rest is t =
    record { word = subst (λ w. is_identifier w ≡ true) t.same t.word.word; no_keyword = subst (λ w. keyword_of w ≡ None) t.same t.no_keyword; allowed = subst (λ w. is_real_type w ≡ false) t.same t.allowed; short = subst (λ w. length w ≤ 64) t.same t.short }
can source front (kinds.Keyword word) spelling rest is t = tt
can source front (kinds.Integer z) spelling rest is t = (t.0, t.1, t.2.small)
can source front (kinds.Text content) spelling rest is t =
    let string = opened (spelling ++ rest) content rest t.read in
    record {
      bytes = all_spelled string.0 content rest string.2;
      short = t.short;
      kept = λ u. content_text string.0 content rest (behind_byte front 34 string.0 (omega arith)
          (subst IsUtf8 (is ∙ ap (λ text. front ++ text) string.1) u)) string.2;
    }
can source front (kinds.Sign sign) spelling rest is t = tt

-- each token that stands somewhere is one that a text can have
abbrev pub AllCan : List ℕ → List Token → Type 0
AllCan source tokens = (number : ℕ) (kind : TokenKind) → kind_at tokens number ≡ Some kind → Can source kind

pub split_can : (text : List ℕ) (tokens : List Token) → Splits text tokens → AllCan text tokens
split_can text tokens splits number kind has =
    let there = spelled_in text tokens splits kind number has in
    can text there.front kind there.spelling there.rest there.there there.token

-- ---- printing one token

-- no word or number goes on with the rest
abbrev pub Ends : List ℕ → Type 0
Ends rest = begins continues_identifier rest ≡ false

-- nor does a real number
abbrev pub Stops : List ℕ → Type 0
Stops rest = Ends rest × (begins (λ c. c == 46) rest ≡ false)

pub prints_keyword : {source : List ℕ} (which : Keyword) (word rest : List ℕ) → keyword_of word ≡ Some which → Ends rest → Prints source (keyword which) word rest
prints_keyword which word rest found ends =
    let is = row_of-all is_identifier keyword_rows word which refl found in
    prints_token (kinds.Keyword which) word rest (record { word = is; longest = ends }, found) (λ u. identifier_text word is)

pub prints_sign : {source : List ℕ} (which : Sign) (spelling rest : List ℕ) → sign_of spelling ≡ Some which → ends_sign spelling rest ≡ true
    → Prints source (sign which) spelling rest
prints_sign which spelling rest found ends =
    prints_token (kinds.Sign which) spelling rest (found, ends) (λ u. ascii_text spelling (sign_is_ascii spelling which found))

-- a sign that no byte makes longer
pub prints_any : {source : List ℕ} (which : Sign) (spelling rest : List ℕ) → sign_of spelling ≡ Some which
    → ((c : ℕ) (cs : List ℕ) → ends_sign spelling (c ∷ cs) ≡ true) → Prints source (sign which) spelling rest
prints_any which spelling rest found each = prints_sign which spelling rest found (ends rest)
  where
    ends : (rest : List ℕ) → ends_sign spelling rest ≡ true
    ends [] = refl
    ends (c ∷ cs) = each c cs

pub prints_word : {source : List ℕ} (name rest : List ℕ) → IsName name → Ends rest → Prints source (one (kinds.Identifier name)) name rest
prints_word name rest is ends =
    prints_token (kinds.Identifier name) name rest
    (record { same = refl; word = record { word = is.word; longest = ends }; no_keyword = is.no_keyword; allowed = is.allowed; short = is.short })
    (λ u. identifier_text name is.word)

-- ---- integers

no_x : (c : ℕ) → is_digit c ≡ true → (c == 120) ≡ false
no_x c h = grind (arith, nat_tests)

number_is : (ds rest : List ℕ) → 0 < length ds → list_all is_digit ds ≡ true → Ends rest → IsNumber ds rest
number_is [] rest some all ends = absurd (omega arith)
number_is (d ∷ ds) rest some all ends = record {
  first = (and_parts (is_digit d) (list_all is_digit ds) all).0;
  going_on = list_all-weaker is_digit continues_identifier (λ c digit. or_right (begins_identifier c) (is_digit c) digit) (d ∷ ds) all;
  longest = ends;
}

numeral_is : (ds : List ℕ) → 0 < length ds → list_all is_digit ds ≡ true → numeral 10 ds ≡ Some (digits_value 10 ds)
numeral_is ds some all =
    numeral_some 10 ds
    (and_from (nat_lt 0 (length ds)) (list_all (λ c. nat_lt (digit_value c) 10) ds) (lt-ltb 0 (length ds) some)
    (list_all-weaker is_digit (λ c. nat_lt (digit_value c) 10) of_ten ds all))

writes : (ds : List ℕ) → 0 < length ds → list_all is_digit ds ≡ true → number_of ds ≡ Some (digits_value 10 ds)
writes [] some all = absurd (omega arith)
writes (a ∷ []) some all = numeral_is (a ∷ []) some all
writes (a ∷ b ∷ ds) some all =
    let second = (and_parts (is_digit b) (list_all is_digit ds) (and_parts (is_digit a) (list_all is_digit (b ∷ ds)) all).1).0 in
    ap (λ x. if (a == 48) && x then numeral 16 ds else numeral 10 (a ∷ b ∷ ds)) (no_x b second)
    ∙ ap (λ x. if x then numeral 16 ds else numeral 10 (a ∷ b ∷ ds)) (and-false (a == 48))
    ∙ numeral_is (a ∷ b ∷ ds) some all

no_fraction : (ds rest : List ℕ) → begins (λ c. c == 46) rest ≡ false → is_fraction ds rest ≡ false
no_fraction ds rest stop =
    ap (λ x. list_all is_digit ds && x && begins is_digit (drop 1 rest)) stop
    ∙ and_left _ (begins is_digit (drop 1 rest)) (and-false (list_all is_digit ds))

pub prints_integer : {source : List ℕ} (value : ℕ) (rest : List ℕ) → value < 2 ^ 31 → Stops rest → Prints source (one (kinds.Integer (pos value))) (decimal value) rest
prints_integer value rest small stops =
    let some = decimal_nonempty value (omega arith) in
    let all = decimal_digits value (omega arith) in
    prints_token (kinds.Integer (pos value)) (decimal value) rest (
      value,
      refl,
      record {
        number = number_is (decimal value) rest some all stops.0;
        writes = writes (decimal value) some all ∙ ap (λ n. Some n) (decimal_is_IsNumeral value (omega arith)).1;
        whole = no_fraction (decimal value) rest stops.1;
        small = small;
      },
    )
    (λ u. IsUtf8-from_ascii (decimal value) (IsAscii-decimal value (omega arith)))

-- ---- strings

pub prints_string : {source : List ℕ} (content rest : List ℕ) → IsContent source content → Prints source (one (kinds.Text content)) (quoted content) rest
prints_string content rest is =
    prints_token (kinds.Text content) (quoted content) rest
    (record { read = ap string_from (append_assoc (flat_map escaped content) (codes "\"") rest) ∙ read_all content rest is.bytes; short = is.short })
    (λ u. quoted_text content (is.kept u))
