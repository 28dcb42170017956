-- What is at fault in a text at whose front neither a gap nor a token stands.
use Rattle.std.specs.Prelude.{◌≡◌, ℕ, Bool, true, false, not, ◌||◌, ◌^◌, nat_le, nat_lt, List, ◌++◌, length, take, Option, Some, None, codes, if◌then◌else◌}
use Rattle.px_value.specs.Name.{continues_identifier}
use Rattle.px_lex.specs.Gap.{begins, is_white_space, after_close}
use Rattle.px_lex.specs.Word.{IsWord, is_real_type}
use Rattle.px_lex.specs.Number.{IsNumber, number_of, is_fraction}
use Rattle.px_lex.specs.String.{is_quote, read_string}
use Rattle.px_lex.specs.Sign.{sign_of}

pub data FaultKind : Type 0 where
  Bad : FaultKind
  Real : FaultKind
  TooLong : FaultKind

-- a word: over 64 bytes; the name of a type that is left out
abbrev pub word_fault : List ℕ → Option FaultKind
word_fault word =
    if nat_lt 64 (length word) then Some TooLong
    else if is_real_type word then Some Real
    else None

-- a number before the rest: a fraction; a letter or _ behind it, or 0x alone; over 2147483647
abbrev pub number_fault : List ℕ → List ℕ → Option FaultKind
number_fault number rest = first (is_fraction number rest) (number_of number)
  where
    first : Bool → Option ℕ → Option FaultKind
    first true value = Some Real
    first false None = Some Bad
    first false (Some value) = if nat_lt value (2 ^ 31) then None else Some TooLong

-- what is read of a string: it isn't closed or holds what it may not; over 1,024 bytes of content
abbrev pub string_fault : Option (List ℕ × List ℕ) → Option FaultKind
string_fault None = Some Bad
string_fault (Some read) = if nat_le (length read.0) 1024 then None else Some TooLong

-- a byte with which neither a gap, a word, a number nor a string begins
abbrev pub is_other : ℕ → Bool
is_other c = not (is_white_space c || continues_identifier c || is_quote c)

-- at the front of the text a fault of this kind stands: a comment that isn't closed; a word, a number or a string that is at
-- fault; or a byte with which no sign begins
pub data IsFaulty (kind : FaultKind) (text : List ℕ) : Type 0 where
  comment : (tail : List ℕ) → kind ≡ Bad → text ≡ codes "/*" ++ tail → after_close tail ≡ None → IsFaulty kind text
  word :
      (word rest : List ℕ) → text ≡ word ++ rest → IsWord word rest → word_fault word ≡ Some kind → IsFaulty kind text
  number :
      (number rest : List ℕ) → text ≡ number ++ rest → IsNumber number rest → number_fault number rest ≡ Some kind
      → IsFaulty kind text
  string : begins is_quote text ≡ true → string_fault (read_string text) ≡ Some kind → IsFaulty kind text
  other :
      kind ≡ Bad → begins is_other text ≡ true → sign_of (take 1 text) ≡ None → sign_of (take 2 text) ≡ None
      → IsFaulty kind text
