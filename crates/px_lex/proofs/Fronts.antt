-- What stands at the front of a text, as a function of the text: each way to stand and each fault is one of its answers.
use Rattle.std.proofs.Common.{◌≡◌, ℕ, ◌≤◌, ◌^◌, Bool, true, false, not, ◌==◌, List, [], ◌∷◌, ◌++◌, length, take, drop, Option, Some, None, refl, ap, ◌∙◌, arith, inl, inr}
use Rattle.std.specs.Prelude.{codes, pos, is_none, if◌then◌else◌}
use Rattle.std.specs.List.{list_all, prefix_len}
use Rattle.std.specs.Str.{bytes_eq}
use Rattle.std.proofs.Math.Seq.{take-append_seam, drop-append_seam}
use Rattle.std.proofs.lemmas.Bool.{and_parts, and_from, or_parts, or_left, cases_Bool, false≢true, lt-ltb, le-ltb, le-leb, eqb-true, not-true, ne_eqb}
use Rattle.std.proofs.lemmas.Bool.Decides.{nat_tests}
use Rattle.px_value.specs.Name.{is_digit, begins_identifier, continues_identifier}
use Rattle.px_value.proofs.General.{is_none-None, prefix_run}
use Rattle.px_lex.specs.declared.keyword.Keyword.{Keyword}
use Rattle.px_lex.specs.declared.sign.Sign.{Sign}
use Rattle.px_lex.specs.declared.token.TokenKind.{TokenKind}
use Rattle.px_lex.specs.declared.token.TokenKind.TheVariants as kinds
use Rattle.px_lex.specs.Gap.{begins, is_white_space, is_in_line, after_close, IsGap}
use Rattle.px_lex.specs.Keyword.{keyword_of}
use Rattle.px_lex.specs.Word.{IsWord}
use Rattle.px_lex.specs.Number.{IsNumber, number_of}
use Rattle.px_lex.specs.String.{is_quote, read_string, string_from}
use Rattle.px_lex.specs.Sign.{sign_rows, sign_of, opens_comment, ends_sign}
use Rattle.px_lex.specs.Token.{IsToken}
use Rattle.px_lex.specs.Fault.{FaultKind, Bad, is_other, word_fault, number_fault, string_fault, IsFaulty}
use Rattle.px_lex.specs.Lexer.{Stands}
use Rattle.px_lex.proofs.Keywords.{no_keyword}
use Rattle.px_lex.proofs.Signs.{row_of-all, sign_is_short}

-- what stands at the front
pub data Front : Type 0 where
  nothing : Front
  piece : Option TokenKind → List ℕ → Front
  faulty : FaultKind → Front

-- what the first bytes tell
pub data Class : Type 0 where
  a_blank : Class
  a_line : Class
  a_comment : Class
  a_quote : Class
  a_run : Class
  an_other : Class

abbrev class_of : List ℕ → Class
class_of text =
    if begins is_white_space text then a_blank
    else if bytes_eq (take 2 text) (codes "//") then a_line
    else if bytes_eq (take 2 text) (codes "/*") then a_comment
    else if begins is_quote text then a_quote
    else if begins continues_identifier text then a_run
    else an_other

abbrev unless_fault : Option FaultKind → Front → Front
unless_fault None sound = sound
unless_fault (Some kind) sound = faulty kind

abbrev comment_front : Option (List ℕ) → Front
comment_front None = faulty Bad
comment_front (Some rest) = piece None rest

abbrev text_front : Option (List ℕ × List ℕ) → Front
text_front None = nothing
text_front (Some read) = piece (Some (kinds.Text read.0)) read.1

abbrev string_front : Option (List ℕ × List ℕ) → Front
string_front read = unless_fault (string_fault read) (text_front read)

abbrev value_front : List ℕ → Option ℕ → Front
value_front rest None = nothing
value_front rest (Some value) = piece (Some (kinds.Integer (pos value))) rest

abbrev number_front : List ℕ → List ℕ → Front
number_front spelling rest = unless_fault (number_fault spelling rest) (value_front rest (number_of spelling))

abbrev word_front : List ℕ → List ℕ → Option Keyword → Front
word_front word rest (Some keyword) = piece (Some (kinds.Keyword keyword)) rest
word_front word rest None = unless_fault (word_fault word) (piece (Some (kinds.Identifier word)) rest)

abbrev run_front : List ℕ → List ℕ → Front
run_front spelling rest =
    if begins is_digit spelling then number_front spelling rest
    else word_front spelling rest (keyword_of spelling)

abbrev one_front : List ℕ → Option Sign → Front
one_front text None = faulty Bad
one_front text (Some sign) = piece (Some (kinds.Sign sign)) (drop 1 text)

abbrev two_front : List ℕ → Option Sign → Front
two_front text None = one_front text (sign_of (take 1 text))
two_front text (Some sign) = piece (Some (kinds.Sign sign)) (drop 2 text)

abbrev sign_front : List ℕ → Front
sign_front [] = nothing
sign_front (a ∷ []) = one_front (a ∷ []) (sign_of (a ∷ []))
sign_front (a ∷ b ∷ cs) = two_front (a ∷ b ∷ cs) (sign_of (a ∷ b ∷ []))

abbrev by_class : Class → List ℕ → Front
by_class a_blank text = piece None (drop 1 text)
by_class a_line text = piece None (drop (prefix_len is_in_line text) text)
by_class a_comment text = comment_front (after_close (drop 2 text))
by_class a_quote text = string_front (read_string text)
by_class a_run text = run_front (take (prefix_len continues_identifier text) text) (drop (prefix_len continues_identifier text) text)
by_class an_other text = sign_front text

abbrev pub front : List ℕ → Front
front text = by_class (class_of text) text

-- ---- which class stands where

run_no_blank : (c : ℕ) → continues_identifier c ≡ true → is_white_space c ≡ false
run_no_blank c h = grind (arith, nat_tests)

run_no_slash : (c : ℕ) → continues_identifier c ≡ true → (c == 47) ≡ false
run_no_slash c h = grind (arith, nat_tests)

run_no_quote : (c : ℕ) → continues_identifier c ≡ true → (c == 34) ≡ false
run_no_quote c h = grind (arith, nat_tests)

class_run : (text : List ℕ) → begins continues_identifier text ≡ true → class_of text ≡ a_run
class_run [] h = cc
class_run (c ∷ cs) h = rw (run_no_blank c h, run_no_slash c h, run_no_quote c h, h)

class_quote : (text : List ℕ) → begins is_quote text ≡ true → class_of text ≡ a_quote
class_quote [] h = cc
class_quote (c ∷ cs) h = let quote : c ≡ 34 = eqb-true c 34 h in rw quote

other_no_blank : (c : ℕ) → is_other c ≡ true → is_white_space c ≡ false
other_no_blank c h = grind (arith, nat_tests)

other_no_quote : (c : ℕ) → is_other c ≡ true → (c == 34) ≡ false
other_no_quote c h = grind (arith, nat_tests)

other_no_run : (c : ℕ) → is_other c ≡ true → continues_identifier c ≡ false
other_no_run c h = grind (arith, nat_tests)

class_other : (text : List ℕ) → begins is_other text ≡ true → opens_comment (take 2 text) ≡ false → class_of text ≡ an_other
class_other [] h closed = cc
class_other (c ∷ cs) h closed =
    let opens : (bytes_eq (take 2 (c ∷ cs)) (codes "//") ≡ false) × (bytes_eq (take 2 (c ∷ cs)) (codes "/*") ≡ false) = or_parts (bytes_eq (take 2 (c ∷ cs)) (codes "//")) (bytes_eq (take 2 (c ∷ cs)) (codes "/*")) closed in
    rw (other_no_blank c h, opens.0, opens.1, other_no_quote c h, other_no_run c h)

-- ---- gaps

none_of : (p : ℕ → Bool) (rest : List ℕ) → begins p rest ≡ false → prefix_len p rest ≡ 0
none_of p [] stop = refl
none_of p (c ∷ cs) stop = rw stop

left_of : (p : ℕ → Bool) (run rest : List ℕ) → list_all p run ≡ true → begins p rest ≡ false → drop (prefix_len p (run ++ rest)) (run ++ rest) ≡ rest
left_of p run rest pass stop = ap (λ n. drop n (run ++ rest)) (prefix_run p run rest pass (none_of p rest stop)) ∙ drop-append_seam run rest

taken_of : (p : ℕ → Bool) (run rest : List ℕ) → list_all p run ≡ true → begins p rest ≡ false → take (prefix_len p (run ++ rest)) (run ++ rest) ≡ run
taken_of p run rest pass stop = ap (λ n. take n (run ++ rest)) (prefix_run p run rest pass (none_of p rest stop)) ∙ take-append_seam run rest

line_front : (tail rest : List ℕ) → list_all is_in_line tail ≡ true → begins is_in_line rest ≡ false → front (codes "//" ++ tail ++ rest) ≡ piece None rest
line_front tail rest pass stop = ap (λ t. piece None t) (left_of is_in_line (codes "//" ++ tail) rest pass stop)

gap_front : (spelling rest : List ℕ) → IsGap spelling rest → front (spelling ++ rest) ≡ piece None rest
gap_front spelling rest (IsGap.blank c e h) = rw (e, h)
gap_front spelling rest (IsGap.line_comment g) = rw g.spelled (line_front g.comment rest g.one_line g.longest)
gap_front spelling rest (IsGap.comment g) = rw (g.spelled, g.closed)

-- ---- words and numbers

run_is : (spelling rest : List ℕ) → begins continues_identifier spelling ≡ true → list_all continues_identifier spelling ≡ true → begins continues_identifier rest ≡ false → front (spelling ++ rest) ≡ run_front spelling rest
run_is [] rest first pass stop = cc
run_is (c ∷ cs) rest first pass stop =
    rw (class_run (c ∷ cs ++ rest) first, taken_of continues_identifier (c ∷ cs) rest pass stop, left_of continues_identifier (c ∷ cs) rest pass stop)

digit_goes_on : (c : ℕ) → is_digit c ≡ true → continues_identifier c ≡ true
digit_goes_on c h = grind (arith, nat_tests)

number_is : (spelling rest : List ℕ) → IsNumber spelling rest → front (spelling ++ rest) ≡ number_front spelling rest
number_is [] rest n = absurd (false≢true n.first)
number_is (c ∷ cs) rest n = run_is (c ∷ cs) rest (digit_goes_on c n.first) n.going_on n.longest ∙ rw n.first

letter_no_digit : (c : ℕ) → begins_identifier c ≡ true → is_digit c ≡ false
letter_no_digit c h = grind (arith, nat_tests)

word_is : (spelling rest : List ℕ) → IsWord spelling rest → front (spelling ++ rest) ≡ word_front spelling rest (keyword_of spelling)
word_is [] rest w = absurd (false≢true w.word)
word_is (c ∷ cs) rest w =
    let parts : (begins_identifier c ≡ true) × (list_all continues_identifier cs ≡ true) = and_parts (begins_identifier c) (list_all continues_identifier cs) w.word in
    let on : continues_identifier c ≡ true = or_left (begins_identifier c) (is_digit c) parts.0 in
    run_is (c ∷ cs) rest on (and_from (continues_identifier c) (list_all continues_identifier cs) on parts.1) w.longest ∙ rw (letter_no_digit c parts.0)

fault_is_no_keyword : (word : List ℕ) (kind : FaultKind) → word_fault word ≡ Some kind → keyword_of word ≡ None
fault_is_no_keyword word kind h = no_keyword (λ w. is_none (word_fault w)) refl word (rw h)

-- ---- signs

opens_two : (a : ℕ) → opens_comment (a ∷ []) ≡ false
opens_two a = grind (arith, nat_tests)

front_sign : (spelling rest : List ℕ) (sign : Sign) → sign_of spelling ≡ Some sign → ends_sign spelling rest ≡ true → front (spelling ++ rest) ≡ piece (Some (kinds.Sign sign)) rest
front_sign [] rest sign h ends = absurd (false≢true (row_of-all (λ s. begins is_other s) sign_rows [] sign refl h))
front_sign (a ∷ []) [] sign h ends =
    let first : is_other a ≡ true = row_of-all (λ s. begins is_other s) sign_rows (a ∷ []) sign refl h in
    rw (class_other (a ∷ []) first (opens_two a), h)
front_sign (a ∷ []) (b ∷ cs) sign h ends =
    let first : is_other a ≡ true = row_of-all (λ s. begins is_other s) sign_rows (a ∷ []) sign refl h in
    let parts : (is_none (sign_of (a ∷ b ∷ [])) ≡ true) × (not (opens_comment (a ∷ b ∷ [])) ≡ true) = and_parts (is_none (sign_of (a ∷ b ∷ []))) (not (opens_comment (a ∷ b ∷ []))) ends in
    rw (class_other (a ∷ b ∷ cs) first (not-true (opens_comment (a ∷ b ∷ [])) parts.1), is_none-None (sign_of (a ∷ b ∷ [])) parts.0, h)
front_sign (a ∷ b ∷ []) rest sign h ends =
    let first : is_other a ≡ true = row_of-all (λ s. begins is_other s) sign_rows (a ∷ b ∷ []) sign refl h in
    let closed : opens_comment (a ∷ b ∷ []) ≡ false = not-true (opens_comment (a ∷ b ∷ [])) (row_of-all (λ s. not (opens_comment s)) sign_rows (a ∷ b ∷ []) sign refl h) in
    rw (class_other (a ∷ b ∷ rest) first closed, h)
front_sign (a ∷ b ∷ c ∷ cs) rest sign h ends = let short : length (a ∷ b ∷ c ∷ cs) ≤ 2 = sign_is_short (a ∷ b ∷ c ∷ cs) sign h in absurd (omega arith)

-- ---- strings

-- a string is read from behind its quote
pub opened : (text content rest : List ℕ) → read_string text ≡ Some (content, rest)
    → (inside : List ℕ) × (text ≡ 34 ∷ inside) × (string_from inside ≡ Some (content, rest))
opened [] content rest h = cc
opened (c ∷ cs) content rest h = elim (cases_Bool (is_quote c)) [
  | inl quote ↦ (cs, ap (λ q. q ∷ cs) (eqb-true c 34 quote), rw quote at h)
  | inr other ↦ let none : ◌≡◌ {A = Option (List ℕ × List ℕ)} None (Some (content, rest)) = rw other at h in cc
]

string_is : (text content rest : List ℕ) → read_string text ≡ Some (content, rest) → front text ≡ string_front (Some (content, rest))
string_is text content rest h = rw (class_quote text (ap (begins is_quote) (opened text content rest h).1), h)

-- ---- what stands is at the front

token_front : (kind : TokenKind) (spelling rest : List ℕ) → IsToken kind spelling rest → front (spelling ++ rest) ≡ piece (Some kind) rest
token_front (kinds.Identifier name) spelling rest t =
    word_is spelling rest t.word ∙ rw (t.no_keyword, le-ltb 64 (length spelling) t.short, t.allowed, t.same)
token_front (kinds.Keyword keyword) spelling rest t = word_is spelling rest t.0 ∙ rw t.1
token_front (kinds.Integer z) spelling rest t =
    number_is spelling rest t.2.number ∙ rw (t.2.whole, t.2.writes, lt-ltb t.0 (2 ^ 31) t.2.small, t.1)
token_front (kinds.Text content) spelling rest t = string_is (spelling ++ rest) content rest t.read ∙ rw (le-leb (length content) 1024 t.short)
token_front (kinds.Sign sign) spelling rest t = front_sign spelling rest sign t.0 t.1

pub stands_front : (kind : Option TokenKind) (spelling rest : List ℕ) → Stands kind spelling rest → front (spelling ++ rest) ≡ piece kind rest
stands_front None spelling rest s = gap_front spelling rest s
stands_front (Some kind) spelling rest s = token_front kind spelling rest s

-- ---- and so is what is at fault

slash_is_sign : (a : ℕ) → sign_of (a ∷ []) ≡ None → (a == 47) ≡ false
slash_is_sign a h = ne_eqb a 47 (λ e. let found : sign_of (47 ∷ []) ≡ None = rw e at h in cc)

other_front : (text : List ℕ) → begins is_other text ≡ true → sign_of (take 1 text) ≡ None → sign_of (take 2 text) ≡ None
    → front text ≡ faulty Bad
other_front [] first one two = cc
other_front (a ∷ []) first one two = rw (class_other (a ∷ []) first (opens_two a), one)
other_front (a ∷ b ∷ cs) first one two =
    let closed : opens_comment (a ∷ b ∷ []) ≡ false = rw (slash_is_sign a one) in
    rw (class_other (a ∷ b ∷ cs) first closed, two, one)

pub fault_front : (kind : FaultKind) (text : List ℕ) → IsFaulty kind text → front text ≡ faulty kind
fault_front kind text (IsFaulty.comment tail bad e h) = rw (e, h, bad)
fault_front kind text (IsFaulty.word word rest split stands h) =
    ap front split ∙ word_is word rest stands ∙ rw (fault_is_no_keyword word kind h, h)
fault_front kind text (IsFaulty.number number rest split stands h) = ap front split ∙ number_is number rest stands ∙ rw h
fault_front kind text (IsFaulty.string quote h) = rw (class_quote text quote, h)
fault_front kind text (IsFaulty.other bad first one two) = other_front text first one two ∙ rw bad
