-- Expressions are printed, where some tokens that a text can have spell them.
use Rattle.std.proofs.Common.{◌≡◌, ℕ, ◌+◌, ◌<◌, ◌≤◌, ◌^◌, true, false, List, [], ◌∷◌, ◌++◌, Option, Some, None, refl, sym, ap, ◌∙◌, subst, arith, append_assoc, inl}
use Rattle.std.specs.Prelude.{codes, decimal, nat_eq, pos, zero, suc, length}
use Rattle.std.specs.Fmt.{signed_decimal}
use Rattle.std.specs.List.{list_all}
use Rattle.std.specs.Option.{option_and_then, option_map}
use Rattle.std.proofs.lemmas.Bool.{and_parts}
use Rattle.std.proofs.lemmas.Bool.Decides.{nat_tests}
use Rattle.std.proofs.lemmas.Fmt.{decimal_nonempty}
use Rattle.px_value.specs.Name.{is_digit, begins_identifier, continues_identifier, is_identifier}
use Rattle.px_value.proofs.Digits.{decimal_digits}
use Rattle.px_lex.specs.declared.keyword.Keyword.{Keyword}
use Rattle.px_lex.specs.declared.keyword.Keyword.TheVariants as words
use Rattle.px_lex.specs.declared.sign.Sign.TheVariants as signs
use Rattle.px_lex.specs.declared.token.Token.{Token}
use Rattle.px_lex.specs.declared.token.TokenKind.{TokenKind}
use Rattle.px_lex.specs.declared.token.TokenKind.TheVariants as kinds
use Rattle.px_lex.specs.Keyword.{keyword_of, keyword_rows}
use Rattle.px_lex.specs.Sign.{ends_sign}
use Rattle.px_lex.proofs.Signs.{row_of-all}
use Rattle.px_syntax.specs.declared.expr.Attribute.{Attribute as AttributeWord}
use Rattle.px_syntax.specs.declared.expr.Attribute.TheVariants as attributes
use Rattle.px_syntax.specs.declared.expr.Enumerated.{Enumerated as EnumeratedValue}
use Rattle.px_syntax.specs.declared.expr.Enumerated.TheVariants as enumerated
use Rattle.px_syntax.specs.declared.expr.Identifier.{Identifier}
use Rattle.px_syntax.specs.declared.expr.Literal.{Literal as LiteralValue}
use Rattle.px_syntax.specs.declared.expr.Literal.TheVariants as literals
use Rattle.px_syntax.specs.declared.expr.NodeReference.{NodeReference}
use Rattle.px_syntax.specs.declared.expr.NodeReference.TheVariants as nodes
use Rattle.px_syntax.specs.declared.expr.Tolerance.{Tolerance}
use Rattle.px_syntax.specs.declared.operator.BinaryOperator.{BinaryOperator}
use Rattle.px_syntax.specs.declared.operator.BinaryOperator.TheVariants as binary
use Rattle.px_syntax.specs.declared.operator.Operator.TheVariants as operators
use Rattle.px_syntax.specs.declared.operator.UnaryOperator.{UnaryOperator}
use Rattle.px_syntax.specs.declared.operator.UnaryOperator.TheVariants as unary
use Rattle.px_syntax.specs.declared.word.BinaryFunction.{BinaryFunction}
use Rattle.px_syntax.specs.declared.word.BinaryFunction.TheVariants as binary_functions
use Rattle.px_syntax.specs.declared.word.LookWord.{LookWord}
use Rattle.px_syntax.specs.declared.word.LookWord.TheVariants as looks
use Rattle.px_syntax.specs.declared.word.UnaryFunction.{UnaryFunction}
use Rattle.px_syntax.specs.declared.word.UnaryFunction.TheVariants as unary_functions
use Rattle.px_syntax.specs.Expr.{Term, Terms, Literal, Enumerated, Variable, Element, Attribute, Look, UnaryCall, BinaryCall, Unary, Binary, NoTerms, More}
use Rattle.px_syntax.specs.ExprGrammar.{literal_kind, enumerated_keyword, attribute_word, look_end, look_keyword, unary_keyword, binary_keyword, binary_operator, unary_operator, node_reference, term_level, at_least, bare, arguments, further_arguments, expression}
use Rattle.px_syntax.specs.Form.{Form, one, sign, identifier, in_pairs, number}
use Rattle.px_syntax.specs.Operator.{binary_of, unary_of, level_of}
use Rattle.px_syntax.proofs.Levels.{binary_level, unary_level}
use Rattle.px_print.specs.ExprLayout.{literal_text, enumerated_text, look_text, unary_function_text, binary_function_text, unary_sign, binary_sign, node_text, tolerance_text, term_text, arguments_text, further_text, operand_text}
use Rattle.px_print.specs.Unnumbered.{plain_name, plain_node, plain_tolerance, plain_term, plain_terms}
use Rattle.px_print.proofs.Printing.{Prints, follow, prints_as, prints_then, prints_nothing, prints_behind}
use Rattle.px_print.proofs.Tokens.{AllCan, IsName, Ends, Stops, prints_keyword, prints_sign, prints_any, prints_word, prints_integer, prints_string}

-- the form of what is the same, apart from the numbers of tokens
abbrev pub Alike : {A : Type 0} → (A → Form) → (A → A) → A → Form
Alike {A} form plain part tokens from to = (other : A) × (plain other ≡ plain part) × form other tokens from to

pub prints_open : {source : List ℕ} (rest : List ℕ) → Prints source (sign signs.OpenParen) (codes "(") rest
prints_open rest = prints_any signs.OpenParen (codes "(") rest refl (λ c cs. refl)

pub prints_close : {source : List ℕ} (rest : List ℕ) → Prints source (sign signs.CloseParen) (codes ")") rest
prints_close rest = prints_any signs.CloseParen (codes ")") rest refl (λ c cs. refl)

-- ---- levels

plain_level : (term : Term) → term_level (plain_term term) ≡ term_level term
plain_level (Literal value token) = refl
plain_level (Enumerated value token) = refl
plain_level (Variable name) = refl
plain_level (Element array index) = refl
plain_level (Attribute node attribute) = refl
plain_level (Look word token name args tolerance) = refl
plain_level (UnaryCall function token argument) = refl
plain_level (BinaryCall function token first second) = refl
plain_level (Unary operator token operand) = refl
plain_level (Binary operator left right) = refl

same_level : (term other : Term) → plain_term term ≡ plain_term other → term_level term ≡ term_level other
same_level term other same = sym (plain_level term) ∙ ap term_level same ∙ plain_level other

-- ---- operands

-- an expression in no parentheses, of the same level and apart from the numbers of tokens
abbrev pub Bare : Term → Form
Bare = Alike bare plain_term

-- the same where one of at least this level may stand without parentheses
abbrev pub Leveled : ℕ → Term → Form
Leveled floor = Alike (λ term. at_least floor term (bare term)) plain_term

abbrev pub PrintsBare : List ℕ → Term → Type 0
PrintsBare source term = (rest : List ℕ) → Stops rest → Prints source (Bare term) (term_text term) rest

pub prints_expression : {source : List ℕ} (term : Term) → PrintsBare source term → (rest : List ℕ) → Stops rest
    → Prints source (Alike expression plain_term term) (term_text term) rest
prints_expression term p rest stops =
    prints_as (p rest stops) (λ tokens from to h. (h.0, h.1, (0, (λ e. omega arith), h.2)))

prints_level : {source : List ℕ} (floor : ℕ) (term : Term) → floor ≤ term_level term → PrintsBare source term → (rest : List ℕ) → Stops rest
    → Prints source (Leveled floor term) (term_text term) rest
prints_level floor term low p rest stops =
    prints_as (p rest stops)
    (λ tokens from to h. (h.0, h.1, (0, (λ e. subst (λ level. floor ≤ level) (sym (same_level h.0 term h.1)) low), h.2)))

prints_enclosed : {source : List ℕ} (floor : ℕ) (term : Term) → PrintsBare source term → (rest : List ℕ)
    → Prints source (Leveled floor term) (codes "(" ++ (term_text term ++ codes ")")) rest
prints_enclosed floor term p rest =
    let close = prints_close rest in
    let inside = prints_then close (p (follow close) (refl, refl)) in
    let opened = prints_then inside (prints_open (follow inside)) in
    prints_as opened
    (λ tokens from to h. (h.2.1.0, h.2.1.1, (1, (λ e. absurd (omega arith)), (h.0, h.1, (h.2.0, h.2.1.2, h.2.2)))))

prints_operand : {source : List ℕ} (floor : ℕ) (term : Term) → floor ≤ 9 → PrintsBare source term → (rest : List ℕ) → Stops rest
    → Prints source (Leveled floor term) (operand_text term) rest
prints_operand floor (Unary operator token operand) low p rest stops = prints_enclosed floor (Unary operator token operand) p rest
prints_operand floor (Binary operator left right) low p rest stops = prints_enclosed floor (Binary operator left right) p rest
prints_operand floor term low p rest stops = prints_level floor term low p rest stops

-- where an expression stands in parentheses, it stands inside
unpaired : (pairs : ℕ) (form : Form) (tokens : List Token) (from to : ℕ) → in_pairs pairs form tokens from to
    → (start end : ℕ) × form tokens start end
unpaired zero form tokens from to h = (from, to, h)
unpaired (suc pairs) form tokens from to h = unpaired pairs form tokens h.0 h.2.0 h.2.1

-- ---- operators

prints_as_binary : {source : List ℕ} (operator : BinaryOperator) (kind : TokenKind) (text rest : List ℕ) → binary_of kind ≡ Some operator
    → Prints source (one kind) text rest → Prints source (binary_operator operator) text rest
prints_as_binary operator kind text rest is p =
    prints_as p (λ tokens from to h. (ap (option_and_then binary_of) h.0 ∙ is, h.1))

prints_binary : {source : List ℕ} (operator : BinaryOperator) (rest : List ℕ) → Prints source (binary_operator operator) (binary_sign operator) (32 ∷ rest)
unfolding binary_of
prints_binary binary.Or rest = prints_as_binary binary.Or (kinds.Sign signs.OrOr) _ _ refl (prints_sign signs.OrOr (codes "||") (32 ∷ rest) refl refl)
prints_binary binary.Xor rest = prints_as_binary binary.Xor (kinds.Keyword words.Xor) _ _ refl (prints_keyword words.Xor (codes "XOR") (32 ∷ rest) refl refl)
prints_binary binary.And rest = prints_as_binary binary.And (kinds.Sign signs.AndAnd) _ _ refl (prints_sign signs.AndAnd (codes "&&") (32 ∷ rest) refl refl)
prints_binary binary.Equal rest = prints_as_binary binary.Equal (kinds.Sign signs.EqualEqual) _ _ refl (prints_sign signs.EqualEqual (codes "==") (32 ∷ rest) refl refl)
prints_binary binary.Differs rest = prints_as_binary binary.Differs (kinds.Sign signs.NotEqual) _ _ refl (prints_sign signs.NotEqual (codes "!=") (32 ∷ rest) refl refl)
prints_binary binary.Less rest = prints_as_binary binary.Less (kinds.Sign signs.Less) _ _ refl (prints_sign signs.Less (codes "<") (32 ∷ rest) refl refl)
prints_binary binary.AtMost rest = prints_as_binary binary.AtMost (kinds.Sign signs.LessEqual) _ _ refl (prints_sign signs.LessEqual (codes "<=") (32 ∷ rest) refl refl)
prints_binary binary.Greater rest = prints_as_binary binary.Greater (kinds.Sign signs.Greater) _ _ refl (prints_sign signs.Greater (codes ">") (32 ∷ rest) refl refl)
prints_binary binary.AtLeast rest = prints_as_binary binary.AtLeast (kinds.Sign signs.GreaterEqual) _ _ refl (prints_sign signs.GreaterEqual (codes ">=") (32 ∷ rest) refl refl)
prints_binary binary.Plus rest = prints_as_binary binary.Plus (kinds.Sign signs.Plus) _ _ refl (prints_sign signs.Plus (codes "+") (32 ∷ rest) refl refl)
prints_binary binary.Minus rest = prints_as_binary binary.Minus (kinds.Sign signs.Minus) _ _ refl (prints_sign signs.Minus (codes "-") (32 ∷ rest) refl refl)
prints_binary binary.Times rest = prints_as_binary binary.Times (kinds.Sign signs.Star) _ _ refl (prints_sign signs.Star (codes "*") (32 ∷ rest) refl refl)
prints_binary binary.Over rest = prints_as_binary binary.Over (kinds.Sign signs.Slash) _ _ refl (prints_sign signs.Slash (codes "/") (32 ∷ rest) refl refl)
prints_binary binary.Rest rest = prints_as_binary binary.Rest (kinds.Sign signs.Percent) _ _ refl (prints_sign signs.Percent (codes "%") (32 ∷ rest) refl refl)

-- behind `!` stands no `=`
abbrev Negates : List ℕ → Type 0
Negates rest = ends_sign (codes "!") rest ≡ true

prints_as_unary : {source : List ℕ} (operator : UnaryOperator) (kind : TokenKind) (text rest : List ℕ) → unary_of kind ≡ Some operator
    → Prints source (one kind) text rest → Prints source (unary_operator operator) text rest
prints_as_unary operator kind text rest is p =
    prints_as p (λ tokens from to h. (ap (option_and_then unary_of) h.0 ∙ is, h.1))

prints_unary : {source : List ℕ} (operator : UnaryOperator) (rest : List ℕ) → Negates rest → Prints source (unary_operator operator) (unary_sign operator) rest
unfolding unary_of
prints_unary unary.Not rest ends = prints_as_unary unary.Not (kinds.Sign signs.Bang) _ _ refl (prints_sign signs.Bang (codes "!") rest refl ends)
prints_unary unary.Negative rest ends =
    prints_as_unary unary.Negative (kinds.Sign signs.Minus) _ _ refl (prints_any signs.Minus (codes "-") rest refl (λ c cs. refl))

no_assign : (c : ℕ) (cs : List ℕ) → nat_eq 61 c ≡ false → Negates (c ∷ cs)
no_assign c cs other = rw other

letter_no_assign : (c : ℕ) → begins_identifier c ≡ true → nat_eq 61 c ≡ false
letter_no_assign c h = grind (arith, nat_tests)

digit_no_assign : (c : ℕ) → is_digit c ≡ true → nat_eq 61 c ≡ false
digit_no_assign c h = grind (arith, nat_tests)

word_negates : (word rest : List ℕ) → is_identifier word ≡ true → Negates (word ++ rest)
word_negates [] rest is = cc
word_negates (c ∷ cs) rest is =
    no_assign c (cs ++ rest) (letter_no_assign c (and_parts (begins_identifier c) (list_all continues_identifier cs) is).0)

digits_negate : (ds rest : List ℕ) → 0 < length ds → list_all is_digit ds ≡ true → Negates (ds ++ rest)
digits_negate [] rest some all = absurd (omega arith)
digits_negate (d ∷ ds) rest some all =
    no_assign d (ds ++ rest) (digit_no_assign d (and_parts (is_digit d) (list_all is_digit ds) all).0)

-- ---- words

pub enumerated_is : (value : EnumeratedValue) (which : Keyword) → enumerated_keyword value ≡ Some which
    → keyword_of (enumerated_text value) ≡ Some which
unfolding enumerated_keyword
enumerated_is (enumerated.State state) which h = h
enumerated_is (enumerated.Outcome outcome) which h = h
enumerated_is (enumerated.Failure failure) which h = h
enumerated_is (enumerated.Handle handle) which h = h

-- an attribute is a word that is no keyword
attribute_is : (attribute : AttributeWord) → IsName (attribute_word attribute)
attribute_is attributes.State = record { word = refl; no_keyword = refl; allowed = refl; short = omega arith }
attribute_is attributes.Outcome = record { word = refl; no_keyword = refl; allowed = refl; short = omega arith }
attribute_is attributes.Failure = record { word = refl; no_keyword = refl; allowed = refl; short = omega arith }
attribute_is attributes.CommandHandle = record { word = refl; no_keyword = refl; allowed = refl; short = omega arith }

look_is : (word : LookWord) → keyword_of (look_text word) ≡ Some (look_keyword word)
look_is looks.Lookup = refl
look_is looks.LookupNow = refl
look_is looks.LookupOnChange = refl

unary_function_is : (function : UnaryFunction) → keyword_of (unary_function_text function) ≡ Some (unary_keyword function)
unary_function_is unary_functions.IsKnown = refl
unary_function_is unary_functions.Abs = refl
unary_function_is unary_functions.StrLen = refl

binary_function_is : (function : BinaryFunction) → keyword_of (binary_function_text function) ≡ Some (binary_keyword function)
binary_function_is binary_functions.Min = refl
binary_function_is binary_functions.Max = refl

keyword_word : (word : List ℕ) (which : Keyword) → keyword_of word ≡ Some which → is_identifier word ≡ true
keyword_word word which found = row_of-all is_identifier keyword_rows word which refl found

-- ---- expressions

module _ {source : List ℕ} (given : List Token) (all : AllCan source given) where
  pub prints_name : (name : Identifier) (from to : ℕ) → identifier name given from to → (rest : List ℕ) → Ends rest
      → Prints source (Alike identifier plain_name name) name.name rest
  prints_name name from to h rest ends =
      prints_as (prints_word name.name rest (all from (kinds.Identifier name.name) h.1.0) ends)
      (λ tokens from to r. (record { name = name.name; token = from }, refl, (refl, r)))

  prints_node : (node : NodeReference) (from to : ℕ) → node_reference node given from to → (rest : List ℕ) → Ends rest
      → Prints source (Alike node_reference plain_node node) (node_text node) rest
  prints_node (nodes.Named name) from to h rest ends =
      prints_as (prints_name name from to h rest ends) (λ tokens from to r. (nodes.Named r.0, ap (λ n. nodes.Named n) r.1, r.2))
  prints_node (nodes.SelfNode token) from to h rest ends =
      prints_as (prints_keyword words.SelfNode (codes "Self") rest refl ends) (λ tokens from to r. (nodes.SelfNode from, refl, (refl, r)))
  prints_node (nodes.Parent token) from to h rest ends =
      prints_as (prints_keyword words.Parent (codes "Parent") rest refl ends) (λ tokens from to r. (nodes.Parent from, refl, (refl, r)))
  prints_node (nodes.Sibling token name) from to h rest ends =
      let close = prints_close rest in
      let inside = prints_then close (prints_name name h.2.0 h.2.2.0 h.2.2.1 (follow close) refl) in
      let opened = prints_then inside (prints_open (follow inside)) in
      prints_as (prints_then opened (prints_keyword words.Sibling (codes "Sibling") (follow opened) refl refl))
      (λ tokens from to r. (
        nodes.Sibling from r.2.2.1.0,
        ap (λ n. nodes.Sibling 0 n) r.2.2.1.1,
        (r.0, (refl, r.1), (r.2.0, r.2.1, (r.2.2.0, r.2.2.1.2, r.2.2.2))),
      ))
  prints_node (nodes.Child token name) from to h rest ends =
      let close = prints_close rest in
      let inside = prints_then close (prints_name name h.2.0 h.2.2.0 h.2.2.1 (follow close) refl) in
      let opened = prints_then inside (prints_open (follow inside)) in
      prints_as (prints_then opened (prints_keyword words.Child (codes "Child") (follow opened) refl refl))
      (λ tokens from to r. (
        nodes.Child from r.2.2.1.0,
        ap (λ n. nodes.Child 0 n) r.2.2.1.1,
        (r.0, (refl, r.1), (r.2.0, r.2.1, (r.2.2.0, r.2.2.1.2, r.2.2.2))),
      ))

  number_small : (value : ℕ) (from to : ℕ) → number value given from to → value < 2 ^ 31
  number_small value from to h =
      let size = all from (kinds.Integer (pos value)) h.0 in
      let same : value ≡ size.0 = cc in
      subst (λ n. n < 2 ^ 31) (sym same) size.2

  pub prints_number : (value : ℕ) (from to : ℕ) → number value given from to → (rest : List ℕ) → Stops rest
      → Prints source (number value) (decimal value) rest
  prints_number value from to h rest stops = prints_integer value rest (number_small value from to h) stops

  -- what closes a lookup
  prints_end : (which : LookWord) (tolerance : Option Tolerance) (from to : ℕ) → look_end which tolerance given from to → (rest : List ℕ)
      → Prints source (Alike (look_end which) (option_map plain_tolerance) tolerance) (tolerance_text tolerance ++ codes ")") rest
  prints_end which None from to h rest = prints_as (prints_close rest) (λ tokens from to r. (None, refl, r))
  prints_end looks.Lookup (Some tolerance) from to h rest = absurd h
  prints_end looks.LookupNow (Some tolerance) from to h rest = absurd h
  prints_end looks.LookupOnChange (Some tolerance) from to h rest =
      let close = prints_close rest in
      let inside = prints_then close (prints_number tolerance.distance h.0 h.2.0 h.2.1.1 (follow close) (refl, refl)) in
      let gap = prints_behind (codes " ") refl inside in
      prints_as (prints_then gap (prints_any signs.Comma (codes ",") (follow gap) refl (λ c cs. refl)))
      (λ tokens from to r.
      (Some (record { distance = tolerance.distance; token = r.0 }), refl, (r.0, r.1, (r.2.0, (refl, r.2.1), r.2.2))))

  -- the name before it ends there
  end_ends : (tolerance : Option Tolerance) (rest : List ℕ) → Ends ((tolerance_text tolerance ++ codes ")") ++ rest)
  end_ends None rest = refl
  end_ends (Some tolerance) rest = refl

  pub prints_literal : (value : LiteralValue) (from to : ℕ) → one (literal_kind value) given from to → (rest : List ℕ) → Stops rest
      → Prints source (one (literal_kind value)) (literal_text value) rest
  prints_literal (literals.Integer value) from to h rest stops =
      let size = all from (kinds.Integer value) h.0 in
      subst (λ z. Prints source (one (kinds.Integer z)) (signed_decimal z) rest) (sym size.1) (prints_integer size.0 rest size.2 stops)
  prints_literal (literals.Boolean true) from to h rest stops = prints_keyword words.True (codes "true") rest refl stops.0
  prints_literal (literals.Boolean false) from to h rest stops = prints_keyword words.False (codes "false") rest refl stops.0
  prints_literal (literals.Text content) from to h rest stops = prints_string content rest (all from (kinds.Text content) h.0)

  literal_negates : (value : LiteralValue) (from to : ℕ) → one (literal_kind value) given from to → (rest : List ℕ)
      → Negates (literal_text value ++ rest)
  literal_negates (literals.Integer value) from to h rest =
      let size = all from (kinds.Integer value) h.0 in
      let small : size.0 < 2 ^ 64 = omega (arith, size.2) in
      subst (λ z. Negates (signed_decimal z ++ rest)) (sym size.1)
      (digits_negate (decimal size.0) rest (decimal_nonempty size.0 small) (decimal_digits size.0 small))
  literal_negates (literals.Boolean true) from to h rest = refl
  literal_negates (literals.Boolean false) from to h rest = refl
  literal_negates (literals.Text content) from to h rest = refl

  name_negates : (name : Identifier) (from to : ℕ) → identifier name given from to → (rest : List ℕ) → Negates (name.name ++ rest)
  name_negates name from to h rest = word_negates name.name rest (all from (kinds.Identifier name.name) h.1.0).word

  node_negates : (node : NodeReference) (from to : ℕ) → node_reference node given from to → (rest : List ℕ) → Negates (node_text node ++ rest)
  node_negates (nodes.Named name) from to h rest = name_negates name from to h rest
  node_negates (nodes.SelfNode token) from to h rest = refl
  node_negates (nodes.Parent token) from to h rest = refl
  node_negates (nodes.Sibling token name) from to h rest = refl
  node_negates (nodes.Child token name) from to h rest = refl

  -- behind `!` an operand begins with no `=`
  operand_negates : (term : Term) (from to : ℕ) → bare term given from to → (rest : List ℕ) → Negates (operand_text term ++ rest)
  operand_negates (Literal value token) from to h rest = literal_negates value from to h.1 rest
  operand_negates (Enumerated value token) from to h rest =
      word_negates (enumerated_text value) rest (keyword_word (enumerated_text value) h.1.0 (enumerated_is value h.1.0 h.1.1))
  operand_negates (Variable name) from to h rest = name_negates name from to h rest
  operand_negates (Element array index) from to h rest =
      subst Negates (sym (append_assoc array.name _ rest)) (name_negates array from h.0 h.1 _)
  operand_negates (Attribute node attribute) from to h rest =
      subst Negates (sym (append_assoc (node_text node) _ rest)) (node_negates node from h.0 h.1 _)
  operand_negates (Look looks.Lookup token name args tolerance) from to h rest = refl
  operand_negates (Look looks.LookupNow token name args tolerance) from to h rest = refl
  operand_negates (Look looks.LookupOnChange token name args tolerance) from to h rest = refl
  operand_negates (UnaryCall unary_functions.IsKnown token argument) from to h rest = refl
  operand_negates (UnaryCall unary_functions.Abs token argument) from to h rest = refl
  operand_negates (UnaryCall unary_functions.StrLen token argument) from to h rest = refl
  operand_negates (BinaryCall binary_functions.Min token first second) from to h rest = refl
  operand_negates (BinaryCall binary_functions.Max token first second) from to h rest = refl
  operand_negates (Unary operator token operand) from to h rest = refl
  operand_negates (Binary operator left right) from to h rest = refl

  -- an expression inside the parentheses round it
  pub stripped : (term : Term) (from to : ℕ) → expression term given from to → (start end : ℕ) × bare term given start end
  stripped term from to h = unpaired h.0 (bare term) given from to h.2

  further_stops : (args : Terms) (rest : List ℕ) → Stops rest → Stops (further_text args ++ rest)
  further_stops NoTerms rest stops = stops
  further_stops (More first others) rest stops = (refl, refl)

  mutual
    pub prints_term : (term : Term) (from to : ℕ) → bare term given from to → PrintsBare source term
    prints_term (Literal value token) from to h rest stops =
        prints_as (prints_literal value from to h.1 rest stops) (λ tokens from to r. (Literal value from, refl, (refl, r)))
    prints_term (Enumerated value token) from to h rest stops =
        prints_as (prints_keyword h.1.0 (enumerated_text value) rest (enumerated_is value h.1.0 h.1.1) stops.0)
        (λ tokens from to r. (Enumerated value from, refl, (refl, (h.1.0, h.1.1, r))))
    prints_term (Variable name) from to h rest stops =
        prints_as (prints_name name from to h rest stops.0) (λ tokens from to r. (Variable r.0, ap (λ n. Variable n) r.1, r.2))
    prints_term (Element array index) from to h rest stops =
        let inner = stripped index h.2.0 h.2.2.0 h.2.2.1 in
        let close = prints_any signs.CloseBracket (codes "]") rest refl (λ c cs. refl) in
        let inside = prints_then close (prints_expression index (prints_term index inner.0 inner.1 inner.2) (follow close) (refl, refl)) in
        let opened = prints_then inside (prints_any signs.OpenBracket (codes "[") (follow inside) refl (λ c cs. refl)) in
        prints_as (prints_then opened (prints_name array from h.0 h.1 (follow opened) refl))
        (λ tokens from to r. (
          Element r.1.0 r.2.2.1.0,
          (λ i. Element (r.1.1 i) (r.2.2.1.1 i)),
          (r.0, r.1.2, (r.2.0, r.2.1, (r.2.2.0, r.2.2.1.2, r.2.2.2))),
        ))
    prints_term (Attribute node attribute) from to h rest stops =
        let word = prints_word (attribute_word attribute) rest (attribute_is attribute) stops.0 in
        let dot = prints_then word (prints_any signs.Dot (codes ".") (follow word) refl (λ c cs. refl)) in
        prints_as (prints_then dot (prints_node node from h.0 h.1 (follow dot) refl))
        (λ tokens from to r. (Attribute r.1.0 attribute, ap (λ n. Attribute n attribute) r.1.1, (r.0, r.1.2, r.2)))
    prints_term (Look which token name NoTerms tolerance) from to h rest stops =
        let end = prints_end which tolerance h.2.2.2.0 to h.2.2.2.2 rest in
        let inside = prints_then end (prints_name name h.2.0 h.2.2.0 h.2.2.1 (follow end) (end_ends tolerance rest)) in
        let opened = prints_then inside (prints_open (follow inside)) in
        prints_as (prints_then opened (prints_keyword (look_keyword which) (look_text which) (follow opened) (look_is which) refl))
        (λ tokens from to r. (
          Look which from r.2.2.1.0 NoTerms r.2.2.2.0,
          (λ i. Look which 0 (r.2.2.1.1 i) NoTerms (r.2.2.2.1 i)),
          (r.0, (refl, r.1), (r.2.0, r.2.1, (r.2.2.0, r.2.2.1.2, (r.2.2.0, inl refl, r.2.2.2.2)))),
        ))
    prints_term (Look which token name (More first others) tolerance) from to h rest stops =
        let args = h.2.2.2.1.2.1 in
        let inner = stripped first h.2.2.2.1.0 args.0 args.1 in
        let end = prints_end which tolerance h.2.2.2.0 to h.2.2.2.2 rest in
        let close = prints_close (follow end) in
        let further = prints_further others args.0 h.2.2.2.1.2.0 args.2 (follow close) (refl, refl) in
        let start = prints_then further (prints_expression first (prints_term first inner.0 inner.1 inner.2) (follow further)
        (further_stops others (follow close) (refl, refl))) in
        let inside = prints_then close start in
        let list = prints_then end (prints_then inside (prints_open (follow inside))) in
        let named = prints_then list (prints_name name h.2.0 h.2.2.0 h.2.2.1 (follow list) refl) in
        let opened = prints_then named (prints_open (follow named)) in
        prints_as (prints_then opened (prints_keyword (look_keyword which) (look_text which) (follow opened) (look_is which) refl))
        (λ tokens from to r.
        let l = r.2.2.2.1 in
        let a = l.2.1 in
        let end = r.2.2.2.2 in (
          Look which from r.2.2.1.0 (More a.1.0 a.2.0) end.0,
          (λ i. Look which 0 (r.2.2.1.1 i) (More (a.1.1 i) (a.2.1 i)) (end.1 i)),
          (
            r.0,
            (refl, r.1),
            (
              r.2.0,
              r.2.1,
              (
                r.2.2.0,
                r.2.2.1.2,
                (
                  r.2.2.2.0,
                  (l.0, l.1, (l.2.0, (a.0, a.1.2, a.2.2), l.2.2)),
                  end.2,
                ),
              ),
            ),
          ),
        ))
    prints_term (UnaryCall function token argument) from to h rest stops =
        let inner = stripped argument h.2.0 h.2.2.0 h.2.2.1 in
        let close = prints_close rest in
        let inside = prints_then close (prints_expression argument (prints_term argument inner.0 inner.1 inner.2) (follow close) (refl, refl)) in
        let opened = prints_then inside (prints_open (follow inside)) in
        prints_as (prints_then opened (prints_keyword (unary_keyword function) (unary_function_text function) (follow opened) (unary_function_is function) refl))
        (λ tokens from to r. (
          UnaryCall function from r.2.2.1.0,
          ap (λ t. UnaryCall function 0 t) r.2.2.1.1,
          (r.0, (refl, r.1), (r.2.0, r.2.1, (r.2.2.0, r.2.2.1.2, r.2.2.2))),
        ))
    prints_term (BinaryCall function token first second) from to h rest stops =
        let left = stripped first h.2.0 h.2.2.0 h.2.2.1 in
        let right = stripped second h.2.2.2.0 h.2.2.2.2.0 h.2.2.2.2.1 in
        let close = prints_close rest in
        let last = prints_then close (prints_expression second (prints_term second right.0 right.1 right.2) (follow close) (refl, refl)) in
        let gap = prints_behind (codes " ") refl last in
        let comma = prints_then gap (prints_any signs.Comma (codes ",") (follow gap) refl (λ c cs. refl)) in
        let inside = prints_then comma (prints_expression first (prints_term first left.0 left.1 left.2) (follow comma) (refl, refl)) in
        let opened = prints_then inside (prints_open (follow inside)) in
        prints_as (prints_then opened (prints_keyword (binary_keyword function) (binary_function_text function) (follow opened) (binary_function_is function) refl))
        (λ tokens from to r. (
          BinaryCall function from r.2.2.1.0 r.2.2.2.2.1.0,
          (λ i. BinaryCall function 0 (r.2.2.1.1 i) (r.2.2.2.2.1.1 i)),
          (r.0, (refl, r.1), (r.2.0, r.2.1, (r.2.2.0, r.2.2.1.2, (r.2.2.2.0, r.2.2.2.1, (r.2.2.2.2.0, r.2.2.2.2.1.2, r.2.2.2.2.2))))),
        ))
    prints_term (Unary operator token operand) from to h rest stops =
        let level = unary_level operator in
        let inner = unpaired h.2.0 (bare operand) given h.0 to h.2.2 in
        let behind = prints_operand (level_of (operators.Unary operator)) operand (omega (arith, level))
        (prints_term operand inner.0 inner.1 inner.2) rest stops in
        prints_as (prints_then behind (prints_unary operator (follow behind) (operand_negates operand inner.0 inner.1 inner.2 rest)))
        (λ tokens from to r. (Unary operator from r.2.0, ap (λ t. Unary operator 0 t) r.2.1, (r.0, (refl, r.1), r.2.2)))
    prints_term (Binary operator left right) from to h rest stops =
        let level = binary_level operator in
        let before = unpaired h.1.0 (bare left) given from h.0 h.1.2 in
        let behind = unpaired h.2.2.0 (bare right) given h.2.0 to h.2.2.2 in
        let last = prints_behind (codes " ") refl
        (prints_operand (level_of (operators.Binary operator) + 1) right (omega (arith, level.1)) (prints_term right behind.0 behind.1 behind.2) rest stops) in
        let middle = prints_behind (codes " ") refl (prints_then last (prints_binary operator (operand_text right ++ rest))) in
        prints_as (prints_then middle (prints_operand (level_of (operators.Binary operator)) left (omega (arith, level.1))
        (prints_term left before.0 before.1 before.2) (follow middle) (refl, refl)))
        (λ tokens from to r. (
          Binary operator r.1.0 r.2.2.0,
          (λ i. Binary operator (r.1.1 i) (r.2.2.1 i)),
          (r.0, r.1.2, (r.2.0, r.2.1, r.2.2.2)),
        ))

    pub prints_further : (args : Terms) (from to : ℕ) → further_arguments args given from to → (rest : List ℕ) → Stops rest
        → Prints source (Alike further_arguments plain_terms args) (further_text args) rest
    prints_further NoTerms from to h rest stops = prints_as (prints_nothing rest) (λ tokens from to r. (NoTerms, refl, r))
    prints_further (More first others) from to h rest stops =
        let inner = stripped first h.0 h.2.0 h.2.1 in
        let behind = prints_further others h.2.0 to h.2.2 rest stops in
        let next = prints_behind (codes " ") refl (prints_then behind (prints_expression first (prints_term first inner.0 inner.1 inner.2)
        (follow behind) (further_stops others rest stops))) in
        prints_as (prints_then next (prints_any signs.Comma (codes ",") (follow next) refl (λ c cs. refl)))
        (λ tokens from to r. (More r.2.1.0 r.2.2.0, (λ i. More (r.2.1.1 i) (r.2.2.1 i)), (r.0, r.1, (r.2.0, r.2.1.2, r.2.2.2))))

  -- an expression that may stand in parentheses
  pub prints_whole : (term : Term) (from to : ℕ) → expression term given from to → (rest : List ℕ) → Stops rest
      → Prints source (Alike expression plain_term term) (term_text term) rest
  prints_whole term from to h rest stops =
      let inner = stripped term from to h in
      prints_expression term (prints_term term inner.0 inner.1 inner.2) rest stops

  pub prints_arguments : (args : Terms) (from to : ℕ) → arguments args given from to → (rest : List ℕ) → Stops rest
      → Prints source (Alike arguments plain_terms args) (arguments_text args) rest
  prints_arguments NoTerms from to h rest stops = prints_as (prints_nothing rest) (λ tokens from to r. (NoTerms, refl, r))
  prints_arguments (More first others) from to h rest stops =
      let behind = prints_further others h.0 to h.2 rest stops in
      prints_as (prints_then behind (prints_whole first from h.0 h.1 (follow behind) (further_stops others rest stops)))
      (λ tokens from to r. (More r.1.0 r.2.0, (λ i. More (r.1.1 i) (r.2.1 i)), (r.0, r.1.2, r.2.2)))
