-- What has been begun is completed by the shortest of what it lacks.
use Rattle.std.proofs.Common.{◌≡◌, ℕ, zero, suc, ◌+◌, ◌≤◌, inl, refl, sym, subst, List, [], ◌∷◌, ◌++◌, length, map, take, pos, Some, None, true, length-append, length-take-le, arith, lit≤}
use Rattle.std.proofs.lemmas.List.{length-map}
use Rattle.px_lex.specs.declared.keyword.Keyword.TheVariants as words
use Rattle.px_lex.specs.declared.sign.Sign.{Sign}
use Rattle.px_lex.specs.declared.sign.Sign.TheVariants as signs
use Rattle.px_lex.specs.declared.token.Token.{Token}
use Rattle.px_lex.specs.declared.token.TokenKind.{TokenKind}
use Rattle.px_lex.specs.declared.token.TokenKind.TheVariants as kinds
use Rattle.px_syntax.specs.declared.expr.Attribute.{Attribute as AttributeWord}
use Rattle.px_syntax.specs.declared.expr.Attribute.TheVariants as attributes
use Rattle.px_syntax.specs.declared.expr.Literal.TheVariants as literals
use Rattle.px_syntax.specs.declared.word.LookWord.{LookWord}
use Rattle.px_syntax.specs.Expr.{Literal, NoTerms}
use Rattle.px_syntax.specs.ExprGrammar.{attribute_word, expression, look_end, operand, tolerance_number}
use Rattle.px_syntax.specs.Form.{Form, identifier, kind_at, one, ◌then◌}
use Rattle.px_expr_parse.specs.Tail.{attribute, closed, closed_arguments, look_rest}
use Rattle.px_expr_parse.specs.Verdict.{Agree, AgreeBefore, Stand, IsBegun, BeginsExpression}
use Rattle.px_expr_parse.proofs.Spans.{IsLocal}

-- ---- tokens that agree

pub before :
    (tokens others : List Token) (early late : ℕ) → early ≤ late → AgreeBefore tokens others late → AgreeBefore tokens others early
before tokens others early late le agree place inside = agree place (omega (arith, le, inside))

-- what stands in tokens stands in others that agree before its end
pub moved :
    {form : Form} (tokens : List Token) {from to : ℕ} → IsLocal form → ((others : List Token) → Agree tokens others to → form others from to)
    → (others : List Token) → AgreeBefore tokens others to → form others from to
moved tokens {from = from} {to = to} l found others agree =
    l.moves tokens others from to agree (found tokens (λ place le. refl))

-- ---- the shortest part of a form

pub record Shortest {A : Type 0} (form : A → Form) : Type 0 where
  pub kinds : List TokenKind
  pub stands :
      (others : List Token) (place : ℕ) → Stand kinds others place → (part : A) × form part others place (place + length kinds)

-- in one, two and three tokens
pub in_one :
    {A : Type 0} {form : A → Form} (kind : TokenKind)
    → ((others : List Token) (place : ℕ) → kind_at others place ≡ Some kind → (part : A) × form part others place (place + 1))
    → Shortest form
in_one kind stands = record { kinds = kind ∷ []; stands = λ others place stand. stands others place stand.0 }

-- parts of two forms, one behind the other, make one
stand_parts :
    (first second : List TokenKind) (others : List Token) (place : ℕ) → Stand (first ++ second) others place
    → Stand first others place × Stand second others (place + length first)
stand_parts [] second others place stand =
    let same : place ≡ place + 0 = omega arith in (tt, subst (λ (p : ℕ). Stand second others p) same stand)
stand_parts (kind ∷ first) second others place stand =
    let rest = stand_parts first second others (place + 1) stand.1 in
    let same : place + 1 + length first ≡ place + suc (length first) = omega arith in
    ((stand.0, rest.0), subst (λ (p : ℕ). Stand second others p) same rest.1)

module _ {A B C : Type 0} {first : A → Form} {second : B → Form} {whole : C → Form} where
  pub short_both :
      Shortest first → Shortest second
      → ((others : List Token) (from middle end : ℕ) (a : A) (b : B) → first a others from middle → second b others middle end
      → (c : C) × whole c others from end)
      → Shortest whole
  short_both f g build =
      record {
        kinds = f.kinds ++ g.kinds;
        stands = λ others place stand.
            let parts = stand_parts f.kinds g.kinds others place stand in
            let a = f.stands others place parts.0 in
            let b = g.stands others (place + length f.kinds) parts.1 in
            let end : place + length f.kinds + length g.kinds ≡ place + length (f.kinds ++ g.kinds) =
            omega (arith, length-append f.kinds g.kinds) in
            subst (λ (to : ℕ). (c : C) × whole c others place to) end
            (build others place (place + length f.kinds) (place + length f.kinds + length g.kinds) a.0 b.0 a.1 b.1);
      }

  -- the first is begun, and the second comes behind it
  pub begun_before :
      {tokens : List Token} {from early token : ℕ} → Shortest second → IsBegun first tokens early token
      → ((others : List Token) → AgreeBefore tokens others token → (middle end : ℕ) (a : A) (b : B)
      → first a others early middle → second b others middle end → (c : C) × whole c others from end)
      → IsBegun whole tokens from token
  begun_before {from = from} {token = token} g f build =
      record {
        missing = f.missing ++ g.kinds;
        completed = λ others agree stand.
            let parts = stand_parts f.missing g.kinds others token stand in
            let a = f.completed others agree parts.0 in
            let b = g.stands others (token + length f.missing) parts.1 in
            let end : token + length f.missing + length g.kinds ≡ token + length (f.missing ++ g.kinds) =
            omega (arith, length-append f.missing g.kinds) in
            subst (λ (to : ℕ). (c : C) × whole c others from to) end
            (build others agree (token + length f.missing) (token + length f.missing + length g.kinds) a.0 b.0 a.1 b.1);
      }

module _ {A B : Type 0} {inner : B → Form} {whole : A → Form} where
  pub short_as :
      Shortest inner
      → ((others : List Token) (from end : ℕ) (b : B) → inner b others from end → (a : A) × whole a others from end)
      → Shortest whole
  short_as f build =
      record {
        kinds = f.kinds;
        stands = λ others place stand.
            let b = f.stands others place stand in build others place (place + length f.kinds) b.0 b.1;
      }

  -- what is begun ends a longer part
  pub begun_as :
      {tokens : List Token} {from early token : ℕ} → IsBegun inner tokens early token
      → ((others : List Token) → AgreeBefore tokens others token → (end : ℕ) (b : B) → inner b others early end
      → (a : A) × whole a others from end)
      → IsBegun whole tokens from token
  begun_as {token = token} f build =
      record {
        missing = f.missing;
        completed = λ others agree stand.
            let b = f.completed others agree stand in build others agree (token + length f.missing) b.0 b.1;
      }

module _ {A : Type 0} {form : A → Form} {tokens : List Token} {from : ℕ} where
  -- nothing of it stands there yet
  pub begun_here : Shortest form → IsBegun form tokens from from
  begun_here short =
      record { missing = short.kinds; completed = λ others agree stand. short.stands others from stand }

  -- all of it does
  pub begun_whole : {to : ℕ} (a : A) → IsLocal (form a) → form a tokens from to → IsBegun form tokens from to
  begun_whole {to = to} a l there =
      record {
        missing = [];
        completed = λ others agree stand.
            let end : to ≡ to + 0 = omega arith in
            subst (λ (p : ℕ). (part : A) × form part others from p) end (a, l.moves tokens others from to agree there);
      }

-- ---- the shortest of each

-- no part needs a token
pub short_nothing :
    {A : Type 0} {form : A → Form} → ((others : List Token) (place : ℕ) → (part : A) × form part others place place) → Shortest form
short_nothing {A = A} {form = form} stands =
    record {
      kinds = [];
      stands = λ others place stand.
          let end : place ≡ place + 0 = omega arith in
          subst (λ (p : ℕ). (part : A) × form part others place p) end (stands others place);
    }

pub short_token : (kind : TokenKind) → Shortest (λ (none : Unit {0}). one kind)
short_token kind = in_one kind (λ others place has. (tt, (has, refl)))

pub short_name : Shortest identifier
short_name = in_one (kinds.Identifier []) (λ others place has. (record { name = []; token = place }, (refl, (has, refl))))

pub short_operand : (floor : ℕ) → floor ≤ 9 → Shortest (operand floor)
short_operand floor le =
    in_one (kinds.Keyword words.True)
    (λ others place has. (Literal (literals.Boolean true) place, (0, λ z. le, (refl, (has, refl)))))

pub short_expression : Shortest expression
short_expression = short_operand 0 (lit≤ tt)

-- a token before a part, and behind it
pub short_behind : {B : Type 0} {second : B → Form} (kind : TokenKind) → Shortest second → Shortest (λ (part : B). one kind then second part)
short_behind kind g =
    short_both (short_token kind) g (λ others from middle end none b o r. (b, (middle, o, r)))

pub short_before : {A : Type 0} {first : A → Form} (kind : TokenKind) → Shortest first → Shortest (λ (part : A). first part then one kind)
short_before kind f =
    short_both f (short_token kind) (λ others from middle end a none o r. (a, (middle, o, r)))

pub short_closed : (which : Sign) → Shortest (closed which)
short_closed which = short_before (kinds.Sign which) short_expression

abbrev pub word : AttributeWord → Form
word which = one (kinds.Identifier (attribute_word which))

pub short_word : Shortest word
short_word = in_one (kinds.Identifier (attribute_word attributes.State)) (λ others place has. (attributes.State, (has, refl)))

pub short_attribute : Shortest attribute
short_attribute = short_behind (kinds.Sign signs.Dot) short_word

pub short_arguments : Shortest closed_arguments
short_arguments = in_one (kinds.Sign signs.CloseParen) (λ others place has. (NoTerms, (place, refl, (has, refl))))

pub short_tolerance : Shortest tolerance_number
short_tolerance = in_one (kinds.Integer (pos 0)) (λ others place has. (record { distance = 0; token = place }, (refl, (has, refl))))

pub short_look_end : (word : LookWord) → Shortest (look_end word)
short_look_end word = in_one (kinds.Sign signs.CloseParen) (λ others place has. (None, (has, refl)))

pub short_look_rest : (word : LookWord) → Shortest (look_rest word)
short_look_rest word =
    in_one (kinds.Sign signs.CloseParen) (λ others place has. ((NoTerms, None), (place, inl refl, (has, refl))))

-- ---- tokens that are completed

-- a token of a kind
abbrev token_of : TokenKind → Token
token_of kind = record { kind = kind; at = 0 }

-- the tokens before a place, and others behind them
abbrev completed : List Token → ℕ → List TokenKind → List Token
completed tokens end kinds = take end tokens ++ map token_of kinds

completed_agrees :
    (tokens : List Token) (end : ℕ) (kinds : List TokenKind) → end ≤ length tokens → AgreeBefore tokens (completed tokens end kinds) end
completed_agrees tokens zero kinds within place inside = absurd (omega (arith, inside))
completed_agrees [] (suc end) kinds within place inside = absurd (omega (arith, within))
completed_agrees (token ∷ tokens) (suc end) kinds within zero inside = refl
completed_agrees (token ∷ tokens) (suc end) kinds within (suc place) inside =
    completed_agrees tokens end kinds (omega (arith, within)) place (omega (arith, inside))

stand_behind :
    (token : Token) (tokens : List Token) (kinds : List TokenKind) (place : ℕ) → Stand kinds tokens place
    → Stand kinds (token ∷ tokens) (suc place)
stand_behind token tokens [] place stand = tt
stand_behind token tokens (kind ∷ kinds) place stand =
    let next : suc (place + 1) ≡ suc place + 1 = omega arith in (
      stand.0,
      subst (λ (p : ℕ). Stand kinds (token ∷ tokens) p) next (stand_behind token tokens kinds (place + 1) stand.1),
    )

all_stand : (kinds : List TokenKind) → Stand kinds (map token_of kinds) 0
all_stand [] = tt
all_stand (kind ∷ kinds) = (refl, stand_behind (token_of kind) (map token_of kinds) kinds 0 (all_stand kinds))

completed_stand :
    (tokens : List Token) (end : ℕ) (kinds : List TokenKind) → end ≤ length tokens → Stand kinds (completed tokens end kinds) end
completed_stand tokens zero kinds within = all_stand kinds
completed_stand [] (suc end) kinds within = absurd (omega (arith, within))
completed_stand (token ∷ tokens) (suc end) kinds within =
    stand_behind token (completed tokens end kinds) kinds end (completed_stand tokens end kinds (omega (arith, within)))

length_completed :
    (tokens : List Token) (end : ℕ) (kinds : List TokenKind) → end ≤ length tokens
    → length (completed tokens end kinds) ≡ end + length kinds
length_completed tokens end kinds within =
    omega (arith, length-append (take end tokens) (map token_of kinds), length-take-le end tokens within, length-map kinds token_of)

-- what is begun stands in tokens that are the same before the place, and is all of them
pub whole_of :
    {A : Type 0} {form : A → Form} (tokens : List Token) (from token : ℕ) → token ≤ length tokens → IsBegun form tokens from token
    → (others : List Token) × (part : A) × AgreeBefore tokens others token × form part others from (length others)
    × (token ≤ length others)
whole_of {A = A} {form = form} tokens from token within begun =
    let others = completed tokens token begun.missing in
    let agree = completed_agrees tokens token begun.missing within in
    let part = begun.completed others agree (completed_stand tokens token begun.missing within) in
    let long = length_completed tokens token begun.missing within in (
      others,
      part.0,
      agree,
      subst (λ (end : ℕ). form part.0 others from end) (sym long) part.1,
      omega (arith, long),
    )

pub begins_expression :
    (tokens : List Token) (from token : ℕ) → token ≤ length tokens → IsBegun expression tokens from token
    → BeginsExpression tokens from token
begins_expression tokens from token within begun =
    let whole = whole_of tokens from token within begun in
    record {
      others = whole.0;
      agree = whole.2;
      tree = whole.1;
      end = length whole.0;
      spelled = whole.3;
      reached = whole.4;
    }
