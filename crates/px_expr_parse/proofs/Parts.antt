-- Parts that end by themselves, joined to longer ones.
use Rattle.std.proofs.Common.{◌≡◌, ℕ, ◌+◌, ◌-◌, ◌*◌, ◌≤◌, ◌<◌, inl, inr, refl, sym, ap, subst, ◌∙◌, List, length, arith}
use Rattle.px_lex.specs.declared.token.Token.{Token}
use Rattle.px_lex.specs.declared.token.TokenKind.{TokenKind}
use Rattle.px_syntax.specs.declared.fault.ParseFault.{ParseFault}
use Rattle.px_syntax.specs.declared.fault.ParseFault.TheVariants as faults
use Rattle.px_syntax.specs.Expr.{Term}
use Rattle.px_syntax.specs.ExprGrammar.{expression}
use Rattle.px_syntax.specs.Form.{Form, kind_at, one, ◌then◌}
use Rattle.px_expr_parse.specs.Verdict.{Agree, AgreeBefore, GoesOn, IsRead, IsRefused, IsFound, IsMissing, HasKind, LacksKind}
use Rattle.px_expr_parse.proofs.Completions.{Shortest, before as before_late, begun_as, begun_before, begun_here, moved, short_behind, short_both, short_token}
use Rattle.px_expr_parse.proofs.Spans.{IsLocal, local_expression}

-- the tokens that are left, and how far one reader may hand on to another at one place
abbrev pub left : List Token → ℕ → ℕ → ℕ
left tokens from rank = 8 * (length tokens - from) + rank

-- tokens that agree up to a place agree up to each one before it
pub agree_before :
    (tokens others : List Token) (early late : ℕ) → early ≤ late → Agree tokens others late
    → Agree tokens others early
agree_before tokens others early late le agree place before = agree place (omega (arith, le, before))

-- two and three tokens on, one by one
pub two : (n : ℕ) → n + 2 ≡ n + 1 + 1
two n = omega arith

pub three : (n : ℕ) → n + 3 ≡ n + 1 + 1 + 1
three n = omega arith

-- a part is missing where none begins with the token there
pub missing_here :
    {A : Type 0} (form : A → Form) (tokens : List Token) (from : ℕ) (fault : ParseFault) → fault ≡ faults.SyntaxFault from
    → from ≤ length tokens → Shortest form
    → ((others : List Token) → kind_at others from ≡ kind_at tokens from → (part : A) (end : ℕ) → form part others from end → ⊥)
    → IsMissing form tokens from fault
missing_here form tokens from fault is within short none =
    subst (λ (f : ParseFault). IsMissing form tokens from f) (sym is)
    (omega arith, within, λ others agree. none others (agree from (omega arith)), begun_here short)

-- ---- a part that ends with another, of which it is built

pub record EndsWith {A B : Type 0} (whole : A → Form) (inner : B → Form) (build : B → A) (tokens : List Token) (from early : ℕ) : Type 0 where
  pub begins : from ≤ early
  pub builds :
      (others : List Token) → AgreeBefore tokens others early → (b : B) (end : ℕ) → inner b others early end
      → whole (build b) others from end
  pub splits :
      (others : List Token) → Agree tokens others early → (a : A) (end : ℕ) → whole a others from end
      → (b : B) × (a ≡ build b) × inner b others early end

module _ {A B : Type 0} {whole : A → Form} {inner : B → Form} {build : B → A} {tokens : List Token} {from early : ℕ}
    (e : EndsWith whole inner build tokens from early)
  where
    pub found_ending : {b : B} {to : ℕ} → IsFound inner tokens early b to → IsFound whole tokens from (build b) to
    found_ending {b = b} {to = to} g =
        record {
          advances = omega (arith, e.begins, g.advances);
          within = g.within;
          only = λ others agree.
              let agree_early = agree_before tokens others early to g.advances agree in
              let one = g.only others agree in
              record {
                spelled = e.builds others (λ place inside. agree_early place (omega (arith, inside))) b to one.spelled;
                only = λ other end o.
                    let s = e.splits others agree_early other end o in
                    let is = one.only s.0 end s.2 in
                    (s.1 ∙ ap build is.0, is.1);
              };
        }

    pub missing_ending : (fault : ParseFault) → IsMissing inner tokens early fault → IsMissing whole tokens from fault
    missing_ending (faults.SyntaxFault token) g = (
      omega (arith, e.begins, g.0),
      g.1,
      λ others agree other end o.
          let s = e.splits others (agree_before tokens others early token g.0 agree) other end o in g.2 others agree s.0 end s.2,
      begun_as g.3 (λ others agree end b o. (build b, e.builds others (before_late tokens others early token g.0 agree) b end o)),
    )
    missing_ending (faults.Deep token) g = g
    missing_ending faults.NoMemory g = g

-- ---- one part and then another

abbrev pub both : {A B : Type 0} → (A → Form) → (B → Form) → A × B → Form
both first second parts = first parts.0 then second parts.1

pub short_pair : {A B : Type 0} {first : A → Form} {second : B → Form} → Shortest first → Shortest second → Shortest (both first second)
short_pair f g = short_both f g (λ others from middle end a b o r. ((a, b), (middle, o, r)))

-- a form that begins with no token with which an expression goes on
abbrev pub IsClosing : {B : Type 0} → (B → Form) → Type 0
IsClosing form =
    (tokens : List Token) (part : _) (from end : ℕ) → form part tokens from end → GoesOn 0 tokens from → ⊥

-- before a second part no other first one stands
pub record IsSettled {A B : Type 0} (first : A → Form) (second : B → Form) (tokens : List Token) (from : ℕ) (a : A) (middle : ℕ) : Type 0 where
  pub begins : from ≤ middle
  pub stands : (others : List Token) → AgreeBefore tokens others middle → first a others from middle
  pub only :
      (others : List Token) → Agree tokens others middle → (other : A) (place : ℕ) → first other others from place
      → (b : B) (end : ℕ) → second b others place end → (other ≡ a) × (place ≡ middle)

module _ {A B : Type 0} (first : A → Form) (second : B → Form) {tokens : List Token} {from middle : ℕ} {a : A} where
  settled : IsLocal (first a) → IsFound first tokens from a middle → IsSettled first second tokens from a middle
  settled l f =
      record {
        begins = f.advances;
        stands = moved tokens l (λ others agree. (f.only others agree).spelled);
        only = λ others agree other place o b end r. (f.only others agree).only other place o;
      }

  ends_settled : IsSettled first second tokens from a middle → EndsWith (both first second) second (λ (b : B). (a, b)) tokens from middle
  ends_settled s =
      record {
        begins = s.begins;
        builds = λ others agree b end o. (middle, s.stands others agree, o);
        splits = λ others agree other end o.
            let is = s.only others agree other.0 o.0 o.1 other.1 end o.2 in (
              other.1,
              ap (λ (x : A). (x, other.1)) is.0,
              subst (λ (place : ℕ). second other.1 others place end) is.1 o.2,
            );
      }

  pub ends_both : IsLocal (first a) → IsFound first tokens from a middle → EndsWith (both first second) second (λ (b : B). (a, b)) tokens from middle
  ends_both l f = ends_settled (settled l f)

pub missing_first :
    {A B : Type 0} (first : A → Form) (second : B → Form) (tokens : List Token) (from : ℕ) (fault : ParseFault) → Shortest second
    → IsMissing first tokens from fault → IsMissing (both first second) tokens from fault
missing_first first second tokens from (faults.SyntaxFault token) short f = (
  f.0,
  f.1,
  λ others agree other end o. f.2 others agree other.0 o.0 o.1,
  begun_before short f.3 (λ others agree middle end a b o r. ((a, b), (middle, o, r))),
)
missing_first first second tokens from (faults.Deep token) short f = f
missing_first first second tokens from faults.NoMemory short f = f

-- an expression, and what closes it
module _ {B : Type 0} (second : B → Form) (closing : IsClosing second) where
  pub ends_closed :
      {tokens : List Token} {from middle : ℕ} {tree : Term} → IsRead 0 tokens from tree middle
      → EndsWith (both expression second) second (λ (b : B). (tree, b)) tokens from middle
  ends_closed {tokens = tokens} {tree = tree} f =
      ends_settled expression second (record {
        begins = omega (arith, f.advances);
        stands = moved tokens (local_expression tree) (λ others agree. (f.longest others agree).spelled);
        only = λ others agree other place o b end r. elim ((f.longest others agree).only other place o) [
          | inl same ↦ same
          | inr ends ↦ absurd (closing others b place end r ends.1)
        ];
      })

  pub missing_closed :
      (tokens : List Token) (from : ℕ) (fault : ParseFault) → Shortest second
      → IsRefused 0 tokens from fault → IsMissing (both expression second) tokens from fault
  missing_closed tokens from (faults.SyntaxFault token) short f = (
    f.0,
    f.1,
    λ others agree other end o. closing others other.1 o.0 end o.2 (f.2 others agree other.0 o.0 o.1).1,
    begun_before short f.3 (λ others agree middle end a b o r. ((a, b), (middle, o, r))),
  )
  missing_closed tokens from (faults.Deep token) short f = f
  missing_closed tokens from faults.NoMemory short f = f

-- ---- a token

abbrev pub alone : TokenKind → Unit {0} → Form
alone kind none = one kind

-- a token behind a part, and one before it
abbrev pub before : {A : Type 0} → (A → Form) → TokenKind → A → Form
before first kind part = first part then one kind

abbrev pub behind : {B : Type 0} → TokenKind → (B → Form) → B → Form
behind kind second part = one kind then second part

module _ (kind : TokenKind) (tokens : List Token) (from : ℕ) where
  pub found_alone : from < length tokens → HasKind tokens from kind → IsFound (alone kind) tokens from tt (from + 1)
  found_alone inside has =
      record {
        advances = omega arith;
        within = omega (arith, inside);
        only = λ others agree. record { spelled = (agree from (omega arith) ∙ has, refl); only = λ other end o. (refl, o.1) };
      }

  pub missing_alone : (fault : ParseFault) → from ≤ length tokens → LacksKind tokens from kind fault → IsMissing (alone kind) tokens from fault
  missing_alone fault within lacks =
      missing_here (alone kind) tokens from fault lacks.0 within (short_token kind) (λ others same none end o. lacks.1 (sym same ∙ o.0))

-- a word, which may have more than one spelling, before a part
pub ends_word :
    {B : Type 0} (word : Form) (second : B → Form) {tokens : List Token} {from : ℕ}
    → ((others : List Token) → kind_at others from ≡ kind_at tokens from → word others from (from + 1))
    → ((others : List Token) (end : ℕ) → word others from end → end ≡ from + 1)
    → EndsWith (λ (part : B). word then second part) second (λ (part : B). part) tokens from (from + 1)
ends_word word second {from = from} stands ends =
    record {
      begins = omega arith;
      builds = λ others agree part end o. (from + 1, stands others (agree from (omega arith)), o);
      splits = λ others agree part end o. (part, refl, subst (λ (place : ℕ). second part others place end) (ends others o.0 o.1) o.2);
    }

-- a token before a part
module _ {B : Type 0} (kind : TokenKind) (tokens : List Token) (from : ℕ) (second : B → Form) where
  pub ends_behind : HasKind tokens from kind → EndsWith (behind kind second) second (λ (b : B). b) tokens from (from + 1)
  ends_behind has = ends_word (one kind) second (λ others same. (same ∙ has, refl)) (λ others end o. o.1)

  pub missing_kind :
      (fault : ParseFault) → from ≤ length tokens → Shortest second → LacksKind tokens from kind fault
      → IsMissing (behind kind second) tokens from fault
  missing_kind fault within short lacks =
      missing_here (behind kind second) tokens from fault lacks.0 within (short_behind kind short)
      (λ others same other end o. lacks.1 (sym same ∙ o.1.0))

-- a token behind a part
module _ {A : Type 0} (kind : TokenKind) (tokens : List Token) (from : ℕ) (first : A → Form) where
  pub ends_before : EndsWith (before first kind) (both first (alone kind)) (λ (parts : A × Unit {0}). parts.0) tokens from from
  ends_before =
      record {
        begins = omega arith;
        builds = λ others agree parts end o. o;
        splits = λ others agree a end o. ((a, tt), refl, o);
      }

  pub missing_before : (fault : ParseFault) → IsMissing first tokens from fault → IsMissing (before first kind) tokens from fault
  missing_before fault f = missing_ending ends_before fault (missing_first first (alone kind) tokens from fault (short_token kind) f)

  pub missing_behind :
      {a : A} {middle : ℕ} (fault : ParseFault) → IsLocal (first a) → IsFound first tokens from a middle → LacksKind tokens middle kind fault
      → IsMissing (before first kind) tokens from fault
  missing_behind {middle = middle} fault l f lacks =
      missing_ending ends_before fault
      (missing_ending (ends_both first (alone kind) l f) fault (missing_alone kind tokens middle fault f.within lacks))
