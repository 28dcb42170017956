-- Parts of plans, joined to longer ones.
use Rattle.std.proofs.Common.{◌≡◌, ℕ, ◌+◌, ◌≤◌, ◌<◌, inl, inr, refl, sym, ap, subst, ◌∙◌, List, [], ◌∷◌, ◌++◌, length, Option, Some, None, append_assoc, append-nil, arith}
use Rattle.px_lex.specs.declared.token.Token.{Token}
use Rattle.px_lex.specs.declared.token.TokenKind.{TokenKind}
use Rattle.px_syntax.specs.declared.fault.ParseFault.{ParseFault}
use Rattle.px_syntax.specs.declared.fault.ParseFault.TheVariants as faults
use Rattle.px_syntax.specs.Expr.{Term}
use Rattle.px_syntax.specs.ExprGrammar.{expression}
use Rattle.px_syntax.specs.Form.{Form, kind_at, one, optional, ◌then◌, maybe, each}
use Rattle.px_expr_parse.specs.Verdict.{Agree, AgreeBefore, IsBegun, IsRead, IsRefused, IsFound, IsMissing}
use Rattle.px_expr_parse.proofs.Completions.{Shortest, before as before_late, begun_as, begun_before, moved, short_as, short_token}
pub use Rattle.px_expr_parse.specs.Verdict.{HasKind, LacksKind}
pub use Rattle.px_expr_parse.proofs.Parts.{alone, before, behind, both, two}
use Rattle.px_expr_parse.proofs.Parts.{EndsWith, agree_before, ends_before, ends_behind, found_alone, missing_alone, missing_here, missing_kind}
use Rattle.px_expr_parse.proofs.Spans.{IsLocal, local_nothing, local_then}
use Rattle.px_plan_parse.specs.Part.{Follow, Ended, IsPart, Lacks, IsLacking}

-- ---- what a fault says

pub lack_memory : {A : Type 0} {form : A → Form} {Last : Follow} {tokens : List Token} {from : ℕ} → IsLacking form Last tokens from faults.NoMemory
lack_memory = record { named = λ token is. cc; shallow = λ token is. cc }

pub lack_at :
    {A : Type 0} {form : A → Form} {Last : Follow} {tokens : List Token} {from at : ℕ} {fault : ParseFault} → fault ≡ faults.SyntaxFault at
    → Lacks form Last tokens from at → IsLacking form Last tokens from fault
lack_at {form = form} {Last = Last} {tokens = tokens} {from = from} {at = at} e l =
    record {
      named = λ token is.
          let same : at ≡ token = cc in
          subst (λ (t : ℕ). Lacks form Last tokens from t) same l;
      shallow = λ token is. cc;
    }

-- what the readers of expressions say is missing
pub of_missing :
    {A : Type 0} (form : A → Form) (tokens : List Token) (from : ℕ) (fault : ParseFault) (Next : Follow)
    → IsMissing form tokens from fault → IsLacking form Next tokens from fault
of_missing form tokens from (faults.SyntaxFault token) Next f =
    lack_at refl (record { reached = f.0; within = f.1; begun = f.3; none = λ others agree part end o next. f.2 others agree part end o })
of_missing form tokens from (faults.Deep token) Next f = absurd f
of_missing form tokens from faults.NoMemory Next f = lack_memory

-- a part is missing where none begins with the token there
pub lack_here :
    {A : Type 0} {form : A → Form} {Last : Follow} {tokens : List Token} {from : ℕ} {fault : ParseFault} → fault ≡ faults.SyntaxFault from
    → from ≤ length tokens → Shortest form
    → ((others : List Token) → kind_at others from ≡ kind_at tokens from → (part : A) (end : ℕ) → form part others from end → ⊥)
    → IsLacking form Last tokens from fault
lack_here {form = form} {Last = Last} {tokens = tokens} {from = from} {fault = fault} e within short none =
    of_missing form tokens from fault Last (missing_here form tokens from fault e within short none)

-- where a part is missing, so is each that begins before it and holds one there
pub lack_holding :
    {A B : Type 0} {whole : A → Form} {inner : B → Form} {Next Last : Follow} {tokens : List Token} {from early : ℕ} {fault : ParseFault}
    → from ≤ early
    → ((token : ℕ) → early ≤ token → IsBegun inner tokens early token → IsBegun whole tokens from token)
    → ((others : List Token) → Agree tokens others early → (a : A) (end : ℕ) → whole a others from end → Last others end
    → (b : B) × (stop : ℕ) × inner b others early stop × Next others stop)
    → IsLacking inner Next tokens early fault → IsLacking whole Last tokens from fault
lack_holding {tokens = tokens} {early = early} le begun holds f =
    record {
      named = λ token is.
          let l = f.named token is in
          record {
            reached = omega (arith, le, l.reached);
            within = l.within;
            begun = begun token l.reached l.begun;
            none = λ others agree a end o last.
                let h = holds others (agree_before tokens others early token l.reached agree) a end o last in
                l.none others agree h.0 h.1 h.2 h.3;
          };
      shallow = f.shallow;
    }

-- ---- a part that ends with another, of which it is built

pub record Joins {A B : Type 0} (whole : A → Form) (inner : B → Form) (build : B → A) (Last Next : Follow) (tokens : List Token) (from early : ℕ) : Type 0 where
  pub begins : from ≤ early
  pub builds :
      (others : List Token) → AgreeBefore tokens others early → (b : B) (end : ℕ) → inner b others early end
      → whole (build b) others from end
  pub splits :
      (others : List Token) → Agree tokens others early → (a : A) (end : ℕ) → whole a others from end → Last others end
      → (b : B) × (a ≡ build b) × inner b others early end × Next others end

module _ {A B : Type 0} {whole : A → Form} {inner : B → Form} {build : B → A} {Last Next : Follow} {tokens : List Token} {from early : ℕ}
    (j : Joins whole inner build Last Next tokens from early)
  where
    pub part_joined : {b : B} {to : ℕ} → IsPart inner Next tokens early b to → IsPart whole Last tokens from (build b) to
    part_joined {b = b} {to = to} f =
        record {
          advances = omega (arith, j.begins, f.advances);
          within = f.within;
          sole = λ others agree.
              let agree_early = agree_before tokens others early to f.advances agree in
              let sole = f.sole others agree in
              record {
                spelled = j.builds others (λ place inside. agree_early place (omega (arith, inside))) b to sole.spelled;
                only = λ other end o last.
                    let s = j.splits others agree_early other end o last in
                    let is = sole.only s.0 end s.2 s.3 in
                    (s.1 ∙ ap build is.0, is.1);
              };
        }

    pub lack_joined : {fault : ParseFault} → IsLacking inner Next tokens early fault → IsLacking whole Last tokens from fault
    lack_joined =
        lack_holding j.begins
        (λ token le begun. begun_as begun (λ others agree end b o. (build b, j.builds others (before_late tokens others early token le agree) b end o)))
        (λ others agree a end o last. let s = j.splits others agree a end o last in (s.0, end, s.2, s.3))

-- each part of a form is built of one of another, which stands there
abbrev pub Splits : {A B : Type 0} → (A → Form) → (B → Form) → (B → A) → List Token → ℕ → Type 0
Splits whole inner build tokens from =
    (tree : _) (end : ℕ) → whole tree tokens from end → (part : _) × (tree ≡ build part) × inner part tokens from end

-- the same of all tokens that agree
abbrev pub Makes : {A B : Type 0} → (A → Form) → (B → Form) → (B → A) → List Token → ℕ → Type 0
Makes whole inner build tokens from = EndsWith whole inner build tokens from from

-- by what stands there
pub makes_by :
    {A B : Type 0} {whole : A → Form} {inner : B → Form} {build : B → A} {tokens : List Token} {from : ℕ}
    → ((others : List Token) (part : B) (end : ℕ) → inner part others from end → whole (build part) others from end)
    → ((others : List Token) → kind_at others from ≡ kind_at tokens from → Splits whole inner build others from)
    → Makes whole inner build tokens from
makes_by {from = from} builds splits =
    record { begins = omega arith; builds = λ others agree. builds others; splits = λ others agree. splits others (agree from (omega arith)) }

-- whatever follows it
module _ {A B : Type 0} {whole : A → Form} {inner : B → Form} {build : B → A} {Last : Follow} {tokens : List Token} {from early : ℕ}
    (e : EndsWith whole inner build tokens from early)
  where
    joins_ending : Joins whole inner build Last Last tokens from early
    joins_ending =
        record {
          begins = e.begins;
          builds = e.builds;
          splits = λ others agree tree end o last. let s = e.splits others agree tree end o in (s.0, s.1, s.2, last);
        }

    pub part_made : {part : B} {to : ℕ} → IsPart inner Last tokens early part to → IsPart whole Last tokens from (build part) to
    part_made = part_joined joins_ending

    pub lack_made : {fault : ParseFault} → IsLacking inner Last tokens early fault → IsLacking whole Last tokens from fault
    lack_made = lack_joined joins_ending

-- the same part where fewer may follow
module _ {A : Type 0} {form : A → Form} {Next Last : Follow} {tokens : List Token} {from : ℕ}
    (narrows : (others : List Token) (place : ℕ) → Last others place → Next others place)
  where
    joins_narrowed : Joins form form (λ (part : A). part) Last Next tokens from from
    joins_narrowed =
        record {
          begins = omega arith;
          builds = λ others agree part end o. o;
          splits = λ others agree part end o last. (part, refl, o, narrows others end last);
        }

    pub part_narrowed : {part : A} {to : ℕ} → IsPart form Next tokens from part to → IsPart form Last tokens from part to
    part_narrowed = part_joined joins_narrowed

    pub lack_narrowed : {fault : ParseFault} → IsLacking form Next tokens from fault → IsLacking form Last tokens from fault
    lack_narrowed = lack_joined joins_narrowed

-- ---- what the reader of expressions found

pub of_found :
    {A : Type 0} {form : A → Form} {tokens : List Token} {from to : ℕ} {part : A} (Next : Follow)
    → IsFound form tokens from part to → IsPart form Next tokens from part to
of_found Next f =
    record {
      advances = f.advances;
      within = f.within;
      sole = λ others agree.
          let only = f.only others agree in
          record { spelled = only.spelled; only = λ other end o next. only.only other end o };
    }

pub of_read :
    {tokens : List Token} {from to : ℕ} {tree : Term}
    → IsRead 0 tokens from tree to → IsPart expression Ended tokens from tree to
of_read read =
    record {
      advances = omega (arith, read.advances);
      within = read.within;
      sole = λ others agree.
          let longest = read.longest others agree in
          record {
            spelled = longest.spelled;
            only = λ other end o ended. elim (longest.only other end o) [
              | inl same ↦ same
              | inr ends ↦ absurd (ended ends.1)
            ];
          };
    }

pub of_refused :
    (tokens : List Token) (from : ℕ) (fault : ParseFault)
    → IsRefused 0 tokens from fault → IsLacking expression Ended tokens from fault
of_refused tokens from (faults.SyntaxFault token) f =
    lack_at refl (record {
      reached = f.0;
      within = f.1;
      begun = f.3;
      none = λ others agree part end o ended. ended (f.2 others agree part end o).1;
    })
of_refused tokens from (faults.Deep token) f = absurd f
of_refused tokens from faults.NoMemory f = lack_memory

-- ---- one part and then another

-- wherever a form stands, followed by what may follow it, what is before it is followed by what may follow that
abbrev pub Begins : {B : Type 0} → (B → Form) → Follow → Follow → Type 0
Begins second Last Next =
    (tokens : List Token) (part : _) (from end : ℕ) → second part tokens from end → Last tokens end → Next tokens from

-- where the second part depends on the first
abbrev pub both_of : {A B : Type 0} → (A → Form) → (A → B → Form) → A × B → Form
both_of first second parts = first parts.0 then second parts.0 parts.1

-- a second part for each first one
abbrev pub each_of : {A B : Type 0} → (A → B → Form) → (A → B) → Form
each_of {A = A} second part tokens from to = (a : A) → second a (part a) tokens from to

module _ {A B : Type 0} {first : A → Form} (second : A → B → Form) {Next Last : Follow} {tokens : List Token} {from : ℕ}
    (begins : (a : A) → Begins (second a) Last Next)
  where
    pub joins_both_of :
        {middle : ℕ} {a : A} → IsLocal (first a) → IsPart first Next tokens from a middle
        → Joins (both_of first second) (second a) (λ (b : B). (a, b)) Last Last tokens from middle
    joins_both_of {middle = middle} {a = a} local f =
        record {
          begins = f.advances;
          builds = λ others agree b end o. (middle, moved tokens local (λ others agree. (f.sole others agree).spelled) others agree, o);
          splits = λ others agree other end o last.
              let is = (f.sole others agree).only other.0 o.0 o.1 (begins other.0 others other.1 o.0 end o.2 last) in (
                other.1,
                ap (λ (x : A). (x, other.1)) is.0,
                subst (λ (place : ℕ). second a other.1 others place end) is.1 (subst (λ (x : A). second x other.1 others o.0 end) is.0 o.2),
                last,
              );
        }

    pub lack_first_of :
        {fault : ParseFault} → Shortest (each_of second) → IsLacking first Next tokens from fault
        → IsLacking (both_of first second) Last tokens from fault
    lack_first_of short =
        lack_holding (omega arith)
        (λ token le begun. begun_before short begun (λ others agree middle end a b o r. ((a, b a), (middle, o, r a))))
        (λ others agree other end o last. (other.0, o.0, o.1, begins other.0 others other.1 o.0 end o.2 last))

module _ {A B : Type 0} {first : A → Form} {second : B → Form} {Next Last : Follow} {tokens : List Token} {from : ℕ} (begins : Begins second Last Next) where
  pub joins_both :
      {middle : ℕ} {a : A} → IsLocal (first a) → IsPart first Next tokens from a middle
      → Joins (both first second) second (λ (b : B). (a, b)) Last Last tokens from middle
  joins_both = joins_both_of (λ (a : A). second) (λ a. begins)

  pub lack_first : {fault : ParseFault} → Shortest second → IsLacking first Next tokens from fault → IsLacking (both first second) Last tokens from fault
  lack_first short =
      lack_first_of (λ (a : A). second) (λ a. begins) (short_as short (λ others from end b o. ((λ (a : A). b), λ (a : A). o)))

-- ---- a token before a part

module _ {B : Type 0} {kind : TokenKind} {second : B → Form} {Last : Follow} {tokens : List Token} {from : ℕ} where
  module _ (has : HasKind tokens from kind) where
    pub part_behind : {to : ℕ} {b : B} → IsPart second Last tokens (from + 1) b to → IsPart (behind kind second) Last tokens from b to
    part_behind = part_made (ends_behind kind tokens from second has)

    pub lack_behind : {fault : ParseFault} → IsLacking second Last tokens (from + 1) fault → IsLacking (behind kind second) Last tokens from fault
    lack_behind = lack_made (ends_behind kind tokens from second has)

  pub lack_kind :
      {fault : ParseFault} → from ≤ length tokens → Shortest second → LacksKind tokens from kind fault
      → IsLacking (behind kind second) Last tokens from fault
  lack_kind {fault = fault} within short lacks =
      of_missing (behind kind second) tokens from fault Last (missing_kind kind tokens from second fault within short lacks)

-- a token alone
module _ {kind : TokenKind} {Last : Follow} {tokens : List Token} {from : ℕ} where
  pub part_alone : from < length tokens → HasKind tokens from kind → IsPart (alone kind) Last tokens from tt (from + 1)
  part_alone inside has = of_found Last (found_alone kind tokens from inside has)

  pub lack_alone : {fault : ParseFault} → from ≤ length tokens → LacksKind tokens from kind fault → IsLacking (alone kind) Last tokens from fault
  lack_alone {fault = fault} within lacks = of_missing (alone kind) tokens from fault Last (missing_alone kind tokens from fault within lacks)

-- a token that may be left out, where what follows is none
abbrev pub optional_alone : TokenKind → Unit {0} → Form
optional_alone kind none = optional (one kind)

module _ {kind : TokenKind} {Last : Follow} {tokens : List Token} {from : ℕ} where
  pub optional_present :
      ((others : List Token) (place : ℕ) → HasKind others place kind → Last others place → ⊥) → from < length tokens → HasKind tokens from kind
      → IsPart (optional_alone kind) Last tokens from tt (from + 1)
  optional_present ends inside has =
      record {
        advances = omega arith;
        within = omega (arith, inside);
        sole = λ others agree.
            let there : HasKind others from kind = agree from (omega arith) ∙ has in
            record {
              spelled = inr (there, refl);
              only = λ other end o last. elim o [
                | inl none ↦ absurd (ends others from there (subst (λ (place : ℕ). Last others place) none last))
                | inr given ↦ (refl, given.1)
              ];
            };
      }

  pub optional_absent : from ≤ length tokens → (HasKind tokens from kind → ⊥) → IsPart (optional_alone kind) Last tokens from tt from
  optional_absent within lacks =
      record {
        advances = omega arith;
        within = within;
        sole = λ others agree. record {
          spelled = inl refl;
          only = λ other end o last. elim o [ inl none ↦ (refl, none) | inr given ↦ absurd (lacks (sym (agree from (omega arith)) ∙ given.0)) ];
        };
      }

-- ---- a token behind a part

module _ {kind : TokenKind} {Next : Follow} (Last : Follow) (follows : (others : List Token) (place : ℕ) → HasKind others place kind → Next others place) where
  token_begins : Begins (alone kind) Last Next
  token_begins others none place end o last = follows others place o.0

module _ {A : Type 0} {first : A → Form} {kind : TokenKind} {Next Last : Follow} {tokens : List Token} {from : ℕ}
    (follows : (others : List Token) (place : ℕ) → HasKind others place kind → Next others place)
  where
    pub part_before :
        {middle : ℕ} {a : A} → IsLocal (first a) → middle < length tokens → IsPart first Next tokens from a middle → HasKind tokens middle kind
        → IsPart (before first kind) Last tokens from a (middle + 1)
    part_before local inside f has =
        part_made (ends_before kind tokens from first) (part_joined (joins_both (token_begins Last follows) local f) (part_alone inside has))

    pub lack_token :
        {middle : ℕ} {a : A} {fault : ParseFault} → IsLocal (first a) → IsPart first Next tokens from a middle
        → LacksKind tokens middle kind fault → IsLacking (before first kind) Last tokens from fault
    lack_token local f lacks =
        lack_made (ends_before kind tokens from first) (lack_joined (joins_both (token_begins Last follows) local f) (lack_alone f.within lacks))

    pub lack_before :
        {fault : ParseFault} → IsLacking first Next tokens from fault → IsLacking (before first kind) Last tokens from fault
    lack_before f = lack_made (ends_before kind tokens from first) (lack_first (token_begins Last follows) (short_token kind) f)

-- ---- parts in turn

pub local_each : {A : Type 0} {form : A → Form} → ((part : A) → IsLocal (form part)) → (parts : List A) → IsLocal (each form parts)
local_each local [] = local_nothing
local_each local (part ∷ parts) = local_then (local part) (local_each local parts)

-- parts in turn, and one more
each_push :
    {A : Type 0} (form : A → Form) (tokens : List Token) (parts : List A) (part : A) (from middle to : ℕ)
    → each form parts tokens from middle → form part tokens middle to → each form (parts ++ part ∷ []) tokens from to
each_push form tokens [] part from middle to all o = (to, subst (λ (p : ℕ). form part tokens p to) all o, refl)
each_push form tokens (first ∷ parts) part from middle to all o =
    (all.0, all.1, each_push form tokens parts part all.0 middle to all.2 o)

-- what is before parts in turn is followed by the first of them, or by what follows them all
module _ {A : Type 0} {form : A → Form} {Next Last : Follow} (next_begins : (tokens : List Token) (part : A) (from end : ℕ) → form part tokens from end → Next tokens from)
    (last_follows : (others : List Token) (place : ℕ) → Last others place → Next others place)
  where
    pub each_begins : Begins (each form) Last Next
    each_begins others [] place end o last = last_follows others place (subst (λ (p : ℕ). Last others p) o last)
    each_begins others (part ∷ rest) place end o last = next_begins others part place o.0 o.1

-- all parts in turn are those that are done and the rest, which stand from a place on
abbrev pub HasRest : {A : Type 0} → (A → Form) → List A → ℕ → List Token → List A → ℕ → Type 0
HasRest {A = A} form done at tokens all end = (rest : List A) × (all ≡ done ++ rest) × each form rest tokens at end

-- parts in turn up to a place, where more may stand
pub record IsFront {A : Type 0} (form : A → Form) (Last : Follow) (tokens : List Token) (from : ℕ) (done : List A) (at : ℕ) : Type 0 where
  pub advances : from ≤ at
  pub within : at ≤ length tokens
  pub builds :
      (others : List Token) → Agree tokens others at → (rest : List A) (end : ℕ) → each form rest others at end
      → each form (done ++ rest) others from end
  pub splits :
      (others : List Token) → Agree tokens others at → (all : List A) (end : ℕ) → each form all others from end → Last others end
      → HasRest form done at others all end

module _ {A : Type 0} {form : A → Form} {Last : Follow} {tokens : List Token} {from : ℕ} where
  module _ {done : List A} {at : ℕ} (front : IsFront form Last tokens from done at) where
    all_done : (others : List Token) → Agree tokens others at → each form done others from at
    all_done others agree =
        subst (λ (all : List A). each form all others from at) (append-nil done) (front.builds others agree [] at refl)

    pub front_ends :
        ((others : List Token) → Agree tokens others at → (part : A) (end : ℕ) → form part others at end → ⊥)
        → IsPart (each form) Last tokens from done at
    front_ends none =
        record {
          advances = front.advances;
          within = front.within;
          sole = λ others agree.
              record {
                spelled = all_done others agree;
                only = λ other end o last. ends others agree other end (front.splits others agree other end o last);
              };
        }
      where
        ends :
            (others : List Token) → Agree tokens others at → (all : List A) (end : ℕ) → HasRest form done at others all end
            → (all ≡ done) × (end ≡ at)
        ends others agree all end ([], is, o) = (is ∙ append-nil done, o)
        ends others agree all end (part ∷ rest, is, o) = absurd (none others agree part o.0 o.1)

    -- what may follow an element: another, or what may follow them all; and the next one begins where these don't end
    module _ {Next : Follow} (next_begins : (tokens : List Token) (part : A) (from end : ℕ) → form part tokens from end → Next tokens from) (last_follows : (others : List Token) (place : ℕ) → Last others place → Next others place)
        (starts : (others : List Token) → Agree tokens others at → Last others at → ⊥)
      where
        -- the next element of all, and those behind it
        next_of :
            (others : List Token) → Agree tokens others at → (all : List A) (end : ℕ) → each form all others from end → Last others end
            → (part : A) × (stop : ℕ) × form part others at stop × Next others stop
            × (rest : List A) × (all ≡ done ++ part ∷ rest) × each form rest others stop end
        next_of others agree all end o last = go (front.splits others agree all end o last)
          where
            go :
                HasRest form done at others all end
                → (part : A) × (stop : ℕ) × form part others at stop × Next others stop
                × (rest : List A) × (all ≡ done ++ part ∷ rest) × each form rest others stop end
            go ([], is, o) = absurd (starts others agree (subst (λ (p : ℕ). Last others p) o last))
            go (part ∷ rest, is, o) = (
              part,
              o.0,
              o.1,
              each_begins {form = form} {Next = Next} {Last = Last} next_begins last_follows others rest o.0 end o.2 last,
              rest,
              is,
              o.2,
            )

        pub front_more :
            {part : A} {to : ℕ} → IsPart form Next tokens at part to → IsFront form Last tokens from (done ++ part ∷ []) to
        front_more {part = part} {to = to} f =
            record {
              advances = omega (arith, front.advances, f.advances);
              within = f.within;
              builds = λ others agree rest end o.
                  let agree_at = agree_before tokens others at to f.advances agree in
                  subst (λ (all : List A). each form all others from end) (sym (append_assoc done (part ∷ []) rest))
                  (front.builds others agree_at (part ∷ rest) end (to, (f.sole others agree).spelled, o));
              splits = λ others agree all end o last.
                  let n = next_of others (agree_before tokens others at to f.advances agree) all end o last in
                  let same = (f.sole others agree).only n.0 n.1 n.2 n.3 in (
                    n.4,
                    n.5 ∙ ap (λ (x : A). done ++ x ∷ n.4) same.0 ∙ sym (append_assoc done (part ∷ []) n.4),
                    subst (λ (p : ℕ). each form n.4 others p end) same.1 n.6,
                  );
            }

        pub front_lacks :
            {fault : ParseFault} → ((part : A) → IsLocal (form part)) → IsLacking form Next tokens at fault
            → IsLacking (each form) Last tokens from fault
        front_lacks local =
            lack_holding front.advances
            (λ token le begun. begun_as begun (λ others agree end part o. (
              done ++ part ∷ [],
              each_push form others done part from at end
                  (moved tokens (local_each local done) all_done others (before_late tokens others at token le agree)) o,
            )))
            (λ others agree all end o last. let n = next_of others agree all end o last in (n.0, n.1, n.2, n.3))

-- ---- a part that may be left out

module _ {A : Type 0} {form : A → Form} {Last : Follow} {tokens : List Token} {from : ℕ} where
  pub part_absent :
      from ≤ length tokens
      → ((others : List Token) → Agree tokens others from → (part : A) (end : ℕ) → form part others from end → ⊥)
      → IsPart (maybe form) Last tokens from None from
  part_absent within none =
      record {
        advances = omega arith;
        within = within;
        sole = λ others agree. record { spelled = refl; only = only others agree };
      }
    where
      only :
          (others : List Token) → Agree tokens others from → (other : Option A) (end : ℕ) → maybe form other others from end
          → Last others end → (other ≡ None) × (end ≡ from)
      only others agree None end o last = (refl, o)
      only others agree (Some part) end o last = absurd (none others agree part end o)

  module _ (starts : (others : List Token) → Agree tokens others from → Last others from → ⊥) where
    joins_present : Joins (maybe form) form (λ (part : A). Some part) Last Last tokens from from
    joins_present = record { begins = omega arith; builds = λ others agree part end o. o; splits = splits }
      where
        splits :
            (others : List Token) → Agree tokens others from → (other : Option A) (end : ℕ) → maybe form other others from end
            → Last others end → (part : A) × (other ≡ Some part) × form part others from end × Last others end
        splits others agree None end o last = absurd (starts others agree (subst (λ (p : ℕ). Last others p) o last))
        splits others agree (Some part) end o last = (part, refl, o, last)

    pub part_present : {part : A} {to : ℕ} → IsPart form Last tokens from part to → IsPart (maybe form) Last tokens from (Some part) to
    part_present = part_joined joins_present

    pub lack_present : {fault : ParseFault} → IsLacking form Last tokens from fault → IsLacking (maybe form) Last tokens from fault
    lack_present = lack_joined joins_present
