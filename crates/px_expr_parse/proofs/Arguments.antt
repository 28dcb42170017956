-- Arguments, one after another, and the parentheses that may be left out.
use Rattle.std.proofs.Common.{◌≡◌, ℕ, ◌+◌, ◌≤◌, ◌<◌, inl, inr, refl, sym, ap, subst, ◌∙◌, List, [], ◌∷◌, ◌++◌, length, Some, None, arith}
use Rattle.px_lex.specs.declared.sign.Sign.{Sign}
use Rattle.px_lex.specs.declared.sign.Sign.TheVariants as signs
use Rattle.px_lex.specs.declared.token.Token.{Token}
use Rattle.px_lex.specs.declared.token.TokenKind.TheVariants as kinds
use Rattle.px_syntax.specs.declared.fault.ParseFault.{ParseFault}
use Rattle.px_syntax.specs.declared.fault.ParseFault.TheVariants as faults
use Rattle.std.specs.Option.{option_map, option_and_then}
use Rattle.px_syntax.specs.Expr.{Term, Terms, NoTerms, More, in_turn}
use Rattle.px_syntax.specs.ExprGrammar.{expression, arguments}
use Rattle.px_syntax.specs.Operator.{unary_of}
use Rattle.px_expr_parse.specs.declared.opening.Opening.{Opening}
use Rattle.px_expr_parse.specs.declared.opening.Opening.TheVariants as openings
use Rattle.px_expr_parse.specs.Opening.{opening_of, Begins}
use Rattle.px_expr_parse.specs.Tail.{closed_arguments}
use Rattle.px_expr_parse.specs.Verdict.{Agree, AgreeBefore, GoesOn, IsLongest, IsRead, IsRefused, IsFound, IsMissing, HasSign, LacksSign}
use Rattle.px_expr_parse.proofs.Chains.{spine}
use Rattle.px_expr_parse.proofs.Closed.{closer_ends, not_both}
use Rattle.px_expr_parse.proofs.Completions.{before, begun_as, begun_before, begun_here, moved, short_token}
use Rattle.px_expr_parse.proofs.Openings.{rest_of}
use Rattle.px_expr_parse.proofs.Parts.{agree_before}
use Rattle.px_expr_parse.proofs.Spans.{local_expression}

-- arguments in front of others
abbrev pub in_front : List Term → Terms → Terms
in_front [] rest = rest
in_front (term ∷ terms) rest = More term (in_front terms rest)

pub in_front_push :
    (terms : List Term) (term : Term) (rest : Terms)
    → in_front (terms ++ term ∷ []) rest ≡ in_front terms (More term rest)
in_front_push [] term rest = refl
in_front_push (first ∷ terms) term rest = ap (λ (x : Terms). More first x) (in_front_push terms term rest)

pub in_turn_push :
    (terms : List Term) (term : Term) → in_turn (terms ++ term ∷ []) ≡ in_front terms (More term NoTerms)
in_turn_push [] term = refl
in_turn_push (first ∷ terms) term = ap (λ (x : Terms). More first x) (in_turn_push terms term)

-- what stands behind an argument: the parenthesis, or a comma and more
abbrev pub NextArgument : List Token → ℕ → Terms → ℕ → Type 0
NextArgument tokens place NoTerms end = HasSign tokens place signs.CloseParen × (end ≡ place + 1)
NextArgument tokens place (More first rest) end =
    HasSign tokens place signs.Comma × closed_arguments (More first rest) tokens (place + 1) end

-- the first of arguments is an expression, and this stands behind it
pub first_argument :
    (tokens : List Token) (at : ℕ) (first : Term) (rest : Terms) (end : ℕ)
    → closed_arguments (More first rest) tokens at end
    → (middle : ℕ) × expression first tokens at middle × NextArgument tokens middle rest end
first_argument tokens at first NoTerms end o =
    let is : o.0 ≡ o.1.0 = o.1.2 in
    (o.1.0, o.1.1, (subst (λ (place : ℕ). HasSign tokens place signs.CloseParen) is o.2.0, omega (arith, is, o.2.1)))
first_argument tokens at first (More second rest) end o =
    let further = o.1.2 in (
      o.1.0,
      o.1.1,
      (
        further.1.0,
        (
          o.0,
          subst (λ (place : ℕ). arguments (More second rest) tokens place o.0) further.1.1 (further.2.0, further.2.1, further.2.2),
          o.2,
        ),
      ),
    )

pub with_first_argument :
    (tokens : List Token) (at : ℕ) (first : Term) (rest : Terms) (middle end : ℕ)
    → expression first tokens at middle → NextArgument tokens middle rest end
    → closed_arguments (More first rest) tokens at end
with_first_argument tokens at first NoTerms middle end o next = (middle, (middle, o, refl), next)
with_first_argument tokens at first (More second rest) middle end o next =
    let more = next.1 in
    (more.0, (middle, o, (middle + 1, (next.0, refl), (more.1.0, more.1.1, more.1.2))), more.2)

-- no expression goes on with what stands behind an argument
ends_argument :
    (tokens : List Token) (place : ℕ) (rest : Terms) (end : ℕ) → NextArgument tokens place rest end
    → GoesOn 0 tokens place → ⊥
ends_argument tokens place NoTerms end next = closer_ends tokens place signs.CloseParen refl next.0
ends_argument tokens place (More first rest) end next = closer_ends tokens place signs.Comma refl next.0

-- so where the first is read, it is that one
pub is_first_argument :
    (tokens : List Token) (at : ℕ) (tree : Term) (to : ℕ) → IsLongest 0 tokens at tree to
    → (first : Term) (rest : Terms) (end : ℕ) → closed_arguments (More first rest) tokens at end
    → (first ≡ tree) × NextArgument tokens to rest end
is_first_argument tokens at tree to longest first rest end o =
    let f = first_argument tokens at first rest end o in
    elim (longest.only first f.0 f.1) [
      | inl same ↦ (same.0, subst (λ (place : ℕ). NextArgument tokens place rest end) same.1 f.2)
      | inr ends ↦ absurd (ends_argument tokens f.0 rest end f.2 ends.1)
    ]

-- Arguments so far, behind each of which a comma stands: all arguments are these and at least one more.
pub record HasArguments (tokens : List Token) (from : ℕ) (so_far : List Term) (at : ℕ) : Type 0 where
  pub advances : from ≤ at
  pub within : at ≤ length tokens
  pub spells :
      (others : List Token) → AgreeBefore tokens others at
      → (first : Term) (rest : Terms) (end : ℕ) → closed_arguments (More first rest) others at end
      → closed_arguments (in_front so_far (More first rest)) others from end
  pub only :
      (others : List Token) → Agree tokens others at → (other : Terms) (end : ℕ) → closed_arguments other others from end
      → (first : Term) × (rest : Terms) × (other ≡ in_front so_far (More first rest))
      × closed_arguments (More first rest) others at end

pub no_arguments :
    (tokens : List Token) (from : ℕ) → from ≤ length tokens → (HasSign tokens from signs.CloseParen → ⊥)
    → HasArguments tokens from [] from
no_arguments tokens from within lacks =
    record {
      advances = omega arith;
      within = within;
      spells = λ others agree first rest end o. o;
      only = only;
    }
  where
    only :
        (others : List Token) → Agree tokens others from → (other : Terms) (end : ℕ) → closed_arguments other others from end
        → (first : Term) × (rest : Terms) × (other ≡ More first rest) × closed_arguments (More first rest) others from end
    only others agree NoTerms end o =
        absurd (lacks (sym (agree from (omega arith))
        ∙ subst (λ (place : ℕ). HasSign others place signs.CloseParen) o.1 o.2.0))
    only others agree (More first rest) end o = (first, rest, refl, o)

module _ {tokens : List Token} {from : ℕ} {so_far : List Term} {at : ℕ} (begun : HasArguments tokens from so_far at) where
  pub refuse_argument :
      (fault : ParseFault) → IsRefused 0 tokens at fault → IsMissing closed_arguments tokens from fault
  refuse_argument (faults.SyntaxFault token) g = (
    omega (arith, begun.advances, g.0),
    g.1,
    λ others agree other end o.
        let s = begun.only others (agree_before tokens others at token g.0 agree) other end o in
        let f = first_argument others at s.0 s.1 end s.3 in
        ends_argument others f.0 s.1 end f.2 (g.2 others agree s.0 f.0 f.1).1,
    begun_before (short_token (kinds.Sign signs.CloseParen)) g.3 (λ others agree middle end tree none o close. (
      in_front so_far (More tree NoTerms),
      begun.spells others (before tokens others at token g.0 agree) tree NoTerms end (with_first_argument others at tree NoTerms middle end o close),
    )),
  )
  refuse_argument (faults.Deep token) g = g
  refuse_argument faults.NoMemory g = g

  module _ {tree : Term} {to : ℕ} (read : IsRead 0 tokens at tree to) where
    -- what all arguments are, where this is the next one
    abbrev Nexts : List Token → Terms → ℕ → Type 0
    Nexts others other end = (rest : Terms) × (other ≡ in_front so_far (More tree rest)) × NextArgument others to rest end

    nexts :
        (others : List Token) → Agree tokens others to → (other : Terms) (end : ℕ) → closed_arguments other others from end
        → Nexts others other end
    nexts others agree other end o =
        let s = begun.only others (agree_before tokens others at to (omega (arith, read.advances)) agree) other end o in
        let is = is_first_argument others at tree to (read.longest others agree) s.0 s.1 end s.3 in
        (s.1, s.2 ∙ ap (λ (first : Term). in_front so_far (More first s.1)) is.0, is.1)

    -- the argument stands in other tokens, and more behind it
    spells_on :
        (others : List Token) → AgreeBefore tokens others to → (rest : Terms) (end : ℕ) → NextArgument others to rest end
        → closed_arguments (in_front so_far (More tree rest)) others from end
    spells_on others agree rest end next =
        begun.spells others (before tokens others at to (omega (arith, read.advances)) agree) tree rest end
        (with_first_argument others at tree rest to end
        (moved tokens (local_expression tree) (λ others agree. (read.longest others agree).spelled) others agree) next)

    -- a comma: there are more
    pub one_more_argument :
        to < length tokens → HasSign tokens to signs.Comma
        → HasArguments tokens from (so_far ++ tree ∷ []) (to + 1)
    one_more_argument inside comma =
        record {
          advances = omega (arith, begun.advances, read.advances);
          within = omega (arith, inside);
          spells = λ others agree first rest end o.
              subst (λ (all : Terms). closed_arguments all others from end)
              (sym (in_front_push so_far tree (More first rest)))
              (spells_on others (before tokens others to (to + 1) (omega arith) agree) (More first rest) end (agree to (omega arith) ∙ comma, o));
          only = λ others agree other end o.
              let agree_to = agree_before tokens others to (to + 1) (omega arith) agree in
              more others (agree_to to (omega arith) ∙ comma) other end (nexts others agree_to other end o);
        }
      where
        more :
            (others : List Token) → HasSign others to signs.Comma → (other : Terms) (end : ℕ) → Nexts others other end
            → (first : Term) × (rest : Terms) × (other ≡ in_front (so_far ++ tree ∷ []) (More first rest))
            × closed_arguments (More first rest) others (to + 1) end
        more others there other end (NoTerms, is, next) = absurd (not_both others to signs.CloseParen signs.Comma (λ e. cc) next.0 there)
        more others there other end (More first rest, is, next) =
            (first, rest, is ∙ sym (in_front_push so_far tree (More first rest)), next.1)

    -- the parenthesis: that was all
    pub last_argument :
        to < length tokens → HasSign tokens to signs.CloseParen
        → IsFound closed_arguments tokens from (in_turn (so_far ++ tree ∷ [])) (to + 1)
    last_argument inside paren =
        record {
          advances = omega (arith, begun.advances, read.advances);
          within = omega (arith, inside);
          only = λ others agree.
              let agree_to = agree_before tokens others to (to + 1) (omega arith) agree in
              let there : HasSign others to signs.CloseParen = agree_to to (omega arith) ∙ paren in
              record {
                spelled =
                    subst (λ (all : Terms). closed_arguments all others from (to + 1)) (sym (in_turn_push so_far tree))
                    (spells_on others (λ place inside. agree_to place (omega (arith, inside))) NoTerms (to + 1) (there, refl));
                only = λ other end o. all others there other end (nexts others agree_to other end o);
              };
        }
      where
        all :
            (others : List Token) → HasSign others to signs.CloseParen → (other : Terms) (end : ℕ) → Nexts others other end
            → (other ≡ in_turn (so_far ++ tree ∷ [])) × (end ≡ to + 1)
        all others there other end (NoTerms, is, next) = (is ∙ sym (in_turn_push so_far tree), next.1)
        all others there other end (More first rest, is, next) = absurd (not_both others to signs.CloseParen signs.Comma (λ e. cc) there next.0)

    -- neither
    pub missing_last :
        (fault : ParseFault) → (HasSign tokens to signs.Comma → ⊥) → LacksSign tokens to signs.CloseParen fault
        → IsMissing closed_arguments tokens from fault
    missing_last fault no_comma lacks =
        subst (λ (g : ParseFault). IsMissing closed_arguments tokens from g) (sym lacks.0) (
          omega (arith, begun.advances, read.advances),
          read.within,
          λ others agree other end o.
              none others agree other end (nexts others agree other end o),
          begun_as (begun_here (short_token (kinds.Sign signs.CloseParen))) (λ others agree end none close. (in_front so_far (More tree NoTerms), spells_on others agree NoTerms end close)),
        )
      where
        none : (others : List Token) → Agree tokens others to → (other : Terms) (end : ℕ) → Nexts others other end → ⊥
        none others agree other end (NoTerms, is, next) = lacks.1 (sym (agree to (omega arith)) ∙ next.0)
        none others agree other end (More first rest, is, next) = no_comma (sym (agree to (omega arith)) ∙ next.0)

-- a sign with which no expression begins
abbrev BeginsNone : Sign → Type 0
BeginsNone which = (opening_of (kinds.Sign which) ≡ openings.Nothing) × (unary_of (kinds.Sign which) ≡ None)

closing_begins_none : BeginsNone signs.CloseParen
unfolding opening_of unary_of
closing_begins_none = (refl, refl)

colon_begins_none : BeginsNone signs.Colon
unfolding opening_of unary_of
colon_begins_none = (refl, refl)

no_expression :
    (which : Sign) → BeginsNone which → (tokens : List Token) (from : ℕ) → HasSign tokens from which → (tree : Term) (end : ℕ)
    → expression tree tokens from end → ⊥
no_expression which none tokens from there tree end o =
    let begins : Begins tokens from openings.Nothing =
    record {
      opens = ap (option_map opening_of) there ∙ ap (λ (opening : Opening). Some opening) none.0;
      no_operator = ap (option_and_then unary_of) there ∙ none.1;
    } in
    let s = spine from tree 0 end o in
    rest_of tokens from openings.Nothing begins s.first s.middle s.stands

pub no_colon :
    (tokens : List Token) (from : ℕ) → HasSign tokens from signs.Colon → (tree : Term) (end : ℕ)
    → expression tree tokens from end → ⊥
no_colon = no_expression signs.Colon colon_begins_none

-- nothing but the parenthesis
pub found_none :
    (tokens : List Token) (from : ℕ) → from < length tokens → HasSign tokens from signs.CloseParen
    → IsFound closed_arguments tokens from NoTerms (from + 1)
found_none tokens from inside paren =
    record {
      advances = omega arith;
      within = omega (arith, inside);
      only = λ others agree.
          let there : HasSign others from signs.CloseParen = agree from (omega arith) ∙ paren in
          record { spelled = (from, refl, (there, refl)); only = only others there };
    }
  where
    only :
        (others : List Token) → HasSign others from signs.CloseParen → (other : Terms) (end : ℕ)
        → closed_arguments other others from end → (other ≡ NoTerms) × (end ≡ from + 1)
    only others there NoTerms end o = (refl, omega (arith, o.1, o.2.1))
    only others there (More first rest) end o =
        let f = first_argument others from first rest end o in
        absurd (no_expression signs.CloseParen closing_begins_none others from there first f.0 f.1)
