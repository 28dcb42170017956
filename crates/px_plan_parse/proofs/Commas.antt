-- Parts with commas between them, up to a sign that closes them.
use Rattle.std.proofs.Common.{◌≡◌, ℕ, ◌+◌, ◌<◌, refl, sym, ap, subst, ◌∙◌, List, [], ◌∷◌, ◌++◌, length, arith}
use Rattle.px_lex.specs.declared.sign.Sign.{Sign}
use Rattle.px_lex.specs.declared.sign.Sign.TheVariants as signs
use Rattle.px_lex.specs.declared.token.Token.{Token}
use Rattle.px_lex.specs.declared.token.TokenKind.TheVariants as kinds
use Rattle.px_syntax.specs.declared.fault.ParseFault.{ParseFault}
use Rattle.px_syntax.specs.Form.{Form, each, with_commas}
use Rattle.px_expr_parse.specs.Verdict.{Agree}
use Rattle.px_plan_parse.specs.Part.{Follow, Anything, IsPart, IsLacking}
use Rattle.px_plan_parse.specs.Tail.{Only}
use Rattle.px_expr_parse.proofs.Completions.{short_nothing}
use Rattle.px_expr_parse.proofs.Spans.{IsLocal, local_sign, local_then, local_never}
use Rattle.px_plan_parse.proofs.Parts.{IsFront, Begins, HasKind, Joins, LacksKind, Makes, Splits, behind, before, both, each_begins, front_ends, front_lacks, front_more, joins_both, lack_before, lack_behind, lack_first, lack_joined, lack_made, lack_token, local_each, makes_by, part_before, part_behind, part_joined, part_made}

abbrev pub further : {A : Type 0} → (A → Form) → A → Form
further form = behind (kinds.Sign signs.Comma) form

local_further : {A : Type 0} {form : A → Form} → ((part : A) → IsLocal (form part)) → (part : A) → IsLocal (further form part)
local_further local part = local_then (local_sign signs.Comma) (local part)

pub local_commas : {A : Type 0} {form : A → Form} → ((part : A) → IsLocal (form part)) → (parts : List A) → IsLocal (with_commas form parts)
local_commas local [] = local_never
local_commas local (first ∷ rest) = local_then (local first) (local_each (local_further local) rest)

-- one part or more up to a place, where more may stand
pub record HasCommas {A : Type 0} (form : A → Form) (Next Last : Follow) (tokens : List Token) (from : ℕ) (done : List A) (at : ℕ) : Type 0 where
  pub first : A
  pub others : List A
  pub middle : ℕ
  pub are : done ≡ first ∷ others
  pub begun : IsPart form Next tokens from first middle
  pub front : IsFront (further form) Last tokens middle others at

abbrev pub closed_commas : {A : Type 0} → (A → Form) → Sign → List A → Form
closed_commas form close = before (with_commas form) (kinds.Sign close)

-- parts that commas separate and a sign closes
pub record Separates {A : Type 0} (form : A → Form) (Next : Follow) (close : Sign) : Type 0 where
  pub no_comma : close ≡ signs.Comma → ⊥
  pub comma_follows : (others : List Token) (place : ℕ) → HasKind others place (kinds.Sign signs.Comma) → Next others place
  pub close_follows : (others : List Token) (place : ℕ) → HasKind others place (kinds.Sign close) → Next others place
  pub local : (part : A) → IsLocal (form part)

module _ {A : Type 0} {form : A → Form} {Next : Follow} {close : Sign} (separates : Separates form Next close) where
  rest_begins : Begins (each (further form)) (Only close) Next
  rest_begins =
      each_begins {form = further form} {Next = Next} {Last = Only close} (λ others other place end o. separates.comma_follows others place o.1.0)
      separates.close_follows

module _ {A : Type 0} {form : A → Form} {Next : Follow} {close : Sign} (separates : Separates form Next close) {tokens : List Token} {from : ℕ} where
  as_pair : Makes (with_commas form) (both form (each (further form))) (λ (parts : A × List A). parts.0 ∷ parts.1) tokens from
  as_pair = makes_by (λ others part end o. o) (λ others same. split others)
    where
      split : (others : List Token) → Splits (with_commas form) (both form (each (further form))) (λ (parts : A × List A). parts.0 ∷ parts.1) others from
      split others [] end o = absurd o
      split others (first ∷ rest) end o = ((first, rest), refl, o)

  pub commas_lack_first : {fault : ParseFault} → IsLacking form Next tokens from fault → IsLacking (closed_commas form close) Anything tokens from fault
  commas_lack_first f = lack_before (λ others place has. has) (lack_made as_pair (lack_first (rest_begins separates) (short_nothing (λ others place. ([], refl))) f))

  module _ {done : List A} {at : ℕ} (so_far : HasCommas form Next (Only close) tokens from done at) where
    -- the first, and those behind it
    joins_first : Joins (both form (each (further form))) (each (further form)) (λ (rest : List A). (so_far.first, rest)) (Only close) (Only close) tokens from so_far.middle
    joins_first = joins_both (rest_begins separates) (separates.local so_far.first) so_far.begun

    goes_on : HasKind tokens at (kinds.Sign signs.Comma) → (others : List Token) → Agree tokens others at → Only close others at → ⊥
    goes_on comma others agree closes =
        let there : HasKind others at (kinds.Sign signs.Comma) = agree at (omega arith) ∙ comma in
        separates.no_comma (let e : close ≡ signs.Comma = cc in e)

    pub commas_more :
        {part : A} {to : ℕ} → HasKind tokens at (kinds.Sign signs.Comma) → IsPart form Next tokens (at + 1) part to
        → HasCommas form Next (Only close) tokens from (done ++ part ∷ []) to
    commas_more {part = part} {to = to} comma f =
        record {
          first = so_far.first;
          others = so_far.others ++ part ∷ [];
          middle = so_far.middle;
          are = ap (λ (all : List A). all ++ part ∷ []) so_far.are;
          begun = so_far.begun;
          front =
              front_more so_far.front (λ others other place end o. separates.comma_follows others place o.1.0) separates.close_follows (goes_on comma)
              (part_behind comma f);
        }

    pub commas_lack :
        {fault : ParseFault} → HasKind tokens at (kinds.Sign signs.Comma)
        → IsLacking form Next tokens (at + 1) fault → IsLacking (closed_commas form close) Anything tokens from fault
    commas_lack comma f =
        lack_before (λ others place has. has)
        (lack_made as_pair (lack_joined joins_first
        (front_lacks so_far.front (λ others other place end o. separates.comma_follows others place o.1.0) separates.close_follows (goes_on comma)
        (local_further separates.local) (lack_behind comma f))))

    module _ (none : HasKind tokens at (kinds.Sign signs.Comma) → ⊥) where
      all_read : IsPart (with_commas form) (Only close) tokens from done at
      all_read =
          subst (λ (all : List A). IsPart (with_commas form) (Only close) tokens from all at) (sym so_far.are)
          (part_made as_pair (part_joined joins_first
          (front_ends so_far.front (λ others agree part end o. none (sym (agree at (omega arith)) ∙ o.1.0)))))

      pub commas_end :
          at < length tokens → HasKind tokens at (kinds.Sign close) → IsPart (closed_commas form close) Anything tokens from done (at + 1)
      commas_end inside has = part_before (λ others place is. is) (local_commas separates.local done) inside all_read has

      pub commas_lack_close :
          {fault : ParseFault} → LacksKind tokens at (kinds.Sign close) fault → IsLacking (closed_commas form close) Anything tokens from fault
      commas_lack_close lacks = lack_token (λ others place is. is) (local_commas separates.local done) all_read lacks
