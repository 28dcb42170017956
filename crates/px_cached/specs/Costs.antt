-- What a touched source costs: at how many parts of conditions is looked.
use Rattle.std.specs.Prelude.{ℕ, ◌+◌, ◌*◌, Bool, true, false, List, length, map, sum, sum_by, if◌then◌else◌}
use Rattle.std.specs.List.{range_with_len}
use Rattle.px_core.specs.declared.expr.BinaryOp.{BinaryOp}
use Rattle.px_core.specs.declared.expr.BinaryOp.TheVariants as operators
use Rattle.px_core.specs.declared.expr.UnaryOp.{UnaryOp}
use Rattle.px_core.specs.declared.expr.UnaryOp.TheVariants.{Not}
use Rattle.px_core.specs.Plan.{Site}
use Rattle.px_flat.specs.Numbered.{Numbered, Unary, Binary}
use Rattle.px_flat.specs.Sources.{sources_in}
use Rattle.px_links.specs.Links.{LinksData}
use Rattle.px_links.specs.Lists.{nth}
use Rattle.px_listen.specs.Listening.{ListenData, dependents_of}
use Rattle.px_cached.specs.Conditions.{condition_at, has_source}

-- whether both sides of the operation are parts of their own
abbrev pub joins : BinaryOp → Bool
joins operators.And = true
joins operators.Or = true
joins op = false

-- whether the operation makes a negated `||`, which joins the two sides too
abbrev pub makes_nor : UnaryOp → Numbered → Bool
makes_nor Not (Binary operators.Or left right) = true
makes_nor op arg = false

-- what is evaluated whole costs so many looks where it reads the source
abbrev pub whole_cost : List Site → ℕ → ℕ → Numbered → ℕ
whole_cost plan source looks expr = if has_source plan source (sources_in plan expr) then looks else 0

-- Where from an expression up to its whole condition there are so many parts: each part of it that is evaluated whole and
-- reads the source costs one look, and one for each part above.
abbrev pub cost_in : List Site → ℕ → ℕ → Numbered → ℕ
cost_in plan source looks (Binary op left right) =
    if joins op then cost_in plan source (looks + 1) left + cost_in plan source (looks + 1) right
    else whole_cost plan source looks (Binary op left right)
cost_in plan source looks (Unary op arg) =
    if makes_nor op arg then cost_in plan source looks arg else whole_cost plan source looks (Unary op arg)
cost_in plan source looks expr = whole_cost plan source looks expr

-- the same where each part is to be looked at, also those that are made of two
abbrev pub full_cost_in : ℕ → Numbered → ℕ
full_cost_in looks (Binary op left right) =
    looks + (if joins op then full_cost_in (looks + 1) left + full_cost_in (looks + 1) right else 0)
full_cost_in looks (Unary op arg) = if makes_nor op arg then full_cost_in looks arg else looks
full_cost_in looks expr = looks

-- the numbers below this one together
abbrev pub up_to : (ℕ → ℕ) → ℕ → ℕ
up_to f count = sum (map f (range_with_len 0 count))

-- so much the conditions of all nodes cost together
abbrev pub in_conditions : List Site → (Numbered → ℕ) → ℕ
in_conditions plan cost = up_to (λ number. cost (condition_at plan number)) (8 * length plan)

-- a source, by its number
abbrev pub cost : List Site → ℕ → ℕ
cost plan source = in_conditions plan (cost_in plan source 1)

-- all parts
abbrev pub full_cost : List Site → ℕ
full_cost plan = in_conditions plan (full_cost_in 1)

-- what all that is noted costs, by what each costs
abbrev pub in_all : (ℕ → ℕ) → LinksData → ℕ
in_all cost noted = sum_by cost (nth noted.lists 0)

-- and all that depends on a source
abbrev pub source_cost : ListenData → (ℕ → ℕ) → ℕ → ℕ
source_cost listeners cost source = sum_by cost (dependents_of listeners source)
