-- The conditions of a node: which are given, and the defaults of the others.
use Rattle.std.specs.Prelude.{ℕ, List, Option, None, unwrap_or}
use Rattle.px_core.specs.declared.node.Kind.{Kind}
use Rattle.px_core.specs.Defaults.{default_conditions}
use Rattle.px_core.specs.Expr.{Term}
use Rattle.px_core.specs.Plan.{ConditionTerms}

-- of each condition the term that is given, if one is
pub record Given : Type 0 where
  pub start : Option Term
  pub end : Option Term
  pub exit : Option Term
  pub skip : Option Term
  pub repeat : Option Term
  pub pre : Option Term
  pub post : Option Term
  pub invariant : Option Term

abbrev pub none_given : Given
none_given = record {
  start = None;
  end = None;
  exit = None;
  skip = None;
  repeat = None;
  pre = None;
  post = None;
  invariant = None;
}

-- a default where nothing is given
abbrev pub filled : Given → ConditionTerms → ConditionTerms
filled given default = record {
  start = unwrap_or given.start default.start;
  end = unwrap_or given.end default.end;
  exit = unwrap_or given.exit default.exit;
  skip = unwrap_or given.skip default.skip;
  repeat = unwrap_or given.repeat default.repeat;
  pre = unwrap_or given.pre default.pre;
  post = unwrap_or given.post default.post;
  invariant = unwrap_or given.invariant default.invariant;
}

-- the conditions of a node of this kind at this path, with children at these
abbrev pub conditions : Kind → List ℕ → List (List ℕ) → Given → ConditionTerms
conditions kind path children given = filled given (default_conditions kind path children)
