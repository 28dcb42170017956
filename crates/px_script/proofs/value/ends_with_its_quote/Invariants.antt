use Rattle.std.proofs.Common.{◌≡◌, List, ℕ, Some, length}
use Rattle.px_lex.specs.String.{read_string}
use Rattle.px_script.specs.declared.place.Quoting.TheVariants.{Outside}
use Rattle.px_script.proofs.Quotes.{read_behind}
use Rattle.px_script.proofs.value.ends_with_its_quote.Given as goal

-- where the whole is read as a string, what is left of it is
abbrev pub invariant-loop-rest : goal.invariant-loop-rest
invariant-loop-rest l = record {
  within : l.quoting ≡ Outside → ⊥;
  left : (content behind : List ℕ) → read_string l.bytes ≡ Some (content, behind) → (more : List ℕ) × (read_behind l.quoting l.rest ≡ Some (more, behind));
}

abbrev pub decreases-loop-rest : goal.decreases-loop-rest
decreases-loop-rest l = length l.rest
