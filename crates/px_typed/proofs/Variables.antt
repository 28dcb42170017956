-- What the variables of a node hold after a step and after a write: as many cells as they declare, each of its type.
use Rattle.std.proofs.Common.{◌≡◌, ℕ, zero, ◌-◌, Bool, true, false, List, [], ◌∷◌, length, map, replicate, slice_index_or, Option, Some, None, refl, ◌∙◌, subst, arith, if◌then◌else◌}
use Rattle.std.specs.List.{All, zip}
use Rattle.std.specs.Option.{ForSome, unwrap_or}
use Rattle.std.proofs.lemmas.List.{length-append, length-replicate, length-set}
use Rattle.std.proofs.lemmas.List.Elements.{All-set, All-replicate, All-append, All-tail}
use Rattle.px_value.specs.declared.value.Value.{Value}
use Rattle.px_value.specs.declared.value.Value.TheVariants as values
use Rattle.px_core.specs.declared.variable.VarKind.{VarKind}
use Rattle.px_core.specs.Fit.{cells_of}
use Rattle.px_core.specs.Plan.{VariableData, is_same}
use Rattle.px_sem.specs.World.{of_variable, variable_among}
use Rattle.px_sem.specs.Effects.{Write, initial_values, written, cell_of}
use Rattle.px_typed.specs.Typing.{Suits, HasCells, HasInitials}
use Rattle.px_typed.proofs.Effects.{unknown_suits}

-- what the variable of a name holds, among these
abbrev pub held_by : List VariableData → List ℕ → List (List Value) → List Value
held_by variables name held = unwrap_or (of_variable name variables held) []

-- the variable of a name has its cells
abbrev pub HoldsSuiting : List VariableData → List ℕ → List (List Value) → Type 0
HoldsSuiting variables name held =
    ForSome (variable_among variables name) (λ variable. HasCells variable (held_by variables name held))

-- ---- values given anew

pub given_suit : (give : VariableData → List Value) (variables : List VariableData) (name : List ℕ)
    → All (λ variable. HasCells variable (give variable)) variables
    → HoldsSuiting variables name (map give variables)
given_suit give [] name suit variable is = absurd (cc)
given_suit give (first ∷ variables) name suit variable is =
    by (is_same first.name name) is
    (given_suit give variables name (All-tail (λ v. HasCells v (give v)) first variables suit))
  where
    by : (b : Bool) → (if b then Some first else variable_among variables name) ≡ Some variable
        → HoldsSuiting variables name (map give variables)
        → HasCells variable
        (unwrap_or (if b then Some (give first) else of_variable name variables (map give variables)) [])
    by true is others =
        let same : first ≡ variable = cc in
        subst (λ v. HasCells v (give first)) same (suit zero first (omega arith))
    by false is others = others variable is

unknowns_suit : (kind : VarKind) (count : ℕ) → All (Suits kind) (replicate count values.Unknown)
unknowns_suit kind count = All-replicate (Suits kind) count values.Unknown (unknown_suits kind)

-- the values before the start
pub unknown_values_suit : (variables : List VariableData) (name : List ℕ)
    → HoldsSuiting variables name (map (λ variable. replicate (cells_of variable) values.Unknown) variables)
unknown_values_suit variables name =
    given_suit (λ variable. replicate (cells_of variable) values.Unknown) variables name
    (λ k d within. record {
      count = length-replicate (cells_of (slice_index_or variables k d)) values.Unknown;
      suit = unknowns_suit (slice_index_or variables k d).kind (cells_of (slice_index_or variables k d));
    })

-- the initial values
pub initial_values_suit : (variables : List VariableData) (name : List ℕ)
    → All HasInitials variables → HoldsSuiting variables name (map initial_values variables)
initial_values_suit variables name init =
    given_suit initial_values variables name (λ k d within. own (slice_index_or variables k d) (init k d within))
  where
    own : (variable : VariableData) → HasInitials variable → HasCells variable (initial_values variable)
    own variable has =
        let more = cells_of variable - length variable.init in record {
          count = omega (arith, has.few, length-append variable.init (replicate more values.Unknown), length-replicate more values.Unknown);
          suit = All-append (Suits variable.kind) variable.init (replicate more values.Unknown) has.suit (unknowns_suit variable.kind more);
        }

-- ---- values that are changed

-- a change of what a variable holds leaves its cells, of its type
abbrev pub Keeps : (VariableData × List Value → List Value) → VariableData → Type 0
Keeps change variable =
    (cells : List Value) → HasCells variable cells → HasCells variable (change (variable, cells))

pub changed_suit : (change : VariableData × List Value → List Value) (variables : List VariableData)
    (held : List (List Value)) (name : List ℕ) → HoldsSuiting variables name held
    → ForSome (variable_among variables name) (Keeps change) → HoldsSuiting variables name (map change (zip variables held))
changed_suit change [] held name before keeps variable is = absurd (cc)
changed_suit change (first ∷ variables) [] name before keeps variable is = before variable is
changed_suit change (first ∷ variables) (cells ∷ held) name before keeps variable is =
    by (is_same first.name name) is before keeps (changed_suit change variables held name)
  where
    by : (b : Bool) → (if b then Some first else variable_among variables name) ≡ Some variable
        → ForSome (if b then Some first else variable_among variables name)
        (λ v. HasCells v (unwrap_or (if b then Some cells else of_variable name variables held) []))
        → ForSome (if b then Some first else variable_among variables name) (Keeps change)
        → (HoldsSuiting variables name held → ForSome (variable_among variables name) (Keeps change)
        → HoldsSuiting variables name (map change (zip variables held)))
        → HasCells variable
        (unwrap_or (if b then Some (change (first, cells)) else of_variable name variables (map change (zip variables held))) [])
    by true is before keeps others =
        let same : first ≡ variable = cc in
        subst (λ v. HasCells v (change (first, cells))) same (keeps first refl cells (before first refl))
    by false is before keeps others = others before keeps variable is

-- a write of a value of the type keeps it
pub written_suits : (variable : VariableData) (cells : List Value) (write : Option Write) → HasCells variable cells
    → ForSome write (λ w. Suits variable.kind w.value) → HasCells variable (written cells write)
written_suits variable cells None has suits = has
written_suits variable cells (Some write) has suits = record {
  count = length-set cells (cell_of write.place) write.value ∙ has.count;
  suit = All-set (Suits variable.kind) cells (cell_of write.place) write.value (suits write refl) has.suit;
}
