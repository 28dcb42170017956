-- What a node writes, and what it keeps, is of the type of the variable that it is written to.
use Rattle.std.proofs.Common.{◌≡◌, ℕ, Bool, true, List, Option, Some, None, refl, subst}
use Rattle.std.specs.Option.{ForSome, option_map_or}
use Rattle.px_value.specs.declared.value.Value.{Value}
use Rattle.px_value.specs.declared.value.Value.TheVariants as values
use Rattle.px_value.proofs.General.{read_anywhere}
use Rattle.px_core.specs.declared.variable.VarKind.{VarKind}
use Rattle.px_core.specs.declared.variable.VarKind.TheVariants as kinds
use Rattle.px_core.specs.Expr.{Term}
use Rattle.px_core.specs.Plan.{Site, VariableData, TargetData, BodyData, Nothing, Assign, Command, Update}
use Rattle.px_sem.specs.declared.guards.Arrival.{Arrival}
use Rattle.px_sem.specs.Expressions.{value}
use Rattle.px_value.specs.declared.enums.Handle.{Handle}
use Rattle.px_sem.specs.World.{World, NodeRecord, Abort, Action, NoAction, Assigned, Commanded, Updated, Place, record_at, variable_at, cells_at}
use Rattle.px_sem.specs.Effects.{assigns_at, MoveKind, Initializes, Resets, Starts, Fails, Other, move_kind, as_kind, Write, write_at, cell_of, place_of, Effects, silent, writes_back, row_of, effects_of}
use Rattle.px_typed.specs.Typing.{suits, Suits, CellsSuit, KeptSuits}

-- a write is of its variable's type, or UNKNOWN
abbrev pub WriteSuits : List Site → Write → Type 0
WriteSuits plan write = ForSome (variable_at plan write.owner write.name) (λ variable. Suits variable.kind write.value)

pub as_kind_suits : (kind : VarKind) (value : Value) → suits kind (as_kind kind value) ≡ true
as_kind_suits kinds.Boolean (values.Boolean truth) = refl
as_kind_suits kinds.Integer (values.Integer number) = refl
as_kind_suits kinds.Text (values.Text text) = refl
as_kind_suits kind value = refl

-- ---- writes

abbrev WritesSuit : List Site → Effects → Type 0
WritesSuit plan made = (write : Write) → made.write ≡ Some write → WriteSuits plan write

silent_suits : (plan : List Site) (under_way : Action) → WritesSuit plan (silent under_way)
silent_suits plan under_way = λ write is. absurd (cc)

taken_suits : (given : Value) (declared : Option VariableData)
    → ForSome declared (λ variable. Suits variable.kind (option_map_or (λ declared. as_kind declared.kind given) declared values.Unknown))
taken_suits given None variable is = absurd (cc)
taken_suits given (Some declared) variable is =
    let same : declared ≡ variable = cc in
    subst (λ v. Suits v.kind (as_kind declared.kind given)) same (as_kind_suits declared.kind given)

pub write_at_suits : (plan : List Site) (target : TargetData) (given : Value) (place : Place)
    → WriteSuits plan (write_at plan target given place)
write_at_suits plan target given place = taken_suits given (variable_at plan target.owner target.name)

assigned_suits : (plan : List Site) (world : World) (target : TargetData) (right : Term) (place : Option Place)
    → WritesSuit plan (assigns_at plan world target right place)
assigned_suits plan world target right None = λ write is. absurd (cc)
assigned_suits plan world target right (Some place) = λ write is.
    let same : write_at plan target (value plan world right) place ≡ write = cc in
    subst (WriteSuits plan) same (write_at_suits plan target (value plan world right) place)

back_suits : (plan : List Site) (target : TargetData) (right : Term) (under_way : Action)
    → KeptSuits plan (Assign target right) under_way → WritesSuit plan (writes_back target under_way)
back_suits plan target right (Assigned (Some kept)) keeps = λ write is.
    let back : Write = record { owner = target.owner; name = target.name; place = kept.place; value = kept.old } in
    let same : back ≡ write = cc in
    subst (WriteSuits plan) same keeps
back_suits plan target right NoAction keeps = silent_suits plan NoAction
back_suits plan target right (Assigned None) keeps = silent_suits plan (Assigned None)
back_suits plan target right (Commanded index handle abort) keeps = silent_suits plan (Commanded index handle abort)
back_suits plan target right (Updated acknowledged) keeps = silent_suits plan (Updated acknowledged)

row_suits : (plan : List Site) (world : World) (old : NodeRecord) (move : MoveKind) (body : BodyData)
    → KeptSuits plan body old.action → WritesSuit plan (row_of plan world old move body)
row_suits plan world old move Nothing kept = silent_suits plan NoAction
row_suits plan world old Initializes body kept = silent_suits plan NoAction
row_suits plan world old Resets body kept = silent_suits plan NoAction
row_suits plan world old Starts (Assign target right) kept =
    assigned_suits plan world target right (place_of plan world target)
row_suits plan world old Starts (Command name args result) kept = λ write is. absurd (cc)
row_suits plan world old Starts (Update pairs) kept = λ write is. absurd (cc)
row_suits plan world old Fails (Assign target right) kept = back_suits plan target right old.action kept
row_suits plan world old Fails (Command name args result) kept = λ write is. absurd (cc)
row_suits plan world old Fails (Update pairs) kept = silent_suits plan old.action
row_suits plan world old Other body kept = silent_suits plan old.action

-- what a node writes suits
pub effects_suit : (plan : List Site) (world : World) (site : Site) (arrival : Arrival)
    → KeptSuits plan site.head.body (record_at world site.path).action
    → (write : Write) → (effects_of plan world site arrival).write ≡ Some write → WriteSuits plan write
effects_suit plan world site arrival kept =
    row_suits plan world (record_at world site.path) (move_kind (record_at world site.path).state arrival.to)
    site.head.body kept

-- ---- what is kept

pub unknown_suits : (kind : VarKind) → suits kind values.Unknown ≡ true
unknown_suits kinds.Boolean = refl
unknown_suits kinds.Integer = refl
unknown_suits kinds.Text = refl

assigned_kept : (plan : List Site) (world : World) (target : TargetData) (right : Term) (place : Option Place)
    → CellsSuit plan world target.owner target.name
    → KeptSuits plan (Assign target right) (assigns_at plan world target right place).action
assigned_kept plan world target right None cells = tt
assigned_kept plan world target right (Some place) cells = λ variable is.
    read_anywhere (Suits variable.kind) (cells_at plan world target.owner target.name) (cell_of place) values.Unknown
    (cells variable is).suit (unknown_suits variable.kind)

back_kept : (plan : List Site) (target : TargetData) (right : Term) (under_way : Action)
    → KeptSuits plan (Assign target right) under_way
    → KeptSuits plan (Assign target right) (writes_back target under_way).action
back_kept plan target right (Assigned (Some kept)) keeps = keeps
back_kept plan target right NoAction keeps = keeps
back_kept plan target right (Assigned None) keeps = keeps
back_kept plan target right (Commanded index handle abort) keeps = keeps
back_kept plan target right (Updated acknowledged) keeps = keeps

row_kept : (plan : List Site) (world : World) (old : NodeRecord) (move : MoveKind) (body : BodyData)
    → ((owner name : List ℕ) → CellsSuit plan world owner name) → KeptSuits plan body old.action
    → KeptSuits plan body (row_of plan world old move body).action
row_kept plan world old move Nothing cells kept = tt
row_kept plan world old move (Command name args result) cells kept = tt
row_kept plan world old move (Update pairs) cells kept = tt
row_kept plan world old Initializes (Assign target right) cells kept = tt
row_kept plan world old Resets (Assign target right) cells kept = tt
row_kept plan world old Starts (Assign target right) cells kept =
    assigned_kept plan world target right (place_of plan world target) (cells target.owner target.name)
row_kept plan world old Fails (Assign target right) cells kept = back_kept plan target right old.action kept
row_kept plan world old Other (Assign target right) cells kept = kept

-- what a node keeps after its move suits
pub effects_keep : (plan : List Site) (world : World) (site : Site) (arrival : Arrival)
    → ((owner name : List ℕ) → CellsSuit plan world owner name)
    → KeptSuits plan site.head.body (record_at world site.path).action
    → KeptSuits plan site.head.body (effects_of plan world site arrival).action
effects_keep plan world site arrival cells kept =
    row_kept plan world (record_at world site.path) (move_kind (record_at world site.path).state arrival.to)
    site.head.body cells kept

-- ---- what has no old value

pub nothing_kept : (plan : List Site) (body : BodyData) → KeptSuits plan body NoAction
nothing_kept plan Nothing = tt
nothing_kept plan (Assign target right) = tt
nothing_kept plan (Command name args result) = tt
nothing_kept plan (Update pairs) = tt

pub command_kept : (plan : List Site) (body : BodyData) (index : Option ℕ) (handle : Option Handle) (abort : Abort)
    → KeptSuits plan body (Commanded index handle abort)
command_kept plan Nothing index handle abort = tt
command_kept plan (Assign target right) index handle abort = tt
command_kept plan (Command name args result) index handle abort = tt
command_kept plan (Update pairs) index handle abort = tt

pub update_kept : (plan : List Site) (body : BodyData) (acknowledged : Bool) → KeptSuits plan body (Updated acknowledged)
update_kept plan Nothing acknowledged = tt
update_kept plan (Assign target right) acknowledged = tt
update_kept plan (Command name args result) acknowledged = tt
update_kept plan (Update pairs) acknowledged = tt
