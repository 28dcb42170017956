-- The turns of one more node that goes.
use Rattle.std.proofs.Common.{◌≡◌, Bool, true, false, List, [], ◌∷◌, ◌++◌, fold, map, append-nil, refl, ap, sym, ◌∙◌, subst}
use Rattle.std.specs.List.{filter_map, flat_map, cons_option, All}
use Rattle.std.proofs.lemmas.Grind.{flat_map-append}
use Rattle.std.proofs.lemmas.List.{map-append}
use Rattle.std.proofs.lemmas.List.Elements.{All-push, filter_map-append}
use Rattle.std.proofs.lemmas.List.Sums.{fold-append}
use Rattle.px_value.specs.declared.value.Value.{Value}
use Rattle.px_sem.specs.declared.moves.Move.{Move}
use Rattle.px_sem.specs.Step.{move_of}
use Rattle.px_sem.specs.Tolerances.{tolerances}
use Rattle.px_cells.specs.Marked.{Contents, MarkedData}
use Rattle.px_flat.specs.declared.act.Act.{Act}
use Rattle.px_flat.specs.Flat.{plan_of}
use Rattle.px_flat.specs.Row.{site_in}
use Rattle.px_parts.specs.declared.parts.Parts.{Parts}
use Rattle.px_micro.specs.declared.sight.Going.{Going}
use Rattle.px_micro.specs.declared.turns.Turn.{Turn}
use Rattle.px_micro.specs.declared.turns.Turns.{Turns}
use Rattle.px_parts.specs.Parts.{plan_in, world_in}
use Rattle.px_micro.specs.Turns.{initial_in, moves_told, with_write, written_in, IsTurn, AreTurns, IsAdded}

pub turns_more : (parts : Parts) (going : List Going) (one : Going) (old new : Turns) → AreTurns parts going old
    → IsAdded parts one old new → AreTurns parts (going ++ one ∷ []) new
turns_more parts going one old new are added = record {
  writes = added.writes
      ∙ ap (λ before. fold with_write before (cons_option (written_in parts one) [])) are.writes
      ∙ sym (fold-append with_write [] (filter_map (written_in parts) going) (cons_option (written_in parts one) []))
      ∙ ap (fold with_write []) (sym (filter_map-append (written_in parts) going (one ∷ [])));
  initial = added.initial ∙ ap (λ before. before ++ initial_in parts one) are.initial
      ∙ ap (λ more. flat_map (initial_in parts) going ++ more) (sym (append-nil (initial_in parts one)))
      ∙ sym (flat_map-append (initial_in parts) going (one ∷ []));
  goers = ap (map (λ (turn : Turn). turn.going)) added.turns
      ∙ map-append (λ (turn : Turn). turn.going) old.turns.items (added.turn ∷ [])
      ∙ (λ i. are.goers i ++ added.goes i ∷ []);
  each = subst (All (IsTurn parts)) (sym added.turns)
      (All-push (IsTurn parts) old.turns.items added.turn are.each added.is);
}

moves_more : (parts : Parts) (tells : Bool) (going : List Going) (one : Going)
    → moves_told parts tells going ++ moves_told parts tells (one ∷ []) ≡ moves_told parts tells (going ++ one ∷ [])
moves_more parts false going one = refl
moves_more parts true going one =
    sym (map-append (λ one. move_of (plan_in parts) (world_in parts) (site_in (plan_in parts) one.node) one.arrival) going
    (one ∷ []))

-- one more that goes, and its move where moves are told
pub moves_then : (parts : Parts) (tells : Bool) (going : List Going) (one : Going) (old new : List Move)
    → old ≡ moves_told parts tells going → new ≡ old ++ moves_told parts tells (one ∷ [])
    → new ≡ moves_told parts tells (going ++ one ∷ [])
moves_then parts tells going one old new before added =
    added ∙ ap (λ before. before ++ moves_told parts tells (one ∷ [])) before ∙ moves_more parts tells going one

-- ---- what the turns are does not change with the room

-- reports latch by the tolerances of the plan
abbrev pub Latches : Parts → Type 0
Latches parts = parts.reports.tolerances ≡ tolerances (plan_of parts.flat)

-- parts with other room
abbrev pub with_room : (parts : Parts) → Latches parts → MarkedData Value → MarkedData Act → Parts
with_room parts latching cells acts = record {
  flat = parts.flat;
  cells = cells;
  reports = parts.reports;
  actions = acts;
  moves = parts.moves;
  latching = latching;
}

pub turns_stay : (parts : Parts) (latching : Latches parts) (cells : MarkedData Value) (acts : MarkedData Act)
    (going : List Going) (made : Turns) → cells.contents ≡ parts.cells.contents → acts.contents ≡ parts.actions.contents → AreTurns parts going made
    → AreTurns (with_room parts latching cells acts) going made
turns_stay parts latching cells acts going made cells_same acts_same are =
    subst (λ values. AreTurns (room values acts.contents) going made) (sym cells_same)
    (subst (λ under_way. AreTurns (room parts.cells.contents under_way) going made) (sym acts_same) record {
      writes = are.writes;
      initial = are.initial;
      goers = are.goers;
      each = λ k d inside.
          let turn = are.each k d inside in
          record { within = turn.within; action = turn.action; fits = turn.fits };
    })
  where
    room : Contents Value → Contents Act → Parts
    room values under_way = with_room parts latching (record cells { contents = values }) (record acts { contents = under_way })
