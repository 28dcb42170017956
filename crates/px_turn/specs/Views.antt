-- What a seat knows, and what becomes of it.
use Rattle.std.specs.Prelude.{ℕ, ◌+◌, max, true, false, if◌then◌else◌, List, [], ◌∷◌, ◌++◌, map, length, Option, Some, None, ◌≡◌}
use Rattle.px_turn.specs.declared.view.Record.{Record}
use Rattle.px_turn.specs.declared.view.Stamped.{Stamped}
use Rattle.px_turn.specs.declared.view.View.{View}
use Rattle.px_turn.specs.Histories.{stamped, opened, longer, shorter}

module _ {T I : Type 0} where
  -- a seat's own record
  abbrev pub record_of : View T I → Record
  record_of v = record { number = v.number; made = v.made }

  -- its own record and those of the seats that were joined into it
  abbrev pub records : View T I → List Record
  records v = if v.live then record_of v ∷ v.joined else []

  abbrev pub numbers : View T I → List ℕ
  numbers v = map (λ r. r.number) (records v)

  -- of the first seat, at the opening
  abbrev pub newcomer : (T → List I) → T → View T I
  newcomer list value = record {
    live = true;
    number = 0;
    splits = 0;
    ticket = None;
    turn = false;
    seen = opened (list value);
    told = [];
    known = 0;
    made = [];
    joined = [];
    opening = Some value;
  }

  -- what a seat leaves that was joined into another
  abbrev pub spent : View T I
  spent = record {
    live = false;
    number = 1;
    splits = 0;
    ticket = None;
    turn = false;
    seen = [];
    told = [];
    known = 0;
    made = [];
    joined = [];
    opening = None;
  }

  abbrev pub with_ticket : ℕ → View T I → View T I
  with_ticket ticket v = record v { ticket = Some ticket }

  -- has the turn, and has seen the history
  abbrev pub with_turn : List (Stamped I) → View T I → View T I
  with_turn history v = record v { turn = true; seen = history }

  -- took a ticket, and has the turn
  abbrev pub entered : Option ℕ → List (Stamped I) → View T I → View T I
  entered ticket history v = record v { ticket = ticket; turn = true; seen = history }

  abbrev pub without_turn : View T I → View T I
  without_turn v = record v { turn = false; ticket = None }

  -- made an entry, and has seen it
  abbrev pub with_entry : I → View T I → View T I
  with_entry item v = record v {
    seen = v.seen ++ stamped (Some v.number) item ∷ [];
    made = v.made ++ length v.seen ∷ [];
  }

  abbrev pub with_known : ℕ → View T I → View T I
  with_known count v = record v { known = count }

  abbrev pub split_once_more : View T I → View T I
  split_once_more v = record v { splits = v.splits + 1 }

  -- of a seat that is split from the first one
  abbrev pub split_off : View T I → View T I
  split_off v = record {
    live = true;
    number = v.splits + 1;
    splits = 0;
    ticket = None;
    turn = false;
    seen = v.seen;
    told = [];
    known = v.known;
    made = [];
    joined = [];
    opening = v.opening;
  }

  -- has taken in another seat: the longer list, the other's records, and one of the other
  abbrev pub joined : View T I → View T I → View T I
  joined v w = record v {
    seen = longer v.seen w.seen;
    told = shorter v.seen w.seen;
    known = max v.known w.known;
    joined = v.joined ++ record_of w ∷ w.joined;
  }

  -- the value goes on with the one at the opening
  abbrev pub GoesOn : (T → T → Type 0) → View T I → T → Type 0
  GoesOn goes_on v value = (opening : T) → v.opening ≡ Some opening → goes_on opening value
