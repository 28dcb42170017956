-- What marked things are to contracts: things by number, and what a mark keeps of them.
use Rattle.std.specs.Prelude.{ℕ, ◌≡◌, List, [], set, Option, Some, None, refl}
use Rattle.std.specs.Coded.{Coded, code_by, coded×, coded_ℕ, coded_list, coded_option}
use Rattle.std.specs.Option.{unwrap_or}
use Rattle.px_cells.specs.News.{with_number}

-- The values, those at the mark or none where no mark stands, and the numbers of those that were written since the
-- mark, each once in the order of their first writes.
pub record Contents (T : Type 0) : Type 0 where
  pub values : List T
  pub marked : Option (List T)
  pub changed : List ℕ

-- what they hold, and for how many writes there is room; the values as they were last seen, and the numbers of those
-- that were written or went back since, each once
pub record MarkedData (T : Type 0) : Type 0 where
  pub contents : Contents T
  pub room : ℕ
  pub seen : List T
  pub news : List ℕ

-- they are stored as their fields
abbrev pub marked_code : {T : Type 0} → Coded T → Coded (MarkedData T)
marked_code {T} code =
    code_by ((List T × (Option (List T) × (List ℕ × ℕ))) × (List T × List ℕ))
    (coded× (coded× (coded_list code) (coded× (coded_option (coded_list code)) (coded× (coded_list coded_ℕ) coded_ℕ)))
    (coded× (coded_list code) (coded_list coded_ℕ)))
    (λ m. ((m.contents.values, (m.contents.marked, (m.contents.changed, m.room))), (m.seen, m.news)))
    (λ p. record {
      contents = record { values = p.0.0; marked = p.0.1.0; changed = p.0.1.1.0 };
      room = p.0.1.1.1;
      seen = p.1.0;
      news = p.1.1;
    }) (λ _. refl)

module _ {T : Type 0} where
  -- no mark stands
  abbrev pub unmarked : List T → Contents T
  unmarked values = record { values = values; marked = None; changed = [] }

  -- these values are marked
  abbrev pub with_mark : Contents T → Contents T
  with_mark contents = record { values = contents.values; marked = Some contents.values; changed = [] }

  -- a number is noted with its first write since the mark
  abbrev pub noted : Option (List T) → List ℕ → ℕ → List ℕ
  noted None changed at = changed
  noted (Some values) changed at = with_number changed at

  -- one value is written
  abbrev pub written : Contents T → ℕ → T → Contents T
  written contents at value = record {
    values = set contents.values at value;
    marked = contents.marked;
    changed = noted contents.marked contents.changed at;
  }

  -- back at the mark
  abbrev pub rolled_back : Contents T → Contents T
  rolled_back contents = unmarked (unwrap_or contents.marked contents.values)

  -- the present values, without the mark
  abbrev pub committed : Contents T → Contents T
  committed contents = unmarked contents.values

  -- what was seen stays, and this is the news
  abbrev pub TellsNews : MarkedData T → MarkedData T → List ℕ → Type 0
  TellsNews old new news = (new.seen ≡ old.seen) × (new.news ≡ news)

  -- all is seen
  abbrev pub IsAllSeen : MarkedData T → List T → Type 0
  IsAllSeen marked values = (marked.seen ≡ values) × (marked.news ≡ [])
