-- How it is kept which numbers are noted: by a flag beside each.
use Rattle.std.specs.Prelude.{◌≢◌, ◌≤◌, length, AllPairs}
use Rattle.std.specs.Vec.{vec_capacity}
use Rattle.px_cells.specs.declared.news.News.TheInside.{Inside}
use Rattle.px_cells.specs.Marks.{AreFlagged}
use Rattle.px_cells.specs.News.{NewsData}

abbrev pub news_data : Inside → NewsData
news_data n = record { count = length n.is_noted.items; numbers = n.numbers.items }

pub record IsFlagged (n : Inside) : Type 0 where
  pub flags : AreFlagged n.is_noted.items n.numbers.items
  pub once : AllPairs (λ a b. a ≢ b) n.numbers.items
  pub room : length n.is_noted.items ≤ vec_capacity n.numbers
