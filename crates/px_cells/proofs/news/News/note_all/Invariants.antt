use Rattle.std.proofs.Common.{◌≡◌, drop}
use Rattle.px_cells.specs.News.{with_numbers}
use Rattle.px_cells.proofs.news.News.note_all.Given as goal

abbrev pub invariant-loop-at : goal.invariant-loop-at
invariant-loop-at l = record {
  count : l.self.count ≡ l.fn.self.count;
  numbers : with_numbers l.self.numbers (drop l.at-index l.numbers) ≡ with_numbers l.fn.self.numbers l.numbers;
}
