use Rattle.std.proofs.Common.{rules}
use Rattle.std.proofs.lemmas.List.Sorted.{IsNonDecreasingBy-from_sort_by_key}
use Rattle.std.specs.List.Sorted.{IsPermutation}
use Rattle.px_script.specs.Order.{all_entries}
use Rattle.px_script.proofs.Orders.{entries_fit}
use Rattle.px_script.proofs.script.Script.into_entries.Goals as goal

pub returns : goal.returns
returns c =
    let same : IsPermutation (all_entries c.args.self.threads) c.sort_by_key.new.self.items = rw (← c.in_ok-entries.ensures) c.in_ok-sort_by_key.ensures.permutation in
    record {
      order = record {
        same = same;
        rising = IsNonDecreasingBy-from_sort_by_key (λ entry. entry.line) _ c.in_ok-sort_by_key.ensures.sorted (λ a r q k. search rules);
      };
      fit = entries_fit c.args.self c.sort_by_key.new.self.items c.requires same;
    }
