use Rattle.std.proofs.Common.{sym, ◌∙◌}
use Rattle.std.specs.Prelude.{nat_eq}
use Rattle.std.proofs.lemmas.List.Sorted.{All-permutation, list_any-IsPermutation}
use Rattle.px_flat.specs.Flat.{plan_of}
use Rattle.px_assign.specs.declared.order.Writer.{Writer}
use Rattle.px_assign.specs.Ordering.{IsWriter}
use Rattle.px_assign.proofs.Sorting.{ordered}
use Rattle.px_assign.proofs.order.writers.Goals as goal

pub returns : goal.returns
returns c =
    let before = c.in_ok-writers.writers.items in
    let after = c.sort.new.self.items in
    record {
      whole = record {
        each = All-permutation (IsWriter (plan_of c.args.flat.now)) before after c.in_ok-sort.ensures.permutation
            c.in_ok-writers.ensures.each;
        all = λ node variable within is.
            sym (list_any-IsPermutation (λ (writer : Writer). nat_eq node writer.node) before after
            c.in_ok-sort.ensures.permutation)
            ∙ c.in_ok-writers.ensures.all node variable within is;
      };
      order = ordered after c.in_ok-sort.ensures.sorted;
    }
