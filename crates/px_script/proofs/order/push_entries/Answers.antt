use Rattle.std.proofs.Common.{rules}
use Rattle.std.proofs.lemmas.Iterator.Adapters.{items_from_extend, YieldsList-from_vec}
use Rattle.std.proofs.lemmas.Iterator.Consumers.{YieldsList-from_filter_map}
use Rattle.px_script.specs.Order.{entry_of}
use Rattle.px_script.proofs.order.push_entries.Goals as goal

pub returns : goal.returns
returns c =
    let h = items_from_extend c.extend.result c.extend.ensures.ran
    (YieldsList-from_filter_map _ (entry_of c.args.todo.thread) (YieldsList-from_vec c.args.todo.lines (search rules) (search rules)) c.filter_map.ensures.closure (λ x r q k. search rules)) in
    search rules
