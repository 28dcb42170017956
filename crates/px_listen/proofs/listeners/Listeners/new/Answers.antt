use Rattle.std.proofs.Common.{ap, ◌∙◌, arith}
use Rattle.px_links.specs.Links.{LinksData}
use Rattle.px_listen.specs.Keeping.{listening}
use Rattle.px_listen.proofs.Made.{kept-made, listening-none}
use Rattle.px_listen.proofs.listeners.Listeners.new.Goals as goal

pub invariant_of-result : goal.invariant_of-result
invariant_of-result c =
    let made = c.in_ok-new.ensures.made in
    let cells = ap (λ (links : LinksData). links.cells) made in
    record {
      pairs = kept-made c.args.sources c.args.watchers c.args.room c.of.result.value c.in_ok-new.field-0
          c.in_ok-with_capacity.field-0.items c.in_ok-vec.field-0.items c.of.ensures made c.in_ok-with_capacity.ensures.items
          (c.in_ok-vec.ensures.items_if_clones_equal (λ y same. same)) c.in_ok-new.ensures.holders;
      room = omega (arith, cells, c.in_ok-with_capacity.ensures.capacity);
      cells = omega (arith, cells, c.ranges.room.fits);
      watchers = omega (arith, c.of.ensures, c.ranges.watchers.fits);
    }

pub returns : goal.returns
returns c =
    (λ i. listening (c.of.ensures i) (c.in_ok-new.ensures.made i) (c.in_ok-with_capacity.ensures.items i))
    ∙ listening-none c.args.sources c.args.watchers c.args.room
