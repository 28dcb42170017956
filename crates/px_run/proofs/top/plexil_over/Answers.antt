use Rattle.std.proofs.Common.{map}
use Rattle.std.specs.String.{string_bytes}
use Rattle.px_output.specs.View.{view}
use Rattle.px_run.proofs.Causing.{causes}
use Rattle.px_run.proofs.Completing.{complete, refused}
use Rattle.px_run.proofs.top.plexil_over.Goals as goal

pub returns-clause-causes : goal.returns-clause-causes
returns-clause-causes g c =
    causes g.D.Disk (map string_bytes c.args.words.now) (view g.H.Host c.args.host.now) (view g.H.Host c.ended.new.host) c.args.disk c.ended.result.disk
    c.ended.result.status c.ended.ensures.headline

pub returns-clause-complete : goal.returns-clause-complete
returns-clause-complete g c =
    complete g.D.Disk (map string_bytes c.args.words.now) (view g.H.Host c.args.host.now) (view g.H.Host c.ended.new.host) c.args.disk c.ended.result.disk
    c.ended.result.status c.ended.ensures.headline

pub returns-clause-refused : goal.returns-clause-refused
returns-clause-refused g c =
    refused g.D.Disk (map string_bytes c.args.words.now) (view g.H.Host c.args.host.now) (view g.H.Host c.ended.new.host) c.args.disk c.ended.result.disk
    c.ended.result.status c.ended.ensures.headline
