use Rattle.px_crew.proofs.Seats.{posts_board, posts_on}
use Rattle.px_crew.proofs.seat.post.Goals as goal

pub returns-clause-posts : goal.returns-clause-posts
returns-clause-posts g c =
    posts_board (g.K.Desk.start c.args.desk.now) _ _ c.requires.made c.post.ensures.made _ c.post.result c.post.ensures.legal c.post.ensures.answers

pub returns-clause-on : goal.returns-clause-on
returns-clause-on g c =
    posts_on (g.K.Desk.start c.args.desk.now) _ _ c.requires.made c.post.ensures.made _ c.post.result c.post.ensures.answers
