use Rattle.px_script.proofs.Remainders.{rest_whole, rest_twice, rest_ahead}
use Rattle.px_script.proofs.laws.once_over_stops.Goals as goal

pub returns : goal.returns
returns c = record { whole = λ script fit. rest_whole script.threads fit.lines; again = rest_twice; ahead = rest_ahead }
