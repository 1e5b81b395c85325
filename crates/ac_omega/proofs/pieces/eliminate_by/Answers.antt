use Rattle.ac_omega.proofs.DifferenceSweeps.{differences-eliminate, differences-left}
use Rattle.ac_omega.proofs.Replays.{result-reached, result-over}
use Rattle.ac_omega.proofs.pieces.eliminate_by.Goals as goal

pub returns-clause-reached : goal.returns-clause-reached
returns-clause-reached c = result-reached c.args.strategy c.args.vars.now c.args.budget c.args.conj.now c.eliminated.result c.requires c.eliminated.ensures.exact c.eliminated.ensures.gone

pub returns-clause-over : goal.returns-clause-over
returns-clause-over c = λ n all. result-over c.args.strategy n c.args.vars.now c.args.budget c.args.conj.now c.eliminated.result c.requires all c.eliminated.ensures.exact c.eliminated.ensures.gone

pub returns-clause-differences : goal.returns-clause-differences
returns-clause-differences c = λ few are. differences-eliminate c.args.strategy c.eliminated.result c.args.conj.now c.args.vars.now c.args.budget c.requires c.eliminated.ensures.exact few are

pub returns-clause-difference_pieces : goal.returns-clause-difference_pieces
returns-clause-difference_pieces c = λ b few one most are. differences-left c.args.strategy c.eliminated.result c.args.conj.now c.args.vars.now c.args.budget b c.requires c.eliminated.ensures.exact few one most are
