use Rattle.std.proofs.Common.{subst, sym}
use Rattle.ac_unfold.specs.EndResults.{IsNeverFull}
use Rattle.ac_unfold.specs.UnfoldStops.{StopsAsking}
use Rattle.ac_unfold.proofs.Causes.{find_stops}
use Rattle.ac_unfold.proofs.Reaching.{never_full}
use Rattle.ac_unfold.proofs.decide.find_by_elimination.Goals as goal

pub returns-in-Err-clause-causes : goal.returns-in-Err-clause-causes
returns-in-Err-clause-causes c = subst (StopsAsking c.args.budget c.args.conj.now) (sym c.unfold_stop.ensures) (find_stops c.args.budget c.args.conj.now c.in-Err.stop c.in-Err.ensures.exact)

pub returns-in-Err-clause-full : goal.returns-in-Err-clause-full
returns-in-Err-clause-full c = subst IsNeverFull (sym c.unfold_stop.ensures) (never_full c.in-Err.stop)
