use Rattle.std.proofs.Common.{subst, sym}
use Rattle.ac_walk.proofs.Rounds.{known_after, mismatch_after}
use Rattle.ac_walk.proofs.Stopped.{hull_ends}
use Rattle.ac_walk.proofs.Unfolded.{are_paths, plain_unfolding}
use Rattle.ac_walk.specs.SearchStops.{EndsEarly}
use Rattle.ac_walk.proofs.taking.take.Goals as goal

pub take-requires-clause-paths : goal.take-requires-clause-paths
take-requires-clause-paths c =
    let b = c.requires.paths in
    (plain_unfolding c.args.search.now c.args.order.now b.claim, are_paths c.args.search.now c.args.order.now c.requires.search c.args.known c.args.from c.args.paths c.requires.known b _ _)

pub returns-in-Ok-clause-known : goal.returns-in-Ok-clause-known
returns-in-Ok-clause-known c =
    known_after c.args.search.now c.args.order.now c.args.known c.args.from c.args.paths c.in-Ok.growth c.requires.search c.requires.known c.requires.paths c.in-Ok.ensures.takes

pub returns-in-Ok-clause-mismatch : goal.returns-in-Ok-clause-mismatch
returns-in-Ok-clause-mismatch c =
    mismatch_after c.args.search.now c.args.order.now c.args.known c.args.from c.args.paths c.in-Ok.growth c.requires.search c.requires.known c.requires.paths c.in-Ok.ensures.takes

pub returns-in-Err-clause-causes : goal.returns-in-Err-clause-causes
returns-in-Err-clause-causes c =
    subst (EndsEarly c.args.search.now c.args.order.now) (sym c.of_hull.ensures)
    (hull_ends c.args.search.now c.args.order.now c.args.known c.args.from c.args.paths c.in-Err.stop c.requires.search c.requires.known c.requires.paths c.in-Err.ensures.stops)
