use Rattle.std.proofs.Common.{◌∙◌, subst, sym}
use Rattle.ac_walk.specs.SearchStops.{EndsEarly}
use Rattle.ac_walk.proofs.Stopped.{unfolding_ends}
use Rattle.ac_walk.proofs.Unfolded.{broken_from}
use Rattle.ac_walk.proofs.taking.unfold.Goals as goal

pub paths_from-requires : goal.paths_from-requires
paths_from-requires c = c.as_slice-2.ensures.value ∙ c.in_ok-claims.ensures

pub take-requires-clause-paths : goal.take-requires-clause-paths
take-requires-clause-paths c =
    broken_from c.args.search.now c.args.order.now c.args.known c.args.from c.in_ok-output.output c.in_ok-claims.claims.items c.as_slice.result.now c.as_slice-2.result.now c.start_among-start.result.now c.in-Ok.paths c.requires.search c.requires.from
    (c.in_ok-output.ensures c.args.search.now.pair.now c.requires.search.programs c.requires.search.output) c.in_ok-claims.ensures c.as_slice.ensures.value c.as_slice-2.ensures.value c.start_among-start.ensures c.in-Ok.ensures.broken

pub returns-in-Err-clause-causes : goal.returns-in-Err-clause-causes
returns-in-Err-clause-causes c =
    subst (EndsEarly c.args.search.now c.args.order.now) (sym c.of_unfolding.ensures)
    (unfolding_ends c.args.search.now c.args.order.now c.args.known c.args.from c.in_ok-output.output c.in_ok-claims.claims.items c.as_slice.result.now c.as_slice-2.result.now c.start_among-start.result.now c.in-Err.stop c.requires.known c.requires.from
    (c.in_ok-output.ensures c.args.search.now.pair.now c.requires.search.programs c.requires.search.output) c.in_ok-claims.ensures c.as_slice.ensures.value c.as_slice-2.ensures.value c.start_among-start.ensures c.in-Err.ensures.causes)
