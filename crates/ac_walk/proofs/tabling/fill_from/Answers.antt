use Rattle.std.proofs.Common.{subst, sym}
use Rattle.ac_walk.specs.SearchStops.{EndsEarlyBy}
use Rattle.ac_walk.proofs.Stopped.{start_ends}
use Rattle.ac_walk.proofs.SameClaims.{path_found}
use Rattle.ac_walk.proofs.tabling.fill_from.Goals as goal

pub returns-clause-causes : goal.returns-clause-causes
returns-clause-causes c =
    let t = c.unfold.new.table in
    subst (EndsEarlyBy c.args.search.now t.order t.claims c.args.start.now) (sym c.of_unfolding.ensures) (start_ends c.args.search.now t.order t.claims c.args.start.now c.in-Err.stop c.in-Err.ensures.causes)

pub returns-in-Ok-Broken-clause-broken : goal.returns-in-Ok-Broken-clause-broken
returns-in-Ok-Broken-clause-broken c =
    let t = c.unfold.new.table in
    path_found c.args.search.now.program_flows.now c.args.start.now t.order t.claims c.in-Ok-Broken.field-0 c.in-Ok-Broken.path c.in-Ok-Broken.field-0-is c.in-Ok-Broken.ensures.broken c.in-Ok-Broken.ensures.found
