use Rattle.ac_unfold.specs.UnfoldCauses.{StopsUnfolding}
use Rattle.ac_walk.proofs.Tabled.{broken_alone, stops_kept}
use Rattle.ac_walk_state.proofs.LastItems.{if_err}
use Rattle.ac_walk.proofs.taking.tabled_path.Goals as goal

pub returns-clause-broken : goal.returns-clause-broken
returns-clause-broken c =
    broken_alone c.args.search.now.program_flows.now c.args.start.now 1 c.args.claims.items c.args.order.now c.in_ok-table.table c.unfold.new.table c.in_ok-unfold.field-0 c.in-Broken.path c.in_ok-alone-in-Broken.field-0 c.in_ok-table.ensures c.unfold.ensures.kept c.in-Broken.is c.in_ok-alone-in-Broken.ensures c.in_ok-unfold.ensures.broken c.in_ok-unfold.ensures.found

pub returns-in_err-unfold-clause-causes : goal.returns-in_err-unfold-clause-causes
returns-in_err-unfold-clause-causes c =
    if_err (StopsUnfolding c.args.search.now.program_flows.now c.args.start.now c.args.claims.items c.args.order.now) c.from_residual-in_err-unfold.result c.in_err-unfold.field-0.0 c.from_residual-in_err-unfold.ensures.1
    (stops_kept c.args.search.now.program_flows.now c.args.start.now 1 c.args.claims.items c.args.order.now c.in_ok-table.table c.unfold.new.table c.in_err-unfold.field-0.0 c.in_ok-table.ensures c.unfold.ensures.kept c.in_err-unfold.ensures.causes)
