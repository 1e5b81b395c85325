use Rattle.ac_unfold_table.proofs.Planning.{use_tabled_made, trees_at, trees_made}
use Rattle.ac_unfold_table.proofs.unfolding.planned.Goals as goal

pub returns-clause-trees : goal.returns-clause-trees
returns-clause-trees c =
    let s = c.args.program_flows.now in
    let t = c.args.table.now in
    let n = c.args.number in
    let start = c.args.start.now in
    let r = c.claim_trees.result in
    let base = c.base.result in
    let claims = c.claims.result.now in
    let tabled = c.tabled.result.now in
    let order = c.order.result.now in
    let parts = c.claim_trees.ensures in
    trees_at s t.base base t.claims claims t.tabled tabled t.order order n start r c.base.ensures c.claims.ensures c.tabled.ensures c.order.ensures
    (trees_made s base claims tabled order n start r parts.domains parts.claim parts.pieces parts.accepted parts.stops)

pub returns-clause-use_tabled : goal.returns-clause-use_tabled
returns-clause-use_tabled c = use_tabled_made c.args.program_flows.now c.args.table.now.tabled c.tabled.result.now c.args.start.now c.claim_trees.result c.tabled.ensures c.claim_trees.ensures.uses_tabled
