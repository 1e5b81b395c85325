use Rattle.std.proofs.Common.{◌≡◌, ◌+◌, length, subst, sym, arith}
use Rattle.ac_walk.specs.SearchStops.{EndsEarlyBy}
use Rattle.ac_walk.proofs.Added.{adds, made_of, plans_for}
use Rattle.ac_walk.proofs.Stopped.{start_ends}
use Rattle.ac_walk.proofs.SameClaims.{path_found}
use Rattle.ac_walk.proofs.planning.add.Goals as goal

pub returns-in_ok-with_claim-in-Ok-Plans-clause-added : goal.returns-in_ok-with_claim-in-Ok-Plans-clause-added
returns-in_ok-with_claim-in-Ok-Plans-clause-added c =
    let s = c.args.search.now in
    let made = c.in-Ok-Plans.ensures in
    let longer = c.in_ok-with_claim-in-Ok-Plans in
    let number : c.in_ok-number.number ≡ s.first + length c.args.part.claims.items = omega (arith, c.in_ok-number.ensures, c.len.ensures, c.args.part.claims.ok) in
    let plans = plans_for s c.args.order.now c.args.claims.now c.args.tabled.now c.args.start c.in_ok-number.number c.in_ok-base.base c.in-Ok-Plans.field-0 c.in-Ok-Plans.trees c.in-Ok-Plans.field-0-is c.requires.search made.claim made.pieces made.accepted made.stops in
    let is_made = made_of s c.args.start c.in-Ok-Plans.field-0 c.in-Ok-Plans.trees c.in-Ok-Plans.field-0-is c.requires.search made.domains c.requires.start in
    adds s c.args.order.now c.args.claims.now c.args.tabled.now c.requires.search c.requires.claims c.args.start is_made c.args.part longer.field-0 c.in-Ok-Plans.trees.items c.in_ok-number.number c.in_ok-base.base number c.in_ok-base.ensures plans longer.ensures.claims longer.ensures.trees

pub returns-in-Err-clause-causes : goal.returns-in-Err-clause-causes
returns-in-Err-clause-causes c =
    subst (EndsEarlyBy c.args.search.now c.args.order.now c.args.claims.now c.args.start) (sym c.of_unfolding.ensures)
    (start_ends c.args.search.now c.args.order.now c.args.claims.now c.args.start c.in-Err.stop c.in-Err.ensures.causes)

pub returns-in-Ok-Broken-clause-added : goal.returns-in-Ok-Broken-clause-added
returns-in-Ok-Broken-clause-added c =
    path_found c.args.search.now.program_flows.now c.args.start c.args.order.now c.args.claims.now c.in-Ok-Broken.field-0 c.in-Ok-Broken.path c.in-Ok-Broken.field-0-is c.in-Ok-Broken.ensures.broken c.in-Ok-Broken.ensures.found
