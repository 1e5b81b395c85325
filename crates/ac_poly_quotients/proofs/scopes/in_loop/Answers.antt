use Rattle.std.proofs.Common.{to_z, of_z, w64}
use Rattle.std.proofs.lemmas.Int.{to_z-of_z}
use Rattle.ac_poly_quotients.proofs.TurnedScopes.{entered_made}
use Rattle.ac_poly_quotients.proofs.scopes.in_loop.Goals as goal

pub returns : goal.returns
returns c =
    let step = c.args.step in
    entered_made
    c.turned.result c.args.scope.now c.in_ok-around.around c.args.number c.args.start.now c.in_ok-form.form c.args.cond.now (to_z w64 (of_z w64 step)) step
    c.as_slice.result.now c.as_slice-2.result.now c.as_slice.ensures c.as_slice-2.ensures (to_z-of_z w64 step c.ranges.step)
    c.in_ok-around.ensures c.in_ok-form.ensures c.turned.ensures
