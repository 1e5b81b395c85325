use Rattle.std.proofs.Common.{to_z, of_z, w64}
use Rattle.std.proofs.lemmas.Int.{to_z-of_z}
use Rattle.ac_poly_quotients.proofs.TurnedScopes.{turned_made}
use Rattle.ac_poly_quotients.proofs.scopes.turned.Goals as goal

pub returns : goal.returns
returns c =
    let step = c.args.step in
    turned_made
    c.args.around.now c.in_ok-made.made c.add_counter.new.scope c.add_parts.new.scope c.args.number c.in_ok-k.k c.args.start.now c.in_ok-copy.field-0 c.args.cond.now (to_z w64 (of_z w64 step)) step
    c.as_slice-parts.result.now c.as_slice.result.now c.in_ok-first.first c.as_slice-2.result.now c.in_ok-rows.rows c.as_slice-4.result.now c.as_slice-3.result.now c.in_ok-made-2.field-0
    c.as_slice-parts.ensures c.in_ok-copy.ensures c.as_slice.ensures c.in_ok-first.ensures c.as_slice-2.ensures c.in_ok-k.ensures c.in_ok-made.ensures (to_z-of_z w64 step c.ranges.step)
    c.in_ok-add_counter.ensures c.in_ok-add_parts.ensures c.in_ok-rows.ensures c.as_slice-4.ensures c.as_slice-3.ensures c.in_ok-made-2.ensures
