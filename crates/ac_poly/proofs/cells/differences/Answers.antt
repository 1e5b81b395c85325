use Rattle.std.proofs.Common.{rules, to_z, of_z}
use Rattle.std.specs.Int.{w128}
use Rattle.ac_base.proofs.Bits.{again_128}
use Rattle.ac_poly.proofs.Subtracting.{less_pushed}
use Rattle.ac_poly.proofs.cells.differences.Goals as goal

pub loop-column-preserved : goal.loop-column-preserved
loop-column-preserved c =
    less_pushed c.args.a.now.coefs c.args.b.now.coefs c.loop-column.coefs.items c.push.new.self.items c.loop-column.column (to_z w128 (of_z w128 c.in-Some.coef)) c.loop-column.invariant
    (search (rules, again_128)) (search (rules, again_128)) (search (rules, again_128)) c.in_ok-push.ensures.items
