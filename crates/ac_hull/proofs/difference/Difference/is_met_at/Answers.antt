use Rattle.std.proofs.Common.{rules, FitsSigned}
use Rattle.std.specs.Int.{w128}
use Rattle.ac_base.proofs.Bits.{again_128}
use Rattle.ac_hull.specs.ColumnDifferences.{gap_of}
use Rattle.ac_hull.proofs.difference.Difference.is_met_at.Goals as goal

pub returns-in-Some : goal.returns-in-Some
returns-in-Some c =
    let f : FitsSigned w128 c.in-Some.modulus = search rules in
    let g = again_128 (gap_of c.args.self.now c.args.point.now) (c.requires.fit c.args.self.now.first c.args.self.now.second) in
    rw c.in-Some.is (rw (c.gap-gap.ensures, g, again_128 c.in-Some.modulus f) at c.has_residue.ensures)
