use Rattle.std.proofs.Common.{◌↔◌, ◌-ℤ◌, ◌≤ℤ◌}
use Rattle.std.specs.Prelude.{IsTrue}
use Rattle.ac_base.proofs.Bits.{again_128}
use Rattle.ac_hull.specs.ColumnDifferences.{gap_of}
use Rattle.ac_hull.proofs.Comparing.{both_ways}
use Rattle.ac_hull.proofs.difference.Difference.is_parallel_at.Goals as goal

pub returns-then-is_at_most : goal.returns-then-is_at_most
returns-then-is_at_most c =
    let here = again_128 (gap_of c.args.self.now c.args.point.now) (c.requires.point c.args.self.now.first c.args.self.now.second) in
    let before = again_128 (gap_of c.args.self.now c.args.base.now) (c.requires.base c.args.self.now.first c.args.self.now.second) in
    let other_here = again_128 (gap_of c.args.other.now c.args.point.now) (c.requires.point c.args.other.now.first c.args.other.now.second) in
    let other_before = again_128 (gap_of c.args.other.now c.args.base.now) (c.requires.base c.args.other.now.first c.args.other.now.second) in
    let low : (gap_of c.args.self.now c.args.point.now -ℤ gap_of c.args.self.now c.args.base.now) ≤ℤ (gap_of c.args.other.now c.args.point.now -ℤ gap_of c.args.other.now c.args.base.now) =
    rw (c.gap-here.ensures, c.gap-before.ensures, c.gap-other_here.ensures, c.gap-other_before.ensures, here, before, other_here, other_before) at (c.is_at_most.ensures.0 c.if-is_at_most.true) in
    let high : IsTrue c.is_at_most-then-is_at_most.result ↔ ((gap_of c.args.other.now c.args.point.now -ℤ gap_of c.args.other.now c.args.base.now) ≤ℤ (gap_of c.args.self.now c.args.point.now -ℤ gap_of c.args.self.now c.args.base.now)) =
    rw (c.gap-here.ensures, c.gap-before.ensures, c.gap-other_here.ensures, c.gap-other_before.ensures, here, before, other_here, other_before) at c.is_at_most-then-is_at_most.ensures in
    both_ways (gap_of c.args.self.now c.args.point.now -ℤ gap_of c.args.self.now c.args.base.now) (gap_of c.args.other.now c.args.point.now -ℤ gap_of c.args.other.now c.args.base.now) c.is_at_most-then-is_at_most.result low high
