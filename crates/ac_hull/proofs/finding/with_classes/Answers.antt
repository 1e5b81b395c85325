use Rattle.std.proofs.Common.{rules}
use Rattle.ac_hull.specs.ColumnDifferences.{class_of}
use Rattle.ac_hull.specs.HullInternals.Finding.{AddsRow}
use Rattle.ac_hull.proofs.Findings.{classes_step, classes_end}
use Rattle.ac_hull.proofs.finding.with_classes.Goals as goal

pub loop-class-preserved : goal.loop-class-preserved
loop-class-preserved c =
    let r : AddsRow c.args.points.now (class_of c.args.first c.args.second c.args.modulus.now c.loop-class.class) c.loop-class.made c.in_ok-made.made = rw c.class_row.ensures at c.in_ok-made.ensures in
    classes_step c.args.points.now c.args.modulus.now c.args.first c.args.second c.args.made c.loop-class.made c.in_ok-made.made c.loop-class.class c.loop-class.invariant r

pub returns : goal.returns
returns c = classes_end c.args.points.now c.args.modulus.now c.args.first c.args.second c.args.made c.loop-class.made c.loop-class.class c.loop-class.invariant (search rules)
