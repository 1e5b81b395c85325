use Rattle.std.proofs.Common.{rules}
use Rattle.ac_forms.specs.Fits.{Fits}
use Rattle.ac_omega.proofs.Sides.{greatest-start, greatest-more, greatest-stop, greatest-end}
use Rattle.ac_omega.proofs.scan.greatest_size.Goals as goal

pub loop-row-init : goal.loop-row-init
loop-row-init c = greatest-start c.args.z c.args.rows.now

pub returns-in-None : goal.returns-in-None
returns-in-None c = greatest-stop c.args.z c.loop-row.row-index c.args.rows.now c.row-item.result _ c.loop-row.invariant c.loop-row-test.true c.row-item.is c.in-None.ensures

pub loop-row-preserved : goal.loop-row-preserved
loop-row-preserved c =
    let f : Fits c.in-Some.size = search rules in
    let s = c.in-Some.ensures in
    greatest-more c.args.z c.loop-row.row-index c.args.rows.now c.row-item.result _ c.in-Some.size c.max-greatest.result c.loop-row.invariant c.loop-row-test.true c.row-item.is s.0 s.1 f (record { sfits = c.max-greatest.type_inv }) c.max-greatest.ensures.value

pub returns : goal.returns
returns c = greatest-end c.args.z c.loop-row.row-index c.args.rows.now _ c.loop-row.invariant c.loop-row-test.false
