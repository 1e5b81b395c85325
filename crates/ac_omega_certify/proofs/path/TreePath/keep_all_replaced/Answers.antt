use Rattle.std.proofs.Common.{arith}
use Rattle.ac_omega_certify.proofs.ReplacedRows.{can-replace-at, replaced-more}
use Rattle.ac_omega_certify.proofs.path.TreePath.keep_all_replaced.Goals as goal

pub keep_replaced-requires-clause-fits : goal.keep_replaced-requires-clause-fits
keep_replaced-requires-clause-fits c = can-replace-at c.args.equality.now.column c.args.equality.now.form.now c.args.rows.now c.loop-i.i c.index-rows-i.result c.requires.fits (omega arith) c.index-rows-i.is

pub loop-i-preserved : goal.loop-i-preserved
loop-i-preserved c =
    replaced-more c.args.self.now c.loop-i.self c.keep_replaced.new.self c.args.equality.now.column c.args.equality.now.form.now c.args.equality.now.place c.loop-i.i c.args.rows.now c.args.places.now c.args.kept.now.rows.items c.args.kept.now.places.items
    c.loop-i.kept.rows.items c.loop-i.kept.places.items c.index-rows-i.result c.keep_replaced.new.kept.rows.items c.keep_replaced.new.kept.places.items
    c.loop-i.invariant (omega arith) c.index-rows-i.is c.in_ok-keep_replaced.ensures.base c.in_ok-keep_replaced.ensures.rows c.in_ok-keep_replaced.ensures.long c.in_ok-keep_replaced.ensures.leads
