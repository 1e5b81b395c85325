use Rattle.std.proofs.Common.{◌+◌, refl}
use Rattle.ac_omega_certify.proofs.ReplacedRows.{can-take, can-drop, three-lead}
use Rattle.ac_omega_certify.proofs.path.TreePath.show_replacing.Goals as goal

pub keep_all_replaced-requires-clause-fits : goal.keep_all_replaced-requires-clause-fits
keep_all_replaced-requires-clause-fits c = rw c.before-first.ensures (can-take c.args.z c.args.form.now c.args.stage.now.rows.now c.args.i c.requires.fits)

pub keep_all_replaced-requires-2-clause-fits : goal.keep_all_replaced-requires-2-clause-fits
keep_all_replaced-requires-2-clause-fits c = rw c.behind-last.ensures (can-drop c.args.z c.args.form.now c.args.stage.now.rows.now (c.args.i + 1) c.requires.fits)

pub returns-clause-leads : goal.returns-clause-leads
returns-clause-leads c = λ start path h n st e.
    three-lead c.args.self.now c.keep_all_replaced.new.self c.keep_all_replaced-2.new.self c.keep_divided.new.self start path c.args.stage.now.names.now c.args.z c.args.i _ c.args.form.now c.args.stage.now.rows.now c.args.stage.now.places.now
    c.before-first.result.now c.before-first_places.result.now c.behind-last.result.now c.behind-last_places.result.now c.no_rows-kept.result.rows.items c.no_rows-kept.result.places.items
    c.keep_all_replaced.new.kept.rows.items c.keep_all_replaced.new.kept.places.items c.keep_all_replaced-2.new.kept.rows.items c.keep_all_replaced-2.new.kept.places.items c.keep_divided.new.kept.rows.items c.keep_divided.new.kept.places.items
    c.before-first.ensures c.before-first_places.ensures c.behind-last.ensures c.behind-last_places.ensures c.no_rows-kept.ensures.rows c.no_rows-kept.ensures.places refl c.in_ok-keep_all_replaced.ensures.base c.in_ok-keep_all_replaced-2.ensures.base
    c.in_ok-keep_all_replaced.ensures.leads c.in_ok-keep_all_replaced-2.ensures.leads c.in_ok-keep_divided.ensures.leads h n st e
