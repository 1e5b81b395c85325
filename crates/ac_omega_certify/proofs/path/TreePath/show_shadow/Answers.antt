use Rattle.std.proofs.Common.{length}
use Rattle.ac_omega_certify.specs.Descents.{raised_rows}
use Rattle.ac_omega_certify.proofs.Enough.{suffices-long}
use Rattle.ac_omega_certify.proofs.ShadowsLeft.{over-moduli, carries-shadows}
use Rattle.ac_omega_certify.proofs.ShownFor.{shown-stand, shown-calm}
use Rattle.ac_omega_certify.proofs.path.TreePath.show_shadow.Goals as goal

pub free_rows-requires-clause-moduli : goal.free_rows-requires-clause-moduli
free_rows-requires-clause-moduli c = over-moduli (length c.args.stage.now.names.now) c.args.stage.now.rows.now c.requires.made

pub returns-clause-rows : goal.returns-clause-rows
returns-clause-rows c =
    let long = suffices-long c.args.z c.args.stage.now.rows.now c.args.stage.now.rows.now c.args.stage.now.counts.now c.requires.suffices in
    shown-stand (length c.args.stage.now.names.now) c.args.z c.args.stage.now.rows.now c.in_ok-made.made.rows.items c.show_lowers.new.made.rows.items c.args.stage.now.counts.now c.requires.within_2_to_120 long c.in_ok-made.ensures.rows c.in_ok-show_lowers.ensures.rows

pub returns-clause-up_to_2_to_122 : goal.returns-clause-up_to_2_to_122
returns-clause-up_to_2_to_122 c =
    let long = suffices-long c.args.z c.args.stage.now.rows.now c.args.stage.now.rows.now c.args.stage.now.counts.now c.requires.suffices in
    shown-calm c.args.z c.args.stage.now.rows.now c.in_ok-made.made.rows.items c.show_lowers.new.made.rows.items c.args.stage.now.counts.now c.requires.within_2_to_120 long c.in_ok-made.ensures.up_to_2_to_122 c.in_ok-show_lowers.ensures.rows

pub returns-clause-carries : goal.returns-clause-carries
returns-clause-carries c =
    carries-shadows c.args.self.now c.show_lowers.new.self c.args.stage.now.names.now c.args.stage.now.rows.now (raised_rows c.args.z c.args.stage.now.rows.now c.args.stage.now.counts.now) c.args.stage.now.places.now c.args.raised.now c.in_ok-made.made c.show_lowers.new.made c.requires.long c.in_ok-made.ensures.stand
    c.in_ok-show_lowers.ensures.shows
