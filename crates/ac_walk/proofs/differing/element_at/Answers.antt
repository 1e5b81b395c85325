use Rattle.std.proofs.Common.{◌≡◌, length}
use Rattle.ac_walk.proofs.Elements.{outcomes_tell, halts_tell}
use Rattle.ac_walk.proofs.differing.element_at.Goals as goal

pub returns-in-Ok : goal.returns-in-Ok
returns-in-Ok c =
    let count : length c.args.at.now ≡ length c.args.pair.now.left.params = cc in
    outcomes_tell c.args.pair.now c.args.at.now c.args.number c.in-Ok.ran c.as_slice.result.now c.element_of.result c.as_slice.ensures c.requires count c.in-Ok.ensures.answer c.element_of.ensures

pub returns-in-Err : goal.returns-in-Err
returns-in-Err c =
    let count : length c.args.at.now ≡ length c.args.pair.now.left.params = cc in
    halts_tell c.args.pair.now c.args.at.now c.args.number c.in-Err.halt c.no_element.result c.requires count c.in-Err.ensures.answer c.no_element.ensures.none c.no_element.ensures.halts
