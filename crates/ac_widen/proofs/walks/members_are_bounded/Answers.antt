use Rattle.ac_widen.proofs.Walking.{room_falls}
use Rattle.ac_widen.proofs.walks.members_are_bounded.Goals as goal

pub returns-clause-falls : goal.returns-clause-falls
returns-clause-falls g c = λ es k kept n p members at fs rows is l breaks adds. room_falls (g.S.HasSetting.setting c.args.programs.now) es k kept n p members at fs rows is l breaks adds
