use Rattle.ac_widen.proofs.Walking.{begins_kept, still_kept, added_kept}
use Rattle.ac_widen.proofs.walks.members_are_kept.Goals as goal

pub returns-clause-first : goal.returns-clause-first
returns-clause-first g c = λ es k. begins_kept (g.S.HasSetting.setting c.args.programs.now) es k

pub returns-clause-onward : goal.returns-clause-onward
returns-clause-onward g c = λ es more_ k kept is. still_kept (g.S.HasSetting.setting c.args.programs.now) es more_ k kept is

pub returns-clause-member : goal.returns-clause-member
returns-clause-member g c =
    λ es k kept n p members at fs rows is st adds h enough. added_kept (g.S.HasSetting.setting c.args.programs.now) es k kept n p members at fs rows is st adds h enough.0 enough.1
