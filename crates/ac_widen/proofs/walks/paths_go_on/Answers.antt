use Rattle.ac_widen.proofs.Walking.{advance, advance_output}
use Rattle.ac_widen.proofs.walks.paths_go_on.Goals as goal

pub returns-clause-claim : goal.returns-clause-claim
returns-clause-claim g c =
    λ order es k kept p m ws path is d t i meets comb steps.
    advance (g.S.HasSetting.setting c.args.programs.now) es k kept is order p m ws path d t i (c.requires.lawful.instance_width k p i) meets comb steps

pub returns-clause-output : goal.returns-clause-output
returns-clause-output g c = λ order es k p path d o steps. advance_output (g.S.HasSetting.setting c.args.programs.now) es order k p path d o steps
