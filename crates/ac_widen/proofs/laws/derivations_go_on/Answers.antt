use Rattle.ac_widen.proofs.Deriving.{one_more, path_more}
use Rattle.ac_widen.proofs.laws.derivations_go_on.Goals as goal

pub returns-clause-entry : goal.returns-clause-entry
returns-clause-entry g c = λ order es e d j. one_more (g.S.HasSetting.setting c.args.programs.now) order es e d j

pub returns-clause-path : goal.returns-clause-path
returns-clause-path g c = λ order es i k p path d l a w. path_more (g.S.HasSetting.setting c.args.programs.now) order es i k p path d l a w
