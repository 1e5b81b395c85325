use Rattle.ac_widen.proofs.Deriving.{derived_obligation}
use Rattle.ac_widen.proofs.laws.derivations_show_obligations.Goals as goal

pub returns : goal.returns
returns g c = λ order es d. derived_obligation (g.S.HasSetting.setting c.args.programs.now) order es d
