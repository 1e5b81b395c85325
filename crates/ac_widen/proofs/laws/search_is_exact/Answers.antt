use Rattle.ac_widen.proofs.Refuting.{equal_exactly}
use Rattle.ac_widen.proofs.laws.search_is_exact.Goals as goal

pub returns : goal.returns
returns g c = λ d. equal_exactly (g.S.HasSetting.setting c.args.programs.now) c.requires.lawful d
