use Rattle.ac_widen.proofs.Refuting.{refuted, refuted_mismatch}
use Rattle.ac_widen.proofs.laws.orders_are_refuted.Goals as goal

pub returns-clause-refutes : goal.returns-clause-refutes
returns-clause-refutes g c = λ order partial es front last d p e m. refuted (g.S.HasSetting.setting c.args.programs.now) c.requires.lawful order partial es front last d p e m

pub returns-clause-mismatch : goal.returns-clause-mismatch
returns-clause-mismatch g c = λ partial es order r x. refuted_mismatch (g.S.HasSetting.setting c.args.programs.now) partial es order r x
