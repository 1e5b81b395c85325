use Rattle.ac_widen.proofs.Deriving.{hull_justified}
use Rattle.ac_widen.proofs.Widening.{claimed_obligation, led_obligation}
use Rattle.ac_widen.proofs.laws.members_claim_obligations.Goals as goal

pub returns-clause-claimed : goal.returns-clause-claimed
returns-clause-claimed g c =
    λ order k kept found rows q is h f t i m. claimed_obligation (g.S.HasSetting.setting c.args.programs.now) order k kept found rows q is h f t i (c.requires.lawful.instance_width k q i) m

pub returns-clause-justified : goal.returns-clause-justified
returns-clause-justified g c =
    λ order es k kept found ns fs rows q m ws t i is a b meets comb. hull_justified (g.S.HasSetting.setting c.args.programs.now) order es k kept found ns fs rows q m ws t i (c.requires.lawful.instance_width k q i) is a b meets comb

pub returns-clause-led : goal.returns-clause-led
returns-clause-led g c = λ order k p j q o l. led_obligation (g.S.HasSetting.setting c.args.programs.now) order k p j q o l
