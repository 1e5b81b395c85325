use Rattle.ac_widen.proofs.Standing.{members_meet, stands_no_mismatch}
use Rattle.ac_widen.proofs.laws.claims_hold_obligations.Goals as goal

pub returns-clause-meet : goal.returns-clause-meet
returns-clause-meet g c = λ order claim h. members_meet (g.S.HasSetting.setting c.args.programs.now) c.requires.lawful order claim h

pub returns-clause-agree : goal.returns-clause-agree
returns-clause-agree g c = λ order claim h. stands_no_mismatch (g.S.HasSetting.setting c.args.programs.now) c.requires.lawful order claim h
