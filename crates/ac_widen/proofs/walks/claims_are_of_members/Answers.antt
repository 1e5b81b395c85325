use Rattle.ac_widen.proofs.Walking.{kept_claim, kept_rows}
use Rattle.ac_widen.proofs.walks.claims_are_of_members.Goals as goal

pub returns : goal.returns
returns g c = λ es k kept is. (kept_claim (g.S.HasSetting.setting c.args.programs.now) es k kept is, kept_rows (g.S.HasSetting.setting c.args.programs.now) es k kept is)
