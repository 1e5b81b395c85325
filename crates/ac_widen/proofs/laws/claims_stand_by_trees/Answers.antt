use Rattle.ac_widen.proofs.Standing.{stand_from_trees}
use Rattle.std.proofs.Common.{inl, inr}
use Rattle.ac_widen.proofs.laws.claims_stand_by_trees.Goals as goal

pub returns : goal.returns
returns g c = λ order claim rows fine. stand_from_trees (g.S.HasSetting.setting c.args.programs.now) c.requires.lawful order claim rows (λ k p o. fine k p (inl o)) (λ k p t i m. fine k p (inr (t, i, m)))
