use Rattle.std.proofs.Common.{take}
use Rattle.ac_walk.specs.Ranks.{AreClaimsAt}
use Rattle.ac_walk.proofs.ranking.claims_at.Given as goal

abbrev pub invariant-loop-at : goal.invariant-loop-at
invariant-loop-at l = AreClaimsAt l.widening_points (take l.at l.numbers) l.made.items
