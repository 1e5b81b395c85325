use Rattle.std.proofs.Common.{refl}
use Rattle.ac_walk_state.proofs.Whole.{empty_accepted}
use Rattle.ac_walk_state.proofs.proofs.empty_proof.Goals as goal

pub returns-clause-empty : goal.returns-clause-empty
returns-clause-empty c = record { point_is = c.from.ensures; heads_are = refl; claims = c.new.ensures; outputs = c.new-2.ensures; trees = c.new-3.ensures.items }

pub returns-clause-accepted : goal.returns-clause-accepted
returns-clause-accepted c = λ g outputs p h. empty_accepted g outputs c.args.point.items c.args.heads _ (returns-clause-empty c) p h
