use Rattle.std.proofs.Common.{take}
use Rattle.ac_unfold.proofs.Clearing.{NoneOf}
use Rattle.ac_unfold_table.proofs.relations.is_claimed.Given as goal

abbrev pub invariant-loop-number : goal.invariant-loop-number
invariant-loop-number l = NoneOf (take l.number l.claims) l.relation.left l.relation.right
