use Rattle.std.proofs.Common.{◌≡◌, ◌++◌, take, map}
use Rattle.ac_flow.specs.declared.types.Remainder.{Remainder}
use Rattle.ac_report.proofs.flows.with_remainders.Given as goal

abbrev pub invariant-loop-piece : goal.invariant-loop-piece
invariant-loop-piece l = l.made ≡ l.fn.made ++ map (λ (r : Remainder). r.conj) (take l.piece-index l.pieces)
