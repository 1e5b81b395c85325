use Rattle.std.proofs.Common.{map}
use Rattle.ac_claims_paths.specs.BranchPaths.{onto}
use Rattle.ac_claims_paths.specs.PathSteps.{case_path}
use Rattle.ac_claims_paths.proofs.AddSteps.{AtPiece}
use Rattle.ac_claims_paths.proofs.going.add_pieces.Given as goal

abbrev pub invariant-loop-piece : goal.invariant-loop-piece
invariant-loop-piece l = AtPiece (λ piece. map (case_path l.fn.step.params l.fn.step.path.now l.fn.step.side l.fn.step.cell.now l.fn.u l.fn.stmt piece) l.fn.levels) l.fn.stmt.pieces (map (onto l.fn.step.path.now) l.fn.out) (map (onto l.fn.step.path.now) l.out) l.piece-index
