use Rattle.std.proofs.Common.{◌≡◌, ◌<◌, map, subst, List, length, get_or}
use Rattle.std.specs.Prelude.{Ok}
use Rattle.ac_forms.specs.declared.row.Row.{Row}
use Rattle.ac_claims_paths.specs.ListExtension.{Adds}
use Rattle.ac_claims_paths.specs.BranchPaths.{onto}
use Rattle.ac_claims_paths.specs.PathSteps.{case_path}
use Rattle.ac_claims_paths.proofs.AddSteps.{piece_none}
use Rattle.ac_claims_paths.proofs.going.add_pieces.Goals as goal

pub returns-then-not-branch : goal.returns-then-not-branch
returns-then-not-branch c =
    piece_none (λ piece. map (case_path c.args.step.now.params c.args.step.now.path.now c.args.step.now.side c.args.step.now.cell.now c.args.u c.args.stmt.now piece) c.args.levels.now) c.args.stmt.now.pieces (map (onto c.args.step.now.path.now) c.args.out.now) (map (onto c.args.step.now.path.now) c.loop-piece.out) (map (onto c.args.step.now.path.now) c.add_levels.new.out) c.loop-piece.piece-index c.piece-item.result
    c.loop-piece.invariant
    (subst (λ (z : List (List Row)). c.loop-piece.piece-index < length z) c.as_slice-piece-items.ensures c.loop-piece-test.true)
    (subst (λ (z : List (List Row)). c.piece-item.result ≡ get_or z c.loop-piece.piece-index c.piece-item.result) c.as_slice-piece-items.ensures c.piece-item.is)
    (subst (λ b. Adds (map (case_path c.args.step.now.params c.args.step.now.path.now c.args.step.now.side c.args.step.now.cell.now c.args.u c.args.stmt.now c.piece-item.result) c.args.levels.now) (map (onto c.args.step.now.path.now) c.loop-piece.out) (map (onto c.args.step.now.path.now) c.add_levels.new.out) (Ok b)) c.if-not-branch.true
    (subst (λ (z : List Row). Adds (map (case_path c.args.step.now.params c.args.step.now.path.now c.args.step.now.side c.args.step.now.cell.now c.args.u c.args.stmt.now z) c.args.levels.now) (map (onto c.args.step.now.path.now) c.loop-piece.out) (map (onto c.args.step.now.path.now) c.add_levels.new.out) (Ok c.in_ok-add_levels.field-0)) c.as_slice.ensures c.in_ok-add_levels.ensures))
