use Rattle.std.proofs.Common.{◌∙◌, sym, ap, map}
use Rattle.std.specs.Prelude.{option_map}
use Rattle.ac_claims_paths.specs.BranchPaths.{onto}
use Rattle.ac_claims_paths.specs.PathSteps.{case_path}
use Rattle.ac_claims_paths.proofs.AddSteps.{level_next, level_none}
use Rattle.ac_claims_paths.proofs.CallLoops.{onto_push}
use Rattle.ac_claims_paths.proofs.going.add_levels.Goals as goal

pub loop-level-preserved : goal.loop-level-preserved
loop-level-preserved c =
    level_next (case_path c.args.step.now.params c.args.step.now.path.now c.args.step.now.side c.args.step.now.cell.now c.args.u c.args.stmt.now c.args.piece.now) c.args.levels.now (map (onto c.args.step.now.path.now) c.args.out.now) (map (onto c.args.step.now.path.now) c.loop-level.out) (map (onto c.args.step.now.path.now) c.push.new.self) c.loop-level.level-index c.level-item.result (onto c.args.step.now.path.now c.in-Some.branch)
    c.loop-level.invariant c.loop-level-test.true c.level-item.is
    (ap (option_map (onto c.args.step.now.path.now)) (sym c.in-Some.is) ∙ c.in_ok-branch.ensures ∙ ap (case_path c.args.step.now.params c.args.step.now.path.now c.args.step.now.side c.args.step.now.cell.now c.args.u c.args.stmt.now c.args.piece.now) c.as_slice.ensures)
    (onto_push c.args.step.now.path.now c.loop-level.out c.push.new.self c.in-Some.branch c.in_ok-push-in-Some.ensures.ok)

pub returns-in-None : goal.returns-in-None
returns-in-None c =
    level_none (case_path c.args.step.now.params c.args.step.now.path.now c.args.step.now.side c.args.step.now.cell.now c.args.u c.args.stmt.now c.args.piece.now) c.args.levels.now (map (onto c.args.step.now.path.now) c.args.out.now) (map (onto c.args.step.now.path.now) c.loop-level.out) c.loop-level.level-index c.level-item.result
    c.loop-level.invariant c.loop-level-test.true c.level-item.is
    (ap (option_map (onto c.args.step.now.path.now)) (sym c.in-None.is) ∙ c.in_ok-branch.ensures ∙ ap (case_path c.args.step.now.params c.args.step.now.path.now c.args.step.now.side c.args.step.now.cell.now c.args.u c.args.stmt.now c.args.piece.now) c.as_slice.ensures)
