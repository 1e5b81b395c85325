use Rattle.std.proofs.Common.{subst, map, List, []}
use Rattle.std.specs.Prelude.{Ok}
use Rattle.ac_claims_paths.specs.ListExtension.{Adds}
use Rattle.ac_claims_paths.specs.BranchPaths.{onto}
use Rattle.ac_claims_paths.specs.PathSteps.{cases_from}
use Rattle.ac_claims_paths.specs.declared.path.Branch.{Branch}
use Rattle.ac_claims_paths.proofs.CallLoops.{onto_push}
use Rattle.ac_claims_paths.proofs.StmtSteps.{all_branches, no_branches}
use Rattle.ac_claims_paths.proofs.going.read_steps.Goals as goal

pub returns-then-not-branch : goal.returns-then-not-branch
returns-then-not-branch c =
    no_branches c.args.step.now.params c.args.step.now.model.now c.args.step.now.path.now c.args.step.now.side c.args.step.now.cell.now (map (onto c.args.step.now.path.now) c.add_cases.new.out)
    (subst (λ b. Adds (cases_from c.args.step.now.params c.args.step.now.model.now c.args.step.now.path.now c.args.step.now.side c.args.step.now.cell.now 0 c.args.step.now.model.now.stmts) [] (map (onto c.args.step.now.path.now) c.add_cases.new.out) (Ok b)) c.if-not-branch.true
    (subst (λ (z : List Branch). Adds (cases_from c.args.step.now.params c.args.step.now.model.now c.args.step.now.path.now c.args.step.now.side c.args.step.now.cell.now 0 c.args.step.now.model.now.stmts) (map (onto c.args.step.now.path.now) z) (map (onto c.args.step.now.path.now) c.add_cases.new.out) (Ok c.in_ok-add_cases.field-0)) c.new-out.ensures c.in_ok-add_cases.ensures))

pub returns : goal.returns
returns c =
    all_branches c.args.step.now.params c.args.step.now.model.now c.args.step.now.path.now c.args.step.now.side c.args.step.now.cell.now (map (onto c.args.step.now.path.now) c.add_cases.new.out) (map (onto c.args.step.now.path.now) c.push.new.self) (onto c.args.step.now.path.now c.initial_branch.result)
    (subst (λ b. Adds (cases_from c.args.step.now.params c.args.step.now.model.now c.args.step.now.path.now c.args.step.now.side c.args.step.now.cell.now 0 c.args.step.now.model.now.stmts) [] (map (onto c.args.step.now.path.now) c.add_cases.new.out) (Ok b)) c.if-not-branch.false
    (subst (λ (z : List Branch). Adds (cases_from c.args.step.now.params c.args.step.now.model.now c.args.step.now.path.now c.args.step.now.side c.args.step.now.cell.now 0 c.args.step.now.model.now.stmts) (map (onto c.args.step.now.path.now) z) (map (onto c.args.step.now.path.now) c.add_cases.new.out) (Ok c.in_ok-add_cases.field-0)) c.new-out.ensures c.in_ok-add_cases.ensures))
    c.initial_branch.ensures (onto_push c.args.step.now.path.now c.add_cases.new.out c.push.new.self c.initial_branch.result c.in_ok-push.ensures.ok)
