use Rattle.std.proofs.Common.{◌∙◌, sym, refl}
use Rattle.ac_claims_paths.specs.BranchPaths.{onto}
use Rattle.ac_claims_paths.specs.PathSteps.{extended}
use Rattle.ac_claims_paths.proofs.AddSteps.{case_made}
use Rattle.ac_claims_paths.proofs.going.case_branch.Goals as goal

pub returns : goal.returns
returns c = case_made c.args.step.now.params c.args.step.now.path.now c.args.step.now.side c.args.step.now.cell.now c.args.u c.args.stmt.now c.args.piece.now c.args.level.now c.root-source.result c.seat_of-reader.result c.in-Some.rows
    (extended c.args.step.now.path.now.conj c.root-source.result.width c.in-Some.rows) (onto c.args.step.now.path.now c.gone_to.result)
    c.root-source.ensures c.seat_of-reader.ensures (sym c.in-Some.is ∙ c.in_ok-rows.ensures) refl c.gone_to.ensures
