use Rattle.std.proofs.Common.{rules}
use Rattle.ac_forms.specs.Fits.{Fits}
use Rattle.ac_base.proofs.Bits.{again_128}
use Rattle.ac_omega_certify.specs.ChoiceBranches.{seen}
use Rattle.ac_omega_certify.proofs.Branching.{branch-as}
use Rattle.ac_omega_certify.proofs.branch.branch_of.Goals as goal

pub returns-in-Drop : goal.returns-in-Drop
returns-in-Drop c = branch-as (seen c.args.stage.now) _ _ c.drop_branch.result c.in-Drop.is c.drop_branch.ensures

pub returns-in-Equal : goal.returns-in-Equal
returns-in-Equal c = branch-as (seen c.args.stage.now) _ _ c.equal_branch.result c.in-Equal.is c.equal_branch.ensures

pub returns-in-Residue : goal.returns-in-Residue
returns-in-Residue c =
    let m : Fits c.in-Residue.m = search rules in
    let r : Fits c.in-Residue.r = search rules in
    branch-as (seen c.args.stage.now) _ _ c.residue_branch.result c.in-Residue.is (rw (again_128 c.in-Residue.m m, again_128 c.in-Residue.r r) at c.residue_branch.ensures)

pub returns-in-Shadow : goal.returns-in-Shadow
returns-in-Shadow c = branch-as (seen c.args.stage.now) _ _ c.shadow_branch.result c.in-Shadow.is c.shadow_branch.ensures
