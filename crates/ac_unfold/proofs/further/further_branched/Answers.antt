use Rattle.std.proofs.Common.{Option, refl, subst, ap, ◌∙◌}
use Rattle.ac_claims_plans.specs.BranchSides.{AreSides}
use Rattle.ac_claims_plans.specs.declared.branching.Parts.{Parts}
use Rattle.ac_unfold.specs.PlanResults.{judge_of}
use Rattle.ac_unfold.specs.BrokenPathResults.{IsNone}
use Rattle.ac_unfold.proofs.Adding.{adds_none}
use Rattle.ac_unfold.proofs.Failing.{breaking_beside}
use Rattle.ac_unfold.proofs.further.further_branched.Goals as goal

pub parts_of-requires : goal.parts_of-requires
parts_of-requires c = c.requires.over

pub returns-in-None : goal.returns-in-None
returns-in-None c = adds_none _ _ _ _ refl

pub returns-in_ok-further_parts-in-Some : goal.returns-in_ok-further_parts-in-Some
returns-in_ok-further_parts-in-Some c =
    let n = c.args.node.now in
    let k = n.question.conj.columns in
    let sides = subst (λ (o : Option Parts). AreSides k c.args.row.now o) c.in-Some.is c.in_ok-parts.ensures in
    breaking_beside IsNone (judge_of c.args.search.now).params n.pair_path n.question.conj c.args.row.now c.as_slice.result.now _ _ c.requires.over (c.as_slice.ensures ∙ ap (λ (x : Parts). x.outside) sides.1) c.in_ok-further_parts-in-Some.ensures
