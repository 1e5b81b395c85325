use Rattle.std.proofs.Common.{◌≡◌, List, Option, inl, inr, refl, subst}
use Rattle.std.specs.Prelude.{IfSome}
use Rattle.ac_claims_paths.specs.ModelCalls.{pairing}
use Rattle.ac_claims.specs.CheckKnowledge.{IsClaimMade}
use Rattle.ac_claims.specs.declared.types.Claim.{Claim}
use Rattle.ac_widen_programs.specs.BrokenPaths.{IsBroken}
use Rattle.ac_widen_programs.specs.PairPaths.{Unfolding}
use Rattle.ac_widen.specs.declared.derivation.Entry.{Entry}
use Rattle.ac_unfold.specs.Unfoldings.{IsUnfoldingOf}
use Rattle.ac_unfold.specs.StartResults.{IfBroken, IfPlans}
use Rattle.ac_unfold_table.specs.StartPlans.{AreTreesOf, UseTabled}
use Rattle.ac_unfold_table.proofs.Growing.{adds_one, fit_for}
use Rattle.ac_unfold_table.proofs.Planning.{broken_fails, broken_free, plans_free, stop_fails, tabled_one}
use Rattle.ac_unfold_table.proofs.unfolding.table_proved.Goals as goal

pub returns-in_ok-push-in-Some-Plans-clause-adds : goal.returns-in_ok-push-in-Some-Plans-clause-adds
returns-in_ok-push-in-Some-Plans-clause-adds c =
    let s = c.args.program_flows.now in
    let t = c.args.table.now in
    let relation = c.in-Some.relation in
    let fit = fit_for s t.claims t.claims c.args.relation relation c.in_ok-relation.field-0 c.in-Some.is c.in_ok-relation.ensures.fit refl c.requires in
    let number = c.in_ok-number.number in
    let arm = c.in-Some-Plans in
    let are = AreTreesOf s t.base t.claims t.tabled t.order number relation in
    let made = plans_free are c.planned.result c.in_ok-trees.field-0 arm.field-0 c.planned.ensures.trees c.in_ok-trees.ensures.answered arm.is in
    let uses_tabled = UseTabled s t.tabled relation in
    let use_tabled = plans_free uses_tabled c.planned.result c.in_ok-trees.field-0 arm.field-0 c.planned.ensures.use_tabled c.in_ok-trees.ensures.answered arm.is in
    adds_one s t c.push.new.self relation arm.trees.items number c.in_ok-push-in-Some-Plans.ensures.ok c.in_ok-number.ensures (subst (IfPlans are) arm.field-0-is made) (subst (IfPlans uses_tabled) arm.field-0-is use_tabled) fit

pub returns-in_ok-push-in-Some-Plans-clause-done : goal.returns-in_ok-push-in-Some-Plans-clause-done
returns-in_ok-push-in-Some-Plans-clause-done c =
    let s = c.args.program_flows.now in
    let relation = c.in-Some.relation in
    let fit = subst (λ (o : Option Claim). IfSome o (λ x. (x ≡ c.args.relation) × IsClaimMade (pairing s.programs) c.args.relation)) c.in-Some.is c.in_ok-relation.ensures.fit in
    inr (refl, tabled_one c.args.table.now c.push.new.self relation c.args.relation c.in-Some-Plans.trees.items c.in_ok-push-in-Some-Plans.ensures.ok fit.0)

pub returns-in-Some-Broken-clause-done : goal.returns-in-Some-Broken-clause-done
returns-in-Some-Broken-clause-done c =
    let s = c.args.program_flows.now in
    let t = c.args.table.now in
    let relation = c.in-Some.relation in
    let fit = subst (λ (o : Option Claim). IfSome o (λ x. (x ≡ c.args.relation) × IsClaimMade (pairing s.programs) c.args.relation)) c.in-Some.is c.in_ok-relation.ensures.fit in
    let arm = c.in-Some-Broken in
    let P : List Entry → Type 0 = λ path. (u : Unfolding) → IsUnfoldingOf s relation t.order u → IsBroken u t.claims path in
    let broken = broken_free P c.planned.result c.in_ok-trees.field-0 arm.field-0 c.planned.ensures.broken c.in_ok-trees.ensures.answered arm.is in
    inl (broken_fails s t.order t.claims c.args.relation relation arm.field-0-0 fit.0 (subst (IfBroken P) arm.field-0-is broken))

pub returns-in-None-clause-done : goal.returns-in-None-clause-done
returns-in-None-clause-done c =
    let s = c.args.program_flows.now in
    let t = c.args.table.now in
    let fit = subst (λ (o : Option Claim). IfSome o (λ x. (x ≡ c.args.relation) × IsClaimMade (pairing s.programs) c.args.relation)) c.in-Some.is c.in_ok-relation.ensures.fit in
    inl (stop_fails s t.order t.claims c.args.relation c.in-Some.relation c.planned.result fit.0 c.planned.ensures.causes (c.in_ok-trees.ensures.given_up c.in-None.is))
