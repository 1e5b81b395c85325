use Rattle.std.proofs.Common.{ℕ, sym, subst}
use Rattle.ac_poly.specs.declared.types.Model.{Model}
use Rattle.ac_claims_paths.specs.PathSteps.{model_of}
use Rattle.ac_unfold.specs.CaseBranches.{AssumesCase}
use Rattle.ac_unfold.specs.PlanResults.{judge_of}
use Rattle.ac_unfold.proofs.Results.{in_get}
use Rattle.ac_unfold.proofs.reads.case_of.Goals as goal

pub returns-clause-assumed : goal.returns-clause-assumed
returns-clause-assumed c =
    let g = judge_of c.args.search.now in
    let h : AssumesCase c.params.result c.model_on-model.result.now c.args.side c.args.flow.now c.in-Some.case.now c.in-Some-last.assumed = c.assumes_case.ensures c.if-not-assumes_case.false in
    record {
      among = in_get c.args.flow.now.cases c.args.number c.in-Some.case.now (sym c.in-Some.ensures.value);
      assumed = c.in-Some-last.assumed;
      is = c.in-Some-last.is;
      assumes = subst (λ (n : ℕ). AssumesCase n (model_of g c.args.side) c.args.side c.args.flow.now c.in-Some.case.now c.in-Some-last.assumed) c.params.ensures
          (subst (λ (m : Model). AssumesCase c.params.result m c.args.side c.args.flow.now c.in-Some.case.now c.in-Some-last.assumed) c.model_on-model.ensures h);
    }

pub returns-clause-number : goal.returns-clause-number
returns-clause-number c = sym c.in-Some.ensures.value
