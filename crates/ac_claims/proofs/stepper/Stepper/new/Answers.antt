use Rattle.std.proofs.Common.{sym, ap, subst}
use Rattle.ac_claims.specs.Dues.{AreDueFormed}
use Rattle.ac_claims.specs.declared.front.Front.{Front}
use Rattle.ac_claims.proofs.LineSteps.{made_none}
use Rattle.ac_claims.proofs.StepperSteps.{models_ready}
use Rattle.ac_claims.proofs.stepper.Stepper.new.Goals as goal

pub returns-clause-steady : goal.returns-clause-steady
returns-clause-steady c = record {
  ready = models_ready c.args.pair.now _ c.requires.pair c.requires.models;
  made = made_none _ c.new.result (ap (λ (f : Front). f.claims) c.new.ensures);
  formed = subst (AreDueFormed c.args.left.now.params) (sym c.new-2.ensures) tt;
}
