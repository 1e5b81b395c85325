use Rattle.std.proofs.Common.{sym, subst}
use Rattle.ac_claims_paths.specs.ModelCalls.{pairing}
use Rattle.ac_claims.specs.Dues.{RowsHaveModuli}
use Rattle.ac_claims.proofs.LineSteps.{front_moduli}
use Rattle.ac_claims.proofs.stepper.come.Goals as goal

pub take-requires-clause-claims : goal.take-requires-clause-claims
take-requires-clause-claims c = subst RowsHaveModuli (sym c.as_slice-in-Step.ensures) (front_moduli (pairing c.args.programs.now) c.args.front.now c.requires.made)

pub returns-in-Row-clause-made : goal.returns-in-Row-clause-made
returns-in-Row-clause-made c = c.take_row.ensures.made (pairing c.args.programs.now) c.requires.made
