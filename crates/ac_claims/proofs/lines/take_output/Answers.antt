use Rattle.std.proofs.Common.{sym, subst}
use Rattle.ac_claims_paths.specs.ModelCalls.{pairing}
use Rattle.ac_claims.specs.Dues.{RowsHaveModuli}
use Rattle.ac_claims.proofs.LineSteps.{front_moduli}
use Rattle.ac_claims.proofs.lines.take_output.Goals as goal

pub output_stands-requires-clause-claims : goal.output_stands-requires-clause-claims
output_stands-requires-clause-claims c = subst RowsHaveModuli (sym c.as_slice-claims.ensures) (front_moduli (pairing c.args.programs.now) c.args.front.now c.requires.made)
