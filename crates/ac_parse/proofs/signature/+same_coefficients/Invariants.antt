use Rattle.std.proofs.Common.{length}
use Rattle.ac_parse.proofs.signature.+same_coefficients.Given as goal

abbrev pub decreases-same_coefficients : goal.decreases-same_coefficients
decreases-same_coefficients l = length l.a.now
