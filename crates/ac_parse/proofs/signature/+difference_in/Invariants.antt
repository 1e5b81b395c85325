use Rattle.std.proofs.Common.{length}
use Rattle.ac_parse.proofs.signature.+difference_in.Given as goal

abbrev pub decreases-difference_in : goal.decreases-difference_in
decreases-difference_in l = length l.a.now
