use Rattle.std.proofs.Common.{FitsSigned, rules}
use Rattle.std.specs.Int.{w128}
use Rattle.ac_base.proofs.Bits.{again_128}
use Rattle.ac_claims.proofs.Residues.{class_low_at}
use Rattle.ac_claims.proofs.classes.has_residues.Goals as goal

pub returns-then-modulus-lt1 : goal.returns-then-modulus-lt1
returns-then-modulus-lt1 c = let f : FitsSigned w128 c.args.modulus.now = search rules in class_low_at c.args.modulus.now _ c.args.form.now c.args.columns (again_128 _ f) c.if-modulus-lt1.true
