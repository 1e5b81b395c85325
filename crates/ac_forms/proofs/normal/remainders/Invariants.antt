use Rattle.std.proofs.Common.{◌≡◌, take}
use Rattle.ac_base.specs.Dot.{residues}
use Rattle.ac_forms.proofs.normal.remainders.Given as goal

abbrev pub invariant-loop-coef : goal.invariant-loop-coef
invariant-loop-coef l = l.made.items ≡ residues l.fn.modulus (take l.coef-index l.coefs)
