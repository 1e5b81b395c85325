use Rattle.std.proofs.Common.{Some, refl, rules}
use Rattle.ac_base.proofs.Bits.{again_128}
use Rattle.ac_forms.specs.Fits.{Fits}
use Rattle.ac_omega_exact.proofs.Left.{shadows-made}
use Rattle.ac_omega_exact.proofs.pairs.shadows_of.Goals as goal

pub returns : goal.returns
returns c =
    let fb : Fits c.coef-b.result = record { sfits = c.coef-b.type_inv } in
    let fa : Fits c.in-Some.a = search rules in
    shadows-made c.args.z c.args.low.now c.args.high.now (Some c.in-Some.a) c.in-Some.a c.coef-b.result c.in_ok-below.below c.in_ok-above.above c.in_ok-made.made refl c.in-Some.ensures c.coef-b.ensures c.in_ok-below.ensures c.in_ok-above.ensures
    (rw (again_128 c.coef-b.result fb, again_128 c.in-Some.a fa) at c.in_ok-made.ensures)
