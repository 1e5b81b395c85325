use Rattle.std.proofs.Common.{◌≡◌, pos, ap, ◌∙◌, FitsSigned, arith}
use Rattle.std.specs.Int.{w128}
use Rattle.ac_base.specs.Gcd.{content}
use Rattle.ac_base.proofs.Bits.{again_128}
use Rattle.ac_omega_certify.proofs.NormalEqualities.{content_fits}
use Rattle.ac_omega_certify.proofs.normal_equality.divisor_of.Goals as goal

pub unreachable-requires : goal.unreachable-requires
unreachable-requires c =
    let e : c.content.result ≡ content c.args.form.now.coefs = rw (← c.coefs.ensures) c.content.ensures.value in
    absurd (omega (arith, e, c.in_default.ensures.wide, content_fits c.args.form.now c.requires))

pub returns : goal.returns
returns c =
    let f : FitsSigned w128 c.in-Some.size = c.in-Some.ensures.value.1 in
    again_128 c.in-Some.size f ∙ c.in-Some.ensures.value.0 ∙ ap pos (rw (← c.coefs.ensures) c.content.ensures.value)
