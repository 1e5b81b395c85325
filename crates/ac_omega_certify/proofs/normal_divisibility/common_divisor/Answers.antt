use Rattle.std.proofs.Common.{◌≡◌, ℕ, pos, ap, ◌∙◌, unsigned_abs, FitsSigned, arith}
use Rattle.std.specs.Int.{w128}
use Rattle.ac_base.specs.Gcd.{gcd, content}
use Rattle.ac_base.proofs.Bits.{read_back, again_128}
use Rattle.ac_omega_certify.proofs.NormalDivisibilities.{gcd_small, positive_small}
use Rattle.ac_omega_certify.proofs.normal_divisibility.common_divisor.Goals as goal

pub unreachable-requires : goal.unreachable-requires
unreachable-requires c =
    let fm : FitsSigned w128 c.args.modulus = c.ranges.modulus in
    let m = simp read_back at c.unsigned_abs.ensures.value in
    absurd (omega (arith, positive_small c.args.modulus c.requires fm, m, c.in_default.ensures.wide, gcd_small c.args.modulus c.unsigned_abs.result c.content-content.result c.greatest_common_divisor-divisor.result c.requires m c.greatest_common_divisor-divisor.ensures.value))

pub returns : goal.returns
returns c =
    let fm : FitsSigned w128 c.args.modulus = c.ranges.modulus in
    let fs : FitsSigned w128 c.in-Some.size = c.in-Some.ensures.value.1 in
    let m = simp read_back at c.unsigned_abs.ensures.value in
    let e : c.content-content.result ≡ content c.args.form.now.coefs = rw (← c.coefs.ensures) c.content-content.ensures.value in
    again_128 c.in-Some.size fs ∙ c.in-Some.ensures.value.0 ∙ ap pos (c.greatest_common_divisor-divisor.ensures.value ∙ ap (λ (n : ℕ). gcd n c.content-content.result) m ∙ ap (gcd (unsigned_abs c.args.modulus)) e)
