use Rattle.std.proofs.Common.{◌≡◌, ℤ, [], FitsSigned, ap, ◌∙◌, rules}
use Rattle.std.specs.Int.{w128}
use Rattle.ac_base.proofs.Bits.{read_back, again_128}
use Rattle.ac_omega_certify.proofs.NormalDivisibilities.{constant, constant_shows}
use Rattle.ac_omega_certify.proofs.path.TreePath.show_indivisible.Goals as goal

pub returns-clause-shows : goal.returns-clause-shows
returns-clause-shows c = λ start path names.
    let fm : FitsSigned w128 c.args.modulus = c.ranges.modulus in
    let fd : FitsSigned w128 c.common_divisor-divisor.result = search rules in
    let fk : FitsSigned w128 c.konst.result = search rules in
    let is : c.in_ok-constant.constant ≡ constant c.args.form.now = c.in_ok-constant.ensures ∙ ap (λ (z : ℤ). record { konst = z; coefs = [] }) (again_128 c.konst.result fk ∙ c.konst.ensures) in
    constant_shows c.args.self.now c.reduce.new.self c.args.x c.in_ok-place.place c.args.modulus c.common_divisor-divisor.result c.args.form.now c.in_ok-constant.constant names c.requires.positive c.requires.small c.requires.up_to_2_to_122 c.requires.absurdity (simp read_back at c.common_divisor-divisor.ensures) is
    (simp read_back at c.in_ok-place.ensures.leads) start path
