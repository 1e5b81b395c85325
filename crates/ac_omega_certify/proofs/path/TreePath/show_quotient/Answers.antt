use Rattle.std.proofs.Common.{FitsSigned, rules}
use Rattle.std.specs.Int.{w128}
use Rattle.ac_base.proofs.Bits.{read_back, again_128}
use Rattle.ac_forms.specs.Rows.{form_of}
use Rattle.ac_omega_certify.proofs.NormalDivisibilities.{IsNamed, quotient_shows}
use Rattle.ac_omega_certify.proofs.path.TreePath.show_quotient.Goals as goal

pub floor_quotient-divisor-requires : goal.floor_quotient-divisor-requires
floor_quotient-divisor-requires c =
    let f : FitsSigned w128 c.modulus-quotient.result = search rules in
    rw (again_128 c.modulus-quotient.result f, c.modulus-quotient.ensures) c.requires.quotient

pub returns-clause-shows : goal.returns-clause-shows
returns-clause-shows c = λ f e m start path.
    let fm : FitsSigned w128 c.args.modulus = c.ranges.modulus in
    let fq : FitsSigned w128 c.modulus-quotient.result = search rules in
    let fd : FitsSigned w128 c.floor_quotient-divisor.result = search rules in
    let named : IsNamed c.args.names.now c.args.self.now.columns (form_of c.args.row.now) c.in_ok-named.named = rw (← c.form.ensures) (c.in_ok-named.ensures.renames, c.in_ok-named.ensures.within) in
    quotient_shows c.args.self.now c.reduce.new.self c.args.x c.in_ok-place.place c.args.modulus c.floor_quotient-divisor.result c.modulus-quotient.result f c.in_ok-named.named c.args.row.now c.args.names.now c.requires.positive c.requires.small m e c.modulus-quotient.ensures
    (simp read_back at c.floor_quotient-divisor.ensures.value) named (simp read_back at c.in_ok-place.ensures.leads) start path
