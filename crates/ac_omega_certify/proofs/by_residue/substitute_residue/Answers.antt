use Rattle.std.proofs.Common.{◌+ℤ◌, ◌*ℤ◌, refl, sym, ◌∙◌, subst}
use Rattle.ac_base.proofs.Bits.{read_back}
use Rattle.ac_forms.specs.Affine.{coef}
use Rattle.ac_forms.specs.Fits.{Fits}
use Rattle.ac_omega_certify.proofs.SpreadNumbers.{spread_parts, made_sum}
use Rattle.ac_omega_certify.proofs.by_residue.substitute_residue.Goals as goal

pub overflow_add-konst : goal.overflow_add-konst
overflow_add-konst c =
    let a = c.coef-coef.result in
    let k = c.konst.result in
    let parts = spread_parts c.args.m c.args.r (coef c.args.z c.args.form.now) c.args.form.now.konst c.requires in
    let fa : Fits a = record { sfits = c.coef-coef.type_inv } in
    let fk : Fits k = record { sfits = c.konst.type_inv } in
    let fp : Fits (a *ℤ c.args.r) = rw c.coef-coef.ensures parts.1 in
    let fs : Fits (k +ℤ a *ℤ c.args.r) = rw (c.konst.ensures, c.coef-coef.ensures) parts.2 in
    subst Fits (sym (made_sum k a c.args.r fk fa c.ranges.r fp)) fs

pub returns : goal.returns
returns c =
    let a = c.coef-coef.result in
    let k = c.konst.result in
    let parts = spread_parts c.args.m c.args.r (coef c.args.z c.args.form.now) c.args.form.now.konst c.requires in
    let fa : Fits a = record { sfits = c.coef-coef.type_inv } in
    let fk : Fits k = record { sfits = c.konst.type_inv } in
    let fr : Fits c.args.r = c.ranges.r in
    let fm : Fits c.args.m = c.ranges.m in
    let fq : Fits (a *ℤ c.args.m) = rw c.coef-coef.ensures parts.0 in
    let fp : Fits (a *ℤ c.args.r) = rw c.coef-coef.ensures parts.1 in
    let fs : Fits (k +ℤ a *ℤ c.args.r) = rw (c.konst.ensures, c.coef-coef.ensures) parts.2 in
    let list = simp read_back at c.in_ok-coefs.ensures in
    let made = simp read_back at c.in_ok-made.ensures in
    made ∙ rw (c.as_slice.ensures.value, list, c.konst.ensures, c.coef-coef.ensures) refl
