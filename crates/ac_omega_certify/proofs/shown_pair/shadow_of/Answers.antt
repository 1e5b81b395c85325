use Rattle.std.proofs.Common.{pos, neg_ℤ, ap, ◌∙◌}
use Rattle.ac_forms.specs.Affine.{Affine, coef, shifted}
use Rattle.ac_omega_certify.specs.ShadowSteps.{dark_gap}
use Rattle.ac_omega_certify.proofs.ShadowNumbers.{dark_gap-fits, shadow-fits}
use Rattle.ac_omega_certify.proofs.Shadowed.{again-is, plain-pair, size-fits}
use Rattle.ac_omega_certify.proofs.shown_pair.shadow_of.Goals as goal

pub opposite_coef-a-requires : goal.opposite_coef-a-requires
opposite_coef-a-requires c = size-fits c.args.z c.args.low.now c.args.high.now c.requires.within_2_to_120

pub dark_gap-requires-clause-fits : goal.dark_gap-requires-clause-fits
dark_gap-requires-clause-fits c =
    let f = c.args.low.now in
    let g = c.args.high.now in
    let p = plain-pair c.args.z f g c.requires.within_2_to_120 c.requires.low c.requires.high in
    let a = again-is c.opposite_coef-a.result _ c.opposite_coef-a.ensures (record { sfits = c.opposite_coef-a.type_inv }) in
    let b = again-is c.coef-b.result _ c.coef-b.ensures (record { sfits = c.coef-b.type_inv }) in
    rw (a, b) (dark_gap-fits f g _ _ _ p)

pub less-requires : goal.less-requires
less-requires c =
    let f = c.args.low.now in
    let g = c.args.high.now in
    let p = plain-pair c.args.z f g c.requires.within_2_to_120 c.requires.low c.requires.high in
    let a = again-is c.opposite_coef-a.result _ c.opposite_coef-a.ensures (record { sfits = c.opposite_coef-a.type_inv }) in
    let b = again-is c.coef-b.result _ c.coef-b.ensures (record { sfits = c.coef-b.type_inv }) in
    let l = again-is c.dark_gap.result _ c.dark_gap.ensures (record { sfits = c.dark_gap.type_inv }) in
    rw (l, c.in_ok-real.ensures, a, b) (shadow-fits f g (neg_ℤ (coef c.args.z g)) (coef c.args.z f) (pos 0) p)

pub returns : goal.returns
returns c =
    let a = again-is c.opposite_coef-a.result _ c.opposite_coef-a.ensures (record { sfits = c.opposite_coef-a.type_inv }) in
    let b = again-is c.coef-b.result _ c.coef-b.ensures (record { sfits = c.coef-b.type_inv }) in
    let l = again-is c.dark_gap.result _ c.dark_gap.ensures (record { sfits = c.dark_gap.type_inv }) in
    (rw (l, a, b) at c.in_ok-form.ensures) ∙ ap (λ (x : Affine). shifted x (neg_ℤ (dark_gap (neg_ℤ (coef c.args.z c.args.high.now)) (coef c.args.z c.args.low.now)))) c.in_ok-real.ensures
