use Rattle.std.proofs.Common.{pos, neg_ℤ, subst}
use Rattle.ac_forms.specs.Affine.{Affine, coef}
use Rattle.ac_forms.specs.declared.row.Row.TheVariants.{Ge}
use Rattle.ac_omega_certify.specs.TreePathRows.{Leads}
use Rattle.ac_omega_certify.proofs.ShadowNumbers.{pair-blends}
use Rattle.ac_omega_certify.proofs.Shadowed.{again-is, plain-pair, size-fits, at-least-one}
use Rattle.ac_omega_certify.proofs.ShownSteps.{real-is}
use Rattle.ac_omega_certify.proofs.path.TreePath.show_real.Goals as goal

pub opposite_coef-a-requires : goal.opposite_coef-a-requires
opposite_coef-a-requires c = size-fits c.args.z c.args.low.now c.args.high.now c.requires.within_2_to_120

pub returns-clause-leads : goal.returns-clause-leads
returns-clause-leads c = λ start path names h x y.
    let f = c.args.low.now in
    let g = c.args.high.now in
    let z = c.args.z in
    let p = plain-pair z f g c.requires.within_2_to_120 c.requires.low c.requires.high in
    let a = again-is c.opposite_coef-a.result (neg_ℤ (coef z g)) c.opposite_coef-a.ensures (record { sfits = c.opposite_coef-a.type_inv }) in
    let b = again-is c.coef-b.result (coef z f) c.coef-b.ensures (record { sfits = c.coef-b.type_inv }) in
    let leads = rw (a, b) at c.in_ok-place.ensures.leads in
    subst (λ (k : Affine). Leads c.add_two.new.self start path names c.in_ok-place.place (Ge k)) (real-is z f g c.requires.low c.requires.high)
    (leads start path names (Ge f) (Ge g) h x y (at-least-one _ p.positive) (at-least-one _ p.above) (pair-blends f g _ _ (pos 0) p))
