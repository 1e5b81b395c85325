use Rattle.std.proofs.Common.{neg_ℤ}
use Rattle.ac_forms.specs.Affine.{coef, shifted}
use Rattle.ac_omega_certify.proofs.ShadowNumbers.{taken-blends, taken-raises}
use Rattle.ac_omega_certify.proofs.Shadowed.{again-is, pair-of, size-fits, pair-leads, at-least-one, enough-one}
use Rattle.ac_omega_certify.proofs.path.TreePath.show_raised.Goals as goal

pub opposite_coef-a-requires : goal.opposite_coef-a-requires
opposite_coef-a-requires c = size-fits c.args.z c.args.low.now.form.now c.args.high.now c.requires.taken.within_2_to_120

pub returns-clause-leads : goal.returns-clause-leads
returns-clause-leads c = λ start path names h o x y.
    let f = c.args.low.now.form.now in
    let g = c.args.high.now in
    let z = c.args.z in
    let n = c.args.low.now.margin in
    let m = c.requires.taken in
    let p = pair-of z f g n m.within_2_to_120 m.low c.requires.high m.some m.within in
    let a = again-is c.opposite_coef-a.result (neg_ℤ (coef z g)) c.opposite_coef-a.ensures (record { sfits = c.opposite_coef-a.type_inv }) in
    let b = again-is c.coef-b.result (coef z f) c.coef-b.ensures (record { sfits = c.coef-b.type_inv }) in
    let d = again-is c.raised_gap_of-rest.result _ c.raised_gap_of-rest.ensures (record { sfits = c.raised_gap_of-rest.type_inv }) in
    let leads = rw (a, b, d) at c.in_ok-sum.ensures.leads in
    pair-leads z f g n c.add_bounds.new.self start path names c.in_ok-sum.sum m.low c.requires.high
    (leads start path names (shifted f (neg_ℤ n)) g h o x y (at-least-one _ p.positive) (at-least-one _ p.above) (enough-one n (neg_ℤ (coef z g)) (coef z f) c.requires.enough) (taken-blends f g _ _ n p) (taken-raises f g _ _ n p))
