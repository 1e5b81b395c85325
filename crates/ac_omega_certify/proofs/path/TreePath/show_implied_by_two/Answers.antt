use Rattle.std.proofs.Common.{pos, ◌+ℤ◌, ◌-ℤ◌, refl, arith}
use Rattle.std.proofs.lemmas.Int.{ints}
use Rattle.ac_forms.specs.Affine.{combined}
use Rattle.ac_omega_certify.specs.TreePathRows.{raised}
use Rattle.ac_omega_certify.proofs.Shadowed.{again-is}
use Rattle.ac_omega_certify.proofs.ShownSteps.{leads-like, two-alike, two-enough, sum-fits}
use Rattle.ac_omega_certify.proofs.path.TreePath.show_implied_by_two.Goals as goal

pub returns-clause-leads : goal.returns-clause-leads
returns-clause-leads c = λ start path names h o x y.
    let f = c.args.first.now in
    let k = c.args.second.now in
    let g = c.args.row.now in
    let d = g.konst -ℤ (f.konst +ℤ k.konst) in
    let a = again-is c.konst.result _ c.konst.ensures (record { sfits = c.konst.type_inv }) in
    let b = again-is c.konst-2.result _ c.konst-2.ensures (record { sfits = c.konst-2.type_inv }) in
    let e = again-is c.konst-3.result _ c.konst-3.ensures (record { sfits = c.konst-3.type_inv }) in
    let s = again-is (f.konst +ℤ k.konst) _ refl (sum-fits f k c.requires.blends) in
    let n = again-is d _ refl c.requires.fits.number in
    let leads = rw (a, b, e, s, n) at c.in_ok-place.ensures.leads in
    leads-like c.add_bounds.new.self start path names c.in_ok-place.place (raised (combined (pos 1) f (pos 1) k) d) g (two-alike f k g c.requires.implied)
    (leads start path names f k h o x y (omega (arith, ints)) (omega (arith, ints)) (two-enough f k g c.requires.implied) c.requires.blends c.requires.fits)
