use Rattle.std.proofs.Common.{◌-ℤ◌, refl}
use Rattle.ac_omega_certify.specs.TreePathRows.{raised}
use Rattle.ac_omega_certify.proofs.Shadowed.{again-is}
use Rattle.ac_omega_certify.proofs.ShownSteps.{leads-like, one-alike, one-enough}
use Rattle.ac_omega_certify.proofs.path.TreePath.show_implied_by_one.Goals as goal

pub returns-clause-leads : goal.returns-clause-leads
returns-clause-leads c = λ start path names h o x.
    let f = c.args.by.now in
    let g = c.args.row.now in
    let a = again-is c.konst.result _ c.konst.ensures (record { sfits = c.konst.type_inv }) in
    let b = again-is c.konst-2.result _ c.konst-2.ensures (record { sfits = c.konst-2.type_inv }) in
    let n = again-is (g.konst -ℤ f.konst) _ refl c.requires.fits.number in
    let leads = rw (a, b, n) at c.in_ok-place.ensures.leads in
    leads-like c.raise.new.self start path names c.in_ok-place.place (raised f (g.konst -ℤ f.konst)) g (one-alike f g c.requires.implied)
    (leads start path names f h o x (one-enough f g c.requires.implied) c.requires.fits)
