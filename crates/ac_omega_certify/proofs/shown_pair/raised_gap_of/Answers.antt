use Rattle.std.proofs.Common.{FitsSigned}
use Rattle.std.specs.Int.{w128}
use Rattle.ac_base.proofs.Bits.{again_128}
use Rattle.ac_omega_exact.proofs.Counts.{smaller-fits}
use Rattle.ac_forms.specs.Affine.{coef}
use Rattle.ac_omega_certify.proofs.ShadowNumbers.{dark_gap-fits, times-fits, rest-fits}
use Rattle.ac_omega_certify.proofs.Shadowed.{again-is, pair-of, size-fits}
use Rattle.ac_omega_certify.proofs.shown_pair.raised_gap_of.Goals as goal

pub opposite_coef-a-requires : goal.opposite_coef-a-requires
opposite_coef-a-requires c = size-fits c.args.z c.args.low.now.form.now c.args.high.now c.requires.taken.within_2_to_120

pub raised_gap-requires-clause-dark_gap : goal.raised_gap-requires-clause-dark_gap
raised_gap-requires-clause-dark_gap c =
    let m = c.requires.taken in
    let p = pair-of c.args.z c.args.low.now.form.now c.args.high.now c.args.low.now.margin m.within_2_to_120 m.low c.requires.high m.some m.within in
    let a = again-is c.opposite_coef-a.result _ c.opposite_coef-a.ensures (record { sfits = c.opposite_coef-a.type_inv }) in
    let b = again-is c.coef-b.result _ c.coef-b.ensures (record { sfits = c.coef-b.type_inv }) in
    rw (a, b) (dark_gap-fits _ _ _ _ _ p)

pub raised_gap-requires-clause-product : goal.raised_gap-requires-clause-product
raised_gap-requires-clause-product c =
    let m = c.requires.taken in
    let p = pair-of c.args.z c.args.low.now.form.now c.args.high.now c.args.low.now.margin m.within_2_to_120 m.low c.requires.high m.some m.within in
    let a = again-is c.opposite_coef-a.result _ c.opposite_coef-a.ensures (record { sfits = c.opposite_coef-a.type_inv }) in
    let fb : FitsSigned w128 (coef c.args.z c.args.low.now.form.now) = rw (← c.coef-b.ensures) (record { sfits = c.coef-b.type_inv }) in
    let n = again_128 c.args.low.now.margin (smaller-fits c.args.low.now.margin _ m.some m.within fb) in
    rw (a, n) (times-fits _ _ _ _ _ p)

pub raised_gap-requires-clause-fits : goal.raised_gap-requires-clause-fits
raised_gap-requires-clause-fits c =
    let m = c.requires.taken in
    let p = pair-of c.args.z c.args.low.now.form.now c.args.high.now c.args.low.now.margin m.within_2_to_120 m.low c.requires.high m.some m.within in
    let a = again-is c.opposite_coef-a.result _ c.opposite_coef-a.ensures (record { sfits = c.opposite_coef-a.type_inv }) in
    let b = again-is c.coef-b.result _ c.coef-b.ensures (record { sfits = c.coef-b.type_inv }) in
    let fb : FitsSigned w128 (coef c.args.z c.args.low.now.form.now) = rw (← c.coef-b.ensures) (record { sfits = c.coef-b.type_inv }) in
    let n = again_128 c.args.low.now.margin (smaller-fits c.args.low.now.margin _ m.some m.within fb) in
    rw (a, b, n) (rest-fits _ _ _ _ _ p)

pub returns : goal.returns
returns c =
    let m = c.requires.taken in
    let a = again-is c.opposite_coef-a.result _ c.opposite_coef-a.ensures (record { sfits = c.opposite_coef-a.type_inv }) in
    let b = again-is c.coef-b.result _ c.coef-b.ensures (record { sfits = c.coef-b.type_inv }) in
    let fb : FitsSigned w128 (coef c.args.z c.args.low.now.form.now) = rw (← c.coef-b.ensures) (record { sfits = c.coef-b.type_inv }) in
    let n = again_128 c.args.low.now.margin (smaller-fits c.args.low.now.margin _ m.some m.within fb) in
    again-is c.raised_gap.result _ (rw (a, b, n) at c.raised_gap.ensures) (record { sfits = c.raised_gap.type_inv })
