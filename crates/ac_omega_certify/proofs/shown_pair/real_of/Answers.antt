use Rattle.std.proofs.Common.{◌∙◌}
use Rattle.ac_omega_certify.proofs.Renaming.{blends-can}
use Rattle.ac_omega_certify.proofs.ShadowNumbers.{pair-blends}
use Rattle.ac_omega_certify.proofs.Shadowed.{again-is, plain-pair, size-fits}
use Rattle.ac_omega_certify.proofs.ShownSteps.{real-is}
use Rattle.ac_omega_certify.proofs.shown_pair.real_of.Goals as goal

pub opposite_coef-a-requires : goal.opposite_coef-a-requires
opposite_coef-a-requires c = size-fits c.args.z c.args.low.now c.args.high.now c.requires.within_2_to_120

pub sum_of-requires : goal.sum_of-requires
sum_of-requires c =
    let f = c.args.low.now in
    let g = c.args.high.now in
    let p = plain-pair c.args.z f g c.requires.within_2_to_120 c.requires.low c.requires.high in
    let a = again-is c.opposite_coef-a.result _ c.opposite_coef-a.ensures (record { sfits = c.opposite_coef-a.type_inv }) in
    let b = again-is c.coef-b.result _ c.coef-b.ensures (record { sfits = c.coef-b.type_inv }) in
    rw (a, b) (blends-can _ f _ g (pair-blends f g _ _ _ p))

pub returns : goal.returns
returns c =
    let a = again-is c.opposite_coef-a.result _ c.opposite_coef-a.ensures (record { sfits = c.opposite_coef-a.type_inv }) in
    let b = again-is c.coef-b.result _ c.coef-b.ensures (record { sfits = c.coef-b.type_inv }) in
    (rw (a, b) at c.in_ok-sum.ensures) ∙ real-is c.args.z c.args.low.now c.args.high.now c.requires.low c.requires.high
