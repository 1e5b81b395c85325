use Rattle.std.proofs.Common.{rules, ◌≡◌, ◌-ℤ◌, neg_ℤ, pos, arith, FitsSigned}
use Rattle.std.proofs.lemmas.Int.{ints}
use Rattle.std.specs.Int.{w128}
use Rattle.ac_base.proofs.Bits.{again_128}
use Rattle.ac_hull.proofs.Meeting.{residue_is}
use Rattle.ac_hull.proofs.difference.has_residue.Goals as goal

pub returns : goal.returns
returns c =
    let fm : FitsSigned w128 c.args.modulus.now = search rules in
    let fn : FitsSigned w128 c.args.number.now = search rules in
    let fk : FitsSigned w128 c.args.constant.now = search rules in
    let k = again_128 c.args.constant.now fk in
    let fo : FitsSigned w128 (pos 0 -ℤ c.args.constant.now) = search rules in
    let fd : FitsSigned w128 (c.rem_euclid-rest.result -ℤ c.rem_euclid.result) = search rules in
    let m = again_128 c.args.modulus.now fm in
    let n = again_128 c.args.number.now fn in
    let o = again_128 (pos 0 -ℤ c.args.constant.now) fo in
    let fr : FitsSigned w128 c.rem_euclid-rest.result = search rules in
    let ft : FitsSigned w128 c.rem_euclid.result = search rules in
    let r = again_128 c.rem_euclid-rest.result fr in
    let t = again_128 c.rem_euclid.result ft in
    let d = again_128 (c.rem_euclid-rest.result -ℤ c.rem_euclid.result) fd in
    let e : pos 0 -ℤ c.args.constant.now ≡ neg_ℤ c.args.constant.now = omega (arith, ints) in
    residue_is c.args.number.now c.args.constant.now c.args.modulus.now c.rem_euclid-rest.result (pos 0 -ℤ c.args.constant.now) c.rem_euclid.result c.is_multiple.result c.requires.modulus
    (rw (n, m) at c.rem_euclid-rest.ensures.value) e (rw (k, o, m) at c.rem_euclid.ensures.value) (rw (m, r, t, d) at c.is_multiple.ensures)
