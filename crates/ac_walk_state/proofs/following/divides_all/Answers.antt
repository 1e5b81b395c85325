use Rattle.std.proofs.Common.{◌<◌, ◌≤◌, pos, length, get_or}
use Rattle.ac_base.proofs.Bits.{again_128}
use Rattle.ac_base.specs.Multiple.{IsMultiple}
use Rattle.ac_walk_state.proofs.Reducing.{divides_fails, divides_step, divides_end}
use Rattle.ac_walk_state.proofs.following.divides_all.Goals as goal

pub returns-then-not-divides : goal.returns-then-not-divides
returns-then-not-divides c =
    let cs = c.args.form.now.coefs in
    let h = rw (again_128 c.args.modulus c.ranges.modulus, again_128 c.coef.result (record { sfits = c.coef.type_inv }), c.coef.ensures) at c.divides.ensures in
    let inv = rw (again_128 c.args.modulus c.ranges.modulus) at c.loop-column.invariant in
    let l : c.loop-column.column < length cs = rw c.columns-column-end.ensures at c.loop-column-test.true in
    let f = c.if-not-divides.true in
    let n : ¬ (IsMultiple c.args.modulus (get_or cs c.loop-column.column (pos 0))) = λ d. let t = h.1 d in absurd cc in
    let no = divides_fails c.args.modulus cs c.loop-column.column inv l n in
    ((λ e. absurd cc), (λ x. absurd (no x.0)))

pub loop-column-preserved : goal.loop-column-preserved
loop-column-preserved c =
    let cs = c.args.form.now.coefs in
    let h = rw (again_128 c.args.modulus c.ranges.modulus, again_128 c.coef.result (record { sfits = c.coef.type_inv }), c.coef.ensures) at c.divides.ensures in
    let inv = rw (again_128 c.args.modulus c.ranges.modulus) at c.loop-column.invariant in
    let l : c.loop-column.column < length cs = rw c.columns-column-end.ensures at c.loop-column-test.true in
    rw (again_128 c.args.modulus c.ranges.modulus) (divides_step c.args.modulus cs c.loop-column.column inv l (h.0 c.if-not-divides.false))

pub returns : goal.returns
returns c =
    let cs = c.args.form.now.coefs in
    let inv = rw (again_128 c.args.modulus c.ranges.modulus) at c.loop-column.invariant in
    let l : length cs ≤ c.loop-column.column = rw c.columns-column-end.ensures at c.loop-column-test.false in
    let all = divides_end c.args.modulus cs c.loop-column.column inv l in
    let h = rw (again_128 c.args.modulus c.ranges.modulus, again_128 c.konst.result (record { sfits = c.konst.type_inv }), c.konst.ensures) at c.divides-2.ensures in
    ((λ t. (all, h.0 t)), (λ x. h.1 x.1))
