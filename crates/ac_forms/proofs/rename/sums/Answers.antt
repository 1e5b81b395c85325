use Rattle.std.proofs.Common.{◌≡◌, ◌+◌, ◌-◌, ◌<◌, length, subst, arith}
use Rattle.ac_forms.proofs.Renamings.{RenamedFrom, from-fits}
use Rattle.ac_forms.proofs.Stops.{wide_inside}
use Rattle.ac_forms.proofs.rename.sums.Goals as goal

pub returns-in-Err : goal.returns-in-Err
returns-in-Err c =
    let k = c.loop-i.i - 1 in
    let one : c.loop-i.i ≡ k + 1 = omega arith in
    let room : k < length c.args.columns.now = omega arith in
    let kept : k < length c.args.coefs.now = omega arith in
    let so_far : RenamedFrom c.args.columns.now c.args.coefs.now c.loop-i.made.items (k + 1) = subst (λ n. RenamedFrom c.args.columns.now c.args.coefs.now c.loop-i.made.items n) one c.loop-i.invariant in
    wide_inside c.in-Err.stop _ _ c.in-Err.ensures (λ all. from-fits c.args.columns.now c.args.coefs.now c.loop-i.made.items k so_far room kept all)
