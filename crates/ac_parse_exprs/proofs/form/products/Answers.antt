use Rattle.std.proofs.Common.{rules, pos, get_or, FitsSigned, arith, sym, ◌∙◌, ◌*ℤ◌}
use Rattle.std.specs.Int.{w128}
use Rattle.std.proofs.lemmas.Int.{to_z-of_z}
use Rattle.ac_parse_exprs.specs.AffineForms.{is_kept, times}
use Rattle.ac_parse_exprs.proofs.Columns.{length-times, get_or-times, passed_more, passed_not}
use Rattle.ac_parse_exprs.proofs.form.products.Goals as goal

pub returns-in_default : goal.returns-in_default
returns-in_default c =
    let k : FitsSigned w128 c.args.k = c.ranges.k in
    let f : FitsSigned w128 (get_or c.args.xs.now c.loop-x.x-index (pos 0)) = search rules in
    let h = simp to_z-of_z at c.product.ensures in
    passed_not is_kept (times c.args.k c.args.xs.now) c.loop-x.x-index (c.args.k *ℤ get_or c.args.xs.now c.loop-x.x-index (pos 0))
    (omega (arith, length-times c.args.k c.args.xs.now)) (get_or-times c.args.k c.args.xs.now c.loop-x.x-index (omega arith)) (sym c.in_default.is ∙ h)

pub loop-x-preserved : goal.loop-x-preserved
loop-x-preserved c =
    let f : FitsSigned w128 (get_or c.args.xs.now c.loop-x.x-index (pos 0)) = search rules in
    let z : FitsSigned w128 c.in-Some.z = search rules in
    let k : FitsSigned w128 c.args.k = c.ranges.k in
    let h = simp to_z-of_z at c.product.ensures in
    let t = passed_more is_kept (times c.args.k c.args.xs.now) c.loop-x.products c.push.new.self c.loop-x.x-index (c.args.k *ℤ get_or c.args.xs.now c.loop-x.x-index (pos 0)) c.in-Some.z
    (omega (arith, length-times c.args.k c.args.xs.now)) (get_or-times c.args.k c.args.xs.now c.loop-x.x-index (omega arith))
    (sym c.in-Some.is ∙ h) (simp to_z-of_z at c.loop-x.invariant.so_far) c.loop-x.invariant.kept (simp to_z-of_z at c.in_ok-push.ensures.ok) in
    simp to_z-of_z (record { so_far = t.0; kept = t.1 })
