use Rattle.std.proofs.Common.{rules, pos, get_or, FitsSigned, arith, sym, ap, ◌∙◌, ◌+ℤ◌, ◌*ℤ◌}
use Rattle.std.specs.Int.{w128}
use Rattle.std.proofs.lemmas.Int.{to_z-of_z}
use Rattle.ac_parse_exprs.specs.AffineForms.{is_kept, plus_times, signed}
use Rattle.ac_parse_exprs.proofs.Columns.{length-plus_times, get_or-plus_times, passed_more, passed_not, passed_all}
use Rattle.ac_parse_exprs.proofs.form.sums.Goals as goal

pub returns-in_default : goal.returns-in_default
returns-in_default c =
    let f : FitsSigned w128 (get_or c.args.xs.now c.loop-i.i (pos 0)) = search rules in
    let g : FitsSigned w128 c.coefficient.result = search rules in
    let h = simp to_z-of_z at c.sum.ensures in
    let w = plus_times (signed c.args.down) c.args.xs.now c.args.ys.now in
    passed_not is_kept w c.loop-i.i (get_or c.args.xs.now c.loop-i.i (pos 0) +ℤ signed c.args.down *ℤ c.coefficient.result)
    (omega (arith, length-plus_times (signed c.args.down) c.args.xs.now c.args.ys.now))
    (get_or-plus_times (signed c.args.down) c.args.xs.now c.args.ys.now c.loop-i.i (omega arith) ∙ ap (λ y. get_or c.args.xs.now c.loop-i.i (pos 0) +ℤ signed c.args.down *ℤ y) (sym c.coefficient.ensures))
    (sym c.in_default.is ∙ h)

pub loop-i-preserved : goal.loop-i-preserved
loop-i-preserved c =
    let f : FitsSigned w128 (get_or c.args.xs.now c.loop-i.i (pos 0)) = search rules in
    let g : FitsSigned w128 c.coefficient.result = search rules in
    let z : FitsSigned w128 c.in-Some.z = search rules in
    let h = simp to_z-of_z at c.sum.ensures in
    let w = plus_times (signed c.args.down) c.args.xs.now c.args.ys.now in
    let t = passed_more is_kept w c.loop-i.sums c.push.new.self c.loop-i.i (get_or c.args.xs.now c.loop-i.i (pos 0) +ℤ signed c.args.down *ℤ c.coefficient.result) c.in-Some.z
    (omega (arith, length-plus_times (signed c.args.down) c.args.xs.now c.args.ys.now))
    (get_or-plus_times (signed c.args.down) c.args.xs.now c.args.ys.now c.loop-i.i (omega arith) ∙ ap (λ y. get_or c.args.xs.now c.loop-i.i (pos 0) +ℤ signed c.args.down *ℤ y) (sym c.coefficient.ensures))
    (sym c.in-Some.is ∙ h) c.loop-i.invariant.so_far c.loop-i.invariant.kept (simp to_z-of_z at c.in_ok-push.ensures.ok) in
    record { so_far = t.0; kept = t.1 }

pub returns : goal.returns
returns c = passed_all is_kept (plus_times (signed c.args.down) c.args.xs.now c.args.ys.now) c.loop-i.sums c.loop-i.i (omega (arith, length-plus_times (signed c.args.down) c.args.xs.now c.args.ys.now)) c.loop-i.invariant.so_far c.loop-i.invariant.kept
