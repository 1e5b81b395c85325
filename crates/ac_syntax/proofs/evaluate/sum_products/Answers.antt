use Rattle.std.proofs.Common.{◌+◌, pos, drop, get_or, FitsSigned, to_z, w64, rules, arith, ap, sym, ◌∙◌, length, ◌≤◌, ◌⊎◌}
use Rattle.std.specs.Int.{w128}
use Rattle.std.specs.Prelude.{option_and_then}
use Rattle.std.proofs.lemmas.Int.{to_z-of_z}
use Rattle.ac_syntax.specs.CheckedArithmetic.{summed}
use Rattle.ac_syntax.proofs.Wide.{summed_step, summed_end}
use Rattle.ac_syntax.proofs.evaluate.sum_products.Goals as goal

pub loop-i-preserved : goal.loop-i-preserved
loop-i-preserved c =
    let f : FitsSigned w64 (get_or c.args.coefs.now c.loop-i.i (pos 0)) = search rules in
    let g : FitsSigned w64 (get_or c.args.values.now c.loop-i.i (pos 0)) = search rules in
    let s : FitsSigned w128 c.in_ok-sum.sum = search rules in
    let z : FitsSigned w128 c.args.start = c.ranges.start in
    let e = simp to_z-of_z at c.in_ok-sum.ensures in
    let step = summed_step (to_z w128 c.loop-i.sum-bits) c.args.coefs.now c.args.values.now c.loop-i.i (omega arith) (omega arith) in
    simp to_z-of_z (sym (step ∙ ap (option_and_then (λ t. summed t (drop (c.loop-i.i + 1) c.args.coefs.now) (drop (c.loop-i.i + 1) c.args.values.now))) (sym e)) ∙ (simp to_z-of_z at c.loop-i.invariant))

pub returns-in_err-sum : goal.returns-in_err-sum
returns-in_err-sum c =
    let f : FitsSigned w64 (get_or c.args.coefs.now c.loop-i.i (pos 0)) = search rules in
    let g : FitsSigned w64 (get_or c.args.values.now c.loop-i.i (pos 0)) = search rules in
    let z : FitsSigned w128 c.args.start = c.ranges.start in
    let e = simp to_z-of_z at c.add_product.ensures in
    let step = summed_step (to_z w128 c.loop-i.sum-bits) c.args.coefs.now c.args.values.now c.loop-i.i (omega arith) (omega arith) in
    c.from_residual.ensures ∙ sym (sym (simp to_z-of_z at c.loop-i.invariant) ∙ step ∙ ap (option_and_then (λ t. summed t (drop (c.loop-i.i + 1) c.args.coefs.now) (drop (c.loop-i.i + 1) c.args.values.now))) (sym e ∙ c.in_err-sum.was))

pub returns : goal.returns
returns c =
    let ends : (length c.args.coefs.now ≤ c.loop-i.i) ⊎ (length c.args.values.now ≤ c.loop-i.i) = grind (arith, c.min-i-end.ensures, c.loop-i-test.false) in
    let z : FitsSigned w128 c.args.start = c.ranges.start in
    sym (sym (simp to_z-of_z at c.loop-i.invariant) ∙ summed_end (to_z w128 c.loop-i.sum-bits) c.args.coefs.now c.args.values.now c.loop-i.i ends)
