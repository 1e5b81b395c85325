use Rattle.std.proofs.Common.{rules, pos, get_or, FitsSigned, w64, arith, sym, refl, ◌∙◌}
use Rattle.std.specs.Int.{w128}
use Rattle.std.proofs.lemmas.Int.{to_z-of_z}
use Rattle.ac_parse_exprs.specs.AffineForms.{is_small}
use Rattle.ac_parse_exprs.proofs.Columns.{passed_more, passed_not}
use Rattle.ac_parse_exprs.proofs.form.narrowed.Goals as goal

pub returns-in_default : goal.returns-in_default
returns-in_default c =
    let f : FitsSigned w128 (get_or c.args.xs.now c.loop-x.x-index (pos 0)) = search rules in
    let h = simp to_z-of_z at c.small.ensures in
    passed_not is_small c.args.xs.now c.loop-x.x-index (get_or c.args.xs.now c.loop-x.x-index (pos 0)) (omega arith) refl (sym c.in_default.is ∙ h)

pub loop-x-preserved : goal.loop-x-preserved
loop-x-preserved c =
    let f : FitsSigned w128 (get_or c.args.xs.now c.loop-x.x-index (pos 0)) = search rules in
    let z : FitsSigned w64 c.in-Some.z = search rules in
    let h = simp to_z-of_z at c.small.ensures in
    let t = passed_more is_small c.args.xs.now c.loop-x.numbers c.push.new.self c.loop-x.x-index (get_or c.args.xs.now c.loop-x.x-index (pos 0)) c.in-Some.z
    (omega arith) refl (sym c.in-Some.is ∙ h) c.loop-x.invariant.so_far c.loop-x.invariant.small (simp to_z-of_z at c.in_ok-push.ensures.ok) in
    record { so_far = t.0; small = t.1 }
