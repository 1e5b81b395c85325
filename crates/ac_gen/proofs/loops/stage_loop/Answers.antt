use Rattle.std.proofs.Common.{rules, ◌≡◌, ℤ, FitsSigned, w64, to_z, of_z, [], ◌∷◌, pos, negsuc, codes, ◌∙◌, ◌+◌, ◌-ℤ◌}
use Rattle.std.proofs.lemmas.Int.{to_z-of_z}
use Rattle.std.proofs.lemmas.Result.{IfOk-weaker}
use Rattle.ac_syntax.specs.declared.tree.Rel.TheVariants.{NonNegative}
use Rattle.ac_syntax.specs.declared.tree.Stmt.TheVariants as stmt
use Rattle.ac_syntax.specs.declared.tree.Value.TheVariants as value
use Rattle.ac_gen.specs.PipelineLoops as spec
use Rattle.ac_gen.proofs.Shifts.{shifted_is}
use Rattle.ac_gen.proofs.loops.stage_loop.Goals as goal

fitting : (z : ℤ) → FitsSigned w64 z → to_z w64 (of_z w64 z) ≡ z
fitting z h = to_z-of_z w64 z h

pub returns : goal.returns
returns c =
    let t = c.args.stage in
    let at = pos 0 -ℤ pos t.shift in
    let from = pos t.reach -ℤ pos t.shift in
    let reach_is : c.from.result ≡ t.reach = c.from.ensures in
    let shift_is : c.from-shift.result ≡ t.shift = c.from-shift.ensures in
    let margin_is : c.from-2.result ≡ c.args.margin = c.from-2.ensures in
    let ahead = fitting c.difference-ahead.result (search rules) ∙ c.difference-ahead.ensures ∙ (λ i. pos (reach_is i) -ℤ pos (shift_is i)) in
    let behind = fitting c.difference-behind.result (search rules) ∙ c.difference-behind.ensures ∙ (λ i. pos 0 -ℤ pos (shift_is i)) in
    let start = fitting c.difference.result (search rules) ∙ c.difference.ensures ∙ (λ i. pos (shift_is i) -ℤ pos 0) in
    let end = fitting c.difference-2.result (search rules) ∙ c.difference-2.ensures ∙ (λ i. pos (margin_is i + shift_is i) -ℤ pos 1) in
    let read = value.Access c.args.source (spec.form from (pos 0) (pos 1 ∷ []) ∷ []) spec.nowhere in
    let call = value.Call (spec.function_symbol t.function) (read ∷ []) spec.nowhere in
    let body = stmt.Assign c.args.target (spec.form at (pos 0) (pos 1 ∷ []) ∷ []) call spec.nowhere in
    let read_is : c.in_ok-argument.argument ≡ read = c.in_ok-argument.ensures ∙ (λ i. value.Access c.args.source (spec.form (ahead i) (pos 0) (pos 1 ∷ []) ∷ []) spec.nowhere) in
    let call_is : c.in_ok-call.call ≡ call = c.in_ok-call.ensures ∙ (λ i. value.Call (spec.function_symbol t.function) (read_is i ∷ []) spec.nowhere) in
    let body_is : c.in_ok-body.body ≡ body = c.in_ok-body.ensures ∙ (λ i. stmt.Assign c.args.target (spec.form (behind i) (pos 0) (pos 1 ∷ []) ∷ []) (call_is i) spec.nowhere) in
    IfOk-weaker c.counting.result _ _
    (λ r e. e
    ∙ (λ i. stmt.For (codes "i") (spec.form (start i) (pos 0) []) (record { parts = record { form = spec.form (end i) (pos 1) (negsuc 0 ∷ []); rel = NonNegative } ∷ [] }) (pos 1) (body_is i ∷ []) spec.nowhere)
    ∙ shifted_is c.args.target t.function c.args.source t.reach c.args.margin t.shift)
    c.counting.ensures
