use Rattle.std.proofs.Common.{◌≡◌, ◌-◌, ◌+◌, ◌≤◌, map, drop, length, arith, sym, ap, ◌∙◌, false, nat_lt}
use Rattle.std.proofs.lemmas.Bool.Decides.{nat_tests}
use Rattle.ac_parse_exprs.specs.Measures.{measure, chained_measured, joined_measured}
use Rattle.ac_parse_exprs.proofs.Kept.{measured_stop, measured_step}
use Rattle.ac_parse_exprs.proofs.measure.+measure.Goals as goal

pub measure_chain-returns-in_default-get : goal.measure_chain-returns-in_default-get
measure_chain-returns-in_default-get t c =
    let h : false ≡ nat_lt (c.loop-i.i - 1) (length c.args.operators.now) = c.in_default-get.ensures.lookup.0 in
    let l : length c.args.operators.now ≤ c.loop-i.i - 1 = grind (arith, nat_tests) in
    sym (measured_stop c.loop-i.sofar (map (measure c.args.names.now c.args.scope.now) (drop c.loop-i.i c.args.operands.now)) c.args.operators.now (c.loop-i.i - 1) l) ∙ c.loop-i.invariant

pub measure_chain-loop-i-preserved : goal.measure_chain-loop-i-preserved
measure_chain-loop-i-preserved t c =
    let f = measure c.args.names.now c.args.scope.now in
    let h = c.in-Some-get.ensures.lookup in
    let is = c.in_ok-sofar-2.ensures ∙ ap (joined_measured c.in-Some-get.operator.now c.loop-i.sofar) c.in_ok-next.ensures in
    let step =
    measured_step f c.args.operands.now c.args.operators.now c.loop-i.i c.index-operands-i.result c.in-Some-get.operator.now c.loop-i.sofar
    (omega arith) (omega arith) h.3.0 c.index-operands-i.is h.1 in
    ap (λ a. chained_measured a (map f (drop (c.loop-i.i + 1) c.args.operands.now)) (drop (c.loop-i.i + 1 - 1) c.args.operators.now)) is ∙ sym step ∙ c.loop-i.invariant
