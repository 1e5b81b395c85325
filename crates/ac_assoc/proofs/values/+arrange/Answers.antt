use Rattle.std.proofs.Common.{rules, ◌≡◌, ◌++◌, ◌+◌, [], true, false}
use Rattle.ac_syntax.specs.ValueNodes.{size}
use Rattle.ac_syntax.specs.Outputs.{swaps_of}
use Rattle.ac_assoc_law.specs.OperandChains.{is_binary}
use Rattle.ac_assoc.specs.ChosenOrders.{number_at}
use Rattle.ac_assoc.specs.ValueSequences.{brought}
use Rattle.ac_assoc.proofs.Arranging.{call_joined, call_kept, bring_joined, bring_other, values_step, brought_step}
use Rattle.ac_assoc.proofs.Passing.{through_ok}
use Rattle.ac_assoc.proofs.values.+arrange.Goals as goal

pub arrange_value-returns-in_ok-bring_all-in-Call : goal.arrange_value-returns-in_ok-bring_all-in-Call
arrange_value-returns-in_ok-bring_all-in-Call t c =
    let f : c.in_ok-first-in-Call.first ≡ c.args.node + 1 = search rules in
    let h : swaps_of c.args.by.names.now c.in-Call.symbol ≡ true = search rules in
    let o : c.bring_all.new.operands ≡ [] ++ brought c.args.by.names.now (number_at c.args.by.orders.now c.args.by.stmt) c.in-Call.symbol.name c.in_ok-first-in-Call.first c.as_slice.result.now = search rules in
    through_ok c.one_call.result (λ made m. call_joined _ _ _ _ _ _ _ c.in-Call.symbol c.in-Call.args _ _ c.in-Call.place c.in-Call.is c.as_slice.ensures f h o c.number_at-number.ensures m) c.one_call.ensures

pub arrange_value-returns-in_ok-arrange_values-in-Call : goal.arrange_value-returns-in_ok-arrange_values-in-Call
arrange_value-returns-in_ok-arrange_values-in-Call t c =
    let f : c.in_ok-first-in-Call.first ≡ c.args.node + 1 = search rules in
    let h : swaps_of c.args.by.names.now c.in-Call.symbol ≡ false = search rules in
    call_kept _ _ _ _ _ c.in-Call.symbol _ c.in-Call.args _ _ c.in-Call.place c.in-Call.is c.as_slice-else-joins.ensures f h c.in_ok-copy_symbol-in-Call.ensures c.in_ok-arrange_values-in-Call.ensures

pub arrange_values-loop-value-preserved : goal.arrange_values-loop-value-preserved
arrange_values-loop-value-preserved t c =
    let l : c.in_ok-at.at ≡ c.loop-value.at + size c.value-item.result = search rules in
    values_step _ _ _ _ _ _ _ _ _ c.value-item.result _ c.loop-value.invariant (search rules) c.value-item.is c.in_ok-arrange_value.ensures c.in_ok-push.ensures.ok l

pub bring-returns-in_ok-first-in-Call : goal.bring-returns-in_ok-first-in-Call
bring-returns-in_ok-first-in-Call t c =
    let f : c.in_ok-first-in-Call.first ≡ c.args.node + 1 = search rules in
    let h : is_binary c.args.name.now c.in-Call.symbol ≡ true = search rules in
    through_ok c.bring_all.result (λ u m. bring_joined _ _ _ _ _ _ c.in-Call.symbol c.in-Call.args _ _ _ c.in-Call.place c.in-Call.is c.as_slice.ensures f h m) c.bring_all.ensures

pub bring-returns-in_ok-arrange_value-in-Call : goal.bring-returns-in_ok-arrange_value-in-Call
bring-returns-in_ok-arrange_value-in-Call t c =
    let h : is_binary c.args.name.now c.in-Call.symbol ≡ false = search rules in
    through_ok c.push-else-is_binary.result (λ u m. bring_other _ _ _ _ _ _ c.in-Call.symbol c.in-Call.args _ _ c.in-Call.place c.in-Call.is h c.in_ok-arrange_value-in-Call.ensures m) c.push-else-is_binary.ensures.ok

pub bring_all-loop-value-preserved : goal.bring_all-loop-value-preserved
bring_all-loop-value-preserved t c =
    let l : c.in_ok-at.at ≡ c.loop-value.at + size c.value-item.result = search rules in
    brought_step _ _ _ _ _ _ _ _ _ _ _ c.value-item.result c.loop-value.invariant (search rules) c.value-item.is c.in_ok-bring.ensures l
