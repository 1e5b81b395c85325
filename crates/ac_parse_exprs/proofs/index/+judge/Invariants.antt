use Rattle.std.proofs.Common.{◌≡◌, ◌-◌, drop, map}
use Rattle.ac_parse_exprs.specs.IndexExpressions.{judged, gathered, no_parts, chained, judged_chain}
use Rattle.ac_parse_exprs.proofs.index.+judge.Given as goal

abbrev pub invariant-judge_parts-loop-e : goal.invariant-judge_parts-loop-e
invariant-judge_parts-loop-e l = gathered l.parts (map (judged l.names l.scope) (drop l.e-index l.es)) ≡ gathered no_parts (map (judged l.names l.scope) l.es)

abbrev pub invariant-judge_chain-loop-i : goal.invariant-judge_chain-loop-i
invariant-judge_chain-loop-i l =
    chained l.sofar (map (judged l.names l.scope) (drop l.i l.operands)) (drop (l.i - 1) l.operators)
    ≡ judged_chain l.scope (map (judged l.names l.scope) l.operands) l.operators
