use Rattle.std.proofs.Common.{◌≡◌, ◌-◌, drop, map}
use Rattle.ac_parse_exprs.specs.Measures.{measure, total_from, total_of, chained_measured, chain_measured}
use Rattle.ac_parse_exprs.proofs.measure.+measure.Given as goal

abbrev pub invariant-measure_all-loop-e : goal.invariant-measure_all-loop-e
invariant-measure_all-loop-e l = total_from l.total (map (measure l.names l.scope) (drop l.e-index l.es)) ≡ total_of (map (measure l.names l.scope) l.es)

abbrev pub invariant-measure_chain-loop-i : goal.invariant-measure_chain-loop-i
invariant-measure_chain-loop-i l =
    chained_measured l.sofar (map (measure l.names l.scope) (drop l.i l.operands)) (drop (l.i - 1) l.operators)
    ≡ chain_measured l.scope (map (measure l.names l.scope) l.operands) l.operators
