use Rattle.std.proofs.Common.{◌≡◌, ◌-◌, drop, take, map}
use Rattle.ac_parse_exprs.specs.Values.{value}
use Rattle.ac_parse_exprs.specs.Measures.{build, chained_built, chain_built}
use Rattle.ac_parse_exprs.proofs.value.+build.Given as goal

abbrev pub invariant-build_all-loop-e : goal.invariant-build_all-loop-e
invariant-build_all-loop-e l = l.built ≡ map (value l.names l.scope) (take l.e-index l.es)

abbrev pub invariant-build_chain-loop-i : goal.invariant-build_chain-loop-i
invariant-build_chain-loop-i l =
    chained_built l.scope l.sofar (map (build l.names l.scope) (drop l.i l.operands)) (drop (l.i - 1) l.operators)
    ≡ chain_built l.scope (map (build l.names l.scope) l.operands) l.operators
