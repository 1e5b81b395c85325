use Rattle.std.proofs.Common.{◌≡◌, drop, map}
use Rattle.ac_parse_grammar.specs.Terminals as spec
use Rattle.ac_parse_grammar.proofs.terminal.look_up.Given as goal

abbrev pub invariant-loop-row : goal.invariant-loop-row
invariant-loop-row l = spec.look_up (map (λ row. (row.0.now, row.1)) (drop l.row-index l.table)) l.text l.other ≡ spec.look_up (map (λ row. (row.0.now, row.1)) l.table) l.text l.other
