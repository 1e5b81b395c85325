use Rattle.std.proofs.Common.{◌≡◌, ◌++◌, drop}
use Rattle.std.specs.Option.{option_map}
use Rattle.ac_parse_exprs.specs.AffineForms.{scaled_quots}
use Rattle.ac_parse_exprs.proofs.quotients.scaled.Given as goal

abbrev pub invariant-loop-quot : goal.invariant-loop-quot
invariant-loop-quot l = option_map (λ rest. l.made ++ rest) (scaled_quots l.k (drop l.quot-index l.quots)) ≡ scaled_quots l.k l.quots
