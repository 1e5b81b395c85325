use Rattle.std.proofs.Common.{◌≡◌, drop, map}
use Rattle.ac_parse_exprs.specs.AffineForms.{all_small, coef_of}
use Rattle.ac_parse_exprs.proofs.quotients.are_small.Given as goal

abbrev pub invariant-loop-quot : goal.invariant-loop-quot
invariant-loop-quot l = all_small (map coef_of (drop l.quot-index l.quots)) ≡ all_small (map coef_of l.quots)
