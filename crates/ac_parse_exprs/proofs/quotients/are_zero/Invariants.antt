use Rattle.std.proofs.Common.{◌≡◌, drop, map}
use Rattle.std.specs.List.{list_all}
use Rattle.ac_syntax.specs.Index.{is_zero}
use Rattle.ac_parse_exprs.specs.AffineForms.{coef_of}
use Rattle.ac_parse_exprs.proofs.quotients.are_zero.Given as goal

abbrev pub invariant-loop-quot : goal.invariant-loop-quot
invariant-loop-quot l = list_all is_zero (map coef_of (drop l.quot-index l.quots)) ≡ list_all is_zero (map coef_of l.quots)
