use Rattle.std.proofs.Common.{◌≡◌, drop, map}
use Rattle.ac_parse_exprs.specs.Comparisons.{first_from, condition_broken, whole_broken, compared}
use Rattle.ac_parse_exprs.proofs.comparison.check_condition.Given as goal

abbrev pub invariant-loop-part : goal.invariant-loop-part
invariant-loop-part l = first_from l.broken (map (λ part. whole_broken (compared l.names l.scope part)) (drop l.part-index l.parts)) ≡ condition_broken l.names l.scope l.parts
