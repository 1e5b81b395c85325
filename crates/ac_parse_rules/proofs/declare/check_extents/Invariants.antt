use Rattle.std.proofs.Common.{◌≡◌, drop, map}
use Rattle.ac_parse_exprs.specs.Comparisons.{first_from, index_broken}
use Rattle.ac_parse_rules.specs.Declarations.{extents_broken}
use Rattle.ac_parse_rules.proofs.declare.check_extents.Given as goal

abbrev pub invariant-loop-extent : goal.invariant-loop-extent
invariant-loop-extent l = first_from l.broken (map (λ extent. index_broken l.visible l.scope extent.size) (drop l.extent-index l.extents)) ≡ extents_broken l.visible l.scope l.extents
