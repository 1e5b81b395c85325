use Rattle.std.proofs.Common.{◌≡◌, take, map}
use Rattle.ac_parse_exprs.specs.Comparisons.{index}
use Rattle.ac_parse_rules.proofs.declare.build_extents.Given as goal

abbrev pub invariant-loop-extent : goal.invariant-loop-extent
invariant-loop-extent l = l.built ≡ map (λ extent. index l.visible l.scope extent.size) (take l.extent-index l.extents)
