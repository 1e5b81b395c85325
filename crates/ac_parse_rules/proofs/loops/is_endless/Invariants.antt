use Rattle.std.proofs.Common.{◌≡◌, take, false}
use Rattle.std.specs.List.{list_any}
use Rattle.ac_parse_exprs.specs.Comparisons.{compared, part_rel}
use Rattle.ac_parse_rules.specs.Statements.{may_bound, step_number}
use Rattle.ac_parse_rules.proofs.loops.is_endless.Given as goal

abbrev pub invariant-loop-part : goal.invariant-loop-part
invariant-loop-part l = list_any (λ part. may_bound (step_number l.step) (part_rel part) (compared l.names l.scope part)) (take l.part-index l.cond) ≡ false
