use Rattle.std.proofs.Common.{◌≡◌, ◌∷◌, take}
use Rattle.ac_parse_rules.proofs.loops.in_front.Given as goal

abbrev pub invariant-loop-other : goal.invariant-loop-other
invariant-loop-other l = l.all ≡ l.name ∷ take l.other-index l.names
