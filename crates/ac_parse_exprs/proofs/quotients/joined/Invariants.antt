use Rattle.std.proofs.Common.{◌≡◌, drop}
use Rattle.ac_parse_exprs.specs.AffineForms.{signed, joined_quots}
use Rattle.ac_parse_exprs.proofs.quotients.joined.Given as goal

abbrev pub invariant-loop-quot : goal.invariant-loop-quot
invariant-loop-quot l = joined_quots (signed l.down) l.made (drop l.quot-index l.second) ≡ joined_quots (signed l.down) l.first l.second
