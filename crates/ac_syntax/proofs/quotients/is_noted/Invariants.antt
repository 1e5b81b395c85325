use Rattle.std.proofs.Common.{◌≡◌, drop}
use Rattle.std.specs.List.{list_any}
use Rattle.ac_syntax.specs.Quotients.{same_quot}
use Rattle.ac_syntax.proofs.quotients.is_noted.Given as goal

abbrev pub invariant-loop-other : goal.invariant-loop-other
invariant-loop-other l = list_any (same_quot l.quot) (drop l.other-index l.seen) ≡ list_any (same_quot l.quot) l.seen
