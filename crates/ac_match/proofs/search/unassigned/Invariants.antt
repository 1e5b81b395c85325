use Rattle.std.proofs.Common.{◌≡◌, replicate, None}
use Rattle.ac_match.proofs.search.unassigned.Given as goal

abbrev pub invariant-loop-site : goal.invariant-loop-site
invariant-loop-site l = l.made.items ≡ replicate l._site None
