use Rattle.std.proofs.Common.{ap, sym}
use Rattle.ac_claims.specs.Machine.{Onto}
use Rattle.ac_claims.proofs.parts.awaits.Goals as goal

pub returns : goal.returns
returns c = (ap Onto (sym c.in_ok-push_at.ensures.dues), c.in_ok-push_at.ensures.entries)
