use Rattle.std.proofs.Common.{take}
use Rattle.ac_forms.specs.ListMembers.{IsAmong}
use Rattle.ac_walk_state.proofs.partial.has_site.Given as goal

abbrev pub invariant-loop-other : goal.invariant-loop-other
invariant-loop-other l = ¬ (IsAmong l.site (take l.other-index l.sites))
