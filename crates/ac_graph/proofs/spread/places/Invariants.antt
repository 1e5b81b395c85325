use Rattle.std.proofs.Common.{take}
use Rattle.ac_forms.specs.ListMembers.{IsAmong}
use Rattle.ac_graph.specs.Reachability.{Extends, ArePlaces}
use Rattle.ac_graph.proofs.spread.places.Given as goal

abbrev pub invariant-loop-at : goal.invariant-loop-at
invariant-loop-at l = Extends l.fn.pairs (take l.at l.more) l.pairs × ArePlaces (λ q. IsAmong q (take l.at l.more)) l.pairs l.made
