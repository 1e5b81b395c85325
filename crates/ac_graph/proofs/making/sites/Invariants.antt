use Rattle.std.proofs.Common.{take, ◌↔◌}
use Rattle.ac_syntax.specs.declared.tree.Site.{Site}
use Rattle.ac_claims_paths.specs.PathSteps.{Pairing}
use Rattle.ac_forms.specs.ListMembers.{IsAmong}
use Rattle.ac_graph.specs.PairMoves.{IsSite}
use Rattle.ac_graph.specs.ProgramOutlines.{AreOutlinesOf}
use Rattle.ac_graph.proofs.making.sites.Given as goal

abbrev pub invariant-loop-at : goal.invariant-loop-at
invariant-loop-at l = (g : Pairing) → AreOutlinesOf g l.both → (s : Site) → IsAmong s l.made ↔ (IsAmong (s.left, s.right) (take l.at l.pairs) × IsSite g (s.left, s.right))
