use Rattle.std.proofs.Common.{take}
use Rattle.ac_graph.proofs.SiteSteps.{AreStarts}
use Rattle.ac_graph.proofs.making.starts_of.Given as goal

abbrev pub invariant-loop-output : goal.invariant-loop-output
invariant-loop-output l = AreStarts (take l.output-index l.outputs) l.made
