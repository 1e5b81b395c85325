use Rattle.std.proofs.Common.{ap}
use Rattle.ac_unfold.specs.UnfoldEnds.{place_of}
use Rattle.ac_unfold.proofs.breaks.place_of.Goals as goal

pub returns-in-Output : goal.returns-in-Output
returns-in-Output c = ap place_of c.in-Output.is

pub returns-in-Node : goal.returns-in-Node
returns-in-Node c = ap place_of c.in-Node.is

pub returns-in-InitialOutput : goal.returns-in-InitialOutput
returns-in-InitialOutput c = ap place_of c.in-InitialOutput.is

pub returns-in-InitialNode : goal.returns-in-InitialNode
returns-in-InitialNode c = ap place_of c.in-InitialNode.is
