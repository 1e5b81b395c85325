-- Both models of a pair with its commutative names, and the calls of a model, as the code has them.
use Rattle.std.specs.Prelude.{map}
use Rattle.ac_syntax.specs.Outputs.{swaps_of}
use Rattle.ac_syntax.specs.declared.tree.Position.TheVariants.{Node}
use Rattle.ac_claims_paths.specs.PathSteps.{Pairing}
use Rattle.ac_claims_paths.specs.ModelPositions.{CallAt}
use Rattle.ac_claims_paths.specs.declared.path.Programs.{Programs}
use Rattle.ac_claims_paths.specs.declared.places.CallNode.{CallNode}

abbrev pub pairing : Programs → Pairing
pairing p = record { params = p.left.now.params; left = p.left.now; right = p.right.now; swaps = swaps_of p.commutative.now }

-- a call with the positions of its arguments
abbrev pub called : CallNode → CallAt
called c = record { symbol = c.symbol.now; args = map (Node c.stmt) c.args.now }
