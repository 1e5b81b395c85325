-- The flow of a position.
use Rattle.std.specs.Prelude.{List, [], ◌∷◌, Option, Some, None, cond}
use Rattle.ac_syntax.specs.declared.tree.Position.{Position}
use Rattle.ac_claims.specs.ProofEnds.{same_position}
use Rattle.ac_flow.specs.declared.types.ReadFlow.{ReadFlow}

-- the first of the flows that is of the position
abbrev pub flow_at : List ReadFlow → Position → Option ReadFlow
flow_at [] P = None
flow_at (f ∷ fs) P = cond (same_position f.position P) (Some f) (flow_at fs P)
