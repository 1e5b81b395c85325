-- Shapes of programs as a proof states them.
use Rattle.std.specs.Prelude.{◌≡◌, true, Option, Some, None}
use Rattle.ac_claims_paths.specs.PathSteps.{Pairing}
use Rattle.ac_claims.specs.ProofFaults.{have_shapes}
use Rattle.ac_claims.specs.declared.types.Heads.{Heads}

-- the shapes of both programs, where they are stated
abbrev pub AreHeadsOf : Pairing → Option Heads → Type 0
AreHeadsOf g None = Unit {0}
AreHeadsOf g (Some h) = (have_shapes h.left g.left.stmts ≡ true) × (have_shapes h.right g.right.stmts ≡ true)
