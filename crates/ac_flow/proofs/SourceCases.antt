-- The cases of the first writings of a read.
use Rattle.std.specs.Prelude.{List, [], ◌∷◌}
use Rattle.ac_poly.specs.declared.types.Model.{Model}
use Rattle.ac_claims_paths.specs.declared.path.CopyNumbers.{CopyNumbers}
use Rattle.ac_flow.specs.declared.types.Case.{Case}
use Rattle.ac_flow.specs.FlowCases.{Reads, IsSourceCase}

-- the cases of the first writings
abbrev pub AreSourceCases : Model → Reads → List CopyNumbers → List Case → Type 0
AreSourceCases m r [] [] = Unit {0}
AreSourceCases m r [] (c ∷ cs) = ⊥
AreSourceCases m r (w ∷ ws) [] = ⊥
AreSourceCases m r (w ∷ ws) (c ∷ cs) = IsSourceCase m r w c × AreSourceCases m r ws cs
