-- What holds of each generated pair.
use Rattle.std.specs.Prelude.{ℕ, ◌≤◌}
use Rattle.ac_syntax.specs.Small.{IsSmallPair}
use Rattle.ac_syntax.specs.declared.tree.Pair.{Pair}
use Rattle.ac_claims.specs.Soundness.{ArePaired}
use Rattle.ac_gen.specs.GeneratedPair.{IsGeneratedPair, IsEverywhere, RunsEverywhere, IsNeverOutside, AreLowered}

-- each pair of a seed and a number of stages, from 1 to 12
abbrev pub EachGenerated : (Pair → Type 0) → Type 0
EachGenerated P = (seed stages : ℕ) (pair : Pair) → 1 ≤ stages → stages ≤ 12 → IsGeneratedPair seed stages pair → P pair

abbrev pub GeneratedPairsArePaired : Type 0
GeneratedPairsArePaired = EachGenerated ArePaired

abbrev pub GeneratedPairsAreSmall : Type 0
GeneratedPairsAreSmall = EachGenerated IsSmallPair

abbrev pub GeneratedPairsAreLowered : Type 0
GeneratedPairsAreLowered = EachGenerated AreLowered

abbrev pub GeneratedPairsAreEverywhere : Type 0
GeneratedPairsAreEverywhere = EachGenerated IsEverywhere

abbrev pub GeneratedPairsRunEverywhere : Type 0
GeneratedPairsRunEverywhere = EachGenerated RunsEverywhere

abbrev pub GeneratedPairsAreNeverOutside : Type 0
GeneratedPairsAreNeverOutside = EachGenerated IsNeverOutside
