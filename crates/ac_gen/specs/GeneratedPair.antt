-- Which pair of programs is generated, and what holds of a pair that is never refused.
use Rattle.std.specs.Prelude.{◌≡◌, ◌≢◌, ℕ, ℤ, List, [], ◌∷◌, length, Err}
use Rattle.ac_syntax.specs.Outputs.{IsValuation}
use Rattle.ac_syntax.specs.declared.tree.Pair.{Pair}
use Rattle.ac_syntax.specs.declared.tree.Program.{Program}
use Rattle.ac_gen.specs.Pipelines.{IsGenerated}
use Rattle.ac_instance.specs.ComparisonAnswers.{IsReadyAt, due}
use Rattle.ac_instance.specs.declared.halt.Halt.TheVariants.{OutsideContext}
use Rattle.ac_poly.specs.LoweringFaults.{AreLowerable}
use Rattle.ac_poly_quotients.specs.QuotientScopes.{outermost}
use Rattle.ac_poly.specs.Model.{model_of}
use Rattle.ac_poly.specs.declared.types.Model.{Model}

-- the pair of a seed and a number of stages, without a context, whose output is C
pub record IsGeneratedPair (seed stages : ℕ) (pair : Pair) : Type 0 where
  pub programs : IsGenerated seed stages (pair.left, pair.right)
  pub context : pair.context ≡ record { parts = [] }
  pub commutative : pair.commutative ≡ []
  pub outputs : pair.outputs ≡ 1 ∷ []

-- the models of both programs under the pair's context
abbrev pub models_of : Pair → List Model
models_of pair = model_of pair.left pair.context ∷ model_of pair.right pair.context ∷ []

-- there is one parameter, and each number may be its value
abbrev pub IsEverywhere : Pair → Type 0
IsEverywhere pair = (n : ℤ) → IsValuation pair (n ∷ [])

-- both programs may run at each number
abbrev pub RunsEverywhere : Pair → Type 0
RunsEverywhere pair = (n : ℤ) → IsReadyAt pair (n ∷ [])

-- and no run is due to end outside the context
abbrev pub IsNeverOutside : Pair → Type 0
IsNeverOutside pair = (n : ℤ) (limit : ℕ) → due pair (n ∷ []) limit ≢ Err OutsideContext

-- each assignment has at most 16 pieces, and all numbers that its lowering makes stay in `i128`
abbrev pub IsLowered : Program → Type 0
IsLowered program = AreLowerable program.body 0 (outermost (length program.params)) (Unit {0})

abbrev pub AreLowered : Pair → Type 0
AreLowered pair = IsLowered pair.left × IsLowered pair.right
