-- What the comparison of two programs at a valuation answers.
use Rattle.std.specs.Prelude.{◌≡◌, ℕ, ℤ, List, [], ◌∷◌, ◌++◌, Option, Some, None, Bool, true, false, Result, Ok, Err, length}
use Rattle.std.specs.List.{flat_map}
use Rattle.ac_syntax.specs.CheckedArithmetic.{checked_holds}
use Rattle.ac_syntax.specs.Index.{Point, point}
use Rattle.ac_syntax.specs.ReadyPrograms.{ReadyAll, FitParts}
use Rattle.ac_syntax.specs.Outputs.{extents_at, IsElement, SameTermsAt}
use Rattle.ac_syntax.specs.declared.tree.Array.{Array}
use Rattle.ac_syntax.specs.declared.tree.Pair.{Pair}
use Rattle.ac_instance.specs.declared.halt.Halt.{Halt}
use Rattle.ac_instance.specs.declared.halt.Halt.TheVariants.{OutsideContext, Wide}
use Rattle.ac_instance.specs.declared.halt.Outcome.{Outcome}
use Rattle.ac_instance.specs.declared.halt.Outcome.TheVariants.{Equal, Different}
use Rattle.ac_instance.specs.declared.halt.Ran.{Ran}
use Rattle.ac_instance.specs.declared.halt.Side.{Side}
use Rattle.ac_instance.specs.declared.halt.Side.TheVariants.{Left, Right}
use Rattle.ac_instance.specs.Events.{Event, reached, in_all, in_output}
use Rattle.ac_instance.specs.Least.{Looked, IsLeast}
use Rattle.ac_instance.specs.MachineSteps.{IsDue}

-- a number for each parameter, bodies with a coefficient for each column whose loops end, and a context without quotients
pub record IsReadyAt (pair : Pair) (params : List ℤ) : Type 0 where
  pub count : length params ≡ length pair.left.params
  pub left : ReadyAll (length params) 0 pair.left.body
  pub right : ReadyAll (length params) 0 pair.right.body
  pub context : FitParts (length params) 0 pair.context.parts

-- what happens while outputs are compared, one after another
abbrev pub in_outputs : Side → Point → List Array → List ℕ → List Event
in_outputs side p arrays = flat_map (λ o. in_output side p (extents_at arrays o))

-- the left run, the right run, and then the outputs
abbrev pub everything : Pair → List ℤ → List Event
everything pair params =
    in_all Left (point params []) pair.left.body ++ in_all Right (point params []) pair.right.body
    ++ in_outputs Left (point params []) pair.left.arrays pair.outputs

-- the context is tested first
abbrev pub in_context : Option Bool → Result ℕ Halt → Result ℕ Halt
in_context None rest = Err Wide
in_context (Some false) rest = Err OutsideContext
in_context (Some true) rest = rest

-- the number of all events, or the halt that comes first
abbrev pub due : Pair → List ℤ → ℕ → Result ℕ Halt
due pair params limit = in_context (checked_holds (point params []) pair.context.parts) (reached limit 0 (everything pair params))

-- equal where the terms of all elements agree, else the least element whose terms do not
abbrev pub IsOutcome : Looked → Outcome → Type 0
IsOutcome looked Equal = IsLeast looked None
IsOutcome looked (Different e) = IsLeast looked (Some e)

abbrev pub outcome_of : Option (List ℤ) → Outcome
outcome_of None = Equal
outcome_of (Some e) = Different e

-- an outcome for each output, in order
abbrev pub AreOutcomes : (ℕ → Looked) → List ℕ → List Outcome → Type 0
AreOutcomes looked [] [] = Unit {0}
AreOutcomes looked [] (r ∷ rs) = ⊥
AreOutcomes looked (o ∷ os) [] = ⊥
AreOutcomes looked (o ∷ os) (r ∷ rs) = IsOutcome (looked o) r × AreOutcomes looked os rs

-- an output's elements, and where the terms that both programs leave there agree
abbrev pub compared : Pair → List ℤ → ℕ → Looked
compared pair params output = record { At = IsElement pair params output; Agrees = SameTermsAt pair params output }

-- what the runs and the comparison answer
abbrev pub IsRan : Pair → List ℤ → ℕ → Result Ran Halt → Type 0
IsRan pair params limit (Ok ran) = (reached limit 0 (everything pair params) ≡ Ok ran.events) × AreOutcomes (compared pair params) pair.outputs ran.outcomes
IsRan pair params limit (Err h) = IsDue (reached limit 0 (everything pair params)) h

-- the events that are due and the outcomes of the outputs, or the halt that is due
abbrev pub IsAnswer : Pair → List ℤ → ℕ → Result Ran Halt → Type 0
IsAnswer pair params limit (Ok ran) = (due pair params limit ≡ Ok ran.events) × AreOutcomes (compared pair params) pair.outputs ran.outcomes
IsAnswer pair params limit (Err h) = IsDue (due pair params limit) h
