-- The state of a check, and its answer.
use Rattle.std.specs.Prelude.{◌≡◌, List, Option, Some, None, cond}
use Rattle.ac_claims_paths.specs.ModelCalls.{pairing}
use Rattle.ac_claims_paths.specs.PathSteps.{Pairing}
use Rattle.ac_claims.specs.CheckKnowledge.{known_of, IsFrontMade}
use Rattle.ac_claims.specs.Dues.{AreDueFormed}
use Rattle.ac_claims.specs.Machine.{Due}
use Rattle.ac_claims.specs.ProofMachine.{Came, No, Yes}
use Rattle.ac_claims.specs.ReadyModels.{AreReady}
use Rattle.ac_claims.specs.Steppers.{State}
use Rattle.ac_claims.specs.declared.entry.Refusal.{Refusal}
use Rattle.ac_claims.specs.declared.front.Front.{Front}
use Rattle.ac_claims.specs.declared.stepper.Stepper.{Stepper}

-- the first refusal, or what is known
abbrev pub came_by : Pairing → Front → List Due → Option Refusal → Came
came_by g f due None = Yes (known_of g f due)
came_by g f due (Some r) = No r.line r.rule

abbrev pub came_of : Stepper → Came
came_of s = came_by (pairing s.programs) s.front s.due s.fault

-- the state; none after want of memory
abbrev pub state_of : Stepper → Option State
state_of s = cond s.want None (Some (record { line = s.line; came = came_of s }))

-- what is known and due is well made
pub record IsSteady (s : Stepper) : Type 0 where
  pub ready : AreReady s.programs
  pub made : IsFrontMade (pairing s.programs) s.front
  pub formed : AreDueFormed s.programs.left.now.params s.due

-- the same pair is checked
pub record SamePair (old new : Stepper) : Type 0 where
  pub programs : new.programs ≡ old.programs
  pub outputs : new.outputs ≡ old.outputs
