-- The machine for a whole proof with the line where it stands, and its answer.
use Rattle.std.specs.Prelude.{ℕ, ◌-◌, ◌^◌, min, List, [], ◌∷◌, map, Some, None, Result, Ok, Err}
use Rattle.ac_cert.specs.CertificateFaults.{Fault, later}
use Rattle.ac_cert.specs.declared.types.Rule.{Rule}
use Rattle.ac_claims_paths.specs.PathSteps.{Pairing}
use Rattle.ac_claims.specs.ProofFaults.{proof_fault}
use Rattle.ac_claims.specs.ProofMachine.{Known, Came, No, Yes, unknown, come}
use Rattle.ac_claims.specs.declared.item.Item.{Item}
use Rattle.ac_claims.specs.declared.types.Proof.{Proof}

-- the line of the next item; what is known, or the first refusal
pub record State : Type 0 where
  pub line : ℕ
  pub came : Came

abbrev pub come_by : Came → (Known → Came) → Came
come_by (No k r) go = No k r
come_by (Yes s) go = go s

-- behind an item. The first refusal is kept, and the line stands still at the last number of `u64`
abbrev pub after : Pairing → List ℕ → Item → State → State
after g outputs x s = record { line = later s.line 1; came = come_by s.came (come g outputs x s.line) }

-- behind several
abbrev pub after_all : Pairing → List ℕ → List Item → State → State
after_all g outputs [] s = s
after_all g outputs (x ∷ xs) s = after_all g outputs xs (after g outputs x s)

-- nothing is known before line 2
abbrev pub beginning : State
beginning = record { line = 2; came = Yes unknown }

-- the outputs that were named, or the first refusal
abbrev pub answer_of : Came → Result (List ℕ) (ℕ × Rule)
answer_of (No k r) = Err (k, r)
answer_of (Yes s) = Ok s.named

-- a line as it is counted
abbrev pub capped : ℕ → ℕ
capped k = min k (2 ^ 64 - 1)

abbrev pub verdict_by : Fault → List ℕ → Result (List ℕ) (ℕ × Rule)
verdict_by None outputs = Ok outputs
verdict_by (Some f) outputs = Err (capped f.0, f.1)

-- the verdict on a proof: its outputs where it is valid, else its first fault
abbrev pub verdict : Pairing → List ℕ → Proof → Result (List ℕ) (ℕ × Rule)
verdict g outputs p = verdict_by (proof_fault g outputs p) (map (λ o. o.0) p.outputs)
