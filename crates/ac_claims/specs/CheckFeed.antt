-- A check that is fed with the lines of a proof.
use Rattle.std.specs.Prelude.{◌≡◌, ℕ, List, [], ◌∷◌, map, length, Option, Some, None, Ok, Err}
use Rattle.std.specs.List.{flat_map}
use Rattle.ac_forms.specs.declared.row.Row.{Row}
use Rattle.ac_cert.specs.CertificateFaults.{Fault}
use Rattle.ac_omega_steps.specs.declared.choose.Choice.{Choice}
use Rattle.ac_cert.specs.declared.types.Step.{Step}
use Rattle.ac_claims_paths.specs.ModelCalls.{pairing}
use Rattle.ac_claims_paths.specs.PathSteps.{Pairing}
use Rattle.ac_claims.specs.CheckState.{state_of, IsSteady, SamePair}
use Rattle.ac_claims.specs.ProofMachine.{items_of, lines_of}
use Rattle.ac_claims.specs.ProofFaults.{IsValidProof}
use Rattle.ac_claims.specs.Steppers.{State, after_all, beginning, answer_of, capped}
use Rattle.ac_claims.specs.declared.item.Item.{Item}
use Rattle.ac_claims.specs.declared.item.Item.TheVariants as item
use Rattle.ac_claims.specs.declared.stepper.Stepper.{Stepper}
use Rattle.ac_claims.specs.declared.types.Claim.{Claim}
use Rattle.ac_claims.specs.declared.types.ClaimTree.{ClaimTree}
use Rattle.ac_claims.specs.declared.types.Heads.{Heads}
use Rattle.ac_claims.specs.declared.types.Proof.{Proof}
use Rattle.ac_claims.specs.declared.types.ProofFault.{ProofFault}
use Rattle.ac_claims.specs.declared.types.ProofFault.TheVariants.{Refused, Memory}

-- the state behind items
abbrev pub fed_by : Pairing → List ℕ → List Item → Option State → Option State
fed_by g outputs xs None = None
fed_by g outputs xs (Some s) = Some (after_all g outputs xs s)

abbrev pub fed : Stepper → List Item → Option State
fed s xs = fed_by (pairing s.programs) s.outputs.now xs (state_of s)

-- the check has come so far that a rest of the items leads it where all of them lead the old one
pub record Reaches (old : Stepper) (all : List Item) (new : Stepper) (rest : List Item) : Type 0 where
  pub steady : IsSteady new
  pub same : SamePair old new
  pub state : fed new rest ≡ fed old all

-- it has taken the items
abbrev pub Feeds : List Item → Stepper → Stepper → Type 0
Feeds xs old new = Reaches old xs new []

-- the items of steps, of a claim and of a tree
abbrev pub of_step : Step → List Item
of_step s = item.Step s ∷ []

abbrev pub of_choice : Choice → List Item
of_choice x = item.Choice x ∷ []

abbrev pub of_row : Row → List Item
of_row r = item.Row r ∷ []

abbrev pub of_claim : Claim → List Item
of_claim c = item.Claim c.left c.right (length c.rows) ∷ flat_map of_row c.rows

abbrev pub of_output : ℕ × ℕ → List Item
of_output o = item.Output o.0 o.1 ∷ []

abbrev pub of_tree : ClaimTree → List Item
of_tree t = item.Tree t.claim t.left_piece t.right_piece ∷ items_of t.tree

abbrev pub of_heads : Option Heads → List Item
of_heads None = []
of_heads (Some h) = item.Left h.left ∷ item.Right h.right ∷ []

-- the answer of a state; none where there was no memory
abbrev pub HasAnswer : Option State → List ℕ → Type 0
HasAnswer (Some s) outputs = answer_of s.came ≡ Ok outputs
HasAnswer None outputs = ⊥

abbrev pub HasRefusal : Option State → ProofFault → Type 0
HasRefusal (Some s) (Refused line rule) = answer_of s.came ≡ Err (line, rule)
HasRefusal (Some s) (Memory e) = ⊥
HasRefusal None (Refused line rule) = ⊥
HasRefusal None (Memory e) = Unit {0}

-- the state is the one behind the lines of a proof
abbrev pub IsBehind : Pairing → List ℕ → Proof → Option State → Type 0
IsBehind g outputs p o = o ≡ Some (after_all g outputs (lines_of p) beginning)

-- the proof is valid, and these are its outputs
abbrev pub IsVerdict : Pairing → List ℕ → Proof → List ℕ → Type 0
IsVerdict g outputs p named = IsValidProof g outputs p × (named ≡ map (λ o. o.0) p.outputs)

-- a fault is the first one, its line as it is counted; want of memory tells nothing
abbrev pub IsFirstFault : Fault → ProofFault → Type 0
IsFirstFault f (Refused line rule) = (k : ℕ) × (f ≡ Some (k, rule)) × (line ≡ capped k)
IsFirstFault f (Memory e) = Unit {0}
