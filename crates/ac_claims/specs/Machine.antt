-- A machine that takes a plan item by item. It keeps what is due: the paths at which plans are still to come, the next one
-- first, and a copy whose choices are still to come.
use Rattle.std.specs.Prelude.{◌≡◌, ℕ, zero, suc, ◌+◌, ◌-◌, ℤ, pos, ◌-ℤ◌, unsigned_abs, List, [], ◌∷◌, ◌++◌, map, length, Bool, Option, Some, None, cond, nat_eq, slice_get}
use Rattle.ac_forms.specs.Affine.{Affine}
use Rattle.ac_forms.specs.declared.conj.Conj.{Conj}
use Rattle.ac_cert.specs.AbsurdEnd.{absurd_refusal}
use Rattle.ac_cert.specs.CertificateFaults.{Fault}
use Rattle.ac_cert.specs.Rules.{after_step, rule_of, both_sides, class, has_class}
use Rattle.ac_omega_steps.specs.declared.choose.Choice.{Choice}
use Rattle.ac_cert.specs.declared.types.Rule.{Rule}
use Rattle.ac_cert.specs.declared.types.Rule.TheVariants as rule
use Rattle.ac_cert.specs.declared.types.Step.{Step}
use Rattle.ac_claims.specs.ProofEnds.{is_hit, is_number, is_initial}
use Rattle.ac_claims_paths.specs.PathSteps.{Pairing, at_rows, branches}
use Rattle.ac_claims_paths.specs.CopyKills.{case_width, copy_of, chosen, is_killed}
use Rattle.ac_claims.specs.PlanFaults.{count_of}
use Rattle.ac_claims.specs.declared.item.Item.{Item}
use Rattle.ac_claims.specs.declared.item.Item.TheVariants as item
use Rattle.ac_claims_paths.specs.declared.path.Assumed.{Assumed}
use Rattle.ac_claims_paths.specs.declared.path.Path.{Path}
use Rattle.ac_claims.specs.declared.types.Claim.{Claim}
use Rattle.ac_claims.specs.declared.types.PlanNext.{PlanNext, Split', Residue', Go', Row_of-Plan, end_of-Plan, more_of-Plan}
use Rattle.ac_claims.specs.declared.types.PlanNext.TheVariants.{Absurd, Killed, Hit, SameNumber, SameInitial}

-- what is due: a plan at a path; or so many choices of a copy, the line of whose `killed` is kept
pub data Due : Type 0 where
  PlanAt : Path → Due
  Choices : ℕ → ℕ → Path → Assumed → Conj → Due

-- what an item comes to: its refusal, at a line; or what is due then
pub data Taken : Type 0 where
  Refused : ℕ → Rule → Taken
  Onto : List Due → Taken

abbrev pub onto_if : Bool → ℕ → Rule → List Due → Taken
onto_if b k r due = cond b (Onto due) (Refused k r)

abbrev pub onto_some : {A : Type 0} → Option A → ℕ → Rule → (A → Taken) → Taken
onto_some None k r go = Refused k r
onto_some (Some x) k r go = go x

abbrev pub onto_unless : Option Rule → ℕ → List Due → Taken
onto_unless None k due = Onto due
onto_unless (Some r) k due = Refused k r

-- the children of a residue branch, from child i on
abbrev pub classes : ℤ → Affine → ℕ → ℕ → Path → List Due
classes m f i zero h = []
classes m f i (suc n) h = PlanAt (at_rows h (class m f (pos i) h.conj)) ∷ classes m f (i + 1) n h

-- a copy with so many choices to come
abbrev pub settled : ℕ → ℕ → ℕ → Path → Assumed → Conj → List Due → Taken
settled params first zero h a c due = onto_if (is_killed params h.conj.rows a c) first rule.Killed due
settled params first (suc n) h a c due = Onto (Choices first (suc n) h a c ∷ due)

-- a copy that is to kill what was assumed last
abbrev pub copied : Pairing → ℕ → ℕ → Option ℕ → ℕ → ℕ → ℕ → Path → Option Assumed → List Due → Taken
copied g stmt piece after before count k h None due = Refused k rule.Killed
copied g stmt piece after before count k h (Some a) due = onto_some (copy_of g a stmt piece after before) k rule.Killed (λ c. settled g.params k count h a c due)

-- an item at a path where a plan is due; one that is none of a plan leaves what is due
abbrev pub take_at : Pairing → List Claim → Item → ℕ → Path → List Due → Taken
take_at g cs (item.Step s) k h due = onto_some (after_step s h.conj) k (rule_of s) (λ c. Onto (PlanAt (at_rows h c) ∷ due))
take_at g cs (item.Split f) k h due = onto_some (both_sides f h.conj) k rule.Split (λ s. Onto (PlanAt (at_rows h s.0) ∷ PlanAt (at_rows h s.1) ∷ due))
take_at g cs (item.Residue m f) k h due = onto_if (has_class m f (m -ℤ pos 1) h.conj.columns) k rule.Residue (classes m f 0 (unsigned_abs m) h ++ due)
take_at g cs (item.Go order count) k h due = onto_some (branches g order h) k rule.Go (λ hs. onto_if (nat_eq count (length hs)) k rule.Go (map PlanAt hs ++ due))
take_at g cs (item.Absurd i) k h due = onto_unless (absurd_refusal i h.conj) k due
take_at g cs (item.Hit c) k h due = onto_if (is_hit g h (slice_get cs c)) k rule.Hit due
take_at g cs item.Number k h due = onto_if (is_number g h) k rule.Number due
take_at g cs item.Initial k h due = onto_if (is_initial g h) k rule.Initial due
take_at g cs (item.Killed stmt piece after before count) k h due = copied g stmt piece after before count k h h.last due
take_at g cs _ k h due = Onto (PlanAt h ∷ due)

-- an item where a choice is due
abbrev pub choose : ℕ → Item → ℕ → ℕ → ℕ → Path → Assumed → Conj → List Due → Taken
choose params (item.Choice x) k first n h a c due = onto_some (chosen h.conj.columns (case_width params a) x c) k rule.Killed (λ d. settled params first (n - 1) h a d due)
choose params _ k first n h a c due = Onto (Choices first n h a c ∷ due)

-- an item, at line k
abbrev pub take_item : Pairing → List Claim → Item → ℕ → List Due → Taken
take_item g cs x k [] = Onto []
take_item g cs x k (PlanAt h ∷ due) = take_at g cs x k h due
take_item g cs x k (Choices first n h a c ∷ due) = choose g.params x k first n h a c due

abbrev pub goes_on : Taken → (List Due → Fault) → Fault
goes_on (Refused k r) go = Some (k, r)
goes_on (Onto due) go = go due

-- the first refusal of a list of items, and of what goes on behind them
abbrev pub run : Pairing → List Claim → (ℕ → List Due → Fault) → List Item → ℕ → List Due → Fault
run g cs on [] k due = on k due
run g cs on (x ∷ xs) k due = goes_on (take_item g cs x k due) (run g cs on xs (k + 1))

-- the items of steps, of choices and of a plan, in front of others
abbrev pub step_items : List Step → List Item → List Item
step_items [] rest = rest
step_items (s ∷ ss) rest = item.Step s ∷ step_items ss rest

abbrev pub choice_items : List Choice → List Item → List Item
choice_items [] rest = rest
choice_items (x ∷ xs) rest = item.Choice x ∷ choice_items xs rest

abbrev mutual
  pub next_items : PlanNext → List Item → List Item
  next_items (Split' f p s l q t r) rest = item.Split f ∷ step_items s (next_items l (step_items t (next_items r rest)))
  next_items (Residue' m f shape all) rest = item.Residue m f ∷ row_items all rest
  next_items (Go' order shape all) rest = item.Go order (count_of all) ∷ row_items all rest
  next_items (Absurd i) rest = item.Absurd i ∷ rest
  next_items (Killed kill) rest = item.Killed kill.stmt kill.piece kill.after kill.before (length kill.choices) ∷ choice_items kill.choices rest
  next_items (Hit c) rest = item.Hit c ∷ rest
  next_items SameNumber rest = item.Number ∷ rest
  next_items SameInitial rest = item.Initial ∷ rest

  pub row_items : {m : _} → Row_of-Plan m → List Item → List Item
  row_items end_of-Plan rest = rest
  row_items (more_of-Plan s t more) rest = step_items s (next_items t (row_items more rest))

abbrev mutual
  -- each residue branch has as many children as its modulus says
  pub IsSpelled : PlanNext → Type 0
  IsSpelled (Split' f p s l q t r) = IsSpelled l × IsSpelled r
  IsSpelled (Residue' m f shape all) = (m ≡ pos (count_of all)) × AreSpelled all
  IsSpelled (Go' order shape all) = AreSpelled all
  IsSpelled (Absurd i) = Unit {0}
  IsSpelled (Killed kill) = Unit {0}
  IsSpelled (Hit c) = Unit {0}
  IsSpelled SameNumber = Unit {0}
  IsSpelled SameInitial = Unit {0}

  pub AreSpelled : {m : _} → Row_of-Plan m → Type 0
  AreSpelled end_of-Plan = Unit {0}
  AreSpelled (more_of-Plan s t more) = IsSpelled t × AreSpelled more
