-- What is due in a plan under way, and what taking an item answers.
use Rattle.std.specs.Prelude.{◌≡◌, ℕ, List, [], Option, Some, None, Result, Ok, Err}
use Rattle.std.specs.List.{AllByRecursion}
use Rattle.std.specs.declared.alloc.AllocError.{AllocError}
use Rattle.ac_forms.specs.Rows.{HaveModuli, IsWellMade}
use Rattle.ac_claims_paths.specs.WellFormedPaths.{HasModuli, IsFormed}
use Rattle.ac_claims.specs.Machine.{Due, PlanAt, Choices, Taken, Refused, Onto}
use Rattle.ac_claims.specs.declared.entry.Line.{Line}
use Rattle.ac_claims.specs.declared.entry.Refusal.{Refusal}
use Rattle.ac_claims.specs.declared.types.Claim.{Claim}

-- the path of what is due has its columns and is well made, and so is a copy
abbrev pub IsDueFormed : ℕ → Due → Type 0
IsDueFormed params (PlanAt h) = IsFormed params h
IsDueFormed params (Choices first n h a c) = IsFormed params h × IsWellMade c

-- so is all that is due
abbrev pub AreDueFormed : ℕ → List Due → Type 0
AreDueFormed params = AllByRecursion (IsDueFormed params)

-- each modulus of the claims' rows is at least 1
abbrev pub RowsHaveModuli : List Claim → Type 0
RowsHaveModuli = AllByRecursion (λ (c : Claim). HaveModuli c.rows)

-- so is each modulus of the models and claims by which a line is judged
pub record LineHasModuli (l : Line) : Type 0 where
  pub left : HasModuli l.programs.now.left.now
  pub right : HasModuli l.programs.now.right.now
  pub claims : RowsHaveModuli l.claims.now

-- what an item comes to: no refusal and what is due then, or its refusal, behind which nothing is due. Want of memory tells nothing
abbrev pub Answers : Taken → List Due → Result (Option Refusal) AllocError → Type 0
Answers t new (Ok None) = t ≡ Onto new
Answers t new (Ok (Some f)) = (t ≡ Refused f.line f.rule) × (new ≡ [])
Answers t new (Err e) = Unit {0}
