-- What a check of a proof knows, and what a line of the proof comes to.
use Rattle.std.specs.Prelude.{◌≡◌, ℕ, Bool, List, [], ◌∷◌, Option, Some, None, option_and_then, option_map, cond, Result, Ok, Err}
use Rattle.std.specs.List.{AllByRecursion}
use Rattle.std.specs.declared.alloc.AllocError.{AllocError}
use Rattle.ac_forms.specs.Rows.{AreRowsOver, HasModulus}
use Rattle.ac_cert.specs.declared.types.Rule.{Rule}
use Rattle.ac_claims_paths.specs.PathSteps.{Pairing}
use Rattle.ac_claims.specs.Machine.{Due}
use Rattle.ac_claims.specs.ProofFaults.{Domain, domain, start_columns}
use Rattle.ac_claims.specs.ProofMachine.{Known, Came, No, Yes}
use Rattle.ac_claims.specs.RemainingPlans.{remaining}
use Rattle.ac_claims.specs.declared.entry.Refusal.{Refusal}
use Rattle.ac_claims.specs.declared.front.Front.{Front}
use Rattle.ac_claims.specs.declared.item.Item.{Item}
use Rattle.ac_claims.specs.declared.item.Item.TheVariants as item
use Rattle.ac_claims.specs.declared.types.Claim.{Claim}

-- the claims, outputs and plans of the front, and what is due in the plan under way
abbrev pub known_of : Pairing → Front → List Due → Known
known_of g f due = record { claims = f.claims; columns = f.columns; named = f.named; plans = remaining g f.claims f.next; due = due }

-- the refusal of a line, unless a test holds
abbrev pub refusal_unless : Bool → ℕ → Rule → Option Refusal
refusal_unless b k r = cond b None (Some (record { line = k; rule = r }))

-- a line comes to a refusal, or to what is known then. Want of memory tells nothing
abbrev pub Comes : Came → Result (Option Refusal) AllocError → Known → Type 0
Comes c (Ok None) s = c ≡ Yes s
Comes c (Ok (Some f)) s = c ≡ No f.line f.rule
Comes c (Err e) s = Unit {0}

-- how many columns the rows of a claim of two positions have
abbrev pub columns_by : Pairing → Option Domain → Option Domain → Option ℕ
columns_by g o o' = option_and_then (λ (a : Domain). option_map (λ (b : Domain). start_columns g a b) o') o

-- a claim of positions that are there, with rows over their columns
pub record IsClaimMade (g : Pairing) (c : Claim) : Type 0 where
  pub left : Domain
  pub right : Domain
  pub left_is : domain g.left c.left ≡ Some left
  pub right_is : domain g.right c.right ≡ Some right
  pub rows : AreRowsOver (start_columns g left right) c.rows

abbrev pub last_of : List Claim → Option Claim
last_of [] = None
last_of (c ∷ []) = Some c
last_of (c ∷ d ∷ cs) = last_of (d ∷ cs)

abbrev pub ColumnsAre : Pairing → ℕ → Option Claim → Type 0
ColumnsAre g n None = Unit {0}
ColumnsAre g n (Some c) = columns_by g (domain g.left c.left) (domain g.right c.right) ≡ Some n

-- each claim is made, and the columns are those of the last one
pub record IsFrontMade (g : Pairing) (f : Front) : Type 0 where
  pub claims : AllByRecursion (IsClaimMade g) f.claims
  pub columns : ColumnsAre g f.columns (last_of f.claims)

-- a line that a text can spell: the modulus of a row is at least 1
abbrev pub IsLine : Item → Type 0
IsLine (item.Row r) = HasModulus r
IsLine _ = Unit {0}
