-- What an answer of a search says of the walk. Want of memory may come at any time.
use Rattle.std.specs.Prelude.{◌≡◌, ℕ, zero, suc, ◌∷◌, ◌++◌, ◌≤◌, ◌^◌, ◌-◌, min, true, false, cond, ℤ, List, [], Option, Some, None, Result, Ok, Err}
use Rattle.ac_forms.specs.NormalForm.{normal_form}
use Rattle.ac_forms.specs.Rows.{IsWellMade}
use Rattle.ac_forms.specs.declared.conj.Conj.{Conj}
use Rattle.ac_forms.specs.declared.row.Row.{Row}
use Rattle.ac_omega_steps.specs.Choices.{are_absurd, is_legal, lifted}
use Rattle.ac_omega_steps.specs.ChoiceFits.{after_choice, lift_fits}
use Rattle.ac_omega_steps.specs.declared.choose.Choice.{Choice}
use Rattle.ac_omega.specs.declared.halt.Halt.{Halt}
use Rattle.ac_omega.specs.declared.halt.Halt.TheVariants as halt
use Rattle.ac_omega.specs.declared.search.Aim.{Aim}
use Rattle.ac_omega.specs.declared.search.Aim.TheVariants.{ForPoint, ForRefutation, ForPieces}
use Rattle.ac_omega.specs.declared.search.Walked.{Walked}
use Rattle.ac_omega.specs.declared.search.Walked.TheVariants as done
use Rattle.ac_omega.specs.ColumnChoice.{next_column}
use Rattle.ac_omega.specs.Maxima.{Maxima}
use Rattle.ac_omega_certify.specs.Refutations.{conj_of, Refutes}
use Rattle.ac_omega_certify.specs.Alternatives.{Alternatives}
use Rattle.ac_omega_certify.specs.declared.strategy.Strategy.{Strategy}
use Rattle.ac_omega_certify.specs.declared.refutation.Refutation.{Refutation}
use Rattle.ac_omega.specs.Walk as def
use Rattle.ac_omega.specs.Walk.{IsTried}

-- the walk is for a point, with a refutation or without
abbrev pub WantsPoint : Aim → Type 0
WantsPoint ForPoint = Unit {0}
WantsPoint ForRefutation = Unit {0}
WantsPoint ForPieces = ⊥

abbrev pub WantsRefutation : Aim → Type 0
WantsRefutation ForPoint = ⊥
WantsRefutation ForRefutation = Unit {0}
WantsRefutation ForPieces = ⊥

-- the refutation, where the walk is for one
abbrev pub wanted : Aim → Refutation → Option Refutation
wanted ForPoint r = None
wanted ForRefutation r = Some r
wanted ForPieces r = None

-- one choice more, and one refutation more, where there is one
abbrev pub with_choice_behind : List Choice → Choice → Option Refutation → List Choice
with_choice_behind hs h None = hs
with_choice_behind hs h (Some r) = hs ++ h ∷ []

abbrev pub with_refutation : List Refutation → Option Refutation → List Refutation
with_refutation rs None = rs
with_refutation rs (Some r) = rs ++ r ∷ []

-- the answer is the walk's; it stops where the walk does, at the first cost above the budget or at 2^64 - 1
abbrev pub Searches : Result Walked Halt → def.Walked Maxima → Type 0
Searches (Ok (done.Empty k s r)) w = w ≡ def.Empty k s
Searches (Ok (done.Found p)) w = w ≡ def.Found p.items
Searches (Err halt.Wide) w = w ≡ def.Wide
Searches (Err (halt.Spent c)) w = (j : ℕ) × (w ≡ def.Spent j) × (c ≡ min j (2 ^ 64 - 1))
Searches (Err (halt.Memory e)) w = Unit {0}

-- each of the choices is legal
abbrev pub AreLegal : Alternatives → Conj → Type 0
AreLegal hs c = (h : Choice) → IsTried h hs → is_legal h c ≡ true

-- the point that a point of what a choice leaves goes back to, where its numbers stay in `i128`
abbrev pub lifted_to : Choice → Conj → List ℤ → Option (List ℤ)
lifted_to h c p = cond (lift_fits h c.rows p) (Some (lifted h c.rows p)) None

abbrev pub IfFound : Walked → (List ℤ → Type 0) → Type 0
IfFound (done.Empty k s r) P = Unit {0}
IfFound (done.Found p) P = P p.items

abbrev pub IfWalkedEmpty : Walked → (Maxima → Option Refutation → Type 0) → Type 0
IfWalkedEmpty (done.Empty k s r) P = P s r
IfWalkedEmpty (done.Found p) P = Unit {0}

-- the running cost did not fall, and is within the budget
abbrev pub HasGrown : ℕ → ℕ → Walked → Type 0
HasGrown k budget (done.Empty j s r) = (k ≤ j) × (j ≤ budget)
HasGrown k budget (done.Found p) = Unit {0}

-- the refutation of this conjunction stands
pub record IsRefuted (c : Conj) (r : Refutation) : Type 0 where
  pub conj : conj_of r ≡ c
  pub refutes : Refutes r

-- the refutation of what the choice leaves stands
pub record IsRefutedBehind (h : Choice) (c : Conj) (r : Refutation) : Type 0 where
  pub left : after_choice h c ≡ Some (conj_of r)
  pub refutes : Refutes r

-- the conjunction is in normal form
abbrev pub IsNormal : Conj → Type 0
IsNormal c = (rows : List Row) × (c.rows ≡ normal_form rows)

-- a conjunction in normal form over that many columns, of which none is next, has no row or is absurd
abbrev pub Settle : Strategy → ℕ → List ℕ → Type 0
Settle strategy n vars = (c : Conj) → IsWellMade c → IsNormal c → c.columns ≡ n → are_absurd c.rows ≡ false → next_column strategy vars c.rows ≡ None → c.rows ≡ []

-- the same, asked where the walk is for a point
abbrev pub SettleFor : Strategy → Aim → ℕ → List ℕ → Type 0
SettleFor strategy aim n vars = WantsPoint aim → Settle strategy n vars

-- all columns below that many, in order
abbrev pub columns_to : ℕ → List ℕ
columns_to zero = []
columns_to (suc n) = columns_to n ++ n ∷ []
