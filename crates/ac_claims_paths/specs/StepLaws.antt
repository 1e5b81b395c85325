-- The branches of a path are exactly the steps of the pairs that stand on it.
use Rattle.std.specs.Prelude.{ℕ, ◌≡◌, ◌↔◌, List, ℤ, length, Bool, true, Some, slice_get}
use Rattle.ac_syntax.specs.ReadyPrograms.{ReadyProgram, FitParts}
use Rattle.ac_syntax.specs.declared.tree.Cond.{Cond}
use Rattle.ac_syntax.specs.declared.tree.Order.{Order}
use Rattle.ac_syntax.specs.declared.tree.Program.{Program}
use Rattle.ac_syntax.specs.declared.tree.Symbol.{Symbol}
use Rattle.ac_poly.specs.Model.{is_input, model_of}
use Rattle.ac_poly.specs.declared.types.Model.{Model}
use Rattle.ac_claims_paths.specs.Executions.{Describes, execution}
use Rattle.ac_claims_paths.specs.WellFormedPaths.{HasModuli, IsFormed}
use Rattle.ac_claims_paths.specs.PathSteps.{Pairing, branches}
use Rattle.ac_claims_paths.specs.OnPaths.{Compared}
use Rattle.ac_claims_paths.specs.Pairs.{Placed, StepsTo, StandsOn, StandsBehind}
use Rattle.ac_claims_paths.specs.declared.path.Path.{Path}

abbrev pub pairing_of : Model → Model → (Symbol → Bool) → Pairing
pairing_of m n swaps = record { params = m.params; left = m; right = n; swaps = swaps }

-- two programs at a valuation, with models that describe them
abbrev pub compared : (p q : Program) (m n : Model) (params : List ℤ) (swaps : Symbol → Bool) (input : ℕ → Bool) → m.params ≡ length params → Describes m params (execution p m params) → Describes n params (execution q n params)
    → ((a : ℕ) → is_input (slice_get m.kinds a) ≡ true → input a ≡ true) → Compared
compared p q m n params swaps input count left right inputs = record {
  pairing = pairing_of m n swaps;
  params = params;
  left = execution p m params;
  right = execution q n params;
  input = input;
  count = count;
  describes_left = left;
  describes_right = right;
  inputs = inputs;
}

-- of a pair that stands on a path with branches, another one is a step exactly where it stands on one of them
abbrev pub BranchesAreSteps : Type 0
BranchesAreSteps =
    (p q : Program) (m n : Model) (params : List ℤ) (swaps : Symbol → Bool) (input : ℕ → Bool) (count : m.params ≡ length params) (left : Describes m params (execution p m params)) (right : Describes n params (execution q n params))
    (inputs : (a : ℕ) → is_input (slice_get m.kinds a) ≡ true → input a ≡ true) (order : Order) (h : Path) (hs : List Path) → IsFormed m.params h → branches (pairing_of m n swaps) order h ≡ Some hs
    → (at : List ℤ) (a a' : Placed (execution p m params)) (b b' : Placed (execution q n params)) → StandsOn (compared p q m n params swaps input count left right inputs) h at a b
    → StepsTo (compared p q m n params swaps input count left right inputs) order a b a' b' ↔ StandsBehind (compared p q m n params swaps input count left right inputs) hs at a' b'

-- each modulus in the pieces and levels of the model of a ready program is at least 1
abbrev pub ModelsHaveModuli : Type 0
ModelsHaveModuli = (p : Program) (context : Cond) → ReadyProgram p → FitParts (length p.params) 0 context.parts → HasModuli (model_of p context)
