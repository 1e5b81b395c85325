-- The outcomes of outputs, one after another.
use Rattle.std.proofs.Common.{◌≡◌, ℕ, List, [], ◌∷◌, ◌++◌, ℤ, Option, Some, None, Result, Ok, Err, sym, subst}
use Rattle.std.specs.Result.{IsErrAnd}
use Rattle.ac_syntax.specs.Index.{point}
use Rattle.ac_syntax.specs.Outputs.{extents_at}
use Rattle.ac_syntax.specs.Sameness.{term}
use Rattle.ac_syntax.specs.declared.tree.Array.{Array}
use Rattle.ac_syntax.specs.declared.tree.Pair.{Pair}
use Rattle.ac_syntax.specs.declared.tree.Stmt.{Stmt}
use Rattle.ac_instance.specs.declared.halt.Halt.{Halt}
use Rattle.ac_instance.specs.declared.state.Machine.{Machine}
use Rattle.ac_instance.specs.declared.halt.Ran.{Ran}
use Rattle.ac_instance.specs.declared.halt.Side.TheVariants.{Left, Right}
use Rattle.ac_instance.specs.Events.{reached}
use Rattle.ac_instance.specs.KeptIds.{leaf_in}
use Rattle.ac_instance.specs.MachineSteps.{IsDue}
use Rattle.ac_instance.specs.declared.halt.Outcome.{Outcome}
use Rattle.ac_instance.specs.ComparisonAnswers.{IsOutcome, AreOutcomes, outcome_of, IsRan, everything, compared}
use Rattle.ac_instance.specs.Least.{Looked, IsLeast, AgreeAt, throughout}

pub as_outcome : (looked : Looked) (found : Option (List ℤ)) → IsLeast looked found → IsOutcome looked (outcome_of found)
as_outcome looked None h = h
as_outcome looked (Some e) h = h

pub one_more_outcome : (looked : ℕ → Looked) (os : List ℕ) (rs : List Outcome) (o : ℕ) (r : Outcome) → AreOutcomes looked os rs → IsOutcome (looked o) r → AreOutcomes looked (os ++ o ∷ []) (rs ++ r ∷ [])
one_more_outcome looked [] [] o r h k = (k, tt)
one_more_outcome looked [] (x ∷ xs) o r h k = absurd h
one_more_outcome looked (y ∷ ys) [] o r h k = absurd h
one_more_outcome looked (y ∷ ys) (x ∷ xs) o r h k = (h.0, one_more_outcome looked ys xs o r h.1 k)

pub ran_halts : (pair : Pair) (params : List ℤ) (limit : ℕ) (r : Result Ran Halt) (h : Halt) → IsErrAnd r (λ e. e ≡ h) → IsDue (reached limit 0 (everything pair params)) h → IsRan pair params limit r
ran_halts pair params limit (Ok x) h is d = absurd is
ran_halts pair params limit (Err e) h is d = subst (IsDue (reached limit 0 (everything pair params))) (sym is) d

outcomes_of : List ℤ → List (List ℕ) → List Array → List Stmt → List Stmt → List ℕ → List Outcome → Type 0
outcomes_of params names arrays left right outputs outcomes =
    AreOutcomes (λ o. throughout (AgreeAt names o (term left params (leaf_in Left arrays)) (term right params (leaf_in Right arrays))) (point params []) (extents_at arrays o)) outputs outcomes

-- what was compared are the outputs of the pair
pub answered : (pair : Pair) (params : List ℤ) (names : List (List ℕ)) (arrays : List Array) (left right : List Stmt) (outputs : List ℕ) (outcomes : List Outcome)
    → names ≡ pair.commutative → arrays ≡ pair.left.arrays → left ≡ pair.left.body → right ≡ pair.right.body → outputs ≡ pair.outputs
    → AreOutcomes (λ o. throughout (AgreeAt names o (term left params (leaf_in Left arrays)) (term right params (leaf_in Right arrays))) (point params []) (extents_at arrays o)) outputs outcomes
    → AreOutcomes (compared pair params) pair.outputs outcomes
unfolding outcomes_of
answered pair params names arrays left right outputs outcomes n a l r o h =
    subst (λ (z : List ℕ). outcomes_of params pair.commutative pair.left.arrays pair.left.body pair.right.body z outcomes) o
    (subst (λ (z : List Stmt). outcomes_of params pair.commutative pair.left.arrays pair.left.body z outputs outcomes) r
    (subst (λ (z : List Stmt). outcomes_of params pair.commutative pair.left.arrays z right outputs outcomes) l
    (subst (λ (z : List Array). outcomes_of params pair.commutative z left right outputs outcomes) a
    (subst (λ (z : List (List ℕ)). outcomes_of params z arrays left right outputs outcomes) n h))))

-- from the first event on
pub from_start : (pair : Pair) (params : List ℤ) (limit : ℕ) (m : Machine) (h : Halt) → m.limit ≡ limit → m.events ≡ 0 → IsDue (reached m.limit m.events (everything pair params)) h → IsDue (reached limit 0 (everything pair params)) h
from_start pair params limit m h l e d = subst (λ r. IsDue r h) (λ i. reached (l i) (e i) (everything pair params)) d
