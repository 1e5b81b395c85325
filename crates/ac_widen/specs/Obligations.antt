-- The widened obligations: the pairs that must agree, where each recurrence pair is widened to the affine hull and the template.
use Rattle.std.specs.Prelude.{◌≡◌, ℤ, List, [], ◌∷◌, true}
use Rattle.ac_syntax.specs.declared.tree.Order.{Order}
use Rattle.ac_forms.specs.Rows.{Holds}
use Rattle.ac_forms.specs.declared.row.Row.{Row}
use Rattle.ac_forms.specs.ListMembers.{IsAmong}
use Rattle.ac_widen.specs.Combinations.{IsCombination}
use Rattle.ac_widen.specs.Setting.{Setting}

-- each template row that q breaks is broken by one of the points
abbrev pub BrokenBy : List Row → List (List ℤ) → List ℤ → Type 0
BrokenBy template bs q = (r : Row) → IsAmong r template → ¬ (Holds r q) → (b : List ℤ) × IsAmong b bs × ¬ (Holds r b)

mutual
  -- the least set of pairs with the outputs, closed under steps, and under the hull rule at recurrence pairs
  pub data Obligation {K : Type 0} (s : Setting K) (order : K → Order) : K → List ℤ → Type 0 where
    output : (k : K) (p : List ℤ) → s.Output k p → Obligation s order k p
    step : (k : K) (p : List ℤ) (j : K) (q : List ℤ) → Obligation s order k p → s.Step (order k) k p j q → Obligation s order j q
    hull : (k : K) (q : List ℤ) (m : ℤ) (ws : List ℤ) (ps bs : List (List ℤ)) → s.recurrent k ≡ true → s.Instance k q
        → Obligations s order k ps → Obligations s order k bs → IsCombination q m ws ps → BrokenBy (s.template k) bs q → Obligation s order k q

  -- each of these points is one at the positions
  pub data Obligations {K : Type 0} (s : Setting K) (order : K → Order) : K → List (List ℤ) → Type 0 where
    none : (k : K) → Obligations s order k []
    more : (k : K) (p : List ℤ) (ps : List (List ℤ)) → Obligation s order k p → Obligations s order k ps → Obligations s order k (p ∷ ps)

-- some obligation is a mismatch
abbrev pub HasMismatch : {K : Type 0} → Setting K → (K → Order) → Type 0
HasMismatch {K} s order = (k : K) × (p : List ℤ) × Obligation s order k p × s.Mismatch k p
