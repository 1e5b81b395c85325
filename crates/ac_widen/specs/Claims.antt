-- Claims: rows at each recurrence pair. When they stand, and when they are the claims of found members.
use Rattle.std.specs.Prelude.{◌≡◌, ◌⊎◌, ℕ, ℤ, List, length, true, false}
use Rattle.ac_syntax.specs.declared.tree.Order.{Order}
use Rattle.ac_forms.specs.Affine.{Affine}
use Rattle.ac_forms.specs.Rows.{Holds, Meets}
use Rattle.ac_forms.specs.declared.row.Row.{Row}
use Rattle.ac_forms.specs.declared.row.Row.TheVariants.{Eq}
use Rattle.ac_forms.specs.ListMembers.{IsAmong}
use Rattle.ac_widen.specs.Combinations.{InHull, Each}
use Rattle.ac_widen.specs.Setting.{Setting}

-- a row of a claim is an equality, a template row, or met by no point
abbrev pub IsClaimRow : List Row → Row → Type 0
IsClaimRow template r = ((f : Affine) × (r ≡ Eq f)) ⊎ (IsAmong r template ⊎ ((p : List ℤ) → ¬ (Holds r p)))

-- the pair meets the claim of its positions, where that is a recurrence pair, and is no mismatch
abbrev pub IsFine : {K : Type 0} → Setting K → (K → List Row) → K → List ℤ → Type 0
IsFine s claim k p = (s.recurrent k ≡ true → Meets (claim k) p) × ¬ (s.Mismatch k p)

-- where a pair goes on to by one step or more, up to the next recurrence pair
pub data Leads {K : Type 0} (s : Setting K) (order : K → Order) (k : K) (p : List ℤ) : K → List ℤ → Type 0 where
  once : (j : K) (q : List ℤ) → s.Step (order k) k p j q → Leads s order k p j q
  then : (i : K) (o : List ℤ) (j : K) (q : List ℤ) → Leads s order k p i o → s.recurrent i ≡ false → s.Step (order i) i o j q → Leads s order k p j q

-- the output pairs, and the instance points of the claims
abbrev pub IsStart : {K : Type 0} → Setting K → (K → List Row) → K → List ℤ → Type 0
IsStart s claim k p = s.Output k p ⊎ ((s.recurrent k ≡ true) × s.Instance k p × Meets (claim k) p)

-- the claims stand: each output pair is fine, and each start leads to fine pairs alone
pub record Stand {K : Type 0} (s : Setting K) (order : K → Order) (claim : K → List Row) : Type 0 where
  pub rows : (k : K) → s.recurrent k ≡ true → Each (IsClaimRow (s.template k)) (claim k)
  pub outputs : (k : K) (p : List ℤ) → s.Output k p → IsFine s claim k p
  pub starts : (k : K) (p : List ℤ) (j : K) (q : List ℤ) → IsStart s claim k p → Leads s order k p j q → IsFine s claim j q

-- the rows are those of found members: a point that meets them is in the hull of the kept ones and meets each template row that all found ones meet
pub record IsClaimOf (width : ℕ) (template : List Row) (kept found : List (List ℤ)) (rows : List Row) : Type 0 where
  pub hull : (q : List ℤ) → length q ≡ width → Meets rows q → InHull kept q
  pub narrowed : (r : Row) (q : List ℤ) → length q ≡ width → IsAmong r template → Each (Holds r) found → Meets rows q → Holds r q
