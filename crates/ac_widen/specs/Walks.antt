-- The state of the walk under one order: what it keeps at each recurrence pair beside the entries so far.
use Rattle.std.specs.Prelude.{◌≡◌, ◌↔◌, ℕ, suc, ◌+◌, ℤ, pos, ◌<◌, ◌≤◌, List, [], ◌∷◌, ◌++◌, length, map}
use Rattle.ac_forms.specs.Affine.{Affine, value_at}
use Rattle.ac_forms.specs.Rows.{Holds, Meets}
use Rattle.ac_forms.specs.declared.row.Row.{Row}
use Rattle.ac_forms.specs.declared.row.Row.TheVariants.{Eq}
use Rattle.ac_forms.specs.NormalForm.{absurd_rows}
use Rattle.ac_forms.specs.ListMembers.{IsAmong}
use Rattle.ac_widen.specs.Combinations.{InHull, Each}
use Rattle.ac_widen.specs.Derivations.{EntryOf}
use Rattle.ac_widen.specs.Narrowing.{narrowed}
use Rattle.ac_widen.specs.DerivationPaths.{AreAt}
use Rattle.ac_widen.specs.Setting.{Setting}

-- at one recurrence pair: the found members and the places of their entries, those that the hull keeps and the places of theirs, the
-- equalities of the hull, the template rows that all found members meet, and those of them that the claim has
pub record Kept : Type 0 where
  pub found : List (List ℤ)
  pub found_at : List ℕ
  pub members : List (List ℤ)
  pub members_at : List ℕ
  pub equalities : List Affine
  pub left : List Row
  pub rows : List Row

abbrev pub rows_with : {A : Type 0} → List A → List Row → List Row
rows_with [] rows = absurd_rows
rows_with (p ∷ ps) rows = rows

-- the rows of the claim: `-1 >= 0` before the first member; then the equalities and its template rows
abbrev pub rows_of : Kept → List Row
rows_of c = rows_with c.members (map Eq c.equalities ++ c.rows)

-- narrowed by points in order
abbrev pub narrowed_by : List Row → List (List ℤ) → List Row
narrowed_by rows [] = rows
narrowed_by rows (p ∷ ps) = narrowed_by (narrowed rows p) ps

-- what is kept at the positions is right for the entries
pub record IsKept {K : Type 0} (s : Setting K) (es : List (EntryOf K)) (k : K) (c : Kept) : Type 0 where
  pub found_stand : AreAt es k c.found_at c.found
  pub members_stand : AreAt es k c.members_at c.members
  pub hull : (q : List ℤ) → length q ≡ s.width k → ¬ (c.members ≡ []) → Each (λ f. value_at f q ≡ pos 0) c.equalities ↔ InHull c.members q
  pub left : c.left ≡ narrowed_by (s.template k) c.found
  pub among : (r : Row) → IsAmong r c.rows → IsAmong r c.left
  pub follow : (r : Row) (q : List ℤ) → IsAmong r c.left → InHull c.members q → Meets c.rows q → Holds r q

-- how many members may still be found: each that breaks the claim takes an equality or a template row away
abbrev pub room_with : {A : Type 0} → List A → ℕ → ℕ → ℕ
room_with [] all n = suc all
room_with (p ∷ ps) all n = n

abbrev pub room_of : {K : Type 0} → Setting K → K → Kept → ℕ
room_of s k c = room_with c.members (s.width k + length (s.template k)) (length c.equalities + length c.left)

-- the hull before and behind a point: the point was in it and all stays, or it was outside and is a member now, and there are fewer equalities
pub data Adds (width : ℕ) (p : List ℤ) (n : ℕ) (members : List (List ℤ)) (at : List ℕ) (es : List Affine) : List (List ℤ) → List ℕ → List Affine → Type 0 where
  within : InHull members p → Adds width p n members at es members at es
  grown : (new : List Affine) → ¬ (InHull members p) → (members ≡ [] → length new ≤ width) → (¬ (members ≡ []) → length new < length es) → Adds width p n members at es (members ++ p ∷ []) (at ++ n ∷ []) new
