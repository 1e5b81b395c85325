-- What the loop over coordinates keeps.
use Rattle.std.proofs.Common.{◌≡◌, ℕ, zero, suc, ◌+◌, List, [], ◌∷◌, ◌++◌, refl, sym, ap, ◌∙◌, arith}
use Rattle.ac_forms.specs.Affine.{Affine, column_form}
use Rattle.ac_poly.specs.CoordinateColumns.{coordinate_forms}

pub record Coordinated (first k : ℕ) (made : List Affine) : Type 0 where
  pub value : made ≡ coordinate_forms first k

pub coordinated_start : (first : ℕ) → Coordinated first 0 []
coordinated_start first = record { value = refl }

further : (first k : ℕ) → coordinate_forms first (suc k) ≡ coordinate_forms first k ++ column_form (first + k + 1) (first + k) ∷ []
further first zero = let e : first + 0 ≡ first = omega arith in rw e refl
further first (suc k) =
    let e : first + 1 + k ≡ first + suc k = omega arith in
    ap (λ r. column_form (first + 1) first ∷ r) (further (first + 1) k) ∙ ap (λ j. column_form (first + 1) first ∷ (coordinate_forms (first + 1) k ++ column_form (j + 1) j ∷ [])) e

pub coordinated_step : (first k : ℕ) (made new : List Affine) (form : Affine) → Coordinated first k made → form ≡ column_form (first + k + 1) (first + k) → new ≡ made ++ form ∷ [] → Coordinated first (k + 1) new
coordinated_step first k made new form h g n =
    let s : k + 1 ≡ suc k = omega arith in
    let v = h.value in
    record { value = n ∙ (λ t. v t ++ g t ∷ []) ∙ sym (further first k) ∙ ap (coordinate_forms first) (sym s) }

pub coordinated_end : (first k count : ℕ) (made : List Affine) → Coordinated first k made → k ≡ count → made ≡ coordinate_forms first count
coordinated_end first k count made h e = h.value ∙ ap (coordinate_forms first) e

pub ruleset coordinating = (coordinated_start, coordinated_end)
