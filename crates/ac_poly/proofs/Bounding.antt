-- What the loop over the extents keeps.
use Rattle.std.proofs.Common.{◌≡◌, ℕ, ◌+◌, ◌<◌, ◌≤◌, List, [], ◌∷◌, ◌++◌, length, drop, get_or, refl, sym, ap, ◌∙◌, arith, append_assoc, append-nil, pos, negsuc, ◌+ℤ◌}
use Rattle.std.proofs.lemmas.List.{drop_more, drop_all}
use Rattle.ac_forms.specs.Affine.{Affine, FormFits, combined, shifted, column_form}
use Rattle.ac_forms.specs.Fits.{Fits}
use Rattle.ac_forms.specs.declared.row.Row.{Row}
use Rattle.ac_forms.specs.declared.row.Row.TheVariants.{Ge}
use Rattle.ac_poly.specs.CoordinateColumns.{room, element_rows, CanBound}

-- after i extents: the rows that are made, and those that follow
pub record Bounded (first : ℕ) (es : List Affine) (i column : ℕ) (made : List Row) : Type 0 where
  pub at : column ≡ first + i
  pub onward : CanBound first es → CanBound column (drop i es)
  pub back : CanBound column (drop i es) → CanBound first es
  pub value : element_rows first es ≡ made ++ element_rows column (drop i es)

pub bounded_start : (first : ℕ) (es : List Affine) → Bounded first es 0 first []
bounded_start first es = record { at = omega arith; onward = λ h. h; back = λ h. h; value = refl }

more : (es : List Affine) (i : ℕ) (e : Affine) → i < length es → e ≡ get_or es i e → drop i es ≡ e ∷ drop (i + 1) es
more es i e l a = drop_more es i e l ∙ ap (λ x. x ∷ drop (i + 1) es) (sym a)

pub bounded_step : (first : ℕ) (es : List Affine) (i column behind : ℕ) (made next new : List Row) (e coordinate space : Affine) → Bounded first es i column made → i < length es → e ≡ get_or es i e
    → behind ≡ column + 1 → coordinate ≡ column_form behind column
    → (FormFits (combined (pos 1) e (negsuc 0) coordinate) × Fits ((combined (pos 1) e (negsuc 0) coordinate).konst +ℤ negsuc 0)) × (space ≡ shifted (combined (pos 1) e (negsuc 0) coordinate) (negsuc 0))
    → next ≡ made ++ Ge coordinate ∷ [] → new ≡ next ++ Ge space ∷ [] → Bounded first es (i + 1) behind new
bounded_step first es i column behind made next new e coordinate space h l a b c m n o =
    let d = more es i e l a in
    let q : coordinate ≡ column_form (column + 1) column = c ∙ ap (λ k. column_form k column) b in
    let f : FormFits (combined (pos 1) e (negsuc 0) (column_form (column + 1) column)) × Fits (room column e).konst = rw q at m.0 in
    let s : space ≡ room column e = m.1 ∙ ap (λ x. shifted (combined (pos 1) e (negsuc 0) x) (negsuc 0)) q in
    let w : new ≡ (made ++ Ge (column_form (column + 1) column) ∷ []) ++ Ge (room column e) ∷ [] = o ∙ (λ t. n t ++ Ge (s t) ∷ []) ∙ (λ t. (made ++ Ge (q t) ∷ []) ++ Ge (room column e) ∷ []) in
    let z : new ++ element_rows (column + 1) (drop (i + 1) es) ≡ made ++ (Ge (column_form (column + 1) column) ∷ (Ge (room column e) ∷ element_rows (column + 1) (drop (i + 1) es))) =
    ap (λ r. r ++ element_rows (column + 1) (drop (i + 1) es)) w
    ∙ append_assoc (made ++ Ge (column_form (column + 1) column) ∷ []) (Ge (room column e) ∷ []) (element_rows (column + 1) (drop (i + 1) es))
    ∙ append_assoc made (Ge (column_form (column + 1) column) ∷ []) (Ge (room column e) ∷ element_rows (column + 1) (drop (i + 1) es)) in
    let v : element_rows first es ≡ made ++ element_rows column (e ∷ drop (i + 1) es) = h.value ∙ ap (λ xs. made ++ element_rows column xs) d in
    record {
      at = (let p = h.at in omega (arith, p, b));
      onward = λ g. rw b ((rw d at (h.onward g)).1);
      back = λ g. h.back (rw d (f, rw b at g));
      value = v ∙ sym z ∙ ap (λ k. new ++ element_rows k (drop (i + 1) es)) (sym b);
    }

pub bounded_fits : (first : ℕ) (es : List Affine) (i column behind : ℕ) (made : List Row) (e coordinate : Affine) → Bounded first es i column made → i < length es → e ≡ get_or es i e
    → behind ≡ column + 1 → coordinate ≡ column_form behind column → CanBound first es
    → FormFits (combined (pos 1) e (negsuc 0) coordinate) × Fits ((combined (pos 1) e (negsuc 0) coordinate).konst +ℤ negsuc 0)
bounded_fits first es i column behind made e coordinate h l a b c g =
    let d = more es i e l a in
    let q : coordinate ≡ column_form (column + 1) column = c ∙ ap (λ k. column_form k column) b in
    rw q (rw d at (h.onward g)).0

pub bounded_end : (first : ℕ) (es : List Affine) (i column : ℕ) (made : List Row) → Bounded first es i column made → length es ≤ i → CanBound first es × (made ≡ element_rows first es)
bounded_end first es i column made h l = let d = drop_all i es l in (h.back (rw d tt), sym ((rw d at h.value) ∙ append-nil made))

pub ruleset bounding = (bounded_start, bounded_step, bounded_fits, bounded_end)
