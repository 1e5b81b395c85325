-- What the loop over the dimensions keeps.
use Rattle.std.proofs.Common.{◌≡◌, ℕ, ◌+◌, ◌<◌, ◌≤◌, List, [], ◌∷◌, ◌++◌, length, drop, get_or, refl, sym, ap, ◌∙◌, arith, append_assoc, append-nil, pos, negsuc}
use Rattle.std.proofs.lemmas.List.{drop_more, drop_all}
use Rattle.ac_forms.specs.Affine.{Affine, combined, FormFits}
use Rattle.ac_forms.specs.declared.row.Row.{Row}
use Rattle.ac_forms.specs.declared.row.Row.TheVariants.{Eq}
use Rattle.ac_poly.specs.LevelRows.{equalities, CanEquate}

-- after i dimensions: the rows that are made, and those that follow
pub record Equated (fs gs : List Affine) (i : ℕ) (made : List Row) : Type 0 where
  pub onward : CanEquate fs gs → CanEquate (drop i fs) (drop i gs)
  pub back : CanEquate (drop i fs) (drop i gs) → CanEquate fs gs
  pub value : equalities fs gs ≡ made ++ equalities (drop i fs) (drop i gs)

pub equated_start : (fs gs : List Affine) → Equated fs gs 0 []
equated_start fs gs = record { onward = λ h. h; back = λ h. h; value = refl }

both_more : (fs gs : List Affine) (i : ℕ) (f g : Affine) → length fs ≡ length gs → i < length fs → f ≡ get_or fs i f → g ≡ get_or gs i g → (drop i fs ≡ f ∷ drop (i + 1) fs) × (drop i gs ≡ g ∷ drop (i + 1) gs)
both_more fs gs i f g e l a b =
    let k : i < length gs = omega arith in
    (drop_more fs i f l ∙ ap (λ x. x ∷ drop (i + 1) fs) (sym a), drop_more gs i g k ∙ ap (λ x. x ∷ drop (i + 1) gs) (sym b))

pub equated_step : (fs gs : List Affine) (i : ℕ) (made new : List Row) (f g form : Affine) → Equated fs gs i made → length fs ≡ length gs → i < length fs → f ≡ get_or fs i f → g ≡ get_or gs i g
    → FormFits (combined (pos 1) f (negsuc 0) g) × (form ≡ combined (pos 1) f (negsuc 0) g) → new ≡ made ++ Eq form ∷ [] → Equated fs gs (i + 1) new
equated_step fs gs i made new f g form h e l a b m n =
    let d = both_more fs gs i f g e l a b in
    record {
      onward = λ c. (rw (d.0, d.1) at (h.onward c)).1;
      back = λ c. h.back (rw (d.0, d.1) (m.0, c));
      value = rw (n, m.1) (h.value ∙ rw (d.0, d.1) (sym (append_assoc made (Eq (combined (pos 1) f (negsuc 0) g) ∷ []) (equalities (drop (i + 1) fs) (drop (i + 1) gs)))));
    }

pub equated_fits : (fs gs : List Affine) (i : ℕ) (made : List Row) (f g : Affine) → Equated fs gs i made → length fs ≡ length gs → i < length fs → f ≡ get_or fs i f → g ≡ get_or gs i g
    → CanEquate fs gs → FormFits (combined (pos 1) f (negsuc 0) g)
equated_fits fs gs i made f g h e l a b c = let d = both_more fs gs i f g e l a b in (rw (d.0, d.1) at (h.onward c)).0

pub equated_end : (fs gs : List Affine) (i : ℕ) (made : List Row) → Equated fs gs i made → length fs ≡ length gs → length fs ≤ i → CanEquate fs gs × (made ≡ equalities fs gs)
equated_end fs gs i made h e l =
    let d = drop_all i fs l in
    (h.back (rw d tt), sym ((rw d at h.value) ∙ append-nil made))

pub ruleset equating = (equated_start, equated_step, equated_fits, equated_end)
