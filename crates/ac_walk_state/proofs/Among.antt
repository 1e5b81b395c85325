-- Rows over columns: the template rows of a claim, and the equalities of a hull.
use Rattle.std.proofs.Common.{◌≡◌, ◌⊎◌, inl, inr, ℕ, zero, suc, ◌<◌, ◌≤◌, ℤ, pos, negsuc, ◌≤ℤ◌, List, [], ◌∷◌, ◌++◌, length, map, replicate, Bool, true, false, refl, ap, ◌∙◌, arith}
use Rattle.std.specs.Prelude.{slice_set}
use Rattle.std.specs.Ordering.{int_eq}
use Rattle.std.proofs.lemmas.List.{length-map}
use Rattle.ac_base.specs.Dot.{floored}
use Rattle.ac_base.specs.Gcd.{content}
use Rattle.ac_forms.specs.Affine.{Affine}
use Rattle.ac_forms.specs.NormalForm.{absurd_rows}
use Rattle.ac_forms.specs.NormalRows.{trim, trim_onto, signed, divided, leads_negative}
use Rattle.ac_forms.specs.Rows.{AreRowsOver, IsRowOver}
use Rattle.ac_forms.specs.declared.row.Row.{Row}
use Rattle.ac_forms.specs.declared.row.Row.TheVariants.{Eq}
use Rattle.ac_forms.specs.ListMembers.{IsAmong}
use Rattle.ac_hull.specs.Equalities.{unit, coefs_of, least_coefs, equality_of, normal_equality, equalities_below, is_free}
use Rattle.ac_hull.specs.Hulls.{equalities_of, lines_of}
use Rattle.ac_hull.specs.Templates.{IsBound, IsClass, difference, template_rows}
use Rattle.ac_hull.proofs.Clearing.{length_cleared, length_unit}
use Rattle.ac_hull.proofs.Facts.{each_snoc}
use Rattle.ac_hull.proofs.Templating.{template_exact}
use Rattle.ac_widen.specs.Combinations.{Each}
use Rattle.ac_widen.specs.Walks.{narrowed_by}
use Rattle.ac_widen.proofs.Combining.{each_among}
use Rattle.ac_widen.proofs.Walking.{left_among}

-- ---- lists of rows

pub over_append : (n : ℕ) (a b : List Row) → AreRowsOver n a → AreRowsOver n b → AreRowsOver n (a ++ b)
over_append n [] b h g = g
over_append n (r ∷ a) b h g = (h.0, over_append n a b h.1 g)

pub over_absurd : (n : ℕ) → AreRowsOver n absurd_rows
over_absurd n = ((omega arith, tt), tt)

-- ---- template rows

length_put : (cs : List ℤ) (z : ℕ) (v : ℤ) → length (slice_set cs z v) ≡ length cs
length_put [] z v = refl
length_put (c ∷ cs) zero v = refl
length_put (c ∷ cs) (suc z) v = ap suc (length_put cs z v)

length_zeros : (n : ℕ) → length (replicate n (pos 0)) ≡ n
length_zeros zero = refl
length_zeros (suc n) = ap suc (length_zeros n)

difference_length : (columns s t : ℕ) (c : ℤ) → length (difference columns s t c).coefs ≡ columns
difference_length columns s t c = length_put (slice_set (replicate columns (pos 0)) s (pos 1)) t (negsuc 0) ∙ length_put (replicate columns (pos 0)) s (pos 1) ∙ length_zeros columns

row_over : (columns : ℕ) (thresholds moduli : List ℤ) (r : Row) → Each (λ m. pos 1 ≤ℤ m) moduli → IsBound columns thresholds r ⊎ IsClass columns moduli r → IsRowOver columns r
row_over columns thresholds moduli r h (inl b) = let l = difference_length columns b.0 b.1 b.2 in rw b.7 (omega (arith, l), tt)
row_over columns thresholds moduli r h (inr b) = let l = difference_length columns b.0 b.1 (pos b.3) in rw b.8 (omega (arith, l), each_among (λ m. pos 1 ≤ℤ m) b.2 moduli h b.6)

rows_over : (columns : ℕ) (thresholds moduli : List ℤ) (rows : List Row) → Each (λ m. pos 1 ≤ℤ m) moduli → ((r : Row) → IsAmong r rows → IsAmong r (template_rows columns thresholds moduli)) → AreRowsOver columns rows
rows_over columns thresholds moduli [] h a = tt
rows_over columns thresholds moduli (r ∷ rows) h a =
    (row_over columns thresholds moduli r h ((template_exact columns thresholds moduli (template_rows columns thresholds moduli) refl r).0 (a r (inl refl))), rows_over columns thresholds moduli rows h (λ x b. a x (inr b)))

-- template rows that points meet are over the columns
pub left_over : (columns : ℕ) (thresholds moduli : List ℤ) (found : List (List ℤ)) (rows : List Row) → Each (λ m. pos 1 ≤ℤ m) moduli → ((r : Row) → IsAmong r rows → IsAmong r (narrowed_by (template_rows columns thresholds moduli) found))
    → AreRowsOver columns rows
left_over columns thresholds moduli found rows h a = rows_over columns thresholds moduli rows h (λ r b. (left_among (template_rows columns thresholds moduli) found r (a r b)).0)

-- ---- equalities

trim_onto_length : (c : ℤ) (ds : List ℤ) (n : ℕ) (b : Bool) → int_eq c (pos 0) ≡ b → length ds ≤ n → length (trim_onto c ds) ≤ suc n
trim_onto_length c [] n true e h = rw e (omega arith)
trim_onto_length c [] n false e h = rw e (omega arith)
trim_onto_length c (d ∷ ds) n b e h = omega arith

trim_length : (cs : List ℤ) → length (trim cs) ≤ length cs
trim_length [] = omega arith
trim_length (c ∷ cs) = trim_onto_length c (trim cs) (length cs) (int_eq c (pos 0)) refl (trim_length cs)

signed_length : (f : Affine) (n : ℕ) (b : Bool) → leads_negative f.coefs ≡ b → length f.coefs ≤ n → length (signed f).coefs ≤ n
signed_length f n true e h = rw e (rw (length-map f.coefs _) h)
signed_length f n false e h = rw e h

normal_length : (f : Affine) → length (normal_equality f).coefs ≤ length f.coefs
normal_length f =
    let g = divided (pos (content f.coefs)) f in
    let a = trim_length (floored (pos (content f.coefs)) f.coefs) in
    let b : length (floored (pos (content f.coefs)) f.coefs) ≡ length f.coefs = length-map f.coefs _ in
    signed_length g (length f.coefs) (leads_negative g.coefs) refl (omega (arith, a, b))

module _ (columns : ℕ) (f : List ℤ) (ps : List (List ℤ)) where
  least_length : (z : ℕ) → z < columns → length (least_coefs columns (lines_of f ps) z) ≤ columns
  least_length z h =
      let a : length (least_coefs columns (lines_of f ps) z) ≡ length (coefs_of columns (lines_of f ps) z) = length-map (coefs_of columns (lines_of f ps) z) _ in
      omega (arith, a, length_cleared (lines_of f ps) (unit columns z), length_unit columns z h)

  over_step : (z : ℕ) (b : Bool) → is_free (lines_of f ps) z ≡ b → z < columns → Each (λ g. length g.coefs ≤ columns) (equalities_below columns (lines_of f ps) f z) → Each (λ g. length g.coefs ≤ columns) (equalities_below columns (lines_of f ps) f (suc z))
  over_step z true t h a = rw t (each_snoc (λ g. length g.coefs ≤ columns) (equalities_below columns (lines_of f ps) f z) (normal_equality (equality_of columns (lines_of f ps) f z)) a (omega (arith, normal_length (equality_of columns (lines_of f ps) f z), least_length z h)))
  over_step z false t h a = rw t a

  over_below : (n : ℕ) → n ≤ columns → Each (λ g. length g.coefs ≤ columns) (equalities_below columns (lines_of f ps) f n)
  over_below zero h = tt
  over_below (suc n) h = over_step n (is_free (lines_of f ps) n) refl (omega arith) (over_below n (omega arith))

equalities_length : (columns : ℕ) (members : List (List ℤ)) → Each (λ g. length g.coefs ≤ columns) (equalities_of columns members)
equalities_length columns [] = tt
equalities_length columns (f ∷ ps) = over_below columns f ps columns (omega arith)

forms_over : (n : ℕ) (es : List Affine) → Each (λ g. length g.coefs ≤ n) es → AreRowsOver n (map Eq es)
forms_over n [] h = tt
forms_over n (f ∷ es) h = ((h.0, tt), forms_over n es h.1)

pub equalities_over : (columns : ℕ) (members : List (List ℤ)) → AreRowsOver columns (map Eq (equalities_of columns members))
equalities_over columns members = forms_over columns (equalities_of columns members) (equalities_length columns members)
