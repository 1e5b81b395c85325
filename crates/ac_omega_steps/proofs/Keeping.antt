-- Rows that stay well made and hold, and combinations of two forms.
use Rattle.std.proofs.Common.{◌≡◌, ℕ, zero, suc, ◌+◌, ◌≤◌, ℤ, ◌+ℤ◌, ◌*ℤ◌, List, [], ◌∷◌, ◌++◌, length, Option, Some, None, Bool, true, false, cond, slice_get, refl, sym, ap, ◌∙◌, subst, arith}
use Rattle.std.specs.Prelude.{option_and_then, option_map}
use Rattle.ac_base.proofs.Options.{if-some, some-is}
use Rattle.ac_base.specs.Dot.{mix}
use Rattle.ac_forms.specs.Affine.{Affine, value_at, combined}
use Rattle.ac_forms.specs.Rows.{form_of, Holds, Meets, IsRowOver, AreRowsOver}
use Rattle.ac_forms.specs.RangeTests.{can_combine}
use Rattle.ac_forms.specs.declared.row.Row.{Row}
use Rattle.ac_forms.specs.declared.row.Row.TheVariants.{Eq, Div, Ge}
use Rattle.ac_forms.proofs.Values.{value_at-combined, value_at-append}
use Rattle.ac_omega_steps.specs.Combination.{combination}

-- further columns and rows
Holds-append : (r : Row) (p more : List ℤ) → length (form_of r).coefs ≤ length p → Holds r p → Holds r (p ++ more)
Holds-append (Ge f) p more l h = rw (value_at-append f p more l) h
Holds-append (Eq f) p more l h = value_at-append f p more l ∙ h
Holds-append (Div m f) p more l h = rw (value_at-append f p more l) h

pub Meets-append : (rows : List Row) (n : ℕ) (p more : List ℤ) → n ≤ length p → AreRowsOver n rows → Meets rows p → Meets rows (p ++ more)
Meets-append [] n p more l w h = tt
Meets-append (r ∷ rows) n p more l w h = (Holds-append r p more (omega (arith, w.0.0)) h.0, Meets-append rows n p more l w.1 h.1)

pub Meets-push : (rows : List Row) (r : Row) (p : List ℤ) → Meets rows p → Holds r p → Meets (rows ++ r ∷ []) p
Meets-push [] r p h g = (g, tt)
Meets-push (s ∷ rows) r p h g = (h.0, Meets-push rows r p h.1 g)

pub made-push : (n : ℕ) (rows : List Row) (r : Row) → AreRowsOver n rows → IsRowOver n r → AreRowsOver n (rows ++ r ∷ [])
made-push n [] r w l = (l, tt)
made-push n (s ∷ rows) r w l = (w.0, made-push n rows r w.1 l)

pub made-more : (n : ℕ) (rows : List Row) → AreRowsOver n rows → AreRowsOver (n + 1) rows
made-more n [] w = tt
made-more n (r ∷ rows) w = ((omega (arith, w.0.0), w.0.1), made-more n rows w.1)

-- the row at a place
pub row-holds : (rows : List Row) (i : ℕ) (p : List ℤ) (r : Row) → Meets rows p → slice_get rows i ≡ Some r → Holds r p
row-holds [] i p r h e = absurd cc
row-holds (s ∷ rows) zero p r h e = subst (λ (x : Row). Holds x p) (some-is s r e) h.0
row-holds (s ∷ rows) (suc i) p r h e = row-holds rows i p r h.1 e

pub row-made : (n : ℕ) (rows : List Row) (i : ℕ) (r : Row) → AreRowsOver n rows → slice_get rows i ≡ Some r → IsRowOver n r
row-made n [] i r w e = absurd cc
row-made n (s ∷ rows) zero r w e = subst (λ (x : Row). IsRowOver n x) (some-is s r e) w.0
row-made n (s ∷ rows) (suc i) r w e = row-made n rows i r w.1 e

pub row_within : (n : ℕ) (rows : List Row) (i : ℕ) (f : Affine) → AreRowsOver n rows → slice_get rows i ≡ Some (Eq f) → length f.coefs ≤ n
row_within n rows i f w e = (row-made n rows i (Eq f) w e).0

-- combinations
pub combination-is : (k : ℤ) (f : Affine) (l : ℤ) (g h : Affine) → combination k f l g ≡ Some h → h ≡ combined k f l g
unfolding combination
combination-is k f l g h e = sym (some-is (combined k f l g) h (if-some (can_combine k f l g) (Some (combined k f l g)) h e).1)

length-mix : (k : ℤ) (a : List ℤ) (l : ℤ) (b : List ℤ) (n : ℕ) → length a ≤ n → length b ≤ n → length (mix k a l b) ≤ n
length-mix k [] l [] n v w = omega arith
length-mix k [] l (y ∷ ys) zero v w = absurd (omega arith)
length-mix k [] l (y ∷ ys) (suc n) v w = omega (arith, length-mix k [] l ys n (omega arith) (omega arith))
length-mix k (x ∷ xs) l [] zero v w = absurd (omega arith)
length-mix k (x ∷ xs) l [] (suc n) v w = omega (arith, length-mix k xs l [] n (omega arith) (omega arith))
length-mix k (x ∷ xs) l (y ∷ ys) zero v w = absurd (omega arith)
length-mix k (x ∷ xs) l (y ∷ ys) (suc n) v w = omega (arith, length-mix k xs l ys n (omega arith) (omega arith))

pub combination-within : (k : ℤ) (f : Affine) (l : ℤ) (g h : Affine) (n : ℕ) → combination k f l g ≡ Some h → length f.coefs ≤ n → length g.coefs ≤ n → length h.coefs ≤ n
combination-within k f l g h n e v w = subst (λ (x : Affine). length x.coefs ≤ n) (sym (combination-is k f l g h e)) (length-mix k f.coefs l g.coefs n v w)

pub combination-value : (k : ℤ) (f : Affine) (l : ℤ) (g h : Affine) (p : List ℤ) → combination k f l g ≡ Some h → value_at h p ≡ k *ℤ value_at f p +ℤ l *ℤ value_at g p
combination-value k f l g h p e = ap (λ (x : Affine). value_at x p) (combination-is k f l g h e) ∙ value_at-combined k f l g p
