-- The equality of a free column: all rows make it 0, and of the free columns only its own counts.
use Rattle.std.proofs.Common.{◌≡◌, ◌⊎◌, inl, inr, ℕ, zero, suc, ◌-◌, ◌<◌, ℤ, pos, ◌+ℤ◌, ◌-ℤ◌, ◌*ℤ◌, neg_ℤ, List, [], ◌∷◌, ◌++◌, length, replicate, Bool, true, false, ◌==◌, refl, ap, sym, ◌∙◌, arith, length-append}
use Rattle.std.proofs.lemmas.Int.{ints}
use Rattle.std.proofs.lemmas.List.{length-map, length-replicate, length-set, get_or-set_other}
use Rattle.std.proofs.Math.Seq.{get_or-append_seam}
use Rattle.std.proofs.lemmas.Bool.{eqb-true, eqb-false}
use Rattle.ac_base.specs.Dot.{dot}
use Rattle.ac_base.specs.Gcd.{content}
use Rattle.ac_hull.proofs.Lines.{content_positive}
use Rattle.ac_base.proofs.Columns.{dot-set_coef}
use Rattle.ac_base.proofs.Products.{mul_comm_ℤ, neg-mul_ℤ}
use Rattle.ac_forms.specs.ListMembers.{IsAmong}
use Rattle.ac_widen.specs.Combinations.{times, Each}
use Rattle.ac_widen.proofs.Combining.{dot_comm, dot-times}
use Rattle.ac_hull.specs.FractionFreeElimination.{entry, column_of, pivot_of}
use Rattle.ac_hull.specs.Equalities.{unit, cleared_by, cleared, coefs_of}
use Rattle.ac_hull.proofs.FreeColumns.{IsFree}
use Rattle.ac_hull.specs.declared.line.Line.{Line}
use Rattle.ac_hull.proofs.Entries.{entry_times, product_nonzero}
use Rattle.ac_hull.proofs.Facts.{Echelon, Kills}

pub length_cleared : (ls : List Line) (v : List ℤ) → length (cleared ls v) ≡ length v
length_cleared [] v = refl
length_cleared (l ∷ ls) v = length-set (times (pivot_of l) (cleared ls v)) (column_of l) _ ∙ length-map (cleared ls v) _ ∙ length_cleared ls v

-- p v.x + (p v_c - s - p v_c) x_c
gathered : (p a b s x : ℤ) → p *ℤ a +ℤ ((p *ℤ b -ℤ s) -ℤ p *ℤ b) *ℤ x ≡ p *ℤ a +ℤ neg_ℤ (s *ℤ x)
gathered p a b s x =
    let e : (p *ℤ b -ℤ s) -ℤ p *ℤ b ≡ neg_ℤ s = omega (arith, ints) in
    rw (e, neg-mul_ℤ s x) refl

pub dot-cleared : (l : Line) (v x : List ℤ) → column_of l < length v → dot (cleared_by l v) x ≡ pivot_of l *ℤ dot v x +ℤ neg_ℤ (dot v l.coords *ℤ entry (column_of l) x)
dot-cleared l v x h =
    let p = pivot_of l in
    let c = column_of l in
    let m : c < length (times p v) = rw (length-map v _) h in
    dot-set_coef (times p v) x c (p *ℤ entry c v -ℤ dot v l.coords) m
    ∙ (rw (dot_comm (times p v) x, dot-times x p v, dot_comm x v, entry_times c p v) (gathered p (dot v x) (entry c v) (dot v l.coords) (entry c x)))

clear_rest : (l : Line) (v : List ℤ) (ks : List Line) → column_of l < length v → Each (λ k. entry (column_of l) k.coords ≡ pos 0) ks → Kills v ks → Kills (cleared_by l v) ks
clear_rest l v [] h z k = tt
clear_rest l v (x ∷ ks) h z k =
    (dot-cleared l v x.coords h ∙ (rw (z.0, k.0) (omega (arith, ints))), clear_rest l v ks h z.1 k.1)

-- each row makes it 0
pub cleared_kills : (columns : ℕ) (ls : List Line) (v : List ℤ) → length v ≡ columns → Each (λ l. (column_of l < columns)) ls → Echelon ls → Kills (cleared ls v) ls
cleared_kills columns [] v e h z = tt
cleared_kills columns (l ∷ ls) v e h z =
    let u = cleared ls v in
    let m : column_of l < length u = omega (arith, h.0, length_cleared ls v, e) in (
      dot-cleared l u l.coords m ∙ (omega (arith, ints, mul_comm_ℤ (pivot_of l) (dot u l.coords))),
      clear_rest l u ls m z.0 (cleared_kills columns ls v e h.1 z.1),
    )

entry_cleared : (y : ℕ) (l : Line) (v : List ℤ) → ¬ (column_of l ≡ y) → entry y (cleared_by l v) ≡ pivot_of l *ℤ entry y v
entry_cleared y l v n = get_or-set_other (times (pivot_of l) v) (column_of l) y _ (pos 0) (λ e. n (sym e)) ∙ entry_times y (pivot_of l) v

-- a free column of it is 0 where it was 0
pub cleared_zero : (y : ℕ) (ls : List Line) (v : List ℤ) → IsFree ls y → entry y v ≡ pos 0 → entry y (cleared ls v) ≡ pos 0
cleared_zero y [] v f e = e
cleared_zero y (l ∷ ls) v f e = entry_cleared y l (cleared ls v) f.0 ∙ (rw (cleared_zero y ls v f.1 e) (omega (arith, ints)))

-- and not 0 where it was not
pub cleared_nonzero : (y : ℕ) (ls : List Line) (v : List ℤ) → IsFree ls y → Each (λ l. ¬ (pivot_of l ≡ pos 0)) ls → ¬ (entry y v ≡ pos 0) → ¬ (entry y (cleared ls v) ≡ pos 0)
cleared_nonzero y [] v f p n = n
cleared_nonzero y (l ∷ ls) v f p n =
    λ e. product_nonzero (pivot_of l) (entry y (cleared ls v)) p.0 (cleared_nonzero y ls v f.1 p.1 n) (sym (entry_cleared y l (cleared ls v) f.0) ∙ e)

pub length_unit : (columns z : ℕ) → z < columns → length (unit columns z) ≡ columns
length_unit columns z h =
    length-append (replicate z (pos 0)) (pos 1 ∷ replicate (columns - z - 1) (pos 0))
    ∙ (rw (length-replicate z (pos 0), length-replicate (columns - z - 1) (pos 0)) (omega arith))

pub unit_one : (columns z : ℕ) → entry z (unit columns z) ≡ pos 1
unit_one columns z =
    let s = get_or-append_seam (replicate z (pos 0)) (pos 1) (replicate (columns - z - 1) (pos 0)) (pos 0) in
    rw (length-replicate z (pos 0)) at s

entry_replicate : (n y : ℕ) → entry y (replicate n (pos 0)) ≡ pos 0
entry_replicate zero y = refl
entry_replicate (suc n) zero = refl
entry_replicate (suc n) (suc y) = entry_replicate n y

entry_unit : (z m y : ℕ) → ¬ (y ≡ z) → entry y (replicate z (pos 0) ++ pos 1 ∷ replicate m (pos 0)) ≡ pos 0
entry_unit zero m zero n = absurd (n refl)
entry_unit zero m (suc y) n = entry_replicate m y
entry_unit (suc z) m zero n = refl
entry_unit (suc z) m (suc y) n = entry_unit z m y (λ e. n (ap suc e))

pub unit_other : (columns z y : ℕ) → ¬ (y ≡ z) → entry y (unit columns z) ≡ pos 0
unit_other columns z y n = entry_unit z (columns - z - 1) y n

-- a column is free, or some row has its pivot there
pub free_or : (ls : List Line) (y : ℕ) → IsFree ls y ⊎ ((l : Line) × IsAmong l ls × (column_of l ≡ y))
free_or [] y = inl tt
free_or (l ∷ ls) y = by_test (column_of l == y) refl (free_or ls y)
  where
    by_test : (b : Bool) → (column_of l == y) ≡ b → IsFree ls y ⊎ ((k : Line) × IsAmong k ls × (column_of k ≡ y)) → IsFree (l ∷ ls) y ⊎ ((k : Line) × IsAmong k (l ∷ ls) × (column_of k ≡ y))
    by_test true e r = inr (l, inl refl, eqb-true (column_of l) y e)
    by_test false e (inl f) = inl (eqb-false (column_of l) y e, f)
    by_test false e (inr k) = inr (k.0, inr k.1, k.2)

-- the coefficients of a free column are not all 0
pub free_content : (columns : ℕ) (ls : List Line) (z : ℕ) → IsFree ls z → Each (λ l. ¬ (pivot_of l ≡ pos 0)) ls → 0 < content (coefs_of columns ls z)
free_content columns ls z free pivots =
    content_positive z (coefs_of columns ls z) (cleared_nonzero z ls (unit columns z) free pivots (λ u. absurd (omega (arith, ints, sym (unit_one columns z) ∙ u))))
