-- The tests of pairs: what passes them loses nothing.
use Rattle.std.proofs.Common.{◌≡◌, ◌⊎◌, inl, inr, ℕ, ℤ, pos, ◌+ℤ◌, ◌*ℤ◌, ◌≤ℤ◌, int_cmp, Bool, true, false, ◌||◌, cond, int_le, List, [], ◌∷◌, arith, refl}
use Rattle.std.specs.Ordering.{int_eq, is_eq}
use Rattle.std.specs.declared.cmp.Ordering.{Ordering}
use Rattle.std.specs.declared.cmp.Ordering.TheVariants.{Less, Equal, Greater}
use Rattle.std.specs.Cmp.Lexicographic.{pointwise}
use Rattle.std.proofs.lemmas.Bool.Decides.{Decides-int_eq}
use Rattle.std.proofs.lemmas.Int.{ints, clamps}
use Rattle.ac_base.specs.Dot.{dot}
use Rattle.ac_forms.specs.Affine.{Affine, added, value_at}
use Rattle.ac_forms.specs.NormalRows.{normal_ge, LeftHolds}
use Rattle.ac_forms.specs.FormOrder.{columns_cmp, form_eq}
use Rattle.ac_forms.specs.Ties.{int_tied, then_tied}
use Rattle.ac_forms.specs.Rows.{Meets}
use Rattle.ac_forms.specs.declared.row.Row.{Row}
use Rattle.ac_forms.specs.declared.row.Row.TheVariants.{Eq, Div, Ge}
use Rattle.ac_forms.specs.declared.normal.NormalRow.{NormalRow}
use Rattle.ac_forms.specs.declared.normal.NormalRow.TheVariants.{Kept, Dropped, Absurd}
use Rattle.ac_forms.proofs.NormalLaws.{ge_keeps}
use Rattle.ac_forms.proofs.Values.{value_at-added}
use Rattle.ac_omega_steps.specs.declared.column.Bound.{Bound}
use Rattle.ac_omega_steps.specs.Bounds.{is_none, low_bound, highs, rows_without, greatest_size}
use Rattle.ac_omega_steps.specs.Choices.{shadow_form}
use Rattle.ac_base.proofs.Truths.{and-true}
use Rattle.std.specs.Int.{int_max}
use Rattle.ac_omega_steps.proofs.ColumnParts.{HaveSizes, high-sizes}
use Rattle.ac_omega_exact.specs.Exact.{real_form, LosesNothing, SufficesFor, Suffices}
use Rattle.ac_omega_exact.specs.ExactnessTests.{is_same_left, is_at_most, is_implied_by_one, is_implied_with, is_implied_by_two, is_implied, is_exact, greatest_failing, economical, full}

pub or-true : (a b : Bool) → (a || b) ≡ true → (a ≡ true) ⊎ (b ≡ true)
or-true true b e = inl refl
or-true false b e = inr e

pub same-dot : (cs ds p : List ℤ) → pointwise int_eq cs ds ≡ true → dot cs p ≡ dot ds p
same-dot [] [] p e = refl
same-dot [] (d ∷ ds) p e = absurd cc
same-dot (c ∷ cs) [] p e = absurd cc
same-dot (c ∷ cs) (d ∷ ds) [] e = refl
same-dot (c ∷ cs) (d ∷ ds) (x ∷ p) e =
    let s = and-true (int_eq c d) (pointwise int_eq cs ds) e in
    rw ((Decides-int_eq c d).0 s.0, same-dot cs ds p s.1) refl

same-form : (f g : Affine) (p : List ℤ) → form_eq f g ≡ true → value_at f p ≡ value_at g p
same-form f g p e =
    let s = and-true (pointwise int_eq f.coefs g.coefs) (int_eq f.konst g.konst) e in
    rw (same-dot f.coefs g.coefs p s.0, (Decides-int_eq f.konst g.konst).0 s.1) refl

same-holds : (a b : NormalRow) (p : List ℤ) → is_same_left a b ≡ true → LeftHolds b p → LeftHolds a p
same-holds (Kept (Ge f)) (Kept (Ge g)) p e h = rw (same-form f g p e) h
same-holds (Kept (Ge f)) (Kept (Eq g)) p e h = absurd cc
same-holds (Kept (Ge f)) (Kept (Div m g)) p e h = absurd cc
same-holds (Kept (Eq f)) (Kept r) p e h = absurd cc
same-holds (Kept (Div m f)) (Kept r) p e h = absurd cc
same-holds (Kept (Ge f)) Dropped p e h = absurd cc
same-holds (Kept (Eq f)) Dropped p e h = absurd cc
same-holds (Kept (Div m f)) Dropped p e h = absurd cc
same-holds (Kept r) Absurd p e h = absurd h
same-holds Dropped b p e h = tt
same-holds Absurd (Kept r) p e h = absurd cc
same-holds Absurd Dropped p e h = absurd cc
same-holds Absurd Absurd p e h = h

-- lists of coefficients that are the same column by column have the same values
tied : (o : Ordering) → is_eq o ≡ true → o ≡ Equal
tied Less e = absurd cc
tied Equal e = refl
tied Greater e = absurd cc

pub same-columns : (cs ds p : List ℤ) → columns_cmp cs ds ≡ Equal → dot cs p ≡ dot ds p
same-columns [] [] p e = refl
same-columns [] (d ∷ ds) [] e = refl
same-columns [] (d ∷ ds) (x ∷ p) e =
    let t = then_tied (int_cmp (pos 0) d) (columns_cmp [] ds) e in
    rw (← int_tied (pos 0) d t.0, ← same-columns [] ds p t.1) (zero-dot x p)
  where
    zero-dot : (x : ℤ) (p : List ℤ) → pos 0 ≡ pos 0 *ℤ x +ℤ dot [] p
    zero-dot x p = omega (arith, ints)
same-columns (c ∷ cs) [] [] e = refl
same-columns (c ∷ cs) [] (x ∷ p) e =
    let t = then_tied (int_cmp c (pos 0)) (columns_cmp cs []) e in
    rw (int_tied c (pos 0) t.0, same-columns cs [] p t.1) (omega (arith, ints))
same-columns (c ∷ cs) (d ∷ ds) [] e = refl
same-columns (c ∷ cs) (d ∷ ds) (x ∷ p) e =
    let t = then_tied (int_cmp c d) (columns_cmp cs ds) e in
    rw (int_tied c d t.0, same-columns cs ds p t.1) refl

at-most-holds : (f g : Affine) (p : List ℤ) → is_at_most f g ≡ true → pos 0 ≤ℤ value_at f p → pos 0 ≤ℤ value_at g p
at-most-holds f g p e h =
    let s = and-true (is_eq (columns_cmp f.coefs g.coefs)) (int_le f.konst g.konst) e in
    let d = same-columns f.coefs g.coefs p (tied (columns_cmp f.coefs g.coefs) s.0) in
    let k : f.konst ≤ℤ g.konst = omega (arith, ints, s.1) in
    omega (arith, ints, d, k, h)

sum-holds : (f g : Affine) (p : List ℤ) → pos 0 ≤ℤ value_at f p → pos 0 ≤ℤ value_at g p → pos 0 ≤ℤ value_at (added f g) p
sum-holds f g p h k = rw (value_at-added f g p) (omega (arith, ints, h, k))

one-implies : (rs : List Row) (g : Affine) (p : List ℤ) → is_implied_by_one rs g ≡ true → Meets rs p → pos 0 ≤ℤ value_at g p
one-implies [] g p e m = absurd cc
one-implies (Ge f ∷ rs) g p e m = elim (or-true (is_at_most f g) (is_implied_by_one rs g) e) [ inl a ↦ at-most-holds f g p a m.0 | inr b ↦ one-implies rs g p b m.1 ]
one-implies (Eq f ∷ rs) g p e m = one-implies rs g p e m.1
one-implies (Div n f ∷ rs) g p e m = one-implies rs g p e m.1

with-implies : (f : Affine) (rs : List Row) (g : Affine) (p : List ℤ) → is_implied_with f rs g ≡ true → pos 0 ≤ℤ value_at f p → Meets rs p → pos 0 ≤ℤ value_at g p
with-implies f [] g p e h m = absurd cc
with-implies f (Ge k ∷ rs) g p e h m = elim (or-true (is_at_most (added f k) g) (is_implied_with f rs g) e) [ inl a ↦ at-most-holds (added f k) g p a (sum-holds f k p h m.0) | inr b ↦ with-implies f rs g p b h m.1 ]
with-implies f (Eq k ∷ rs) g p e h m = with-implies f rs g p e h m.1
with-implies f (Div n k ∷ rs) g p e h m = with-implies f rs g p e h m.1

two-imply : (fs rs : List Row) (g : Affine) (p : List ℤ) → is_implied_by_two fs rs g ≡ true → Meets fs p → Meets rs p → pos 0 ≤ℤ value_at g p
two-imply [] rs g p e h m = absurd cc
two-imply (Ge f ∷ fs) rs g p e h m = elim (or-true (is_implied_with f rs g) (is_implied_by_two fs rs g) e) [ inl a ↦ with-implies f rs g p a h.0 m | inr b ↦ two-imply fs rs g p b h.1 m ]
two-imply (Eq f ∷ fs) rs g p e h m = two-imply fs rs g p e h.1 m
two-imply (Div n f ∷ fs) rs g p e h m = two-imply fs rs g p e h.1 m

implied-holds : (rs : List Row) (a : NormalRow) (p : List ℤ) → is_implied rs a ≡ true → Meets rs p → LeftHolds a p
implied-holds rs (Kept (Ge g)) p e m = elim (or-true (is_implied_by_one rs g) (is_implied_by_two rs rs g) e) [ inl a ↦ one-implies rs g p a m | inr b ↦ two-imply rs rs g p b m m ]
implied-holds rs (Kept (Eq g)) p e m = absurd cc
implied-holds rs (Kept (Div n g)) p e m = absurd cc
implied-holds rs Dropped p e m = absurd cc
implied-holds rs Absurd p e m = absurd cc

-- a pair that passes loses nothing
pub exact-loses-nothing : (z : ℕ) (rows : List Row) (low high : Bound) → is_exact z rows low high ≡ true → LosesNothing (rows_without z rows) low high
exact-loses-nothing z rows low high e = λ p m r.
    (ge_keeps (shadow_form low high) p).0
    (elim (or-true (is_same_left (normal_ge (shadow_form low high)) (normal_ge (real_form low high))) (is_implied (rows_without z rows) (normal_ge (shadow_form low high))) e) [
      | inl a ↦ same-holds (normal_ge (shadow_form low high)) (normal_ge (real_form low high)) p a ((ge_keeps (real_form low high) p).1 r)
      | inr b ↦ implied-holds (rows_without z rows) (normal_ge (shadow_form low high)) p b m
    ])

suffices-more : (rows : List Row) (low : Bound) (a c : ℤ) (hs : List Bound) → a ≤ℤ c → SufficesFor rows low a hs → SufficesFor rows low c hs
suffices-more rows low a c [] l h = tt
suffices-more rows low a c (b ∷ bs) l h = (elim h.0 [ inl e ↦ inl e | inr s ↦ inr (omega (arith, ints, s, l)) ], suffices-more rows low a c bs l h.1)

pub failing-some : (passes : Bound → Bool) (hs : List Bound) → pos 1 ≤ℤ greatest_failing passes hs
failing-some passes [] = omega (arith, ints)
failing-some passes (h ∷ hs) = by (passes h) (failing-some passes hs)
  where
    by : (t : Bool) → pos 1 ≤ℤ greatest_failing passes hs → pos 1 ≤ℤ cond t (greatest_failing passes hs) (int_max h.size (greatest_failing passes hs))
    by true g = g
    by false g = omega (arith, ints, clamps, g)

failing-suffices : (rows : List Row) (low : Bound) (passes : Bound → Bool) (hs : List Bound) → ((h : Bound) → passes h ≡ true → LosesNothing rows low h) → SufficesFor rows low (greatest_failing passes hs) hs
failing-suffices rows low passes [] k = tt
failing-suffices rows low passes (h ∷ hs) k = by (passes h) refl (failing-suffices rows low passes hs k)
  where
    by : (t : Bool) → passes h ≡ t → SufficesFor rows low (greatest_failing passes hs) hs → SufficesFor rows low (cond t (greatest_failing passes hs) (int_max h.size (greatest_failing passes hs))) (h ∷ hs)
    by true e g = (inl (k h e), g)
    by false e g = (inr (omega (arith, ints, clamps)), suffices-more rows low (greatest_failing passes hs) _ hs (omega (arith, ints, clamps)) g)

-- the greatest size of an upper row in a pair that is not exact suffices
pub economical-suffices : (z : ℕ) (rows : List Row) → Suffices (economical z rows) z rows
economical-suffices z rows f e = (
  failing-some (is_exact z rows (low_bound z f)) (highs z rows),
  failing-suffices (rows_without z rows) (low_bound z f) (is_exact z rows (low_bound z f)) (highs z rows) (λ h k. exact-loses-nothing z rows (low_bound z f) h k),
)

greatest-suffices : (rows : List Row) (low : Bound) (hs : List Bound) → SufficesFor rows low (greatest_size hs) hs
greatest-suffices rows low [] = tt
greatest-suffices rows low (h ∷ hs) = (inr (omega (arith, ints, clamps)), suffices-more rows low (greatest_size hs) _ hs (omega (arith, ints, clamps)) (greatest-suffices rows low hs))

-- so does the greatest size of all upper rows, where there is one
pub full-suffices : (z : ℕ) (rows : List Row) → is_none (highs z rows) ≡ false → Suffices (full z rows) z rows
full-suffices z rows n f e = (some (highs z rows) (high-sizes z rows) n, greatest-suffices (rows_without z rows) (low_bound z f) (highs z rows))
  where
    some : (hs : List Bound) → HaveSizes hs → is_none hs ≡ false → pos 1 ≤ℤ greatest_size hs
    some [] s e = absurd cc
    some (h ∷ hs) s e = let k = s.0 in omega (arith, ints, clamps, k)
