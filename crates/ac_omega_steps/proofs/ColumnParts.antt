-- Rows of which only bounds have a column: those without it, the lower and the upper ones.
use Rattle.std.proofs.Common.{◌≡◌, ℕ, zero, suc, ◌<◌, ℤ, pos, negsuc, ◌+ℤ◌, ◌*ℤ◌, neg_ℤ, ◌≤ℤ◌, Bool, true, false, cond, not, List, [], ◌∷◌, length, set, arith, refl}
use Rattle.std.specs.Int.Signed.{lt_z}
use Rattle.std.specs.Ordering.{int_eq}
use Rattle.std.proofs.lemmas.Int.{ints}
use Rattle.ac_base.proofs.Products.{neg-mul_ℤ}
use Rattle.ac_forms.specs.Affine.{Affine, coef, value_at}
use Rattle.ac_forms.specs.Rows.{form_of, Holds, Meets}
use Rattle.ac_forms.specs.declared.row.Row.{Row}
use Rattle.ac_forms.specs.declared.row.Row.TheVariants.{Eq, Div, Ge}
use Rattle.ac_omega_steps.specs.declared.column.Bound.{Bound}
use Rattle.ac_omega_steps.specs.Bounds.{without, is_low, is_high, low_bound, high_bound, lows, highs, rows_without, only_bounds}
use Rattle.ac_forms.specs.RowColumns.{has_column}
use Rattle.ac_base.proofs.Truths.{and-true}
use Rattle.ac_omega_steps.proofs.OneColumn.{AreFree, value-split, value-free, holds-free, has-not, coef-without}

-- v meets each lower bound at the point
abbrev pub AllAbove : List Bound → List ℤ → ℤ → Type 0
AllAbove [] p v = Unit {0}
AllAbove (b ∷ bs) p v = (pos 0 ≤ℤ (b.size *ℤ v +ℤ value_at b.rest p)) × AllAbove bs p v

-- v meets each upper bound at the point
abbrev pub AllBelow : List Bound → List ℤ → ℤ → Type 0
AllBelow [] p v = Unit {0}
AllBelow (b ∷ bs) p v = ((b.size *ℤ v) ≤ℤ value_at b.rest p) × AllBelow bs p v

abbrev pub HaveSizes : List Bound → Type 0
HaveSizes [] = Unit {0}
HaveSizes (b ∷ bs) = (pos 1 ≤ℤ b.size) × HaveSizes bs

-- the rows hold where the column is v
pub record Parts (z : ℕ) (rows : List Row) (p : List ℤ) (v : ℤ) : Type 0 where
  pub free : Meets (rows_without z rows) p
  pub low : AllAbove (lows z rows) p v
  pub high : AllBelow (highs z rows) p v

abbrev free_part : ℤ → Row → List Row → List Row
free_part k r rest = cond (not (int_eq k (pos 0))) rest (r ∷ rest)

abbrev low_part : ℤ → Affine → List Bound → List Bound
low_part k f rest = cond (lt_z (pos 0) k) (record { size = k; rest = f } ∷ rest) rest

abbrev high_part : ℤ → Affine → List Bound → List Bound
high_part k f rest = cond (lt_z k (pos 0)) (record { size = neg_ℤ k; rest = f } ∷ rest) rest

-- the tests at a coefficient that is positive
not_zero : (b : ℕ) → int_eq (pos (suc b)) (pos 0) ≡ false
not_zero b = grind (arith, ints)

above_zero : (b : ℕ) → lt_z (pos 0) (pos (suc b)) ≡ true
above_zero b = grind (arith, ints)

not_below_zero : (b : ℕ) → lt_z (pos (suc b)) (pos 0) ≡ false
not_below_zero b = grind (arith, ints)

-- a row, by its coefficient of the column
part-ge : (k : ℤ) (f : Affine) (z : ℕ) (rs : List Row) (p : List ℤ) (v : ℤ) → z < length p → coef z f ≡ k → pos 0 ≤ℤ value_at f (set p z v) → Parts z rs p v
    → Meets (free_part k (Ge f) (rows_without z rs)) p × AllAbove (low_part k (without z f) (lows z rs)) p v × AllBelow (high_part k (without z f) (highs z rs)) p v
part-ge (pos zero) f z rs p v l e h g = let u = value-free f p z v l e in ((rw (← u) h, g.free), g.low, g.high)
part-ge (pos (suc b)) f z rs p v l e h g = let u = rw e at (value-split f p z v l) in rw (not_zero b, above_zero b, not_below_zero b) (g.free, (rw (← u) h, g.low), g.high)
part-ge (negsuc a) f z rs p v l e h g =
    let u = rw e at (value-split f p z v l) in
    let n = neg-mul_ℤ (pos (suc a)) v in
    (g.free, g.low, (omega (arith, ints, u, n), g.high))

join-ge : (k : ℤ) (f : Affine) (z : ℕ) (rs : List Row) (p : List ℤ) (v : ℤ) → z < length p → coef z f ≡ k
    → Meets (free_part k (Ge f) (rows_without z rs)) p → AllAbove (low_part k (without z f) (lows z rs)) p v → AllBelow (high_part k (without z f) (highs z rs)) p v
    → (pos 0 ≤ℤ value_at f (set p z v)) × Parts z rs p v
join-ge (pos zero) f z rs p v l e x y w = (rw (value-free f p z v l e) x.0, record { free = x.1; low = y; high = w })
join-ge (pos (suc b)) f z rs p v l e x y w =
    let x1 = rw (not_zero b) at x in
    let y1 = rw (above_zero b) at y in
    let w1 = rw (not_below_zero b) at w in
    (rw (value-split f p z v l, e) y1.0, record { free = x1; low = y1.1; high = w1 })
join-ge (negsuc a) f z rs p v l e x y w =
    let u = rw e at (value-split f p z v l) in
    let n = neg-mul_ℤ (pos (suc a)) v in
    let t = w.0 in
    (omega (arith, ints, u, n, t), record { free = x; low = y; high = w.1 })

-- a row that is kept
kept : (b : Bool) (r : Row) (rs : List Row) (p : List ℤ) → not b ≡ true → Holds r p → Meets rs p → Meets (cond b rs (r ∷ rs)) p
kept true r rs p e h g = absurd cc
kept false r rs p e h g = (h, g)

keeps : (b : Bool) (r : Row) (rs : List Row) (p : List ℤ) → not b ≡ true → Meets (cond b rs (r ∷ rs)) p → Holds r p × Meets rs p
keeps true r rs p e h = absurd cc
keeps false r rs p e h = h

part-kept : (r : Row) (z : ℕ) (rs : List Row) (p : List ℤ) (v : ℤ) → z < length p → not (has_column z r) ≡ true → Holds r (set p z v) → Meets (rows_without z rs) p → Meets (rows_without z (r ∷ rs)) p
part-kept r z rs p v l e h g = kept (has_column z r) r (rows_without z rs) p e ((holds-free r p z v l (has-not z r e)).0 h) g

join-kept : (r : Row) (z : ℕ) (rs : List Row) (p : List ℤ) (v : ℤ) → z < length p → not (has_column z r) ≡ true → Meets (rows_without z (r ∷ rs)) p → Holds r (set p z v) × Meets (rows_without z rs) p
join-kept r z rs p v l e h =
    let k = keeps (has_column z r) r (rows_without z rs) p e h in
    ((holds-free r p z v l (has-not z r e)).1 k.0, k.1)

pub parts : (z : ℕ) (rows : List Row) (p : List ℤ) (v : ℤ) → z < length p → only_bounds z rows ≡ true → Meets rows (set p z v) → Parts z rows p v
parts z [] p v l o h = record { free = tt; low = tt; high = tt }
parts z (Ge f ∷ rs) p v l o h = let g = part-ge (coef z f) f z rs p v l refl h.0 (parts z rs p v l o h.1) in record { free = g.0; low = g.1; high = g.2 }
parts z (Eq f ∷ rs) p v l o h =
    let b = and-true (not (has_column z (Eq f))) (only_bounds z rs) o in
    let g = parts z rs p v l b.1 h.1 in
    record { free = part-kept (Eq f) z rs p v l b.0 h.0 g.free; low = g.low; high = g.high }
parts z (Div m f ∷ rs) p v l o h =
    let b = and-true (not (has_column z (Div m f))) (only_bounds z rs) o in
    let g = parts z rs p v l b.1 h.1 in
    record { free = part-kept (Div m f) z rs p v l b.0 h.0 g.free; low = g.low; high = g.high }

pub joined : (z : ℕ) (rows : List Row) (p : List ℤ) (v : ℤ) → z < length p → only_bounds z rows ≡ true → Parts z rows p v → Meets rows (set p z v)
joined z [] p v l o g = tt
joined z (Ge f ∷ rs) p v l o g = let h = join-ge (coef z f) f z rs p v l refl g.free g.low g.high in (h.0, joined z rs p v l o h.1)
joined z (Eq f ∷ rs) p v l o g =
    let b = and-true (not (has_column z (Eq f))) (only_bounds z rs) o in
    let x = join-kept (Eq f) z rs p v l b.0 g.free in
    (x.0, joined z rs p v l b.1 (record { free = x.1; low = g.low; high = g.high }))
joined z (Div m f ∷ rs) p v l o g =
    let b = and-true (not (has_column z (Div m f))) (only_bounds z rs) o in
    let x = join-kept (Div m f) z rs p v l b.0 g.free in
    (x.0, joined z rs p v l b.1 (record { free = x.1; low = g.low; high = g.high }))

-- the rows without the column have it not
free-row : (z : ℕ) (b : Bool) (r : Row) (rs : List Row) → (not b ≡ true → coef z (form_of r) ≡ pos 0) → AreFree z rs → AreFree z (cond b rs (r ∷ rs))
free-row z true r rs e f = f
free-row z false r rs e f = (e refl, f)

pub rows_without-free : (z : ℕ) (rows : List Row) → AreFree z (rows_without z rows)
rows_without-free z [] = tt
rows_without-free z (r ∷ rs) = free-row z (has_column z r) r (rows_without z rs) (has-not z r) (rows_without-free z rs)

-- sizes are at least 1
low-size : (k : ℤ) (f : Affine) (bs : List Bound) → HaveSizes bs → HaveSizes (low_part k f bs)
low-size (pos zero) f bs h = h
low-size (pos (suc b)) f bs h = rw (above_zero b) (omega (arith, ints), h)
low-size (negsuc a) f bs h = h

high-size : (k : ℤ) (f : Affine) (bs : List Bound) → HaveSizes bs → HaveSizes (high_part k f bs)
high-size (pos zero) f bs h = h
high-size (pos (suc b)) f bs h = rw (not_below_zero b) h
high-size (negsuc a) f bs h = (omega (arith, ints), h)

pub low-sizes : (z : ℕ) (rows : List Row) → HaveSizes (lows z rows)
low-sizes z [] = tt
low-sizes z (Ge f ∷ rs) = low-size (coef z f) (without z f) (lows z rs) (low-sizes z rs)
low-sizes z (Eq f ∷ rs) = low-sizes z rs
low-sizes z (Div m f ∷ rs) = low-sizes z rs

pub high-sizes : (z : ℕ) (rows : List Row) → HaveSizes (highs z rows)
high-sizes z [] = tt
high-sizes z (Ge f ∷ rs) = high-size (coef z f) (without z f) (highs z rs) (high-sizes z rs)
high-sizes z (Eq f ∷ rs) = high-sizes z rs
high-sizes z (Div m f ∷ rs) = high-sizes z rs

-- no bound has the column
abbrev pub AreApart : ℕ → List Bound → Type 0
AreApart z [] = Unit {0}
AreApart z (b ∷ bs) = (coef z b.rest ≡ pos 0) × AreApart z bs

apart-at : (t : Bool) (z : ℕ) (b : Bound) (bs : List Bound) → coef z b.rest ≡ pos 0 → AreApart z bs → AreApart z (cond t (b ∷ bs) bs)
apart-at true z b bs e h = (e, h)
apart-at false z b bs e h = h

pub lows-apart : (z : ℕ) (rows : List Row) → AreApart z (lows z rows)
lows-apart z [] = tt
lows-apart z (Ge f ∷ rs) = apart-at (is_low z f) z (low_bound z f) (lows z rs) (coef-without z f) (lows-apart z rs)
lows-apart z (Eq f ∷ rs) = lows-apart z rs
lows-apart z (Div m f ∷ rs) = lows-apart z rs

pub highs-apart : (z : ℕ) (rows : List Row) → AreApart z (highs z rows)
highs-apart z [] = tt
highs-apart z (Ge f ∷ rs) = apart-at (is_high z f) z (high_bound z f) (highs z rs) (coef-without z f) (highs-apart z rs)
highs-apart z (Eq f ∷ rs) = highs-apart z rs
highs-apart z (Div m f ∷ rs) = highs-apart z rs
