-- Columns plus numbers: their differences, and the rows that are made of them.
use Rattle.std.proofs.Common.{◌≡◌, ℕ, zero, suc, ◌+◌, ◌-◌, ◌<◌, ◌≤◌, ◌^◌, lit<, Bool, true, false, ℤ, pos, negsuc, ◌+ℤ◌, ◌-ℤ◌, ◌*ℤ◌, List, [], ◌∷◌, ◌++◌, map, length, get_or, Some, None, arith, refl, sym, ◌∙◌}
use Rattle.std.specs.Prelude.{unsigned_abs, replicate}
use Rattle.std.specs.List.{AllByRecursion}
use Rattle.std.proofs.lemmas.Int.{ints}
use Rattle.ac_forms.specs.Affine.{Affine, coef, column_form, combined, shifted, mix_numbers, CanCombine}
use Rattle.ac_forms.specs.Fits.{Fits, AllFit}
use Rattle.ac_forms.specs.declared.row.Row.{Row}
use Rattle.ac_forms.specs.declared.row.Row.TheVariants.{Eq, Ge}
use Rattle.ac_omega_steps.proofs.Fitting.{combination_some}
use Rattle.ac_omega_steps.proofs.OneColumn.{coef-combined}
use Rattle.ac_poly.specs.LevelRows.{levels_from, difference as counter_difference}
use Rattle.ac_poly.specs.CoordinateColumns.{CanBound}
use Rattle.ac_claims_paths.specs.PathColumns.{difference, equal_forms}
use Rattle.ac_claims_paths.specs.ModelPositions.{extent_rows}
use Rattle.ac_omega.specs.DifferenceRows.{one_in, IsDifferenceWithin, AreDifferences}
use Rattle.ac_base.specs.Dot.{mix}
use Rattle.ac_omega.proofs.DifferenceForms.{IsUnit}
use Rattle.ac_omega.proofs.DifferenceRows.{AreUnits}
use Rattle.ac_omega.proofs.DifferenceNormals.{nothing-at}
use Rattle.ac_omega.proofs.DifferenceFits.{unit-small}
use Rattle.ac_flow_budget.specs.Models.{IsShifted, AreShifted, IsFormWithin}
use Rattle.ac_flow_budget.proofs.Rows.{rows-both, small-fits, units-of}
use Rattle.ac_flow_budget.proofs.Renamed.{first-first, first-later, later-first, later-later, renamed-shifted, renaming-made}
use Rattle.ac_forms.specs.Renaming.{renamed}

less-none : (x y : ℤ) → x ≡ y → x ≡ y -ℤ pos 0
less-none x y e = omega (arith, ints)

-- such a form is a difference
pub shifted-difference : (b : ℕ) (f : Affine) → IsShifted b f → IsDifferenceWithin b f
shifted-difference b f h = (record { plus = h.column; minus = None; is = λ j. less-none (coef j f) (one_in h.column j) (h.is j) }, h.small)

pub shifted-more : (b c : ℕ) (f : Affine) → b ≤ c → IsShifted b f → IsShifted c f
shifted-more b c f l h = record { column = h.column; is = h.is; small = omega (arith, h.small) }

pub all-more : (b c : ℕ) (fs : List Affine) → b ≤ c → AreShifted b fs → AreShifted c fs
all-more b c [] l h = tt
all-more b c (f ∷ fs) l h = (shifted-more b c f l h.0, all-more b c fs l h.1)

-- ---- the difference of two

apart-at : (h x y s t : ℤ) → h ≡ pos 1 *ℤ x +ℤ negsuc 0 *ℤ y → x ≡ s → y ≡ t → h ≡ s -ℤ t
apart-at h x y s t e f g = omega (arith, ints)

apart-small : (x y : ℤ) (b c : ℕ) → unsigned_abs x ≤ b → unsigned_abs y ≤ c → unsigned_abs (pos 1 *ℤ x +ℤ negsuc 0 *ℤ y) ≤ b + c
apart-small x y b c h g = omega (arith, ints)

pub apart : (b c : ℕ) (f g : Affine) → IsShifted b f → IsShifted c g → IsDifferenceWithin (b + c) (combined (pos 1) f (negsuc 0) g)
apart b c f g h k = (
  record {
    plus = h.column;
    minus = k.column;
    is = λ j. apart-at (coef j (combined (pos 1) f (negsuc 0) g)) (coef j f) (coef j g) (one_in h.column j) (one_in k.column j) (coef-combined j (pos 1) f (negsuc 0) g) (h.is j) (k.is j);
  },
  apart-small f.konst g.konst b c h.small k.small,
)

-- ---- it stays in `i128`

once-small : (x : ℤ) (b : ℕ) → unsigned_abs x ≤ b → unsigned_abs (pos 1 *ℤ x) ≤ b
once-small x b l = omega (arith, ints)

turned-small : (x : ℤ) (b : ℕ) → unsigned_abs x ≤ b → unsigned_abs (negsuc 0 *ℤ x) ≤ b
turned-small x b l = omega (arith, ints)

mixed : (cs ds : List ℤ) → AreUnits cs → AreUnits ds → AllFit (mix_numbers (pos 1) cs (negsuc 0) ds)
mixed [] [] u v = tt
mixed [] (d ∷ ds) u v = (small-fits _ 1 (turned-small d 1 (unit-small d v.0)) (lit< tt), mixed [] ds u v.1)
mixed (c ∷ cs) [] u v = (small-fits _ 1 (once-small c 1 (unit-small c u.0)) (lit< tt), mixed cs [] u.1 v)
mixed (c ∷ cs) (d ∷ ds) u v = (
  small-fits _ 1 (once-small c 1 (unit-small c u.0)) (lit< tt),
  (small-fits _ 1 (turned-small d 1 (unit-small d v.0)) (lit< tt), (small-fits _ 2 (apart-small c d 1 1 (unit-small c u.0) (unit-small d v.0)) (lit< tt), mixed cs ds u.1 v.1)),
)

pub can-combine : (b c : ℕ) (f g : Affine) → b + c < 2 ^ 127 → IsShifted b f → IsShifted c g → CanCombine (pos 1) f (negsuc 0) g
can-combine b c f g room h k = (
  mixed f.coefs g.coefs (units-of b f (shifted-difference b f h)) (units-of c g (shifted-difference c g k)),
  (small-fits _ b (once-small f.konst b h.small) (omega arith), small-fits _ c (turned-small g.konst c k.small) (omega arith), small-fits _ (b + c) (apart-small f.konst g.konst b c h.small k.small) room),
)

-- ---- the equalities of two cells

pub record Equates (b : ℕ) (ks : List ℕ) (fs : List Affine) (ls : List ℕ) (gs : List Affine) : Type 0 where
  pub rows : List Row
  pub is : equal_forms ks fs ls gs ≡ Some rows
  pub differences : AreDifferences b rows

pub difference-made : (b c : ℕ) (ks : List ℕ) (f : Affine) (ls : List ℕ) (g : Affine) → b + c < 2 ^ 127 → IsShifted b f → IsShifted c g → difference ks f ls g ≡ Some (combined (pos 1) (renamed ks f) (negsuc 0) (renamed ls g))
difference-made b c ks f ls g room h k =
    let x = renaming-made ks f (shifted-difference b f h).0 in
    let y = renaming-made ls g (shifted-difference c g k).0 in
    let z = combination_some (pos 1) (renamed ks f) (negsuc 0) (renamed ls g) (can-combine b c (renamed ks f) (renamed ls g) room (renamed-shifted ks b f h) (renamed-shifted ls c g k)) in
    rw (x, y, z) refl

pub equates : (b c : ℕ) (ks : List ℕ) (fs : List Affine) (ls : List ℕ) (gs : List Affine) → b + c < 2 ^ 127 → length fs ≡ length gs → AreShifted b fs → AreShifted c gs → Equates (b + c) ks fs ls gs
equates b c ks [] ls [] room l h k = record { rows = []; is = refl; differences = tt }
equates b c ks [] ls (g ∷ gs) room l h k = absurd (omega arith)
equates b c ks (f ∷ fs) ls [] room l h k = absurd (omega arith)
equates b c ks (f ∷ fs) ls (g ∷ gs) room l h k =
    let r = equates b c ks fs ls gs room (omega arith) h.1 k.1 in
    let e = difference-made b c ks f ls g room h.0 k.0 in
    record {
      rows = Eq (combined (pos 1) (renamed ks f) (negsuc 0) (renamed ls g)) ∷ r.rows;
      is = rw (e, r.is) refl;
      differences = (apart b c (renamed ks f) (renamed ls g) (renamed-shifted ks b f h.0) (renamed-shifted ls c g k.0), r.differences);
    }

-- ---- the form of a column

zeros-at : (n j : ℕ) → get_or (replicate n (pos 0)) j (pos 0) ≡ pos 0
zeros-at zero j = nothing-at j
zeros-at (suc n) zero = refl
zeros-at (suc n) (suc j) = zeros-at n j

column-at : (z n j : ℕ) → get_or (replicate z (pos 0) ++ pos 1 ∷ replicate n (pos 0)) j (pos 0) ≡ one_in (Some z) j
column-at zero n zero = sym first-first
column-at zero n (suc j) = zeros-at n j ∙ sym (first-later j)
column-at (suc z) n zero = sym (later-first z)
column-at (suc z) n (suc j) = column-at z n j ∙ sym (later-later z j)

pub column-coef : (n z j : ℕ) → coef j (column_form n z) ≡ one_in (Some z) j
column-coef n z j = column-at z (n - z - 1) j

pub column-shifted : (n z : ℕ) → IsShifted 0 (column_form n z)
column-shifted n z = record { column = Some z; is = λ j. column-at z (n - z - 1) j; small = omega arith }

pub columns-shifted : (zs : List ℕ) → AreShifted 0 (map (λ k. column_form (k + 1) k) zs)
columns-shifted [] = tt
columns-shifted (z ∷ zs) = (column-shifted (z + 1) z, columns-shifted zs)

-- ---- the levels

further-small : (x k : ℤ) (b : ℕ) → unsigned_abs x ≤ b → unsigned_abs k ≤ 1 → unsigned_abs (x +ℤ k) ≤ b + 1
further-small x k b h g = omega (arith, ints)

pub further : (b : ℕ) (f : Affine) (k : ℤ) → unsigned_abs k ≤ 1 → IsDifferenceWithin b f → IsDifferenceWithin (b + 1) (shifted f k)
further b f k l d = (d.0, further-small f.konst k b d.1 l)

counters-apart : (i j : ℕ) (k : ℤ) → unsigned_abs k ≤ 1 → IsDifferenceWithin 1 (counter_difference i j k)
counters-apart i j k l = further 0 (combined (pos 1) (column_form (j + 1) j) (negsuc 0) (column_form (i + 1) i)) k l (apart 0 0 (column_form (j + 1) j) (column_form (i + 1) i) (column-shifted (j + 1) j) (column-shifted (i + 1) i))

pub levels-differ : (c i j : ℕ) (text : Bool) (done : List Row) → AreDifferences 1 done → AllByRecursion (AreDifferences 1) (levels_from c i j text done)
levels-differ zero i j true done d = (d, tt)
levels-differ zero i j false done d = tt
levels-differ (suc c) i j text done d = (
  rows-both 1 done (Ge (counter_difference i j (negsuc 0)) ∷ []) d (counters-apart i j (negsuc 0) (omega (arith, ints)), tt),
  levels-differ c (i + 1) (j + 1) text (done ++ Eq (counter_difference i j (pos 0)) ∷ []) (rows-both 1 done (Eq (counter_difference i j (pos 0)) ∷ []) d (counters-apart i j (pos 0) (omega (arith, ints)), tt)),
)

-- ---- the elements of an array

pub extents-differ : (b k : ℕ) (es : List Affine) → AreShifted b es → AreDifferences (b + 1) (extent_rows k es)
extents-differ b k [] h = tt
extents-differ b k (e ∷ es) h =
    let c = shifted-difference 0 (column_form (k + 1) k) (column-shifted (k + 1) k) in
    let a = apart b 0 e (column_form (k + 1) k) h.0 (column-shifted (k + 1) k) in
    let r = further (b + 0) (combined (pos 1) e (negsuc 0) (column_form (k + 1) k)) (negsuc 0) (omega (arith, ints)) a in
    ((c.0, omega (arith, c.1)), ((r.0, omega (arith, r.1)), extents-differ b (k + 1) es h.1))

further-fits : (x y : ℤ) (b : ℕ) → b + 1 < 2 ^ 127 → unsigned_abs x ≤ b → IsUnit y → Fits (pos 1 *ℤ x +ℤ negsuc 0 *ℤ y)
further-fits x y b room l u = small-fits _ (b + 1) (apart-small x y b 1 l (unit-small y u)) room

mixes-fit : (b : ℕ) (xs ys : List ℤ) → b + 1 < 2 ^ 127 → AllByRecursion (λ (c : ℤ). unsigned_abs c ≤ b) xs → AreUnits ys → AllFit (mix (pos 1) xs (negsuc 0) ys)
mixes-fit b [] [] room h u = tt
mixes-fit b [] (y ∷ ys) room h u = (small-fits _ 1 (turned-small y 1 (unit-small y u.0)) (lit< tt), mixes-fit b [] ys room h u.1)
mixes-fit b (x ∷ xs) [] room h u = (small-fits _ b (once-small x b h.0) (omega arith), mixes-fit b xs [] room h.1 u)
mixes-fit b (x ∷ xs) (y ∷ ys) room h u = (further-fits x y b room h.0 u.0, mixes-fit b xs ys room h.1 u.1)

pub all-bounded : (b k : ℕ) (es : List Affine) → b + 1 < 2 ^ 127 → AllByRecursion (IsFormWithin b) es → CanBound k es
all-bounded b k [] room h = tt
all-bounded b k (e ∷ es) room h =
    let u = units-of 0 (column_form (k + 1) k) (shifted-difference 0 (column_form (k + 1) k) (column-shifted (k + 1) k)) in
    let a = apart-small e.konst (pos 0) b 0 h.0.0 (omega arith) in
    let r = further-small (pos 1 *ℤ e.konst +ℤ negsuc 0 *ℤ pos 0) (negsuc 0) (b + 0) a (omega (arith, ints)) in
    (((mixes-fit b e.coefs (column_form (k + 1) k).coefs room h.0.1 u, small-fits _ (b + 0) a (omega arith)), small-fits _ (b + 0 + 1) r (omega arith)), all-bounded b (k + 1) es room h.1)
