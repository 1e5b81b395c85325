-- A branch on a row: where what goes on behind the row is accepted, and what goes on beside it, so is the branch.
use Rattle.std.proofs.Common.{◌≡◌, ℕ, zero, suc, ◌+◌, ◌≤◌, ℤ, pos, negsuc, neg_ℤ, ◌+ℤ◌, ◌-ℤ◌, ◌*ℤ◌, ◌≤ℤ◌, List, [], ◌∷◌, ◌++◌, length, Some, true, slice_get, refl, sym, ap, ◌∙◌, subst, arith}
use Rattle.std.proofs.lemmas.Int.{ints}
use Rattle.std.proofs.lemmas.List.{length-map, length-append}
use Rattle.ac_forms.specs.Affine.{Affine, shifted, combined, CanCombine, FormFits}
use Rattle.ac_forms.specs.Fits.{Fits}
use Rattle.ac_forms.specs.Negation.{opposite, above, below, with_column, NegationFits}
use Rattle.ac_forms.specs.declared.conj.Conj.{Conj}
use Rattle.ac_forms.specs.declared.row.Row.{Row}
use Rattle.ac_forms.specs.declared.row.Row.TheVariants.{Eq, Div, Ge}
use Rattle.ac_forms.proofs.Negations.{length-with_column}
use Rattle.ac_cert.specs.AcceptedTrees.{after_steps}
use Rattle.ac_cert.specs.Rules.{with_row, after_step, both_sides, is_zero, divides_form}
use Rattle.ac_cert.specs.declared.types.Step.{Step}
use Rattle.ac_cert.specs.declared.types.Step.TheVariants.{EqCut, DivEq, DivMod, Floor}
use Rattle.ac_cert.proofs.Equations.{split-rows, eq_cut-row, div_eq-row, div_mod-row, floor-rows}
use Rattle.ac_cert.specs.RowBranches.{with_floor, behind}
use Rattle.ac_cert.proofs.Divided.{column-divided, column-combines, itself-divided, once}
use Rattle.ac_cert.proofs.Opposites.{opposite-twice, below-opposite, can_cancel, cancelled, opposite-lower, column-fits, neg-fits}

-- on which paths something is accepted
abbrev pub Accepting : Type 0 → Type 1
Accepting M = M → Conj → Type 0

-- what the makers say
abbrev pub Splits : {M : Type 0} → Accepting M → Affine → M → M → M → Type 0
Splits P e l r t = (c a b : Conj) → both_sides e c ≡ Some (a, b) → P l a → P r b → P t c

abbrev pub StepsTo : {M : Type 0} → Accepting M → List Step → M → M → Type 0
StepsTo P steps onward t = (c d : Conj) → after_steps steps c ≡ Some d → P onward d → P t c

-- ---- places of rows

at-last : (rows : List Row) (r : Row) (n : ℕ) → length rows ≡ n → slice_get (rows ++ r ∷ []) n ≡ Some r
at-last [] r zero e = refl
at-last [] r (suc n) e = absurd (omega (arith, e))
at-last (s ∷ rows) r zero e = absurd (omega (arith, e))
at-last (s ∷ rows) r (suc n) e = at-last rows r n (omega (arith, e))

at-before : (rows : List Row) (r s : Row) (i : ℕ) → slice_get rows i ≡ Some s → slice_get (rows ++ r ∷ []) i ≡ Some s
at-before [] r s i e = absurd cc
at-before (x ∷ rows) r s zero e = e
at-before (x ∷ rows) r s (suc i) e = at-before rows r s i e

-- ---- equalities

-- a split by the opposite of a form
split-opposite : (c : Conj) (f : Affine) → length f.coefs ≤ c.columns → FormFits f → Fits (f.konst +ℤ negsuc 0) → both_sides (opposite f) c ≡ Some (with_row c (Ge (opposite f)), with_row c (Ge (above f)))
split-opposite c f short fits low =
    let twice = opposite-twice f in
    let whole : FormFits (opposite (opposite f)) = subst FormFits (sym twice) fits in
    let konst : Fits ((opposite (opposite f)).konst +ℤ negsuc 0) = subst (λ (g : Affine). Fits (g.konst +ℤ negsuc 0)) (sym twice) low in
    let rows = split-rows c (opposite f) (omega (arith, length-map f.coefs (λ (z : ℤ). negsuc 0 *ℤ z), short)) whole konst in
    rows ∙ ap (λ (g : Affine). Some (with_row c (Ge (opposite f)), with_row c (Ge g))) (below-opposite f)

one-step : (s : Step) (c d : Conj) → after_step s c ≡ Some d → after_steps (s ∷ []) c ≡ Some d
one-step s c d e = rw e refl

three-steps : (s t u : Step) (c d e f : Conj) → after_step s c ≡ Some d → after_step t d ≡ Some e → after_step u e ≡ Some f → after_steps (s ∷ t ∷ u ∷ []) c ≡ Some f
three-steps s t u c d e f x y z = rw (x, y, z) refl

eq-stands : (c : Conj) (f : Affine) (n : ℕ) → length c.rows ≡ n → FormFits f → FormFits (opposite f) → after_step (EqCut n (n + 1)) (with_row (with_row c (Ge f)) (Ge (opposite f))) ≡ Some (behind c (Eq f))
eq-stands c f n l fits other =
    let second = with_row (with_row c (Ge f)) (Ge (opposite f)) in
    let first = at-before (c.rows ++ Ge f ∷ []) (Ge (opposite f)) (Ge f) n (at-last c.rows (Ge f) n l) in
    let last = at-last (c.rows ++ Ge f ∷ []) (Ge (opposite f)) (n + 1) (omega (arith, length-append c.rows (Ge f ∷ []), l)) in
    eq_cut-row second n (n + 1) f (opposite f) first last (can_cancel f fits other) (cancelled f)

-- ---- divisibilities

-- the form less m times the quotient, its opposite, and the rows with them
abbrev low_form : Conj → ℤ → Affine → Affine
low_form c m f = with_column c.columns (neg_ℤ m) f

abbrev high_form : Conj → ℤ → Affine → Affine
high_form c m f = with_column c.columns m (opposite f)

abbrev rest_form : Conj → ℤ → Affine → Affine
rest_form c m f = with_column c.columns m (shifted (opposite f) (m -ℤ pos 1))

abbrev lowered : Conj → ℤ → Affine → Conj
lowered c m f = with_row (with_floor c m f) (Ge (high_form c m f))

abbrev equalled : Conj → ℤ → Affine → Conj
equalled c m f = with_row (lowered c m f) (Eq (low_form c m f))

abbrev divided : Conj → ℤ → Affine → Conj
divided c m f = with_row (equalled c m f) (Div m (low_form c m f))

record Divisible (c : Conj) (m : ℤ) (f : Affine) : Type 0 where
  short : length f.coefs ≤ c.columns
  positive : pos 1 ≤ℤ m
  modulus : Fits m
  fits : FormFits f
  negated : NegationFits (Div m f)

low-short : (c : Conj) (m : ℤ) (f : Affine) → Divisible c m f → length (low_form c m f).coefs ≤ c.columns + 1
low-short c m f h = omega (arith, length-with_column c.columns (neg_ℤ m) f h.short)

low-fits : (c : Conj) (m : ℤ) (f : Affine) → Divisible c m f → FormFits (low_form c m f)
low-fits c m f h = column-fits c.columns (neg_ℤ m) f (neg-fits m h.positive h.modulus) h.fits

high-fits : (c : Conj) (m : ℤ) (f : Affine) → Divisible c m f → FormFits (high_form c m f)
high-fits c m f h = column-fits c.columns m (opposite f) h.modulus h.negated.1

div-sides : (c : Conj) (m : ℤ) (f : Affine) → Divisible c m f → both_sides (high_form c m f) (with_floor c m f) ≡ Some (lowered c m f, with_row (with_floor c m f) (Ge (with_column c.columns (neg_ℤ m) (above f))))
div-sides c m f h =
    let sides = split-opposite (with_floor c m f) (low_form c m f) (low-short c m f h) (low-fits c m f h) h.negated.0 in
    subst (λ (g : Affine). both_sides g (with_floor c m f) ≡ Some (with_row (with_floor c m f) (Ge g), with_row (with_floor c m f) (Ge (above (low_form c m f))))) (opposite-lower c.columns m f) sides

push-length : (rows : List Row) (r : Row) (n : ℕ) → length rows ≡ n → length (rows ++ r ∷ []) ≡ n + 1
push-length rows r n l = omega (arith, length-append rows (r ∷ []), l)

module _ (c : Conj) (m : ℤ) (f : Affine) (n : ℕ) (l : length c.rows ≡ n) (h : Divisible c m f) where
  floor-count : length (with_floor c m f).rows ≡ n + 2
  floor-count = omega (arith, push-length (c.rows ++ Ge (low_form c m f) ∷ []) (Ge (rest_form c m f)) (n + 1) (push-length c.rows (Ge (low_form c m f)) n l))

  lowered-count : length (lowered c m f).rows ≡ n + 3
  lowered-count = omega (arith, push-length (with_floor c m f).rows (Ge (high_form c m f)) (n + 2) floor-count)

  equalled-count : length (equalled c m f).rows ≡ n + 4
  equalled-count = omega (arith, push-length (lowered c m f).rows (Eq (low_form c m f)) (n + 3) lowered-count)

  low-place : slice_get (lowered c m f).rows n ≡ Some (Ge (low_form c m f))
  low-place =
      at-before (with_floor c m f).rows (Ge (high_form c m f)) (Ge (low_form c m f)) n
      (at-before (c.rows ++ Ge (low_form c m f) ∷ []) (Ge (rest_form c m f)) (Ge (low_form c m f)) n (at-last c.rows (Ge (low_form c m f)) n l))

  equal-step : after_step (EqCut n (n + 2)) (lowered c m f) ≡ Some (equalled c m f)
  equal-step =
      let e = opposite-lower c.columns m f in
      let last = at-last (with_floor c m f).rows (Ge (high_form c m f)) (n + 2) floor-count in
      let can = subst (λ (g : Affine). CanCombine (pos 1) (low_form c m f) (pos 1) g) e (can_cancel (low_form c m f) (low-fits c m f h) (subst FormFits (sym e) (high-fits c m f h))) in
      let zero = subst (λ (g : Affine). is_zero (combined (pos 1) (low_form c m f) (pos 1) g) ≡ true) e (cancelled (low_form c m f)) in
      eq_cut-row (lowered c m f) n (n + 2) (low_form c m f) (high_form c m f) low-place last can zero

  divides-step : after_step (DivEq (n + 3) m) (equalled c m f) ≡ Some (divided c m f)
  divides-step = div_eq-row (equalled c m f) (n + 3) m (low_form c m f) (at-last (lowered c m f).rows (Eq (low_form c m f)) (n + 3) lowered-count) h.positive

  reduces-step : after_step (DivMod (n + 4) (pos 1) m f) (divided c m f) ≡ Some (behind c (Div m f))
  reduces-step =
      let last = at-last (equalled c m f).rows (Div m (low_form c m f)) (n + 4) equalled-count in
      let whole = subst (λ (z : ℤ). divides_form z (combined (pos 1) (low_form c m f) (negsuc 0) f) ≡ true) (sym (once m)) (column-divided c.columns m f) in
      div_mod-row (divided c m f) (n + 4) (pos 1) m m (low_form c m f) f last (omega (arith, ints)) h.positive (omega (arith, h.short)) (subst Fits (sym (once m)) h.modulus) (itself-divided m)
      (column-combines c.columns m f (neg-fits m h.positive h.modulus) h.fits h.negated.1) whole

  div-stands : after_steps (EqCut n (n + 2) ∷ DivEq (n + 3) m ∷ DivMod (n + 4) (pos 1) m f ∷ []) (lowered c m f) ≡ Some (behind c (Div m f))
  div-stands = three-steps (EqCut n (n + 2)) (DivEq (n + 3) m) (DivMod (n + 4) (pos 1) m f) (lowered c m f) (equalled c m f) (divided c m f) (behind c (Div m f)) equal-step divides-step reduces-step

-- ---- a branch on each kind of row

pub ge-branch : {M : Type 0} (P : Accepting M) (f : Affine) (inside outside t : M) (c : Conj) → length f.coefs ≤ c.columns → NegationFits (Ge f) → Splits P f inside outside t → P outside (with_row c (Ge (below f))) → P inside (behind c (Ge f)) → P t c
ge-branch P f inside outside t c short fits split out on =
    split c (with_row c (Ge f)) (with_row c (Ge (below f))) (split-rows c f short fits.0 fits.1) on out

pub eq-branch : {M : Type 0} (P : Accepting M) (f : Affine) (count : ℕ) (inside equal low high under t : M) (c : Conj) → length c.rows ≡ count → length f.coefs ≤ c.columns → FormFits f → NegationFits (Eq f) → StepsTo P (EqCut count (count + 1) ∷ []) inside equal → Splits P (opposite f) equal high low → Splits P f low under t
    → P high (with_row (with_row c (Ge f)) (Ge (above f))) → P under (with_row c (Ge (below f))) → P inside (behind c (Eq f)) → P t c
eq-branch P f count inside equal low high under t c l short fits negated steps inner outer out beneath on =
    let first = with_row c (Ge f) in
    let second = with_row first (Ge (opposite f)) in
    let goes = steps second (behind c (Eq f)) (one-step (EqCut count (count + 1)) second (behind c (Eq f)) (eq-stands c f count l fits negated.1)) on in
    let within = inner first second (with_row first (Ge (above f))) (split-opposite first f short fits negated.0) goes out in
    outer c first (with_row c (Ge (below f))) (split-rows c f short negated.1 negated.2) within beneath

pub div-branch : {M : Type 0} (P : Accepting M) (m : ℤ) (f : Affine) (columns count : ℕ) (inside next both outside t : M) (c : Conj) → c.columns ≡ columns → length c.rows ≡ count → length f.coefs ≤ columns → pos 1 ≤ℤ m → Fits m → FormFits f → NegationFits (Div m f)
    → StepsTo P (EqCut count (count + 2) ∷ DivEq (count + 3) m ∷ DivMod (count + 4) (pos 1) m f ∷ []) inside next → Splits P (with_column columns m (opposite f)) next outside both → StepsTo P (Floor m f ∷ []) both t
    → P outside (with_row (with_floor c m f) (Ge (with_column c.columns (neg_ℤ m) (above f)))) → P inside (behind c (Div m f)) → P t c
div-branch P m f columns count inside next both outside t c e l short positive modulus fits negated steps split floor out on =
    let h : Divisible c m f = record { short = omega (arith, short, e); positive = positive; modulus = modulus; fits = fits; negated = negated } in
    let here = subst (λ (n : ℕ). Splits P (with_column n m (opposite f)) next outside both) (sym e) split in
    let goes = steps (lowered c m f) (behind c (Div m f)) (div-stands c m f count l h) on in
    let within = here (with_floor c m f) (lowered c m f) (with_row (with_floor c m f) (Ge (with_column c.columns (neg_ℤ m) (above f)))) (div-sides c m f h) goes out in
    floor c (with_floor c m f) (one-step (Floor m f) c (with_floor c m f) (floor-rows c m f positive h.short negated.1 negated.2)) within
