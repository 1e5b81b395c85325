-- Joining rows in order keeps their points.
use Rattle.std.proofs.Common.{◌≡◌, ◌↔◌, ℕ, ◌≤◌, ℤ, pos, negsuc, ◌+ℤ◌, ◌≤ℤ◌, List, [], ◌∷◌, length, cond, Bool, true, false, ◌&&◌, ◌||◌, refl, sym, ap, ◌∙◌, subst, arith, int_eq, int_cmp, Result, Ok, Err, ◌⊎◌, inl, inr}
use Rattle.std.specs.Prelude.{not, IfOk}
use Rattle.std.specs.List.{dedup, dedup_from}
use Rattle.std.proofs.lemmas.Int.{ints}
use Rattle.std.specs.declared.cmp.Ordering.{Ordering}
use Rattle.std.specs.declared.cmp.Ordering.TheVariants.{Less, Equal, Greater}
use Rattle.std.specs.Ordering.{is_gt, ordering_then, nat_cmp}
use Rattle.std.specs.Cmp.Lexicographic.{pointwise, pointwise_decides}
use Rattle.std.proofs.lemmas.Cmp.{tied_itself, lists_equiv, int_eq_equiv}
use Rattle.ac_base.specs.Dot.{dot}
use Rattle.ac_forms.specs.Affine.{Affine, value_at}
use Rattle.ac_forms.specs.NormalForm.{absurd_rows, left_onto, left_rows, is_absurd, has_absurd, in_order, same_coefs, alike, clash, clash_after, has_clash, joined, normal_form}
use Rattle.ac_forms.specs.NormalRows.{normal_row, LeftHolds}
use Rattle.ac_forms.specs.FormOrder.{columns_cmp, form_cmp, form_eq, row_cmp}
use Rattle.ac_forms.specs.Rows.{Holds, Meets, HasModulus, AreRowsOver, IsRowOver}
use Rattle.ac_forms.specs.FormStops.{MadeIff}
use Rattle.ac_forms.specs.Ties.{columns_total}
use Rattle.ac_forms.specs.declared.stop.FormStop.{FormStop}
use Rattle.ac_forms.specs.declared.conj.Conj.{Conj}
use Rattle.ac_forms.specs.declared.row.Row.{Row}
use Rattle.ac_forms.specs.declared.row.Row.TheVariants.{Eq, Div, Ge}
use Rattle.ac_forms.specs.declared.normal.NormalRow.{NormalRow}
use Rattle.ac_forms.specs.declared.normal.NormalRow.TheVariants.{Kept, Dropped, Absurd}
use Rattle.ac_forms.proofs.NormalLaws.{row_keeps}
use Rattle.ac_forms.proofs.Sorting.{Below, Rising, rising-in_order, meets-in_order, same_form}

pub both_of : (a b : Bool) → (a && b) ≡ true → (a ≡ true) × (b ≡ true)
both_of true b e = (refl, e)
both_of false b e = absurd cc

pub neither_of : (a b : Bool) → (a || b) ≡ false → (a ≡ false) × (b ≡ false)
neither_of true b e = absurd cc
neither_of false b e = (refl, e)

pub either_of : (a b : Bool) → (a || b) ≡ true → (a ≡ true) ⊎ (b ≡ true)
either_of true b e = inl refl
either_of false b e = inr e

int_same : (x y : ℤ) → int_eq x y ≡ true → x ≡ y
int_same x y e = grind (arith, ints)

int_other : (x y : ℤ) → int_eq x y ≡ false → x ≡ y → ⊥
int_other x y e f = grind (arith, ints)

pub lists_same : (xs ys : List ℤ) → pointwise int_eq xs ys ≡ true → xs ≡ ys
lists_same [] [] e = refl
lists_same [] (y ∷ ys) e = absurd cc
lists_same (x ∷ xs) [] e = absurd cc
lists_same (x ∷ xs) (y ∷ ys) e =
    let b = both_of (int_eq x y) (pointwise int_eq xs ys) e in
    ap (λ (z : ℤ). z ∷ xs) (int_same x y b.0) ∙ ap (λ (zs : List ℤ). y ∷ zs) (lists_same xs ys b.1)

-- forms with the same coefficients differ by their constants at each point
differ : (f g : Affine) (p : List ℤ) → f.coefs ≡ g.coefs → value_at f p +ℤ g.konst ≡ value_at g p +ℤ f.konst
differ f g p e = let d = ap (λ (cs : List ℤ). dot cs p) e in omega (arith, ints, d)

then_le : (o p : Ordering) → is_gt (ordering_then Equal (ordering_then o p)) ≡ false → is_gt o ≡ false
then_le Less p e = refl
then_le Equal p e = refl
then_le Greater p e = e

int_upto : (x y : ℤ) → is_gt (int_cmp x y) ≡ false → x ≤ℤ y
int_upto x y e = grind (arith, ints)

-- of two forms with the same coefficients in order the first has the lesser constant
lesser : (f g : Affine) → f.coefs ≡ g.coefs → is_gt (form_cmp f g) ≡ false → f.konst ≤ℤ g.konst
lesser f g e h =
    let t : columns_cmp f.coefs g.coefs ≡ Equal = rw e (tied_itself columns_total g.coefs) in
    int_upto f.konst g.konst (then_le (int_cmp f.konst g.konst) (nat_cmp (length f.coefs) (length g.coefs)) (rw t at h))

lists_itself : (xs : List ℤ) → pointwise int_eq xs xs ≡ true
lists_itself xs = (lists_equiv int_eq_equiv).refl xs

coefs_same : (f g : Affine) → f.coefs ≡ g.coefs → same_coefs f g ≡ true
coefs_same f g e = rw e (lists_itself g.coefs)

not_false : (b : Bool) → not b ≡ false → b ≡ true
not_false true e = refl
not_false false e = absurd cc

not_true : (b : Bool) → not b ≡ true → b ≡ false
not_true true e = absurd cc
not_true false e = refl

-- `Eq` rows with the same coefficients that do not clash have one constant
same_constants : (f g : Affine) → f.coefs ≡ g.coefs → clash (Eq f) (Eq g) ≡ false → f.konst ≡ g.konst
same_constants f g e c = int_same f.konst g.konst (not_false (int_eq f.konst g.konst) (rw (coefs_same f g e) at c))

-- a row that is like an earlier one, and does not clash with it, holds where the earlier one does
follows : (r s : Row) (p : List ℤ) → is_gt (row_cmp r s) ≡ false → alike s r ≡ true → clash r s ≡ false → Holds r p → Holds s p
follows (Eq f) (Eq g) p o a c h =
    let e = sym (lists_same g.coefs f.coefs a) in
    omega (arith, ints, differ f g p e, same_constants f g e c, h)
follows (Eq f) (Div n g) p o a c h = absurd cc
follows (Eq f) (Ge g) p o a c h = absurd cc
follows (Div m f) (Eq g) p o a c h = absurd cc
follows (Div m f) (Div n g) p o a c h =
    let b = both_of (int_eq n m) (form_eq g f) a in
    let d = both_of (pointwise int_eq g.coefs f.coefs) (int_eq g.konst f.konst) b.1 in
    let e = sym (lists_same g.coefs f.coefs d.0) in
    let k = int_same g.konst f.konst d.1 in
    let v : value_at f p ≡ value_at g p = omega (arith, ints, differ f g p e, k) in
    rw (int_same n m b.0, ← v) h
follows (Div m f) (Ge g) p o a c h = absurd cc
follows (Ge f) (Eq g) p o a c h = absurd cc
follows (Ge f) (Div n g) p o a c h = absurd cc
follows (Ge f) (Ge g) p o a c h =
    let e = sym (lists_same g.coefs f.coefs a) in
    omega (arith, ints, differ f g p e, lesser f g e o, h)

like_clash : (k x y : Row) → alike x k ≡ true → clash k x ≡ false → clash k y ≡ clash x y
like_clash (Eq f) (Eq g) y a c =
    let e = sym (lists_same g.coefs f.coefs a) in
    ap (λ (h : Affine). clash (Eq h) y) (same_form f g (same_constants f g e c) e)
like_clash (Eq f) (Div n g) y a c = absurd cc
like_clash (Eq f) (Ge g) y a c = absurd cc
like_clash (Div m f) (Eq g) y a c = absurd cc
like_clash (Div m f) (Div n g) y a c = refl
like_clash (Div m f) (Ge g) y a c = absurd cc
like_clash (Ge f) (Eq g) y a c = absurd cc
like_clash (Ge f) (Div n g) y a c = absurd cc
like_clash (Ge f) (Ge g) y a c = refl

passed_on : (k x : Row) (xs : List Row) → alike x k ≡ true → clash k x ≡ false → clash_after x xs ≡ false → clash_after k xs ≡ false
passed_on k x [] a c h = refl
passed_on k x (y ∷ ys) a c h = ap (λ (b : Bool). b || clash_after y ys) (like_clash k x y a c) ∙ h

-- joining keeps the points of rows in order of which no two neighbours clash
dedup_keeps : (k : Row) (xs : List Row) (p : List ℤ) → Rising (k ∷ xs) → clash_after k xs ≡ false → Meets (dedup_from alike k xs) p ↔ Meets (k ∷ xs) p
dedup_keeps k [] p r c = ((λ h. h), (λ h. h))
dedup_keeps k (x ∷ xs) p r c =
    let n = neither_of (clash k x) (clash_after x xs) c in
    by n.0 n.1 (λ a. dedup_keeps k xs p (r.0.1, r.1.1) (passed_on k x xs a n.0 n.1)) (dedup_keeps x xs p r.1 n.1) (alike x k) refl
  where
    by : clash k x ≡ false → clash_after x xs ≡ false → (alike x k ≡ true → Meets (dedup_from alike k xs) p ↔ Meets (k ∷ xs) p) → Meets (dedup_from alike x xs) p ↔ Meets (x ∷ xs) p
        → (t : Bool) → alike x k ≡ t → Meets (cond t (dedup_from alike k xs) (k ∷ dedup_from alike x xs)) p ↔ Meets (k ∷ x ∷ xs) p
    by c0 c1 same other true a =
        let m = same a in
        ((λ h. let t = m.0 h in (t.0, (follows k x p r.0.0 a c0 t.0, t.1))), (λ h. m.1 (h.0, h.1.1)))
    by c0 c1 same other false a = ((λ h. (h.0, other.0 h.1)), (λ h. (h.0, other.1 h.1)))

clash_apart : (r s : Row) (p : List ℤ) → clash r s ≡ true → Holds r p → Holds s p → ⊥
clash_apart (Eq f) (Eq g) p c h k =
    let b = both_of (same_coefs f g) (not (int_eq f.konst g.konst)) c in
    int_other f.konst g.konst (not_true (int_eq f.konst g.konst) b.1) (omega (arith, ints, differ f g p (lists_same f.coefs g.coefs b.0), h, k))
clash_apart (Eq f) (Div n g) p c h k = cc
clash_apart (Eq f) (Ge g) p c h k = cc
clash_apart (Div m f) s p c h k = cc
clash_apart (Ge f) s p c h k = cc

clash_none : (k : Row) (xs : List Row) (p : List ℤ) → clash_after k xs ≡ true → Meets (k ∷ xs) p → ⊥
clash_none k [] p c h = cc
clash_none k (x ∷ xs) p c h =
    elim (either_of (clash k x) (clash_after x xs) c) [
      | inl t ↦ clash_apart k x p t h.0 h.1.0
      | inr t ↦ clash_none x xs p t h.1
    ]

absurd_none : (p : List ℤ) → Meets absurd_rows p → ⊥
absurd_none p h = let t = h.0 in omega (arith, ints, t)

joined_by : (t : Bool) (rs : List Row) (p : List ℤ) → Rising rs → has_clash rs ≡ t → Meets (cond t absurd_rows (dedup alike rs)) p ↔ Meets rs p
joined_by true [] p r c = absurd cc
joined_by true (x ∷ xs) p r c = ((λ h. absurd (absurd_none p h)), (λ h. absurd (clash_none x xs p c h)))
joined_by false [] p r c = ((λ h. h), (λ h. h))
joined_by false (x ∷ xs) p r c = dedup_keeps x xs p r c

pub joined_keeps : (rs : List Row) (p : List ℤ) → Rising rs → Meets (joined rs) p ↔ Meets rs p
joined_keeps rs p r = joined_by (has_clash rs) rs p r refl

left_case : (l : NormalRow) (r : Row) (ls rs : List Row) (p : List ℤ) → is_absurd l ≡ false → LeftHolds l p ↔ Holds r p → Meets ls p ↔ Meets rs p → Meets (left_onto l ls) p ↔ Meets (r ∷ rs) p
left_case (Kept s) r ls rs p e h m = ((λ t. (h.0 t.0, m.0 t.1)), (λ t. (h.1 t.0, m.1 t.1)))
left_case Dropped r ls rs p e h m = ((λ t. (h.0 tt, m.0 t)), (λ t. m.1 t.1))
left_case Absurd r ls rs p e h m = absurd cc

pub left_meets : (n : ℕ) (rs : List Row) (p : List ℤ) → AreRowsOver n rs → has_absurd rs ≡ false → Meets (left_rows rs) p ↔ Meets rs p
left_meets n [] p w e = ((λ h. h), (λ h. h))
left_meets n (r ∷ rs) p w e =
    let t = neither_of (is_absurd (normal_row r)) (has_absurd rs) e in
    left_case (normal_row r) r (left_rows rs) rs p t.0 (row_keeps r p w.0.1) (left_meets n rs p w.1 t.1)

left_absurd : (l : NormalRow) (p : List ℤ) → is_absurd l ≡ true → LeftHolds l p → ⊥
left_absurd (Kept s) p e h = cc
left_absurd Dropped p e h = cc
left_absurd Absurd p e h = h

pub absurd_meets : (n : ℕ) (rs : List Row) (p : List ℤ) → AreRowsOver n rs → has_absurd rs ≡ true → Meets rs p → ⊥
absurd_meets n [] p w e h = cc
absurd_meets n (r ∷ rs) p w e h =
    elim (either_of (is_absurd (normal_row r)) (has_absurd rs) e) [
      | inl t ↦ left_absurd (normal_row r) p t ((row_keeps r p w.0.1).1 h.0)
      | inr t ↦ absurd_meets n rs p w.1 t h.1
    ]

form_by : (t : Bool) (n : ℕ) (rs : List Row) (p : List ℤ) → AreRowsOver n rs → has_absurd rs ≡ t → Meets (cond t absurd_rows (joined (in_order (left_rows rs)))) p ↔ Meets rs p
form_by true n rs p w e = ((λ h. absurd (absurd_none p h)), (λ h. absurd (absurd_meets n rs p w e h)))
form_by false n rs p w e =
    let j = joined_keeps (in_order (left_rows rs)) p (rising-in_order (left_rows rs)) in
    let o = meets-in_order (left_rows rs) p in
    let l = left_meets n rs p w e in
    ((λ h. l.0 (o.0 (j.0 h))), (λ h. j.1 (o.1 (l.1 h))))

-- the normal form has the same integer points
pub form_keeps : (n : ℕ) (rs : List Row) (p : List ℤ) → AreRowsOver n rs → Meets (normal_form rs) p ↔ Meets rs p
form_keeps n rs p w = form_by (has_absurd rs) n rs p w refl

pub joined_is : (xs ys : List Row) → xs ≡ ys → has_clash xs ≡ false → dedup alike xs ≡ joined ys
joined_is xs ys e h = rw (← e, h) refl

pub made_points : (n : ℕ) (rs given made out : List Row) (p : List ℤ) → AreRowsOver n rs → given ≡ rs → made ≡ normal_form given → out ≡ made → Meets out p ↔ Meets rs p
made_points n rs given made out p w e m o = rw (o, m, e) (form_keeps n rs p w)
