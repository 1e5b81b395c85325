-- How many rows of differences over some columns a normal form has: no two have one kind and the same coefficients.
use Rattle.std.proofs.Common.{◌≡◌, ℕ, zero, suc, cond, Bool, true, false, int_eq, int_cmp, ℤ, pos, List, [], ◌∷◌, get_or, arith, refl, ap, sym, subst, ◌∙◌}
use Rattle.std.specs.List.{dedup_from}
use Rattle.std.specs.Cmp.Lexicographic.{pointwise}
use Rattle.std.specs.Ordering.{is_gt, ordering_then, ordering_reverse}
use Rattle.std.specs.declared.cmp.Ordering.{Ordering}
use Rattle.std.specs.declared.cmp.Ordering.TheVariants.{Less, Equal, Greater}
use Rattle.std.proofs.lemmas.Cmp.{lists_equiv, int_eq_equiv}
use Rattle.ac_forms.specs.Affine.{Affine, coef}
use Rattle.ac_forms.specs.NormalForm.{alike}
use Rattle.ac_forms.specs.NormalRows.{trim, trim_onto}
use Rattle.ac_forms.specs.FormOrder.{columns_cmp, form_cmp, row_cmp, kind_of}
use Rattle.ac_forms.specs.Rows.{form_of}
use Rattle.ac_forms.specs.Ties.{columns_total, int_tied, then_tied}
use Rattle.ac_forms.specs.declared.row.Row.{Row}
use Rattle.ac_forms.specs.declared.row.Row.TheVariants.{Eq, Div, Ge}
use Rattle.ac_forms.proofs.Sorting.{Below, Rising}
use Rattle.ac_omega.proofs.DifferenceRows.{IsTrimmed, Each}
use Rattle.ac_omega.proofs.DifferenceNormals.{each-dedup_from, nothing-at}

-- Two lists in which each column has one number are the same but for zeros at their ends.
zero-onto : (c : ℤ) → c ≡ pos 0 → trim_onto c [] ≡ []
zero-onto c e = rw e refl

trim-zeros : (ys : List ℤ) → ((j : ℕ) → get_or ys j (pos 0) ≡ pos 0) → trim ys ≡ []
trim-zeros [] h = refl
trim-zeros (y ∷ ys) h = ap (λ (zs : List ℤ). trim_onto y zs) (trim-zeros ys (λ j. h (suc j))) ∙ zero-onto y (h 0)

trim-same : (xs ys : List ℤ) → ((j : ℕ) → get_or xs j (pos 0) ≡ get_or ys j (pos 0)) → trim xs ≡ trim ys
trim-same [] ys h = sym (trim-zeros ys (λ j. sym (h j) ∙ nothing-at j))
trim-same (x ∷ xs) [] h = trim-zeros (x ∷ xs) (λ j. h j ∙ nothing-at j)
trim-same (x ∷ xs) (y ∷ ys) h = ap (λ (c : ℤ). trim_onto c (trim xs)) (h 0) ∙ ap (λ (zs : List ℤ). trim_onto y zs) (trim-same xs ys (λ j. h (suc j)))

tied-at : (xs ys : List ℤ) → columns_cmp xs ys ≡ Equal → (j : ℕ) → get_or xs j (pos 0) ≡ get_or ys j (pos 0)
tied-at [] [] e j = refl
tied-at [] (y ∷ ys) e zero = int_tied (pos 0) y (then_tied (int_cmp (pos 0) y) (columns_cmp [] ys) e).0
tied-at [] (y ∷ ys) e (suc j) = tied-at [] ys (then_tied (int_cmp (pos 0) y) (columns_cmp [] ys) e).1 j
tied-at (x ∷ xs) [] e zero = int_tied x (pos 0) (then_tied (int_cmp x (pos 0)) (columns_cmp xs []) e).0
tied-at (x ∷ xs) [] e (suc j) = tied-at xs [] (then_tied (int_cmp x (pos 0)) (columns_cmp xs []) e).1 j
tied-at (x ∷ xs) (y ∷ ys) e zero = int_tied x y (then_tied (int_cmp x y) (columns_cmp xs ys) e).0
tied-at (x ∷ xs) (y ∷ ys) e (suc j) = tied-at xs ys (then_tied (int_cmp x y) (columns_cmp xs ys) e).1 j

pub same-lists : (f g : Affine) → IsTrimmed f → IsTrimmed g → ((j : ℕ) → coef j f ≡ coef j g) → f.coefs ≡ g.coefs
same-lists f g s t h = sym s ∙ trim-same f.coefs g.coefs h ∙ t

-- one kind and the same coefficients
pub record AreSame (r s : Row) : Type 0 where
  pub kind : kind_of r ≡ kind_of s
  pub coefs : (form_of r).coefs ≡ (form_of s).coefs

-- the row is an equality or an inequality without zeros at its end
abbrev pub IsPlain : Row → Type 0
IsPlain (Eq f) = IsTrimmed f
IsPlain (Div m f) = ⊥
IsPlain (Ge f) = IsTrimmed f

first-upto : (a o : Ordering) → is_gt (ordering_then a o) ≡ false → is_gt a ≡ false
first-upto Less o e = refl
first-upto Equal o e = refl
first-upto Greater o e = e

both-ways : (a b : Ordering) → a ≡ ordering_reverse b → is_gt a ≡ false → is_gt b ≡ false → a ≡ Equal
both-ways a Less e f g = absurd (gt-not e f)
  where
    gt-not : a ≡ Greater → is_gt a ≡ false → ⊥
    gt-not e f = cc
both-ways a Equal e f g = e
both-ways a Greater e f g = absurd cc

-- a form between two with the same coefficients has them too
between-forms : (f g h : Affine) → IsTrimmed f → IsTrimmed g → is_gt (form_cmp f g) ≡ false → is_gt (form_cmp g h) ≡ false → f.coefs ≡ h.coefs → f.coefs ≡ g.coefs
between-forms f g h s t a b e =
    let x = first-upto (columns_cmp f.coefs g.coefs) _ a in
    let y = first-upto (columns_cmp g.coefs h.coefs) _ b in
    let z = subst (λ (cs : List ℤ). is_gt (columns_cmp g.coefs cs) ≡ false) (sym e) y in
    same-lists f g s t (tied-at f.coefs g.coefs (both-ways (columns_cmp f.coefs g.coefs) (columns_cmp g.coefs f.coefs) (columns_total.antisymm f.coefs g.coefs) x z))

between-rows : (k x y : Row) → IsPlain k → IsPlain x → IsPlain y → is_gt (row_cmp k x) ≡ false → is_gt (row_cmp x y) ≡ false → AreSame k y → AreSame k x
between-rows (Eq f) (Eq g) (Eq h) s t u a b e = record { kind = refl; coefs = between-forms f g h s t a b e.coefs }
between-rows (Ge f) (Ge g) (Ge h) s t u a b e = record { kind = refl; coefs = between-forms f g h s t a b e.coefs }
between-rows (Eq f) (Ge g) (Eq h) s t u a b e = absurd cc
between-rows (Ge f) (Eq g) (Ge h) s t u a b e = absurd cc
between-rows (Eq f) x (Ge h) s t u a b e = absurd (let i : 0 ≡ 2 = e.kind in omega arith)
between-rows (Ge f) x (Eq h) s t u a b e = absurd (let i : 2 ≡ 0 = e.kind in omega arith)
between-rows (Div m f) x y s t u a b e = absurd s
between-rows k (Div m f) y s t u a b e = absurd t
between-rows k x (Div m f) s t u a b e = absurd u

lists-alike : (xs ys : List ℤ) → xs ≡ ys → pointwise int_eq ys xs ≡ true
lists-alike xs ys e = rw e ((lists_equiv int_eq_equiv).refl ys)

same-alike : (k x : Row) → IsPlain k → IsPlain x → AreSame k x → alike x k ≡ true
same-alike (Eq f) (Eq g) s t e = lists-alike f.coefs g.coefs e.coefs
same-alike (Ge f) (Ge g) s t e = lists-alike f.coefs g.coefs e.coefs
same-alike (Eq f) (Ge g) s t e = absurd (let i : 0 ≡ 2 = e.kind in omega arith)
same-alike (Ge f) (Eq g) s t e = absurd (let i : 2 ≡ 0 = e.kind in omega arith)
same-alike (Div m f) x s t e = absurd s
same-alike k (Div m f) s t e = absurd t

-- no two are the same
abbrev pub AreApart : List Row → Type 0
AreApart [] = Unit {0}
AreApart (r ∷ rs) = Each (λ s. AreSame r s → ⊥) rs × AreApart rs

apart-from : (k x : Row) (ys : List Row) → IsPlain k → IsPlain x → Each IsPlain ys → is_gt (row_cmp k x) ≡ false → alike x k ≡ false → Below x ys → Each (λ s. AreSame k s → ⊥) ys
apart-from k x [] s t u a n b = tt
apart-from k x (y ∷ ys) s t u a n b =
    ((λ e. differ (same-alike k x s t (between-rows k x y s t u.0 a b.0 e)) n), apart-from k x ys s t u.1 a n b.1)
  where
    differ : {v : Bool} → v ≡ true → v ≡ false → ⊥
    differ e f = cc

pub apart-dedup : (k : Row) (xs : List Row) → Each IsPlain (k ∷ xs) → Rising (k ∷ xs) → AreApart (dedup_from alike k xs)
apart-dedup k [] p r = (tt, tt)
apart-dedup k (x ∷ xs) p r = by (alike x k) refl (apart-dedup k xs (p.0, p.1.1) (r.0.1, r.1.1)) (apart-dedup x xs p.1 r.1)
  where
    by : (t : Bool) → alike x k ≡ t → AreApart (dedup_from alike k xs) → AreApart (dedup_from alike x xs) → AreApart (cond t (dedup_from alike k xs) (k ∷ dedup_from alike x xs))
    by true e m n = m
    by false e m n =
        let here : AreSame k x → ⊥ = λ s. differ (same-alike k x p.0 p.1.0 s) e in
        (each-dedup_from (λ s. AreSame k s → ⊥) x xs here (apart-from k x xs p.0 p.1.0 p.1.1 r.0.0 e r.1.0), n)
      where
        differ : {v : Bool} → v ≡ true → v ≡ false → ⊥
        differ e f = cc
