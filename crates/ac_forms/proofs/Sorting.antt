-- Rows in order: a sorted list of the same rows is one list.
use Rattle.std.proofs.Common.{◌≡◌, ◌↔◌, ℕ, zero, suc, ◌+◌, ◌<◌, ◌≤◌, ℤ, List, [], ◌∷◌, length, get_or, cond, Bool, true, false, refl, sym, ap, ◌∙◌, subst, arith, int_cmp, nat_cmp}
use Rattle.std.specs.Prelude.{IsPermutation, IsSorted}
use Rattle.std.specs.List.{sum_by}
use Rattle.std.proofs.lemmas.List.Sums.{sum_by-cons}
use Rattle.std.proofs.lemmas.List.Sorted.{sum_by-IsPermutation}
use Rattle.std.specs.declared.cmp.Ordering.{Ordering}
use Rattle.std.specs.declared.cmp.Ordering.TheVariants.{Less, Equal, Greater}
use Rattle.std.specs.Ordering.{is_gt, is_lt, is_eq, ordering_then, ordering_reverse}
use Rattle.std.proofs.lemmas.Cmp.{upto as gt_along, tied_itself, alike_right}
use Rattle.ac_forms.specs.Affine.{Affine}
use Rattle.ac_forms.specs.NormalForm.{insert_row, in_order}
use Rattle.ac_forms.specs.FormOrder.{columns_cmp, form_cmp, row_cmp, kind_of, modulus_of}
use Rattle.ac_forms.specs.Rows.{form_of, Holds, Meets}
use Rattle.ac_forms.specs.Ties.{row_total, int_tied, then_tied}
use Rattle.ac_forms.specs.declared.row.Row.{Row}
use Rattle.ac_forms.specs.declared.row.Row.TheVariants.{Eq, Div, Ge}

nat_tied : (m n : ℕ) → nat_cmp m n ≡ Equal → m ≡ n
nat_tied m n e = grind arith

columns_tied : (xs ys : List ℤ) → columns_cmp xs ys ≡ Equal → length xs ≡ length ys → xs ≡ ys
columns_tied [] [] e l = refl
columns_tied [] (y ∷ ys) e l = absurd (omega (arith, l))
columns_tied (x ∷ xs) [] e l = absurd (omega (arith, l))
columns_tied (x ∷ xs) (y ∷ ys) e l =
    let t = then_tied (int_cmp x y) (columns_cmp xs ys) e in
    ap (λ (c : ℤ). c ∷ xs) (int_tied x y t.0) ∙ ap (λ (cs : List ℤ). y ∷ cs) (columns_tied xs ys t.1 (omega (arith, l)))

pub same_form : (f g : Affine) → f.konst ≡ g.konst → f.coefs ≡ g.coefs → f ≡ g
same_form f g e c = λ i. record { konst = e i; coefs = c i }

pub form_tied : (f g : Affine) → form_cmp f g ≡ Equal → f ≡ g
form_tied f g e =
    let t = then_tied (columns_cmp f.coefs g.coefs) _ e in
    let u = then_tied (int_cmp f.konst g.konst) _ t.1 in
    same_form f g (int_tied f.konst g.konst u.0) (columns_tied f.coefs g.coefs t.0 (nat_tied (length f.coefs) (length g.coefs) u.1))

-- rows that tie are equal
pub row_tied : (r s : Row) → row_cmp r s ≡ Equal → r ≡ s
row_tied (Eq f) (Eq g) e = ap Eq (form_tied f g e)
row_tied (Eq f) (Div n g) e = absurd cc
row_tied (Eq f) (Ge g) e = absurd cc
row_tied (Div m f) (Eq g) e = absurd cc
row_tied (Div m f) (Div n g) e =
    let t = then_tied (int_cmp m n) (form_cmp f g) e in
    ap (λ (k : ℤ). Div k f) (int_tied m n t.0) ∙ ap (λ (h : Affine). Div n h) (form_tied f g t.1)
row_tied (Div m f) (Ge g) e = absurd cc
row_tied (Ge f) (Eq g) e = absurd cc
row_tied (Ge f) (Div n g) e = absurd cc
row_tied (Ge f) (Ge g) e = ap Ge (form_tied f g e)

-- the row comes before none of the others that are less
abbrev pub Below : Row → List Row → Type 0
Below r [] = Unit {0}
Below r (s ∷ ss) = (is_gt (row_cmp r s) ≡ false) × Below r ss

-- each row is at most those after it
abbrev pub Rising : List Row → Type 0
Rising [] = Unit {0}
Rising (r ∷ rs) = Below r rs × Rising rs

turned : (a b : Ordering) → a ≡ ordering_reverse b → is_lt a ≡ false → is_gt b ≡ false
turned a Less e f = refl
turned a Equal e f = refl
turned a Greater e f = absurd (lt_not (e ∙ refl) f)
  where
    lt_not : a ≡ Less → is_lt a ≡ false → ⊥
    lt_not e f = cc

turned_gt : (a b : Ordering) → a ≡ ordering_reverse b → is_gt a ≡ true → is_gt b ≡ false
turned_gt a Less e f = refl
turned_gt a Equal e f = refl
turned_gt a Greater e f = absurd (gt_not e f)
  where
    gt_not : a ≡ Less → is_gt a ≡ true → ⊥
    gt_not e f = cc

pub below_from : (r s : Row) (ss : List Row) → is_gt (row_cmp r s) ≡ false → Below s ss → Below r ss
below_from r s [] e b = tt
below_from r s (t ∷ ss) e b = (gt_along row_total r s t e b.0, below_from r s ss e b.1)

later_pairs : (x y : Row) (ys : List Row) → IsSorted row_cmp (x ∷ y ∷ ys) → IsSorted row_cmp (y ∷ ys)
later_pairs x y ys h k d a b =
    let e : suc k + 1 ≡ suc (k + 1) = omega arith in
    subst (λ (n : ℕ). is_lt (row_cmp (get_or (x ∷ y ∷ ys) n d) (get_or (x ∷ y ∷ ys) (suc k) d)) ≡ false) e (h (suc k) d (omega arith) (omega (arith, b)))

first_two : (x y : Row) (ys : List Row) → ((d : Row) → is_lt (row_cmp (get_or (x ∷ y ∷ ys) (0 + 1) d) (get_or (x ∷ y ∷ ys) 0 d)) ≡ false) → is_lt (row_cmp y x) ≡ false
first_two x y ys h = h x

pub rising_from_sorted : (xs : List Row) → IsSorted row_cmp xs → Rising xs
rising_from_sorted [] h = tt
rising_from_sorted (x ∷ []) h = (tt, tt)
rising_from_sorted (x ∷ y ∷ ys) h =
    let r = rising_from_sorted (y ∷ ys) (later_pairs x y ys h) in
    let first : is_lt (row_cmp y x) ≡ false = first_two x y ys (λ d. h 0 d (omega arith) (omega arith)) in
    let e = turned (row_cmp y x) (row_cmp x y) (row_total.antisymm y x) first in
    ((e, below_from x y ys e r.0), r)

-- inserting keeps the order, the rows and the points
below_insert : (s r : Row) (rs : List Row) → is_gt (row_cmp s r) ≡ false → Below s rs → Below s (insert_row r rs)
below_insert s r [] e b = (e, tt)
below_insert s r (t ∷ ts) e b = by (below_insert s r ts e b.1) (is_gt (row_cmp r t))
  where
    by : Below s (insert_row r ts) → (g : Bool) → Below s (cond g (t ∷ insert_row r ts) (r ∷ t ∷ ts))
    by n true = (b.0, n)
    by n false = (e, b)

rising_insert : (r : Row) (rs : List Row) → Rising rs → Rising (insert_row r rs)
rising_insert r [] h = (tt, tt)
rising_insert r (s ∷ ss) h = by (rising_insert r ss h.1) (is_gt (row_cmp r s)) refl
  where
    by : Rising (insert_row r ss) → (g : Bool) → is_gt (row_cmp r s) ≡ g → Rising (cond g (s ∷ insert_row r ss) (r ∷ s ∷ ss))
    by n true e = (below_insert s r ss (turned_gt (row_cmp r s) (row_cmp s r) (row_total.antisymm r s) e) h.0, n)
    by n false e = ((e, below_from r s ss e h.0), h)

pub rising-in_order : (rs : List Row) → Rising (in_order rs)
rising-in_order [] = tt
rising-in_order (r ∷ rs) = rising_insert r (in_order rs) (rising-in_order rs)

sum-insert : (f : Row → ℕ) (r : Row) (rs : List Row) → sum_by f (insert_row r rs) ≡ f r + sum_by f rs
sum-insert f r [] = sum_by-cons f r []
sum-insert f r (s ∷ ss) = by (sum-insert f r ss) (is_gt (row_cmp r s))
  where
    by : sum_by f (insert_row r ss) ≡ f r + sum_by f ss → (g : Bool) → sum_by f (cond g (s ∷ insert_row r ss) (r ∷ s ∷ ss)) ≡ f r + sum_by f (s ∷ ss)
    by n true = omega (arith, sum_by-cons f s (insert_row r ss), n, sum_by-cons f s ss)
    by n false = sum_by-cons f r (s ∷ ss)

pub sum-in_order : (f : Row → ℕ) (rs : List Row) → sum_by f (in_order rs) ≡ sum_by f rs
sum-in_order f [] = refl
sum-in_order f (r ∷ rs) = omega (arith, sum-insert f r (in_order rs), sum-in_order f rs, sum_by-cons f r rs)

meets-insert : (r : Row) (rs : List Row) (p : List ℤ) → Meets (insert_row r rs) p ↔ Meets (r ∷ rs) p
meets-insert r [] p = ((λ h. h), (λ h. h))
meets-insert r (s ∷ ss) p = by (meets-insert r ss p) (is_gt (row_cmp r s))
  where
    by : Meets (insert_row r ss) p ↔ Meets (r ∷ ss) p → (g : Bool) → Meets (cond g (s ∷ insert_row r ss) (r ∷ s ∷ ss)) p ↔ Meets (r ∷ s ∷ ss) p
    by m true = ((λ h. let t = m.0 h.1 in (t.0, (h.0, t.1))), (λ h. (h.1.0, m.1 (h.0, h.1.1))))
    by m false = ((λ h. h), (λ h. h))

pub meets-in_order : (rs : List Row) (p : List ℤ) → Meets (in_order rs) p ↔ Meets rs p
meets-in_order [] p = ((λ h. h), (λ h. h))
meets-in_order (r ∷ rs) p =
    let m = meets-insert r (in_order rs) p in
    let n = meets-in_order rs p in
    ((λ h. let t = m.0 h in (t.0, n.0 t.1)), (λ h. m.1 (h.0, n.1 h.1)))

-- how often a row that ties with r stands in a list
abbrev ties : Row → Row → ℕ
ties r s = cond (is_eq (row_cmp r s)) 1 0

eq_itself : (o : Ordering) → o ≡ Equal → is_eq o ≡ true
eq_itself o e = ap is_eq e

ties_itself : (r : Row) → ties r r ≡ 1
ties_itself r = ap (λ (b : Bool). cond b 1 0) (eq_itself (row_cmp r r) (tied_itself row_total r))

eq_from : (o : Ordering) → is_eq o ≡ true → o ≡ Equal
eq_from Less e = absurd cc
eq_from Equal e = refl
eq_from Greater e = absurd cc

-- no row at or above x ties with y, which is below x
none_tied : (x y : Row) (zs : List Row) → is_gt (row_cmp x y) ≡ true → Below x zs → sum_by (ties y) zs ≡ 0
none_tied x y [] e b = refl
none_tied x y (z ∷ zs) e b = by (none_tied x y zs e b.1) (is_eq (row_cmp y z)) refl
  where
    by : sum_by (ties y) zs ≡ 0 → (t : Bool) → is_eq (row_cmp y z) ≡ t → sum_by (ties y) (z ∷ zs) ≡ 0
    by n true h =
        let same = alike_right row_total y z x (eq_from (row_cmp y z) h) in
        absurd (apart (is_gt (row_cmp x y)) (is_gt (row_cmp x z)) e b.0 (ap is_gt same))
      where
        apart : (a c : Bool) → a ≡ true → c ≡ false → a ≡ c → ⊥
        apart a c e f g = cc
    by n false h =
        let t : ties y z ≡ 0 = ap (λ (b : Bool). cond b 1 0) h in
        omega (arith, sum_by-cons (ties y) z zs, t, n)

not_above : (x y : Row) (xs ys : List Row) → Below x xs → ((f : Row → ℕ) → sum_by f (x ∷ xs) ≡ sum_by f (y ∷ ys)) → is_gt (row_cmp x y) ≡ false
not_above x y xs ys b same = by (is_gt (row_cmp x y)) refl
  where
    by : (g : Bool) → is_gt (row_cmp x y) ≡ g → is_gt (row_cmp x y) ≡ false
    by true e =
        let self : is_gt (row_cmp x x) ≡ false = ap is_gt (tied_itself row_total x) in
        absurd (omega (arith, none_tied x y (x ∷ xs) e (self, b), same (ties y), sum_by-cons (ties y) y ys, ties_itself y))
    by false e = e

both_ways : (a b : Ordering) → a ≡ ordering_reverse b → is_gt a ≡ false → is_gt b ≡ false → a ≡ Equal
both_ways a Less e f g = absurd (gt_not e f)
  where
    gt_not : a ≡ Greater → is_gt a ≡ false → ⊥
    gt_not e f = cc
both_ways a Equal e f g = e
both_ways a Greater e f g = absurd cc

-- two lists in order with the same rows are one
pub rising_unique : (xs ys : List Row) → Rising xs → Rising ys → ((f : Row → ℕ) → sum_by f xs ≡ sum_by f ys) → xs ≡ ys
rising_unique [] [] h g same = refl
rising_unique [] (y ∷ ys) h g same = absurd (omega (arith, same (λ _. 1), sum_by-cons (λ _. 1) y ys))
rising_unique (x ∷ xs) [] h g same = absurd (omega (arith, same (λ _. 1), sum_by-cons (λ _. 1) x xs))
rising_unique (x ∷ xs) (y ∷ ys) h g same =
    let a = not_above x y xs ys h.0 same in
    let b = not_above y x ys xs g.0 (λ f. sym (same f)) in
    let e = row_tied x y (both_ways (row_cmp x y) (row_cmp y x) (row_total.antisymm x y) a b) in
    let rest : (f : Row → ℕ) → sum_by f xs ≡ sum_by f ys = λ f. omega (arith, same f, sum_by-cons f x xs, sum_by-cons f y ys, ap f e) in
    ap (λ (r : Row). r ∷ xs) e ∙ ap (λ (rs : List Row). y ∷ rs) (rising_unique xs ys h.1 g.1 rest)

-- what a sort leaves
pub sort_is : (xs ys : List Row) → IsPermutation xs ys → IsSorted row_cmp ys → ys ≡ in_order xs
sort_is xs ys p s =
    rising_unique ys (in_order xs) (rising_from_sorted ys s) (rising-in_order xs) (λ f. sum_by-IsPermutation f xs ys p ∙ sym (sum-in_order f xs))
