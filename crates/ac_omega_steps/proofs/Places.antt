-- A row that an earlier one stands for changes nothing when it comes among rows in order, which are then joined.
use Rattle.std.proofs.Common.{◌≡◌, ◌⊎◌, inl, inr, ℤ, pos, List, [], ◌∷◌, Bool, true, false, cond, ◌&&◌, ◌||◌, not, refl, sym, ap, ◌∙◌, subst, arith}
use Rattle.std.proofs.lemmas.Int.{ints}
use Rattle.std.proofs.lemmas.Cmp.{upto as upto_along, lists_equiv, int_eq_equiv}
use Rattle.std.specs.List.{dedup, dedup_from}
use Rattle.std.specs.Cmp.Lexicographic.{pointwise}
use Rattle.std.specs.declared.cmp.Ordering.{Ordering}
use Rattle.std.specs.declared.cmp.Ordering.TheVariants.{Less, Equal, Greater}
use Rattle.std.specs.Ordering.{int_eq, int_cmp, is_gt, ordering_then, ordering_reverse}
use Rattle.ac_forms.specs.Affine.{Affine}
use Rattle.ac_forms.specs.RowColumns.{IsTrimmed}
use Rattle.ac_forms.specs.NormalForm.{absurd_rows, insert_row, same_coefs, alike, clash, clash_after, has_clash, joined}
use Rattle.ac_forms.specs.NormalRows.{trim, trim_onto}
use Rattle.ac_forms.specs.FormOrder.{columns_cmp, form_eq, row_cmp}
use Rattle.ac_forms.specs.Ties.{int_tied, then_tied, columns_total, row_total, form_equiv}
use Rattle.ac_forms.specs.ListMembers.{IsAmong}
use Rattle.ac_forms.specs.declared.row.Row.{Row}
use Rattle.ac_forms.specs.declared.row.Row.TheVariants.{Eq, Div, Ge}
use Rattle.ac_forms.proofs.Joining.{both_of, lists_same}
use Rattle.ac_forms.proofs.Sorting.{Below, Rising, row_tied, same_form}

-- ---- the order

-- r comes before s, or they are equal
abbrev pub Upto : Row → Row → Type 0
Upto r s = is_gt (row_cmp r s) ≡ false

turned : (a b : Ordering) → a ≡ ordering_reverse b → is_gt a ≡ true → is_gt b ≡ false
turned a Less e f = refl
turned a Equal e f = refl
turned a Greater e f = absurd (apart e f)
  where
    apart : a ≡ Less → is_gt a ≡ true → ⊥
    apart e f = cc

pub at_most : (r s : Row) → is_gt (row_cmp r s) ≡ true → Upto s r
at_most r s e = turned (row_cmp r s) (row_cmp s r) (row_total.antisymm r s) e

both_ways : (a b : Ordering) → a ≡ ordering_reverse b → is_gt a ≡ false → is_gt b ≡ false → a ≡ Equal
both_ways a Less e f g = absurd (apart e f)
  where
    apart : a ≡ Greater → is_gt a ≡ false → ⊥
    apart e f = cc
both_ways a Equal e f g = e
both_ways a Greater e f g = absurd cc

one_row : (r s : Row) → Upto r s → Upto s r → r ≡ s
one_row r s e f = row_tied r s (both_ways (row_cmp r s) (row_cmp s r) (row_total.antisymm r s) e f)

pub below_one : (r k : Row) (ss : List Row) → Below r ss → IsAmong k ss → Upto r k
below_one r k [] b q = absurd q
below_one r k (s ∷ ss) b (inl e) = subst (λ (x : Row). Upto r x) (sym e) b.0
below_one r k (s ∷ ss) b (inr q) = below_one r k ss b.1 q

-- lists that tie differ in zeros at their ends alone
tied_trim : (xs ys : List ℤ) → columns_cmp xs ys ≡ Equal → trim xs ≡ trim ys
tied_trim [] [] e = refl
tied_trim [] (y ∷ ys) e =
    let t = then_tied (int_cmp (pos 0) y) (columns_cmp [] ys) e in
    ap (λ (c : ℤ). trim_onto c []) (int_tied (pos 0) y t.0) ∙ ap (trim_onto y) (tied_trim [] ys t.1)
tied_trim (x ∷ xs) [] e =
    let t = then_tied (int_cmp x (pos 0)) (columns_cmp xs []) e in
    ap (λ (c : ℤ). trim_onto c (trim xs)) (int_tied x (pos 0) t.0) ∙ ap (trim_onto (pos 0)) (tied_trim xs [] t.1)
tied_trim (x ∷ xs) (y ∷ ys) e =
    let t = then_tied (int_cmp x y) (columns_cmp xs ys) e in
    ap (λ (c : ℤ). trim_onto c (trim xs)) (int_tied x y t.0) ∙ ap (trim_onto y) (tied_trim xs ys t.1)

same_columns : (xs ys : List ℤ) → trim xs ≡ xs → trim ys ≡ ys → is_gt (columns_cmp xs ys) ≡ false → is_gt (columns_cmp ys xs) ≡ false → xs ≡ ys
same_columns xs ys tx ty e f = sym tx ∙ tied_trim xs ys (both_ways (columns_cmp xs ys) (columns_cmp ys xs) (columns_total.antisymm xs ys) e f) ∙ ty

first_upto : (a o : Ordering) → is_gt (ordering_then a o) ≡ false → is_gt a ≡ false
first_upto Less o e = refl
first_upto Equal o e = refl
first_upto Greater o e = e

-- ---- rows of which the later one goes

abbrev CoefsGe : Row → Row → Type 0
CoefsGe (Ge f) (Ge g) = f.coefs ≡ g.coefs
CoefsGe _ _ = ⊥

-- equal rows, or `Ge` rows with the same coefficients
abbrev pub Joins : Row → Row → Type 0
Joins k r = (k ≡ r) ⊎ CoefsGe k r

lists_itself : (xs : List ℤ) → pointwise int_eq xs xs ≡ true
lists_itself xs = (lists_equiv int_eq_equiv).refl xs

coefs_same : (f g : Affine) → f.coefs ≡ g.coefs → same_coefs f g ≡ true
coefs_same f g e = rw e (lists_itself g.coefs)

same_number : (x y : ℤ) → not (int_eq x y) ≡ false → x ≡ y
same_number x y e = by (int_eq x y) refl e
  where
    by : (b : Bool) → int_eq x y ≡ b → not b ≡ false → x ≡ y
    by true i e = grind (arith, ints, i)
    by false i e = absurd cc

one_equality : (f g : Affine) → same_coefs g f ≡ true → clash (Eq f) (Eq g) ≡ false → Eq f ≡ Eq g
one_equality f g a c =
    let e = sym (lists_same g.coefs f.coefs a) in
    let n : not (int_eq f.konst g.konst) ≡ false = rw (coefs_same f g e) at c in
    ap Eq (same_form f g (same_number f.konst g.konst n) e)

one_divisibility : (m n : ℤ) (f g : Affine) → (int_eq n m && form_eq g f) ≡ true → Div m f ≡ Div n g
one_divisibility m n f g a =
    let b = both_of (int_eq n m) (form_eq g f) a in
    let d = both_of (pointwise int_eq g.coefs f.coefs) (int_eq g.konst f.konst) b.1 in
    let k : n ≡ m = grind (arith, ints, b.0) in
    let c : g.konst ≡ f.konst = number g.konst f.konst d.1 in
    ap (λ (z : ℤ). Div z f) (sym k) ∙ ap (λ (h : Affine). Div n h) (same_form f g (sym c) (sym (lists_same g.coefs f.coefs d.0)))
  where
    number : (x y : ℤ) → int_eq x y ≡ true → x ≡ y
    number x y e = grind (arith, ints)

pub like_joins : (k x : Row) → alike x k ≡ true → clash k x ≡ false → Joins k x
like_joins (Eq f) (Eq g) a c = inl (one_equality f g a c)
like_joins (Eq f) (Div n g) a c = absurd cc
like_joins (Eq f) (Ge g) a c = absurd cc
like_joins (Div m f) (Eq g) a c = absurd cc
like_joins (Div m f) (Div n g) a c = inl (one_divisibility m n f g a)
like_joins (Div m f) (Ge g) a c = absurd cc
like_joins (Ge f) (Eq g) a c = absurd cc
like_joins (Ge f) (Div n g) a c = absurd cc
like_joins (Ge f) (Ge g) a c = inr (sym (lists_same g.coefs f.coefs a))

both_true : (a b : Bool) → a ≡ true → b ≡ true → (a && b) ≡ true
both_true true b e f = f
both_true false b e f = absurd cc

alike_itself : (r : Row) → alike r r ≡ true
alike_itself (Eq f) = lists_itself f.coefs
alike_itself (Div m f) = both_true (int_eq m m) (form_eq f f) (int_eq_equiv.refl m) (form_equiv.refl f)
alike_itself (Ge f) = lists_itself f.coefs

no_and : (a b : Bool) → b ≡ true → (a && not b) ≡ false
no_and true b e = ap not e
no_and false b e = refl

clash_itself : (r : Row) → clash r r ≡ false
clash_itself (Eq f) = no_and (same_coefs f f) (int_eq f.konst f.konst) (int_eq_equiv.refl f.konst)
clash_itself (Div m f) = refl
clash_itself (Ge f) = refl

coefs_like : (k r x : Row) → CoefsGe k r → alike r x ≡ alike k x
coefs_like (Ge f) (Ge g) (Eq h) e = refl
coefs_like (Ge f) (Ge g) (Div m h) e = refl
coefs_like (Ge f) (Ge g) (Ge h) e = ap (λ (cs : List ℤ). pointwise int_eq cs h.coefs) (sym e)
coefs_like (Ge f) (Eq g) x e = absurd e
coefs_like (Ge f) (Div m g) x e = absurd e
coefs_like (Eq f) r x e = absurd e
coefs_like (Div m f) r x e = absurd e

pub joins_like : (k r x : Row) → Joins k r → alike r x ≡ alike k x
joins_like k r x (inl e) = ap (λ (s : Row). alike s x) (sym e)
joins_like k r x (inr e) = coefs_like k r x e

joins_alike : (k r : Row) → Joins k r → alike r k ≡ true
joins_alike k r j = joins_like k r k j ∙ alike_itself k

coefs_clash : (k r x : Row) → CoefsGe k r → (clash k x ≡ clash r x) × (clash k r ≡ false)
coefs_clash (Ge f) (Ge g) x e = (refl, refl)
coefs_clash (Ge f) (Eq g) x e = absurd e
coefs_clash (Ge f) (Div m g) x e = absurd e
coefs_clash (Eq f) r x e = absurd e
coefs_clash (Div m f) r x e = absurd e

joins_clash : (k r x : Row) → Joins k r → clash k x ≡ clash r x
joins_clash k r x (inl e) = ap (λ (s : Row). clash s x) e
joins_clash k r x (inr e) = (coefs_clash k r x e).0

joins_none : (k r : Row) → Joins k r → clash k r ≡ false
joins_none k r (inl e) = ap (λ (s : Row). clash k s) (sym e) ∙ clash_itself k
joins_none k r (inr e) = (coefs_clash k r r e).1

pub joins_after : (k r : Row) (xs : List Row) → Joins k r → clash_after k xs ≡ clash_after r xs
joins_after k r [] j = refl
joins_after k r (x ∷ xs) j = ap (λ (b : Bool). b || clash_after x xs) (joins_clash k r x j)

-- a row between two that are joined is joined with the later
coefs_between : (k t r : Row) → IsTrimmed t → IsTrimmed r → Upto k t → Upto t r → CoefsGe k r → CoefsGe t r
coefs_between (Ge f) (Ge h) (Ge g) wt wr a b e =
    let a2 : is_gt (columns_cmp g.coefs h.coefs) ≡ false = rw e at (first_upto (columns_cmp f.coefs h.coefs) _ a) in
    same_columns h.coefs g.coefs wt wr (first_upto (columns_cmp h.coefs g.coefs) _ b) a2
coefs_between (Ge f) (Eq h) (Ge g) wt wr a b e = absurd cc
coefs_between (Ge f) (Div m h) (Ge g) wt wr a b e = absurd cc
coefs_between (Ge f) t (Eq g) wt wr a b e = absurd e
coefs_between (Ge f) t (Div m g) wt wr a b e = absurd e
coefs_between (Eq f) t r wt wr a b e = absurd e
coefs_between (Div m f) t r wt wr a b e = absurd e

joins_between : (k t r : Row) → IsTrimmed t → IsTrimmed r → Upto k t → Upto t r → Joins k r → Joins t r
joins_between k t r wt wr a b (inl e) = inl (one_row t r b (subst (λ (x : Row). Upto x t) e a))
joins_between k t r wt wr a b (inr e) = inr (coefs_between k t r wt wr a b e)

-- ---- a row behind one that stands for it

-- the later list has r once more, right behind a row that joins it
abbrev pub After : Row → List Row → List Row → Type 0
After r [] later = ⊥
After r (x ∷ xs) later = (Joins x r × (later ≡ x ∷ r ∷ xs)) ⊎ ((rest : List Row) × (later ≡ x ∷ rest) × After r xs rest)

skipped : (k r : Row) (xs : List Row) → alike r k ≡ true → dedup_from alike k (r ∷ xs) ≡ dedup_from alike k xs
skipped k r xs a = ap (λ (b : Bool). cond b (dedup_from alike k xs) (k ∷ dedup_from alike r xs)) a

after_dedup : (r k : Row) (xs later : List Row) → After r xs later → dedup_from alike k later ≡ dedup_from alike k xs
after_dedup r k [] later h = absurd h
after_dedup r k (x ∷ xs) later (inl h) = ap (dedup_from alike k) h.1 ∙ by (alike x k) refl
  where
    by : (b : Bool) → alike x k ≡ b → cond b (dedup_from alike k (r ∷ xs)) (k ∷ dedup_from alike x (r ∷ xs)) ≡ cond b (dedup_from alike k xs) (k ∷ dedup_from alike x xs)
    by true a = skipped k r xs (joins_like x r k h.0 ∙ a)
    by false a = ap (λ (ys : List Row). k ∷ ys) (skipped x r xs (joins_alike x r h.0))
after_dedup r k (x ∷ xs) later (inr h) =
    let same = after_dedup r k xs h.0 h.2 in
    let other = after_dedup r x xs h.0 h.2 in
    ap (dedup_from alike k) h.1 ∙ ap (λ (ys : List Row). cond (alike x k) ys (k ∷ dedup_from alike x h.0)) same ∙ ap (λ (ys : List Row). cond (alike x k) (dedup_from alike k xs) (k ∷ ys)) other

after_clash : (r k : Row) (xs later : List Row) → After r xs later → clash_after k later ≡ clash_after k xs
after_clash r k [] later h = absurd h
after_clash r k (x ∷ xs) later (inl h) =
    ap (clash_after k) h.1 ∙ ap (λ (b : Bool). clash k x || (b || clash_after r xs)) (joins_none x r h.0) ∙ ap (λ (b : Bool). clash k x || b) (sym (joins_after x r xs h.0))
after_clash r k (x ∷ xs) later (inr h) = ap (clash_after k) h.1 ∙ ap (λ (b : Bool). clash k x || b) (after_clash r x xs h.0 h.2)

-- the head of the later list is that of the other
after_heads : (r : Row) (xs later : List Row) → After r xs later → (has_clash later ≡ has_clash xs) × (dedup alike later ≡ dedup alike xs)
after_heads r [] later h = absurd h
after_heads r (x ∷ xs) later (inl h) =
    (ap has_clash h.1 ∙ ap (λ (b : Bool). b || clash_after r xs) (joins_none x r h.0) ∙ sym (joins_after x r xs h.0), ap (dedup alike) h.1 ∙ skipped x r xs (joins_alike x r h.0))
after_heads r (x ∷ xs) later (inr h) = (ap has_clash h.1 ∙ after_clash r x xs h.0 h.2, ap (dedup alike) h.1 ∙ after_dedup r x xs h.0 h.2)

after_joined : (r : Row) (xs later : List Row) → After r xs later → joined later ≡ joined xs
after_joined r xs later h =
    let s = after_heads r xs later h in
    ap (λ (b : Bool). cond b absurd_rows (dedup alike later)) s.0 ∙ ap (λ (ys : List Row). cond (has_clash xs) absurd_rows ys) s.1

-- ---- its place among rows in order

-- all rows end with no 0
abbrev pub AllTrimmed : List Row → Type 0
AllTrimmed xs = (r : Row) → IsAmong r xs → IsTrimmed r

-- r is the row t, which the order puts behind it
at_front : (r t k : Row) (ts : List Row) → Below t ts → Upto r t → IsAmong k (t ∷ ts) → Upto k r → r ≡ t
at_front r t k ts b e (inl q) u = one_row r t e (subst (λ (x : Row). Upto x r) q u)
at_front r t k ts b e (inr q) u = one_row r t e (upto_along row_total t k r (below_one t k ts b q) u)

beside : (r t : Row) (ts : List Row) → r ≡ t → After r (t ∷ ts) (r ∷ t ∷ ts)
beside r t ts e = inl (inl (sym e), ap (λ (x : Row). x ∷ t ∷ ts) e ∙ ap (λ (x : Row). t ∷ x ∷ ts) (sym e))

place : (h r k : Row) (ts : List Row) → Rising (h ∷ ts) → IsTrimmed r → AllTrimmed ts → Upto h r → IsAmong k (h ∷ ts) → Upto k r → Joins k r → After r (h ∷ ts) (h ∷ insert_row r ts)
place h r k [] u tr tl e (inl q) a j = inl (subst (λ (x : Row). Joins x r) q j, refl)
place h r k [] u tr tl e (inr q) a j = absurd q
place h r k (t ∷ ts) u tr tl e q a j = by (λ l c p b i. place t r c ts u.1 tr (λ x m. tl x (inr m)) l p b i) (is_gt (row_cmp r t)) refl q
  where
    by : (Upto t r → (c : Row) → IsAmong c (t ∷ ts) → Upto c r → Joins c r → After r (t ∷ ts) (t ∷ insert_row r ts)) → (g : Bool) → is_gt (row_cmp r t) ≡ g → IsAmong k (h ∷ t ∷ ts)
        → After r (h ∷ t ∷ ts) (h ∷ cond g (t ∷ insert_row r ts) (r ∷ t ∷ ts))
    by next true g (inl q) =
        let l = at_most r t g in
        let i = joins_between h t r (tl t (inl refl)) tr u.0.0 l (subst (λ (x : Row). Joins x r) q j) in
        inr (t ∷ insert_row r ts, refl, next l t (inl refl) l i)
    by next true g (inr q) = inr (t ∷ insert_row r ts, refl, next (at_most r t g) k q a j)
    by next false g (inl q) = inl (subst (λ (x : Row). Joins x r) q j, refl)
    by next false g (inr q) = inr (r ∷ t ∷ ts, refl, beside r t ts (at_front r t k ts u.1.0 g q a))

-- a row changes nothing where an earlier one joins it
pub insert_joined : (r k : Row) (ss : List Row) → Rising ss → IsTrimmed r → AllTrimmed ss → IsAmong k ss → Upto k r → Joins k r → joined (insert_row r ss) ≡ joined ss
insert_joined r k [] u tr tl q a j = absurd q
insert_joined r k (h ∷ ts) u tr tl q a j = by (is_gt (row_cmp r h)) refl
  where
    by : (g : Bool) → is_gt (row_cmp r h) ≡ g → joined (cond g (h ∷ insert_row r ts) (r ∷ h ∷ ts)) ≡ joined (h ∷ ts)
    by true g = after_joined r (h ∷ ts) (h ∷ insert_row r ts) (place h r k ts u tr (λ x m. tl x (inr m)) (at_most r h g) q a j)
    by false g = after_joined r (h ∷ ts) (r ∷ h ∷ ts) (beside r h ts (at_front r h k ts u.0 g q a))

-- ---- two that clash

other_number : (x y z : ℤ) → int_eq x y ≡ true → not (int_eq x z) ≡ true → not (int_eq y z) ≡ true
other_number x y z e n = let same : x ≡ y = grind (arith, ints, e) in subst (λ (w : ℤ). not (int_eq w z) ≡ true) same n

or_left : (a b : Bool) → a ≡ true → (a || b) ≡ true
or_left true b e = refl
or_left false b e = absurd cc

or_right : (a b : Bool) → b ≡ true → (a || b) ≡ true
or_right true b e = refl
or_right false b e = e

-- an equality between two that clash clashes with one of them
pub clash_between : (h r t : Row) → IsTrimmed h → IsTrimmed r → Upto h r → Upto r t → clash h t ≡ true → (clash h r || clash r t) ≡ true
clash_between (Eq f) (Eq g) (Eq e) th tr a b c =
    let d = both_of (same_coefs f e) (not (int_eq f.konst e.konst)) c in
    let fe = lists_same f.coefs e.coefs d.0 in
    let b2 : is_gt (columns_cmp g.coefs f.coefs) ≡ false = rw (← fe) at (first_upto (columns_cmp g.coefs e.coefs) _ b) in
    let fg = same_columns f.coefs g.coefs th tr (first_upto (columns_cmp f.coefs g.coefs) _ a) b2 in
    by fg (sym fg ∙ fe) d.1 (int_eq f.konst g.konst) refl
  where
    by : f.coefs ≡ g.coefs → g.coefs ≡ e.coefs → not (int_eq f.konst e.konst) ≡ true → (i : Bool) → int_eq f.konst g.konst ≡ i → (clash (Eq f) (Eq g) || clash (Eq g) (Eq e)) ≡ true
    by fg ge n true i = or_right (clash (Eq f) (Eq g)) (clash (Eq g) (Eq e)) (both_true (same_coefs g e) (not (int_eq g.konst e.konst)) (coefs_same g e ge) (other_number f.konst g.konst e.konst i n))
    by fg ge n false i = or_left (clash (Eq f) (Eq g)) (clash (Eq g) (Eq e)) (both_true (same_coefs f g) (not (int_eq f.konst g.konst)) (coefs_same f g fg) (ap not i))
clash_between (Eq f) (Div m g) (Eq e) th tr a b c = absurd cc
clash_between (Eq f) (Ge g) (Eq e) th tr a b c = absurd cc
clash_between (Eq f) r (Div n e) th tr a b c = absurd cc
clash_between (Eq f) r (Ge e) th tr a b c = absurd cc
clash_between (Div m f) r t th tr a b c = absurd cc
clash_between (Ge f) r t th tr a b c = absurd cc
