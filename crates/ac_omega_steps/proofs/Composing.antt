-- The normal form of rows, with more rows behind it, has the normal form of all of them, and is made in `i128` where theirs is.
use Rattle.std.proofs.Common.{◌≡◌, ◌⊎◌, inl, inr, ℕ, List, [], ◌∷◌, ◌++◌, Bool, true, false, cond, ◌&&◌, ◌||◌, refl, sym, ap, ◌∙◌, subst, arith}
use Rattle.std.specs.List.{sum_by, dedup, dedup_from}
use Rattle.std.specs.Ordering.{is_gt}
use Rattle.std.proofs.lemmas.List.Sums.{sum_by-cons, sum_by-append}
use Rattle.ac_forms.specs.RowColumns.{IsTrimmed}
use Rattle.ac_forms.specs.NormalForm.{RowsFit, absurd_rows, left_onto, left_rows, is_absurd, has_absurd, insert_row, in_order, alike, clash, clash_after, has_clash, joined, normal_form}
use Rattle.ac_forms.specs.NormalRows.{normal_row, NormalFits}
use Rattle.ac_forms.specs.FormOrder.{row_cmp}
use Rattle.ac_forms.specs.Rows.{HaveModuli}
use Rattle.ac_forms.specs.RangeTests.{normal_fits, rows_fit}
use Rattle.ac_forms.specs.ListMembers.{IsAmong}
use Rattle.ac_forms.specs.Traces.{IsLeftOf}
use Rattle.ac_forms.specs.declared.normal.NormalRow.{NormalRow}
use Rattle.ac_forms.specs.declared.normal.NormalRow.TheVariants.{Kept, Dropped, Absurd}
use Rattle.ac_forms.specs.declared.row.Row.{Row}
use Rattle.ac_forms.proofs.Again.{kept-again, kept-fits}
use Rattle.ac_forms.proofs.Joining.{neither_of, either_of}
use Rattle.ac_forms.proofs.Sorting.{Rising, rising-in_order, sum-in_order, rising_unique}
use Rattle.ac_forms.proofs.Traces.{left_trace, order_trace, joined_trace}
use Rattle.ac_forms.proofs.Trimmed.{kept-trimmed}
use Rattle.ac_forms.proofs.Twins.{normal_fits-is, rows_fit-is}
use Rattle.ac_omega_steps.proofs.Places.{Upto, at_most, Joins, like_joins, joins_after, AllTrimmed, insert_joined, clash_between}

-- ---- the same rows in another order

order_same : (xs ys : List Row) → ((f : Row → ℕ) → sum_by f xs ≡ sum_by f ys) → in_order xs ≡ in_order ys
order_same xs ys same =
    rising_unique (in_order xs) (in_order ys) (rising-in_order xs) (rising-in_order ys) (λ f. sum-in_order f xs ∙ same f ∙ sym (sum-in_order f ys))

order_swap : (k r : Row) (xs : List Row) → in_order (k ∷ r ∷ xs) ≡ in_order (r ∷ k ∷ xs)
order_swap k r xs =
    order_same (k ∷ r ∷ xs) (r ∷ k ∷ xs) (λ f. omega (arith, sum_by-cons f k (r ∷ xs), sum_by-cons f r xs, sum_by-cons f r (k ∷ xs), sum_by-cons f k xs))

order_later : (k : Row) (xs ys : List Row) → in_order (k ∷ xs ++ ys) ≡ in_order (xs ++ k ∷ ys)
order_later k xs ys =
    order_same (k ∷ xs ++ ys) (xs ++ k ∷ ys) (λ f. omega (arith, sum_by-cons f k (xs ++ ys), sum_by-append f xs ys, sum_by-append f xs (k ∷ ys), sum_by-cons f k ys))

order_turn : (xs ys : List Row) → in_order (xs ++ ys) ≡ in_order (ys ++ xs)
order_turn xs ys = order_same (xs ++ ys) (ys ++ xs) (λ f. omega (arith, sum_by-append f xs ys, sum_by-append f ys xs))

order_first : (xs ys : List Row) → in_order (in_order xs ++ ys) ≡ in_order (xs ++ ys)
order_first xs ys =
    order_same (in_order xs ++ ys) (xs ++ ys) (λ f. omega (arith, sum_by-append f (in_order xs) ys, sum_by-append f xs ys, sum-in_order f xs))

-- ---- the rows of lists that are put together

one_in_parts : (r : Row) (xs ys : List Row) → IsAmong r (xs ++ ys) → IsAmong r xs ⊎ IsAmong r ys
one_in_parts r [] ys q = inr q
one_in_parts r (x ∷ xs) ys (inl e) = inl (inl e)
one_in_parts r (x ∷ xs) ys (inr q) = elim (one_in_parts r xs ys q) [ inl t ↦ inl (inr t) | inr t ↦ inr t ]

trimmed_parts : (xs ys : List Row) → AllTrimmed xs → AllTrimmed ys → AllTrimmed (xs ++ ys)
trimmed_parts xs ys h g r q = elim (one_in_parts r xs ys q) [ inl t ↦ h r t | inr t ↦ g r t ]

trimmed_order : (xs : List Row) → AllTrimmed xs → AllTrimmed (in_order xs)
trimmed_order xs h r q = h r (order_trace r xs q)

trimmed_cons : (k : Row) (xs : List Row) → IsTrimmed k → AllTrimmed xs → AllTrimmed (k ∷ xs)
trimmed_cons k xs h g r (inl e) = subst (λ (x : Row). IsTrimmed x) (sym e) h
trimmed_cons k xs h g r (inr q) = g r q

inserted : (k : Row) (xs : List Row) → IsAmong k (insert_row k xs)
inserted k [] = inl refl
inserted k (x ∷ xs) = by (inserted k xs) (is_gt (row_cmp k x))
  where
    by : IsAmong k (insert_row k xs) → (g : Bool) → IsAmong k (cond g (x ∷ insert_row k xs) (k ∷ x ∷ xs))
    by q true = inr q
    by q false = inl refl

-- ---- rows that are joined before more come

-- of two rows the later one may go, where the earlier one joins it
drop_joined : (k r : Row) (xs : List Row) → IsTrimmed k → IsTrimmed r → AllTrimmed xs → Upto k r → Joins k r → joined (in_order (k ∷ r ∷ xs)) ≡ joined (in_order (k ∷ xs))
drop_joined k r xs tk tr tx a j =
    ap joined (order_swap k r xs)
    ∙ insert_joined r k (in_order (k ∷ xs)) (rising-in_order (k ∷ xs)) tr (trimmed_order (k ∷ xs) (trimmed_cons k xs tk tx)) (inserted k (in_order xs)) a j

dedup_joined : (k : Row) (xs ys : List Row) → Rising (k ∷ xs) → clash_after k xs ≡ false → AllTrimmed (k ∷ xs) → AllTrimmed ys → joined (in_order (dedup_from alike k xs ++ ys)) ≡ joined (in_order (k ∷ xs ++ ys))
dedup_joined k [] ys u c tx ty = refl
dedup_joined k (x ∷ xs) ys u c tx ty =
    let n = neither_of (clash k x) (clash_after x xs) c in
    let tk = tx k (inl refl) in
    let tl : AllTrimmed (x ∷ xs) = λ r q. tx r (inr q) in
    let same : Joins k x → joined (in_order (dedup_from alike k xs ++ ys)) ≡ joined (in_order (k ∷ xs ++ ys)) =
    λ j. dedup_joined k xs ys (u.0.1, u.1.1) (joins_after k x xs j ∙ n.1) (trimmed_cons k xs tk (λ r q. tl r (inr q))) ty in
    by n.0 tk tl same (dedup_joined x xs (k ∷ ys) u.1 n.1 tl (trimmed_cons k ys tk ty)) (alike x k) refl
  where
    by : clash k x ≡ false → IsTrimmed k → AllTrimmed (x ∷ xs) → (Joins k x → joined (in_order (dedup_from alike k xs ++ ys)) ≡ joined (in_order (k ∷ xs ++ ys)))
        → joined (in_order (dedup_from alike x xs ++ k ∷ ys)) ≡ joined (in_order (x ∷ xs ++ k ∷ ys))
        → (b : Bool) → alike x k ≡ b → joined (in_order (cond b (dedup_from alike k xs) (k ∷ dedup_from alike x xs) ++ ys)) ≡ joined (in_order (k ∷ x ∷ xs ++ ys))
    by n tk tl same other true a =
        let j = like_joins k x a n in
        same j ∙ sym (drop_joined k x (xs ++ ys) tk (tl x (inl refl)) (trimmed_parts xs ys (λ r q. tl r (inr q)) ty) u.0.0 j)
    by n tk tl same other false a = ap joined (order_later k (dedup_from alike x xs) ys) ∙ other ∙ ap joined (sym (order_later k (x ∷ xs) ys))

joined_first : (ss ys : List Row) → Rising ss → has_clash ss ≡ false → AllTrimmed ss → AllTrimmed ys → joined (in_order (dedup alike ss ++ ys)) ≡ joined (in_order (ss ++ ys))
joined_first [] ys u c tx ty = refl
joined_first (s ∷ ss) ys u c tx ty = dedup_joined s ss ys u c tx ty

-- ---- rows that clash still do when more come

clash_insert : (h r : Row) (ts : List Row) → Rising (h ∷ ts) → IsTrimmed r → AllTrimmed (h ∷ ts) → Upto h r → clash_after h ts ≡ true → clash_after h (insert_row r ts) ≡ true
clash_insert h r [] u tr tx a c = absurd cc
clash_insert h r (t ∷ ts) u tr tx a c = by (λ l m. clash_insert t r ts u.1 tr (λ x q. tx x (inr q)) l m) (is_gt (row_cmp r t)) refl (either_of (clash h t) (clash_after t ts) c)
  where
    left : (a b : Bool) → a ≡ true → (a || b) ≡ true
    left true b e = refl
    left false b e = absurd cc

    right : (a b : Bool) → b ≡ true → (a || b) ≡ true
    right true b e = refl
    right false b e = e

    regroup : (a b c : Bool) → (a || b) ≡ true → (a || (b || c)) ≡ true
    regroup true b c e = refl
    regroup false true c e = refl
    regroup false false c e = absurd cc

    by : (Upto t r → clash_after t ts ≡ true → clash_after t (insert_row r ts) ≡ true) → (g : Bool) → is_gt (row_cmp r t) ≡ g → (clash h t ≡ true) ⊎ (clash_after t ts ≡ true)
        → clash_after h (cond g (t ∷ insert_row r ts) (r ∷ t ∷ ts)) ≡ true
    by next true g (inl e) = left (clash h t) (clash_after t (insert_row r ts)) e
    by next true g (inr e) = right (clash h t) (clash_after t (insert_row r ts)) (next (at_most r t g) e)
    by next false g (inl e) = regroup (clash h r) (clash r t) (clash_after t ts) (clash_between h r t (tx h (inl refl)) tr a g e)
    by next false g (inr e) = right (clash h r) (clash r t || clash_after t ts) (right (clash r t) (clash_after t ts) e)

clash_one_more : (r : Row) (ss : List Row) → Rising ss → IsTrimmed r → AllTrimmed ss → has_clash ss ≡ true → has_clash (insert_row r ss) ≡ true
clash_one_more r [] u tr tx c = absurd cc
clash_one_more r (s ∷ ss) u tr tx c = by (is_gt (row_cmp r s)) refl
  where
    right : (a b : Bool) → b ≡ true → (a || b) ≡ true
    right true b e = refl
    right false b e = e

    by : (g : Bool) → is_gt (row_cmp r s) ≡ g → has_clash (cond g (s ∷ insert_row r ss) (r ∷ s ∷ ss)) ≡ true
    by true g = clash_insert s r ss u tr tx (at_most r s g) c
    by false g = right (clash r s) (clash_after s ss) c

clash_more : (ys xs : List Row) → AllTrimmed ys → AllTrimmed xs → has_clash (in_order xs) ≡ true → has_clash (in_order (ys ++ xs)) ≡ true
clash_more [] xs ty tx c = c
clash_more (y ∷ ys) xs ty tx c =
    let tl : AllTrimmed ys = λ r q. ty r (inr q) in
    clash_one_more y (in_order (ys ++ xs)) (rising-in_order (ys ++ xs)) (ty y (inl refl)) (trimmed_order (ys ++ xs) (trimmed_parts ys xs tl tx)) (clash_more ys xs tl tx c)

-- ---- what is left of rows

onto_parts : (l : NormalRow) (xs ys : List Row) → left_onto l (xs ++ ys) ≡ left_onto l xs ++ ys
onto_parts (Kept r) xs ys = refl
onto_parts Dropped xs ys = refl
onto_parts Absurd xs ys = refl

left_parts : (xs ys : List Row) → left_rows (xs ++ ys) ≡ left_rows xs ++ left_rows ys
left_parts [] ys = refl
left_parts (x ∷ xs) ys = ap (left_onto (normal_row x)) (left_parts xs ys) ∙ onto_parts (normal_row x) (left_rows xs) (left_rows ys)

absurd_parts : (xs ys : List Row) → has_absurd (xs ++ ys) ≡ (has_absurd xs || has_absurd ys)
absurd_parts [] ys = refl
absurd_parts (x ∷ xs) ys = ap (λ (b : Bool). is_absurd (normal_row x) || b) (absurd_parts xs ys) ∙ by (is_absurd (normal_row x))
  where
    by : (a : Bool) → (a || (has_absurd xs || has_absurd ys)) ≡ ((a || has_absurd xs) || has_absurd ys)
    by true = refl
    by false = refl

left_of_trimmed : (r : Row) (xs : List Row) → IsLeftOf r xs → IsTrimmed r
left_of_trimmed r [] h = absurd h
left_of_trimmed r (x ∷ xs) (inl e) = kept-trimmed x r e
left_of_trimmed r (x ∷ xs) (inr h) = left_of_trimmed r xs h

left_trimmed : (xs : List Row) → AllTrimmed (left_rows xs)
left_trimmed xs r q = left_of_trimmed r xs (left_trace r xs q)

left_of_again : (r : Row) (xs : List Row) → HaveModuli xs → IsLeftOf r xs → normal_row r ≡ Kept r
left_of_again r [] m h = absurd h
left_of_again r (x ∷ xs) m (inl e) = kept-again x r m.0 e
left_of_again r (x ∷ xs) m (inr h) = left_of_again r xs m.1 h

left_of_fits : (r : Row) (xs : List Row) → RowsFit xs → IsLeftOf r xs → NormalFits r
left_of_fits r [] m h = absurd h
left_of_fits r (x ∷ xs) m (inl e) = kept-fits x r m.0 e
left_of_fits r (x ∷ xs) m (inr h) = left_of_fits r xs m.1 h

-- a row of the joined ones is the normal form of a row
source : (r : Row) (xs : List Row) → IsAmong r (dedup alike (in_order (left_rows xs))) → IsLeftOf r xs
source r xs q = left_trace r xs (order_trace r (left_rows xs) (joined_trace r (in_order (left_rows xs)) q))

-- rows that are their own normal forms
all_left : (ns : List Row) → ((r : Row) → IsAmong r ns → normal_row r ≡ Kept r) → left_rows ns ≡ ns
all_left [] h = refl
all_left (n ∷ ns) h = ap (λ (l : NormalRow). left_onto l (left_rows ns)) (h n (inl refl)) ∙ ap (λ (rs : List Row). n ∷ rs) (all_left ns (λ r q. h r (inr q)))

none_absurd : (ns : List Row) → ((r : Row) → IsAmong r ns → normal_row r ≡ Kept r) → has_absurd ns ≡ false
none_absurd [] h = refl
none_absurd (n ∷ ns) h = ap (λ (l : NormalRow). is_absurd l || has_absurd ns) (h n (inl refl)) ∙ none_absurd ns (λ r q. h r (inr q))

-- ---- the normal form

form_absurd : (rs : List Row) → has_absurd rs ≡ true → normal_form rs ≡ absurd_rows
form_absurd rs e = ap (λ (b : Bool). cond b absurd_rows (joined (in_order (left_rows rs)))) e

form_joined : (rs : List Row) → has_absurd rs ≡ false → normal_form rs ≡ joined (in_order (left_rows rs))
form_joined rs e = ap (λ (b : Bool). cond b absurd_rows (joined (in_order (left_rows rs)))) e

form_clash : (rs : List Row) → has_absurd rs ≡ false → has_clash (in_order (left_rows rs)) ≡ true → normal_form rs ≡ absurd_rows
form_clash rs e c = form_joined rs e ∙ ap (λ (b : Bool). cond b absurd_rows (dedup alike (in_order (left_rows rs)))) c

clash_parts : (xs ys : List Row) → has_absurd xs ≡ false → has_clash (in_order (left_rows xs)) ≡ true → normal_form (xs ++ ys) ≡ absurd_rows
clash_parts xs ys e c = by (has_absurd ys) refl
  where
    all : has_clash (in_order (left_rows (xs ++ ys))) ≡ true
    all =
        ap (λ (rs : List Row). has_clash (in_order rs)) (left_parts xs ys) ∙ ap has_clash (order_turn (left_rows xs) (left_rows ys))
        ∙ clash_more (left_rows ys) (left_rows xs) (left_trimmed ys) (left_trimmed xs) c

    whole : (b : Bool) → has_absurd ys ≡ b → has_absurd (xs ++ ys) ≡ b
    whole b h = absurd_parts xs ys ∙ ap (λ (a : Bool). a || has_absurd ys) e ∙ h

    by : (b : Bool) → has_absurd ys ≡ b → normal_form (xs ++ ys) ≡ absurd_rows
    by true h = form_absurd (xs ++ ys) (whole true h)
    by false h = form_clash (xs ++ ys) (whole false h) all

joined_parts : (xs ys : List Row) → HaveModuli xs → has_absurd xs ≡ false → has_clash (in_order (left_rows xs)) ≡ false
    → normal_form (dedup alike (in_order (left_rows xs)) ++ ys) ≡ normal_form (xs ++ ys)
joined_parts xs ys m e c =
    let ns = dedup alike (in_order (left_rows xs)) in
    let again : (r : Row) → IsAmong r ns → normal_row r ≡ Kept r = λ r q. left_of_again r xs m (source r xs q) in
    let flags : has_absurd (ns ++ ys) ≡ has_absurd (xs ++ ys) =
    absurd_parts ns ys ∙ ap (λ (a : Bool). a || has_absurd ys) (none_absurd ns again ∙ sym e) ∙ sym (absurd_parts xs ys) in
    let lefts : left_rows (ns ++ ys) ≡ ns ++ left_rows ys = left_parts ns ys ∙ ap (λ (rs : List Row). rs ++ left_rows ys) (all_left ns again) in
    let rows : joined (in_order (left_rows (ns ++ ys))) ≡ joined (in_order (left_rows (xs ++ ys))) =
    ap (λ (rs : List Row). joined (in_order rs)) lefts
    ∙ joined_first (in_order (left_rows xs)) (left_rows ys) (rising-in_order (left_rows xs)) c (trimmed_order (left_rows xs) (left_trimmed xs)) (left_trimmed ys)
    ∙ ap joined (order_first (left_rows xs) (left_rows ys)) ∙ ap (λ (rs : List Row). joined (in_order rs)) (sym (left_parts xs ys)) in
    ap (λ (b : Bool). cond b absurd_rows (joined (in_order (left_rows (ns ++ ys))))) flags ∙ ap (λ (rs : List Row). cond (has_absurd (xs ++ ys)) absurd_rows rs) rows

-- rows may be brought into normal form before more come
pub form_parts : (xs ys : List Row) → HaveModuli xs → normal_form (normal_form xs ++ ys) ≡ normal_form (xs ++ ys)
form_parts xs ys m = by (has_absurd xs) refl
  where
    inner : has_absurd xs ≡ false → (c : Bool) → has_clash (in_order (left_rows xs)) ≡ c → normal_form (cond c absurd_rows (dedup alike (in_order (left_rows xs))) ++ ys) ≡ normal_form (xs ++ ys)
    inner e true c = sym (clash_parts xs ys e c)
    inner e false c = joined_parts xs ys m e c

    by : (b : Bool) → has_absurd xs ≡ b → normal_form (cond b absurd_rows (joined (in_order (left_rows xs))) ++ ys) ≡ normal_form (xs ++ ys)
    by true e = sym (form_absurd (xs ++ ys) (absurd_parts xs ys ∙ ap (λ (a : Bool). a || has_absurd ys) e))
    by false e = inner e (has_clash (in_order (left_rows xs))) refl

-- ---- numbers of `i128`

pub fit_parts : (xs ys : List Row) → rows_fit (xs ++ ys) ≡ (rows_fit xs && rows_fit ys)
fit_parts [] ys = refl
fit_parts (x ∷ xs) ys = ap (λ (b : Bool). normal_fits x && b) (fit_parts xs ys) ∙ by (normal_fits x)
  where
    by : (a : Bool) → (a && (rows_fit xs && rows_fit ys)) ≡ ((a && rows_fit xs) && rows_fit ys)
    by true = refl
    by false = refl

each_fits : (ns : List Row) → ((r : Row) → IsAmong r ns → NormalFits r) → rows_fit ns ≡ true
each_fits [] h = refl
each_fits (n ∷ ns) h = ap (λ (b : Bool). b && rows_fit ns) ((normal_fits-is n).1 (h n (inl refl))) ∙ each_fits ns (λ r q. h r (inr q))

pub form_fits : (xs : List Row) → rows_fit xs ≡ true → rows_fit (normal_form xs) ≡ true
form_fits xs f = by (has_absurd xs)
  where
    inner : (c : Bool) → rows_fit (cond c absurd_rows (dedup alike (in_order (left_rows xs)))) ≡ true
    inner true = refl
    inner false = each_fits (dedup alike (in_order (left_rows xs))) (λ r q. left_of_fits r xs ((rows_fit-is xs).0 f) (source r xs q))

    by : (b : Bool) → rows_fit (cond b absurd_rows (joined (in_order (left_rows xs)))) ≡ true
    by true = refl
    by false = inner (has_clash (in_order (left_rows xs)))

pub form_fit_parts : (xs ys : List Row) → rows_fit xs ≡ true → rows_fit (normal_form xs ++ ys) ≡ rows_fit (xs ++ ys)
form_fit_parts xs ys f = fit_parts (normal_form xs) ys ∙ ap (λ (b : Bool). b && rows_fit ys) (form_fits xs f ∙ sym f) ∙ sym (fit_parts xs ys)
