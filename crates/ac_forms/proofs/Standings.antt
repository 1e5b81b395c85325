-- Rows that stand among rows hold at their points, and stand among more rows.
use Rattle.std.proofs.Common.{◌≡◌, ℕ, zero, suc, ◌+◌, ◌<◌, ◌≤◌, ◌&&◌, ◌||◌, ◌⊎◌, inl, inr, ℤ, List, [], ◌∷◌, ◌++◌, length, drop, get_or, Bool, true, false, cond, Option, Some, None, refl, sym, ap, ◌∙◌, subst, arith, append_assoc, append-nil, nat_eq, slice_get}
use Rattle.std.specs.Prelude.{IfOk, Result, Ok, Err}
use Rattle.std.specs.declared.alloc.AllocError.{AllocError}
use Rattle.std.specs.Ordering.{int_eq}
use Rattle.std.specs.Cmp.Lexicographic.{pointwise}
use Rattle.std.proofs.lemmas.List.{drop_more, drop_all}
use Rattle.std.proofs.lemmas.Bool.Decides.{Decides-int_eq, Decides-eqb}
use Rattle.ac_forms.specs.Affine.{Affine}
use Rattle.ac_forms.specs.NormalForm.{is_absurd}
use Rattle.ac_forms.specs.NormalRows.{normal_row, NormalFits, LeftHolds}
use Rattle.ac_forms.specs.FormOrder.{row_eq, form_eq, kind_of, modulus_of}
use Rattle.ac_forms.specs.Rows.{form_of, Holds, Meets, HasModulus, HaveModuli}
use Rattle.ac_forms.specs.Standing.{is_among, normal_of, kept_onto, kept_rows, is_left_among, stands_among, stands, all_stand_among, all_stand}
use Rattle.ac_forms.specs.RangeTests.{normal_fits}
use Rattle.ac_forms.specs.Ties.{row_equiv}
use Rattle.ac_forms.specs.declared.normal.NormalRow.{NormalRow}
use Rattle.ac_forms.specs.declared.normal.NormalRow.TheVariants.{Kept, Dropped, Absurd}
use Rattle.ac_forms.specs.declared.row.Row.{Row}
use Rattle.ac_forms.specs.declared.row.Row.TheVariants.{Eq, Div, Ge}
use Rattle.ac_forms.proofs.Joining.{both_of, either_of, lists_same}
use Rattle.ac_forms.proofs.NormalLaws.{row_keeps}
use Rattle.ac_forms.proofs.Twins.{normal_fits-is}

-- ---- rows that the test finds equal are equal

form_same : (f g : Affine) → form_eq f g ≡ true → f ≡ g
form_same f g e =
    let b = both_of (pointwise int_eq f.coefs g.coefs) (int_eq f.konst g.konst) e in
    let c : f.coefs ≡ g.coefs = lists_same f.coefs g.coefs b.0 in
    let k : f.konst ≡ g.konst = (Decides-int_eq f.konst g.konst).0 b.1 in
    λ i. record { konst = k i; coefs = c i }

parts : (r s : Row) → row_eq r s ≡ true → (kind_of r ≡ kind_of s) × (modulus_of r ≡ modulus_of s) × (form_of r ≡ form_of s)
parts r s e =
    let a = both_of (nat_eq (kind_of r) (kind_of s)) (int_eq (modulus_of r) (modulus_of s) && form_eq (form_of r) (form_of s)) e in
    let b = both_of (int_eq (modulus_of r) (modulus_of s)) (form_eq (form_of r) (form_of s)) a.1 in
    ((Decides-eqb (kind_of r) (kind_of s)).0 a.0, (Decides-int_eq (modulus_of r) (modulus_of s)).0 b.0, form_same (form_of r) (form_of s) b.1)

by_parts : (r s : Row) → kind_of r ≡ kind_of s → modulus_of r ≡ modulus_of s → form_of r ≡ form_of s → r ≡ s
by_parts (Eq f) (Eq g) k m e = ap Eq e
by_parts (Eq f) (Div n g) k m e = absurd (omega (arith, k))
by_parts (Eq f) (Ge g) k m e = absurd (omega (arith, k))
by_parts (Div n f) (Eq g) k m e = absurd (omega (arith, k))
by_parts (Div n f) (Div o g) k m e = λ i. Div (m i) (e i)
by_parts (Div n f) (Ge g) k m e = absurd (omega (arith, k))
by_parts (Ge f) (Eq g) k m e = absurd (omega (arith, k))
by_parts (Ge f) (Div n g) k m e = absurd (omega (arith, k))
by_parts (Ge f) (Ge g) k m e = ap Ge e

pub row_same : (r s : Row) → row_eq r s ≡ true → r ≡ s
row_same r s e = let p = parts r s e in by_parts r s p.0 p.1 p.2

pub row_itself : (r : Row) → row_eq r r ≡ true
row_itself r = row_equiv.refl r

-- ---- the loops

among_head : (r : Row) (rows : List Row) (i : ℕ) (x : Row) → i < length rows → x ≡ get_or rows i x → is_among r (drop i rows) ≡ (row_eq x r || is_among r (drop (i + 1) rows))
among_head r rows i x l e =
    let d : drop i rows ≡ x ∷ drop (i + 1) rows = rw e (drop_more rows i x l) in
    ap (is_among r) d

pub among_true : (r : Row) (rows : List Row) (i : ℕ) (x : Row) → i < length rows → x ≡ get_or rows i x → row_eq x r ≡ true → is_among r (drop i rows) ≡ true
among_true r rows i x l e k = among_head r rows i x l e ∙ ap (λ b. b || is_among r (drop (i + 1) rows)) k

pub among_false : (r : Row) (rows : List Row) (i : ℕ) (x : Row) → i < length rows → x ≡ get_or rows i x → row_eq x r ≡ false → is_among r (drop i rows) ≡ is_among r (drop (i + 1) rows)
among_false r rows i x l e k = among_head r rows i x l e ∙ ap (λ b. b || is_among r (drop (i + 1) rows)) k

pub ruleset among_steps = (among_true, among_false)

each_head : (kept rows : List Row) (i : ℕ) (x : Row) → i < length rows → x ≡ get_or rows i x → all_stand_among kept (drop i rows) ≡ (stands_among kept x && all_stand_among kept (drop (i + 1) rows))
each_head kept rows i x l e =
    let d : drop i rows ≡ x ∷ drop (i + 1) rows = rw e (drop_more rows i x l) in
    ap (all_stand_among kept) d

pub each_true : (kept rows : List Row) (i : ℕ) (x : Row) (b : Bool) → i < length rows → x ≡ get_or rows i x → b ≡ stands_among kept x → b ≡ true → all_stand_among kept (drop i rows) ≡ all_stand_among kept (drop (i + 1) rows)
each_true kept rows i x b l e s k = each_head kept rows i x l e ∙ ap (λ t. t && all_stand_among kept (drop (i + 1) rows)) (sym s ∙ k)

pub each_false : (kept rows : List Row) (i : ℕ) (x : Row) (b : Bool) → i < length rows → x ≡ get_or rows i x → b ≡ stands_among kept x → b ≡ false → all_stand_among kept (drop i rows) ≡ false
each_false kept rows i x b l e s k = each_head kept rows i x l e ∙ ap (λ t. t && all_stand_among kept (drop (i + 1) rows)) (sym s ∙ k)

pub ruleset each_steps = (each_true, each_false)

pub normal_made : (r : Row) (n : NormalRow) → NormalFits r × (n ≡ normal_row r) → Some n ≡ normal_of r
normal_made r n h = let e : normal_fits r ≡ true = (normal_fits-is r).1 h.0 in rw (e, h.1) refl

pub normal_none : (r : Row) → ¬ NormalFits r → normal_of r ≡ None
normal_none r h = by (normal_fits r) refl
  where
    by : (b : Bool) → normal_fits r ≡ b → cond b (Some (normal_row r)) None ≡ None
    by true e = absurd (h ((normal_fits-is r).0 e))
    by false e = refl

pub ruleset normal_steps = (normal_made, normal_none)

pub record KeptSoFar (rows done : List Row) (i : ℕ) : Type 0 where
  pub value : kept_rows rows ≡ done ++ kept_rows (drop i rows)

pub kept_start : (rows : List Row) → KeptSoFar rows [] 0
kept_start rows = record { value = refl }

-- what one more row adds
abbrev pub kept_of : Option NormalRow → List Row
kept_of (Some (Kept r)) = r ∷ []
kept_of (Some Dropped) = []
kept_of (Some Absurd) = []
kept_of None = []

onto_is : (o : Option NormalRow) (rs : List Row) → kept_onto o rs ≡ kept_of o ++ rs
onto_is (Some (Kept r)) rs = refl
onto_is (Some Dropped) rs = refl
onto_is (Some Absurd) rs = refl
onto_is None rs = refl

pub kept_step : (rows done new : List Row) (i : ℕ) (x : Row) (o : Option NormalRow) → KeptSoFar rows done i → i < length rows → x ≡ get_or rows i x → o ≡ normal_of x → new ≡ done ++ kept_of o → KeptSoFar rows new (i + 1)
kept_step rows done new i x o h l e n is =
    let d : drop i rows ≡ x ∷ drop (i + 1) rows = rw e (drop_more rows i x l) in
    record { value = (rw (d, ← n, onto_is o (kept_rows (drop (i + 1) rows))) at h.value) ∙ sym (append_assoc done (kept_of o) (kept_rows (drop (i + 1) rows))) ∙ ap (λ xs. xs ++ kept_rows (drop (i + 1) rows)) (sym is) }

pub kept_end : (rows done : List Row) (i : ℕ) → KeptSoFar rows done i → length rows ≤ i → done ≡ kept_rows rows
kept_end rows done i h l = sym ((rw (drop_all i rows l) at h.value) ∙ append-nil done)

pub ruleset kept_steps = (kept_start, kept_end)

-- ---- rows that stand hold

kept_by : (o : Option NormalRow) (x : Row) (rest kept : List Row) (p : List ℤ) → o ≡ normal_of x → HasModulus x → Holds x p → Meets rest p → Meets (kept_onto o rest) p
kept_by (Some (Kept r)) x rest kept p e m h t = (holds-left (normal_fits x) refl, t)
  where
    holds-left : (b : Bool) → normal_fits x ≡ b → Holds r p
    holds-left true i = let j : Some (Kept r) ≡ Some (normal_row x) = rw i at e in let k : Kept r ≡ normal_row x = cc in subst (λ (n : NormalRow). LeftHolds n p) (sym k) ((row_keeps x p m).1 h)
    holds-left false i = let j : Some (Kept r) ≡ None = rw i at e in absurd cc
kept_by (Some Dropped) x rest kept p e m h t = t
kept_by (Some Absurd) x rest kept p e m h t = t
kept_by None x rest kept p e m h t = t

pub kept-meets : (rows : List Row) (p : List ℤ) → HaveModuli rows → Meets rows p → Meets (kept_rows rows) p
kept-meets [] p m h = tt
kept-meets (x ∷ xs) p m h = kept_by (normal_of x) x (kept_rows xs) [] p refl m.0 h.0 (kept-meets xs p m.1 h.1)

pub among-holds : (r : Row) (rows : List Row) (p : List ℤ) → is_among r rows ≡ true → Meets rows p → Holds r p
among-holds r [] p e h = absurd cc
among-holds r (x ∷ xs) p e h = by (either_of (row_eq x r) (is_among r xs) e) (λ i. among-holds r xs p i h.1)
  where
    by : (row_eq x r ≡ true) ⊎ (is_among r xs ≡ true) → (is_among r xs ≡ true → Holds r p) → Holds r p
    by (inl i) next = subst (λ (y : Row). Holds y p) (row_same x r i) h.0
    by (inr i) next = next i

left-holds : (n : NormalRow) (kept : List Row) (p : List ℤ) → is_left_among (Some n) kept ≡ true → Meets kept p → LeftHolds n p
left-holds (Kept r) kept p e h = among-holds r kept p e h
left-holds Dropped kept p e h = tt
left-holds Absurd kept p e h = absurd cc

pub among_kept-holds : (kept : List Row) (r : Row) (p : List ℤ) → stands_among kept r ≡ true → HasModulus r → Meets kept p → Holds r p
among_kept-holds kept r p e m h = (row_keeps r p m).0 (by (normal_fits r) e)
  where
    by : (b : Bool) → is_left_among (cond b (Some (normal_row r)) None) kept ≡ true → LeftHolds (normal_row r) p
    by true i = left-holds (normal_row r) kept p i h
    by false i = absurd cc

pub stands-holds : (rows : List Row) (r : Row) (p : List ℤ) → stands rows r ≡ true → HaveModuli rows → HasModulus r → Meets rows p → Holds r p
stands-holds rows r p e m k h = among_kept-holds (kept_rows rows) r p e k (kept-meets rows p m h)

each-holds : (kept rs : List Row) (p : List ℤ) → all_stand_among kept rs ≡ true → HaveModuli rs → Meets kept p → Meets rs p
each-holds kept [] p e m h = tt
each-holds kept (r ∷ rs) p e m h =
    let b = both_of (stands_among kept r) (all_stand_among kept rs) e in
    (among_kept-holds kept r p b.0 m.0 h, each-holds kept rs p b.1 m.1 h)

pub all-hold : (rows rs : List Row) (p : List ℤ) → all_stand rows rs ≡ true → HaveModuli rows → HaveModuli rs → Meets rows p → Meets rs p
all-hold rows rs p e m k h = each-holds (kept_rows rows) rs p e k (kept-meets rows p m h)

-- ---- among more rows

kept-append : (xs ys : List Row) → kept_rows (xs ++ ys) ≡ kept_rows xs ++ kept_rows ys
kept-append [] ys = refl
kept-append (x ∷ xs) ys = rw (onto_is (normal_of x) (kept_rows (xs ++ ys)), onto_is (normal_of x) (kept_rows xs), kept-append xs ys) (sym (append_assoc (kept_of (normal_of x)) (kept_rows xs) (kept_rows ys)))

among-more : (r : Row) (xs ys : List Row) → is_among r xs ≡ true → is_among r (xs ++ ys) ≡ true
among-more r [] ys e = absurd cc
among-more r (x ∷ xs) ys e = by (row_eq x r) (among-more r xs ys) e
  where
    by : (b : Bool) → (is_among r xs ≡ true → is_among r (xs ++ ys) ≡ true) → (b || is_among r xs) ≡ true → (b || is_among r (xs ++ ys)) ≡ true
    by true next i = refl
    by false next i = next i

left-more : (o : Option NormalRow) (xs ys : List Row) → is_left_among o xs ≡ true → is_left_among o (xs ++ ys) ≡ true
left-more (Some (Kept r)) xs ys e = among-more r xs ys e
left-more (Some Dropped) xs ys e = refl
left-more (Some Absurd) xs ys e = e
left-more None xs ys e = e

pub stands-more : (rows more : List Row) (r : Row) → stands rows r ≡ true → stands (rows ++ more) r ≡ true
stands-more rows more r e = rw (kept-append rows more) (left-more (normal_of r) (kept_rows rows) (kept_rows more) e)

pub all-more : (rows more rs : List Row) → all_stand rows rs ≡ true → all_stand (rows ++ more) rs ≡ true
all-more rows more [] e = refl
all-more rows more (r ∷ rs) e =
    let b = both_of (stands rows r) (all_stand rows rs) e in
    rw (stands-more rows more r b.0) (all-more rows more rs b.1)

-- ---- a row of the rows

among-front : (r : Row) (xs : List Row) → is_among r (r ∷ xs) ≡ true
among-front r xs = rw (row_itself r) refl

among-onto : (r : Row) (o : Option NormalRow) (xs : List Row) → is_among r xs ≡ true → is_among r (kept_onto o xs) ≡ true
among-onto r (Some (Kept s)) xs e = by (row_eq s r)
  where
    by : (b : Bool) → (b || is_among r xs) ≡ true
    by true = refl
    by false = e
among-onto r (Some Dropped) xs e = e
among-onto r (Some Absurd) xs e = e
among-onto r None xs e = e

kept-among : (rows : List Row) (i : ℕ) (x r : Row) → slice_get rows i ≡ Some x → normal_of x ≡ Some (Kept r) → is_among r (kept_rows rows) ≡ true
kept-among [] i x r e n = absurd cc
kept-among (y ∷ ys) zero x r e n = let s : y ≡ x = cc in rw (s, n) (among-front r (kept_rows ys))
kept-among (y ∷ ys) (suc i) x r e n = among-onto r (normal_of y) (kept_rows ys) (kept-among ys i x r e n)

-- a row with a normal form that isn't absurd stands among the rows that have it
pub stands-there : (rows : List Row) (i : ℕ) (r : Row) → slice_get rows i ≡ Some r → NormalFits r → is_absurd (normal_row r) ≡ false → stands rows r ≡ true
stands-there rows i r e f a = let n = normal_made r (normal_row r) (f, refl) in rw (← n) (by (normal_row r) (sym n) a)
  where
    by : (n : NormalRow) → normal_of r ≡ Some n → is_absurd n ≡ false → is_left_among (Some n) (kept_rows rows) ≡ true
    by (Kept s) m k = kept-among rows i r s e m
    by Dropped m k = refl
    by Absurd m k = absurd cc

-- ---- what a result tells

pub standing-holds : (res : Result Bool AllocError) (rows : List Row) (r : Row) → HaveModuli rows → HasModulus r → IfOk res (λ standing. standing ≡ stands rows r) → IfOk res (λ standing. standing ≡ true → (p : List ℤ) → Meets rows p → Holds r p)
standing-holds (Ok b) rows r m k e = λ t p h. stands-holds rows r p (sym e ∙ t) m k h
standing-holds (Err w) rows r m k e = tt

pub standing-meets : (res : Result Bool AllocError) (rows rs : List Row) → HaveModuli rows → HaveModuli rs → IfOk res (λ standing. standing ≡ all_stand rows rs) → IfOk res (λ standing. standing ≡ true → (p : List ℤ) → Meets rows p → Meets rs p)
standing-meets (Ok b) rows rs m k e = λ t p h. all-hold rows rs p (sym e ∙ t) m k h
standing-meets (Err w) rows rs m k e = tt
