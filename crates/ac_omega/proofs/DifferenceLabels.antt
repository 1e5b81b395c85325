-- How many rows of differences over m columns are apart: at most 2 (m + 1)^2, one of each kind for each pair of a column or 0.
use Rattle.std.proofs.Common.{◌≡◌, ◌⊎◌, inl, inr, ℕ, suc, ◌+◌, ◌*◌, ◌≤◌, cond, Bool, true, false, ◌||◌, ◌==◌, ℤ, pos, ◌-ℤ◌, List, [], ◌∷◌, ◌++◌, length, Option, Some, None, arith, refl, ap, sym, ◌∙◌, length-append}
use Rattle.std.specs.List.{dedup}
use Rattle.std.proofs.lemmas.Int.{ints}
use borrow.Author.Tests.{eq-eqb, eqb-true}
use Rattle.ac_forms.specs.Affine.{coef}
use Rattle.ac_forms.specs.NormalForm.{absurd_rows, left_rows, has_absurd, in_order, alike, has_clash, normal_form}
use Rattle.ac_forms.specs.FormOrder.{kind_of}
use Rattle.ac_forms.specs.Rows.{form_of}
use Rattle.ac_forms.specs.declared.row.Row.{Row}
use Rattle.ac_forms.specs.declared.row.Row.TheVariants.{Eq, Div, Ge}
use Rattle.ac_forms.proofs.Sorting.{Rising, rising-in_order}
use Rattle.ac_omega.specs.DifferenceRows.{one_in, IsDifference}
use Rattle.ac_omega.specs.Projection.{is_among}
use Rattle.ac_omega.proofs.DifferenceForms.{one-cases}
use Rattle.ac_omega.proofs.DifferenceRows.{IsOver, IsTrimmed, IsRow, IsRaw, Each}
use Rattle.ac_omega.proofs.DifferenceNormals.{each-left, each-in_order, each-dedup_from}
use Rattle.ac_omega.proofs.DifferenceCounts.{AreSame, AreApart, IsPlain, apart-dedup, same-lists}

-- what tells rows apart
pub record Label : Type 0 where
  pub kind : ℕ
  pub plus : Option ℕ
  pub minus : Option ℕ

pub record Has (r : Row) (l : Label) : Type 0 where
  pub kind : kind_of r ≡ l.kind
  pub is : (j : ℕ) → coef j (form_of r) ≡ one_in l.plus j -ℤ one_in l.minus j

-- P holds of one of them
abbrev pub SomeOf : {A : Type 0} → (A → Type 0) → List A → Type 0
SomeOf P [] = ⊥
SomeOf P (x ∷ xs) = P x ⊎ SomeOf P xs

plain-row : (vars : List ℕ) (b : ℕ) (r : Row) → IsRow vars b r → IsPlain r
plain-row vars b (Eq f) h = h.1
plain-row vars b (Div m f) h = h
plain-row vars b (Ge f) h = h.1

plain-forms : (r s : Row) → IsPlain r → IsPlain s → IsTrimmed (form_of r) × IsTrimmed (form_of s)
plain-forms (Eq f) (Eq g) p q = (p, q)
plain-forms (Eq f) (Ge g) p q = (p, q)
plain-forms (Ge f) (Eq g) p q = (p, q)
plain-forms (Ge f) (Ge g) p q = (p, q)
plain-forms (Div m f) s p q = absurd p
plain-forms r (Div m f) p q = absurd q

-- rows with one label are the same
one-label : (r s : Row) (l : Label) → IsPlain r → IsPlain s → Has r l → Has s l → AreSame r s
one-label r s l p q h g =
    let t = plain-forms r s p q in
    record { kind = h.kind ∙ sym g.kind; coefs = same-lists (form_of r) (form_of s) t.0 t.1 (λ j. h.is j ∙ sym (g.is j)) }

-- the labels but for the one that the row has
without : (r : Row) (ls : List Label) → SomeOf (Has r) ls → List Label
without r [] h = []
without r (l ∷ ls) (inl h) = ls
without r (l ∷ ls) (inr h) = l ∷ without r ls h

one-less : (r : Row) (ls : List Label) (h : SomeOf (Has r) ls) → length ls ≡ suc (length (without r ls h))
unfolding without
one-less r [] h = absurd h
one-less r (l ∷ ls) (inl h) = refl
one-less r (l ∷ ls) (inr h) = ap suc (one-less r ls h)

still : (r s : Row) (ls : List Label) (h : SomeOf (Has r) ls) → IsPlain r → IsPlain s → (AreSame r s → ⊥) → SomeOf (Has s) ls → SomeOf (Has s) (without r ls h)
unfolding without
still r s [] h p q n g = absurd h
still r s (l ∷ ls) (inl h) p q n (inl g) = absurd (n (one-label r s l p q h g))
still r s (l ∷ ls) (inl h) p q n (inr g) = g
still r s (l ∷ ls) (inr h) p q n (inl g) = inl g
still r s (l ∷ ls) (inr h) p q n (inr g) = inr (still r s ls h p q n g)

still-each : (r : Row) (rs : List Row) (ls : List Label) (h : SomeOf (Has r) ls) → IsPlain r → Each IsPlain rs → Each (λ s. AreSame r s → ⊥) rs → Each (λ s. SomeOf (Has s) ls) rs → Each (λ s. SomeOf (Has s) (without r ls h)) rs
still-each r [] ls h p q n g = tt
still-each r (s ∷ rs) ls h p q n g = (still r s ls h p q.0 n.0 g.0, still-each r rs ls h p q.1 n.1 g.1)

-- no more rows that are apart than labels
pub pigeonhole : (rs : List Row) (ls : List Label) → Each IsPlain rs → AreApart rs → Each (λ s. SomeOf (Has s) ls) rs → length rs ≤ length ls
pigeonhole [] ls p a h = omega arith
pigeonhole (r ∷ rs) ls p a h =
    let t = pigeonhole rs (without r ls h.0) p.1 a.1 (still-each r rs ls h.0 p.0 p.1 a.0 h.1) in
    omega (arith, one-less r ls h.0)

-- the labels over some columns
pub somes : List ℕ → List (Option ℕ)
somes [] = []
somes (x ∷ xs) = Some x ∷ somes xs

unfoldable pub ends : List ℕ → List (Option ℕ)
ends vars = None ∷ somes vars

unfoldable pub label : ℕ → Option ℕ → Option ℕ → Label
label k p q = record { kind = k; plus = p; minus = q }

labels-of : ℕ → Option ℕ → List (Option ℕ) → List Label
labels-of k p [] = []
labels-of k p (q ∷ qs) = label k p q ∷ labels-of k p qs

pub pairs : ℕ → List (Option ℕ) → List (Option ℕ) → List Label
pairs k [] qs = []
pairs k (p ∷ ps) qs = labels-of k p qs ++ pairs k ps qs

labels : List ℕ → List Label
labels vars = pairs 0 (ends vars) (ends vars) ++ pairs 2 (ends vars) (ends vars)

length-of : (k : ℕ) (p : Option ℕ) (qs : List (Option ℕ)) → length (labels-of k p qs) ≡ length qs
unfolding labels-of
length-of k p [] = refl
length-of k p (q ∷ qs) = ap suc (length-of k p qs)

suc-times : (m n : ℕ) → suc m * n ≡ n + m * n
suc-times m n = omega arith

pub length-pairs : (k : ℕ) (ps qs : List (Option ℕ)) → length (pairs k ps qs) ≡ length ps * length qs
unfolding pairs
length-pairs k [] qs = omega arith
length-pairs k (p ∷ ps) qs =
    length-append (labels-of k p qs) (pairs k ps qs) ∙ ap (λ (n : ℕ). n + length (pairs k ps qs)) (length-of k p qs) ∙ ap (λ (n : ℕ). length qs + n) (length-pairs k ps qs) ∙ sym (suc-times (length ps) (length qs))

pub length-somes : (vars : List ℕ) → length (somes vars) ≡ length vars
unfolding somes
length-somes [] = refl
length-somes (x ∷ xs) = ap suc (length-somes xs)

length-labels : (vars : List ℕ) → length (labels vars) ≡ 2 * (suc (length vars) * suc (length vars))
unfolding labels ends
length-labels vars =
    let n = length-pairs 0 (ends vars) (ends vars) in
    let o = length-pairs 2 (ends vars) (ends vars) in
    let s : length (ends vars) ≡ suc (length vars) = ap suc (length-somes vars) in
    let a = length-append (pairs 0 (ends vars) (ends vars)) (pairs 2 (ends vars) (ends vars)) in
    let m : length (ends vars) * length (ends vars) ≡ suc (length vars) * suc (length vars) = ap (λ (x : ℕ). x * x) s in
    omega (arith, a, n, o, m)

-- an end is among them
some-first : {A : Type 0} (P : A → Type 0) (xs ys : List A) → SomeOf P xs → SomeOf P (xs ++ ys)
some-first P [] ys h = absurd h
some-first P (x ∷ xs) ys (inl h) = inl h
some-first P (x ∷ xs) ys (inr h) = inr (some-first P xs ys h)

some-second : {A : Type 0} (P : A → Type 0) (xs ys : List A) → SomeOf P ys → SomeOf P (xs ++ ys)
some-second P [] ys h = h
some-second P (x ∷ xs) ys h = inr (some-second P xs ys h)

some-label : (r : Row) (k : ℕ) (p q : Option ℕ) (qs : List (Option ℕ)) → SomeOf (λ e. e ≡ q) qs → Has r (label k p q) → SomeOf (Has r) (labels-of k p qs)
unfolding labels-of
some-label r k p q [] i h = absurd i
some-label r k p q (e ∷ qs) (inl s) h = inl (rw s h)
some-label r k p q (e ∷ qs) (inr i) h = inr (some-label r k p q qs i h)

pub some-pair : (r : Row) (k : ℕ) (p q : Option ℕ) (ps qs : List (Option ℕ)) → SomeOf (λ e. e ≡ p) ps → SomeOf (λ e. e ≡ q) qs → Has r (label k p q) → SomeOf (Has r) (pairs k ps qs)
unfolding pairs
some-pair r k p q [] qs i j h = absurd i
some-pair r k p q (e ∷ ps) qs (inl s) j h = some-first (Has r) (labels-of k e qs) (pairs k ps qs) (rw s (some-label r k p q qs j h))
some-pair r k p q (e ∷ ps) qs (inr i) j h = some-second (Has r) (labels-of k e qs) (pairs k ps qs) (some-pair r k p q ps qs i j h)

some-end : (x : ℕ) (vars : List ℕ) → is_among x vars ≡ true → SomeOf (λ e. e ≡ Some x) (somes vars)
unfolding somes
some-end x [] a = absurd cc
some-end x (y ∷ ys) a = by (x == y) refl (some-end x ys) a
  where
    by : (t : Bool) → (x == y) ≡ t → (is_among x ys ≡ true → SomeOf (λ e. e ≡ Some x) (somes ys)) → (t || is_among x ys) ≡ true → SomeOf (λ e. e ≡ Some x) (Some y ∷ somes ys)
    by true e i a = inl (ap (λ (z : ℕ). Some z) (sym (eqb-true x y e)))
    by false e i a = inr (i a)

-- a column outside has no part in the difference, or both parts
one-itself : (x : ℕ) → one_in (Some x) x ≡ pos 1
one-itself x = rw (eq-eqb x x refl) refl

itself-gone : (c p q : ℤ) → c ≡ p -ℤ q → p ≡ q → c ≡ pos 0
itself-gone c p q e f = omega (arith, ints)

pub both-gone : (c : ℕ → ℤ) (d : IsDifference c) → d.plus ≡ d.minus → (j : ℕ) → c j ≡ pos 0
both-gone c d e j = itself-gone (c j) (one_in d.plus j) (one_in d.minus j) (d.is j) (ap (λ (o : Option ℕ). one_in o j) e)

pub plus-gone : (c : ℕ → ℤ) (d : IsDifference c) (x : ℕ) → d.plus ≡ Some x → c x ≡ pos 0 → d.plus ≡ d.minus
plus-gone c d x e z = elim (one-cases d.minus x) [
  | inl a ↦ e ∙ sym a.1
  | inr a ↦ absurd (apart (c x) (one_in d.plus x) (one_in d.minus x) (d.is x) z (ap (λ (o : Option ℕ). one_in o x) e ∙ one-itself x) a)
]
  where
    apart : (c p q : ℤ) → c ≡ p -ℤ q → c ≡ pos 0 → p ≡ pos 1 → q ≡ pos 0 → ⊥
    apart c p q e f g h = omega (arith, ints)

pub minus-gone : (c : ℕ → ℤ) (d : IsDifference c) (x : ℕ) → d.minus ≡ Some x → c x ≡ pos 0 → d.plus ≡ d.minus
minus-gone c d x e z = elim (one-cases d.plus x) [
  | inl a ↦ a.1 ∙ sym e
  | inr a ↦ absurd (apart (c x) (one_in d.plus x) (one_in d.minus x) (d.is x) z a (ap (λ (o : Option ℕ). one_in o x) e ∙ one-itself x))
]
  where
    apart : (c p q : ℤ) → c ≡ p -ℤ q → c ≡ pos 0 → p ≡ pos 0 → q ≡ pos 1 → ⊥
    apart c p q e f g h = omega (arith, ints)

pub place : (vars : List ℕ) (o : Option ℕ) → SomeOf (λ e. e ≡ o) (ends vars) ⊎ ((x : ℕ) × (o ≡ Some x) × (is_among x vars ≡ false))
unfolding ends
place vars None = inl (inl refl)
place vars (Some x) = by (is_among x vars) refl
  where
    by : (t : Bool) → is_among x vars ≡ t → SomeOf (λ e. e ≡ Some x) (ends vars) ⊎ ((y : ℕ) × (Some x ≡ Some y) × (is_among y vars ≡ false))
    by true a = inl (inr (some-end x vars a))
    by false a = inr (x, refl, a)

label-none : (r : Row) (k : ℕ) (vars : List ℕ) → kind_of r ≡ k → ((j : ℕ) → coef j (form_of r) ≡ pos 0) → SomeOf (Has r) (pairs k (ends vars) (ends vars))
unfolding ends label
label-none r k vars e z = some-pair r k None None (ends vars) (ends vars) (inl refl) (inl refl) (record { kind = e; is = λ j. z j })

some-row : (r : Row) (k : ℕ) (vars : List ℕ) (b : ℕ) → kind_of r ≡ k → IsOver vars b (form_of r) → SomeOf (Has r) (pairs k (ends vars) (ends vars))
unfolding label
some-row r k vars b e h =
    let d = h.difference in
    elim (place vars d.plus) [
      | inl p ↦ elim (place vars d.minus) [
        | inl q ↦ some-pair r k d.plus d.minus (ends vars) (ends vars) p q (record { kind = e; is = d.is })
        | inr q ↦ label-none r k vars e (both-gone _ d (minus-gone _ d q.0 q.1 (h.within q.0 q.2)))
      ]
      | inr p ↦ label-none r k vars e (both-gone _ d (plus-gone _ d p.0 p.1 (h.within p.0 p.2)))
    ]

some-labels : (r : Row) (vars : List ℕ) (b : ℕ) → IsRow vars b r → SomeOf (Has r) (labels vars)
unfolding labels
some-labels (Eq f) vars b h = some-first (Has (Eq f)) (pairs 0 (ends vars) (ends vars)) (pairs 2 (ends vars) (ends vars)) (some-row (Eq f) 0 vars b refl h.0)
some-labels (Div m f) vars b h = absurd h
some-labels (Ge f) vars b h = some-second (Has (Ge f)) (pairs 0 (ends vars) (ends vars)) (pairs 2 (ends vars) (ends vars)) (some-row (Ge f) 2 vars b refl h.0)

pub each-plain : (vars : List ℕ) (b : ℕ) (rs : List Row) → Each (IsRow vars b) rs → Each IsPlain rs
each-plain vars b [] h = tt
each-plain vars b (r ∷ rs) h = (plain-row vars b r h.0, each-plain vars b rs h.1)

each-labels : (vars : List ℕ) (b : ℕ) (rs : List Row) → Each (IsRow vars b) rs → Each (λ r. SomeOf (Has r) (labels vars)) rs
each-labels vars b [] h = tt
each-labels vars b (r ∷ rs) h = (some-labels r vars b h.0, each-labels vars b rs h.1)

-- rows in order, joined
joined-few : (vars : List ℕ) (b : ℕ) (rs : List Row) → Each (IsRow vars b) rs → Rising rs → length (dedup alike rs) ≤ 2 * (suc (length vars) * suc (length vars))
joined-few vars b [] h g = omega arith
joined-few vars b (r ∷ rs) h g =
    let all = each-dedup_from (IsRow vars b) r rs h.0 h.1 in
    let n = pigeonhole (dedup alike (r ∷ rs)) (labels vars) (each-plain vars b (dedup alike (r ∷ rs)) all) (apart-dedup r rs (each-plain vars b (r ∷ rs) h) g) (each-labels vars b (dedup alike (r ∷ rs)) all) in
    omega (arith, n, length-labels vars)

joined-apart : (vars : List ℕ) (b : ℕ) (rs : List Row) → Each (IsRow vars b) rs → Rising rs → AreApart (dedup alike rs)
joined-apart vars b [] h g = tt
joined-apart vars b (r ∷ rs) h g = apart-dedup r rs (each-plain vars b (r ∷ rs) h) g

one-few : (n : ℕ) → 1 ≤ 2 * (suc n * suc n)
one-few n = omega (arith, suc-times n (suc n))

pub normal-few : (vars : List ℕ) (b : ℕ) (xs : List Row) → Each (IsRaw vars b) xs → length (normal_form xs) ≤ 2 * (suc (length vars) * suc (length vars))
normal-few vars b xs h = by (has_absurd xs) (has_clash (in_order (left_rows xs)))
  where
    by : (t u : Bool) → length (cond t absurd_rows (cond u absurd_rows (dedup alike (in_order (left_rows xs))))) ≤ 2 * (suc (length vars) * suc (length vars))
    by true u = one-few (length vars)
    by false true = one-few (length vars)
    by false false = joined-few vars b (in_order (left_rows xs)) (each-in_order (IsRow vars b) (left_rows xs) (each-left vars b xs h)) (rising-in_order (left_rows xs))

pub normal-apart : (vars : List ℕ) (b : ℕ) (xs : List Row) → Each (IsRaw vars b) xs → AreApart (normal_form xs)
normal-apart vars b xs h = by (has_absurd xs) (has_clash (in_order (left_rows xs)))
  where
    by : (t u : Bool) → AreApart (cond t absurd_rows (cond u absurd_rows (dedup alike (in_order (left_rows xs)))))
    by true u = (tt, tt)
    by false true = (tt, tt)
    by false false = joined-apart vars b (in_order (left_rows xs)) (each-in_order (IsRow vars b) (left_rows xs) (each-left vars b xs h)) (rising-in_order (left_rows xs))
