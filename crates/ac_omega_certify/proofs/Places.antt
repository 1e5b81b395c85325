-- Places in a list of names: before a further name, and where one of them is replaced.
use Rattle.std.proofs.Common.{◌≡◌, ℕ, zero, suc, ◌+◌, ◌<◌, List, [], ◌∷◌, ◌++◌, length, set, get_or, Option, Some, None, Bool, true, false, cond, nat_eq, refl, sym, ap, ◌∙◌, arith, length-append}
use Rattle.std.specs.Prelude.{◌≢◌, option_map}
use Rattle.std.proofs.lemmas.List.{length-set, get_or-set_same, get_or-set_other}
use Rattle.std.proofs.Math.ListN.{get_or-append}
use borrow.Author.Tests.{eqb-true, eqb-false}
use Rattle.ac_omega_certify.specs.Descents.{AreNames}
use Rattle.ac_omega_certify.specs.TreePathRows.{place_of}
use Rattle.ac_omega_certify.proofs.Distinct.{name-within, same-place, columns-of, distinct-of}

-- ---- the place of a number

some-same : (x y : ℕ) → Some x ≡ Some y → x ≡ y
some-same x y e = cc

-- the number stands at its place
pub place-some : (j : ℕ) (xs : List ℕ) (k : ℕ) → place_of j xs ≡ Some k → (k < length xs) × (get_or xs k 0 ≡ j)
place-some j [] k e = absurd cc
place-some j (x ∷ xs) k e = by (nat_eq x j) (place_of j xs) k (λ i. place-some j xs i) refl refl e
  where
    by : (b : Bool) (o : Option ℕ) (k : ℕ) → ((i : ℕ) → place_of j xs ≡ Some i → (i < length xs) × (get_or xs i 0 ≡ j)) → nat_eq x j ≡ b → place_of j xs ≡ o → cond b (Some 0) (option_map (λ i. suc i) o) ≡ Some k → (k < length (x ∷ xs)) × (get_or (x ∷ xs) k 0 ≡ j)
    by true o k again t p e = rw (← (some-same 0 k e)) (omega arith, eqb-true x j t)
    by false None k again t p e = absurd cc
    by false (Some i) k again t p e =
        let r = again i p in
        rw (← (some-same (suc i) k e)) (omega (arith, r.0), r.1)

pub place-none : (j : ℕ) (xs : List ℕ) → place_of j xs ≡ None → (k : ℕ) → k < length xs → get_or xs k 0 ≢ j
place-none j [] e k l = absurd (omega (arith, l))
place-none j (x ∷ xs) e k l = by (nat_eq x j) (place_of j xs) k (λ p i. place-none j xs p i) refl refl e l
  where
    by : (b : Bool) (o : Option ℕ) (k : ℕ) → (place_of j xs ≡ None → (i : ℕ) → i < length xs → get_or xs i 0 ≢ j) → nat_eq x j ≡ b → place_of j xs ≡ o → cond b (Some 0) (option_map (λ i. suc i) o) ≡ None → k < length (x ∷ xs) → get_or (x ∷ xs) k 0 ≢ j
    by true o k again t p e l = absurd cc
    by false (Some i) k again t p e l = absurd cc
    by false None zero again t p e l = eqb-false x j t
    by false None (suc k) again t p e l = again p k (omega (arith, l))

-- a number that stands nowhere has no place
pub no-place : (j : ℕ) (xs : List ℕ) → ((k : ℕ) → k < length xs → get_or xs k 0 ≢ j) → place_of j xs ≡ None
no-place j xs h = by (place_of j xs) refl
  where
    by : (o : Option ℕ) → place_of j xs ≡ o → place_of j xs ≡ None
    by None e = e
    by (Some k) e = let r = place-some j xs k e in absurd (h k r.0 r.1)

-- one of several different numbers has its place
pub place-is : (j k : ℕ) (xs : List ℕ) → k < length xs → get_or xs k 0 ≡ j → ((i : ℕ) → i < length xs → get_or xs i 0 ≡ j → i ≡ k) → place_of j xs ≡ Some k
place-is j k xs l a h = by (place_of j xs) refl
  where
    by : (o : Option ℕ) → place_of j xs ≡ o → place_of j xs ≡ Some k
    by None e = absurd (place-none j xs e k l a)
    by (Some i) e = let r = place-some j xs i e in e ∙ ap (λ (n : ℕ). Some n) (h i r.0 r.1)

-- ---- a further name, and one that is replaced

replaced-at : (names : List ℕ) (z q k : ℕ) → z < length names → (k ≡ z → ⊥) → get_or (set names z q) k 0 ≡ get_or names k 0
replaced-at names z q k l ne = get_or-set_other names z k q 0 ne

last-at : (names : List ℕ) (q k : ℕ) → k ≡ length names → get_or (names ++ q ∷ []) k 0 ≡ q
last-at [] q zero e = refl
last-at [] q (suc k) e = absurd (omega (arith, e))
last-at (x ∷ names) q zero e = absurd (omega (arith, e))
last-at (x ∷ names) q (suc k) e = last-at names q k (omega (arith, e))

-- how many there are
long : (names : List ℕ) (q : ℕ) → length (names ++ q ∷ []) ≡ length names + 1
long names q = length-append names (q ∷ [])

-- a number among so many is one of the first, or the last
pub first-or-last : (n k : ℕ) {P : Type 0} → k < n + 1 → (k < n → P) → (k ≡ n → P) → P
first-or-last n k {P} l a b = by (nat_eq k n) refl
  where
    by : (t : Bool) → nat_eq k n ≡ t → P
    by true e = b (eqb-true k n e)
    by false e = let ne : k ≢ n = eqb-false k n e in a (omega (arith, l, ne))

pub is-or-not : (a b : ℕ) {P : Type 0} → (a ≡ b → P) → (a ≢ b → P) → P
is-or-not a b {P} x y = by (nat_eq a b) refl
  where
    by : (t : Bool) → nat_eq a b ≡ t → P
    by true e = x (eqb-true a b e)
    by false e = y (eqb-false a b e)

-- the names with the further one at the end: the first place of each number
wide-none : (names : List ℕ) (q j : ℕ) → place_of j names ≡ None → j ≢ q → place_of j (names ++ q ∷ []) ≡ None
wide-none names q j e ne = no-place j (names ++ q ∷ []) (λ k l. first-or-last (length names) k (omega (arith, long names q, l)) (λ a. λ s. place-none j names e k a (sym (get_or-append names (q ∷ []) 0 k a) ∙ s)) (λ b. λ s. ne (sym s ∙ last-at names q k b)))

wide-last : (names : List ℕ) (q j : ℕ) → place_of j names ≡ None → j ≡ q → place_of j (names ++ q ∷ []) ≡ Some (length names)
wide-last names q j e is =
    place-is j (length names) (names ++ q ∷ []) (omega (arith, long names q)) (last-at names q (length names) refl ∙ sym is)
    (λ i l s. first-or-last (length names) i (omega (arith, long names q, l)) (λ a. absurd (place-none j names e i a (sym (get_or-append names (q ∷ []) 0 i a) ∙ s))) (λ b. b))

wide-some : (names : List ℕ) (q j k : ℕ) → AreNames q names → place_of j names ≡ Some k → place_of j (names ++ q ∷ []) ≡ Some k
wide-some names q j k h e =
    let r = place-some j names k e in
    let below : get_or names k 0 < q = name-within q names h.within k r.0 in
    place-is j k (names ++ q ∷ []) (omega (arith, long names q, r.0)) (get_or-append names (q ∷ []) 0 k r.0 ∙ r.1)
    (λ i l s. first-or-last (length names) i (omega (arith, long names q, l)) (λ a. same-place names h.apart i k a r.0 (sym (get_or-append names (q ∷ []) 0 i a) ∙ s ∙ sym r.1)) (λ b. absurd (omega (arith, below, r.1, last-at names q i b, s))))

-- the names with the further one in the place of another
new-none : (names : List ℕ) (z q j : ℕ) → z < length names → place_of j names ≡ None → j ≢ q → place_of j (set names z q) ≡ None
new-none names z q j l e ne = no-place j (set names z q) (λ k m. is-or-not k z
    (λ is. λ s. ne (sym s ∙ ap (λ (i : ℕ). get_or (set names z q) i 0) is ∙ get_or-set_same names z q 0 l))
    (λ off. λ s. place-none j names e k (omega (arith, length-set names z q, m)) (sym (replaced-at names z q k l off) ∙ s)))

new-last : (names : List ℕ) (z q j : ℕ) → z < length names → place_of j names ≡ None → j ≡ q → place_of j (set names z q) ≡ Some z
new-last names z q j l e is =
    place-is j z (set names z q) (omega (arith, length-set names z q, l)) (get_or-set_same names z q 0 l ∙ sym is)
    (λ i m s. is-or-not i z (λ same. same) (λ off. absurd (place-none j names e i (omega (arith, length-set names z q, m)) (sym (replaced-at names z q i l off) ∙ s))))

new-gone : (names : List ℕ) (z q j : ℕ) → AreNames q names → z < length names → place_of j names ≡ Some z → place_of j (set names z q) ≡ None
new-gone names z q j h l e =
    let r = place-some j names z e in
    let below : get_or names z 0 < q = name-within q names h.within z l in
    no-place j (set names z q) (λ k m. is-or-not k z
    (λ is. λ s. absurd (omega (arith, below, r.1, s, ap (λ (i : ℕ). get_or (set names z q) i 0) is ∙ get_or-set_same names z q 0 l)))
    (λ off. λ s. off (same-place names h.apart k z (omega (arith, length-set names z q, m)) l (sym (replaced-at names z q k l off) ∙ s ∙ sym r.1))))

new-some : (names : List ℕ) (z q j k : ℕ) → AreNames q names → z < length names → place_of j names ≡ Some k → k ≢ z → place_of j (set names z q) ≡ Some k
new-some names z q j k h l e ne =
    let r = place-some j names k e in
    let below : get_or names k 0 < q = name-within q names h.within k r.0 in
    place-is j k (set names z q) (omega (arith, length-set names z q, r.0)) (replaced-at names z q k l ne ∙ r.1)
    (λ i m s. is-or-not i z
    (λ is. absurd (omega (arith, below, r.1, s, ap (λ (x : ℕ). get_or (set names z q) x 0) is ∙ get_or-set_same names z q 0 l)))
    (λ off. same-place names h.apart i k (omega (arith, length-set names z q, m)) r.0 (sym (replaced-at names z q i l off) ∙ s ∙ sym r.1)))

-- where a number stands in the names, with the further one at the end, and with it in the place of name z
pub by-places : (names : List ℕ) (z q j : ℕ) (P : Option ℕ → Option ℕ → Option ℕ → Type 0) → AreNames q names → z < length names
    → (j ≢ q → P None None None)
    → (j ≡ q → P None (Some (length names)) (Some z))
    → (j ≢ q → P (Some z) (Some z) None)
    → ((k : ℕ) → j ≢ q → k < length names → k ≢ z → P (Some k) (Some k) (Some k))
    → P (place_of j names) (place_of j (names ++ q ∷ [])) (place_of j (set names z q))
by-places names z q j P h l none further gone other = by (place_of j names) refl
  where
    not-further : (k : ℕ) → place_of j names ≡ Some k → j ≢ q
    not-further k e = λ is. let r = place-some j names k e in absurd (omega (arith, name-within q names h.within k r.0, r.1, is))

    by : (o : Option ℕ) → place_of j names ≡ o → P (place_of j names) (place_of j (names ++ q ∷ [])) (place_of j (set names z q))
    by None e = is-or-not j q
        (λ is. rw (e, wide-last names q j e is, new-last names z q j l e is) (further is))
        (λ off. rw (e, wide-none names q j e off, new-none names z q j l e off) (none off))
    by (Some k) e = is-or-not k z
        (λ is. let at : place_of j names ≡ Some z = e ∙ ap (λ (i : ℕ). Some i) is in
        rw (at, wide-some names q j z h at, new-gone names z q j h l at) (gone (not-further k e)))
        (λ off. rw (e, wide-some names q j k h e, new-some names z q j k h l e off) (other k (not-further k e) (place-some j names k e).0 off))

-- the new names are different columns of a path with one more
pub new-names : (names : List ℕ) (z q : ℕ) → AreNames q names → z < length names → AreNames (q + 1) (set names z q)
new-names names z q h l = record { within = columns-of (q + 1) (set names z q) within; apart = distinct-of (set names z q) apart }
  where
    at : (k : ℕ) → k ≡ z → get_or (set names z q) k 0 ≡ q
    at k is = ap (λ (i : ℕ). get_or (set names z q) i 0) is ∙ get_or-set_same names z q 0 l

    within : (k : ℕ) → k < length (set names z q) → get_or (set names z q) k 0 < q + 1
    within k m = is-or-not k z
        (λ is. omega (arith, at k is))
        (λ off. omega (arith, replaced-at names z q k l off, name-within q names h.within k (omega (arith, length-set names z q, m))))

    old-below : (k : ℕ) → k < length (set names z q) → k ≢ z → get_or (set names z q) k 0 < q
    old-below k m off = omega (arith, replaced-at names z q k l off, name-within q names h.within k (omega (arith, length-set names z q, m)))

    apart : (j k : ℕ) → j < length (set names z q) → k < length (set names z q) → get_or (set names z q) j 0 ≡ get_or (set names z q) k 0 → j ≡ k
    apart j k a b e = is-or-not j z
        (λ is. is-or-not k z (λ too. is ∙ sym too) (λ off. absurd (omega (arith, at j is, old-below k b off, e))))
        (λ off. is-or-not k z
        (λ is. absurd (omega (arith, at k is, old-below j a off, e)))
        (λ too. same-place names h.apart j k (omega (arith, length-set names z q, a)) (omega (arith, length-set names z q, b)) (sym (replaced-at names z q j l off) ∙ e ∙ replaced-at names z q k l too)))
