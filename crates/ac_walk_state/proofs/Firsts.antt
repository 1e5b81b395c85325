-- The first of some integers are one list.
use Rattle.std.proofs.Common.{◌≡◌, inl, inr, ℕ, zero, suc, ◌<◌, ◌≤◌, ℤ, pos, negsuc, List, [], ◌∷◌, refl, sym, ap, subst, arith}
use Rattle.ac_forms.specs.ListMembers.{IsAmong}
use Rattle.ac_widen.specs.Combinations.{Each}
use Rattle.ac_hull.specs.SmallestIntegers.{rank, AreFirst}

rank_same : (x y : ℤ) → rank x ≡ rank y → x ≡ y
rank_same (pos m) (pos n) e = let f : m ≡ n = omega arith in ap pos f
rank_same (pos m) (negsuc n) e = absurd (omega arith)
rank_same (negsuc m) (pos n) e = absurd (omega arith)
rank_same (negsuc m) (negsuc n) e = let f : m ≡ n = omega arith in ap negsuc f

each_at : (P : ℤ → Type 0) (x : ℤ) (xs : List ℤ) → Each P xs → IsAmong x xs → P x
each_at P x [] h a = absurd a
each_at P x (y ∷ ys) h (inl e) = subst P (sym e) h.0
each_at P x (y ∷ ys) h (inr a) = each_at P x ys h.1 a

each_both : (P Q : ℤ → Type 0) (xs : List ℤ) → Each P xs → Each Q xs → Each (λ x. P x × Q x) xs
each_both P Q [] h k = tt
each_both P Q (x ∷ xs) h k = ((h.0, k.0), each_both P Q xs h.1 k.1)

-- what comes first of the numbers is in no list of them that begins later
first_below : (limit : ℕ) (P : ℤ → Type 0) (x y : ℤ) (ys : List ℤ) → P x → AreFirst limit P (y ∷ ys) → rank y ≤ rank x
first_below limit P x y ys p h = elim (h.all x p) [
  | inl (inl e) ↦ (let f : rank y ≡ rank x = ap rank (sym e) in omega (arith, f))
  | inl (inr a) ↦ (let l = each_at (λ z. rank y < rank z) x ys h.rising.0 a in omega (arith, l))
  | inr f ↦ (let l = f.1.0 in omega (arith, l))
]

-- those behind the first
behind : (limit : ℕ) (P : ℤ → Type 0) (x : ℤ) (xs : List ℤ) → AreFirst (suc limit) P (x ∷ xs) → AreFirst limit (λ y. P y × (rank x < rank y)) xs
behind limit P x xs h = record {
  rising = h.rising.1;
  few = (let l = h.few in omega (arith, l));
  among = each_both P (λ y. rank x < rank y) xs h.among.1 h.rising.0;
  all = λ y p. elim (h.all y p.0) [
    | inl (inl e) ↦ (let f : rank y ≡ rank x = ap rank e in let l = p.1 in absurd (omega (arith, f, l)))
    | inl (inr a) ↦ inl a
    | inr f ↦ inr ((let e = f.0 in omega (arith, e)), f.1.1)
  ];
}

pub first_is_one : (limit : ℕ) (P : ℤ → Type 0) (xs ys : List ℤ) → AreFirst limit P xs → AreFirst limit P ys → xs ≡ ys
first_is_one limit P [] [] h k = refl
first_is_one limit P [] (y ∷ ys) h k = elim (h.all y k.among.0) [ inl a ↦ absurd a | inr f ↦ (let e = f.0 in let l = k.few in absurd (omega (arith, e, l))) ]
first_is_one limit P (x ∷ xs) [] h k = elim (k.all x h.among.0) [ inl a ↦ absurd a | inr f ↦ (let e = f.0 in let l = h.few in absurd (omega (arith, e, l))) ]
first_is_one zero P (x ∷ xs) (y ∷ ys) h k = let l = h.few in absurd (omega (arith, l))
first_is_one (suc limit) P (x ∷ xs) (y ∷ ys) h k =
    let a = first_below (suc limit) P x y ys h.among.0 k in
    let b = first_below (suc limit) P y x xs k.among.0 h in
    let e : rank x ≡ rank y = omega (arith, a, b) in
    let same : x ≡ y = rank_same x y e in
    let rest = first_is_one limit (λ z. P z × (rank x < rank z)) xs ys (behind limit P x xs h) (subst (λ (t : ℤ). AreFirst limit (λ z. P z × (rank t < rank z)) ys) (sym same) (behind limit P y ys k)) in
    λ i. same i ∷ rest i
