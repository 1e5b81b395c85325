-- Points in one of some pieces.
use Rattle.std.proofs.Common.{◌≡◌, ◌↔◌, ◌⊎◌, inl, inr, ℕ, zero, suc, ℤ, List, [], ◌∷◌, ◌++◌, Some, slice_get, subst}
use Rattle.ac_forms.specs.PieceMembership.{IsInSome, IsInNone}

pub some-append : {A : Type 0} (Has : A → List ℤ → Type 0) (xs ys : List A) (p : List ℤ) → IsInSome Has (xs ++ ys) p ↔ (IsInSome Has xs p ⊎ IsInSome Has ys p)
some-append Has [] ys p = ((λ h. inr h), (λ h. elim h [ inl a ↦ absurd a | inr b ↦ b ]))
some-append Has (x ∷ xs) ys p =
    let r = some-append Has xs ys p in (
      (λ h. elim h [ inl a ↦ inl (inl a) | inr b ↦ elim (r.0 b) [ inl c ↦ inl (inr c) | inr d ↦ inr d ] ]),
      (λ h. elim h [ inl a ↦ elim a [ inl b ↦ inl b | inr c ↦ inr (r.1 (inl c)) ] | inr d ↦ inr (r.1 (inr d)) ]),
    )

pub some-at : {A : Type 0} (Has : A → List ℤ → Type 0) (xs : List A) (i : ℕ) (x : A) (p : List ℤ) → slice_get xs i ≡ Some x → Has x p → IsInSome Has xs p
some-at Has [] i x p e h = absurd cc
some-at Has (y ∷ ys) zero x p e h = let s : x ≡ y = cc in inl (subst (λ z. Has z p) s h)
some-at Has (y ∷ ys) (suc i) x p e h = inr (some-at Has ys i x p e h)

pub none-or : {A : Type 0} (Has : A → List ℤ → Type 0) (xs : List A) (p : List ℤ) → IsInNone Has xs p → IsInSome Has xs p → ⊥
none-or Has [] p n h = h
none-or Has (x ∷ xs) p n h = elim h [ inl a ↦ n.0 a | inr b ↦ none-or Has xs p n.1 b ]

pub none-of : {A : Type 0} (Has : A → List ℤ → Type 0) (xs : List A) (p : List ℤ) → (¬ IsInSome Has xs p) → IsInNone Has xs p
none-of Has [] p h = tt
none-of Has (x ∷ xs) p h = ((λ a. h (inl a)), none-of Has xs p (λ b. h (inr b)))
