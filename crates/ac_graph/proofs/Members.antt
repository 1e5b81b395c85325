-- Members of lists, and their places.
use Rattle.std.proofs.Common.{◌≡◌, ◌⊎◌, inl, inr, ℕ, zero, suc, ◌+◌, ◌<◌, List, [], ◌∷◌, ◌++◌, length, take, get_or, refl, sym, ap, arith, Some}
use Rattle.std.specs.List.{slice_get}
use Rattle.std.proofs.lemmas.List.{take_more}
use Rattle.ac_forms.specs.ListMembers.{IsAmong}

pub in_left : {A : Type 0} (x : A) (xs ys : List A) → IsAmong x xs → IsAmong x (xs ++ ys)
in_left x [] ys h = absurd h
in_left x (z ∷ zs) ys (inl e) = inl e
in_left x (z ∷ zs) ys (inr h) = inr (in_left x zs ys h)

pub in_right : {A : Type 0} (x : A) (xs ys : List A) → IsAmong x ys → IsAmong x (xs ++ ys)
in_right x [] ys h = h
in_right x (z ∷ zs) ys h = inr (in_right x zs ys h)

pub in_split : {A : Type 0} (x : A) (xs ys : List A) → IsAmong x (xs ++ ys) → IsAmong x xs ⊎ IsAmong x ys
in_split x [] ys h = inr h
in_split x (z ∷ zs) ys (inl e) = inl (inl e)
in_split x (z ∷ zs) ys (inr h) = elim (in_split x zs ys h) [ inl a ↦ inl (inr a) | inr b ↦ inr b ]

pub in_last : {A : Type 0} (x y : A) (xs : List A) → IsAmong x (xs ++ y ∷ []) → IsAmong x xs ⊎ (x ≡ y)
in_last x y xs h = elim (in_split x xs (y ∷ []) h) [ inl a ↦ inl a | inr b ↦ elim b [ inl e ↦ inr e | inr n ↦ absurd n ] ]

-- members and places
pub at_in : {A : Type 0} (x : A) (xs : List A) → IsAmong x xs → (k : ℕ) × (slice_get xs k ≡ Some x)
at_in x [] h = absurd h
at_in x (z ∷ zs) (inl e) = (0, ap Some (sym e))
at_in x (z ∷ zs) (inr h) = let r = at_in x zs h in (suc r.0, r.1)

pub in_at : {A : Type 0} (x : A) (xs : List A) (k : ℕ) → slice_get xs k ≡ Some x → IsAmong x xs
in_at x [] k e = cc
in_at x (z ∷ zs) zero e = inl (cc)
in_at x (z ∷ zs) (suc k) e = inr (in_at x zs k e)

pub get_left : {A : Type 0} (x : A) (xs ys : List A) (k : ℕ) → slice_get xs k ≡ Some x → slice_get (xs ++ ys) k ≡ Some x
get_left x [] ys k e = cc
get_left x (z ∷ zs) ys zero e = e
get_left x (z ∷ zs) ys (suc k) e = get_left x zs ys k e

pub get_before : {A : Type 0} (x : A) (xs ys : List A) (k : ℕ) → k < length xs → slice_get (xs ++ ys) k ≡ Some x → slice_get xs k ≡ Some x
get_before x [] ys k l e = absurd (omega arith)
get_before x (z ∷ zs) ys zero l e = e
get_before x (z ∷ zs) ys (suc k) l e = get_before x zs ys k (omega arith) e

pub get_last : {A : Type 0} (y : A) (xs : List A) → slice_get (xs ++ y ∷ []) (length xs) ≡ Some y
get_last y [] = refl
get_last y (z ∷ zs) = get_last y zs

pub get_split : {A : Type 0} (x y : A) (xs : List A) (k : ℕ) → slice_get (xs ++ y ∷ []) k ≡ Some x → (slice_get xs k ≡ Some x) ⊎ ((k ≡ length xs) × (x ≡ y))
get_split x y [] zero e = inr (refl, cc)
get_split x y [] (suc k) e = cc
get_split x y (z ∷ zs) zero e = inl e
get_split x y (z ∷ zs) (suc k) e = elim (get_split x y zs k e) [ inl a ↦ inl a | inr b ↦ inr (ap suc b.0, b.1) ]

pub in_more : {A : Type 0} (x d : A) (xs : List A) (i : ℕ) → i < length xs → IsAmong x (take (i + 1) xs) → IsAmong x (take i xs) ⊎ (x ≡ get_or xs i d)
in_more x d xs i l h = in_last x (get_or xs i d) (take i xs) (rw (take_more xs i d l) at h)

pub in_grown : {A : Type 0} (x d : A) (xs : List A) (i : ℕ) → i < length xs → IsAmong x (take i xs) ⊎ (x ≡ get_or xs i d) → IsAmong x (take (i + 1) xs)
in_grown x d xs i l h = rw (take_more xs i d l) (elim h [ inl a ↦ in_left x (take i xs) (get_or xs i d ∷ []) a | inr e ↦ in_right x (take i xs) (get_or xs i d ∷ []) (inl e) ])
