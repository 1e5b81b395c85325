-- What stands in a list.
use Rattle.std.proofs.Common.{◌≡◌, ◌⊎◌, inl, inr, ℕ, zero, suc, ◌+◌, ◌<◌, ◌≤◌, List, [], ◌∷◌, ◌++◌, length, Option, Some, None, refl, sym, ap, ◌∙◌, subst, arith}
use Rattle.std.specs.Prelude.{slice_get, unwrap_or}
use Rattle.std.specs.List.{flat_map, range_with_len}
use Rattle.std.proofs.lemmas.List.{flat_map_more}
use Rattle.std.specs.Option.{option_to_list}
use Rattle.ac_forms.specs.ListMembers.{IsAmong}
use Rattle.ac_forms.proofs.Ranges.{range_more}

-- ---- two lists

pub among_left : {A : Type 0} (x : A) (xs ys : List A) → IsAmong x xs → IsAmong x (xs ++ ys)
among_left x [] ys h = absurd h
among_left x (y ∷ xs) ys (inl e) = inl e
among_left x (y ∷ xs) ys (inr h) = inr (among_left x xs ys h)

pub among_right : {A : Type 0} (x : A) (xs ys : List A) → IsAmong x ys → IsAmong x (xs ++ ys)
among_right x [] ys h = h
among_right x (y ∷ xs) ys h = inr (among_right x xs ys h)

pub among_either : {A : Type 0} (x : A) (xs ys : List A) → IsAmong x (xs ++ ys) → IsAmong x xs ⊎ IsAmong x ys
among_either x [] ys h = inr h
among_either x (y ∷ xs) ys (inl e) = inl (inl e)
among_either x (y ∷ xs) ys (inr h) = elim (among_either x xs ys h) as (λ k. IsAmong x (y ∷ xs) ⊎ IsAmong x ys) [ inl k ↦ inl (inr k) | inr k ↦ inr k ]

-- the last one, or one before
pub among_last : {A : Type 0} (x y : A) (xs : List A) → IsAmong x (xs ++ y ∷ []) → IsAmong x xs ⊎ (x ≡ y)
among_last x y xs h = by (among_either x xs (y ∷ []) h)
  where
    by : IsAmong x xs ⊎ IsAmong x (y ∷ []) → IsAmong x xs ⊎ (x ≡ y)
    by (inl k) = inl k
    by (inr (inl e)) = inr e
    by (inr (inr n)) = absurd n

-- ---- lists of each item

pub flat_of : {A B : Type 0} (f : A → List B) (y : B) (xs : List A) → IsAmong y (flat_map f xs) → (x : A) × IsAmong x xs × IsAmong y (f x)
flat_of f y [] h = absurd h
flat_of {A = A} {B = B} f y (x ∷ xs) h = by (among_either y (f x) (flat_map f xs) h) (λ k. flat_of f y xs k)
  where
    by : IsAmong y (f x) ⊎ IsAmong y (flat_map f xs) → (IsAmong y (flat_map f xs) → (z : A) × IsAmong z xs × IsAmong y (f z)) → (z : A) × IsAmong z (x ∷ xs) × IsAmong y (f z)
    by (inl k) next = (x, inl refl, k)
    by (inr k) next = let r = next k in (r.0, inr r.1, r.2)

pub flat_in : {A B : Type 0} (f : A → List B) (x : A) (xs : List A) (y : B) → IsAmong x xs → IsAmong y (f x) → IsAmong y (flat_map f xs)
flat_in f x [] y h k = absurd h
flat_in f x (z ∷ xs) y (inl e) k = among_left y (f z) (flat_map f xs) (subst (λ a. IsAmong y (f a)) e k)
flat_in f x (z ∷ xs) y (inr h) k = among_right y (f z) (flat_map f xs) (flat_in f x xs y h k)

-- nothing of each is nothing
pub flat_none : {A B : Type 0} (f : A → List B) → ((x : A) → f x ≡ []) → (xs : List A) → flat_map f xs ≡ []
flat_none f h [] = refl
flat_none f h (x ∷ xs) = rw (h x, flat_none f h xs) refl

-- those of one number more
pub flat_range : {A : Type 0} (f : ℕ → List A) (old found new : List A) (k : ℕ) → found ≡ old ++ flat_map f (range_with_len 0 k) → new ≡ found ++ f k → new ≡ old ++ flat_map f (range_with_len 0 (k + 1))
flat_range f old found new k h e =
    let z : 0 + k ≡ k = omega arith in
    let more : range_with_len 0 (k + 1) ≡ range_with_len 0 k ++ k ∷ [] = range_more 0 k ∙ ap (λ n. range_with_len 0 k ++ n ∷ []) z in
    e ∙ ap (λ xs. xs ++ f k) h ∙ flat_map_more f old (range_with_len 0 k) k ∙ ap (λ ns. old ++ flat_map f ns) (sym more)

-- ---- numbers

at_or : (k a : ℕ) → a ≤ k → (k ≡ a) ⊎ (a + 1 ≤ k)
at_or zero a l = inl (omega (arith, l))
at_or (suc k) zero l = inr (omega arith)
at_or (suc k) (suc a) l = by (at_or k a (omega (arith, l)))
  where
    by : (k ≡ a) ⊎ (a + 1 ≤ k) → (suc k ≡ suc a) ⊎ (suc a + 1 ≤ suc k)
    by (inl e) = inl (omega (arith, e))
    by (inr m) = inr (omega (arith, m))

pub in_range : (n a k : ℕ) → a ≤ k → k < a + n → IsAmong k (range_with_len a n)
in_range zero a k l h = absurd (omega (arith, l, h))
in_range (suc n) a zero l h = inl (omega (arith, l))
in_range (suc n) a (suc k) l h = by (at_or (suc k) a l) (λ m. in_range n (a + 1) (suc k) m (omega (arith, h)))
  where
    by : (suc k ≡ a) ⊎ (a + 1 ≤ suc k) → (a + 1 ≤ suc k → IsAmong (suc k) (range_with_len (a + 1) n)) → IsAmong (suc k) (range_with_len a (suc n))
    by (inl e) next = inl e
    by (inr m) next = inr (next m)

pub get_below : {A : Type 0} (xs : List A) (i : ℕ) (x : A) → slice_get xs i ≡ Some x → i < length xs
get_below [] i x e = absurd cc
get_below (y ∷ xs) zero x e = omega arith
get_below (y ∷ xs) (suc i) x e = let h = get_below xs i x e in omega (arith, h)

-- ---- options

pub option_of : {A : Type 0} (x : A) (o : Option A) → IsAmong x (option_to_list o) → o ≡ Some x
option_of x None h = absurd h
option_of x (Some y) (inl e) = ap Some (sym e)
option_of x (Some y) (inr h) = absurd h

pub option_in : {A : Type 0} (x : A) (o : Option A) → o ≡ Some x → IsAmong x (option_to_list o)
option_in x None e = absurd cc
option_in x (Some y) e = let i : x ≡ y = cc in inl i

pub some_list : {A : Type 0} (x : A) (o : Option (List A)) → IsAmong x (unwrap_or o []) → (xs : List A) × (o ≡ Some xs) × IsAmong x xs
some_list x None h = absurd h
some_list x (Some xs) h = (xs, refl, h)

pub some_get : {A : Type 0} (i : ℕ) (x : A) (o : Option (List A)) → slice_get (unwrap_or o []) i ≡ Some x → (xs : List A) × (o ≡ Some xs) × (slice_get xs i ≡ Some x)
some_get i x None e = absurd cc
some_get i x (Some xs) e = (xs, refl, e)
