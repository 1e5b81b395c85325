-- Lists, by their places and their members.
use Rattle.std.proofs.Common.{◌≡◌, ◌⊎◌, inl, inr, ◌<◌, ℕ, zero, suc, ◌+◌, List, [], ◌∷◌, ◌++◌, take, drop, map, length, get_or, Some, refl, sym, ap, subst, ◌∙◌, arith}
use Rattle.std.specs.Prelude.{slice_get}
use Rattle.std.specs.List.{AllByRecursion}
use Rattle.ac_forms.specs.ListMembers.{IsAmong}

-- ---- all of a list

pub all_map : {A : Type 0} (P Q : A → Type 0) (xs : List A) → ((x : A) → P x → Q x) → AllByRecursion P xs → AllByRecursion Q xs
all_map P Q [] f h = tt
all_map P Q (x ∷ xs) f h = (f x h.0, all_map P Q xs f h.1)

-- what holds of all under one condition and under another one
pub all_both : {A : Type 0} (P Q R : A → Type 0) (xs : List A) → ((x : A) → P x → Q x → R x) → AllByRecursion P xs → AllByRecursion Q xs → AllByRecursion R xs
all_both P Q R [] f h k = tt
all_both P Q R (x ∷ xs) f h k = (f x h.0 k.0, all_both P Q R xs f h.1 k.1)

pub all_snoc : {A : Type 0} (P : A → Type 0) (xs : List A) (x : A) → AllByRecursion P xs → P x → AllByRecursion P (xs ++ x ∷ [])
all_snoc P [] x h k = (k, tt)
all_snoc P (y ∷ xs) x h k = (h.0, all_snoc P xs x h.1 k)

pub all_at : {A : Type 0} (P : A → Type 0) (xs : List A) (i : ℕ) (d : A) → i < length xs → AllByRecursion P xs → P (get_or xs i d)
all_at P [] i d l h = absurd (omega (arith, l))
all_at P (x ∷ xs) zero d l h = h.0
all_at P (x ∷ xs) (suc i) d l h = all_at P xs i d (omega (arith, l)) h.1

-- ---- places

pub get_some : {A : Type 0} (xs : List A) (i : ℕ) (d : A) → i < length xs → slice_get xs i ≡ Some (get_or xs i d)
get_some [] i d l = absurd (omega (arith, l))
get_some (x ∷ xs) zero d l = refl
get_some (x ∷ xs) (suc i) d l = get_some xs i d (omega (arith, l))

pub get_within : {A : Type 0} (xs : List A) (i : ℕ) (x : A) → slice_get xs i ≡ Some x → i < length xs
get_within [] i x e = absurd cc
get_within (y ∷ xs) zero x e = omega arith
get_within (y ∷ xs) (suc i) x e = let l = get_within xs i x e in omega (arith, l)

pub get_among : {A : Type 0} (xs : List A) (i : ℕ) (x : A) → slice_get xs i ≡ Some x → IsAmong x xs
get_among [] i x e = absurd cc
get_among (y ∷ xs) zero x e = let s : y ≡ x = cc in inl (sym s)
get_among (y ∷ xs) (suc i) x e = inr (get_among xs i x e)

pub among_get : {A : Type 0} (xs : List A) (x : A) → IsAmong x xs → (i : ℕ) × (slice_get xs i ≡ Some x)
among_get [] x h = absurd h
among_get (y ∷ xs) x (inl e) = (0, ap Some (sym e))
among_get (y ∷ xs) x (inr h) = let r = among_get xs x h in (suc r.0, r.1)

pub get_behind : {A : Type 0} (xs ys : List A) (i : ℕ) → slice_get (xs ++ ys) (length xs + i) ≡ slice_get ys i
get_behind [] ys i = let e : 0 + i ≡ i = omega arith in ap (λ (n : ℕ). slice_get ys n) e
get_behind (x ∷ xs) ys i = let e : length (x ∷ xs) + i ≡ suc (length xs + i) = omega arith in ap (λ (n : ℕ). slice_get (x ∷ (xs ++ ys)) n) e ∙ get_behind xs ys i

pub get_front : {A : Type 0} (xs ys : List A) (i : ℕ) (x : A) → slice_get xs i ≡ Some x → slice_get (xs ++ ys) i ≡ Some x
get_front [] ys i x e = absurd cc
get_front (z ∷ xs) ys zero x e = e
get_front (z ∷ xs) ys (suc i) x e = get_front xs ys i x e

pub among_both : {A : Type 0} (xs ys : List A) (x : A) → IsAmong x (xs ++ ys) → IsAmong x xs ⊎ IsAmong x ys
among_both [] ys x i = inr i
among_both (z ∷ xs) ys x (inl e) = inl (inl e)
among_both (z ∷ xs) ys x (inr i) = by (among_both xs ys x i)
  where
    by : IsAmong x xs ⊎ IsAmong x ys → IsAmong x (z ∷ xs) ⊎ IsAmong x ys
    by (inl j) = inl (inr j)
    by (inr j) = inr j

pub get_map : {A B : Type 0} (f : A → B) (xs : List A) (i : ℕ) (x : A) → slice_get xs i ≡ Some x → slice_get (map f xs) i ≡ Some (f x)
get_map f [] i x e = absurd cc
get_map f (y ∷ xs) zero x e = let s : y ≡ x = cc in ap (λ z. Some (f z)) s
get_map f (y ∷ xs) (suc i) x e = get_map f xs i x e

pub among_map : {A B : Type 0} (f : A → B) (xs : List A) (y : B) → IsAmong y (map f xs) → (x : A) × IsAmong x xs × (y ≡ f x)
among_map f [] y h = absurd h
among_map f (x ∷ xs) y (inl e) = (x, inl refl, e)
among_map f (x ∷ xs) y (inr h) = let r = among_map f xs y h in (r.0, inr r.1, r.2)

pub among_front : {A : Type 0} (xs ys : List A) (x : A) → IsAmong x xs → IsAmong x (xs ++ ys)
among_front [] ys x h = absurd h
among_front (y ∷ xs) ys x (inl e) = inl e
among_front (y ∷ xs) ys x (inr h) = inr (among_front xs ys x h)

-- ---- the first of a list

pub take_more : {A : Type 0} (xs : List A) (n : ℕ) (x : A) → slice_get xs n ≡ Some x → take (n + 1) xs ≡ take n xs ++ x ∷ []
take_more [] n x e = absurd cc
take_more (y ∷ xs) zero x e = let s : y ≡ x = cc in ap (λ z. z ∷ []) s
take_more (y ∷ xs) (suc n) x e = let s : suc n + 1 ≡ suc (n + 1) = omega arith in ap (λ (m : ℕ). take m (y ∷ xs)) s ∙ ap (λ zs. y ∷ zs) (take_more xs n x e)

pub take_rest : {A : Type 0} (xs : List A) (n : ℕ) → take n xs ++ drop n xs ≡ xs
take_rest [] zero = refl
take_rest [] (suc n) = refl
take_rest (x ∷ xs) zero = refl
take_rest (x ∷ xs) (suc n) = ap (λ zs. x ∷ zs) (take_rest xs n)

pub among_take : {A : Type 0} (xs : List A) (n : ℕ) (x : A) → IsAmong x (take n xs) → IsAmong x xs
among_take xs n x h = subst (IsAmong x) (take_rest xs n) (among_front (take n xs) (drop n xs) x h)
