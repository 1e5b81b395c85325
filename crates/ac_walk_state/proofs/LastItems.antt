-- What stands in lists, and their last items.
use Rattle.std.proofs.Common.{◌≡◌, ◌⊎◌, inl, inr, Result, Ok, Err, ℕ, zero, suc, ◌+◌, ◌<◌, List, [], ◌∷◌, ◌++◌, length, map, take, get_or, Some, refl, sym, ap, ◌∙◌, subst, arith}
use Rattle.std.specs.Prelude.{slice_get}
use Rattle.std.specs.List.{AllByRecursion}
use Rattle.std.specs.Result.{IfErr, IfOk, IsErrAnd, OnOk}
use Rattle.std.proofs.lemmas.Option.{slice_get_read}
use Rattle.std.proofs.lemmas.List.{get_or_default, take_more}
use Rattle.ac_forms.specs.ListMembers.{IsAmong}
use Rattle.ac_widen.specs.Combinations.{Each}
use Rattle.ac_widen_programs.specs.PairPaths.{last_of}

pub append_nil : {A : Type 0} (xs : List A) → xs ++ [] ≡ xs
append_nil [] = refl
append_nil (x ∷ xs) = ap (λ ys. x ∷ ys) (append_nil xs)

pub map-append : {A B : Type 0} (f : A → B) (xs ys : List A) → map f (xs ++ ys) ≡ map f xs ++ map f ys
map-append f [] ys = refl
map-append f (x ∷ xs) ys = ap (λ zs. f x ∷ zs) (map-append f xs ys)

pub length-map : {A B : Type 0} (f : A → B) (xs : List A) → length (map f xs) ≡ length xs
length-map f [] = refl
length-map f (x ∷ xs) = ap suc (length-map f xs)

-- ---- the last item

pub last_more : {A : Type 0} (x : A) (xs : List A) (y : A) → last_of x (xs ++ y ∷ []) ≡ y
last_more x [] y = refl
last_more x (z ∷ xs) y = last_more z xs y

pub last_map : {A B : Type 0} (f : A → B) (x : A) (xs : List A) → last_of (f x) (map f xs) ≡ f (last_of x xs)
last_map f x [] = refl
last_map f x (y ∷ xs) = last_map f y xs

pub last_among : {A : Type 0} (x y : A) (xs : List A) → IsAmong (last_of x (y ∷ xs)) (y ∷ xs)
last_among x y [] = inl refl
last_among x y (z ∷ xs) = inr (last_among y z xs)

-- ---- items by their numbers

pub in_get : {A : Type 0} (xs : List A) (i : ℕ) (x : A) → slice_get xs i ≡ Some x → IsAmong x xs
in_get [] i x e = absurd cc
in_get (y ∷ xs) zero x e = inl cc
in_get (y ∷ xs) (suc i) x e = inr (in_get xs i x e)

pub get_in : {A : Type 0} (xs : List A) (x : A) → IsAmong x xs → (i : ℕ) × (slice_get xs i ≡ Some x)
get_in [] x k = absurd k
get_in (y ∷ xs) x (inl e) = (zero, ap Some (sym e))
get_in (y ∷ xs) x (inr k) = let r = get_in xs x k in (suc r.0, r.1)

pub get_map : {A B : Type 0} (f : A → B) (xs : List A) (i : ℕ) (x : A) → slice_get xs i ≡ Some x → slice_get (map f xs) i ≡ Some (f x)
get_map f [] i x e = absurd cc
get_map f (y ∷ xs) zero x e = let same : y ≡ x = cc in ap (λ z. Some (f z)) same
get_map f (y ∷ xs) (suc i) x e = get_map f xs i x e

pub map_get : {A B : Type 0} (f : A → B) (xs : List A) (i : ℕ) (y : B) → slice_get (map f xs) i ≡ Some y → (x : A) × (slice_get xs i ≡ Some x) × (f x ≡ y)
map_get f [] i y e = absurd cc
map_get f (x ∷ xs) zero y e = (x, refl, cc)
map_get f (x ∷ xs) (suc i) y e = map_get f xs i y e

pub among_map : {A B : Type 0} (f : A → B) (xs : List A) (x : A) → IsAmong x xs → IsAmong (f x) (map f xs)
among_map f [] x k = absurd k
among_map f (y ∷ xs) x (inl e) = inl (ap f e)
among_map f (y ∷ xs) x (inr k) = inr (among_map f xs x k)

pub map_among : {A B : Type 0} (f : A → B) (xs : List A) (y : B) → IsAmong y (map f xs) → (x : A) × IsAmong x xs × (y ≡ f x)
map_among f [] y k = absurd k
map_among f (x ∷ xs) y (inl e) = (x, inl refl, e)
map_among f (x ∷ xs) y (inr k) = let r = map_among f xs y k in (r.0, inr r.1, r.2)

pub among_front : {A : Type 0} (xs ys : List A) (x : A) → IsAmong x xs → IsAmong x (xs ++ ys)
among_front [] ys x k = absurd k
among_front (y ∷ xs) ys x (inl e) = inl e
among_front (y ∷ xs) ys x (inr k) = inr (among_front xs ys x k)

pub among_back : {A : Type 0} (xs ys : List A) (x : A) → IsAmong x ys → IsAmong x (xs ++ ys)
among_back [] ys x k = k
among_back (y ∷ xs) ys x k = inr (among_back xs ys x k)

-- what is so of all is so of each
pub all_in : {A : Type 0} (P : A → Type 0) (xs : List A) (x : A) → AllByRecursion P xs → IsAmong x xs → P x
all_in P [] x h k = absurd k
all_in P (y ∷ xs) x h (inl e) = subst P (sym e) h.0
all_in P (y ∷ xs) x h (inr k) = all_in P xs x h.1 k

pub each_in : {A : Type 0} (P : A → Type 0) (xs : List A) (x : A) → Each P xs → IsAmong x xs → P x
each_in P [] x h k = absurd k
each_in P (y ∷ xs) x h (inl e) = subst P (sym e) h.0
each_in P (y ∷ xs) x h (inr k) = each_in P xs x h.1 k

pub each_map : {A : Type 0} (P Q : A → Type 0) (xs : List A) → ((x : A) → P x → Q x) → Each P xs → Each Q xs
each_map P Q [] f h = tt
each_map P Q (x ∷ xs) f h = (f x h.0, each_map P Q xs f h.1)

-- another item in the middle
pub each_changed : {A : Type 0} (P Q : A → Type 0) (front : List A) (x y : A) (back : List A) → ((z : A) → P z → Q z) → Q y → Each P (front ++ x ∷ back) → Each Q (front ++ y ∷ back)
each_changed P Q [] x y back f q h = (q, each_map P Q back f h.1)
each_changed P Q (z ∷ front) x y back f q h = (f z h.0, each_changed P Q front x y back f q h.1)

pub map_changed : {A B : Type 0} (f : A → B) (front : List A) (x y : A) (back : List A) → f x ≡ f y → map f (front ++ x ∷ back) ≡ map f (front ++ y ∷ back)
map_changed f [] x y back e = ap (λ z. z ∷ map f back) e
map_changed f (z ∷ front) x y back e = ap (λ zs. f z ∷ zs) (map_changed f front x y back e)

pub get_middle : {A : Type 0} (front : List A) (x : A) (back : List A) → slice_get (front ++ x ∷ back) (length front) ≡ Some x
get_middle [] x back = refl
get_middle (z ∷ front) x back = get_middle front x back

-- ---- going over a list

-- the items so far with one more
pub next_item : {A : Type 0} (xs : List A) (i : ℕ) (x : A) → i < length xs → x ≡ get_or xs i x → take (i + 1) xs ≡ take i xs ++ x ∷ []
next_item xs i x l e = take_more xs i x l ∙ ap (λ y. take i xs ++ y ∷ []) (sym e)

pub in_read : {A : Type 0} (xs : List A) (i : ℕ) (x : A) → i < length xs → x ≡ get_or xs i x → IsAmong x xs
in_read [] i x l e = absurd (omega (arith, l))
in_read (y ∷ xs) zero x l e = inl e
in_read (y ∷ xs) (suc i) x l e = inr (in_read xs i x (omega (arith, l)) e)

-- what is read by another default
pub reread : {A : Type 0} (xs : List A) (i : ℕ) (d : A) → i < length xs → get_or xs i d ≡ get_or xs i (get_or xs i d)
reread xs i d l = get_or_default xs i d (get_or xs i d) l

-- an item among those and one more
pub among_more : {A : Type 0} (x y : A) (xs : List A) → IsAmong x (xs ++ y ∷ []) → IsAmong x xs ⊎ (x ≡ y)
among_more x y [] (inl e) = inr e
among_more x y [] (inr k) = absurd k
among_more x y (z ∷ xs) (inl e) = inl (inl e)
among_more x y (z ∷ xs) (inr k) = elim (among_more x y xs k) [ inl j ↦ inl (inr j) | inr e ↦ inr e ]

pub among_last : {A : Type 0} (x : A) (xs : List A) → IsAmong x (xs ++ x ∷ [])
among_last x xs = among_back xs (x ∷ []) x (inl refl)

-- none of the first ones is the value, nor the next one
pub not_more : {A B : Type 0} (f : A → B) (xs : List A) (i : ℕ) (x : A) (y : B) → i < length xs → x ≡ get_or xs i x → ¬ (y ≡ f x) → ¬ (IsAmong y (map f (take i xs))) → ¬ (IsAmong y (map f (take (i + 1) xs)))
not_more f xs i x y l e other none k =
    let all : map f (take (i + 1) xs) ≡ map f (take i xs) ++ f x ∷ [] = ap (map f) (next_item xs i x l e) ∙ map-append f (take i xs) (x ∷ []) in
    elim (among_more y (f x) (map f (take i xs)) (subst (IsAmong y) all k)) [ inl j ↦ none j | inr same ↦ other same ]

pub take_none : {A : Type 0} (xs : List A) → take 0 xs ≡ []
take_none [] = refl
take_none (x ∷ xs) = refl

pub among_taken : {A : Type 0} (xs : List A) (i : ℕ) (x : A) → IsAmong x (take i xs) → IsAmong x xs
among_taken [] zero x k = k
among_taken [] (suc i) x k = k
among_taken (y ∷ xs) zero x k = absurd k
among_taken (y ∷ xs) (suc i) x (inl e) = inl e
among_taken (y ∷ xs) (suc i) x (inr k) = inr (among_taken xs i x k)

pub length_taken : {A : Type 0} (xs : List A) (i : ℕ) → i < length xs → length (take i xs) ≡ i
length_taken [] i l = absurd (omega (arith, l))
length_taken (x ∷ xs) zero l = refl
length_taken (x ∷ xs) (suc i) l = ap suc (length_taken xs i (omega (arith, l)))

-- ---- results

pub both_ok : {A E : Type 0} (P Q R : A → Type 0) (r : Result A E) → ((x : A) → P x → Q x → R x) → IfOk r P → IfOk r Q → IfOk r R
both_ok P Q R (Ok x) f p q = f x p q
both_ok P Q R (Err e) f p q = tt

pub if_ok : {A E : Type 0} (P Q : A → Type 0) (r : Result A E) → ((x : A) → P x → Q x) → IfOk r P → IfOk r Q
if_ok P Q (Ok x) f h = f x h
if_ok P Q (Err e) f h = tt

pub if_err : {A E : Type 0} (P : E → Type 0) (r : Result A E) (e : E) → IsErrAnd r (λ x. x ≡ e) → P e → IfErr r P
if_err P (Ok x) e is h = tt
if_err P (Err x) e is h = subst P (sym is) h

pub on_ok : {A E : Type 0} (P Q : Type 0) (r : Result A E) → (P → Q) → OnOk r P → OnOk r Q
on_ok P Q (Ok x) f h = f h
on_ok P Q (Err e) f h = tt

pub get_is : {A : Type 0} (xs : List A) (i : ℕ) (x : A) → i < length xs → x ≡ get_or xs i x → slice_get xs i ≡ Some x
get_is xs i x l e = slice_get_read xs (length xs) i x refl l e
