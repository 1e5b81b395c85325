-- Elements of lists with others behind them.
use Rattle.std.proofs.Common.{◌≡◌, ◌⊎◌, inl, inr, ℕ, zero, suc, ◌+◌, List, [], ◌∷◌, ◌++◌, map, length, Bool, true, false, ◌&&◌, ◌||◌, Some, refl, ap, ◌∙◌, arith}
use Rattle.std.specs.Prelude.{slice_get, nat_eq}
use Rattle.std.specs.List.{flat_map, list_any}
use Rattle.std.proofs.lemmas.Bool.{eq-eqb}
use Rattle.ac_forms.specs.ListMembers.{IsAmong}
use Rattle.ac_claims_paths.proofs.InBranches.{in_either}

pub get_before : {X : Type 0} (xs ys : List X) (i : ℕ) (x : X) → slice_get xs i ≡ Some x → slice_get (xs ++ ys) i ≡ Some x
get_before [] ys i x e = absurd cc
get_before (z ∷ xs) ys zero x e = e
get_before (z ∷ xs) ys (suc i) x e = get_before xs ys i x e

pub get_behind : {X : Type 0} (xs ys : List X) (i : ℕ) (x : X) → slice_get ys i ≡ Some x → slice_get (xs ++ ys) (length xs + i) ≡ Some x
get_behind [] ys i x e = let z : 0 + i ≡ i = omega arith in ap (slice_get ys) z ∙ e
get_behind (y ∷ xs) ys i x e = let z : suc (length xs) + i ≡ suc (length xs + i) = omega arith in ap (slice_get (y ∷ xs ++ ys)) z ∙ get_behind xs ys i x e

pub among_flat : {A B : Type 0} (f : A → List B) (y : B) (xs : List A) → IsAmong y (flat_map f xs) → (x : A) × IsAmong x xs × IsAmong y (f x)
among_flat f y [] h = absurd h
among_flat {A = A} {B = B} f y (x ∷ xs) h = by (in_either y (f x) (flat_map f xs) h) (λ k. among_flat f y xs k)
  where
    by : IsAmong y (f x) ⊎ IsAmong y (flat_map f xs) → (IsAmong y (flat_map f xs) → (z : A) × IsAmong z xs × IsAmong y (f z)) → (z : A) × IsAmong z (x ∷ xs) × IsAmong y (f z)
    by (inl k) next = (x, inl refl, k)
    by (inr k) next = let r = next k in (r.0, inr r.1, r.2)

pub among_map : {A B : Type 0} (f : A → B) (y : B) (xs : List A) → IsAmong y (map f xs) → (x : A) × IsAmong x xs × (y ≡ f x)
among_map f y [] h = absurd h
among_map f y (x ∷ xs) (inl e) = (x, inl refl, e)
among_map f y (x ∷ xs) (inr h) = let r = among_map f y xs h in (r.0, inr r.1, r.2)

pub any_among : (o : ℕ) (xs : List ℕ) → IsAmong o xs → list_any (nat_eq o) xs ≡ true
any_among o [] h = absurd h
any_among o (x ∷ xs) (inl e) = ap (λ b. b || list_any (nat_eq o) xs) (eq-eqb o x e)
any_among o (x ∷ xs) (inr h) = by (nat_eq o x) (any_among o xs h)
  where
    by : (b : Bool) → list_any (nat_eq o) xs ≡ true → (b || list_any (nat_eq o) xs) ≡ true
    by true e = refl
    by false e = e

pub true_both : (a b : Bool) → a ≡ true → b ≡ true → (a && b) ≡ true
true_both a b e f = rw (e, f) refl
