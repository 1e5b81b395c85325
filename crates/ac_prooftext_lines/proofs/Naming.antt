-- Words that begin with different names.
use Rattle.std.proofs.Common.{◌≡◌, ◌==◌, ◌&&◌, ℕ, Bool, true, false, true≢false, List, [], ◌∷◌, refl, sym, ap, ◌∙◌, arith}

abbrev pub same_name : List ℕ → List ℕ → Bool
same_name [] [] = true
same_name [] (y ∷ ys) = false
same_name (x ∷ xs) [] = false
same_name (x ∷ xs) (y ∷ ys) = (x == y) && same_name xs ys

itself : (x : ℕ) → (x == x) ≡ true
itself x = grind arith

same_self : (w : List ℕ) → same_name w w ≡ true
same_self [] = refl
same_self (x ∷ xs) = ap (λ b. b && same_name xs xs) (itself x) ∙ same_self xs

pub tail : {A : Type 0} {x y : A} {xs ys : List A} → x ∷ xs ≡ y ∷ ys → xs ≡ ys
tail e = cc

pub head : {A : Type 0} {x y : A} {xs ys : List A} → x ∷ xs ≡ y ∷ ys → x ≡ y
head e = cc

pub differ : (w v : List ℕ) (ws vs : List (List ℕ)) → same_name w v ≡ false → w ∷ ws ≡ v ∷ vs → ⊥
differ w v ws vs other e = true≢false (sym (same_self w) ∙ (ap (same_name w) (head e) ∙ other))
