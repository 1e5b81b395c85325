-- Texts built piece by piece.
use Rattle.std.proofs.Common.{◌≡◌, ℕ, List, [], ◌∷◌, ◌++◌, map, codes, refl, ap, append_assoc}
use Rattle.std.specs.List.{join_by}
use Rattle.std.proofs.lemmas.List.Folds.{flat_map-map}
use Rattle.ac_syntax.specs.Text.{joined}

pub loop_shape : (old indent iter start cond step : List ℕ)
    → (((((((((((old ++ indent) ++ codes "for (int ") ++ iter) ++ codes " = ") ++ start) ++ codes "; ") ++ cond) ++ codes "; ") ++ iter) ++ step) ++ codes ") {\n")
    ≡ old ++ (indent ++ (codes "for (int " ++ iter ++ codes " = " ++ start ++ codes "; " ++ cond ++ codes "; " ++ iter ++ step ++ codes ") {") ++ 10 ∷ [])
loop_shape old indent iter start cond step = simp append_assoc

pub binary_shape : (old a name b : List ℕ) → ((((((old ++ codes "(") ++ a) ++ codes " ") ++ name) ++ codes " ") ++ b) ++ codes ")" ≡ old ++ (codes "(" ++ (a ++ codes " " ++ name ++ codes " " ++ b) ++ codes ")")
binary_shape old a name b = simp append_assoc

pub sign_shape : (old name a : List ℕ) → (((old ++ codes "(") ++ name) ++ a) ++ codes ")" ≡ old ++ (codes "(" ++ (name ++ a) ++ codes ")")
sign_shape old name a = simp append_assoc

pub quot_shape : (old form divisor : List ℕ) → ((((old ++ codes "floord(") ++ form) ++ codes ", ") ++ divisor) ++ codes ")" ≡ old ++ (codes "floord(" ++ form ++ codes ", " ++ divisor ++ codes ")")
quot_shape old form divisor = simp append_assoc

pub joined_map : {X : Type 0} (f : X → List ℕ) (separator : List ℕ) (xs : List X) → joined separator (map f xs) ≡ join_by f separator xs
joined_map f separator [] = refl
joined_map f separator (x ∷ xs) = ap (λ l. f x ++ l) (flat_map-map (λ y. separator ++ y) f xs)
