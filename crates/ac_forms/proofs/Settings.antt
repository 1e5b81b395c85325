-- A number that is written beyond the end of a list.
use Rattle.std.proofs.Common.{◌≡◌, ℕ, zero, suc, ◌≤◌, List, [], ◌∷◌, length, set, ap, refl, arith}

pub set_beyond : {A : Type 0} (xs : List A) (i : ℕ) (x : A) → length xs ≤ i → set xs i x ≡ xs
set_beyond [] i x h = refl
set_beyond (y ∷ ys) zero x h = absurd (omega arith)
set_beyond (y ∷ ys) (suc i) x h = ap (λ (l : List _). y ∷ l) (set_beyond ys i x (omega arith))
