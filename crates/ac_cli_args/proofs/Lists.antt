-- Lists by their lengths.
use Rattle.std.proofs.Common.{◌≡◌, List, [], ◌∷◌, length, slice_index_or, sym, arith}

pub one_of : {X : Type 0} (xs : List X) (x : X) → length xs ≡ 1 → x ≡ slice_index_or xs 0 x → xs ≡ x ∷ []
one_of [] x h a = absurd (omega (arith, h))
one_of (p ∷ []) x h a = λ i. sym a i ∷ []
one_of (p ∷ q ∷ rest) x h a = absurd (omega (arith, h))
