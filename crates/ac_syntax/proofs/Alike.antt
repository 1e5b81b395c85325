-- Quotients that are noted as one have one value.
use Rattle.std.proofs.Common.{◌≡◌, ℤ, pos, negsuc, zero, suc, List, [], ◌∷◌, true, refl, sym, arith, ◌+ℤ◌, ◌*ℤ◌}
use Rattle.std.specs.List.{list_all}
use Rattle.std.specs.Int.{int_div_euclid}
use Rattle.std.specs.Ordering.{int_eq}
use Rattle.std.specs.Cmp.Lexicographic.{pointwise}
use Rattle.std.specs.Bool.{Decides}
use Rattle.std.proofs.lemmas.Int.{ints}
use Rattle.std.proofs.lemmas.Bool.{and_parts}
use Rattle.std.proofs.lemmas.Bool.Decides.{Decides-int_eq}
use Rattle.std.proofs.lemmas.Slice.Eq.{slice_eq-Decides}
use Rattle.ac_base.specs.Dot.{dot}
use Rattle.ac_syntax.specs.Index.{Point, is_zero, quot_value}
use Rattle.ac_syntax.specs.Quotients.{same_iters, same_quot}
use Rattle.ac_syntax.specs.declared.tree.Quot.{Quot}

same_number : (a b : ℤ) → int_eq a b ≡ true → a ≡ b
same_number a b h = (Decides-int_eq a b).0 h

same_numbers : (xs ys : List ℤ) → pointwise int_eq xs ys ≡ true → xs ≡ ys
same_numbers xs ys h = let dec : Decides (pointwise int_eq xs ys) (xs ≡ ys) = slice_eq-Decides Decides-int_eq xs ys _ refl in dec.0 h

is_nought : (z : ℤ) → is_zero z ≡ true → z ≡ pos 0
is_nought (pos zero) h = refl
is_nought (pos (suc n)) h = absurd cc
is_nought (negsuc n) h = absurd cc

zeros : (ys xs : List ℤ) → list_all is_zero ys ≡ true → dot ys xs ≡ pos 0
zeros [] xs h = refl
zeros (y ∷ ys) [] h = refl
zeros (y ∷ ys) (x ∷ xs) h = let k = and_parts _ _ h in rw (is_nought y k.0, zeros ys xs k.1) (omega (arith, ints))

others : (cs xs : List ℤ) → same_iters cs [] ≡ true → dot cs xs ≡ pos 0
others [] xs h = refl
others (a ∷ rest) [] h = refl
others (a ∷ rest) (x ∷ xs) h = let k = and_parts _ _ h in rw (is_nought a k.0, others rest xs k.1) (omega (arith, ints))

pub same_dot : (cs bs xs : List ℤ) → same_iters cs bs ≡ true → dot cs xs ≡ dot bs xs
same_dot [] bs xs h = sym (zeros bs xs h)
same_dot (a ∷ rest) [] xs h = others (a ∷ rest) xs h
same_dot (a ∷ rest) (b ∷ bs) [] h = refl
same_dot (a ∷ rest) (b ∷ bs) (x ∷ xs) h = let k = and_parts _ _ h in λ i. (same_number a b k.0 i *ℤ x) +ℤ same_dot rest bs xs k.1 i

pub same_value : (p : Point) (a b : Quot) → same_quot a b ≡ true → quot_value p a ≡ quot_value p b
same_value p a b h =
    let k = and_parts _ _ h in
    let l = and_parts _ _ k.1 in
    let m = and_parts _ _ l.1 in
    λ i. int_div_euclid (same_number a.konst b.konst k.0 i +ℤ (dot (same_numbers a.params b.params l.0 i) p.params +ℤ same_dot a.iters b.iters p.iters m.0 i)) (same_number a.div b.div m.1 i)
