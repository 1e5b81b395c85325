-- Quotients that are noted as one: an equivalence, and the same numbers where they have as many iterators.
use Rattle.std.proofs.Common.{◌≡◌, ℕ, zero, suc, ℤ, pos, negsuc, List, [], ◌∷◌, length, Bool, true, false, ◌&&◌, get_or, refl, sym, ap, ◌∙◌, arith}
use Rattle.std.specs.List.{list_all}
use Rattle.std.specs.Ordering.{int_eq}
use Rattle.std.specs.Cmp.Lexicographic.{pointwise}
use Rattle.std.specs.Cmp.Rules.{signed_items}
use Rattle.std.proofs.lemmas.Bool.{and_parts}
use Rattle.std.proofs.lemmas.Bool.Decides.{Decides-int_eq}
use Rattle.ac_syntax.specs.Index.{is_zero}
use Rattle.ac_syntax.specs.Quotients.{same_iters, same_quot}
use Rattle.ac_syntax.specs.declared.tree.Quot.{Quot}

both : (a b : Bool) → a ≡ true → b ≡ true → (a && b) ≡ true
both true b h g = g
both false b h g = absurd (let k : false ≡ true = h in cc)

-- ---- coefficients of iterators, column by column

is_nought : (z : ℤ) → is_zero z ≡ true → z ≡ pos 0
is_nought (pos zero) h = refl
is_nought (pos (suc n)) h = absurd cc
is_nought (negsuc n) h = absurd cc

noughts : (ys : List ℤ) → list_all is_zero ys ≡ true → (i : ℕ) → get_or ys i (pos 0) ≡ pos 0
noughts [] h i = refl
noughts (y ∷ ys) h zero = is_nought y (and_parts _ _ h).0
noughts (y ∷ ys) h (suc i) = noughts ys (and_parts _ _ h).1 i

are_noughts : (ys : List ℤ) → ((i : ℕ) → get_or ys i (pos 0) ≡ pos 0) → list_all is_zero ys ≡ true
are_noughts [] h = refl
are_noughts (y ∷ ys) h = both (is_zero y) (list_all is_zero ys) (ap is_zero (h 0)) (are_noughts ys (λ i. h (suc i)))

iters_at : (xs ys : List ℤ) → same_iters xs ys ≡ true → (i : ℕ) → get_or xs i (pos 0) ≡ get_or ys i (pos 0)
iters_at [] ys h i = sym (noughts ys h i)
iters_at (x ∷ xs) [] h zero = is_nought x (and_parts _ _ h).0
iters_at (x ∷ xs) [] h (suc i) = iters_at xs [] (and_parts _ _ h).1 i
iters_at (x ∷ xs) (y ∷ ys) h zero = (Decides-int_eq x y).0 (and_parts _ _ h).0
iters_at (x ∷ xs) (y ∷ ys) h (suc i) = iters_at xs ys (and_parts _ _ h).1 i

are_iters : (xs ys : List ℤ) → ((i : ℕ) → get_or xs i (pos 0) ≡ get_or ys i (pos 0)) → same_iters xs ys ≡ true
are_iters [] ys h = are_noughts ys (λ i. sym (h i))
are_iters (x ∷ xs) [] h = both (is_zero x) (same_iters xs []) (ap is_zero (h 0)) (are_iters xs [] (λ i. h (suc i)))
are_iters (x ∷ xs) (y ∷ ys) h = both (int_eq x y) (same_iters xs ys) ((Decides-int_eq x y).1 (h 0)) (are_iters xs ys (λ i. h (suc i)))

-- lists of one length
one_list : (xs ys : List ℤ) → length xs ≡ length ys → ((i : ℕ) → get_or xs i (pos 0) ≡ get_or ys i (pos 0)) → xs ≡ ys
one_list [] [] l h = refl
one_list [] (y ∷ ys) l h = absurd (omega arith)
one_list (x ∷ xs) [] l h = absurd (omega arith)
one_list (x ∷ xs) (y ∷ ys) l h = let first : x ≡ y = h 0 in let rest = one_list xs ys (omega arith) (λ i. h (suc i)) in λ i. first i ∷ rest i

-- ---- quotients

-- what is compared of two quotients
record Same (a b : Quot) : Type 0 where
  pub konst : a.konst ≡ b.konst
  pub params : a.params ≡ b.params
  pub iters : (i : ℕ) → get_or a.iters i (pos 0) ≡ get_or b.iters i (pos 0)
  pub div : a.div ≡ b.div

told : (a b : Quot) → same_quot a b ≡ true → Same a b
told a b h =
    let k = and_parts _ _ h in
    let l = and_parts _ _ k.1 in
    let m = and_parts _ _ l.1 in
    record {
      konst = (Decides-int_eq a.konst b.konst).0 k.0;
      params = (signed_items a.params b.params).0 l.0;
      iters = iters_at a.iters b.iters m.0;
      div = (Decides-int_eq a.div b.div).0 m.1;
    }

tells : (a b : Quot) → Same a b → same_quot a b ≡ true
tells a b h =
    both (int_eq a.konst b.konst) _ ((Decides-int_eq a.konst b.konst).1 h.konst)
    (both (pointwise int_eq a.params b.params) _ ((signed_items a.params b.params).1 h.params) (both (same_iters a.iters b.iters) _ (are_iters a.iters b.iters h.iters) ((Decides-int_eq a.div b.div).1 h.div)))

pub same_back : (a b : Quot) → same_quot a b ≡ true → same_quot b a ≡ true
same_back a b h = let s = told a b h in tells b a (record { konst = sym s.konst; params = sym s.params; iters = λ i. sym (s.iters i); div = sym s.div })

pub same_on : (a b c : Quot) → same_quot a b ≡ true → same_quot b c ≡ true → same_quot a c ≡ true
same_on a b c h g =
    let s = told a b h in
    let t = told b c g in
    tells a c (record { konst = s.konst ∙ t.konst; params = s.params ∙ t.params; iters = λ i. s.iters i ∙ t.iters i; div = s.div ∙ t.div })

-- with as many iterators they divide the same by the same
pub record Alike (a b : Quot) : Type 0 where
  pub konst : a.konst ≡ b.konst
  pub params : a.params ≡ b.params
  pub iters : a.iters ≡ b.iters
  pub div : a.div ≡ b.div

pub alike : (a b : Quot) → same_quot a b ≡ true → length a.iters ≡ length b.iters → Alike a b
alike a b h l = let s = told a b h in record { konst = s.konst; params = s.params; iters = one_list a.iters b.iters l s.iters; div = s.div }
