-- A checked value is the value.
use Rattle.std.proofs.Common.{◌≡◌, List, [], ◌∷◌, true, false, cond, refl, ap, ◌∙◌, Option, Some, None, zero, suc, pos, negsuc, ℤ, ◌+ℤ◌, ◌*ℤ◌, arith, IfSome}
use Rattle.std.specs.Prelude.{option_and_then}
use Rattle.std.proofs.lemmas.Int.{ints}
use Rattle.std.specs.Int.{int_div_euclid}
use Rattle.ac_syntax.specs.CheckedArithmetic.{checked, summed, checked_plain, checked_argument, rounded, checked_quot, plus_times, plus_quot, summed_quots, checked_value, fits_128}
use Rattle.ac_base.specs.Dot.{dot}
use Rattle.ac_syntax.specs.Index.{Point, quot_argument, quot_value, quots_value, index_value}
use Rattle.ac_syntax.specs.declared.tree.Quot.{Quot}
use Rattle.ac_syntax.specs.declared.tree.IndexExpr.{IndexExpr}

then : (o : Option ℤ) (f : ℤ → Option ℤ) (P Q : ℤ → Type 0) → IfSome o P → ((v : ℤ) → P v → IfSome (f v) Q) → IfSome (option_and_then f o) Q
then None f P Q h k = tt
then (Some v) f P Q h k = k v h

weaken : (o : Option ℤ) (P Q : ℤ → Type 0) → ((v : ℤ) → P v → Q v) → IfSome o P → IfSome o Q
weaken None P Q k h = tt
weaken (Some v) P Q k h = k v h

is_checked : (z : ℤ) → IfSome (checked z) (λ v. v ≡ z)
is_checked z = elim (fits_128 z) as (λ b. IfSome (cond b (Some z) None) (λ v. v ≡ z)) [ true ↦ refl | false ↦ tt ]

summed_exact : (s : ℤ) (cs xs : List ℤ) → IfSome (summed s cs xs) (λ v. v ≡ s +ℤ dot cs xs)
summed_exact s [] xs = omega (arith, ints)
summed_exact s (c ∷ cs) [] = omega (arith, ints)
summed_exact s (c ∷ cs) (x ∷ xs) =
    then (checked (s +ℤ (c *ℤ x))) (λ t. summed t cs xs) (λ t. t ≡ s +ℤ (c *ℤ x)) (λ v. v ≡ s +ℤ dot (c ∷ cs) (x ∷ xs)) (is_checked (s +ℤ (c *ℤ x)))
    (λ t e. weaken (summed t cs xs) (λ v. v ≡ t +ℤ dot cs xs) _ (λ v h. omega (arith, ints)) (summed_exact t cs xs))

plain_exact : (p : Point) (konst : ℤ) (params iters : List ℤ) → IfSome (checked_plain p konst params iters) (λ v. v ≡ konst +ℤ (dot params p.params +ℤ dot iters p.iters))
plain_exact p konst params iters =
    then (summed konst params p.params) (λ t. summed t iters p.iters) (λ t. t ≡ konst +ℤ dot params p.params) _ (summed_exact konst params p.params)
    (λ t h. weaken (summed t iters p.iters) (λ v. v ≡ t +ℤ dot iters p.iters) _ (λ v k. omega (arith, ints)) (summed_exact t iters p.iters))

pub argument_exact : (p : Point) (q : Quot) → IfSome (checked_argument p q) (λ v. v ≡ quot_argument p q)
argument_exact p q = plain_exact p q.konst q.params q.iters

pub rounded_exact : (d v : ℤ) → IfSome (rounded d v) (λ z. z ≡ int_div_euclid v d)
rounded_exact (pos zero) v = tt
rounded_exact (pos (suc n)) v = refl
rounded_exact (negsuc n) v = tt

pub quot_exact : (p : Point) (q : Quot) → IfSome (checked_quot p q) (λ v. v ≡ quot_value p q)
quot_exact p q =
    then (checked_argument p q) (rounded q.div) (λ v. v ≡ quot_argument p q) (λ v. v ≡ quot_value p q) (argument_exact p q)
    (λ v e. weaken (rounded q.div v) (λ z. z ≡ int_div_euclid v q.div) _ (λ z h. h ∙ ap (λ x. int_div_euclid x q.div) e) (rounded_exact q.div v))

times_exact : (s c v : ℤ) → IfSome (plus_times s c v) (λ z. z ≡ s +ℤ (c *ℤ v))
times_exact s c v =
    then (checked (c *ℤ v)) (λ x. checked (s +ℤ x)) (λ x. x ≡ c *ℤ v) (λ z. z ≡ s +ℤ (c *ℤ v)) (is_checked (c *ℤ v))
    (λ x e. weaken (checked (s +ℤ x)) (λ z. z ≡ s +ℤ x) _ (λ z h. h ∙ ap (λ y. s +ℤ y) e) (is_checked (s +ℤ x)))

plus_exact : (p : Point) (s : ℤ) (q : Quot) → IfSome (plus_quot p s q) (λ z. z ≡ s +ℤ (q.coef *ℤ quot_value p q))
plus_exact p s q =
    then (checked_quot p q) (plus_times s q.coef) (λ v. v ≡ quot_value p q) (λ z. z ≡ s +ℤ (q.coef *ℤ quot_value p q)) (quot_exact p q)
    (λ v e. weaken (plus_times s q.coef v) (λ z. z ≡ s +ℤ (q.coef *ℤ v)) _ (λ z h. h ∙ ap (λ y. s +ℤ (q.coef *ℤ y)) e) (times_exact s q.coef v))

quots_exact : (p : Point) (s : ℤ) (qs : List Quot) → IfSome (summed_quots p s qs) (λ v. v ≡ s +ℤ quots_value p qs)
quots_exact p s [] = omega (arith, ints)
quots_exact p s (q ∷ qs) =
    then (plus_quot p s q) (λ t. summed_quots p t qs) (λ t. t ≡ s +ℤ (q.coef *ℤ quot_value p q)) (λ v. v ≡ s +ℤ quots_value p (q ∷ qs)) (plus_exact p s q)
    (λ t e. weaken (summed_quots p t qs) (λ v. v ≡ t +ℤ quots_value p qs) _ (λ v h. omega (arith, ints)) (quots_exact p t qs))

pub checked_exact : (p : Point) (e : IndexExpr) → IfSome (checked_value p e) (λ v. v ≡ index_value p e)
checked_exact p e =
    then (checked_plain p e.konst e.params e.iters) (λ t. summed_quots p t e.quots) (λ t. t ≡ e.konst +ℤ (dot e.params p.params +ℤ dot e.iters p.iters)) (λ v. v ≡ index_value p e) (plain_exact p e.konst e.params e.iters)
    (λ t h. weaken (summed_quots p t e.quots) (λ v. v ≡ t +ℤ quots_value p e.quots) _ (λ v k. omega (arith, ints)) (quots_exact p t e.quots))
