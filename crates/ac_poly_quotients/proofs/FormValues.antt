-- What lowered forms are worth.
use Rattle.std.proofs.Common.{◌≡◌, ℕ, zero, suc, ◌+◌, ◌-◌, ◌≤◌, max, List, [], ◌∷◌, ◌++◌, length, map, replicate, get_or, refl, sym, ap, ◌∙◌, subst, arith, ℤ, pos, ◌+ℤ◌, ◌*ℤ◌, length-append}
use Rattle.std.specs.List.{AllByRecursion}
use Rattle.std.proofs.lemmas.Int.{ints}
use Rattle.ac_forms.specs.Affine.{Affine, value_at, combined, column_form}
use Rattle.ac_base.specs.Dot.{dot, mix}
use Rattle.ac_base.proofs.Dot.{dot-append}
use Rattle.ac_forms.proofs.Values.{value_at-combined}
use Rattle.ac_poly_quotients.specs.LoweredForms.{replaced, among, stepping}

-- what each form is worth
abbrev pub worth : List ℤ → List Affine → List ℤ
worth p = map (λ f. value_at f p)

one_more : (a c g r : ℤ) → (pos 1 *ℤ a +ℤ c *ℤ g) +ℤ r ≡ a +ℤ (c *ℤ g +ℤ r)
one_more a c g r = omega (arith, ints)

pub value-replaced : (f : Affine) (cs : List ℤ) (gs : List Affine) (p : List ℤ) → value_at (replaced f cs gs) p ≡ value_at f p +ℤ dot cs (worth p gs)
value-replaced f [] gs p = omega (arith, ints)
value-replaced f (c ∷ cs) [] p = omega (arith, ints)
value-replaced f (c ∷ cs) (g ∷ gs) p =
    value-replaced (combined (pos 1) f c g) cs gs p
    ∙ ap (λ v. v +ℤ dot cs (worth p gs)) (value_at-combined (pos 1) f c g p)
    ∙ one_more (value_at f p) c (value_at g p) (dot cs (worth p gs))

-- the columns past the parameters count for nothing
pub value-among : (ps zs : List ℤ) (its : List Affine) (konst : ℤ) (params iters : List ℤ) → length params ≡ length ps
    → value_at (among its konst params iters) (ps ++ zs) ≡ konst +ℤ (dot params ps +ℤ dot iters (worth (ps ++ zs) its))
value-among ps zs its konst params iters h =
    value-replaced (record { konst = konst; coefs = params }) iters its (ps ++ zs)
    ∙ ap (λ v. v +ℤ konst +ℤ dot iters (worth (ps ++ zs) its)) (dot-append params ps zs (omega arith))
    ∙ omega (arith, ints)

-- a form that has no coefficient past n columns
abbrev pub Narrow : ℕ → Affine → Type 0
Narrow n f = length f.coefs ≤ n

pub length-mix : (k : ℤ) (a : List ℤ) (l : ℤ) (b : List ℤ) → length (mix k a l b) ≡ max (length a) (length b)
length-mix k [] l [] = refl
length-mix k [] l (y ∷ ys) = omega (arith, length-mix k [] l ys)
length-mix k (x ∷ xs) l [] = omega (arith, length-mix k xs l [])
length-mix k (x ∷ xs) l (y ∷ ys) = omega (arith, length-mix k xs l ys)

pub narrow-combined : (n : ℕ) (k : ℤ) (f : Affine) (l : ℤ) (g : Affine) → Narrow n f → Narrow n g → Narrow n (combined k f l g)
narrow-combined n k f l g h i = omega (arith, length-mix k f.coefs l g.coefs)

pub narrow-replaced : (n : ℕ) (f : Affine) (cs : List ℤ) (gs : List Affine) → Narrow n f → AllByRecursion (Narrow n) gs → Narrow n (replaced f cs gs)
narrow-replaced n f [] gs h i = h
narrow-replaced n f (c ∷ cs) [] h i = h
narrow-replaced n f (c ∷ cs) (g ∷ gs) h i = narrow-replaced n (combined (pos 1) f c g) cs gs (narrow-combined n (pos 1) f c g h i.0) i.1

pub value-narrow : (f : Affine) (p q : List ℤ) → Narrow (length p) f → value_at f (p ++ q) ≡ value_at f p
value-narrow f p q h = ap (λ v. v +ℤ f.konst) (dot-append f.coefs p q h)

pub worth-narrow : (gs : List Affine) (p q : List ℤ) → AllByRecursion (Narrow (length p)) gs → worth (p ++ q) gs ≡ worth p gs
worth-narrow [] p q h = refl
worth-narrow (g ∷ gs) p q h = λ i. value-narrow g p q h.0 i ∷ worth-narrow gs p q h.1 i

pub length-replicate : (n : ℕ) → length (replicate n (pos 0)) ≡ n
length-replicate zero = refl
length-replicate (suc n) = omega (arith, length-replicate n)

-- the last of n + 1 columns
abbrev column : ℕ → Affine
column n = record { konst = pos 0; coefs = replicate n (pos 0) ++ pos 1 ∷ [] }

no_more : (n : ℕ) → n + 1 - n - 1 ≡ 0
no_more n = omega arith

column_is : (n : ℕ) → column_form (n + 1) n ≡ column n
column_is n = ap (λ k. record { konst = pos 0; coefs = replicate n (pos 0) ++ pos 1 ∷ replicate k (pos 0) }) (no_more n)

pub narrow-column : (n : ℕ) → Narrow (n + 1) (column_form (n + 1) n)
narrow-column n = subst (Narrow (n + 1)) (sym (column_is n)) (omega (arith, length-append (replicate n (pos 0)) (pos 1 ∷ []), length-replicate n))

dot-column : (p : List ℤ) (z : ℤ) → dot (replicate (length p) (pos 0) ++ pos 1 ∷ []) (p ++ z ∷ []) ≡ z
dot-column [] z = omega (arith, ints)
dot-column (x ∷ p) z = omega (arith, ints, dot-column p z)

-- a column has the number that the point has there
dot-unit : (k : ℕ) (p : List ℤ) → dot (replicate k (pos 0) ++ pos 1 ∷ []) p ≡ get_or p k (pos 0)
dot-unit zero [] = refl
dot-unit zero (x ∷ p) = let e : dot [] p ≡ pos 0 = refl in omega (arith, ints)
dot-unit (suc k) [] = refl
dot-unit (suc k) (x ∷ p) = omega (arith, ints, dot-unit k p)

pub column-value : (k : ℕ) (p : List ℤ) → value_at (column_form (k + 1) k) p ≡ get_or p k (pos 0)
column-value k p = rw (no_more k) (omega (arith, ints, dot-unit k p))

pub value-column : (n : ℕ) (p : List ℤ) (z : ℤ) → length p ≡ n → value_at (column_form (n + 1) n) (p ++ z ∷ []) ≡ z
value-column n p z h = ap (λ f. value_at f (p ++ z ∷ [])) (column_is n) ∙ ap (λ k. value_at (column k) (p ++ z ∷ [])) (sym h) ∙ omega (arith, ints, dot-column p z)

pub value-stepping : (f : Affine) (step : ℤ) (n : ℕ) (p : List ℤ) (z : ℤ) → length p ≡ n → Narrow n f → value_at (stepping f step n) (p ++ z ∷ []) ≡ value_at f p +ℤ step *ℤ z
value-stepping f step n p z h w =
    value_at-combined (pos 1) f step (column_form (n + 1) n) (p ++ z ∷ [])
    ∙ ap (λ v. pos 1 *ℤ value_at f (p ++ z ∷ []) +ℤ step *ℤ v) (value-column n p z h)
    ∙ ap (λ v. pos 1 *ℤ v +ℤ step *ℤ z) (value-narrow f p (z ∷ []) (omega arith))
    ∙ omega (arith, ints)
