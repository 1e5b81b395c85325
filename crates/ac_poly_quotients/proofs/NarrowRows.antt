-- Rows without coefficients past the columns of a scope do not see what comes after.
use Rattle.std.proofs.Common.{◌≡◌, ◌⊎◌, ℕ, ◌≤◌, List, [], ◌∷◌, ◌++◌, length, map, refl, arith, ℤ, negsuc, ◌*ℤ◌}
use Rattle.std.proofs.lemmas.List.{length-map}
use Rattle.std.specs.List.{AllByRecursion}
use Rattle.ac_forms.specs.Affine.{Affine}
use Rattle.ac_forms.specs.Negation.{below}
use Rattle.ac_forms.specs.PieceMembership.{IsInSome}
use Rattle.ac_forms.specs.Rows.{Holds, Meets, form_of}
use Rattle.ac_forms.specs.declared.row.Row.{Row}
use Rattle.ac_forms.specs.declared.row.Row.TheVariants.{Ge, Eq, Div}
use Rattle.ac_poly_quotients.specs.LoweredForms.{among}
use Rattle.ac_poly_quotients.proofs.FormValues.{Narrow, narrow-replaced, value-narrow}

abbrev pub NarrowRows : ℕ → List Row → Type 0
NarrowRows n = AllByRecursion (λ r. Narrow n (form_of r))

abbrev pub NarrowPieces : ℕ → List (List Row) → Type 0
NarrowPieces n = AllByRecursion (NarrowRows n)

holds-narrow : (r : Row) (p q : List ℤ) → Narrow (length p) (form_of r) → Holds r (p ++ q) ≡ Holds r p
holds-narrow (Ge f) p q h = rw (value-narrow f p q h) refl
holds-narrow (Eq f) p q h = rw (value-narrow f p q h) refl
holds-narrow (Div m f) p q h = rw (value-narrow f p q h) refl

meets-narrow : (rs : List Row) (p q : List ℤ) → NarrowRows (length p) rs → Meets rs (p ++ q) ≡ Meets rs p
meets-narrow [] p q h = refl
meets-narrow (r ∷ rs) p q h = λ i. holds-narrow r p q h.0 i × meets-narrow rs p q h.1 i

pub somewhere-narrow : (qs : List (List Row)) (p q : List ℤ) → NarrowPieces (length p) qs → IsInSome Meets qs (p ++ q) ≡ IsInSome Meets qs p
somewhere-narrow [] p q h = refl
somewhere-narrow (r ∷ qs) p q h = λ i. meets-narrow r p q h.0 i ⊎ somewhere-narrow qs p q h.1 i

pub all_append : {A : Type 0} (P : A → Type 0) (xs ys : List A) → AllByRecursion P xs → AllByRecursion P ys → AllByRecursion P (xs ++ ys)
all_append P [] ys h i = i
all_append P (x ∷ xs) ys h i = (h.0, all_append P xs ys h.1 i)

pub all_wider : {A : Type 0} (P Q : A → Type 0) → ((x : A) → P x → Q x) → (xs : List A) → AllByRecursion P xs → AllByRecursion Q xs
all_wider P Q w [] h = tt
all_wider P Q w (x ∷ xs) h = (w x h.0, all_wider P Q w xs h.1)

pub narrow-among : (n ps : ℕ) (its : List Affine) (konst : ℤ) (params iters : List ℤ) → ps ≤ n → length params ≡ ps → AllByRecursion (Narrow n) its → Narrow n (among its konst params iters)
narrow-among n ps its konst params iters h f i = narrow-replaced n (record { konst = konst; coefs = params }) iters its (omega arith) i

pub narrow_with : (n : ℕ) (qs : List (List Row)) (rs : List Row) → NarrowPieces n qs → NarrowRows n rs → NarrowPieces n (map (λ q. q ++ rs) qs)
narrow_with n [] rs h i = tt
narrow_with n (q ∷ qs) rs h i = (all_append (λ r. Narrow n (form_of r)) q rs h.0 i, narrow_with n qs rs h.1 i)

pub below_narrow : (n : ℕ) (f : Affine) → Narrow n f → Narrow n (below f)
below_narrow n f h = omega (arith, length-map f.coefs (λ c. negsuc 0 *ℤ c))
