-- Forms with renamed columns: combinations and quotients of them.
use Rattle.std.proofs.Common.{lit<, ◌≡◌, ℕ, suc, ℤ, pos, ◌+ℤ◌, ◌*ℤ◌, List, [], ◌∷◌, get_or, Option, Some, None, refl, sym, ◌∙◌, arith}
use Rattle.std.proofs.lemmas.Int.{ints}
use Rattle.ac_base.proofs.Columns.{get_or-mix}
use Rattle.ac_forms.specs.Affine.{Affine, combined, mix_numbers, MixFits, CanCombine}
use Rattle.ac_forms.specs.Fits.{Fits, AllFit}
use Rattle.ac_omega_certify.specs.TreePathRows.{place_of, coef_of, Renames, Alike, Blends}

pub fits-zero : Fits (pos 0)
fits-zero = record { sfits = lit< tt }

pub times_zero : (k : ℤ) → k *ℤ pos 0 ≡ pos 0
times_zero k = omega (arith, ints)

pub none_mixed : (k l : ℤ) → k *ℤ pos 0 +ℤ l *ℤ pos 0 ≡ pos 0
none_mixed k l = omega (arith, ints)

pub none_fits : (k l : ℤ) → MixFits k (pos 0) l (pos 0)
none_fits k l = rw (times_zero k, times_zero l) (fits-zero, fits-zero, fits-zero)

pub all_mixed : (k : ℤ) (a : List ℤ) (l : ℤ) (b : List ℤ) → ((j : ℕ) → MixFits k (get_or a j (pos 0)) l (get_or b j (pos 0))) → AllFit (mix_numbers k a l b)
all_mixed k [] l [] h = tt
all_mixed k [] l (y ∷ ys) h = ((h 0).1, all_mixed k [] l ys (λ j. h (suc j)))
all_mixed k (x ∷ xs) l [] h = ((h 0).0, all_mixed k xs l [] (λ j. h (suc j)))
all_mixed k (x ∷ xs) l (y ∷ ys) h = ((h 0).0, ((h 0).1, ((h 0).2, all_mixed k xs l ys (λ j. h (suc j)))))

pub blends-can : (k : ℤ) (f : Affine) (l : ℤ) (g : Affine) → Blends k f l g → CanCombine k f l g
blends-can k f l g h = (all_mixed k f.coefs l g.coefs h.coefs, h.konst)

-- a combination on the path is that of the forms
pub renames-combined : (names : List ℕ) (k : ℤ) (f : Affine) (l : ℤ) (g f' g' : Affine) → Renames names f f' → Renames names g g' → Renames names (combined k f l g) (combined k f' l g')
renames-combined names k f l g f' g' x y = record {
  konst = rw (x.konst, y.konst) refl;
  coefs = λ j. get_or-mix k f'.coefs l g'.coefs j ∙ rw (x.coefs j, y.coefs j) (by (place_of j names));
}
  where
    by : (o : Option ℕ) → k *ℤ coef_of o f +ℤ l *ℤ coef_of o g ≡ coef_of o (combined k f l g)
    by None = none_mixed k l
    by (Some i) = sym (get_or-mix k f.coefs l g.coefs i)

pub renames-blends : (names : List ℕ) (k : ℤ) (f : Affine) (l : ℤ) (g f' g' : Affine) → Renames names f f' → Renames names g g' → Blends k f l g → Blends k f' l g'
renames-blends names k f l g f' g' x y h = record {
  konst = rw (x.konst, y.konst) h.konst;
  coefs = λ j. rw (x.coefs j, y.coefs j) (by (place_of j names));
}
  where
    by : (o : Option ℕ) → MixFits k (coef_of o f) l (coef_of o g)
    by None = none_fits k l
    by (Some i) = h.coefs i

-- only values count
pub renames-alike : (names : List ℕ) (f f' g : Affine) → Renames names f g → Alike f f' → Renames names f' g
renames-alike names f f' g x a = record { konst = x.konst ∙ sym a.konst; coefs = λ j. x.coefs j ∙ sym (by (place_of j names)) }
  where
    by : (o : Option ℕ) → coef_of o f' ≡ coef_of o f
    by None = refl
    by (Some i) = a.coefs i

pub alike-renames : (names : List ℕ) (f g g' : Affine) → Renames names f g → Alike g g' → Renames names f g'
alike-renames names f g g' x a = record { konst = a.konst ∙ x.konst; coefs = λ j. a.coefs j ∙ x.coefs j }
