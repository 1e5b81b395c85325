-- A row that can be branched on has a normal form in `i128`.
use Rattle.std.proofs.Common.{◌≡◌, ℕ, zero, suc, ◌*◌, ◌<◌, ◌≤◌, ◌==◌, Bool, true, false, cond, ℤ, pos, negsuc, ◌*ℤ◌, List, [], ◌∷◌, ◌++◌, map, unsigned_abs, arith, refl, ap, ◌∙◌}
use Rattle.std.specs.Int.{◌∣◌, int_div_euclid}
use Rattle.std.proofs.lemmas.Int.{ints, unsigned_abs-mul}
use borrow.Author.Tests.{eqb-false}
use Rattle.ac_base.specs.Dot.{floored}
use Rattle.ac_base.specs.Gcd.{content, DividesEach}
use Rattle.ac_base.specs.Multiple.{divides}
use Rattle.ac_base.proofs.Divisors.{gcd_all_divides, divides-true}
use Rattle.ac_base.proofs.Floor.{floor_exact}
use Rattle.ac_forms.specs.Affine.{Affine, scaled}
use Rattle.ac_forms.specs.Fits.{Fits, AllFit}
use Rattle.ac_forms.specs.NormalRows.{trim, divided, leads_negative, absolutes, sign_numbers, eq_numbers}
use Rattle.ac_forms.specs.declared.row.Row.TheVariants.{Eq, Div, Ge}
use Rattle.ac_forms.proofs.Twins.{all_fit-is}
use Rattle.ac_unfold_plans.specs.RowsAlongPaths.{RowsBranchedOnFit}
use Rattle.ac_unfold_plans.proofs.Rising.{map-trim, trim-nonzeros, same-fit}

-- ---- numbers whose opposites fit

size-fits : (c : ℤ) → Fits c → Fits (negsuc 0 *ℤ c) → Fits (pos (unsigned_abs c))
size-fits c f g = omega (arith, ints, f, g)

turned-fits : (c : ℤ) → Fits (pos (unsigned_abs c)) → Fits (negsuc 0 *ℤ c)
turned-fits c f = omega (arith, ints, f)

sizes-fit : (cs : List ℤ) → AllFit cs → AllFit (map (λ c. negsuc 0 *ℤ c) cs) → AllFit (absolutes cs)
sizes-fit [] f g = tt
sizes-fit (c ∷ cs) f g = (size-fits c f.0 g.0, sizes-fit cs f.1 g.1)

-- ---- numbers that are divided

fits-less : (a b : ℕ) → b ≤ a → Fits (pos a) → Fits (pos b)
fits-less a b l h = let k = h.sfits in record { sfits = omega (arith, l, k) }

part-less : (d : ℕ) (c : ℤ) → 0 < d → d ∣ unsigned_abs c → unsigned_abs (int_div_euclid c (pos d)) ≤ unsigned_abs c
part-less d c l h =
    let is : unsigned_abs c ≡ d * unsigned_abs (int_div_euclid c (pos d)) = ap unsigned_abs (floor_exact c d l h) ∙ unsigned_abs-mul (pos d) (int_div_euclid c (pos d)) in
    times-less d (unsigned_abs (int_div_euclid c (pos d))) (unsigned_abs c) l is
  where
    times-less : (d q n : ℕ) → 0 < d → n ≡ d * q → q ≤ n
    times-less zero q n l e = absurd (omega arith)
    times-less (suc d) q n l e = omega (arith, e)

part-fits : (d : ℕ) (c : ℤ) → 0 < d → d ∣ unsigned_abs c → Fits (pos (unsigned_abs c)) → Fits (negsuc 0 *ℤ int_div_euclid c (pos d))
part-fits d c l h f = turned-fits (int_div_euclid c (pos d)) (fits-less (unsigned_abs c) (unsigned_abs (int_div_euclid c (pos d))) (part-less d c l h) f)

parts-fit : (d : ℕ) (cs : List ℤ) → 0 < d → DividesEach d cs → AllFit (absolutes cs) → AllFit (map (λ c. negsuc 0 *ℤ c) (floored (pos d) cs))
parts-fit d [] l h f = tt
parts-fit d (c ∷ cs) l h f = (part-fits d c l h.0 f.0, parts-fit d cs l h.1 f.1)

trimmed-fit : (cs : List ℤ) → AllFit (map (λ c. negsuc 0 *ℤ c) cs) → AllFit (map (λ c. negsuc 0 *ℤ c) (trim cs))
trimmed-fit cs f =
    let same = same-fit (map (λ c. negsuc 0 *ℤ c) (trim cs)) (map (λ c. negsuc 0 *ℤ c) cs) (trim-nonzeros (map (λ c. negsuc 0 *ℤ c) (trim cs)) (map (λ c. negsuc 0 *ℤ c) cs) (map-trim (λ c. negsuc 0 *ℤ c) refl cs)) in
    (all_fit-is (map (λ c. negsuc 0 *ℤ c) (trim cs))).0 (same ∙ (all_fit-is (map (λ c. negsuc 0 *ℤ c) cs)).1 f)

all-then : (xs : List ℤ) (y : ℤ) → AllFit xs → Fits y → AllFit (xs ++ y ∷ [])
all-then [] y f g = (g, tt)
all-then (x ∷ xs) y f g = (f.0, all-then xs y f.1 g)

-- ---- the change of sign of an equality

sign-fits : (d : ℕ) (f : Affine) → 0 < d → DividesEach d f.coefs → d ∣ unsigned_abs f.konst → AllFit (absolutes f.coefs) → Fits (pos (unsigned_abs f.konst)) → AllFit (sign_numbers (divided (pos d) f))
sign-fits d f l h k a b = by (leads_negative (divided (pos d) f).coefs)
  where
    by : (t : Bool) → AllFit (cond t ((scaled (negsuc 0) (divided (pos d) f)).coefs ++ (scaled (negsuc 0) (divided (pos d) f)).konst ∷ []) [])
    by true = all-then (scaled (negsuc 0) (divided (pos d) f)).coefs (scaled (negsuc 0) (divided (pos d) f)).konst (trimmed-fit (floored (pos d) f.coefs) (parts-fit d f.coefs l h a)) (part-fits d f.konst l k b)
    by false = tt

eq-fits : (f : Affine) → AllFit (absolutes f.coefs) → Fits (pos (unsigned_abs f.konst)) → AllFit (eq_numbers f)
eq-fits f a b = by (content f.coefs == 0) (divides (content f.coefs) f.konst) refl refl
  where
    by : (s t : Bool) → (content f.coefs == 0) ≡ s → divides (content f.coefs) f.konst ≡ t → AllFit (cond s [] (cond t (sign_numbers (divided (pos (content f.coefs)) f)) []))
    by true t e d = tt
    by false true e d = let n = eqb-false (content f.coefs) 0 e in sign-fits (content f.coefs) f (omega (arith, n)) (gcd_all_divides 0 f.coefs).1 (divides-true (content f.coefs) f.konst d) a b
    by false false e d = tt

pub branched_fit : RowsBranchedOnFit
branched_fit (Ge f) w c = sizes-fit f.coefs w.0 c.0.0
branched_fit (Div m f) w c = tt
branched_fit (Eq f) w c =
    let a = sizes-fit f.coefs w.0 c.1.0 in
    (a, eq-fits f a (size-fits f.konst w.1 c.1.1))
