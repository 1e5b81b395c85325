-- A combination read off a row that comes to 0, as a hull answers it.
use Rattle.std.proofs.Common.{◌≡◌, ℕ, zero, suc, ◌<◌, ◌≤◌, ◌≤ℤ◌, Some, ℤ, pos, negsuc, neg_ℤ, List, [], ◌∷◌, ◌++◌, length, map, take, refl, ap, sym, ◌∙◌, arith, unsigned_abs}
use Rattle.std.specs.Prelude.{slice_get}
use Rattle.std.specs.Int.{◌∣◌}
use Rattle.std.proofs.lemmas.Int.{ints}
use Rattle.std.proofs.lemmas.List.{length-map, map-append}
use Rattle.std.proofs.lemmas.Nat.Gcd.{dvd-zero}
use Rattle.ac_base.specs.Dot.{floored}
use Rattle.ac_base.specs.Gcd.{DividesEach}
use Rattle.ac_forms.specs.Affine.{Affine}
use Rattle.ac_hull.specs.FractionFreeElimination.{entry, minus, next_line, next_content, reduced_all, fresh, IsZero}
use Rattle.ac_hull.specs.Hulls.{differences, turned, read_m, read_weights, lines_of, IsFound}
use Rattle.ac_hull.specs.HullInternals.Keeping.{IsHull}
use Rattle.ac_hull.specs.EliminationRange.{AllCross, CanNext, CanRead, CanCombine}
use Rattle.ac_hull.specs.declared.line.Line.{Line}
use Rattle.ac_hull.specs.declared.combination.Combination.{Combination}
use Rattle.ac_hull.proofs.Facts.{facts_of, next_positive}
use Rattle.ac_hull.proofs.Lines.{length_mix}
use Rattle.ac_hull.proofs.Membership.{next}
use Rattle.ac_hull.proofs.Reading.{read_combination, floored_least}

-- a divisor of what was read divides all that was there
turned_back : (k : ℕ) (t w : ℤ) → k ∣ unsigned_abs (turned t w) → k ∣ unsigned_abs w
turned_back k (pos t) w h = rw (size_neg w) at h
  where
    size_neg : (w : ℤ) → unsigned_abs (neg_ℤ w) ≡ unsigned_abs w
    size_neg w = omega (arith, ints)
turned_back k (negsuc t) w h = h

rest_back : (k : ℕ) (t : ℤ) (n : ℕ) (ws : List ℤ) → length ws ≡ suc n → k ∣ unsigned_abs (entry n ws) → DividesEach k (map (turned t) (take n ws)) → DividesEach k ws
rest_back k t n [] l h d = tt
rest_back k t zero (w ∷ []) l h d = (h, tt)
rest_back k t zero (w ∷ v ∷ ws) l h d = absurd (omega (arith, l))
rest_back k t (suc n) (w ∷ ws) l h d = (turned_back k t w d.0, rest_back k t n ws (omega (arith, l)) h d.1)

zeros_divided : (k : ℕ) (xs : List ℤ) → IsZero xs → DividesEach k xs
zeros_divided k [] z = tt
zeros_divided k (x ∷ xs) z = let e : x ≡ pos 0 = z 0 in (rw e (dvd-zero k), zeros_divided k xs (λ i. z (suc i)))

both_divided : (k : ℕ) (a b : List ℤ) → DividesEach k a → DividesEach k b → DividesEach k (a ++ b)
both_divided k [] b d e = e
both_divided k (x ∷ a) b d e = (d.0, both_divided k a b d.1 e)

-- no number above 1 divides all
read_least : (k : ℕ) (ls : List Line) (d : List ℤ) (n : ℕ) → 0 < next_content ls d → IsZero (next_line ls d).coords → length (next_line ls d).weights ≡ suc n
    → k ∣ unsigned_abs (read_m n (next_line ls d)) → DividesEach k (read_weights n (next_line ls d)) → k ≡ 1
read_least k ls d n pos_ z l h w =
    let l0 = reduced_all ls (fresh (length ls) d) in
    let ws = rest_back k (entry n (next_line ls d).weights) n (next_line ls d).weights l h w.1 in
    let cs = zeros_divided k (next_line ls d).coords z in
    let both : DividesEach k (floored (pos (next_content ls d)) (l0.coords ++ l0.weights)) = rw (map-append _ l0.coords l0.weights) (both_divided k (next_line ls d).coords (next_line ls d).weights cs ws) in
    floored_least k (l0.coords ++ l0.weights) pos_ both

size_positive : (t : ℤ) → ¬ (pos (unsigned_abs t) ≡ pos 0) → pos 1 ≤ℤ pos (unsigned_abs t)
size_positive (pos zero) n = absurd (n refl)
size_positive (pos (suc t)) n = omega (arith, ints)
size_positive (negsuc t) n = omega (arith, ints)

module _ (columns : ℕ) (g : List ℤ) (ps : List (List ℤ)) (ls : List Line) (es : List Affine) (p : List ℤ) (h : IsHull columns (g ∷ ps) ls es) (l : length p ≡ columns) where
  counted : length ls ≡ length ps
  counted = (facts_of h.3).count ∙ length-map ps _

  long : length (next_line ls (minus p g)).weights ≡ suc (length ps)
  long = let x = next columns g ps ls h.3 p l h.0 in x.weights ∙ ap suc (length-map ps _)

  positive_ : 0 < next_content ls (minus p g)
  positive_ = next_positive columns (differences g ps) (minus p g) (length_mix (pos 1) p (neg_ℤ (pos 1)) g columns l (omega (arith, h.0))) ls (facts_of h.3)

  found : IsZero (next_line ls (minus p g)).coords → IsFound (g ∷ ps) p (record { m = read_m (length ps) (next_line ls (minus p g)); weights = read_weights (length ps) (next_line ls (minus p g)) })
  found z =
      let c = read_combination columns g ps ls h.3 h.0 h.1 p l z in
      record { combines = c; positive = size_positive (entry (length ps) (next_line ls (minus p g)).weights) c.nonzero; least = λ k a b. read_least k ls (minus p g) (length ps) positive_ z long a b }

pub hull_long : (columns : ℕ) (ms : List (List ℤ)) (ls : List Line) (es : List Affine) (f p : List ℤ) (row : Line) (n : ℕ) → IsHull columns ms ls es → slice_get ms 0 ≡ Some f → length p ≡ columns
    → row ≡ next_line ls (minus p f) → n ≡ length ls → n ≤ length row.weights
hull_long columns [] ls es f p row n h e l is c = absurd cc
hull_long columns (g ∷ ps) ls es f p row n h e l is c =
    let i : g ≡ f = cc in
    let s : row ≡ next_line ls (minus p g) = is ∙ (rw i refl) in
    rw s (omega (arith, long columns g ps ls es p h l, counted columns g ps ls es p h l, c))

pub hull_found : (columns : ℕ) (ms : List (List ℤ)) (ls : List Line) (es : List Affine) (f p : List ℤ) (row : Line) (n : ℕ) (c : Combination) → IsHull columns ms ls es → slice_get ms 0 ≡ Some f → length p ≡ columns
    → row ≡ next_line ls (minus p f) → n ≡ length ls → IsZero row.coords → c ≡ record { m = read_m n row; weights = read_weights n row } → IsFound ms p c
hull_found columns [] ls es f p row n c h e l is k z to = absurd cc
hull_found columns (g ∷ ps) ls es f p row n c h e l is k z to =
    let i : g ≡ f = cc in
    let s : row ≡ next_line ls (minus p g) = is ∙ (rw i refl) in
    let m : n ≡ length ps = k ∙ counted columns g ps ls es p h l in
    rw (to, m, s) (found columns g ps ls es p h l (rw s at z))

pub hull_can_combine : (columns : ℕ) (ms : List (List ℤ)) (ls : List Line) (es : List Affine) (f p : List ℤ) (row : Line) (n : ℕ) → IsHull columns ms ls es → slice_get ms 0 ≡ Some f → length p ≡ columns
    → row ≡ next_line ls (minus p f) → n ≡ length ls → AllCross (pos 1) p (pos 1) f × CanNext ls (minus p f) → (IsZero row.coords → CanRead n row) → CanCombine ms p
hull_can_combine columns [] ls es f p row n h e l is k a b = absurd cc
hull_can_combine columns (g ∷ ps) ls es f p row n h e l is k a b =
    let i : g ≡ f = cc in
    let s : row ≡ next_line ls (minus p g) = is ∙ (rw i refl) in
    let m : n ≡ length ps = k ∙ counted columns g ps ls es p h l in
    (rw (h.2, ← i) at a, rw (s, m, h.2) at b)

pub hull_combine_row : (columns : ℕ) (ms : List (List ℤ)) (ls : List Line) (es : List Affine) (f p : List ℤ) → IsHull columns ms ls es → slice_get ms 0 ≡ Some f
    → CanCombine ms p → AllCross (pos 1) p (pos 1) f × CanNext ls (minus p f)
hull_combine_row columns [] ls es f p h e c = absurd cc
hull_combine_row columns (g ∷ ps) ls es f p h e c = let i : g ≡ f = cc in rw (← i, h.2) c.0

pub hull_combine_read : (columns : ℕ) (ms : List (List ℤ)) (ls : List Line) (es : List Affine) (f p : List ℤ) (row : Line) (n : ℕ) → IsHull columns ms ls es → slice_get ms 0 ≡ Some f → length p ≡ columns
    → row ≡ next_line ls (minus p f) → n ≡ length ls → IsZero row.coords → CanCombine ms p → CanRead n row
hull_combine_read columns [] ls es f p row n h e l is k z c = absurd cc
hull_combine_read columns (g ∷ ps) ls es f p row n h e l is k z c =
    let i : g ≡ f = cc in
    let s : row ≡ next_line (lines_of g ps) (minus p g) = is ∙ ap (λ t. next_line ls (minus p t)) (sym i) ∙ ap (λ t. next_line t (minus p g)) h.2 in
    let m : n ≡ length ps = k ∙ counted columns g ps ls es p h l in
    rw (m, s) (c.1 (rw s at z))
