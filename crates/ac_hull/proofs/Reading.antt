-- What is read off a row that comes to 0: m and the weights of a combination; and what the equalities say.
use Rattle.std.proofs.Common.{◌≡◌, ◌↔◌, ℕ, zero, suc, ◌*◌, ◌<◌, ◌≤◌, ℤ, pos, negsuc, ◌+ℤ◌, ◌-ℤ◌, ◌*ℤ◌, neg_ℤ, List, [], ◌∷◌, ◌++◌, length, map, take, refl, ap, sym, ◌∙◌, arith, unsigned_abs, length-take, mul-le-mul_left}
use Rattle.std.specs.Int.{int_div_euclid, ◌∣◌}
use Rattle.std.proofs.lemmas.Int.{ints, unsigned_abs-mul}
use Rattle.std.proofs.lemmas.Nat.Gcd.{dvd-zero, le_of_dvd}
use Rattle.std.proofs.Math.Nat.{eq-zero_of_zero-dvd, mul-dvd-mul_left, mul-zero}
use Rattle.std.proofs.lemmas.List.{length-map, map-append}
use Rattle.ac_base.specs.Dot.{dot, floored}
use Rattle.ac_base.specs.Gcd.{content, DividesEach}
use Rattle.ac_base.proofs.Columns.{get_or-mix}
use Rattle.ac_base.proofs.Divisors.{gcd_all_divides, divides_gcd_all}
use Rattle.ac_base.proofs.Floor.{dot-floored, floor_exact}
use Rattle.ac_base.proofs.Products.{neg-mul_ℤ, mul-add_ℤ, mul-neg_ℤ, add-mul_ℤ}
use Rattle.ac_base.proofs.Residues.{zero_factor}
use Rattle.ac_forms.specs.Affine.{value_at}
use Rattle.ac_widen.specs.Combinations.{blend, total, times, Each, IsCombination, InHull}
use Rattle.ac_hull.specs.FractionFreeElimination.{entry, next_line, minus, IsZero, Eliminates}
use Rattle.ac_hull.specs.Equalities.{coefs_of, least_coefs, equality_of}
use Rattle.ac_hull.proofs.FreeColumns.{IsFree}
use Rattle.ac_hull.specs.Hulls.{differences, turned, read_m, read_rest, read_weights}
use Rattle.ac_hull.specs.declared.line.Line.{Line}
use Rattle.ac_hull.proofs.Entries.{column, entry_times, entry_blend, same_entries}
use Rattle.ac_hull.proofs.Lines.{length_mix, content_positive, Spans}
use Rattle.ac_hull.proofs.Facts.{dot_last}
use Rattle.ac_hull.proofs.Membership.{next, dot_minus, hull_kills, all_zero, hull_zero, coefs_kill_differences, coefs_own}

length_blend_le : (c : ℕ) (ws : List ℤ) (ps : List (List ℤ)) → Each (λ p. length p ≡ c) ps → length (blend ws ps) ≤ c
length_blend_le c [] ps h = omega arith
length_blend_le c (w ∷ ws) [] h = omega arith
length_blend_le c (w ∷ ws) (p ∷ ps) h = omega (arith, length_mix w p (pos 1) (blend ws ps) c h.0 (length_blend_le c ws ps h.1))

pub length_blend : (c : ℕ) (w : ℤ) (ws : List ℤ) (p : List ℤ) (ps : List (List ℤ)) → length p ≡ c → Each (λ p. length p ≡ c) ps → length (blend (w ∷ ws) (p ∷ ps)) ≡ c
length_blend c w ws p ps e h = length_mix w p (pos 1) (blend ws ps) c e (length_blend_le c ws ps h)

dot_take : (w xs : List ℤ) → dot w xs ≡ dot (take (length xs) w) xs
dot_take [] [] = refl
dot_take [] (x ∷ xs) = refl
dot_take (c ∷ w) [] = refl
dot_take (c ∷ w) (x ∷ xs) = ap (λ r. c *ℤ x +ℤ r) (dot_take w xs)

dot_turned : (t : ℤ) (u xs : List ℤ) → dot (map (turned t) u) xs ≡ turned t (dot u xs)
dot_turned (pos t) [] xs = omega (arith, ints)
dot_turned (negsuc t) [] xs = refl
dot_turned (pos t) (c ∷ u) [] = omega (arith, ints)
dot_turned (negsuc t) (c ∷ u) [] = refl
dot_turned (pos t) (c ∷ u) (x ∷ xs) = let e = dot_turned (pos t) u xs in let m = neg-mul_ℤ c x in omega (arith, ints, e, m)
dot_turned (negsuc t) (c ∷ u) (x ∷ xs) = ap (λ r. c *ℤ x +ℤ r) (dot_turned (negsuc t) u xs)

-- x + t d = 0 gives |t| d
turned_away : (t x d : ℤ) → pos 0 ≡ x +ℤ t *ℤ d → turned t x ≡ pos (unsigned_abs t) *ℤ d
turned_away (pos t) x d e = omega (arith, ints, e)
turned_away (negsuc t) x d e = omega (arith, ints, e, neg-mul_ℤ (pos (suc t)) d)

entry_minus : (z : ℕ) (p f : List ℤ) → entry z (minus p f) ≡ entry z p +ℤ neg_ℤ (entry z f)
entry_minus z p f = get_or-mix (pos 1) p (neg_ℤ (pos 1)) f z ∙ (omega (arith, ints))

dot_differences : (z : ℕ) (f u : List ℤ) (ps : List (List ℤ)) → length u ≡ length ps → dot u (column z (differences f ps)) ≡ dot u (column z ps) +ℤ neg_ℤ (total u *ℤ entry z f)
dot_differences z f [] [] l = omega (arith, ints)
dot_differences z f [] (p ∷ ps) l = absurd (omega (arith, l))
dot_differences z f (c ∷ u) [] l = absurd (omega (arith, l))
dot_differences z f (c ∷ u) (p ∷ ps) l =
    let r = dot_differences z f u ps (omega (arith, l)) in
    rw (r, entry_minus z p f) (omega (arith, ints, mul-add_ℤ c (entry z p) (neg_ℤ (entry z f)), mul-neg_ℤ c (entry z f), add-mul_ℤ c (total u) (entry z f)))

pulled : (m t f d : ℤ) → (m -ℤ t) *ℤ f +ℤ d ≡ m *ℤ f +ℤ neg_ℤ (t *ℤ f) +ℤ d
pulled m t f d =
    let e : m -ℤ t ≡ m +ℤ neg_ℤ t = omega (arith, ints) in
    rw e (omega (arith, ints, add-mul_ℤ m (neg_ℤ t) f, neg-mul_ℤ t f))

size_nonzero : (t : ℤ) → ¬ (t ≡ pos 0) → ¬ (pos (unsigned_abs t) ≡ pos 0)
size_nonzero (pos t) n e = n e
size_nonzero (negsuc t) n e = absurd cc

-- the row's sum in a column, over the differences and the point's own
row_sum : (z : ℕ) (f q : List ℤ) (ps : List (List ℤ)) (row : Line) → Spans (differences f ps ++ minus q f ∷ []) row → entry z row.coords ≡ dot (take (length ps) row.weights) (column z (differences f ps)) +ℤ entry (length ps) row.weights *ℤ (entry z q +ℤ neg_ℤ (entry z f))
row_sum z f q ps row h =
    let l : length (column z (differences f ps)) ≡ length ps = length-map (differences f ps) (entry z) ∙ length-map ps _ in
    h z ∙ ap (dot row.weights) (map-append (entry z) (differences f ps) (minus q f ∷ []))
    ∙ dot_last row.weights (column z (differences f ps)) (entry z (minus q f))
    ∙ ap (λ v. v +ℤ entry (length (column z (differences f ps))) row.weights *ℤ entry z (minus q f)) (dot_take row.weights (column z (differences f ps)))
    ∙ (rw (l, entry_minus z q f) refl)

rest_long : (n : ℕ) (l : Line) → length l.weights ≡ suc n → length (read_rest n l) ≡ n
rest_long n l e = length-map (take n l.weights) (turned (entry n l.weights)) ∙ length-take n l.weights ∙ (omega (arith, e))

-- m and the weights that a row which comes to 0 gives
read_is : (columns : ℕ) (f q : List ℤ) (ps : List (List ℤ)) (row : Line) → length f ≡ columns → Each (λ p. length p ≡ columns) ps → length q ≡ columns
    → length row.weights ≡ suc (length ps) → Spans (differences f ps ++ minus q f ∷ []) row → ¬ (entry (length ps) row.weights ≡ pos 0) → IsZero row.coords
    → IsCombination q (read_m (length ps) row) (read_weights (length ps) row) (f ∷ ps)
read_is columns f q ps row fs all is long spans own zeros =
    let n = length ps in
    let t = entry n row.weights in
    let m = read_m n row in
    let rest = read_rest n row in
    let lr : length rest ≡ length ps = rest_long n row long in
    let at_column : (z : ℕ) → entry z (times m q) ≡ entry z (blend (read_weights n row) (f ∷ ps)) = λ z.
    let a = turned_away t (dot (take n row.weights) (column z (differences f ps))) (entry z q +ℤ neg_ℤ (entry z f)) (sym (zeros z) ∙ row_sum z f q ps row spans) in
    let b : dot rest (column z (differences f ps)) ≡ turned t (dot (take n row.weights) (column z (differences f ps))) = dot_turned t (take n row.weights) (column z (differences f ps)) in
    let c : dot rest (column z (differences f ps)) ≡ dot rest (column z ps) +ℤ neg_ℤ (total rest *ℤ entry z f) = dot_differences z f rest ps lr in
    let d : m *ℤ (entry z q +ℤ neg_ℤ (entry z f)) ≡ m *ℤ entry z q +ℤ neg_ℤ (m *ℤ entry z f) = mul-add_ℤ m (entry z q) (neg_ℤ (entry z f)) ∙ ap (λ v. m *ℤ entry z q +ℤ v) (mul-neg_ℤ m (entry z f)) in
    entry_times z m q ∙ joined (m *ℤ entry z q) (m *ℤ entry z f) (total rest *ℤ entry z f) (dot rest (column z ps)) (sym d ∙ sym a ∙ sym b ∙ c) ∙ sym (pulled m (total rest) (entry z f) (dot rest (column z ps)))
    ∙ sym (entry_blend z (read_weights n row) (f ∷ ps)) in
    record {
      nonzero = size_nonzero t own;
      lengths = ap suc lr;
      sum = omega (arith, ints);
      point = same_entries (times m q) (blend (read_weights n row) (f ∷ ps)) (length-map q _ ∙ is ∙ sym (length_blend columns (m -ℤ total rest) rest f ps fs all)) at_column;
    }
  where
    joined : (a b c d : ℤ) → a +ℤ neg_ℤ b ≡ d +ℤ neg_ℤ c → a ≡ b +ℤ neg_ℤ c +ℤ d
    joined a b c d e = omega (arith, ints, e)

-- the content of numbers divided by their content is 1
least_divisor : (k g : ℕ) (xs : List ℤ) → 0 < g → DividesEach g xs → DividesEach k (floored (pos g) xs) → DividesEach (g * k) xs
least_divisor k g [] h d e = tt
least_divisor k g (x ∷ xs) h d e =
    (rw (floor_exact x g h d.0, unsigned_abs-mul (pos g) (int_div_euclid x (pos g))) (mul-dvd-mul_left k g e.0), least_divisor k g xs h d.1 e.1)

pub floored_least : (k : ℕ) (xs : List ℤ) → 0 < content xs → DividesEach k (floored (pos (content xs)) xs) → k ≡ 1
floored_least k xs h d =
    let g = content xs in
    let e = least_divisor k g xs h (gcd_all_divides 0 xs).1 d in
    let f : (g * k) ∣ g = divides_gcd_all (g * k) 0 xs (dvd-zero (g * k)) e in
    let j : g * k ≤ g = le_of_dvd h f in
    small k g h j f
  where
    small : (k g : ℕ) → 0 < g → g * k ≤ g → (g * k) ∣ g → k ≡ 1
    small zero g h j f = absurd (omega (arith, eq-zero_of_zero-dvd (none g f)))
      where
        none : (g : ℕ) → (g * 0) ∣ g → 0 ∣ g
        none g f = rw mul-zero at f
    small (suc zero) g h j f = refl
    small (suc (suc k)) g h j f = absurd (omega (arith, j, mul-le-mul_left g (two k)))
      where
        two : (k : ℕ) → 2 ≤ suc (suc k)
        two k = omega arith

module _ (columns : ℕ) (f : List ℤ) (ps : List (List ℤ)) (ls : List Line) (e : Eliminates columns (differences f ps) ls) (fs : length f ≡ columns) (all : Each (λ p. length p ≡ columns) ps)
    (q : List ℤ) (is : length q ≡ columns) where
  pub read_combination : IsZero (next_line ls (minus q f)).coords → IsCombination q (read_m (length ps) (next_line ls (minus q f))) (read_weights (length ps) (next_line ls (minus q f))) (f ∷ ps)
  read_combination zeros =
      let x = next columns f ps ls e q is fs in
      let n : length (differences f ps) ≡ length ps = length-map ps _ in
      let long : length (next_line ls (minus q f)).weights ≡ suc (length ps) = rw n at x.weights in
      let own : ¬ (entry (length ps) (next_line ls (minus q f)).weights ≡ pos 0) = rw n at x.own in
      read_is columns f q ps (next_line ls (minus q f)) fs all is long x.spans own zeros

  -- reduction decides the hull
  pub hull_is_zero : InHull (f ∷ ps) q ↔ IsZero (next_line ls (minus q f)).coords
  hull_is_zero = (
    (λ h. hull_zero columns f ps ls e q is fs h),
    (λ z. (read_m (length ps) (next_line ls (minus q f)), read_weights (length ps) (next_line ls (minus q f)), read_combination z)),
  )

  equality_is : (z : ℕ) → IsFree ls z → (value_at (equality_of columns ls f z) q ≡ pos 0) ↔ (dot (coefs_of columns ls z) (minus q f) ≡ pos 0)
  equality_is z free =
      let v = coefs_of columns ls z in
      let g = content_positive z v (coefs_own columns f ps ls e z free) in
      let d = dot-floored (content v) v (minus q f) g (gcd_all_divides 0 v).1 in
      let m = dot_minus (least_coefs columns ls z) q f in
      ((λ h. d ∙ (rw (m ∙ h) (omega (arith, ints)))), (λ h. sym m ∙ zero_factor (content v) _ g (sym d ∙ h)))

  -- the points of the equalities are exactly the hull
  pub hull_is_equalities : InHull (f ∷ ps) q ↔ ((z : ℕ) → z < columns → IsFree ls z → value_at (equality_of columns ls f z) q ≡ pos 0)
  hull_is_equalities = (
    (λ h z l free. (equality_is z free).1 (hull_kills (coefs_of columns ls z) f q ps (coefs_kill_differences columns f ps ls e z l) h)),
    (λ h. hull_is_zero.1 (all_zero columns f ps ls e q is fs (λ z l free. (equality_is z free).0 (h z l free)))),
  )
