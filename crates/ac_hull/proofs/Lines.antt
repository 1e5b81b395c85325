-- What one reduction of a row does: lengths, zeros, its own weight, and that it stays the combination that its weights say.
use Rattle.std.proofs.Common.{◌≡◌, ℕ, zero, suc, ◌<◌, ◌≤◌, ℤ, pos, negsuc, ◌+ℤ◌, ◌*ℤ◌, neg_ℤ, List, [], ◌∷◌, ◌++◌, length, replicate, refl, ap, sym, ◌∙◌, arith, unsigned_abs}
use Rattle.std.proofs.lemmas.Int.{ints}
use Rattle.std.proofs.lemmas.List.{length-map, length-replicate, map-append}
use Rattle.std.proofs.Math.Nat.{eq-zero_of_zero-dvd}
use Rattle.std.proofs.Math.Seq.{get_or-append_seam}
use Rattle.ac_base.specs.Dot.{dot, mix, floored}
use Rattle.ac_base.specs.Gcd.{content, DividesEach}
use Rattle.ac_base.proofs.Columns.{get_or-mix}
use Rattle.ac_base.proofs.Divisors.{gcd_all_divides}
use Rattle.ac_base.proofs.Dot.{dot-mix, dot-append, dot-append_both}
use Rattle.ac_base.proofs.Floor.{dot-floored}
use Rattle.ac_base.proofs.Products.{mul_comm_ℤ, neg-mul_ℤ, mul-add_ℤ, mul-neg_ℤ}
use Rattle.ac_base.proofs.Residues.{zero_factor}
use Rattle.ac_widen.specs.Combinations.{Each}
use Rattle.ac_hull.specs.FractionFreeElimination.{entry, column_of, pivot_of, reduced_by, reduced_all, lowered, fresh}
use Rattle.ac_hull.specs.declared.line.Line.{Line}
use Rattle.ac_hull.proofs.Entries.{column, entry_floored, entry_past, product_nonzero}

-- lengths
pub length_mix : (k : ℤ) (a : List ℤ) (l : ℤ) (b : List ℤ) (n : ℕ) → length a ≡ n → length b ≤ n → length (mix k a l b) ≡ n
length_mix k [] l [] n e h = e
length_mix k [] l (y ∷ ys) n e h = absurd (omega arith)
length_mix k (x ∷ xs) l [] zero e h = absurd (omega (arith, e))
length_mix k (x ∷ xs) l [] (suc n) e h = ap suc (length_mix k xs l [] n (omega (arith, e)) (omega arith))
length_mix k (x ∷ xs) l (y ∷ ys) zero e h = absurd (omega (arith, e))
length_mix k (x ∷ xs) l (y ∷ ys) (suc n) e h = ap suc (length_mix k xs l ys n (omega (arith, e)) (omega arith))

-- the content divides each part
divides_parts : (k : ℕ) (a b : List ℤ) → DividesEach k (a ++ b) → DividesEach k a × DividesEach k b
divides_parts k [] b d = (tt, d)
divides_parts k (x ∷ a) b d = let r = divides_parts k a b d.1 in ((d.0, r.0), r.1)

divides_entry : (k z : ℕ) (xs : List ℤ) → DividesEach k xs → ¬ (entry z xs ≡ pos 0) → 0 < k
divides_entry k z [] d n = absurd (n refl)
divides_entry k (suc z) (x ∷ xs) d n = divides_entry k z xs d.1 n
divides_entry (suc k) zero (x ∷ xs) d n = omega arith
divides_entry zero zero (x ∷ xs) d n = absurd (n (zero_size x (eq-zero_of_zero-dvd d.0)))
  where
    zero_size : (x : ℤ) → unsigned_abs x ≡ 0 → x ≡ pos 0
    zero_size (pos x) e = ap pos e
    zero_size (negsuc x) e = absurd (omega (arith, e))

pub content_positive : (z : ℕ) (xs : List ℤ) → ¬ (entry z xs ≡ pos 0) → 0 < content xs
content_positive z xs n = divides_entry (content xs) z xs (gcd_all_divides 0 xs).1 n

pub content_parts : (a b : List ℤ) → DividesEach (content (a ++ b)) a × DividesEach (content (a ++ b)) b
content_parts a b = divides_parts (content (a ++ b)) a b (gcd_all_divides 0 (a ++ b)).1

cancel : (k : ℕ) (x y : ℤ) → 0 < k → pos k *ℤ x ≡ pos k *ℤ y → x ≡ y
cancel k x y h e =
    let z = zero_factor k (x +ℤ neg_ℤ y) h (omega (arith, ints, mul-add_ℤ (pos k) x (neg_ℤ y), mul-neg_ℤ (pos k) y, e)) in
    omega (arith, ints, z)

-- the row is the combination of the differences that its weights say
abbrev pub Spans : List (List ℤ) → Line → Type 0
Spans ds l = (z : ℕ) → entry z l.coords ≡ dot l.weights (column z ds)

pub spans_reduced : (ds : List (List ℤ)) (o l : Line) → Spans ds o → Spans ds l → Spans ds (reduced_by o l)
spans_reduced ds o l h g z =
    let p = pivot_of o in
    let r = neg_ℤ (entry (column_of o) l.coords) in
    get_or-mix p l.coords r o.coords z ∙ ap (λ v. p *ℤ v +ℤ r *ℤ entry z o.coords) (g z) ∙ ap (λ v. p *ℤ dot l.weights (column z ds) +ℤ r *ℤ v) (h z)
    ∙ sym (dot-mix p l.weights r o.weights (column z ds))

pub spans_all : (ds : List (List ℤ)) (os : List Line) (l : Line) → Each (Spans ds) os → Spans ds l → Spans ds (reduced_all os l)
spans_all ds [] l h g = g
spans_all ds (o ∷ os) l h g = spans_all ds os (reduced_by o l) h.1 (spans_reduced ds o l h.0 g)

pub spans_lowered : (ds : List (List ℤ)) (l : Line) → 0 < content (l.coords ++ l.weights) → Spans ds l → Spans ds (lowered l)
spans_lowered ds l h g z =
    let k = content (l.coords ++ l.weights) in
    let d = content_parts l.coords l.weights in
    cancel k (entry z (floored (pos k) l.coords)) (dot (floored (pos k) l.weights) (column z ds)) h
    (sym (entry_floored z k l.coords h d.0) ∙ g z ∙ dot-floored k l.weights (column z ds) h d.1)

pub spans_grow : (ds : List (List ℤ)) (d : List ℤ) (l : Line) → length l.weights ≤ length ds → Spans ds l → Spans (ds ++ d ∷ []) l
spans_grow ds d l h g z =
    g z ∙ sym (dot-append l.weights (column z ds) (column z (d ∷ [])) (rw (length-map ds (entry z)) h)) ∙ ap (dot l.weights) (sym (map-append (entry z) ds (d ∷ [])))

dot_zeros : (n : ℕ) (xs : List ℤ) → dot (replicate n (pos 0)) xs ≡ pos 0
dot_zeros zero xs = refl
dot_zeros (suc n) [] = refl
dot_zeros (suc n) (x ∷ xs) = rw (dot_zeros n xs) (omega (arith, ints))

pub spans_fresh : (ds : List (List ℤ)) (d : List ℤ) → Spans (ds ++ d ∷ []) (fresh (length ds) d)
spans_fresh ds d z =
    sym (ap (dot (replicate (length ds) (pos 0) ++ pos 1 ∷ [])) (map-append (entry z) ds (d ∷ []))
    ∙ dot-append_both (replicate (length ds) (pos 0)) (pos 1 ∷ []) (column z ds) (column z (d ∷ [])) (length-replicate (length ds) (pos 0) ∙ sym (length-map ds (entry z)))
    ∙ (rw (dot_zeros (length ds) (column z ds)) (omega (arith, ints))))

-- zeros
pub zero_reduced : (z : ℕ) (o l : Line) → entry z o.coords ≡ pos 0 → entry z l.coords ≡ pos 0 → entry z (reduced_by o l).coords ≡ pos 0
zero_reduced z o l h g =
    get_or-mix (pivot_of o) l.coords (neg_ℤ (entry (column_of o) l.coords)) o.coords z ∙ (rw (h, g) (omega (arith, ints)))

pub zero_stays : (z : ℕ) (os : List Line) (l : Line) → Each (λ o. entry z o.coords ≡ pos 0) os → entry z l.coords ≡ pos 0 → entry z (reduced_all os l).coords ≡ pos 0
zero_stays z [] l h g = g
zero_stays z (o ∷ os) l h g = zero_stays z os (reduced_by o l) h.1 (zero_reduced z o l h.0 g)

pub zero_at_pivot : (o l : Line) → entry (column_of o) (reduced_by o l).coords ≡ pos 0
zero_at_pivot o l =
    get_or-mix (pivot_of o) l.coords (neg_ℤ (entry (column_of o) l.coords)) o.coords (column_of o)
    ∙ (let e = neg-mul_ℤ (entry (column_of o) l.coords) (pivot_of o) in omega (arith, ints, e, mul_comm_ℤ (entry (column_of o) l.coords) (pivot_of o)))

pub zero_lowered : (z : ℕ) (l : Line) → 0 < content (l.coords ++ l.weights) → entry z l.coords ≡ pos 0 → entry z (lowered l).coords ≡ pos 0
zero_lowered z l h g =
    zero_factor (content (l.coords ++ l.weights)) _ h (sym (entry_floored z (content (l.coords ++ l.weights)) l.coords h (content_parts l.coords l.weights).0) ∙ g)

-- the weight of a row for itself, which the others don't have
abbrev pub Own : ℕ → Line → Type 0
Own n l = ¬ (entry n l.weights ≡ pos 0)

pub own_fresh : (n : ℕ) (d : List ℤ) → Own n (fresh n d)
own_fresh n d e =
    let s = get_or-append_seam (replicate n (pos 0)) (pos 1) [] (pos 0) in
    let t : entry n (replicate n (pos 0) ++ pos 1 ∷ []) ≡ pos 1 = rw (length-replicate n (pos 0)) at s in
    absurd (omega (arith, ints, sym t ∙ e))

pub own_reduced : (n : ℕ) (o l : Line) → length o.weights ≤ n → ¬ (pivot_of o ≡ pos 0) → Own n l → Own n (reduced_by o l)
own_reduced n o l h p g e =
    let m = get_or-mix (pivot_of o) l.weights (neg_ℤ (entry (column_of o) l.coords)) o.weights n in
    let past = entry_past n o.weights h in
    let r = neg_ℤ (entry (column_of o) l.coords) in
    let f : r *ℤ entry n o.weights ≡ r *ℤ pos 0 = ap (λ v. r *ℤ v) past in
    let a : entry n (mix (pivot_of o) l.weights r o.weights) ≡ pos 0 = e in
    product_nonzero (pivot_of o) (entry n l.weights) p g (omega (arith, ints, a, f, m))

pub own_lowered : (n : ℕ) (l : Line) → 0 < content (l.coords ++ l.weights) → Own n l → Own n (lowered l)
own_lowered n l h g e =
    g (entry_floored n (content (l.coords ++ l.weights)) l.weights h (content_parts l.coords l.weights).1 ∙ (rw e (omega (arith, ints))))
