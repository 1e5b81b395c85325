-- The numbers of points in the columns of seats, and rows over the first columns.
use Rattle.std.proofs.Common.{◌≡◌, ℕ, zero, suc, ◌+◌, ◌≤◌, ℤ, pos, ◌≤ℤ◌, List, [], ◌∷◌, ◌++◌, length, take, drop, refl, sym, ap, ◌∙◌, subst, arith, length-append, append_assoc}
use Rattle.std.specs.Prelude.{slice_index_or}
use Rattle.std.specs.List.{range_with_len}
use Rattle.std.proofs.lemmas.List.{take-append-drop, length-take-le}
use Rattle.std.proofs.lemmas.List.FromFn.{length-map-range_with_len}
use Rattle.ac_base.specs.Multiple.{IsMultiple}
use Rattle.ac_forms.specs.Renaming.{picked}
use Rattle.ac_forms.specs.Rows.{Holds, Meets, AreRowsOver, form_of}
use Rattle.ac_forms.specs.declared.row.Row.{Row}
use Rattle.ac_forms.specs.declared.row.Row.TheVariants.{Eq, Div, Ge}
use Rattle.ac_forms.proofs.Values.{value_at-append}
use Rattle.ac_claims_paths.specs.PathColumns.{base, columns_of}
use Rattle.ac_claims_paths.specs.WellFormedPaths.{SeatIn}
use Rattle.ac_claims_paths.specs.declared.path.Seat.{Seat}
use Rattle.ac_claims_paths.proofs.Moving.{pick-append}
use Rattle.ac_claims_paths.proofs.OnPaths.{pick_more, pick_new, range_in}

-- ---- rows over the first columns

pub holds_front : (r : Row) (p more : List ℤ) → length (form_of r).coefs ≤ length p → Holds r (p ++ more) → Holds r p
holds_front (Ge f) p more l h = subst (λ z. pos 0 ≤ℤ z) (value_at-append f p more l) h
holds_front (Eq f) p more l h = sym (value_at-append f p more l) ∙ h
holds_front (Div m f) p more l h = subst (IsMultiple m) (value_at-append f p more l) h

pub meets_front : (rows : List Row) (n : ℕ) (p more : List ℤ) → n ≤ length p → AreRowsOver n rows → Meets rows (p ++ more) → Meets rows p
meets_front [] n p more l w h = tt
meets_front (r ∷ rows) n p more l w h = (holds_front r p more (omega (arith, w.0.0, l)) h.0, meets_front rows n p more l w.1 h.1)

-- ---- the numbers in some columns

pub range_append : (a m k : ℕ) → range_with_len a (m + k) ≡ range_with_len a m ++ range_with_len (a + m) k
range_append a zero k = let y : 0 + k ≡ k = omega arith in let z : a ≡ a + 0 = omega arith in λ i. range_with_len (z i) (y i)
range_append a (suc m) k =
    let y : suc m + k ≡ suc (m + k) = omega arith in
    let z : a + 1 + m ≡ a + suc m = omega arith in
    ap (range_with_len a) y ∙ ap (λ (ks : List ℕ). a ∷ ks) (range_append (a + 1) m k ∙ ap (λ (b : ℕ). range_with_len (a + 1) m ++ range_with_len b k) z)

pub front_and_rest : (n : ℕ) (p : List ℤ) → n ≤ length p → (take n p ++ drop n p ≡ p) × (length (take n p) ≡ n)
front_and_rest n p l = (take-append-drop n p, length-take-le n p l)

-- the first numbers
pub first_numbers : (n : ℕ) (p more : List ℤ) → length p ≡ n → picked (range_with_len 0 n) (p ++ more) ≡ p
first_numbers n p more l = pick_more (range_with_len 0 n) p more n l (range_in 0 n n (omega arith)) ∙ pick_new [] p 0 n refl l

pub base_numbers : (n : ℕ) (p : List ℤ) → n ≤ length p → picked (base n) p ≡ take n p
base_numbers n p l = let f = front_and_rest n p l in ap (picked (base n)) (sym f.0) ∙ first_numbers n (take n p) (drop n p) f.1

pub how_many : (seat : Seat) (p : List ℤ) → length (picked (columns_of seat) p) ≡ seat.width
how_many seat p = length-map-range_with_len (λ k. slice_index_or p k (pos 0)) seat.first seat.width

pub base_many : (n : ℕ) (p : List ℤ) → length (picked (base n) p) ≡ n
base_many n p = length-map-range_with_len (λ k. slice_index_or p k (pos 0)) 0 n

-- those of a pair of seats
pub pick_pair : (n : ℕ) (s t : Seat) (p : List ℤ) → picked (base n ++ (columns_of s ++ columns_of t)) p ≡ picked (base n) p ++ (picked (columns_of s) p ++ picked (columns_of t) p)
pick_pair n s t p = pick-append (base n) (columns_of s ++ columns_of t) p ∙ ap (λ (z : List ℤ). picked (base n) p ++ z) (pick-append (columns_of s) (columns_of t) p)

-- those of a seat
seat_numbers : (seat : Seat) (p : List ℤ) → SeatIn seat (length p) → picked (columns_of seat) p ≡ take seat.width (drop seat.first p)
seat_numbers seat p l =
    let f = front_and_rest seat.first p (omega (arith, l)) in
    let n : length p ≡ length (take seat.first p) + length (drop seat.first p) = ap length (sym f.0) ∙ length-append (take seat.first p) (drop seat.first p) in
    let g = front_and_rest seat.width (drop seat.first p) (omega (arith, l, n, f.1)) in
    let front : length (take seat.first p ++ take seat.width (drop seat.first p)) ≡ seat.first + seat.width = length-append (take seat.first p) (take seat.width (drop seat.first p)) ∙ (λ i. f.1 i + g.1 i) in
    let all : p ≡ (take seat.first p ++ take seat.width (drop seat.first p)) ++ drop seat.width (drop seat.first p) =
    sym f.0 ∙ ap (λ (z : List ℤ). take seat.first p ++ z) (sym g.0) ∙ sym (append_assoc (take seat.first p) (take seat.width (drop seat.first p)) (drop seat.width (drop seat.first p))) in
    ap (picked (columns_of seat)) all
    ∙ pick_more (columns_of seat) (take seat.first p ++ take seat.width (drop seat.first p)) (drop seat.width (drop seat.first p)) (seat.first + seat.width) front (range_in seat.first seat.width (seat.first + seat.width) (omega arith))
    ∙ pick_new (take seat.first p) (take seat.width (drop seat.first p)) seat.first seat.width f.1 g.1

pub points_are_numbers : (params : ℕ) (s t : Seat) (p : List ℤ) → params ≤ length p → SeatIn s (length p) → SeatIn t (length p)
    → picked (base params ++ (columns_of s ++ columns_of t)) p ≡ take params p ++ (take s.width (drop s.first p) ++ take t.width (drop t.first p))
points_are_numbers params s t p l k m = pick_pair params s t p ∙ (λ i. base_numbers params p l i ++ (seat_numbers s p k i ++ seat_numbers t p m i))
