-- Conditions whose comparisons are decided by their rows: where they hold, where they fail, and no point in two pieces.
use Rattle.std.proofs.Common.{◌≡◌, ◌↔◌, ◌⊎◌, inl, inr, ℕ, ℤ, pos, ◌≤ℤ◌, List, [], ◌∷◌, ◌++◌, map, Bool, true, false, ◌&&◌, get_or, refl, unsigned_abs}
use Rattle.std.specs.List.{AllByRecursion, list_all, flat_map}
use Rattle.std.specs.Int.{int_div_euclid}
use Rattle.ac_base.specs.Multiple.{divides}
use Rattle.ac_forms.specs.Affine.{Affine, value_at}
use Rattle.ac_forms.specs.PieceMembership.{IsInSome, IsInOneAtMost}
use Rattle.ac_forms.specs.Rows.{Holds, Meets}
use Rattle.ac_forms.specs.declared.row.Row.{Row}
use Rattle.ac_forms.proofs.InPieces.{some-append, none-or, none-of}
use Rattle.ac_syntax.specs.Index.{is_nonnegative, is_zero}
use Rattle.ac_poly_quotients.specs.ComparisonWays.{Decides, IsApart, row_of, way_of_bound, way_of_zero, way_of_multiple, with_each, failing_by}
use Rattle.ac_poly_quotients.specs.QuotientRows.{multiple_row, other_row}
use Rattle.ac_poly_quotients.specs.declared.types.Way.{Way}
use Rattle.ac_poly_quotients.proofs.HeldRows.{one_row, nonneg, negative, zero_is, zero_not, below_holds, above_holds}
use Rattle.ac_poly_quotients.proofs.Multiples.{multiple_tests, other_tests, never_both}
use Rattle.ac_poly_quotients.proofs.PlacedPieces.{one_or_more}

or_right : {A B V C D : Type 0} → A ↔ (V × C) → B ↔ (V × D) → (A ⊎ B) ↔ (V × (C ⊎ D))
or_right {A} {B} {V} {C} {D} a b = (to, (λ t. from t.0 t.1))
  where
    to : A ⊎ B → V × (C ⊎ D)
    to (inl t) = let r = a.0 t in (r.0, inl r.1)
    to (inr t) = let r = b.0 t in (r.0, inr r.1)

    from : V → C ⊎ D → A ⊎ B
    from v (inl t) = inl (a.1 (v, t))
    from v (inr t) = inr (b.1 (v, t))

-- a piece with one of the rows each
pub with_each_meets : (q : List Row) (rs : List Row) (p : List ℤ) → IsInSome Meets (with_each q rs) p ↔ (Meets q p × IsInSome Holds rs p)
with_each_meets q [] p = ((λ h. absurd h), (λ h. absurd h.1))
with_each_meets q (r ∷ rs) p = or_right (one_row q r p) (with_each_meets q rs p)

-- one row alone
one_or_none : {A B : Type 0} → A ↔ B → (A ⊎ ⊥) ↔ B
one_or_none {A} {B} a = (to, (λ b. inl (a.1 b)))
  where
    to : A ⊎ ⊥ → B
    to (inl x) = a.0 x
    to (inr x) = absurd x

-- one of two rows
one_of_two : {A B C D : Type 0} → A ↔ C → B ↔ D → (A ⊎ (B ⊎ ⊥)) ↔ (C ⊎ D)
one_of_two {A} {B} {C} {D} a b = (to, from)
  where
    to : A ⊎ (B ⊎ ⊥) → C ⊎ D
    to (inl x) = inl (a.0 x)
    to (inr (inl x)) = inr (b.0 x)
    to (inr (inr x)) = absurd x

    from : C ⊎ D → A ⊎ (B ⊎ ⊥)
    from (inl x) = inl (a.1 x)
    from (inr x) = inr (inl (b.1 x))

turned : {A B : Type 0} → A ↔ B → B ↔ A
turned a = (a.1, a.0)

through : {A B C : Type 0} → A ↔ B → B ↔ C → A ↔ C
through a b = ((λ x. b.0 (a.0 x)), (λ x. a.1 (b.1 x)))

-- a form that is to be at least 0
pub bound_decides : (f : Affine) (p : List ℤ) → Decides (way_of_bound f) (is_nonnegative (value_at f p)) p
bound_decides f p = record { holds = turned (nonneg (value_at f p)); fails = through (one_or_none (below_holds f p)) (turned (negative (value_at f p))) }

-- one that is to be 0
pub zero_decides : (f : Affine) (p : List ℤ) → Decides (way_of_zero f) (is_zero (value_at f p)) p
zero_decides f p = record { holds = turned (zero_is (value_at f p)); fails = through (one_of_two (above_holds f p) (below_holds f p)) (turned (zero_not (value_at f p))) }

-- divisibility
pub multiple_decides : (k : ℕ) (m : ℤ) (e : Affine) (p : List ℤ) → pos 1 ≤ℤ m → get_or p k (pos 0) ≡ int_div_euclid (value_at e p) m → Decides (way_of_multiple k m e) (divides (unsigned_abs m) (value_at e p)) p
multiple_decides k m e p h q =
    let a = other_tests k m e p h q in
    record { holds = multiple_tests k m e p h q; fails = (to, (λ i. inl (a.1 i))) }
  where
    to : Holds (other_row k m e) p ⊎ ⊥ → divides (unsigned_abs m) (value_at e p) ≡ false
    to (inl i) = (other_tests k m e p h q).0 i
    to (inr i) = absurd i

pub multiple_apart : (k : ℕ) (m : ℤ) (e : Affine) → IsApart (way_of_multiple k m e)
multiple_apart k m e = record { once = λ p. ((λ _. tt), tt); never = never }
  where
    never : (p : List ℤ) → Holds (other_row k m e) p ⊎ ⊥ → ¬ Holds (multiple_row k m e) p
    never p (inl i) h = never_both k m e p h i
    never p (inr i) h = absurd i

both : (a b : Bool) → (a && b) ≡ true → (a ≡ true) × (b ≡ true)
both true b h = (refl, h)
both false b h = absurd (let k : false ≡ true = h in cc)

joined : (a b : Bool) → a ≡ true → b ≡ true → (a && b) ≡ true
joined true b h g = g
joined false b h g = absurd (let k : false ≡ true = h in cc)

-- a point meets the rows exactly where all comparisons hold
pub ways_meet : {C : Type 0} (way : C → Way) (test : C → Bool) (cs : List C) (p : List ℤ) → AllByRecursion (λ c. Decides (way c) (test c) p) cs → Meets (map (λ c. row_of (way c)) cs) p ↔ (list_all test cs ≡ true)
ways_meet way test [] p d = ((λ _. refl), (λ _. tt))
ways_meet way test (c ∷ cs) p d =
    let a = d.0.holds in
    let b = ways_meet way test cs p d.1 in
    ((λ m. joined (test c) (list_all test cs) (a.0 m.0) (b.0 m.1)), (λ h. let e = both (test c) (list_all test cs) h in (a.1 e.0, b.1 e.1)))

-- the first of two tests fails, or it holds and the second fails
one_fails : {S A B M : Type 0} (t l : Bool) → S ↔ (A ⊎ B) → A ↔ (M × (t ≡ false)) → B ↔ ((M × (t ≡ true)) × (l ≡ false)) → S ↔ (M × ((t && l) ≡ false))
one_fails {S} {A} {B} {M} true l s a b = ((λ x. to (s.0 x)), (λ m. s.1 (inr (b.1 ((m.0, refl), m.1)))))
  where
    to : A ⊎ B → M × (l ≡ false)
    to (inl x) = absurd (let k : true ≡ false = (a.0 x).1 in cc)
    to (inr x) = let r = b.0 x in (r.0.0, r.1)
one_fails {S} {A} {B} {M} false l s a b = ((λ x. to (s.0 x)), (λ m. s.1 (inl (a.1 (m.0, refl)))))
  where
    to : A ⊎ B → M × (false ≡ false)
    to (inl x) = ((a.0 x).0, refl)
    to (inr x) = absurd (let k : false ≡ true = (b.0 x).0.1 in cc)

within : {M H T : Type 0} → H ↔ T → (M × H) ↔ (M × T)
within h = ((λ x. (x.0, h.0 x.1)), (λ x. (x.0, h.1 x.1)))

before : {M H T : Type 0} → H ↔ T → (H × M) ↔ (T × M)
before h = ((λ x. (h.0 x.0, x.1)), (λ x. (h.1 x.0, x.1)))

-- it is in one of the pieces of the negation exactly where one fails
pub ways_fail : {C : Type 0} (way : C → Way) (test : C → Bool) (cs : List C) (q : List Row) (p : List ℤ) → AllByRecursion (λ c. Decides (way c) (test c) p) cs
    → IsInSome Meets (failing_by (map way cs) q) p ↔ (Meets q p × (list_all test cs ≡ false))
ways_fail way test [] q p d = ((λ s. absurd s), (λ m. absurd (let k : true ≡ false = m.1 in cc)))
ways_fail way test (c ∷ cs) q p d =
    let next : List Row = q ++ row_of (way c) ∷ [] in
    let a = some-append Meets (with_each q (way c).negations) (failing_by (map way cs) next) p in
    let now = through (with_each_meets q (way c).negations p) (within d.0.fails) in
    let later = through (ways_fail way test cs next p d.1) (before (through (one_row q (row_of (way c)) p) (within d.0.holds))) in
    one_fails (test c) (list_all test cs) a now later

pub pieces_fail : {C : Type 0} (way : C → Way) (test : C → Bool) (cs : List C) (qs : List (List Row)) (p : List ℤ) → AllByRecursion (λ c. Decides (way c) (test c) p) cs
    → IsInSome Meets (flat_map (failing_by (map way cs)) qs) p ↔ (IsInSome Meets qs p × (list_all test cs ≡ false))
pieces_fail way test cs [] p d = ((λ s. absurd s), (λ m. absurd m.0))
pieces_fail way test cs (q ∷ qs) p d =
    through (some-append Meets (failing_by (map way cs) q) (flat_map (failing_by (map way cs)) qs) p) (one_or_more (ways_fail way test cs q p d) (pieces_fail way test cs qs p d))

-- ---- no point in two pieces

append-once : (xs ys : List (List Row)) (p : List ℤ) → IsInOneAtMost Meets xs p → IsInOneAtMost Meets ys p → (IsInSome Meets xs p → ¬ IsInSome Meets ys p) → IsInOneAtMost Meets (xs ++ ys) p
append-once [] ys p a b n = b
append-once (x ∷ xs) ys p a b n = (
  (λ m. none-of Meets (xs ++ ys) p (λ s. elim ((some-append Meets xs ys p).0 s) [ inl u ↦ none-or Meets xs p (a.0 m) u | inr u ↦ n (inl m) u ])),
  append-once xs ys p a.1 b (λ u. n (inr u)),
)

each-once : (q rs : List Row) (p : List ℤ) → IsInOneAtMost Holds rs p → IsInOneAtMost Meets (with_each q rs) p
each-once q [] p a = tt
each-once q (r ∷ rs) p a =
    ((λ m. none-of Meets (with_each q rs) p (λ s. none-or Holds rs p (a.0 ((one_row q r p).0 m).1) ((with_each_meets q rs p).0 s).1)), each-once q rs p a.1)

ways-in : (ws : List Way) (q : List Row) (p : List ℤ) → IsInSome Meets (failing_by ws q) p → Meets q p
ways-in [] q p s = absurd s
ways-in (w ∷ ws) q p s = elim ((some-append Meets (with_each q w.negations) (failing_by ws (q ++ row_of w ∷ [])) p).0 s) [
  | inl a ↦ ((with_each_meets q w.negations p).0 a).0
  | inr b ↦ ((one_row q (row_of w) p).0 (ways-in ws (q ++ row_of w ∷ []) p b)).0
]

ways-once : (ws : List Way) (q : List Row) (p : List ℤ) → AllByRecursion IsApart ws → IsInOneAtMost Meets (failing_by ws q) p
ways-once [] q p h = tt
ways-once (w ∷ ws) q p h =
    append-once (with_each q w.negations) (failing_by ws (q ++ row_of w ∷ [])) p (each-once q w.negations p (h.0.once p)) (ways-once ws (q ++ row_of w ∷ []) p h.1)
    (λ a b. h.0.never p ((with_each_meets q w.negations p).0 a).1 ((one_row q (row_of w) p).0 (ways-in ws (q ++ row_of w ∷ []) p b)).1)

all-in : (ws : List Way) (qs : List (List Row)) (p : List ℤ) → IsInSome Meets (flat_map (failing_by ws) qs) p → IsInSome Meets qs p
all-in ws [] p s = s
all-in ws (q ∷ qs) p s = elim ((some-append Meets (failing_by ws q) (flat_map (failing_by ws) qs) p).0 s) [ inl a ↦ inl (ways-in ws q p a) | inr b ↦ inr (all-in ws qs p b) ]

pub pieces_once : (ws : List Way) (qs : List (List Row)) (p : List ℤ) → AllByRecursion IsApart ws → IsInOneAtMost Meets qs p → IsInOneAtMost Meets (flat_map (failing_by ws) qs) p
pieces_once ws [] p h a = tt
pieces_once ws (q ∷ qs) p h a =
    append-once (failing_by ws q) (flat_map (failing_by ws) qs) p (ways-once ws q p h) (pieces_once ws qs p h a.1) (λ s t. none-or Meets qs p (a.0 (ways-in ws q p s)) (all-in ws qs p t))
