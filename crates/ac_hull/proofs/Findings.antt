-- The template rows that points meet, one after another.
use Rattle.std.proofs.Common.{◌≡◌, ◌⊎◌, ◌↔◌, inl, inr, ℕ, ◌+◌, ◌<◌, ◌≤◌, ℤ, pos, List, [], ◌∷◌, ◌++◌, length, take, get_or, refl, ap, ◌∙◌, arith, unsigned_abs, Bool, true, false, ◌==◌}
use Rattle.std.proofs.lemmas.Bool.{cases_lt, eqb-true, eqb-false}
use Rattle.std.proofs.lemmas.List.{take_more, take_all}
use Rattle.ac_forms.specs.ListMembers.{IsAmong}
use Rattle.ac_hull.specs.ColumnDifferences.{AllMeetRow, IsOfPair, bound, class_of}
use Rattle.ac_hull.specs.HullInternals.Finding.{AddsBounds, AddsClasses, AddsModuli, AddsRow}
use Rattle.ac_hull.specs.declared.difference.Difference.{Difference}
use Rattle.ac_hull.proofs.Among.{among_front, among_back, among_parts}

pub row_out : (points : List (List ℤ)) (row : Difference) (old : List Difference) → ¬ (AllMeetRow points row) → AddsRow points row old old
row_out points row old n d = ((λ a. inl a), (λ x. elim x [ inl a ↦ a | inr k ↦ absurd (n (rw k.0 at k.1)) ]))

pub row_in : (points : List (List ℤ)) (row : Difference) (old new : List Difference) → AllMeetRow points row → new ≡ old ++ row ∷ [] → AddsRow points row old new
row_in points row old new m e d = rw e (
  (λ a. elim (among_parts d old (row ∷ []) a) [ inl b ↦ inl b | inr b ↦ elim b [ inl f ↦ inr (f, rw f m) | inr z ↦ absurd z ] ]),
  (λ x. elim x [ inl a ↦ among_front d old (row ∷ []) a | inr k ↦ among_back d old (row ∷ []) (inl k.0) ]),
)

pub ruleset row_steps = (row_out, row_in)

pub bounds_start : (points : List (List ℤ)) (s t : ℕ) (old : List Difference) (cs : List ℤ) → AddsBounds points (take 0 cs) s t old old
bounds_start points s t old cs d = ((λ a. inl a), (λ x. elim x [ inl a ↦ a | inr k ↦ absurd k.0.1 ]))

pub bounds_step : (points : List (List ℤ)) (s t : ℕ) (old made new : List Difference) (cs : List ℤ) (i : ℕ) → AddsBounds points (take i cs) s t old made → i < length cs → AddsRow points (bound s t (get_or cs i (pos 0))) made new
    → AddsBounds points (take (i + 1) cs) s t old new
bounds_step points s t old made new cs i h l r d =
    let e = take_more cs i (pos 0) l in
    rw e (
      (λ a. elim ((r d).0 a) [
        | inl b ↦ elim ((h d).0 b) [ inl o ↦ inl o | inr k ↦ inr ((k.0.0, among_front k.0.0 (take i cs) (get_or cs i (pos 0) ∷ []) k.0.1, k.0.2), k.1) ]
        | inr k ↦ inr ((get_or cs i (pos 0), among_back (get_or cs i (pos 0)) (take i cs) (get_or cs i (pos 0) ∷ []) (inl refl), k.0), k.1)
      ]),
      (λ x. elim x [
        | inl o ↦ (r d).1 (inl ((h d).1 (inl o)))
        | inr k ↦ elim (among_parts k.0.0 (take i cs) (get_or cs i (pos 0) ∷ []) k.0.1) [
          | inl b ↦ (r d).1 (inl ((h d).1 (inr ((k.0.0, b, k.0.2), k.1))))
          | inr b ↦ elim b [ inl f ↦ (r d).1 (inr (k.0.2 ∙ ap (bound s t) f, k.1)) | inr z ↦ absurd z ]
        ]
      ]),
    )

pub bounds_end : (points : List (List ℤ)) (s t : ℕ) (old new : List Difference) (cs : List ℤ) (i : ℕ) → AddsBounds points (take i cs) s t old new → length cs ≤ i → AddsBounds points cs s t old new
bounds_end points s t old new cs i h l = rw (take_all i cs l) at h

pub classes_start : (points : List (List ℤ)) (m : ℤ) (s t : ℕ) (old : List Difference) → AddsClasses points m 0 s t old old
classes_start points m s t old d = ((λ a. inl a), (λ x. elim x [ inl a ↦ a | inr k ↦ (let l = k.0.1 in absurd (omega arith)) ]))

pub classes_step : (points : List (List ℤ)) (m : ℤ) (s t : ℕ) (old made new : List Difference) (n : ℕ) → AddsClasses points m n s t old made → AddsRow points (class_of s t m n) made new → AddsClasses points m (n + 1) s t old new
classes_step points m s t old made new n h r d = (
  (λ a. elim ((r d).0 a) [
    | inl b ↦ elim ((h d).0 b) [ inl o ↦ inl o | inr k ↦ (let l = k.0.1 in inr ((k.0.0, omega arith, k.0.2), k.1)) ]
    | inr k ↦ inr ((n, omega arith, k.0), k.1)
  ]),
  (λ x. elim x [
    | inl o ↦ (r d).1 (inl ((h d).1 (inl o)))
    | inr k ↦ elim (cases_lt k.0.0 n) [
      | inl b ↦ (r d).1 (inl ((h d).1 (inr ((k.0.0, b, k.0.2), k.1))))
      | inr b ↦ (let l = k.0.1 in let e : k.0.0 ≡ n = omega arith in (r d).1 (inr (k.0.2 ∙ ap (class_of s t m) e, k.1)))
    ]
  ]),
)

pub moduli_start : (points : List (List ℤ)) (s t : ℕ) (old : List Difference) (ms : List ℤ) → AddsModuli points (take 0 ms) s t old old
moduli_start points s t old ms d = ((λ a. inl a), (λ x. elim x [ inl a ↦ a | inr k ↦ absurd k.0.2 ]))

pub moduli_step : (points : List (List ℤ)) (s t : ℕ) (old made new : List Difference) (ms : List ℤ) (i : ℕ) → AddsModuli points (take i ms) s t old made → i < length ms
    → AddsClasses points (get_or ms i (pos 0)) (unsigned_abs (get_or ms i (pos 0))) s t made new → AddsModuli points (take (i + 1) ms) s t old new
moduli_step points s t old made new ms i h l r d =
    let e = take_more ms i (pos 0) l in
    rw e (
      (λ a. elim ((r d).0 a) [
        | inl b ↦ elim ((h d).0 b) [ inl o ↦ inl o | inr k ↦ inr ((k.0.0, k.0.1, among_front k.0.0 (take i ms) (get_or ms i (pos 0) ∷ []) k.0.2, k.0.3, k.0.4), k.1) ]
        | inr k ↦ inr ((get_or ms i (pos 0), k.0.0, among_back (get_or ms i (pos 0)) (take i ms) (get_or ms i (pos 0) ∷ []) (inl refl), k.0.1, k.0.2), k.1)
      ]),
      (λ x. elim x [
        | inl o ↦ (r d).1 (inl ((h d).1 (inl o)))
        | inr k ↦ elim (among_parts k.0.0 (take i ms) (get_or ms i (pos 0) ∷ []) k.0.2) [
          | inl b ↦ (r d).1 (inl ((h d).1 (inr ((k.0.0, k.0.1, b, k.0.3, k.0.4), k.1))))
          | inr b ↦ elim b [ inl f ↦ (let n : k.0.1 < unsigned_abs (get_or ms i (pos 0)) = rw f at k.0.3 in (r d).1 (inr ((k.0.1, n, k.0.4 ∙ ap (λ v. class_of s t v k.0.1) f), k.1))) | inr z ↦ absurd z ]
        ]
      ]),
    )

pub moduli_end : (points : List (List ℤ)) (s t : ℕ) (old new : List Difference) (ms : List ℤ) (i : ℕ) → AddsModuli points (take i ms) s t old new → length ms ≤ i → AddsModuli points ms s t old new
moduli_end points s t old new ms i h l = rw (take_all i ms l) at h

pub ruleset bound_steps = (bounds_start, bounds_step, bounds_end)

pub ruleset class_steps = (classes_start, classes_step)

pub ruleset moduli_steps = (moduli_start, moduli_step, moduli_end)

-- the rows of a pair: bounds where the columns differ, then classes where the first is before the second
pub pair_made : (points : List (List ℤ)) (thresholds moduli : List ℤ) (s t : ℕ) (bounds rows : List Difference) → (¬ (s ≡ t) → AddsBounds points thresholds s t [] bounds) → (s ≡ t → bounds ≡ [])
    → (s < t → AddsModuli points moduli s t bounds rows) → (t ≤ s → rows ≡ bounds) → (d : Difference) → IsAmong d rows ↔ (IsOfPair thresholds moduli s t d × AllMeetRow points d)
pair_made points thresholds moduli s t bounds rows f g h k d = ((λ a. to_pair a (cases_lt s t)), (λ x. from_pair x.0 x.1))
  where
    other : s < t → ¬ (s ≡ t)
    other l e = absurd (omega arith)

    of_bounds : IsAmong d bounds → IsOfPair thresholds moduli s t d × AllMeetRow points d
    of_bounds a = at (s == t) refl
      where
        at : (b : Bool) → (s == t) ≡ b → IsOfPair thresholds moduli s t d × AllMeetRow points d
        at true e = absurd (rw (g (eqb-true s t e)) at a)
        at false e = elim ((f (eqb-false s t e) d).0 a) [ inl z ↦ absurd z | inr q ↦ (inl (eqb-false s t e, q.0), q.1) ]

    to_pair : IsAmong d rows → (s < t) ⊎ (t ≤ s) → IsOfPair thresholds moduli s t d × AllMeetRow points d
    to_pair a (inl l) = elim ((h l d).0 a) [ inl b ↦ of_bounds b | inr q ↦ (inr (l, q.0), q.1) ]
    to_pair a (inr l) = of_bounds (rw (k l) at a)

    up : IsAmong d bounds → IsAmong d rows
    up b = elim (cases_lt s t) [ inl l ↦ (h l d).1 (inl b) | inr l ↦ rw (k l) b ]

    from_pair : IsOfPair thresholds moduli s t d → AllMeetRow points d → IsAmong d rows
    from_pair (inl q) m = up ((f q.0 d).1 (inr (q.1, m)))
    from_pair (inr q) m = (h q.0 d).1 (inr (q.1, m))

pub classes_end : (points : List (List ℤ)) (m : ℤ) (s t : ℕ) (old new : List Difference) (n : ℕ) → AddsClasses points m n s t old new → n ≡ unsigned_abs m → AddsClasses points m (unsigned_abs m) s t old new
classes_end points m s t old new n h e = rw e at h
