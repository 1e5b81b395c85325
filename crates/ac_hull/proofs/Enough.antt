-- The rows that a claim keeps are enough: all template rows that the points meet follow from them on the hull.
use Rattle.std.proofs.Common.{◌≡◌, ◌⊎◌, ◌↔◌, inl, inr, ℕ, zero, suc, ◌≤◌, ℤ, pos, negsuc, ◌+ℤ◌, ◌*ℤ◌, List, [], ◌∷◌, length, map, replicate, Option, Some, None, refl, ap, sym, ◌∙◌, arith}
use Rattle.std.specs.Prelude.{slice_set}
use Rattle.std.proofs.lemmas.Int.{ints}
use Rattle.std.proofs.lemmas.List.{length-map}
use Rattle.ac_base.specs.Dot.{dot, mix}
use Rattle.ac_forms.specs.Affine.{value_at}
use Rattle.ac_forms.specs.Rows.{Holds, Meets}
use Rattle.ac_forms.specs.declared.row.Row.{Row}
use Rattle.ac_forms.specs.ListMembers.{IsAmong}
use Rattle.ac_widen.specs.Combinations.{Each, InHull, IsCombination, blend, times}
use Rattle.ac_widen.specs.Narrowing.{narrowed}
use Rattle.ac_widen.specs.WideningLaws.{AreEnough}
use Rattle.ac_widen.specs.Walks.{narrowed_by}
use Rattle.ac_widen.proofs.Combining.{each_among, first_of_some}
use Rattle.ac_widen.proofs.Narrowings.{narrowed_among, among_narrowed}
use Rattle.ac_hull.specs.FractionFreeElimination.{entry}
use Rattle.ac_hull.specs.Templates.{difference, template_rows}
use Rattle.ac_hull.specs.ColumnDifferences.{gap, gap_of, HoldsWith, AllMeetRow, IsMetRow, IsOfPair, IsThin, bound, class_of, row_of, row_with}
use Rattle.ac_hull.specs.declared.difference.Difference.{Difference}
use Rattle.ac_hull.proofs.Comparing.{each_from}
use Rattle.ac_hull.proofs.Resting.{rests_hold}
use Rattle.ac_hull.proofs.Templating.{template_exact}

length_put : (cs : List ℤ) (z : ℕ) (v : ℤ) → length (slice_set cs z v) ≡ length cs
length_put [] z v = refl
length_put (c ∷ cs) zero v = refl
length_put (c ∷ cs) (suc z) v = ap suc (length_put cs z v)

length_zeros : (n : ℕ) → length (replicate n (pos 0)) ≡ n
length_zeros zero = refl
length_zeros (suc n) = ap suc (length_zeros n)

entry_zeros : (y n : ℕ) → entry y (replicate n (pos 0)) ≡ pos 0
entry_zeros y zero = refl
entry_zeros zero (suc n) = refl
entry_zeros (suc y) (suc n) = entry_zeros y n

entry_put : (cs : List ℤ) (z y : ℕ) (v : ℤ) → ¬ (y ≡ z) → entry y (slice_set cs z v) ≡ entry y cs
entry_put [] z y v n = refl
entry_put (c ∷ cs) zero zero v n = absurd (n refl)
entry_put (c ∷ cs) zero (suc y) v n = refl
entry_put (c ∷ cs) (suc z) zero v n = refl
entry_put (c ∷ cs) (suc z) (suc y) v n = entry_put cs z y v (λ e. n (ap suc e))

dot_zeros : (n : ℕ) (q : List ℤ) → dot (replicate n (pos 0)) q ≡ pos 0
dot_zeros zero q = refl
dot_zeros (suc n) [] = refl
dot_zeros (suc n) (x ∷ q) = let e = dot_zeros n q in omega (arith, ints, e)

dot_put : (cs : List ℤ) (z : ℕ) (v : ℤ) (q : List ℤ) → entry z cs ≡ pos 0 → length cs ≡ length q → dot (slice_set cs z v) q ≡ dot cs q +ℤ v *ℤ entry z q
dot_put [] z v [] e l = omega (arith, ints)
dot_put [] z v (x ∷ q) e l = absurd (omega arith)
dot_put (c ∷ cs) z v [] e l = absurd (omega arith)
dot_put (c ∷ cs) zero v (x ∷ q) e l = rw e (omega (arith, ints))
dot_put (c ∷ cs) (suc z) v (x ∷ q) e l = let f = dot_put cs z v q e (omega arith) in omega (arith, ints, f)

-- the value of a difference of two columns
pub value_gap : (columns s t : ℕ) (c : ℤ) (q : List ℤ) → length q ≡ columns → ¬ (s ≡ t) → value_at (difference columns s t c) q ≡ gap s t q +ℤ c
value_gap columns s t c q l n =
    let zeros = replicate columns (pos 0) in
    let a = dot_put (replicate columns (pos 0)) s (pos 1) q (entry_zeros s columns) (length_zeros columns ∙ sym l) in
    let other : entry t (slice_set (replicate columns (pos 0)) s (pos 1)) ≡ pos 0 = entry_put (replicate columns (pos 0)) s t (pos 1) (λ e. n (sym e)) ∙ entry_zeros t columns in
    let b = dot_put (slice_set (replicate columns (pos 0)) s (pos 1)) t (negsuc 0) q other (length_put (replicate columns (pos 0)) s (pos 1) ∙ length_zeros columns ∙ sym l) in
    omega (arith, ints, a, b, dot_zeros columns q)

-- the row holds where the difference does
pub holds_row : (columns : ℕ) (d : Difference) (q : List ℤ) → length q ≡ columns → ¬ (d.first ≡ d.second) → Holds (row_of columns d) q ↔ HoldsWith d.modulus (gap_of d q +ℤ d.constant)
holds_row columns d q l n = by_kind d.modulus (value_gap columns d.first d.second d.constant q l n)
  where
    by_kind : (o : Option ℤ) → value_at (difference columns d.first d.second d.constant) q ≡ gap_of d q +ℤ d.constant → Holds (row_with (difference columns d.first d.second d.constant) o) q ↔ HoldsWith o (gap_of d q +ℤ d.constant)
    by_kind None e = ((λ h. rw e at h), (λ h. rw e h))
    by_kind (Some m) e = ((λ h. rw e at h), (λ h. rw e h))

pair_apart : (thresholds moduli : List ℤ) (s t : ℕ) (d : Difference) → IsOfPair thresholds moduli s t d → ¬ (d.first ≡ d.second)
pair_apart thresholds moduli s t d (inl p) e = p.0 (sym (ap (λ x. x.first) p.1.2) ∙ e ∙ ap (λ x. x.second) p.1.2)
pair_apart thresholds moduli s t d (inr p) e =
    let l = p.0 in
    let f : s ≡ t = sym (ap (λ x. x.first) p.1.4) ∙ e ∙ ap (λ x. x.second) p.1.4 in
    absurd (omega arith)

module _ (columns : ℕ) (thresholds moduli : List ℤ) where
  -- a row of the template as a difference
  pub as_difference : (r : Row) → IsAmong r (template_rows columns thresholds moduli) → (d : Difference) × (r ≡ row_of columns d) × ((s : ℕ) × (t : ℕ) × (s ≤ columns) × (t ≤ columns) × IsOfPair thresholds moduli s t d)
  as_difference r a = elim ((template_exact columns thresholds moduli (template_rows columns thresholds moduli) refl r).0 a) [
    | inl b ↦ (bound b.0 b.1 b.2, b.7, (b.0, b.1, b.3, b.4, inl (b.5, (b.2, b.6, refl))))
    | inr b ↦ (class_of b.0 b.1 b.2 b.3, b.8, (let l = b.4 in let k = b.5 in (b.0, b.1, omega arith, b.5, inr (b.4, (b.2, b.3, b.6, b.7, refl)))))
  ]

  pub in_template : (s t : ℕ) (d : Difference) → s ≤ columns → t ≤ columns → IsOfPair thresholds moduli s t d → IsAmong (row_of columns d) (template_rows columns thresholds moduli)
  in_template s t d hs ht (inl p) = (template_exact columns thresholds moduli (template_rows columns thresholds moduli) refl (row_of columns d)).1 (inl (s, t, p.1.0, hs, ht, p.0, p.1.1, ap (row_of columns) p.1.2))
  in_template s t d hs ht (inr p) = (template_exact columns thresholds moduli (template_rows columns thresholds moduli) refl (row_of columns d)).1 (inr (s, t, p.1.0, p.1.1, p.0, ht, p.1.2, p.1.3, ap (row_of columns) p.1.4))

pub narrowed_all : (points : List (List ℤ)) (rows : List Row) (r : Row) → IsAmong r (narrowed_by rows points) → IsAmong r rows × Each (Holds r) points
narrowed_all [] rows r a = (a, tt)
narrowed_all (p ∷ points) rows r a =
    let h = narrowed_all points (narrowed rows p) r a in
    let k = narrowed_among rows p r h.0 in
    (k.0, (k.1, h.1))

pub all_narrowed : (points : List (List ℤ)) (rows : List Row) (r : Row) → IsAmong r rows → Each (Holds r) points → IsAmong r (narrowed_by rows points)
all_narrowed [] rows r a h = a
all_narrowed (p ∷ points) rows r a h = all_narrowed points (narrowed rows p) r (among_narrowed rows p r a h.0) h.1

-- a point of the hull is as long as the members
length_mix_with : (w : ℤ) (p : List ℤ) (xs : List ℤ) (n : ℕ) → length p ≡ n → (length xs ≡ n) ⊎ (xs ≡ []) → length (mix w p (pos 1) xs) ≡ n
length_mix_with w [] [] n e o = e
length_mix_with w (x ∷ p) [] n e o = rw (keep p) e
  where
    keep : (p : List ℤ) → length (mix w (x ∷ p) (pos 1) []) ≡ length (x ∷ p)
    keep [] = refl
    keep (y ∷ p) = ap suc (keep_rest (y ∷ p))
      where
        keep_rest : (p : List ℤ) → length (mix w p (pos 1) []) ≡ length p
        keep_rest [] = refl
        keep_rest (y ∷ p) = ap suc (keep_rest p)
length_mix_with w [] (y ∷ xs) n e (inl l) = absurd (omega arith)
length_mix_with w [] (y ∷ xs) n e (inr l) = absurd cc
length_mix_with w (x ∷ p) (y ∷ xs) zero e (inl l) = absurd (omega arith)
length_mix_with w (x ∷ p) (y ∷ xs) (suc n) e (inl l) = ap suc (length_mix_with w p xs n (omega arith) (inl (omega arith)))
length_mix_with w (x ∷ p) (y ∷ xs) n e (inr l) = absurd cc

blend_length : (n : ℕ) (ws : List ℤ) (ps : List (List ℤ)) → length ws ≡ length ps → Each (λ p. length p ≡ n) ps → (length (blend ws ps) ≡ n) ⊎ (blend ws ps ≡ [])
blend_length n [] [] l h = inr refl
blend_length n [] (p ∷ ps) l h = absurd (omega arith)
blend_length n (w ∷ ws) [] l h = absurd (omega arith)
blend_length n (w ∷ ws) (p ∷ ps) l h = inl (length_mix_with w p (blend ws ps) n h.0 (blend_length n ws ps (omega arith) h.1))

hull_length : (n : ℕ) (q : List ℤ) (m w : ℤ) (ws : List ℤ) (p : List ℤ) (ps : List (List ℤ)) → IsCombination q m (w ∷ ws) (p ∷ ps) → Each (λ p. length p ≡ n) (p ∷ ps) → length q ≡ n
hull_length n q m w ws p ps c h =
    let a : length (times m q) ≡ length q = length-map q (λ x. m *ℤ x) in
    let l = c.lengths in
    let b : length (blend (w ∷ ws) (p ∷ ps)) ≡ n = length_mix_with w p (blend ws ps) n h.0 (blend_length n ws ps (omega (arith, l)) h.1) in
    sym a ∙ ap length c.point ∙ b

among_map : (columns : ℕ) (ds : List Difference) (r : Row) → IsAmong r (map (row_of columns) ds) → (d : Difference) × IsAmong d ds × (r ≡ row_of columns d)
among_map columns [] r a = absurd a
among_map columns (d ∷ ds) r (inl e) = (d, inl refl, e)
among_map columns (d ∷ ds) r (inr a) = let x = among_map columns ds r a in (x.0, inr x.1, x.2)

meets_each : (columns : ℕ) (ds : List Difference) (q : List ℤ) → Meets (map (row_of columns) ds) q → Each (λ d. Holds (row_of columns d) q) ds
meets_each columns [] q m = tt
meets_each columns (d ∷ ds) q m = (m.0, meets_each columns ds q m.1)

module _ (columns : ℕ) (thresholds moduli : List ℤ) (found : List (List ℤ)) (kept : List Difference) (widths : Each (λ p. length p ≡ columns) found) (thin : IsThin found (IsMetRow columns thresholds moduli found) kept) where
  met_apart : (d : Difference) → IsMetRow columns thresholds moduli found d → ¬ (d.first ≡ d.second)
  met_apart d h = pair_apart thresholds moduli h.0.0 h.0.1 d h.0.4

  row_holds : (d : Difference) → ¬ (d.first ≡ d.second) → AllMeetRow found d → Each (Holds (row_of columns d)) found
  row_holds d n h = each_from (Holds (row_of columns d)) found (λ p a. (holds_row columns d p (each_among (λ p. length p ≡ columns) p found widths a) n).1 (each_among (λ p. HoldsWith d.modulus (gap_of d p +ℤ d.constant)) p found h a))

  holds_all : (d : Difference) → ¬ (d.first ≡ d.second) → Each (Holds (row_of columns d)) found → AllMeetRow found d
  holds_all d n h = each_from (λ p. HoldsWith d.modulus (gap_of d p +ℤ d.constant)) found (λ p a. (holds_row columns d p (each_among (λ p. length p ≡ columns) p found widths a) n).0 (each_among (Holds (row_of columns d)) p found h a))

  is_left : (d : Difference) → IsAmong d kept → IsAmong (row_of columns d) (narrowed_by (template_rows columns thresholds moduli) found)
  is_left d a =
      let m = thin.among d a in
      all_narrowed found (template_rows columns thresholds moduli) (row_of columns d) (in_template columns thresholds moduli m.0.0 m.0.1 d m.0.2 m.0.3 m.0.4) (row_holds d (met_apart d m) m.1)

  follows : (members : List (List ℤ)) → Each (λ p. IsAmong p found) members → (d : Difference) → IsMetRow columns thresholds moduli found d → (q : List ℤ) → InHull members q → Meets (map (row_of columns) kept) q → Holds (row_of columns d) q
  follows [] w d m q h k = absurd (first_of_some q h.0 h.1 h.2)
  follows (p ∷ ps) w d m q (n, [], c) k = (let l = c.lengths in absurd (omega arith))
  follows (p ∷ ps) w d m q (n, x ∷ ws, c) k =
      let long : Each (λ p. length p ≡ columns) (p ∷ ps) = each_from (λ p. length p ≡ columns) (p ∷ ps) (λ y a. each_among (λ p. length p ≡ columns) y found widths (each_among (λ p. IsAmong p found) y (p ∷ ps) w a)) in
      let l = hull_length columns q n x ws p ps c long in
      let met : Each (AllMeetRow found) kept = each_from (AllMeetRow found) kept (λ e a. (thin.among e a).1) in
      let each = meets_each columns kept q k in
      let at : Each (λ e. HoldsWith e.modulus (gap_of e q +ℤ e.constant)) kept =
      each_from (λ e. HoldsWith e.modulus (gap_of e q +ℤ e.constant)) kept (λ e a. (holds_row columns e q l (met_apart e (thin.among e a))).0 (each_among (λ d. Holds (row_of columns d) q) e kept each a)) in
      (holds_row columns d q l (met_apart d m)).1 (rests_hold found kept q n (x ∷ ws) p ps c w met at d (thin.rests d m))

  pub enough : (rows : List Row) → rows ≡ map (row_of columns) kept → (members : List (List ℤ)) → Each (λ p. IsAmong p found) members → AreEnough members (narrowed_by (template_rows columns thresholds moduli) found) rows
  enough rows e members w =
      rw e (
        (λ r a. let x = among_map columns kept r a in rw x.2 (is_left x.0 x.1)),
        (λ r q a h k.
            let left = narrowed_all found (template_rows columns thresholds moduli) r a in
            let x = as_difference columns thresholds moduli r left.0 in
            let n = pair_apart thresholds moduli x.2.0 x.2.1 x.0 x.2.4 in
            let y : Each (Holds (row_of columns x.0)) found = rw x.1 at left.1 in
            rw x.1 (follows members w x.0 (x.2, holds_all x.0 n y) q h k)),
      )
