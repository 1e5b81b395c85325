-- Elimination decides the hull: a further point is in it exactly where its row comes to 0, and exactly where it meets the equalities.
use Rattle.std.proofs.Common.{◌≡◌, inl, inr, ℕ, ◌<◌, ℤ, pos, ◌+ℤ◌, ◌*ℤ◌, neg_ℤ, List, [], ◌∷◌, ◌++◌, length, map, ap, sym, ◌∙◌, arith}
use Rattle.std.proofs.lemmas.Int.{ints}
use Rattle.std.proofs.lemmas.Bool.{cases_lt}
use Rattle.std.proofs.lemmas.List.{map-append}
use Rattle.ac_base.specs.Dot.{dot}
use Rattle.ac_forms.specs.Affine.{Affine, value_at}
use Rattle.ac_widen.specs.Combinations.{Each, InHull}
use Rattle.ac_widen.proofs.Combining.{no_divisor, dot-mix_point, equality_combined, each_among}
use Rattle.ac_hull.specs.FractionFreeElimination.{entry, column_of, pivot_of, next_line, minus, IsZero, Eliminates}
use Rattle.ac_hull.specs.Equalities.{unit, coefs_of}
use Rattle.ac_hull.proofs.FreeColumns.{IsFree}
use Rattle.ac_hull.specs.Hulls.{differences}
use Rattle.ac_hull.specs.declared.line.Line.{Line}
use Rattle.ac_hull.proofs.Entries.{entry_past, lead_or, dot_single}
use Rattle.ac_hull.proofs.Lines.{length_mix}
use Rattle.ac_hull.proofs.Facts.{LineOver, Facts, Next, next_is, facts_of, Kills, KillsEach, kills_differences, zeros_map, dot_spans, dot_each_zero, dot_last}
use Rattle.ac_widen.proofs.Combining.{each_map}
use Rattle.ac_hull.proofs.Clearing.{cleared_kills, cleared_zero, cleared_nonzero, length_unit, unit_one, unit_other, free_or}

-- a form through the first point
abbrev through : List ℤ → List ℤ → Affine
through f v = record { konst = neg_ℤ (dot v f); coefs = v }

pub dot_minus : (v p f : List ℤ) → dot v (minus p f) ≡ dot v p +ℤ neg_ℤ (dot v f)
dot_minus v p f = dot-mix_point v (pos 1) p (neg_ℤ (pos 1)) f ∙ (omega (arith, ints))

all_through : (v f : List ℤ) (ps : List (List ℤ)) → KillsEach v (differences f ps) → Each (λ p. value_at (through f v) p ≡ pos 0) ps
all_through v f [] k = tt
all_through v f (p ∷ ps) k = (sym (dot_minus v p f) ∙ k.0, all_through v f ps k.1)

-- a form that is 0 on the differences of the members is 0 on those of the hull
pub hull_kills : (v f q : List ℤ) (ps : List (List ℤ)) → KillsEach v (differences f ps) → InHull (f ∷ ps) q → dot v (minus q f) ≡ pos 0
hull_kills v f q ps k h =
    let own : dot v f +ℤ neg_ℤ (dot v f) ≡ pos 0 = omega (arith, ints) in
    dot_minus v q f ∙ equality_combined (through f v) q h.0 h.1 (f ∷ ps) h.2 (own, all_through v f ps k)

module _ (columns : ℕ) (f : List ℤ) (ps : List (List ℤ)) (ls : List Line) (e : Eliminates columns (differences f ps) ls) where
  facts : Facts columns (differences f ps) ls
  facts = facts_of e

  leads_within : (ks : List Line) → Each (LineOver columns (differences f ps)) ks → Each (λ l. column_of l < columns) ks
  leads_within [] h = tt
  leads_within (k ∷ ks) h =
      (elim (lead_or k.coords) [ inl z ↦ absurd (h.0.pivot (z (column_of k))) | inr p ↦ omega (arith, p.0, h.0.coords) ], leads_within ks h.1)

  -- the equality of a free column
  coefs_kill : (z : ℕ) → z < columns → Kills (coefs_of columns ls z) ls
  coefs_kill z h = cleared_kills columns ls (unit columns z) (length_unit columns z h) (leads_within ls facts.over) facts.echelon

  pub coefs_kill_differences : (z : ℕ) → z < columns → KillsEach (coefs_of columns ls z) (differences f ps)
  coefs_kill_differences z h = kills_differences (coefs_of columns ls z) e (coefs_kill z h)

  pub coefs_own : (z : ℕ) → IsFree ls z → ¬ (entry z (coefs_of columns ls z) ≡ pos 0)
  coefs_own z free = cleared_nonzero z ls (unit columns z) free (each_map (LineOver columns (differences f ps)) (λ l. ¬ (pivot_of l ≡ pos 0)) ls (λ l h. h.pivot) facts.over)
      (λ u. absurd (omega (arith, ints, sym (unit_one columns z) ∙ u)))

  module _ (q : List ℤ) (is : length q ≡ columns) (fs : length f ≡ columns) where
    pub difference_long : length (minus q f) ≡ columns
    difference_long = length_mix (pos 1) q (neg_ℤ (pos 1)) f columns is (omega (arith, fs))

    pub next : Next columns (differences f ps) (minus q f) difference_long ls
    next = next_is columns (differences f ps) (minus q f) difference_long ls facts

    -- at a row that is 0 at the pivots, the equality of a free column counts that column alone
    dot_free : (z : ℕ) → z < columns → IsFree ls z → dot (coefs_of columns ls z) (next_line ls (minus q f)).coords ≡ entry z (coefs_of columns ls z) *ℤ entry z (next_line ls (minus q f)).coords
    dot_free z h free = dot_single (coefs_of columns ls z) (next_line ls (minus q f)).coords z none_else
      where
        none_else : (y : ℕ) → ¬ (y ≡ z) → entry y (coefs_of columns ls z) *ℤ entry y (next_line ls (minus q f)).coords ≡ pos 0
        none_else y n =
            elim (free_or ls y) [
              | inl g ↦ rw (cleared_zero y ls (unit columns z) g (unit_other columns z y n)) (omega (arith, ints))
              | inr k ↦ (let o : entry y (next_line ls (minus q f)).coords ≡ pos 0 = rw k.2 at (each_among (λ o. entry (column_of o) (next_line ls (minus q f)).coords ≡ pos 0) k.0 ls next.zeros k.1) in rw o (omega (arith, ints)))
            ]

    -- a form that is 0 on the rows and on the point's difference is 0 on its row
    row_killed : (v : List ℤ) → KillsEach v (differences f ps) → dot v (minus q f) ≡ pos 0 → dot v (next_line ls (minus q f)).coords ≡ pos 0
    row_killed v k d =
        dot_spans v (differences f ps ++ minus q f ∷ []) (next_line ls (minus q f)) next.spans
        ∙ ap (dot (next_line ls (minus q f)).weights) (map-append (dot v) (differences f ps) (minus q f ∷ []))
        ∙ dot_last (next_line ls (minus q f)).weights (map (dot v) (differences f ps)) (dot v (minus q f))
        ∙ (rw (dot_each_zero (next_line ls (minus q f)).weights (map (dot v) (differences f ps)) (zeros_map v (differences f ps) k), d) (omega (arith, ints)))

    free_zero : (z : ℕ) → z < columns → IsFree ls z → dot (coefs_of columns ls z) (minus q f) ≡ pos 0 → entry z (next_line ls (minus q f)).coords ≡ pos 0
    free_zero z h free d =
        no_divisor (entry z (coefs_of columns ls z)) (entry z (next_line ls (minus q f)).coords) (coefs_own z free)
        (sym (dot_free z h free) ∙ row_killed (coefs_of columns ls z) (coefs_kill_differences z h) d)

    -- where all forms of free columns are 0 on the difference, its row comes to 0
    pub all_zero : ((z : ℕ) → z < columns → IsFree ls z → dot (coefs_of columns ls z) (minus q f) ≡ pos 0) → IsZero (next_line ls (minus q f)).coords
    all_zero h z =
        elim (cases_lt z columns) [
          | inl l ↦ elim (free_or ls z) [
            | inl g ↦ free_zero z l g (h z l g)
            | inr k ↦ rw k.2 at (each_among (λ o. entry (column_of o) (next_line ls (minus q f)).coords ≡ pos 0) k.0 ls next.zeros k.1)
          ]
          | inr l ↦ entry_past z (next_line ls (minus q f)).coords (omega (arith, next.coords))
        ]

    -- a point of the hull has a row that comes to 0
    pub hull_zero : InHull (f ∷ ps) q → IsZero (next_line ls (minus q f)).coords
    hull_zero h = all_zero (λ z l g. hull_kills (coefs_of columns ls z) f q ps (coefs_kill_differences z l) h)
