-- A point of what a choice leaves goes back to one of the conjunction, and only the choice's column changes.
use Rattle.std.proofs.Common.{◌≡◌, ◌↔◌, ℕ, ◌<◌, ℤ, pos, ◌+ℤ◌, ◌*ℤ◌, true, not, ◌&&◌, nat_lt, List, [], ◌∷◌, length, set, get_or, slice_get, Option, Some, None, arith, refl, ap, sym, ◌∙◌, subst}
use Rattle.std.proofs.lemmas.Int.{ints}
use Rattle.std.proofs.lemmas.Bool.{ltb-true}
use Rattle.std.proofs.lemmas.List.{length-set, set-get_or, set-set}
use Rattle.ac_forms.specs.Affine.{coef}
use Rattle.ac_forms.specs.NormalForm.{normal_conj}
use Rattle.ac_forms.specs.RangeTests.{rows_fit}
use Rattle.ac_forms.specs.Rows.{Meets}
use Rattle.ac_forms.specs.declared.conj.Conj.{Conj}
use Rattle.ac_forms.specs.declared.row.Row.{Row}
use Rattle.ac_forms.specs.declared.row.Row.TheVariants.{Eq, Div, Ge}
use Rattle.ac_omega_steps.specs.declared.column.Bound.{Bound}
use Rattle.ac_omega_steps.specs.declared.choose.Choice.{Choice}
use Rattle.ac_omega_steps.specs.declared.choose.Choice.TheVariants as choice
use Rattle.ac_omega_steps.specs.IntegerPoints.{IsPoint}
use Rattle.ac_omega_steps.specs.Bounds.{lows, highs, rows_without, only_bounds, is_one_sided}
use Rattle.ac_omega_steps.specs.Choices.{column_of, removes, are_absurd, allows, is_legal, left_by, lifted, shadow_form, shadows_with, shadows, splinter, low_values, high_values, between, solved}
use Rattle.ac_omega_steps.specs.ChoiceFits.{choice_fits, raw, after_choice}
use Rattle.ac_base.proofs.Options.{if-some, some-is}
use Rattle.ac_base.proofs.Truths.{and-true}
use Rattle.ac_omega_steps.proofs.OneColumn.{AreFree, meets-free, meets-first, meets-second, free-append, coef-combined}
use Rattle.ac_omega_steps.proofs.ColumnParts.{AreApart, rows_without-free, lows-apart, highs-apart}
use Rattle.ac_omega_steps.proofs.DarkShadows.{between-lifts, one-sided}
use Rattle.ac_omega_steps.proofs.Equalities.{equality-free, equality-lifts}
use Rattle.ac_omega_steps.proofs.Spreads.{substitute_residue-lifts}

-- what a legal choice's condition says
pub legal-allows : (h : Choice) (c : Conj) → is_legal h c ≡ true → allows h c.rows ≡ true
legal-allows h c e =
    let a = and-true (not (are_absurd c.rows)) (nat_lt (column_of h) c.columns && allows h c.rows) e in
    (and-true (nat_lt (column_of h) c.columns) (allows h c.rows) a.1).1

pub legal-column : (h : Choice) (c : Conj) → is_legal h c ≡ true → column_of h < c.columns
legal-column h c e =
    let a = and-true (not (are_absurd c.rows)) (nat_lt (column_of h) c.columns && allows h c.rows) e in
    ltb-true (column_of h) c.columns (and-true (nat_lt (column_of h) c.columns) (allows h c.rows) a.1).0

-- one number changes
pub lifted_at : (h : Choice) (rows : List Row) (q : List ℤ) → (v : ℤ) × (lifted h rows q ≡ set q (column_of h) v)
lifted_at (choice.Drop z) rows q = (between (low_values z rows q) (high_values z rows q), refl)
lifted_at (choice.Equal z i) rows q = (solved z (slice_get rows i) q, refl)
lifted_at (choice.Residue z m r) rows q = (m *ℤ get_or q z (pos 0) +ℤ r, refl)
lifted_at (choice.Shadow z) rows q = (between (low_values z rows q) (high_values z rows q), refl)
lifted_at (choice.Splinter z i k) rows q = (get_or q z (pos 0), sym (set-get_or q z (pos 0)))

splinter-meets : (k : ℤ) (o : Option Row) (rows : List Row) (q : List ℤ) → Meets (splinter k o rows) q → Meets rows q
splinter-meets k None rows q h = h
splinter-meets k (Some (Eq f)) rows q h = h
splinter-meets k (Some (Div m f)) rows q h = h
splinter-meets k (Some (Ge f)) rows q h = meets-first rows (Eq _ ∷ []) q h

pub lifted-meets : (h : Choice) (rows : List Row) (q : List ℤ) → allows h rows ≡ true → column_of h < length q → Meets (left_by h rows) q → Meets rows (lifted h rows q)
lifted-meets (choice.Drop z) rows q e l h =
    let b = and-true (only_bounds z rows) (is_one_sided z rows) e in
    between-lifts z rows q l b.0 h (one-sided (lows z rows) (highs z rows) q b.1)
lifted-meets (choice.Equal z i) rows q e l h = equality-lifts z i (slice_get rows i) rows q l refl e h
lifted-meets (choice.Residue z m r) rows q e l h = substitute_residue-lifts rows q z m r l h
lifted-meets (choice.Shadow z) rows q e l h =
    between-lifts z rows q l e (meets-first (rows_without z rows) (shadows (lows z rows) (highs z rows)) q h) (meets-second (rows_without z rows) (shadows (lows z rows) (highs z rows)) q h)
lifted-meets (choice.Splinter z i k) rows q e l h = splinter-meets k (slice_get rows i) rows q h

pub lifts : (h : Choice) (c : Conj) (q : List ℤ) → is_legal h c ≡ true → length q ≡ c.columns → Meets (left_by h c.rows) q → IsPoint c (lifted h c.rows q)
lifts h c q e l m =
    let at = lifted_at h c.rows q in
    record {
      long = ap length at.1 ∙ length-set q (column_of h) at.0 ∙ l;
      meets = lifted-meets h c.rows q (legal-allows h c e) (omega (arith, l, legal-column h c e)) m;
    }

-- the same for the normal form that is made of what a choice leaves
pub after-columns : (h : Choice) (c d : Conj) → after_choice h c ≡ Some d → d.columns ≡ c.columns
unfolding after_choice
after-columns h c d e =
    let made = if-some (choice_fits h c.rows && rows_fit (left_by h c.rows)) (Some (normal_conj (raw h c))) d e in
    sym (ap (λ (x : Conj). x.columns) (some-is (normal_conj (raw h c)) d made.1))

pub lifts-after : (h : Choice) (c d : Conj) → is_legal h c ≡ true → after_choice h c ≡ Some d → ((p : List ℤ) → Meets d.rows p ↔ Meets (left_by h c.rows) p) → (q : List ℤ) → IsPoint d q → IsPoint c (lifted h c.rows q)
lifts-after h c d e made same q at = lifts h c q e (at.long ∙ after-columns h c d made) ((same q).0 at.meets)

-- a point of what a choice leaves, at some number for the column: the conjunction has one too
pub lifts-somewhere : (h : Choice) (rows : List Row) (p : List ℤ) (w : ℤ) → allows h rows ≡ true → column_of h < length p → Meets (left_by h rows) (set p (column_of h) w) → (v : ℤ) × Meets rows (set p (column_of h) v)
lifts-somewhere h rows p w e l m =
    let at = lifted_at h rows (set p (column_of h) w) in
    let on = lifted-meets h rows (set p (column_of h) w) e (omega (arith, l, length-set p (column_of h) w)) m in
    (at.0, subst (λ (x : List ℤ). Meets rows x) (at.1 ∙ set-set p (column_of h) w at.0) on)

-- the rows that are left have not the column
shadow-free : (z : ℕ) (low high : Bound) → coef z low.rest ≡ pos 0 → coef z high.rest ≡ pos 0 → coef z (shadow_form low high) ≡ pos 0
shadow-free z low high e f = coef-combined z high.size low.rest low.size high.rest ∙ rw (e, f) (omega (arith, ints))

shadows_with-free : (z : ℕ) (low : Bound) (hs : List Bound) → coef z low.rest ≡ pos 0 → AreApart z hs → AreFree z (shadows_with low hs)
shadows_with-free z low [] e f = tt
shadows_with-free z low (high ∷ hs) e f = (shadow-free z low high e f.0, shadows_with-free z low hs e f.1)

shadows-free : (z : ℕ) (ls hs : List Bound) → AreApart z ls → AreApart z hs → AreFree z (shadows ls hs)
shadows-free z [] hs e f = tt
shadows-free z (low ∷ ls) hs e f = free-append z (shadows_with low hs) (shadows ls hs) (shadows_with-free z low hs e.0 f) (shadows-free z ls hs e.1 f)

pub left-free : (h : Choice) (rows : List Row) → allows h rows ≡ true → removes h ≡ true → AreFree (column_of h) (left_by h rows)
left-free (choice.Drop z) rows e r = rows_without-free z rows
left-free (choice.Equal z i) rows e r = equality-free z i (slice_get rows i) rows e
left-free (choice.Residue z m k) rows e r = absurd cc
left-free (choice.Shadow z) rows e r =
    free-append z (rows_without z rows) (shadows (lows z rows) (highs z rows)) (rows_without-free z rows) (shadows-free z (lows z rows) (highs z rows) (lows-apart z rows) (highs-apart z rows))
left-free (choice.Splinter z i k) rows e r = absurd cc

-- then the rows that are left hold whatever the column's number is
pub column-gone : (h : Choice) (c : Conj) (q : List ℤ) (v : ℤ) → is_legal h c ≡ true → removes h ≡ true → length q ≡ c.columns → Meets (left_by h c.rows) q → Meets (left_by h c.rows) (set q (column_of h) v)
column-gone h c q v e r l m =
    (meets-free (left_by h c.rows) q (column_of h) v (omega (arith, l, legal-column h c e)) (left-free h c.rows (legal-allows h c e) r)).1 m
