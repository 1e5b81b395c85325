-- What columns and quotients mean, as facts about all of them.
use Rattle.std.specs.Prelude.{◌≡◌, ◌↔◌, ◌≤◌, ◌+◌, ℕ, ℤ, pos, ◌≤ℤ◌, List, [], ◌++◌, length, map, slice_get, slice_index_or, Some, true, false, unsigned_abs}
use Rattle.std.specs.Int.{int_div_euclid}
use Rattle.std.specs.List.{AllByRecursion, range_with_len}
use Rattle.ac_base.specs.Multiple.{IsMultiple, divides}
use Rattle.ac_forms.specs.Affine.{Affine, value_at, FormFits}
use Rattle.ac_forms.specs.PieceMembership.{IsInSome, IsInOneAtMost}
use Rattle.ac_forms.specs.Renaming.{AreColumns, AreDistinct, CanRename, picked, renamed}
use Rattle.ac_forms.specs.Rows.{Holds, Meets, HaveModuli, AreRowsOver, form_of}
use Rattle.ac_forms.specs.declared.row.Row.{Row}
use Rattle.ac_poly_quotients.specs.LastColumns.{final_columns, weave, finals, placed_pieces}
use Rattle.ac_poly_quotients.specs.QuotientRows.{rounded_at, quotients_at, quotient_rows, multiple_row, other_row, AreMade, HaveDivisors, AreValues}
use Rattle.ac_poly_quotients.specs.FilledColumns.{counters, quots_of, filled, counter_columns, ColumnsAreMade, AreKnown}
use Rattle.ac_poly_quotients.specs.declared.types.Rounded.{Rounded}
use Rattle.ac_poly_quotients.specs.declared.types.Column.{Column}
use Rattle.ac_poly_quotients.specs.declared.types.Column.TheVariants.{Quotient}

-- ---- quotients

-- behind a point, the rows of quotients hold exactly at their values
abbrev pub QuotientRowsHold : Type 0
QuotientRowsHold = (k : ℕ) (quots : List Rounded) (p qs : List ℤ) → length p ≡ k → length qs ≡ length quots → AreMade k quots → Meets (quotient_rows k quots) (p ++ qs) ↔ (qs ≡ quotients_at quots p)

-- at any point they hold exactly where each column has the value of its quotient at that point
abbrev pub QuotientRowsAreValues : Type 0
QuotientRowsAreValues = (k : ℕ) (quots : List Rounded) (p : List ℤ) → HaveDivisors quots → Meets (quotient_rows k quots) p ↔ AreValues k quots p

-- they have no columns but those before and their own
abbrev pub QuotientRowsHaveColumns : Type 0
QuotientRowsHaveColumns = (k n : ℕ) (quots : List Rounded) → k + length quots ≤ n → AreMade k quots → AreRowsOver n (quotient_rows k quots)

-- ---- columns

abbrev pub FilledAppends : Type 0
FilledAppends = (ss more : List Column) (p zs ws : List ℤ) → length zs ≡ counters ss → filled (ss ++ more) p (zs ++ ws) ≡ filled more (filled ss p zs) ws

abbrev pub FilledGrows : Type 0
FilledGrows = (ss : List Column) (p zs : List ℤ) → (more : List ℤ) × (filled ss p zs ≡ p ++ more) × (length more ≡ length ss)

abbrev pub FilledHasCounters : Type 0
FilledHasCounters = (ss : List Column) (k : ℕ) (p zs : List ℤ) → length p ≡ k → length zs ≡ counters ss → picked (counter_columns k ss) (filled ss p zs) ≡ zs

abbrev pub FilledIsKnown : Type 0
FilledIsKnown = (ss : List Column) (k : ℕ) (p zs : List ℤ) → length p ≡ k → ColumnsAreMade k ss → AreKnown k ss (filled ss p zs)

abbrev pub KnownAtEachColumn : Type 0
KnownAtEachColumn = (ss : List Column) (k i : ℕ) (r : Rounded) (p : List ℤ) → AreKnown k ss p → slice_get ss i ≡ Some (Quotient r) → slice_index_or p (k + i) (pos 0) ≡ rounded_at r p

abbrev pub FormsAreSteady : Type 0
FormsAreSteady = (f : Affine) (ss : List Column) (p zs : List ℤ) → length f.coefs ≤ length p → value_at f (filled ss p zs) ≡ value_at f p

abbrev pub RowsAreSteady : Type 0
RowsAreSteady = (rows : List Row) (ss : List Column) (p zs : List ℤ) → AllByRecursion (λ r. length (form_of r).coefs ≤ length p) rows → Meets rows (filled ss p zs) ↔ Meets rows p

abbrev pub PiecesAreSteady : Type 0
PiecesAreSteady = (pieces : List (List Row)) (ss : List Column) (p zs : List ℤ) → AllByRecursion (AllByRecursion (λ r. length (form_of r).coefs ≤ length p)) pieces → IsInSome Meets pieces (filled ss p zs) ↔ IsInSome Meets pieces p

abbrev pub FilledWithoutQuotients : Type 0
FilledWithoutQuotients = (ss : List Column) (p zs : List ℤ) → quots_of ss ≡ [] → length zs ≡ counters ss → filled ss p zs ≡ p ++ zs

-- ---- the last columns

-- a valuation of the parameters, counters and quotients, in the numbers that columns have
pub record AreAll (params depth : ℕ) (ss : List Column) (ps zs qs : List ℤ) : Type 0 where
  pub valuation : length ps ≡ params
  pub around : length zs ≡ depth
  pub counted : length zs ≡ counters ss
  pub divided : length qs ≡ length (quots_of ss)

abbrev pub ColumnsAreWoven : Type 0
ColumnsAreWoven = (params depth : ℕ) (ss : List Column) (ps zs qs : List ℤ) → AreAll params depth ss ps zs qs → picked (final_columns params depth ss) (ps ++ (zs ++ qs)) ≡ ps ++ weave ss zs qs

abbrev pub RowsAreFilled : Type 0
RowsAreFilled =
    (params depth : ℕ) (ss : List Column) (ps zs qs : List ℤ) → AreAll params depth ss ps zs qs → ColumnsAreMade params ss
    → Meets (quotient_rows (params + depth) (finals (final_columns params depth ss) ss)) (ps ++ (zs ++ qs)) ↔ (ps ++ weave ss zs qs ≡ filled ss ps zs)

abbrev pub FinalsAreMade : Type 0
FinalsAreMade = (params depth : ℕ) (ss : List Column) → counters ss ≤ depth → ColumnsAreMade params ss → AreMade (params + depth) (finals (final_columns params depth ss) ss)

abbrev pub FinalsAreDistinct : Type 0
FinalsAreDistinct = (params depth : ℕ) (ss : List Column) → counters ss ≤ depth → AreDistinct (final_columns params depth ss)

abbrev pub FinalsAreColumns : Type 0
FinalsAreColumns = (params depth n : ℕ) (ss : List Column) → counters ss ≤ depth → params + (depth + length (quots_of ss)) ≤ n → AreColumns n (final_columns params depth ss)

-- a form that is made in `i128` can be moved
abbrev pub NeverWide : Type 0
NeverWide = (params depth : ℕ) (ss : List Column) (f : Affine) → counters ss ≤ depth → FormFits f → CanRename (final_columns params depth ss) f

abbrev pub FormsMove : Type 0
FormsMove =
    (params depth : ℕ) (ss : List Column) (f : Affine) (ps zs qs : List ℤ) → AreAll params depth ss ps zs qs → ColumnsAreMade params ss → qs ≡ quotients_at (finals (final_columns params depth ss) ss) (ps ++ zs)
    → value_at (renamed (final_columns params depth ss) f) (ps ++ (zs ++ qs)) ≡ value_at f (filled ss ps zs)

abbrev pub PiecesMove : Type 0
PiecesMove =
    (params depth : ℕ) (ss : List Column) (pieces : List (List Row)) (ps zs qs : List ℤ) → AreAll params depth ss ps zs qs → ColumnsAreMade params ss
    → IsInSome Meets (placed_pieces params depth ss pieces) (ps ++ (zs ++ qs)) ↔ (IsInSome Meets pieces (filled ss ps zs) × (qs ≡ quotients_at (finals (final_columns params depth ss) ss) (ps ++ zs)))

abbrev pub QuotientsHaveValues : Type 0
QuotientsHaveValues =
    (params depth : ℕ) (ss : List Column) (ps zs : List ℤ) → length ps ≡ params → length zs ≡ depth → length zs ≡ counters ss → ColumnsAreMade params ss
    → quotients_at (finals (final_columns params depth ss) ss) (ps ++ zs) ≡ map (λ r. rounded_at r (filled ss ps zs)) (quots_of ss)

abbrev pub PlacedStayApart : Type 0
PlacedStayApart = (params depth : ℕ) (ss : List Column) (pieces : List (List Row)) (p : List ℤ) → IsInOneAtMost Meets pieces (picked (final_columns params depth ss) p) → IsInOneAtMost Meets (placed_pieces params depth ss pieces) p

abbrev pub PlacedHaveColumns : Type 0
PlacedHaveColumns =
    (params depth n : ℕ) (ss : List Column) (pieces : List (List Row)) → counters ss ≤ depth → params + (depth + length (quots_of ss)) ≤ n → ColumnsAreMade params ss → AllByRecursion HaveModuli pieces
    → AllByRecursion (AreRowsOver n) (placed_pieces params depth ss pieces)

-- without quotients columns, forms and pieces are the same
abbrev pub PlainColumnsStay : Type 0
PlainColumnsStay = (params depth : ℕ) (ss : List Column) → quots_of ss ≡ [] → final_columns params depth ss ≡ range_with_len 0 (params + length ss)

abbrev pub PlainFormsStay : Type 0
PlainFormsStay = (n : ℕ) (f : Affine) → length f.coefs ≤ n → renamed (range_with_len 0 n) f ≡ f

abbrev pub PlainPiecesStay : Type 0
PlainPiecesStay =
    (params depth : ℕ) (ss : List Column) (pieces : List (List Row)) → quots_of ss ≡ [] → AllByRecursion (AllByRecursion (λ r. length (form_of r).coefs ≤ params + length ss)) pieces
    → placed_pieces params depth ss pieces ≡ pieces

-- ---- divisibility

-- where column k has the quotient, the row holds exactly at multiples, and the other row exactly elsewhere
abbrev pub MultiplesAreRows : Type 0
MultiplesAreRows =
    (k : ℕ) (m : ℤ) (e : Affine) (p : List ℤ) → pos 1 ≤ℤ m → slice_index_or p k (pos 0) ≡ int_div_euclid (value_at e p) m
    → (Holds (multiple_row k m e) p ↔ IsMultiple m (value_at e p)) × (Holds (other_row k m e) p ↔ (¬ IsMultiple m (value_at e p)))

abbrev pub MultiplesAreTests : Type 0
MultiplesAreTests =
    (k : ℕ) (m : ℤ) (e : Affine) (p : List ℤ) → pos 1 ≤ℤ m → slice_index_or p k (pos 0) ≡ int_div_euclid (value_at e p) m
    → (Holds (multiple_row k m e) p ↔ (divides (unsigned_abs m) (value_at e p) ≡ true)) × (Holds (other_row k m e) p ↔ (divides (unsigned_abs m) (value_at e p) ≡ false))

-- no point meets both
abbrev pub MultiplesAreApart : Type 0
MultiplesAreApart = (k : ℕ) (m : ℤ) (e : Affine) (p : List ℤ) → Holds (multiple_row k m e) p → Holds (other_row k m e) p → ⊥

-- ---- the order

-- counters with quotients behind them are read as counters
abbrev pub CountersAreRead : Type 0
CountersAreRead = (front zs qs back : List ℤ) (from count : ℕ) → length front ≡ from → length zs ≡ count → picked (range_with_len from count) (front ++ ((zs ++ qs) ++ back)) ≡ zs

-- where coordinates are the same, so are counters
abbrev pub CountersAreTheSame : Type 0
CountersAreTheSame = (zs ws qs rs : List ℤ) → length zs ≡ length ws → zs ++ qs ≡ ws ++ rs → (zs ≡ ws) × (qs ≡ rs)
