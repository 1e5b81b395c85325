-- Where a pair path ends: a pair that does not match, and the row of a claim that a point breaks.
use Rattle.std.specs.Prelude.{ℕ, suc, ◌≡◌, ◌++◌, ◌⊎◌, List, [], ◌∷◌, ℤ, Some, length, slice_get, take, false}
use Rattle.ac_forms.specs.Affine.{Affine}
use Rattle.ac_forms.specs.Negation.{negation}
use Rattle.ac_forms.specs.Renaming.{rows_renaming}
use Rattle.ac_forms.specs.Rows.{Holds, Meets, IsRowOver}
use Rattle.ac_forms.specs.declared.conj.Conj.{Conj}
use Rattle.ac_forms.specs.declared.row.Row.{Row}
use Rattle.ac_poly.specs.Model.{is_input}
use Rattle.ac_syntax.specs.ExecutedCalls.{HaveArities}
use Rattle.ac_claims.specs.ProofEnds.{equal_cells, equal_numbers}
use Rattle.ac_claims_paths.specs.PathColumns.{base, columns_of}
use Rattle.ac_forms.specs.ListMembers.{IsAmong}
use Rattle.ac_claims_paths.specs.ModelPositions.{CallAt, call_at, number_at, initial_cell}
use Rattle.ac_claims_paths.specs.declared.path.Path.{Path}
use Rattle.ac_claims_paths.specs.declared.path.Seat.{Seat}
use Rattle.ac_claims_paths.specs.declared.places.CellForms.{CellForms}
use Rattle.ac_widen.specs.Derivations.{Justified, IsDerivation}
use Rattle.ac_widen.specs.Obligations.{Obligation, HasMismatch}
use Rattle.ac_widen.specs.declared.derivation.Entry.{Entry}
use Rattle.ac_widen.specs.declared.derivation.Reason.TheVariants.{Output, Step}
use Rattle.ac_graph.specs.PairMoves.{pairing_of}
use Rattle.ac_widen_programs.specs.PairSetting.{IsMismatchPair, IsOutputPair}
use Rattle.ac_widen_programs.specs.DerivationEntries.{entries_of}
use Rattle.ac_widen_programs.specs.PairPaths.{Unfolding, ComesTo, params_of, point_of, positions_of, seats_of, setting_of}
use Rattle.ac_widen_programs.specs.PairPathSteps.{AreNoReaders}

-- ---- rows that fail

-- the point meets a part of the negation of one of the rows; the part may have one column behind the first n, and the point has a
-- number for each of its columns
pub record Breaks (n : ℕ) (rows : List Row) (p : List ℤ) : Type 0 where
  pub row : Row
  pub among : IsAmong row rows
  pub over : IsRowOver n row
  pub part : Conj
  pub part_among : IsAmong part (negation n row)
  pub long : length p ≡ part.columns
  pub meets : Meets part.rows p

-- so a row fails at the pair's point, where the rows of a claim are over the columns of a question
abbrev pub BrokenClaimsFail : Type 0
BrokenClaimsFail =
    (params n : ℕ) (s : Seat × Seat) (rows made : List Row) (p : List ℤ) → rows_renaming (base params ++ (columns_of s.0 ++ columns_of s.1)) rows ≡ Some made → Breaks n made p
    → (row : Row) × IsAmong row rows × ¬ (Holds row (point_of params p s))

-- ---- pairs that do not match

-- no two calls of one symbol with as many arguments
abbrev pub AreNotCalls : Unfolding → Path → Type 0
AreNotCalls u q = (c d : CallAt) → call_at (pairing_of u.pair).left q.left.position ≡ Some c → call_at (pairing_of u.pair).right q.right.position ≡ Some d → ¬ ((c.symbol ≡ d.symbol) × (length c.args ≡ length d.args))

-- where two numbers stand, the point breaks their equality
abbrev pub AreUnequal : Unfolding → Path → List ℤ → Type 0
AreUnequal u q p =
    (f g : Affine) → number_at (pairing_of u.pair).left q.left.position ≡ Some f → number_at (pairing_of u.pair).right q.right.position ≡ Some g
    → (rows : List Row) × (equal_numbers (pairing_of u.pair) q (Some f) (Some g) ≡ Some rows) × Breaks q.conj.columns rows p

-- where two initial cells stand, they are not of one input, or the point breaks the equality of their subscripts
abbrev pub AreOtherCells : Unfolding → Path → List ℤ → Type 0
AreOtherCells u q p =
    (c d : CellForms) → initial_cell (pairing_of u.pair).left q.left.position ≡ Some c → initial_cell (pairing_of u.pair).right q.right.position ≡ Some d
    → (¬ (c.array ≡ d.array)) ⊎ ((is_input (slice_get (pairing_of u.pair).left.kinds c.array) ≡ false) ⊎ ((rows : List Row) × (equal_cells (pairing_of u.pair) q (Some c) (Some d) ≡ Some rows) × Breaks q.conj.columns rows p))

-- nothing matches
pub record MatchesNothing (u : Unfolding) (q : Path) (p : List ℤ) : Type 0 where
  pub readers : AreNoReaders u q
  pub calls : AreNotCalls u q
  pub numbers : AreUnequal u q p
  pub cells : AreOtherCells u q p

-- in both programs each call that is executed has as many arguments as its symbol says
abbrev pub HaveBothArities : Unfolding → Type 0
HaveBothArities u = HaveArities u.pair.left.body × HaveArities u.pair.right.body

-- where a pair path comes to a pair that matches nothing, that is a mismatch
abbrev pub EndsAreMismatches : Type 0
EndsAreMismatches =
    (u : Unfolding) (pair_path : List (Seat × Seat)) (q : Path) (p : List ℤ) → HaveBothArities u → ComesTo u pair_path q p → MatchesNothing u q p
    → IsMismatchPair u.pair (positions_of (seats_of q)) (point_of (params_of u) p (seats_of q))

-- where the pair path begins with an obligation, the order then has a mismatch
abbrev pub MismatchesAreShown : Type 0
MismatchesAreShown =
    (u : Unfolding) (s : Seat × Seat) (pair_path : List (Seat × Seat)) (q : Path) (p : List ℤ) → HaveBothArities u → ComesTo u (s ∷ pair_path) q p → Obligation (setting_of u) u.order (positions_of s) (point_of (params_of u) p s) → MatchesNothing u q p
    → HasMismatch (setting_of u) u.order

-- ---- entries

-- an entry of a pair of seats
abbrev pub entry_at : ℕ → List ℤ → Seat × Seat → Entry
entry_at params p s = record { left = s.0.position; right = s.1.position; point = point_of params p s; reason = Output }

abbrev pub step_from : ℕ → Entry → Entry
step_from k e = record e { reason = Step k }

-- those of the pairs behind the one with this number, each a step from the one before it
abbrev pub steps_behind : ℕ → ℕ → List ℤ → List (Seat × Seat) → List Entry
steps_behind k params p [] = []
steps_behind k params p (s ∷ pair_path) = step_from k (entry_at params p s) ∷ steps_behind (suc k) params p pair_path

-- the entries of a pair path at a point
abbrev pub entries_at : ℕ → List ℤ → List (Seat × Seat) → List Entry
entries_at params p [] = []
entries_at params p (s ∷ pair_path) = entry_at params p s ∷ steps_behind 0 params p pair_path

-- each entry behind the first one is justified by those before it
abbrev pub StepsAreJustified : Type 0
StepsAreJustified =
    (u : Unfolding) (pair_path : List (Seat × Seat)) (q : Path) (p : List ℤ) → ComesTo u pair_path q p → (k : ℕ) (e : Entry) → slice_get (entries_at (params_of u) p pair_path) (suc k) ≡ Some e
    → Justified (setting_of u) u.order (entries_of (take (suc k) (entries_at (params_of u) p pair_path))) (e.left, e.right) e.point e.reason

-- from a pair of an output they are a derivation
abbrev pub PairPathsDerive : Type 0
PairPathsDerive =
    (u : Unfolding) (s : Seat × Seat) (pair_path : List (Seat × Seat)) (q : Path) (p : List ℤ) → ComesTo u (s ∷ pair_path) q p → IsOutputPair u.pair u.outputs (positions_of s) (point_of (params_of u) p s)
    → IsDerivation (setting_of u) u.order (entries_of (entries_at (params_of u) p (s ∷ pair_path)))
