-- The relation of a question: what it says of the parameters and of the coordinates of its own pair.
use Rattle.std.specs.Prelude.{◌≡◌, ℕ, suc, ◌+◌, ℤ, List, [], ◌∷◌, ◌++◌, length, Option, Some, None, cond, nat_eq, option_map, unwrap_or}
use Rattle.std.specs.List.{range_with_len}
use Rattle.ac_forms.specs.Renaming.{rows_renaming, AreColumns, AreDistinct}
use Rattle.ac_forms.specs.Rows.{Meets, IsWellMade}
use Rattle.ac_forms.specs.declared.conj.Conj.{Conj}
use Rattle.ac_omega_steps.specs.IntegerPoints.{IsPoint}
use Rattle.ac_omega_certify.specs.declared.strategy.Strategy.TheVariants.{Full, Economical}
use Rattle.ac_omega.specs.Decisions.{walk_of}
use Rattle.ac_omega.specs.Either.{StopsEliminating, StopsFinding}
use Rattle.ac_omega.specs.ColumnElimination.{pieces_of}
use Rattle.ac_omega.specs.declared.piece.Piece.{Piece}
use Rattle.ac_flow.specs.CopyProjection.{columns_from}
use Rattle.ac_flow.specs.CaseRemainder.{IsWalkOf}
use Rattle.ac_claims_paths.specs.PathColumns.{base, columns_of}
use Rattle.ac_claims_paths.specs.declared.path.Path.{Path}
use Rattle.ac_claims.specs.declared.types.Claim.{Claim}
use Rattle.ac_widen_programs.specs.PairPaths.{point_of, seats_of}

-- ---- relations

-- the columns of the parameters and of the coordinates of both positions
abbrev pub own_of : ℕ → Path → List ℕ
own_of params q = base params ++ (columns_of q.left ++ columns_of q.right)

-- these are columns of the question, and none of them stands twice
pub record IsSeated (params : ℕ) (q : Path) : Type 0 where
  pub there : AreColumns q.conj.columns (own_of params q)
  pub distinct : AreDistinct (own_of params q)

-- a claim on the pair of the question that holds exactly where the question has a point: there is one, the numbers of each in the question's own columns meet the
-- claim's rows, and each point of these rows is so from one of them
pub record IsRelationOf (params : ℕ) (q : Path) (r : Claim) : Type 0 where
  pub left_is : r.left ≡ q.left.position
  pub right_is : r.right ≡ q.right.position
  pub each : (p : List ℤ) → IsPoint q.conj p → Meets r.rows (point_of params p (seats_of q))
  pub only : (x : List ℤ) → length x ≡ length (own_of params q) → Meets r.rows x → (p : List ℤ) × IsPoint q.conj p × (point_of params p (seats_of q) ≡ x)
  pub point : (x : List ℤ) × Meets r.rows x

-- ---- questions without one

-- the place of a column in a list, if it is there
abbrev pub place_of : List ℕ → ℕ → Option ℕ
place_of [] column = None
place_of (k ∷ ks) column = cond (nat_eq k column) (Some 0) (option_map suc (place_of ks column))

-- the next place behind the list, where one more column took it that is not in the list
abbrev pub next_place : Option ℕ → ℕ → ℕ
next_place (Some at) further = further
next_place None further = further + 1

-- the new places of columns: those of a list come first, in its order, and the others behind them in theirs
abbrev pub places_from : List ℕ → ℕ → List ℕ → List ℕ
places_from own further [] = []
places_from own further (column ∷ columns) = unwrap_or (place_of own column) further ∷ places_from own (next_place (place_of own column) further) columns

abbrev pub places_of : List ℕ → ℕ → List ℕ
places_of own columns = places_from own (length own) (range_with_len 0 columns)

-- a conjunction with these columns first; none where a number of its rows leaves `i128`
abbrev pub columns_first : List ℕ → Conj → Option Conj
columns_first own c = option_map (λ rows. record { columns = c.columns; rows = rows }) (rows_renaming (places_of own c.columns) c.rows)

-- the question with its own columns first
abbrev pub own_first : ℕ → Path → Option Conj
own_first params q = columns_first (own_of params q) q.conj

-- a conjunction is not known to have a point: it is not well made, it has none, or neither elimination decides it
pub data LacksPoint (budget : ℕ) (c : Conj) : Type 0 where
  unmade : ¬ (IsWellMade c) → LacksPoint budget c
  empty : ((p : List ℤ) → ¬ (IsPoint c p)) → LacksPoint budget c
  stops : StopsFinding c (walk_of Economical budget c) → StopsFinding c (walk_of Full budget c) → LacksPoint budget c

-- nothing is made of what is left of a conjunction on its first columns: it is not well made, both eliminations of the others stop, what one of them leaves is not one piece,
-- or it is one that is not known to have a point
pub data HasNoPiece (budget first : ℕ) (c : Conj) : Type 0 where
  unmade : ¬ (IsWellMade c) → HasNoPiece budget first c
  stops : StopsEliminating (pieces_of Economical (columns_from first c) budget c) → StopsEliminating (pieces_of Full (columns_from first c) budget c) → HasNoPiece budget first c
  parted : (pieces : List Piece) → IsWalkOf budget first c pieces → ¬ (length pieces ≡ 1) → HasNoPiece budget first c
  empty : (piece : Piece) → IsWalkOf budget first c (piece ∷ []) → LacksPoint budget piece.rest → HasNoPiece budget first c

-- the elimination does not give the relation of a question: with the question's own columns first, a number leaves `i128`, or nothing is made of what is left on them
pub data HasNoRelation (budget params : ℕ) (q : Path) : Type 0 where
  wide : own_first params q ≡ None → HasNoRelation budget params q
  piece : (c : Conj) → own_first params q ≡ Some c → HasNoPiece budget (length (own_of params q)) c → HasNoRelation budget params q
