-- The way to a piece: its choices, taken one after the other from its question's normal form on.
use Rattle.std.specs.Prelude.{◌≡◌, ℕ, ◌<◌, ◌≤◌, true, ◌&&◌, cond, List, [], ◌∷◌, Option, Some, None, option_and_then}
use Rattle.std.specs.List.{AllByRecursion}
use Rattle.ac_forms.specs.NormalForm.{normal_conj}
use Rattle.ac_forms.specs.Rows.{AreRowsOver}
use Rattle.ac_forms.specs.RangeTests.{rows_fit}
use Rattle.ac_forms.specs.declared.conj.Conj.{Conj}
use Rattle.ac_omega_steps.specs.Choices.{is_legal, column_of}
use Rattle.ac_omega_steps.specs.ChoiceFits.{after_choice}
use Rattle.ac_omega_steps.specs.declared.choose.Choice.{Choice}
use Rattle.ac_omega.specs.Projection.{is_among, HaveNone}
use Rattle.ac_omega.specs.declared.piece.Piece.{Piece}

-- what choices on these columns leave, one after the other, where each is legal and stays in `i128`
unfoldable pub replayed : List ℕ → List Choice → Conj → Option Conj
replayed vars [] c = Some c
replayed vars (h ∷ hs) c = cond (is_legal h c && is_among (column_of h) vars) (option_and_then (replayed vars hs) (after_choice h c)) None

-- the piece's choices, each legal and on one of the columns, lead from the question's normal form to its rows, which have none of the columns
pub record IsReached (vars : List ℕ) (question : Conj) (piece : Piece) : Type 0 where
  pub fits : rows_fit question.rows ≡ true
  pub left : replayed vars piece.choices (normal_conj question) ≡ Some piece.rest
  pub gone : HaveNone vars piece.rest.rows

abbrev pub AreReached : List ℕ → Conj → List Piece → Type 0
AreReached vars question pieces = AllByRecursion (λ piece. IsReached vars question piece) pieces

-- the columns are all those from the n-th on, and maybe others
abbrev pub HaveAllFrom : ℕ → ℕ → List ℕ → Type 0
HaveAllFrom n columns vars = (j : ℕ) → n ≤ j → j < columns → is_among j vars ≡ true

-- the rows of each piece are over the first n columns
abbrev pub AreOver : ℕ → List Piece → Type 0
AreOver n pieces = AllByRecursion (λ piece. AreRowsOver n piece.rest.rows) pieces
