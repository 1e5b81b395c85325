-- A question that is asked of two walks: of the second where the first stops. An answer is that of one of the two, a stop the second one's. Want of memory may come at any time.
use Rattle.std.specs.Prelude.{◌≡◌, ◌⊎◌, ℕ, List, Result, MatchResult}
use Rattle.ac_forms.specs.declared.conj.Conj.{Conj}
use Rattle.ac_omega_steps.specs.declared.choose.Choice.{Choice}
use Rattle.ac_omega.specs.declared.decision.Decided.{Decided}
use Rattle.ac_omega.specs.declared.decision.Decision.{Decision}
use Rattle.ac_omega.specs.declared.piece.Piece.{Piece}
use Rattle.ac_omega.specs.declared.pieces.Stop.{Stop}
use Rattle.ac_omega.specs.EliminationAnswers.{Eliminates}
use Rattle.ac_omega.specs.Decisions.{Finds, Settles, IsWide, IsLarge}
use Rattle.ac_omega.specs.Maxima.{Maxima}
use Rattle.ac_omega.specs.WalkStops.{UnlessMemory}
use Rattle.ac_omega.specs.Sweep as whole
use Rattle.ac_omega.specs.Walk as def

-- the walk gives no point and no refutation: a number is too wide, or its cost exceeds the budget
abbrev pub StopsFinding : Conj → def.Walked Maxima → Type 0
StopsFinding q w = IsWide q w ⊎ ((j : ℕ) × (w ≡ def.Spent j))

-- the same, also where its greatest numbers are too large for a certificate
abbrev pub StopsDeciding : Conj → def.Walked Maxima → Type 0
StopsDeciding q w = (IsWide q w ⊎ IsLarge w) ⊎ ((j : ℕ) × (w ≡ def.Spent j))

-- the walk gives no pieces
abbrev pub StopsEliminating : whole.Projected Conj Choice → Type 0
StopsEliminating w = (w ≡ whole.Wide) ⊎ ((j : ℕ) × (w ≡ whole.Spent j))

-- an answer of the first walk; or the first one stops, and it is the second's
abbrev pub OfEither : {T : Type 0} → Result T Stop → (first stops second : Type 0) → Type 0
OfEither r first stops second = MatchResult r (λ _. first ⊎ (stops × second)) (λ stop. UnlessMemory stop (stops × second))

abbrev pub FindsEither : Result Decided Stop → Conj → (first second : def.Walked Maxima) → Type 0
FindsEither r q first second = OfEither r (Finds r q first) (StopsFinding q first) (Finds r q second)

abbrev pub SettlesEither : Result Decision Stop → Conj → (first second : def.Walked Maxima) → Type 0
SettlesEither r q first second = OfEither r (Settles r q first) (StopsDeciding q first) (Settles r q second)

abbrev pub EliminatesEither : Result (List Piece) Stop → Conj → (first second : whole.Projected Conj Choice) → Type 0
EliminatesEither r q first second = OfEither r (Eliminates r q first) (StopsEliminating first) (Eliminates r q second)
