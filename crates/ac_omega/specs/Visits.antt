-- One walk for a point, for a refutation and for pieces: over conjunctions, each with the choices that led to it; it keeps the greatest numbers met and the pieces so far.
use Rattle.std.specs.Prelude.{◌≡◌, ℕ, ◌+◌, ◌-◌, ◌<◌, ◌^◌, min, cond, pos, ℤ, List, [], ◌∷◌, ◌++◌, replicate, Some, None, option_map, Result, Ok, Err}
use Rattle.ac_forms.specs.declared.conj.Conj.{Conj}
use Rattle.ac_omega_steps.specs.Choices.{lifted}
use Rattle.ac_omega_steps.specs.ChoiceFits.{after_choice, lift_fits}
use Rattle.ac_omega_steps.specs.declared.choose.Choice.{Choice}
use Rattle.ac_omega.specs.declared.halt.Halt.{Halt}
use Rattle.ac_omega.specs.declared.halt.Halt.TheVariants as halt
use Rattle.ac_omega.specs.declared.piece.Piece.{Piece}
use Rattle.ac_omega.specs.declared.search.Aim.{Aim}
use Rattle.ac_omega.specs.declared.search.Aim.TheVariants.{ForPoint, ForRefutation, ForPieces}
use Rattle.ac_omega.specs.declared.search.Walked.{Walked}
use Rattle.ac_omega.specs.declared.search.Walked.TheVariants as done
use Rattle.ac_omega.specs.ColumnElimination.{look}
use Rattle.ac_omega.specs.ConjunctionCosts.{cost_of}
use Rattle.ac_omega.specs.Maxima.{Maxima, with_rows, with_choice}
use Rattle.ac_omega.specs.Walk.{Method, Node, Done, Absurd, Open}
use Rattle.ac_omega.specs.Walk as def
use Rattle.ac_omega_certify.specs.Alternatives.{Alternatives}
use Rattle.ac_omega_certify.specs.declared.strategy.Strategy.{Strategy}

-- what a walk has met and kept so far
pub record Seen : Type 0 where
  pub maxima : Maxima
  pub pieces : List Piece

abbrev pub seen : Maxima → List Piece → Seen
seen s ps = record { maxima = s; pieces = ps }

abbrev pub piece_of : List Choice → Conj → Piece
piece_of path c = record { choices = path; rest = c }

-- where nothing is left to eliminate: the walk ends with a point, or keeps a piece and goes on
abbrev pub leaf : Aim → List ℤ → Node Choice
leaf ForPoint p = Done p
leaf ForRefutation p = Done p
leaf ForPieces p = Open []

abbrev pub look_for : Aim → Node Choice → Node Choice
look_for aim (Done p) = leaf aim p
look_for aim Absurd = Absurd
look_for aim (Open hs) = Open hs

abbrev pub with_piece : Aim → Piece → List Piece → List Piece
with_piece ForPoint x ps = ps
with_piece ForRefutation x ps = ps
with_piece ForPieces x ps = ps ++ x ∷ []

abbrev pub pieces_at : Aim → Piece → List Piece → Node Choice → List Piece
pieces_at aim x ps (Done p) = with_piece aim x ps
pieces_at aim x ps Absurd = ps
pieces_at aim x ps (Open hs) = ps

abbrev pub visiting : Strategy → Aim → List ℕ → Method (List Choice × Conj) Choice Seen
visiting strategy aim vars = record {
  size = λ x. cost_of strategy vars x.1.rows;
  look = λ x. look_for aim (look strategy vars x.1);
  step = λ x h. option_map (λ d. (x.0 ++ h ∷ [], d)) (after_choice h x.1);
  lift = λ x h p. cond (lift_fits h x.1.rows p) (Some (lifted h x.1.rows p)) None;
  note = λ x s. seen (with_rows x.1.rows s.maxima) (pieces_at aim (piece_of x.0 x.1) s.pieces (look strategy vars x.1));
  mark = λ h s. seen (with_choice h s.maxima) s.pieces;
}

-- the answer, with the pieces by then, is the walk's; it stops where the walk does, at the first cost above the budget or at 2^64 - 1
abbrev pub Visits : Result Walked Halt → List Piece → def.Walked Seen → Type 0
Visits (Ok (done.Empty k s r)) ps w = w ≡ def.Empty k (seen s ps)
Visits (Ok (done.Found p)) ps w = w ≡ def.Found p.items
Visits (Err halt.Wide) ps w = w ≡ def.Wide
Visits (Err (halt.Spent c)) ps w = (j : ℕ) × (w ≡ def.Spent j) × (c ≡ min j (2 ^ 64 - 1))
Visits (Err (halt.Memory e)) ps w = Unit {0}

-- the walk of some choices, where at most n conjunctions stand on one path behind them
abbrev pub tried : Strategy → Aim → List ℕ → ℕ → ℕ → List Choice → Conj → Alternatives → ℕ → Seen → def.Walked Seen
tried strategy aim vars n budget path c hs k s = def.tries (visiting strategy aim vars) (λ x j t. def.walk (visiting strategy aim vars) n budget x j t) (path, c) hs k s

-- the answer is that of the walk of some choices, whatever bound on the path exceeds what is left of the budget
abbrev pub Tried : Result Walked Halt → List Piece → Strategy → Aim → List ℕ → ℕ → List Choice → Conj → Alternatives → ℕ → Seen → Type 0
Tried result ps strategy aim vars budget path c hs k s = (n : ℕ) → budget < n + k → Visits result ps (tried strategy aim vars n budget path c hs k s)

-- what the walk comes to where nothing is left to eliminate
abbrev pub at_leaf : Aim → List Choice → Conj → ℕ → Maxima → List Piece → def.Walked Seen
at_leaf ForPoint path c k s ps = def.Found (replicate c.columns (pos 0))
at_leaf ForRefutation path c k s ps = def.Found (replicate c.columns (pos 0))
at_leaf ForPieces path c k s ps = def.Empty k (seen s (ps ++ piece_of path c ∷ []))
