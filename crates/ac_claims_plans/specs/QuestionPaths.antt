-- A question of the search is itself a path of the judge. A longer path follows it where the question stands on the path, and the
-- path's positions are the question's, with their coordinates at their places.
use Rattle.std.specs.Prelude.{◌≡◌, ℕ, ◌-◌, ◌<◌, List, [], ◌∷◌, length, Option, Some, None, slice_get}
use Rattle.ac_claims_paths.specs.PathColumns.{base, columns_of}
use Rattle.ac_claims_paths.specs.WellFormedPaths.{IsFormed}
use Rattle.ac_claims_paths.specs.PathSteps.{Pairing}
use Rattle.ac_claims_paths.specs.declared.path.Assumed.{Assumed}
use Rattle.ac_claims_paths.specs.declared.path.Path.{Path}
use Rattle.ac_claims_paths.specs.declared.path.Seat.{Seat}
use Rattle.ac_claims.specs.declared.types.Claim.{Claim}
use Rattle.ac_claims.specs.declared.types.Plan.{Plan}
use Rattle.ac_claims_plans.specs.Embeddings.{grown}
use Rattle.ac_claims_plans.specs.PlanAcceptance.{AcceptsPlan}
use Rattle.ac_claims_plans.specs.QuestionEmbedding.{StandsOn}
use Rattle.ac_claims_plans.specs.declared.embedding.Embedding.{Embedding}

-- each column is below the next one
abbrev pub AreRising : List ℕ → Type 0
AreRising [] = Unit {0}
AreRising (k ∷ []) = Unit {0}
AreRising (k ∷ l ∷ ks) = (k < l) × AreRising (l ∷ ks)

-- the first columns have the second ones as their places, in turn
abbrev pub ArePlaced : List ℕ → List ℕ → List ℕ → Type 0
ArePlaced places [] [] = Unit {0}
ArePlaced places (k ∷ ks) (l ∷ ls) = (slice_get places k ≡ Some l) × ArePlaced places ks ls
ArePlaced places _ _ = ⊥

-- one position, whose coordinates have their places there
pub record SeatOn (places : List ℕ) (a b : Seat) : Type 0 where
  pub position : b.position ≡ a.position
  pub width : b.width ≡ a.width
  pub coordinates : ArePlaced places (columns_of a) (columns_of b)

abbrev pub SourceOn : List ℕ → Option Seat → Option Seat → Type 0
SourceOn places None None = Unit {0}
SourceOn places (Some a) (Some b) = SeatOn places a b
SourceOn places _ _ = ⊥

-- what was assumed last
abbrev pub AssumedOn : List ℕ → Option Assumed → Option Assumed → Type 0
AssumedOn places None None = Unit {0}
AssumedOn places (Some a) (Some b) = (b.side ≡ a.side) × SeatOn places a.reader b.reader × SourceOn places a.source b.source
AssumedOn places _ _ = ⊥

-- the path h follows the question q, which stands on it so embedded
pub record Follows (params : ℕ) (s : Embedding) (q h : Path) : Type 0 where
  pub stands : StandsOn s q.conj h.conj
  pub rising : AreRising s.columns
  pub parameters : ArePlaced s.columns (base params) (base params)
  pub left : SeatOn s.columns q.left h.left
  pub right : SeatOn s.columns q.right h.right
  pub gone : h.gone ≡ q.gone
  pub last : AssumedOn s.columns q.last h.last

-- accepted on each path that follows the question so embedded
abbrev pub IsPlanFor : Pairing → List Claim → Embedding → Path → Plan → Type 0
IsPlanFor g cs s q t = (h : Path) → Follows g.params s q h → IsFormed g.params h → AcceptsPlan g cs t h

-- the embedding behind a branch of the step of a question
abbrev pub behind_branch : Embedding → Path → Path → Embedding
behind_branch s q b = grown s (b.conj.columns - q.conj.columns) (length b.conj.rows - length q.conj.rows)

-- a plan for each branch
abbrev pub ArePlansFor : Pairing → List Claim → Embedding → Path → List Path → List Plan → Type 0
ArePlansFor g cs s q [] [] = Unit {0}
ArePlansFor g cs s q (b ∷ bs) (t ∷ ts) = IsPlanFor g cs (behind_branch s q b) b t × ArePlansFor g cs s q bs ts
ArePlansFor g cs s q _ _ = ⊥
