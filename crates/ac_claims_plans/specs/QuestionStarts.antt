-- A question that is its own path.
use Rattle.std.specs.Prelude.{ℕ, List, length}
use Rattle.ac_claims_paths.specs.WellFormedPaths.{IsFormed}
use Rattle.ac_claims_paths.specs.PathSteps.{Pairing}
use Rattle.ac_claims_paths.specs.declared.path.Path.{Path}
use Rattle.ac_claims.specs.declared.types.Claim.{Claim}
use Rattle.ac_claims.specs.declared.types.Plan.{Plan}
use Rattle.ac_claims_plans.specs.Embeddings.{itself}
use Rattle.ac_claims_plans.specs.PlanAcceptance.{AcceptsPlan}
use Rattle.ac_claims_plans.specs.declared.embedding.Embedding.{Embedding}
use Rattle.ac_claims_plans.specs.QuestionPaths.{Follows, IsPlanFor}

-- with each column and row at its own place
abbrev pub own_places : Path → Embedding
own_places q = itself q.conj.columns (length q.conj.rows)

abbrev pub QuestionsFollowThemselves : Type 0
QuestionsFollowThemselves = (params : ℕ) (q : Path) → IsFormed params q → Follows params (own_places q) q q

-- so a plan for the question is accepted on it
abbrev pub PlansAreAcceptedAtStarts : Type 0
PlansAreAcceptedAtStarts = (g : Pairing) (cs : List Claim) (q : Path) (t : Plan) → IsFormed g.params q → IsPlanFor g cs (own_places q) q t → AcceptsPlan g cs t q
