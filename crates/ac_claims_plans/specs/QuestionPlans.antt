-- What serves a question at the positions of a path, as a plan for the question; and plans for the sides of a branch on a row.
use Rattle.std.specs.Prelude.{ℕ, List, [], ◌∷◌, map}
use Rattle.ac_forms.specs.Rows.{IsRowOver, IsWellMade}
use Rattle.ac_forms.specs.declared.conj.Conj.{Conj}
use Rattle.ac_forms.specs.declared.row.Row.{Row}
use Rattle.ac_cert.specs.AcceptedTrees.{Accepts, absurd_refusals}
use Rattle.ac_cert.specs.declared.ends.Absurd.{Absurd}
use Rattle.ac_cert.specs.declared.types.Tree.{Tree}
use Rattle.ac_claims_paths.specs.WellFormedPaths.{IsFormed, AllFormed}
use Rattle.ac_claims_paths.specs.PathSteps.{Pairing, at_rows}
use Rattle.ac_claims_paths.specs.declared.path.Path.{Path}
use Rattle.ac_claims.specs.declared.types.Claim.{Claim}
use Rattle.ac_claims.specs.declared.types.Plan.{Plan}
use Rattle.ac_claims_plans.specs.PlanAcceptance.{Serves}
use Rattle.ac_claims_plans.specs.BranchSides.{side_of, on_side, inside_of, outside_of, CanBranch, BranchServes}
use Rattle.ac_claims_plans.specs.declared.branching.Part.{Part}
use Rattle.ac_claims_plans.specs.declared.embedding.Embedding.{Embedding}
use Rattle.ac_claims_plans.specs.QuestionPaths.{IsPlanFor}

-- what serves the rows of a question at all positions is a plan for the question
abbrev pub ServedQuestionsHavePlans : Type 0
ServedQuestionsHavePlans = (g : Pairing) (cs : List Claim) (s : Embedding) (q : Path) (t : Plan) → ((h : Path) → Serves g cs h s q.conj t) → IsPlanFor g cs s q t

-- the plan serves each well-made question on which the certificate is accepted
abbrev pub IsEmbeddingOf : Tree Absurd → Embedding → Plan → Type 0
IsEmbeddingOf tree s t = (g : Pairing) (cs : List Claim) (h : Path) (c : Conj) → IsWellMade c → Accepts tree absurd_refusals c → Serves g cs h s c t

-- so a certificate that is accepted on a question's rows gives a plan for the question
abbrev pub CertificatesGivePlans : Type 0
CertificatesGivePlans =
    (g : Pairing) (cs : List Claim) (s : Embedding) (q : Path) (tree : Tree Absurd) (t : Plan) → IsEmbeddingOf tree s t → IsWellMade q.conj → Accepts tree absurd_refusals q.conj → IsPlanFor g cs s q t

-- the question on a side
abbrev pub question_on : Path → Part → Path
question_on q p = at_rows q (side_of q.conj p)

-- where a question is formed and a row is over its columns, the question is formed on each side of the row
abbrev pub SidesAreFormed : Type 0
SidesAreFormed = (params : ℕ) (q : Path) (r : Row) → IsFormed params q → IsRowOver q.conj.columns r → AllFormed params (map (question_on q) (inside_of r ∷ outside_of q.conj.columns r))

-- a plan for the question on each side
abbrev pub AreSidePlans : Pairing → List Claim → Embedding → Path → List Part → List Plan → Type 0
AreSidePlans g cs s q [] [] = Unit {0}
AreSidePlans g cs s q (p ∷ ps) (t ∷ ts) = IsPlanFor g cs (on_side s p) (question_on q p) t × AreSidePlans g cs s q ps ts
AreSidePlans g cs s q _ _ = ⊥

-- plans for the sides of a question on a row make one for the question
abbrev pub BranchesGivePlans : Type 0
BranchesGivePlans =
    (g : Pairing) (cs : List Claim) (s : Embedding) (q : Path) (r : Row) (inside : Plan) (outside : List Plan) (t : Plan) → IsWellMade q.conj → IsRowOver q.conj.columns r → CanBranch r → BranchServes s r inside outside t
    → IsPlanFor g cs (on_side s (inside_of r)) (question_on q (inside_of r)) inside → AreSidePlans g cs s q (outside_of q.conj.columns r) outside → IsPlanFor g cs s q t
