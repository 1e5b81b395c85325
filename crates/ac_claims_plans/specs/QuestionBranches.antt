-- Where a path follows a question, the branches of its step follow those of the question.
use Rattle.std.specs.Prelude.{◌≡◌, ℕ, List, [], ◌∷◌, Option, Some}
use Rattle.ac_syntax.specs.declared.tree.Order.{Order}
use Rattle.ac_claims_paths.specs.WellFormedPaths.{IsFormed, AllFormed, HasModuli}
use Rattle.ac_claims_paths.specs.PathSteps.{Pairing, branches}
use Rattle.ac_claims_paths.specs.declared.path.Path.{Path}
use Rattle.ac_claims_plans.specs.declared.embedding.Embedding.{Embedding}
use Rattle.ac_claims_plans.specs.QuestionPaths.{Follows, behind_branch}

-- each path follows its branch of the step of the question q
abbrev pub FollowEach : ℕ → Embedding → Path → List Path → List Path → Type 0
FollowEach params s q [] [] = Unit {0}
FollowEach params s q (b ∷ bs) (h ∷ hs) = Follows params (behind_branch s q b) b h × FollowEach params s q bs hs
FollowEach params s q _ _ = ⊥

-- there are paths, one for each branch, which follow these and are formed
pub record AreBranchesOn (params : ℕ) (s : Embedding) (q : Path) (bs : List Path) (on : Option (List Path)) : Type 0 where
  pub paths : List Path
  pub are : on ≡ Some paths
  pub follow : FollowEach params s q bs paths
  pub formed : AllFormed params paths

-- where a question's step has branches, so has the step of a path that follows it
abbrev pub BranchesFollow : Type 0
BranchesFollow =
    (g : Pairing) → HasModuli g.left → HasModuli g.right → (order : Order) (s : Embedding) (q h : Path) (bs : List Path) → IsFormed g.params q → IsFormed g.params h → Follows g.params s q h
    → branches g order q ≡ Some bs → AreBranchesOn g.params s q bs (branches g order h)
