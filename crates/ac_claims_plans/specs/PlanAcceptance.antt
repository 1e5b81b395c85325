-- Plans of the judge: when they are accepted, and what certificates become on a path.
use Rattle.std.specs.Prelude.{◌≡◌, ℕ, ℤ, List, [], ◌∷◌, map, None, Box, Vec}
use Rattle.std.specs.declared.alloc.Global.{Global}
use Rattle.ac_forms.specs.Affine.{Affine}
use Rattle.ac_forms.specs.ListMembers.{IsAmong}
use Rattle.ac_forms.specs.Rows.{IsWellMade}
use Rattle.ac_forms.specs.declared.conj.Conj.{Conj}
use Rattle.ac_cert.specs.declared.ends.Absurd.{Absurd}
use Rattle.ac_cert.specs.declared.types.Next as tree
use Rattle.ac_cert.specs.declared.types.Tree.{Tree}
use Rattle.ac_claims_paths.specs.PathSteps.{Pairing, at_rows}
use Rattle.ac_claims_paths.specs.declared.path.Path.{Path}
use Rattle.ac_claims.specs.PlanFaults.{plan_fault}
use Rattle.ac_claims.specs.declared.types.Claim.{Claim}
use Rattle.ac_claims.specs.declared.types.Plan.{Plan}
use Rattle.ac_claims.specs.declared.types.PlanNext as plan
use Rattle.ac_claims.specs.declared.types.PlanNext.TheVariants as end
use Rattle.ac_claims_plans.specs.Embeddings.{row_on, moved_form, moved_step}
use Rattle.ac_claims_plans.specs.QuestionEmbedding.{StandsOn}
use Rattle.ac_claims_plans.specs.declared.embedding.Embedding.{Embedding}

-- no line fails, whatever the number of the first one
abbrev pub AcceptsPlan : Pairing → List Claim → Plan → Path → Type 0
AcceptsPlan g cs t h = (k : ℕ) → plan_fault g cs t h k ≡ None

-- accepted on each path with the positions of h on which the rows of the question c stand so
abbrev pub Serves : Pairing → List Claim → Path → Embedding → Conj → Plan → Type 0
Serves g cs h s c t = (d : Conj) → StandsOn s c d → IsWellMade d → AcceptsPlan g cs t (at_rows h d)

abbrev mutual
  -- the plan has the branches and the end of the certificate, moved
  pub IsMovedNext : Embedding → tree.Next Absurd → plan.PlanNext → Type 0
  IsMovedNext s (tree.End e) (end.Absurd i) = i ≡ row_on s e.row
  IsMovedNext s (tree.Split' f p ss l q ts r) (plan.Split' g u xs v w ys y) =
      (g ≡ moved_form s f) × (xs ≡ map (moved_step s) ss) × IsMovedNext s l v × (ys ≡ map (moved_step s) ts) × IsMovedNext s r y
  IsMovedNext s (tree.Residue' m f shape all) (plan.Residue' n g form each) = (n ≡ m) × (g ≡ moved_form s f) × AreMovedKids s all each
  IsMovedNext s _ _ = ⊥

  pub AreMovedKids : Embedding → {w : _} → tree.Row_of-Tree Absurd w → {v : _} → plan.Row_of-Plan v → Type 0
  AreMovedKids s tree.end_of-Tree plan.end_of-Plan = Unit {0}
  AreMovedKids s (tree.more_of-Tree ss l rest) (plan.more_of-Plan xs v more) = (xs ≡ map (moved_step s) ss) × IsMovedNext s l v × AreMovedKids s rest more
  AreMovedKids s _ _ = ⊥

-- the plan is the certificate, moved
abbrev pub IsMoved : Embedding → Tree Absurd → Plan → Type 0
IsMoved s t p = (p.steps ≡ map (moved_step s) t.steps) × IsMovedNext s t.next p.next

abbrev pub AreMoved : Embedding → List (Tree Absurd) → List Plan → Type 0
AreMoved s [] [] = Unit {0}
AreMoved s (t ∷ ts) (p ∷ ps) = IsMoved s t p × AreMoved s ts ps
AreMoved s _ _ = ⊥

-- ---- branches on rows

-- it branches on rows alone, down to what some of these plans come to behind their steps
pub data BranchesTo (ts : List Plan) : plan.PlanNext → Type 0 where
  ends : (t : Plan) → IsAmong t ts → BranchesTo ts t.next
  split : (f : Affine) (low high : Box Plan Global) → BranchesTo ts low.value.next → BranchesTo ts high.value.next → BranchesTo ts (plan.Split f low high)
  residue : (m : ℤ) (f : Affine) (kids : Vec Plan Global) → ((t : Plan) → IsAmong t kids.items → BranchesTo ts t.next) → BranchesTo ts (plan.Residue m f kids)
