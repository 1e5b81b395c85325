-- Plans that use tabled claims: along their steps they go on from no path on which one of them is hit.
use Rattle.std.specs.Prelude.{◌≡◌, ◌++◌, false, List, [], ◌∷◌, Some}
use Rattle.std.specs.List.{AllByRecursion}
use Rattle.ac_forms.specs.Renaming.{AreColumns}
use Rattle.ac_forms.specs.Rows.{HaveModuli}
use Rattle.ac_claims_paths.specs.PathColumns.{base, columns_of}
use Rattle.ac_claims_paths.specs.WellFormedPaths.{IsFormed}
use Rattle.ac_claims_paths.specs.PathSteps.{Pairing, branches}
use Rattle.ac_claims_paths.specs.declared.path.Path.{Path}
use Rattle.ac_claims.specs.ProofEnds.{is_hit}
use Rattle.ac_claims.specs.RemainingPlans.{start_at}
use Rattle.ac_claims.specs.declared.types.Claim.{Claim}
use Rattle.ac_claims.specs.declared.types.ClaimTree.{ClaimTree}
use Rattle.ac_claims.specs.declared.types.Plan.{Plan}
use Rattle.ac_claims.specs.declared.types.PlanNext.{PlanNext, Split', Residue', Go', Row_of-Plan, end_of-Plan, more_of-Plan}
use Rattle.ac_claims.specs.declared.types.PlanNext.TheVariants.{Absurd, Killed, Hit, SameNumber, SameInitial}
use Rattle.ac_claims_plans.specs.declared.embedding.Embedding.{Embedding}
use Rattle.ac_claims_plans.specs.QuestionPaths.{Follows}

-- ---- paths

-- none of the claims is hit on the path
abbrev pub HitsNone : Pairing → List Claim → Path → Type 0
HitsNone g claims h = AllByRecursion (λ (c : Claim). is_hit g h (Some c) ≡ false) claims

abbrev mutual
  -- what comes behind the steps of a certificate uses tabled claims from a path on: it takes no step of the pair where one of them is hit, nor does it end
  -- there at a number or an initial cell; and so on behind each step that it takes. A branch on a row leaves the path as it is
  pub UsesTabled : Pairing → List Claim → PlanNext → Path → Type 0
  UsesTabled g claims (Split' f p s l q t r) h = UsesTabled g claims l h × UsesTabled g claims r h
  UsesTabled g claims (Residue' m f shape all) h = ClassesUseTabled g claims all h
  UsesTabled g claims (Go' order shape all) h = HitsNone g claims h × ((hs : List Path) → branches g order h ≡ Some hs → CasesUseTabled g claims all hs)
  UsesTabled g claims (Absurd i) h = Unit {0}
  UsesTabled g claims (Killed kill) h = Unit {0}
  UsesTabled g claims (Hit c) h = Unit {0}
  UsesTabled g claims SameNumber h = HitsNone g claims h
  UsesTabled g claims SameInitial h = HitsNone g claims h

  -- the plans of all classes do
  pub ClassesUseTabled : Pairing → List Claim → {w : _} → Row_of-Plan w → Path → Type 0
  ClassesUseTabled g claims end_of-Plan h = Unit {0}
  ClassesUseTabled g claims (more_of-Plan s t rest) h = UsesTabled g claims t h × ClassesUseTabled g claims rest h

  -- the plans do on the paths of their cases
  pub CasesUseTabled : Pairing → List Claim → {w : _} → Row_of-Plan w → List Path → Type 0
  CasesUseTabled g claims end_of-Plan hs = Unit {0}
  CasesUseTabled g claims (more_of-Plan s t rest) [] = Unit {0}
  CasesUseTabled g claims (more_of-Plan s t rest) (h ∷ hs) = UsesTabled g claims t h × CasesUseTabled g claims rest hs

-- it does so whatever the programs, the claims and the path
abbrev pub UsesTabledAnywhere : PlanNext → Type 0
UsesTabledAnywhere x = (g : Pairing) (claims : List Claim) (h : Path) → UsesTabled g claims x h

-- each modulus in the rows of the claims is at least 1
abbrev pub HaveClaimModuli : List Claim → Type 0
HaveClaimModuli = AllByRecursion (λ (c : Claim). HaveModuli c.rows)

-- the tree of a claim uses tabled claims from its path on, where it starts at the tree's pieces
abbrev pub UsesTabledFromStart : Pairing → List Claim → Claim → ClaimTree → Type 0
UsesTabledFromStart g claims start t = (p : Path) → start_at g start t.left_piece t.right_piece ≡ Some p → UsesTabled g claims t.tree.next p

-- ---- questions

-- it uses tabled claims on a question: from each path on that the question follows, so that the path's rows stand among its own
abbrev pub UsesTabledOn : Pairing → List Claim → Path → PlanNext → Type 0
UsesTabledOn g claims q x = (p : Path) (s : Embedding) → IsFormed g.params p → Follows g.params s p q → UsesTabled g claims x p

-- each plan does on the question of its branch
abbrev pub UseTabledEach : Pairing → List Claim → List Path → List Plan → Type 0
UseTabledEach g claims [] [] = Unit {0}
UseTabledEach g claims (b ∷ bs) (t ∷ ts) = UsesTabledOn g claims b t.next × UseTabledEach g claims bs ts
UseTabledEach g claims _ _ = ⊥

-- where the columns of both positions are among the question's, none of the claims is hit on it
abbrev pub PassesNone : Pairing → List Claim → Path → Type 0
PassesNone g claims q = AreColumns q.conj.columns (base g.params ++ (columns_of q.left ++ columns_of q.right)) → HitsNone g claims q
