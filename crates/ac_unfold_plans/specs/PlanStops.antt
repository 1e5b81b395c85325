-- When a part of a proof stops at the recurrence pairs: behind a first step its plans go on from other pairs alone.
use Rattle.std.specs.Prelude.{ℕ, ◌+◌, ◌≡◌, ℤ, pos, negsuc, List, [], ◌∷◌, Bool, true, false, ◌&&◌, cond, Some}
use Rattle.ac_forms.specs.Affine.{Affine}
use Rattle.ac_forms.specs.declared.conj.Conj.{Conj}
use Rattle.ac_forms.specs.declared.row.Row.{Row}
use Rattle.ac_forms.specs.declared.row.Row.TheVariants.{Ge}
use Rattle.ac_syntax.specs.declared.tree.Order.{Order}
use Rattle.ac_syntax.specs.declared.tree.Pair.{Pair}
use Rattle.ac_syntax.specs.declared.tree.Position.{Position}
use Rattle.ac_poly.specs.Model.{model_of}
use Rattle.ac_cert.specs.AcceptedTrees.{after_steps}
use Rattle.ac_cert.specs.Rules.{both_sides, class}
use Rattle.ac_cert.specs.declared.types.Step.{Step}
use Rattle.ac_claims_paths.specs.PathSteps.{Pairing, at_rows, branches}
use Rattle.ac_forms.specs.ListMembers.{IsAmong}
use Rattle.ac_claims_paths.specs.declared.path.Path.{Path}
use Rattle.ac_claims.specs.ProofEnds.{same_pair}
use Rattle.ac_claims.specs.ProofFaults.{DuePlan, due_from}
use Rattle.ac_claims.specs.Soundness.{pairing_of}
use Rattle.ac_claims.specs.declared.types.Claim.{Claim}
use Rattle.ac_claims.specs.declared.types.ClaimTree.{ClaimTree}
use Rattle.ac_claims.specs.declared.types.Plan.{Plan}
use Rattle.ac_claims.specs.declared.types.PlanNext.{PlanNext, Split', Residue', Go', Row_of-Plan, end_of-Plan, more_of-Plan}
use Rattle.ac_claims.specs.declared.types.PlanNext.TheVariants.{Absurd, Killed, Hit, SameNumber, SameInitial}
use Rattle.ac_claims.specs.declared.types.Proof.{Proof}
use Rattle.ac_widen.specs.Claims.{IsClaimRow}
use Rattle.ac_widen.specs.Combinations.{Each}
use Rattle.ac_widen_programs.specs.PairSetting.{order_at}

-- ---- plans

-- the pair of positions of a path
abbrev pub positions_at : Path → Position × Position
positions_at h = (h.left.position, h.right.position)

-- a plan may go on from the pair of a path: no step was taken yet, or the pair is no recurrence pair
abbrev pub MayGoOn : (Position × Position → Bool) → Path → Type 0
MayGoOn recurrent h = h.gone ≡ true → recurrent (positions_at h) ≡ false

abbrev pub programs_of : Pair → Pairing
programs_of pair = pairing_of pair (model_of pair.left pair.context) (model_of pair.right pair.context)

-- what holds of the rows behind steps
abbrev pub Behind : List Step → Conj → (Conj → Type 0) → Type 0
Behind steps c P = (d : Conj) → after_steps steps c ≡ Some d → P d

abbrev mutual
  -- behind its steps a plan stops at recurrence pairs: there it neither goes on nor ends at a number or an initial cell, which leaves
  -- the claim of the pair, a row that no point meets, and a copy that kills. Its steps take arguments as the order says, and its claims
  -- are of the part
  pub Stops : Pair → (Position × Position → Order) → (Position × Position → Bool) → (ℕ → Bool) → PlanNext → Path → Type 0
  Stops pair order recurrent part (Split' f p s l q t r) h =
      (a b : Conj) → both_sides f h.conj ≡ Some (a, b) → Behind s a (λ d. Stops pair order recurrent part l (at_rows h d)) × Behind t b (λ d. Stops pair order recurrent part r (at_rows h d))
  Stops pair order recurrent part (Residue' m f shape all) h = ClassesStop pair order recurrent part all m f 0 h
  Stops pair order recurrent part (Go' taken shape all) h =
      MayGoOn recurrent h × (taken ≡ order_at pair (positions_at h) (order (positions_at h))) × ((hs : List Path) → branches (programs_of pair) taken h ≡ Some hs → CasesStop pair order recurrent part all hs)
  Stops pair order recurrent part (Absurd i) h = Unit {0}
  Stops pair order recurrent part (Killed kill) h = Unit {0}
  Stops pair order recurrent part (Hit c) h = part c ≡ true
  Stops pair order recurrent part SameNumber h = MayGoOn recurrent h
  Stops pair order recurrent part SameInitial h = MayGoOn recurrent h

  -- the plans stop in the classes of the form, from class i on
  pub ClassesStop : Pair → (Position × Position → Order) → (Position × Position → Bool) → (ℕ → Bool) → {w : _} → Row_of-Plan w → ℤ → Affine → ℕ → Path → Type 0
  ClassesStop pair order recurrent part end_of-Plan m f i h = Unit {0}
  ClassesStop pair order recurrent part (more_of-Plan s t rest) m f i h = Behind s (class m f (pos i) h.conj) (λ d. Stops pair order recurrent part t (at_rows h d)) × ClassesStop pair order recurrent part rest m f (i + 1) h

  -- the plans stop on the paths of their cases
  pub CasesStop : Pair → (Position × Position → Order) → (Position × Position → Bool) → (ℕ → Bool) → {w : _} → Row_of-Plan w → List Path → Type 0
  CasesStop pair order recurrent part end_of-Plan hs = Unit {0}
  CasesStop pair order recurrent part (more_of-Plan s t rest) [] = Unit {0}
  CasesStop pair order recurrent part (more_of-Plan s t rest) (h ∷ hs) = Behind s h.conj (λ d. Stops pair order recurrent part t (at_rows h d)) × CasesStop pair order recurrent part rest hs

abbrev pub PlanStops : Pair → (Position × Position → Order) → (Position × Position → Bool) → (ℕ → Bool) → Plan → Path → Type 0
PlanStops pair order recurrent part t h = Behind t.steps h.conj (λ d. Stops pair order recurrent part t.next (at_rows h d))

-- ---- proofs

-- the pair of positions of a claim
abbrev pub claim_positions : Claim → Position × Position
claim_positions c = (c.left, c.right)

-- each tree of a claim of the part stops on the path that is due for it
abbrev pub TreesStop : Pair → (Position × Position → Order) → (Position × Position → Bool) → (ℕ → Bool) → List ClaimTree → List DuePlan → Type 0
TreesStop pair order recurrent part [] ds = Unit {0}
TreesStop pair order recurrent part (t ∷ ts) [] = Unit {0}
TreesStop pair order recurrent part (t ∷ ts) (d ∷ ds) = (part d.claim ≡ true → (h : Path) → d.path ≡ Some h → PlanStops pair order recurrent part t.tree h) × TreesStop pair order recurrent part ts ds

-- the claims of the part, from claim i on
abbrev pub claims_of : (ℕ → Bool) → ℕ → List Claim → List Claim
claims_of part i [] = []
claims_of part i (c ∷ cs) = cond (part i) (c ∷ claims_of part (i + 1) cs) (claims_of part (i + 1) cs)

-- a part of a proof, some of its claims by their numbers, stops at the recurrence pairs: the trees do, and a recurrence pair has one
-- claim at most there, of claim rows
pub record IsStopping (pair : Pair) (order : Position × Position → Order) (recurrent : Position × Position → Bool) (template : Position × Position → List Row) (part : ℕ → Bool) (proof : Proof) : Type 0 where
  pub trees : TreesStop pair order recurrent part proof.trees.items (due_from (programs_of pair) 0 proof.claims)
  pub alone : (c d : Claim) → IsAmong c (claims_of part 0 proof.claims) → IsAmong d (claims_of part 0 proof.claims) → recurrent (claim_positions c) ≡ true → claim_positions c ≡ claim_positions d → c ≡ d
  pub rows : (c : Claim) → IsAmong c (claims_of part 0 proof.claims) → recurrent (claim_positions c) ≡ true → Each (IsClaimRow (template (claim_positions c))) c.rows

-- ---- claims

-- the rows of the first claim of a pair; of a pair that has none, a row that no point meets
abbrev pub claim_at : List Claim → Position × Position → List Row
claim_at [] positions = Ge (record { konst = negsuc 0; coefs = [] }) ∷ []
claim_at (c ∷ cs) positions = cond (same_pair (claim_positions c) positions) c.rows (claim_at cs positions)
