-- A path that follows a question follows it on each side of a branch, with the rows of the side.
use Rattle.std.proofs.Common.{ℕ, ◌≤◌, List, [], ◌∷◌, ◌++◌, Option, Some, None, arith}
use Rattle.std.specs.List.{range_with_len}
use Rattle.ac_forms.specs.Rows.{IsWellMade}
use Rattle.ac_forms.specs.declared.conj.Conj.{Conj}
use Rattle.ac_claims_paths.specs.PathColumns.{base}
use Rattle.ac_claims_paths.specs.WellFormedPaths.{SourceIn, LastIn, IsFormed}
use Rattle.ac_claims_paths.specs.PathSteps.{Pairing, at_rows}
use Rattle.ac_claims_paths.specs.declared.path.Assumed.{Assumed}
use Rattle.ac_claims_paths.specs.declared.path.Path.{Path}
use Rattle.ac_claims_paths.specs.declared.path.Seat.{Seat}
use Rattle.ac_claims.specs.declared.types.Claim.{Claim}
use Rattle.ac_claims.specs.declared.types.Plan.{Plan}
use Rattle.ac_claims_plans.specs.PlanAcceptance.{Serves}
use Rattle.ac_claims_plans.specs.BranchSides.{side_of, on_side, inside_of, outside_of, ServeEach}
use Rattle.ac_claims_plans.specs.QuestionEmbedding.{StandsOn}
use Rattle.ac_claims_plans.specs.declared.branching.Part.{Part}
use Rattle.ac_claims_plans.specs.declared.embedding.Embedding.{Embedding}
use Rattle.ac_claims_plans.specs.QuestionPaths.{SourceOn, AssumedOn, Follows, IsPlanFor}
use Rattle.ac_claims_plans.specs.QuestionPlans.{ServedQuestionsHavePlans, CertificatesGivePlans, question_on, AreSidePlans, BranchesGivePlans}
use Rattle.ac_claims_plans.proofs.Along.{placed-more}
use Rattle.ac_claims_plans.proofs.QuestionBranches.{seat-more}
use Rattle.ac_claims_plans.proofs.Placed.{rising-further}

pub served_have_plans : ServedQuestionsHavePlans
served_have_plans g cs s q t serves h f formed = serves h h.conj f.stands formed.made

pub certificates_give_plans : CertificatesGivePlans
certificates_give_plans g cs s q tree t graft made accepted = served_have_plans g cs s q t (λ h. graft g cs h q.conj made accepted)

-- ---- a side

source-more : (xs ys : List ℕ) (a b : Option Seat) → SourceOn xs a b → SourceOn (xs ++ ys) a b
source-more xs ys None None o = tt
source-more xs ys None (Some b) o = absurd o
source-more xs ys (Some a) None o = absurd o
source-more xs ys (Some a) (Some b) o = seat-more xs ys a b o

last-more : (xs ys : List ℕ) (a b : Option Assumed) → AssumedOn xs a b → AssumedOn (xs ++ ys) a b
last-more xs ys None None o = tt
last-more xs ys None (Some b) o = absurd o
last-more xs ys (Some a) None o = absurd o
last-more xs ys (Some a) (Some b) o = (o.0, seat-more xs ys a.reader b.reader o.1, source-more xs ys a.source b.source o.2)

pub follows-side : (params : ℕ) (s : Embedding) (q h : Path) (p : Part) (d : Conj) → Follows params s q h → StandsOn (on_side s p) (side_of q.conj p) d → Follows params (on_side s p) (question_on q p) (at_rows h d)
follows-side params s q h p d f v =
    let more = range_with_len s.next_column p.question_columns in
    record {
      stands = v;
      rising = rising-further s.next_column s.columns p.question_columns f.stands.among f.rising;
      parameters = placed-more s.columns more (base params) (base params) f.parameters;
      left = seat-more s.columns more q.left h.left f.left;
      right = seat-more s.columns more q.right h.right f.right;
      gone = f.gone;
      last = last-more s.columns more q.last h.last f.last;
    }

source-in : (n m : ℕ) (a : Option Seat) → n ≤ m → SourceIn a n → SourceIn a m
source-in n m None l i = tt
source-in n m (Some a) l i = omega (arith, l, i)

last-in : (n m : ℕ) (a : Option Assumed) → n ≤ m → LastIn a n → LastIn a m
last-in n m None l i = tt
last-in n m (Some a) l i = (omega (arith, l, i.0), source-in n m a.source l i.1)

pub formed-wider : (params : ℕ) (h : Path) (d : Conj) → h.conj.columns ≤ d.columns → IsFormed params h → IsWellMade d → IsFormed params (at_rows h d)
formed-wider params h d l i w = record {
  made = w;
  base_in = (let k = i.base_in in omega (arith, l, k));
  left_in = (let k = i.left_in in omega (arith, l, k));
  right_in = (let k = i.right_in in omega (arith, l, k));
  last_in = last-in h.conj.columns d.columns h.last l i.last_in;
}

pub side-serves : (g : Pairing) (cs : List Claim) (s : Embedding) (q h : Path) (p : Part) (t : Plan) → Follows g.params s q h → IsFormed g.params h → IsPlanFor g cs (on_side s p) (question_on q p) t → Serves g cs h (on_side s p) (side_of q.conj p) t
side-serves g cs s q h p t f i plan d v w =
    let l : h.conj.columns ≤ d.columns = omega (arith, f.stands.path_columns, v.path_columns) in
    plan (at_rows h d) (follows-side g.params s q h p d f v) (formed-wider g.params h d l i w)

sides-serve : (g : Pairing) (cs : List Claim) (s : Embedding) (q h : Path) (ps : List Part) (ts : List Plan) → Follows g.params s q h → IsFormed g.params h → AreSidePlans g cs s q ps ts → ServeEach g cs h s q.conj ps ts
sides-serve g cs s q h [] [] f i each = tt
sides-serve g cs s q h [] (t ∷ ts) f i each = absurd each
sides-serve g cs s q h (p ∷ ps) [] f i each = absurd each
sides-serve g cs s q h (p ∷ ps) (t ∷ ts) f i each = (side-serves g cs s q h p t f i each.0, sides-serve g cs s q h ps ts f i each.1)

pub branches_give_plans : BranchesGivePlans
branches_give_plans g cs s q r inside outside t made over can branch within beside h f i =
    branch g cs h q.conj made over can (side-serves g cs s q h (inside_of r) inside f i within) (sides-serve g cs s q h (outside_of q.conj.columns r) outside f i beside) h.conj f.stands i.made
