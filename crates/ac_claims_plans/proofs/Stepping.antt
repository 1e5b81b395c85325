-- A step of a pair: its branches on a path that follows the question, and plans for the question's branches as one for the question.
use Rattle.std.proofs.Common.{◌≡◌, List, [], ◌∷◌, Option, Some, None, refl, sym, ap, subst}
use Rattle.std.specs.Prelude.{ℕ, ◌&&◌}
use Rattle.ac_forms.specs.Rows.{IsWellMade}
use Rattle.ac_syntax.specs.declared.tree.Order.{Order}
use Rattle.ac_syntax.specs.declared.tree.Order.TheVariants.{Keep, Swap}
use Rattle.ac_syntax.specs.declared.tree.Position.{Position}
use Rattle.ac_base.proofs.Options.{map-some, some-is, if-some}
use Rattle.ac_claims_plans.specs.PlanAcceptance.{AcceptsPlan}
use Rattle.ac_claims_plans.specs.declared.embedding.Embedding.{Embedding}
use Rattle.ac_claims_paths.specs.WellFormedPaths.{IsFormed, AllFormed, HasModuli}
use Rattle.ac_claims_paths.specs.PathSteps.{Pairing, argument_path, kept, swapped, same_symbol, branches_of_calls, branches_by, branches}
use Rattle.ac_claims_paths.specs.ModelPositions.{CallAt, cell_read, call_at}
use Rattle.ac_claims_paths.specs.declared.path.Path.{Path}
use Rattle.ac_claims_paths.specs.declared.places.CellForms.{CellForms}
use Rattle.ac_claims_paths.specs.declared.path.Side.TheVariants.{Left, Right}
use Rattle.ac_claims_paths.proofs.Forming.{branches_formed}
use Rattle.ac_claims.specs.declared.types.Claim.{Claim}
use Rattle.ac_claims.specs.declared.types.Plan.{Plan}
use Rattle.ac_claims_plans.specs.QuestionBranches.{FollowEach, BranchesFollow}
use Rattle.ac_claims_plans.specs.QuestionPaths.{Follows, behind_branch, IsPlanFor, ArePlansFor}
use Rattle.ac_claims_plans.proofs.QuestionBranches.{PathsOn, read-on, behind-still}
use Rattle.ac_claims_plans.proofs.Going.{AcceptEach}

-- ---- calls

argument-on : (params : ℕ) (s : Embedding) (q h : Path) → Follows params s q h → (p r : Position) → Follows params (behind_branch s q (argument_path q p r)) (argument_path q p r) (argument_path h p r)
argument-on params s q h f p r = subst (λ (z : Embedding). Follows params z (argument_path q p r) (argument_path h p r)) (sym (behind-still s q (argument_path q p r) refl)) (record {
  stands = f.stands;
  rising = f.rising;
  parameters = f.parameters;
  left = record { position = refl; width = f.left.width; coordinates = f.left.coordinates };
  right = record { position = refl; width = f.right.width; coordinates = f.right.coordinates };
  gone = refl;
  last = tt;
})

kept-on : (params : ℕ) (s : Embedding) (q h : Path) → Follows params s q h → (ps rs : List Position) (bs : List Path) → kept q ps rs ≡ Some bs → PathsOn params s q bs (kept h ps rs)
kept-on params s q h f [] [] bs e = rw (sym (some-is [] bs e)) (record { paths = []; is = refl; each = tt })
kept-on params s q h f [] (r ∷ rs) bs e = absurd cc
kept-on params s q h f (p ∷ ps) [] bs e = absurd cc
kept-on params s q h f (p ∷ ps) (r ∷ rs) bs e =
    let b = map-some (kept q ps rs) (λ rest. argument_path q p r ∷ rest) bs e in
    let rest = kept-on params s q h f ps rs b.0 b.1 in
    rw b.2 (record { paths = argument_path h p r ∷ rest.paths; is = rw rest.is refl; each = (argument-on params s q h f p r, rest.each) })

swapped-on : (params : ℕ) (s : Embedding) (q h : Path) → Follows params s q h → (ps rs : List Position) (bs : List Path) → swapped q ps rs ≡ Some bs → PathsOn params s q bs (swapped h ps rs)
swapped-on params s q h f [] rs bs e = absurd cc
swapped-on params s q h f (p ∷ []) rs bs e = absurd cc
swapped-on params s q h f (p ∷ p' ∷ x ∷ ps) rs bs e = absurd cc
swapped-on params s q h f (p ∷ p' ∷ []) [] bs e = absurd cc
swapped-on params s q h f (p ∷ p' ∷ []) (r ∷ []) bs e = absurd cc
swapped-on params s q h f (p ∷ p' ∷ []) (r ∷ r' ∷ x ∷ rs) bs e = absurd cc
swapped-on params s q h f (p ∷ p' ∷ []) (r ∷ r' ∷ []) bs e =
    rw (sym (some-is (argument_path q p r' ∷ argument_path q p' r ∷ []) bs e)) (record {
      paths = argument_path h p r' ∷ argument_path h p' r ∷ [];
      is = refl;
      each = (argument-on params s q h f p r', (argument-on params s q h f p' r, tt));
    })

calls-on : (g : Pairing) (order : Order) (s : Embedding) (q h : Path) → Follows g.params s q h → (a b : Option CallAt) (bs : List Path) → branches_of_calls g order q a b ≡ Some bs → PathsOn g.params s q bs (branches_of_calls g order h a b)
calls-on g order s q h f None b bs e = absurd cc
calls-on g order s q h f (Some a) None bs e = absurd cc
calls-on g Keep s q h f (Some a) (Some b) bs e =
    let c = if-some (same_symbol a.symbol b.symbol) (kept q a.args b.args) bs e in
    rw c.0 (kept-on g.params s q h f a.args b.args bs c.1)
calls-on g Swap s q h f (Some a) (Some b) bs e =
    let c = if-some (same_symbol a.symbol b.symbol && g.swaps a.symbol) (swapped q a.args b.args) bs e in
    rw c.0 (swapped-on g.params s q h f a.args b.args bs c.1)

-- ---- all steps

by-on : (g : Pairing) (order : Order) (s : Embedding) (q h : Path) → IsWellMade q.conj → Follows g.params s q h → (o p : Option CellForms) (bs : List Path) → branches_by g order q o p ≡ Some bs → PathsOn g.params s q bs (branches_by g order h o p)
by-on g Keep s q h made f (Some cell) p bs e = read-on g.params g.left s q h made f Left cell bs e
by-on g Swap s q h made f (Some cell) p bs e = absurd cc
by-on g Keep s q h made f None (Some cell) bs e = read-on g.params g.right s q h made f Right cell bs e
by-on g Swap s q h made f None (Some cell) bs e = absurd cc
by-on g order s q h made f None None bs e =
    subst (λ (o : Option CallAt). PathsOn g.params s q bs (branches_of_calls g order h o (call_at g.right h.right.position))) (sym (ap (call_at g.left) f.left.position))
    (subst (λ (o : Option CallAt). PathsOn g.params s q bs (branches_of_calls g order h (call_at g.left q.left.position) o)) (sym (ap (call_at g.right) f.right.position))
    (calls-on g order s q h f (call_at g.left q.left.position) (call_at g.right q.right.position) bs e))

pub branches-on : (g : Pairing) (order : Order) (s : Embedding) (q h : Path) → IsWellMade q.conj → Follows g.params s q h → (bs : List Path) → branches g order q ≡ Some bs → PathsOn g.params s q bs (branches g order h)
branches-on g order s q h made f bs e =
    subst (λ (o : Option CellForms). PathsOn g.params s q bs (branches_by g order h o (cell_read g.right h.right.position))) (sym (ap (cell_read g.left) f.left.position))
    (subst (λ (o : Option CellForms). PathsOn g.params s q bs (branches_by g order h (cell_read g.left q.left.position) o)) (sym (ap (cell_read g.right) f.right.position))
    (by-on g order s q h made f (cell_read g.left q.left.position) (cell_read g.right q.right.position) bs e))

pub branches_follow : BranchesFollow
branches_follow g hl hr order s q h bs iq ih f e =
    let b = branches-on g order s q h iq.made f bs e in
    record { paths = b.paths; are = b.is; follow = b.each; formed = branches_formed g order h b.paths hl hr ih b.is }

-- ---- plans

each-accepted : (g : Pairing) (cs : List Claim) (s : Embedding) (q : Path) (bs : List Path) (ts : List Plan) (hs : List Path) → ArePlansFor g cs s q bs ts → FollowEach g.params s q bs hs → AllFormed g.params hs → AcceptEach g cs ts hs
each-accepted g cs s q [] [] [] each follow formed = tt
each-accepted g cs s q [] [] (h ∷ hs) each follow formed = absurd follow
each-accepted g cs s q [] (t ∷ ts) hs each follow formed = absurd each
each-accepted g cs s q (b ∷ bs) [] hs each follow formed = absurd each
each-accepted g cs s q (b ∷ bs) (t ∷ ts) [] each follow formed = absurd follow
each-accepted g cs s q (b ∷ bs) (t ∷ ts) (h ∷ hs) each follow formed =
    (each.0 h follow.0 formed.0, each-accepted g cs s q bs ts hs each.1 follow.1 formed.1)

pub go-serves : (g : Pairing) → HasModuli g.left → HasModuli g.right → (cs : List Claim) (order : Order) (s : Embedding) (q : Path) (bs : List Path) (ts : List Plan) (t : Plan) → IsFormed g.params q → branches g order q ≡ Some bs → ArePlansFor g cs s q bs ts
    → ((h : Path) (hs : List Path) → branches g order h ≡ Some hs → AcceptEach g cs ts hs → AcceptsPlan g cs t h) → IsPlanFor g cs s q t
go-serves g hl hr cs order s q bs ts t formed is each go = λ h f ih.
    let b = branches_follow g hl hr order s q h bs formed ih f is in
    go h b.paths b.are (each-accepted g cs s q bs ts b.paths each b.follow b.formed)
