-- What is shown of a path: each pair of spots at a point of it is covered. Where this holds of all branches of a step, it holds of the path.
use Rattle.std.proofs.Common.{◌≡◌, ℕ, ℤ, List, [], ◌∷◌, ◌++◌, Bool, true, false, Some, subst, rules}
use Rattle.std.specs.Prelude.{slice_get, IsTrue}
use Rattle.ac_forms.specs.Rows.{Meets, HaveModuli, AreRowsOver}
use Rattle.ac_syntax.specs.Source.{Writer, source}
use Rattle.ac_syntax.specs.Spot.{Spot, AtNode, resolved}
use Rattle.ac_syntax.specs.declared.tree.Order.{Order}
use Rattle.ac_syntax.specs.declared.tree.Order.TheVariants.{Keep, Swap}
use Rattle.ac_syntax.specs.declared.tree.Place.{Place}
use Rattle.ac_syntax.specs.declared.tree.Symbol.{Symbol}
use Rattle.ac_syntax.specs.declared.tree.Value.{Value}
use Rattle.ac_syntax.specs.declared.tree.Value.TheVariants.{Call}
use Rattle.ac_claims_paths.specs.Executions.{At}
use Rattle.ac_claims_paths.specs.PathSteps.{read_branches, call_branches}
use Rattle.ac_claims_paths.specs.OnPaths.{Compared, OnPath}
use Rattle.ac_claims_paths.specs.ModelPositions.{CallAt, cell_read, call_at}
use Rattle.ac_claims_paths.specs.declared.places.CellForms.{CellForms}
use Rattle.ac_claims_paths.specs.declared.path.Path.{Path}
use Rattle.ac_claims_paths.specs.declared.path.Side.TheVariants.{Left, Right}
use Rattle.ac_claims_paths.proofs.OnPaths.{InPath}
use Rattle.ac_forms.specs.ListMembers.{IsAmong}
use Rattle.ac_claims_paths.proofs.ReadSteps.{Behind, left_read, right_read}
use Rattle.ac_claims_paths.proofs.CallSteps.{EachBehind, BothBehind, ArgumentsBehind, calls_step}
use Rattle.ac_claims.specs.declared.types.Claim.{Claim}
use Rattle.ac_claims.proofs.Covered.{Runs, Covered, AllCovered, go_left, go_right, go_keep, go_swap, no_more, one_more}

-- two programs at a valuation of the context, with the claims that a proof is checked against
pub record Setting : Type 1 where
  pub on : Compared
  pub claims : List Claim
  pub context : Meets on.pairing.left.context on.params
  pub context_made : AreRowsOver on.pairing.params on.pairing.left.context
  pub moduli : (i : ℕ) (c : Claim) → slice_get claims i ≡ Some c → HaveModuli c.rows

abbrev pub runs_of : Setting → Runs
runs_of g = record { is_input = g.on.input; swaps = g.on.pairing.swaps; left = g.on.left.trace; right = g.on.right.trace }

-- the pairs that claims are about, at points of their rows
abbrev pub Claimed : Setting → Spot → Spot → Type 0
Claimed g s t = (i : ℕ) × (c : Claim) × (slice_get g.claims i ≡ Some c) × (x : List ℤ) × (y : List ℤ) × At g.on.left c.left x s × At g.on.right c.right y t × Meets c.rows (g.on.params ++ (x ++ y))

abbrev pub Good : Setting → Path → Type 0
Good g h = (p : List ℤ) (s t : Spot) → OnPath g.on h p s t → Covered (runs_of g) (Claimed g) h.gone s t

abbrev pub EachGood : Setting → List Path → Type 0
EachGood g hs = (h : Path) → IsAmong h hs → Good g h

at_branch : (g : Setting) (hs : List Path) (p : List ℤ) (s t : Spot) → EachGood g hs → Behind g.on hs p s t → Covered (runs_of g) (Claimed g) true s t
at_branch g hs p s t good b = subst (λ z. Covered (runs_of g) (Claimed g) z s t) b.gone (good b.path b.among (p ++ b.more) s t b.on)

pub left_good : (g : Setting) (h : Path) (cell : CellForms) (hs : List Path) → InPath g.on h → cell_read g.on.pairing.left h.left.position ≡ Some cell → read_branches g.on.pairing.params g.on.pairing.left h Left cell ≡ Some hs → EachGood g hs → Good g h
left_good g h cell hs i e br good p s t a =
    let r = left_read g.on h cell hs i e br p s t a in
    go_left h.gone s t r.cell r.before r.reads (at_branch g hs p (resolved r.cell (source r.cell r.before)) t good r.behind)

pub right_good : (g : Setting) (h : Path) (cell : CellForms) (hs : List Path) → InPath g.on h → cell_read g.on.pairing.right h.right.position ≡ Some cell → read_branches g.on.pairing.params g.on.pairing.right h Right cell ≡ Some hs → EachGood g hs → Good g h
right_good g h cell hs i e br good p s t a =
    let r = right_read g.on h cell hs i e br p s t a in
    go_right h.gone s t r.cell r.before r.reads (at_branch g hs p s (resolved r.cell (source r.cell r.before)) good r.behind)

each_covered : (g : Setting) (hs : List Path) (p : List ℤ) (w u : Writer) → EachGood g hs → (vs us : List Value) → EachBehind g.on hs p w u vs us → AllCovered (runs_of g) (Claimed g) w u vs us
each_covered g hs p w u good [] [] b = no_more w u
each_covered g hs p w u good [] (v ∷ us) b = absurd b
each_covered g hs p w u good (v ∷ vs) [] b = absurd b
each_covered g hs p w u good (v ∷ vs) (v' ∷ us) b = one_more w u v v' vs us (at_branch g hs p (AtNode w v) (AtNode u v') good b.0) (each_covered g hs p w u good vs us b.1)

true_is : (b : Bool) → b ≡ true → IsTrue b
true_is true e = search rules
true_is false e = absurd cc

both_covered : (g : Setting) (hs : List Path) (p : List ℤ) (gone : Bool) (f : Symbol) (w u : Writer) (i j : Place) → IsTrue (g.on.pairing.swaps f) → EachGood g hs → (vs us : List Value) → BothBehind g.on hs p w u vs us → Covered (runs_of g) (Claimed g) gone (AtNode w (Call f vs i)) (AtNode u (Call f us j))
both_covered g hs p gone f w u i j sw good (v ∷ v' ∷ []) (z ∷ z' ∷ []) b =
    go_swap gone w u f v v' z z' i j sw (at_branch g hs p (AtNode w v) (AtNode u z') good b.0) (at_branch g hs p (AtNode w v') (AtNode u z) good b.1)
both_covered g hs p gone f w u i j sw good [] us b = absurd b
both_covered g hs p gone f w u i j sw good (v ∷ []) us b = absurd b
both_covered g hs p gone f w u i j sw good (v ∷ v' ∷ v'' ∷ vs) us b = absurd b
both_covered g hs p gone f w u i j sw good (v ∷ v' ∷ []) [] b = absurd b
both_covered g hs p gone f w u i j sw good (v ∷ v' ∷ []) (z ∷ []) b = absurd b
both_covered g hs p gone f w u i j sw good (v ∷ v' ∷ []) (z ∷ z' ∷ z'' ∷ zs) b = absurd b

arguments_covered : (g : Setting) (order : Order) (hs : List Path) (p : List ℤ) (gone : Bool) (f : Symbol) (w u : Writer) (i j : Place) (vs us : List Value) → EachGood g hs → ArgumentsBehind order g.on hs p f w u vs us
    → Covered (runs_of g) (Claimed g) gone (AtNode w (Call f vs i)) (AtNode u (Call f us j))
arguments_covered g Keep hs p gone f w u i j vs us good b = go_keep gone w u f vs us i j (each_covered g hs p w u good vs us b)
arguments_covered g Swap hs p gone f w u i j vs us good b = both_covered g hs p gone f w u i j (true_is (g.on.pairing.swaps f) b.0) good vs us b.1

pub at_spots : (g : Setting) (b : Bool) (s t s' t' : Spot) → s ≡ s' → t ≡ t' → Covered (runs_of g) (Claimed g) b s' t' → Covered (runs_of g) (Claimed g) b s t
at_spots g b s t s' t' e f h = rw (e, f) h

pub calls_good : (g : Setting) (order : Order) (h : Path) (c d : CallAt) (hs : List Path) → call_at g.on.pairing.left h.left.position ≡ Some c → call_at g.on.pairing.right h.right.position ≡ Some d → call_branches g.on.pairing order h c d ≡ Some hs → EachGood g hs → Good g h
calls_good g order h c d hs ec ed e good p s t a =
    let b = calls_step g.on order h c d hs ec ed e p s t a in
    at_spots g h.gone s t _ _ b.left_is b.right_is (arguments_covered g order hs p h.gone b.symbol b.left b.right b.left_place b.right_place b.left_args b.right_args good b.behind)
