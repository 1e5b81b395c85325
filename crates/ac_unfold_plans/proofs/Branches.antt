-- The branches of a path are behind a step, their columns are there, and where a path has branches its pair is no mismatch.
use Rattle.std.proofs.Common.{◌≡◌, ◌⊎◌, inl, inr, ◌&&◌, ◌+◌, ◌++◌, ℤ, List, [], ◌∷◌, true, Option, Some, None, refl, sym, ap, ◌∙◌, subst}
use Rattle.ac_syntax.specs.declared.tree.Order.{Order}
use Rattle.ac_syntax.specs.declared.tree.Order.TheVariants.{Keep, Swap}
use Rattle.ac_syntax.specs.declared.tree.Pair.{Pair}
use Rattle.ac_syntax.specs.declared.tree.Position.{Position}
use Rattle.ac_forms.specs.declared.conj.Conj.{Conj}
use Rattle.ac_forms.proofs.Joining.{both_of}
use Rattle.ac_poly.specs.Model.{model_of}
use Rattle.ac_base.proofs.Options.{map-some, some-is, if-some}
use Rattle.ac_claims_paths.specs.InstanceCoordinates.{width}
use Rattle.ac_claims_paths.specs.Executions.{execution}
use Rattle.ac_claims_paths.specs.PathSteps.{Pairing, branches, branches_by, branches_of_calls, by_keep, call_branches, case_rows, cases_from, extended, gone_to, initial_path, argument_path, kept, model_of as model_at, read_branches, root, same_symbol, seat_of, swapped}
use Rattle.ac_claims_paths.specs.OnPaths.{Compared}
use Rattle.ac_forms.specs.ListMembers.{IsAmong}
use Rattle.ac_claims_paths.specs.Pairs.{IsMismatch, StandsOn}
use Rattle.ac_claims_paths.specs.ModelPositions.{CallAt, call_at, cell_read}
use Rattle.ac_claims_paths.specs.declared.path.Assumed.{Assumed}
use Rattle.ac_claims_paths.specs.declared.path.Path.{Path}
use Rattle.ac_claims_paths.specs.declared.path.Seat.{Seat}
use Rattle.ac_claims_paths.specs.declared.path.Side.{Side}
use Rattle.ac_claims_paths.specs.declared.path.Side.TheVariants.{Left, Right}
use Rattle.ac_claims_paths.specs.declared.places.CellForms.{CellForms}
use Rattle.ac_claims_paths.proofs.CallSteps.{calls_in, symbol_is}
use Rattle.ac_claims_paths.proofs.InBranches.{all_among, in_either, case_of, in_branches}
use Rattle.ac_claims_paths.proofs.OnPaths.{InPath, moduli_in}
use Rattle.ac_graph.specs.GraphMeaning.{IsCompared, comparison, LeftPlaced, RightPlaced}
use Rattle.ac_widen_programs.proofs.PositionModels.{reads_there, call_there}

pub keep : (order : Order) (o : Option (List Path)) (hs : List Path) → by_keep order o ≡ Some hs → o ≡ Some hs
keep Keep o hs e = e
keep Swap o hs e = absurd cc

-- ---- behind a step

side_gone : (h : Path) (side : Side) (c : Conj) (seat : Seat) (last : Option Assumed) → (gone_to h side c seat last).gone ≡ true
side_gone h Left c seat last = refl
side_gone h Right c seat last = refl

read_gone : (g : Pairing) (h : Path) (side : Side) (cell : CellForms) (hs : List Path) → read_branches g.params (model_at g side) h side cell ≡ Some hs → (k : Path) → IsAmong k hs → k.gone ≡ true
read_gone g h side cell hs e k n =
    let os = cases_from g.params (model_at g side) h side cell 0 (model_at g side).stmts in
    by (in_either (Some k) os (Some (initial_path h side) ∷ []) (all_among k (os ++ Some (initial_path h side) ∷ []) hs e n))
  where
    by : IsAmong (Some k) (cases_from g.params (model_at g side) h side cell 0 (model_at g side).stmts) ⊎ IsAmong (Some k) (Some (initial_path h side) ∷ []) → k.gone ≡ true
    by (inl c) =
        let co = case_of g h side cell 0 (model_at g side).stmts (Some k) c in
        let source = root h.conj.columns (0 + co.j) co.stmt in
        let reader = seat_of h side in
        let last : Option Assumed = Some (record { side = side; reader = reader; source = Some source }) in
        let r = map-some (case_rows g.params reader cell source co.stmt co.piece co.level) (λ rows. gone_to h side (extended h.conj (width co.stmt) rows) source last) k (sym co.case) in
        ap (λ (y : Path). y.gone) r.2 ∙ side_gone h side (extended h.conj (width co.stmt) r.0) source last
    by (inr (inl q)) =
        let reader = seat_of h side in
        ap (λ (y : Path). y.gone) (some-is k (initial_path h side) q) ∙ side_gone h side h.conj (record { position = _; first = reader.first; width = reader.width }) (Some (record { side = side; reader = reader; source = None }))
    by (inr (inr q)) = absurd q

kept_gone : (h : Path) (Ps Qs : List Position) (hs : List Path) → kept h Ps Qs ≡ Some hs → (k : Path) → IsAmong k hs → k.gone ≡ true
kept_gone h [] [] hs e k n = let j : [] ≡ hs = cc in absurd (subst (IsAmong k) (sym j) n)
kept_gone h [] (Q ∷ Qs) hs e k n = absurd cc
kept_gone h (P ∷ Ps) [] hs e k n = absurd cc
kept_gone h (P ∷ Ps) (Q ∷ Qs) hs e k n =
    let b = map-some (kept h Ps Qs) (λ rest. argument_path h P Q ∷ rest) hs e in
    elim (subst (IsAmong k) b.2 n) as (λ x. k.gone ≡ true) [ inl j ↦ ap (λ (y : Path). y.gone) j | inr j ↦ kept_gone h Ps Qs b.0 b.1 k j ]

swapped_gone : (h : Path) (Ps Qs : List Position) (hs : List Path) → swapped h Ps Qs ≡ Some hs → (k : Path) → IsAmong k hs → k.gone ≡ true
swapped_gone h (P ∷ P' ∷ []) (Q ∷ Q' ∷ []) hs e k n =
    let is : hs ≡ argument_path h P Q' ∷ argument_path h P' Q ∷ [] = cc in
    by (subst (IsAmong k) is n)
  where
    by : IsAmong k (argument_path h P Q' ∷ argument_path h P' Q ∷ []) → k.gone ≡ true
    by (inl j) = ap (λ (y : Path). y.gone) j
    by (inr (inl j)) = ap (λ (y : Path). y.gone) j
    by (inr (inr j)) = absurd j
swapped_gone h [] Qs hs e k n = absurd cc
swapped_gone h (P ∷ []) Qs hs e k n = absurd cc
swapped_gone h (P ∷ P' ∷ P'' ∷ Ps) Qs hs e k n = absurd cc
swapped_gone h (P ∷ P' ∷ []) [] hs e k n = absurd cc
swapped_gone h (P ∷ P' ∷ []) (Q ∷ []) hs e k n = absurd cc
swapped_gone h (P ∷ P' ∷ []) (Q ∷ Q' ∷ Q'' ∷ Qs) hs e k n = absurd cc

calls_gone : (g : Pairing) (order : Order) (h : Path) (c d : CallAt) (hs : List Path) → call_branches g order h c d ≡ Some hs → (k : Path) → IsAmong k hs → k.gone ≡ true
calls_gone g Keep h c d hs e = kept_gone h c.args d.args hs (if-some (same_symbol c.symbol d.symbol) (kept h c.args d.args) hs e).1
calls_gone g Swap h c d hs e = swapped_gone h c.args d.args hs (if-some (same_symbol c.symbol d.symbol && g.swaps c.symbol) (swapped h c.args d.args) hs e).1

pub branches_gone : (g : Pairing) (order : Order) (h : Path) (hs : List Path) → branches g order h ≡ Some hs → (k : Path) → IsAmong k hs → k.gone ≡ true
branches_gone g order h hs e = by (cell_read g.left h.left.position) (cell_read g.right h.right.position) e
  where
    calls : (o o' : Option CallAt) → branches_of_calls g order h o o' ≡ Some hs → (k : Path) → IsAmong k hs → k.gone ≡ true
    calls None o' e = absurd cc
    calls (Some c) None e = absurd cc
    calls (Some c) (Some d) e = calls_gone g order h c d hs e

    by : (o o' : Option CellForms) → branches_by g order h o o' ≡ Some hs → (k : Path) → IsAmong k hs → k.gone ≡ true
    by (Some cell) o' e = read_gone g h Left cell hs (keep order (read_branches g.params g.left h Left cell) hs e)
    by None (Some cell) e = read_gone g h Right cell hs (keep order (read_branches g.params g.right h Right cell) hs e)
    by None None e = calls (call_at g.left h.left.position) (call_at g.right h.right.position) e

-- ---- their columns are there

pub branches_in : (g : Compared) (order : Order) (h : Path) (hs : List Path) → InPath g h → branches g.pairing order h ≡ Some hs → (k : Path) → IsAmong k hs → InPath g k
branches_in g order h hs i e = by (cell_read g.pairing.left h.left.position) (cell_read g.pairing.right h.right.position) e
  where
    calls : (o o' : Option CallAt) → branches_of_calls g.pairing order h o o' ≡ Some hs → (k : Path) → IsAmong k hs → InPath g k
    calls None o' e = absurd cc
    calls (Some c) None e = absurd cc
    calls (Some c) (Some d) e = calls_in g order h c d hs i e

    by : (o o' : Option CellForms) → branches_by g.pairing order h o o' ≡ Some hs → (k : Path) → IsAmong k hs → InPath g k
    by (Some cell) o' e = in_branches g.pairing (moduli_in g) h Left cell hs i (keep order (read_branches g.pairing.params g.pairing.left h Left cell) hs e)
    by None (Some cell) e = in_branches g.pairing (moduli_in g) h Right cell hs i (keep order (read_branches g.pairing.params g.pairing.right h Right cell) hs e)
    by None None e = calls (call_at g.pairing.left h.left.position) (call_at g.pairing.right h.right.position) e

-- ---- no mismatch

calls_symbol : (g : Pairing) (order : Order) (h : Path) (c d : CallAt) (hs : List Path) → call_branches g order h c d ≡ Some hs → c.symbol ≡ d.symbol
calls_symbol g Keep h c d hs e = symbol_is c.symbol d.symbol (if-some (same_symbol c.symbol d.symbol) (kept h c.args d.args) hs e).0
calls_symbol g Swap h c d hs e = symbol_is c.symbol d.symbol (both_of (same_symbol c.symbol d.symbol) (g.swaps c.symbol) (if-some (same_symbol c.symbol d.symbol && g.swaps c.symbol) (swapped h c.args d.args) hs e).0).0

pub go_apart : (pair : Pair) (params : List ℤ) (c : IsCompared pair params) (order : Order) (h : Path) (hs : List Path) → branches (comparison pair params c).pairing order h ≡ Some hs → (p : List ℤ) (a : LeftPlaced pair params) (b : RightPlaced pair params)
    → StandsOn (comparison pair params c) h p a b → ¬ (IsMismatch (comparison pair params c) a b)
go_apart pair params c order h hs e p a b st m = by (cell_read (model_of pair.left pair.context) h.left.position) (cell_read (model_of pair.right pair.context) h.right.position) refl refl e
  where
    calls : (o o' : Option CallAt) → call_at (model_of pair.left pair.context) h.left.position ≡ o → call_at (model_of pair.right pair.context) h.right.position ≡ o' → branches_of_calls (comparison pair params c).pairing order h o o' ≡ Some hs → ⊥
    calls None o' q q' e = absurd cc
    calls (Some x) None q q' e = absurd cc
    calls (Some x) (Some y) q q' e =
        let l = call_there (model_of pair.left pair.context) params (execution pair.left (model_of pair.left pair.context) params) c.left a h.left.position x st.left.position_is q in
        let r = call_there (model_of pair.right pair.context) params (execution pair.right (model_of pair.right pair.context) params) c.right b h.right.position y st.right.position_is q' in
        m.apart (inl (l.0, r.0, ap (λ (z : CallAt). z.symbol) l.1 ∙ calls_symbol (comparison pair params c).pairing order h x y hs e ∙ ap (λ (z : CallAt). z.symbol) (sym r.1)))

    by : (o o' : Option CellForms) → cell_read (model_of pair.left pair.context) h.left.position ≡ o → cell_read (model_of pair.right pair.context) h.right.position ≡ o' → branches_by (comparison pair params c).pairing order h o o' ≡ Some hs → ⊥
    by (Some cell) o' q q' e = m.left (reads_there (model_of pair.left pair.context) params (execution pair.left (model_of pair.left pair.context) params) c.left a h.left.position st.left.position_is (cell, q))
    by None (Some cell) q q' e = m.right (reads_there (model_of pair.right pair.context) params (execution pair.right (model_of pair.right pair.context) params) c.right b h.right.position st.right.position_is (cell, q'))
    by None None q q' e = calls (call_at (model_of pair.left pair.context) h.left.position) (call_at (model_of pair.right pair.context) h.right.position) refl refl e
