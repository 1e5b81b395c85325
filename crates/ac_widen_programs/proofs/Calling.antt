-- A pair path goes on at the arguments of two calls.
use Rattle.std.proofs.Common.{Bool, true, false, cond, ◌&&◌, ◌≡◌, ◌≤◌, ℤ, List, ◌++◌, length, Option, Some, None, refl, sym, ap, ◌∙◌, subst}
use Rattle.ac_forms.specs.Renaming.{picked}
use Rattle.ac_forms.specs.Rows.{Meets}
use Rattle.ac_forms.specs.declared.conj.Conj.{Conj}
use Rattle.ac_syntax.specs.declared.tree.Order.{Order}
use Rattle.ac_syntax.specs.declared.tree.Order.TheVariants.{Keep, Swap}
use Rattle.ac_syntax.specs.declared.tree.Pair.{Pair}
use Rattle.ac_poly.specs.Model.{model_of}
use Rattle.ac_base.proofs.Options.{if-some}
use Rattle.ac_claims.specs.Soundness.{AreModels}
use Rattle.ac_claims_paths.specs.PathColumns.{base, columns_of}
use Rattle.ac_claims_paths.specs.Executions.{execution}
use Rattle.ac_claims_paths.specs.PathSteps.{Pairing, argument_path, branches_by, branches_of_calls, call_branches, same_symbol, swapped}
use Rattle.ac_forms.specs.ListMembers.{IsAmong}
use Rattle.ac_claims_paths.specs.ModelPositions.{CallAt, call_at}
use Rattle.ac_claims_paths.specs.declared.path.Path.{Path}
use Rattle.ac_claims_paths.specs.declared.path.Seat.{Seat}
use Rattle.ac_graph.specs.PairMoves.{pairing_of}
use Rattle.ac_widen_programs.specs.PairSetting.{IsStepPair, may_swap, order_at}
use Rattle.ac_widen_programs.specs.PairPoints.{AreSeen}
use Rattle.ac_widen_programs.proofs.Stepping.{call_steps}
use Rattle.ac_widen_programs.specs.PairPaths.{Unfolding, ComesTo, params_of, point_of, positions_of, seats_of}
use Rattle.ac_widen_programs.specs.PairPathSteps.{CallsLead, OrdersAreTaken, onward, order_of}
use Rattle.ac_widen_programs.proofs.Arguments.{call_branch, argument_placed}
use Rattle.ac_widen_programs.proofs.Picks.{pick_pair}
use Rattle.ac_widen_programs.proofs.Trails.{Step, goes_on}

-- both models are those of the programs
pub own_models : (pair : Pair) → AreModels pair (model_of pair.left pair.context) (model_of pair.right pair.context)
own_models pair = record { left_is = refl; right_is = refl }

-- a step at the points of two pairs of seats, by the numbers in their columns
pub step_there : (u : Unfolding) (p : List ℤ) (s t : Seat × Seat)
    → IsStepPair u.pair (u.order (positions_of s)) (positions_of s) (picked (base (params_of u)) p ++ (picked (columns_of s.0) p ++ picked (columns_of s.1) p)) (positions_of t) (picked (base (params_of u)) p ++ (picked (columns_of t.0) p ++ picked (columns_of t.1) p))
    → Step u p s t
step_there u p s t h =
    subst (λ (y : List ℤ). IsStepPair u.pair (u.order (positions_of s)) (positions_of s) y (positions_of t) (point_of (params_of u) p t)) (sym (pick_pair (params_of u) s.0 s.1 p))
    (subst (λ (y : List ℤ). IsStepPair u.pair (u.order (positions_of s)) (positions_of s) (picked (base (params_of u)) p ++ (picked (columns_of s.0) p ++ picked (columns_of s.1) p)) (positions_of t) y) (sym (pick_pair (params_of u) t.0 t.1 p)) h)

-- ---- orders with branches

keep_or : (b : Bool) → cond b Keep Keep ≡ Keep
keep_or true = refl
keep_or false = refl

order_taken : (g : Pairing) (order : Order) (q : Path) (c d : CallAt) (bs : List Path) → call_branches g order q c d ≡ Some bs → cond (same_symbol c.symbol d.symbol && g.swaps c.symbol) order Keep ≡ order
order_taken g Keep q c d bs e = keep_or (same_symbol c.symbol d.symbol && g.swaps c.symbol)
order_taken g Swap q c d bs e = ap (λ (z : Bool). cond z Swap Keep) (if-some (same_symbol c.symbol d.symbol && g.swaps c.symbol) (swapped q c.args d.args) bs e).0

pub orders_are_taken : OrdersAreTaken
orders_are_taken u q order bs none e = by (call_at (pairing_of u.pair).left q.left.position) (call_at (pairing_of u.pair).right q.right.position) refl refl ((λ i. branches_by (pairing_of u.pair) order q (sym none.left i) (sym none.right i)) ∙ e)
  where
    by : (o o' : Option CallAt) → call_at (pairing_of u.pair).left q.left.position ≡ o → call_at (pairing_of u.pair).right q.right.position ≡ o' → branches_of_calls (pairing_of u.pair) order q o o' ≡ Some bs → order_at u.pair (positions_of (seats_of q)) order ≡ order
    by None o' ce de e = absurd cc
    by (Some c) None ce de e = absurd cc
    by (Some c) (Some d) ce de e = (λ i. cond (may_swap (pairing_of u.pair) (ce i) (de i)) order Keep) ∙ order_taken (pairing_of u.pair) order q c d bs e

-- ---- two calls with branches

call_leads : (u : Unfolding) (pair_path : List (Seat × Seat)) (q : Path) (c d : CallAt) (bs : List Path) (b : Path) (p : List ℤ) → ComesTo u pair_path q p
    → call_at (pairing_of u.pair).left q.left.position ≡ Some c → call_at (pairing_of u.pair).right q.right.position ≡ Some d → call_branches (pairing_of u.pair) (order_of u q) q c d ≡ Some bs → IsAmong b bs
    → ComesTo u (onward pair_path b) b p
call_leads u pair_path q c d bs b p to ce de e n =
    let pair = u.pair in
    let g = pairing_of pair in
    let order = order_of u q in
    let k = call_branch g order q c d bs e b n in
    let r = k.argument in
    let s = to.here in
    let v = picked (base (params_of u)) p in
    let x = picked (columns_of q.left) p in
    let y = picked (columns_of q.right) p in
    let left = argument_placed g.left v (execution pair.left g.left v) s.compared.left s.a q.left.position x s.left_is s.left_at_is c ce r.left_number r.left r.left_there in
    let right = argument_placed g.right v (execution pair.right g.right v) s.compared.right s.b q.right.position y s.right_is s.right_at_is d de r.right_number r.right r.right_there in
    let t : AreSeen pair v r.left x r.right y = record { compared = s.compared; a = left.0; b = right.0; left_is = left.1; left_at_is = left.2; right_is = right.1; right_at_is = right.2 } in
    let step = call_steps pair g.left g.right (own_models pair) v q.left.position x q.right.position y s v r.left x r.right y t refl refl refl c d ce de k.one order
    (record { left_number = r.left_number; right_number = r.right_number; meet = r.meet; left_argument = r.left_there; right_argument = r.right_there }) (u.order (positions_of (seats_of q))) refl in
    let far = argument_path q r.left r.right in
    subst (λ (z : Path). ComesTo u (onward pair_path z) z p) (sym r.is) (goes_on u pair_path q far p to (step_there u p (seats_of q) (seats_of far) step) t)

pub calls_lead : CallsLead
calls_lead u pair_path q b bs leads none e n p long meets = by (call_at (pairing_of u.pair).left q.left.position) (call_at (pairing_of u.pair).right q.right.position) refl refl calls
  where
    calls : branches_of_calls (pairing_of u.pair) (order_of u q) q (call_at (pairing_of u.pair).left q.left.position) (call_at (pairing_of u.pair).right q.right.position) ≡ Some bs
    calls = (λ i. branches_by (pairing_of u.pair) (order_of u q) q (sym none.left i) (sym none.right i)) ∙ e

    by : (o o' : Option CallAt) → call_at (pairing_of u.pair).left q.left.position ≡ o → call_at (pairing_of u.pair).right q.right.position ≡ o' → branches_of_calls (pairing_of u.pair) (order_of u q) q o o' ≡ Some bs → ComesTo u (onward pair_path b) b p
    by None o' ce de e = absurd cc
    by (Some c) None ce de e = absurd cc
    by (Some c) (Some d) ce de e =
        let same : b.conj ≡ q.conj = ap (λ (z : Path). z.conj) (call_branch (pairing_of u.pair) (order_of u q) q c d bs e b n).argument.is in
        call_leads u pair_path q c d bs b p (leads p (subst (λ (z : Conj). z.columns ≤ length p) same long) (subst (λ (z : Conj). Meets z.rows p) same meets)) ce de e n
