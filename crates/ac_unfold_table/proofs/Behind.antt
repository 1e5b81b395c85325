-- The list of the questions one step behind a claim has exactly these.
use Rattle.std.proofs.Common.{◌≡◌, ℕ, zero, suc, ◌<◌, List, [], ◌∷◌, length, Option, Some, None, refl, sym, subst, arith}
use Rattle.std.specs.Prelude.{◌⊎◌, slice_get, option_and_then, option_map, unwrap_or}
use Rattle.std.proofs.Common.{inl, inr}
use Rattle.std.specs.List.{range_with_len}
use Rattle.ac_syntax.specs.declared.tree.Order.{Order}
use Rattle.ac_syntax.specs.declared.tree.Order.TheVariants.{Keep}
use Rattle.ac_syntax.specs.declared.tree.Site.{Site}
use Rattle.ac_forms.specs.ListMembers.{IsAmong}
use Rattle.ac_forms.specs.declared.row.Row.{Row}
use Rattle.ac_claims_paths.specs.PathSteps.{Pairing, branches}
use Rattle.ac_claims_paths.specs.ModelPositions.{cell_read}
use Rattle.ac_claims_paths.specs.declared.places.CellForms.{CellForms}
use Rattle.ac_claims_paths.specs.declared.path.Path.{Path}
use Rattle.ac_claims_paths.specs.declared.path.Side.{Side}
use Rattle.ac_claims_paths.specs.declared.path.Side.TheVariants.{Left, Right}
use Rattle.ac_claims.specs.Domains.{piece_by}
use Rattle.ac_claims.specs.ProofFaults.{Domain, domain}
use Rattle.ac_claims.specs.RemainingPlans.{count_by, start_at, start_beside, start_of}
use Rattle.ac_claims.specs.declared.domains.Piece.{Piece}
use Rattle.ac_claims.specs.declared.types.Claim.{Claim}
use Rattle.ac_flow.specs.declared.types.Case.{Case}
use Rattle.ac_flow.specs.declared.types.ReadFlow.{ReadFlow}
use Rattle.ac_flow.specs.declared.types.Remainder.{Remainder}
use Rattle.ac_unfold_plans.specs.PlanStops.{positions_at}
use Rattle.ac_widen_programs.specs.PairPathSteps.{at_rest}
use Rattle.ac_unfold_plans.specs.ArgumentOrders.{order_of}
use Rattle.ac_unfold_table.specs.StepQuestions.{IsNext, IsStepBehind, ReadsAt, flow_of, judge}
use Rattle.ac_unfold_table.specs.QuestionLists.{at_rest_of, beside_of, branches_of, cases_by, cases_of, next_by, next_if, next_of, questions_of, reads_of, rests_of}
use Rattle.ac_unfold_table.proofs.Lists.{among_either, among_left, among_right, flat_in, flat_of, get_below, in_range, option_in, option_of, some_get, some_list}
use Rattle.ac_unfold.specs.declared.types.ProgramFlows.{ProgramFlows}

-- ---- cases

-- a question of a case at the branch with its number
record OfCase (params : ℕ) (bs : List Path) (cases : List Case) (d : Path) : Type 0 where
  pub number : ℕ
  pub branch : Path
  pub case : Case
  pub rest : Remainder
  pub branch_is : slice_get bs number ≡ Some branch
  pub case_is : slice_get cases number ≡ Some case
  pub among : IsAmong rest case.pieces
  pub at : at_rest params branch rest.conj ≡ Some d

rest_of : (params : ℕ) (b : Path) (case : Case) (d : Path) → IsAmong d (rests_of params b case) → (rest : Remainder) × IsAmong rest case.pieces × (at_rest params b rest.conj ≡ Some d)
rest_of params b case d h =
    let r = flat_of (at_rest_of params b) d case.pieces h in
    (r.0, r.1, option_of d (at_rest params b r.0.conj) r.2)

case_of : (params : ℕ) (bs : List Path) (cases : List Case) (d : Path) → IsAmong d (cases_of params bs cases) → OfCase params bs cases d
case_of params [] cases d h = absurd h
case_of params (b ∷ bs) [] d h = absurd h
case_of params (b ∷ bs) (case ∷ cases) d h = by (among_either d (rests_of params b case) (cases_of params bs cases) h) (λ k. case_of params bs cases d k)
  where
    by : IsAmong d (rests_of params b case) ⊎ IsAmong d (cases_of params bs cases) → (IsAmong d (cases_of params bs cases) → OfCase params bs cases d) → OfCase params (b ∷ bs) (case ∷ cases) d
    by (inl k) next =
        let r = rest_of params b case d k in
        record { number = 0; branch = b; case = case; rest = r.0; branch_is = refl; case_is = refl; among = r.1; at = r.2 }
    by (inr k) next =
        let r = next k in
        record { number = suc r.number; branch = r.branch; case = r.case; rest = r.rest; branch_is = r.branch_is; case_is = r.case_is; among = r.among; at = r.at }

case_in : (params : ℕ) (bs : List Path) (cases : List Case) (number : ℕ) (b : Path) (case : Case) (rest : Remainder) (d : Path) → slice_get bs number ≡ Some b → slice_get cases number ≡ Some case → IsAmong rest case.pieces → at_rest params b rest.conj ≡ Some d
    → IsAmong d (cases_of params bs cases)
case_in params [] cases number b case rest d e f h at = absurd cc
case_in params (a ∷ bs) [] number b case rest d e f h at = absurd cc
case_in params (a ∷ bs) (k ∷ cases) zero b case rest d e f h at =
    let x : b ≡ a = cc in
    let y : case ≡ k = cc in
    let here : IsAmong d (rests_of params b case) = flat_in (at_rest_of params b) rest case.pieces d h (option_in d (at_rest params b rest.conj) at) in
    among_left d (rests_of params a k) (cases_of params bs cases) (subst (λ (z : Path). IsAmong d (rests_of params z k)) x (subst (λ (z : Case). IsAmong d (rests_of params b z)) y here))
case_in params (a ∷ bs) (k ∷ cases) (suc number) b case rest d e f h at = among_right d (rests_of params a k) (cases_of params bs cases) (case_in params bs cases number b case rest d e f h at)

-- ---- one question

reads_are : (s : ProgramFlows) (order : List (Site × Order)) (side : Side) (q d : Path) → ReadsAt (judge s) side q → IsAmong d (reads_of s side q) → IsNext s order q d
reads_are s order side q d reads = by (flow_of s side q) refl
  where
    by : (o : Option ReadFlow) → flow_of s side q ≡ o → IsAmong d (cases_by (judge s).params (branches_of (judge s) Keep q) o) → IsNext s order q d
    by None e h = absurd h
    by (Some flow) e h =
        let r = case_of (judge s).params (branches_of (judge s) Keep q) flow.cases d h in
        let b = some_get r.number r.branch (branches (judge s) Keep q) r.branch_is in
        IsNext.read side flow b.0 r.number r.branch r.case r.rest d reads e b.1 b.2 r.case_is r.among r.at

pub next_are : (s : ProgramFlows) (order : List (Site × Order)) (q d : Path) → IsAmong d (next_of s order q) → IsNext s order q d
next_are s order q d = by (cell_read (judge s).left q.left.position) (cell_read (judge s).right q.right.position) refl refl
  where
    by : (l r : Option CellForms) → cell_read (judge s).left q.left.position ≡ l → cell_read (judge s).right q.right.position ≡ r → IsAmong d (next_by s order q l r) → IsNext s order q d
    by (Some cell) r e f h = reads_are s order Left q d (cell, e) h
    by None (Some cell) e f h = reads_are s order Right q d (e, (cell, f)) h
    by None None e f h =
        let b = some_list d (branches (judge s) (order_of order (positions_at q)) q) h in
        IsNext.call b.0 d (record { left = e; right = f }) b.1 b.2

-- a question of a case is among those of its side
reads_in : (s : ProgramFlows) (side : Side) (q : Path) (flow : ReadFlow) (bs : List Path) (number : ℕ) (b : Path) (case : Case) (rest : Remainder) (d : Path) → flow_of s side q ≡ Some flow → branches (judge s) Keep q ≡ Some bs → slice_get bs number ≡ Some b
    → slice_get flow.cases number ≡ Some case → IsAmong rest case.pieces → at_rest (judge s).params b rest.conj ≡ Some d → IsAmong d (reads_of s side q)
reads_in s side q flow bs number b case rest d e f x y h at =
    subst (λ (o : Option ReadFlow). IsAmong d (cases_by (judge s).params (branches_of (judge s) Keep q) o)) (sym e)
    (subst (λ (o : Option (List Path)). IsAmong d (cases_of (judge s).params (unwrap_or o []) flow.cases)) (sym f) (case_in (judge s).params bs flow.cases number b case rest d x y h at))

-- where it is known what is read
by_cells : (s : ProgramFlows) (order : List (Site × Order)) (q d : Path) (l r : Option CellForms) → cell_read (judge s).left q.left.position ≡ l → cell_read (judge s).right q.right.position ≡ r → IsAmong d (next_by s order q l r) → IsAmong d (next_of s order q)
by_cells s order q d l r e f h =
    subst (λ (x : Option CellForms). IsAmong d (next_by s order q x (cell_read (judge s).right q.right.position))) (sym e) (subst (λ (x : Option CellForms). IsAmong d (next_by s order q l x)) (sym f) h)

side_in : (s : ProgramFlows) (order : List (Site × Order)) (side : Side) (q d : Path) → ReadsAt (judge s) side q → IsAmong d (reads_of s side q) → IsAmong d (next_of s order q)
side_in s order Left q d at h = by_cells s order q d (Some at.0) (cell_read (judge s).right q.right.position) at.1 refl h
side_in s order Right q d at h = by_cells s order q d None (Some at.1.0) at.0 at.1.1 h

pub next_in : (s : ProgramFlows) (order : List (Site × Order)) (q d : Path) → IsNext s order q d → IsAmong d (next_of s order q)
next_in s order q d (IsNext.call bs _ none e h) = by_cells s order q d None None none.left none.right (subst (λ (o : Option (List Path)). IsAmong d (unwrap_or o [])) (sym e) h)
next_in s order q d (IsNext.read side flow bs number b case rest _ at e f x y h k) = side_in s order side q d at (reads_in s side q flow bs number b case rest d e f x y h k)

-- ---- all of a claim

pub questions_are : (s : ProgramFlows) (order : List (Site × Order)) (c : Claim) (q : Path) → IsAmong q (questions_of s order c) → IsStepBehind s order c q
questions_are s order c q h =
    let l = flat_of (beside_of s order c (count_by (domain (judge s).right c.right))) q (range_with_len 0 (count_by (domain (judge s).left c.left))) h in
    let r = flat_of (λ right. next_if s order (start_at (judge s) c l.0 right)) q (range_with_len 0 (count_by (domain (judge s).right c.right))) l.2 in
    by l.0 r.0 (start_at (judge s) c l.0 r.0) refl r.2
  where
    by : (left right : ℕ) (o : Option Path) → start_at (judge s) c left right ≡ o → IsAmong q (next_if s order o) → IsStepBehind s order c q
    by left right None e k = absurd k
    by left right (Some start) e k = record { left = left; right = right; start = start; start_is = e; next = next_are s order start q k }

piece_there : (i : ℕ) (o : Option Domain) (p : Piece) → piece_by i o ≡ Some p → i < count_by o
piece_there i None p e = absurd cc
piece_there i (Some a) p e = by (slice_get a.pieces i) refl e
  where
    by : (o : Option (List Row)) → slice_get a.pieces i ≡ o → option_map (λ rows. record { width = a.width; rows = rows }) o ≡ Some p → i < length a.pieces
    by None f g = absurd cc
    by (Some rows) f g = get_below a.pieces i rows f

start_there : (g : Pairing) (c : Claim) (left right : ℕ) (q : Path) → start_at g c left right ≡ Some q → (left < count_by (domain g.left c.left)) × (right < count_by (domain g.right c.right))
start_there g c left right q = by (piece_by left (domain g.left c.left)) refl
  where
    beside : (l : Piece) (o : Option Piece) → piece_by right (domain g.right c.right) ≡ o → option_and_then (start_of g c l) o ≡ Some q → right < count_by (domain g.right c.right)
    beside l None e f = absurd cc
    beside l (Some r) e f = piece_there right (domain g.right c.right) r e

    by : (o : Option Piece) → piece_by left (domain g.left c.left) ≡ o → option_and_then (λ (l : Piece). start_beside g c l (piece_by right (domain g.right c.right))) o ≡ Some q → (left < count_by (domain g.left c.left)) × (right < count_by (domain g.right c.right))
    by None e f = absurd cc
    by (Some l) e f = (piece_there left (domain g.left c.left) l e, beside l (piece_by right (domain g.right c.right)) refl f)

pub questions_in : (s : ProgramFlows) (order : List (Site × Order)) (c : Claim) (q : Path) → IsStepBehind s order c q → IsAmong q (questions_of s order c)
questions_in s order c q h =
    let t = start_there (judge s) c h.left h.right h.start h.start_is in
    let next : IsAmong q (next_if s order (start_at (judge s) c h.left h.right)) = subst (λ (o : Option Path). IsAmong q (next_if s order o)) (sym h.start_is) (next_in s order h.start q h.next) in
    let right = in_range (count_by (domain (judge s).right c.right)) 0 h.right (omega arith) (omega (arith, t.1)) in
    let left = in_range (count_by (domain (judge s).left c.left)) 0 h.left (omega arith) (omega (arith, t.0)) in
    flat_in (beside_of s order c (count_by (domain (judge s).right c.right))) h.left (range_with_len 0 (count_by (domain (judge s).left c.left))) q left
    (flat_in (λ k. next_if s order (start_at (judge s) c h.left k)) h.right (range_with_len 0 (count_by (domain (judge s).right c.right))) q right next)
