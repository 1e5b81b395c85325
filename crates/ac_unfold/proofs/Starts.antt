-- Where the plans of a claim start, and the trees that are made of them.
use Rattle.std.proofs.Common.{◌≡◌, Bool, false, true, ℕ, zero, suc, ◌+◌, List, [], ◌∷◌, ◌++◌, map, length, Option, Some, None, refl, sym, ap, ◌∙◌, subst, append_assoc, arith}
use Rattle.std.specs.Prelude.{Result, Ok, Err, IfOk, IfSome}
use Rattle.std.specs.List.{AllByRecursion, range_with_len}
use Rattle.ac_forms.specs.Rows.{IsWellMade}
use Rattle.ac_forms.specs.declared.row.Row.{Row}
use Rattle.ac_base.proofs.Options.{bind-some, map-some, some-is}
use Rattle.ac_syntax.specs.declared.tree.Order.{Order}
use Rattle.ac_syntax.specs.declared.tree.Position.{Position}
use Rattle.ac_syntax.specs.declared.tree.Site.{Site}
use Rattle.ac_syntax.proofs.TurnEntries.{flat_map_last}
use Rattle.ac_claims_paths.specs.ModelCalls.{pairing}
use Rattle.ac_claims_paths.specs.WellFormedPaths.{IsFormed, LastIn}
use Rattle.ac_claims_paths.specs.PathSteps.{Pairing}
use Rattle.ac_claims_paths.specs.declared.path.Path.{Path}
use Rattle.ac_claims.specs.Domains.{of_width, piece_by}
use Rattle.ac_claims.specs.ProofFaults.{domain, left_seat, piece_rows, right_seat, start, start_columns}
use Rattle.ac_claims.specs.RemainingPlans.{start_at, start_beside, start_of}
use Rattle.ac_claims.specs.declared.domains.Piece.{Piece}
use Rattle.ac_claims.specs.declared.types.Claim.{Claim}
use Rattle.ac_claims.specs.declared.types.ClaimTree.{ClaimTree}
use Rattle.ac_claims.specs.declared.types.Plan.{Plan}
use Rattle.ac_claims_plans.specs.Embeddings.{itself}
use Rattle.ac_claims_plans.specs.declared.embedding.Embedding.{Embedding}
use Rattle.ac_claims_plans.proofs.Starting.{accepted_at_starts}
use Rattle.ac_unfold_plans.specs.PlanStops.{positions_at, claim_positions}
use Rattle.ac_unfold_plans.specs.TabledUse.{HaveClaimModuli, UsesTabled, UsesTabledFromStart}
use Rattle.ac_unfold_plans.proofs.Heeding.{starts_use_tabled}
use Rattle.ac_unfold_plans.specs.PairStops.{Stopped, StopsFrom, StopsOn}
use Rattle.ac_unfold_plans.proofs.Stopping.{plans_stop}
use Rattle.ac_unfold.specs.PiecePlans.{AreBegun, IsBegun, StopsAtStart}
use Rattle.ac_unfold.specs.PlanResults.{judge_of, IsGiven, IsMade, IsPlanIn, IsRefuted}
use Rattle.ac_claims_plans.specs.DuePlans.{pairs_of, pieces_of, AreNumbered, StartsAccepted}
use Rattle.ac_unfold.specs.ReadySetting.{IsSettled}
use Rattle.ac_unfold.specs.SearchPlanStops.{MayUseTabled, IsStoppedAt, IsStoppedIn, StopsIn}
use Rattle.ac_unfold.specs.declared.ends.Search.{Search}
use Rattle.ac_unfold.specs.declared.node.Node.{Node}
use Rattle.ac_unfold.specs.declared.types.ProgramFlows.{ProgramFlows}
use Rattle.ac_unfold.specs.declared.types.UnfoldStop.{UnfoldStop}
use Rattle.ac_unfold.proofs.Results.{refuted_made}
use Rattle.ac_unfold.proofs.Stops.{all_more}

-- ---- where a claim starts

start_formed : (g : Pairing) (c : Claim) (l r : Piece) (h : Path) → start_of g c l r ≡ Some h → IsWellMade h.conj → IsFormed g.params h
start_formed g c l r h e made =
    let m = map-some (piece_rows g c (of_width l.width) (of_width r.width) l.rows r.rows) (λ (rows : List Row). record {
      conj = record { columns = start_columns g (of_width l.width) (of_width r.width); rows = c.rows ++ (g.left.context ++ rows) };
      left = left_seat g c (of_width l.width);
      right = right_seat g c (of_width l.width) (of_width r.width);
      gone = false;
      last = None;
    }) h e in
    let columns : h.conj.columns ≡ g.params + (l.width + r.width) = ap (λ (x : Path). x.conj.columns) m.2 in
    let first : h.left.first + h.left.width ≡ g.params + l.width = ap (λ (x : Path). x.left.first + x.left.width) m.2 in
    let second : h.right.first + h.right.width ≡ g.params + l.width + r.width = ap (λ (x : Path). x.right.first + x.right.width) m.2 in
    record {
      made = made;
      base_in = omega (arith, columns);
      left_in = omega (arith, columns, first);
      right_in = omega (arith, columns, second);
      last_in = subst (λ o. LastIn o h.conj.columns) (sym (ap (λ (x : Path). x.last) m.2)) tt;
    }

pub at_formed : (g : Pairing) (c : Claim) (i k : ℕ) (h : Path) → start_at g c i k ≡ Some h → IsWellMade h.conj → IsFormed g.params h
at_formed g c i k h e made =
    let a = bind-some (piece_by i (domain g.left c.left)) (λ (l : Piece). start_beside g c l (piece_by k (domain g.right c.right))) h e in
    let b = bind-some (piece_by k (domain g.right c.right)) (start_of g c a.0) h a.2 in
    start_formed g c a.0 b.0 h b.2 made

-- a claim starts at its pair, before the first step
start_pair : (g : Pairing) (c : Claim) (i k : ℕ) (h : Path) → start_at g c i k ≡ Some h → (positions_at h ≡ claim_positions c) × (h.gone ≡ false)
start_pair g c i k h e =
    let a = bind-some (piece_by i (domain g.left c.left)) (λ (l : Piece). start_beside g c l (piece_by k (domain g.right c.right))) h e in
    let b = bind-some (piece_by k (domain g.right c.right)) (start_of g c a.0) h a.2 in
    let l = a.0 in
    let r = b.0 in
    let m = map-some (piece_rows g c (of_width l.width) (of_width r.width) l.rows r.rows) (λ (rows : List Row). record {
      conj = record { columns = start_columns g (of_width l.width) (of_width r.width); rows = c.rows ++ (g.left.context ++ rows) };
      left = left_seat g c (of_width l.width);
      right = right_seat g c (of_width l.width) (of_width r.width);
      gone = false;
      last = None;
    }) h b.2 in
    (ap positions_at m.2, ap (λ (x : Path). x.gone) m.2)

-- a plan that stops from the pair of the start stops from that of the claim
stops_at_start : (search : Search) (start : Claim) (left right : ℕ) (path : Path) (t : Plan) → start_at (judge_of search) start left right ≡ Some path → StopsIn search path t.next → StopsAtStart search start t
unfolding StopsIn StopsAtStart
stops_at_start search start left right path t e h making g at =
    let p = start_pair (judge_of search) start left right path e in
    plans_stop g (claim_positions start) t (subst (λ (k : Position × Position). StopsOn g k false t.next) p.0 (subst (λ (b : Bool). StopsOn g (positions_at path) b t.next) p.1 ((h making).0 g at)))

-- what uses tabled claims on the path of the start uses them from there on
uses_tabled_at_start : (search : Search) (path : Path) (t : Plan) → IsFormed (judge_of search).params path → StopsIn search path t.next → search.making ≡ true → MayUseTabled search → UsesTabled (judge_of search) search.tabled.now t.next path
unfolding StopsIn
uses_tabled_at_start search path t formed h making may_use_tabled = starts_use_tabled (judge_of search) search.tabled.now path t.next formed ((h making).1 may_use_tabled)

-- a plan for the start of a claim is accepted on it
pub begun : (search : Search) (start : Claim) (left right : ℕ) (path : Path) (node : Node) (t : Plan) → start_at (judge_of search) start left right ≡ Some path → IsWellMade path.conj → node.question ≡ path → node.embedding ≡ itself path.conj.columns (length path.conj.rows)
    → IsMade search node.embedding node.question t → IsBegun search start left right t
unfolding IsPlanIn
begun search start left right path node t e made q s plan =
    let g = judge_of search in
    let formed = at_formed g start left right path e made in
    let there : IsMade search (itself path.conj.columns (length path.conj.rows)) path t = subst (λ (x : Path). IsMade search (itself path.conj.columns (length path.conj.rows)) x t) q (subst (λ (z : Embedding). IsMade search z node.question t) s plan) in
    record {
      path = path;
      starts = e;
      accepted = λ cs given. accepted_at_starts g cs path t formed (there.plan cs given formed);
      stops = stops_at_start search start left right path t e there.stops;
      uses_tabled = uses_tabled_at_start search path t formed there.stops;
    }

-- ---- the trees

from_start : (search : Search) (start : Claim) (t : ClaimTree) → IsBegun search start t.left_piece t.right_piece t.tree → search.making ≡ true → MayUseTabled search → UsesTabledFromStart (judge_of search) search.tabled.now start t
from_start search start t b making may_use_tabled = λ p e.
    let same : b.path ≡ p = some-is b.path p (sym b.starts ∙ e) in
    subst (UsesTabled (judge_of search) search.tabled.now t.tree.next) same (b.uses_tabled making may_use_tabled)

pub begun_more : (search : Search) (start : Claim) (trees : List ClaimTree) (t : ClaimTree) → AreBegun search start trees → IsBegun search start t.left_piece t.right_piece t.tree → AreBegun search start (trees ++ t ∷ [])
begun_more search start trees t h b = record {
  accepted = λ cs given. all_more (StartsAccepted (judge_of search) cs start) trees t (h.accepted cs given) (record { path = b.path; starts = b.starts; accepted = b.accepted cs given });
  stop = all_more (λ (x : ClaimTree). StopsAtStart search start x.tree) trees t h.stop b.stops;
  use_tabled = λ making may_use_tabled. all_more (UsesTabledFromStart (judge_of search) search.tabled.now start) trees t (h.use_tabled making may_use_tabled) (from_start search start t b making may_use_tabled);
}

pub begun_none : (search : Search) (start : Claim) (trees : List ClaimTree) → trees ≡ [] → AreBegun search start trees
begun_none search start trees e = subst (AreBegun search start) (sym e) (record { accepted = λ cs given. tt; stop = tt; use_tabled = λ making may_use_tabled. tt })

pub accepted_by : (search : Search) (program_flows : ProgramFlows) (base : ℕ) (claims tabled : List Claim) (start : Claim) (trees : List ClaimTree) → search.program_flows.now ≡ program_flows → search.base ≡ base → search.claims.now ≡ claims → search.tabled.now ≡ tabled → search.making ≡ true
    → AreBegun search start trees → IsSettled program_flows → (cs : List Claim) → AreNumbered base claims cs → AreNumbered (base + length claims) tabled cs → AllByRecursion (StartsAccepted (pairing program_flows.programs) cs start) trees
accepted_by search program_flows base claims tabled start trees e b k t m h settled cs numbered behind =
    let given : IsGiven search cs = record {
      making = m;
      settled = subst IsSettled (sym e) settled;
      numbered = subst (λ (n : ℕ). AreNumbered n search.claims.now cs) (sym b) (subst (λ (xs : List Claim). AreNumbered base xs cs) (sym k) numbered);
      tabled = subst (λ (n : ℕ). AreNumbered (n + length search.claims.now) search.tabled.now cs) (sym b)
          (subst (λ (xs : List Claim). AreNumbered (base + length xs) search.tabled.now cs) (sym k) (subst (λ (xs : List Claim). AreNumbered (base + length claims) xs cs) (sym t) behind));
    } in
    subst (λ (x : ProgramFlows). AllByRecursion (StartsAccepted (pairing x.programs) cs start) trees) e (h.accepted cs given)

pub stopped_by : (search : Search) (program_flows : ProgramFlows) (order : List (Site × Order)) (base : ℕ) (claims tabled : List Claim) (start : Claim) (trees : List ClaimTree) → search.program_flows.now ≡ program_flows → search.order.now ≡ order → search.base ≡ base → search.claims.now ≡ claims
    → search.tabled.now ≡ tabled → search.making ≡ true → AreBegun search start trees → (g : Stopped) → IsStoppedAt program_flows order base claims tabled g → AllByRecursion (λ (t : ClaimTree). StopsFrom g (claim_positions start) t.tree) trees
unfolding StopsAtStart
stopped_by search program_flows order base claims tabled start trees e o b k t m h g at = each trees h.stop
  where
    there : IsStoppedIn search g
    there =
        subst (λ (x : ProgramFlows). IsStoppedAt x search.order.now search.base search.claims.now search.tabled.now g) (sym e)
        (subst (λ (x : List (Site × Order)). IsStoppedAt program_flows x search.base search.claims.now search.tabled.now g) (sym o)
        (subst (λ (x : ℕ). IsStoppedAt program_flows order x search.claims.now search.tabled.now g) (sym b)
        (subst (λ (x : List Claim). IsStoppedAt program_flows order base x search.tabled.now g) (sym k) (subst (λ (x : List Claim). IsStoppedAt program_flows order base claims x g) (sym t) at))))

    each : (ts : List ClaimTree) → AllByRecursion (λ (t : ClaimTree). StopsAtStart search start t.tree) ts → AllByRecursion (λ (t : ClaimTree). StopsFrom g (claim_positions start) t.tree) ts
    each [] s = tt
    each (t ∷ ts) s = (s.0 m g there, each ts s.1)

pub used_by_tabled : (search : Search) (program_flows : ProgramFlows) (tabled : List Claim) (start : Claim) (trees : List ClaimTree) → search.program_flows.now ≡ program_flows → search.tabled.now ≡ tabled → search.making ≡ true
    → AreBegun search start trees → IsSettled program_flows → HaveClaimModuli tabled → AllByRecursion (UsesTabledFromStart (pairing program_flows.programs) tabled start) trees
used_by_tabled search program_flows tabled start trees e t m h settled moduli =
    let may_use_tabled : MayUseTabled search = record { settled = subst IsSettled (sym e) settled; moduli = subst HaveClaimModuli (sym t) moduli } in
    subst (λ (x : ProgramFlows). AllByRecursion (UsesTabledFromStart (pairing x.programs) tabled start) trees) e (subst (λ (xs : List Claim). AllByRecursion (UsesTabledFromStart (judge_of search) xs start) trees) t (h.use_tabled m may_use_tabled))

-- the trees behind some, each with the next right piece
pub record Rights (left done : ℕ) (old new : List ClaimTree) : Type 0 where
  pub are : map pieces_of new ≡ map pieces_of old ++ map (λ right. (left, right)) (range_with_len 0 done)

map_more : (xs : List ClaimTree) (t : ClaimTree) → map pieces_of (xs ++ t ∷ []) ≡ map pieces_of xs ++ pieces_of t ∷ []
map_more [] t = refl
map_more (x ∷ xs) t = ap (λ (ys : List (ℕ × ℕ)). pieces_of x ∷ ys) (map_more xs t)

-- a left piece with so many right ones
abbrev pub row_of : ℕ → ℕ → ℕ → List (ℕ × ℕ)
row_of left first done = map (λ right. (left, right)) (range_with_len first done)

abbrev single : ℕ → ℕ → List (ℕ × ℕ)
single left n = (left, n) ∷ []

range_more : (left first done : ℕ) → row_of left first (suc done) ≡ row_of left first done ++ (left, first + done) ∷ []
range_more left first zero = let z : first + 0 ≡ first = omega arith in ap (single left) (sym z)
range_more left first (suc done) =
    let z : first + 1 + done ≡ first + suc done = omega arith in
    ap (λ (ys : List (ℕ × ℕ)). (left, first) ∷ ys) (range_more left (first + 1) done ∙ ap (λ (n : ℕ). row_of left (first + 1) done ++ (left, n) ∷ []) z)

pub rights_none : (left : ℕ) (old : List ClaimTree) → Rights left 0 old old
rights_none left old = record { are = nothing (map pieces_of old) }
  where
    nothing : (xs : List (ℕ × ℕ)) → xs ≡ xs ++ []
    nothing [] = refl
    nothing (x ∷ xs) = ap (λ (ys : List (ℕ × ℕ)). x ∷ ys) (nothing xs)

pub rights_more : (left done : ℕ) (old now new : List ClaimTree) (t : ClaimTree) → Rights left done old now → new ≡ now ++ t ∷ [] → t.left_piece ≡ left → t.right_piece ≡ done → Rights left (done + 1) old new
rights_more left done old now new t h e l r =
    let z : pieces_of t ≡ (left, done) = cc in
    let y : 0 + done ≡ done = omega arith in
    let w : done + 1 ≡ suc done = omega arith in
    record {
      are = ap (map pieces_of) e ∙ map_more now t ∙ ap (λ (ys : List (ℕ × ℕ)). ys ++ pieces_of t ∷ []) h.are ∙ append_assoc (map pieces_of old) (row_of left 0 done) (pieces_of t ∷ [])
          ∙ ap (λ (p : ℕ × ℕ). map pieces_of old ++ (row_of left 0 done ++ p ∷ [])) z ∙ ap (λ (n : ℕ). map pieces_of old ++ (row_of left 0 done ++ (left, n) ∷ [])) (sym y)
          ∙ ap (λ (ys : List (ℕ × ℕ)). map pieces_of old ++ ys) (sym (range_more left 0 done)) ∙ ap (λ (n : ℕ). map pieces_of old ++ row_of left 0 n) (sym w);
    }

-- the trees of the first left pieces, each with all right ones
pub record Lefts (rights done : ℕ) (new : List ClaimTree) : Type 0 where
  pub are : map pieces_of new ≡ pairs_of done rights

pub lefts_none : (rights : ℕ) (new : List ClaimTree) → new ≡ [] → Lefts rights 0 new
lefts_none rights new e = record { are = ap (map pieces_of) e }

pub lefts_more : (rights done : ℕ) (old new : List ClaimTree) → Lefts rights done old → map pieces_of new ≡ map pieces_of old ++ map (λ right. (done, right)) (range_with_len 0 rights) → Lefts rights (done + 1) new
lefts_more rights done old new h e =
    let z : done + 1 ≡ suc done = omega arith in
    let y : 0 + done ≡ done = omega arith in
    let last : pairs_of (suc done) rights ≡ pairs_of done rights ++ row_of (0 + done) 0 rights = flat_map_last (λ (left : ℕ). row_of left 0 rights) 0 done in
    record { are = e ∙ ap (λ (ys : List (ℕ × ℕ)). ys ++ row_of done 0 rights) h.are ∙ ap (λ (n : ℕ). pairs_of done rights ++ row_of n 0 rights) (sym y) ∙ sym last ∙ ap (λ (n : ℕ). pairs_of n rights) (sym z) }

-- ---- at the pieces

pub begun_refuted : (search : Search) (start : Claim) (left right : ℕ) (path : Path) (node : Node) (o : Option Plan) → start_at (judge_of search) start left right ≡ Some path → IsWellMade path.conj → node.question ≡ path → node.embedding ≡ itself path.conj.columns (length path.conj.rows)
    → IfSome o (IsRefuted node.embedding node.question) → IfSome o (IsBegun search start left right)
begun_refuted search start left right path node None e made q s h = tt
begun_refuted search start left right path node (Some t) e made q s h = begun search start left right path node t e made q s (refuted_made search node.embedding node.question (Some t) h)

pub begun_visited : (res : Result (Option Plan) UnfoldStop) (search : Search) (start : Claim) (left right : ℕ) (path : Path) (node next : Node) → start_at (judge_of search) start left right ≡ Some path → IsWellMade path.conj → node.question ≡ path
    → node.embedding ≡ itself path.conj.columns (length path.conj.rows) → (next.question ≡ node.question) × (next.embedding ≡ node.embedding) → IfOk res (λ o. IfSome o (IsMade search next.embedding next.question)) → IfOk res (λ o. IfSome o (IsBegun search start left right))
begun_visited (Err x) search start left right path node next e made q s same h = tt
begun_visited (Ok None) search start left right path node next e made q s same h = tt
begun_visited (Ok (Some t)) search start left right path node next e made q s same h = begun search start left right path next t e made (same.0 ∙ q) (same.1 ∙ s) h
