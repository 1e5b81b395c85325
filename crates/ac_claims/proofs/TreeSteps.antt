-- Plans that start.
use Rattle.std.proofs.Common.{◌≡◌, ℕ, zero, suc, ◌+◌, ◌<◌, ◌≤◌, ◌&&◌, List, [], ◌∷◌, ◌++◌, length, Bool, true, false, cond, get_or, Option, Some, None, slice_get, refl, sym, ap, ◌∙◌, subst, arith, inl, inr}
use Rattle.std.specs.Prelude.{nat_eq, option_map}
use Rattle.std.specs.List.{AllByRecursion}
use Rattle.std.proofs.lemmas.Option.{slice_get_read, slice_get_past}
use Rattle.ac_forms.specs.Rows.{HaveModuli, AreRowsOver}
use Rattle.ac_forms.specs.declared.row.Row.{Row}
use Rattle.ac_syntax.specs.declared.tree.Position.{Position}
use Rattle.ac_poly.specs.declared.types.Model.{Model}
use Rattle.ac_cert.specs.declared.types.Rule.TheVariants as rule
use Rattle.ac_base.proofs.Options.{bind-some, map-some, some-is}
use Rattle.ac_claims_paths.specs.ModelCalls.{pairing}
use Rattle.ac_claims_paths.specs.WellFormedPaths.{IsFormed}
use Rattle.ac_claims_paths.specs.PathSteps.{Pairing}
use Rattle.ac_claims_paths.specs.declared.path.Path.{Path}
use Rattle.ac_claims_paths.specs.declared.path.Programs.{Programs}
use Rattle.ac_forms.specs.ListMembers.{IsAmong}
use Rattle.ac_claims_paths.proofs.InBranches.{made-wide}
use Rattle.ac_claims_paths.proofs.Moving.{made-both}
use Rattle.ac_claims.specs.CheckKnowledge.{known_of, IsClaimMade, IsFrontMade}
use Rattle.ac_claims.specs.Domains.{of_width, piece_by}
use Rattle.ac_claims.specs.Dues.{AreDueFormed}
use Rattle.ac_claims.specs.Machine.{Due, PlanAt}
use Rattle.ac_claims.specs.ProofFaults.{Domain, domain, left_seat, right_seat, start_columns, piece_rows, DuePlan, is_due_at}
use Rattle.ac_claims.specs.ProofMachine.{Known, No, Yes, with_due, open_path, open_tree}
use Rattle.ac_claims.specs.ReadyModels.{AreReady}
use Rattle.ac_claims.specs.RemainingPlans.{start_of, start_beside, start_at, remaining_by, remaining, Settled}
use Rattle.ac_claims.specs.PlanStarts.{is_it, after_one, start_in, IsStartOf, path_due, StartsNext}
use Rattle.ac_claims.specs.declared.domains.Piece.{Piece}
use Rattle.ac_claims.specs.declared.front.Front.{Front}
use Rattle.ac_claims.specs.declared.lines.Start.{Start}
use Rattle.ac_claims.specs.declared.types.Claim.{Claim}
use Rattle.ac_claims.specs.declared.upcoming.Upcoming.{Upcoming}
use Rattle.ac_claims.proofs.Trees.{PiecesModuli, pieces_made, domain_rows}
use Rattle.ac_claims.proofs.UpcomingSteps.{next_plan}

get_in : (pieces : List (List Row)) (i : ℕ) (rows : List Row) → slice_get pieces i ≡ Some rows → IsAmong rows pieces
get_in [] i rows e = absurd cc
get_in (p ∷ ps) zero rows e = let s : p ≡ rows = cc in inl (sym s)
get_in (p ∷ ps) (suc i) rows e = inr (get_in ps i rows e)

-- the rows of a piece that is there, and how many coordinates it has
piece_parts : (m : Model) → PiecesModuli m → (P : Position) (k : ℕ) (l : Piece) (a : Domain) → piece_by k (domain m P) ≡ Some l → domain m P ≡ Some a → HaveModuli l.rows × (l.width ≡ a.width)
piece_parts m h P k l a e d =
    let b = bind-some (domain m P) (λ (x : Domain). option_map (λ rows. record { width = x.width; rows = rows }) (slice_get x.pieces k)) l e in
    let t = map-some (slice_get b.0.pieces k) (λ rows. record { width = b.0.width; rows = rows }) l b.2 in
    let s : b.0 ≡ a = some-is b.0 a (sym b.1 ∙ d) in
    (subst (λ (z : Piece). HaveModuli z.rows) (sym t.2) (domain_rows m h P b.0 t.0 b.1 (get_in b.0.pieces k t.0 t.1)), ap (λ (z : Piece). z.width) t.2 ∙ ap (λ (z : Domain). z.width) s)

-- a plan starts at a path whose columns are there, and whose rows are well made
pub start_formed : (programs : Programs) (c : Claim) (i k : ℕ) (h : Path) → AreReady programs → IsClaimMade (pairing programs) c → start_at (pairing programs) c i k ≡ Some h → IsFormed programs.left.now.params h
start_formed programs c i k h ready m e =
    let g = pairing programs in
    let b = bind-some (piece_by i (domain g.left c.left)) (λ (l : Piece). start_beside g c l (piece_by k (domain g.right c.right))) h e in
    let l = b.0 in
    let d = bind-some (piece_by k (domain g.right c.right)) (start_of g c l) h b.2 in
    let r = d.0 in
    let pl = piece_parts g.left ready.left.pieces c.left i l m.left b.1 m.left_is in
    let pr = piece_parts g.right ready.right.pieces c.right k r m.right d.1 m.right_is in
    let a = of_width l.width in
    let z = of_width r.width in
    let t = map-some (piece_rows g c a z l.rows r.rows) (λ rows. record {
      conj = record { columns = start_columns g a z; rows = c.rows ++ (g.left.context ++ rows) };
      left = left_seat g c a;
      right = right_seat g c a z;
      gone = false;
      last = None;
    }) h d.2 in
    let cols = start_columns g a z in
    let same : start_columns g m.left m.right ≡ cols = λ j. g.params + (sym pl.1 j + sym pr.1 j) in
    let w1 = subst (λ n. AreRowsOver n c.rows) same m.rows in
    let w2 = made-wide g.left.context g.params cols (omega arith) ready.context in
    let w3 = pieces_made g c a z l.rows r.rows t.0 t.1 pl.0 pr.0 in
    subst (IsFormed g.params) (sym t.2) (record {
      made = made-both cols c.rows (g.left.context ++ t.0) w1 (made-both cols g.left.context t.0 w2 w3);
      base_in = omega arith;
      left_in = omega arith;
      right_in = omega arith;
      last_in = tt;
    })

claim_made : (g : Pairing) (cs : List Claim) (i : ℕ) (c : Claim) → AllByRecursion (IsClaimMade g) cs → i < length cs → c ≡ get_or cs i c → IsClaimMade g c
claim_made g [] i c h l e = absurd (omega arith)
claim_made g (d ∷ cs) zero c h l e = subst (IsClaimMade g) (sym e) h.0
claim_made g (d ∷ cs) (suc i) c h l e = claim_made g cs i c h.1 (omega arith) e

start_read : (g : Pairing) (cs : List Claim) (u : Upcoming) (c : Claim) (o : Option Path) → u.claim < length cs → c ≡ get_or cs u.claim c → o ≡ start_at g c u.left_piece u.right_piece → start_in g u (slice_get cs u.claim) ≡ o
start_read g cs u c o l e h = ap (start_in g u) (slice_get_read cs (length cs) u.claim c refl l e) ∙ sym h

pub start_made : (programs : Programs) (cs : List Claim) (u : Upcoming) (c : Claim) (s : Start) (n : ℕ) → AreReady programs → AllByRecursion (IsClaimMade (pairing programs)) cs → u.claim < length cs → c ≡ get_or cs u.claim c
    → Some s.path ≡ start_at (pairing programs) c u.left_piece u.right_piece → n ≡ u.right_piece + 1 → s.behind ≡ record { claim = u.claim; left_piece = u.left_piece; right_piece = n } → IsStartOf (pairing programs) cs u (Some s)
start_made programs cs u c s n ready m l e h f i =
    (start_read (pairing programs) cs u c (Some s.path) l e h, i ∙ ap (λ k. record { claim = u.claim; left_piece = u.left_piece; right_piece = k }) f, start_formed programs c u.left_piece u.right_piece s.path ready (claim_made (pairing programs) cs u.claim c m l e) (sym h))

pub start_none : (g : Pairing) (cs : List Claim) (u : Upcoming) (c : Claim) → u.claim < length cs → c ≡ get_or cs u.claim c → None ≡ start_at g c u.left_piece u.right_piece → IsStartOf g cs u None
start_none g cs u c l e h = start_read g cs u c None l e h

pub ruleset made_steps = (start_made, start_none)

-- the next plan is another one, or there is none
pub next_past : (g : Pairing) (cs : List Claim) (plans : List DuePlan) (u at : Upcoming) → Settled g cs plans u → length cs ≤ u.claim → StartsNext g cs plans at None
next_past g cs plans u at s le = ap (path_due at) (sym s.same ∙ ap (remaining_by g cs u) (slice_get_past cs u.claim le))

due_is : (g : Pairing) (cs : List Claim) (u at : Upcoming) (d : DuePlan) → d.claim ≡ u.claim → d.left_piece ≡ u.left_piece → d.right_piece ≡ u.right_piece → is_due_at at.claim at.left_piece at.right_piece d ≡ is_it at u
due_is g cs u at d a b c = λ j. nat_eq at.claim (a j) && (nat_eq at.left_piece (b j) && nat_eq at.right_piece (c j))

pub next_other : (g : Pairing) (cs : List Claim) (plans : List DuePlan) (u at : Upcoming) → Settled g cs plans u → u.claim < length cs → is_it at u ≡ false → StartsNext g cs plans at None
next_other g cs plans u at s lt e =
    let n = next_plan g cs u lt s.there in
    let b : is_due_at at.claim at.left_piece at.right_piece n.plan ≡ false = due_is g cs u at n.plan n.claim_is n.left_is n.right_is ∙ e in
    ap (path_due at) (sym s.same ∙ n.same) ∙ ap (λ z. cond z n.plan.path None) b

pub next_starts : (g : Pairing) (cs : List Claim) (plans : List DuePlan) (u at : Upcoming) (o : Option Start) → Settled g cs plans u → u.claim < length cs → is_it at u ≡ true → IsStartOf g cs u o → StartsNext g cs plans at o
next_starts g cs plans u at o s lt e h =
    let n = next_plan g cs u lt s.there in
    let b : is_due_at at.claim at.left_piece at.right_piece n.plan ≡ true = due_is g cs u at n.plan n.claim_is n.left_is n.right_is ∙ e in
    let p : n.plan.path ≡ start_in g u (slice_get cs u.claim) = n.path_is ∙ sym (ap (start_in g u) n.of_is) in
    let same : plans ≡ n.plan ∷ remaining g cs (after_one u) = sym s.same ∙ n.same in
    by o n.plan p same b h
  where
    by : (o : Option Start) (d : DuePlan) → d.path ≡ start_in g u (slice_get cs u.claim) → plans ≡ d ∷ remaining g cs (after_one u) → is_due_at at.claim at.left_piece at.right_piece d ≡ true → IsStartOf g cs u o → StartsNext g cs plans at o
    by None d p same b h = ap (path_due at) same ∙ ap (λ z. cond z d.path None) b ∙ p ∙ h
    by (Some x) d p same b h = (d, same ∙ ap (λ z. d ∷ remaining g cs z) (sym h.1), b, p ∙ h.0, h.2)

pub ruleset next_steps = (next_past, next_other, next_starts)

-- what the line of a plan comes to
pub tree_refused : (g : Pairing) (cs : List Claim) (plans : List DuePlan) (u : Upcoming) (k : ℕ) (s : Known) → StartsNext g cs plans u None → open_tree u.claim u.left_piece u.right_piece k s plans ≡ No k rule.Tree
tree_refused g cs [] u k s e = refl
tree_refused g cs (d ∷ ds) u k s e = by (is_due_at u.claim u.left_piece u.right_piece d) e
  where
    by : (b : Bool) → cond b d.path None ≡ None → cond b (open_path d.path k s ds) (No k rule.Tree) ≡ No k rule.Tree
    by true e = ap (λ o. open_path o k s ds) e
    by false e = refl

pub tree_opened : (g : Pairing) (f f' : Front) (u : Upcoming) (k : ℕ) (x : Start) (due due' : List Due) → StartsNext g f.claims (remaining g f.claims f.next) u (Some x) → f' ≡ record { claims = f.claims; columns = f.columns; named = f.named; next = x.behind } → due' ≡ PlanAt x.path ∷ due
    → open_tree u.claim u.left_piece u.right_piece k (known_of g f due) (remaining g f.claims f.next) ≡ Yes (known_of g f' due')
tree_opened g f f' u k x due due' t h e =
    let s = known_of g f due in
    let rest = remaining g f.claims x.behind in
    ap (open_tree u.claim u.left_piece u.right_piece k s) t.1
    ∙ ap (λ b. cond b (open_path t.0.path k s rest) (No k rule.Tree)) t.2
    ∙ ap (λ o. open_path o k s rest) t.3
    ∙ ap (λ (z : List Due). Yes (with_due s rest z)) (sym e)
    ∙ ap (λ (z : Front). Yes (known_of g z due')) (sym h)

pub due_opened : (g : Pairing) (cs : List Claim) (plans : List DuePlan) (u : Upcoming) (x : Start) (due due' : List Due) → StartsNext g cs plans u (Some x) → due' ≡ PlanAt x.path ∷ due → AreDueFormed g.params due → AreDueFormed g.params due'
due_opened g cs plans u x due due' t e h = subst (AreDueFormed g.params) (sym e) (t.4, h)

pub due_same : (n : ℕ) (due due' : List Due) → due' ≡ due → AreDueFormed n due → AreDueFormed n due'
due_same n due due' e h = subst (AreDueFormed n) (sym e) h

pub made_next : (g : Pairing) (f f' : Front) (u : Upcoming) → f' ≡ record { claims = f.claims; columns = f.columns; named = f.named; next = u } → IsFrontMade g f → IsFrontMade g f'
made_next g f f' u h m = subst (IsFrontMade g) (sym h) (record { claims = m.claims; columns = m.columns })

pub ruleset tree_steps = (tree_refused, tree_opened, due_opened, due_same, made_next)
