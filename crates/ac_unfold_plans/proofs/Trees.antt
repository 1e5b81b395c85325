-- A proof without fault that stops handles each pair of a claim, where the claim's tree begins.
use Rattle.std.proofs.Common.{◌≡◌, inl, inr, ℕ, zero, suc, ◌+◌, nat_le, ℤ, List, [], ◌∷◌, ◌++◌, map, length, Bool, true, false, Option, Some, None, refl, sym, ap, ◌∙◌, subst, arith}
use Rattle.std.specs.Prelude.{slice_get}
use Rattle.std.proofs.lemmas.Bool.{leb-true}
use Rattle.ac_forms.specs.Rows.{form_of, Meets, HaveModuli, AreRowsOver}
use Rattle.ac_forms.specs.declared.row.Row.{Row}
use Rattle.ac_syntax.specs.declared.tree.Order.{Order}
use Rattle.ac_syntax.specs.declared.tree.Pair.{Pair}
use Rattle.ac_syntax.specs.declared.tree.Position.{Position}
use Rattle.ac_poly.proofs.Columns.{has_columns}
use Rattle.ac_poly.proofs.Whole.{has_context}
use Rattle.ac_cert.specs.CertificateFaults.{first_fault_of}
use Rattle.ac_cert.specs.declared.types.Rule.TheVariants as rule
use Rattle.ac_omega_steps.proofs.Keeping.{Meets-append}
use Rattle.ac_base.proofs.Options.{map-some}
use Rattle.ac_cert.proofs.Soundness.{first-none}
use Rattle.ac_claims_paths.specs.Executions.{At}
use Rattle.ac_claims_paths.specs.PathSteps.{Pairing}
use Rattle.ac_claims_paths.specs.OnPaths.{OnPath}
use Rattle.ac_forms.specs.ListMembers.{IsAmong}
use Rattle.ac_claims_paths.specs.declared.path.Path.{Path}
use Rattle.ac_claims_paths.proofs.Branches.{in_left, in_right, in_map, in_flat_map}
use Rattle.ac_claims_paths.proofs.InBranches.{made-wide}
use Rattle.ac_claims_paths.proofs.Moving.{meets-both, made-both}
use Rattle.ac_claims_paths.proofs.OnPaths.{InPath}
use Rattle.ac_claims.specs.PlanFaults.{fault_unless, plan_fault, plan_lines}
use Rattle.ac_claims.specs.ProofFaults.{Domain, domain, claim_rows_fault, claim_fault, claim_fault_at, claims_fault, left_seat, right_seat, start_columns, piece_rows, start, DuePlan, numbered, due_at, due_from, is_due, tree_fault_at, trees_fault}
use Rattle.ac_claims.specs.Soundness.{ArePaired}
use Rattle.ac_claims.specs.declared.types.Claim.{Claim}
use Rattle.ac_claims.specs.declared.types.ClaimTree.{ClaimTree}
use Rattle.ac_claims.specs.declared.types.Plan.{Plan}
use Rattle.ac_claims.proofs.Claimed.{Setting as Judged}
use Rattle.ac_claims.proofs.Plans.{none_if, unless_none}
use Rattle.ac_claims.proofs.Trees.{domain_point, domain_moduli, start_point, pieces_meet, pieces_made, in_numbered, due_among, claim_fine, claims_fine, rows_over, Fine}
use Rattle.ac_graph.specs.GraphMeaning.{IsCompared, comparison}
use Rattle.ac_widen_programs.specs.PairSetting.{setting}
use Rattle.ac_unfold_plans.specs.PlanStops.{claim_positions, claim_at, claims_of, programs_of, PlanStops, TreesStop}
use Rattle.ac_unfold_plans.proofs.Handled.{Handled}
use Rattle.ac_unfold_plans.proofs.Claimed.{IsClaimed}
use Rattle.ac_unfold_plans.proofs.Found.{point_at}
use Rattle.ac_unfold_plans.proofs.Plans.{plan_handles}

-- two programs at a valuation, with the claims that a proof is checked against
abbrev pub judged : (pair : Pair) (cs : List Claim) → ArePaired pair → ((i : ℕ) (c : Claim) → slice_get cs i ≡ Some c → HaveModuli c.rows) → (params : List ℤ) → IsCompared pair params → Judged
judged pair cs t moduli params c = record {
  on = comparison pair params c;
  claims = cs;
  context = (has_context pair.left pair.context t.context params c.valuation.each).1 c.valuation.context;
  context_made = (has_columns pair.left pair.context t.left t.context).context;
  moduli = moduli;
}

-- ---- the plan for what is due

-- a plan without fault that stops, for what is due
record Shown (pair : Pair) (order : Position × Position → Order) (recurrent : Position × Position → Bool) (part : ℕ → Bool) (cs : List Claim) (d : DuePlan) : Type 0 where
  pub plan : Plan
  pub path : Path
  pub line : ℕ
  pub is : d.path ≡ Some path
  pub fine : plan_fault (programs_of pair) cs plan path line ≡ None
  pub stops : PlanStops pair order recurrent part plan path

tree_shown : (pair : Pair) (order : Position × Position → Order) (recurrent : Position × Position → Bool) (part : ℕ → Bool) (cs : List Claim) (t : ClaimTree) (d : DuePlan) (k : ℕ) (o : Option Path) → d.path ≡ o → tree_fault_at (programs_of pair) cs t o k ≡ None
    → part d.claim ≡ true → (part d.claim ≡ true → (h : Path) → d.path ≡ Some h → PlanStops pair order recurrent part t.tree h) → Shown pair order recurrent part cs d
tree_shown pair order recurrent part cs t d k None q e m st = absurd cc
tree_shown pair order recurrent part cs t d k (Some h) q e m st = record { plan = t.tree; path = h; line = k + 1; is = q; fine = e; stops = st m h q }

all_shown : (pair : Pair) (order : Position × Position → Order) (recurrent : Position × Position → Bool) (part : ℕ → Bool) (cs : List Claim) (ts : List ClaimTree) (ds : List DuePlan) (k : ℕ) → trees_fault (programs_of pair) cs ts ds k ≡ None → TreesStop pair order recurrent part ts ds
    → (d : DuePlan) → IsAmong d ds → part d.claim ≡ true → Shown pair order recurrent part cs d
all_shown pair order recurrent part cs [] [] k e st d m w = absurd m
all_shown pair order recurrent part cs [] (d ∷ ds) k e st c m w = absurd cc
all_shown pair order recurrent part cs (t ∷ ts) [] k e st d m w = absurd cc
all_shown pair order recurrent part cs (t ∷ ts) (d ∷ ds) k e st c (inl i) w =
    let b = none_if (is_due t d) (first_fault_of (tree_fault_at (programs_of pair) cs t d.path k) (trees_fault (programs_of pair) cs ts ds (k + (1 + plan_lines t.tree)))) (k, rule.Tree) e in
    let f = first-none (tree_fault_at (programs_of pair) cs t d.path k) (trees_fault (programs_of pair) cs ts ds (k + (1 + plan_lines t.tree))) b.1 in
    subst (λ (y : DuePlan). Shown pair order recurrent part cs y) (sym i) (tree_shown pair order recurrent part cs t d k d.path refl f.0 (subst (λ (y : DuePlan). part y.claim ≡ true) i w) st.0)
all_shown pair order recurrent part cs (t ∷ ts) (d ∷ ds) k e st c (inr m) w =
    let b = none_if (is_due t d) (first_fault_of (tree_fault_at (programs_of pair) cs t d.path k) (trees_fault (programs_of pair) cs ts ds (k + (1 + plan_lines t.tree)))) (k, rule.Tree) e in
    let f = first-none (tree_fault_at (programs_of pair) cs t d.path k) (trees_fault (programs_of pair) cs ts ds (k + (1 + plan_lines t.tree))) b.1 in
    all_shown pair order recurrent part cs ts ds (k + (1 + plan_lines t.tree)) f.1 st.1 c m w

-- what is due for two pieces of a claim
due_here : (g : Pairing) (i : ℕ) (c : Claim) (a b : Domain) (l r : List Row) → IsAmong l a.pieces → IsAmong r b.pieces → (d : DuePlan) × IsAmong d (due_at g i c (Some a) (Some b)) × (d.path ≡ start g c a b l r) × (d.claim ≡ i)
due_here g i c a b l r m n =
    let x = in_numbered l 0 a.pieces m in
    let y = in_numbered r 0 b.pieces n in
    let d : DuePlan = record { claim = i; left_piece = x.0; right_piece = y.0; path = start g c a b l r } in
    let inner : IsAmong d (map (λ (s : ℕ × List Row). record { claim = i; left_piece = x.0; right_piece = s.0; path = start g c a b l s.1 }) (numbered 0 b.pieces)) =
    in_map (λ (s : ℕ × List Row). record { claim = i; left_piece = x.0; right_piece = s.0; path = start g c a b l s.1 }) (y.0, r) (numbered 0 b.pieces) y.1 in
    (d, in_flat_map (λ (l : ℕ × List Row). map (λ (r : ℕ × List Row). record { claim = i; left_piece = l.0; right_piece = r.0; path = start g c a b l.1 r.1 }) (numbered 0 b.pieces)) (x.0, l) (numbered 0 a.pieces) d x.1 inner, refl, refl)

-- ---- claims

-- ---- the beginning of a tree

moved : {A B : Type 0} (P : A → B → Type 0) (k k' : A) (p p' : B) → k ≡ k' → p ≡ p' → P k p → P k' p'
moved P k k' p p' e f h = subst (λ z. P z p') e (subst (λ z. P k z) f h)

module _ (pair : Pair) (outputs : List ℕ) (order : Position × Position → Order) (recurrent : Position × Position → Bool) (template : Position × Position → List Row) (part : ℕ → Bool) (cs : List Claim)
    (alone : (c d : Claim) → IsAmong c (claims_of part 0 cs) → IsAmong d (claims_of part 0 cs) → recurrent (claim_positions c) ≡ true → claim_positions c ≡ claim_positions d → c ≡ d) (moduli : (i : ℕ) (c : Claim) → slice_get cs i ≡ Some c → HaveModuli c.rows) (t : ArePaired pair)
    (k j : ℕ) (ts : List ClaimTree) (ec : claims_fault (programs_of pair) cs k ≡ None) (et : trees_fault (programs_of pair) cs ts (due_from (programs_of pair) 0 cs) j ≡ None) (st : TreesStop pair order recurrent part ts (due_from (programs_of pair) 0 cs)) where
  -- each pair of a claim is handled
  pub claimed_handled : (key : Position × Position) (p : List ℤ) → IsClaimed pair part cs key p → Handled (setting pair outputs recurrent template) order (claim_at (claims_of part 0 cs)) (IsClaimed pair part cs) false key p
  claimed_handled key p claimed =
      let params = claimed.there.params in
      let g = judged pair cs t moduli params claimed.there.compared in
      let i = claimed.number in
      let c = claimed.claim in
      let x = claimed.there.a.at in
      let y = claimed.there.b.at in
      let s = claimed.there.a.spot in
      let u = claimed.there.b.spot in
      let lk : claimed.there.a.position ≡ c.left = claimed.there.placed.left_is ∙ sym (ap (λ (z : Position × Position). z.0) claimed.key_is) in
      let rk : claimed.there.b.position ≡ c.right = claimed.there.placed.right_is ∙ sym (ap (λ (z : Position × Position). z.1) claimed.key_is) in
      let hx : At g.on.left c.left x s = subst (λ (P : Position). At g.on.left P x s) lk claimed.there.a.here in
      let hy : At g.on.right c.right y u = subst (λ (P : Position). At g.on.right P y u) rk claimed.there.b.here in
      let p' = params ++ (x ++ y) in
      let m : Meets c.rows p' = subst (Meets c.rows) claimed.there.placed.point_is claimed.meets in
      let f = claims_fine g.on.pairing cs k ec i c claimed.is in
      let a = f.left in
      let b = f.right in
      let px = domain_point g.on.pairing.left params g.on.left g.on.describes_left c.left x s a f.left_is hx in
      let py = domain_point g.on.pairing.right params g.on.right g.on.describes_right c.right y u b f.right_is hy in
      let dh = due_here g.on.pairing i c a b px.piece py.piece px.among py.among in
      let da = due_among g.on.pairing 0 i i cs c a b dh.0 claimed.is (omega arith) f.left_is f.right_is dh.1 in
      let sh = all_shown pair order recurrent part cs ts (due_from (programs_of pair) 0 cs) j et st dh.0 da (ap part dh.3 ∙ claimed.within) in
      let due : start g.on.pairing c a b px.piece py.piece ≡ Some sh.path = ◌∙◌ {c = Some sh.path} (sym dh.2) sh.is in
      let begin = map-some (piece_rows g.on.pairing c a b px.piece py.piece) (λ rows. record {
        conj = record { columns = start_columns g.on.pairing a b; rows = c.rows ++ (g.on.pairing.left.context ++ rows) };
        left = left_seat g.on.pairing c a;
        right = right_seat g.on.pairing c a b;
        gone = false;
        last = None;
      }) sh.path due in
      let rows = begin.0 in
      let cols = start_columns g.on.pairing a b in
      let sp = start_point g c a b x y px.long py.long in
      let hl = domain_moduli g.on.pairing.left params g.on.left g.on.describes_left c.left a px.piece f.left_is px.among in
      let hr = domain_moduli g.on.pairing.right params g.on.right g.on.describes_right c.right b py.piece f.right_is py.among in
      let made_rows = pieces_made g.on.pairing c a b px.piece py.piece rows begin.1 hl hr in
      let meet_rows = pieces_meet g c a b px.piece py.piece rows x y begin.1 sp px.meets py.meets in
      let lp : length params ≡ g.on.pairing.params = sym g.on.count in
      let ctx = Meets-append g.on.pairing.left.context g.on.pairing.params params (x ++ y) (omega (arith, lp)) g.context_made g.context in
      let made = made-both cols c.rows (g.on.pairing.left.context ++ rows) (rows_over cols c.rows f.line f.rows (moduli i c claimed.is))
      (made-both cols g.on.pairing.left.context rows (made-wide g.on.pairing.left.context g.on.pairing.params cols (omega arith) g.context_made) made_rows) in
      let start_path : Path = record {
        conj = record { columns = cols; rows = c.rows ++ (g.on.pairing.left.context ++ rows) };
        left = left_seat g.on.pairing c a;
        right = right_seat g.on.pairing c a b;
        gone = false;
        last = None;
      } in
      let in_path : InPath g.on start_path = record { made = made; base_in = omega arith; left_in = omega arith; right_in = omega arith; last_in = tt } in
      let on_path : OnPath g.on start_path p' s u = record {
        point = record { long = sp.long; meets = meets-both c.rows (g.on.pairing.left.context ++ rows) p' m (meets-both g.on.pairing.left.context rows p' ctx meet_rows) };
        starts = sp.starts;
        left = subst (λ (z : List ℤ). At g.on.left c.left z s) (sym sp.left) hx;
        right = subst (λ (z : List ℤ). At g.on.right c.right z u) (sym sp.right) hy;
        last = tt;
      } in
      let held : Handled (setting pair outputs recurrent template) order (claim_at (claims_of part 0 cs)) (IsClaimed pair part cs) false (claim_positions c) (point_at params start_path p') =
      plan_handles pair outputs order recurrent template part cs alone moduli params claimed.there.compared sh.plan start_path sh.line in_path (subst (λ (y : Path). PlanStops pair order recurrent part sh.plan y) {x = sh.path} {y = start_path} begin.2 sh.stops)
      (subst (λ (y : Path). plan_fault (programs_of pair) cs sh.plan y sh.line ≡ None) {x = sh.path} {y = start_path} begin.2 sh.fine) p' s u on_path in
      let at : point_at params start_path p' ≡ p = (λ n. params ++ (sp.left n ++ sp.right n)) ∙ sym claimed.there.placed.point_is in
      moved (Handled (setting pair outputs recurrent template) order (claim_at (claims_of part 0 cs)) (IsClaimed pair part cs) false) (claim_positions c) key (point_at params start_path p') p claimed.key_is at held
