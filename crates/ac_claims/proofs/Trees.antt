-- A proof without fault has a plan without fault for each claim and each pair of pieces, so that its claims hold.
use Rattle.std.proofs.Common.{◌≡◌, ℕ, zero, suc, ◌+◌, inl, inr, nat_le, ℤ, List, [], ◌∷◌, ◌++◌, map, length, Bool, true, false, Option, Some, None, refl, sym, ap, ◌∙◌, subst, arith, length-append, append_assoc}
use Rattle.std.specs.Prelude.{slice_get, option_map}
use Rattle.std.proofs.lemmas.Bool.{leb-true}
use Rattle.ac_forms.specs.Affine.{Affine}
use Rattle.ac_forms.specs.Rows.{form_of, Meets, HaveModuli, AreRowsOver}
use Rattle.ac_forms.specs.declared.row.Row.{Row}
use Rattle.ac_syntax.specs.Spot.{Spot}
use Rattle.ac_syntax.specs.declared.tree.Position.{Position}
use Rattle.ac_syntax.specs.declared.tree.Position.TheVariants.{Output, Node, InitialOutput, InitialNode}
use Rattle.ac_poly.specs.declared.types.Model.{Model}
use Rattle.ac_poly.specs.declared.types.StmtModel.{StmtModel}
use Rattle.ac_cert.specs.CertificateFaults.{first_fault_of}
use Rattle.ac_cert.specs.declared.types.Rule.{Rule}
use Rattle.ac_cert.specs.declared.types.Rule.TheVariants as rule
use Rattle.ac_omega_steps.proofs.Keeping.{Meets-append}
use Rattle.ac_base.proofs.Options.{bind-some, map-some, some-is, if-some}
use Rattle.ac_cert.proofs.Soundness.{first-none}
use Rattle.ac_forms.specs.Renaming.{picked, rows_renaming}
use Rattle.ac_claims_paths.specs.PathColumns.{base, columns_of}
use Rattle.ac_claims_paths.specs.InstanceCoordinates.{width}
use Rattle.ac_claims_paths.specs.Executions.{Execution, InstanceAt, At, Describes}
use Rattle.ac_claims_paths.specs.PathSteps.{Pairing}
use Rattle.ac_claims_paths.specs.ModelPositions.{extent_rows, initial_cell}
use Rattle.ac_claims.specs.PlanFaults.{fault_unless, plan_fault, plan_lines}
use Rattle.ac_claims.specs.ProofFaults.{Domain, domain, is_output_array, can_bound, bounded_rows, with_extents, some_output, output_domain, node_domain, claim_rows_fault, claim_fault, claim_fault_at, claims_fault, left_seat, right_seat, start_columns, piece_rows, start, DuePlan, numbered, due_at, due_from, is_due, tree_fault_at, trees_fault}
use Rattle.ac_claims_paths.specs.declared.path.Path.{Path}
use Rattle.ac_claims.specs.declared.types.Claim.{Claim}
use Rattle.ac_claims.specs.declared.types.ClaimTree.{ClaimTree}
use Rattle.ac_claims.specs.declared.types.Plan.{Plan}
use Rattle.ac_claims.proofs.Central.{Valid}
use Rattle.ac_claims_paths.proofs.Moving.{InColumns, rows-value, rows-within, appended-parts, meets-both, made-both}
use Rattle.ac_claims.proofs.Claimed.{Setting, runs_of, Claimed, Good}
use Rattle.ac_claims_paths.proofs.OnPaths.{InPath, OnPath, in-append, seat_columns, base_columns, pick_more, pick_new, range_in}
use Rattle.ac_forms.specs.ListMembers.{IsAmong}
use Rattle.ac_claims_paths.proofs.Branches.{in_left, in_right, in_map, in_flat_map, somewhere_in}
use Rattle.ac_claims_paths.proofs.ReadSteps.{picks_one}
use Rattle.ac_claims_paths.proofs.InBranches.{in_get, made-wide}
use Rattle.ac_claims.proofs.Plans.{plan_good, none_if}

unless_none : (b : Bool) (k : ℕ) (r : Rule) → fault_unless b k r ≡ None → b ≡ true
unless_none true k r e = refl
unless_none false k r e = absurd cc

-- a plan without fault for what is due
pub record Shown (g : Pairing) (cs : List Claim) (d : DuePlan) : Type 0 where
  pub plan : Plan
  pub path : Path
  pub line : ℕ
  pub is : d.path ≡ Some path
  pub fine : plan_fault g cs plan path line ≡ None

tree_shown : (g : Pairing) (cs : List Claim) (t : ClaimTree) (d : DuePlan) (k : ℕ) (o : Option Path) → d.path ≡ o → tree_fault_at g cs t o k ≡ None → Shown g cs d
tree_shown g cs t d k None q e = absurd cc
tree_shown g cs t d k (Some h) q e = record { plan = t.tree; path = h; line = k + 1; is = q; fine = e }

all_shown : (g : Pairing) (cs : List Claim) (ts : List ClaimTree) (ds : List DuePlan) (k : ℕ) → trees_fault g cs ts ds k ≡ None → (d : DuePlan) → IsAmong d ds → Shown g cs d
all_shown g cs [] [] k e d m = absurd m
all_shown g cs [] (d ∷ ds) k e c m = absurd cc
all_shown g cs (t ∷ ts) [] k e d m = absurd cc
all_shown g cs (t ∷ ts) (d ∷ ds) k e c (inl i) =
    let b = none_if (is_due t d) (first_fault_of (tree_fault_at g cs t d.path k) (trees_fault g cs ts ds (k + (1 + plan_lines t.tree)))) (k, rule.Tree) e in
    let f = first-none (tree_fault_at g cs t d.path k) (trees_fault g cs ts ds (k + (1 + plan_lines t.tree))) b.1 in
    subst (λ (y : DuePlan). Shown g cs y) (sym i) (tree_shown g cs t d k d.path refl f.0)
all_shown g cs (t ∷ ts) (d ∷ ds) k e c (inr m) =
    let b = none_if (is_due t d) (first_fault_of (tree_fault_at g cs t d.path k) (trees_fault g cs ts ds (k + (1 + plan_lines t.tree)))) (k, rule.Tree) e in
    let f = first-none (tree_fault_at g cs t d.path k) (trees_fault g cs ts ds (k + (1 + plan_lines t.tree))) b.1 in
    all_shown g cs ts ds (k + (1 + plan_lines t.tree)) f.1 c m

pub in_numbered : {A : Type 0} (x : A) (k : ℕ) (xs : List A) → IsAmong x xs → (j : ℕ) × IsAmong {A = ℕ × A} (j, x) (numbered k xs)
in_numbered x k [] h = absurd h
in_numbered x k (y ∷ xs) (inl e) = (k, inl (λ i. (k, e i)))
in_numbered x k (y ∷ xs) (inr h) = let r = in_numbered x (k + 1) xs h in (r.0, inr r.1)

-- what is due for two pieces of a claim
due_here : (g : Pairing) (i : ℕ) (c : Claim) (a b : Domain) (l r : List Row) → IsAmong l a.pieces → IsAmong r b.pieces → (d : DuePlan) × IsAmong d (due_at g i c (Some a) (Some b)) × (d.path ≡ start g c a b l r)
due_here g i c a b l r m n =
    let x = in_numbered l 0 a.pieces m in
    let y = in_numbered r 0 b.pieces n in
    let d : DuePlan = record { claim = i; left_piece = x.0; right_piece = y.0; path = start g c a b l r } in
    let inner : IsAmong d (map (λ (s : ℕ × List Row). record { claim = i; left_piece = x.0; right_piece = s.0; path = start g c a b l s.1 }) (numbered 0 b.pieces)) =
    in_map (λ (s : ℕ × List Row). record { claim = i; left_piece = x.0; right_piece = s.0; path = start g c a b l s.1 }) (y.0, r) (numbered 0 b.pieces) y.1 in
    (d, in_flat_map (λ (l : ℕ × List Row). map (λ (r : ℕ × List Row). record { claim = i; left_piece = l.0; right_piece = r.0; path = start g c a b l.1 r.1 }) (numbered 0 b.pieces)) (x.0, l) (numbered 0 a.pieces) d x.1 inner, refl)

pub due_among : (g : Pairing) (first j i : ℕ) (cs : List Claim) (c : Claim) (a b : Domain) (d : DuePlan) → slice_get cs j ≡ Some c → first + j ≡ i → domain g.left c.left ≡ Some a → domain g.right c.right ≡ Some b
    → IsAmong d (due_at g i c (Some a) (Some b)) → IsAmong d (due_from g first cs)
due_among g first j i [] c a b d e n ea eb m = absurd cc
due_among g first zero i (c' ∷ cs) c a b d e n ea eb m =
    let same : c' ≡ c = cc in
    let z : first ≡ i = omega (arith, n) in
    let at : due_at g i c (Some a) (Some b) ≡ due_at g first c' (domain g.left c'.left) (domain g.right c'.right) =
    (λ q. due_at g (sym z q) (sym same q) (sym ea q) (sym eb q)) ∙ (λ q. due_at g first c' (domain g.left (sym same q).left) (domain g.right (sym same q).right)) in
    in_left d (due_at g first c' (domain g.left c'.left) (domain g.right c'.right)) (due_from g (first + 1) cs) (subst (IsAmong d) at m)
due_among g first (suc j) i (c' ∷ cs) c a b d e n ea eb m =
    in_right d (due_at g first c' (domain g.left c'.left) (domain g.right c'.right)) (due_from g (first + 1) cs) (due_among g (first + 1) j i cs c a b d e (omega (arith, n)) ea eb m)

-- a claim without fault is of positions that are there, and its rows are over their columns
pub record Fine (g : Pairing) (c : Claim) : Type 0 where
  pub left : Domain
  pub right : Domain
  pub left_is : domain g.left c.left ≡ Some left
  pub right_is : domain g.right c.right ≡ Some right
  pub line : ℕ
  pub rows : claim_rows_fault (start_columns g left right) c.rows line ≡ None

pub claim_fine : (g : Pairing) (c : Claim) (k : ℕ) → claim_fault g c k ≡ None → Fine g c
claim_fine g c k e = by (domain g.left c.left) (domain g.right c.right) refl refl e
  where
    by : (o o' : Option Domain) → domain g.left c.left ≡ o → domain g.right c.right ≡ o' → claim_fault_at g o o' c.rows k ≡ None → Fine g c
    by None o' q q' e = absurd cc
    by (Some a) None q q' e = absurd cc
    by (Some a) (Some b) q q' e = record { left = a; right = b; left_is = q; right_is = q'; line = k + 1; rows = e }

pub claims_fine : (g : Pairing) (cs : List Claim) (k : ℕ) → claims_fault g cs k ≡ None → (i : ℕ) (c : Claim) → slice_get cs i ≡ Some c → Fine g c
claims_fine g [] k e i c q = absurd cc
claims_fine g (d ∷ cs) k e zero c q = let f = first-none (claim_fault g d k) (claims_fault g cs (k + (1 + length d.rows))) e in let s : d ≡ c = cc in subst (λ (y : Claim). Fine g y) s (claim_fine g d k f.0)
claims_fine g (d ∷ cs) k e (suc i) c q = claims_fine g cs (k + (1 + length d.rows)) (first-none (claim_fault g d k) (claims_fault g cs (k + (1 + length d.rows))) e).1 i c q

pub rows_over : (n : ℕ) (rows : List Row) (k : ℕ) → claim_rows_fault n rows k ≡ None → HaveModuli rows → AreRowsOver n rows
rows_over n [] k e h = tt
rows_over n (r ∷ rows) k e h =
    let f = first-none (fault_unless (nat_le (length (form_of r).coefs) n) k rule.Claim) (claim_rows_fault n rows (k + 1)) e in
    ((leb-true (length (form_of r).coefs) n (unless_none (nat_le (length (form_of r).coefs) n) k rule.Claim f.0), h.0), rows_over n rows (k + 1) f.1 h.1)

-- a position at its coordinates lies in one of its pieces
pub record InDomain (params : List ℤ) (a : Domain) (at : List ℤ) : Type 0 where
  pub long : length at ≡ a.width
  pub piece : List Row
  pub among : IsAmong piece a.pieces
  pub meets : Meets piece (params ++ at)

-- the parts of an output that is there
pub output_parts : (m : Model) (o : ℕ) (a : Domain) → output_domain m o ≡ Some a → (extents : List Affine) × (slice_get m.extents o ≡ Some extents) × (a ≡ record { width = length extents; pieces = extent_rows m.params extents ∷ [] })
output_parts m o a e =
    let b = bind-some (slice_get m.extents o) (with_extents m) a (if-some (is_output_array m o) (some_output m o) a e).1 in
    let c = map-some (bounded_rows m.params b.0) (λ rows. record { width = length b.0; pieces = rows ∷ [] }) a b.2 in
    let d = if-some (can_bound m.params b.0) (Some (extent_rows m.params b.0)) c.0 c.1 in
    (b.0, b.1, c.2 ∙ ap (λ (rows : List Row). record { width = length b.0; pieces = rows ∷ [] }) (sym (some-is (extent_rows m.params b.0) c.0 d.1)))

output_point : (m : Model) (params : List ℤ) (x : Execution) → Describes m params x → (o : ℕ) (at : List ℤ) (a : Domain) → x.inside o at → output_domain m o ≡ Some a → InDomain params a at
output_point m params x d o at a inside e =
    let b = output_parts m o a e in
    let f = d.elements o at inside in
    let same : f.extents ≡ b.0 = some-is f.extents b.0 (sym f.is ∙ b.1) in
    subst (λ (y : Domain). InDomain params y at) (sym b.2) (record {
      long = f.count ∙ ap (λ (y : List Affine). length y) same;
      piece = extent_rows m.params b.0;
      among = inl refl;
      meets = subst (λ k. Meets (extent_rows k b.0) (params ++ at)) (sym d.count) (subst (λ (y : List Affine). Meets (extent_rows (length params) y) (params ++ at)) same f.within);
    })

node_point : (m : Model) (params : List ℤ) (x : Execution) → Describes m params x → (s k : ℕ) (at : List ℤ) (w : _) (a : Domain) → InstanceAt x s at w → node_domain m s k ≡ Some a → InDomain params a at
node_point m params x d s k at w a i e =
    let b = bind-some (slice_get m.stmts s) (λ (stmt : StmtModel). option_map (λ node. record { width = width stmt; pieces = stmt.pieces }) (slice_get stmt.nodes k)) a e in
    let c = map-some (slice_get b.0.nodes k) (λ node. record { width = width b.0; pieces = b.0.pieces }) a b.2 in
    let mo = d.entry w i.stands in
    let is : slice_get m.stmts w.entry.stmt ≡ Some b.0 = ap (slice_get m.stmts) i.stmt ∙ b.1 in
    let same : mo.stmt ≡ b.0 = some-is mo.stmt b.0 (sym mo.is ∙ is) in
    let r = somewhere_in b.0.pieces (params ++ x.coords w.entry) (d.piece w b.0 i.stands is) in
    subst (λ (y : Domain). InDomain params y at) (sym c.2) (record {
      long = ap (λ (y : List ℤ). length y) (sym i.coords) ∙ mo.width ∙ ap width same;
      piece = r.0;
      among = r.1;
      meets = subst (λ (y : List ℤ). Meets r.0 (params ++ y)) i.coords r.2;
    })

pub domain_point : (m : Model) (params : List ℤ) (x : Execution) → Describes m params x → (P : Position) (at : List ℤ) (s : Spot) (a : Domain) → domain m P ≡ Some a → At x P at s → InDomain params a at
unfolding At
domain_point m params x d (Output o) at s a e h = output_point m params x d o at a h.0 e
domain_point m params x d (Node k j) at s a e (w, i, v, n, is) = node_point m params x d k j at w a i e
domain_point m params x d (InitialOutput o) at s a e h = output_point m params x d o at a h.0 e
domain_point m params x d (InitialNode k j) at s a e (w, i, array, subs, place, n, is) =
    let b = bind-some (initial_cell m (InitialNode k j)) (λ cell. node_domain m k j) a e in node_point m params x d k j at w a i b.2

extent_moduli : (k : ℕ) (es : List Affine) → HaveModuli (extent_rows k es)
extent_moduli k [] = tt
extent_moduli k (e ∷ es) = (tt, (tt, extent_moduli (k + 1) es))

output_moduli : (m : Model) (o : ℕ) (a : Domain) (q : List Row) → output_domain m o ≡ Some a → IsAmong q a.pieces → HaveModuli q
output_moduli m o a q e n =
    let b = output_parts m o a e in
    by b.0 (subst (λ (y : Domain). IsAmong q y.pieces) b.2 n)
  where
    by : (es : List Affine) → IsAmong q (extent_rows m.params es ∷ []) → HaveModuli q
    by es (inl i) = subst HaveModuli (sym i) (extent_moduli m.params es)
    by es (inr i) = absurd i

-- each modulus in the pieces of a model is at least 1
abbrev pub PiecesModuli : Model → Type 0
PiecesModuli m = (number : ℕ) (stmt : StmtModel) (k : ℕ) (rows : List Row) → slice_get m.stmts number ≡ Some stmt → slice_get stmt.pieces k ≡ Some rows → HaveModuli rows

node_moduli : (m : Model) → PiecesModuli m → (s k : ℕ) (a : Domain) (q : List Row) → node_domain m s k ≡ Some a → IsAmong q a.pieces → HaveModuli q
node_moduli m h s k a q e n =
    let b = bind-some (slice_get m.stmts s) (λ (stmt : StmtModel). option_map (λ node. record { width = width stmt; pieces = stmt.pieces }) (slice_get stmt.nodes k)) a e in
    let c = map-some (slice_get b.0.nodes k) (λ node. record { width = width b.0; pieces = b.0.pieces }) a b.2 in
    let r = in_get q b.0.pieces (subst (λ (y : Domain). IsAmong q y.pieces) c.2 n) in
    h s b.0 r.0 q b.1 r.1

pub domain_rows : (m : Model) → PiecesModuli m → (P : Position) (a : Domain) (q : List Row) → domain m P ≡ Some a → IsAmong q a.pieces → HaveModuli q
domain_rows m h (Output o) a q e n = output_moduli m o a q e n
domain_rows m h (Node s k) a q e n = node_moduli m h s k a q e n
domain_rows m h (InitialOutput o) a q e n = output_moduli m o a q e n
domain_rows m h (InitialNode s k) a q e n = let b = bind-some (initial_cell m (InitialNode s k)) (λ cell. node_domain m s k) a e in node_moduli m h s k a q b.2 n

pub domain_moduli : (m : Model) (params : List ℤ) (x : Execution) → Describes m params x → (P : Position) (a : Domain) (q : List Row) → domain m P ≡ Some a → IsAmong q a.pieces → HaveModuli q
domain_moduli m params x d = domain_rows m d.pieces_moduli

-- the columns of the beginning of a plan
pub record StartPoint (g : Setting) (c : Claim) (a b : Domain) (x y : List ℤ) : Type 0 where
  pub long : length (g.on.params ++ (x ++ y)) ≡ start_columns g.on.pairing a b
  pub starts : picked (base g.on.pairing.params) (g.on.params ++ (x ++ y)) ≡ g.on.params
  pub left : picked (columns_of (left_seat g.on.pairing c a)) (g.on.params ++ (x ++ y)) ≡ x
  pub right : picked (columns_of (right_seat g.on.pairing c a b)) (g.on.params ++ (x ++ y)) ≡ y

pub start_point : (g : Setting) (c : Claim) (a b : Domain) (x y : List ℤ) → length x ≡ a.width → length y ≡ b.width → StartPoint g c a b x y
start_point g c a b x y lx ly =
    let n = g.on.pairing.params in
    let lp : length g.on.params ≡ n = sym g.on.count in
    let lpx : length (g.on.params ++ x) ≡ n + a.width = length-append g.on.params x ∙ (λ i. lp i + lx i) in
    let again : (g.on.params ++ x) ++ y ≡ g.on.params ++ (x ++ y) = append_assoc g.on.params x y in
    let ks : InColumns (columns_of (left_seat g.on.pairing c a)) (n + a.width) = range_in n a.width (n + a.width) (omega arith) in
    record {
      long = length-append g.on.params (x ++ y) ∙ (λ i. lp i + (length-append x y ∙ (λ j. lx j + ly j)) i);
      starts = pick_new0 g.on.params (x ++ y) n lp;
      left = ap (picked (columns_of (left_seat g.on.pairing c a))) (sym again) ∙ pick_more (columns_of (left_seat g.on.pairing c a)) (g.on.params ++ x) y (n + a.width) lpx ks ∙ pick_new g.on.params x n a.width lp lx;
      right = ap (picked (columns_of (right_seat g.on.pairing c a b))) (sym again) ∙ pick_new (g.on.params ++ x) y (n + a.width) b.width lpx ly;
    }
  where
    pick_new0 : (params rest : List ℤ) (n : ℕ) → length params ≡ n → picked (base n) (params ++ rest) ≡ params
    pick_new0 params rest n l = pick_more (base n) params rest n l (base_columns n n (omega arith)) ∙ pick_new [] params 0 n refl l

-- the rows of two pieces at such a point
pub pieces_meet : (g : Setting) (c : Claim) (a b : Domain) (l r rows : List Row) (x y : List ℤ) → piece_rows g.on.pairing c a b l r ≡ Some rows → StartPoint g c a b x y → Meets l (g.on.params ++ x) → Meets r (g.on.params ++ y) → Meets rows (g.on.params ++ (x ++ y))
pieces_meet g c a b l r rows x y e s ml mr =
    let n = g.on.pairing.params in
    let p = g.on.params ++ (x ++ y) in
    let ks = base n ++ columns_of (left_seat g.on.pairing c a) in
    let ls = base n ++ columns_of (right_seat g.on.pairing c a b) in
    let t = appended-parts (rows_renaming ks l) (rows_renaming ls r) rows e in
    subst (λ (z : List Row). Meets z p) (sym t.4) (meets-both t.0 t.1 p
    ((rows-value ks l t.0 p t.2).1 (subst (Meets l) (sym (picks_one n g.on.params (left_seat g.on.pairing c a) p x s.starts s.left)) ml))
    ((rows-value ls r t.1 p t.3).1 (subst (Meets r) (sym (picks_one n g.on.params (right_seat g.on.pairing c a b) p y s.starts s.right)) mr)))

pub pieces_made : (g : Pairing) (c : Claim) (a b : Domain) (l r rows : List Row) → piece_rows g c a b l r ≡ Some rows → HaveModuli l → HaveModuli r → AreRowsOver (start_columns g a b) rows
pieces_made g c a b l r rows e hl hr =
    let n = g.params in
    let cols = start_columns g a b in
    let ks = base n ++ columns_of (left_seat g c a) in
    let ls = base n ++ columns_of (right_seat g c a b) in
    let t = appended-parts (rows_renaming ks l) (rows_renaming ls r) rows e in
    let kb = base_columns n cols (omega arith) in
    let kl = in-append (base n) (columns_of (left_seat g c a)) cols kb (seat_columns (left_seat g c a) cols (omega arith)) in
    let kr = in-append (base n) (columns_of (right_seat g c a b)) cols kb (seat_columns (right_seat g c a b) cols (omega arith)) in
    subst (λ (z : List Row). AreRowsOver cols z) (sym t.4) (made-both cols t.0 t.1 (rows-within ks l t.0 cols kl hl t.2) (rows-within ls r t.1 cols kr hr t.3))

-- each pair that is claimed is covered
pub all_valid : (g : Setting) (k j : ℕ) (ts : List ClaimTree) → claims_fault g.on.pairing g.claims k ≡ None → trees_fault g.on.pairing g.claims ts (due_from g.on.pairing 0 g.claims) j ≡ None → Valid (runs_of g) (Claimed g)
all_valid g k j ts ec et s t (i, c, ic, x, y, hx, hy, m) =
    let f = claims_fine g.on.pairing g.claims k ec i c ic in
    let a = f.left in
    let b = f.right in
    let px = domain_point g.on.pairing.left g.on.params g.on.left g.on.describes_left c.left x s a f.left_is hx in
    let py = domain_point g.on.pairing.right g.on.params g.on.right g.on.describes_right c.right y t b f.right_is hy in
    let dh = due_here g.on.pairing i c a b px.piece py.piece px.among py.among in
    let da = due_among g.on.pairing 0 i i g.claims c a b dh.0 ic (omega arith) f.left_is f.right_is dh.1 in
    let sh = all_shown g.on.pairing g.claims ts (due_from g.on.pairing 0 g.claims) j et dh.0 da in
    let h = sh.path in
    let st = map-some (piece_rows g.on.pairing c a b px.piece py.piece) (λ rows. record {
      conj = record { columns = start_columns g.on.pairing a b; rows = c.rows ++ (g.on.pairing.left.context ++ rows) };
      left = left_seat g.on.pairing c a;
      right = right_seat g.on.pairing c a b;
      gone = false;
      last = None;
    }) h (sym dh.2 ∙ sh.is) in
    let rows = st.0 in
    let p = g.on.params ++ (x ++ y) in
    let cols = start_columns g.on.pairing a b in
    let sp = start_point g c a b x y px.long py.long in
    let hl = domain_moduli g.on.pairing.left g.on.params g.on.left g.on.describes_left c.left a px.piece f.left_is px.among in
    let hr = domain_moduli g.on.pairing.right g.on.params g.on.right g.on.describes_right c.right b py.piece f.right_is py.among in
    let made_rows = pieces_made g.on.pairing c a b px.piece py.piece rows st.1 hl hr in
    let meet_rows = pieces_meet g c a b px.piece py.piece rows x y st.1 sp px.meets py.meets in
    let lp : length g.on.params ≡ g.on.pairing.params = sym g.on.count in
    let ctx = Meets-append g.on.pairing.left.context g.on.pairing.params g.on.params (x ++ y) (omega (arith, lp)) g.context_made g.context in
    let made = made-both cols c.rows (g.on.pairing.left.context ++ rows) (rows_over cols c.rows f.line f.rows (g.moduli i c ic))
    (made-both cols g.on.pairing.left.context rows (made-wide g.on.pairing.left.context g.on.pairing.params cols (omega arith) g.context_made) made_rows) in
    let start_path : Path = record {
      conj = record { columns = cols; rows = c.rows ++ (g.on.pairing.left.context ++ rows) };
      left = left_seat g.on.pairing c a;
      right = right_seat g.on.pairing c a b;
      gone = false;
      last = None;
    } in
    let in_path : InPath g.on start_path = record { made = made; base_in = omega arith; left_in = omega arith; right_in = omega arith; last_in = tt } in
    let on_path : OnPath g.on start_path p s t = record {
      point = record { long = sp.long; meets = meets-both c.rows (g.on.pairing.left.context ++ rows) p m (meets-both g.on.pairing.left.context rows p ctx meet_rows) };
      starts = sp.starts;
      left = subst (λ (z : List ℤ). At g.on.left c.left z s) (sym sp.left) hx;
      right = subst (λ (z : List ℤ). At g.on.right c.right z t) (sym sp.right) hy;
      last = tt;
    } in
    let good : Good g start_path = plan_good g sh.plan start_path sh.line in_path (subst (λ (y : Path). plan_fault g.on.pairing g.claims sh.plan y sh.line ≡ None) st.2 sh.fine) in
    good p s t on_path
