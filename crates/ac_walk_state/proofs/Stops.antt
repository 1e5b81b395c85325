-- A proof with one more part stops at the recurrence pairs with the claims of the part, where the part does.
use Rattle.std.proofs.Common.{◌≡◌, inl, inr, ℕ, zero, suc, ◌+◌, ◌-◌, ◌<◌, ◌≤◌, ◌&&◌, nat_le, List, [], ◌∷◌, ◌++◌, length, Bool, true, false, Some, None, refl, sym, ap, ◌∙◌, subst, arith}
use Rattle.std.specs.Prelude.{slice_get, nat_eq}
use Rattle.std.specs.List.{AllByRecursion}
use Rattle.std.proofs.lemmas.Bool.{eqb-true, leb-true, le-leb}
use Rattle.std.proofs.lemmas.Option.{slice_get_within}
use Rattle.ac_forms.specs.ListMembers.{IsAmong}
use Rattle.ac_forms.proofs.Joining.{both_of}
use Rattle.ac_syntax.specs.declared.tree.Order.{Order}
use Rattle.ac_syntax.specs.declared.tree.Pair.{Pair}
use Rattle.ac_syntax.specs.declared.tree.Position.{Position}
use Rattle.ac_base.proofs.Options.{bind-some, map-some}
use Rattle.ac_cert.specs.CertificateFaults.{first_fault_of}
use Rattle.ac_cert.specs.declared.types.Rule.TheVariants as rule
use Rattle.ac_cert.proofs.Soundness.{first-none}
use Rattle.ac_claims_paths.specs.PathSteps.{Pairing}
use Rattle.ac_claims_paths.specs.declared.path.Path.{Path}
use Rattle.ac_claims_paths.proofs.Branches.{in_right}
use Rattle.ac_claims.specs.Domains.{of_width, piece_by}
use Rattle.ac_claims.specs.PlanFaults.{plan_lines}
use Rattle.ac_claims.specs.ProofFaults.{DuePlan, domain, due_from, is_due, left_seat, piece_rows, right_seat, start_columns, tree_fault_at, trees_fault}
use Rattle.ac_claims.specs.RemainingPlans.{start_at, start_beside, start_of}
use Rattle.ac_claims.specs.declared.domains.Piece.{Piece}
use Rattle.ac_claims.specs.declared.types.Claim.{Claim}
use Rattle.ac_claims.specs.declared.types.ClaimTree.{ClaimTree}
use Rattle.ac_claims.specs.declared.types.Proof.{Proof}
use Rattle.ac_claims.proofs.DueForms.{all_both}
use Rattle.ac_claims.proofs.Plans.{none_if}
use Rattle.ac_unfold_plans.specs.PlanStops.{TreesStop, claims_of, positions_at, claim_positions, programs_of}
use Rattle.ac_unfold_plans.proofs.Claimed.{within_claim}
use Rattle.ac_walk_state.specs.PartExtension.{NamesWithPart, StopsWithPart}
use Rattle.ac_walk_state.specs.ProofParts.{IsLonger, in_part}
use Rattle.ac_walk_state.specs.PartStops.{TreeStops}
use Rattle.ac_walk_state.specs.declared.types.Part.{Part}
use Rattle.ac_walk_state.proofs.Dues.{due_of, due_within, trees_within}
use Rattle.ac_walk_state.proofs.Whole.{longer_valid, parts_of}

-- ---- the claims of the part

abbrev pub InPart : ℕ → ℕ → ℕ → Type 0
InPart first count i = (first ≤ i) × (i < first + count)

pub in_is : (first count i : ℕ) → in_part first count i ≡ true → InPart first count i
in_is first count i e =
    let b = both_of (nat_le first i) (nat_le (suc i) (first + count)) e in
    let l = leb-true first i b.0 in
    let u = leb-true (suc i) (first + count) b.1 in
    (l, omega (arith, u))

pub is_in : (first count i : ℕ) → InPart first count i → in_part first count i ≡ true
is_in first count i h =
    let l = h.0 in
    let u = h.1 in
    let v : suc i ≤ first + count = omega (arith, u) in
    by (nat_le first i) (nat_le (suc i) (first + count)) (le-leb first i l) (le-leb (suc i) (first + count) v)
  where
    by : (a b : Bool) → a ≡ true → b ≡ true → (a && b) ≡ true
    by true true e f = refl
    by true false e f = absurd cc
    by false b e f = absurd cc

-- an element behind others is in the rest
there_behind : {X : Type 0} (xs ys : List X) (i : ℕ) (x : X) → slice_get (xs ++ ys) (length xs + i) ≡ Some x → slice_get ys i ≡ Some x
there_behind [] ys i x e = let z : i ≡ 0 + i = omega arith in ap (slice_get ys) z ∙ e
there_behind (y ∷ xs) ys i x e = let z : suc (length xs + i) ≡ suc (length xs) + i = omega arith in there_behind xs ys i x (ap (slice_get (y ∷ xs ++ ys)) z ∙ e)

among_at : {X : Type 0} (xs : List X) (i : ℕ) (x : X) → slice_get xs i ≡ Some x → IsAmong x xs
among_at [] i x e = absurd cc
among_at (y ∷ xs) zero x e = let s : x ≡ y = cc in inl s
among_at (y ∷ xs) (suc i) x e = inr (among_at xs i x e)

-- a claim of the part is one of those behind the others
own_claim : (before own : List Claim) (c : Claim) → IsAmong c (claims_of (in_part (length before) (length own)) 0 (before ++ own)) → IsAmong c own
own_claim before own c n =
    let w = within_claim (in_part (length before) (length own)) 0 (before ++ own) c n in
    let z : 0 + w.0 ≡ w.0 = omega arith in
    let i = in_is (length before) (length own) w.0 (ap (in_part (length before) (length own)) (sym z) ∙ w.2) in
    by w.0 i.0 w.1
  where
    by : (k : ℕ) → length before ≤ k → slice_get (before ++ own) k ≡ Some c → IsAmong c own
    by k l e = let s : length before + (k - length before) ≡ k = omega (arith, l) in among_at own (k - length before) c (there_behind before own (k - length before) c (ap (slice_get (before ++ own)) s ∙ e))

-- ---- the trees

-- a plan of a claim of the part stops from the claim's pair on
abbrev StopsIf : Pair → (Position × Position → Order) → (Position × Position → Bool) → (ℕ → Bool) → List Claim → ClaimTree → Type 0
StopsIf pair order recurrent part cs t = part t.claim ≡ true → TreeStops pair order recurrent part cs t

before_stop : (pair : Pair) (order : Position × Position → Order) (recurrent : Position × Position → Bool) (cs : List Claim) (first count : ℕ) (ts : List ClaimTree) → AllByRecursion (λ (t : ClaimTree). t.claim < first) ts → AllByRecursion (StopsIf pair order recurrent (in_part first count) cs) ts
before_stop pair order recurrent cs first count [] h = tt
before_stop pair order recurrent cs first count (t ∷ ts) h =
    ((λ e. let i = (in_is first count t.claim e).0 in let l : t.claim < first = h.0 in absurd (omega (arith, i, l))), before_stop pair order recurrent cs first count ts h.1)

own_stop : (pair : Pair) (order : Position × Position → Order) (recurrent : Position × Position → Bool) (part : ℕ → Bool) (cs : List Claim) (ts : List ClaimTree) → AllByRecursion (TreeStops pair order recurrent part cs) ts → AllByRecursion (StopsIf pair order recurrent part cs) ts
own_stop pair order recurrent part cs [] h = tt
own_stop pair order recurrent part cs (t ∷ ts) h = ((λ e. h.0), own_stop pair order recurrent part cs ts h.1)

-- a start is a path at the pair of the claim, before the first step
begun : (g : Pairing) (c : Claim) (i k : ℕ) (h : Path) → start_at g c i k ≡ Some h → (positions_at h ≡ claim_positions c) × (h.gone ≡ false)
begun g c i k h e =
    let l = bind-some (piece_by i (domain g.left c.left)) (λ (l : Piece). start_beside g c l (piece_by k (domain g.right c.right))) h e in
    let r = bind-some (piece_by k (domain g.right c.right)) (start_of g c l.0) h l.2 in
    let a = of_width l.0.width in
    let b = of_width r.0.width in
    let s = map-some (piece_rows g c a b l.0.rows r.0.rows) (λ rows. record {
      conj = record { columns = start_columns g a b; rows = c.rows ++ (g.left.context ++ rows) };
      left = left_seat g c a;
      right = right_seat g c a b;
      gone = false;
      last = None;
    }) h r.2 in
    (ap positions_at s.2, ap (λ (z : Path). z.gone) s.2)

trees_stop : (pair : Pair) (order : Position × Position → Order) (recurrent : Position × Position → Bool) (part : ℕ → Bool) (g : Pairing) (cs : List Claim) (ts : List ClaimTree) (ds : List DuePlan) (k : ℕ) → trees_fault g cs ts ds k ≡ None → AllByRecursion (StopsIf pair order recurrent part cs) ts
    → ((d : DuePlan) → IsAmong d ds → (c : Claim) × (slice_get cs d.claim ≡ Some c) × (d.path ≡ start_at g c d.left_piece d.right_piece)) → TreesStop pair order recurrent part ts ds
trees_stop pair order recurrent part g cs [] ds k e s due = tt
trees_stop pair order recurrent part g cs (t ∷ ts) [] k e s due = tt
trees_stop pair order recurrent part g cs (t ∷ ts) (d ∷ ds) k e s due =
    let b = none_if (is_due t d) (first_fault_of (tree_fault_at g cs t d.path k) (trees_fault g cs ts ds (k + (1 + plan_lines t.tree)))) (k, rule.Tree) e in
    let f = first-none (tree_fault_at g cs t d.path k) (trees_fault g cs ts ds (k + (1 + plan_lines t.tree))) b.1 in
    let same : t.claim ≡ d.claim = eqb-true t.claim d.claim (both_of (nat_eq t.claim d.claim) (nat_eq t.left_piece d.left_piece && nat_eq t.right_piece d.right_piece) b.0).0 in (
      (λ w h q.
          let r = due d (inl refl) in
          let at = begun g r.0 d.left_piece d.right_piece h (sym r.2 ∙ q) in
          s.0 (ap part same ∙ w) r.0 (ap (slice_get cs) same ∙ r.1) h at.0 at.1),
      trees_stop pair order recurrent part g cs ts ds (k + (1 + plan_lines t.tree)) f.1 s.1 (λ x n. due x (inr n)),
    )

-- ---- the longer proof

pub stops_with_part : (proof : Proof) (part : Part) (array : ℕ) (longer : Proof) → IsLonger proof part array longer → StopsWithPart proof part array longer
stops_with_part proof part array longer l pair order recurrent template outputs a f s =
    let g = programs_of pair in
    let before = proof.claims in
    let own = part.claims.items in
    let numbers = in_part (length before) (length own) in
    let cs = longer.claims in
    let v = longer_valid g outputs proof part array longer l a.valid f in
    let p = parts_of g outputs longer v in
    let old = parts_of g outputs proof a.valid in
    let low = trees_within g before proof.trees.items (due_from g 0 before) old.trees_line (length before) old.trees_are (λ d n. due_within g before d n) in
    let front = before_stop pair order recurrent cs (length before) (length own) proof.trees.items low in
    let back : AllByRecursion (TreeStops pair order recurrent numbers cs) part.trees.items = subst (λ (all : List Claim). AllByRecursion (TreeStops pair order recurrent numbers all) part.trees.items) (sym l.claims) s.trees in
    let all = all_both (StopsIf pair order recurrent numbers cs) proof.trees.items part.trees.items front (own_stop pair order recurrent numbers cs part.trees.items back) in
    let mine = λ (c : Claim) (n : IsAmong c (claims_of numbers 0 cs)). own_claim before own c (subst (λ (z : List Claim). IsAmong c (claims_of numbers 0 z)) l.claims n) in
    record {
      trees = trees_stop pair order recurrent numbers g cs longer.trees.items (due_from g 0 cs) p.trees_line p.trees_are (subst (AllByRecursion (StopsIf pair order recurrent numbers cs)) (sym l.trees) all) (λ d n.
          let r = due_of g 0 cs d n in
          let z : 0 + r.place ≡ r.place = omega arith in
          (r.claim, ap (slice_get cs) (r.number ∙ z) ∙ r.there, r.starts));
      alone = λ c d n m rec same. s.alone c d (mine c n) (mine d m) rec same;
      rows = λ c n rec. s.rows c (mine c n) rec;
    }

-- the output is named by the first claim of the part
pub names_with_part : (proof : Proof) (part : Part) (array : ℕ) (longer : Proof) → IsLonger proof part array longer → NamesWithPart proof part array longer
names_with_part proof part array longer l g outputs f o (inl e) =
    let first = length proof.claims in
    let count = length part.claims.items in
    let c = slice_get_within part.claims.items 0 f.claim f.first in
    let last : IsAmong {A = ℕ × ℕ} (array, first) (proof.outputs ++ (array, first) ∷ []) = in_right (array, first) proof.outputs ((array, first) ∷ []) (inl refl) in
    let named : IsAmong {A = ℕ × ℕ} (array, first) longer.outputs = subst (IsAmong {A = ℕ × ℕ} (array, first)) (sym l.outputs) last in
    (first, subst (λ (z : ℕ). IsAmong {A = ℕ × ℕ} (z, first) longer.outputs) (sym e) named, is_in first count first (omega arith, omega (arith, c)))
names_with_part proof part array longer l g outputs f o (inr m) = absurd m
