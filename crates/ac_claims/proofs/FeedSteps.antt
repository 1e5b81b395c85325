-- A check that is fed with the lines of a proof.
use Rattle.std.proofs.Common.{◌≡◌, ℕ, suc, ℤ, ◌+◌, ◌<◌, ◌≤◌, List, [], ◌∷◌, ◌++◌, map, drop, length, get_or, Option, Some, None, Ok, Err, refl, sym, ap, ◌∙◌, subst, append_assoc, append-nil}
use Rattle.std.specs.Prelude.{option_map, Box, Vec}
use Rattle.std.specs.List.{AllByRecursion, flat_map}
use Rattle.std.specs.declared.alloc.Global.{Global}
use Rattle.std.proofs.lemmas.List.{drop_all}
use Rattle.ac_forms.specs.Affine.{Affine}
use Rattle.ac_forms.specs.declared.row.Row.{Row}
use Rattle.ac_syntax.specs.Outputs.{SameOutput}
use Rattle.ac_syntax.specs.declared.tree.Order.{Order}
use Rattle.ac_syntax.specs.declared.tree.Pair.{Pair}
use Rattle.ac_poly.specs.declared.types.Model.{Model}
use Rattle.ac_cert.specs.CertificateFaults.{Fault}
use Rattle.ac_omega_steps.specs.declared.choose.Choice.{Choice}
use Rattle.ac_cert.specs.declared.types.Rule.{Rule}
use Rattle.ac_cert.specs.declared.types.Step.{Step}
use Rattle.ac_omega_steps.proofs.Parts.{drop-at}
use Rattle.ac_claims_paths.specs.ModelCalls.{pairing}
use Rattle.ac_claims_paths.specs.PathSteps.{Pairing}
use Rattle.ac_claims.specs.CheckFeed.{fed_by, Reaches, Feeds, of_step, of_choice, of_row, of_claim, of_output, of_tree, of_heads, HasAnswer, HasRefusal, IsBehind, IsVerdict, IsFirstFault}
use Rattle.ac_claims.specs.CheckState.{state_of, IsSteady, SamePair}
use Rattle.ac_claims.specs.Machine.{step_items, choice_items, next_items, row_items}
use Rattle.ac_claims.specs.PlanFaults.{count_of}
use Rattle.ac_claims.specs.ProofMachine.{items_of, head_items, row_lines, claims_lines, output_lines, tree_lines, lines_of, AreSpelledTrees}
use Rattle.ac_claims.specs.ProofFaults.{proof_fault}
use Rattle.ac_claims.specs.Soundness.{ArePaired, AreModels, ClaimsHaveModuli, pairing_of}
use Rattle.ac_claims.specs.Steppers.{State, after, after_all, beginning, capped, verdict_by}
use Rattle.ac_claims.specs.declared.item.Item.{Item}
use Rattle.ac_claims.specs.declared.item.Item.TheVariants as item
use Rattle.ac_claims.specs.declared.stepper.Stepper.{Stepper}
use Rattle.ac_claims.specs.declared.types.Claim.{Claim}
use Rattle.ac_claims.specs.declared.types.ClaimTree.{ClaimTree}
use Rattle.ac_claims.specs.declared.types.Heads.{Heads}
use Rattle.ac_claims.specs.declared.types.Kill.{Kill}
use Rattle.ac_claims.specs.declared.types.Plan.{Plan}
use Rattle.ac_claims.specs.declared.types.PlanNext.{PlanNext, Split, Residue, Go, Split', Residue', Go', Row_of-Plan, end_of-Plan, more_of-Plan, items-the_row-Plan, items_hidden-the_row-Plan-0}
use Rattle.ac_claims.specs.declared.types.PlanNext.TheBlock.{hidden-the_row-Plan-0}
use Rattle.ac_claims.specs.declared.types.PlanNext.TheVariants.{Absurd, Killed, Hit, SameNumber, SameInitial}
use Rattle.ac_claims.specs.declared.types.Proof.{Proof}
use Rattle.ac_claims.specs.declared.types.ProofFault.{ProofFault}
use Rattle.ac_claims.specs.declared.types.ProofFault.TheVariants.{Refused, Memory}
use Rattle.ac_claims.proofs.Driving.{lines_drive_the_proof}
use Rattle.ac_claims.proofs.Headline.{valid_proofs_name_same_outputs}

all_append : (g : Pairing) (outputs : List ℕ) (xs ys : List Item) (s : State) → after_all g outputs (xs ++ ys) s ≡ after_all g outputs ys (after_all g outputs xs s)
all_append g outputs [] ys s = refl
all_append g outputs (x ∷ xs) ys s = all_append g outputs xs ys (after g outputs x s)

fed_append : (g : Pairing) (outputs : List ℕ) (xs ys : List Item) (o : Option State) → fed_by g outputs (xs ++ ys) o ≡ fed_by g outputs ys (fed_by g outputs xs o)
fed_append g outputs xs ys None = refl
fed_append g outputs xs ys (Some s) = ap Some (all_append g outputs xs ys s)

fed_none : (g : Pairing) (outputs : List ℕ) (o : Option State) → fed_by g outputs [] o ≡ o
fed_none g outputs None = refl
fed_none g outputs (Some s) = refl

fed_one : (g : Pairing) (outputs : List ℕ) (x : Item) (o : Option State) → option_map (after g outputs x) o ≡ fed_by g outputs (x ∷ []) o
fed_one g outputs x None = refl
fed_one g outputs x (Some s) = refl

same_fed : (old new : Stepper) → SamePair old new → (xs : List Item) (o : Option State) → fed_by (pairing new.programs) new.outputs.now xs o ≡ fed_by (pairing old.programs) old.outputs.now xs o
same_fed old new s xs o = λ i. fed_by (pairing (s.programs i)) ((s.outputs i).now) xs o

-- an item was taken
pub fed_item : (old new : Stepper) (x : Item) → state_of new ≡ option_map (after (pairing old.programs) old.outputs.now x) (state_of old) → IsSteady new → SamePair old new → Feeds (x ∷ []) old new
fed_item old new x e s p = record { steady = s; same = p; state = fed_none (pairing new.programs) new.outputs.now (state_of new) ∙ e ∙ fed_one (pairing old.programs) old.outputs.now x (state_of old) }

pub ruleset feed_steps = (fed_item)

pub reach_start : (s : Stepper) (xs : List Item) → IsSteady s → Reaches s xs s xs
reach_start s xs h = record { steady = h; same = record { programs = refl; outputs = refl }; state = refl }

pub reach_on : (old mid new : Stepper) (all xs rest : List Item) → Reaches old all mid (xs ++ rest) → Feeds xs mid new → Reaches old all new rest
reach_on old mid new all xs rest h f = record {
  steady = f.steady;
  same = record { programs = f.same.programs ∙ h.same.programs; outputs = f.same.outputs ∙ h.same.outputs };
  state =
      same_fed mid new f.same rest (state_of new)
      ∙ ap (fed_by (pairing mid.programs) mid.outputs.now rest) (sym (fed_none (pairing new.programs) new.outputs.now (state_of new)) ∙ f.state)
      ∙ sym (fed_append (pairing mid.programs) mid.outputs.now xs rest (state_of mid))
      ∙ h.state;
}

-- one list of items behind another
pub feeds_then : (old mid new : Stepper) (xs ys : List Item) → Feeds xs old mid → Feeds ys mid new → Feeds (xs ++ ys) old new
feeds_then old mid new xs ys f h =
    reach_on old mid new (xs ++ ys) ys [] (subst (λ (z : List Item). Reaches old (xs ++ ys) mid z) (sym (append-nil ys)) (record {
      steady = f.steady;
      same = f.same;
      state =
          same_fed old mid f.same ys (state_of mid)
          ∙ ap (fed_by (pairing old.programs) old.outputs.now ys) (sym (fed_none (pairing mid.programs) mid.outputs.now (state_of mid)) ∙ f.state)
          ∙ sym (fed_append (pairing old.programs) old.outputs.now xs ys (state_of old));
    })) h

pub feeds_none : (s : Stepper) → IsSteady s → Feeds [] s s
feeds_none s h = reach_start s [] h

-- a loop over the parts of a list
pub part_fed : {A : Type 0} (part : A → List Item) (old mid new : Stepper) (all : List Item) (xs : List A) (i : ℕ) (x : A) (ys : List Item) → Reaches old all mid (flat_map part (drop i xs)) → i < length xs → x ≡ get_or xs i x → ys ≡ part x → Feeds ys mid new
    → Reaches old all new (flat_map part (drop (i + 1) xs))
part_fed part old mid new all xs i x ys h l e y f =
    reach_on old mid new all ys (flat_map part (drop (i + 1) xs)) (subst (Reaches old all mid) (ap (flat_map part) (drop-at xs i x l e) ∙ ap (λ z. z ++ flat_map part (drop (i + 1) xs)) (sym y)) h) f

pub parts_fed : {A : Type 0} (part : A → List Item) (old new : Stepper) (all : List Item) (xs : List A) (i : ℕ) → Reaches old all new (flat_map part (drop i xs)) → length xs ≤ i → Feeds all old new
parts_fed part old new all xs i h l = subst (Reaches old all new) (ap (flat_map part) (drop_all i xs l)) h

pub ruleset loop_steps = (reach_start, part_fed, parts_fed)

pub ruleset then_steps = (feeds_then, feeds_none)

-- the items of the parts of a proof, one list for each kind
pub steps_flat : (ss : List Step) (rest : List Item) → step_items ss rest ≡ flat_map of_step ss ++ rest
steps_flat [] rest = refl
steps_flat (s ∷ ss) rest = ap (λ z. item.Step s ∷ z) (steps_flat ss rest)

pub choices_flat : (xs : List Choice) (rest : List Item) → choice_items xs rest ≡ flat_map of_choice xs ++ rest
choices_flat [] rest = refl
choices_flat (x ∷ xs) rest = ap (λ z. item.Choice x ∷ z) (choices_flat xs rest)

rows_flat : (rs : List Row) (rest : List Item) → row_lines rs rest ≡ flat_map of_row rs ++ rest
rows_flat [] rest = refl
rows_flat (r ∷ rs) rest = ap (λ z. item.Row r ∷ z) (rows_flat rs rest)

claims_flat : (cs : List Claim) (rest : List Item) → claims_lines cs rest ≡ flat_map of_claim cs ++ rest
claims_flat [] rest = refl
claims_flat (c ∷ cs) rest =
    ap (λ z. item.Claim c.left c.right (length c.rows) ∷ z) (rows_flat c.rows (claims_lines cs rest) ∙ ap (λ z. flat_map of_row c.rows ++ z) (claims_flat cs rest) ∙ sym (append_assoc (flat_map of_row c.rows) (flat_map of_claim cs) rest))

outputs_flat : (os : List (ℕ × ℕ)) (rest : List Item) → output_lines os rest ≡ flat_map of_output os ++ rest
outputs_flat [] rest = refl
outputs_flat (o ∷ os) rest = ap (λ z. item.Output o.0 o.1 ∷ z) (outputs_flat os rest)

trees_flat : (ts : List ClaimTree) (rest : List Item) → tree_lines ts rest ≡ flat_map of_tree ts ++ rest
trees_flat [] rest = refl
trees_flat (t ∷ ts) rest = ap (λ z. item.Tree t.claim t.left_piece t.right_piece ∷ z) (ap (λ z. items_of t.tree ++ z) (trees_flat ts rest) ∙ sym (append_assoc (items_of t.tree) (flat_map of_tree ts) rest))

heads_flat : (o : Option Heads) (rest : List Item) → head_items o rest ≡ of_heads o ++ rest
heads_flat None rest = refl
heads_flat (Some h) rest = refl

pub proof_flat : (p : Proof) → lines_of p ≡ (((item.Point p.point ∷ of_heads p.heads) ++ (item.Claims (length p.claims) ∷ flat_map of_claim p.claims)) ++ flat_map of_output p.outputs) ++ (flat_map of_tree p.trees.items ++ item.End ∷ [])
proof_flat p =
    let trees = flat_map of_tree p.trees.items ++ item.End ∷ [] in
    let outputs = flat_map of_output p.outputs in
    let claims = flat_map of_claim p.claims in
    let heads = of_heads p.heads in
    ap (λ z. item.Point p.point ∷ z) (
    heads_flat p.heads (item.Claims (length p.claims) ∷ claims_lines p.claims (output_lines p.outputs (tree_lines p.trees.items (item.End ∷ []))))
    ∙ ap (λ z. heads ++ (item.Claims (length p.claims) ∷ z)) (
    claims_flat p.claims (output_lines p.outputs (tree_lines p.trees.items (item.End ∷ [])))
    ∙ ap (λ z. claims ++ z) (outputs_flat p.outputs (tree_lines p.trees.items (item.End ∷ [])) ∙ ap (λ z. outputs ++ z) (trees_flat p.trees.items (item.End ∷ [])))
    ∙ sym (append_assoc claims outputs trees))
    ∙ sym (append_assoc heads (item.Claims (length p.claims) ∷ (claims ++ outputs)) trees)
    ∙ ap (λ z. z ++ trees) (sym (append_assoc heads (item.Claims (length p.claims) ∷ claims) outputs)))

-- steps and what stands behind them, in front of others
pub behind : (ss : List Step) (x : PlanNext) → ((rest : List Item) → next_items x rest ≡ next_items x [] ++ rest) → (rest : List Item) → step_items ss (next_items x rest) ≡ step_items ss (next_items x []) ++ rest
behind [] x h rest = h rest
behind (s ∷ ss) x h rest = ap (λ z. item.Step s ∷ z) (behind ss x h rest)

mutual
  pub next_before : (x : PlanNext) (rest : List Item) → next_items x rest ≡ next_items x [] ++ rest
  next_before (Split' f p s l q t r) rest =
      let last = step_items t (next_items r []) in
      ap (λ z. item.Split f ∷ z) (
      ap (λ z. step_items s (next_items l z)) (behind t r (next_before r) rest)
      ∙ behind s l (next_before l) (last ++ rest)
      ∙ sym (append_assoc (step_items s (next_items l [])) last rest)
      ∙ ap (λ z. z ++ rest) (sym (behind s l (next_before l) last)))
  next_before (Residue' m f shape all) rest = ap (λ z. item.Residue m f ∷ z) (row_before all rest)
  next_before (Go' order shape all) rest = ap (λ z. item.Go order (count_of all) ∷ z) (row_before all rest)
  next_before (Absurd i) rest = refl
  next_before (Killed kill) rest =
      ap (λ z. item.Killed kill.stmt kill.piece kill.after kill.before (length kill.choices) ∷ z) (choices_flat kill.choices rest ∙ sym (ap (λ z. z ++ rest) (choices_flat kill.choices [] ∙ append-nil (flat_map of_choice kill.choices))))
  next_before (Hit c) rest = refl
  next_before SameNumber rest = refl
  next_before SameInitial rest = refl

  row_before : {m : _} (all : Row_of-Plan m) (rest : List Item) → row_items all rest ≡ row_items all [] ++ rest
  row_before end_of-Plan rest = refl
  row_before (more_of-Plan s t more) rest =
      ap (λ z. step_items s (next_items t z)) (row_before more rest)
      ∙ behind s t (next_before t) (row_items more [] ++ rest)
      ∙ sym (append_assoc (step_items s (next_items t [])) (row_items more []) rest)
      ∙ ap (λ z. z ++ rest) (sym (behind s t (next_before t) (row_items more [])))

row_flat : {w : _} (all : Row_of-Plan w) → row_items all [] ≡ flat_map items_of (items-the_row-Plan w all)
row_flat end_of-Plan = refl
row_flat (more_of-Plan s t more) = behind s t (next_before t) (row_items more []) ∙ ap (λ z. step_items s (next_items t []) ++ z) (row_flat more)

row_count : {w : _} (all : Row_of-Plan w) → count_of all ≡ length (items-the_row-Plan w all)
row_count end_of-Plan = refl
row_count (more_of-Plan s t more) = ap (λ (x : ℕ). suc x) (row_count more)

pub at_split : (x : PlanNext) (f : Affine) (left right : Box Plan Global) → x ≡ Split f left right → next_items x [] ≡ ((item.Split f ∷ []) ++ items_of left.value) ++ items_of right.value
at_split x f left right is = ap (λ y. next_items y []) is ∙ ap (λ z. item.Split f ∷ z) (behind left.value.steps left.value.next (next_before left.value.next) (items_of right.value))

pub at_residue : (x : PlanNext) (m : ℤ) (f : Affine) (kids : Vec Plan Global) → x ≡ Residue m f kids → next_items x [] ≡ (item.Residue m f ∷ []) ++ flat_map items_of kids.items
at_residue x m f kids is =
    ap (λ y. next_items y []) is ∙ ap (λ z. item.Residue m f ∷ z) (row_flat (hidden-the_row-Plan-0 kids) ∙ ap (flat_map items_of) (items_hidden-the_row-Plan-0 kids))

pub at_go : (x : PlanNext) (order : Order) (cases : Vec Plan Global) → x ≡ Go order cases → next_items x [] ≡ (item.Go order (length cases.items) ∷ []) ++ flat_map items_of cases.items
at_go x order cases is =
    ap (λ y. next_items y []) is
    ∙ (λ i. item.Go order ((row_count (hidden-the_row-Plan-0 cases) ∙ ap length (items_hidden-the_row-Plan-0 cases)) i) ∷ (row_flat (hidden-the_row-Plan-0 cases) ∙ ap (flat_map items_of) (items_hidden-the_row-Plan-0 cases)) i)

pub at_kill : (x : PlanNext) (kill : Kill) → x ≡ Killed kill → next_items x [] ≡ item.Killed kill.stmt kill.piece kill.after kill.before (length kill.choices) ∷ flat_map of_choice kill.choices
at_kill x kill is =
    ap (λ y. next_items y []) is ∙ ap (λ z. item.Killed kill.stmt kill.piece kill.after kill.before (length kill.choices) ∷ z) (choices_flat kill.choices [] ∙ append-nil (flat_map of_choice kill.choices))

pub feeds_as : (xs ys : List Item) (old new : Stepper) → ys ≡ xs → Feeds xs old new → Feeds ys old new
feeds_as xs ys old new e f = subst (λ (z : List Item). Feeds z old new) (sym e) f

pub proof_fed : (p : Proof) (cs : List Claim) (os : List (ℕ × ℕ)) (ts : List ClaimTree) (old a b c new : Stepper) → cs ≡ p.claims → os ≡ p.outputs → ts ≡ p.trees.items → Feeds (item.Point p.point ∷ of_heads p.heads) old a → Feeds (item.Claims (length cs) ∷ flat_map of_claim cs) a b
    → Feeds (flat_map of_output os) b c → Feeds (flat_map of_tree ts ++ item.End ∷ []) c new → Feeds (lines_of p) old new
proof_fed p cs os ts old a b c new ec eo et f1 f2 f3 f4 =
    let heads = item.Point p.point ∷ of_heads p.heads in
    let claims = item.Claims (length cs) ∷ flat_map of_claim cs in
    let outputs = flat_map of_output os in
    let trees = flat_map of_tree ts ++ item.End ∷ [] in
    feeds_as (((heads ++ claims) ++ outputs) ++ trees) (lines_of p) old new
    (proof_flat p ∙ sym (λ i. ((heads ++ (item.Claims (length (ec i)) ∷ flat_map of_claim (ec i))) ++ flat_map of_output (eo i)) ++ (flat_map of_tree (et i) ++ item.End ∷ [])))
    (feeds_then old c new ((heads ++ claims) ++ outputs) trees (feeds_then old b c (heads ++ claims) outputs (feeds_then old a b heads claims f1 f2) f3) f4)

-- the state behind the lines of a proof
pub whole_state : (g : Pairing) (outputs : List ℕ) (p : Proof) (old new : Stepper) → state_of old ≡ Some beginning → pairing old.programs ≡ g → old.outputs.now ≡ outputs → Feeds (lines_of p) old new → state_of new ≡ Some (after_all g outputs (lines_of p) beginning)
whole_state g outputs p old new e eg eo f = sym (fed_none (pairing new.programs) new.outputs.now (state_of new)) ∙ f.state ∙ (λ i. fed_by (eg i) (eo i) (lines_of p) (e i))

verdict_ok : (f : Fault) (os xs : List ℕ) → verdict_by f os ≡ Ok xs → (f ≡ None) × (os ≡ xs)
verdict_ok None os xs e = (refl, cc)
verdict_ok (Some f) os xs e = absurd cc

verdict_err : (f : Fault) (os : List ℕ) (l : ℕ) (r : Rule) → verdict_by f os ≡ Err (l, r) → (k : ℕ) × (f ≡ Some (k, r)) × (l ≡ capped k)
verdict_err None os l r e = absurd cc
verdict_err (Some f) os l r e =
    let i : (capped f.0, f.1) ≡ (l, r) = cc in
    let line : capped f.0 ≡ l = ap (λ (z : ℕ × Rule). z.0) i in
    let rule : f.1 ≡ r = ap (λ (z : ℕ × Rule). z.1) i in
    (f.0, ap (λ (z : Rule). Some (f.0, z)) rule, sym line)

pub ok_answer : (g : Pairing) (outputs : List ℕ) (p : Proof) (o : Option State) (xs : List ℕ) → AreSpelledTrees p.trees.items → IsBehind g outputs p o → HasAnswer o xs → IsVerdict g outputs p xs
ok_answer g outputs p o xs u e h =
    let a = subst (λ (z : Option State). HasAnswer z xs) e h in
    let v = verdict_ok (proof_fault g outputs p) (map (λ o. o.0) p.outputs) xs (sym (lines_drive_the_proof g outputs p u) ∙ a) in
    (v.0, sym v.1)

pub fault_answer : (g : Pairing) (outputs : List ℕ) (p : Proof) (o : Option State) (x : ProofFault) → AreSpelledTrees p.trees.items → IsBehind g outputs p o → HasRefusal o x → IsFirstFault (proof_fault g outputs p) x
fault_answer g outputs p o (Memory want) u e h = tt
fault_answer g outputs p o (Refused line r) u e h =
    let a = subst (λ (z : Option State). HasRefusal z (Refused line r)) e h in
    verdict_err (proof_fault g outputs p) (map (λ o. o.0) p.outputs) line r (sym (lines_drive_the_proof g outputs p u) ∙ a)

same_arrays : (pair : Pair) (os : List (ℕ × ℕ)) → AllByRecursion (λ (o : ℕ × ℕ). SameOutput pair o.0) os → AllByRecursion (SameOutput pair) (map (λ o. o.0) os)
same_arrays pair [] h = tt
same_arrays pair (o ∷ os) h = (h.0, same_arrays pair os h.1)

pub same_outputs : (pair : Pair) (left right : Model) (p : Proof) (xs : List ℕ) → ArePaired pair → AreModels pair left right → ClaimsHaveModuli p → IsVerdict (pairing_of pair left right) pair.outputs p xs → AllByRecursion (SameOutput pair) xs
same_outputs pair left right p xs t a m v = subst (AllByRecursion (SameOutput pair)) (sym v.1) (same_arrays pair p.outputs (valid_proofs_name_same_outputs pair left right p t a m v.0))
