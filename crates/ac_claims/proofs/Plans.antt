-- A plan without fault is good: each pair of spots at a point of its path is covered.
use Rattle.std.proofs.Common.{◌≡◌, ℕ, zero, suc, ◌+◌, ◌<◌, ◌≤◌, ◌&&◌, inl, inr, int_le, nat_le, ℤ, pos, negsuc, ◌≤ℤ◌, List, [], ◌∷◌, ◌++◌, length, Bool, true, false, cond, Option, Some, None, refl, sym, ap, ◌∙◌, subst, arith}
use Rattle.std.specs.Prelude.{slice_get, nat_eq, option_and_then, ◌<ℤ◌}
use Rattle.std.specs.Ordering.{int_eq}
use Rattle.std.proofs.lemmas.Bool.{eqb-true}
use Rattle.std.proofs.lemmas.Bool.Decides.{Decides-int_eq}
use Rattle.std.proofs.lemmas.Int.{ints}
use Rattle.ac_forms.specs.Affine.{Affine, value_at}
use Rattle.ac_forms.specs.Rows.{Meets, HaveModuli, IsWellMade}
use Rattle.ac_forms.specs.declared.conj.Conj.{Conj}
use Rattle.ac_forms.specs.declared.row.Row.{Row}
use Rattle.ac_forms.proofs.Joining.{both_of}
use Rattle.ac_forms.proofs.Passes.{moduli_of}
use Rattle.ac_syntax.specs.Index.{index_value}
use Rattle.ac_syntax.specs.Spot.{Spot, AtStart}
use Rattle.ac_syntax.specs.declared.tree.Order.{Order}
use Rattle.ac_syntax.specs.declared.tree.Order.TheVariants.{Keep, Swap}
use Rattle.ac_syntax.specs.declared.tree.Position.{Position}
use Rattle.ac_syntax.specs.declared.tree.Position.TheVariants.{Output, Node, InitialOutput, InitialNode}
use Rattle.ac_poly.specs.ModelMeaning.{values_at}
use Rattle.ac_cert.specs.AbsurdLaw.{absurd_sound}
use Rattle.ac_cert.specs.AbsurdEnd.{absurd_refusal}
use Rattle.ac_cert.specs.CertificateFaults.{Fault, split_fault, step_fault}
use Rattle.ac_omega_steps.specs.IntegerPoints.{IsPoint}
use Rattle.ac_base.proofs.Options.{map-some}
use Rattle.ac_cert.specs.Rules.{side_rows, with_row, after_step, rule_of, both_sides, class, is_partition, has_class}
use Rattle.ac_cert.specs.declared.types.Rule.{Rule}
use Rattle.ac_cert.specs.declared.types.Rule.TheVariants as rule
use Rattle.ac_cert.specs.declared.types.Step.{Step}
use Rattle.ac_cert.proofs.Behind.{step-onto}
use Rattle.ac_cert.proofs.Soundness.{first-none, no-refusal}
use Rattle.ac_cert.proofs.StepRules.{step-keeps, sides-keep, class-over, class-some}
use Rattle.ac_base.proofs.Truths.{and-true, le-true}
use Rattle.ac_poly.specs.Model.{is_input}
use Rattle.ac_forms.specs.Renaming.{picked, rows_renaming}
use Rattle.ac_claims_paths.specs.PathColumns.{base, columns_of, equal_forms}
use Rattle.ac_claims.specs.ProofEnds.{same_position, is_hit, equal_numbers, is_number, equal_cells, is_initial}
use Rattle.ac_claims_paths.specs.Executions.{At}
use Rattle.ac_claims_paths.specs.PathSteps.{at_rows, branches, branches_by, branches_of_calls, read_branches, by_keep}
use Rattle.ac_claims_paths.specs.CopyKills.{copy_of, case_width, chosen, all_chosen, is_killed}
use Rattle.ac_claims_paths.specs.ModelPositions.{CallAt, cell_read, call_at, number_at, initial_cell}
use Rattle.ac_claims_paths.specs.declared.places.CellForms.{CellForms}
use Rattle.ac_claims.specs.PlanFaults.{steps_fault, fault_unless, choices_fault, kill_fault, go_fault, count_of, line_count, next_fault, classes_fault, cases_fault, plan_fault}
use Rattle.ac_claims_paths.specs.PathRows.{made_and_stand}
use Rattle.ac_omega_steps.specs.declared.choose.Choice.{Choice}
use Rattle.ac_claims_paths.specs.declared.path.Assumed.{Assumed}
use Rattle.ac_claims_paths.specs.declared.path.Path.{Path}
use Rattle.ac_claims_paths.specs.declared.path.Side.TheVariants.{Left, Right}
use Rattle.ac_claims.specs.declared.types.Claim.{Claim}
use Rattle.ac_claims.specs.declared.types.Kill.{Kill}
use Rattle.ac_claims.specs.declared.types.Plan.{Plan}
use Rattle.ac_claims.specs.declared.types.PlanNext.{PlanNext, Split', Residue', Go', Row_of-Plan, end_of-Plan, more_of-Plan}
use Rattle.ac_claims.specs.declared.types.PlanNext.TheVariants.{Absurd, Killed, Hit, SameNumber, SameInitial}
use Rattle.ac_claims.proofs.Claimed.{Setting, runs_of, Claimed, Good, EachGood, left_good, right_good, calls_good, at_spots}
use Rattle.ac_claims.proofs.Covered.{Covered, hit, numbers, one_input}
use Rattle.ac_claims_paths.proofs.Moving.{InColumns, rows-value, rows-within, equal-values, equal-within}
use Rattle.ac_forms.proofs.Standings.{all-hold}
use Rattle.ac_claims_paths.proofs.OnPaths.{moduli_in, InPath, OnPath, in_more, on_more, on_rows, in-append, seat_columns, base_columns}
use Rattle.ac_claims_paths.proofs.Heres.{cell_with, number_at_spot, initial_here}
use Rattle.ac_forms.specs.ListMembers.{IsAmong}
use Rattle.ac_claims_paths.proofs.ReadSteps.{picks_one, picks_two}
use Rattle.ac_claims_paths.proofs.InBranches.{in_branches}
use Rattle.ac_claims_paths.proofs.CallSteps.{calls_in}
use Rattle.ac_claims_paths.proofs.Kills.{killed_empty}

pub unless_none : (b : Bool) (k : ℕ) (r : Rule) → fault_unless b k r ≡ None → b ≡ true
unless_none true k r e = refl
unless_none false k r e = absurd cc

-- steps
steps_good : (g : Setting) (ss : List Step) (F : Conj → ℕ → Fault) (h : Path) (c : Conj) (k : ℕ) → InPath g.on (at_rows h c) → steps_fault ss F c k ≡ None
    → ((d : Conj) (j : ℕ) → F d j ≡ None → InPath g.on (at_rows h d) → Good g (at_rows h d)) → Good g (at_rows h c)
steps_good g [] F h c k i e on = on c k e i
steps_good g (s ∷ ss) F h c k i e on = by (after_step s c) refl e (λ d j f i'. steps_good g ss F h d j i' f on)
  where
    by : (o : Option Conj) → after_step s c ≡ o → step_fault o (rule_of s) k (λ d. steps_fault ss F d (k + 1)) ≡ None
        → ((d : Conj) (j : ℕ) → steps_fault ss F d j ≡ None → InPath g.on (at_rows h d) → Good g (at_rows h d)) → Good g (at_rows h c)
    by None q f next = absurd cc
    by (Some d) q f next =
        let kept = step-keeps s c d q i.made in
        let wide = (step-onto s c d q).columns in
        λ p u v a.
        let x = kept.goes_on p a.point in
        next d (k + 1) f (in_more g.on (at_rows h c) d i kept.made wide) x.0 u v (on_more g.on (at_rows h c) d p x.0 u v i a x.1 x.2)

split_good : (g : Setting) (h : Path) (o : Option (Conj × Conj)) (f : Affine) (k : ℕ) (L R : Conj → Fault) → InPath g.on h → both_sides f h.conj ≡ o → split_fault o k L R ≡ None
    → ((c : Conj) → L c ≡ None → InPath g.on (at_rows h c) → Good g (at_rows h c)) → ((c : Conj) → R c ≡ None → InPath g.on (at_rows h c) → Good g (at_rows h c)) → Good g h
split_good g h None f k L R i e n left right = absurd cc
split_good g h (Some (a, b)) f k L R i e n left right =
    let t = first-none (L a) (R b) n in
    let s = sides-keep f h.conj a b e i.made in
    let o = map-some (side_rows f h.conj.columns) (λ s. (with_row h.conj s.0, with_row h.conj s.1)) (a, b) e in
    let ea : a.columns ≡ h.conj.columns = ap (λ (x : Conj × Conj). x.0.columns) o.2 in
    let eb : b.columns ≡ h.conj.columns = ap (λ (x : Conj × Conj). x.1.columns) o.2 in
    let ca : h.conj.columns ≤ a.columns = omega (arith, ea) in
    let cb : h.conj.columns ≤ b.columns = omega (arith, eb) in
    λ p u v at. elim (s.2 p at.point) as (λ x. Covered (runs_of g) (Claimed g) h.gone u v) [
      | inl x ↦ left a t.0 (in_more g.on h a i s.0 ca) p u v (on_rows g.on h a p u v at x)
      | inr x ↦ right b t.1 (in_more g.on h b i s.1 cb) p u v (on_rows g.on h b p u v at x)
    ]

-- the parts of a residue branch that stands
pub partition_parts : (m : ℤ) (f : Affine) (columns count : ℕ) → is_partition m f columns count ≡ true → (m ≡ pos count) × (pos 1 ≤ℤ m) × (nat_le (length f.coefs) columns ≡ true)
unfolding is_partition has_class
partition_parts m f columns count e =
    let a = and-true (int_eq m (pos count)) _ e in
    let b = and-true (int_le (pos 1) m) _ a.1 in
    let c = and-true (nat_le (length f.coefs) columns) _ b.1 in
    ((Decides-int_eq m (pos count)).0 a.0, le-true (pos 1) m b.0, c.0)

-- a class of a residue branch
class_in : (g : Setting) (h : Path) (m : ℤ) (f : Affine) (r : ℤ) → InPath g.on h → pos 1 ≤ℤ m → nat_le (length f.coefs) h.conj.columns ≡ true → InPath g.on (at_rows h (class m f r h.conj))
class_in g h m f r i l w = in_more g.on h (class m f r h.conj) i (class-over m f r h.conj l w i.made) (omega arith)

classes_good : (g : Setting) (h : Path) (m : ℤ) (f : Affine) (count : ℕ) → InPath g.on h → is_partition m f h.conj.columns count ≡ true → ((r : ℕ) → r < count → Good g (at_rows h (class m f (pos r) h.conj))) → Good g h
classes_good g h m f count i e good p u v a =
    let t = partition_parts m f h.conj.columns count e in
    let s = class-some m f h.conj t.1 p a.point in
    by s.0 s.1 s.2 s.3 t.0
  where
    by : (z : ℤ) → pos 0 ≤ℤ z → z <ℤ m → IsPoint (class m f z h.conj) p → m ≡ pos count → Covered (runs_of g) (Claimed g) h.gone u v
    by (pos r) l k at q = good r (omega (arith, ints, k, q)) p u v (on_rows g.on h (class m f (pos r) h.conj) p u v a at)
    by (negsuc r) l k at q = absurd (omega (arith, ints, l))

pub none_if : (b : Bool) (o : Fault) (x : ℕ × Rule) → cond b o (Some x) ≡ None → (b ≡ true) × (o ≡ None)
none_if true o x e = (refl, e)
none_if false o x e = absurd cc

-- the rows that are to stand hold at each point
stand_hold : (g : Setting) (h : Path) (o : Option (List Row)) → IsWellMade h.conj → made_and_stand h.conj.rows o ≡ true → (rows : List Row) × (o ≡ Some rows) × (HaveModuli rows → (p : List ℤ) → IsPoint h.conj p → Meets rows p)
stand_hold g h None w e = absurd cc
stand_hold g h (Some rows) w e = (rows, refl, λ k p at. all-hold h.conj.rows rows p e (moduli_of h.conj.columns h.conj.rows w) k at.meets)

pub position_is : (P Q : Position) → same_position P Q ≡ true → P ≡ Q
position_is (Output o) (Output p) e = ap Output (eqb-true o p e)
position_is (Output o) (Node s k) e = absurd cc
position_is (Output o) (InitialOutput p) e = absurd cc
position_is (Output o) (InitialNode s k) e = absurd cc
position_is (Node s k) (Output p) e = absurd cc
position_is (Node s k) (Node t l) e = let b = both_of (nat_eq s t) (nat_eq k l) e in let x = eqb-true s t b.0 in let y = eqb-true k l b.1 in λ i. Node (x i) (y i)
position_is (Node s k) (InitialOutput p) e = absurd cc
position_is (Node s k) (InitialNode t l) e = absurd cc
position_is (InitialOutput o) (Output p) e = absurd cc
position_is (InitialOutput o) (Node s k) e = absurd cc
position_is (InitialOutput o) (InitialOutput p) e = ap InitialOutput (eqb-true o p e)
position_is (InitialOutput o) (InitialNode s k) e = absurd cc
position_is (InitialNode s k) (Output p) e = absurd cc
position_is (InitialNode s k) (Node t l) e = absurd cc
position_is (InitialNode s k) (InitialOutput p) e = absurd cc
position_is (InitialNode s k) (InitialNode t l) e = let b = both_of (nat_eq s t) (nat_eq k l) e in let x = eqb-true s t b.0 in let y = eqb-true k l b.1 in λ i. InitialNode (x i) (y i)

-- the columns of the parameters and of both positions are there
left_columns : (g : Setting) (h : Path) → InPath g.on h → InColumns (base g.on.pairing.params ++ columns_of h.left) h.conj.columns
left_columns g h i = in-append (base g.on.pairing.params) (columns_of h.left) h.conj.columns (base_columns g.on.pairing.params h.conj.columns i.base_in) (seat_columns h.left h.conj.columns i.left_in)

right_columns : (g : Setting) (h : Path) → InPath g.on h → InColumns (base g.on.pairing.params ++ columns_of h.right) h.conj.columns
right_columns g h i = in-append (base g.on.pairing.params) (columns_of h.right) h.conj.columns (base_columns g.on.pairing.params h.conj.columns i.base_in) (seat_columns h.right h.conj.columns i.right_in)

both_columns : (g : Setting) (h : Path) → InPath g.on h → InColumns (base g.on.pairing.params ++ (columns_of h.left ++ columns_of h.right)) h.conj.columns
both_columns g h i = in-append (base g.on.pairing.params) (columns_of h.left ++ columns_of h.right) h.conj.columns (base_columns g.on.pairing.params h.conj.columns i.base_in)
    (in-append (columns_of h.left) (columns_of h.right) h.conj.columns (seat_columns h.left h.conj.columns i.left_in) (seat_columns h.right h.conj.columns i.right_in))

-- a hit: the claim is claimed of the present pair, and a step was taken
hit_good : (g : Setting) (h : Path) (c : ℕ) → InPath g.on h → is_hit g.on.pairing h (slice_get g.claims c) ≡ true → Good g h
hit_good g h c i e = by (slice_get g.claims c) refl e
  where
    by : (o : Option Claim) → slice_get g.claims c ≡ o → is_hit g.on.pairing h o ≡ true → Good g h
    by None q e = absurd cc
    by (Some d) q e = λ p s t a.
        let ks = base g.on.pairing.params ++ (columns_of h.left ++ columns_of h.right) in
        let b = both_of h.gone (same_position h.left.position d.left && (same_position h.right.position d.right && made_and_stand h.conj.rows (rows_renaming ks d.rows))) e in
        let l = both_of (same_position h.left.position d.left) (same_position h.right.position d.right && made_and_stand h.conj.rows (rows_renaming ks d.rows)) b.1 in
        let r = both_of (same_position h.right.position d.right) (made_and_stand h.conj.rows (rows_renaming ks d.rows)) l.1 in
        let st = stand_hold g h (rows_renaming ks d.rows) i.made r.1 in
        let within = rows-within ks d.rows st.0 h.conj.columns (both_columns g h i) (g.moduli c d q) st.1 in
        let m = st.2 (moduli_of h.conj.columns st.0 within) p a.point in
        let x = picked (columns_of h.left) p in
        let y = picked (columns_of h.right) p in
        let on : Meets d.rows (g.on.params ++ (x ++ y)) = subst (Meets d.rows) (picks_two g.on.pairing.params g.on.params h.left h.right p x y a.starts refl refl) ((rows-value ks d.rows st.0 p st.1).0 m) in
        let pl = position_is h.left.position d.left l.0 in
        let pr = position_is h.right.position d.right r.0 in
        subst (λ z. Covered (runs_of g) (Claimed g) z s t) (sym b.0)
        (hit s t (c, d, q, x, y, subst (λ (P : Position). At g.on.left P x s) pl a.left, subst (λ (P : Position). At g.on.right P y t) pr a.right, on))

pub head_same : (x y : ℤ) → x ∷ [] ≡ y ∷ [] → x ≡ y
head_same x y e = cc

number_good : (g : Setting) (h : Path) → InPath g.on h → is_number g.on.pairing h ≡ true → Good g h
number_good g h i e = by (number_at g.on.pairing.left h.left.position) (number_at g.on.pairing.right h.right.position) refl refl e
  where
    by : (o o' : Option Affine) → number_at g.on.pairing.left h.left.position ≡ o → number_at g.on.pairing.right h.right.position ≡ o' → made_and_stand h.conj.rows (equal_numbers g.on.pairing h o o') ≡ true → Good g h
    by None o' q q' e = absurd cc
    by (Some f) None q q' e = absurd cc
    by (Some f) (Some f') q q' e = λ p s t a.
        let ks = base g.on.pairing.params ++ columns_of h.left in
        let ls = base g.on.pairing.params ++ columns_of h.right in
        let st = stand_hold g h (equal_forms ks (f ∷ []) ls (f' ∷ [])) i.made e in
        let within = equal-within ks (f ∷ []) ls (f' ∷ []) st.0 h.conj.columns (left_columns g h i) (right_columns g h i) st.1 in
        let m = st.2 (moduli_of h.conj.columns st.0 within) p a.point in
        let v = (equal-values ks (f ∷ []) ls (f' ∷ []) st.0 p st.1).0 m in
        let w : value_at f (picked ks p) ≡ value_at f' (picked ls p) = head_same _ _ v in
        let x = number_at_spot g.on.pairing.left g.on.params g.on.left g.on.describes_left h.left.position (picked (columns_of h.left) p) f s q a.left in
        let y = number_at_spot g.on.pairing.right g.on.params g.on.right g.on.describes_right h.right.position (picked (columns_of h.right) p) f' t q' a.right in
        let bx = picks_one g.on.pairing.params g.on.params h.left p _ a.starts refl in
        let by' = picks_one g.on.pairing.params g.on.params h.right p _ a.starts refl in
        let same : index_value x.writer.entry.point x.form ≡ index_value y.writer.entry.point y.form = sym x.value ∙ ap (value_at f) (sym bx) ∙ w ∙ ap (value_at f') by' ∙ y.value in
        at_spots g h.gone s t _ _ x.is y.is (numbers h.gone x.writer y.writer x.form y.form same)

initial_good : (g : Setting) (h : Path) → InPath g.on h → is_initial g.on.pairing h ≡ true → Good g h
initial_good g h i e = by (initial_cell g.on.pairing.left h.left.position) (initial_cell g.on.pairing.right h.right.position) refl refl e
  where
    made : (h : Path) (b : Bool) (o : Option (List Row)) → made_and_stand h.conj.rows (cond b o None) ≡ true → (b ≡ true) × (made_and_stand h.conj.rows o ≡ true)
    made h true o e = (refl, e)
    made h false o e = absurd cc

    by : (o o' : Option CellForms) → initial_cell g.on.pairing.left h.left.position ≡ o → initial_cell g.on.pairing.right h.right.position ≡ o' → made_and_stand h.conj.rows (equal_cells g.on.pairing h o o') ≡ true → Good g h
    by None o' q q' e = absurd cc
    by (Some c) None q q' e = absurd cc
    by (Some c) (Some d) q q' e = λ p s t a.
        let ks = base g.on.pairing.params ++ columns_of h.left in
        let ls = base g.on.pairing.params ++ columns_of h.right in
        let b = made h (nat_eq c.array d.array && is_input (slice_get g.on.pairing.left.kinds c.array)) (equal_forms ks c.subs ls d.subs) e in
        let r = both_of (nat_eq c.array d.array) (is_input (slice_get g.on.pairing.left.kinds c.array)) b.0 in
        let st = stand_hold g h (equal_forms ks c.subs ls d.subs) i.made b.1 in
        let within = equal-within ks c.subs ls d.subs st.0 h.conj.columns (left_columns g h i) (right_columns g h i) st.1 in
        let m = st.2 (moduli_of h.conj.columns st.0 within) p a.point in
        let v = (equal-values ks c.subs ls d.subs st.0 p st.1).0 m in
        let bx = picks_one g.on.pairing.params g.on.params h.left p _ a.starts refl in
        let by' = picks_one g.on.pairing.params g.on.params h.right p _ a.starts refl in
        let x = initial_here g.on.pairing.left g.on.params g.on.left g.on.describes_left h.left.position (picked (columns_of h.left) p) c s q a.left in
        let y = initial_here g.on.pairing.right g.on.params g.on.right g.on.describes_right h.right.position (picked (columns_of h.right) p) d t q' a.right in
        let ar : c.array ≡ d.array = eqb-true c.array d.array r.0 in
        let vals : values_at (g.on.params ++ picked (columns_of h.left) p) c.subs ≡ values_at (g.on.params ++ picked (columns_of h.right) p) d.subs = ap (λ z. values_at z c.subs) (sym bx) ∙ v ∙ ap (λ z. values_at z d.subs) by' in
        let same : cell_with g.on.params c (picked (columns_of h.left) p) ≡ cell_with g.on.params d (picked (columns_of h.right) p) = λ j. record { array = ar j; at = vals j } in
        at_spots g h.gone s t _ _ x (y ∙ ap AtStart (sym same)) (one_input h.gone (cell_with g.on.params c (picked (columns_of h.left) p)) (g.on.inputs c.array r.1))

pub step_none : (o : Option Conj) (k : ℕ) (r : Rule) (go : Conj → Fault) → step_fault o r k go ≡ None → (x : Conj) × (o ≡ Some x) × (go x ≡ None)
step_none None k r go e = absurd cc
step_none (Some x) k r go e = (x, refl, e)

-- choices that all stand
pub choices_none : (ps : ℕ) (h : Path) (a : Assumed) (first : ℕ) (xs : List Choice) (c : Conj) (k : ℕ) → choices_fault ps h a first xs c k ≡ None
    → (left : Conj) × (all_chosen h.conj.columns (case_width ps a) xs c ≡ Some left) × (is_killed ps h.conj.rows a left ≡ true)
choices_none ps h a first [] c k e = (c, refl, unless_none (is_killed ps h.conj.rows a c) first rule.Killed e)
choices_none ps h a first (x ∷ xs) c k e =
    let s = step_none (chosen h.conj.columns (case_width ps a) x c) k rule.Killed (λ d. choices_fault ps h a first xs d (k + 1)) e in
    let r = choices_none ps h a first xs s.0 (k + 1) s.2 in
    (r.0, ap (option_and_then (all_chosen h.conj.columns (case_width ps a) xs)) s.1 ∙ r.1, r.2)

-- a killed place has no point
kill_empty : (g : Setting) (h : Path) (o : Option Assumed) (kill : Kill) (k : ℕ) → InPath g.on h → h.last ≡ o → kill_fault g.on.pairing h o kill k ≡ None → (p : List ℤ) (s t : Spot) → OnPath g.on h p s t → ⊥
kill_empty g h None kill k i l e p s t a = absurd cc
kill_empty g h (Some last) kill k i l e p s t a =
    let sn = step_none (copy_of g.on.pairing last kill.stmt kill.piece kill.after kill.before) k rule.Killed (λ c. choices_fault g.on.pairing.params h last k kill.choices c (k + 1)) e in
    let c = choices_none g.on.pairing.params h last k kill.choices sn.0 (k + 1) sn.2 in
    killed_empty g.on h last kill.stmt kill.piece kill.after kill.before kill.choices sn.0 c.0 i l sn.1 c.1 c.2 p s t a

-- a step of the pair
go_good : (g : Setting) (order : Order) (h : Path) (hs : List Path) → InPath g.on h → branches g.on.pairing order h ≡ Some hs → EachGood g hs → Good g h
go_good g order h hs i e good = by (cell_read g.on.pairing.left h.left.position) (cell_read g.on.pairing.right h.right.position) refl refl e
  where
    calls : (o o' : Option CallAt) → call_at g.on.pairing.left h.left.position ≡ o → call_at g.on.pairing.right h.right.position ≡ o' → branches_of_calls g.on.pairing order h o o' ≡ Some hs → Good g h
    calls None o' q q' e = absurd cc
    calls (Some c) None q q' e = absurd cc
    calls (Some c) (Some d) q q' e = calls_good g order h c d hs q q' e good

    keep : (order : Order) (o : Option (List Path)) → by_keep order o ≡ Some hs → o ≡ Some hs
    keep Keep o e = e
    keep Swap o e = absurd cc

    by : (o o' : Option CellForms) → cell_read g.on.pairing.left h.left.position ≡ o → cell_read g.on.pairing.right h.right.position ≡ o' → branches_by g.on.pairing order h o o' ≡ Some hs → Good g h
    by (Some cell) o' q q' e = left_good g h cell hs i q (keep order (read_branches g.on.pairing.params g.on.pairing.left h Left cell) e) good
    by None (Some cell) q q' e = right_good g h cell hs i q' (keep order (read_branches g.on.pairing.params g.on.pairing.right h Right cell) e) good
    by None None q q' e = calls (call_at g.on.pairing.left h.left.position) (call_at g.on.pairing.right h.right.position) refl refl e

go_in : (g : Setting) (order : Order) (h : Path) (hs : List Path) → InPath g.on h → branches g.on.pairing order h ≡ Some hs → (k : Path) → IsAmong k hs → InPath g.on k
go_in g order h hs i e = by (cell_read g.on.pairing.left h.left.position) (cell_read g.on.pairing.right h.right.position) e
  where
    calls : (o o' : Option CallAt) → branches_of_calls g.on.pairing order h o o' ≡ Some hs → (k : Path) → IsAmong k hs → InPath g.on k
    calls None o' e = absurd cc
    calls (Some c) None e = absurd cc
    calls (Some c) (Some d) e = calls_in g.on order h c d hs i e

    keep : (order : Order) (o : Option (List Path)) → by_keep order o ≡ Some hs → o ≡ Some hs
    keep Keep o e = e
    keep Swap o e = absurd cc

    by : (o o' : Option CellForms) → branches_by g.on.pairing order h o o' ≡ Some hs → (k : Path) → IsAmong k hs → InPath g.on k
    by (Some cell) o' e = in_branches g.on.pairing (moduli_in g.on) h Left cell hs i (keep order (read_branches g.on.pairing.params g.on.pairing.left h Left cell) e)
    by None (Some cell) e = in_branches g.on.pairing (moduli_in g.on) h Right cell hs i (keep order (read_branches g.on.pairing.params g.on.pairing.right h Right cell) e)
    by None None e = calls (call_at g.on.pairing.left h.left.position) (call_at g.on.pairing.right h.right.position) e

go_parts : (o : Option (List Path)) (count k : ℕ) (F : List Path → Fault) → go_fault o count k F ≡ None → (hs : List Path) × (o ≡ Some hs) × (count ≡ length hs) × (F hs ≡ None)
go_parts None count k F e = absurd cc
go_parts (Some hs) count k F e = let b = none_if (nat_eq count (length hs)) (F hs) (k, rule.Go) e in (hs, refl, eqb-true count (length hs) b.0, b.1)

module _ (g : Setting) where
  -- a plan behind its steps
  abbrev IsGood : PlanNext → Type 0
  IsGood x = (h : Path) (k : ℕ) → InPath g.on h → next_fault g.on.pairing g.claims x h k ≡ None → Good g h

  behind : (ss : List Step) (x : PlanNext) → IsGood x → (h : Path) (k : ℕ) → InPath g.on h → steps_fault ss (λ c. next_fault g.on.pairing g.claims x (at_rows h c)) h.conj k ≡ None → Good g h
  behind ss x good h k i e = steps_good g ss (λ c. next_fault g.on.pairing g.claims x (at_rows h c)) h h.conj k i e (λ d j f i'. good (at_rows h d) j i' f)

  mutual
    pub next_good : (x : PlanNext) → IsGood x
    next_good (Split' f p s l q t r) h k i e =
        split_good g h (both_sides f h.conj) f k (λ a. steps_fault s (λ c. next_fault g.on.pairing g.claims l (at_rows h c)) a (k + 1)) (λ b. steps_fault t (λ c. next_fault g.on.pairing g.claims r (at_rows h c)) b (k + 1 + (length s + line_count l))) i refl e
        (λ c f i'. behind s l (next_good l) (at_rows h c) (k + 1) i' f) (λ c f i'. behind t r (next_good r) (at_rows h c) (k + 1 + (length s + line_count l)) i' f)
    next_good (Residue' m f shape all) h k i e =
        let b = none_if (is_partition m f h.conj.columns (count_of all)) (classes_fault g.on.pairing g.claims all m f 0 h (k + 1)) (k, rule.Residue) e in
        let t = partition_parts m f h.conj.columns (count_of all) b.0 in
        classes_good g h m f (count_of all) i b.0 (λ r l. let z : 0 + r ≡ r = omega arith in subst (λ j. Good g (at_rows h (class m f (pos j) h.conj))) z (row_good all m f 0 h (k + 1) i t.1 t.2 b.1 r l))
    next_good (Go' order shape all) h k i e =
        let b = go_parts (branches g.on.pairing order h) (count_of all) k (λ hs. cases_fault g.on.pairing g.claims all hs (k + 1)) e in
        go_good g order h b.0 i b.1 (λ c n. cases_good all b.0 (k + 1) (go_in g order h b.0 i b.1) b.2 b.3 c n)
    next_good (Absurd j) h k i e = λ p s t a. absurd (absurd_sound j h.conj p (no-refusal (absurd_refusal j h.conj) k e) a.point)
    next_good (Killed kill) h k i e = λ p s t a. absurd (kill_empty g h h.last kill k i refl e p s t a)
    next_good (Hit c) h k i e = hit_good g h c i (unless_none (is_hit g.on.pairing h (slice_get g.claims c)) k rule.Hit e)
    next_good SameNumber h k i e = number_good g h i (unless_none (is_number g.on.pairing h) k rule.Number e)
    next_good SameInitial h k i e = initial_good g h i (unless_none (is_initial g.on.pairing h) k rule.Initial e)

    row_good : {w : _} (all : Row_of-Plan w) (m : ℤ) (f : Affine) (first : ℕ) (h : Path) (k : ℕ) → InPath g.on h → pos 1 ≤ℤ m → nat_le (length f.coefs) h.conj.columns ≡ true → classes_fault g.on.pairing g.claims all m f first h k ≡ None
        → (r : ℕ) → r < count_of all → Good g (at_rows h (class m f (pos (first + r)) h.conj))
    row_good end_of-Plan m f first h k i l w e r lt = absurd (omega (arith, lt))
    row_good (more_of-Plan s t rest) m f first h k i l w e zero lt =
        let n = first-none (steps_fault s (λ c. next_fault g.on.pairing g.claims t (at_rows h c)) (class m f (pos first) h.conj) k) (classes_fault g.on.pairing g.claims rest m f (first + 1) h (k + (length s + line_count t))) e in
        let z : first ≡ first + 0 = omega arith in
        subst (λ j. Good g (at_rows h (class m f (pos j) h.conj))) z (behind s t (next_good t) (at_rows h (class m f (pos first) h.conj)) k (class_in g h m f (pos first) i l w) n.0)
    row_good (more_of-Plan s t rest) m f first h k i l w e (suc r) lt =
        let n = first-none (steps_fault s (λ c. next_fault g.on.pairing g.claims t (at_rows h c)) (class m f (pos first) h.conj) k) (classes_fault g.on.pairing g.claims rest m f (first + 1) h (k + (length s + line_count t))) e in
        let z : first + 1 + r ≡ first + suc r = omega arith in
        subst (λ j. Good g (at_rows h (class m f (pos j) h.conj))) z (row_good rest m f (first + 1) h (k + (length s + line_count t)) i l w n.1 r (omega (arith, lt)))

    cases_good : {w : _} (all : Row_of-Plan w) (hs : List Path) (k : ℕ) → ((c : Path) → IsAmong c hs → InPath g.on c) → count_of all ≡ length hs → cases_fault g.on.pairing g.claims all hs k ≡ None → EachGood g hs
    cases_good end_of-Plan [] k i n e c m = absurd m
    cases_good end_of-Plan (h ∷ hs) k i n e c m = absurd (omega (arith, n))
    cases_good (more_of-Plan s t rest) [] k i n e c m = absurd m
    cases_good (more_of-Plan s t rest) (h ∷ hs) k i n e c (inl q) =
        let f = first-none (steps_fault s (λ c. next_fault g.on.pairing g.claims t (at_rows h c)) h.conj k) (cases_fault g.on.pairing g.claims rest hs (k + (length s + line_count t))) e in
        subst (λ (y : Path). Good g y) (sym q) (behind s t (next_good t) h k (i h (inl refl)) f.0)
    cases_good (more_of-Plan s t rest) (h ∷ hs) k i n e c (inr m) =
        let f = first-none (steps_fault s (λ c. next_fault g.on.pairing g.claims t (at_rows h c)) h.conj k) (cases_fault g.on.pairing g.claims rest hs (k + (length s + line_count t))) e in
        cases_good rest hs (k + (length s + line_count t)) (λ d o. i d (inr o)) (omega (arith, n)) f.1 c m

-- a plan in which no line fails covers each pair of spots at a point of its path
pub plan_good : (g : Setting) (t : Plan) (h : Path) (k : ℕ) → InPath g.on h → plan_fault g.on.pairing g.claims t h k ≡ None → Good g h
plan_good g t h k i e = steps_good g t.steps (λ c. next_fault g.on.pairing g.claims t.next (at_rows h c)) h h.conj k i e (λ d j f i'. next_good g t.next (at_rows h d) j i' f)
