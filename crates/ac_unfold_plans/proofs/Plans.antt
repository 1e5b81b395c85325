-- A plan that no line fails and that stops handles each pair at a point of its path.
use Rattle.std.proofs.Common.{◌≡◌, ◌⊎◌, inl, inr, ℕ, zero, suc, ◌+◌, ◌<◌, ◌≤◌, ◌&&◌, nat_le, ℤ, pos, negsuc, ◌≤ℤ◌, List, [], ◌∷◌, ◌++◌, length, Bool, true, false, cond, Option, Some, None, refl, sym, ap, ◌∙◌, subst, arith}
use Rattle.std.specs.Prelude.{slice_get, nat_eq, int_le, option_and_then, ◌<ℤ◌}
use Rattle.std.specs.Ordering.{int_eq}
use Rattle.std.proofs.lemmas.Bool.{eqb-true}
use Rattle.std.proofs.lemmas.Bool.Decides.{Decides-int_eq}
use Rattle.std.proofs.lemmas.Int.{ints}
use Rattle.ac_forms.specs.Affine.{Affine, value_at}
use Rattle.ac_forms.specs.Renaming.{picked, rows_renaming}
use Rattle.ac_forms.specs.Rows.{Meets, HaveModuli, IsWellMade}
use Rattle.ac_forms.specs.declared.conj.Conj.{Conj}
use Rattle.ac_forms.specs.declared.row.Row.{Row}
use Rattle.ac_forms.proofs.Joining.{both_of}
use Rattle.ac_forms.proofs.Passes.{moduli_of}
use Rattle.ac_forms.proofs.Standings.{all-hold}
use Rattle.ac_syntax.specs.Index.{index_value}
use Rattle.ac_syntax.specs.Spot.{Spot, AtStart}
use Rattle.ac_syntax.specs.declared.tree.Order.{Order}
use Rattle.ac_syntax.specs.declared.tree.Pair.{Pair}
use Rattle.ac_syntax.specs.declared.tree.Position.{Position}
use Rattle.ac_poly.specs.ModelMeaning.{values_at}
use Rattle.ac_poly.specs.Model.{is_input}
use Rattle.ac_cert.specs.AcceptedTrees.{after_steps}
use Rattle.ac_cert.specs.AbsurdLaw.{absurd_sound}
use Rattle.ac_cert.specs.AbsurdEnd.{absurd_refusal}
use Rattle.ac_cert.specs.CertificateFaults.{Fault, split_fault, step_fault}
use Rattle.ac_omega_steps.specs.IntegerPoints.{IsPoint}
use Rattle.ac_cert.specs.PointExtension.{Extends}
use Rattle.ac_cert.specs.Rules.{side_rows, with_row, after_step, rule_of, both_sides, class, is_partition, has_class}
use Rattle.ac_omega_steps.specs.declared.choose.Choice.{Choice}
use Rattle.ac_cert.specs.declared.types.Rule.{Rule}
use Rattle.ac_cert.specs.declared.types.Rule.TheVariants as rule
use Rattle.ac_cert.specs.declared.types.Step.{Step}
use Rattle.ac_cert.proofs.Behind.{step-onto}
use Rattle.ac_base.proofs.Options.{map-some}
use Rattle.ac_cert.proofs.Soundness.{first-none, no-refusal}
use Rattle.ac_cert.proofs.StepRules.{step-keeps, sides-keep, class-over, class-some}
use Rattle.ac_base.proofs.Truths.{and-true, le-true}
use Rattle.ac_claims_paths.specs.PathColumns.{base, columns_of, equal_forms}
use Rattle.ac_claims_paths.specs.PathSteps.{at_rows, branches}
use Rattle.ac_claims_paths.specs.CopyKills.{copy_of, case_width, chosen, all_chosen, is_killed}
use Rattle.ac_claims_paths.specs.OnPaths.{Compared, OnPath}
use Rattle.ac_forms.specs.ListMembers.{IsAmong}
use Rattle.ac_claims_paths.specs.Pairs.{StepsTo}
use Rattle.ac_claims_paths.specs.ModelPositions.{number_at, initial_cell}
use Rattle.ac_claims_paths.specs.PathRows.{made_and_stand}
use Rattle.ac_claims_paths.specs.declared.path.Assumed.{Assumed}
use Rattle.ac_claims_paths.specs.declared.path.Path.{Path}
use Rattle.ac_claims_paths.specs.declared.places.CellForms.{CellForms}
use Rattle.ac_claims_paths.proofs.Heres.{cell_with, number_at_spot, initial_here}
use Rattle.ac_claims_paths.proofs.Kills.{killed_empty}
use Rattle.ac_claims_paths.proofs.Moving.{InColumns, rows-value, rows-within, equal-values, equal-within}
use Rattle.ac_claims_paths.proofs.OnPaths.{InPath, in_more, on_more, on_rows, in-append, seat_columns, base_columns, pick_more}
use Rattle.ac_claims_paths.proofs.ReadSteps.{picks_one, picks_two}
use Rattle.ac_claims_paths.proofs.Stepping.{steps_are_branches}
use Rattle.ac_claims.specs.ProofEnds.{same_position, is_hit, equal_numbers, is_number, equal_cells, is_initial}
use Rattle.ac_claims.specs.PlanFaults.{steps_fault, choices_fault, kill_fault, go_fault, count_of, line_count, next_fault, classes_fault, cases_fault, plan_fault}
use Rattle.ac_claims.specs.declared.types.Claim.{Claim}
use Rattle.ac_claims.specs.declared.types.Kill.{Kill}
use Rattle.ac_claims.specs.declared.types.Plan.{Plan}
use Rattle.ac_claims.specs.declared.types.PlanNext.{PlanNext, Split', Residue', Go', Row_of-Plan, end_of-Plan, more_of-Plan}
use Rattle.ac_claims.specs.declared.types.PlanNext.TheVariants.{Absurd, Killed, Hit, SameNumber, SameInitial}
use Rattle.ac_claims.proofs.Plans.{position_is, unless_none, none_if, partition_parts, step_none, choices_none, head_same}
use Rattle.ac_graph.specs.GraphMeaning.{IsCompared, comparison}
use Rattle.ac_widen_programs.specs.PairSetting.{order_at, setting}
use Rattle.ac_unfold_plans.specs.PlanStops.{positions_at, claim_positions, claim_at, claims_of, MayGoOn, Behind, Stops, ClassesStop, CasesStop, PlanStops}
use Rattle.ac_unfold_plans.proofs.Handled.{Handled, goes, stops, shares}
use Rattle.ac_unfold_plans.proofs.Found.{point_at, step_at, mismatch_at, pair_at, number_rests, start_rests, no_step}
use Rattle.ac_unfold_plans.proofs.Branches.{branches_gone, branches_in, go_apart}
use Rattle.ac_unfold_plans.proofs.Claimed.{IsClaimed, claim_within, claim_is}

-- ---- the parts of a plan's fault

-- the rows that are to stand hold at each point
stand_hold : (h : Path) (o : Option (List Row)) → IsWellMade h.conj → made_and_stand h.conj.rows o ≡ true → (rows : List Row) × (o ≡ Some rows) × (HaveModuli rows → (p : List ℤ) → IsPoint h.conj p → Meets rows p)
stand_hold h None w e = absurd cc
stand_hold h (Some rows) w e = (rows, refl, λ k p at. all-hold h.conj.rows rows p e (moduli_of h.conj.columns h.conj.rows w) k at.meets)

-- a killed place has no point
kill_empty : (g : Compared) (h : Path) (o : Option Assumed) (kill : Kill) (k : ℕ) → InPath g h → h.last ≡ o → kill_fault g.pairing h o kill k ≡ None → (p : List ℤ) (s t : Spot) → OnPath g h p s t → ⊥
kill_empty g h None kill k i l e p s t a = absurd cc
kill_empty g h (Some last) kill k i l e p s t a =
    let sn = step_none (copy_of g.pairing last kill.stmt kill.piece kill.after kill.before) k rule.Killed (λ c. choices_fault g.pairing.params h last k kill.choices c (k + 1)) e in
    let c = choices_none g.pairing.params h last k kill.choices sn.0 (k + 1) sn.2 in
    killed_empty g h last kill.stmt kill.piece kill.after kill.before kill.choices sn.0 c.0 i l sn.1 c.1 c.2 p s t a

go_parts : (o : Option (List Path)) (count k : ℕ) (F : List Path → Fault) → go_fault o count k F ≡ None → (hs : List Path) × (o ≡ Some hs) × (count ≡ length hs) × (F hs ≡ None)
go_parts None count k F e = absurd cc
go_parts (Some hs) count k F e = let b = none_if (nat_eq count (length hs)) (F hs) (k, rule.Go) e in (hs, refl, eqb-true count (length hs) b.0, b.1)

-- the columns of the parameters and of both positions are there
left_columns : (g : Compared) (h : Path) → InPath g h → InColumns (base g.pairing.params ++ columns_of h.left) h.conj.columns
left_columns g h i = in-append (base g.pairing.params) (columns_of h.left) h.conj.columns (base_columns g.pairing.params h.conj.columns i.base_in) (seat_columns h.left h.conj.columns i.left_in)

right_columns : (g : Compared) (h : Path) → InPath g h → InColumns (base g.pairing.params ++ columns_of h.right) h.conj.columns
right_columns g h i = in-append (base g.pairing.params) (columns_of h.right) h.conj.columns (base_columns g.pairing.params h.conj.columns i.base_in) (seat_columns h.right h.conj.columns i.right_in)

both_columns : (g : Compared) (h : Path) → InPath g h → InColumns (base g.pairing.params ++ (columns_of h.left ++ columns_of h.right)) h.conj.columns
both_columns g h i = in-append (base g.pairing.params) (columns_of h.left ++ columns_of h.right) h.conj.columns (base_columns g.pairing.params h.conj.columns i.base_in)
    (in-append (columns_of h.left) (columns_of h.right) h.conj.columns (seat_columns h.left h.conj.columns i.left_in) (seat_columns h.right h.conj.columns i.right_in))

two_cases : (b : Bool) → (b ≡ true) ⊎ (b ≡ false)
two_cases true = inl refl
two_cases false = inr refl

-- further columns keep the point of the pair
same_point : (g : Compared) (params : List ℤ) (h : Path) (p q : List ℤ) → InPath g h → length p ≡ h.conj.columns → Extends p q → point_at params h q ≡ point_at params h p
same_point g params h p q i l e =
    let x = ap (picked (columns_of h.left)) e.1 ∙ pick_more (columns_of h.left) p e.0 h.conj.columns l (seat_columns h.left h.conj.columns i.left_in) in
    let y = ap (picked (columns_of h.right)) e.1 ∙ pick_more (columns_of h.right) p e.0 h.conj.columns l (seat_columns h.right h.conj.columns i.right_in) in
    λ j. params ++ (x j ++ y j)

-- ---- plans

module _ (pair : Pair) (outputs : List ℕ) (order : Position × Position → Order) (recurrent : Position × Position → Bool) (template : Position × Position → List Row) (part : ℕ → Bool) (cs : List Claim)
    (alone : (c d : Claim) → IsAmong c (claims_of part 0 cs) → IsAmong d (claims_of part 0 cs) → recurrent (claim_positions c) ≡ true → claim_positions c ≡ claim_positions d → c ≡ d) (moduli : (i : ℕ) (c : Claim) → slice_get cs i ≡ Some c → HaveModuli c.rows)
    (params : List ℤ) (compared : IsCompared pair params) where
  abbrev On : Compared
  On = comparison pair params compared

  abbrev Held : Bool → Position × Position → List ℤ → Type 0
  Held = Handled (setting pair outputs recurrent template) order (claim_at (claims_of part 0 cs)) (IsClaimed pair part cs)

  abbrev Good : Path → Type 0
  Good h = (p : List ℤ) (s t : Spot) → OnPath On h p s t → Held h.gone (positions_at h) (point_at params h p)

  steps_good : (ss : List Step) (F : Conj → ℕ → Fault) (P : Conj → Type 0) (h : Path) (c : Conj) (k : ℕ) → InPath On (at_rows h c) → Behind ss c P → steps_fault ss F c k ≡ None
      → ((d : Conj) (j : ℕ) → P d → F d j ≡ None → InPath On (at_rows h d) → Good (at_rows h d)) → Good (at_rows h c)
  steps_good [] F P h c k i st e on = on c k (st c refl) e i
  steps_good (s ∷ ss) F P h c k i st e on = by (after_step s c) refl e (λ d j z f i'. steps_good ss F P h d j i' z f on)
    where
      by : (o : Option Conj) → after_step s c ≡ o → step_fault o (rule_of s) k (λ d. steps_fault ss F d (k + 1)) ≡ None → ((d : Conj) (j : ℕ) → Behind ss d P → steps_fault ss F d j ≡ None → InPath On (at_rows h d) → Good (at_rows h d)) → Good (at_rows h c)
      by None q f next = absurd cc
      by (Some d) q f next =
          let kept = step-keeps s c d q i.made in
          let wide = (step-onto s c d q).columns in
          let z : Behind ss d P = λ x r. st x (ap (option_and_then (after_steps ss)) q ∙ r) in
          λ p u v a.
          let x = kept.goes_on p a.point in
          subst (Held h.gone (positions_at h)) (same_point On params (at_rows h c) p x.0 i a.point.long x.1) (next d (k + 1) z f (in_more On (at_rows h c) d i kept.made wide) x.0 u v (on_more On (at_rows h c) d p x.0 u v i a x.1 x.2))

  split_good : (h : Path) (o : Option (Conj × Conj)) (f : Affine) (k : ℕ) (L R : Conj → Fault) → InPath On h → both_sides f h.conj ≡ o → split_fault o k L R ≡ None
      → ((c d : Conj) → both_sides f h.conj ≡ Some (c, d) → L c ≡ None → InPath On (at_rows h c) → Good (at_rows h c)) → ((c d : Conj) → both_sides f h.conj ≡ Some (c, d) → R d ≡ None → InPath On (at_rows h d) → Good (at_rows h d)) → Good h
  split_good h None f k L R i e n left right = absurd cc
  split_good h (Some (a, b)) f k L R i e n left right =
      let t = first-none (L a) (R b) n in
      let s = sides-keep f h.conj a b e i.made in
      let o = map-some (side_rows f h.conj.columns) (λ s. (with_row h.conj s.0, with_row h.conj s.1)) (a, b) e in
      let ea : a.columns ≡ h.conj.columns = ap (λ (x : Conj × Conj). x.0.columns) o.2 in
      let eb : b.columns ≡ h.conj.columns = ap (λ (x : Conj × Conj). x.1.columns) o.2 in
      let ca : h.conj.columns ≤ a.columns = omega (arith, ea) in
      let cb : h.conj.columns ≤ b.columns = omega (arith, eb) in
      λ p u v at. elim (s.2 p at.point) as (λ x. Held h.gone (positions_at h) (point_at params h p)) [
        | inl x ↦ left a b e t.0 (in_more On h a i s.0 ca) p u v (on_rows On h a p u v at x)
        | inr x ↦ right a b e t.1 (in_more On h b i s.1 cb) p u v (on_rows On h b p u v at x)
      ]

  class_in : (h : Path) (m : ℤ) (f : Affine) (r : ℤ) → InPath On h → pos 1 ≤ℤ m → nat_le (length f.coefs) h.conj.columns ≡ true → InPath On (at_rows h (class m f r h.conj))
  class_in h m f r i l w = in_more On h (class m f r h.conj) i (class-over m f r h.conj l w i.made) (omega arith)

  classes_good : (h : Path) (m : ℤ) (f : Affine) (count : ℕ) → InPath On h → is_partition m f h.conj.columns count ≡ true → ((r : ℕ) → r < count → Good (at_rows h (class m f (pos r) h.conj))) → Good h
  classes_good h m f count i e good p u v a =
      let t = partition_parts m f h.conj.columns count e in
      let s = class-some m f h.conj t.1 p a.point in
      by s.0 s.1 s.2 s.3 t.0
    where
      by : (z : ℤ) → pos 0 ≤ℤ z → z <ℤ m → IsPoint (class m f z h.conj) p → m ≡ pos count → Held h.gone (positions_at h) (point_at params h p)
      by (pos r) l k at q = good r (omega (arith, ints, k, q)) p u v (on_rows On h (class m f (pos r) h.conj) p u v a at)
      by (negsuc r) l k at q = absurd (omega (arith, ints, l))

  -- a hit: at a recurrence pair the pair meets its claim, elsewhere it takes the claim
  hit_good : (h : Path) (c : ℕ) → InPath On h → part c ≡ true → is_hit On.pairing h (slice_get cs c) ≡ true → Good h
  hit_good h c i within e = by (slice_get cs c) refl e
    where
      by : (o : Option Claim) → slice_get cs c ≡ o → is_hit On.pairing h o ≡ true → Good h
      by None q e = absurd cc
      by (Some d) q e = λ p s t a.
          let ks = base On.pairing.params ++ (columns_of h.left ++ columns_of h.right) in
          let b = both_of h.gone (same_position h.left.position d.left && (same_position h.right.position d.right && made_and_stand h.conj.rows (rows_renaming ks d.rows))) e in
          let l = both_of (same_position h.left.position d.left) (same_position h.right.position d.right && made_and_stand h.conj.rows (rows_renaming ks d.rows)) b.1 in
          let r = both_of (same_position h.right.position d.right) (made_and_stand h.conj.rows (rows_renaming ks d.rows)) l.1 in
          let st = stand_hold h (rows_renaming ks d.rows) i.made r.1 in
          let made = rows-within ks d.rows st.0 h.conj.columns (both_columns On h i) (moduli c d q) st.1 in
          let m = st.2 (moduli_of h.conj.columns st.0 made) p a.point in
          let x = picked (columns_of h.left) p in
          let y = picked (columns_of h.right) p in
          let on : Meets d.rows (point_at params h p) = subst (Meets d.rows) (picks_two On.pairing.params params h.left h.right p x y a.starts refl refl) ((rows-value ks d.rows st.0 p st.1).0 m) in
          let pl = position_is h.left.position d.left l.0 in
          let pr = position_is h.right.position d.right r.0 in
          let key : claim_positions d ≡ positions_at h = λ j. (sym pl j, sym pr j) in
          let at = pair_at pair params compared h p s t a in
          let mine : IsAmong d (claims_of part 0 cs) = claim_within part 0 cs c d q (let z : 0 + c ≡ c = omega arith in ap part z ∙ within) in
          subst (λ z. Held z (positions_at h) (point_at params h p)) (sym b.0)
          (elim (two_cases (recurrent (positions_at h))) [
            | inl rec ↦ stops (positions_at h) (point_at params h p) rec (subst (λ (rows : List Row). Meets rows (point_at params h p))
                (sym (claim_is (claims_of part 0 cs) d (positions_at h) mine key (λ z n k. sym (alone d z mine n (ap recurrent key ∙ rec) (key ∙ sym k))))) on)
            | inr not ↦ shares (positions_at h) (point_at params h p) not (record { number = c; claim = d; is = q; within = within; key_is = key; there = at; meets = on })
          ])

  -- numbers of equal value are a match, and nothing steps from them
  number_good : (h : Path) → InPath On h → MayGoOn recurrent h → is_number On.pairing h ≡ true → Good h
  number_good h i may e = by (number_at On.pairing.left h.left.position) (number_at On.pairing.right h.right.position) refl refl e
    where
      by : (o o' : Option Affine) → number_at On.pairing.left h.left.position ≡ o → number_at On.pairing.right h.right.position ≡ o' → made_and_stand h.conj.rows (equal_numbers On.pairing h o o') ≡ true → Good h
      by None o' q q' e = absurd cc
      by (Some f) None q q' e = absurd cc
      by (Some f) (Some f') q q' e = λ p s t a.
          let ks = base On.pairing.params ++ columns_of h.left in
          let ls = base On.pairing.params ++ columns_of h.right in
          let st = stand_hold h (equal_forms ks (f ∷ []) ls (f' ∷ [])) i.made e in
          let within = equal-within ks (f ∷ []) ls (f' ∷ []) st.0 h.conj.columns (left_columns On h i) (right_columns On h i) st.1 in
          let m = st.2 (moduli_of h.conj.columns st.0 within) p a.point in
          let v = (equal-values ks (f ∷ []) ls (f' ∷ []) st.0 p st.1).0 m in
          let w : value_at f (picked ks p) ≡ value_at f' (picked ls p) = head_same _ _ v in
          let x = number_at_spot On.pairing.left params On.left On.describes_left h.left.position (picked (columns_of h.left) p) f s q a.left in
          let y = number_at_spot On.pairing.right params On.right On.describes_right h.right.position (picked (columns_of h.right) p) f' t q' a.right in
          let bx = picks_one On.pairing.params params h.left p _ a.starts refl in
          let by' = picks_one On.pairing.params params h.right p _ a.starts refl in
          let same : index_value x.writer.entry.point x.form ≡ index_value y.writer.entry.point y.form = sym x.value ∙ ap (value_at f) (sym bx) ∙ w ∙ ap (value_at f') by' ∙ y.value in
          goes h.gone (positions_at h) (point_at params h p) may
          (λ z. let k = mismatch_at pair params compared h p s t a z in
          k.mismatch.apart (inr (inl (record { left = x.writer; right = y.writer; left_form = x.form; right_form = y.form; left_is = k.left_spot ∙ x.is; right_is = k.right_spot ∙ y.is; equal = same }))))
          (λ j r z. let k = step_at pair params compared h p s t a (order (positions_at h)) j r z in
          absurd (no_step pair params compared (order_at pair (positions_at h) (order (positions_at h))) k.a k.a' k.b k.b' (number_rests On.left k.a x.writer x.form (k.left_spot ∙ x.is)) (number_rests On.right k.b y.writer y.form (k.right_spot ∙ y.is)) k.steps))

  -- and so are the initial contents of one cell of an input
  initial_good : (h : Path) → InPath On h → MayGoOn recurrent h → is_initial On.pairing h ≡ true → Good h
  initial_good h i may e = by (initial_cell On.pairing.left h.left.position) (initial_cell On.pairing.right h.right.position) refl refl e
    where
      made : (h : Path) (b : Bool) (o : Option (List Row)) → made_and_stand h.conj.rows (cond b o None) ≡ true → (b ≡ true) × (made_and_stand h.conj.rows o ≡ true)
      made h true o e = (refl, e)
      made h false o e = absurd cc

      by : (o o' : Option CellForms) → initial_cell On.pairing.left h.left.position ≡ o → initial_cell On.pairing.right h.right.position ≡ o' → made_and_stand h.conj.rows (equal_cells On.pairing h o o') ≡ true → Good h
      by None o' q q' e = absurd cc
      by (Some c) None q q' e = absurd cc
      by (Some c) (Some d) q q' e = λ p s t a.
          let ks = base On.pairing.params ++ columns_of h.left in
          let ls = base On.pairing.params ++ columns_of h.right in
          let b = made h (nat_eq c.array d.array && is_input (slice_get On.pairing.left.kinds c.array)) (equal_forms ks c.subs ls d.subs) e in
          let r = both_of (nat_eq c.array d.array) (is_input (slice_get On.pairing.left.kinds c.array)) b.0 in
          let st = stand_hold h (equal_forms ks c.subs ls d.subs) i.made b.1 in
          let within = equal-within ks c.subs ls d.subs st.0 h.conj.columns (left_columns On h i) (right_columns On h i) st.1 in
          let m = st.2 (moduli_of h.conj.columns st.0 within) p a.point in
          let v = (equal-values ks c.subs ls d.subs st.0 p st.1).0 m in
          let bx = picks_one On.pairing.params params h.left p _ a.starts refl in
          let by' = picks_one On.pairing.params params h.right p _ a.starts refl in
          let x = initial_here On.pairing.left params On.left On.describes_left h.left.position (picked (columns_of h.left) p) c s q a.left in
          let y = initial_here On.pairing.right params On.right On.describes_right h.right.position (picked (columns_of h.right) p) d t q' a.right in
          let ar : c.array ≡ d.array = eqb-true c.array d.array r.0 in
          let vals : values_at (params ++ picked (columns_of h.left) p) c.subs ≡ values_at (params ++ picked (columns_of h.right) p) d.subs = ap (λ z. values_at z c.subs) (sym bx) ∙ v ∙ ap (λ z. values_at z d.subs) by' in
          let same : cell_with params c (picked (columns_of h.left) p) ≡ cell_with params d (picked (columns_of h.right) p) = λ j. record { array = ar j; at = vals j } in
          let cell = cell_with params c (picked (columns_of h.left) p) in
          let y' : t ≡ AtStart cell = y ∙ ap AtStart (sym same) in
          goes h.gone (positions_at h) (point_at params h p) may
          (λ z. let k = mismatch_at pair params compared h p s t a z in k.mismatch.apart (inr (inr (cell, On.inputs c.array r.1, k.left_spot ∙ x, k.right_spot ∙ y'))))
          (λ j r z. let k = step_at pair params compared h p s t a (order (positions_at h)) j r z in
          absurd (no_step pair params compared (order_at pair (positions_at h) (order (positions_at h))) k.a k.a' k.b k.b' (start_rests On.left k.a cell (k.left_spot ∙ x)) (start_rests On.right k.b cell (k.right_spot ∙ y')) k.steps))

  held_at : (b b' : Bool) (k k' : Position × Position) (p p' : List ℤ) → b ≡ b' → k ≡ k' → p ≡ p' → Held b k p → Held b' k' p'
  held_at b b' k k' p p' e f g h = subst (λ z. Held z k' p') e (subst (λ z. Held b z p') f (subst (λ z. Held b k z) g h))

  -- a step of the pair
  go_good : (taken : Order) (h : Path) (hs : List Path) → InPath On h → branches On.pairing taken h ≡ Some hs → taken ≡ order_at pair (positions_at h) (order (positions_at h)) → MayGoOn recurrent h → ((k : Path) → IsAmong k hs → Good k) → Good h
  go_good taken h hs i e o may good p s t a =
      goes h.gone (positions_at h) (point_at params h p) may
      (λ z. let k = mismatch_at pair params compared h p s t a z in go_apart pair params compared taken h hs e p k.a k.b k.from k.mismatch)
      (λ j q z.
      let x = step_at pair params compared h p s t a (order (positions_at h)) j q z in
      let y = steps_are_branches On taken h hs i e p x.a x.a' x.b x.b' x.from (subst (λ (w : Order). StepsTo On w x.a x.b x.a' x.b') (sym o) x.steps) in
      let l = y.3.left in
      let r = y.3.right in
      held_at y.0.gone true (positions_at y.0) j (point_at params y.0 (p ++ y.2)) q (branches_gone On.pairing taken h hs e y.0 y.1) (λ n. ((sym l.position_is ∙ x.to.left_is) n, (sym r.position_is ∙ x.to.right_is) n))
      (sym (x.to.point_is ∙ (λ n. params ++ (l.at_is n ++ r.at_is n))))
      (good y.0 y.1 (p ++ y.2) x.a'.spot x.b'.spot y.3.on))

  -- a plan behind its steps
  abbrev IsGood : PlanNext → Type 0
  IsGood x = (h : Path) (k : ℕ) → InPath On h → Stops pair order recurrent part x h → next_fault On.pairing cs x h k ≡ None → Good h

  behind : (ss : List Step) (x : PlanNext) → IsGood x → (h : Path) (k : ℕ) → InPath On h → Behind ss h.conj (λ d. Stops pair order recurrent part x (at_rows h d)) → steps_fault ss (λ c. next_fault On.pairing cs x (at_rows h c)) h.conj k ≡ None → Good h
  behind ss x good h k i st e = steps_good ss (λ c. next_fault On.pairing cs x (at_rows h c)) (λ d. Stops pair order recurrent part x (at_rows h d)) h h.conj k i st e (λ d j z f i'. good (at_rows h d) j i' z f)

  mutual
    next_good : (x : PlanNext) → IsGood x
    next_good (Split' f p s l q t r) h k i st e =
        split_good h (both_sides f h.conj) f k (λ a. steps_fault s (λ c. next_fault On.pairing cs l (at_rows h c)) a (k + 1)) (λ b. steps_fault t (λ c. next_fault On.pairing cs r (at_rows h c)) b (k + 1 + (length s + line_count l))) i refl e
        (λ c d z f i'. behind s l (next_good l) (at_rows h c) (k + 1) i' (st c d z).0 f) (λ c d z f i'. behind t r (next_good r) (at_rows h d) (k + 1 + (length s + line_count l)) i' (st c d z).1 f)
    next_good (Residue' m f shape all) h k i st e =
        let b = none_if (is_partition m f h.conj.columns (count_of all)) (classes_fault On.pairing cs all m f 0 h (k + 1)) (k, rule.Residue) e in
        let t = partition_parts m f h.conj.columns (count_of all) b.0 in
        classes_good h m f (count_of all) i b.0 (λ r l. let z : 0 + r ≡ r = omega arith in subst (λ j. Good (at_rows h (class m f (pos j) h.conj))) z (row_good all m f 0 h (k + 1) i st t.1 t.2 b.1 r l))
    next_good (Go' taken shape all) h k i st e =
        let b = go_parts (branches On.pairing taken h) (count_of all) k (λ hs. cases_fault On.pairing cs all hs (k + 1)) e in
        go_good taken h b.0 i b.1 st.1 st.0 (λ c n. cases_good all b.0 (k + 1) (branches_in On taken h b.0 i b.1) (st.2 b.0 b.1) b.2 b.3 c n)
    next_good (Absurd j) h k i st e = λ p s t a. absurd (absurd_sound j h.conj p (no-refusal (absurd_refusal j h.conj) k e) a.point)
    next_good (Killed kill) h k i st e = λ p s t a. absurd (kill_empty On h h.last kill k i refl e p s t a)
    next_good (Hit c) h k i st e = hit_good h c i st (unless_none (is_hit On.pairing h (slice_get cs c)) k rule.Hit e)
    next_good SameNumber h k i st e = number_good h i st (unless_none (is_number On.pairing h) k rule.Number e)
    next_good SameInitial h k i st e = initial_good h i st (unless_none (is_initial On.pairing h) k rule.Initial e)

    row_good : {w : _} (all : Row_of-Plan w) (m : ℤ) (f : Affine) (first : ℕ) (h : Path) (k : ℕ) → InPath On h → ClassesStop pair order recurrent part all m f first h → pos 1 ≤ℤ m → nat_le (length f.coefs) h.conj.columns ≡ true
        → classes_fault On.pairing cs all m f first h k ≡ None → (r : ℕ) → r < count_of all → Good (at_rows h (class m f (pos (first + r)) h.conj))
    row_good end_of-Plan m f first h k i st l w e r lt = absurd (omega (arith, lt))
    row_good (more_of-Plan s t rest) m f first h k i st l w e zero lt =
        let n = first-none (steps_fault s (λ c. next_fault On.pairing cs t (at_rows h c)) (class m f (pos first) h.conj) k) (classes_fault On.pairing cs rest m f (first + 1) h (k + (length s + line_count t))) e in
        let z : first ≡ first + 0 = omega arith in
        subst (λ j. Good (at_rows h (class m f (pos j) h.conj))) z (behind s t (next_good t) (at_rows h (class m f (pos first) h.conj)) k (class_in h m f (pos first) i l w) st.0 n.0)
    row_good (more_of-Plan s t rest) m f first h k i st l w e (suc r) lt =
        let n = first-none (steps_fault s (λ c. next_fault On.pairing cs t (at_rows h c)) (class m f (pos first) h.conj) k) (classes_fault On.pairing cs rest m f (first + 1) h (k + (length s + line_count t))) e in
        let z : first + 1 + r ≡ first + suc r = omega arith in
        subst (λ j. Good (at_rows h (class m f (pos j) h.conj))) z (row_good rest m f (first + 1) h (k + (length s + line_count t)) i st.1 l w n.1 r (omega (arith, lt)))

    cases_good : {w : _} (all : Row_of-Plan w) (hs : List Path) (k : ℕ) → ((c : Path) → IsAmong c hs → InPath On c) → CasesStop pair order recurrent part all hs → count_of all ≡ length hs → cases_fault On.pairing cs all hs k ≡ None
        → (c : Path) → IsAmong c hs → Good c
    cases_good end_of-Plan [] k i st n e c m = absurd m
    cases_good end_of-Plan (h ∷ hs) k i st n e c m = absurd (omega (arith, n))
    cases_good (more_of-Plan s t rest) [] k i st n e c m = absurd m
    cases_good (more_of-Plan s t rest) (h ∷ hs) k i st n e c (inl q) =
        let f = first-none (steps_fault s (λ c. next_fault On.pairing cs t (at_rows h c)) h.conj k) (cases_fault On.pairing cs rest hs (k + (length s + line_count t))) e in
        subst (λ (y : Path). Good y) (sym q) (behind s t (next_good t) h k (i h (inl refl)) st.0 f.0)
    cases_good (more_of-Plan s t rest) (h ∷ hs) k i st n e c (inr m) =
        let f = first-none (steps_fault s (λ c. next_fault On.pairing cs t (at_rows h c)) h.conj k) (cases_fault On.pairing cs rest hs (k + (length s + line_count t))) e in
        cases_good rest hs (k + (length s + line_count t)) (λ d o. i d (inr o)) st.1 (omega (arith, n)) f.1 c m

  pub plan_handles : (t : Plan) (h : Path) (k : ℕ) → InPath On h → PlanStops pair order recurrent part t h → plan_fault On.pairing cs t h k ≡ None → Good h
  plan_handles t h k i st e = behind t.steps t.next (next_good t.next) h k i st e
