-- Where a pair path ends: a pair that matches nothing is a mismatch, and a broken row of a claim fails at the pair's point.
use Rattle.std.proofs.Common.{◌≡◌, ◌⊎◌, inl, inr, ℕ, ◌+◌, ◌≤◌, ◌&&◌, ℤ, List, [], ◌∷◌, ◌++◌, length, take, drop, true, false, Some, refl, sym, ap, ◌∙◌, subst, arith, nat_eq}
use Rattle.std.specs.Prelude.{is_some, slice_get, option_map}
use Rattle.ac_forms.specs.Affine.{Affine}
use Rattle.ac_forms.specs.Negation.{negation, HasExtension}
use Rattle.ac_forms.specs.Renaming.{picked, row_renaming, rows_renaming}
use Rattle.ac_forms.specs.Rows.{Holds, Meets}
use Rattle.ac_forms.specs.declared.conj.Conj.{Conj}
use Rattle.ac_forms.specs.declared.row.Row.{Row}
use Rattle.ac_forms.specs.declared.row.Row.TheVariants.{Eq, Div, Ge}
use Rattle.ac_forms.proofs.Distinct.{row_renaming-points}
use Rattle.ac_forms.proofs.InPieces.{some-at}
use Rattle.ac_forms.proofs.Negations.{complement}
use Rattle.ac_poly.specs.ModelMeaning.{values_at}
use Rattle.ac_poly.specs.Model.{is_input}
use Rattle.ac_poly.proofs.Columns.{has_kinds}
use Rattle.ac_base.proofs.Options.{bind-some, map-some, if-some}
use Rattle.ac_claims.specs.ProofEnds.{equal_cells}
use Rattle.ac_claims_paths.specs.PathColumns.{base, columns_of, equal_forms}
use Rattle.ac_claims_paths.specs.Executions.{execution}
use Rattle.ac_forms.specs.ListMembers.{IsAmong}
use Rattle.ac_claims_paths.specs.declared.path.Path.{Path}
use Rattle.ac_claims_paths.specs.declared.path.Seat.{Seat}
use Rattle.ac_claims_paths.proofs.InBranches.{in_get}
use Rattle.ac_claims_paths.proofs.Moving.{equal-values, pick-append}
use Rattle.ac_graph.specs.PairMoves.{pairing_of}
use Rattle.ac_widen_programs.specs.PairSetting.{IsMismatchPair}
use Rattle.ac_widen_programs.specs.PairMismatches.{NotCalls, NotNumbers, NotOneInput}
use Rattle.ac_widen_programs.proofs.Mismatching.{mismatch_there}
use Rattle.ac_widen_programs.specs.PairPathEnds.{Breaks, BrokenClaimsFail, AreNotCalls, AreUnequal, AreOtherCells, HaveBothArities, EndsAreMismatches}
use Rattle.ac_widen_programs.specs.PairPaths.{Unfolding, ComesTo, params_of, positions_of, seats_of}
use Rattle.ac_widen_programs.proofs.Arguments.{call_value}
use Rattle.ac_widen_programs.proofs.Calling.{own_models}
use Rattle.ac_widen_programs.proofs.Picks.{front_and_rest, holds_front, pick_pair}

-- ---- rows that fail

part_wide : (n : ℕ) (r : Row) (part : Conj) → IsAmong part (negation n r) → n ≤ part.columns
part_wide n (Eq f) part (inl e) = subst (λ (z : Conj). n ≤ z.columns) (sym e) (omega arith)
part_wide n (Eq f) part (inr (inl e)) = subst (λ (z : Conj). n ≤ z.columns) (sym e) (omega arith)
part_wide n (Eq f) part (inr (inr e)) = absurd e
part_wide n (Div m f) part (inl e) = subst (λ (z : Conj). n ≤ z.columns) (sym e) (omega arith)
part_wide n (Div m f) part (inr e) = absurd e
part_wide n (Ge f) part (inl e) = subst (λ (z : Conj). n ≤ z.columns) (sym e) (omega arith)
part_wide n (Ge f) part (inr e) = absurd e

breaks_row : (n : ℕ) (rows : List Row) (p : List ℤ) → (b : Breaks n rows p) → ¬ (Holds b.row p)
breaks_row n rows p b h =
    let w = part_wide n b.row b.part b.part_among in
    let l = b.long in
    let f = front_and_rest n p (omega (arith, w, l)) in
    let k = in_get b.part (negation n b.row) b.part_among in
    let some = some-at HasExtension (negation n b.row) k.0 b.part (take n p) k.1 (drop n p, ap length f.0 ∙ b.long, subst (Meets b.part.rows) (sym f.0) b.meets) in
    let c = b.over.0 in
    let lf = f.1 in
    (complement n b.row (take n p) b.over f.1).1 some (holds_front b.row (take n p) (drop n p) (omega (arith, c, lf)) (subst (Holds b.row) (sym f.0) h))

meets_in : (rows : List Row) (r : Row) (p : List ℤ) → IsAmong r rows → Meets rows p → Holds r p
meets_in [] r p i m = absurd i
meets_in (x ∷ rows) r p (inl e) m = subst (λ (z : Row). Holds z p) (sym e) m.0
meets_in (x ∷ rows) r p (inr i) m = meets_in rows r p i m.1

not_meets : (n : ℕ) (rows : List Row) (p : List ℤ) → Breaks n rows p → ¬ (Meets rows p)
not_meets n rows p b m = breaks_row n rows p b (meets_in rows b.row p b.among m)

-- a row that was renamed
renamed_in : (ks : List ℕ) (rows made : List Row) → rows_renaming ks rows ≡ Some made → (r : Row) → IsAmong r made → (row : Row) × IsAmong row rows × (row_renaming ks row ≡ Some r)
renamed_in ks [] made e r i = let j : [] ≡ made = cc in absurd (subst (IsAmong r) (sym j) i)
renamed_in ks (x ∷ rows) made e r i =
    let b = bind-some (row_renaming ks x) (λ s. option_map (λ ss. s ∷ ss) (rows_renaming ks rows)) made e in
    let c = map-some (rows_renaming ks rows) (λ ss. b.0 ∷ ss) made b.2 in
    by b.0 b.1 c.0 (renamed_in ks rows c.0 c.1 r) (subst (IsAmong r) c.2 i)
  where
    by : (s : Row) → row_renaming ks x ≡ Some s → (ss : List Row) → (IsAmong r ss → (row : Row) × IsAmong row rows × (row_renaming ks row ≡ Some r)) → IsAmong r (s ∷ ss) → (row : Row) × IsAmong row (x ∷ rows) × (row_renaming ks row ≡ Some r)
    by s is ss next (inl j) = (x, inl refl, is ∙ ap Some (sym j))
    by s is ss next (inr j) = let z = next j in (z.0, inr z.1, z.2)

pub broken_claims_fail : BrokenClaimsFail
broken_claims_fail params n s rows made p e b =
    let ks = base params ++ (columns_of s.0 ++ columns_of s.1) in
    let r = renamed_in ks rows made e b.row b.among in
    (r.0, r.1, λ h. breaks_row n made p b ((row_renaming-points ks r.0 b.row p r.2).1 h))

-- ---- pairs that do not match

-- the values of forms in the columns of a position
value_here : (n : ℕ) (seat : Seat) (p : List ℤ) (fs : List Affine) → values_at (picked (base n ++ columns_of seat) p) fs ≡ values_at (picked (base n) p ++ picked (columns_of seat) p) fs
value_here n seat p fs = ap (λ (z : List ℤ). values_at z fs) (pick-append (base n) (columns_of seat) p)

not_calls : (u : Unfolding) (pair_path : List (Seat × Seat)) (q : Path) (p : List ℤ) → HaveBothArities u → ComesTo u pair_path q p → AreNotCalls u q → NotCalls (pairing_of u.pair).left (pairing_of u.pair).right q.left.position q.right.position
not_calls u pair_path q p arities to h c d ce de one =
    let pair = u.pair in
    let g = pairing_of pair in
    let s = to.here in
    let v = picked (base (params_of u)) p in
    let a = call_value g.left v (execution pair.left g.left v) s.compared.left s.a q.left.position s.left_is c ce in
    let b = call_value g.right v (execution pair.right g.right v) s.compared.right s.b q.right.position s.right_is d de in
    let f = a.count ∙ arities.0 v a.writer a.stands a.node c.symbol a.args a.place a.is in
    let k = b.count ∙ arities.1 v b.writer b.stands b.node d.symbol b.args b.place b.is in
    h c d ce de (one, f ∙ ap (λ z. z.arity) one ∙ sym k)

not_numbers : (u : Unfolding) (q : Path) (p : List ℤ) → AreUnequal u q p
    → NotNumbers (pairing_of u.pair).left (pairing_of u.pair).right q.left.position q.right.position (picked (base (params_of u)) p ++ picked (columns_of q.left) p) (picked (base (params_of u)) p ++ picked (columns_of q.right) p)
not_numbers u q p h f k fe ke same =
    let n = params_of u in
    let r = h f k fe ke in
    not_meets q.conj.columns r.0 p r.2
    ((equal-values (base n ++ columns_of q.left) (f ∷ []) (base n ++ columns_of q.right) (k ∷ []) r.0 p r.1).1 (value_here n q.left p (f ∷ []) ∙ (λ i. same i ∷ []) ∙ sym (value_here n q.right p (k ∷ []))))

not_one_input : (u : Unfolding) (q : Path) (p : List ℤ) → AreOtherCells u q p
    → NotOneInput u.pair.left.arrays (pairing_of u.pair).left (pairing_of u.pair).right q.left.position q.right.position (picked (base (params_of u)) p ++ picked (columns_of q.left) p) (picked (base (params_of u)) p ++ picked (columns_of q.right) p)
not_one_input u q p h c d ce de input same = by (h c d ce de)
  where
    by : (¬ (c.array ≡ d.array)) ⊎ ((is_input (slice_get (pairing_of u.pair).left.kinds c.array) ≡ false) ⊎ ((rows : List Row) × (equal_cells (pairing_of u.pair) q (Some c) (Some d) ≡ Some rows) × Breaks q.conj.columns rows p)) → ⊥
    by (inl other) = other same.0
    by (inr (inl none)) = let z : true ≡ false = sym input ∙ sym (has_kinds u.pair.left u.pair.context c.array) ∙ none in cc
    by (inr (inr (rows, e, b))) =
        let n = params_of u in
        let g = pairing_of u.pair in
        let forms = (if-some (nat_eq c.array d.array && is_input (slice_get g.left.kinds c.array)) (equal_forms (base n ++ columns_of q.left) c.subs (base n ++ columns_of q.right) d.subs) rows e).1 in
        not_meets q.conj.columns rows p b ((equal-values (base n ++ columns_of q.left) c.subs (base n ++ columns_of q.right) d.subs rows p forms).1 (value_here n q.left p c.subs ∙ same.1 ∙ sym (value_here n q.right p d.subs)))

pub ends_are_mismatches : EndsAreMismatches
ends_are_mismatches u pair_path q p arities to h =
    let pair = u.pair in
    let g = pairing_of pair in
    let n = params_of u in
    let there = mismatch_there pair g.left g.right (own_models pair) (picked (base n) p) q.left.position (picked (columns_of q.left) p) q.right.position (picked (columns_of q.right) p) to.here (ap is_some h.readers.left) (ap is_some h.readers.right)
    (not_calls u pair_path q p arities to h.calls) (not_numbers u q p h.numbers) (not_one_input u q p h.cells) in
    subst (IsMismatchPair pair (positions_of (seats_of q))) (sym (pick_pair n q.left q.right p)) there
