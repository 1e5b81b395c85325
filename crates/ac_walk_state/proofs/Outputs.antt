-- The claim of an output.
use Rattle.std.proofs.Common.{◌≡◌, ◌↔◌, ℕ, zero, suc, ◌+◌, ℤ, List, [], ◌∷◌, ◌++◌, map, length, true, false, Option, Some, None, refl, sym, ap, ◌∙◌, subst, append_assoc, arith}
use Rattle.std.specs.Prelude.{slice_get, option_map}
use Rattle.std.specs.List.{range_with_len}
use Rattle.std.proofs.lemmas.List.{length-append, length-map}
use Rattle.ac_forms.specs.ListMembers.{IsAmong}
use Rattle.ac_forms.specs.Renaming.{picked}
use Rattle.ac_forms.specs.Rows.{AreRowsOver, Meets}
use Rattle.ac_forms.specs.Standing.{all_stand}
use Rattle.ac_forms.specs.declared.row.Row.{Row}
use Rattle.ac_forms.proofs.Standings.{all-more}
use Rattle.ac_syntax.specs.Index.{index_value, point}
use Rattle.ac_syntax.specs.Outputs.{extents_at}
use Rattle.ac_syntax.specs.declared.tree.Array.{Array}
use Rattle.ac_syntax.specs.declared.tree.Pair.{Pair}
use Rattle.ac_syntax.specs.declared.tree.Position.{Position}
use Rattle.ac_syntax.specs.declared.tree.Position.TheVariants.{Output, Node, InitialOutput, InitialNode}
use Rattle.ac_poly.specs.IndexForms.{lowered}
use Rattle.ac_poly.specs.ModelMeaning.{values_at}
use Rattle.ac_poly.specs.Model.{extents_of, model_of}
use Rattle.ac_poly.specs.declared.types.Model.{Model}
use Rattle.ac_poly.specs.declared.types.StmtModel.{StmtModel}
use Rattle.ac_base.proofs.Options.{bind-some, map-some, some-is}
use Rattle.ac_claims_paths.specs.InstanceCoordinates.{width}
use Rattle.ac_claims_paths.specs.PathColumns.{appended, equal_forms}
use Rattle.ac_claims_paths.specs.PathSteps.{Pairing}
use Rattle.ac_claims_paths.specs.ModelPositions.{element_forms, extent_rows, initial_cell}
use Rattle.ac_claims_paths.specs.declared.path.Path.{Path}
use Rattle.ac_claims_paths.specs.declared.path.Programs.{Programs}
use Rattle.ac_claims_paths.proofs.Heres.{element_values}
use Rattle.ac_claims_paths.proofs.Moving.{InColumns, equal-values, equal-within}
use Rattle.ac_claims_paths.proofs.OnPaths.{pick_more, pick_new, range_in}
use Rattle.ac_claims.specs.Domains.{of_width, piece_by}
use Rattle.ac_claims.specs.ProofFaults.{Domain, all_stand_among, asks_no_more, domain, left_seat, node_domain, output_rows, piece_rows, right_seat, start_columns}
use Rattle.ac_claims.specs.RemainingPlans.{start_at, start_beside, start_of}
use Rattle.ac_claims.specs.Soundness.{ArePaired}
use Rattle.ac_claims.specs.declared.domains.Piece.{Piece}
use Rattle.ac_claims.specs.declared.types.Claim.{Claim}
use Rattle.ac_claims.proofs.Trees.{output_parts}
use Rattle.ac_widen_programs.specs.PairSetting.{IsOutputPair, PairAt, coordinate_count, counter_count, extent_count, point_width}
use Rattle.ac_widen_programs.proofs.PositionModels.{at_width}
use Rattle.ac_unfold_plans.specs.PlanStops.{claim_positions, programs_of}
use Rattle.ac_walk_state.specs.Elements.{AreProgramsOf, IsElementClaim, equal_columns}
use Rattle.ac_walk_state.specs.PartValidity.{ClaimsAreMade}
use Rattle.ac_walk_state.proofs.EqualColumns.{all_stand_there, equal_is}
use Rattle.ac_walk_state.proofs.ListElements.{any_among}

-- ---- as many dimensions in both programs

count_is : (arrays : List Array) (o : ℕ) → extent_count (slice_get (map extents_of arrays) o) ≡ length (extents_at arrays o)
count_is [] o = refl
count_is (a ∷ arrays) zero = length-map a.extents (lowered [])
count_is (a ∷ arrays) (suc o) = count_is arrays o

same_count : (pair : Pair) (o : ℕ) → ArePaired pair → IsAmong o pair.outputs → extent_count (slice_get (model_of pair.right pair.context).extents o) ≡ extent_count (slice_get (model_of pair.left pair.context).extents o)
same_count pair o t n =
    let value = index_value (point [] []) in
    let e : map value (extents_at pair.right.arrays o) ≡ map value (extents_at pair.left.arrays o) = t.extents o (any_among o pair.outputs n) [] in
    count_is pair.right.arrays o ∙ sym (length-map (extents_at pair.right.arrays o) value) ∙ ap length e ∙ length-map (extents_at pair.left.arrays o) value ∙ sym (count_is pair.left.arrays o)

-- ---- where its first plan starts

-- the only piece of an output
only_piece : (m : Model) (o : ℕ) (P : Position) (q : Piece) → P ≡ Output o → piece_by 0 (domain m P) ≡ Some q → (domain m P ≡ Some (record { width = q.width; pieces = q.rows ∷ [] })) × (q.width ≡ extent_count (slice_get m.extents o))
only_piece m o P q p e =
    let b = bind-some (domain m P) (λ (a : Domain). option_map (λ (rows : List Row). record { width = a.width; rows = rows }) (slice_get a.pieces 0)) q e in
    let c = map-some (slice_get b.0.pieces 0) (λ (rows : List Row). record { width = b.0.width; rows = rows }) q b.2 in
    let x = output_parts m o b.0 (ap (domain m) (sym p) ∙ b.1) in
    let rows : c.0 ≡ extent_rows m.params x.0 = some-is c.0 (extent_rows m.params x.0) (sym c.1 ∙ ap (λ (d : Domain). slice_get d.pieces 0) x.2) in
    let wide : b.0.width ≡ length x.0 = ap (λ (d : Domain). d.width) x.2 in
    let qw : q.width ≡ length x.0 = ap (λ (z : Piece). z.width) c.2 ∙ wide in
    let qr : q.rows ≡ extent_rows m.params x.0 = ap (λ (z : Piece). z.rows) c.2 ∙ rows in
    (b.1 ∙ ap Some x.2 ∙ (λ i. Some (record { width = sym qw i; pieces = sym qr i ∷ [] })), qw ∙ ap extent_count (sym x.1))

asks : (g : Pairing) (o : ℕ) (c : Claim) (w : ℕ) → c.left ≡ Output o → c.right ≡ Output o → c.rows ≡ equal_columns g.params w → extent_count (slice_get g.left.extents o) ≡ w → extent_count (slice_get g.right.extents o) ≡ w
    → (h : Path) → start_at g c 0 0 ≡ Some h → asks_no_more g c (domain g.left c.left) (domain g.right c.right) ≡ true
asks g o c w lo ro rows lw rw' h e =
    let l = bind-some (piece_by 0 (domain g.left c.left)) (λ (l : Piece). start_beside g c l (piece_by 0 (domain g.right c.right))) h e in
    let r = bind-some (piece_by 0 (domain g.right c.right)) (start_of g c l.0) h l.2 in
    let s = map-some (piece_rows g c (of_width l.0.width) (of_width r.0.width) l.0.rows r.0.rows) (λ (rows : List Row). record {
      conj = record { columns = start_columns g (of_width l.0.width) (of_width r.0.width); rows = c.rows ++ (g.left.context ++ rows) };
      left = left_seat g c (of_width l.0.width);
      right = right_seat g c (of_width l.0.width) (of_width r.0.width);
      gone = false;
      last = None;
    }) h r.2 in
    let x = only_piece g.left o c.left l.0 lo l.1 in
    let y = only_piece g.right o c.right r.0 ro r.1 in
    let a : Domain = record { width = l.0.width; pieces = l.0.rows ∷ [] } in
    let b : Domain = record { width = r.0.width; pieces = r.0.rows ∷ [] } in
    let p = g.params in
    let aw : l.0.width ≡ w = x.1 ∙ lw in
    let bw : r.0.width ≡ w = y.1 ∙ rw' in
    let eqs = equal_columns p w in
    let made : equal_forms (range_with_len p l.0.width) (element_forms 0 l.0.width) (range_with_len (p + l.0.width) r.0.width) (element_forms 0 r.0.width) ≡ Some eqs =
    (λ i. equal_forms (range_with_len p (aw i)) (element_forms 0 (aw i)) (range_with_len (p + aw i) (bw i)) (element_forms 0 (bw i))) ∙ equal_is p w in
    let given : output_rows g c a b l.0.rows r.0.rows ≡ Some (eqs ++ (g.left.context ++ s.0)) = λ i. appended (made i) (option_map (λ (rows : List Row). g.left.context ++ rows) (s.1 i)) in
    let stand : all_stand (eqs ++ (g.left.context ++ s.0)) c.rows ≡ true = ap (all_stand (eqs ++ (g.left.context ++ s.0))) rows ∙ all-more eqs (g.left.context ++ s.0) eqs (all_stand_there p w) in
    (λ i. asks_no_more g c (x.0 i) (y.0 i)) ∙ ap (λ (z : Option (List Row)). all_stand_among z c.rows) given ∙ stand

-- ---- its rows at a pair

-- the rows hold where the coordinates are the same
one_element : (params x y : List ℤ) (n w : ℕ) → length params ≡ n → length x ≡ w → length y ≡ w → Meets (equal_columns n w) (params ++ (x ++ y)) ↔ (x ≡ y)
one_element params x y n w lp lx ly =
    let p = params ++ (x ++ y) in
    let ks = range_with_len n w in
    let ls = range_with_len (n + w) w in
    let forms = element_forms 0 w in
    let lpx : length (params ++ x) ≡ n + w = length-append params x ∙ (λ i. lp i + lx i) in
    let again : (params ++ x) ++ y ≡ p = append_assoc params x y in
    let left : picked ks p ≡ x = ap (picked ks) (sym again) ∙ pick_more ks (params ++ x) y (n + w) lpx (range_in n w (n + w) (omega arith)) ∙ pick_new params x n w lp lx in
    let right : picked ls p ≡ y = ap (picked ls) (sym again) ∙ pick_new (params ++ x) y (n + w) w lpx ly in
    let vl : values_at (picked ks p) forms ≡ x = ap (λ z. values_at z forms) left ∙ element_values [] x 0 w refl lx in
    let vr : values_at (picked ls p) forms ≡ y = ap (λ z. values_at z forms) right ∙ element_values [] y 0 w refl ly in
    let v = equal-values ks forms ls forms (equal_columns n w) p (equal_is n w) in
    ((λ m. sym vl ∙ v.0 m ∙ vr), (λ e. v.1 (vl ∙ e ∙ sym vr)))

module _ (pair : Pair) (array : ℕ) (claim : Claim) (lo : claim.left ≡ Output array) (ro : claim.right ≡ Output array) (rows : claim.rows ≡ equal_columns (length pair.left.params) (extent_count (slice_get (model_of pair.left pair.context).extents array)))
    (t : ArePaired pair) (among : IsAmong array pair.outputs) where
  meets_as : (p : List ℤ) (there : PairAt pair (claim_positions claim) p) → Meets claim.rows p ↔ (there.a.at ≡ there.b.at)
  meets_as p there =
      let n = length pair.left.params in
      let w = extent_count (slice_get (model_of pair.left pair.context).extents array) in
      let params = there.params in
      let la : there.a.position ≡ Output array = there.placed.left_is ∙ lo in
      let rb : there.b.position ≡ Output array = there.placed.right_is ∙ ro in
      let lx : length there.a.at ≡ w = at_width (model_of pair.left pair.context) params _ there.compared.left there.a.position there.a.at there.a.spot there.a.here ∙ ap (coordinate_count (model_of pair.left pair.context)) la in
      let ly : length there.b.at ≡ w = at_width (model_of pair.right pair.context) params _ there.compared.right there.b.position there.b.at there.b.spot there.b.here ∙ ap (coordinate_count (model_of pair.right pair.context)) rb ∙ same_count pair array t among in
      let m = one_element params there.a.at there.b.at n w (sym there.compared.left.count) lx ly in
      let z : Meets claim.rows p ≡ Meets (equal_columns n w) (params ++ (there.a.at ++ there.b.at)) = λ i. Meets (rows i) (there.placed.point_is i) in
      subst (λ (T : Type 0). T ↔ (there.a.at ≡ there.b.at)) (sym z) m

  claim_exact : (outputs : List ℕ) → IsAmong array outputs → (p : List ℤ) → PairAt pair (claim_positions claim) p → Meets claim.rows p ↔ IsOutputPair pair outputs (claim_positions claim) p
  claim_exact outputs within p there = (
    (λ m. record { there = there; output = array; among = within; left_is = there.placed.left_is ∙ lo; right_is = there.placed.right_is ∙ ro; one_element = (meets_as p there).0 m }),
    (λ h. (meets_as p h.there).1 h.one_element),
  )

  claim_over : AreRowsOver (point_width pair (claim_positions claim)) claim.rows
  claim_over =
      let n = length pair.left.params in
      let w = extent_count (slice_get (model_of pair.left pair.context).extents array) in
      let total : n + (w + w) ≡ point_width pair (claim_positions claim) =
      λ i. n + (coordinate_count (model_of pair.left pair.context) (sym lo i) + (sym (same_count pair array t among) ∙ ap (coordinate_count (model_of pair.right pair.context)) (sym ro)) i) in
      let ks : InColumns (range_with_len n w) (n + (w + w)) = range_in n w (n + (w + w)) (omega arith) in
      let ls : InColumns (range_with_len (n + w) w) (n + (w + w)) = range_in (n + w) w (n + (w + w)) (omega arith) in
      let over = equal-within (range_with_len n w) (element_forms 0 w) (range_with_len (n + w) w) (element_forms 0 w) (equal_columns n w) (n + (w + w)) ks ls (equal_is n w) in
      subst (λ (k : ℕ). AreRowsOver k claim.rows) total (subst (AreRowsOver (n + (w + w))) (sym rows) over)

  pub element_claimed : IsElementClaim pair array claim
  element_claimed = record {
    left_is = lo;
    right_is = ro;
    rows_are = rows;
    output = record { left_is = lo; right_is = ro; asks = asks (programs_of pair) array claim (extent_count (slice_get (model_of pair.left pair.context).extents array)) lo ro rows refl (same_count pair array t among) };
    over = claim_over;
    exact = claim_exact;
  }

-- of the programs of the pair
pub is_element_claim : (pair : Pair) (programs : Programs) (array : ℕ) (claim : Claim) → claim.left ≡ Output array → claim.right ≡ Output array → claim.rows ≡ equal_columns programs.left.now.params (extent_count (slice_get programs.left.now.extents array))
    → AreProgramsOf pair programs → IsAmong array pair.outputs → IsElementClaim pair array claim
is_element_claim pair programs array claim lo ro rows are among =
    element_claimed pair array claim lo ro (rows ∙ ap (λ (m : Model). equal_columns m.params (extent_count (slice_get m.extents array))) are.left) are.paired among

-- ---- made claims

-- a position that is there has the coordinates of its domain
node_width : (m : Model) (s k : ℕ) (a : Domain) → node_domain m s k ≡ Some a → counter_count (slice_get m.stmts s) ≡ a.width
node_width m s k a e =
    let b = bind-some (slice_get m.stmts s) (λ (stmt : StmtModel). option_map (λ node. record { width = width stmt; pieces = stmt.pieces }) (slice_get stmt.nodes k)) a e in
    let c = map-some (slice_get b.0.nodes k) (λ node. record { width = width b.0; pieces = b.0.pieces }) a b.2 in
    ap counter_count b.1 ∙ sym (ap (λ (d : Domain). d.width) c.2)

output_width : (m : Model) (o : ℕ) (a : Domain) → domain m (Output o) ≡ Some a → extent_count (slice_get m.extents o) ≡ a.width
output_width m o a e = let x = output_parts m o a e in ap extent_count x.1 ∙ sym (ap (λ (d : Domain). d.width) x.2)

domain_width : (m : Model) (P : Position) (a : Domain) → domain m P ≡ Some a → coordinate_count m P ≡ a.width
domain_width m (Output o) a e = output_width m o a e
domain_width m (Node s k) a e = node_width m s k a e
domain_width m (InitialOutput o) a e = output_width m o a e
domain_width m (InitialNode s k) a e = let b = bind-some (initial_cell m (InitialNode s k)) (λ cell. node_domain m s k) a e in node_width m s k a b.2

pub claims_made : ClaimsAreMade
claims_made pair c a b ea eb over =
    let n : point_width pair (claim_positions c) ≡ start_columns (programs_of pair) a b = λ i. length pair.left.params + (domain_width (model_of pair.left pair.context) c.left a ea i + domain_width (model_of pair.right pair.context) c.right b eb i) in
    record { left = a; right = b; left_is = ea; right_is = eb; rows = subst (λ (k : ℕ). AreRowsOver k c.rows) n over }
