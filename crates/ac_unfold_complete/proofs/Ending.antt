-- A pair at which a question stands without a step is no mismatch, and numbers and initial cells have no step.
use Rattle.std.proofs.Common.{◌≡◌, ◌&&◌, ◌++◌, inl, inr, ℕ, ℤ, List, [], ◌∷◌, true, Option, Some, refl, sym, ap, ◌∙◌, subst, nat_eq}
use Rattle.std.specs.Prelude.{slice_get}
use Rattle.ac_forms.specs.Affine.{Affine, value_at}
use Rattle.ac_forms.specs.Renaming.{picked}
use Rattle.ac_forms.specs.Rows.{Meets}
use Rattle.ac_forms.specs.declared.row.Row.{Row}
use Rattle.ac_syntax.specs.Algebra.{Cell}
use Rattle.ac_syntax.specs.Index.{index_value}
use Rattle.ac_syntax.specs.Source.{Writer}
use Rattle.ac_syntax.specs.Spot.{AtNode, AtStart}
use Rattle.ac_syntax.specs.declared.tree.IndexExpr.{IndexExpr}
use Rattle.ac_syntax.specs.declared.tree.Order.{Order}
use Rattle.ac_syntax.specs.declared.tree.Symbol.{Symbol}
use Rattle.ac_syntax.specs.declared.tree.Value.{Value}
use Rattle.ac_syntax.specs.declared.tree.Value.TheVariants.{Access, Number}
use Rattle.ac_poly.specs.ModelMeaning.{values_at}
use Rattle.ac_poly.specs.Model.{is_input}
use Rattle.ac_base.proofs.Options.{if-some}
use Rattle.ac_claims.specs.ProofEnds.{equal_cells, equal_numbers}
use Rattle.ac_claims.specs.declared.types.Claim.{Claim}
use Rattle.ac_claims_paths.specs.PathColumns.{base, columns_of, equal_forms}
use Rattle.ac_claims_paths.specs.Executions.{Execution, execution}
use Rattle.ac_claims_paths.specs.Pairs.{Placed, IsCallOf, IsMatch, IsMismatch, IsReader, CallPlace, StandsOn, StepsTo}
use Rattle.ac_claims_paths.specs.ModelPositions.{CallAt, initial_cell, number_at}
use Rattle.ac_claims_paths.specs.declared.path.Path.{Path}
use Rattle.ac_claims_paths.specs.declared.path.Side.{Side}
use Rattle.ac_claims_paths.specs.declared.path.Side.TheVariants.{Left, Right}
use Rattle.ac_claims_paths.specs.declared.places.CellForms.{CellForms}
use Rattle.ac_claims_paths.proofs.CallSteps.{symbol_is}
use Rattle.ac_claims_paths.proofs.Heres.{cell_with, initial_here, number_at_spot}
use Rattle.ac_claims_paths.proofs.Moving.{equal-values}
use Rattle.ac_claims_paths.proofs.ReadSteps.{picks_one}
use Rattle.ac_graph.specs.PairMoves.{pairing_of}
use Rattle.ac_graph.specs.GraphMeaning.{IsCompared, LeftPlaced, RightPlaced, comparison}
use Rattle.ac_widen_programs.proofs.PositionModels.{call_there, reads_there}
use Rattle.ac_widen_programs.proofs.ReadTargets.{reads_node, reads_start}
use Rattle.ac_widen_programs.specs.PairPaths.{Unfolding, params_of}
use Rattle.ac_widen_programs.specs.PairPathSteps.{ReadsOn}
use Rattle.ac_unfold.specs.UnfoldQuestions.{AreTwoCalls, AreTargets, GoesOn, numbers, cells, claim}
use Rattle.ac_unfold_complete.proofs.Bare.{bare}

-- ---- reads and calls

pub reads_no_mismatch : (u : Unfolding) (q : Path) (p params : List ℤ) (c : IsCompared u.pair params) (a : LeftPlaced u.pair params) (b : RightPlaced u.pair params) → StandsOn (comparison u.pair params c) (bare q) p a b → (side : Side) → ReadsOn u side q → ¬ (IsMismatch (comparison u.pair params c) a b)
reads_no_mismatch u q p params c a b st Left r m = let l = (pairing_of u.pair).left in m.left (reads_there l params (execution u.pair.left l params) c.left a q.left.position st.left.position_is r)
reads_no_mismatch u q p params c a b st Right r m = let l = (pairing_of u.pair).right in m.right (reads_there l params (execution u.pair.right l params) c.right b q.right.position st.right.position_is r.1)

pub calls_no_mismatch : (u : Unfolding) (q : Path) (p params : List ℤ) (c : IsCompared u.pair params) (a : LeftPlaced u.pair params) (b : RightPlaced u.pair params) → StandsOn (comparison u.pair params c) (bare q) p a b → AreTwoCalls (pairing_of u.pair) q → ¬ (IsMismatch (comparison u.pair params c) a b)
calls_no_mismatch u q p params c a b st t m =
    let l = (pairing_of u.pair).left in
    let r = (pairing_of u.pair).right in
    let f = call_there l params (execution u.pair.left l params) c.left a q.left.position t.left st.left.position_is t.left_is in
    let g = call_there r params (execution u.pair.right r params) c.right b q.right.position t.right st.right.position_is t.right_is in
    m.apart (inl (f.0, g.0, ap (λ (z : CallAt). z.symbol) f.1 ∙ symbol_is t.left.symbol t.right.symbol t.symbols ∙ ap (λ (z : CallAt). z.symbol) (sym g.1)))

-- ---- no steps

-- a number or an initial cell reads nothing, and is no call
pub record IsLeaf (x : Execution) (a : Placed x) : Type 0 where
  pub reads : ¬ (IsReader x a)
  pub calls : ¬ (CallPlace x a)

no_call_value : (form : IndexExpr) (v : Value) (node : ℕ) (f : Symbol) (ks : List ℕ) → v ≡ Number form → IsCallOf v node f ks → ⊥
no_call_value form v node f ks e h = subst (λ (z : Value). IsCallOf z node f ks) e h

pub number_leaf : (x : Execution) (a : Placed x) (w : Writer) (form : IndexExpr) → a.spot ≡ AtNode w (Number form) → IsLeaf x a
number_leaf x a w form e = record {
  reads = λ r. let s = reads_node x.trace a.spot r.0 r.1 r.2 w (Number form) e in let z : Number form ≡ Access s.array s.subs s.place = s.value_is in absurd cc;
  calls = λ c. let s : AtNode c.writer c.value ≡ AtNode w (Number form) = sym c.spot_is ∙ e in let z : c.value ≡ Number form = cc in no_call_value form c.value c.node c.symbol c.arguments z c.is_call;
}

pub start_leaf : (x : Execution) (a : Placed x) (d : Cell) → a.spot ≡ AtStart d → IsLeaf x a
start_leaf x a d e = record {
  reads = λ r. reads_start x.trace a.spot r.0 d r.1 r.2 e;
  calls = λ c. let s : AtNode c.writer c.value ≡ AtStart d = sym c.spot_is ∙ e in absurd cc;
}

pub no_step : (u : Unfolding) (params : List ℤ) (c : IsCompared u.pair params) (order : Order) (a a' : LeftPlaced u.pair params) (b b' : RightPlaced u.pair params) → IsLeaf (comparison u.pair params c).left a → IsLeaf (comparison u.pair params c).right b → ¬ (StepsTo (comparison u.pair params c) order a b a' b')
no_step u params c order a a' b b' l r (inl s) = l.reads s.1.0
no_step u params c order a a' b b' l r (inr (inl s)) = r.reads s.2.0
no_step u params c order a a' b b' l r (inr (inr s)) = l.calls s.left

-- ---- matches

-- two leaves that match
pub record AreMatched (u : Unfolding) (params : List ℤ) (c : IsCompared u.pair params) (a : LeftPlaced u.pair params) (b : RightPlaced u.pair params) : Type 0 where
  pub left : IsLeaf (comparison u.pair params c).left a
  pub right : IsLeaf (comparison u.pair params c).right b
  pub matched : IsMatch (comparison u.pair params c) a b

one_head : (x y : ℤ) → ◌≡◌ {A = List ℤ} (x ∷ []) (y ∷ []) → x ≡ y
one_head x y e = cc

numbers_match : (u : Unfolding) (q : Path) (p params : List ℤ) (c : IsCompared u.pair params) (a : LeftPlaced u.pair params) (b : RightPlaced u.pair params) → StandsOn (comparison u.pair params c) (bare q) p a b → (f h : Affine) (rows : List Row)
    → number_at (pairing_of u.pair).left q.left.position ≡ Some f → number_at (pairing_of u.pair).right q.right.position ≡ Some h → equal_numbers (pairing_of u.pair) q (Some f) (Some h) ≡ Some rows → Meets rows p → AreMatched u params c a b
numbers_match u q p params c a b st f h rows fe he e meets =
    let n = params_of u in
    let l = (pairing_of u.pair).left in
    let r = (pairing_of u.pair).right in
    let y = picked (columns_of q.left) p in
    let z = picked (columns_of q.right) p in
    let s = number_at_spot l params (execution u.pair.left l params) c.left q.left.position y f a.spot fe st.on.left in
    let t = number_at_spot r params (execution u.pair.right r params) c.right q.right.position z h b.spot he st.on.right in
    let ks = base n ++ columns_of q.left in
    let ls = base n ++ columns_of q.right in
    let values : values_at (picked ks p) (f ∷ []) ≡ values_at (picked ls p) (h ∷ []) = (equal-values ks (f ∷ []) ls (h ∷ []) rows p e).0 meets in
    let one : value_at f (picked ks p) ≡ value_at h (picked ls p) = one_head (value_at f (picked ks p)) (value_at h (picked ls p)) values in
    let lp : picked ks p ≡ params ++ y = picks_one n params q.left p y st.on.starts refl in
    let rp : picked ls p ≡ params ++ z = picks_one n params q.right p z st.on.starts refl in
    let equal : index_value s.writer.entry.point s.form ≡ index_value t.writer.entry.point t.form = sym s.value ∙ ap (value_at f) (sym lp) ∙ one ∙ ap (value_at h) rp ∙ t.value in
    record {
      left = number_leaf (execution u.pair.left l params) a s.writer s.form s.is;
      right = number_leaf (execution u.pair.right r params) b t.writer t.form t.is;
      matched = inr (inl (record { left = s.writer; right = t.writer; left_form = s.form; right_form = t.form; left_is = s.is; right_is = t.is; equal = equal }));
    }

cells_match : (u : Unfolding) (q : Path) (p params : List ℤ) (c : IsCompared u.pair params) (a : LeftPlaced u.pair params) (b : RightPlaced u.pair params) → StandsOn (comparison u.pair params c) (bare q) p a b → (f h : CellForms) (rows : List Row)
    → initial_cell (pairing_of u.pair).left q.left.position ≡ Some f → initial_cell (pairing_of u.pair).right q.right.position ≡ Some h → f.array ≡ h.array → is_input (slice_get (pairing_of u.pair).left.kinds f.array) ≡ true
    → equal_cells (pairing_of u.pair) q (Some f) (Some h) ≡ Some rows → Meets rows p → AreMatched u params c a b
cells_match u q p params c a b st f h rows fe he array input e meets =
    let n = params_of u in
    let l = (pairing_of u.pair).left in
    let r = (pairing_of u.pair).right in
    let y = picked (columns_of q.left) p in
    let z = picked (columns_of q.right) p in
    let s = initial_here l params (execution u.pair.left l params) c.left q.left.position y f a.spot fe st.on.left in
    let t = initial_here r params (execution u.pair.right r params) c.right q.right.position z h b.spot he st.on.right in
    let ks = base n ++ columns_of q.left in
    let ls = base n ++ columns_of q.right in
    let forms = (if-some (nat_eq f.array h.array && is_input (slice_get l.kinds f.array)) (equal_forms ks f.subs ls h.subs) rows e).1 in
    let values : values_at (picked ks p) f.subs ≡ values_at (picked ls p) h.subs = (equal-values ks f.subs ls h.subs rows p forms).0 meets in
    let lp : picked ks p ≡ params ++ y = picks_one n params q.left p y st.on.starts refl in
    let rp : picked ls p ≡ params ++ z = picks_one n params q.right p z st.on.starts refl in
    let at : values_at (params ++ y) f.subs ≡ values_at (params ++ z) h.subs = ap (λ (w : List ℤ). values_at w f.subs) (sym lp) ∙ values ∙ ap (λ (w : List ℤ). values_at w h.subs) rp in
    let one : cell_with params f y ≡ cell_with params h z = λ i. record { array = array i; at = at i } in
    record {
      left = start_leaf (execution u.pair.left l params) a (cell_with params f y) s;
      right = start_leaf (execution u.pair.right r params) b (cell_with params h z) t;
      matched = inr (inr (cell_with params f y, c.inputs f.array input, s, t ∙ ap AtStart (sym one)));
    }

-- the rows that have to stand hold at the point of a pair that goes on: so it matches
pub targets_match : (u : Unfolding) (claims : List Claim) (q : Path) (p params : List ℤ) (c : IsCompared u.pair params) (a : LeftPlaced u.pair params) (b : RightPlaced u.pair params) → StandsOn (comparison u.pair params c) (bare q) p a b → GoesOn claims q
    → (o : Option (List Row)) → AreTargets (pairing_of u.pair) claims q o → (rows : List Row) → o ≡ Some rows → Meets rows p → AreMatched u params c a b
targets_match u claims q p params c a b st goes o (claim d gone among left_is right_is) rows e meets = absurd (goes gone d among left_is right_is)
targets_match u claims q p params c a b st goes o (numbers f h fe he) rows e meets = numbers_match u q p params c a b st f h rows fe he e meets
targets_match u claims q p params c a b st goes o (cells f h fe he array input) rows e meets = cells_match u q p params c a b st f h rows fe he array input e meets
