-- A pair at a point of a path is one placed there, whichever valuation and coordinates it is given by; what steps from it, and when it is no mismatch.
use Rattle.std.proofs.Common.{◌≡◌, inl, inr, ◌++◌, ℤ, List, [], ◌∷◌, length, refl, sym, ap, ◌∙◌, subst, arith}
use Rattle.std.proofs.lemmas.List.{append_cancel_left}
use Rattle.ac_syntax.specs.Algebra.{Cell}
use Rattle.ac_syntax.specs.Spot.{Spot, AtNode, AtStart, Reads, an_output, an_access}
use Rattle.ac_syntax.specs.Source.{Writer}
use Rattle.ac_syntax.specs.Trace.{Entry}
use Rattle.ac_syntax.specs.declared.tree.IndexExpr.{IndexExpr}
use Rattle.ac_syntax.specs.declared.tree.Order.{Order}
use Rattle.ac_syntax.specs.declared.tree.Pair.{Pair}
use Rattle.ac_syntax.specs.declared.tree.Position.{Position}
use Rattle.ac_syntax.specs.declared.tree.Value.{Value}
use Rattle.ac_syntax.specs.declared.tree.Value.TheVariants.{Number}
use Rattle.ac_forms.specs.Renaming.{picked}
use Rattle.ac_poly.specs.Model.{model_of}
use Rattle.ac_claims_paths.specs.PathColumns.{columns_of}
use Rattle.ac_claims_paths.specs.Executions.{Execution, At, execution}
use Rattle.ac_claims_paths.specs.OnPaths.{OnPath}
use Rattle.ac_claims_paths.specs.Pairs.{Placed, IsReader, IsCallOf, CallPlace, IsMatch, IsMismatch, StepsTo, StandsOn}
use Rattle.ac_claims_paths.specs.declared.path.Path.{Path}
use Rattle.ac_claims_paths.proofs.ReaderSteps.{at_once}
use Rattle.ac_graph.specs.GraphMeaning.{IsCompared, comparison, LeftPlaced, RightPlaced}
use Rattle.ac_widen_programs.specs.PairSetting.{PairAt, IsPlaced, IsMismatchPair, IsStepPair, coordinate_count, order_at}
use Rattle.ac_widen_programs.proofs.PositionModels.{at_width}
use Rattle.ac_unfold_plans.specs.PlanStops.{positions_at}

-- the point of a path, as one of its pair: the valuation, and the coordinates of both positions
abbrev pub point_at : List ℤ → Path → List ℤ → List ℤ
point_at params h p = params ++ (picked (columns_of h.left) p ++ picked (columns_of h.right) p)

append_parts : (a b x y : List ℤ) → length a ≡ length b → a ++ x ≡ b ++ y → (a ≡ b) × (x ≡ y)
append_parts [] [] x y l e = (refl, e)
append_parts [] (d ∷ b) x y l e = absurd (omega (arith, l))
append_parts (c ∷ a) [] x y l e = absurd (omega (arith, l))
append_parts (c ∷ a) (d ∷ b) x y l e =
    let h : c ≡ d = cc in
    let t : a ++ x ≡ b ++ y = cc in
    let r = append_parts a b x y (omega (arith, l)) t in
    ((λ i. h i ∷ r.0 i), r.1)

-- a step from the pair at a point of a path
pub record StepAt (pair : Pair) (params : List ℤ) (c : IsCompared pair params) (h : Path) (p : List ℤ) (s t : Spot) (o : Order) (j : Position × Position) (q : List ℤ) : Type 0 where
  pub a : LeftPlaced pair params
  pub b : RightPlaced pair params
  pub a' : LeftPlaced pair params
  pub b' : RightPlaced pair params
  pub from : StandsOn (comparison pair params c) h p a b
  pub left_spot : a.spot ≡ s
  pub right_spot : b.spot ≡ t
  pub to : IsPlaced pair j q params a' b'
  pub steps : StepsTo (comparison pair params c) o a b a' b'

-- and a mismatch there
pub record MismatchAt (pair : Pair) (params : List ℤ) (c : IsCompared pair params) (h : Path) (p : List ℤ) (s t : Spot) : Type 0 where
  pub a : LeftPlaced pair params
  pub b : RightPlaced pair params
  pub from : StandsOn (comparison pair params c) h p a b
  pub left_spot : a.spot ≡ s
  pub right_spot : b.spot ≡ t
  pub mismatch : IsMismatch (comparison pair params c) a b

module _ (pair : Pair) (params : List ℤ) (c : IsCompared pair params) where
  -- that the models describe the executions can be known in several ways
  steps_same : (d : IsCompared pair params) (o : Order) (a a' : LeftPlaced pair params) (b b' : RightPlaced pair params) → StepsTo (comparison pair params d) o a b a' b' → StepsTo (comparison pair params c) o a b a' b'
  steps_same d o a a' b b' (inl s) = inl s
  steps_same d o a a' b b' (inr (inl s)) = inr (inl s)
  steps_same d o a a' b b' (inr (inr s)) = inr (inr (record {
    left = s.left;
    right = s.right;
    one = s.one;
    left_number = s.left_number;
    right_number = s.right_number;
    meet = s.meet;
    left_argument = s.left_argument;
    right_argument = s.right_argument;
  }))

  match_same : (d : IsCompared pair params) (a : LeftPlaced pair params) (b : RightPlaced pair params) → IsMatch (comparison pair params c) a b → IsMatch (comparison pair params d) a b
  match_same d a b (inl m) = inl m
  match_same d a b (inr (inl n)) = inr (inl (record { left = n.left; right = n.right; left_form = n.left_form; right_form = n.right_form; left_is = n.left_is; right_is = n.right_is; equal = n.equal }))
  match_same d a b (inr (inr m)) = inr (inr m)

  mismatch_same : (d : IsCompared pair params) (a : LeftPlaced pair params) (b : RightPlaced pair params) → IsMismatch (comparison pair params d) a b → IsMismatch (comparison pair params c) a b
  mismatch_same d a b m = record { left = m.left; right = m.right; apart = λ x. m.apart (match_same d a b x) }

  -- positions placed at the point stand on the path
  stands_at : (h : Path) (p : List ℤ) (s t : Spot) → OnPath (comparison pair params c) h p s t → (a : LeftPlaced pair params) (b : RightPlaced pair params) → IsPlaced pair (positions_at h) (point_at params h p) params a b
      → (a.spot ≡ s) × (b.spot ≡ t) × StandsOn (comparison pair params c) h p a b
  stands_at h p s t on a b i =
      let m = model_of pair.left pair.context in
      let n = model_of pair.right pair.context in
      let x = picked (columns_of h.left) p in
      let y = picked (columns_of h.right) p in
      let X = execution pair.left m params in
      let Y = execution pair.right n params in
      let e : x ++ y ≡ a.at ++ b.at = append_cancel_left params (x ++ y) (a.at ++ b.at) i.point_is in
      let lx : length x ≡ coordinate_count m h.left.position = at_width m params X c.left h.left.position x s on.left in
      let la : length a.at ≡ coordinate_count m a.position = at_width m params X c.left a.position a.at a.spot a.here in
      let z = append_parts x a.at y b.at (lx ∙ sym (la ∙ ap (coordinate_count m) i.left_is)) e in
      let l : At X h.left.position x a.spot = subst (λ (w : List ℤ). At X h.left.position w a.spot) (sym z.0) (subst (λ (P : Position). At X P a.at a.spot) i.left_is a.here) in
      let r : At Y h.right.position y b.spot = subst (λ (w : List ℤ). At Y h.right.position w b.spot) (sym z.1) (subst (λ (P : Position). At Y P b.at b.spot) i.right_is b.here) in
      let sl : a.spot ≡ s = at_once m params X c.left h.left.position x a.spot s l on.left in
      let sr : b.spot ≡ t = at_once n params Y c.right h.right.position y b.spot t r on.right in (
        sl,
        sr,
        record {
          on = subst (λ (w : Spot). OnPath (comparison pair params c) h p w b.spot) (sym sl) (subst (λ (w : Spot). OnPath (comparison pair params c) h p s w) (sym sr) on);
          left = record { position_is = i.left_is; at_is = sym z.0; spot_is = refl };
          right = record { position_is = i.right_is; at_is = sym z.1; spot_is = refl };
        },
      )

  -- one valuation stands at the head of the point
  one_valuation : (ps : List ℤ) → IsCompared pair ps → (x y : List ℤ) → params ++ x ≡ ps ++ y → params ≡ ps
  one_valuation ps d x y e = (append_parts params ps x y (c.valuation.each ∙ sym d.valuation.each) e).0

  pub step_at : (h : Path) (p : List ℤ) (s t : Spot) → OnPath (comparison pair params c) h p s t → (o : Order) (j : Position × Position) (q : List ℤ) → IsStepPair pair o (positions_at h) (point_at params h p) j q
      → StepAt pair params c h p s t (order_at pair (positions_at h) o) j q
  step_at h p s t on o j q st =
      by st.params (one_valuation st.params st.compared (picked (columns_of h.left) p ++ picked (columns_of h.right) p) (st.a.at ++ st.b.at) st.from.point_is) st.compared st.a st.a' st.b st.b' st.from st.to st.steps
    where
      by : (ps : List ℤ) → params ≡ ps → (d : IsCompared pair ps) (a a' : LeftPlaced pair ps) (b b' : RightPlaced pair ps) → IsPlaced pair (positions_at h) (point_at params h p) ps a b → IsPlaced pair j q ps a' b'
          → StepsTo (comparison pair ps d) (order_at pair (positions_at h) o) a b a' b' → StepAt pair params c h p s t (order_at pair (positions_at h) o) j q
      by ps e = subst (λ (ps : List ℤ). (d : IsCompared pair ps) (a a' : LeftPlaced pair ps) (b b' : RightPlaced pair ps) → IsPlaced pair (positions_at h) (point_at params h p) ps a b → IsPlaced pair j q ps a' b'
          → StepsTo (comparison pair ps d) (order_at pair (positions_at h) o) a b a' b' → StepAt pair params c h p s t (order_at pair (positions_at h) o) j q) e
          (λ d a a' b b' f g k. let z = stands_at h p s t on a b f in record { a = a; b = b; a' = a'; b' = b'; from = z.2; left_spot = z.0; right_spot = z.1; to = g; steps = steps_same d (order_at pair (positions_at h) o) a a' b b' k })

  pub mismatch_at : (h : Path) (p : List ℤ) (s t : Spot) → OnPath (comparison pair params c) h p s t → IsMismatchPair pair (positions_at h) (point_at params h p) → MismatchAt pair params c h p s t
  mismatch_at h p s t on m =
      by m.there.params (one_valuation m.there.params m.there.compared (picked (columns_of h.left) p ++ picked (columns_of h.right) p) (m.there.a.at ++ m.there.b.at) m.there.placed.point_is) m.there.compared m.there.a m.there.b m.there.placed m.mismatch
    where
      by : (ps : List ℤ) → params ≡ ps → (d : IsCompared pair ps) (a : LeftPlaced pair ps) (b : RightPlaced pair ps) → IsPlaced pair (positions_at h) (point_at params h p) ps a b → IsMismatch (comparison pair ps d) a b → MismatchAt pair params c h p s t
      by ps e = subst (λ (ps : List ℤ). (d : IsCompared pair ps) (a : LeftPlaced pair ps) (b : RightPlaced pair ps) → IsPlaced pair (positions_at h) (point_at params h p) ps a b → IsMismatch (comparison pair ps d) a b → MismatchAt pair params c h p s t) e
          (λ d a b f k. let z = stands_at h p s t on a b f in record { a = a; b = b; from = z.2; left_spot = z.0; right_spot = z.1; mismatch = mismatch_same d a b k })

  -- the pair of a path is there
  pub pair_at : (h : Path) (p : List ℤ) (s t : Spot) → OnPath (comparison pair params c) h p s t → PairAt pair (positions_at h) (point_at params h p)
  pair_at h p s t on = record {
    params = params;
    compared = c;
    a = record { position = h.left.position; at = picked (columns_of h.left) p; spot = s; here = on.left };
    b = record { position = h.right.position; at = picked (columns_of h.right) p; spot = t; here = on.right };
    placed = record { left_is = refl; right_is = refl; point_is = refl };
  }

-- ---- where nothing steps

-- it neither reads nor calls
abbrev pub Rests : (x : Execution) → Placed x → Type 0
Rests x a = (¬ IsReader x a) × (¬ CallPlace x a)

no_number_reads : (es : List Entry) (s : Spot) (c : Cell) (before : List Entry) → Reads es s c before → (w : Writer) (e : IndexExpr) → s ≡ AtNode w (Number e) → ⊥
no_number_reads es s c before (an_output d) w e i = absurd cc
no_number_reads es s c before (an_access u array subs place) w e i = absurd cc

no_start_reads : (es : List Entry) (s : Spot) (c : Cell) (before : List Entry) → Reads es s c before → (d : Cell) → s ≡ AtStart d → ⊥
no_start_reads es s c before (an_output d) e i = absurd cc
no_start_reads es s c before (an_access u array subs place) e i = absurd cc

pub number_rests : (x : Execution) (a : Placed x) (w : Writer) (e : IndexExpr) → a.spot ≡ AtNode w (Number e) → Rests x a
number_rests x a w e i = (
  λ r. no_number_reads x.trace a.spot r.0 r.1 r.2 w e i,
  λ c. let k : AtNode c.writer c.value ≡ AtNode w (Number e) = sym c.spot_is ∙ i in let j : c.value ≡ Number e = cc in subst (λ (v : Value). IsCallOf v c.node c.symbol c.arguments) j c.is_call,
)

pub start_rests : (x : Execution) (a : Placed x) (d : Cell) → a.spot ≡ AtStart d → Rests x a
start_rests x a d i = (
  λ r. no_start_reads x.trace a.spot r.0 r.1 r.2 d i,
  λ c. let k : AtNode c.writer c.value ≡ AtStart d = sym c.spot_is ∙ i in absurd cc,
)

pub no_step : (pair : Pair) (params : List ℤ) (c : IsCompared pair params) (o : Order) (a a' : LeftPlaced pair params) (b b' : RightPlaced pair params) → Rests (execution pair.left (model_of pair.left pair.context) params) a
    → Rests (execution pair.right (model_of pair.right pair.context) params) b → StepsTo (comparison pair params c) o a b a' b' → ⊥
no_step pair params c o a a' b b' l r (inl s) = l.0 s.1.0
no_step pair params c o a a' b b' l r (inr (inl s)) = r.0 s.2.0
no_step pair params c o a a' b b' l r (inr (inr s)) = l.1 s.left
