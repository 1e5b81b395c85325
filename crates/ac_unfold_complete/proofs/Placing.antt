-- The pair of a question at one of its points, and where it is placed.
use Rattle.std.proofs.Common.{◌≡◌, ℕ, ℤ, List, [], ◌∷◌, ◌++◌, length, refl, sym, ap, ◌∙◌, subst}
use Rattle.ac_forms.specs.Renaming.{picked}
use Rattle.ac_syntax.specs.declared.tree.Position.{Position}
use Rattle.ac_omega_steps.specs.IntegerPoints.{IsPoint}
use Rattle.ac_claims_paths.specs.PathColumns.{base, columns_of}
use Rattle.ac_claims_paths.specs.Executions.{At, execution}
use Rattle.ac_claims_paths.specs.WellFormedPaths.{IsFormed}
use Rattle.ac_claims_paths.specs.Pairs.{StandsOn}
use Rattle.ac_claims_paths.specs.declared.path.Path.{Path}
use Rattle.ac_claims_paths.specs.declared.path.Seat.{Seat}
use Rattle.ac_claims_paths.proofs.Moving.{InColumns}
use Rattle.ac_claims_paths.proofs.OnPaths.{base_columns, in-append, pick_more, seat_columns}
use Rattle.ac_graph.specs.PairMoves.{pairing_of}
use Rattle.ac_graph.specs.GraphMeaning.{IsCompared, LeftPlaced, RightPlaced, comparison}
use Rattle.ac_widen_programs.specs.PairSetting.{IsPlaced, coordinate_count}
use Rattle.ac_widen_programs.proofs.PositionModels.{at_width}
use Rattle.ac_widen_programs.specs.PairPaths.{Unfolding, pair_of, params_of, point_of, seats_of}
use Rattle.ac_widen_programs.proofs.Picks.{base_many, how_many, pick_pair}
use Rattle.ac_unfold_complete.specs.FinePairs.{PairOf}
use Rattle.ac_unfold_complete.proofs.Bare.{bare}

-- two lists are the same in parts, where the first parts are as long
same_parts : (x y z w : List ℤ) → length x ≡ length z → x ++ y ≡ z ++ w → (x ≡ z) × (y ≡ w)
same_parts [] y [] w l e = (refl, e)
same_parts [] y (b ∷ z) w l e = absurd cc
same_parts (a ∷ x) y [] w l e = absurd cc
same_parts (a ∷ x) y (b ∷ z) w l e =
    let h : a ≡ b = cc in
    let t : x ++ y ≡ z ++ w = cc in
    let m : length x ≡ length z = cc in
    let r = same_parts x y z w m t in
    ((λ i. h i ∷ r.0 i), r.1)

-- the pair is that of the question at the point
pub record IsThere (u : Unfolding) (q : Path) (p : List ℤ) (x : PairOf) : Type 0 where
  pub formed : IsFormed (params_of u) (bare q)
  pub point : IsPoint q.conj p
  pub wide : q.left.width ≡ coordinate_count (pairing_of u.pair).left q.left.position
  pub is : x ≡ pair_of (params_of u) p (seats_of q)

-- so it stands on the question, wherever it is placed
pub stands_on : (u : Unfolding) (q : Path) (p : List ℤ) (x : PairOf) → IsThere u q p x → (params : List ℤ) (c : IsCompared u.pair params) (a : LeftPlaced u.pair params) (b : RightPlaced u.pair params) → IsPlaced u.pair x.0 x.1 params a b → StandsOn (comparison u.pair params c) (bare q) p a b
stands_on u q p x t params c a b h =
    let n = params_of u in
    let l = (pairing_of u.pair).left in
    let r = (pairing_of u.pair).right in
    let v = picked (base n) p in
    let y = picked (columns_of q.left) p in
    let z = picked (columns_of q.right) p in
    let left_is : a.position ≡ q.left.position = h.left_is ∙ ap (λ (w : PairOf). w.0.0) t.is in
    let right_is : b.position ≡ q.right.position = h.right_is ∙ ap (λ (w : PairOf). w.0.1) t.is in
    let point : v ++ (y ++ z) ≡ params ++ (a.at ++ b.at) = sym (pick_pair n q.left q.right p) ∙ sym (ap (λ (w : PairOf). w.1) t.is) ∙ h.point_is in
    let first = same_parts v (y ++ z) params (a.at ++ b.at) (base_many n p ∙ sym c.valuation.each) point in
    let count : length a.at ≡ coordinate_count l q.left.position = at_width l params (execution u.pair.left l params) c.left a.position a.at a.spot a.here ∙ ap (coordinate_count l) left_is in
    let second = same_parts y z a.at b.at (how_many q.left p ∙ t.wide ∙ sym count) first.1 in
    record {
      on = record {
        point = t.point;
        starts = first.0;
        left = subst (λ (w : List ℤ). At (execution u.pair.left l params) q.left.position w a.spot) (sym second.0) (subst (λ (P : Position). At (execution u.pair.left l params) P a.at a.spot) left_is a.here);
        right = subst (λ (w : List ℤ). At (execution u.pair.right r params) q.right.position w b.spot) (sym second.1) (subst (λ (P : Position). At (execution u.pair.right r params) P b.at b.spot) right_is b.here);
        last = tt;
      };
      left = record { position_is = left_is; at_is = sym second.0; spot_is = refl };
      right = record { position_is = right_is; at_is = sym second.1; spot_is = refl };
    }

-- and where it stands on a question, it is the pair of it
pub comes_there : (u : Unfolding) (q : Path) (p params : List ℤ) (c : IsCompared u.pair params) (a : LeftPlaced u.pair params) (b : RightPlaced u.pair params) → IsFormed (params_of u) (bare q) → StandsOn (comparison u.pair params c) q p a b → (x : PairOf) → IsPlaced u.pair x.0 x.1 params a b → IsThere u q p x
comes_there u q p params c a b formed st x h =
    let n = params_of u in
    let l = (pairing_of u.pair).left in
    let left_is : x.0.0 ≡ q.left.position = sym h.left_is ∙ st.left.position_is in
    let right_is : x.0.1 ≡ q.right.position = sym h.right_is ∙ st.right.position_is in
    let point : x.1 ≡ point_of n p (seats_of q) = h.point_is ∙ (λ i. sym st.on.starts i ++ (st.left.at_is i ++ st.right.at_is i)) ∙ sym (pick_pair n q.left q.right p) in
    let count : length a.at ≡ coordinate_count l q.left.position = at_width l params (execution u.pair.left l params) c.left a.position a.at a.spot a.here ∙ ap (coordinate_count l) st.left.position_is in
    record {
      formed = formed;
      point = st.on.point;
      wide = sym (how_many q.left p) ∙ ap (λ (w : List ℤ). length w) (sym st.left.at_is) ∙ count;
      is = λ i. ((left_is i, right_is i), point i);
    }

-- the columns of a pair of seats
seats_in : (n : ℕ) (q : Path) → IsFormed n (bare q) → InColumns (base n ++ (columns_of q.left ++ columns_of q.right)) q.conj.columns
seats_in n q i =
    in-append (base n) (columns_of q.left ++ columns_of q.right) q.conj.columns (base_columns n q.conj.columns i.base_in)
    (in-append (columns_of q.left) (columns_of q.right) q.conj.columns (seat_columns q.left q.conj.columns i.left_in) (seat_columns q.right q.conj.columns i.right_in))

-- it is that of a question with further rows and columns, too
pub grows_there : (u : Unfolding) (q d : Path) (p more : List ℤ) (x : PairOf) → IsThere u q p x → IsFormed (params_of u) (bare d) → seats_of d ≡ seats_of q → IsPoint d.conj (p ++ more) → IsThere u d (p ++ more) x
grows_there u q d p more x t formed e point =
    let n = params_of u in
    let l = (pairing_of u.pair).left in
    let same : point_of n p (seats_of q) ≡ point_of n (p ++ more) (seats_of q) = sym (pick_more (base n ++ (columns_of q.left ++ columns_of q.right)) p more q.conj.columns t.point.long (seats_in n q t.formed)) in
    record {
      formed = formed;
      point = point;
      wide = subst (λ (s : Seat × Seat). s.0.width ≡ coordinate_count l s.0.position) (sym e) t.wide;
      is = t.is ∙ (λ i. ((q.left.position, q.right.position), same i)) ∙ ap (pair_of n (p ++ more)) (sym e);
    }
