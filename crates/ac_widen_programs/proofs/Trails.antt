-- A pair path with one pair more.
use Rattle.std.proofs.Common.{◌≡◌, ◌+◌, ℤ, List, [], ◌∷◌, ◌++◌, map, refl, sym, ap, ◌∙◌, subst, arith}
use Rattle.ac_claims_paths.proofs.Moving.{meets-parts}
use Rattle.ac_syntax.specs.declared.tree.Order.{Order}
use Rattle.ac_syntax.specs.declared.tree.Position.{Position}
use Rattle.ac_claims_paths.specs.Pairs.{StepsTo}
use Rattle.ac_claims_paths.specs.declared.path.Path.{Path}
use Rattle.ac_claims_paths.specs.declared.path.Seat.{Seat}
use Rattle.ac_widen.specs.DerivationPaths.{StepsOn}
use Rattle.ac_graph.specs.GraphMeaning.{comparison}
use Rattle.ac_widen_programs.specs.PairSetting.{IsStepPair, order_at}
use Rattle.ac_widen_programs.specs.PairPaths.{Unfolding, ComesTo, StandThere, last_of, pair_of, params_of, point_of, positions_of, seats_of, setting_of}
use Rattle.ac_widen_programs.specs.PairPathSteps.{HasOrdersOf, OrdersMayChange, QuestionsGrow, onward}

last_more : {A : Type 0} (x : A) (xs : List A) (y : A) → last_of x (xs ++ y ∷ []) ≡ y
last_more x [] y = refl
last_more x (z ∷ xs) y = last_more z xs y

-- a step from one pair of seats to another, at a point
abbrev pub Step : Unfolding → List ℤ → Seat × Seat → Seat × Seat → Type 0
Step u p s t = IsStepPair u.pair (u.order (positions_of s)) (positions_of s) (point_of (params_of u) p s) (positions_of t) (point_of (params_of u) p t)

-- the steps from a pair of seats on
abbrev pub Steps : Unfolding → List ℤ → Seat × Seat → List (Seat × Seat) → Type 0
Steps u p s rest = StepsOn (setting_of u) u.order (positions_of s) (point_of (params_of u) p s) (map (pair_of (params_of u) p) rest)

steps_more : (u : Unfolding) (p : List ℤ) (s : Seat × Seat) (rest : List (Seat × Seat)) (t : Seat × Seat) → Steps u p s rest → Step u p (last_of s rest) t → Steps u p s (rest ++ t ∷ [])
steps_more u p s [] t h step = (step, tt)
steps_more u p s (r ∷ rest) t h step = (h.0, steps_more u p r rest t h.1 step)

-- the pair path goes on by a step
pub goes_on : (u : Unfolding) (pair_path : List (Seat × Seat)) (q b : Path) (p : List ℤ) → ComesTo u pair_path q p → Step u p (seats_of q) (seats_of b) → StandThere u p (seats_of b) → ComesTo u (onward pair_path b) b p
goes_on u pair_path q b p c step here = record {
  first = c.first;
  rest = c.rest ++ seats_of b ∷ [];
  pair_path_is = ap (λ (ss : List (Seat × Seat)). ss ++ seats_of b ∷ []) c.pair_path_is;
  last_is = last_more c.first c.rest (seats_of b);
  start = c.start;
  steps = steps_more u p c.first c.rest (seats_of b) c.steps (subst (λ (s : Seat × Seat). Step u p s (seats_of b)) (sym c.last_is) step);
  here = here;
}

-- a path with the same seats
pub same_seats : (u : Unfolding) (pair_path : List (Seat × Seat)) (q d : Path) (p : List ℤ) → seats_of q ≡ seats_of d → ComesTo u pair_path q p → ComesTo u pair_path d p
same_seats u pair_path q d p e c = record { first = c.first; rest = c.rest; pair_path_is = c.pair_path_is; last_is = c.last_is ∙ e; start = c.start; steps = c.steps; here = subst (StandThere u p) e c.here }

pub questions_grow : QuestionsGrow
questions_grow u pair_path q more rows leads p long meets = same_seats u pair_path q _ p refl (leads p (omega (arith, long)) (meets-parts q.conj.rows rows p meets).0)

-- ---- other orders

-- the same unfolding by another order
abbrev by_order : Unfolding → (Position × Position → Order) → Unfolding
by_order u order = record u { order = order }

other_step : (u : Unfolding) (order : Position × Position → Order) (p : List ℤ) (s t : Seat × Seat) → order_at u.pair (positions_of s) (order (positions_of s)) ≡ order_at u.pair (positions_of s) (u.order (positions_of s)) → Step u p s t → Step (by_order u order) p s t
other_step u order p s t e h = record {
  params = h.params;
  compared = h.compared;
  a = h.a;
  b = h.b;
  a' = h.a';
  b' = h.b';
  from = h.from;
  to = h.to;
  steps = subst (λ (o : Order). StepsTo (comparison u.pair h.params h.compared) o h.a h.b h.a' h.b') (sym e) h.steps;
}

other_steps : (u : Unfolding) (order : Position × Position → Order) (p : List ℤ) (s : Seat × Seat) (rest : List (Seat × Seat)) → HasOrdersOf u order (s ∷ rest) → Steps u p s rest → Steps (by_order u order) p s rest
other_steps u order p s [] o h = tt
other_steps u order p s (t ∷ rest) o h = (other_step u order p s t o.0 h.0, other_steps u order p t rest o.1 h.1)

pub orders_may_change : OrdersMayChange
orders_may_change u order pair_path q p to o = record {
  first = to.first;
  rest = to.rest;
  pair_path_is = to.pair_path_is;
  last_is = to.last_is;
  start = record { left_is = to.start.left_is; right_is = to.start.right_is; there = to.start.there; meets = to.start.meets };
  steps = other_steps u order p to.first to.rest (subst (HasOrdersOf u order) to.pair_path_is o) to.steps;
  here = to.here;
}
