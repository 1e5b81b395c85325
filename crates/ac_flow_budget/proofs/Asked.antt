-- Questions of differences over at most 22 columns: the walk comes to an answer, and the elimination to pieces.
use Rattle.std.proofs.Common.{◌≡◌, ◌⊎◌, inl, inr, ℕ, zero, suc, ◌+◌, ◌-◌, ◌*◌, ◌<◌, ◌≤◌, ◌^◌, lit<, lit≤, cond, Bool, true, false, ℤ, List, [], ◌∷◌, length, Some, None, Ok, Err, arith, refl, subst}
use Rattle.std.specs.List.{AllByRecursion}
use Rattle.ac_forms.specs.NormalForm.{normal_conj}
use Rattle.ac_forms.specs.Rows.{CanTest, IsWellMade}
use Rattle.ac_forms.specs.RangeTests.{rows_fit}
use Rattle.ac_forms.specs.declared.conj.Conj.{Conj}
use Rattle.ac_forms.specs.declared.row.Row.{Row}
use Rattle.ac_forms.specs.declared.row.Row.TheVariants.{Eq, Div, Ge}
use Rattle.ac_omega_certify.specs.declared.strategy.Strategy.{Strategy}
use Rattle.ac_omega.specs.EliminationAnswers.{parts, saturated}
use Rattle.ac_omega.specs.Decisions.{walk_of, IsWide, IsSpent, IsLarge}
use Rattle.ac_omega.specs.DifferenceRows.{AreDifferences, AreAllDifferences}
use Rattle.ac_omega.specs.ColumnElimination.{eliminating, elimination, normal_of, pieces_of}
use Rattle.ac_omega.specs.Maxima.{nothing_met, with_rows, with_form}
use Rattle.ac_omega.specs.declared.extent.Maxima.{Maxima}
use Rattle.ac_omega.specs.Projection.{AllEmpty}
use Rattle.ac_omega.specs.Replays.{AreOver}
use Rattle.ac_omega.specs.WalkAnswers.{columns_to}
use Rattle.ac_omega.specs.Sweep as whole
use Rattle.ac_omega.specs.Walk.{Walked, Empty, Found, Spent, Wide, entered, walk}
use Rattle.ac_omega.specs.declared.piece.Piece.{Piece}
use Rattle.ac_omega.specs.declared.pieces.Stop.TheVariants as stop
use Rattle.ac_omega.proofs.AllColumns.{all-below}
use Rattle.ac_omega.proofs.DifferenceRows.{IsOver, IsRaw, Each}
use Rattle.ac_omega.proofs.DifferenceNormals.{rows-fit}
use Rattle.ac_omega.proofs.DifferencePoints.{AreWithin, can-evaluate}
use Rattle.ac_omega.proofs.DifferenceWalks.{cost, cost-step, grown, normal-standing, AreSmall, form-small, Comes}
use Rattle.ac_omega.proofs.DifferencePaths.{Frame, Stage, walk-comes}
use Rattle.ac_omega.proofs.DifferenceQuestions.{below, length-below, question-raw, grown-upto, grown-sixty, cube-is, few-times}
use Rattle.ac_omega.proofs.DifferenceSweeps.{differences-eliminate, differences-left}
use Rattle.ac_omega.proofs.Empties.{all-gone}
use Rattle.ac_omega.proofs.Replays.{result-over}
use Rattle.ac_omega.proofs.Sweeps.{into-parts, sweep-done}
use Rattle.ac_flow.specs.CopyProjection.{columns_from}
use Rattle.ac_flow.proofs.Projections.{has-all}
use Rattle.std.proofs.lemmas.List.FromFn.{length-range_with_len}
use Rattle.std.proofs.Math.Nat.{pow-succ'}
use Rattle.ac_flow_budget.proofs.Rows.{AreNarrow, rows-more}

-- ---- the rows of a question

IsOne : ℕ → Row → Type 0
IsOne b (Eq f) = IsOver (below 22) b f
IsOne b (Div m f) = ⊥
IsOne b (Ge f) = IsOver (below 22) b f

ones : (b : ℕ) (rs : List Row) → AreNarrow 22 b rs → Each (IsOne b) rs
unfolding IsOne
ones b [] h = tt
ones b (Eq f ∷ rs) h = ((question-raw 22 b (Eq f ∷ []) (h.over.0, tt) (h.differences.0, tt)).0, ones b rs (record { over = h.over.1; differences = h.differences.1 }))
ones b (Div m f ∷ rs) h = absurd h.differences.0
ones b (Ge f ∷ rs) h = ((question-raw 22 b (Ge f ∷ []) (h.over.0, tt) (h.differences.0, tt)).0, ones b rs (record { over = h.over.1; differences = h.differences.1 }))

small : (b top : ℕ) (rs : List Row) (s : Maxima) → Each (IsOne b) rs → b ≤ top → 1 ≤ top → AreSmall top s → AreSmall top (with_rows rs s)
unfolding IsOne
small b top [] s h l m a = a
small b top (Eq f ∷ rs) s h l m a = small b top rs (with_form f s) h.1 l m (form-small (below 22) b top f s h.0 l m a)
small b top (Div k f ∷ rs) s h l m a = absurd h.0
small b top (Ge f ∷ rs) s h l m a = small b top rs (with_form f s) h.1 l m (form-small (below 22) b top f s h.0 l m a)

tests : (b v : ℕ) (rs : List Row) (p : List ℤ) → Each (IsOne b) rs → AreWithin v p → v + v + b < 2 ^ 127 → CanTest rs p
unfolding IsOne
tests b v [] p h w room = tt
tests b v (Eq f ∷ rs) p h w room = (can-evaluate (below 22) b v f p h.0 w room, λ _. tests b v rs p h.1 w room)
tests b v (Div m f ∷ rs) p h w room = absurd h.0
tests b v (Ge f ∷ rs) p h w room = (can-evaluate (below 22) b v f p h.0 w room, λ _. tests b v rs p h.1 w room)

-- ---- the walk of a question, over whatever columns it is asked

comes : (strategy : Strategy) (budget : ℕ) (q : Conj) → AreNarrow 22 (2 ^ 48) q.rows → Comes (2 ^ 108) budget q.columns 22 0 (walk_of strategy budget q)
comes strategy budget q h = by (rows_fit q.rows) (rows-fit (below 22) (2 ^ 48) q.rows (lit< tt) raw)
  where
    raw : Each (IsRaw (below 22) (2 ^ 48)) q.rows
    raw = question-raw 22 (2 ^ 48) q.rows h.over h.differences

    frame : Frame strategy (2 ^ 108) q.columns (columns_to q.columns)
    frame = record { below = all-below strategy q.columns (columns_to q.columns) refl; one = lit≤ tt; room = lit< tt }

    stage : Stage (2 ^ 108) q.columns 22 (below 22) (2 ^ 48) (normal_conj q)
    stage = record {
      short = omega (arith, length-below 22);
      depth = lit≤ tt;
      columns = refl;
      standing = normal-standing (below 22) (2 ^ 48) q (lit≤ tt) raw;
      one = lit≤ tt;
      grows = subst (λ (x : ℕ). grown 22 (2 ^ 48) ≤ x) grown-sixty (grown-upto 22 60 (2 ^ 48) (lit≤ tt));
    }

    start : AreSmall (2 ^ 108) (with_rows q.rows nothing_met)
    start = small (2 ^ 48) (2 ^ 108) q.rows nothing_met (ones (2 ^ 48) q.rows h) (lit≤ tt) (lit≤ tt) (record { factor = omega arith; number = omega arith })

    by : (t : Bool) → t ≡ true → Comes (2 ^ 108) budget q.columns 22 0 (entered (cond t (Some (normal_conj q)) None) (λ c. walk (eliminating strategy (columns_to c.columns)) (budget + 1) budget c 0 (with_rows q.rows nothing_met)))
    by true e = walk-comes strategy (2 ^ 108) budget q.columns 22 (columns_to q.columns) (below 22) (2 ^ 48) (normal_conj q) (budget + 1) 0 (with_rows q.rows nothing_met) frame stage start (omega arith)
    by false e = absurd cc

comes-as : (strategy : Strategy) (budget : ℕ) (q : Conj) (w : Walked Maxima) → AreNarrow 22 (2 ^ 48) q.rows → walk_of strategy budget q ≡ w → Comes (2 ^ 108) budget q.columns 22 0 w
comes-as strategy budget q w h e = subst (λ (v : Walked Maxima). Comes (2 ^ 108) budget q.columns 22 0 v) e (comes strategy budget q h)

pub never-wide : (strategy : Strategy) (budget : ℕ) (q : Conj) → AreNarrow 22 (2 ^ 48) q.rows → IsWide q (walk_of strategy budget q) → ⊥
never-wide strategy budget q h (inl e) = comes-as strategy budget q Wide h e
never-wide strategy budget q h (inr (p, e, n)) = n (tests (2 ^ 48) (22 * 2 ^ 108) q.rows p (ones (2 ^ 48) q.rows h) (comes-as strategy budget q (Found p) h e).0 (lit< tt))

-- the greatest cost
last-cost : cost 22 ≡ 24334
unfolding cost
last-cost = refl

up-or-last : (n m : ℕ) → n ≤ suc m → (n ≤ m) ⊎ (n ≡ suc m)
up-or-last n m l = grind arith

cost-upto : (m n : ℕ) → n ≤ m → cost n ≤ cost m
cost-upto zero n l = let e : n ≡ 0 = omega arith in rw e (omega arith)
cost-upto (suc m) n l = by (up-or-last n m l) (λ k. cost-upto m n k)
  where
    by : (n ≤ m) ⊎ (n ≡ suc m) → (n ≤ m → cost n ≤ cost m) → cost n ≤ cost (suc m)
    by (inl k) next = let a = next k in let b = cost-step m in omega (arith, a, b)
    by (inr e) next = rw e (omega arith)

cost-most : (n : ℕ) → n ≤ 22 → cost n ≤ 24334
cost-most n l = let a = cost-upto 22 n l in omega (arith, a, last-cost)

pub never-spent : (strategy : Strategy) (budget k : ℕ) (q : Conj) → 24334 ≤ budget → AreNarrow 22 (2 ^ 48) q.rows → IsSpent k (walk_of strategy budget q) → ⊥
never-spent strategy budget k q enough h (j, e, m) =
    let c : budget < 0 + cost 22 = comes-as strategy budget q (Spent j) h e in
    omega (arith, c, last-cost, enough)

pub gone-cost : (strategy : Strategy) (budget k : ℕ) (s : Maxima) (q : Conj) → AreNarrow 22 (2 ^ 48) q.rows → walk_of strategy budget q ≡ Empty k s → k ≤ 24334
gone-cost strategy budget k s q h e =
    let c : k ≤ 0 + cost 22 = (comes-as strategy budget q (Empty k s) h e).0 in
    omega (arith, c, last-cost)

most-rooms : 2 ^ 108 ≤ 2 ^ 120
most-rooms = lit≤ tt

pub never-large : (strategy : Strategy) (budget : ℕ) (q : Conj) → AreNarrow 22 (2 ^ 48) q.rows → IsLarge (walk_of strategy budget q) → ⊥
never-large strategy budget q h (k, s, e, l) =
    let a = (comes-as strategy budget q (Empty k s) h e).1 in
    let m = few-times s.factor s.number (2 ^ 120) a.factor (omega (arith, a.number, most-rooms)) in
    omega (arith, l, m)

-- ---- the pieces that are left behind an elimination

pub pieces-fit : (strategy : Strategy) (vars : List ℕ) (budget : ℕ) (q : Conj) → IsWellMade q → q.columns ≤ 22 → AreDifferences (2 ^ 48) q.rows → pieces_of strategy vars budget q ≡ whole.Wide → ⊥
pieces-fit strategy vars budget q made few d e = differences-eliminate strategy (Err (stop.Overflow q)) q vars budget made (e, refl) (omega arith) d

pub pieces-cost : (strategy : Strategy) (vars : List ℕ) (budget j : ℕ) (q : Conj) → 24334 ≤ budget → IsWellMade q → q.columns ≤ 22 → AreDifferences (2 ^ 48) q.rows → pieces_of strategy vars budget q ≡ whole.Spent j → ⊥
pieces-cost strategy vars budget j q enough made few d e =
    let s : budget < 2 * (q.columns + 1) ^ 3 = differences-eliminate strategy (Err (stop.Spent q (saturated j))) q vars budget made (refl, j, e, refl) (omega arith) d in
    let c : budget < cost q.columns = subst (λ (x : ℕ). budget < x) (cube-is q.columns) s in
    omega (arith, c, cost-most q.columns few, enough)

twice-power : (n : ℕ) → 2 ^ suc n ≡ 2 ^ n + 2 ^ n
twice-power n = rw (pow-succ' 2 n) (omega arith)

power-upto : (m n b : ℕ) → n ≤ m → 2 ^ n * b ≤ 2 ^ m * b
power-upto zero n b l = let e : n ≡ 0 = omega arith in rw e (omega arith)
power-upto (suc m) n b l = by (up-or-last n m l) (λ k. power-upto m n b k)
  where
    more : (x b : ℕ) → x * b ≤ (x + x) * b
    more x b = omega arith

    by : (n ≤ m) ⊎ (n ≡ suc m) → (n ≤ m → 2 ^ n * b ≤ 2 ^ m * b) → 2 ^ n * b ≤ 2 ^ suc m * b
    by (inl k) next = let a = next k in let c : 2 ^ m * b ≤ 2 ^ suc m * b = rw (twice-power m) (more (2 ^ m) b) in omega (arith, a, c)
    by (inr e) next = rw e (omega arith)

power-most : (n : ℕ) → n ≤ 6 → 2 ^ n * 2 ^ 34 ≤ 2 ^ 40
power-most n l = power-upto 6 n (2 ^ 34) l

all-narrow : (n b c : ℕ) (ps : List Piece) → b ≤ c → AreOver n ps → AreAllDifferences b ps → AllByRecursion (λ (piece : Piece). AreNarrow n c piece.rest.rows) ps
all-narrow n b c [] l o d = tt
all-narrow n b c (p ∷ ps) l o d = (record { over = o.0; differences = rows-more b c p.rest.rows l d.0 }, all-narrow n b c ps l o.1 d.1)

gone : (strategy : Strategy) (vars : List ℕ) (budget cost : ℕ) (q : Conj) (ps : List Piece) → pieces_of strategy vars budget q ≡ whole.Pieces (parts ps) cost → AllEmpty vars ps
gone strategy vars budget cost q ps e =
    let t = into-parts (normal_of q) (λ c. whole.sweep (elimination strategy vars) (budget + 1) budget [] c 0) (parts ps) cost e in
    all-gone strategy vars ps (sweep-done (elimination strategy vars) (budget + 1) budget [] t.0 0 cost (parts ps) t.2)

pub pieces-narrow : (strategy : Strategy) (first budget cost : ℕ) (q : Conj) (ps : List Piece) → IsWellMade q → first ≤ q.columns → q.columns ≤ first + 6 → q.columns ≤ 22 → AreDifferences (2 ^ 34) q.rows
    → pieces_of strategy (columns_from first q) budget q ≡ whole.Pieces (parts ps) cost → AllByRecursion (λ (piece : Piece). AreNarrow first (2 ^ 40) piece.rest.rows) ps
pieces-narrow strategy first budget cost q ps made low near few d e =
    let vars = columns_from first q in
    let long : length vars ≤ 6 = let l = length-range_with_len first (q.columns - first) in omega (arith, l) in
    let o = result-over strategy first vars budget q (Ok ps) made (has-all first q low) (cost, e) (gone strategy vars budget cost q ps e) in
    let a = differences-left strategy (Ok ps) q vars budget (2 ^ 34) made (cost, e) (omega arith) (lit≤ tt) (lit≤ tt) d in
    all-narrow first (2 ^ length vars * 2 ^ 34) (2 ^ 40) ps (power-most (length vars) long) o a
