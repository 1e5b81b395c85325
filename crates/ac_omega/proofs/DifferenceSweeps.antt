-- The elimination of columns from rows of differences is one path, and the piece that it leaves has rows of differences.
use Rattle.std.proofs.Common.{◌≡◌, ℕ, zero, suc, ◌+◌, ◌*◌, ◌<◌, ◌≤◌, ◌^◌, ◌==◌, lit<, lit≤, nat_lt, cond, Bool, true, false, ◌||◌, List, [], ◌∷◌, ◌++◌, append-nil, length, Option, Some, None, Result, Ok, Err, IfOk, IfErr, arith, refl, ap, sym, subst, ◌∙◌, inl, inr}
use Rattle.std.specs.List.{AllByRecursion}
use Rattle.std.proofs.Math.Nat.{pow-succ', pow-zero}
use borrow.Author.Tests.{ltb-true, eqb-true, eq-eqb}
use Rattle.ac_forms.specs.NormalForm.{normal_conj}
use Rattle.ac_forms.specs.Rows.{IsWellMade}
use Rattle.ac_forms.specs.RangeTests.{rows_fit}
use Rattle.ac_forms.specs.declared.conj.Conj.{Conj}
use Rattle.ac_forms.specs.declared.row.Row.{Row}
use Rattle.ac_forms.specs.declared.row.Row.TheVariants.{Eq, Div, Ge}
use Rattle.ac_omega_steps.specs.Choices.{are_absurd, left_by}
use Rattle.ac_omega_steps.specs.ChoiceFits.{after_choice, raw}
use Rattle.ac_omega_steps.specs.declared.choose.Choice.{Choice}
use Rattle.ac_omega_certify.specs.Alternatives.{Alternatives, alternatives_for}
use Rattle.ac_omega.specs.declared.pieces.Stop.{Stop}
use Rattle.ac_omega.specs.declared.pieces.Stop.TheVariants as stop
use Rattle.ac_omega.specs.declared.piece.Piece.{Piece}
use Rattle.ac_omega.specs.EliminationAnswers.{Eliminates, parts}
use Rattle.ac_omega.specs.ColumnChoice.{next_column}
use Rattle.ac_omega.specs.DifferenceRows.{AreDifferences, AreAllDifferences, StopsBelow}
use Rattle.ac_omega.specs.ConjunctionCosts.{cost_of}
use Rattle.ac_omega.specs.ColumnElimination.{eliminating, elimination, look_at, pieces_of}
use Rattle.ac_omega.specs.Projection.{is_among}
use Rattle.ac_omega.specs.Sweep.{Projected, Pieces, Spent, Wide, onward, into, sweeps, swept, sweep}
use Rattle.ac_omega.specs.Walk.{Absurd}
use Rattle.ac_omega.proofs.Nexts.{next-among}
use Rattle.ac_omega.proofs.Rows.{column-cost}
use Rattle.ac_omega.proofs.DifferenceRows.{IsRow, IsRaw, Each}
use Rattle.ac_omega.proofs.DifferenceNormals.{rows-fit}
use Rattle.ac_omega.proofs.DifferenceChoices.{leave, leave-within}
use Rattle.ac_omega.proofs.DifferenceAlternatives.{OneChoice, one-choice}
use Rattle.ac_omega.proofs.DifferenceNexts.{next-left, leave-less}
use Rattle.ac_omega.proofs.DifferenceWalks.{cost, cost-step, cost-level, grown, grown-least, normal-standing}
use Rattle.ac_omega.proofs.DifferencePaths.{Stage, stage-cost, after-one, next-stage, none-left, double-fits}
use Rattle.ac_omega.proofs.DifferenceQuestions.{below, length-below, question-raw, grown-upto, grown-sixty, cube-is}
use Rattle.ac_omega_certify.specs.declared.strategy.Strategy.{Strategy}

or-first : (a b : Bool) → a ≡ true → (a || b) ≡ true
or-first true b e = refl
or-first false b e = absurd cc

or-second : (a b : Bool) → b ≡ true → (a || b) ≡ true
or-second true b e = refl
or-second false b e = e

or-rest : (a b : Bool) → a ≡ false → (a || b) ≡ true → b ≡ true
or-rest true b e f = absurd cc
or-rest false b e f = f

pub differ : {t : Bool} → t ≡ true → t ≡ false → ⊥
differ e f = cc

-- columns without one of them
left-of : (z j : ℕ) (vars : List ℕ) → is_among j (leave z vars) ≡ true → (j ≡ z → ⊥) × (is_among j vars ≡ true)
unfolding leave
left-of z j [] a = absurd cc
left-of z j (y ∷ ys) a = by (z == y) refl (j == y) refl (left-of z j ys) a
  where
    by : (t : Bool) → (z == y) ≡ t → (u : Bool) → (j == y) ≡ u → (is_among j (leave z ys) ≡ true → (j ≡ z → ⊥) × (is_among j ys ≡ true))
        → is_among j (cond t (leave z ys) (y ∷ leave z ys)) ≡ true → (j ≡ z → ⊥) × (((j == y) || is_among j ys) ≡ true)
    by true e u f i a = let r = i a in (r.0, or-second (j == y) (is_among j ys) r.1)
    by false e true f i a = ((λ s. differ (eq-eqb z y (sym s ∙ eqb-true j y f)) e), or-first (j == y) (is_among j ys) f)
    by false e false f i a = let r = i (or-rest (j == y) (is_among j (leave z ys)) f a) in (r.0, or-second (j == y) (is_among j ys) r.1)

stays-in : (z j : ℕ) (vars : List ℕ) → (j ≡ z → ⊥) → is_among j vars ≡ true → is_among j (leave z vars) ≡ true
stays-in z j vars n a = by (is_among j (leave z vars)) refl
  where
    by : (t : Bool) → is_among j (leave z vars) ≡ t → is_among j (leave z vars) ≡ true
    by true e = e
    by false e = elim (leave-within z j vars e) [ inl s ↦ absurd (n s) | inr s ↦ absurd (differ a s) ]

-- of the columns that go, those that rows may have
record AreAsked (cols vars asked : List ℕ) : Type 0 where
  each : (z : ℕ) → is_among z cols ≡ true → is_among z vars ≡ true → is_among z asked ≡ true

asked-less : (z : ℕ) (cols vars asked : List ℕ) → AreAsked cols vars asked → AreAsked cols (leave z vars) (leave z asked)
asked-less z cols vars asked a = record { each = λ y c l. let r = left-of z y vars l in stays-in z y asked r.0 (a.each y c r.1) }

-- what the walk comes to, from a cost on, where m columns are left
abbrev ComesTo : ℕ → ℕ → ℕ → ℕ → Projected Conj Choice → Type 0
ComesTo budget m k most (Pieces zs j) = (j ≤ k + cost m) × AllByRecursion (λ x. AreDifferences most x.1.rows) zs
ComesTo budget m k most (Spent j) = budget < k + cost m
ComesTo budget m k most Wide = ⊥

comes-back : (budget m k i most : ℕ) (w : Projected Conj Choice) → i + cost m ≤ k + cost (suc m) → ComesTo budget m i most w → ComesTo budget (suc m) k most w
comes-back budget m k i most (Pieces zs j) l h = (omega (arith, h.0), h.1)
comes-back budget m k i most (Spent j) l h = omega arith
comes-back budget m k i most Wide l h = h

are-differences : (vars : List ℕ) (b most : ℕ) (rs : List Row) → Each (IsRow vars b) rs → b ≤ most → AreDifferences most rs
are-differences vars b most [] h l = tt
are-differences vars b most (Eq f ∷ rs) h l = ((h.0.0.difference, omega (arith, h.0.0.small)), are-differences vars b most rs h.1 l)
are-differences vars b most (Div m f ∷ rs) h l = absurd h.0
are-differences vars b most (Ge f ∷ rs) h l = ((h.0.0.difference, omega (arith, h.0.0.small)), are-differences vars b most rs h.1 l)

abbrev going : Strategy → List ℕ → ℕ → ℕ → List Choice → Conj → ℕ → Projected Conj Choice
going strategy cols f budget q d j = sweep (eliminating strategy cols) f budget q d j

-- the choices, where there are some
abbrev OpenComes : Strategy → ℕ → List ℕ → ℕ → ℕ → List Choice → Conj → ℕ → ℕ → Type 0
OpenComes strategy budget cols m most path c fuel k =
    (f z : ℕ) → fuel ≡ suc f → next_column strategy cols c.rows ≡ Some z → ComesTo budget m k most (sweeps (eliminating strategy cols) (going strategy cols f budget) path c (alternatives_for strategy z c.rows) (k + cost_of strategy cols c.rows))

swept-comes : (strategy : Strategy) (top budget n m : ℕ) (cols vars : List ℕ) (b most : ℕ) (path : List Choice) (c : Conj) (f k : ℕ) → Stage top n m vars b c → b ≤ most
    → ((z : ℕ) → next_column strategy cols c.rows ≡ Some z → ComesTo budget m k most (sweeps (eliminating strategy cols) (going strategy cols f budget) path c (alternatives_for strategy z c.rows) (k + cost_of strategy cols c.rows)))
    → (t : Bool) (o : Option ℕ) → next_column strategy cols c.rows ≡ o → ComesTo budget m k most (swept (eliminating strategy cols) (going strategy cols f budget) path c (k + cost_of strategy cols c.rows) (cond t Absurd (look_at strategy c o)))
swept-comes strategy top budget n m cols vars b most path c f k h l open-case true o e = (omega (arith, stage-cost strategy top n m cols vars b c h, cost-level m), tt)
swept-comes strategy top budget n m cols vars b most path c f k h l open-case false None e = (omega (arith, stage-cost strategy top n m cols vars b c h, cost-level m), (are-differences vars b most c.rows h.standing.rows l, tt))
swept-comes strategy top budget n m cols vars b most path c f k h l open-case false (Some z) e = open-case z e

within-comes : (budget m k j most : ℕ) (t : Bool) (w : Projected Conj Choice) → nat_lt budget j ≡ t → j ≤ k + cost m → ComesTo budget m k most w → ComesTo budget m k most (cond t (Spent j) w)
within-comes budget m k j most true w e l h = omega (arith, ltb-true budget j e)
within-comes budget m k j most false w e l h = h

sweep-stage : (strategy : Strategy) (top budget n m : ℕ) (cols vars : List ℕ) (b most : ℕ) (path : List Choice) (c : Conj) (fuel k : ℕ) → Stage top n m vars b c → b ≤ most → budget < fuel + k → OpenComes strategy budget cols m most path c fuel k
    → ComesTo budget m k most (sweep (eliminating strategy cols) fuel budget path c k)
unfolding sweep
sweep-stage strategy top budget n m cols vars b most path c zero k h l e open-case = omega arith
sweep-stage strategy top budget n m cols vars b most path c (suc f) k h l e open-case =
    within-comes budget m k (k + cost_of strategy cols c.rows) most (nat_lt budget (k + cost_of strategy cols c.rows)) _ refl (omega (arith, stage-cost strategy top n m cols vars b c h, cost-level m))
    (swept-comes strategy top budget n m cols vars b most path c f k h l (λ z i. open-case f z refl i) (are_absurd c.rows) (next_column strategy cols c.rows) refl)

-- the one choice
onward-end : (w : Projected Conj Choice) → onward w (λ j. Pieces [] j) ≡ w
onward-end (Pieces xs k) = ap (λ ys. Pieces ys k) (append-nil xs)
onward-end (Spent k) = refl
onward-end Wide = refl

one-swept : (strategy : Strategy) (cols : List ℕ) (go : List Choice → Conj → ℕ → Projected Conj Choice) (path : List Choice) (c d : Conj) (h : Choice) (k : ℕ) → after_choice h c ≡ Some d → sweeps (eliminating strategy cols) go path c (Some h ∷ []) k ≡ go (path ++ h ∷ []) d k
one-swept strategy cols go path c d h k e = onward-end _ ∙ ap (λ (o : Option Conj). into o (λ x. go (path ++ h ∷ []) x k)) e

asked-grown : (z b most : ℕ) (asked : List ℕ) → is_among z asked ≡ true → grown (length asked) b ≤ most → grown (length (leave z asked)) (b + b) ≤ most
unfolding grown
asked-grown z b most asked a l =
    let u : grown (suc (length (leave z asked))) b ≤ grown (length asked) b = grown-upto (suc (length (leave z asked))) (length asked) b (leave-less z asked a) in
    omega (arith, u, l)

choice-comes : (strategy : Strategy) (top budget n m : ℕ) (cols vars : List ℕ) (b most : ℕ) (path : List Choice) (c : Conj) (f z k : ℕ) → 121 * top < 2 ^ 127 → Stage top n (suc m) vars b c → (o : OneChoice strategy vars b z c.rows)
    → ComesTo budget m (k + cost_of strategy cols c.rows) most (sweep (eliminating strategy cols) f budget (path ++ o.one ∷ []) (normal_conj (raw o.one c)) (k + cost_of strategy cols c.rows))
    → ComesTo budget (suc m) k most (sweeps (eliminating strategy cols) (going strategy cols f budget) path c (alternatives_for strategy z c.rows) (k + cost_of strategy cols c.rows))
choice-comes strategy top budget n m cols vars b most path c f z k room h o w =
    let fit = rows-fit (leave z vars) (b + b) (left_by o.one c.rows) (double-fits top n m vars b c h room) o.left in
    let sum : k + cost_of strategy cols c.rows + cost m ≤ k + cost (suc m) = omega (arith, stage-cost strategy top n (suc m) cols vars b c h, cost-step m) in
    let y = comes-back budget m k (k + cost_of strategy cols c.rows) most _ sum w in
    let one = one-swept strategy cols (going strategy cols f budget) path c (normal_conj (raw o.one c)) o.one (k + cost_of strategy cols c.rows) (after-one o.one c o.fits fit) in
    let y1 = subst (λ (v : Projected Conj Choice). ComesTo budget (suc m) k most v) (sym one) y in
    subst (λ (hs : Alternatives). ComesTo budget (suc m) k most (sweeps (eliminating strategy cols) (going strategy cols f budget) path c hs (k + cost_of strategy cols c.rows))) (sym o.tries) y1

sweep-comes : (strategy : Strategy) (top budget n m : ℕ) (cols vars asked : List ℕ) (b most : ℕ) (path : List Choice) (c : Conj) (fuel k : ℕ) → 121 * top < 2 ^ 127 → Stage top n m vars b c → AreAsked cols vars asked → grown (length asked) b ≤ most → budget < fuel + k
    → ComesTo budget m k most (sweep (eliminating strategy cols) fuel budget path c k)
sweep-comes strategy top budget n zero cols vars asked b most path c fuel k room h a g l =
    sweep-stage strategy top budget n zero cols vars b most path c fuel k h (omega (arith, g, grown-least (length asked) b)) l (λ f z e i. absurd (none-left strategy top n cols vars b c z h i))
sweep-comes strategy top budget n (suc m) cols vars asked b most path c fuel k room h a g l =
    sweep-stage strategy top budget n (suc m) cols vars b most path c fuel k h (omega (arith, g, grown-least (length asked) b)) l
    (λ f z e i.
    let o = one-choice strategy vars b z c.rows (double-fits top n m vars b c h room) h.standing.rows in
    let there = a.each z (next-among strategy cols c.rows z i) (next-left strategy vars cols b z c.rows h.standing.rows i) in
    choice-comes strategy top budget n m cols vars b most path c f z k room h o
    (sweep-comes strategy top budget n m cols (leave z vars) (leave z asked) (b + b) most (path ++ o.one ∷ []) (normal_conj (raw o.one c)) f (k + cost_of strategy cols c.rows) room (next-stage strategy top n m cols vars b c z h i o) (asked-less z cols vars asked a) (asked-grown z b most asked there g) (omega (arith, column-cost strategy cols c.rows z i))))

-- the question's walk
grown-more : (n b c : ℕ) → b ≤ c → grown n b ≤ grown n c
unfolding grown
grown-more zero b c l = l
grown-more (suc n) b c l = grown-more n (b + b) (c + c) (omega arith)

grown-power : (n b : ℕ) → grown n b ≡ 2 ^ n * b
unfolding grown
grown-power zero b = rw (pow-zero 2) (omega arith)
grown-power (suc n) b = rw (grown-power n (b + b), pow-succ' 2 n) (twice (2 ^ n))
  where
    twice : (x : ℕ) → x * (b + b) ≡ 2 * x * b
    twice x = omega arith

question-swept : (strategy : Strategy) (budget : ℕ) (q : Conj) (vars : List ℕ) (b : ℕ) → IsWellMade q → q.columns ≤ 60 → 1 ≤ b → b ≤ 2 ^ 48 → AreDifferences b q.rows → ComesTo budget q.columns 0 (2 ^ length vars * b) (pieces_of strategy vars budget q)
unfolding elimination
question-swept strategy budget q vars b made l one most d = by (rows_fit q.rows) (rows-fit (below q.columns) b q.rows (omega (arith, room)) raw)
  where
    room : 2 ^ 48 < 2 ^ 127
    room = lit< tt

    raw : Each (IsRaw (below q.columns) b) q.rows
    raw = question-raw q.columns b q.rows made d

    top : grown q.columns b ≤ 2 ^ 108
    top =
        let x : grown q.columns b ≤ grown q.columns (2 ^ 48) = grown-more q.columns b (2 ^ 48) most in
        let y : grown q.columns (2 ^ 48) ≤ 2 ^ 108 = subst (λ (x : ℕ). grown q.columns (2 ^ 48) ≤ x) grown-sixty (grown-upto q.columns 60 (2 ^ 48) l) in
        omega (arith, x, y)

    stage : Stage (2 ^ 108) q.columns q.columns (below q.columns) b (normal_conj q)
    stage = record {
      short = omega (arith, length-below q.columns);
      depth = l;
      columns = refl;
      standing = normal-standing (below q.columns) b q one raw;
      one = one;
      grows = top;
    }

    by : (t : Bool) → t ≡ true → ComesTo budget q.columns 0 (2 ^ length vars * b) (into (cond t (Some (normal_conj q)) None) (λ c. sweep (eliminating strategy vars) (budget + 1) budget [] c 0))
    by true e =
        sweep-comes strategy (2 ^ 108) budget q.columns q.columns vars (below q.columns) vars b (2 ^ length vars * b) [] (normal_conj q) (budget + 1) 0 (lit< tt) stage (record { each = λ z c w. c })
        (let p = grown-power (length vars) b in omega (arith, p)) (omega arith)
    by false e = absurd cc

swept-as : (strategy : Strategy) (budget : ℕ) (q : Conj) (vars : List ℕ) (b : ℕ) (w : Projected Conj Choice) → IsWellMade q → q.columns ≤ 60 → 1 ≤ b → b ≤ 2 ^ 48 → AreDifferences b q.rows → pieces_of strategy vars budget q ≡ w → ComesTo budget q.columns 0 (2 ^ length vars * b) w
swept-as strategy budget q vars b w made l one most d e = subst (λ (v : Projected Conj Choice). ComesTo budget q.columns 0 (2 ^ length vars * b) v) e (question-swept strategy budget q vars b made l one most d)

pub differences-eliminate : (strategy : Strategy) (result : Result (List Piece) Stop) (q : Conj) (vars : List ℕ) (budget : ℕ) → IsWellMade q → Eliminates result q (pieces_of strategy vars budget q) → q.columns ≤ 60 → AreDifferences (2 ^ 48) q.rows → IfErr result (StopsBelow q.columns budget)
differences-eliminate strategy (Ok ps) q vars budget made h l d = tt
differences-eliminate strategy (Err (stop.Overflow c)) q vars budget made h l d = swept-as strategy budget q vars (2 ^ 48) Wide made l (lit≤ tt) (lit≤ tt) d h.0
differences-eliminate strategy (Err (stop.Spent c k)) q vars budget made h l d =
    let s : budget < 0 + cost q.columns = swept-as strategy budget q vars (2 ^ 48) (Spent h.1) made l (lit≤ tt) (lit≤ tt) d h.2 in
    subst (λ (x : ℕ). budget < x) (sym (cube-is q.columns)) (omega arith)
differences-eliminate strategy (Err (stop.Memory e)) q vars budget made h l d = tt

all-parts : (most : ℕ) (ps : List Piece) → AllByRecursion (λ x. AreDifferences most x.1.rows) (parts ps) → AreAllDifferences most ps
all-parts most [] a = tt
all-parts most (p ∷ ps) a = (a.0, all-parts most ps a.1)

pub differences-left : (strategy : Strategy) (result : Result (List Piece) Stop) (q : Conj) (vars : List ℕ) (budget b : ℕ) → IsWellMade q → Eliminates result q (pieces_of strategy vars budget q) → q.columns ≤ 60 → 1 ≤ b → b ≤ 2 ^ 48 → AreDifferences b q.rows
    → IfOk result (λ ps. AreAllDifferences (2 ^ length vars * b) ps)
differences-left strategy (Ok ps) q vars budget b made h l one most d = all-parts (2 ^ length vars * b) ps (swept-as strategy budget q vars b (Pieces (parts ps) h.0) made l one most d h.1).1
differences-left strategy (Err s) q vars budget b made h l one most d = tt
