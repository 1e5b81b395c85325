-- The walk of a question of differences, from its own rows on.
use Rattle.std.proofs.Common.{◌≡◌, ℕ, zero, suc, ◌+◌, ◌*◌, ◌<◌, ◌≤◌, ◌^◌, ◌==◌, lit<, lit≤, cond, Bool, true, false, ◌||◌, ℤ, pos, List, [], ◌∷◌, length, Some, None, arith, refl, ap, sym, subst, ◌∙◌, add-one}
use Rattle.std.proofs.lemmas.List.{get_or_past}
use Rattle.std.proofs.Math.Nat.{pow-succ', pow-zero}
use borrow.Author.Tests.{eq-eqb}
use Rattle.ac_forms.specs.Affine.{Affine}
use Rattle.ac_forms.specs.NormalForm.{normal_conj}
use Rattle.ac_forms.specs.Rows.{AreRowsOver, IsWellMade, CanTest}
use Rattle.ac_forms.specs.RangeTests.{rows_fit}
use Rattle.ac_forms.specs.declared.conj.Conj.{Conj}
use Rattle.ac_forms.specs.declared.row.Row.{Row}
use Rattle.ac_forms.specs.declared.row.Row.TheVariants.{Eq, Div, Ge}
use Rattle.ac_omega.specs.Decisions.{walk_of}
use Rattle.ac_omega.specs.DifferenceRows.{IsDifferenceWithin, AreDifferences}
use Rattle.ac_omega.specs.ColumnElimination.{eliminating}
use Rattle.ac_omega.specs.Maxima.{Maxima, nothing_met, with_form, with_rows}
use Rattle.ac_omega.specs.Projection.{is_among}
use Rattle.ac_omega.specs.WalkAnswers.{columns_to}
use Rattle.ac_omega.specs.Walk.{Walked, Empty, Found, Spent, Wide, entered, walk}
use Rattle.ac_omega.proofs.AllColumns.{all-below}
use Rattle.ac_omega.proofs.DifferenceRows.{IsOver, IsRaw, Each}
use Rattle.ac_omega.proofs.DifferenceNormals.{rows-fit}
use Rattle.ac_omega.proofs.DifferencePoints.{AreWithin, can-evaluate}
use Rattle.ac_omega.proofs.DifferenceWalks.{cost, grown, grown-least, normal-standing, AreSmall, form-small, Comes}
use Rattle.ac_omega.proofs.DifferencePaths.{Frame, Stage, times-room, walk-comes}
use Rattle.ac_omega_certify.specs.declared.strategy.Strategy.{Strategy}

-- the columns below n
pub below : ℕ → List ℕ
below zero = []
below (suc n) = n ∷ below n

pub length-below : (n : ℕ) → length (below n) ≡ n
unfolding below
length-below zero = refl
length-below (suc n) = ap suc (length-below n)

outside : (n j : ℕ) → is_among j (below n) ≡ false → n ≤ j
unfolding below
outside zero j a = omega arith
outside (suc n) j a = by (j == n) refl (outside n j) a
  where
    apart : {t : Bool} → t ≡ true → t ≡ false → ⊥
    apart e f = cc

    by : (t : Bool) → (j == n) ≡ t → (is_among j (below n) ≡ false → n ≤ j) → (t || is_among j (below n)) ≡ false → suc n ≤ j
    by true e i a = absurd cc
    by false e i a =
        let l = i a in
        let d : j ≡ n → ⊥ = λ s. apart (eq-eqb j n s) e in
        omega arith

-- the question's rows
question-over : (n b : ℕ) (f : Affine) → IsDifferenceWithin b f → length f.coefs ≤ n → IsOver (below n) b f
question-over n b f d l = record {
  difference = d.0;
  within = λ j a. get_or_past f.coefs j (pos 0) (omega (arith, outside n j a));
  small = d.1;
}

pub question-raw : (n b : ℕ) (rs : List Row) → AreRowsOver n rs → AreDifferences b rs → Each (IsRaw (below n) b) rs
question-raw n b [] w d = tt
question-raw n b (Eq f ∷ rs) w d = (question-over n b f d.0 w.0.0, question-raw n b rs w.1 d.1)
question-raw n b (Div m f ∷ rs) w d = absurd d.0
question-raw n b (Ge f ∷ rs) w d = (question-over n b f d.0 w.0.0, question-raw n b rs w.1 d.1)

question-small : (n b top : ℕ) (rs : List Row) (s : Maxima) → AreRowsOver n rs → AreDifferences b rs → b ≤ top → 1 ≤ top → AreSmall top s → AreSmall top (with_rows rs s)
question-small n b top [] s w d l m a = a
question-small n b top (Eq f ∷ rs) s w d l m a = question-small n b top rs (with_form f s) w.1 d.1 l m (form-small (below n) b top f s (question-over n b f d.0 w.0.0) l m a)
question-small n b top (Div k f ∷ rs) s w d l m a = absurd d.0
question-small n b top (Ge f ∷ rs) s w d l m a = question-small n b top rs (with_form f s) w.1 d.1 l m (form-small (below n) b top f s (question-over n b f d.0 w.0.0) l m a)

question-tests : (n b v : ℕ) (rs : List Row) (p : List ℤ) → AreRowsOver n rs → AreDifferences b rs → AreWithin v p → v + v + b < 2 ^ 127 → CanTest rs p
question-tests n b v [] p w d h room = tt
question-tests n b v (Eq f ∷ rs) p w d h room = (can-evaluate (below n) b v f p (question-over n b f d.0 w.0.0) h room, λ _. question-tests n b v rs p w.1 d.1 h room)
question-tests n b v (Div m f ∷ rs) p w d h room = absurd d.0
question-tests n b v (Ge f ∷ rs) p w d h room = (can-evaluate (below n) b v f p (question-over n b f d.0 w.0.0) h room, λ _. question-tests n b v rs p w.1 d.1 h room)

-- the greatest constants
pub grown-upto : (m n b : ℕ) → m ≤ n → grown m b ≤ grown n b
unfolding grown
grown-upto zero n b l = grown-least n b
grown-upto (suc m) zero b l = absurd (omega arith)
grown-upto (suc m) (suc n) b l = grown-upto m n (b + b) (omega arith)

pub grown-sixty : grown 60 (2 ^ 48) ≡ 2 ^ 108
unfolding grown
grown-sixty = refl

question-comes : (strategy : Strategy) (budget : ℕ) (q : Conj) → IsWellMade q → q.columns ≤ 60 → AreDifferences (2 ^ 48) q.rows → Comes (2 ^ 108) budget q.columns q.columns 0 (walk_of strategy budget q)
question-comes strategy budget q made l d = by (rows_fit q.rows) (rows-fit (below q.columns) (2 ^ 48) q.rows (lit< tt) raw)
  where
    raw : Each (IsRaw (below q.columns) (2 ^ 48)) q.rows
    raw = question-raw q.columns (2 ^ 48) q.rows made d

    frame : Frame strategy (2 ^ 108) q.columns (columns_to q.columns)
    frame = record { below = all-below strategy q.columns (columns_to q.columns) refl; one = lit≤ tt; room = lit< tt }

    stage : Stage (2 ^ 108) q.columns q.columns (below q.columns) (2 ^ 48) (normal_conj q)
    stage = record {
      short = omega (arith, length-below q.columns);
      depth = l;
      columns = refl;
      standing = normal-standing (below q.columns) (2 ^ 48) q (lit≤ tt) raw;
      one = lit≤ tt;
      grows = subst (λ (x : ℕ). grown q.columns (2 ^ 48) ≤ x) grown-sixty (grown-upto q.columns 60 (2 ^ 48) l);
    }

    small : AreSmall (2 ^ 108) (with_rows q.rows nothing_met)
    small = question-small q.columns (2 ^ 48) (2 ^ 108) q.rows nothing_met made d (lit≤ tt) (lit≤ tt) (record { factor = omega arith; number = omega arith })

    by : (t : Bool) → t ≡ true → Comes (2 ^ 108) budget q.columns q.columns 0 (entered (cond t (Some (normal_conj q)) None) (λ c. walk (eliminating strategy (columns_to c.columns)) (budget + 1) budget c 0 (with_rows q.rows nothing_met)))
    by true e = walk-comes strategy (2 ^ 108) budget q.columns q.columns (columns_to q.columns) (below q.columns) (2 ^ 48) (normal_conj q) (budget + 1) 0 (with_rows q.rows nothing_met) frame stage small (omega arith)
    by false e = absurd cc

-- the clauses
pub cube-is : (n : ℕ) → 2 * (n + 1) ^ 3 ≡ cost n
unfolding cost
cube-is n = rw (add-one n) (ap (λ (x : ℕ). 2 * x) (third (suc n)))
  where
    third : (x : ℕ) → x ^ 3 ≡ x * (x * x)
    third x = pow-succ' x 2 ∙ ap (λ (y : ℕ). x * y) (pow-succ' x 1 ∙ ap (λ (y : ℕ). x * y) (pow-succ' x 0 ∙ once x))
      where
        once : (x : ℕ) → x * x ^ 0 ≡ x
        once x = rw (pow-zero x) (omega arith)

comes-as : (strategy : Strategy) (budget : ℕ) (q : Conj) (w : Walked Maxima) → IsWellMade q → q.columns ≤ 60 → AreDifferences (2 ^ 48) q.rows → walk_of strategy budget q ≡ w → Comes (2 ^ 108) budget q.columns q.columns 0 w
comes-as strategy budget q w made l d e =
    let P : Walked Maxima → Type 0 = λ v. Comes (2 ^ 108) budget q.columns q.columns 0 v in
    subst P e (question-comes strategy budget q made l d)

pub never-wide : (strategy : Strategy) (budget : ℕ) (q : Conj) → IsWellMade q → q.columns ≤ 60 → AreDifferences (2 ^ 48) q.rows → walk_of strategy budget q ≡ Wide → ⊥
never-wide strategy budget q made l d e = comes-as strategy budget q Wide made l d e

pub never-spent : (strategy : Strategy) (budget : ℕ) (q : Conj) (k : ℕ) → IsWellMade q → q.columns ≤ 60 → AreDifferences (2 ^ 48) q.rows → 2 * (q.columns + 1) ^ 3 ≤ budget → walk_of strategy budget q ≡ Spent k → ⊥
never-spent strategy budget q k made l d m e =
    let c : budget < 0 + cost q.columns = comes-as strategy budget q (Spent k) made l d e in
    let n : cost q.columns ≤ budget = subst (λ (x : ℕ). x ≤ budget) (cube-is q.columns) m in
    omega arith

pub gone-cost : (strategy : Strategy) (budget : ℕ) (q : Conj) (k : ℕ) (s : Maxima) → IsWellMade q → q.columns ≤ 60 → AreDifferences (2 ^ 48) q.rows → walk_of strategy budget q ≡ Empty k s → k ≤ 2 * (q.columns + 1) ^ 3
gone-cost strategy budget q k s made l d e =
    let c : k ≤ 0 + cost q.columns = (comes-as strategy budget q (Empty k s) made l d e).0 in
    subst (λ (x : ℕ). k ≤ x) (sym (cube-is q.columns)) (omega arith)

pub few-times : (a b n : ℕ) → a ≤ 1 → b ≤ n → a * b ≤ n
few-times zero b n h g = omega arith
few-times (suc zero) b n h g = omega arith
few-times (suc (suc a)) b n h g = absurd (omega arith)

pub never-large : (strategy : Strategy) (budget : ℕ) (q : Conj) (k : ℕ) (s : Maxima) → IsWellMade q → q.columns ≤ 60 → AreDifferences (2 ^ 48) q.rows → walk_of strategy budget q ≡ Empty k s → s.factor * s.number ≤ 2 ^ 120
never-large strategy budget q k s made l d e =
    let a = (comes-as strategy budget q (Empty k s) made l d e).1 in
    few-times s.factor s.number (2 ^ 120) a.factor (omega (arith, a.number))

pub point-tests : (strategy : Strategy) (budget : ℕ) (q : Conj) (p : List ℤ) → IsWellMade q → q.columns ≤ 60 → AreDifferences (2 ^ 48) q.rows → walk_of strategy budget q ≡ Found p → CanTest q.rows p
point-tests strategy budget q p made l d e =
    let a = (comes-as strategy budget q (Found p) made l d e).0 in
    question-tests q.columns (2 ^ 48) (q.columns * 2 ^ 108) q.rows p made d a (times-room q.columns (2 ^ 108) (2 ^ 48) l (lit≤ tt) (lit< tt))
