-- A search that finds no point shows that there is none, and what a stop hands back.
use Rattle.std.proofs.Common.{◌≡◌, ℕ, ◌+◌, ℤ, List, Some, None, Bool, true, false, cond, refl, subst}
use Rattle.ac_forms.specs.NormalForm.{normal_conj}
use Rattle.ac_forms.specs.Rows.{IsWellMade}
use Rattle.ac_forms.specs.RangeTests.{rows_fit}
use Rattle.ac_forms.specs.declared.conj.Conj.{Conj}
use Rattle.ac_forms.proofs.Joining.{form_keeps}
use Rattle.ac_omega_steps.specs.IntegerPoints.{IsPoint}
use Rattle.ac_omega.specs.Decisions.{walk_of}
use Rattle.ac_omega.specs.ColumnElimination.{elimination, eliminating}
use Rattle.ac_omega.specs.Maxima.{Maxima, nothing_met, with_rows}
use Rattle.ac_omega.specs.WalkAnswers.{columns_to}
use Rattle.ac_omega.specs.Walk as def
use Rattle.ac_omega_steps.proofs.LeftMade.{conj_made}
use Rattle.ac_omega.proofs.Projecting.{gone-empty}
use Rattle.ac_omega_certify.specs.declared.strategy.Strategy.{Strategy}

same-method : (strategy : Strategy) (vars : List ℕ) → eliminating strategy vars ≡ elimination strategy vars
unfolding elimination
same-method strategy vars = refl

from-normal : (strategy : Strategy) (t : Bool) (b : ℕ) (q : Conj) (k : ℕ) (s : Maxima)
    → def.entered (cond t (Some (normal_conj q)) None) (λ c. def.walk (eliminating strategy (columns_to c.columns)) (b + 1) b c 0 (with_rows q.rows nothing_met)) ≡ def.Empty k s
    → def.walk (eliminating strategy (columns_to q.columns)) (b + 1) b (normal_conj q) 0 (with_rows q.rows nothing_met) ≡ def.Empty k s
from-normal strategy true b q k s e = e
from-normal strategy false b q k s e = absurd cc

pub gone-none : (strategy : Strategy) (b : ℕ) (q : Conj) (k : ℕ) (s : Maxima) → IsWellMade q → walk_of strategy b q ≡ def.Empty k s → (p : List ℤ) → IsPoint q p → ⊥
gone-none strategy b q k s made e p at =
    let vars = columns_to q.columns in
    let w = subst (λ m. def.walk m (b + 1) b (normal_conj q) 0 (with_rows q.rows nothing_met) ≡ def.Empty k s) (same-method strategy vars) (from-normal strategy (rows_fit q.rows) b q k s e) in
    gone-empty strategy vars b (normal_conj q) 0 (conj_made q made) (b + 1) k (with_rows q.rows nothing_met) s w p at.long ((form_keeps q.columns q.rows p made).1 at.meets)
