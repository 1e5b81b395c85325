-- A question's walk, and what it decides.
use Rattle.std.proofs.Common.{◌≡◌, inl, ℕ, ◌+◌, ℤ, List, Option, Some, None, Err, Bool, true, false, cond, refl, ◌∙◌, ap, sym, subst}
use Rattle.std.specs.Prelude.{IfSome}
use Rattle.ac_forms.specs.NormalForm.{normal_conj, RowsFit}
use Rattle.ac_forms.specs.Rows.{IsWellMade, Meets}
use Rattle.ac_forms.specs.RangeTests.{rows_fit}
use Rattle.ac_forms.specs.declared.conj.Conj.{Conj}
use Rattle.ac_forms.proofs.Twins.{rows_fit-is}
use Rattle.ac_omega_steps.specs.IntegerPoints.{IsPoint}
use Rattle.ac_omega.specs.declared.halt.Halt.{Halt}
use Rattle.ac_omega.specs.declared.halt.Halt.TheVariants as halt
use Rattle.ac_omega.specs.Decisions.{Decides, walk_of}
use Rattle.ac_omega.specs.ColumnElimination.{eliminating}
use Rattle.ac_omega.specs.Maxima.{Maxima, nothing_met, with_rows}
use Rattle.ac_omega.specs.WalkAnswers.{Searches, IsNormal, IsRefuted, columns_to}
use Rattle.ac_omega.specs.Walk as def
use Rattle.ac_omega.specs.Within.{Bounds, HaveRisen}
use Rattle.ac_omega.proofs.Bounding.{rows-met, rows-on}
use Rattle.ac_omega_certify.specs.Refutations.{IsRefutationOf}
use Rattle.ac_omega_certify.specs.declared.refutation.Refutation.{Refutation}
use Rattle.ac_omega_steps.proofs.LeftMade.{conj_made}
use Rattle.ac_omega_certify.specs.declared.strategy.Strategy.{Strategy}

pub normal-made : (q d : Conj) → IsWellMade q → d ≡ normal_conj q → IsWellMade d
normal-made q d made e = subst IsWellMade (sym e) (conj_made q made)

pub normal-normal : (q d : Conj) → d ≡ normal_conj q → IsNormal d
normal-normal q d e = (q.rows, ap (λ x. x.rows) e)

pub normal-wide : (strategy : Strategy) (budget : ℕ) (q : Conj) → (RowsFit q.rows → ⊥) → walk_of strategy budget q ≡ def.Wide
normal-wide strategy budget q h = by (rows_fit q.rows) refl
  where
    by : (t : Bool) → rows_fit q.rows ≡ t → def.entered (cond t (Some (normal_conj q)) None) (λ c. def.walk (eliminating strategy (columns_to c.columns)) (budget + 1) budget c 0 (with_rows q.rows nothing_met)) ≡ def.Wide
    by true e = absurd (h ((rows_fit-is q.rows).0 e))
    by false e = refl

pub walk-is : (strategy : Strategy) (budget : ℕ) (q d : Conj) (s : Maxima) → RowsFit q.rows → d ≡ normal_conj q → s ≡ with_rows q.rows nothing_met → walk_of strategy budget q ≡ def.walk (eliminating strategy (columns_to d.columns)) (budget + 1) budget d 0 s
walk-is strategy budget q d s f e m = rw ((rows_fit-is q.rows).1 f, e, m) refl

pub err-decides : (e : Halt) (q : Conj) (v w : def.Walked Maxima) → v ≡ w → Searches (Err e) w → Decides (Err e) q v
err-decides halt.Wide q v w s h = inl (s ∙ h)
err-decides (halt.Spent c) q v w s h = (h.0, s ∙ h.1, h.2)
err-decides (halt.Memory e) q v w s h = tt

pub point-back : (q d : Conj) (p : List ℤ) → d ≡ normal_conj q → (Meets d.rows p → Meets q.rows p) → IsPoint d p → IsPoint q p
point-back q d p e m h = record { long = h.long ∙ ap (λ x. x.columns) e; meets = m h.meets }

-- the refutation of the normal form is one of the question
refutation-of : (q d : Conj) (r : Refutation) → RowsFit q.rows → d ≡ normal_conj q → IsRefuted d r → IsRefutationOf q r
refutation-of q d r f e h = record { fits = (rows_fit-is q.rows).1 f; normal = h.conj ∙ e; refutes = h.refutes }

pub refutations-of : (q d : Conj) (r : Option Refutation) → RowsFit q.rows → d ≡ normal_conj q → IfSome r (λ x. IsRefuted d x) → IfSome r (λ x. IsRefutationOf q x)
refutations-of q d None f e h = tt
refutations-of q d (Some r) f e h = refutation-of q d r f e h

-- the question's own numbers are met first
pub question-bound : (q : Conj) (m s : Maxima) → m ≡ with_rows q.rows nothing_met → HaveRisen m s → Bounds s q.rows
question-bound q m s e h = rows-on m s q.rows h (rw e (rows-met q.rows nothing_met))
