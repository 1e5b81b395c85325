-- Elimination of columns as a method of a walk, and the pieces of a question.
use Rattle.std.specs.Prelude.{ℕ, ◌+◌, cond, pos, List, [], replicate, Option, Some, None}
use Rattle.ac_forms.specs.NormalForm.{normal_conj}
use Rattle.ac_forms.specs.RangeTests.{rows_fit}
use Rattle.ac_forms.specs.declared.conj.Conj.{Conj}
use Rattle.ac_omega_steps.specs.declared.choose.Choice.{Choice}
use Rattle.ac_omega_steps.specs.Choices.{are_absurd, lifted}
use Rattle.ac_omega_steps.specs.ChoiceFits.{after_choice, lift_fits}
use Rattle.ac_omega.specs.ColumnChoice.{next_column}
use Rattle.ac_omega.specs.ConjunctionCosts.{cost_of}
use Rattle.ac_omega.specs.Maxima.{Maxima, with_rows, with_choice}
use Rattle.ac_omega.specs.Sweep.{Projected, into, sweep}
use Rattle.ac_omega_certify.specs.Alternatives.{alternatives_for}
use Rattle.ac_omega_certify.specs.declared.strategy.Strategy.{Strategy}
use Rattle.ac_omega.specs.Walk.{Method, Node, Done, Absurd, Open}

-- the choices for the next column; without one, all columns are 0 where no row is left
abbrev pub look_at : Strategy → Conj → Option ℕ → Node Choice
look_at s c (Some z) = Open (alternatives_for s z c.rows)
look_at s c None = Done (replicate c.columns (pos 0))

abbrev pub look : Strategy → List ℕ → Conj → Node Choice
look s vars c = cond (are_absurd c.rows) Absurd (look_at s c (next_column s vars c.rows))

abbrev pub eliminating : Strategy → List ℕ → Method Conj Choice Maxima
eliminating s vars = record {
  size = λ c. cost_of s vars c.rows;
  look = λ c. look s vars c;
  step = λ c h. after_choice h c;
  lift = λ c h p. cond (lift_fits h c.rows p) (Some (lifted h c.rows p)) None;
  note = λ c met. with_rows c.rows met;
  mark = λ h met. with_choice h met;
}

-- the same, under a name that proofs need not look into
unfoldable pub elimination : Strategy → List ℕ → Method Conj Choice Maxima
elimination s vars = eliminating s vars

-- the normal form, where its numbers stay in `i128`
abbrev pub normal_of : Conj → Option Conj
normal_of c = cond (rows_fit c.rows) (Some (normal_conj c)) None

-- the pieces of a question, from its normal form on
abbrev pub pieces_of : Strategy → List ℕ → ℕ → Conj → Projected Conj Choice
pieces_of s vars budget question = into (normal_of question) (λ c. sweep (elimination s vars) (budget + 1) budget [] c 0)
