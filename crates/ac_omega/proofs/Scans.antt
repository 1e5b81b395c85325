-- What a walk over rows finds, one row further.
use Rattle.std.proofs.Common.{◌≡◌, ℕ, ◌+◌, List, ◌∷◌, Some, cond, refl, add-one}
use Rattle.ac_forms.specs.declared.row.Row.{Row}
use Rattle.ac_forms.specs.declared.row.Row.TheVariants.{Eq, Div, Ge}
use Rattle.ac_omega_steps.specs.Choices.{is_equality_of}
use Rattle.ac_omega_certify.specs.Alternatives.{first_equality}

pub first-cons : (z i : ℕ) (r : Row) (rs : List Row) → first_equality z i (r ∷ rs) ≡ cond (is_equality_of z (Some r)) (Some i) (first_equality z (i + 1) rs)
first-cons z i (Eq f) rs = rw (add-one i) refl
first-cons z i (Div m f) rs = rw (add-one i) refl
first-cons z i (Ge f) rs = rw (add-one i) refl

pub ruleset first_steps = first-cons
