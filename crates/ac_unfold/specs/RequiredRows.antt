-- Rows that have to stand among others.
use Rattle.std.specs.Prelude.{◌≡◌, ℕ, false, true}
use Rattle.ac_forms.specs.NormalForm.{is_absurd}
use Rattle.ac_forms.specs.NormalRows.{normal_row, NormalFits}
use Rattle.ac_forms.specs.Rows.{IsRowOver}
use Rattle.ac_forms.specs.declared.row.Row.{Row}
use Rattle.ac_unfold.specs.declared.decide.Wanted.{Wanted}
use Rattle.ac_unfold.specs.declared.decide.Wanted.TheVariants.{Standing, Absurd, Wide}

-- the row is over these columns, and its normal form is made in `i128` and is met by some point
pub record CanStand (columns : ℕ) (r : Row) : Type 0 where
  pub over : IsRowOver columns r
  pub fits : NormalFits r
  pub met : is_absurd (normal_row r) ≡ false

abbrev pub IsWanted : ℕ → Row → Wanted → Type 0
IsWanted columns r Standing = CanStand columns r
IsWanted columns r Absurd = Unit {0}
IsWanted columns r Wide = Unit {0}

-- why it does not stand: its normal form is absurd, or it has none over these columns
abbrev pub IsRefused : ℕ → Row → Wanted → Type 0
IsRefused columns r Standing = Unit {0}
IsRefused columns r Absurd = is_absurd (normal_row r) ≡ true
IsRefused columns r Wide = IsRowOver columns r → ¬ NormalFits r
