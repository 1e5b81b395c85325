-- Where one stands among the choices for a column.
use Rattle.std.specs.Prelude.{◌≡◌, ℕ, ℤ, suc, ◌-◌, ◌<◌, ◌≤◌, ◌^◌, length, false, cond, pos, ◌≤ℤ◌, unsigned_abs, List, [], ◌∷◌, ◌++◌, drop, Option, Some, None}
use Rattle.ac_forms.specs.declared.row.Row.{Row}
use Rattle.ac_omega_steps.specs.declared.choose.Choice.TheVariants as choice
use Rattle.ac_omega_steps.specs.Bounds.{highs, is_one_sided}
use Rattle.ac_omega_steps.specs.ChoiceFits.{sizes_fit}
use Rattle.ac_omega.specs.declared.cursor.Cursor.{Cursor}
use Rattle.ac_omega.specs.declared.cursor.Cursor.TheVariants as at
use Rattle.ac_omega.specs.declared.cursor.Next.{Next}
use Rattle.ac_omega.specs.declared.cursor.Next.TheVariants as next
use Rattle.ac_omega.specs.declared.cursor.Splinters.{Splinters}
use Rattle.ac_omega_certify.specs.Alternatives.{Alternatives, residues_from, splinters_from, splinters, greatest_size}
use Rattle.ac_omega_certify.specs.declared.strategy.Strategy.{Strategy}
use Rattle.ac_omega_certify.specs.declared.strategy.Strategy.TheVariants.{Full, Economical}

-- what is kept for all lower rows: the greatest size of an upper row, where each has its splinters for that one
abbrev pub kept_for : Strategy → ℕ → List Row → Option ℤ
kept_for Full z rows = cond (sizes_fit (highs z rows)) (Some (greatest_size (highs z rows))) None
kept_for Economical z rows = None

-- the splinters of a row that are left, then those of the rows behind it
abbrev pub splinters_at : Strategy → ℕ → List Row → Splinters → Alternatives
splinters_at s z rows x = splinters_from (x.count - x.next) z x.row x.next ++ splinters s z rows (suc x.row) (drop (suc x.row) rows)

-- the choices that are left
abbrev pub alternatives_left : Strategy → ℕ → List Row → Cursor → Alternatives
alternatives_left s z rows (at.Equal i) = Some (choice.Equal z i) ∷ []
alternatives_left s z rows (at.Residue m r) = residues_from (unsigned_abs m - r) z m r
alternatives_left s z rows at.Drop = Some (choice.Drop z) ∷ []
alternatives_left s z rows at.Shadow = Some (choice.Shadow z) ∷ splinters s z rows 0 rows
alternatives_left s z rows (at.Splinter kept x) = splinters_at s z rows x
alternatives_left s z rows (at.Lower kept i) = splinters s z rows i (drop i rows)
alternatives_left s z rows at.Wide = None ∷ []
alternatives_left s z rows at.End = []

-- the numbers of the cursor are such as the rows give
abbrev pub IsSound : Strategy → ℕ → List Row → Cursor → Type 0
IsSound s z rows (at.Equal i) = Unit {0}
IsSound s z rows (at.Residue m r) = pos 0 ≤ℤ m
IsSound s z rows at.Drop = Unit {0}
IsSound s z rows at.Shadow = is_one_sided z rows ≡ false
IsSound s z rows (at.Splinter kept x) = (kept ≡ kept_for s z rows) × (is_one_sided z rows ≡ false) × (x.row < length rows) × (x.count ≤ 2 ^ 127)
IsSound s z rows (at.Lower kept i) = (kept ≡ kept_for s z rows) × (is_one_sided z rows ≡ false)
IsSound s z rows at.Wide = Unit {0}
IsSound s z rows at.End = Unit {0}

-- what comes next of these choices: the first one, with the cursor behind it; a number that is too wide; or none
abbrev pub IsNext : Strategy → ℕ → List Row → Next → Alternatives → Type 0
IsNext s z rows (next.Try h cursor) hs = (hs ≡ Some h ∷ alternatives_left s z rows cursor) × IsSound s z rows cursor
IsNext s z rows next.Wide hs = (rest : Alternatives) × (hs ≡ None ∷ rest)
IsNext s z rows next.End hs = hs ≡ []
