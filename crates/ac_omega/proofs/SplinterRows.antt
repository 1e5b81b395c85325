-- The splinters of one row.
use Rattle.std.specs.Prelude.{ℕ, [], ◌∷◌, Option, Some, None}
use Rattle.ac_omega_certify.specs.Alternatives.{Alternatives, splinters_from}

-- that many splinters of row i, or a number that is too wide
abbrev pub row_splinters : ℕ → ℕ → Option ℕ → Alternatives
row_splinters z i (Some count) = splinters_from count z i 0
row_splinters z i None = None ∷ []
