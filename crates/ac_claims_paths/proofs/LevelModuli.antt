-- Each modulus of the levels is at least 1.
use Rattle.std.proofs.Common.{◌≡◌, ℕ, zero, suc, ◌+◌, List, [], ◌∷◌, Some, subst, arith}
use Rattle.std.specs.Prelude.{slice_get, nat_lt}
use Rattle.std.specs.List.{AllByRecursion}
use Rattle.ac_forms.specs.Rows.{HaveModuli, AreRowsOver}
use Rattle.ac_forms.specs.declared.row.Row.{Row}
use Rattle.ac_poly.specs.declared.types.StmtModel.{StmtModel}
use Rattle.ac_poly.proofs.LevelRows.{levels_have_columns}
use Rattle.ac_claims_paths.specs.InstanceCoordinates.{width, levels_before}

rows_moduli : (n : ℕ) (rows : List Row) → AreRowsOver n rows → HaveModuli rows
rows_moduli n [] h = tt
rows_moduli n (r ∷ rows) h = (h.0.1, rows_moduli n rows h.1)

moduli_at : (n : ℕ) (qs : List (List Row)) → AllByRecursion (AreRowsOver n) qs → (k : ℕ) (rows : List Row) → slice_get qs k ≡ Some rows → HaveModuli rows
moduli_at n [] h k rows e = absurd cc
moduli_at n (q ∷ qs) h zero rows e = let i : q ≡ rows = cc in subst HaveModuli i (rows_moduli n q h.0)
moduli_at n (q ∷ qs) h (suc k) rows e = moduli_at n qs h.1 k rows e

pub levels_moduli : (params u : ℕ) (first : StmtModel) (s : ℕ) (second : StmtModel) (k : ℕ) (rows : List Row) → slice_get (levels_before params u first s second) k ≡ Some rows → HaveModuli rows
levels_moduli params u first s second k rows e =
    moduli_at (params + width first + width second) (levels_before params u first s second)
    (levels_have_columns params (params + width first) (params + width first + width second) first.loops second.loops (nat_lt u s) (omega arith) (omega arith)) k rows e
