-- The copy and the choices of a kill are the same on a path as over its case's own columns.
use Rattle.std.proofs.Common.{◌≡◌, ℕ, ◌+◌, ◌-◌, ◌≤◌, nat_le, Bool, true, false, cond, List, [], ◌∷◌, map, Option, Some, None, refl, sym, ap, ◌∙◌, arith}
use Rattle.std.specs.Prelude.{nat_eq, slice_get, option_and_then}
use Rattle.ac_forms.specs.declared.conj.Conj.{Conj}
use Rattle.ac_forms.specs.declared.row.Row.{Row}
use Rattle.ac_omega_steps.specs.Choices.{column_of}
use Rattle.ac_omega_steps.specs.declared.choose.Choice.{Choice}
use Rattle.ac_omega_steps.specs.declared.choose.Choice.TheVariants as choice
use Rattle.ac_base.proofs.Options.{bind-some, if-some}
use Rattle.ac_syntax.specs.Outputs.{swaps_of}
use Rattle.ac_poly.specs.declared.types.Model.{Model}
use Rattle.ac_poly.specs.declared.types.StmtModel.{StmtModel}
use Rattle.ac_claims_paths.specs.PathColumns.{appended}
use Rattle.ac_claims_paths.specs.InstanceCoordinates.{width}
use Rattle.ac_claims_paths.specs.PathSteps.{Pairing, model_of, root, case_rows}
use Rattle.ac_claims_paths.specs.CopyKills.{after_rows, copy_rows, case_width, source_width, seat_from, source_from, with_own_columns, normal_of, copy_of, by_column, taken_legally, chosen, all_chosen}
use Rattle.ac_claims_paths.specs.ModelPositions.{cell_read, levels_to}
use Rattle.ac_claims_paths.specs.declared.path.Assumed.{Assumed}
use Rattle.ac_claims_paths.specs.declared.path.Seat.{Seat}
use Rattle.ac_claims_paths.specs.declared.places.CellForms.{CellForms}
use Rattle.ac_claims_paths.specs.declared.path.Side.TheVariants.{Left}
use Rattle.ac_flow.specs.FlowCases.{Reads}
use Rattle.ac_flow.specs.Writings.{alone}
use Rattle.ac_flow.specs.declared.types.Case.{Case}
use Rattle.ac_flow.specs.KillAcceptance.{assumed_by, IsAssumedOn, behind}
use Rattle.ac_flow.proofs.KillParts.{own_source}
use Rattle.ac_flow.proofs.Replaying.{le-true}

-- ---- the copy

-- one program, at so many parameters
abbrev one : ℕ → Model → Pairing
one params m = record { params = params; left = m; right = m; swaps = swaps_of [] }

abbrev assumes : Seat → Option Seat → Assumed
assumes reader source = record { side = Left; reader = reader; source = source }

after_same : (g : Pairing) (m : Model) (source : Option Seat) (after : Option ℕ) (u : ℕ) (seat : Seat) (stmt : StmtModel) → after_rows g m source after u seat stmt ≡ after_rows (one g.params m) m source after u seat stmt
after_same g m None None u seat stmt = refl
after_same g m None (Some level) u seat stmt = refl
after_same g m (Some source) None u seat stmt = refl
after_same g m (Some source) (Some level) u seat stmt = refl

rows_same : (g : Pairing) (a : Assumed) (n u piece : ℕ) (after : Option ℕ) (before : ℕ) (stmt : StmtModel)
    → copy_rows g a n u piece after before stmt ≡ copy_rows (one g.params (model_of g a.side)) (assumes a.reader a.source) n u piece after before stmt
rows_same g a n u piece after before stmt =
    let m = model_of g a.side in
    let seat = root n u stmt in
    λ i. option_and_then
    (λ (cell : CellForms).
    cond (nat_eq stmt.array cell.array)
    (option_and_then (λ (rows : List Row). option_and_then (λ (level : List Row). appended (case_rows g.params a.reader cell seat stmt rows level) (after_same g m a.source after u seat stmt i)) (slice_get (levels_to m u stmt a.reader.position) before)) (slice_get stmt.pieces piece))
    None)
    (cell_read m a.reader.position)

-- the copy over a case's own columns, by the parts on which it rests
abbrev own_copy : ℕ → Model → Seat → Option Seat → ℕ → ℕ → ℕ → Option ℕ → ℕ → Option Conj
own_copy params m reader source n u piece after before =
    option_and_then (λ (stmt : StmtModel). option_and_then (normal_of (n + width stmt)) (copy_rows (one params m) (assumes reader source) n u piece after before stmt)) (slice_get m.stmts u)

copy_parts : (g : Pairing) (a : Assumed) (u piece : ℕ) (after : Option ℕ) (before : ℕ)
    → copy_of g a u piece after before ≡ own_copy g.params (model_of g a.side) (seat_from g.params a.reader) (source_from (g.params + a.reader.width) a.source) (case_width g.params a) u piece after before
copy_parts g a u piece after before =
    let n = case_width g.params a in
    λ i. option_and_then (λ (stmt : StmtModel). option_and_then (normal_of (n + width stmt)) (rows_same g (with_own_columns g.params a) n u piece after before stmt i)) (slice_get (model_of g a.side).stmts u)

width_from : (k : ℕ) (o : Option Seat) → source_width (source_from k o) ≡ source_width o
width_from k None = refl
width_from k (Some seat) = refl

pub width_same : (g : Pairing) (a : Assumed) (m : Model) (b : Assumed) → IsAssumedOn g a m b → case_width g.params a ≡ case_width m.params b
width_same g a m b o =
    let w : a.reader.width ≡ b.reader.width = ap (λ (s : Seat). s.width) o.reader in
    let v : source_width a.source ≡ source_width b.source = sym (width_from (m.params + a.reader.width) a.source) ∙ ap source_width o.source in
    λ i. o.params i + (w i + v i)

pub copy_same : (g : Pairing) (a : Assumed) (m : Model) (r : Reads) (case : Case) → IsAssumedOn g a m (assumed_by m r case) → (u piece : ℕ) (after : Option ℕ) (before : ℕ) → copy_of g a u piece after before ≡ copy_of (alone m) (assumed_by m r case) u piece after before
copy_same g a m r case o u piece after before =
    let b = assumed_by m r case in
    let reader : seat_from g.params a.reader ≡ b.reader = ap (λ p. seat_from p a.reader) o.params ∙ o.reader in
    let source : source_from (g.params + a.reader.width) a.source ≡ b.source = ap (λ p. source_from (p + a.reader.width) a.source) o.params ∙ o.source in
    copy_parts g a u piece after before
    ∙ (λ i. own_copy (o.params i) (o.model i) (reader i) (source i) (width_same g a m b o i) u piece after before)
    ∙ (λ i. own_copy m.params m b.reader (sym (own_source m r case) i) (case_width m.params b) u piece after before)
    ∙ sym (copy_parts (alone m) b u piece after before)

-- ---- its choices

named_by : (z : ℕ) (x : Choice) → column_of (by_column z x) ≡ z
named_by z (choice.Drop y) = refl
named_by z (choice.Equal y i) = refl
named_by z (choice.Residue y m r) = refl
named_by z (choice.Shadow y) = refl
named_by z (choice.Splinter y i k) = refl

by_twice : (y z : ℕ) (x : Choice) → by_column y (by_column z x) ≡ by_column y x
by_twice y z (choice.Drop w) = refl
by_twice y z (choice.Equal w i) = refl
by_twice y z (choice.Residue w m r) = refl
by_twice y z (choice.Shadow w) = refl
by_twice y z (choice.Splinter w i k) = refl

one_behind : (own columns : ℕ) (x : Choice) (c d : Conj) → chosen own own x c ≡ Some d → chosen columns own (behind own columns x) c ≡ Some d
one_behind own columns x c d e =
    let z = columns + (column_of x - own) in
    let same : own + (z - columns) ≡ own + (column_of x - own) = omega arith in
    let taken = (if-some (nat_le own (column_of x)) (taken_legally (by_column (own + (column_of x - own)) x) c) d e).1 in
    ap (λ j. cond (nat_le columns j) (taken_legally (by_column (own + (j - columns)) (by_column z x)) c) None) (named_by z x)
    ∙ ap (λ b. cond b (taken_legally (by_column (own + (z - columns)) (by_column z x)) c) None) (le-true columns z (omega arith))
    ∙ ap (λ (y : Choice). taken_legally y c) (by_twice (own + (z - columns)) z x ∙ ap (λ j. by_column j x) same) ∙ taken

pub all_behind : (own columns : ℕ) (xs : List Choice) (c d : Conj) → all_chosen own own xs c ≡ Some d → all_chosen columns own (map (behind own columns) xs) c ≡ Some d
all_behind own columns [] c d e = e
all_behind own columns (x ∷ xs) c d e =
    let s = bind-some (chosen own own x c) (λ (y : Conj). all_chosen own own xs y) d e in
    ap (option_and_then (λ (y : Conj). all_chosen columns own (map (behind own columns) xs) y)) (one_behind own columns x c s.0 s.1) ∙ all_behind own columns xs s.0 d s.2
