-- The levels of a model are rows of differences.
use Rattle.std.proofs.Common.{◌≡◌, inl, inr, ℕ, zero, suc, ◌+◌, nat_lt, List, [], ◌∷◌, ◌++◌, length, Option, Some, None, refl, sym, subst}
use Rattle.std.specs.Prelude.{slice_get}
use Rattle.std.specs.List.{AllByRecursion}
use Rattle.ac_forms.specs.declared.row.Row.{Row}
use Rattle.ac_syntax.specs.LoopNests.{common}
use Rattle.ac_syntax.specs.declared.tree.Position.{Position}
use Rattle.ac_syntax.specs.declared.tree.Position.TheVariants.{Output, Node, InitialOutput, InitialNode}
use Rattle.ac_poly.specs.declared.types.Model.{Model}
use Rattle.ac_poly.specs.declared.types.StmtModel.{StmtModel}
use Rattle.ac_claims_paths.specs.PathColumns.{base, columns_of}
use Rattle.ac_claims_paths.specs.InstanceCoordinates.{width, levels_before}
use Rattle.ac_claims_paths.specs.CopyKills.{assignment_at, after_rows}
use Rattle.ac_forms.specs.ListMembers.{IsAmong}
use Rattle.ac_claims_paths.specs.ModelPositions.{levels_at, levels_to}
use Rattle.ac_claims_paths.specs.declared.path.Seat.{Seat}
use Rattle.ac_flow.specs.Writings.{alone, levels_after, levels_after_of, numbers_to, afters}
use Rattle.ac_omega.specs.DifferenceRows.{AreDifferences}
use Rattle.ac_flow_budget.proofs.Named.{of-map, numbered}
use Rattle.ac_flow_budget.proofs.Renamed.{renames}
use Rattle.ac_flow_budget.proofs.Shifted.{levels-differ}

pub all-get : {A : Type 0} (P : A → Type 0) (xs : List A) (k : ℕ) (x : A) → AllByRecursion P xs → slice_get xs k ≡ Some x → P x
all-get P [] k x a e = absurd cc
all-get P (y ∷ ys) zero x a e = let s : y ≡ x = cc in subst P s a.0
all-get P (y ∷ ys) (suc k) x a e = all-get P ys k x a.1 e

before-differ : (params s : ℕ) (first : StmtModel) (u : ℕ) (second : StmtModel) → AllByRecursion (AreDifferences 1) (levels_before params s first u second)
before-differ params s first u second = levels-differ (common first.loops second.loops) params (params + width first) (nat_lt s u) [] tt

at-differ : (m : Model) (u : ℕ) (stmt : StmtModel) (s : ℕ) (o : Option StmtModel) → AllByRecursion (AreDifferences 1) (levels_at m u stmt s o)
at-differ m u stmt s None = tt
at-differ m u stmt s (Some reader) = before-differ m.params u stmt s reader

to-differ : (m : Model) (u : ℕ) (stmt : StmtModel) (reader : Position) → AllByRecursion (AreDifferences 1) (levels_to m u stmt reader)
to-differ m u stmt (Output o) = (tt, tt)
to-differ m u stmt (Node s k) = at-differ m u stmt s (slice_get m.stmts s)
to-differ m u stmt (InitialOutput o) = tt
to-differ m u stmt (InitialNode s k) = tt

pub level-differs : (m : Model) (u : ℕ) (stmt : StmtModel) (reader : Position) (k : ℕ) (level : List Row) → slice_get (levels_to m u stmt reader) k ≡ Some level → AreDifferences 1 level
level-differs m u stmt reader k level e = all-get (AreDifferences 1) (levels_to m u stmt reader) k level (to-differ m u stmt reader) e

-- the rows by which a copy stands after an assumed source
pub record Follows (m : Model) (source : Option Seat) (after : Option ℕ) (u : ℕ) (copy : Seat) (stmt : StmtModel) : Type 0 where
  pub rows : List Row
  pub is : after_rows (alone m) m source after u copy stmt ≡ Some rows
  pub differences : AreDifferences 1 rows

follows-at : (m : Model) (seat copy : Seat) (k u : ℕ) (stmt : StmtModel) (o : Option StmtModel) → slice_get m.stmts (assignment_at seat) ≡ o → IsAmong k (numbers_to (length (levels_after_of m o (assignment_at seat) u stmt))) → Follows m (Some seat) (Some k) u copy stmt
follows-at m seat copy k u stmt None e h = absurd h
follows-at m seat copy k u stmt (Some from) e h =
    let l = numbered (levels_before m.params (assignment_at seat) from u stmt) k h in
    let d = all-get (AreDifferences 1) (levels_before m.params (assignment_at seat) from u stmt) k l.0 (before-differ m.params (assignment_at seat) from u stmt) l.1 in
    let r = renames 1 (base m.params ++ (columns_of seat ++ columns_of copy)) l.0 d in
    record { rows = r.rows; is = rw (e, l.1) r.is; differences = r.differences }

pub follows : (m : Model) (source : Option Seat) (after : Option ℕ) (u : ℕ) (copy : Seat) (stmt : StmtModel) → IsAmong after (afters m source u stmt) → Follows m source after u copy stmt
follows m None after u copy stmt (inl e) = subst (λ (o : Option ℕ). Follows m None o u copy stmt) (sym e) (record { rows = []; is = refl; differences = tt })
follows m None after u copy stmt (inr h) = absurd h
follows m (Some seat) after u copy stmt h =
    let k = of-map (λ (j : ℕ). Some j) after (numbers_to (length (levels_after m seat u stmt))) h in
    subst (λ (o : Option ℕ). Follows m (Some seat) o u copy stmt) (sym k.2) (follows-at m seat copy k.0 u stmt (slice_get m.stmts (assignment_at seat)) refl k.1)
