-- The branches at a question do not depend on what was assumed last.
use Rattle.std.proofs.Common.{◌≡◌, ◌&&◌, ◌++◌, ℕ, suc, List, [], ◌∷◌, cond, Option, Some, None, refl, ap}
use Rattle.std.specs.Prelude.{option_map}
use Rattle.ac_syntax.specs.declared.tree.Order.{Order}
use Rattle.ac_syntax.specs.declared.tree.Order.TheVariants.{Keep, Swap}
use Rattle.ac_syntax.specs.declared.tree.Position.{Position}
use Rattle.ac_poly.specs.declared.types.Model.{Model}
use Rattle.ac_poly.specs.declared.types.StmtModel.{StmtModel}
use Rattle.ac_claims_paths.specs.PathColumns.{all_of}
use Rattle.ac_claims_paths.specs.WellFormedPaths.{IsFormed}
use Rattle.ac_claims_paths.specs.PathSteps.{Pairing, argument_path, branches, branches_by, branches_of_calls, call_branches, cases_at, cases_from, initial_path, kept, read_branches, same_symbol, swapped}
use Rattle.ac_claims_paths.specs.ModelPositions.{CallAt, call_at, cell_read}
use Rattle.ac_claims_paths.specs.declared.path.Path.{Path}
use Rattle.ac_claims_paths.specs.declared.path.Side.TheVariants.{Left, Right}
use Rattle.ac_claims_paths.specs.declared.places.CellForms.{CellForms}

-- the same question, at which nothing is assumed
abbrev pub bare : Path → Path
bare q = record { conj = q.conj; left = q.left; right = q.right; gone = q.gone; last = None }

pub bare_formed : (n : ℕ) (q : Path) → IsFormed n q → IsFormed n (bare q)
bare_formed n q i = record { made = i.made; base_in = i.base_in; left_in = i.left_in; right_in = i.right_in; last_in = tt }

-- ---- its branches

left_cases : (params : ℕ) (m : Model) (h : Path) (cell : CellForms) (u : ℕ) (stmts : List StmtModel) → cases_from params m (bare h) Left cell u stmts ≡ cases_from params m h Left cell u stmts
left_cases params m h cell u [] = refl
left_cases params m h cell u (stmt ∷ stmts) = ap (λ (os : List (Option Path)). cases_at params m h Left cell u stmt ++ os) (left_cases params m h cell (suc u) stmts)

right_cases : (params : ℕ) (m : Model) (h : Path) (cell : CellForms) (u : ℕ) (stmts : List StmtModel) → cases_from params m (bare h) Right cell u stmts ≡ cases_from params m h Right cell u stmts
right_cases params m h cell u [] = refl
right_cases params m h cell u (stmt ∷ stmts) = ap (λ (os : List (Option Path)). cases_at params m h Right cell u stmt ++ os) (right_cases params m h cell (suc u) stmts)

left_branches : (params : ℕ) (m : Model) (h : Path) (cell : CellForms) → read_branches params m (bare h) Left cell ≡ read_branches params m h Left cell
left_branches params m h cell = ap (λ (os : List (Option Path)). all_of (os ++ Some (initial_path h Left) ∷ [])) (left_cases params m h cell 0 m.stmts)

right_branches : (params : ℕ) (m : Model) (h : Path) (cell : CellForms) → read_branches params m (bare h) Right cell ≡ read_branches params m h Right cell
right_branches params m h cell = ap (λ (os : List (Option Path)). all_of (os ++ Some (initial_path h Right) ∷ [])) (right_cases params m h cell 0 m.stmts)

kept_arguments : (h : Path) (Ps Qs : List Position) → kept (bare h) Ps Qs ≡ kept h Ps Qs
kept_arguments h [] [] = refl
kept_arguments h [] (Q ∷ Qs) = refl
kept_arguments h (P ∷ Ps) [] = refl
kept_arguments h (P ∷ Ps) (Q ∷ Qs) = ap (λ (o : Option (List Path)). option_map (λ rest. argument_path h P Q ∷ rest) o) (kept_arguments h Ps Qs)

swapped_arguments : (h : Path) (Ps Qs : List Position) → swapped (bare h) Ps Qs ≡ swapped h Ps Qs
swapped_arguments h [] Qs = refl
swapped_arguments h (P ∷ []) Qs = refl
swapped_arguments h (P ∷ P' ∷ P'' ∷ Ps) Qs = refl
swapped_arguments h (P ∷ P' ∷ []) [] = refl
swapped_arguments h (P ∷ P' ∷ []) (Q ∷ []) = refl
swapped_arguments h (P ∷ P' ∷ []) (Q ∷ Q' ∷ []) = refl
swapped_arguments h (P ∷ P' ∷ []) (Q ∷ Q' ∷ Q'' ∷ Qs) = refl

both_calls : (g : Pairing) (order : Order) (h : Path) (c d : CallAt) → call_branches g order (bare h) c d ≡ call_branches g order h c d
both_calls g Keep h c d = ap (λ (o : Option (List Path)). cond (same_symbol c.symbol d.symbol) o None) (kept_arguments h c.args d.args)
both_calls g Swap h c d = ap (λ (o : Option (List Path)). cond (same_symbol c.symbol d.symbol && g.swaps c.symbol) o None) (swapped_arguments h c.args d.args)

of_calls : (g : Pairing) (order : Order) (h : Path) (o p : Option CallAt) → branches_of_calls g order (bare h) o p ≡ branches_of_calls g order h o p
of_calls g order h None p = refl
of_calls g order h (Some c) None = refl
of_calls g order h (Some c) (Some d) = both_calls g order h c d

by_cells : (g : Pairing) (order : Order) (h : Path) (o p : Option CellForms) → branches_by g order (bare h) o p ≡ branches_by g order h o p
by_cells g Keep h (Some cell) p = left_branches g.params g.left h cell
by_cells g Swap h (Some cell) p = refl
by_cells g Keep h None (Some cell) = right_branches g.params g.right h cell
by_cells g Swap h None (Some cell) = refl
by_cells g order h None None = of_calls g order h (call_at g.left h.left.position) (call_at g.right h.right.position)

pub bare_branches : (g : Pairing) (order : Order) (h : Path) → branches g order (bare h) ≡ branches g order h
bare_branches g order h = by_cells g order h (cell_read g.left h.left.position) (cell_read g.right h.right.position)
