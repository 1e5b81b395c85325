-- What the loop over assignments keeps.
use Rattle.std.proofs.Common.{◌≡◌, ◌≢◌, ℕ, suc, ◌+◌, ◌<◌, ◌≤◌, List, [], ◌∷◌, ◌++◌, map, drop, length, get_or, Bool, true, false, cond, Some, None, refl, sym, ap, ◌∙◌, arith, append-nil, subst}
use Rattle.std.specs.Prelude.{Result, Ok, nat_eq}
use Rattle.std.specs.List.{flat_map}
use Rattle.std.specs.declared.alloc.AllocError.{AllocError}
use Rattle.std.proofs.lemmas.Bool.Decides.{Decides-eqb}
use Rattle.std.proofs.lemmas.List.{drop_all}
use Rattle.ac_omega_steps.proofs.Parts.{drop-at}
use Rattle.ac_forms.specs.declared.row.Row.{Row}
use Rattle.ac_poly.specs.declared.types.Model.{Model}
use Rattle.ac_poly.specs.declared.types.StmtModel.{StmtModel}
use Rattle.ac_claims_paths.specs.ListExtension.{Adds}
use Rattle.ac_claims_paths.specs.PathSteps.{seat_of, case_path, cases_of, cases_at, cases_from, initial_path, read_branches}
use Rattle.ac_claims_paths.specs.ModelPositions.{CellForms, levels_to}
use Rattle.ac_claims_paths.specs.declared.path.Path.{Path}
use Rattle.ac_claims_paths.specs.declared.path.Side.{Side}
use Rattle.ac_claims_paths.proofs.AddSteps.{Adding, start, part, part_none, end}

-- an assignment of another array
pub at_other : (params : ℕ) (m : Model) (h : Path) (side : Side) (cell : CellForms) (u : ℕ) (stmt : StmtModel) (old new : List Path) → stmt.array ≢ cell.array → new ≡ old → Adds (cases_at params m h side cell u stmt) old new (Ok true)
at_other params m h side cell u stmt old new n e = by (nat_eq stmt.array cell.array) refl
  where
    by : (b : Bool) → nat_eq stmt.array cell.array ≡ b → Adds (cond b (cases_of params m h side cell u stmt) []) old new (Ok true)
    by true q = absurd (n ((Decides-eqb stmt.array cell.array).0 q))
    by false q = ([], refl, e ∙ sym (append-nil old))

-- one of the array
pub at_array : (params : ℕ) (m : Model) (h : Path) (side : Side) (cell : CellForms) (u : ℕ) (stmt : StmtModel) (levels : List (List Row)) (old new : List Path) (r : Result Bool AllocError) → stmt.array ≡ cell.array → levels ≡ levels_to m u stmt (seat_of h side).position
    → Adds (flat_map (λ piece. map (case_path params h side cell u stmt piece) levels) stmt.pieces) old new r → Adds (cases_at params m h side cell u stmt) old new r
at_array params m h side cell u stmt levels old new r a l h' =
    let q : nat_eq stmt.array cell.array ≡ true = (Decides-eqb stmt.array cell.array).1 a in
    subst (λ b. Adds (cond b (cases_of params m h side cell u stmt) []) old new r) (sym q) (subst (λ (ls : List (List Row)). Adds (flat_map (λ piece. map (case_path params h side cell u stmt piece) ls) stmt.pieces) old new r) l h')

pub ruleset one_steps = (at_other, at_array)

-- all assignments
pub record AtStmt (params : ℕ) (m : Model) (h : Path) (side : Side) (cell : CellForms) (stmts : List StmtModel) (old out : List Path) (i : ℕ) : Type 0 where
  pub adding : Adding (cases_from params m h side cell 0 stmts) old out (cases_from params m h side cell i (drop i stmts))

pub stmt_start : (params : ℕ) (m : Model) (h : Path) (side : Side) (cell : CellForms) (stmts : List StmtModel) (old : List Path) → AtStmt params m h side cell stmts old old 0
stmt_start params m h side cell stmts old = record { adding = start (cases_from params m h side cell 0 stmts) old }

front : (params : ℕ) (m : Model) (h : Path) (side : Side) (cell : CellForms) (stmts : List StmtModel) (i : ℕ) (stmt : StmtModel) → i < length stmts → stmt ≡ get_or stmts i stmt
    → cases_from params m h side cell i (drop i stmts) ≡ cases_at params m h side cell i stmt ++ cases_from params m h side cell (i + 1) (drop (i + 1) stmts)
front params m h side cell stmts i stmt l e =
    let n : suc i ≡ i + 1 = omega arith in
    ap (cases_from params m h side cell i) (drop-at stmts i stmt l e) ∙ ap (λ j. cases_at params m h side cell i stmt ++ cases_from params m h side cell j (drop (i + 1) stmts)) n

pub stmt_next : (params : ℕ) (m : Model) (h : Path) (side : Side) (cell : CellForms) (stmts : List StmtModel) (old out new : List Path) (i : ℕ) (stmt : StmtModel) → AtStmt params m h side cell stmts old out i → i < length stmts → stmt ≡ get_or stmts i stmt
    → Adds (cases_at params m h side cell i stmt) out new (Ok true) → AtStmt params m h side cell stmts old new (i + 1)
stmt_next params m h side cell stmts old out new i stmt a l e d = record {
  adding = part (cases_from params m h side cell 0 stmts) old out new (cases_at params m h side cell i stmt) (cases_from params m h side cell (i + 1) (drop (i + 1) stmts))
      (subst (Adding (cases_from params m h side cell 0 stmts) old out) (front params m h side cell stmts i stmt l e) a.adding) d;
}

pub stmt_none : (params : ℕ) (m : Model) (h : Path) (side : Side) (cell : CellForms) (stmts : List StmtModel) (old out new : List Path) (i : ℕ) (stmt : StmtModel) → AtStmt params m h side cell stmts old out i → i < length stmts → stmt ≡ get_or stmts i stmt
    → Adds (cases_at params m h side cell i stmt) out new (Ok false) → Adds (cases_from params m h side cell 0 stmts) old new (Ok false)
stmt_none params m h side cell stmts old out new i stmt a l e d =
    part_none (cases_from params m h side cell 0 stmts) old out new (cases_at params m h side cell i stmt) (cases_from params m h side cell (i + 1) (drop (i + 1) stmts))
    (subst (Adding (cases_from params m h side cell 0 stmts) old out) (front params m h side cell stmts i stmt l e) a.adding) d

pub stmt_end : (params : ℕ) (m : Model) (h : Path) (side : Side) (cell : CellForms) (stmts : List StmtModel) (old out : List Path) (i : ℕ) → AtStmt params m h side cell stmts old out i → length stmts ≤ i → Adds (cases_from params m h side cell 0 stmts) old out (Ok true)
stmt_end params m h side cell stmts old out i a l = end (cases_from params m h side cell 0 stmts) old out (subst (Adding (cases_from params m h side cell 0 stmts) old out) (ap (cases_from params m h side cell i) (drop_all i stmts l)) a.adding)

pub ruleset stmt_steps = (stmt_start, stmt_next, stmt_none, stmt_end)

-- the initial contents behind them
pub all_branches : (params : ℕ) (m : Model) (h : Path) (side : Side) (cell : CellForms) (out new : List Path) (p : Path) → Adds (cases_from params m h side cell 0 m.stmts) [] out (Ok true) → p ≡ initial_path h side → new ≡ out ++ p ∷ []
    → Some new ≡ read_branches params m h side cell
all_branches params m h side cell out new p a i n =
    let b = end (cases_from params m h side cell 0 m.stmts ++ Some (initial_path h side) ∷ []) [] new
    (part (cases_from params m h side cell 0 m.stmts ++ Some (initial_path h side) ∷ []) [] out new (Some (initial_path h side) ∷ []) []
    (part (cases_from params m h side cell 0 m.stmts ++ Some (initial_path h side) ∷ []) [] [] out (cases_from params m h side cell 0 m.stmts) (Some (initial_path h side) ∷ []) (start (cases_from params m h side cell 0 m.stmts ++ Some (initial_path h side) ∷ []) []) a)
    (initial_path h side ∷ [], refl, n ∙ ap (λ z. out ++ z ∷ []) i)) in
    sym (b.1 ∙ ap Some (sym b.2))

pub no_branches : (params : ℕ) (m : Model) (h : Path) (side : Side) (cell : CellForms) (out : List Path) → Adds (cases_from params m h side cell 0 m.stmts) [] out (Ok false) → None ≡ read_branches params m h side cell
no_branches params m h side cell out a =
    sym (part_none (cases_from params m h side cell 0 m.stmts ++ Some (initial_path h side) ∷ []) [] [] out (cases_from params m h side cell 0 m.stmts) (Some (initial_path h side) ∷ []) (start (cases_from params m h side cell 0 m.stmts ++ Some (initial_path h side) ∷ []) []) a)

pub ruleset branch_steps = (all_branches, no_branches)
