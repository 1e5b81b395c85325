-- The branches of a read or an output, and the cases of its flow: those with one number are of one source.
use Rattle.std.proofs.Common.{◌≡◌, ℕ, zero, suc, ◌+◌, List, [], ◌∷◌, ◌++◌, map, length, Bool, true, false, cond, Option, Some, None, refl, sym, ap, ◌∙◌, subst, arith}
use Rattle.std.specs.Prelude.{nat_eq, slice_get}
use Rattle.std.specs.List.{flat_map, range_with_len}
use Rattle.std.proofs.lemmas.List.Concat.{flat_map-cons}
use Rattle.ac_forms.specs.declared.row.Row.{Row}
use Rattle.ac_syntax.specs.declared.tree.Position.{Position}
use Rattle.ac_poly.specs.declared.types.Model.{Model}
use Rattle.ac_poly.specs.declared.types.StmtModel.{StmtModel}
use Rattle.ac_base.proofs.Options.{map-some, some-is}
use Rattle.ac_claims_paths.specs.PathColumns.{all_of}
use Rattle.ac_claims_paths.specs.InstanceCoordinates.{width}
use Rattle.ac_claims_paths.specs.PathSteps.{case_path, case_rows, cases_at, cases_from, cases_of, extended, gone_to, initial_path, read_branches, root, seat_of}
use Rattle.ac_claims_paths.specs.ModelPositions.{levels_to}
use Rattle.ac_claims_paths.specs.declared.path.CopyNumbers.{CopyNumbers}
use Rattle.ac_claims_paths.specs.declared.path.Path.{Path}
use Rattle.ac_claims_paths.specs.declared.path.Side.{Side}
use Rattle.ac_claims_paths.specs.declared.places.CellForms.{CellForms}
use Rattle.ac_claims_paths.proofs.Moving.{all-cons}
use Rattle.ac_flow.specs.FlowCases.{Reads, AreCases, IsSourceCase}
use Rattle.ac_flow.specs.Writings.{afters, numbers_to, writing, writings, writings_at, writings_from, writings_of}
use Rattle.ac_flow.specs.declared.types.Case.{Case}

-- ---- the path of a writing

-- the case of an assignment, a piece of it and a level, which have the numbers of a writing
record IsPathOf (params : ℕ) (m : Model) (h : Path) (side : Side) (cell : CellForms) (o : Option Path) (w : CopyNumbers) : Type 0 where
  stmt : StmtModel
  is : slice_get m.stmts w.stmt ≡ Some stmt
  piece : List Row
  piece_is : slice_get stmt.pieces w.piece ≡ Some piece
  level : List Row
  level_is : slice_get (levels_to m w.stmt stmt (seat_of h side).position) w.before ≡ Some level
  path : o ≡ case_path params h side cell w.stmt stmt piece level

-- one by one
abbrev ArePathsOf : ℕ → Model → Path → Side → CellForms → List (Option Path) → List CopyNumbers → Type 0
ArePathsOf params m h side cell [] [] = Unit {0}
ArePathsOf params m h side cell [] (w ∷ ws) = ⊥
ArePathsOf params m h side cell (o ∷ os) [] = ⊥
ArePathsOf params m h side cell (o ∷ os) (w ∷ ws) = IsPathOf params m h side cell o w × ArePathsOf params m h side cell os ws

paths_both : (params : ℕ) (m : Model) (h : Path) (side : Side) (cell : CellForms) (os ps : List (Option Path)) (ws vs : List CopyNumbers) → ArePathsOf params m h side cell os ws → ArePathsOf params m h side cell ps vs → ArePathsOf params m h side cell (os ++ ps) (ws ++ vs)
paths_both params m h side cell [] ps [] vs a b = b
paths_both params m h side cell [] ps (w ∷ ws) vs a b = absurd a
paths_both params m h side cell (o ∷ os) ps [] vs a b = absurd a
paths_both params m h side cell (o ∷ os) ps (w ∷ ws) vs a b = (a.0, paths_both params m h side cell os ps ws vs a.1 b)

-- ---- of one assignment

-- a list from a number on
abbrev IsFrom : {A : Type 0} → List A → ℕ → List A → Type 0
IsFrom all k xs = (j : ℕ) → slice_get xs j ≡ slice_get all (k + j)

from_next : {A : Type 0} (all : List A) (k : ℕ) (x : A) (xs : List A) → IsFrom all k (x ∷ xs) → IsFrom all (k + 1) xs
from_next all k x xs f j = let z : k + suc j ≡ k + 1 + j = omega arith in f (suc j) ∙ ap (slice_get all) z

from_here : {A : Type 0} (all : List A) (k : ℕ) (x : A) (xs : List A) → IsFrom all k (x ∷ xs) → slice_get all k ≡ Some x
from_here all k x xs f = let z : k ≡ k + 0 = omega arith in ap (slice_get all) z ∙ sym (f 0)

from_first : {A : Type 0} (all : List A) → IsFrom all 0 all
from_first all j = let z : j ≡ 0 + j = omega arith in ap (slice_get all) z

-- one piece of it
level_paths : (params : ℕ) (m : Model) (h : Path) (side : Side) (cell : CellForms) (u : ℕ) (stmt : StmtModel) → slice_get m.stmts u ≡ Some stmt → (k : ℕ) (piece : List Row) → slice_get stmt.pieces k ≡ Some piece
    → (j : ℕ) (levels : List (List Row)) → IsFrom (levels_to m u stmt (seat_of h side).position) j levels
    → ArePathsOf params m h side cell (map (case_path params h side cell u stmt piece) levels) (flat_map (λ before. map (writing u k before) (afters m None u stmt)) (range_with_len j (length levels)))
level_paths params m h side cell u stmt is k piece there j [] f = tt
level_paths params m h side cell u stmt is k piece there j (level ∷ levels) f =
    let F = λ (before : ℕ). map (writing u k before) (afters m None u stmt) in
    let p : IsPathOf params m h side cell (case_path params h side cell u stmt piece level) (writing u k j None) = record { stmt = stmt; is = is; piece = piece; piece_is = there; level = level; level_is = from_here (levels_to m u stmt (seat_of h side).position) j level levels f; path = refl } in
    subst (λ (ws : List CopyNumbers). ArePathsOf params m h side cell (map (case_path params h side cell u stmt piece) (level ∷ levels)) ws) (sym (flat_map-cons F j (range_with_len (j + 1) (length levels))))
    (p, level_paths params m h side cell u stmt is k piece there (j + 1) levels (from_next (levels_to m u stmt (seat_of h side).position) j level levels f))

piece_paths : (params : ℕ) (m : Model) (h : Path) (side : Side) (cell : CellForms) (u : ℕ) (stmt : StmtModel) → slice_get m.stmts u ≡ Some stmt → (k : ℕ) (pieces : List (List Row)) → IsFrom stmt.pieces k pieces
    → ArePathsOf params m h side cell (flat_map (λ piece. map (case_path params h side cell u stmt piece) (levels_to m u stmt (seat_of h side).position)) pieces)
    (flat_map (λ piece. flat_map (λ before. map (writing u piece before) (afters m None u stmt)) (numbers_to (length (levels_to m u stmt (seat_of h side).position)))) (range_with_len k (length pieces)))
piece_paths params m h side cell u stmt is k [] f = tt
piece_paths params m h side cell u stmt is k (piece ∷ pieces) f =
    let P = (seat_of h side).position in
    let levels = levels_to m u stmt P in
    let F = λ (piece : List Row). map (case_path params h side cell u stmt piece) levels in
    let G = λ (piece : ℕ). flat_map (λ before. map (writing u piece before) (afters m None u stmt)) (numbers_to (length levels)) in
    let a = level_paths params m h side cell u stmt is k piece (from_here stmt.pieces k piece pieces f) 0 levels (from_first levels) in
    let b = piece_paths params m h side cell u stmt is (k + 1) pieces (from_next stmt.pieces k piece pieces f) in
    subst (λ (os : List (Option Path)). ArePathsOf params m h side cell os (flat_map G (k ∷ range_with_len (k + 1) (length pieces)))) (sym (flat_map-cons F piece pieces))
    (subst (λ (ws : List CopyNumbers). ArePathsOf params m h side cell (F piece ++ flat_map F pieces) ws) (sym (flat_map-cons G k (range_with_len (k + 1) (length pieces))))
    (paths_both params m h side cell (F piece) (flat_map F pieces) (G k) (flat_map G (range_with_len (k + 1) (length pieces))) a b))

-- ---- of all assignments

if_paths : (params : ℕ) (m : Model) (h : Path) (side : Side) (cell : CellForms) (b : Bool) (os : List (Option Path)) (ws : List CopyNumbers) → ArePathsOf params m h side cell os ws → ArePathsOf params m h side cell (cond b os []) (cond b ws [])
if_paths params m h side cell true os ws a = a
if_paths params m h side cell false os ws a = tt

stmt_paths : (params : ℕ) (m : Model) (h : Path) (side : Side) (cell : CellForms) (array u : ℕ) (stmts : List StmtModel) → cell.array ≡ array → IsFrom m.stmts u stmts
    → ArePathsOf params m h side cell (cases_from params m h side cell u stmts) (writings_from m (seat_of h side).position array None u stmts)
stmt_paths params m h side cell array u [] e f = tt
stmt_paths params m h side cell array u (stmt ∷ stmts) e f =
    let P = (seat_of h side).position in
    let one = piece_paths params m h side cell u stmt (from_here m.stmts u stmt stmts f) 0 stmt.pieces (from_first stmt.pieces) in
    let here = if_paths params m h side cell (nat_eq stmt.array cell.array) (cases_of params m h side cell u stmt) (writings_of m P None u stmt) one in
    let a = subst (λ (n : ℕ). ArePathsOf params m h side cell (cases_at params m h side cell u stmt) (writings_at m P n None u stmt)) e here in
    let z : u + 1 ≡ suc u = omega arith in
    paths_both params m h side cell (cases_at params m h side cell u stmt) (cases_from params m h side cell (suc u) stmts) (writings_at m P array None u stmt) (writings_from m P array None (suc u) stmts) a
    (stmt_paths params m h side cell array (suc u) stmts e (subst (λ (n : ℕ). IsFrom m.stmts n stmts) z (from_next m.stmts u stmt stmts f)))

-- ---- the branch of a case

-- to the root of a source, or to the initial position
pub data IsBranch (params : ℕ) (m : Model) (h : Path) (side : Side) (cell : CellForms) (case : Case) (b : Path) : Type 0 where
  OfSource : (n : ℕ) (stmt : StmtModel) (piece level rows : List Row) → case.source ≡ Some n → slice_get m.stmts n ≡ Some stmt → slice_get stmt.pieces case.piece ≡ Some piece → slice_get (levels_to m n stmt (seat_of h side).position) case.level ≡ Some level
      → case_rows params (seat_of h side) cell (root h.conj.columns n stmt) stmt piece level ≡ Some rows
      → b ≡ gone_to h side (extended h.conj (width stmt) rows) (root h.conj.columns n stmt) (Some (record { side = side; reader = seat_of h side; source = Some (root h.conj.columns n stmt) })) → IsBranch params m h side cell case b
  OfContents : case.source ≡ None → b ≡ initial_path h side → IsBranch params m h side cell case b

source_branch : (params : ℕ) (m : Model) (h : Path) (side : Side) (cell : CellForms) (r : Reads) (case : Case) (b : Path) (o : Option Path) (w : CopyNumbers) → IsPathOf params m h side cell o w → IsSourceCase m r w case → o ≡ Some b → IsBranch params m h side cell case b
source_branch params m h side cell r case b o w p c e =
    let s = root h.conj.columns w.stmt p.stmt in
    let k = map-some (case_rows params (seat_of h side) cell s p.stmt p.piece p.level) (λ rows. gone_to h side (extended h.conj (width p.stmt) rows) s (Some (record { side = side; reader = seat_of h side; source = Some s }))) b (sym p.path ∙ e) in
    OfSource w.stmt p.stmt p.piece p.level k.0 c.source p.is (ap (slice_get p.stmt.pieces) c.piece ∙ p.piece_is) (ap (slice_get (levels_to m w.stmt p.stmt (seat_of h side).position)) c.level ∙ p.level_is) k.1 k.2

numbered : (params : ℕ) (m : Model) (h : Path) (side : Side) (cell : CellForms) (r : Reads) (ws : List CopyNumbers) (os : List (Option Path)) (cases : List Case) (bs : List Path) → ArePathsOf params m h side cell os ws → AreCases m r ws cases → all_of (os ++ Some (initial_path h side) ∷ []) ≡ Some bs
    → (k : ℕ) (b : Path) (case : Case) → slice_get bs k ≡ Some b → slice_get cases k ≡ Some case → IsBranch params m h side cell case b
numbered params m h side cell r [] [] [] bs a c e k b case f g = absurd c
numbered params m h side cell r [] [] (x ∷ []) bs a c e zero b case f g =
    let z = all-cons (Some (initial_path h side)) [] bs e in
    let same : x ≡ case = some-is x case g in
    let first : b ≡ initial_path h side = some-is b (initial_path h side) (sym f ∙ ap (λ (ys : List Path). slice_get ys 0) z.4 ∙ sym z.2) in
    OfContents (ap (λ (y : Case). y.source) (sym same) ∙ c.source) first
numbered params m h side cell r [] [] (x ∷ []) bs a c e (suc k) b case f g = absurd cc
numbered params m h side cell r [] [] (x ∷ y ∷ cs) bs a c e k b case f g = absurd c
numbered params m h side cell r [] (o ∷ os) cases bs a c e k b case f g = absurd a
numbered params m h side cell r (w ∷ ws) [] cases bs a c e k b case f g = absurd a
numbered params m h side cell r (w ∷ ws) (o ∷ os) [] bs a c e k b case f g = absurd c
numbered params m h side cell r (w ∷ ws) (o ∷ os) (x ∷ cs) bs a c e zero b case f g =
    let z = all-cons o (os ++ Some (initial_path h side) ∷ []) bs e in
    let same : x ≡ case = some-is x case g in
    let first : z.0 ≡ b = some-is z.0 b (ap (λ (ys : List Path). slice_get ys 0) (sym z.4) ∙ f) in
    source_branch params m h side cell r case b o w a.0 (subst (IsSourceCase m r w) same c.0) (z.2 ∙ ap Some first)
numbered params m h side cell r (w ∷ ws) (o ∷ os) (x ∷ cs) bs a c e (suc k) b case f g =
    let z = all-cons o (os ++ Some (initial_path h side) ∷ []) bs e in
    numbered params m h side cell r ws os cs z.1 a.1 c.1 z.3 k b case (ap (λ (ys : List Path). slice_get ys (suc k)) (sym z.4) ∙ f) g

-- the branch and the case with one number
pub branch_of_case : (params : ℕ) (m : Model) (h : Path) (side : Side) (cell : CellForms) (r : Reads) (cases : List Case) (bs : List Path) → cell.array ≡ r.array → r.position ≡ (seat_of h side).position → AreCases m r (writings m r.position r.array None) cases
    → read_branches params m h side cell ≡ Some bs → (k : ℕ) (b : Path) (case : Case) → slice_get bs k ≡ Some b → slice_get cases k ≡ Some case → IsBranch params m h side cell case b
branch_of_case params m h side cell r cases bs e p c =
    numbered params m h side cell r (writings m r.position r.array None) (cases_from params m h side cell 0 m.stmts) cases bs
    (subst (λ (P : Position). ArePathsOf params m h side cell (cases_from params m h side cell 0 m.stmts) (writings m P r.array None)) (sym p) (stmt_paths params m h side cell r.array 0 m.stmts e (from_first m.stmts))) c
