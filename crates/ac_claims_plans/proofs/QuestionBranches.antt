-- The branches of a read or an output, at a question and at a path that follows it.
use Rattle.std.proofs.Common.{◌≡◌, ℕ, suc, ◌+◌, ◌-◌, List, [], ◌∷◌, ◌++◌, append-nil, map, length, length-append, Option, Some, Bool, true, false, cond, nat_eq, refl, sym, ap, subst, arith}
use Rattle.std.specs.List.{flat_map, range_with_len}
use Rattle.std.proofs.lemmas.List.Concat.{flat_map-cons}
use Rattle.ac_forms.specs.Renaming.{rows_renaming}
use Rattle.ac_forms.specs.Rows.{IsWellMade}
use Rattle.ac_forms.specs.declared.conj.Conj.{Conj}
use Rattle.ac_forms.specs.declared.row.Row.{Row}
use Rattle.ac_syntax.specs.declared.tree.Position.{Position}
use Rattle.ac_poly.specs.declared.types.Model.{Model}
use Rattle.ac_poly.specs.declared.types.StmtModel.{StmtModel}
use Rattle.ac_base.proofs.Options.{map-some, some-is}
use Rattle.ac_claims_plans.specs.Embeddings.{grown}
use Rattle.ac_claims_plans.specs.QuestionEmbedding.{StandsOn}
use Rattle.ac_claims_plans.specs.declared.embedding.Embedding.{Embedding}
use Rattle.ac_claims_plans.proofs.Named.{place_of, AreNames}
use Rattle.ac_claims_paths.specs.PathColumns.{base, columns_of, equal_forms, appended, all_of}
use Rattle.ac_claims_paths.specs.InstanceCoordinates.{width}
use Rattle.ac_claims_paths.specs.PathSteps.{seat_of, gone_to, root, case_rows, extended, case_path, cases_of, cases_at, cases_from, initial_path, read_branches}
use Rattle.ac_claims_paths.specs.ModelPositions.{levels_to, initial_of}
use Rattle.ac_claims_paths.specs.declared.path.Assumed.{Assumed}
use Rattle.ac_claims_paths.specs.declared.path.Path.{Path}
use Rattle.ac_claims_paths.specs.declared.places.CellForms.{CellForms}
use Rattle.ac_claims_paths.specs.declared.path.Seat.{Seat}
use Rattle.ac_claims_paths.specs.declared.path.Side.{Side}
use Rattle.ac_claims_paths.specs.declared.path.Side.TheVariants.{Left, Right}
use Rattle.ac_claims_paths.proofs.Moving.{all-cons}
use Rattle.ac_claims_plans.specs.QuestionBranches.{FollowEach}
use Rattle.ac_claims_plans.specs.QuestionPaths.{ArePlaced, SeatOn, AssumedOn, Follows, behind_branch}
use Rattle.ac_claims_plans.proofs.Along.{RowsMade, placed-more, placed-next, placed-both, rows-along, equal-along, appended-along}
use Rattle.ac_claims_plans.proofs.Placed.{rising-further, names-further, stands-grown}

-- ---- seats

pub seat-more : (xs ys : List ℕ) (a b : Seat) → SeatOn xs a b → SeatOn (xs ++ ys) a b
seat-more xs ys a b h = record { position = h.position; width = h.width; coordinates = placed-more xs ys (columns_of a) (columns_of b) h.coordinates }

seat-at : (params : ℕ) (s : Embedding) (q h : Path) (side : Side) → Follows params s q h → SeatOn s.columns (seat_of q side) (seat_of h side)
seat-at params s q h Left f = f.left
seat-at params s q h Right f = f.right

root-on : (s : Embedding) (q h : Path) (u : ℕ) (stmt : StmtModel) → StandsOn s q.conj h.conj → SeatOn (s.columns ++ range_with_len s.next_column (width stmt)) (root q.conj.columns u stmt) (root h.conj.columns u stmt)
root-on s q h u stmt v = record {
  position = refl;
  width = refl;
  coordinates = subst (λ (m : ℕ). ArePlaced (s.columns ++ range_with_len s.next_column (width stmt)) (range_with_len q.conj.columns (width stmt)) (range_with_len m (width stmt))) (sym v.path_columns) (placed-next (width stmt) s.columns q.conj.columns s.next_column v.columns);
}

-- ---- a case

-- what a branch of the question is on the path
pub record BranchOn (params : ℕ) (s : Embedding) (q b : Path) (o : Option Path) : Type 0 where
  pub path : Path
  pub is : o ≡ Some path
  pub follows : Follows params (behind_branch s q b) b path

case_rows-on : (n params : ℕ) (xs : List ℕ) → AreNames n xs → ArePlaced xs (base params) (base params) → (reader reader' source source' : Seat) → SeatOn xs reader reader' → SeatOn xs source source'
    → (cell : CellForms) (stmt : StmtModel) (piece level made : List Row) → case_rows params reader cell source stmt piece level ≡ Some made → RowsMade (λ j. place_of j xs) made (case_rows params reader' cell source' stmt piece level)
case_rows-on n params xs names on reader reader' source source' r f cell stmt piece level made e =
    let from = placed-both xs (base params) (base params) (columns_of source) (columns_of source') on f.coordinates in
    let to = placed-both xs (base params) (base params) (columns_of reader) (columns_of reader') on r.coordinates in
    let two = placed-both xs (base params) (base params) (columns_of source ++ columns_of reader) (columns_of source' ++ columns_of reader') on (placed-both xs (columns_of source) (columns_of source') (columns_of reader) (columns_of reader') f.coordinates r.coordinates) in
    appended-along (λ j. place_of j xs)
    (rows_renaming (base params ++ columns_of source) piece)
    (appended (equal_forms (base params ++ columns_of reader) cell.subs (base params ++ columns_of source) stmt.subs) (rows_renaming (base params ++ (columns_of source ++ columns_of reader)) level))
    (rows_renaming (base params ++ columns_of source') piece)
    (appended (equal_forms (base params ++ columns_of reader') cell.subs (base params ++ columns_of source') stmt.subs) (rows_renaming (base params ++ (columns_of source' ++ columns_of reader')) level))
    made
    (λ rs i. rows-along n xs names (base params ++ columns_of source) (base params ++ columns_of source') from piece rs i)
    (λ rs i. appended-along (λ j. place_of j xs)
    (equal_forms (base params ++ columns_of reader) cell.subs (base params ++ columns_of source) stmt.subs)
    (rows_renaming (base params ++ (columns_of source ++ columns_of reader)) level)
    (equal_forms (base params ++ columns_of reader') cell.subs (base params ++ columns_of source') stmt.subs)
    (rows_renaming (base params ++ (columns_of source' ++ columns_of reader')) level)
    rs
    (λ ts j. equal-along n xs names (base params ++ columns_of reader) (base params ++ columns_of reader') (base params ++ columns_of source) (base params ++ columns_of source') to from cell.subs stmt.subs ts j)
    (λ ts j. rows-along n xs names (base params ++ (columns_of source ++ columns_of reader)) (base params ++ (columns_of source' ++ columns_of reader')) two level ts j) i)
    e

less-left : (a b : ℕ) → (a + b) - a ≡ b
less-left a b = omega arith

conj-gone : (q : Path) (side : Side) (c : Conj) (a : Seat) (last : Option Assumed) → (gone_to q side c a last).conj ≡ c
conj-gone q Left c a last = refl
conj-gone q Right c a last = refl

behind-gone : (s : Embedding) (q : Path) (side : Side) (w : ℕ) (rows : List Row) (a : Seat) (last : Option Assumed) → behind_branch s q (gone_to q side (extended q.conj w rows) a last) ≡ grown s w (length rows)
behind-gone s q side w rows a last =
    rw (conj-gone q side (extended q.conj w rows) a last, length-append q.conj.rows rows, less-left q.conj.columns w, less-left (length q.conj.rows) (length rows)) refl

follow : (params : ℕ) (s : Embedding) (q h : Path) (side : Side) (w n : ℕ) (c d : Conj) (a b : Seat) (l m : Option Assumed) → Follows params s q h → StandsOn (grown s w n) c d
    → SeatOn (s.columns ++ range_with_len s.next_column w) a b → AssumedOn (s.columns ++ range_with_len s.next_column w) l m → Follows params (grown s w n) (gone_to q side c a l) (gone_to h side d b m)
follow params s q h Left w n c d a b l m f v seat last = record {
  stands = v;
  rising = rising-further s.next_column s.columns w f.stands.among f.rising;
  parameters = placed-more s.columns (range_with_len s.next_column w) (base params) (base params) f.parameters;
  left = seat;
  right = seat-more s.columns (range_with_len s.next_column w) q.right h.right f.right;
  gone = refl;
  last = last;
}
follow params s q h Right w n c d a b l m f v seat last = record {
  stands = v;
  rising = rising-further s.next_column s.columns w f.stands.among f.rising;
  parameters = placed-more s.columns (range_with_len s.next_column w) (base params) (base params) f.parameters;
  left = seat-more s.columns (range_with_len s.next_column w) q.left h.left f.left;
  right = seat;
  gone = refl;
  last = last;
}

case-on : (params : ℕ) (s : Embedding) (q h : Path) → IsWellMade q.conj → Follows params s q h → (side : Side) (cell : CellForms) (u : ℕ) (stmt : StmtModel) (piece level : List Row) (b : Path)
    → case_path params q side cell u stmt piece level ≡ Some b → BranchOn params s q b (case_path params h side cell u stmt piece level)
case-on params s q h made f side cell u stmt piece level b e =
    let w = width stmt in
    let source = root q.conj.columns u stmt in
    let source' = root h.conj.columns u stmt in
    let reader = seat_of q side in
    let reader' = seat_of h side in
    let more = range_with_len s.next_column w in
    let xs = s.columns ++ more in
    let c = map-some (case_rows params reader cell source stmt piece level) (λ rows. gone_to q side (extended q.conj w rows) source (Some (record { side = side; reader = reader; source = Some source }))) b e in
    let r : SeatOn xs reader reader' = seat-more s.columns more reader reader' (seat-at params s q h side f) in
    let t : SeatOn xs source source' = root-on s q h u stmt f.stands in
    let on = placed-more s.columns more (base params) (base params) f.parameters in
    let m = case_rows-on (s.next_column + w) params xs (names-further s q.conj h.conj w f.stands) on reader reader' source source' r t cell stmt piece level c.0 c.1 in
    let last : Assumed = record { side = side; reader = reader; source = Some source } in
    let last' : Assumed = record { side = side; reader = reader'; source = Some source' } in
    let path = gone_to h side (extended h.conj w m.rows) source' (Some last') in
    let branch = gone_to q side (extended q.conj w c.0) source (Some last) in
    let there : StandsOn (grown s w (length c.0)) (extended q.conj w c.0) (extended h.conj w m.rows) = stands-grown s q.conj h.conj w c.0 m.rows made f.stands m.along in
    let follows : Follows params (grown s w (length c.0)) branch path = follow params s q h side w (length c.0) (extended q.conj w c.0) (extended h.conj w m.rows) source source' (Some last) (Some last') f there t (refl, r, t) in
    let same : behind_branch s q branch ≡ grown s w (length c.0) = behind-gone s q side w c.0 source (Some last) in
    let final : BranchOn params s q branch (case_path params h side cell u stmt piece level) = record { path = path; is = rw m.is refl; follows = subst (λ (z : Embedding). Follows params z branch path) (sym same) follows } in
    subst (λ (z : Path). BranchOn params s q z (case_path params h side cell u stmt piece level)) (sym c.2) final

-- ---- where nothing is added

still : (s : Embedding) → grown s 0 0 ≡ s
still s =
    let n : s.next_column + 0 ≡ s.next_column = omega arith in
    let m : s.next_row + 0 ≡ s.next_row = omega arith in
    rw (append-nil s.columns, append-nil s.rows, n, m) refl

none-left : (n : ℕ) → n - n ≡ 0
none-left n = omega arith

pub behind-still : (s : Embedding) (q b : Path) → b.conj ≡ q.conj → behind_branch s q b ≡ s
behind-still s q b e = rw (e, none-left q.conj.columns, none-left (length q.conj.rows)) (still s)

initial-on : (params : ℕ) (s : Embedding) (q h : Path) → Follows params s q h → (side : Side) → BranchOn params s q (initial_path q side) (Some (initial_path h side))
initial-on params s q h f Left = record {
  path = initial_path h Left;
  is = refl;
  follows = subst (λ (z : Embedding). Follows params z (initial_path q Left) (initial_path h Left)) (sym (behind-still s q (initial_path q Left) refl)) (record {
    stands = f.stands;
    rising = f.rising;
    parameters = f.parameters;
    left = record { position = ap initial_of f.left.position; width = f.left.width; coordinates = f.left.coordinates };
    right = f.right;
    gone = refl;
    last = (refl, f.left, tt);
  });
}
initial-on params s q h f Right = record {
  path = initial_path h Right;
  is = refl;
  follows = subst (λ (z : Embedding). Follows params z (initial_path q Right) (initial_path h Right)) (sym (behind-still s q (initial_path q Right) refl)) (record {
    stands = f.stands;
    rising = f.rising;
    parameters = f.parameters;
    left = f.left;
    right = record { position = ap initial_of f.right.position; width = f.right.width; coordinates = f.right.coordinates };
    gone = refl;
    last = (refl, f.right, tt);
  });
}

-- ---- the cases of a read or an output

-- each branch of the question is one on the path
abbrev pub AllOn : ℕ → Embedding → Path → List (Option Path) → List (Option Path) → Type 0
AllOn params s q [] [] = Unit {0}
AllOn params s q (o ∷ os) (p ∷ ps) = ((b : Path) → o ≡ Some b → BranchOn params s q b p) × AllOn params s q os ps
AllOn params s q _ _ = ⊥

all-both : (params : ℕ) (s : Embedding) (q : Path) (os ps os' ps' : List (Option Path)) → AllOn params s q os ps → AllOn params s q os' ps' → AllOn params s q (os ++ os') (ps ++ ps')
all-both params s q [] [] os' ps' a b = b
all-both params s q [] (p ∷ ps) os' ps' a b = absurd a
all-both params s q (o ∷ os) [] os' ps' a b = absurd a
all-both params s q (o ∷ os) (p ∷ ps) os' ps' a b = (a.0, all-both params s q os ps os' ps' a.1 b)

all-map : {A : Type 0} (params : ℕ) (s : Embedding) (q : Path) (f g : A → Option Path) → ((x : A) (b : Path) → f x ≡ Some b → BranchOn params s q b (g x)) → (xs : List A) → AllOn params s q (map f xs) (map g xs)
all-map params s q f g h [] = tt
all-map params s q f g h (x ∷ xs) = (h x, all-map params s q f g h xs)

all-flat : {A : Type 0} (params : ℕ) (s : Embedding) (q : Path) (f g : A → List (Option Path)) → ((x : A) → AllOn params s q (f x) (g x)) → (xs : List A) → AllOn params s q (flat_map f xs) (flat_map g xs)
all-flat params s q f g h [] = tt
all-flat params s q f g h (x ∷ xs) = rw (flat_map-cons f x xs, flat_map-cons g x xs) (all-both params s q (f x) (g x) (flat_map f xs) (flat_map g xs) (h x) (all-flat params s q f g h xs))

stmt-on : (params : ℕ) (m : Model) (s : Embedding) (q h : Path) → IsWellMade q.conj → Follows params s q h → (side : Side) (cell : CellForms) (u : ℕ) (stmt : StmtModel) (P R : Position) → R ≡ P
    → AllOn params s q (flat_map (λ piece. map (case_path params q side cell u stmt piece) (levels_to m u stmt P)) stmt.pieces) (flat_map (λ piece. map (case_path params h side cell u stmt piece) (levels_to m u stmt R)) stmt.pieces)
stmt-on params m s q h made f side cell u stmt P R e =
    subst (λ (z : Position). AllOn params s q (flat_map (λ piece. map (case_path params q side cell u stmt piece) (levels_to m u stmt P)) stmt.pieces) (flat_map (λ piece. map (case_path params h side cell u stmt piece) (levels_to m u stmt z)) stmt.pieces)) (sym e)
    (all-flat params s q (λ piece. map (case_path params q side cell u stmt piece) (levels_to m u stmt P)) (λ piece. map (case_path params h side cell u stmt piece) (levels_to m u stmt P))
    (λ piece. all-map params s q (case_path params q side cell u stmt piece) (case_path params h side cell u stmt piece) (λ level b i. case-on params s q h made f side cell u stmt piece level b i) (levels_to m u stmt P)) stmt.pieces)

all-cond : (params : ℕ) (s : Embedding) (q : Path) (b : Bool) (os ps : List (Option Path)) → AllOn params s q os ps → AllOn params s q (cond b os []) (cond b ps [])
all-cond params s q true os ps a = a
all-cond params s q false os ps a = tt

cases-on : (params : ℕ) (m : Model) (s : Embedding) (q h : Path) → IsWellMade q.conj → Follows params s q h → (side : Side) (cell : CellForms) (u : ℕ) (stmts : List StmtModel) → AllOn params s q (cases_from params m q side cell u stmts) (cases_from params m h side cell u stmts)
cases-on params m s q h made f side cell u [] = tt
cases-on params m s q h made f side cell u (stmt ∷ stmts) =
    all-both params s q (cases_at params m q side cell u stmt) (cases_at params m h side cell u stmt) (cases_from params m q side cell (suc u) stmts) (cases_from params m h side cell (suc u) stmts)
    (all-cond params s q (nat_eq stmt.array cell.array) (cases_of params m q side cell u stmt) (cases_of params m h side cell u stmt)
    (stmt-on params m s q h made f side cell u stmt (seat_of q side).position (seat_of h side).position (seat-at params s q h side f).position))
    (cases-on params m s q h made f side cell (suc u) stmts)

-- paths that follow the branches
pub record PathsOn (params : ℕ) (s : Embedding) (q : Path) (bs : List Path) (o : Option (List Path)) : Type 0 where
  pub paths : List Path
  pub is : o ≡ Some paths
  pub each : FollowEach params s q bs paths

gather : (params : ℕ) (s : Embedding) (q : Path) (os ps : List (Option Path)) (bs : List Path) → AllOn params s q os ps → all_of os ≡ Some bs → PathsOn params s q bs (all_of ps)
gather params s q [] [] bs a e = rw (sym (some-is [] bs e)) (record { paths = []; is = refl; each = tt })
gather params s q [] (p ∷ ps) bs a e = absurd a
gather params s q (o ∷ os) [] bs a e = absurd a
gather params s q (o ∷ os) (p ∷ ps) bs a e =
    let b = all-cons o os bs e in
    let first = a.0 b.0 b.2 in
    let rest = gather params s q os ps b.1 a.1 b.3 in
    rw b.4 (record { paths = first.path ∷ rest.paths; is = rw (first.is, rest.is) refl; each = (first.follows, rest.each) })

pub read-on : (params : ℕ) (m : Model) (s : Embedding) (q h : Path) → IsWellMade q.conj → Follows params s q h → (side : Side) (cell : CellForms) (bs : List Path) → read_branches params m q side cell ≡ Some bs → PathsOn params s q bs (read_branches params m h side cell)
read-on params m s q h made f side cell bs e =
    let first = initial-on params s q h f side in
    let alone : (b : Path) → Some (initial_path q side) ≡ Some b → BranchOn params s q b (Some (initial_path h side)) = λ b i. subst (λ (z : Path). BranchOn params s q z (Some (initial_path h side))) (some-is (initial_path q side) b i) first in
    gather params s q (cases_from params m q side cell 0 m.stmts ++ Some (initial_path q side) ∷ []) (cases_from params m h side cell 0 m.stmts ++ Some (initial_path h side) ∷ []) bs
    (all-both params s q (cases_from params m q side cell 0 m.stmts) (cases_from params m h side cell 0 m.stmts) (Some (initial_path q side) ∷ []) (Some (initial_path h side) ∷ []) (cases-on params m s q h made f side cell 0 m.stmts) (alone, tt)) e
