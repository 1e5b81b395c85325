-- The branches of a step are of the same pairs of positions on all paths of one pair.
use Rattle.std.proofs.Common.{◌≡◌, ℕ, suc, ◌&&◌, List, [], ◌∷◌, ◌++◌, map, Bool, true, false, cond, Option, Some, None, refl, sym, ap, ◌∙◌, subst}
use Rattle.std.specs.Prelude.{option_map, nat_eq}
use Rattle.std.specs.List.{flat_map}
use Rattle.std.proofs.lemmas.List.Concat.{flat_map-cons}
use Rattle.ac_forms.specs.declared.row.Row.{Row}
use Rattle.ac_syntax.specs.declared.tree.Order.{Order}
use Rattle.ac_syntax.specs.declared.tree.Order.TheVariants.{Keep, Swap}
use Rattle.ac_syntax.specs.declared.tree.Position.{Position}
use Rattle.ac_syntax.specs.declared.tree.Position.TheVariants.{Node}
use Rattle.ac_poly.specs.declared.types.Model.{Model}
use Rattle.ac_poly.specs.declared.types.StmtModel.{StmtModel}
use Rattle.ac_base.proofs.Options.{map-some, if-some}
use Rattle.ac_claims_paths.specs.PathColumns.{all_of}
use Rattle.ac_claims_paths.specs.InstanceCoordinates.{width}
use Rattle.ac_claims_paths.specs.PathSteps.{Pairing, branches, branches_by, branches_of_calls, call_branches, case_path, case_rows, cases_at, cases_from, cases_of, extended, gone_to, initial_path, argument_path, kept, read_branches, root, same_symbol, seat_of, swapped}
use Rattle.ac_claims_paths.specs.ModelPositions.{CallAt, call_at, cell_read, initial_of, levels_to}
use Rattle.ac_claims_paths.specs.declared.path.Path.{Path}
use Rattle.ac_claims_paths.specs.declared.path.Side.{Side}
use Rattle.ac_claims_paths.specs.declared.path.Side.TheVariants.{Left, Right}
use Rattle.ac_claims_paths.specs.declared.places.CellForms.{CellForms}
use Rattle.ac_claims_paths.proofs.Moving.{all-cons}
use Rattle.ac_unfold_plans.specs.PlanStops.{positions_at}
use Rattle.ac_unfold_plans.proofs.Branches.{keep}
use Rattle.ac_unfold_plans.specs.AlikeBranches.{BranchesAreAlike}

-- paths of the same pairs, one by one
abbrev pub AreAlike : List Path → List Path → Type 0
AreAlike [] [] = Unit {0}
AreAlike [] (k ∷ ks) = ⊥
AreAlike (h ∷ hs) [] = ⊥
AreAlike (h ∷ hs) (k ∷ ks) = (positions_at h ≡ positions_at k) × AreAlike hs ks

-- the same, where both paths are there
abbrev Alike : Option Path → Option Path → Type 0
Alike (Some h) (Some k) = positions_at h ≡ positions_at k
Alike (Some h) None = Unit {0}
Alike None o = Unit {0}

abbrev AllAlike : List (Option Path) → List (Option Path) → Type 0
AllAlike [] [] = Unit {0}
AllAlike [] (p ∷ ps) = ⊥
AllAlike (o ∷ os) [] = ⊥
AllAlike (o ∷ os) (p ∷ ps) = Alike o p × AllAlike os ps

both : {A B : Type 0} (P : A → B → Type 0) (a a' : A) (b b' : B) → a ≡ a' → b ≡ b' → P a b → P a' b'
both P a a' b b' e f h = subst (λ z. P z b') e (subst (λ z. P a z) f h)

all_alike : (os ps : List (Option Path)) (hs ks : List Path) → AllAlike os ps → all_of os ≡ Some hs → all_of ps ≡ Some ks → AreAlike hs ks
all_alike [] [] hs ks a e f = let x : [] ≡ hs = cc in let y : [] ≡ ks = cc in both AreAlike [] hs [] ks x y tt
all_alike [] (p ∷ ps) hs ks a e f = absurd a
all_alike (o ∷ os) [] hs ks a e f = absurd a
all_alike (o ∷ os) (p ∷ ps) hs ks a e f =
    let b = all-cons o os hs e in
    let c = all-cons p ps ks f in
    both AreAlike (b.0 ∷ b.1) hs (c.0 ∷ c.1) ks (sym b.4) (sym c.4) (both Alike o (Some b.0) p (Some c.0) b.2 c.2 a.0, all_alike os ps b.1 c.1 a.1 b.3 c.3)

append_alike : (os ps qs rs : List (Option Path)) → AllAlike os ps → AllAlike qs rs → AllAlike (os ++ qs) (ps ++ rs)
append_alike [] [] qs rs a b = b
append_alike [] (p ∷ ps) qs rs a b = absurd a
append_alike (o ∷ os) [] qs rs a b = absurd a
append_alike (o ∷ os) (p ∷ ps) qs rs a b = (a.0, append_alike os ps qs rs a.1 b)

map_alike : {A : Type 0} (f g : A → Option Path) (xs : List A) → ((x : A) → Alike (f x) (g x)) → AllAlike (map f xs) (map g xs)
map_alike f g [] h = tt
map_alike f g (x ∷ xs) h = (h x, map_alike f g xs h)

flat_alike : {A : Type 0} (f g : A → List (Option Path)) (xs : List A) → ((x : A) → AllAlike (f x) (g x)) → AllAlike (flat_map f xs) (flat_map g xs)
flat_alike f g [] h = tt
flat_alike f g (x ∷ xs) h =
    both AllAlike (f x ++ flat_map f xs) (flat_map f (x ∷ xs)) (g x ++ flat_map g xs) (flat_map g (x ∷ xs)) (sym (flat_map-cons f x xs)) (sym (flat_map-cons g x xs))
    (append_alike (f x) (g x) (flat_map f xs) (flat_map g xs) (h x) (flat_alike f g xs h))

-- ---- the cases of a read or an output

-- the path behind a case, by its rows
abbrev onward : Path → Side → ℕ → StmtModel → List Row → Path
onward h side u stmt rows = gone_to h side (extended h.conj (width stmt) rows) (root h.conj.columns u stmt) (Some (record { side = side; reader = seat_of h side; source = Some (root h.conj.columns u stmt) }))

some_rows : (F G : List Row → Path) → ((x y : List Row) → positions_at (F x) ≡ positions_at (G y)) → (o p : Option (List Row)) → Alike (option_map F o) (option_map G p)
some_rows F G f None p = tt
some_rows F G f (Some x) None = tt
some_rows F G f (Some x) (Some y) = f x y

onward_alike : (h k : Path) (side : Side) (u : ℕ) (stmt : StmtModel) → positions_at h ≡ positions_at k → (x y : List Row) → positions_at (onward h side u stmt x) ≡ positions_at (onward k side u stmt y)
onward_alike h k Left u stmt e x y = ap (λ (z : Position × Position). (Node u 0, z.1)) e
onward_alike h k Right u stmt e x y = ap (λ (z : Position × Position). (z.0, Node u 0)) e

case_alike : (params : ℕ) (h k : Path) (side : Side) (cell : CellForms) (u : ℕ) (stmt : StmtModel) (piece level : List Row) → positions_at h ≡ positions_at k → Alike (case_path params h side cell u stmt piece level) (case_path params k side cell u stmt piece level)
case_alike params h k side cell u stmt piece level e =
    some_rows (onward h side u stmt) (onward k side u stmt) (onward_alike h k side u stmt e) (case_rows params (seat_of h side) cell (root h.conj.columns u stmt) stmt piece level) (case_rows params (seat_of k side) cell (root k.conj.columns u stmt) stmt piece level)

position_alike : (h k : Path) (side : Side) → positions_at h ≡ positions_at k → (seat_of h side).position ≡ (seat_of k side).position
position_alike h k Left e = ap (λ (z : Position × Position). z.0) e
position_alike h k Right e = ap (λ (z : Position × Position). z.1) e

stmt_alike : (params : ℕ) (m : Model) (h k : Path) (side : Side) (cell : CellForms) (u : ℕ) (stmt : StmtModel) → positions_at h ≡ positions_at k → AllAlike (cases_of params m h side cell u stmt) (cases_of params m k side cell u stmt)
stmt_alike params m h k side cell u stmt e =
    let levels = levels_to m u stmt (seat_of h side).position in
    let same : levels ≡ levels_to m u stmt (seat_of k side).position = ap (levels_to m u stmt) (position_alike h k side e) in
    flat_alike (λ piece. map (case_path params h side cell u stmt piece) levels) (λ piece. map (case_path params k side cell u stmt piece) (levels_to m u stmt (seat_of k side).position)) stmt.pieces
    (λ piece. subst (λ (ls : List (List Row)). AllAlike (map (case_path params h side cell u stmt piece) levels) (map (case_path params k side cell u stmt piece) ls)) same
    (map_alike (case_path params h side cell u stmt piece) (case_path params k side cell u stmt piece) levels (λ level. case_alike params h k side cell u stmt piece level e)))

if_alike : (b : Bool) (os ps : List (Option Path)) → AllAlike os ps → AllAlike (cond b os []) (cond b ps [])
if_alike true os ps a = a
if_alike false os ps a = tt

cases_alike : (params : ℕ) (m : Model) (h k : Path) (side : Side) (cell : CellForms) (u : ℕ) (stmts : List StmtModel) → positions_at h ≡ positions_at k → AllAlike (cases_from params m h side cell u stmts) (cases_from params m k side cell u stmts)
cases_alike params m h k side cell u [] e = tt
cases_alike params m h k side cell u (stmt ∷ rest) e =
    append_alike (cases_at params m h side cell u stmt) (cases_at params m k side cell u stmt) (cases_from params m h side cell (suc u) rest) (cases_from params m k side cell (suc u) rest)
    (if_alike (nat_eq stmt.array cell.array) (cases_of params m h side cell u stmt) (cases_of params m k side cell u stmt) (stmt_alike params m h k side cell u stmt e)) (cases_alike params m h k side cell (suc u) rest e)

initial_alike : (h k : Path) (side : Side) → positions_at h ≡ positions_at k → positions_at (initial_path h side) ≡ positions_at (initial_path k side)
initial_alike h k Left e = ap (λ (z : Position × Position). (initial_of z.0, z.1)) e
initial_alike h k Right e = ap (λ (z : Position × Position). (z.0, initial_of z.1)) e

read_alike : (params : ℕ) (m : Model) (h k : Path) (side : Side) (cell : CellForms) (hs ks : List Path) → positions_at h ≡ positions_at k → read_branches params m h side cell ≡ Some hs → read_branches params m k side cell ≡ Some ks → AreAlike hs ks
read_alike params m h k side cell hs ks e a b =
    all_alike (cases_from params m h side cell 0 m.stmts ++ Some (initial_path h side) ∷ []) (cases_from params m k side cell 0 m.stmts ++ Some (initial_path k side) ∷ []) hs ks
    (append_alike (cases_from params m h side cell 0 m.stmts) (cases_from params m k side cell 0 m.stmts) (Some (initial_path h side) ∷ []) (Some (initial_path k side) ∷ []) (cases_alike params m h k side cell 0 m.stmts e) (initial_alike h k side e, tt)) a b

-- ---- calls

kept_alike : (h k : Path) (Ps Qs : List Position) (hs ks : List Path) → kept h Ps Qs ≡ Some hs → kept k Ps Qs ≡ Some ks → AreAlike hs ks
kept_alike h k [] [] hs ks a b = let x : [] ≡ hs = cc in let y : [] ≡ ks = cc in both AreAlike [] hs [] ks x y tt
kept_alike h k [] (Q ∷ Qs) hs ks a b = absurd cc
kept_alike h k (P ∷ Ps) [] hs ks a b = absurd cc
kept_alike h k (P ∷ Ps) (Q ∷ Qs) hs ks a b =
    let x = map-some (kept h Ps Qs) (λ rest. argument_path h P Q ∷ rest) hs a in
    let y = map-some (kept k Ps Qs) (λ rest. argument_path k P Q ∷ rest) ks b in
    both AreAlike (argument_path h P Q ∷ x.0) hs (argument_path k P Q ∷ y.0) ks (sym x.2) (sym y.2) (refl, kept_alike h k Ps Qs x.0 y.0 x.1 y.1)

swapped_alike : (h k : Path) (Ps Qs : List Position) (hs ks : List Path) → swapped h Ps Qs ≡ Some hs → swapped k Ps Qs ≡ Some ks → AreAlike hs ks
swapped_alike h k (P ∷ P' ∷ []) (Q ∷ Q' ∷ []) hs ks a b =
    let x : argument_path h P Q' ∷ argument_path h P' Q ∷ [] ≡ hs = cc in
    let y : argument_path k P Q' ∷ argument_path k P' Q ∷ [] ≡ ks = cc in
    both AreAlike (argument_path h P Q' ∷ argument_path h P' Q ∷ []) hs (argument_path k P Q' ∷ argument_path k P' Q ∷ []) ks x y (refl, (refl, tt))
swapped_alike h k [] Qs hs ks a b = absurd cc
swapped_alike h k (P ∷ []) Qs hs ks a b = absurd cc
swapped_alike h k (P ∷ P' ∷ P'' ∷ Ps) Qs hs ks a b = absurd cc
swapped_alike h k (P ∷ P' ∷ []) [] hs ks a b = absurd cc
swapped_alike h k (P ∷ P' ∷ []) (Q ∷ []) hs ks a b = absurd cc
swapped_alike h k (P ∷ P' ∷ []) (Q ∷ Q' ∷ Q'' ∷ Qs) hs ks a b = absurd cc

calls_alike : (g : Pairing) (order : Order) (h k : Path) (c d : CallAt) (hs ks : List Path) → call_branches g order h c d ≡ Some hs → call_branches g order k c d ≡ Some ks → AreAlike hs ks
calls_alike g Keep h k c d hs ks a b =
    kept_alike h k c.args d.args hs ks (if-some (same_symbol c.symbol d.symbol) (kept h c.args d.args) hs a).1 (if-some (same_symbol c.symbol d.symbol) (kept k c.args d.args) ks b).1
calls_alike g Swap h k c d hs ks a b =
    swapped_alike h k c.args d.args hs ks (if-some (same_symbol c.symbol d.symbol && g.swaps c.symbol) (swapped h c.args d.args) hs a).1 (if-some (same_symbol c.symbol d.symbol && g.swaps c.symbol) (swapped k c.args d.args) ks b).1

-- ---- all steps

pub branches_alike : (g : Pairing) (order : Order) (h k : Path) (hs ks : List Path) → positions_at h ≡ positions_at k → branches g order h ≡ Some hs → branches g order k ≡ Some ks → AreAlike hs ks
branches_alike g order h k hs ks e a b =
    by (cell_read g.left h.left.position) (cell_read g.right h.right.position) a ((λ i. branches_by g order k (cell_read g.left (e i).0) (cell_read g.right (e i).1)) ∙ b)
  where
    calls : (o o' : Option CallAt) → branches_of_calls g order h o o' ≡ Some hs → branches_of_calls g order k o o' ≡ Some ks → AreAlike hs ks
    calls None o' a b = absurd cc
    calls (Some c) None a b = absurd cc
    calls (Some c) (Some d) a b = calls_alike g order h k c d hs ks a b

    by : (o o' : Option CellForms) → branches_by g order h o o' ≡ Some hs → branches_by g order k o o' ≡ Some ks → AreAlike hs ks
    by (Some cell) o' a b = read_alike g.params g.left h k Left cell hs ks e (keep order (read_branches g.params g.left h Left cell) hs a) (keep order (read_branches g.params g.left k Left cell) ks b)
    by None (Some cell) a b = read_alike g.params g.right h k Right cell hs ks e (keep order (read_branches g.params g.right h Right cell) hs a) (keep order (read_branches g.params g.right k Right cell) ks b)
    by None None a b = calls (call_at g.left h.left.position) (call_at g.right h.right.position) a ((λ i. branches_of_calls g order k (call_at g.left (e i).0) (call_at g.right (e i).1)) ∙ b)

same_keys : (hs ks : List Path) → AreAlike hs ks → map positions_at hs ≡ map positions_at ks
same_keys [] [] a = refl
same_keys [] (k ∷ ks) a = absurd a
same_keys (h ∷ hs) [] a = absurd a
same_keys (h ∷ hs) (k ∷ ks) a = λ i. a.0 i ∷ same_keys hs ks a.1 i

pub branches_are_alike : BranchesAreAlike
branches_are_alike g order h k hs ks e a b = same_keys hs ks (branches_alike g order h k hs ks e a b)
