-- The columns of the pair of a question are some of its own, each once: so it is at a start, behind each branch, and at what is left of a case.
use Rattle.std.proofs.Common.{◌≡◌, ◌⊎◌, inl, inr, ℕ, zero, suc, ◌+◌, ◌<◌, ◌≤◌, Bool, true, false, cond, List, [], ◌∷◌, ◌++◌, Option, Some, None, refl, sym, subst, arith}
use Rattle.std.specs.Prelude.{option_and_then, option_map, slice_get}
use Rattle.std.specs.List.{range_with_len}
use Rattle.ac_syntax.specs.declared.tree.Order.{Order}
use Rattle.ac_syntax.specs.declared.tree.Order.TheVariants.{Keep, Swap}
use Rattle.ac_syntax.specs.declared.tree.Position.{Position}
use Rattle.ac_syntax.specs.declared.tree.Site.{Site}
use Rattle.ac_forms.specs.ListMembers.{IsAmong}
use Rattle.ac_forms.specs.Renaming.{AreColumns, AreDistinct, IsApartFrom, rows_renaming}
use Rattle.ac_forms.specs.declared.conj.Conj.{Conj}
use Rattle.ac_forms.specs.declared.row.Row.{Row}
use Rattle.ac_claims_paths.specs.PathColumns.{base, columns_of}
use Rattle.ac_claims_paths.specs.InstanceCoordinates.{width}
use Rattle.ac_claims_paths.specs.PathSteps.{Pairing, argument_path, branches, branches_by, branches_of_calls, by_keep, call_branches, case_rows, cases_from, extended, gone_to, initial_path, kept, model_of, read_branches, root, seat_of, swapped}
use Rattle.ac_claims_paths.specs.ModelPositions.{CallAt, call_at, cell_read}
use Rattle.ac_claims_paths.specs.declared.places.CellForms.{CellForms}
use Rattle.ac_claims_paths.specs.declared.path.Assumed.{Assumed}
use Rattle.ac_claims_paths.specs.declared.path.Path.{Path}
use Rattle.ac_claims_paths.specs.declared.path.Side.{Side}
use Rattle.ac_claims_paths.specs.declared.path.Side.TheVariants.{Left, Right}
use Rattle.ac_claims_paths.proofs.InBranches.{CaseOf, all_among, case_of}
use Rattle.ac_claims.specs.Domains.{of_width, piece_by}
use Rattle.ac_claims.specs.ProofFaults.{Domain, domain, piece_rows, start}
use Rattle.ac_claims.specs.RemainingPlans.{start_at, start_beside, start_of}
use Rattle.ac_claims.specs.declared.domains.Piece.{Piece}
use Rattle.ac_claims.specs.declared.types.Claim.{Claim}
use Rattle.ac_widen_programs.specs.PairPathSteps.{at_rest, columns_left, further, with_rest}
use Rattle.ac_unfold.specs.declared.types.ProgramFlows.{ProgramFlows}
use Rattle.ac_unfold_table.specs.StepQuestions.{IsNext, IsStepBehind, judge}
use Rattle.ac_unfold_table.specs.QuestionRelations.{IsSeated, own_of}
use Rattle.ac_unfold_table.proofs.Lists.{among_either}

-- ---- columns

columns_both : (n : ℕ) (xs ys : List ℕ) → AreColumns n xs → AreColumns n ys → AreColumns n (xs ++ ys)
columns_both n [] ys h k = k
columns_both n (x ∷ xs) ys h k = (h.0, columns_both n xs ys h.1 k)

columns_first : (n : ℕ) (xs ys : List ℕ) → AreColumns n (xs ++ ys) → AreColumns n xs
columns_first n [] ys h = tt
columns_first n (x ∷ xs) ys h = (h.0, columns_first n xs ys h.1)

columns_second : (n : ℕ) (xs ys : List ℕ) → AreColumns n (xs ++ ys) → AreColumns n ys
columns_second n [] ys h = h
columns_second n (x ∷ xs) ys h = columns_second n xs ys h.1

columns_more : (n m : ℕ) (xs : List ℕ) → n ≤ m → AreColumns n xs → AreColumns m xs
columns_more n m [] l h = tt
columns_more n m (x ∷ xs) l h = (let a = h.0 in omega (arith, a, l), columns_more n m xs l h.1)

column_below : (n : ℕ) (xs : List ℕ) (j : ℕ) → AreColumns n xs → IsAmong j xs → j < n
column_below n [] j h i = absurd i
column_below n (x ∷ xs) j h (inl e) = let a = h.0 in omega (arith, a, e)
column_below n (x ∷ xs) j h (inr i) = column_below n xs j h.1 i

range_columns : (k a n : ℕ) → a + k ≤ n → AreColumns n (range_with_len a k)
range_columns zero a n l = tt
range_columns (suc k) a n l = (omega (arith, l), range_columns k (a + 1) n (omega (arith, l)))

range_from : (k a j : ℕ) → IsAmong j (range_with_len a k) → a ≤ j
range_from zero a j i = absurd i
range_from (suc k) a j (inl e) = omega (arith, e)
range_from (suc k) a j (inr i) = let l = range_from k (a + 1) j i in omega (arith, l)

range_to : (k a j : ℕ) → IsAmong j (range_with_len a k) → j < a + k
range_to zero a j i = absurd i
range_to (suc k) a j (inl e) = omega (arith, e)
range_to (suc k) a j (inr i) = let l = range_to k (a + 1) j i in omega (arith, l)

-- ---- columns that stand once

apart_range : (j k a : ℕ) → j < a → IsApartFrom j (range_with_len a k)
apart_range j zero a l = tt
apart_range j (suc k) a l = (λ e. omega (arith, e, l), apart_range j k (a + 1) (omega (arith, l)))

apart_columns : (n j : ℕ) (xs : List ℕ) → n ≤ j → AreColumns n xs → IsApartFrom j xs
apart_columns n j [] l h = tt
apart_columns n j (x ∷ xs) l h = (λ e. (let a = h.0 in omega (arith, a, e, l)), apart_columns n j xs l h.1)

range_distinct : (k a : ℕ) → AreDistinct (range_with_len a k)
range_distinct zero a = tt
range_distinct (suc k) a = (apart_range a k (a + 1) (omega arith), range_distinct k (a + 1))

apart_both : (j : ℕ) (xs ys : List ℕ) → IsApartFrom j xs → IsApartFrom j ys → IsApartFrom j (xs ++ ys)
apart_both j [] ys h k = k
apart_both j (x ∷ xs) ys h k = (h.0, apart_both j xs ys h.1 k)

apart_first : (j : ℕ) (xs ys : List ℕ) → IsApartFrom j (xs ++ ys) → IsApartFrom j xs
apart_first j [] ys h = tt
apart_first j (x ∷ xs) ys h = (h.0, apart_first j xs ys h.1)

apart_second : (j : ℕ) (xs ys : List ℕ) → IsApartFrom j (xs ++ ys) → IsApartFrom j ys
apart_second j [] ys h = h
apart_second j (x ∷ xs) ys h = apart_second j xs ys h.1

distinct_both : (xs ys : List ℕ) → AreDistinct xs → AreDistinct ys → ((j : ℕ) → IsAmong j xs → IsApartFrom j ys) → AreDistinct (xs ++ ys)
distinct_both [] ys h k a = k
distinct_both (x ∷ xs) ys h k a = (apart_both x xs ys h.0 (a x (inl refl)), distinct_both xs ys h.1 k (λ j i. a j (inr i)))

distinct_first : (xs ys : List ℕ) → AreDistinct (xs ++ ys) → AreDistinct xs
distinct_first [] ys h = tt
distinct_first (x ∷ xs) ys h = (apart_first x xs ys h.0, distinct_first xs ys h.1)

distinct_second : (xs ys : List ℕ) → AreDistinct (xs ++ ys) → AreDistinct ys
distinct_second [] ys h = h
distinct_second (x ∷ xs) ys h = distinct_second xs ys h.1

distinct_apart : (xs ys : List ℕ) (j : ℕ) → AreDistinct (xs ++ ys) → IsAmong j xs → IsApartFrom j ys
distinct_apart [] ys j h i = absurd i
distinct_apart (x ∷ xs) ys j h (inl e) = subst (λ z. IsApartFrom z ys) (sym e) (apart_second x xs ys h.0)
distinct_apart (x ∷ xs) ys j h (inr i) = distinct_apart xs ys j h.1 i

-- ---- seats

-- the parameters, the left and the right position have columns of their own
record OwnColumns (n : ℕ) (b l r : List ℕ) : Type 0 where
  pub base_in : AreColumns n b
  pub left_in : AreColumns n l
  pub right_in : AreColumns n r
  pub base_once : AreDistinct b
  pub left_once : AreDistinct l
  pub right_once : AreDistinct r
  pub base_left : (j : ℕ) → IsAmong j b → IsApartFrom j l
  pub base_right : (j : ℕ) → IsAmong j b → IsApartFrom j r
  pub left_right : (j : ℕ) → IsAmong j l → IsApartFrom j r

parts_of : (params : ℕ) (q : Path) → IsSeated params q → OwnColumns q.conj.columns (base params) (columns_of q.left) (columns_of q.right)
parts_of params q h =
    let n = q.conj.columns in
    let b = base params in
    let l = columns_of q.left in
    let r = columns_of q.right in
    let both = columns_second n b (l ++ r) h.there in
    let once = distinct_second b (l ++ r) h.distinct in
    record {
      base_in = columns_first n b (l ++ r) h.there;
      left_in = columns_first n l r both;
      right_in = columns_second n l r both;
      base_once = distinct_first b (l ++ r) h.distinct;
      left_once = distinct_first l r once;
      right_once = distinct_second l r once;
      base_left = λ j i. apart_first j l r (distinct_apart b (l ++ r) j h.distinct i);
      base_right = λ j i. apart_second j l r (distinct_apart b (l ++ r) j h.distinct i);
      left_right = λ j i. distinct_apart l r j once i;
    }

seated_by : (params : ℕ) (q : Path) → OwnColumns q.conj.columns (base params) (columns_of q.left) (columns_of q.right) → IsSeated params q
seated_by params q h =
    let n = q.conj.columns in
    let b = base params in
    let l = columns_of q.left in
    let r = columns_of q.right in
    record {
      there = columns_both n b (l ++ r) h.base_in (columns_both n l r h.left_in h.right_in);
      distinct = distinct_both b (l ++ r) h.base_once (distinct_both l r h.left_once h.right_once h.left_right) (λ j i. apart_both j l r (h.base_left j i) (h.base_right j i));
    }

-- a position with columns behind all others
left_fresh : (n w : ℕ) (b l r : List ℕ) → OwnColumns n b l r → OwnColumns (n + w) b (range_with_len n w) r
left_fresh n w b l r h = record {
  base_in = columns_more n (n + w) b (omega arith) h.base_in;
  left_in = range_columns w n (n + w) (omega arith);
  right_in = columns_more n (n + w) r (omega arith) h.right_in;
  base_once = h.base_once;
  left_once = range_distinct w n;
  right_once = h.right_once;
  base_left = λ j i. apart_range j w n (column_below n b j h.base_in i);
  base_right = h.base_right;
  left_right = λ j i. apart_columns n j r (range_from w n j i) h.right_in;
}

right_fresh : (n w : ℕ) (b l r : List ℕ) → OwnColumns n b l r → OwnColumns (n + w) b l (range_with_len n w)
right_fresh n w b l r h = record {
  base_in = columns_more n (n + w) b (omega arith) h.base_in;
  left_in = columns_more n (n + w) l (omega arith) h.left_in;
  right_in = range_columns w n (n + w) (omega arith);
  base_once = h.base_once;
  left_once = h.left_once;
  right_once = range_distinct w n;
  base_left = h.base_left;
  base_right = λ j i. apart_range j w n (column_below n b j h.base_in i);
  left_right = λ j i. apart_range j w n (column_below n l j h.left_in i);
}

-- ---- branches

gone_seated : (params : ℕ) (h : Path) (side : Side) (u : ℕ) (w : ℕ) (rows : List Row) (position : Position) (last : Option Assumed) → IsSeated params h → IsSeated params (gone_to h side (extended h.conj w rows) (record { position = position; first = h.conj.columns; width = w }) last)
gone_seated params h Left u w rows position last s = seated_by params (gone_to h Left (extended h.conj w rows) (record { position = position; first = h.conj.columns; width = w }) last) (left_fresh h.conj.columns w (base params) (columns_of h.left) (columns_of h.right) (parts_of params h s))
gone_seated params h Right u w rows position last s = seated_by params (gone_to h Right (extended h.conj w rows) (record { position = position; first = h.conj.columns; width = w }) last) (right_fresh h.conj.columns w (base params) (columns_of h.left) (columns_of h.right) (parts_of params h s))

initial_seated : (params : ℕ) (h : Path) (side : Side) → IsSeated params h → IsSeated params (initial_path h side)
initial_seated params h Left s = record { there = s.there; distinct = s.distinct }
initial_seated params h Right s = record { there = s.there; distinct = s.distinct }

map_some : {A B : Type 0} (o : Option A) (f : A → B) (y : B) → option_map f o ≡ Some y → (x : A) × (o ≡ Some x) × (y ≡ f x)
map_some None f y e = absurd cc
map_some (Some x) f y e = (x, refl, (let i : f x ≡ y = cc in sym i))

then_some : {A B : Type 0} (o : Option A) (f : A → Option B) (y : B) → option_and_then f o ≡ Some y → (x : A) × (o ≡ Some x) × (f x ≡ Some y)
then_some None f y e = absurd cc
then_some (Some x) f y e = (x, refl, e)

case_seated : (g : Pairing) (h : Path) (side : Side) (cell : CellForms) (k : Path) → IsSeated g.params h → CaseOf g h side cell 0 (model_of g side).stmts (Some k) → IsSeated g.params k
case_seated g h side cell k s c =
    let source = root h.conj.columns (0 + c.j) c.stmt in
    let reader = seat_of h side in
    let made = map_some (case_rows g.params reader cell source c.stmt c.piece c.level)
    (λ rows. gone_to h side (extended h.conj (width c.stmt) rows) source (Some (record { side = side; reader = reader; source = Some source }))) k (sym c.case) in
    subst (IsSeated g.params) (sym made.2) (gone_seated g.params h side 0 (width c.stmt) made.0 source.position (Some (record { side = side; reader = reader; source = Some source })) s)

read_seated : (g : Pairing) (h : Path) (side : Side) (cell : CellForms) (hs : List Path) → IsSeated g.params h → read_branches g.params (model_of g side) h side cell ≡ Some hs → (k : Path) → IsAmong k hs → IsSeated g.params k
read_seated g h side cell hs s e k i =
    let os = cases_from g.params (model_of g side) h side cell 0 (model_of g side).stmts in
    by (among_either (Some k) os (Some (initial_path h side) ∷ []) (all_among k (os ++ Some (initial_path h side) ∷ []) hs e i))
  where
    by : IsAmong (Some k) (cases_from g.params (model_of g side) h side cell 0 (model_of g side).stmts) ⊎ IsAmong (Some k) (Some (initial_path h side) ∷ []) → IsSeated g.params k
    by (inl c) = case_seated g h side cell k s (case_of g h side cell 0 (model_of g side).stmts (Some k) c)
    by (inr (inl x)) = let j : k ≡ initial_path h side = cc in subst (IsSeated g.params) (sym j) (initial_seated g.params h side s)
    by (inr (inr n)) = absurd n

argument_seated : (params : ℕ) (h : Path) (p q : Position) → IsSeated params h → IsSeated params (argument_path h p q)
argument_seated params h p q s = record { there = s.there; distinct = s.distinct }

kept_seated : (params : ℕ) (h : Path) (ps qs : List Position) (bs : List Path) (b : Path) → IsSeated params h → kept h ps qs ≡ Some bs → IsAmong b bs → IsSeated params b
kept_seated params h [] [] bs b s e i = let x : [] ≡ bs = cc in absurd (subst (IsAmong b) (sym x) i)
kept_seated params h [] (q ∷ qs) bs b s e i = absurd cc
kept_seated params h (p ∷ ps) [] bs b s e i = absurd cc
kept_seated params h (p ∷ ps) (q ∷ qs) bs b s e i =
    let m = map_some (kept h ps qs) (λ rest. argument_path h p q ∷ rest) bs e in
    by m.0 (subst (IsAmong b) m.2 i) (λ j. kept_seated params h ps qs m.0 b s m.1 j)
  where
    by : (rest : List Path) → (b ≡ argument_path h p q) ⊎ IsAmong b rest → (IsAmong b rest → IsSeated params b) → IsSeated params b
    by rest (inl x) next = subst (IsSeated params) (sym x) (argument_seated params h p q s)
    by rest (inr j) next = next j

swapped_seated : (params : ℕ) (h : Path) (ps qs : List Position) (bs : List Path) (b : Path) → IsSeated params h → swapped h ps qs ≡ Some bs → IsAmong b bs → IsSeated params b
swapped_seated params h [] qs bs b s e i = absurd cc
swapped_seated params h (p ∷ []) qs bs b s e i = absurd cc
swapped_seated params h (p ∷ p' ∷ []) [] bs b s e i = absurd cc
swapped_seated params h (p ∷ p' ∷ []) (q ∷ []) bs b s e i = absurd cc
swapped_seated params h (p ∷ p' ∷ []) (q ∷ q' ∷ []) bs b s e i =
    let x : argument_path h p q' ∷ argument_path h p' q ∷ [] ≡ bs = cc in by (subst (IsAmong b) (sym x) i)
  where
    by : IsAmong b (argument_path h p q' ∷ argument_path h p' q ∷ []) → IsSeated params b
    by (inl y) = subst (IsSeated params) (sym y) (argument_seated params h p q' s)
    by (inr (inl y)) = subst (IsSeated params) (sym y) (argument_seated params h p' q s)
    by (inr (inr n)) = absurd n
swapped_seated params h (p ∷ p' ∷ []) (q ∷ q' ∷ q'' ∷ qs) bs b s e i = absurd cc
swapped_seated params h (p ∷ p' ∷ p'' ∷ ps) qs bs b s e i = absurd cc

cond_some : {A : Type 0} (t : Bool) (o : Option A) (y : A) → cond t o None ≡ Some y → o ≡ Some y
cond_some true o y e = e
cond_some false o y e = absurd cc

calls_seated : (g : Pairing) (order : Order) (h : Path) (a b : CallAt) (bs : List Path) (k : Path) → IsSeated g.params h → call_branches g order h a b ≡ Some bs → IsAmong k bs → IsSeated g.params k
calls_seated g Keep h a b bs k s e i = kept_seated g.params h a.args b.args bs k s (cond_some _ (kept h a.args b.args) bs e) i
calls_seated g Swap h a b bs k s e i = swapped_seated g.params h a.args b.args bs k s (cond_some _ (swapped h a.args b.args) bs e) i

both_seated : (g : Pairing) (order : Order) (h : Path) (x y : Option CallAt) (bs : List Path) (k : Path) → IsSeated g.params h → branches_of_calls g order h x y ≡ Some bs → IsAmong k bs → IsSeated g.params k
both_seated g order h (Some a) (Some b) bs k s e i = calls_seated g order h a b bs k s e i
both_seated g order h (Some a) None bs k s e i = absurd cc
both_seated g order h None y bs k s e i = absurd cc

keep_some : (order : Order) (o : Option (List Path)) (bs : List Path) → by_keep order o ≡ Some bs → o ≡ Some bs
keep_some Keep o bs e = e
keep_some Swap o bs e = absurd cc

by_seated : (g : Pairing) (order : Order) (h : Path) (x y : Option CellForms) (bs : List Path) (k : Path) → IsSeated g.params h → branches_by g order h x y ≡ Some bs → IsAmong k bs → IsSeated g.params k
by_seated g order h (Some cell) y bs k s e i = read_seated g h Left cell bs s (keep_some order (read_branches g.params g.left h Left cell) bs e) k i
by_seated g order h None (Some cell) bs k s e i = read_seated g h Right cell bs s (keep_some order (read_branches g.params g.right h Right cell) bs e) k i
by_seated g order h None None bs k s e i = both_seated g order h (call_at g.left h.left.position) (call_at g.right h.right.position) bs k s e i

branch_seated : (g : Pairing) (order : Order) (h : Path) (bs : List Path) (k : Path) → IsSeated g.params h → branches g order h ≡ Some bs → IsAmong k bs → IsSeated g.params k
branch_seated g order h bs k s e i = by_seated g order h (cell_read g.left h.left.position) (cell_read g.right h.right.position) bs k s e i

-- ---- what is left of a case

rest_seated : (params : ℕ) (b d : Path) (rest : Conj) → IsSeated params b → at_rest params b rest ≡ Some d → IsSeated params d
rest_seated params b d rest s e =
    let a = then_some b.last (with_rest params b rest) d e in
    let m = map_some (rows_renaming (columns_left params a.0 b.conj.columns rest) rest.rows) (λ rows. record b { conj = extended b.conj (further params a.0 rest) rows }) d a.2 in
    subst (IsSeated params) (sym m.2) (record { there = columns_more b.conj.columns (b.conj.columns + further params a.0 rest) (own_of params b) (omega arith) s.there; distinct = s.distinct })

-- ---- starts

start_columns_own : (params x y : ℕ) → OwnColumns (params + (x + y)) (base params) (range_with_len params x) (range_with_len (params + x) y)
start_columns_own params x y = record {
  base_in = range_columns params 0 (params + (x + y)) (omega arith);
  left_in = range_columns x params (params + (x + y)) (omega arith);
  right_in = range_columns y (params + x) (params + (x + y)) (omega arith);
  base_once = range_distinct params 0;
  left_once = range_distinct x params;
  right_once = range_distinct y (params + x);
  base_left = λ j i. apart_range j x params (let l = range_to params 0 j i in omega (arith, l));
  base_right = λ j i. apart_range j y (params + x) (let l = range_to params 0 j i in omega (arith, l));
  left_right = λ j i. apart_range j y (params + x) (range_to x params j i);
}

start_seated : (g : Pairing) (c : Claim) (a b : Domain) (l r : List Row) (q : Path) → start g c a b l r ≡ Some q → IsSeated g.params q
start_seated g c a b l r q e =
    let m = map_some (piece_rows g c a b l r) _ q e in
    subst (IsSeated g.params) (sym m.2) (seated_by g.params _ (start_columns_own g.params a.width b.width))

at_seated : (g : Pairing) (c : Claim) (left right : ℕ) (q : Path) → start_at g c left right ≡ Some q → IsSeated g.params q
at_seated g c left right q e =
    let l = then_some (piece_by left (domain g.left c.left)) (λ (x : Piece). start_beside g c x (piece_by right (domain g.right c.right))) q e in
    let r = then_some (piece_by right (domain g.right c.right)) (start_of g c l.0) q l.2 in
    start_seated g c (of_width l.0.width) (of_width r.0.width) l.0.rows r.0.rows q r.2

-- ---- questions

get_among : {A : Type 0} (xs : List A) (i : ℕ) (x : A) → slice_get xs i ≡ Some x → IsAmong x xs
get_among [] i x e = absurd cc
get_among (y ∷ xs) zero x e = inl (let z : x ≡ y = cc in z)
get_among (y ∷ xs) (suc i) x e = inr (get_among xs i x e)

next_seated : (s : ProgramFlows) (order : List (Site × Order)) (q d : Path) → IsSeated (judge s).params q → IsNext s order q d → IsSeated (judge s).params d
next_seated s order q d h (IsNext.call bs _ none e i) = branch_seated (judge s) _ q bs d h e i
next_seated s order q d h (IsNext.read side flow bs number b case rest _ at f e x y i k) = rest_seated (judge s).params b d rest.conj (branch_seated (judge s) Keep q bs b h e (get_among bs number b x)) k

pub question_seated : (s : ProgramFlows) (order : List (Site × Order)) (c : Claim) (q : Path) → IsStepBehind s order c q → IsSeated (judge s).params q
question_seated s order c q h = next_seated s order h.start q (at_seated (judge s) c h.left h.right h.start h.start_is) h.next
