-- Each branch of a step is a path whose columns are there and whose rows are well made.
use Rattle.std.proofs.Common.{◌≡◌, ℕ, zero, suc, ◌+◌, ◌≤◌, ◌⊎◌, inl, inr, List, [], ◌∷◌, ◌++◌, map, Bool, true, false, cond, Option, Some, None, refl, sym, ap, ◌∙◌, subst, arith}
use Rattle.std.specs.Prelude.{slice_get, nat_eq}
use Rattle.std.specs.List.{flat_map}
use Rattle.std.proofs.lemmas.List.Concat.{flat_map-cons}
use Rattle.ac_forms.specs.Rows.{HaveModuli, AreRowsOver}
use Rattle.ac_forms.specs.declared.row.Row.{Row}
use Rattle.ac_syntax.specs.declared.tree.Position.{Position}
use Rattle.ac_syntax.specs.declared.tree.Position.TheVariants.{Output, Node, InitialOutput, InitialNode}
use Rattle.ac_poly.specs.declared.types.Model.{Model}
use Rattle.ac_poly.specs.declared.types.StmtModel.{StmtModel}
use Rattle.ac_base.proofs.Options.{map-some}
use Rattle.ac_claims_paths.specs.PathColumns.{all_of}
use Rattle.ac_claims_paths.specs.InstanceCoordinates.{width}
use Rattle.ac_claims_paths.specs.PathSteps.{Pairing, case_path, case_rows, cases_of, cases_from, read_branches, initial_path, gone_to, extended, root, model_of, seat_of}
use Rattle.ac_claims_paths.specs.ModelPositions.{CellForms, levels_to, levels_at}
use Rattle.ac_claims_paths.specs.declared.path.Assumed.{Assumed}
use Rattle.ac_claims_paths.specs.declared.path.Path.{Path}
use Rattle.ac_claims_paths.specs.declared.path.Seat.{Seat}
use Rattle.ac_claims_paths.specs.declared.path.Side.{Side}
use Rattle.ac_claims_paths.specs.declared.path.Side.TheVariants.{Left, Right}
use Rattle.ac_claims_paths.proofs.Moving.{all-cons, made-both}
use Rattle.ac_claims_paths.specs.WellFormedPaths.{SeatIn, LastIn, IsFormed, HasModuli}
use Rattle.ac_forms.specs.ListMembers.{IsAmong}
use Rattle.ac_claims_paths.proofs.ReadSteps.{case_parts, case_made}

first : {A : Type 0} (x : A) (p : Option A) (y : A) (os : List (Option A)) (ys : List A) → (x ≡ y) ⊎ IsAmong x ys → p ≡ Some y → (IsAmong x ys → IsAmong (Some x) os) → (Some x ≡ p) ⊎ IsAmong (Some x) os
first x p y os ys (inl i) q f = inl (ap Some i ∙ sym q)
first x p y os ys (inr k) q f = inr (f k)

pub all_among : {A : Type 0} (x : A) (os : List (Option A)) (xs : List A) → all_of os ≡ Some xs → IsAmong x xs → IsAmong (Some x) os
all_among x [] xs e h = let i : [] ≡ xs = cc in absurd (subst (IsAmong x) (sym i) h)
all_among x (p ∷ os) xs e h = let b = all-cons p os xs e in first x p b.0 os b.1 (subst (IsAmong x) b.4 h) b.2 (λ k. all_among x os b.1 b.3 k)

pub in_either : {A : Type 0} (x : A) (xs ys : List A) → IsAmong x (xs ++ ys) → IsAmong x xs ⊎ IsAmong x ys
in_either x [] ys h = inr h
in_either x (y ∷ xs) ys (inl e) = inl (inl e)
in_either x (y ∷ xs) ys (inr h) = elim (in_either x xs ys h) as (λ k. IsAmong x (y ∷ xs) ⊎ IsAmong x ys) [ inl k ↦ inl (inr k) | inr k ↦ inr k ]

map_of : {A B : Type 0} (f : A → B) (y : B) (xs : List A) → IsAmong y (map f xs) → (x : A) × IsAmong x xs × (y ≡ f x)
map_of f y [] h = absurd h
map_of f y (x ∷ xs) (inl e) = (x, inl refl, e)
map_of f y (x ∷ xs) (inr h) = let r = map_of f y xs h in (r.0, inr r.1, r.2)

flat_map_of : {A B : Type 0} (f : A → List B) (y : B) (xs : List A) → IsAmong y (flat_map f xs) → (x : A) × IsAmong x xs × IsAmong y (f x)
flat_map_of f y [] h = absurd h
flat_map_of {A = A} {B = B} f y (x ∷ xs) h = by (in_either y (f x) (flat_map f xs) (subst (IsAmong y) (flat_map-cons f x xs) h)) (λ k. flat_map_of f y xs k)
  where
    by : IsAmong y (f x) ⊎ IsAmong y (flat_map f xs) → (IsAmong y (flat_map f xs) → (z : A) × IsAmong z xs × IsAmong y (f z)) → (z : A) × IsAmong z (x ∷ xs) × IsAmong y (f z)
    by (inl k) next = (x, inl refl, k)
    by (inr k) next = let r = next k in (r.0, inr r.1, r.2)

pub in_get : {A : Type 0} (x : A) (xs : List A) → IsAmong x xs → (k : ℕ) × (slice_get xs k ≡ Some x)
in_get x [] h = absurd h
in_get x (y ∷ xs) (inl e) = (0, ap Some (sym e))
in_get x (y ∷ xs) (inr h) = let r = in_get x xs h in (suc r.0, r.1)

-- what a case is of
pub record CaseOf (g : Pairing) (h : Path) (side : Side) (cell : CellForms) (first : ℕ) (stmts : List StmtModel) (o : Option Path) : Type 0 where
  pub j : ℕ
  pub stmt : StmtModel
  pub is : slice_get stmts j ≡ Some stmt
  pub piece : List Row
  pub pieces : IsAmong piece stmt.pieces
  pub level : List Row
  pub levels : IsAmong level (levels_to (model_of g side) (first + j) stmt (seat_of h side).position)
  pub case : o ≡ case_path g.params h side cell (first + j) stmt piece level

in_cond : {A : Type 0} (b : Bool) (x : A) (xs : List A) → IsAmong x (cond b xs []) → IsAmong x xs
in_cond true x xs h = h
in_cond false x xs h = absurd h

pub case_of : (g : Pairing) (h : Path) (side : Side) (cell : CellForms) (first : ℕ) (stmts : List StmtModel) (o : Option Path) → IsAmong o (cases_from g.params (model_of g side) h side cell first stmts) → CaseOf g h side cell first stmts o
case_of g h side cell first [] o k = absurd k
case_of g h side cell first (s ∷ stmts) o k = by (in_either o (cond (nat_eq s.array cell.array) (cases_of g.params (model_of g side) h side cell first s) []) (cases_from g.params (model_of g side) h side cell (suc first) stmts) k) (λ n. case_of g h side cell (suc first) stmts o n)
  where
    by : IsAmong o (cond (nat_eq s.array cell.array) (cases_of g.params (model_of g side) h side cell first s) []) ⊎ IsAmong o (cases_from g.params (model_of g side) h side cell (suc first) stmts) → (IsAmong o (cases_from g.params (model_of g side) h side cell (suc first) stmts) → CaseOf g h side cell (suc first) stmts o)
        → CaseOf g h side cell first (s ∷ stmts) o
    by (inl n) next =
        let a = in_cond (nat_eq s.array cell.array) o (cases_of g.params (model_of g side) h side cell first s) n in
        let b = flat_map_of (λ piece. map (case_path g.params h side cell first s piece) (levels_to (model_of g side) first s (seat_of h side).position)) o s.pieces a in
        let c = map_of (case_path g.params h side cell first s b.0) o (levels_to (model_of g side) first s (seat_of h side).position) b.2 in
        let e : first ≡ first + 0 = omega arith in
        record {
          j = 0;
          stmt = s;
          is = refl;
          piece = b.0;
          pieces = b.1;
          level = c.0;
          levels = subst (λ u. IsAmong c.0 (levels_to (model_of g side) u s (seat_of h side).position)) e c.1;
          case = c.2 ∙ ap (λ u. case_path g.params h side cell u s b.0 c.0) e;
        }
    by (inr n) next =
        let r = next n in
        let e : suc first + r.j ≡ first + suc r.j = omega arith in
        record {
          j = suc r.j;
          stmt = r.stmt;
          is = r.is;
          piece = r.piece;
          pieces = r.pieces;
          level = r.level;
          levels = subst (λ u. IsAmong r.level (levels_to (model_of g side) u r.stmt (seat_of h side).position)) e r.levels;
          case = r.case ∙ ap (λ u. case_path g.params h side cell u r.stmt r.piece r.level) e;
        }

levels_have : (m : Model) → HasModuli m → (u : ℕ) (stmt : StmtModel) (P : Position) (k : ℕ) (level : List Row) → slice_get (levels_to m u stmt P) k ≡ Some level → HaveModuli level
levels_have m d u stmt (Output o) zero level e = let i : [] ≡ level = cc in rw (← i) tt
levels_have m d u stmt (Output o) (suc k) level e = absurd cc
levels_have m d u stmt (Node s j) k level e = by (slice_get m.stmts s) refl e
  where
    by : (o : Option StmtModel) → slice_get m.stmts s ≡ o → slice_get (levels_at m u stmt s o) k ≡ Some level → HaveModuli level
    by (Some reader) i e = d.levels u stmt s reader k level e
    by None i e = absurd cc
levels_have m d u stmt (InitialOutput o) k level e = absurd cc
levels_have m d u stmt (InitialNode s j) k level e = absurd cc

pub level_moduli : (m : Model) → HasModuli m → (u : ℕ) (stmt : StmtModel) (P : Position) (k : ℕ) (level : List Row) → slice_get (levels_to m u stmt P) k ≡ Some level → HaveModuli level
level_moduli = levels_have

-- rows over fewer columns are rows over more
pub made-wide : (rows : List Row) (n m : ℕ) → n ≤ m → AreRowsOver n rows → AreRowsOver m rows
made-wide [] n m l w = tt
made-wide (r ∷ rows) n m l w = ((let a = w.0.0 in omega (arith, l, a), w.0.1), made-wide rows n m l w.1)

reader_in : (g : Pairing) (h : Path) (side : Side) → IsFormed g.params h → SeatIn (seat_of h side) h.conj.columns
reader_in g h Left i = i.left_in
reader_in g h Right i = i.right_in

in_gone : (g : Pairing) (h : Path) (side : Side) (more : ℕ) (rows : List Row) (seat : Seat) (last : Option Assumed) → IsFormed g.params h → AreRowsOver (h.conj.columns + more) rows → SeatIn seat (h.conj.columns + more) → LastIn last (h.conj.columns + more)
    → IsFormed g.params (gone_to h side (extended h.conj more rows) seat last)
in_gone g h Left more rows seat last i made s l = record {
  made = made-both (h.conj.columns + more) h.conj.rows rows (made-wide h.conj.rows h.conj.columns (h.conj.columns + more) (omega arith) i.made) made;
  base_in = (let a = i.base_in in omega (arith, a));
  left_in = s;
  right_in = (let a = i.right_in in omega (arith, a));
  last_in = l;
}
in_gone g h Right more rows seat last i made s l = record {
  made = made-both (h.conj.columns + more) h.conj.rows rows (made-wide h.conj.rows h.conj.columns (h.conj.columns + more) (omega arith) i.made) made;
  base_in = (let a = i.base_in in omega (arith, a));
  left_in = (let a = i.left_in in omega (arith, a));
  right_in = s;
  last_in = l;
}

in_initial : (g : Pairing) (h : Path) (side : Side) → IsFormed g.params h → IsFormed g.params (initial_path h side)
in_initial g h Left i = record { made = i.made; base_in = i.base_in; left_in = i.left_in; right_in = i.right_in; last_in = (i.left_in, tt) }
in_initial g h Right i = record { made = i.made; base_in = i.base_in; left_in = i.left_in; right_in = i.right_in; last_in = (i.right_in, tt) }

in_case : (g : Pairing) (hm : (side : Side) → HasModuli (model_of g side)) (h : Path) (side : Side) (cell : CellForms) (k : Path) → IsFormed g.params h → CaseOf g h side cell 0 (model_of g side).stmts (Some k) → IsFormed g.params k
in_case g hm h side cell k i c =
    let m = model_of g side in
    let d = hm side in
    let n = h.conj.columns in
    let u = 0 + c.j in
    let source = root n u c.stmt in
    let reader = seat_of h side in
    let made_rows = map-some (case_rows g.params reader cell source c.stmt c.piece c.level)
    (λ rows. gone_to h side (extended h.conj (width c.stmt) rows) source (Some (record { side = side; reader = reader; source = Some source }))) k (sym c.case) in
    let parts = case_parts g.params reader cell source c.stmt c.piece c.level made_rows.0 made_rows.1 in
    let pk = in_get c.piece c.stmt.pieces c.pieces in
    let lk = in_get c.level (levels_to m u c.stmt reader.position) c.levels in
    let hp = d.pieces c.j c.stmt pk.0 c.piece c.is pk.1 in
    let hl = levels_have m d u c.stmt reader.position lk.0 c.level lk.1 in
    let r0 : SeatIn reader n = reader_in g h side i in
    let r : SeatIn reader (n + width c.stmt) = omega (arith, r0) in
    let b : g.params ≤ n + width c.stmt = (let a = i.base_in in omega (arith, a)) in
    let made = case_made g.params reader cell source c.stmt c.piece c.level made_rows.0 (n + width c.stmt) b r (omega arith) hp hl parts in
    subst (λ (y : Path). IsFormed g.params y) (sym made_rows.2) (in_gone g h side (width c.stmt) made_rows.0 source (Some (record { side = side; reader = reader; source = Some source })) i made (omega arith) (r, omega arith))

pub in_branches : (g : Pairing) (hm : (side : Side) → HasModuli (model_of g side)) (h : Path) (side : Side) (cell : CellForms) (hs : List Path) → IsFormed g.params h → read_branches g.params (model_of g side) h side cell ≡ Some hs → (k : Path) → IsAmong k hs → IsFormed g.params k
in_branches g hm h side cell hs i br k a =
    let os = cases_from g.params (model_of g side) h side cell 0 (model_of g side).stmts in
    by (in_either (Some k) os (Some (initial_path h side) ∷ []) (all_among k (os ++ Some (initial_path h side) ∷ []) hs br a))
  where
    by : IsAmong (Some k) (cases_from g.params (model_of g side) h side cell 0 (model_of g side).stmts) ⊎ IsAmong (Some k) (Some (initial_path h side) ∷ []) → IsFormed g.params k
    by (inl c) = in_case g hm h side cell k i (case_of g h side cell 0 (model_of g side).stmts (Some k) c)
    by (inr (inl e)) = let j : k ≡ initial_path h side = cc in subst (λ (y : Path). IsFormed g.params y) (sym j) (in_initial g h side i)
    by (inr (inr n)) = absurd n
