-- The case of a source stands among the branches of a read or an output.
use Rattle.std.proofs.Common.{◌≡◌, ℕ, zero, suc, ◌+◌, inl, inr, ℤ, List, [], ◌∷◌, ◌++◌, map, length, true, cond, Option, Some, refl, sym, ap, ◌∙◌, subst, arith}
use Rattle.std.specs.Prelude.{slice_get, nat_eq}
use Rattle.std.specs.List.{flat_map}
use Rattle.std.proofs.lemmas.Bool.Decides.{Decides-eqb}
use Rattle.std.proofs.lemmas.List.Concat.{flat_map-cons}
use Rattle.ac_forms.specs.Rows.{Meets}
use Rattle.ac_forms.specs.declared.row.Row.{Row}
use Rattle.ac_syntax.specs.Trace.{Entry}
use Rattle.ac_syntax.specs.Algebra.{Cell, target}
use Rattle.ac_syntax.specs.Source.{Writer, Stands, source}
use Rattle.ac_syntax.specs.Spot.{Spot, AtEnd, AtNode, AtStart, Reads, an_output, an_access}
use Rattle.ac_syntax.specs.Where.{element}
use Rattle.ac_syntax.specs.declared.tree.Position.{Position}
use Rattle.ac_syntax.specs.declared.tree.Position.TheVariants.{Output, Node, InitialOutput, InitialNode}
use Rattle.ac_syntax.specs.declared.tree.Value.{Value}
use Rattle.ac_syntax.specs.Spot.{cell_at}
use Rattle.ac_syntax.proofs.Cells.{same_cell_is}
use Rattle.ac_syntax.proofs.Sources.{source_stands, stands_within, place_below, earlier_stands}
use Rattle.ac_poly.specs.declared.types.Model.{Model}
use Rattle.ac_poly.specs.declared.types.StmtModel.{StmtModel}
use Rattle.ac_claims_paths.specs.PathColumns.{all_of}
use Rattle.ac_claims_paths.specs.InstanceCoordinates.{levels_before}
use Rattle.ac_claims_paths.specs.Executions.{Execution, InstanceAt, At, Describes}
use Rattle.ac_claims_paths.specs.PathSteps.{Pairing, cases_of, cases_from, model_of}
use Rattle.ac_claims_paths.specs.ModelPositions.{CellForms, levels_to, levels_at}
use Rattle.ac_claims_paths.specs.declared.path.Path.{Path}
use Rattle.ac_claims_paths.specs.declared.path.Side.{Side}
use Rattle.ac_forms.specs.ListMembers.{IsAmong}
use Rattle.ac_claims_paths.proofs.Moving.{all-cons}
use Rattle.ac_forms.specs.PieceMembership.{IsInSome}
use Rattle.ac_forms.proofs.InPieces.{some-at}

pub in_left : {A : Type 0} (x : A) (xs ys : List A) → IsAmong x xs → IsAmong x (xs ++ ys)
in_left x [] ys h = absurd h
in_left x (y ∷ xs) ys (inl e) = inl e
in_left x (y ∷ xs) ys (inr h) = inr (in_left x xs ys h)

pub in_right : {A : Type 0} (x : A) (xs ys : List A) → IsAmong x ys → IsAmong x (xs ++ ys)
in_right x [] ys h = h
in_right x (y ∷ xs) ys h = inr (in_right x xs ys h)

pub in_map : {A B : Type 0} (f : A → B) (x : A) (xs : List A) → IsAmong x xs → IsAmong (f x) (map f xs)
in_map f x [] h = absurd h
in_map f x (y ∷ xs) (inl e) = inl (ap f e)
in_map f x (y ∷ xs) (inr h) = inr (in_map f x xs h)

pub in_flat_map : {A B : Type 0} (f : A → List B) (x : A) (xs : List A) (y : B) → IsAmong x xs → IsAmong y (f x) → IsAmong y (flat_map f xs)
in_flat_map f x [] y h k = absurd h
in_flat_map f x (z ∷ xs) y (inl e) k = subst (IsAmong y) (sym (flat_map-cons f z xs)) (in_left y (f z) (flat_map f xs) (subst (λ a. IsAmong y (f a)) e k))
in_flat_map f x (z ∷ xs) y (inr h) k = subst (IsAmong y) (sym (flat_map-cons f z xs)) (in_right y (f z) (flat_map f xs) (in_flat_map f x xs y h k))

pub in_all : {A : Type 0} (o : Option A) (os : List (Option A)) (xs : List A) → all_of os ≡ Some xs → IsAmong o os → (x : A) × (o ≡ Some x) × IsAmong x xs
in_all o [] xs e h = absurd h
in_all o (p ∷ os) xs e (inl i) = let b = all-cons p os xs e in (b.0, i ∙ b.2, subst (IsAmong b.0) (sym b.4) (inl refl))
in_all o (p ∷ os) xs e (inr h) = let b = all-cons p os xs e in let r = in_all o os b.1 b.3 h in (r.0, r.1, subst (IsAmong r.0) (sym b.4) (inr r.2))

-- a piece that a point meets
pub somewhere_in : (qs : List (List Row)) (p : List ℤ) → IsInSome Meets qs p → (q : List Row) × IsAmong q qs × Meets q p
somewhere_in [] p h = absurd h
somewhere_in (q ∷ qs) p (inl h) = (q, inl refl, h)
somewhere_in (q ∷ qs) p (inr h) = let r = somewhere_in qs p h in (r.0, inr r.1, r.2)

array_test : (a b : ℕ) (xs ys : List (Option Path)) → a ≡ b → cond (nat_eq a b) xs ys ≡ xs
array_test a b xs ys e = let i : nat_eq a b ≡ true = (Decides-eqb a b).1 e in rw i refl

-- the cases of one assignment are among those of all
pub in_cases : (g : Pairing) (h : Path) (side : Side) (cell : CellForms) (first j u : ℕ) (stmts : List StmtModel) (stmt : StmtModel) (o : Option Path)
    → slice_get stmts j ≡ Some stmt → stmt.array ≡ cell.array → first + j ≡ u → IsAmong o (cases_of g.params (model_of g side) h side cell u stmt) → IsAmong o (cases_from g.params (model_of g side) h side cell first stmts)
in_cases g h side cell first j u [] stmt o e a n k = absurd cc
in_cases g h side cell first zero u (s ∷ stmts) stmt o e a n k =
    let i : s ≡ stmt = cc in
    let m : first ≡ u = omega (arith, n) in
    let c : IsAmong o (cases_of g.params (model_of g side) h side cell first s) = rw (i, m) k in
    let t = array_test s.array cell.array (cases_of g.params (model_of g side) h side cell first s) [] (ap (λ (x : StmtModel). x.array) i ∙ a) in
    in_left o _ (cases_from g.params (model_of g side) h side cell (suc first) stmts) (subst (IsAmong o) (sym t) c)
in_cases g h side cell first (suc j) u (s ∷ stmts) stmt o e a n k = in_right o _ (cases_from g.params (model_of g side) h side cell (suc first) stmts) (in_cases g h side cell (suc first) j u stmts stmt o e a (omega (arith, n)) k)

-- an entry at which a position stands
pub here_stands : (x : Execution) (P : Position) (at : List ℤ) (w : Writer) (v : Value) → At x P at (AtNode w v) → Stands x.trace w
unfolding At
here_stands x (Output o) at w v h = absurd cc
here_stands x (Node stmt node) at w v (u, i, v', k, eq) = let j : w ≡ u = cc in rw j i.stands
here_stands x (InitialOutput o) at w v h = absurd cc
here_stands x (InitialNode stmt node) at w v (u, i, a, b, c, k, eq) = absurd cc

pub stands_all : (x : Execution) (P : Position) (at : List ℤ) (s : Spot) (c : Cell) (before : List Entry) (w : Writer) → At x P at s → Reads x.trace s c before → Stands before w → Stands x.trace w
stands_all x P at s c before w h (an_output d) k = k
stands_all x P at s c before w h (an_access v array subs place) k = stands_within (here_stands x P at v _ h) k

-- the level by which an entry stands before a read or an output
pub level_in : (m : Model) (params : List ℤ) (x : Execution) → Describes m params x → (P : Position) (at : List ℤ) (s : Spot) (c : Cell) (before : List Entry) (w : Writer) (stmt : StmtModel) → At x P at s → Reads x.trace s c before
    → Stands before w → slice_get m.stmts w.entry.stmt ≡ Some stmt → (level : List Row) × IsAmong level (levels_to m w.entry.stmt stmt P) × Meets level (params ++ (x.coords w.entry ++ at))
unfolding At
level_in m params x d (Output o) at s c before w stmt h r b e = ([], inl refl, tt)
level_in m params x d (Node k j) at s c before w stmt (u, i, v, n, is) r b e = by s c before r is b
  where
    at_read : Stands u.earlier w → (level : List Row) × IsAmong level (levels_to m w.entry.stmt stmt (Node k j)) × Meets level (params ++ (x.coords w.entry ++ at))
    at_read b =
        let reader = d.entry u i.stands in
        let a : Stands x.trace w = stands_within i.stands b in
        let o = (d.order w u stmt reader.stmt a i.stands e reader.is).0 (place_below b) in
        let r = somewhere_in (levels_before (length params) w.entry.stmt stmt u.entry.stmt reader.stmt) (params ++ (x.coords w.entry ++ x.coords u.entry)) o in
        let is : slice_get m.stmts k ≡ Some reader.stmt = ap (slice_get m.stmts) (sym i.stmt) ∙ reader.is in
        let same : levels_before (length params) w.entry.stmt stmt u.entry.stmt reader.stmt ≡ levels_to m w.entry.stmt stmt (Node k j) =
        (λ z. levels_before (sym d.count z) w.entry.stmt stmt (i.stmt z) reader.stmt) ∙ ap (levels_at m w.entry.stmt stmt k) (sym is) in
        (r.0, subst (IsAmong r.0) same r.1, subst (λ (y : List ℤ). Meets r.0 (params ++ (x.coords w.entry ++ y))) i.coords r.2)

    by : (s : Spot) (c : Cell) (before : List Entry) → Reads x.trace s c before → s ≡ AtNode u v → Stands before w → (level : List Row) × IsAmong level (levels_to m w.entry.stmt stmt (Node k j)) × Meets level (params ++ (x.coords w.entry ++ at))
    by s c before (an_output d) e b = absurd cc
    by s c before (an_access z array subs place) e b = let q : z ≡ u = cc in at_read (subst (λ (y : Writer). Stands y.earlier w) q b)
level_in m params x d (InitialOutput o) at s c before w stmt h r b e = by s c before r h.1
  where
    by : (s : Spot) (c : Cell) (before : List Entry) → Reads x.trace s c before → s ≡ AtStart (element o at) → (level : List Row) × ⊥ × Meets level (params ++ (x.coords w.entry ++ at))
    by s c before (an_output d) e = absurd cc
    by s c before (an_access z array subs place) e = absurd cc
level_in m params x d (InitialNode k j) at s c before w stmt (u, i, array, subs, place, n, is) r b e = by s c before r is
  where
    by : (s : Spot) (c : Cell) (before : List Entry) → Reads x.trace s c before → s ≡ AtStart (cell_at u array subs) → (level : List Row) × ⊥ × Meets level (params ++ (x.coords w.entry ++ at))
    by s c before (an_output d) e = absurd cc
    by s c before (an_access z array' subs' place') e = absurd cc

-- an instance at such a level stands among the entries before the read or output
pub stands_of_level : (m : Model) (params : List ℤ) (x : Execution) → Describes m params x → (P : Position) (at : List ℤ) (s : Spot) (c : Cell) (before : List Entry) (u : ℕ) (z : List ℤ) (w : Writer) (stmt : StmtModel) (k : ℕ) (level : List Row)
    → At x P at s → Reads x.trace s c before → InstanceAt x u z w → slice_get m.stmts u ≡ Some stmt → slice_get (levels_to m u stmt P) k ≡ Some level → Meets level (params ++ (z ++ at)) → Stands before w
unfolding At
stands_of_level m params x d (Output o) at s c before u z w stmt k level h r i e l me = by s c before r h.1
  where
    by : (s : Spot) (c : Cell) (before : List Entry) → Reads x.trace s c before → s ≡ AtEnd (element o at) → Stands before w
    by s c before (an_output d) e = i.stands
    by s c before (an_access v array subs place) e = absurd cc
stands_of_level m params x d (Node s' j) at s c before u z w stmt k level (v, iv, val, n, is) r i e l me = by s c before r is
  where
    at_read : Stands v.earlier w
    at_read =
        let reader = d.entry v iv.stands in
        let is' : slice_get m.stmts s' ≡ Some reader.stmt = ap (slice_get m.stmts) (sym iv.stmt) ∙ reader.is in
        let same : levels_to m u stmt (Node s' j) ≡ levels_before (length params) w.entry.stmt stmt v.entry.stmt reader.stmt =
        ap (levels_at m u stmt s') is' ∙ (λ q. levels_before (d.count q) (sym i.stmt q) stmt (sym iv.stmt q) reader.stmt) in
        let me' : Meets level (params ++ (x.coords w.entry ++ x.coords v.entry)) = subst (λ (y : List ℤ). Meets level (params ++ (y ++ x.coords v.entry))) (sym i.coords) (subst (λ (y : List ℤ). Meets level (params ++ (z ++ y))) (sym iv.coords) me) in
        let some = some-at Meets (levels_before (length params) w.entry.stmt stmt v.entry.stmt reader.stmt) k level (params ++ (x.coords w.entry ++ x.coords v.entry)) (ap (λ (y : List (List Row)). slice_get y k) (sym same) ∙ l) me' in
        let is : slice_get m.stmts w.entry.stmt ≡ Some stmt = ap (slice_get m.stmts) i.stmt ∙ e in
        earlier_stands iv.stands i.stands ((d.order w v stmt reader.stmt i.stands iv.stands is reader.is).1 some)

    by : (s : Spot) (c : Cell) (before : List Entry) → Reads x.trace s c before → s ≡ AtNode v val → Stands before w
    by s c before (an_output d) e = absurd cc
    by s c before (an_access y array subs place) e = let q : y ≡ v = cc in subst (λ (y : Writer). Stands y.earlier w) (sym q) at_read
stands_of_level m params x d (InitialOutput o) at s c before u z w stmt k level h r i e l me = absurd cc
stands_of_level m params x d (InitialNode s' j) at s c before u z w stmt k level h r i e l me = absurd cc

-- the cell of a source
pub source_cell : (m : Model) (params : List ℤ) (x : Execution) → Describes m params x → (c : Cell) (before : List Entry) (w : Writer) (stmt : StmtModel) → source c before ≡ Some w → Stands x.trace w → slice_get m.stmts w.entry.stmt ≡ Some stmt
    → c ≡ target w.entry
source_cell m params x d c before w stmt e s is = same_cell_is c (target w.entry) (source_stands c before w e).1
