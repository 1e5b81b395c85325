-- What a piece of the domain of a position says of coordinates there.
use Rattle.std.proofs.Common.{◌≡◌, ℕ, zero, suc, ◌+◌, ℤ, List, [], ◌∷◌, ◌++◌, length, Option, Some, refl, sym, ap, ◌∙◌, subst}
use Rattle.std.specs.Prelude.{slice_get, option_and_then, option_map}
use Rattle.std.proofs.lemmas.Option.{slice_get_within}
use Rattle.ac_forms.specs.Affine.{Affine, column_form}
use Rattle.ac_forms.specs.PieceMembership.{IsInSome}
use Rattle.ac_forms.specs.Rows.{Meets}
use Rattle.ac_forms.specs.declared.row.Row.{Row}
use Rattle.ac_forms.specs.declared.row.Row.TheVariants.{Ge}
use Rattle.ac_forms.proofs.InPieces.{some-at}
use Rattle.ac_syntax.specs.declared.tree.Position.{Position}
use Rattle.ac_syntax.specs.declared.tree.Position.TheVariants.{Output, Node, InitialOutput, InitialNode}
use Rattle.ac_poly.specs.CoordinateColumns.{element_rows, room}
use Rattle.ac_poly.specs.declared.types.Model.{Model}
use Rattle.ac_poly.specs.declared.types.NodeModel.{NodeModel}
use Rattle.ac_poly.specs.declared.types.NodeModel.TheVariants as node
use Rattle.ac_poly.specs.declared.types.StmtModel.{StmtModel}
use Rattle.ac_base.proofs.Options.{bind-some, map-some, some-is}
use Rattle.ac_claims.specs.Domains.{piece_by}
use Rattle.ac_claims.specs.ProofFaults.{Domain, domain, node_domain, output_domain}
use Rattle.ac_claims.specs.declared.domains.Piece.{Piece}
use Rattle.ac_claims.proofs.Trees.{output_parts}
use Rattle.ac_claims_paths.specs.InstanceCoordinates.{width}
use Rattle.ac_claims_paths.specs.ModelPositions.{extent_rows, initial_cell, node_at, read_of}
use Rattle.ac_claims_paths.specs.declared.places.CellForms.{CellForms}
use Rattle.ac_widen_programs.specs.PositionInstances.{IsElement, IsHere}

-- ---- what a piece of a position's domain says

elements_are : (k : ℕ) (es : List Affine) → extent_rows k es ≡ element_rows k es
elements_are k [] = refl
elements_are k (e ∷ es) = ap (λ (rows : List Row). Ge (column_form (k + 1) k) ∷ (Ge (room k e) ∷ rows)) (elements_are (k + 1) es)

-- the piece of a domain with a number
record PieceOf (a : Domain) (l : Piece) (k : ℕ) : Type 0 where
  wide : l.width ≡ a.width
  is : slice_get a.pieces k ≡ Some l.rows

piece_of : (m : Model) (P : Position) (k : ℕ) (l : Piece) → piece_by k (domain m P) ≡ Some l → (a : Domain) × (domain m P ≡ Some a) × PieceOf a l k
piece_of m P k l e =
    let a = bind-some (domain m P) (λ (a : Domain). option_map (λ rows. record { width = a.width; rows = rows }) (slice_get a.pieces k)) l e in
    let r = map-some (slice_get a.0.pieces k) (λ rows. record { width = a.0.width; rows = rows }) l a.2 in
    (a.0, a.1, record { wide = ap (λ (z : Piece). z.width) r.2; is = r.1 ∙ ap (λ (z : Piece). Some z.rows) (sym r.2) })

only_one : (q rows : List Row) (k : ℕ) → slice_get (q ∷ []) k ≡ Some rows → q ≡ rows
only_one q rows zero e = some-is q rows e
only_one q rows (suc k) e = absurd cc

element_here : (m : Model) (params : List ℤ) (o : ℕ) (a : Domain) (l : Piece) (k : ℕ) (at : List ℤ) → output_domain m o ≡ Some a → PieceOf a l k → length at ≡ l.width → Meets l.rows (params ++ at) → IsElement m params o at
element_here m params o a l k at e q wide meets =
    let b = output_parts m o a e in
    let rows : extent_rows m.params b.0 ≡ l.rows = only_one (extent_rows m.params b.0) l.rows k (ap (λ (z : Domain). slice_get z.pieces k) (sym b.2) ∙ q.is) in
    record {
      extents = b.0;
      is = b.1;
      count = wide ∙ q.wide ∙ ap (λ (z : Domain). z.width) b.2;
      within = subst (λ (rs : List Row). Meets rs (params ++ at)) (sym rows ∙ elements_are m.params b.0) meets;
    }

-- a node of an instance
record NodeHere (m : Model) (params : List ℤ) (s k : ℕ) (at : List ℤ) : Type 0 where
  stmt : StmtModel
  is : slice_get m.stmts s ≡ Some stmt
  count : length at ≡ width stmt
  piece : IsInSome Meets stmt.pieces (params ++ at)
  node : NodeModel
  node_is : slice_get stmt.nodes k ≡ Some node

node_here : (m : Model) (params : List ℤ) (s j : ℕ) (a : Domain) (l : Piece) (k : ℕ) (at : List ℤ) → node_domain m s j ≡ Some a → PieceOf a l k → length at ≡ l.width → Meets l.rows (params ++ at) → NodeHere m params s j at
node_here m params s j a l k at e q wide meets =
    let b = bind-some (slice_get m.stmts s) (λ (stmt : StmtModel). option_map (λ node. record { width = width stmt; pieces = stmt.pieces }) (slice_get stmt.nodes j)) a e in
    let c = map-some (slice_get b.0.nodes j) (λ node. record { width = width b.0; pieces = b.0.pieces }) a b.2 in
    let there : slice_get b.0.pieces k ≡ Some l.rows = ap (λ (z : Domain). slice_get z.pieces k) (sym c.2) ∙ q.is in
    record { stmt = b.0; is = b.1; count = wide ∙ q.wide ∙ ap (λ (z : Domain). z.width) c.2; piece = some-at Meets b.0.pieces k l.rows (params ++ at) there meets; node = c.0; node_is = c.1 }

reads : (n : NodeModel) (cell : CellForms) → read_of n ≡ Some cell → n ≡ node.Read cell.array cell.subs
reads (node.Number f) cell e = absurd cc
reads (node.Read array subs) cell e = let i : record { array = array; subs = subs } ≡ cell = some-is _ cell e in λ j. node.Read (i j).array (i j).subs
reads (node.Call symbol args) cell e = absurd cc

pub here_of_piece : (m : Model) (params : List ℤ) (P : Position) (k : ℕ) (l : Piece) (at : List ℤ) → piece_by k (domain m P) ≡ Some l → length at ≡ l.width → Meets l.rows (params ++ at) → IsHere m params P at
here_of_piece m params (Output o) k l at e wide meets = let a = piece_of m (Output o) k l e in element_here m params o a.0 l k at a.1 a.2 wide meets
here_of_piece m params (Node s j) k l at e wide meets =
    let a = piece_of m (Node s j) k l e in
    let h = node_here m params s j a.0 l k at a.1 a.2 wide meets in
    record { stmt = h.stmt; instance = record { is = h.is; count = h.count; piece = h.piece }; within = slice_get_within h.stmt.nodes j h.node h.node_is }
here_of_piece m params (InitialOutput o) k l at e wide meets = let a = piece_of m (InitialOutput o) k l e in element_here m params o a.0 l k at a.1 a.2 wide meets
here_of_piece m params (InitialNode s j) k l at e wide meets =
    let a = piece_of m (InitialNode s j) k l e in
    let c = bind-some (initial_cell m (InitialNode s j)) (λ cell. node_domain m s j) a.0 a.1 in
    let h = node_here m params s j a.0 l k at c.2 a.2 wide meets in
    let r = bind-some (node_at m s j) read_of c.0 c.1 in
    let there : node_at m s j ≡ Some h.node = ap (λ (o : Option StmtModel). option_and_then (λ (z : StmtModel). slice_get z.nodes j) o) h.is ∙ h.node_is in
    let same : h.node ≡ r.0 = some-is h.node r.0 (sym there ∙ r.1) in
    record { stmt = h.stmt; instance = record { is = h.is; count = h.count; piece = h.piece }; array = c.0.array; subs = c.0.subs; read = h.node_is ∙ ap Some (same ∙ reads r.0 c.0 r.2) }
