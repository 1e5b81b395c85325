-- The ends of a plan: a claim, two equal numbers, one initial cell.
use Rattle.std.specs.Prelude.{ℕ, ◌&&◌, Bool, false, List, [], ◌∷◌, ◌++◌, Option, Some, None, cond, nat_eq, slice_get}
use Rattle.ac_forms.specs.Affine.{Affine}
use Rattle.ac_forms.specs.declared.row.Row.{Row}
use Rattle.ac_syntax.specs.declared.tree.Position.{Position}
use Rattle.ac_syntax.specs.declared.tree.Position.TheVariants.{Output, Node, InitialOutput, InitialNode}
use Rattle.ac_poly.specs.Model.{is_input}
use Rattle.ac_forms.specs.Renaming.{rows_renaming}
use Rattle.ac_claims_paths.specs.PathColumns.{base, columns_of, equal_forms}
use Rattle.ac_claims_paths.specs.PathSteps.{Pairing}
use Rattle.ac_claims_paths.specs.ModelPositions.{number_at, initial_cell}
use Rattle.ac_claims_paths.specs.declared.places.CellForms.{CellForms}
use Rattle.ac_claims_paths.specs.PathRows.{made_and_stand}
use Rattle.ac_claims_paths.specs.declared.path.Path.{Path}
use Rattle.ac_claims.specs.declared.types.Claim.{Claim}

-- whether two positions are one
abbrev pub same_position : Position → Position → Bool
same_position (Output o) (Output p) = nat_eq o p
same_position (Node s k) (Node t l) = nat_eq s t && nat_eq k l
same_position (InitialOutput o) (InitialOutput p) = nat_eq o p
same_position (InitialNode s k) (InitialNode t l) = nat_eq s t && nat_eq k l
same_position _ _ = false

-- whether two pairs of positions are one
abbrev pub same_pair : Position × Position → Position × Position → Bool
same_pair p q = same_position p.0 q.0 && same_position p.1 q.1

-- the path is below a step of the pair, at the positions of the claim, and the claim's rows stand
abbrev pub hits : ℕ → Path → Option Claim → Bool
hits params h None = false
hits params h (Some c) =
    h.gone && (same_position h.left.position c.left && (same_position h.right.position c.right
    && made_and_stand h.conj.rows (rows_renaming (base params ++ (columns_of h.left ++ columns_of h.right)) c.rows)))

abbrev pub is_hit : Pairing → Path → Option Claim → Bool
is_hit g = hits g.params

abbrev pub equal_numbers : Pairing → Path → Option Affine → Option Affine → Option (List Row)
equal_numbers g h (Some f) (Some f') = equal_forms (base g.params ++ columns_of h.left) (f ∷ []) (base g.params ++ columns_of h.right) (f' ∷ [])
equal_numbers g h None o = None
equal_numbers g h (Some f) None = None

-- two numbers whose equality stands
abbrev pub is_number : Pairing → Path → Bool
is_number g h = made_and_stand h.conj.rows (equal_numbers g h (number_at g.left h.left.position) (number_at g.right h.right.position))

abbrev pub equal_cells : Pairing → Path → Option CellForms → Option CellForms → Option (List Row)
equal_cells g h (Some c) (Some d) =
    cond (nat_eq c.array d.array && is_input (slice_get g.left.kinds c.array)) (equal_forms (base g.params ++ columns_of h.left) c.subs (base g.params ++ columns_of h.right) d.subs) None
equal_cells g h None o = None
equal_cells g h (Some c) None = None

-- initial positions of one input array, and the equality of each subscript stands
abbrev pub is_initial : Pairing → Path → Bool
is_initial g h = made_and_stand h.conj.rows (equal_cells g h (initial_cell g.left h.left.position) (initial_cell g.right h.right.position))
