-- The first line of a proof that fails, and its rule. Line 1 names the format; each part of a proof is a line.
use Rattle.std.specs.Prelude.{◌≡◌, ℕ, ◌+◌, ◌&&◌, Bool, true, false, ℤ, pos, negsuc, List, [], ◌∷◌, ◌++◌, map, length, Option, Some, None, option_and_then, option_map, cond, nat_eq, nat_le, int_le, slice_get, unsigned_abs}
use Rattle.std.specs.List.{flat_map, list_any}
use Rattle.std.specs.Ordering.{int_eq}
use Rattle.ac_forms.specs.Affine.{Affine, value_at, combined, column_form}
use Rattle.ac_forms.specs.Fits.{fits}
use Rattle.ac_forms.specs.Rows.{form_of}
use Rattle.ac_forms.specs.RangeTests.{form_fits, can_evaluate}
use Rattle.ac_forms.specs.declared.row.Row.{Row}
use Rattle.ac_forms.specs.declared.row.Row.TheVariants.{Eq, Div, Ge}
use Rattle.ac_base.specs.Multiple.{divides}
use Rattle.ac_syntax.specs.declared.tree.Position.{Position}
use Rattle.ac_syntax.specs.declared.tree.Position.TheVariants.{Output, Node, InitialOutput, InitialNode}
use Rattle.ac_poly.specs.CoordinateColumns.{room}
use Rattle.ac_poly.specs.Model.{is_input}
use Rattle.ac_poly.specs.declared.types.Model.{Model}
use Rattle.ac_poly.specs.declared.types.StmtModel.{StmtModel}
use Rattle.ac_cert.specs.CertificateFaults.{Fault, first_fault_of}
use Rattle.ac_cert.specs.declared.types.Rule.TheVariants as rule
use Rattle.ac_forms.specs.Renaming.{rows_renaming}
use Rattle.ac_claims_paths.specs.PathColumns.{base, columns_of, appended, equal_forms}
use Rattle.ac_claims_paths.specs.InstanceCoordinates.{width}
use Rattle.ac_claims.specs.ProofEnds.{same_position}
use Rattle.ac_claims_paths.specs.PathSteps.{Pairing}
use Rattle.ac_claims_paths.specs.ModelPositions.{extent_rows, initial_cell, element_forms}
use Rattle.ac_claims.specs.PlanFaults.{fault_unless, plan_fault, plan_lines}
use Rattle.ac_forms.specs.Standing.{all_stand}
use Rattle.ac_claims_paths.specs.declared.path.Path.{Path}
use Rattle.ac_claims_paths.specs.declared.path.Seat.{Seat}
use Rattle.ac_claims.specs.declared.types.Claim.{Claim}
use Rattle.ac_claims.specs.declared.types.ClaimTree.{ClaimTree}
use Rattle.ac_claims.specs.declared.types.Heads.{Heads}
use Rattle.ac_claims.specs.declared.types.Proof.{Proof}

-- the pieces of a position and the number of its coordinates; none where the model has no such position
pub record Domain : Type 0 where
  pub width : ℕ
  pub pieces : List (List Row)

-- an input array with at least one dimension
abbrev pub is_output_array : Model → ℕ → Bool
is_output_array m o = is_input (slice_get m.kinds o) && has_dimension (slice_get m.extents o)
  where
    has_dimension : Option (List Affine) → Bool
    has_dimension None = false
    has_dimension (Some extents) = nat_le 1 (length extents)

-- each extent less its coordinate, and that less 1, is made in `i128`; the coordinates stand from column k on
abbrev pub can_bound : ℕ → List Affine → Bool
can_bound k [] = true
can_bound k (e ∷ es) = (form_fits (combined (pos 1) e (negsuc 0) (column_form (k + 1) k)) && fits ((room k e).konst)) && can_bound (k + 1) es

-- the rows of the elements with these extents
abbrev pub bounded_rows : ℕ → List Affine → Option (List Row)
bounded_rows k extents = cond (can_bound k extents) (Some (extent_rows k extents)) None

-- an output has one piece: each coordinate is at least 0 and less than its extent
abbrev pub with_extents : Model → List Affine → Option Domain
with_extents m extents = option_map (λ rows. record { width = length extents; pieces = rows ∷ [] }) (bounded_rows m.params extents)

abbrev pub some_output : Model → ℕ → Option Domain
some_output m o = option_and_then (with_extents m) (slice_get m.extents o)

abbrev pub output_domain : Model → ℕ → Option Domain
output_domain m o = cond (is_output_array m o) (some_output m o) None

abbrev pub node_domain : Model → ℕ → ℕ → Option Domain
node_domain m s k = option_and_then (λ (stmt : StmtModel). option_map (λ node. record { width = width stmt; pieces = stmt.pieces }) (slice_get stmt.nodes k)) (slice_get m.stmts s)

-- an initial position is that of a read or an output
abbrev pub domain : Model → Position → Option Domain
domain m (Output o) = output_domain m o
domain m (Node s k) = node_domain m s k
domain m (InitialOutput o) = output_domain m o
domain m (InitialNode s k) = option_and_then (λ cell. node_domain m s k) (initial_cell m (InitialNode s k))

-- the value holds at the point
abbrev pub row_holds : Row → List ℤ → Bool
row_holds (Eq f) p = int_eq (value_at f p) (pos 0)
row_holds (Div m f) p = divides (unsigned_abs m) (value_at f p)
row_holds (Ge f) p = int_le (pos 0) (value_at f p)

abbrev pub rows_hold : List Row → List ℤ → Bool
rows_hold [] p = true
rows_hold (r ∷ rs) p = can_evaluate (form_of r) p && (row_holds r p && rows_hold rs p)

abbrev pub is_point : Model → List ℤ → Bool
is_point m p = nat_eq (length p) m.params && rows_hold m.context p

-- the number of counters of an assignment and, behind it, that of its quotients
abbrev pub has_shape : ℕ × ℕ → StmtModel → Bool
has_shape h stmt = nat_eq h.0 (length stmt.loops) && nat_eq h.1 (length stmt.quots)

-- one shape for each assignment
abbrev pub have_shapes : List (ℕ × ℕ) → List StmtModel → Bool
have_shapes [] [] = true
have_shapes [] (stmt ∷ stmts) = false
have_shapes (h ∷ hs) [] = false
have_shapes (h ∷ hs) (stmt ∷ stmts) = has_shape h stmt && have_shapes hs stmts

abbrev pub head_lines : Option Heads → ℕ
head_lines None = 0
head_lines (Some h) = 2

-- the shapes of both programs, where the proof states them, on the lines 3 and 4
abbrev pub heads_fault : Pairing → Option Heads → Fault
heads_fault g None = None
heads_fault g (Some h) = first_fault_of (fault_unless (have_shapes h.left g.left.stmts) 3 rule.Coords) (fault_unless (have_shapes h.right g.right.stmts) 4 rule.Coords)

-- the rows of a claim, each on its line, over so many columns
abbrev pub claim_rows_fault : ℕ → List Row → ℕ → Fault
claim_rows_fault columns [] k = None
claim_rows_fault columns (r ∷ rs) k = first_fault_of (fault_unless (nat_le (length (form_of r).coefs) columns) k rule.Claim) (claim_rows_fault columns rs (k + 1))

abbrev pub claim_fault_at : Pairing → Option Domain → Option Domain → List Row → ℕ → Fault
claim_fault_at g (Some a) (Some b) rows k = claim_rows_fault (g.params + (a.width + b.width)) rows (k + 1)
claim_fault_at g None b rows k = Some (k, rule.Claim)
claim_fault_at g (Some a) None rows k = Some (k, rule.Claim)

abbrev pub claim_fault : Pairing → Claim → ℕ → Fault
claim_fault g c k = claim_fault_at g (domain g.left c.left) (domain g.right c.right) c.rows k

abbrev pub claims_fault : Pairing → List Claim → ℕ → Fault
claims_fault g [] k = None
claims_fault g (c ∷ cs) k = first_fault_of (claim_fault g c k) (claims_fault g cs (k + (1 + length c.rows)))

abbrev pub claim_lines : List Claim → ℕ
claim_lines [] = 0
claim_lines (c ∷ cs) = (1 + length c.rows) + claim_lines cs

-- where the positions of a claim stand at the beginning
abbrev pub left_seat : Pairing → Claim → Domain → Seat
left_seat g c a = record { position = c.left; first = g.params; width = a.width }

abbrev pub right_seat : Pairing → Claim → Domain → Domain → Seat
right_seat g c a b = record { position = c.right; first = g.params + a.width; width = b.width }

abbrev pub start_columns : Pairing → Domain → Domain → ℕ
start_columns g a b = g.params + (a.width + b.width)

-- the rows of two pieces, over the columns of both positions
abbrev pub piece_rows : Pairing → Claim → Domain → Domain → List Row → List Row → Option (List Row)
piece_rows g c a b left right = appended (rows_renaming (base g.params ++ columns_of (left_seat g c a)) left) (rows_renaming (base g.params ++ columns_of (right_seat g c a b)) right)

-- the path of a claim's plan: the claim's rows, the context, and a piece of each position
abbrev pub start : Pairing → Claim → Domain → Domain → List Row → List Row → Option Path
start g c a b left right = option_map (λ rows. record {
  conj = record { columns = start_columns g a b; rows = c.rows ++ (g.left.context ++ rows) };
  left = left_seat g c a;
  right = right_seat g c a b;
  gone = false;
  last = None;
}) (piece_rows g c a b left right)

-- the claim of an output asks no more than equal elements, the context and the extents
abbrev pub output_rows : Pairing → Claim → Domain → Domain → List Row → List Row → Option (List Row)
output_rows g c a b left right =
    appended (equal_forms (columns_of (left_seat g c a)) (element_forms 0 a.width) (columns_of (right_seat g c a b)) (element_forms 0 b.width)) (option_map (λ rows. g.left.context ++ rows) (piece_rows g c a b left right))

abbrev pub all_stand_among : Option (List Row) → List Row → Bool
all_stand_among None rows = false
all_stand_among (Some given) rows = all_stand given rows

-- an output has one piece
abbrev pub asks_by : Pairing → Claim → Domain → Domain → List (List Row) → List (List Row) → Bool
asks_by g c a b (left ∷ []) (right ∷ []) = all_stand_among (output_rows g c a b left right) c.rows
asks_by g c a b ls rs = false

abbrev pub asks_no_more : Pairing → Claim → Option Domain → Option Domain → Bool
asks_no_more g c (Some a) (Some b) = asks_by g c a b a.pieces b.pieces
asks_no_more g c None b = false
asks_no_more g c (Some a) None = false

abbrev pub output_stands : Pairing → List ℕ → ℕ → Option Claim → Bool
output_stands g outputs o None = false
output_stands g outputs o (Some c) =
    list_any (nat_eq o) outputs && (same_position c.left (Output o) && (same_position c.right (Output o) && asks_no_more g c (domain g.left c.left) (domain g.right c.right)))

abbrev pub outputs_fault : Pairing → List ℕ → List Claim → List (ℕ × ℕ) → ℕ → Fault
outputs_fault g outputs cs [] k = None
outputs_fault g outputs cs (o ∷ os) k = first_fault_of (fault_unless (output_stands g outputs o.0 (slice_get cs o.1)) k rule.Output) (outputs_fault g outputs cs os (k + 1))

-- a plan that is due: for a claim, and a piece of each of its positions
pub record DuePlan : Type 0 where
  pub claim : ℕ
  pub left_piece : ℕ
  pub right_piece : ℕ
  pub path : Option Path

abbrev pub numbered : {A : Type 0} → ℕ → List A → List (ℕ × A)
numbered k [] = []
numbered k (x ∷ xs) = (k, x) ∷ numbered (k + 1) xs

abbrev pub due_at : Pairing → ℕ → Claim → Option Domain → Option Domain → List DuePlan
due_at g i c (Some a) (Some b) =
    flat_map (λ l. map (λ r. record { claim = i; left_piece = l.0; right_piece = r.0; path = start g c a b l.1 r.1 }) (numbered 0 b.pieces)) (numbered 0 a.pieces)
due_at g i c None b = []
due_at g i c (Some a) None = []

abbrev pub due_from : Pairing → ℕ → List Claim → List DuePlan
due_from g i [] = []
due_from g i (c ∷ cs) = due_at g i c (domain g.left c.left) (domain g.right c.right) ++ due_from g (i + 1) cs

abbrev pub is_due_at : ℕ → ℕ → ℕ → DuePlan → Bool
is_due_at c a b d = nat_eq c d.claim && (nat_eq a d.left_piece && nat_eq b d.right_piece)

abbrev pub is_due : ClaimTree → DuePlan → Bool
is_due t = is_due_at t.claim t.left_piece t.right_piece

abbrev pub tree_fault_at : Pairing → List Claim → ClaimTree → Option Path → ℕ → Fault
tree_fault_at g cs t None k = Some (k, rule.Tree)
tree_fault_at g cs t (Some h) k = plan_fault g cs t.tree h (k + 1)

-- the plans, each the next one that is due; behind the last one the end
abbrev pub trees_fault : Pairing → List Claim → List ClaimTree → List DuePlan → ℕ → Fault
trees_fault g cs [] [] k = None
trees_fault g cs [] (d ∷ ds) k = Some (k, rule.End)
trees_fault g cs (t ∷ ts) [] k = Some (k, rule.Tree)
trees_fault g cs (t ∷ ts) (d ∷ ds) k =
    cond (is_due t d) (first_fault_of (tree_fault_at g cs t d.path k) (trees_fault g cs ts ds (k + (1 + plan_lines t.tree)))) (Some (k, rule.Tree))

-- the first fault of a proof: its point on line 2, the shapes of the programs where it states them, a line for the number of
-- its claims, and then the rest
abbrev pub proof_fault : Pairing → List ℕ → Proof → Fault
proof_fault g outputs p =
    let first = 4 + head_lines p.heads in
    let k = first + claim_lines p.claims in
    first_fault_of (fault_unless (is_point g.left p.point) 2 rule.Point)
    (first_fault_of (heads_fault g p.heads)
    (first_fault_of (claims_fault g p.claims first)
    (first_fault_of (outputs_fault g outputs p.claims p.outputs k)
    (trees_fault g p.claims p.trees.items (due_from g 0 p.claims) (k + length p.outputs)))))

-- a proof in which no line fails
abbrev pub IsValidProof : Pairing → List ℕ → Proof → Type 0
IsValidProof g outputs p = proof_fault g outputs p ≡ None
