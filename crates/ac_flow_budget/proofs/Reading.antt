-- The readers of a model of differences.
use Rattle.std.proofs.Common.{◌≡◌, inl, inr, ℕ, ◌+◌, ◌≤◌, ◌^◌, lit≤, List, [], ◌∷◌, length, refl, sym, ap, ◌∙◌, subst}
use Rattle.std.specs.Prelude.{slice_get}
use Rattle.std.specs.List.{AllByRecursion, range_with_len}
use Rattle.std.proofs.lemmas.List.{length-map}
use Rattle.std.proofs.lemmas.List.FromFn.{length-range_with_len}
use Rattle.ac_forms.specs.Affine.{Affine, column_form}
use Rattle.ac_forms.specs.declared.row.Row.{Row}
use Rattle.ac_syntax.specs.declared.tree.Position.TheVariants.{Output, Node}
use Rattle.ac_poly.specs.Model.{IsCellIn, ReadsCellIn, CellsHaveDimensions}
use Rattle.ac_poly.specs.declared.types.Model.{Model}
use Rattle.ac_poly.specs.declared.types.NodeModel.TheVariants.{Read}
use Rattle.ac_base.proofs.Options.{some-is}
use Rattle.ac_claims_paths.specs.InstanceCoordinates.{width}
use Rattle.ac_forms.specs.ListMembers.{IsAmong}
use Rattle.ac_claims_paths.specs.ModelPositions.{element_forms, extent_rows}
use Rattle.ac_flow.specs.FlowCases.{Reads, ArePiecesOver}
use Rattle.ac_flow.specs.Readers.{IsOver}
use Rattle.ac_flow.proofs.Overs.{can_read, can_read_elements}
use Rattle.ac_omega.specs.DifferenceRows.{AreDifferences}
use Rattle.ac_flow_budget.specs.Models.{HasDifferences, ReadsShifted}
use Rattle.ac_flow_budget.proofs.Levels.{all-get}
use Rattle.ac_flow_budget.proofs.Made.{IsRead}
use Rattle.ac_flow_budget.proofs.Readers.{IsReaderOf, OfNode, OfOutput}
use Rattle.ac_flow_budget.proofs.Rows.{AreNarrow, rows-more}
use Rattle.ac_flow_budget.proofs.Shifted.{all-more, columns-shifted, extents-differ}

-- two cells of one array
same-long : (extents : List (List Affine)) (a b : ℕ) (fs gs : List Affine) → IsCellIn extents a fs → IsCellIn extents b gs → b ≡ a → length fs ≡ length gs
same-long extents a b fs gs (x, e, l) (y, f, k) s =
    let i : y ≡ x = some-is y x (sym f ∙ ap (λ (n : ℕ). slice_get extents n) s ∙ e) in
    l ∙ ap (λ (z : List Affine). length z) (sym i) ∙ sym k

pieces-narrow : (n b c : ℕ) (pieces : List (List Row)) → b ≤ c → ArePiecesOver n pieces → AllByRecursion (AreDifferences b) pieces → (piece : List Row) → IsAmong piece pieces → AreNarrow n c piece
pieces-narrow n b c [] l o d piece h = absurd h
pieces-narrow n b c (q ∷ qs) l o d piece (inl e) = subst (AreNarrow n c) (sym e) (record { over = o.0; differences = rows-more b c q l d.0 })
pieces-narrow n b c (q ∷ qs) l o d piece (inr h) = pieces-narrow n b c qs l o.1 d.1 piece h

pub is-read : (m : Model) (r : Reads) → IsOver m → CellsHaveDimensions m → HasDifferences (2 ^ 33) m → IsReaderOf m r → IsRead m r
is-read m r o dims d (OfNode s k stmt array subs is e) =
    let own = d.stmts s stmt is in
    let reader : Reads = record { position = Node s k; array = array; count = width stmt; pieces = stmt.pieces } in
    record {
      cell = record { array = array; subs = subs };
      read = rw (is, e) refl;
      array = refl;
      subs = all-get (ReadsShifted (2 ^ 33)) stmt.nodes k (Read array subs) own.reads e;
      long = λ u other at a. same-long m.extents array other.array subs other.subs (all-get (ReadsCellIn m.extents) stmt.nodes k (Read array subs) (dims s stmt is).reads e) (dims u other at).written a;
      few = own.loops;
      pieces = pieces-narrow (m.params + width stmt) (2 ^ 33) (2 ^ 34) stmt.pieces (lit≤ tt) (can_read m reader s stmt o is refl refl).pieces own.pieces;
    }
is-read m r o dims d (OfOutput array extents is input) =
    let own = d.inputs array extents is input in
    let reader : Reads = record { position = Output array; array = array; count = length extents; pieces = extent_rows m.params extents ∷ [] } in
    let long : length (element_forms m.params (length extents)) ≡ length extents = length-map (range_with_len m.params (length extents)) (λ k. column_form (k + 1) k) ∙ length-range_with_len m.params (length extents) in
    record {
      cell = record { array = array; subs = element_forms m.params (length extents) };
      read = rw is refl;
      array = refl;
      subs = all-more 0 (2 ^ 33) (element_forms m.params (length extents)) (lit≤ tt) (columns-shifted (range_with_len m.params (length extents)));
      long = λ u other at a. same-long m.extents array other.array (element_forms m.params (length extents)) other.subs (extents, is, long) (dims u other at).written a;
      few = own.0;
      pieces = pieces-narrow (m.params + length extents) (2 ^ 33 + 1) (2 ^ 34) (extent_rows m.params extents ∷ []) (lit≤ tt) (can_read_elements m reader array extents o is refl refl).pieces (extents-differ (2 ^ 33) m.params extents own.1, tt);
    }
