-- A reading has one case.
use Rattle.std.proofs.Common.{◌≡◌, ◌⊎◌, inl, inr, ℕ, zero, suc, ◌+◌, ℤ, List, [], ◌∷◌, ◌++◌, length, Option, Some, None, refl, sym, ap, ◌∙◌, subst, arith}
use Rattle.std.specs.Prelude.{nat_lt, slice_get}
use Rattle.ac_forms.specs.Rows.{Meets}
use Rattle.ac_forms.specs.declared.row.Row.{Row}
use Rattle.ac_syntax.specs.Algebra.{Cell}
use Rattle.ac_syntax.specs.Source.{Writer}
use Rattle.ac_syntax.specs.Trace.{Entry}
use Rattle.ac_syntax.specs.declared.tree.Position.{Position}
use Rattle.ac_syntax.specs.declared.tree.Position.TheVariants.{Output, Node, InitialOutput, InitialNode}
use Rattle.ac_poly.specs.Model.{PiecesAreApart}
use Rattle.ac_forms.specs.PieceMembership.{IsInOneAtMost}
use Rattle.ac_poly.specs.declared.types.Model.{Model}
use Rattle.ac_poly.specs.declared.types.StmtModel.{StmtModel}
use Rattle.ac_poly.proofs.LevelRows.{levels_are_apart}
use Rattle.ac_base.proofs.Options.{some-is}
use Rattle.ac_claims_paths.specs.InstanceCoordinates.{width}
use Rattle.ac_claims_paths.specs.Executions.{Execution, Describes}
use Rattle.ac_claims_paths.specs.PathSteps.{root}
use Rattle.ac_claims_paths.specs.ModelPositions.{levels_to, levels_at}
use Rattle.ac_claims_paths.proofs.Moving.{meets-parts}
use Rattle.ac_claims_paths.proofs.ReadSteps.{case_parts}
use Rattle.ac_flow.specs.FlowCases.{Reads}
use Rattle.ac_flow.specs.Flows.{MeetsCase, IsOneCase}
use Rattle.ac_flow.specs.Sources.{IsSource}
use Rattle.ac_flow.specs.Writings.{reading, writing}
use Rattle.ac_flow.specs.declared.types.Case.{Case}
use Rattle.ac_flow.proofs.CopyParts.{parts_of, block}
use Rattle.ac_claims_paths.proofs.Kills.{case_says}
use Rattle.ac_flow.proofs.Exact.{formed}
use Rattle.ac_forms.proofs.InPieces.{some-at, none-or}

-- of lists of rows of which a point meets at most one, it meets one with one number
one_number : (qs : List (List Row)) (p : List ℤ) (k l : ℕ) (q r : List Row) → IsInOneAtMost Meets qs p → slice_get qs k ≡ Some q → slice_get qs l ≡ Some r → Meets q p → Meets r p → k ≡ l
one_number [] p k l q r a e f h g = absurd cc
one_number (x ∷ qs) p zero zero q r a e f h g = refl
one_number (x ∷ qs) p zero (suc l) q r a e f h g = let i : x ≡ q = cc in absurd (none-or Meets qs p (a.0 (subst (λ (z : List Row). Meets z p) (sym i) h)) (some-at Meets qs l r p f g))
one_number (x ∷ qs) p (suc k) zero q r a e f h g = let i : x ≡ r = cc in absurd (none-or Meets qs p (a.0 (subst (λ (z : List Row). Meets z p) (sym i) g)) (some-at Meets qs k q p e h))
one_number (x ∷ qs) p (suc k) (suc l) q r a e f h g = ap suc (one_number qs p k l q r a.1 e f h g)

levels_apart : (m : Model) (u : ℕ) (stmt : StmtModel) (reader : Position) (p : List ℤ) → IsInOneAtMost Meets (levels_to m u stmt reader) p
levels_apart m u stmt (Output o) p = ((λ h. tt), tt)
levels_apart m u stmt (Node s k) p = by (slice_get m.stmts s)
  where
    by : (o : Option StmtModel) → IsInOneAtMost Meets (levels_at m u stmt s o) p
    by (Some reader) = levels_are_apart m.params (m.params + width stmt) stmt.loops reader.loops (nat_lt u s) p
    by None = tt
levels_apart m u stmt (InitialOutput o) p = tt
levels_apart m u stmt (InitialNode s k) p = tt

-- the piece and the level of a case whose rows hold
record Numbered (m : Model) (params : List ℤ) (reader : Position) (at ys : List ℤ) (u : ℕ) (stmt : StmtModel) (case : Case) : Type 0 where
  piece : List Row
  piece_is : slice_get stmt.pieces case.piece ≡ Some piece
  in_piece : Meets piece (params ++ ys)
  level : List Row
  level_is : slice_get (levels_to m u stmt reader) case.level ≡ Some level
  in_level : Meets level (params ++ (ys ++ at))

numbered : (m : Model) (params : List ℤ) (x : Execution) → Describes m params x → (reader : Position) (at ys : List ℤ) (u : ℕ) (stmt : StmtModel) (case : Case) → slice_get m.stmts u ≡ Some stmt → length ys ≡ width stmt → MeetsCase m reader (length at) u case (params ++ (at ++ ys))
    → Numbered m params reader at ys u stmt case
numbered m params x d reader at ys u stmt case is long h =
    let r : Reads = record { position = reader; array = 0; count = length at; pieces = [] } in
    let w = writing u case.piece case.level None in
    let f = formed m r w stmt h.own (length at) is h.formed refl in
    let c = parts_of m reader (length at) None (m.params + length at) w stmt h.own.rows f.rows in
    let first = (meets-parts c.first c.second (params ++ (at ++ ys)) (subst (λ (y : List Row). Meets y (params ++ (at ++ ys))) c.are h.meets)).0 in
    let seat = (reading m reader (length at) None).reader in
    let own = root (m.params + length at) u stmt in
    let lp : length params ≡ m.params = sym d.count in
    let says = case_says m.params params seat c.cell own stmt c.piece c.level c.first (params ++ (at ++ ys)) at ys (case_parts m.params seat c.cell own stmt c.piece c.level c.first c.case) (block [] params (at ++ ys) 0 m.params refl lp)
    (block params at ys m.params (length at) lp refl) (own_block params at ys m.params (width stmt) lp long) first in
    record { piece = c.piece; piece_is = c.piece_is; in_piece = says.0; level = c.level; level_is = c.level_is; in_level = says.2 }
  where
    nil : (q : List ℤ) → q ++ [] ≡ q
    nil q = Rattle.std.proofs.Common.append-nil q

    own_block : (params at ys : List ℤ) (n k : ℕ) → length params ≡ n → length ys ≡ k → Rattle.ac_forms.specs.Renaming.picked (Rattle.std.specs.List.range_with_len (n + length at) k) (params ++ (at ++ ys)) ≡ ys
    own_block params at ys n k lp ly =
        ap (Rattle.ac_forms.specs.Renaming.picked (Rattle.std.specs.List.range_with_len (n + length at) k)) (sym (Rattle.std.proofs.Common.append_assoc params at ys) ∙ sym (nil ((params ++ at) ++ ys)) ∙ Rattle.std.proofs.Common.append_assoc (params ++ at) ys [])
        ∙ block (params ++ at) ys [] (n + length at) k (Rattle.std.proofs.Common.length-append params at ∙ ap (λ j. j + length at) lp) ly

-- two cases of a reading that are left there have one source, one piece and one level
pub one_case : (m : Model) (params : List ℤ) (x : Execution) → Describes m params x → PiecesAreApart m → (reader : Position) (at ys zs : List ℤ) (cell : Cell) (before : List Entry) (u v : ℕ) (first second : StmtModel) (case other : Case)
    → slice_get m.stmts u ≡ Some first → slice_get m.stmts v ≡ Some second → length ys ≡ width first → length zs ≡ width second → IsSource x cell before u ys → IsSource x cell before v zs
    → MeetsCase m reader (length at) u case (params ++ (at ++ ys)) → MeetsCase m reader (length at) v other (params ++ (at ++ zs)) → IsOneCase u v ys zs case other
one_case m params x d apart reader at ys zs cell before u v first second case other iu iv ly lz s t h g =
    let w : s.writer ≡ t.writer = some-is s.writer t.writer (sym s.found ∙ t.found) in
    let e : u ≡ v = sym s.instance.stmt ∙ ap (λ (z : Writer). z.entry.stmt) w ∙ t.instance.stmt in
    let y : ys ≡ zs = sym s.instance.coords ∙ ap (λ (z : Writer). x.coords z.entry) w ∙ t.instance.coords in
    let same : second ≡ first = some-is second first (sym iv ∙ ap (slice_get m.stmts) (sym e) ∙ iu) in
    let a = numbered m params x d reader at ys u first case iu ly h in
    let g' : MeetsCase m reader (length at) u other (params ++ (at ++ ys)) = subst (λ q. MeetsCase m reader (length at) u other (params ++ (at ++ q))) (sym y) (subst (λ k. MeetsCase m reader (length at) k other (params ++ (at ++ zs))) (sym e) g) in
    let b = numbered m params x d reader at ys u first other iu ly g' in
    record {
      source_is = e;
      coordinates = y;
      piece = one_number first.pieces (params ++ ys) case.piece other.piece a.piece b.piece (apart u first (params ++ ys) iu) a.piece_is b.piece_is a.in_piece b.in_piece;
      level = one_number (levels_to m u first reader) (params ++ (ys ++ at)) case.level other.level a.level b.level (levels_apart m u first reader (params ++ (ys ++ at))) a.level_is b.level_is a.in_level b.in_level;
    }
