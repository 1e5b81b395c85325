-- The conjunction of a writing.
use Rattle.std.proofs.Common.{◌≡◌, ℕ, ◌+◌, ◌≤◌, ◌⊎◌, inr, List, [], ◌++◌, Option, Some, None, refl, sym, ap, ◌∙◌, subst, arith}
use Rattle.std.specs.Prelude.{Result, Ok, Err, IfErr, slice_get, option_and_then, option_map, unwrap_or}
use Rattle.ac_forms.specs.Renaming.{rows_renaming}
use Rattle.ac_forms.specs.Rows.{HaveModuli, IsWellMade}
use Rattle.ac_flow.specs.CaseRemainder.{AreFound, IsWalkOf, CopyStops}
use Rattle.ac_flow.specs.declared.cut.CutStop.{CutStop}
use Rattle.ac_omega.specs.declared.piece.Piece.{Piece}
use Rattle.ac_forms.specs.declared.conj.Conj.{Conj}
use Rattle.ac_forms.specs.declared.row.Row.{Row}
use Rattle.ac_poly.specs.declared.types.Model.{Model}
use Rattle.ac_poly.specs.declared.types.StmtModel.{StmtModel}
use Rattle.ac_base.proofs.Options.{bind-some, map-some}
use Rattle.ac_claims_paths.specs.InstanceCoordinates.{width}
use Rattle.ac_claims_paths.specs.WellFormedPaths.{HasModuli}
use Rattle.ac_claims_paths.specs.PathColumns.{base, columns_of}
use Rattle.ac_claims_paths.specs.PathSteps.{Pairing, model_of, root}
use Rattle.ac_claims_paths.specs.CopyKills.{case_width, copy_rows, with_own_columns}
use Rattle.ac_claims_paths.specs.declared.path.Assumed.{Assumed}
use Rattle.ac_claims_paths.specs.declared.path.CopyNumbers.{CopyNumbers}
use Rattle.ac_claims_paths.specs.declared.path.Side.{Side}
use Rattle.ac_claims_paths.specs.declared.path.Side.TheVariants.{Left, Right}
use Rattle.ac_claims_paths.proofs.CopySteps.{rows_made}
use Rattle.ac_flow.specs.FlowCases.{IsFoundFor}
use Rattle.ac_flow.specs.FlowStops.{piece_rows, front_by, front, UnformedStops, CopyOfStops}
use Rattle.ac_flow.specs.Writings.{alone, rows_of, over, conj_of}

pub conj_made : (m : Model) (a : Assumed) (w : CopyNumbers) (stmt : StmtModel) (first wide columns : ℕ) (g : Pairing) (made : Option (List Row)) (rows : List Row) → slice_get m.stmts w.stmt ≡ Some stmt → first ≡ case_width m.params a → wide ≡ width stmt → columns ≡ first + wide
    → g ≡ alone m → made ≡ copy_rows g a first w.stmt w.piece w.after w.before stmt → made ≡ Some rows → Some (record { columns = columns; rows = rows }) ≡ conj_of m a w
conj_made m a w stmt first wide columns g made rows is f d c e h k =
    let n = case_width m.params a in
    let there : rows_of m a n w stmt ≡ Some rows = (λ j. copy_rows (sym e j) a (sym f j) w.stmt w.piece w.after w.before stmt) ∙ sym h ∙ k in
    let cols : columns ≡ n + width stmt = c ∙ (λ j. f j + d j) in
    let here : option_map (over (n + width stmt)) (rows_of m a n w stmt) ≡ Some (over (n + width stmt) rows) = ap (option_map (over (n + width stmt))) there in
    ap (λ (j : ℕ). Some (over j rows)) cols ∙ sym here ∙ sym (ap (λ o. option_and_then (λ (stmt : StmtModel). option_map (over (n + width stmt)) (rows_of m a n w stmt)) o) is)

pub conj_unmade : (m : Model) (a : Assumed) (w : CopyNumbers) (stmt : StmtModel) (first : ℕ) (g : Pairing) (made : Option (List Row)) → slice_get m.stmts w.stmt ≡ Some stmt → first ≡ case_width m.params a
    → g ≡ alone m → made ≡ copy_rows g a first w.stmt w.piece w.after w.before stmt → made ≡ None → None ≡ conj_of m a w
conj_unmade m a w stmt first g made is f e h k =
    let n = case_width m.params a in
    let there : rows_of m a n w stmt ≡ None = (λ j. copy_rows (sym e j) a (sym f j) w.stmt w.piece w.after w.before stmt) ∙ sym h ∙ k in
    sym (ap (option_map (over (n + width stmt))) there) ∙ sym (ap (λ o. option_and_then (λ (stmt : StmtModel). option_map (over (n + width stmt)) (rows_of m a n w stmt)) o) is)

pub conj_nowhere : (m : Model) (a : Assumed) (w : CopyNumbers) → slice_get m.stmts w.stmt ≡ None → None ≡ conj_of m a w
conj_nowhere m a w is = sym (ap (λ o. option_and_then (λ (stmt : StmtModel). option_map (over (case_width m.params a + width stmt)) (rows_of m a (case_width m.params a) w stmt)) o) is)

pub ruleset conj_steps = (conj_made, conj_unmade, conj_nowhere)

-- it is well made, over the columns of what is assumed and its own
pub record Behind (m : Model) (a : Assumed) (c : Conj) : Type 0 where
  pub made : IsWellMade c
  pub first : case_width m.params a ≤ c.columns

side_is : (m : Model) (s : Side) → model_of (alone m) s ≡ m
side_is m Left = refl
side_is m Right = refl

pub conj_behind : (m : Model) (a : Assumed) (w : CopyNumbers) (c : Conj) → HasModuli m → a ≡ with_own_columns m.params a → conj_of m a w ≡ Some c → Behind m a c
conj_behind m a w c hm own e =
    let n = case_width m.params a in
    let s = bind-some (slice_get m.stmts w.stmt) (λ (stmt : StmtModel). option_map (over (n + width stmt)) (rows_of m a n w stmt)) c e in
    let r = map-some (rows_of m a n w s.0) (over (n + width s.0)) c s.2 in
    let there : copy_rows (alone m) (with_own_columns m.params a) n w.stmt w.piece w.after w.before s.0 ≡ Some r.0 = (λ j. copy_rows (alone m) (sym own j) n w.stmt w.piece w.after w.before s.0) ∙ r.1 in
    let side = side_is m a.side in
    let moduli : HasModuli (model_of (alone m) a.side) = subst HasModuli (sym side) hm in
    let is : slice_get (model_of (alone m) a.side).stmts w.stmt ≡ Some s.0 = ap (λ (x : Model). slice_get x.stmts w.stmt) side ∙ s.1 in
    let made = rows_made (alone m) a w.stmt w.piece w.after w.before s.0 r.0 moduli is there in
    record {
      made = subst (λ (y : Conj). IsWellMade y) (sym r.2) made;
      first = subst (λ (y : Conj). n ≤ y.columns) (sym r.2) (omega arith);
    }

-- ---- what is shown of a writing whose rows cannot be formed

pub front_with : (m : Model) (a : Assumed) (w : CopyNumbers) (stmt : StmtModel) (first wide columns : ℕ) (piece rows : List Row) → slice_get m.stmts w.stmt ≡ Some stmt → slice_get stmt.pieces w.piece ≡ Some piece → first ≡ case_width m.params a → wide ≡ width stmt → columns ≡ first + wide
    → rows ≡ unwrap_or (rows_renaming (base m.params ++ columns_of (root first w.stmt stmt)) piece) [] → record { columns = columns; rows = rows } ≡ front m a w
front_with m a w stmt first wide columns piece rows is p f d c e =
    let n = case_width m.params a in
    let cols : columns ≡ n + width stmt = c ∙ (λ j. f j + d j) in
    let there : rows ≡ unwrap_or (piece_rows m a w stmt) [] =
    e ∙ (λ j. unwrap_or (rows_renaming (base m.params ++ columns_of (root (f j) w.stmt stmt)) piece) []) ∙ ap (λ o. unwrap_or (option_and_then (rows_renaming (base m.params ++ columns_of (root n w.stmt stmt))) o) []) (sym p) in
    (λ j. over (cols j) (there j)) ∙ ap (front_by m a w) (sym is)

pub front_without : (m : Model) (a : Assumed) (w : CopyNumbers) (stmt : StmtModel) (first wide columns : ℕ) (rows : List Row) → slice_get m.stmts w.stmt ≡ Some stmt → slice_get stmt.pieces w.piece ≡ None → first ≡ case_width m.params a → wide ≡ width stmt → columns ≡ first + wide
    → rows ≡ [] → record { columns = columns; rows = rows } ≡ front m a w
front_without m a w stmt first wide columns rows is p f d c e =
    let n = case_width m.params a in
    let cols : columns ≡ n + width stmt = c ∙ (λ j. f j + d j) in
    let there : rows ≡ unwrap_or (piece_rows m a w stmt) [] = e ∙ ap (λ o. unwrap_or (option_and_then (rows_renaming (base m.params ++ columns_of (root n w.stmt stmt))) o) []) (sym p) in
    (λ j. over (cols j) (there j)) ∙ ap (front_by m a w) (sym is)

pub front_nowhere : (m : Model) (a : Assumed) (w : CopyNumbers) (first : ℕ) (rows : List Row) → slice_get m.stmts w.stmt ≡ None → first ≡ case_width m.params a → rows ≡ [] → record { columns = first; rows = rows } ≡ front m a w
front_nowhere m a w first rows is f e = (λ j. over (f j) (e j)) ∙ ap (front_by m a w) (sym is)

pub front_moduli : (m : Model) (w : CopyNumbers) (stmt : StmtModel) (piece : List Row) → HasModuli m → slice_get m.stmts w.stmt ≡ Some stmt → slice_get stmt.pieces w.piece ≡ Some piece → HaveModuli piece
front_moduli m w stmt piece hm is p = hm.pieces w.stmt stmt w.piece piece is p

pub ruleset front_steps = (front_with, front_without, front_nowhere, front_moduli)

-- ---- what is found for a copy

pub copy_well : (m : Model) (a : Assumed) (w : CopyNumbers) (o : Option Conj) (c : Conj) → HasModuli m → a ≡ with_own_columns m.params a → o ≡ conj_of m a w → o ≡ Some c → IsWellMade c
copy_well m a w o c hm own e i = (conj_behind m a w c hm own (sym e ∙ i)).made

pub copy_first : (m : Model) (a : Assumed) (w : CopyNumbers) (o : Option Conj) (c : Conj) (first : ℕ) → HasModuli m → a ≡ with_own_columns m.params a → o ≡ conj_of m a w → o ≡ Some c → first ≡ case_width m.params a → first ≤ c.columns
copy_first m a w o c first hm own e i f = let l = (conj_behind m a w c hm own (sym e ∙ i)).first in subst (λ k. k ≤ c.columns) (sym f) l

pub found_is : (budget : ℕ) (m : Model) (a : Assumed) (w : CopyNumbers) (o : Option Conj) (c : Conj) (first : ℕ) (found : List Piece) → o ≡ conj_of m a w → o ≡ Some c → first ≡ case_width m.params a → AreFound first c found → IsWalkOf budget first c found → IsFoundFor budget m a w found
found_is budget m a w o c first found e i f k l = record {
  copy = c;
  made = sym e ∙ i;
  kills = subst (λ n. AreFound n c found) f k;
  walk = subst (λ n. IsWalkOf budget n c found) f l;
}

pub found_stops : (budget : ℕ) (m : Model) (a : Assumed) (w : CopyNumbers) (o : Option Conj) (c : Conj) (first : ℕ) (r : Result (List Piece) CutStop) → o ≡ conj_of m a w → o ≡ Some c → first ≡ case_width m.params a → IfErr r (CopyStops budget first c)
    → IfErr r (λ e. UnformedStops m a w e ⊎ CopyOfStops budget m a w e)
found_stops budget m a w o c first (Ok x) e i f s = tt
found_stops budget m a w o c first (Err x) e i f s = inr (record { copy = c; made = sym e ∙ i; stops = subst (λ n. CopyStops budget n c x) f s })

pub ruleset found_steps = (copy_well, copy_first, found_is, found_stops)
