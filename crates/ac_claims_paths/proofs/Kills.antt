-- A place that a copy kills has no point.
use Rattle.std.proofs.Common.{◌≡◌, ℕ, zero, suc, ◌+◌, ◌-◌, ◌<◌, ◌≤◌, ◌&&◌, nat_le, ℤ, pos, List, [], ◌∷◌, ◌++◌, set, length, true, cond, Option, Some, None, refl, sym, ap, ◌∙◌, subst, arith, length-append, append_assoc}
use Rattle.std.specs.Prelude.{slice_get, nat_eq, option_and_then, ◌↔◌}
use Rattle.std.specs.List.{range_with_len}
use Rattle.std.proofs.lemmas.Bool.{eqb-true, leb-true}
use Rattle.std.proofs.lemmas.List.{set-append_right, length-set}
use Rattle.ac_forms.specs.NormalForm.{normal_conj}
use Rattle.ac_forms.specs.Rows.{form_of, Meets, HaveModuli, AreRowsOver, IsWellMade}
use Rattle.ac_forms.specs.RangeTests.{rows_fit}
use Rattle.ac_forms.specs.declared.conj.Conj.{Conj}
use Rattle.ac_forms.specs.declared.row.Row.{Row}
use Rattle.ac_forms.proofs.Joining.{both_of, form_keeps}
use Rattle.ac_forms.proofs.Passes.{moduli_of}
use Rattle.ac_syntax.specs.Trace.{Entry}
use Rattle.ac_syntax.specs.Algebra.{Cell, same_cell, target}
use Rattle.ac_syntax.specs.Source.{Writer, Stands, source}
use Rattle.ac_syntax.specs.Spot.{Spot}
use Rattle.ac_syntax.proofs.Cells.{same_cell_refl}
use Rattle.ac_syntax.proofs.Sources.{source_last, source_none}
use Rattle.ac_poly.specs.ModelMeaning.{values_at, cell_of}
use Rattle.ac_poly.specs.declared.types.Model.{Model}
use Rattle.ac_poly.specs.declared.types.StmtModel.{StmtModel}
use Rattle.ac_omega_steps.specs.ChoiceFits.{after_choice, choice_fits, raw}
use Rattle.ac_omega_steps.specs.Choices.{column_of, is_legal, left_by, lifted}
use Rattle.ac_omega_steps.specs.declared.choose.Choice.{Choice}
use Rattle.ac_omega_steps.specs.declared.choose.Choice.TheVariants as choice
use Rattle.ac_omega_steps.proofs.Keeping.{Meets-append}
use Rattle.ac_base.proofs.Options.{bind-some, some-is, if-some}
use Rattle.ac_omega_steps.proofs.LeftMade.{conj_made, raw_made}
use Rattle.ac_omega_steps.proofs.Lifting.{after-columns, lifts-after, lifted_at}
use Rattle.ac_forms.specs.Renaming.{picked, rows_renaming}
use Rattle.ac_claims_paths.specs.PathColumns.{base, columns_of, appended}
use Rattle.ac_claims_paths.specs.InstanceCoordinates.{width, levels_before}
use Rattle.ac_claims_paths.specs.Executions.{Execution, InstanceAt}
use Rattle.ac_claims_paths.specs.WellFormedPaths.{HasModuli}
use Rattle.ac_claims_paths.specs.PathSteps.{Pairing, model_of, root, case_rows}
use Rattle.ac_claims_paths.specs.CopyKills.{assignment_at, after_rows, copy_rows, source_columns, case_columns, source_width, case_width, source_from, with_own_columns, normal_of, copy_of, by_column, taken_legally, chosen, all_chosen, ends_before, is_killed}
use Rattle.ac_claims_paths.specs.ModelPositions.{CellForms, cell_read, levels_to}
use Rattle.ac_claims_paths.specs.PathRows.{made_and_stand}
use Rattle.ac_claims_paths.specs.declared.path.Assumed.{Assumed}
use Rattle.ac_claims_paths.specs.declared.path.Path.{Path}
use Rattle.ac_claims_paths.specs.declared.path.Seat.{Seat}
use Rattle.ac_claims_paths.specs.declared.path.Side.{Side}
use Rattle.ac_claims_paths.proofs.Moving.{pick-append, rows-value, rows-within, equal-values, appended-parts, meets-parts, made-both}
use Rattle.ac_forms.proofs.Standings.{all-hold}
use Rattle.ac_claims_paths.proofs.LevelModuli.{levels_moduli}
use Rattle.ac_claims_paths.proofs.Moduli.{rows_moduli}
use Rattle.ac_claims_paths.proofs.OnPaths.{moduli_in, Compared, execution_of, describes_of, SeatIn, SourceAt, LastAt, SourceIn, InPath, OnPath, range_in, in-append, seat_columns, base_columns, pick_more, pick_new}
use Rattle.ac_claims_paths.proofs.Heres.{cell_with, read_cell}
use Rattle.ac_claims_paths.proofs.Branches.{stands_of_level, stands_all}
use Rattle.ac_claims_paths.proofs.ReadSteps.{CaseParts, case_parts, case_made, picks_one, picks_two}
use Rattle.ac_claims_paths.proofs.InBranches.{level_moduli}
use Rattle.ac_forms.proofs.InPieces.{some-at}

-- rows over the first columns alone
ends_over : (n m : ℕ) (rows : List Row) → ends_before n rows ≡ true → AreRowsOver m rows → AreRowsOver n rows
ends_over n m [] e w = tt
ends_over n m (r ∷ rows) e w =
    let b = both_of (nat_le (length (form_of r).coefs) n) (ends_before n rows) e in
    ((leb-true (length (form_of r).coefs) n b.0, w.0.1), ends_over n m rows b.1 w.1)

after_is : (x : Choice) (c d : Conj) → after_choice x c ≡ Some d → normal_conj (raw x c) ≡ d
unfolding after_choice
after_is x c d e = some-is (normal_conj (raw x c)) d (if-some (choice_fits x c.rows && rows_fit (left_by x c.rows)) (Some (normal_conj (raw x c))) d e).1

column_by : (z : ℕ) (x : Choice) → column_of (by_column z x) ≡ z
column_by z (choice.Drop y) = refl
column_by z (choice.Equal y i) = refl
column_by z (choice.Residue y m r) = refl
column_by z (choice.Shadow y) = refl
column_by z (choice.Splinter y i k) = refl

-- the parts of a choice that stands
pub record ChosenAs (n : ℕ) (c d : Conj) : Type 0 where
  pub named : Choice
  pub legal : is_legal named c ≡ true
  pub after : after_choice named c ≡ Some d
  pub new : n ≤ column_of named

pub chosen_as : (columns n : ℕ) (x : Choice) (c d : Conj) → chosen columns n x c ≡ Some d → ChosenAs n c d
chosen_as columns n x c d e =
    let y = by_column (n + (column_of x - columns)) x in
    let i = if-some (nat_le columns (column_of x)) (taken_legally y c) d e in
    let b = if-some (is_legal y c) (after_choice y c) d i.1 in
    let z = column_by (n + (column_of x - columns)) x in
    record { named = y; legal = b.0; after = b.1; new = omega (arith, z) }

pub chosen_made : (n : ℕ) (c d : Conj) → ChosenAs n c d → IsWellMade c → IsWellMade d
chosen_made n c d x w = subst (λ (y : Conj). IsWellMade y) (after_is x.named c d x.after) (conj_made (raw x.named c) (raw_made x.named c x.legal w))

all_made : (columns n : ℕ) (xs : List Choice) (c left : Conj) → all_chosen columns n xs c ≡ Some left → IsWellMade c → IsWellMade left
all_made columns n [] c left e w = subst (λ (y : Conj). IsWellMade y) (some-is c left e) w
all_made columns n (x ∷ xs) c left e w =
    let b = bind-some (chosen columns n x c) (λ d. all_chosen columns n xs d) left e in
    all_made columns n xs b.0 left b.2 (chosen_made n c b.0 (chosen_as columns n x c b.0 b.1) w)

-- what the choices leave holds at the first columns: then these go on to a point of the copy
choices_lift : (columns n : ℕ) (xs : List Choice) (c left : Conj) → all_chosen columns n xs c ≡ Some left → IsWellMade c → n ≤ c.columns → ends_before n left.rows ≡ true
    → (p z : List ℤ) → length p ≡ n → Meets left.rows p → length (p ++ z) ≡ c.columns → (y : List ℤ) × (length y ≡ length z) × Meets c.rows (p ++ y)
choices_lift columns n [] c left e wc l b p z lp m len =
    let is = some-is c left e in
    let over = ends_over n c.columns c.rows (subst (λ (y : Conj). ends_before n y.rows ≡ true) (sym is) b) wc in
    (z, refl, Meets-append c.rows n p z (omega (arith, lp)) over (subst (λ (y : Conj). Meets y.rows p) (sym is) m))
choices_lift columns n (x ∷ xs) c left e wc l b p z lp m len =
    let s = bind-some (chosen columns n x c) (λ d. all_chosen columns n xs d) left e in
    let d = s.0 in
    let as_named = chosen_as columns n x c d s.1 in
    let h = as_named.named in
    let cols : d.columns ≡ c.columns = after-columns h c d as_named.after in
    let is = after_is h c d as_named.after in
    let raw_in = raw_made h c as_named.legal wc in
    let wd = chosen_made n c d as_named wc in
    let r = choices_lift columns n xs d left s.2 wd (omega (arith, l, cols)) b p z lp m (len ∙ sym cols) in
    let y = r.0 in
    let same : (q : List ℤ) → Meets d.rows q ↔ Meets (left_by h c.rows) q = λ q. subst (λ (y : Conj). Meets y.rows q ↔ Meets (left_by h c.rows) q) is (form_keeps c.columns (left_by h c.rows) q raw_in) in
    let lyz : length y ≡ length z = r.1 in
    let ly : length (p ++ y) ≡ d.columns = length-append p y ∙ ap (λ j. length p + j) lyz ∙ sym (length-append p z) ∙ len ∙ sym cols in
    let back = lifts-after h c d as_named.legal as_named.after same (p ++ y) (record { long = ly; meets = r.2 }) in
    let v = lifted_at h c.rows (p ++ y) in
    let w : lifted h c.rows (p ++ y) ≡ p ++ set y (column_of h - n) v.0 = v.1 ∙ set-append_right p y n (column_of h) v.0 lp as_named.new in
    (set y (column_of h - n) v.0, length-set y (column_of h - n) v.0 ∙ r.1, subst (λ (q : List ℤ). Meets c.rows q) w back.meets)

-- what the rows of a case say at a point
pub case_says : (params : ℕ) (given : List ℤ) (reader : Seat) (cell : CellForms) (source : Seat) (stmt : StmtModel) (piece level rows : List Row) (q x z : List ℤ) → CaseParts params reader cell source stmt piece level rows
    → picked (base params) q ≡ given → picked (columns_of reader) q ≡ x → picked (columns_of source) q ≡ z → Meets rows q
    → Meets piece (given ++ z) × (values_at (given ++ x) cell.subs ≡ values_at (given ++ z) stmt.subs) × Meets level (given ++ (z ++ x))
case_says params given reader cell source stmt piece level rows q x z c b r s h =
    let bs = picks_one params given source q z b s in
    let br = picks_one params given reader q x b r in
    let sr = picks_two params given source reader q z x b s r in
    let m = meets-parts c.first (c.second ++ c.third) q (subst (λ (y : List Row). Meets y q) c.are h) in
    let n = meets-parts c.second c.third q m.1 in (
      subst (Meets piece) bs ((rows-value (base params ++ columns_of source) piece c.first q c.pieces).0 m.0),
      ap (λ y. values_at y cell.subs) (sym br) ∙ (equal-values (base params ++ columns_of reader) cell.subs (base params ++ columns_of source) stmt.subs c.second q c.cells).0 n.0 ∙ ap (λ y. values_at y stmt.subs) bs,
      subst (Meets level) sr ((rows-value (base params ++ (columns_of source ++ columns_of reader)) level c.third q c.levels).0 n.1),
    )

-- the level by which a copy stands after the assumed source
AfterHere : Compared → Side → Option Seat → ℕ → StmtModel → Seat → List ℤ → Type 0
AfterHere g side None u stmt copy q = Unit {0}
AfterHere g side (Some seat) u stmt copy q = (from : StmtModel) × (k : ℕ) × (level : List Row) × (slice_get (model_of g.pairing side).stmts (assignment_at seat) ≡ Some from) × (slice_get (levels_before g.pairing.params (assignment_at seat) from u stmt) k ≡ Some level)
    × Meets level (g.params ++ (picked (columns_of seat) q ++ picked (columns_of copy) q))

after_says : (g : Compared) (side : Side) (o : Option Seat) (after : Option ℕ) (u : ℕ) (copy : Seat) (stmt : StmtModel) (rows : List Row) (q : List ℤ) → picked (base g.pairing.params) q ≡ g.params
    → after_rows g.pairing (model_of g.pairing side) o after u copy stmt ≡ Some rows → Meets rows q → AfterHere g side o u stmt copy q
unfolding AfterHere
after_says g side None None u copy stmt rows q b e h = tt
after_says g side None (Some level) u copy stmt rows q b e h = tt
after_says g side (Some seat) None u copy stmt rows q b e h = absurd cc
after_says g side (Some seat) (Some level) u copy stmt rows q b e h =
    let f = bind-some (slice_get (model_of g.pairing side).stmts (assignment_at seat))
    (λ (from : StmtModel). option_and_then (λ rows. rows_renaming (base g.pairing.params ++ (columns_of seat ++ columns_of copy)) rows) (slice_get (levels_before g.pairing.params (assignment_at seat) from u stmt) level)) rows e in
    let l = bind-some (slice_get (levels_before g.pairing.params (assignment_at seat) f.0 u stmt) level) (λ rows. rows_renaming (base g.pairing.params ++ (columns_of seat ++ columns_of copy)) rows) rows f.2 in
    (f.0, level, l.0, f.1, l.1, subst (Meets l.0) (picks_two g.pairing.params g.params seat copy q _ _ b refl refl) ((rows-value (base g.pairing.params ++ (columns_of seat ++ columns_of copy)) l.0 rows q l.2).0 h))

after_made : (g : Pairing) (m : Model) (o : Option Seat) (after : Option ℕ) (u : ℕ) (copy : Seat) (stmt : StmtModel) (rows : List Row) (n : ℕ) → g.params ≤ n → SourceIn o n → SeatIn copy n
    → after_rows g m o after u copy stmt ≡ Some rows → AreRowsOver n rows
after_made g m None None u copy stmt rows n b s c e = let i : [] ≡ rows = some-is [] rows e in rw (← i) tt
after_made g m None (Some level) u copy stmt rows n b s c e = absurd cc
after_made g m (Some seat) None u copy stmt rows n b s c e = absurd cc
after_made g m (Some seat) (Some level) u copy stmt rows n b s c e =
    let f = bind-some (slice_get m.stmts (assignment_at seat))
    (λ (from : StmtModel). option_and_then (λ rows. rows_renaming (base g.params ++ (columns_of seat ++ columns_of copy)) rows) (slice_get (levels_before g.params (assignment_at seat) from u stmt) level)) rows e in
    let l = bind-some (slice_get (levels_before g.params (assignment_at seat) f.0 u stmt) level) (λ rows. rows_renaming (base g.params ++ (columns_of seat ++ columns_of copy)) rows) rows f.2 in
    let hl = levels_moduli g.params (assignment_at seat) f.0 u stmt level l.0 l.1 in
    rows-within (base g.params ++ (columns_of seat ++ columns_of copy)) l.0 rows n
    (in-append (base g.params) (columns_of seat ++ columns_of copy) n (base_columns g.params n b) (in-append (columns_of seat) (columns_of copy) n (seat_columns seat n s) (seat_columns copy n c))) hl l.2

-- the parts of a copy's rows
pub record CopyRows (g : Pairing) (a : Assumed) (n : ℕ) (u piece : ℕ) (after : Option ℕ) (before : ℕ) (stmt : StmtModel) (rows : List Row) : Type 0 where
  pub cell : CellForms
  pub read : cell_read (model_of g a.side) a.reader.position ≡ Some cell
  pub array : stmt.array ≡ cell.array
  pub rows_of : List Row
  pub piece_is : slice_get stmt.pieces piece ≡ Some rows_of
  pub level : List Row
  pub level_is : slice_get (levels_to (model_of g a.side) u stmt a.reader.position) before ≡ Some level
  pub first : List Row
  pub case : case_rows g.params a.reader cell (root n u stmt) stmt rows_of level ≡ Some first
  pub second : List Row
  pub later : after_rows g (model_of g a.side) a.source after u (root n u stmt) stmt ≡ Some second
  pub are : rows ≡ first ++ second

pub copy_parts : (g : Pairing) (a : Assumed) (n u piece : ℕ) (after : Option ℕ) (before : ℕ) (stmt : StmtModel) (rows : List Row) → copy_rows g a n u piece after before stmt ≡ Some rows → CopyRows g a n u piece after before stmt rows
copy_parts g a n u piece after before stmt rows e =
    let m = model_of g a.side in
    let copy = root n u stmt in
    let cl = bind-some (cell_read m a.reader.position) (λ cell. cond (nat_eq stmt.array cell.array)
    (option_and_then (λ piece. option_and_then (λ level. appended (case_rows g.params a.reader cell copy stmt piece level) (after_rows g m a.source after u copy stmt)) (slice_get (levels_to m u stmt a.reader.position) before)) (slice_get stmt.pieces piece))
    None) rows e in
    let cell = cl.0 in
    let ar = if-some (nat_eq stmt.array cell.array)
    (option_and_then (λ piece. option_and_then (λ level. appended (case_rows g.params a.reader cell copy stmt piece level) (after_rows g m a.source after u copy stmt)) (slice_get (levels_to m u stmt a.reader.position) before)) (slice_get stmt.pieces piece)) rows cl.2 in
    let pc = bind-some (slice_get stmt.pieces piece) (λ piece. option_and_then (λ level. appended (case_rows g.params a.reader cell copy stmt piece level) (after_rows g m a.source after u copy stmt)) (slice_get (levels_to m u stmt a.reader.position) before)) rows ar.1 in
    let lv = bind-some (slice_get (levels_to m u stmt a.reader.position) before) (λ level. appended (case_rows g.params a.reader cell copy stmt pc.0 level) (after_rows g m a.source after u copy stmt)) rows pc.2 in
    let pa = appended-parts (case_rows g.params a.reader cell copy stmt pc.0 lv.0) (after_rows g m a.source after u copy stmt) rows lv.2 in
    record { cell = cell; read = cl.1; array = eqb-true stmt.array cell.array ar.0; rows_of = pc.0; piece_is = pc.1; level = lv.0; level_is = lv.1; first = pa.0; case = pa.2; second = pa.1; later = pa.3; are = pa.4 }

-- they are well made over the columns before the copy's and its own
pub copy_over : (g : Pairing) (a : Assumed) (n u piece : ℕ) (after : Option ℕ) (before : ℕ) (stmt : StmtModel) (rows : List Row) → HasModuli (model_of g a.side) → slice_get (model_of g a.side).stmts u ≡ Some stmt
    → g.params ≤ n + width stmt → SeatIn a.reader (n + width stmt) → SourceIn a.source (n + width stmt) → CopyRows g a n u piece after before stmt rows → AreRowsOver (n + width stmt) rows
copy_over g a n u piece after before stmt rows hm is b ri si c =
    let m = model_of g a.side in
    let copy = root n u stmt in
    let cols = n + width stmt in
    let ci : SeatIn copy cols = omega arith in
    let parts = case_parts g.params a.reader c.cell copy stmt c.rows_of c.level c.first c.case in
    let hp = hm.pieces u stmt piece c.rows_of is c.piece_is in
    let hl = level_moduli m hm u stmt a.reader.position before c.level c.level_is in
    let made1 = case_made g.params a.reader c.cell copy stmt c.rows_of c.level c.first cols b ri ci hp hl parts in
    let made2 = after_made g m a.source after u copy stmt c.second cols b si ci c.later in
    subst (λ (z : List Row). AreRowsOver cols z) (sym c.are) (made-both cols c.first c.second made1 made2)

-- a block of columns
picked_length : (ks : List ℕ) (p : List ℤ) → length (picked ks p) ≡ length ks
picked_length [] p = refl
picked_length (k ∷ ks) p = ap suc (picked_length ks p)

range_length : (first count : ℕ) → length (range_with_len first count) ≡ count
range_length first zero = refl
range_length first (suc count) = ap suc (range_length (first + 1) count)

block : (b x r : List ℤ) (k w : ℕ) → length b ≡ k → length x ≡ w → picked (range_with_len k w) ((b ++ x) ++ r) ≡ x
block b x r k w lb lx = pick_more (range_with_len k w) (b ++ x) r (k + w) (length-append b x ∙ (λ i. lb i + lx i)) (range_in k w (k + w) (omega arith)) ∙ pick_new b x k w lb lx

-- the assumed source over a case's own columns
pub source_in_own : (k : ℕ) (o : Option Seat) (m : ℕ) → k + source_width o ≤ m → SourceIn (source_from k o) m
source_in_own k None m h = tt
source_in_own k (Some seat) m h = h

source_length : (o : Option Seat) → length (source_columns o) ≡ source_width o
source_length None = refl
source_length (Some seat) = range_length seat.first seat.width

source_own : (x : Execution) (k : ℕ) (o : Option Seat) (p q : List ℤ) (cell : Cell) (before : List Entry) → picked (range_with_len k (source_width o)) q ≡ picked (source_columns o) p → SourceAt x o p cell before → SourceAt x (source_from k o) q cell before
source_own x k None p q cell before e h = h
source_own x k (Some seat) p q cell before e h = (h.0, h.1, subst (λ (y : List ℤ). InstanceAt x (assignment_at seat) y h.0) (sym e) h.2)

-- rows that stand on a path when they are renaming hold at the columns' numbers
stand_at : (ks : List ℕ) (rows left : List Row) (p : List ℤ) (made : Option (List Row)) → rows_renaming ks left ≡ made → made_and_stand rows made ≡ true → HaveModuli rows → HaveModuli left → Meets rows p → Meets left (picked ks p)
stand_at ks rows left p None e b hr hl m = absurd cc
stand_at ks rows left p (Some wanted) e b hr hl m = (rows-value ks left wanted p e).0 (all-hold rows wanted p b hr (rows_moduli ks left wanted hl e) m)

pub zeros : (n : ℕ) → (z : List ℤ) × (length z ≡ n)
zeros zero = ([], refl)
zeros (suc n) = let r = zeros n in (pos 0 ∷ r.0, (let e = r.1 in omega (arith, e)))

-- an entry that writes the cell again between the assumed source and the reader: there is none
no_copy : (g : Compared) (side : Side) (source_seat : Option Seat) (u : ℕ) (stmt : StmtModel) (copy : Seat) (p q : List ℤ) (z : List ℤ) (cell : Cell) (before : List Entry) (v : Writer)
    → (s : SourceAt (execution_of g side) source_seat q cell before) → AfterHere g side source_seat u stmt copy q → picked (columns_of copy) q ≡ z → InstanceAt (execution_of g side) u z v → slice_get (model_of g.pairing side).stmts u ≡ Some stmt
    → Stands before v → ((w : Writer) → Stands before w → Stands (execution_of g side).trace w) → same_cell cell (target v.entry) ≡ true → ⊥
unfolding AfterHere
no_copy g side None u stmt copy p q z cell before v s a e i is st all same = source_none cell before v s st same
no_copy g side (Some seat) u stmt copy p q z cell before v (w, src, iw) (from, k, level, fi, li, me) e i is st all same =
    let x = execution_of g side in
    let d = describes_of g side in
    let le : length v.earlier ≤ length w.earlier = source_last cell before w v src st same in
    let me' : Meets level (g.params ++ (x.coords w.entry ++ x.coords v.entry)) =
    subst (λ (y : List ℤ). Meets level (g.params ++ (y ++ x.coords v.entry))) (sym iw.coords) (subst (λ (y : List ℤ). Meets level (g.params ++ (picked (columns_of seat) q ++ y))) (e ∙ sym i.coords) me) in
    let l1 : slice_get (levels_before (length g.params) w.entry.stmt from v.entry.stmt stmt) k ≡ Some level = (λ j. slice_get (levels_before (sym g.count j) (iw.stmt j) from (i.stmt j) stmt) k) ∙ li in
    let some = some-at Meets (levels_before (length g.params) w.entry.stmt from v.entry.stmt stmt) k level (g.params ++ (x.coords w.entry ++ x.coords v.entry)) l1 me' in
    let fw : slice_get (model_of g.pairing side).stmts w.entry.stmt ≡ Some from = ap (slice_get (model_of g.pairing side).stmts) iw.stmt ∙ fi in
    let fv : slice_get (model_of g.pairing side).stmts v.entry.stmt ≡ Some stmt = ap (slice_get (model_of g.pairing side).stmts) i.stmt ∙ is in
    let lt : length w.earlier < length v.earlier = (d.order w v from stmt iw.stands i.stands fw fv).1 some in
    omega (arith, le, lt)

-- where a copy kills a place, what was assumed is so at no point of the path
pub killed_empty : (g : Compared) (h : Path) (a : Assumed) (u piece : ℕ) (after : Option ℕ) (before : ℕ) (xs : List Choice) (c left : Conj) → InPath g h → h.last ≡ Some a
    → copy_of g.pairing a u piece after before ≡ Some c → all_chosen h.conj.columns (case_width g.pairing.params a) xs c ≡ Some left → is_killed g.pairing.params h.conj.rows a left ≡ true
    → (p : List ℤ) (s t : Spot) → OnPath g h p s t → ⊥
killed_empty g h a u piece after before xs c left i il ec el ek p s t o =
    let ps = g.pairing.params in
    let own = with_own_columns ps a in
    let n = case_width ps a in
    let x = execution_of g a.side in
    let m = model_of g.pairing a.side in
    let d = describes_of g a.side in
    let st = bind-some (slice_get m.stmts u) (λ (stmt : StmtModel). option_and_then (normal_of (n + width stmt)) (copy_rows g.pairing own n u piece after before stmt)) c ec in
    let stmt = st.0 in
    let ro = bind-some (copy_rows g.pairing own n u piece after before stmt) (normal_of (n + width stmt)) c st.2 in
    let fit = if-some (rows_fit ro.0) (Some (normal_conj (record { columns = n + width stmt; rows = ro.0 }))) c ro.2 in
    let cc' = copy_parts g.pairing own n u piece after before stmt ro.0 ro.1 in
    let copy = root n u stmt in
    let cols = n + width stmt in
    let last : LastAt g (Some a) p = subst (λ (y : Option Assumed). LastAt g y p) il o.last in
    let r = last.0 in
    let parts = case_parts ps own.reader cc'.cell copy stmt cc'.rows_of cc'.level cc'.first cc'.case in
    let made = copy_over g.pairing own n u piece after before stmt ro.0 (moduli_in g a.side) st.1 (omega arith) (omega arith) (source_in_own (ps + a.reader.width) a.source cols (omega arith)) cc' in
    let raw_conj : Conj = record { columns = cols; rows = ro.0 } in
    let conj_is : normal_conj raw_conj ≡ c = some-is (normal_conj raw_conj) c fit.1 in
    let wc : IsWellMade c = subst (λ (y : Conj). IsWellMade y) conj_is (conj_made raw_conj made) in
    let cc_cols : c.columns ≡ cols = ap (λ (y : Conj). y.columns) (sym conj_is) in
    let at = picked (columns_of a.reader) p in
    let src = picked (source_columns a.source) p in
    let lg : length g.params ≡ ps = sym g.count in
    let la : length at ≡ a.reader.width = picked_length (columns_of a.reader) p ∙ range_length a.reader.first a.reader.width in
    let ls : length src ≡ source_width a.source = picked_length (source_columns a.source) p ∙ source_length a.source in
    let first = g.params ++ (at ++ src) in
    let ks = case_columns ps a in
    let picked_first : picked ks p ≡ first = pick-append (base ps) (columns_of a.reader ++ source_columns a.source) p ∙ (λ j. o.starts j ++ pick-append (columns_of a.reader) (source_columns a.source) p j) in
    let lf : length first ≡ n = length-append g.params (at ++ src) ∙ (λ j. lg j + (length-append at src ∙ (λ k. la k + ls k)) j) in
    let z0 = zeros (width stmt) in
    let lz = z0.1 in
    let len : length (first ++ z0.0) ≡ c.columns = length-append first z0.0 ∙ (λ j. lf j + lz j) ∙ sym cc_cols in
    let kb = both_of (ends_before n left.rows) (made_and_stand h.conj.rows (rows_renaming ks left.rows)) ek in
    let wl = all_made h.conj.columns n xs c left el wc in
    let holds : Meets left.rows first = subst (λ (y : List ℤ). Meets left.rows y) picked_first (stand_at ks h.conj.rows left.rows p (rows_renaming ks left.rows) refl kb.1 (moduli_of h.conj.columns h.conj.rows i.made) (moduli_of left.columns left.rows wl) o.point.meets) in
    let y = choices_lift h.conj.columns n xs c left el wc (omega (arith, cc_cols)) kb.0 first z0.0 lf holds len in
    let q = first ++ y.0 in
    let ly : length y.0 ≡ width stmt = y.1 ∙ lz in
    let on_rows : Meets ro.0 q = (form_keeps cols ro.0 q made).0 (subst (λ (w : Conj). Meets w.rows q) (sym conj_is) y.2) in
    let on : Meets (cc'.first ++ cc'.second) q = subst (λ (z : List Row). Meets z q) cc'.are on_rows in
    let both = meets-parts cc'.first cc'.second q on in
    let as_base : q ≡ g.params ++ ((at ++ src) ++ y.0) = append_assoc g.params (at ++ src) y.0 in
    let as_source : q ≡ ((g.params ++ at) ++ src) ++ y.0 = ap (λ w. w ++ y.0) (sym (append_assoc g.params at src)) in
    let as_reader : q ≡ (g.params ++ at) ++ (src ++ y.0) = as_source ∙ append_assoc (g.params ++ at) src y.0 in
    let starts : picked (base ps) q ≡ g.params = ap (picked (base ps)) as_base ∙ block [] g.params ((at ++ src) ++ y.0) 0 ps refl lg in
    let xs' : picked (columns_of own.reader) q ≡ at = ap (picked (columns_of own.reader)) as_reader ∙ block g.params at (src ++ y.0) ps a.reader.width lg la in
    let ss : picked (range_with_len (ps + a.reader.width) (source_width a.source)) q ≡ src =
    ap (picked (range_with_len (ps + a.reader.width) (source_width a.source))) as_source ∙ block (g.params ++ at) src y.0 (ps + a.reader.width) (source_width a.source) (length-append g.params at ∙ (λ j. lg j + la j)) ls in
    let zs : picked (columns_of copy) q ≡ y.0 = pick_new first y.0 n (width stmt) lf ly in
    let says = case_says ps g.params own.reader cc'.cell copy stmt cc'.rows_of cc'.level cc'.first q at y.0 parts starts xs' zs both.0 in
    let after_here = after_says g a.side own.source after u copy stmt cc'.second q starts cc'.later both.1 in
    let inst = d.instance u stmt y.0 st.1 ly (some-at Meets stmt.pieces piece cc'.rows_of (g.params ++ y.0) cc'.piece_is says.0) in
    let v = inst.0 in
    let iv = inst.1 in
    let stands = stands_of_level m g.params x d a.reader.position at r.spot r.cell r.before u y.0 v stmt before cc'.level r.here r.reads iv st.1 cc'.level_is says.2 in
    let rc : r.cell ≡ cell_with g.params cc'.cell at = read_cell m g.params x d a.reader.position at cc'.cell r.spot r.cell r.before cc'.read r.here r.reads in
    let fv : slice_get m.stmts v.entry.stmt ≡ Some stmt = ap (slice_get m.stmts) iv.stmt ∙ st.1 in
    let tv : target v.entry ≡ cell_of stmt (g.params ++ y.0) = d.cell v stmt iv.stands fv ∙ ap (λ (w : List ℤ). cell_of stmt (g.params ++ w)) iv.coords in
    let same : r.cell ≡ target v.entry = rc ∙ (λ j. record { array = sym cc'.array j; at = says.1 j }) ∙ sym tv in
    let src_at : SourceAt x own.source q r.cell r.before = source_own x (ps + a.reader.width) a.source p q r.cell r.before ss last.1 in
    no_copy g a.side own.source u stmt copy p q y.0 r.cell r.before v src_at after_here zs iv st.1 stands (λ w st. stands_all x a.reader.position at r.spot r.cell r.before w r.here r.reads st) (subst (λ (w : Cell). same_cell r.cell w ≡ true) same (same_cell_refl r.cell))
