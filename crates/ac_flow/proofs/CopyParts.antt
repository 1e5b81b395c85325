-- The parts of a writing's rows, and what they say at a point.
use Rattle.std.proofs.Common.{◌≡◌, ℕ, zero, suc, ◌+◌, ◌<◌, inl, inr, ℤ, List, [], ◌∷◌, ◌++◌, map, length, true, cond, Option, Some, None, refl, sym, ap, ◌∙◌, subst, arith, append_assoc, length-append}
use Rattle.std.specs.Prelude.{slice_get, nat_eq, option_and_then}
use Rattle.std.specs.List.{flat_map, range_with_len}
use Rattle.std.proofs.lemmas.Bool.{eqb-true}
use Rattle.std.proofs.lemmas.Bool.Decides.{Decides-eqb}
use Rattle.ac_forms.specs.Rows.{Meets}
use Rattle.ac_forms.specs.Renaming.{picked, rows_renaming}
use Rattle.ac_forms.specs.declared.row.Row.{Row}
use Rattle.ac_syntax.specs.Algebra.{Cell, same_cell, target}
use Rattle.ac_syntax.specs.Source.{Writer, Stands, source}
use Rattle.ac_syntax.specs.Trace.{Entry}
use Rattle.ac_syntax.specs.declared.tree.Position.{Position}
use Rattle.ac_syntax.proofs.Cells.{same_cell_refl, same_cell_is}
use Rattle.ac_poly.specs.ModelMeaning.{values_at, cell_of}
use Rattle.ac_poly.specs.declared.types.Model.{Model}
use Rattle.ac_poly.specs.declared.types.StmtModel.{StmtModel}
use Rattle.ac_base.proofs.Options.{bind-some, some-is, if-some}
use Rattle.ac_claims_paths.specs.PathColumns.{base, columns_of, appended}
use Rattle.ac_claims_paths.specs.InstanceCoordinates.{width, levels_before}
use Rattle.ac_claims_paths.specs.Executions.{Execution, InstanceAt, Describes}
use Rattle.ac_claims_paths.specs.PathSteps.{root, case_rows}
use Rattle.ac_claims_paths.specs.CopyKills.{assignment_at, after_rows}
use Rattle.ac_forms.specs.ListMembers.{IsAmong}
use Rattle.ac_claims_paths.specs.ModelPositions.{cell_read, levels_to}
use Rattle.ac_claims_paths.specs.declared.places.CellForms.{CellForms}
use Rattle.ac_claims_paths.specs.declared.path.Seat.{Seat}
use Rattle.ac_claims_paths.proofs.Moving.{rows-value, equal-values, appended-parts, meets-parts, meets-both}
use Rattle.ac_claims_paths.proofs.OnPaths.{pick_more, pick_new, range_in}
use Rattle.ac_claims_paths.proofs.Heres.{cell_with, read_cell}
use Rattle.ac_claims_paths.proofs.Branches.{in_left, in_right, in_map, in_flat_map, stands_of_level, stands_all, level_in}
use Rattle.ac_claims_paths.proofs.InBranches.{in_get}
use Rattle.ac_claims_paths.proofs.ReadSteps.{CaseParts, case_parts, case_meets, picks_one, picks_two}
use Rattle.ac_flow.specs.Writings.{alone, reading, levels_after, levels_after_of, numbers_to, afters, writing, writings_of, writings_from, writings, rows_of}
use Rattle.ac_flow.specs.Sources.{IsReading}
use Rattle.ac_claims_paths.specs.declared.path.CopyNumbers.{CopyNumbers}
use Rattle.ac_forms.specs.PieceMembership.{IsInSome}
use Rattle.ac_forms.proofs.InPieces.{some-at}
use Rattle.ac_claims_paths.proofs.Kills.{case_says}

-- ---- blocks of numbers

pub block : (b x r : List ℤ) (k w : ℕ) → length b ≡ k → length x ≡ w → picked (range_with_len k w) (b ++ (x ++ r)) ≡ x
block b x r k w lb lx =
    ap (picked (range_with_len k w)) (sym (append_assoc b x r))
    ∙ pick_more (range_with_len k w) (b ++ x) r (k + w) (length-append b x ∙ (λ i. lb i + lx i)) (range_in k w (k + w) (omega arith)) ∙ pick_new b x k w lb lx

-- ---- lists

pub somewhere_at : (qs : List (List Row)) (p : List ℤ) → IsInSome Meets qs p → (k : ℕ) × (q : List Row) × (slice_get qs k ≡ Some q) × Meets q p
somewhere_at [] p h = absurd h
somewhere_at (q ∷ qs) p (inl h) = (0, q, refl, h)
somewhere_at (q ∷ qs) p (inr h) = let r = somewhere_at qs p h in (suc r.0, r.1, r.2, r.3)

in_range : (first count k : ℕ) → k < count → IsAmong (first + k) (range_with_len first count)
in_range first zero k h = absurd (omega (arith, h))
in_range first (suc count) zero h = inl (omega arith)
in_range first (suc count) (suc k) h = inr (let e : first + 1 + k ≡ first + suc k = omega arith in subst (λ n. IsAmong n (range_with_len (first + 1) count)) e (in_range (first + 1) count k (omega (arith, h))))

get_below : {A : Type 0} (xs : List A) (k : ℕ) (x : A) → slice_get xs k ≡ Some x → k < length xs
get_below [] k x e = absurd cc
get_below (y ∷ ys) zero x e = omega arith
get_below (y ∷ ys) (suc k) x e = let r = get_below ys k x e in omega (arith, r)

in_numbers : {A : Type 0} (xs : List A) (k : ℕ) (x : A) → slice_get xs k ≡ Some x → IsAmong k (numbers_to (length xs))
in_numbers xs k x e = let z : 0 + k ≡ k = omega arith in subst (λ n. IsAmong n (numbers_to (length xs))) z (in_range 0 (length xs) k (get_below xs k x e))

array_test : {A : Type 0} (a b : ℕ) (xs ys : List A) → a ≡ b → cond (nat_eq a b) xs ys ≡ xs
array_test a b xs ys e = let i : nat_eq a b ≡ true = (Decides-eqb a b).1 e in rw i refl

in_writings_from : (m : Model) (reader : Position) (array : ℕ) (source : Option Seat) (first j u : ℕ) (stmts : List StmtModel) (stmt : StmtModel) (w : CopyNumbers)
    → slice_get stmts j ≡ Some stmt → stmt.array ≡ array → first + j ≡ u → IsAmong w (writings_of m reader source u stmt) → IsAmong w (writings_from m reader array source first stmts)
in_writings_from m reader array source first j u [] stmt w e a n k = absurd cc
in_writings_from m reader array source first zero u (s ∷ stmts) stmt w e a n k =
    let i : s ≡ stmt = cc in
    let f : first ≡ u = omega (arith, n) in
    let c : IsAmong w (writings_of m reader source first s) = rw (i, f) k in
    let t = array_test s.array array (writings_of m reader source first s) [] (ap (λ (x : StmtModel). x.array) i ∙ a) in
    in_left w _ (writings_from m reader array source (suc first) stmts) (subst (IsAmong w) (sym t) c)
in_writings_from m reader array source first (suc j) u (s ∷ stmts) stmt w e a n k = in_right w _ (writings_from m reader array source (suc first) stmts) (in_writings_from m reader array source (suc first) j u stmts stmt w e a (omega (arith, n)) k)

-- a writing that is there
pub in_writings : (m : Model) (reader : Position) (array : ℕ) (source : Option Seat) (u piece before : ℕ) (after : Option ℕ) (stmt : StmtModel) (rows level : List Row)
    → slice_get m.stmts u ≡ Some stmt → stmt.array ≡ array → slice_get stmt.pieces piece ≡ Some rows → slice_get (levels_to m u stmt reader) before ≡ Some level → IsAmong after (afters m source u stmt)
    → IsAmong (writing u piece before after) (writings m reader array source)
in_writings m reader array source u piece before after stmt rows level is a p l k =
    in_writings_from m reader array source 0 u u m.stmts stmt (writing u piece before after) is a (omega arith)
    (in_flat_map (λ piece. flat_map (λ before. map (writing u piece before) (afters m source u stmt)) (numbers_to (length (levels_to m u stmt reader)))) piece (numbers_to (length stmt.pieces)) (writing u piece before after)
    (in_numbers stmt.pieces piece rows p)
    (in_flat_map (λ before. map (writing u piece before) (afters m source u stmt)) before (numbers_to (length (levels_to m u stmt reader))) (writing u piece before after)
    (in_numbers (levels_to m u stmt reader) before level l)
    (in_map (writing u piece before) after (afters m source u stmt) k)))

-- ---- the parts of a writing's rows

pub record Parts (m : Model) (reader : Position) (count : ℕ) (source : Option Seat) (n : ℕ) (w : CopyNumbers) (stmt : StmtModel) (rows : List Row) : Type 0 where
  pub cell : CellForms
  pub read : cell_read m reader ≡ Some cell
  pub array : stmt.array ≡ cell.array
  pub piece : List Row
  pub piece_is : slice_get stmt.pieces w.piece ≡ Some piece
  pub level : List Row
  pub level_is : slice_get (levels_to m w.stmt stmt reader) w.before ≡ Some level
  pub first : List Row
  pub case : case_rows m.params (reading m reader count source).reader cell (root n w.stmt stmt) stmt piece level ≡ Some first
  pub second : List Row
  pub later : after_rows (alone m) m source w.after w.stmt (root n w.stmt stmt) stmt ≡ Some second
  pub are : rows ≡ first ++ second

pub parts_of : (m : Model) (reader : Position) (count : ℕ) (source : Option Seat) (n : ℕ) (w : CopyNumbers) (stmt : StmtModel) (rows : List Row) → rows_of m (reading m reader count source) n w stmt ≡ Some rows → Parts m reader count source n w stmt rows
parts_of m reader count source n w stmt rows e =
    let seat = (reading m reader count source).reader in
    let copy = root n w.stmt stmt in
    let cl = bind-some (cell_read m reader) (λ cell. cond (nat_eq stmt.array cell.array)
    (option_and_then (λ piece. option_and_then (λ level. appended (case_rows m.params seat cell copy stmt piece level) (after_rows (alone m) m source w.after w.stmt copy stmt)) (slice_get (levels_to m w.stmt stmt reader) w.before)) (slice_get stmt.pieces w.piece))
    None) rows e in
    let cell = cl.0 in
    let ar = if-some (nat_eq stmt.array cell.array)
    (option_and_then (λ piece. option_and_then (λ level. appended (case_rows m.params seat cell copy stmt piece level) (after_rows (alone m) m source w.after w.stmt copy stmt)) (slice_get (levels_to m w.stmt stmt reader) w.before)) (slice_get stmt.pieces w.piece)) rows cl.2 in
    let pc = bind-some (slice_get stmt.pieces w.piece) (λ piece. option_and_then (λ level. appended (case_rows m.params seat cell copy stmt piece level) (after_rows (alone m) m source w.after w.stmt copy stmt)) (slice_get (levels_to m w.stmt stmt reader) w.before)) rows ar.1 in
    let lv = bind-some (slice_get (levels_to m w.stmt stmt reader) w.before) (λ level. appended (case_rows m.params seat cell copy stmt pc.0 level) (after_rows (alone m) m source w.after w.stmt copy stmt)) rows pc.2 in
    let pa = appended-parts (case_rows m.params seat cell copy stmt pc.0 lv.0) (after_rows (alone m) m source w.after w.stmt copy stmt) rows lv.2 in
    record { cell = cell; read = cl.1; array = eqb-true stmt.array cell.array ar.0; piece = pc.0; piece_is = pc.1; level = lv.0; level_is = lv.1; first = pa.0; case = pa.2; second = pa.1; later = pa.3; are = pa.4 }

-- where the numbers of a point stand: the parameters, the reader's coordinates and the writing's
pub record Shown (m : Model) (params at zs : List ℤ) (count n u : ℕ) (stmt : StmtModel) (q : List ℤ) : Type 0 where
  pub params_at : picked (base m.params) q ≡ params
  pub reader_at : picked (range_with_len m.params count) q ≡ at
  pub own_at : picked (columns_of (root n u stmt)) q ≡ zs

-- an instance that writes the cell before it is read
pub record Written (x : Execution) (cell : Cell) (before : List Entry) (u : ℕ) (zs : List ℤ) : Type 0 where
  pub writer : Writer
  pub instance : InstanceAt x u zs writer
  pub stands : Stands before writer
  pub writes : same_cell cell (target writer.entry) ≡ true

-- at a point of its rows a writing is one
pub written : (m : Model) (params : List ℤ) (x : Execution) (d : Describes m params x) (reader : Position) (count : ℕ) (source : Option Seat) (n : ℕ) (w : CopyNumbers) (stmt : StmtModel) (rows : List Row) (at zs q : List ℤ) (cell : Cell) (before : List Entry)
    → IsReading x reader at cell before → slice_get m.stmts w.stmt ≡ Some stmt → length zs ≡ width stmt → (c : Parts m reader count source n w stmt rows) → Shown m params at zs count n w.stmt stmt q → Meets c.first q → Written x cell before w.stmt zs
written m params x d reader count source n w stmt rows at zs q cell before r is long c sh h =
    let seat = (reading m reader count source).reader in
    let copy = root n w.stmt stmt in
    let says = case_says m.params params seat c.cell copy stmt c.piece c.level c.first q at zs (case_parts m.params seat c.cell copy stmt c.piece c.level c.first c.case) sh.params_at sh.reader_at sh.own_at h in
    let inst = d.instance w.stmt stmt zs is long (some-at Meets stmt.pieces w.piece c.piece (params ++ zs) c.piece_is says.0) in
    let v = inst.0 in
    let iv = inst.1 in
    let stands = stands_of_level m params x d reader at r.spot cell before w.stmt zs v stmt w.before c.level r.here r.reads iv is c.level_is says.2 in
    let rc : cell ≡ cell_with params c.cell at = read_cell m params x d reader at c.cell r.spot cell before c.read r.here r.reads in
    let fv : slice_get m.stmts v.entry.stmt ≡ Some stmt = ap (slice_get m.stmts) iv.stmt ∙ is in
    let tv : target v.entry ≡ cell_of stmt (params ++ zs) = d.cell v stmt iv.stands fv ∙ ap (λ (y : List ℤ). cell_of stmt (params ++ y)) iv.coords in
    let same : cell ≡ target v.entry = rc ∙ (λ j. record { array = sym c.array j; at = says.1 j }) ∙ sym tv in
    record { writer = v; instance = iv; stands = stands; writes = subst (λ (y : Cell). same_cell cell y ≡ true) same (same_cell_refl cell) }

-- the levels after an assumed source hold where the writing stands after it
pub later_than : (m : Model) (params : List ℤ) (x : Execution) (d : Describes m params x) (seat : Seat) (after : Option ℕ) (u : ℕ) (stmt : StmtModel) (n : ℕ) (rows : List Row) (q zs : List ℤ) (s v : Writer)
    → after_rows (alone m) m (Some seat) after u (root n u stmt) stmt ≡ Some rows → picked (base m.params) q ≡ params → picked (columns_of (root n u stmt)) q ≡ zs
    → InstanceAt x (assignment_at seat) (picked (columns_of seat) q) s → InstanceAt x u zs v → slice_get m.stmts u ≡ Some stmt → Meets rows q → length s.earlier < length v.earlier
later_than m params x d seat None u stmt n rows q zs s v e b z is iv fu h = absurd cc
later_than m params x d seat (Some level) u stmt n rows q zs s v e b z is iv fu h =
    let copy = root n u stmt in
    let f = bind-some (slice_get m.stmts (assignment_at seat))
    (λ (from : StmtModel). option_and_then (λ rows. rows_renaming (base m.params ++ (columns_of seat ++ columns_of copy)) rows) (slice_get (levels_before m.params (assignment_at seat) from u stmt) level)) rows e in
    let l = bind-some (slice_get (levels_before m.params (assignment_at seat) f.0 u stmt) level) (λ rows. rows_renaming (base m.params ++ (columns_of seat ++ columns_of copy)) rows) rows f.2 in
    let me = subst (Meets l.0) (picks_two m.params params seat copy q _ _ b refl refl) ((rows-value (base m.params ++ (columns_of seat ++ columns_of copy)) l.0 rows q l.2).0 h) in
    let me' : Meets l.0 (params ++ (x.coords s.entry ++ x.coords v.entry)) =
    subst (λ (y : List ℤ). Meets l.0 (params ++ (y ++ x.coords v.entry))) (sym is.coords) (subst (λ (y : List ℤ). Meets l.0 (params ++ (picked (columns_of seat) q ++ y))) (z ∙ sym iv.coords) me) in
    let l1 : slice_get (levels_before (length params) s.entry.stmt f.0 v.entry.stmt stmt) level ≡ Some l.0 = (λ j. slice_get (levels_before (sym d.count j) (is.stmt j) f.0 (iv.stmt j) stmt) level) ∙ l.1 in
    let some = some-at Meets (levels_before (length params) s.entry.stmt f.0 v.entry.stmt stmt) level l.0 (params ++ (x.coords s.entry ++ x.coords v.entry)) l1 me' in
    (d.order s v f.0 stmt is.stands iv.stands (ap (slice_get m.stmts) is.stmt ∙ f.1) (ap (slice_get m.stmts) iv.stmt ∙ fu)).1 some

-- levels after what is assumed that hold for the writer's instance
pub record Later (m : Model) (x : Execution) (source : Option Seat) (n : ℕ) (v : Writer) (stmt : StmtModel) (q : List ℤ) : Type 0 where
  pub after : Option ℕ
  pub among : IsAmong after (afters m source v.entry.stmt stmt)
  pub meets : (rows : List Row) → after_rows (alone m) m source after v.entry.stmt (root n v.entry.stmt stmt) stmt ≡ Some rows → Meets rows q

pub later_none : (m : Model) (x : Execution) (n : ℕ) (v : Writer) (stmt : StmtModel) (q : List ℤ) → Later m x None n v stmt q
later_none m x n v stmt q = record { after = None; among = inl refl; meets = λ rows e. let i : [] ≡ rows = some-is [] rows e in subst (λ (y : List Row). Meets y q) i tt }

pub later_some : (m : Model) (params : List ℤ) (x : Execution) (d : Describes m params x) (seat : Seat) (n : ℕ) (stmt : StmtModel) (q : List ℤ) (s v : Writer) → picked (base m.params) q ≡ params
    → picked (columns_of (root n v.entry.stmt stmt)) q ≡ x.coords v.entry → InstanceAt x (assignment_at seat) (picked (columns_of seat) q) s → Stands x.trace v → slice_get m.stmts v.entry.stmt ≡ Some stmt → length s.earlier < length v.earlier → Later m x (Some seat) n v stmt q
later_some m params x d seat n stmt q s v b z is sv fu lt =
    let u = v.entry.stmt in
    let copy = root n u stmt in
    let mo = d.entry s is.stands in
    let from = mo.stmt in
    let fs : slice_get m.stmts (assignment_at seat) ≡ Some from = ap (slice_get m.stmts) (sym is.stmt) ∙ mo.is in
    let o = (d.order s v from stmt is.stands sv mo.is fu).0 lt in
    let k = somewhere_at (levels_before (length params) s.entry.stmt from u stmt) (params ++ (x.coords s.entry ++ x.coords v.entry)) o in
    let here : slice_get (levels_before m.params (assignment_at seat) from u stmt) k.0 ≡ Some k.1 = (λ j. slice_get (levels_before (d.count j) (sym is.stmt j) from u stmt) k.0) ∙ k.2 in
    let there : slice_get (levels_after m seat u stmt) k.0 ≡ Some k.1 = ap (λ (o : Option StmtModel). slice_get (levels_after_of m o (assignment_at seat) u stmt) k.0) fs ∙ here in
    record {
      after = Some k.0;
      among = in_map Some k.0 (numbers_to (length (levels_after m seat u stmt))) (in_numbers (levels_after m seat u stmt) k.0 k.1 there);
      meets = λ rows e.
          let f = bind-some (slice_get m.stmts (assignment_at seat))
          (λ (from : StmtModel). option_and_then (λ rows. rows_renaming (base m.params ++ (columns_of seat ++ columns_of copy)) rows) (slice_get (levels_before m.params (assignment_at seat) from u stmt) k.0)) rows e in
          let l = bind-some (slice_get (levels_before m.params (assignment_at seat) f.0 u stmt) k.0) (λ rows. rows_renaming (base m.params ++ (columns_of seat ++ columns_of copy)) rows) rows f.2 in
          let same : from ≡ f.0 = some-is from f.0 (sym fs ∙ f.1) in
          let level : k.1 ≡ l.0 = some-is k.1 l.0 (sym here ∙ (λ j. slice_get (levels_before m.params (assignment_at seat) (same j) u stmt) k.0) ∙ l.1) in
          let at_point : picked (base m.params ++ (columns_of seat ++ columns_of copy)) q ≡ params ++ (x.coords s.entry ++ x.coords v.entry) = picks_two m.params params seat copy q _ _ b (sym is.coords) z in
          (rows-value (base m.params ++ (columns_of seat ++ columns_of copy)) l.0 rows q l.2).1 (subst (Meets l.0) (sym at_point) (subst (λ (y : List Row). Meets y (params ++ (x.coords s.entry ++ x.coords v.entry))) level k.3));
    }

-- a writer before the reader is among the writings, and meets their rows
pub record There (m : Model) (x : Execution) (reader : Position) (array count : ℕ) (source : Option Seat) (n : ℕ) (v : Writer) (q : List ℤ) : Type 0 where
  pub writing : CopyNumbers
  pub among : IsAmong writing (writings m reader array source)
  pub stmt : StmtModel
  pub stmt_is : writing.stmt ≡ v.entry.stmt
  pub is : slice_get m.stmts writing.stmt ≡ Some stmt
  pub wide : length (x.coords v.entry) ≡ width stmt
  pub meets : (rows : List Row) → rows_of m (reading m reader count source) n writing stmt ≡ Some rows → Meets rows q

pub there : (m : Model) (params : List ℤ) (x : Execution) (d : Describes m params x) (reader : Position) (forms : CellForms) (count : ℕ) (source : Option Seat) (n : ℕ) (at q : List ℤ) (cell : Cell) (before : List Entry) (v : Writer)
    → cell_read m reader ≡ Some forms → IsReading x reader at cell before → Stands before v → same_cell cell (target v.entry) ≡ true
    → ((stmt : StmtModel) → slice_get m.stmts v.entry.stmt ≡ Some stmt → length (x.coords v.entry) ≡ width stmt → Shown m params at (x.coords v.entry) count n v.entry.stmt stmt q × Later m x source n v stmt q)
    → There m x reader forms.array count source n v q
there m params x d reader forms count source n at q cell before v e r st writes placed =
    let u = v.entry.stmt in
    let z = x.coords v.entry in
    let seat = (reading m reader count source).reader in
    let all = stands_all x reader at r.spot cell before v r.here r.reads st in
    let mo = d.entry v all in
    let stmt = mo.stmt in
    let pl = placed stmt mo.is mo.width in
    let sh = pl.0 in
    let lt = pl.1 in
    let piece = somewhere_at stmt.pieces (params ++ z) (d.piece v stmt all mo.is) in
    let li = level_in m params x d reader at r.spot cell before v stmt r.here r.reads st mo.is in
    let level = in_get li.0 (levels_to m u stmt reader) li.1 in
    let rc : cell ≡ cell_with params forms at = read_cell m params x d reader at forms r.spot cell before e r.here r.reads in
    let wc : cell ≡ cell_of stmt (params ++ z) = same_cell_is cell (target v.entry) writes ∙ d.cell v stmt all mo.is in
    let same : cell_with params forms at ≡ cell_of stmt (params ++ z) = sym rc ∙ wc in
    let array : stmt.array ≡ forms.array = sym (ap (λ (c : Cell). c.array) same) in
    let w = writing u piece.0 level.0 lt.after in
    record {
      writing = w;
      among = in_writings m reader forms.array source u piece.0 level.0 lt.after stmt piece.1 li.0 mo.is array piece.2 level.1 lt.among;
      stmt = stmt;
      stmt_is = refl;
      is = mo.is;
      wide = mo.width;
      meets = λ rows made.
          let c = parts_of m reader count source n w stmt rows made in
          let copy = root n u stmt in
          let fc : forms ≡ c.cell = some-is forms c.cell (sym e ∙ c.read) in
          let pc : piece.1 ≡ c.piece = some-is piece.1 c.piece (sym piece.2 ∙ c.piece_is) in
          let lc : li.0 ≡ c.level = some-is li.0 c.level (sym level.1 ∙ c.level_is) in
          let cells : values_at (params ++ at) c.cell.subs ≡ values_at (params ++ z) stmt.subs = ap (λ (f : CellForms). values_at (params ++ at) f.subs) (sym fc) ∙ ap (λ (c : Cell). c.at) same in
          let one = case_meets m.params params seat c.cell copy stmt c.piece c.level c.first q at z (case_parts m.params seat c.cell copy stmt c.piece c.level c.first c.case) sh.params_at sh.reader_at sh.own_at
          (subst (λ (y : List Row). Meets y (params ++ z)) pc piece.3) cells (subst (λ (y : List Row). Meets y (params ++ (z ++ at))) lc li.2) in
          subst (λ (y : List Row). Meets y q) (sym c.are) (meets-both c.first c.second q one (lt.meets c.second c.later));
    }
