-- A step of a read or an output: the pair behind it stands at a branch.
use Rattle.std.proofs.Common.{◌≡◌, ℕ, ◌+◌, ◌≤◌, inl, ℤ, List, [], ◌∷◌, ◌++◌, map, length, true, Option, Some, None, refl, sym, ap, ◌∙◌, subst, arith, length-append, append-nil}
use Rattle.ac_forms.specs.Rows.{Meets, HaveModuli, AreRowsOver, IsWellMade}
use Rattle.ac_forms.specs.declared.conj.Conj.{Conj}
use Rattle.ac_forms.specs.declared.row.Row.{Row}
use Rattle.ac_syntax.specs.Trace.{Entry}
use Rattle.ac_syntax.specs.Algebra.{Cell}
use Rattle.ac_syntax.specs.Source.{Writer, Stands, source}
use Rattle.ac_syntax.specs.Spot.{Spot, AtNode, AtStart, Reads, resolved}
use Rattle.ac_syntax.specs.declared.tree.Position.TheVariants.{Node}
use Rattle.ac_syntax.proofs.NodeLemmas.{node_root}
use Rattle.ac_syntax.proofs.Sources.{source_stands}
use Rattle.ac_poly.specs.ModelMeaning.{values_at, cell_of}
use Rattle.ac_poly.specs.declared.types.StmtModel.{StmtModel}
use Rattle.ac_omega_steps.specs.IntegerPoints.{IsPoint}
use Rattle.ac_omega_steps.proofs.Keeping.{Meets-append}
use Rattle.ac_base.proofs.Options.{map-some}
use Rattle.ac_forms.specs.Renaming.{picked, rows_renaming}
use Rattle.ac_claims_paths.specs.PathColumns.{base, columns_of, equal_forms, appended}
use Rattle.ac_claims_paths.specs.InstanceCoordinates.{width}
use Rattle.ac_claims_paths.specs.Executions.{Execution, At}
use Rattle.ac_claims_paths.specs.PathSteps.{case_path, case_rows, cases_of, cases_from, read_branches, initial_path, gone_to, extended, root, model_of, seat_of}
use Rattle.ac_claims_paths.specs.ModelPositions.{CellForms, cell_read, levels_to}
use Rattle.ac_claims_paths.specs.declared.path.Assumed.{Assumed}
use Rattle.ac_claims_paths.specs.declared.path.Path.{Path}
use Rattle.ac_claims_paths.specs.declared.path.Seat.{Seat}
use Rattle.ac_claims_paths.specs.declared.path.Side.{Side}
use Rattle.ac_claims_paths.specs.declared.path.Side.TheVariants.{Left, Right}
use Rattle.ac_claims_paths.proofs.Moving.{pick-append, rows-value, rows-within, equal-values, equal-within, appended-parts, meets-both, made-both}
use Rattle.ac_claims_paths.proofs.OnPaths.{Compared, execution_of, describes_of, AtSeat, SeatIn, ReaderAt, LastAt, InPath, OnPath, in-append, seat_columns, base_columns, pick_more, pick_new, at_more, reader_more, starts_more}
use Rattle.ac_claims_paths.proofs.Heres.{reading, cell_with, read_cell}
use Rattle.ac_forms.specs.ListMembers.{IsAmong}
use Rattle.ac_claims_paths.proofs.Branches.{in_left, in_right, in_map, in_flat_map, in_all, somewhere_in, in_cases, stands_all, level_in, source_cell}

-- the case of a source by its cause
pub of_source : (C : Spot → Type 0) (c : Cell) (o : Option Writer) → (o ≡ None → C (AtStart c)) → ((w : Writer) → o ≡ Some w → C (AtNode w w.entry.value)) → C (resolved c o)
of_source C c None f h = f refl
of_source C c (Some w) f h = h w refl

-- the three parts of a case's rows
pub record CaseParts (params : ℕ) (reader : Seat) (cell : CellForms) (source : Seat) (stmt : StmtModel) (piece level rows : List Row) : Type 0 where
  pub first : List Row
  pub second : List Row
  pub third : List Row
  pub pieces : rows_renaming (base params ++ columns_of source) piece ≡ Some first
  pub cells : equal_forms (base params ++ columns_of reader) cell.subs (base params ++ columns_of source) stmt.subs ≡ Some second
  pub levels : rows_renaming (base params ++ (columns_of source ++ columns_of reader)) level ≡ Some third
  pub are : rows ≡ first ++ (second ++ third)

pub case_parts : (params : ℕ) (reader : Seat) (cell : CellForms) (source : Seat) (stmt : StmtModel) (piece level rows : List Row) → case_rows params reader cell source stmt piece level ≡ Some rows → CaseParts params reader cell source stmt piece level rows
case_parts params reader cell source stmt piece level rows e =
    let a = appended-parts (rows_renaming (base params ++ columns_of source) piece)
    (appended (equal_forms (base params ++ columns_of reader) cell.subs (base params ++ columns_of source) stmt.subs) (rows_renaming (base params ++ (columns_of source ++ columns_of reader)) level)) rows e in
    let b = appended-parts (equal_forms (base params ++ columns_of reader) cell.subs (base params ++ columns_of source) stmt.subs) (rows_renaming (base params ++ (columns_of source ++ columns_of reader)) level) a.1 a.3 in
    record { first = a.0; second = b.0; third = b.1; pieces = a.2; cells = b.2; levels = b.3; are = a.4 ∙ ap (λ (ys : List Row). a.0 ++ ys) b.4 }

-- they are well made over the path's columns and the new ones
pub case_made : (params : ℕ) (reader : Seat) (cell : CellForms) (source : Seat) (stmt : StmtModel) (piece level rows : List Row) (n : ℕ) → params ≤ n → SeatIn reader n → SeatIn source n → HaveModuli piece → HaveModuli level
    → CaseParts params reader cell source stmt piece level rows → AreRowsOver n rows
case_made params reader cell source stmt piece level rows n b r s hp hl c =
    let kb = base_columns params n b in
    let kr = seat_columns reader n r in
    let ks = seat_columns source n s in
    let bs = in-append (base params) (columns_of source) n kb ks in
    let br = in-append (base params) (columns_of reader) n kb kr in
    let sr = in-append (base params) (columns_of source ++ columns_of reader) n kb (in-append (columns_of source) (columns_of reader) n ks kr) in
    rw c.are (made-both n c.first (c.second ++ c.third) (rows-within (base params ++ columns_of source) piece c.first n bs hp c.pieces)
    (made-both n c.second c.third (equal-within (base params ++ columns_of reader) cell.subs (base params ++ columns_of source) stmt.subs c.second n br bs c.cells)
    (rows-within (base params ++ (columns_of source ++ columns_of reader)) level c.third n sr hl c.levels)))

-- what columns hold at a point: the parameters and coordinates
pub picks_one : (params : ℕ) (given : List ℤ) (seat : Seat) (q at : List ℤ) → picked (base params) q ≡ given → picked (columns_of seat) q ≡ at → picked (base params ++ columns_of seat) q ≡ given ++ at
picks_one params given seat q at b s = pick-append (base params) (columns_of seat) q ∙ (λ i. b i ++ s i)

pub picks_two : (params : ℕ) (given : List ℤ) (first second : Seat) (q x y : List ℤ) → picked (base params) q ≡ given → picked (columns_of first) q ≡ x → picked (columns_of second) q ≡ y
    → picked (base params ++ (columns_of first ++ columns_of second)) q ≡ given ++ (x ++ y)
picks_two params given first second q x y b s t = pick-append (base params) (columns_of first ++ columns_of second) q ∙ (λ i. b i ++ (pick-append (columns_of first) (columns_of second) q ∙ (λ j. s j ++ t j)) i)

pub case_meets : (params : ℕ) (given : List ℤ) (reader : Seat) (cell : CellForms) (source : Seat) (stmt : StmtModel) (piece level rows : List Row) (q x z : List ℤ) → CaseParts params reader cell source stmt piece level rows
    → picked (base params) q ≡ given → picked (columns_of reader) q ≡ x → picked (columns_of source) q ≡ z
    → Meets piece (given ++ z) → values_at (given ++ x) cell.subs ≡ values_at (given ++ z) stmt.subs → Meets level (given ++ (z ++ x)) → Meets rows q
case_meets params given reader cell source stmt piece level rows q x z c b r s hp hc hl =
    let bs = picks_one params given source q z b s in
    let br = picks_one params given reader q x b r in
    let sr = picks_two params given source reader q z x b s r in
    rw c.are (meets-both c.first (c.second ++ c.third) q ((rows-value (base params ++ columns_of source) piece c.first q c.pieces).1 (subst (Meets piece) (sym bs) hp))
    (meets-both c.second c.third q
    ((equal-values (base params ++ columns_of reader) cell.subs (base params ++ columns_of source) stmt.subs c.second q c.cells).1 (ap (λ y. values_at y cell.subs) br ∙ hc ∙ ap (λ y. values_at y stmt.subs) (sym bs)))
    ((rows-value (base params ++ (columns_of source ++ columns_of reader)) level c.third q c.levels).1 (subst (Meets level) (sym sr) hl))))

-- a branch that a source leads to, and its point
pub record SourceCase (g : Compared) (h : Path) (side : Side) (p : List ℤ) (w : Writer) (hs : List Path) : Type 0 where
  pub conj : Conj
  pub seat : Seat
  pub last : Option Assumed
  pub more : List ℤ
  pub among : IsAmong (gone_to h side conj seat last) hs
  pub point : IsPoint conj (p ++ more)
  pub at : AtSeat (execution_of g side) seat (p ++ more) (AtNode w w.entry.value)
  pub assumed : LastAt g last (p ++ more)
  pub position_is : seat.position ≡ Node w.entry.stmt 0
  pub coords_are : picked (columns_of seat) (p ++ more) ≡ (execution_of g side).coords w.entry

-- the root of an assignment at its entry
pub at_root : (x : Execution) (w : Writer) (stmt : ℕ) (at : List ℤ) → Stands x.trace w → w.entry.stmt ≡ stmt → x.coords w.entry ≡ at → At x (Node stmt 0) at (AtNode w w.entry.value)
unfolding At
at_root x w stmt at s e c = (w, record { stands = s; stmt = e; coords = c }, w.entry.value, node_root w.entry.value, refl)

pub source_case : (g : Compared) (h : Path) (side : Side) (cell : CellForms) (hs : List Path) (p : List ℤ) (r : ReaderAt (execution_of g side) (seat_of h side) p) (w : Writer)
    → g.pairing.params ≤ h.conj.columns → SeatIn (seat_of h side) h.conj.columns → IsWellMade h.conj → IsPoint h.conj p → picked (base g.pairing.params) p ≡ g.params
    → cell_read (model_of g.pairing side) (seat_of h side).position ≡ Some cell → read_branches g.pairing.params (model_of g.pairing side) h side cell ≡ Some hs → source r.cell r.before ≡ Some w → SourceCase g h side p w hs
source_case g h side cell hs p r w bi ri made point starts e br src =
    let x = execution_of g side in
    let m = model_of g.pairing side in
    let d = describes_of g side in
    let reader = seat_of h side in
    let at = picked (columns_of reader) p in
    let z = x.coords w.entry in
    let u = w.entry.stmt in
    let before = (source_stands r.cell r.before w src).0 in
    let st = stands_all x reader.position at r.spot r.cell r.before w r.here r.reads before in
    let mo = d.entry w st in
    let stmt = mo.stmt in
    let pieces = somewhere_in stmt.pieces (g.params ++ z) (d.piece w stmt st mo.is) in
    let level = level_in m g.params x d reader.position at r.spot r.cell r.before w stmt r.here r.reads before mo.is in
    let rc : r.cell ≡ cell_with g.params cell at = read_cell m g.params x d reader.position at cell r.spot r.cell r.before e r.here r.reads in
    let wc : r.cell ≡ cell_of stmt (g.params ++ z) = source_cell m g.params x d r.cell r.before w stmt src st mo.is ∙ d.cell w stmt st mo.is in
    let same : cell_with g.params cell at ≡ cell_of stmt (g.params ++ z) = sym rc ∙ wc in
    let n = h.conj.columns in
    let source = root n u stmt in
    let lp : length p ≡ n = point.long in
    let lz : length z ≡ width stmt = mo.width in
    let o = case_path g.pairing.params h side cell u stmt pieces.0 level.0 in
    let in_one : IsAmong o (cases_of g.pairing.params (model_of g.pairing side) h side cell u stmt) =
    in_flat_map (λ piece. map (case_path g.pairing.params h side cell u stmt piece) (levels_to m u stmt reader.position)) pieces.0 stmt.pieces o pieces.1 (in_map (case_path g.pairing.params h side cell u stmt pieces.0) level.0 (levels_to m u stmt reader.position) level.1) in
    let in_them : IsAmong o (cases_from g.pairing.params (model_of g.pairing side) h side cell 0 m.stmts) = in_cases g.pairing h side cell 0 u u m.stmts stmt o mo.is (sym (ap (λ (c : Cell). c.array) same)) (omega arith) in_one in
    let all = in_all o (cases_from g.pairing.params (model_of g.pairing side) h side cell 0 m.stmts ++ Some (initial_path h side) ∷ []) hs br (in_left o (cases_from g.pairing.params (model_of g.pairing side) h side cell 0 m.stmts) (Some (initial_path h side) ∷ []) in_them) in
    let made_rows = map-some (case_rows g.pairing.params reader cell source stmt pieces.0 level.0)
    (λ rows. gone_to h side (extended h.conj (width stmt) rows) source (Some (record { side = side; reader = reader; source = Some source }))) all.0 all.1 in
    let parts = case_parts g.pairing.params reader cell source stmt pieces.0 level.0 made_rows.0 made_rows.1 in
    let starts' : picked (base g.pairing.params) (p ++ z) ≡ g.params = starts_more g.pairing.params g.params p z n lp bi starts in
    let zs : picked (columns_of source) (p ++ z) ≡ z = pick_new p z n (width stmt) lp lz in
    let xs : picked (columns_of reader) (p ++ z) ≡ at = pick_more (columns_of reader) p z n lp (seat_columns reader n ri) in
    let rows_meet = case_meets g.pairing.params g.params reader cell source stmt pieces.0 level.0 made_rows.0 (p ++ z) at z parts starts' xs zs pieces.2 (ap (λ (c : Cell). c.at) same) level.2 in
    record {
      conj = extended h.conj (width stmt) made_rows.0;
      seat = source;
      last = Some (record { side = side; reader = reader; source = Some source });
      more = z;
      among = subst (λ (y : Path). IsAmong y hs) made_rows.2 all.2;
      point = record {
        long = length-append p z ∙ (λ i. lp i + lz i);
        meets = meets-both h.conj.rows made_rows.0 (p ++ z) (Meets-append h.conj.rows n p z (omega (arith, lp)) made point.meets) rows_meet;
      };
      at = at_root x w u (picked (columns_of source) (p ++ z)) st refl (sym zs);
      assumed = (reader_more x reader p z n lp ri r, (w, src, record { stands = st; stmt = refl; coords = sym zs }));
      position_is = refl;
      coords_are = zs;
    }

-- a path behind a step, at the point of its seat
pub on_left : (g : Compared) (h : Path) (p : List ℤ) (s t : Spot) → InPath g h → OnPath g h p s t → (c : Conj) (seat : Seat) (last : Option Assumed) (more : List ℤ) (s' : Spot) → IsPoint c (p ++ more) → AtSeat g.left seat (p ++ more) s' → LastAt g last (p ++ more)
    → OnPath g (gone_to h Left c seat last) (p ++ more) s' t
on_left g h p s t i a c seat last more s' point at assumed = record {
  point = point;
  starts = starts_more g.pairing.params g.params p more h.conj.columns a.point.long i.base_in a.starts;
  left = at;
  right = at_more g.right h.right p more t h.conj.columns a.point.long i.right_in a.right;
  last = assumed;
}

pub on_right : (g : Compared) (h : Path) (p : List ℤ) (s t : Spot) → InPath g h → OnPath g h p s t → (c : Conj) (seat : Seat) (last : Option Assumed) (more : List ℤ) (t' : Spot) → IsPoint c (p ++ more) → AtSeat g.right seat (p ++ more) t' → LastAt g last (p ++ more)
    → OnPath g (gone_to h Right c seat last) (p ++ more) s t'
on_right g h p s t i a c seat last more t' point at assumed = record {
  point = point;
  starts = starts_more g.pairing.params g.params p more h.conj.columns a.point.long i.base_in a.starts;
  left = at_more g.left h.left p more s h.conj.columns a.point.long i.left_in a.left;
  right = at;
  last = assumed;
}

-- the branch of the initial contents
pub initial_among : (g : Compared) (h : Path) (side : Side) (cell : CellForms) (hs : List Path) → read_branches g.pairing.params (model_of g.pairing side) h side cell ≡ Some hs → IsAmong (initial_path h side) hs
initial_among g h side cell hs br =
    let m = model_of g.pairing side in
    let os = cases_from g.pairing.params (model_of g.pairing side) h side cell 0 m.stmts in
    let all = in_all (Some (initial_path h side)) (os ++ Some (initial_path h side) ∷ []) hs br (in_right (Some (initial_path h side)) os (Some (initial_path h side) ∷ []) (inl refl)) in
    let same : initial_path h side ≡ all.0 = cc in
    subst (λ (y : Path). IsAmong y hs) (sym same) all.2

-- a branch at which a pair of spots stands, at a point that goes on from p
pub record Behind (g : Compared) (hs : List Path) (p : List ℤ) (s t : Spot) : Type 0 where
  pub path : Path
  pub among : IsAmong path hs
  pub gone : path.gone ≡ true
  pub more : List ℤ
  pub on : OnPath g path (p ++ more) s t

-- what a pair of spots reads on one side, and the branch of its source
pub record LeftRead (g : Compared) (hs : List Path) (p : List ℤ) (s t : Spot) : Type 0 where
  pub cell : Cell
  pub before : List Entry
  pub reads : Reads g.left.trace s cell before
  pub behind : Behind g hs p (resolved cell (source cell before)) t

pub record RightRead (g : Compared) (hs : List Path) (p : List ℤ) (s t : Spot) : Type 0 where
  pub cell : Cell
  pub before : List Entry
  pub reads : Reads g.right.trace t cell before
  pub behind : Behind g hs p s (resolved cell (source cell before))

pub left_read : (g : Compared) (h : Path) (cell : CellForms) (hs : List Path) → InPath g h → cell_read g.pairing.left h.left.position ≡ Some cell → read_branches g.pairing.params g.pairing.left h Left cell ≡ Some hs
    → (p : List ℤ) (s t : Spot) → OnPath g h p s t → LeftRead g hs p s t
left_read g h cell hs i e br p s t a =
    let at = picked (columns_of h.left) p in
    let rd = reading g.pairing.left g.params g.left g.describes_left h.left.position at cell s e a.left in
    let r : ReaderAt g.left h.left p = record { spot = s; cell = rd.read; before = rd.before; here = a.left; reads = rd.reads } in
    record {
      cell = rd.read;
      before = rd.before;
      reads = rd.reads;
      behind = of_source (λ u. Behind g hs p u t) rd.read (source rd.read rd.before)
          (λ none. record {
            path = initial_path h Left;
            among = initial_among g h Left cell hs br;
            gone = refl;
            more = [];
            on = subst (λ q. OnPath g (initial_path h Left) q (AtStart rd.read) t) (sym (append-nil p)) (record { point = a.point; starts = a.starts; left = rd.initial; right = a.right; last = (r, none) });
          })
          (λ w src.
          let c = source_case g h Left cell hs p r w i.base_in i.left_in i.made a.point a.starts e br src in
          record { path = gone_to h Left c.conj c.seat c.last; among = c.among; gone = refl; more = c.more; on = on_left g h p s t i a c.conj c.seat c.last c.more (AtNode w w.entry.value) c.point c.at c.assumed });
    }

pub right_read : (g : Compared) (h : Path) (cell : CellForms) (hs : List Path) → InPath g h → cell_read g.pairing.right h.right.position ≡ Some cell → read_branches g.pairing.params g.pairing.right h Right cell ≡ Some hs
    → (p : List ℤ) (s t : Spot) → OnPath g h p s t → RightRead g hs p s t
right_read g h cell hs i e br p s t a =
    let at = picked (columns_of h.right) p in
    let rd = reading g.pairing.right g.params g.right g.describes_right h.right.position at cell t e a.right in
    let r : ReaderAt g.right h.right p = record { spot = t; cell = rd.read; before = rd.before; here = a.right; reads = rd.reads } in
    record {
      cell = rd.read;
      before = rd.before;
      reads = rd.reads;
      behind = of_source (λ u. Behind g hs p s u) rd.read (source rd.read rd.before)
          (λ none. record {
            path = initial_path h Right;
            among = initial_among g h Right cell hs br;
            gone = refl;
            more = [];
            on = subst (λ q. OnPath g (initial_path h Right) q s (AtStart rd.read)) (sym (append-nil p)) (record { point = a.point; starts = a.starts; left = a.left; right = rd.initial; last = (r, none) });
          })
          (λ w src.
          let c = source_case g h Right cell hs p r w i.base_in i.right_in i.made a.point a.starts e br src in
          record { path = gone_to h Right c.conj c.seat c.last; among = c.among; gone = refl; more = c.more; on = on_right g h p s t i a c.conj c.seat c.last c.more (AtNode w w.entry.value) c.point c.at c.assumed });
    }
