-- Where a read or an output steps to the branch of a case, the case is left there, and a question at what is left of it has the point.
use Rattle.std.proofs.Common.{◌≡◌, inl, inr, ℕ, suc, ◌+◌, ◌-◌, ◌≤◌, ℤ, List, [], ◌∷◌, ◌++◌, map, length, Option, Some, None, refl, sym, ap, ◌∙◌, subst, arith, append_assoc, length-append}
use Rattle.std.specs.Prelude.{slice_get, slice_index_or, pos}
use Rattle.std.specs.List.{range_with_len}
use Rattle.std.proofs.lemmas.List.{length-map}
use Rattle.ac_forms.specs.ListMembers.{IsAmong}
use Rattle.ac_forms.specs.Negation.{HasExtension}
use Rattle.ac_forms.specs.Renaming.{picked, rows_renaming}
use Rattle.ac_forms.specs.Rows.{Meets, AreRowsOver, HaveModuli, IsWellMade}
use Rattle.ac_forms.specs.declared.conj.Conj.{Conj}
use Rattle.ac_forms.specs.declared.row.Row.{Row}
use Rattle.ac_sets.specs.Unions.{ArePieces}
use Rattle.ac_omega.specs.declared.piece.Piece.{Piece}
use Rattle.ac_syntax.specs.ReadyPrograms.{ReadyProgram, FitParts}
use Rattle.ac_syntax.specs.Source.{source}
use Rattle.ac_syntax.specs.declared.tree.Cond.{Cond}
use Rattle.ac_syntax.specs.declared.tree.Position.{Position}
use Rattle.ac_syntax.specs.declared.tree.Program.{Program}
use Rattle.ac_poly.specs.ModelMeaning.{values_at}
use Rattle.ac_poly.specs.Model.{model_of}
use Rattle.ac_poly.specs.declared.types.Model.{Model}
use Rattle.ac_poly.specs.declared.types.StmtModel.{StmtModel}
use Rattle.ac_poly.proofs.Whole.{has_context}
use Rattle.ac_omega_steps.specs.IntegerPoints.{IsPoint}
use Rattle.ac_omega_steps.proofs.Keeping.{Meets-append}
use Rattle.ac_base.proofs.Options.{bind-some, map-some, some-is}
use Rattle.ac_claims_paths.specs.PathColumns.{base, columns_of}
use Rattle.ac_claims_paths.specs.InstanceCoordinates.{width}
use Rattle.ac_claims_paths.specs.Executions.{At, execution}
use Rattle.ac_claims_paths.specs.WellFormedPaths.{IsFormed, LastIn, SourceIn}
use Rattle.ac_claims_paths.specs.PathSteps.{at_rows, case_rows, extended, root, seat_of}
use Rattle.ac_claims_paths.specs.CopyKills.{after_rows, case_columns, source_columns}
use Rattle.ac_claims_paths.specs.OnPaths.{LastAt, ReaderAt, SourceAt}
use Rattle.ac_claims_paths.specs.Pairs.{StandsOn}
use Rattle.ac_claims_paths.specs.ModelPositions.{cell_read, initial_of, levels_to}
use Rattle.ac_claims_paths.specs.declared.path.Assumed.{Assumed}
use Rattle.ac_claims_paths.specs.declared.path.Path.{Path}
use Rattle.ac_claims_paths.specs.declared.path.Seat.{Seat}
use Rattle.ac_claims_paths.specs.declared.path.Side.{Side}
use Rattle.ac_claims_paths.specs.declared.path.Side.TheVariants.{Left, Right}
use Rattle.ac_claims_paths.specs.declared.places.CellForms.{CellForms}
use Rattle.ac_claims_paths.proofs.InBranches.{in_either, made-wide}
use Rattle.ac_claims_paths.proofs.Kills.{case_says}
use Rattle.ac_claims_paths.proofs.Moving.{InColumns, made-both, meets-both, meets-parts, pick-append, rows-value, rows-within}
use Rattle.ac_claims_paths.proofs.OnPaths.{base_columns, formed_more, in-append, more_columns, pick_more, pick_new, range_in, seat_columns}
use Rattle.ac_claims_paths.proofs.ReadSteps.{case_meets, case_parts}
use Rattle.ac_flow.specs.FlowCases.{AreParts, Reads, remainder}
use Rattle.ac_flow.specs.Flows.{CasesAreSources, IsLeft, MeetsCase}
use Rattle.ac_flow.specs.Sources.{IsReading, IsSource}
use Rattle.ac_flow.specs.Writings.{alone, conj_of, reading, writing}
use Rattle.ac_flow.specs.declared.types.Case.{Case}
use Rattle.ac_flow.specs.declared.types.Flow.{Flow}
use Rattle.ac_flow.specs.declared.types.ReadFlow.{ReadFlow}
use Rattle.ac_flow.specs.declared.types.Remainder.{Remainder}
use Rattle.ac_flow.proofs.CopyParts.{block, parts_of}
use Rattle.ac_flow.proofs.Exact.{formed}
use Rattle.ac_flow.proofs.KillParts.{IsCase, OfWriting, OfContents}
use Rattle.ac_graph.specs.PairMoves.{pairing_of}
use Rattle.ac_graph.specs.GraphMeaning.{HaveFlows, IsCompared, LeftPlaced, RightPlaced, comparison}
use Rattle.ac_widen_programs.specs.PairPaths.{Unfolding, params_of, seats_of}
use Rattle.ac_widen_programs.specs.PairPathSteps.{at_rest, columns_left, flow_on, further, with_rest}
use Rattle.ac_widen_programs.proofs.Cases as cases
use Rattle.ac_widen_programs.proofs.Picks.{base_many, first_numbers, how_many}
use Rattle.ac_widen_programs.proofs.PairPathReads.{IsLeftAt, Known, gone_conj, gone_last, kind_of, pick_contents, pick_source, side_sources}

-- ---- the rows of a case

-- they hold where the source lies in its piece, writes the cell, and stands before the reader by its level
meets_case : (m : Model) (r : Reads) (case : Case) → IsCase m r case → (n : ℕ) (stmt : StmtModel) → case.source ≡ Some n → slice_get m.stmts n ≡ Some stmt → (cell : CellForms) → cell_read m r.position ≡ Some cell
    → (piece level : List Row) → slice_get stmt.pieces case.piece ≡ Some piece → slice_get (levels_to m n stmt r.position) case.level ≡ Some level → (v x z : List ℤ) → length v ≡ m.params → r.count ≡ length x → length z ≡ width stmt
    → Meets piece (v ++ z) → values_at (v ++ x) cell.subs ≡ values_at (v ++ z) stmt.subs → Meets level (v ++ (z ++ x)) → MeetsCase m r.position (length x) n case (v ++ (x ++ z))
meets_case m r case (OfContents h) n stmt source is cell ci piece level pi li v x z lv lx lz mp mc ml = let k : None ≡ Some n = sym h.source ∙ source in absurd cc
meets_case m r case (OfWriting w h) n stmt source is cell ci piece level pi li v x z lv lx lz mp mc ml =
    let p = v ++ (x ++ z) in
    let number : n ≡ w.stmt = some-is n w.stmt (sym source ∙ h.source) in
    let same : stmt ≡ h.stmt = some-is stmt h.stmt (sym is ∙ ap (slice_get m.stmts) number ∙ h.is) in
    let f = formed m r w h.stmt h.own (length x) h.is h.formed lx in
    let c = parts_of m r.position (length x) None (m.params + length x) w h.stmt h.own.rows f.rows in
    let reader : Seat = record { position = r.position; first = m.params; width = length x } in
    let copy = root (m.params + length x) w.stmt h.stmt in
    let cells : cell ≡ c.cell = some-is cell c.cell (sym ci ∙ c.read) in
    let pieces : piece ≡ c.piece = some-is piece c.piece (sym pi ∙ (λ i. slice_get (same i).pieces (h.piece i)) ∙ c.piece_is) in
    let levels : level ≡ c.level = some-is level c.level (sym li ∙ (λ i. slice_get (levels_to m (number i) (same i) r.position) (h.level i)) ∙ c.level_is) in
    let lvx : length (v ++ x) ≡ m.params + length x = length-append v x ∙ ap (λ (k : ℕ). k + length x) lv in
    let own : picked (columns_of copy) p ≡ z = ap (picked (columns_of copy)) (sym (append_assoc v x z)) ∙ pick_new (v ++ x) z (m.params + length x) (width h.stmt) lvx (lz ∙ ap width same) in
    let one = case_meets m.params v reader c.cell copy h.stmt c.piece c.level c.first p x z (case_parts m.params reader c.cell copy h.stmt c.piece c.level c.first c.case) (first_numbers m.params v (x ++ z) lv) (block v x z m.params (length x) lv refl) own
    (subst (λ (rs : List Row). Meets rs (v ++ z)) pieces mp) (ap (λ (y : CellForms). values_at (v ++ x) y.subs) (sym cells) ∙ mc ∙ ap (λ (y : StmtModel). values_at (v ++ z) y.subs) same) (subst (λ (rs : List Row). Meets rs (v ++ (z ++ x))) levels ml) in
    let none : [] ≡ c.second = some-is [] c.second (ap (λ (o : Option ℕ). after_rows (alone m) m None o w.stmt copy h.stmt) (sym f.after) ∙ c.later) in
    let all = subst (λ (rs : List Row). Meets rs p) (sym c.are) (meets-both c.first c.second p one (subst (λ (rs : List Row). Meets rs p) none tt)) in
    let numbers : writing n case.piece case.level None ≡ w = λ i. record { stmt = number i; piece = h.piece i; after = sym f.after i; before = h.level i } in
    record { own = h.own; formed = (λ i. conj_of m (reading m r.position (sym lx i) None) (numbers i)) ∙ h.formed; meets = all }

-- ---- the branch of a case

-- a read or an output of a program with its flow, at a point of the branch of one of its cases
record Branched (program : Program) (context : Cond) (params : List ℤ) (f : Flow) (n : ℕ) (side : Side) (q : Path) (case : Case) (p : List ℤ) : Type 0 where
  sources : CasesAreSources (model_of program context) f
  ready : ReadyProgram program
  fit : FitParts (length program.params) 0 context.parts
  each : length params ≡ length program.params
  met : Meets (model_of program context).context params
  params_are : (model_of program context).params ≡ n
  starts : picked (base n) p ≡ params
  read : ReadFlow
  among : IsAmong read f.reads
  read_is : read.position ≡ (seat_of q side).position
  case_among : IsAmong case read.cases
  reader : Reads
  kind : IsCase (model_of program context) reader case
  position_is : reader.position ≡ (seat_of q side).position
  count : reader.count ≡ (seat_of q side).width
  cell : CellForms
  cell_is : cell_read (model_of program context) (seat_of q side).position ≡ Some cell

-- the reading of a seat
reading_of : (program : Program) (context : Cond) (params : List ℤ) (f : Flow) (n : ℕ) (side : Side) (q : Path) (case : Case) (p : List ℤ) → (k : Branched program context params f n side q case p) → (r : ReaderAt (execution program (model_of program context) params) (seat_of q side) p)
    → IsReading (execution program (model_of program context) params) k.read.position (picked (columns_of (seat_of q side)) p) r.cell r.before
reading_of program context params f n side q case p k r =
    record { spot = r.spot; here = subst (λ (P : Position). At (execution program (model_of program context) params) P (picked (columns_of (seat_of q side)) p) r.spot) (sym k.read_is) r.here; reads = r.reads }

-- where its source stands on the branch, the case is left
source_left : (program : Program) (context : Cond) (params : List ℤ) (f : Flow) (n : ℕ) (side : Side) (q : Path) (case : Case) (p : List ℤ) → (k : Branched program context params f n side q case p) → (u : ℕ) (stmt : StmtModel) (piece level rows : List Row) → case.source ≡ Some u
    → slice_get (model_of program context).stmts u ≡ Some stmt → slice_get stmt.pieces case.piece ≡ Some piece → slice_get (levels_to (model_of program context) u stmt (seat_of q side).position) case.level ≡ Some level
    → case_rows n (seat_of q side) k.cell (root q.conj.columns u stmt) stmt piece level ≡ Some rows → Meets rows p
    → (r : ReaderAt (execution program (model_of program context) params) (seat_of q side) p) → SourceAt (execution program (model_of program context) params) (Some (root q.conj.columns u stmt)) p r.cell r.before
    → IsLeft case.pieces (picked (base n) p ++ (picked (columns_of (seat_of q side)) p ++ picked (columns_of (root q.conj.columns u stmt)) p))
source_left program context params f n side q case p k u stmt piece level rows source is pi li cr meets r s =
    let m = model_of program context in
    let here = seat_of q side in
    let seat = root q.conj.columns u stmt in
    let v = picked (base n) p in
    let x = picked (columns_of here) p in
    let z = picked (columns_of seat) p in
    let says = case_says n v here k.cell seat stmt piece level rows p x z (case_parts n here k.cell seat stmt piece level rows cr) refl refl refl meets in
    let cell = ap (cell_read m) k.position_is ∙ k.cell_is in
    let at_level = ap (λ (P : Position). slice_get (levels_to m u stmt P) case.level) k.position_is ∙ li in
    let met = meets_case m k.reader case k.kind u stmt source is k.cell cell piece level pi at_level v x z (base_many n p ∙ sym k.params_are) (k.count ∙ sym (how_many here p)) (how_many seat p) says.0 says.1 says.2 in
    let there = subst (λ (P : Position). MeetsCase m P (length x) u case (v ++ (x ++ z))) (k.position_is ∙ sym k.read_is) met in
    let found : IsSource (execution program m params) r.cell r.before u z = record { writer = s.0; found = s.1; instance = s.2 } in
    let c = (k.sources program context params k.ready k.fit refl k.each k.met k.read x r.cell r.before k.among (reading_of program context params f n side q case p k r)).0 case k.case_among in
    let left = (c.assigned u stmt z source is (how_many seat p)).1 (found, subst (λ (w : List ℤ). MeetsCase m k.read.position (length x) u case (w ++ (x ++ z))) k.starts there) in
    subst (λ (w : List ℤ). IsLeft case.pieces (w ++ (x ++ z))) (sym k.starts) left

-- so it is where no entry before writes the cell
contents_left : (program : Program) (context : Cond) (params : List ℤ) (f : Flow) (n : ℕ) (side : Side) (q : Path) (case : Case) (p : List ℤ) → (k : Branched program context params f n side q case p) → case.source ≡ None
    → (r : ReaderAt (execution program (model_of program context) params) (seat_of q side) p) → SourceAt (execution program (model_of program context) params) None p r.cell r.before
    → IsLeft case.pieces (picked (base n) p ++ picked (columns_of (seat_of q side)) p)
contents_left program context params f n side q case p k source r s =
    let x = picked (columns_of (seat_of q side)) p in
    let c = (k.sources program context params k.ready k.fit refl k.each k.met k.read x r.cell r.before k.among (reading_of program context params f n side q case p k r)).0 case k.case_among in
    subst (λ (w : List ℤ). IsLeft case.pieces (w ++ x)) (sym k.starts) ((c.initial source).1 s)

-- what is assumed last on the branch stands there
abbrev Assumes : Program → Cond → List ℤ → List ℤ → Option Assumed → Type 0
Assumes program context params p None = Unit {0}
Assumes program context params p (Some a) = (r : ReaderAt (execution program (model_of program context) params) a.reader p) × SourceAt (execution program (model_of program context) params) a.source p r.cell r.before

branch_left : (program : Program) (context : Cond) (params : List ℤ) (f : Flow) (n : ℕ) (side : Side) (q b : Path) (case : Case) (p : List ℤ) → (k : Branched program context params f n side q case p) → cases.IsBranch n (model_of program context) q side k.cell case b
    → Meets b.conj.rows p → Assumes program context params p b.last → (a : Assumed) → b.last ≡ Some a → IsLeft case.pieces (picked (case_columns n a) p)
branch_left program context params f n side q b case p k (cases.OfSource u stmt piece level rows source is pi li cr be) meets assumes a e =
    let here = seat_of q side in
    let seat = root q.conj.columns u stmt in
    let made : Assumed = record { side = side; reader = here; source = Some seat } in
    let last : b.last ≡ Some made = ap (λ (z : Path). z.last) be ∙ gone_last q side (extended q.conj (width stmt) rows) seat (Some made) in
    let same : made ≡ a = some-is made a (sym last ∙ e) in
    let conj : b.conj ≡ extended q.conj (width stmt) rows = ap (λ (y : Path). y.conj) be ∙ gone_conj q side (extended q.conj (width stmt) rows) seat (Some made) in
    let own = (meets-parts q.conj.rows rows p (subst (λ (y : Conj). Meets y.rows p) conj meets)).1 in
    let r = subst (Assumes program context params p) last assumes in
    let left = source_left program context params f n side q case p k u stmt piece level rows source is pi li cr own r.0 r.1 in
    subst (λ (y : Assumed). IsLeft case.pieces (picked (case_columns n y) p)) same (subst (IsLeft case.pieces) (sym (pick_source n side here seat p)) left)
branch_left program context params f n side q b case p k (cases.OfContents source be) meets assumes a e =
    let here = seat_of q side in
    let made : Assumed = record { side = side; reader = here; source = None } in
    let last : b.last ≡ Some made = ap (λ (z : Path). z.last) be ∙ gone_last q side q.conj (record { position = initial_of here.position; first = here.first; width = here.width }) (Some made) in
    let same : made ≡ a = some-is made a (sym last ∙ e) in
    let r = subst (Assumes program context params p) last assumes in
    let left = contents_left program context params f n side q case p k source r.0 r.1 in
    subst (λ (y : Assumed). IsLeft case.pieces (picked (case_columns n y) p)) same (subst (IsLeft case.pieces) (sym (pick_contents n side here p)) left)

-- ---- of a pair

-- what is assumed on a branch is assumed of the program on its side
left_assumed : (u : Unfolding) (params : List ℤ) (c : IsCompared u.pair params) (p : List ℤ) (n : ℕ) (q b : Path) (cell : CellForms) (case : Case) → cases.IsBranch n (pairing_of u.pair).left q Left cell case b → LastAt (comparison u.pair params c) b.last p → Assumes u.pair.left u.pair.context params p b.last
left_assumed u params c p n q b cell case (cases.OfSource k stmt piece level rows source is pi li cr be) at =
    let last = ap (λ (z : Path). z.last) be in subst (Assumes u.pair.left u.pair.context params p) (sym last) (subst (λ (o : Option Assumed). LastAt (comparison u.pair params c) o p) last at)
left_assumed u params c p n q b cell case (cases.OfContents source be) at =
    let last = ap (λ (z : Path). z.last) be in subst (Assumes u.pair.left u.pair.context params p) (sym last) (subst (λ (o : Option Assumed). LastAt (comparison u.pair params c) o p) last at)

right_assumed : (u : Unfolding) (params : List ℤ) (c : IsCompared u.pair params) (p : List ℤ) (n : ℕ) (q b : Path) (cell : CellForms) (case : Case) → cases.IsBranch n (pairing_of u.pair).right q Right cell case b → LastAt (comparison u.pair params c) b.last p → Assumes u.pair.right u.pair.context params p b.last
right_assumed u params c p n q b cell case (cases.OfSource k stmt piece level rows source is pi li cr be) at =
    let last = ap (λ (z : Path). z.last) be in subst (Assumes u.pair.right u.pair.context params p) (sym last) (subst (λ (o : Option Assumed). LastAt (comparison u.pair params c) o p) last at)
right_assumed u params c p n q b cell case (cases.OfContents source be) at =
    let last = ap (λ (z : Path). z.last) be in subst (Assumes u.pair.right u.pair.context params p) (sym last) (subst (λ (o : Option Assumed). LastAt (comparison u.pair params c) o p) last at)

pub left_there : (u : Unfolding) (left right : Flow) → HaveFlows u.pair left right → (side : Side) (q b : Path) (case : Case) → (k : Known u side (flow_on left right side) q case b) → k.reader.count ≡ (seat_of q side).width
    → (params : List ℤ) (c : IsCompared u.pair params) (p : List ℤ) (a : LeftPlaced u.pair params) (b' : RightPlaced u.pair params) → StandsOn (comparison u.pair params c) b p a b' → IsLeftAt u case b p
left_there u left right h Left q b case k count params c p a b' st o e =
    let pair = u.pair in
    branch_left pair.left pair.context params left (params_of u) Left q b case p
    (record {
      sources = side_sources u left right h Left;
      ready = h.paired.left;
      fit = h.paired.context;
      each = c.valuation.each;
      met = (has_context pair.left pair.context h.paired.context params c.valuation.each).1 c.valuation.context;
      params_are = refl;
      starts = st.on.starts;
      read = k.read;
      among = k.among;
      read_is = k.position_is;
      case_among = k.case_among;
      reader = k.reader;
      kind = kind_of u Left left q b case k;
      position_is = sym k.flow_is.0 ∙ k.position_is;
      count = count;
      cell = k.cell;
      cell_is = k.cell_is;
    }) k.branch st.on.point.meets (left_assumed u params c p (params_of u) q b k.cell case k.branch st.on.last) o e
left_there u left right h Right q b case k count params c p a b' st o e =
    let pair = u.pair in
    let fit = subst (λ (n : ℕ). FitParts n 0 pair.context.parts) (sym h.paired.params) h.paired.context in
    let each : length params ≡ length pair.right.params = c.valuation.each ∙ sym h.paired.params in
    branch_left pair.right pair.context params right (params_of u) Right q b case p
    (record {
      sources = side_sources u left right h Right;
      ready = h.paired.right;
      fit = fit;
      each = each;
      met = (has_context pair.right pair.context fit params each).1 c.valuation.context;
      params_are = h.paired.params;
      starts = st.on.starts;
      read = k.read;
      among = k.among;
      read_is = k.position_is;
      case_among = k.case_among;
      reader = k.reader;
      kind = kind_of u Right right q b case k;
      position_is = sym k.flow_is.0 ∙ k.position_is;
      count = count;
      cell = k.cell;
      cell_is = k.cell_is;
    }) k.branch st.on.point.meets (right_assumed u params c p (params_of u) q b k.cell case k.branch st.on.last) o e

-- ---- what is left

-- a point that is left lies in one of the pieces
pub some_rest : (pieces : List Remainder) (p : List ℤ) → IsLeft pieces p → (rest : Remainder) × IsAmong rest pieces × HasExtension rest.conj p
some_rest [] p h = absurd h
some_rest (x ∷ pieces) p (inl h) = (x, inl refl, h)
some_rest (x ∷ pieces) p (inr h) = let r = some_rest pieces p h in (r.0, inr r.1, r.2)

-- each of them is well made
group_made : (n d : ℕ) (group : List Conj) → ArePieces n group → (rest : Remainder) → IsAmong rest (map (remainder d) group) → IsWellMade rest.conj
group_made n d [] a rest i = absurd i
group_made n d (c ∷ group) a rest (inl e) = subst (λ (x : Remainder). IsWellMade x.conj) (sym e) a.1
group_made n d (c ∷ group) a rest (inr i) = group_made n d group a.2 rest i

parts_made : (m : Model) (columns : ℕ) (rows : List Row) (kills : List (List Piece)) (d : ℕ) (qs : List (List Row)) (rs : List Remainder) → AreParts m columns rows kills d qs rs → (rest : Remainder) → IsAmong rest rs → IsWellMade rest.conj
parts_made m columns rows kills d [] rs e rest i = absurd (subst (IsAmong rest) e i)
parts_made m columns rows kills d (q ∷ qs) rs (group, more, e, c, h) rest i =
    elim (in_either rest (map (remainder d) group) more (subst (IsAmong rest) e i)) [ inl j ↦ group_made columns d group c.made rest j | inr j ↦ parts_made m columns rows kills (suc d) qs more h rest j ]

pub rests_made : (m : Model) (r : Reads) (case : Case) → IsCase m r case → (rest : Remainder) → IsAmong rest case.pieces → IsWellMade rest.conj
rests_made m r case (OfWriting w h) rest i = parts_made m h.own.columns h.own.rows h.case_of.found 0 r.pieces case.pieces h.case_of.parts rest i
rests_made m r case (OfContents h) rest i = parts_made m (m.params + r.count) [] h.case_of.found 0 r.pieces case.pieces h.case_of.parts rest i

moduli_over : (n : ℕ) (rows : List Row) → AreRowsOver n rows → HaveModuli rows
moduli_over n [] h = tt
moduli_over n (r ∷ rows) h = (h.0.1, moduli_over n rows h.1)

-- the columns of a case are those of its branch
source_in : (o : Option Seat) (n : ℕ) → SourceIn o n → InColumns (source_columns o) n
source_in None n i = tt
source_in (Some seat) n i = seat_columns seat n i

case_in : (params n : ℕ) (a : Assumed) → params ≤ n → LastIn (Some a) n → InColumns (case_columns params a) n
case_in params n a base_in i = in-append (base params) (columns_of a.reader ++ source_columns a.source) n (base_columns params n base_in) (in-append (columns_of a.reader) (source_columns a.source) n (seat_columns a.reader n i.0) (source_in a.source n i.1))

-- a question at what is left of a case
pub record AtRest (n : ℕ) (b : Path) (p : List ℤ) (d : Path) : Type 0 where
  pub seats : seats_of d ≡ seats_of b
  pub gone : d.gone ≡ b.gone
  pub formed : IsFormed n d
  pub more : List ℤ
  pub point : IsPoint d.conj (p ++ more)

-- it has each point of the branch that lies there
pub rest_there : (n : ℕ) (b d : Path) (rest : Conj) (p : List ℤ) → IsFormed n b → IsPoint b.conj p → IsWellMade rest → ((a : Assumed) → b.last ≡ Some a → HasExtension rest (picked (case_columns n a) p)) → at_rest n b rest ≡ Some d → AtRest n b p d
rest_there n b d rest p i point made has e =
    let w = bind-some b.last (with_rest n b rest) d e in
    let a = w.0 in
    let ks = case_columns n a in
    let more = further n a rest in
    let ls = range_with_len b.conj.columns more in
    let z = map-some (rows_renaming (columns_left n a b.conj.columns rest) rest.rows) (λ rows. at_rows b (extended b.conj more rows)) d w.2 in
    let x = has a w.1 in
    let last : LastIn (Some a) b.conj.columns = subst (λ (o : Option Assumed). LastIn o b.conj.columns) w.1 i.last_in in
    let inside = case_in n b.conj.columns a i.base_in last in
    let many : length (picked ks p) ≡ length ks = length-map ks (λ k. slice_index_or p k (pos 0)) in
    let lx : length x.0 ≡ rest.columns - length ks = (let l = x.1 in omega (arith, l, many, length-append (picked ks p) x.0)) in
    let first : picked ks (p ++ x.0) ≡ picked ks p = pick_more ks p x.0 b.conj.columns point.long inside in
    let second : picked ls (p ++ x.0) ≡ x.0 = pick_new p x.0 b.conj.columns more point.long lx in
    let all : picked (ks ++ ls) (p ++ x.0) ≡ picked ks p ++ x.0 = pick-append ks ls (p ++ x.0) ∙ (λ j. first j ++ second j) in
    let own : Meets z.0 (p ++ x.0) = (rows-value (ks ++ ls) rest.rows z.0 (p ++ x.0) z.1).1 (subst (Meets rest.rows) (sym all) x.2) in
    let before : Meets b.conj.rows (p ++ x.0) = (let l = point.long in Meets-append b.conj.rows b.conj.columns p x.0 (omega (arith, l)) i.made point.meets) in
    let wide : length (p ++ x.0) ≡ b.conj.columns + more = length-append p x.0 ∙ (λ j. point.long j + lx j) in
    let columns : InColumns (ks ++ ls) (b.conj.columns + more) = in-append ks ls (b.conj.columns + more) (more_columns ks b.conj.columns (b.conj.columns + more) (omega arith) inside) (range_in b.conj.columns more (b.conj.columns + more) (omega arith)) in
    let rows : AreRowsOver (b.conj.columns + more) (b.conj.rows ++ z.0) =
    made-both (b.conj.columns + more) b.conj.rows z.0 (made-wide b.conj.rows b.conj.columns (b.conj.columns + more) (omega arith) i.made) (rows-within (ks ++ ls) rest.rows z.0 (b.conj.columns + more) columns (moduli_over rest.columns rest.rows made) z.1) in
    record {
      seats = ap seats_of z.2;
      gone = ap (λ (y : Path). y.gone) z.2;
      formed = subst (IsFormed n) (sym z.2) (formed_more n b (extended b.conj more z.0) i rows (omega arith));
      more = x.0;
      point = subst (λ (y : Path). IsPoint y.conj (p ++ x.0)) (sym z.2) (record { long = wide; meets = meets-both b.conj.rows z.0 (p ++ x.0) before own });
    }
