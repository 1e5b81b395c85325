-- A pair path goes on at each point of the branch of a case where none of its kills holds.
use Rattle.std.proofs.Common.{◌≡◌, ◌≤◌, ℕ, ◌+◌, ℤ, List, [], ◌++◌, length, Option, Some, None, refl, sym, ap, ◌∙◌, subst, arith, append_assoc, length-append}
use Rattle.std.specs.Prelude.{slice_get}
use Rattle.ac_forms.specs.Renaming.{picked}
use Rattle.ac_forms.specs.Rows.{Meets}
use Rattle.ac_forms.specs.declared.conj.Conj.{Conj}
use Rattle.ac_forms.specs.declared.row.Row.{Row}
use Rattle.ac_syntax.specs.ReadyPrograms.{FitParts}
use Rattle.ac_syntax.specs.declared.tree.Cond.{Cond}
use Rattle.ac_syntax.specs.declared.tree.Position.{Position}
use Rattle.ac_syntax.specs.declared.tree.Program.{Program}
use Rattle.ac_poly.specs.ModelMeaning.{values_at}
use Rattle.ac_poly.specs.Model.{model_of}
use Rattle.ac_poly.specs.declared.types.Model.{Model}
use Rattle.ac_poly.specs.declared.types.StmtModel.{StmtModel}
use Rattle.ac_poly.proofs.Whole.{has_context}
use Rattle.ac_base.proofs.Options.{some-is}
use Rattle.ac_claims_paths.specs.PathColumns.{base, columns_of}
use Rattle.ac_claims_paths.specs.InstanceCoordinates.{width}
use Rattle.ac_claims_paths.specs.Executions.{At, execution}
use Rattle.ac_claims_paths.specs.PathSteps.{extended, root, seat_of}
use Rattle.ac_claims_paths.specs.PathSteps as going
use Rattle.ac_claims_paths.specs.CopyKills.{after_rows, case_columns}
use Rattle.ac_claims_paths.specs.Pairs.{Placed}
use Rattle.ac_forms.specs.ListMembers.{IsAmong}
use Rattle.ac_claims_paths.specs.ModelPositions.{cell_read, initial_of, levels_to}
use Rattle.ac_claims_paths.specs.declared.path.Assumed.{Assumed}
use Rattle.ac_claims_paths.specs.declared.path.Path.{Path}
use Rattle.ac_claims_paths.specs.declared.path.Seat.{Seat}
use Rattle.ac_claims_paths.specs.declared.path.Side.{Side}
use Rattle.ac_claims_paths.specs.declared.path.Side.TheVariants.{Left, Right}
use Rattle.ac_claims_paths.specs.declared.places.CellForms.{CellForms}
use Rattle.ac_claims_paths.proofs.Moving.{meets-both, meets-parts}
use Rattle.ac_claims_paths.proofs.OnPaths.{pick_new}
use Rattle.ac_claims_paths.proofs.ReadSteps.{case_meets, case_parts}
use Rattle.ac_flow.specs.FlowCases.{Reads}
use Rattle.ac_flow.specs.Flows.{CasesAreSources, IsLeft, MeetsCase}
use Rattle.ac_flow.specs.Sources.{IsReading}
use Rattle.ac_flow.specs.Writings.{alone, reading, writing, conj_of}
use Rattle.ac_flow.specs.declared.types.Case.{Case}
use Rattle.ac_flow.specs.declared.types.Flow.{Flow}
use Rattle.ac_flow.specs.declared.types.ReadFlow.{ReadFlow}
use Rattle.ac_flow.specs.declared.types.Remainder.{Remainder}
use Rattle.ac_flow.proofs.CopyParts.{block, parts_of}
use Rattle.ac_claims_paths.proofs.Kills.{case_says}
use Rattle.ac_flow.proofs.Exact.{formed}
use Rattle.ac_flow.specs.SourceSteps.{InNoKill, IsReadOf}
use Rattle.ac_flow.proofs.KillParts.{IsCase, OfWriting, OfContents}
use Rattle.ac_flow.proofs.Readings.{from_root, from_start}
use Rattle.ac_flow.proofs.Stepping.{cases_are_steps}
use Rattle.ac_graph.specs.PairMoves.{pairing_of}
use Rattle.ac_graph.specs.GraphMeaning.{HaveFlows}
use Rattle.ac_widen_programs.specs.PairPaths.{Unfolding, ComesTo, Leads, StandThere, params_of, seats_of}
use Rattle.ac_widen_programs.specs.PairPathSteps.{IsOutside, SurvivorsAreLeft, SurvivorsLead, flow_on}
use Rattle.ac_widen_programs.proofs.Cases as cases
use Rattle.ac_widen_programs.proofs.Picks.{base_many, first_numbers, how_many}
use Rattle.ac_widen_programs.proofs.PairPathReads.{IsLeftAt, Known, branch_grows, goes_to_left, gone_conj, gone_last, kind_of, known, pick_contents, pick_source, reader_width, side_sources}

-- ---- the rows of a case

-- they hold where the source lies in its piece, writes the cell, and stands before the reader by its level
meets_case : (m : Model) (r : Reads) (case : Case) → IsCase m r case → (n : ℕ) (stmt : StmtModel) → case.source ≡ Some n → slice_get m.stmts n ≡ Some stmt → (cell : CellForms) → cell_read m r.position ≡ Some cell
    → (piece level : List Row) → slice_get stmt.pieces case.piece ≡ Some piece → slice_get (levels_to m n stmt r.position) case.level ≡ Some level → (v x z : List ℤ) → length v ≡ m.params → r.count ≡ length x → length z ≡ width stmt
    → Meets piece (v ++ z) → values_at (v ++ x) cell.subs ≡ values_at (v ++ z) stmt.subs → Meets level (v ++ (z ++ x)) → MeetsCase m r.position (length x) n case (v ++ (x ++ z))
meets_case m r case (OfContents h) n stmt source is cell ci piece level pi li v x z lv lx lz mp mc ml = let k : None ≡ Some n = sym h.source ∙ source in absurd cc
meets_case m r case (OfWriting w h) n stmt source is cell ci piece level pi li v x z lv lx lz mp mc ml =
    let p = v ++ (x ++ z) in
    let number : n ≡ w.stmt = some-is n w.stmt (sym source ∙ h.source) in
    let same : stmt ≡ h.stmt = some-is stmt h.stmt (sym is ∙ ap (slice_get m.stmts) number ∙ h.is) in
    let f = formed m r w h.stmt h.own (length x) h.is h.formed lx in
    let c = parts_of m r.position (length x) None (m.params + length x) w h.stmt h.own.rows f.rows in
    let reader : Seat = record { position = r.position; first = m.params; width = length x } in
    let copy = root (m.params + length x) w.stmt h.stmt in
    let cells : cell ≡ c.cell = some-is cell c.cell (sym ci ∙ c.read) in
    let pieces : piece ≡ c.piece = some-is piece c.piece (sym pi ∙ (λ i. slice_get (same i).pieces (h.piece i)) ∙ c.piece_is) in
    let levels : level ≡ c.level = some-is level c.level (sym li ∙ (λ i. slice_get (levels_to m (number i) (same i) r.position) (h.level i)) ∙ c.level_is) in
    let lvx : length (v ++ x) ≡ m.params + length x = length-append v x ∙ ap (λ (k : ℕ). k + length x) lv in
    let own : picked (columns_of copy) p ≡ z = ap (picked (columns_of copy)) (sym (append_assoc v x z)) ∙ pick_new (v ++ x) z (m.params + length x) (width h.stmt) lvx (lz ∙ ap width same) in
    let one = case_meets m.params v reader c.cell copy h.stmt c.piece c.level c.first p x z (case_parts m.params reader c.cell copy h.stmt c.piece c.level c.first c.case) (first_numbers m.params v (x ++ z) lv) (block v x z m.params (length x) lv refl) own
    (subst (λ (rs : List Row). Meets rs (v ++ z)) pieces mp) (ap (λ (y : CellForms). values_at (v ++ x) y.subs) (sym cells) ∙ mc ∙ ap (λ (y : StmtModel). values_at (v ++ z) y.subs) same) (subst (λ (rs : List Row). Meets rs (v ++ (z ++ x))) levels ml) in
    let none : [] ≡ c.second = some-is [] c.second (ap (λ (o : Option ℕ). after_rows (alone m) m None o w.stmt copy h.stmt) (sym f.after) ∙ c.later) in
    let all = subst (λ (rs : List Row). Meets rs p) (sym c.are) (meets-both c.first c.second p one (subst (λ (rs : List Row). Meets rs p) none tt)) in
    let numbers : writing n case.piece case.level None ≡ w = λ i. record { stmt = number i; piece = h.piece i; after = sym f.after i; before = h.level i } in
    record { own = h.own; formed = (λ i. conj_of m (reading m r.position (sym lx i) None) (numbers i)) ∙ h.formed; meets = all }

-- ---- a read that no kill of a case holds

reading_here : (p : Program) (context : Cond) (params : List ℤ) (r : Reads) (read : ReadFlow) (a : Placed (execution p (model_of p context) params)) (h : IsReadOf p context params r read a) → At (execution p (model_of p context) params) read.position a.at a.spot
reading_here p context params r read a h = subst (λ (P : Position). At (execution p (model_of p context) params) P a.at a.spot) (h.position_is ∙ sym h.is.0) a.here

source_left : (p : Program) (context : Cond) (params : List ℤ) (r : Reads) (read : ReadFlow) (a : Placed (execution p (model_of p context) params)) → IsReadOf p context params r read a → (f : Flow) → CasesAreSources (model_of p context) f → IsAmong read f.reads
    → (case : Case) → IsAmong case read.cases → (n : ℕ) (stmt : StmtModel) (ys : List ℤ) → case.source ≡ Some n → slice_get (model_of p context).stmts n ≡ Some stmt → length ys ≡ width stmt → MeetsCase (model_of p context) r.position (length a.at) n case (params ++ (a.at ++ ys))
    → InNoKill case.kills (params ++ (a.at ++ ys)) → IsLeft case.pieces (params ++ (a.at ++ ys))
source_left p context params r read a h f sources among case i n stmt ys source is wide meets outside =
    let m = model_of p context in
    let x = execution p m params in
    let here = subst (λ (P : Position). MeetsCase m P (length a.at) n case (params ++ (a.at ++ ys))) (sym h.position_is) meets in
    let goes = ((cases_are_steps p context params r read a h case i).assigned n ys (record { source = source; stmt = stmt; is = is; wide = wide; meets = here })).1 outside in
    let s = from_root x a n ys goes in
    let rd : IsReading x read.position a.at s.cell s.before = record { spot = a.spot; here = reading_here p context params r read a h; reads = s.reads } in
    let c = (sources p context params h.ready h.fit refl h.each h.meets read a.at s.cell s.before among rd).0 case i in
    (c.assigned n stmt ys source is wide).1 (s.source_is, subst (λ (P : Position). MeetsCase m P (length a.at) n case (params ++ (a.at ++ ys))) (sym h.is.0) meets)

contents_left : (p : Program) (context : Cond) (params : List ℤ) (r : Reads) (read : ReadFlow) (a : Placed (execution p (model_of p context) params)) → IsReadOf p context params r read a → (f : Flow) → CasesAreSources (model_of p context) f → IsAmong read f.reads
    → (case : Case) → IsAmong case read.cases → case.source ≡ None → InNoKill case.kills (params ++ a.at) → IsLeft case.pieces (params ++ a.at)
contents_left p context params r read a h f sources among case i source outside =
    let m = model_of p context in
    let x = execution p m params in
    let goes = ((cases_are_steps p context params r read a h case i).initial source).1 outside in
    let s = from_start x a goes in
    let rd : IsReading x read.position a.at s.cell s.before = record { spot = a.spot; here = reading_here p context params r read a h; reads = s.reads } in
    let c = (sources p context params h.ready h.fit refl h.each h.meets read a.at s.cell s.before among rd).0 case i in
    (c.initial source).1 s.none

-- ---- the branch of a case

-- a read or an output of a program with its flow, at a point of a path, and the branch of one of its cases
record Branched (program : Program) (context : Cond) (f : Flow) (n : ℕ) (side : Side) (q b : Path) (case : Case) (p : List ℤ) : Type 0 where
  sources : CasesAreSources (model_of program context) f
  params_are : (model_of program context).params ≡ n
  read : ReadFlow
  among : IsAmong read f.reads
  case_among : IsAmong case read.cases
  reader : Reads
  a : Placed (execution program (model_of program context) (picked (base n) p))
  is : IsReadOf program context (picked (base n) p) reader read a
  kind : IsCase (model_of program context) reader case
  position_is : reader.position ≡ (seat_of q side).position
  at_is : a.at ≡ picked (columns_of (seat_of q side)) p
  count : reader.count ≡ (seat_of q side).width
  cell : CellForms
  cell_is : cell_read (model_of program context) (seat_of q side).position ≡ Some cell

-- where no kill of the case holds, it is left
outside_left : (program : Program) (context : Cond) (f : Flow) (n : ℕ) (side : Side) (q b : Path) (case : Case) (p : List ℤ) → (k : Branched program context f n side q b case p) → cases.IsBranch n (model_of program context) q side k.cell case b
    → Meets b.conj.rows p → (a : Assumed) → b.last ≡ Some a → InNoKill case.kills (picked (case_columns n a) p) → IsLeft case.pieces (picked (case_columns n a) p)
outside_left program context f n side q b case p k (cases.OfSource u stmt piece level rows source is pi li cr be) meets a e outside =
    let m = model_of program context in
    let here = seat_of q side in
    let seat = root q.conj.columns u stmt in
    let made : Assumed = record { side = side; reader = here; source = Some seat } in
    let same : made ≡ a = some-is made a (sym (gone_last q side (extended q.conj (width stmt) rows) seat (Some made)) ∙ ap (λ (z : Path). z.last) (sym be) ∙ e) in
    let v = picked (base n) p in
    let x = picked (columns_of here) p in
    let z = picked (columns_of seat) p in
    let conj : b.conj ≡ extended q.conj (width stmt) rows = ap (λ (y : Path). y.conj) be ∙ gone_conj q side (extended q.conj (width stmt) rows) seat (Some made) in
    let own = (meets-parts q.conj.rows rows p (subst (λ (y : Conj). Meets y.rows p) conj meets)).1 in
    let says = case_says n v here k.cell seat stmt piece level rows p x z (case_parts n here k.cell seat stmt piece level rows cr) refl refl refl own in
    let cell = ap (cell_read m) k.position_is ∙ k.cell_is in
    let at_level = ap (λ (P : Position). slice_get (levels_to m u stmt P) case.level) k.position_is ∙ li in
    let met = meets_case m k.reader case k.kind u stmt source is k.cell cell piece level pi at_level v x z (base_many n p ∙ sym k.params_are) (k.count ∙ sym (how_many here p)) (how_many seat p) says.0 says.1 says.2 in
    let there = subst (λ (y : List ℤ). MeetsCase m k.reader.position (length y) u case (v ++ (y ++ z))) (sym k.at_is) met in
    let free = subst (λ (y : List ℤ). InNoKill case.kills (v ++ (y ++ z))) (sym k.at_is) (subst (InNoKill case.kills) (pick_source n side here seat p) (subst (λ (y : Assumed). InNoKill case.kills (picked (case_columns n y) p)) (sym same) outside)) in
    let left = source_left program context v k.reader k.read k.a k.is f k.sources k.among case k.case_among u stmt z source is (how_many seat p) there free in
    subst (λ (y : Assumed). IsLeft case.pieces (picked (case_columns n y) p)) same (subst (IsLeft case.pieces) (sym (pick_source n side here seat p)) (subst (λ (y : List ℤ). IsLeft case.pieces (v ++ (y ++ z))) k.at_is left))
outside_left program context f n side q b case p k (cases.OfContents source be) meets a e outside =
    let here = seat_of q side in
    let made : Assumed = record { side = side; reader = here; source = None } in
    let same : made ≡ a = some-is made a (sym (gone_last q side q.conj (record { position = initial_of here.position; first = here.first; width = here.width }) (Some made)) ∙ ap (λ (z : Path). z.last) (sym be) ∙ e) in
    let v = picked (base n) p in
    let free = subst (λ (y : List ℤ). InNoKill case.kills (v ++ y)) (sym k.at_is) (subst (InNoKill case.kills) (pick_contents n side here p) (subst (λ (y : Assumed). InNoKill case.kills (picked (case_columns n y) p)) (sym same) outside)) in
    let left = contents_left program context v k.reader k.read k.a k.is f k.sources k.among case k.case_among source free in
    subst (λ (y : Assumed). IsLeft case.pieces (picked (case_columns n y) p)) same (subst (IsLeft case.pieces) (sym (pick_contents n side here p)) (subst (λ (y : List ℤ). IsLeft case.pieces (v ++ y)) k.at_is left))

-- ---- at a point

left_outside : (u : Unfolding) (left right : Flow) → HaveFlows u.pair left right → (side : Side) (q b : Path) (case : Case) (p : List ℤ) → Known u side (flow_on left right side) q case b → StandThere u p (seats_of q) → Meets b.conj.rows p → IsOutside u case b p → IsLeftAt u case b p
left_outside u left right h Left q b case p k s meets outside a e =
    let pair = u.pair in
    let v = picked (base (params_of u)) p in
    let position : k.reader.position ≡ q.left.position = sym k.flow_is.0 ∙ k.position_is in
    let met = (has_context pair.left pair.context h.paired.context v s.compared.valuation.each).1 s.compared.valuation.context in
    outside_left pair.left pair.context left (params_of u) Left q b case p
    (record {
      sources = side_sources u left right h Left;
      params_are = refl;
      read = k.read;
      among = k.among;
      case_among = k.case_among;
      reader = k.reader;
      a = s.a;
      is = record { ready = h.paired.left; fit = h.paired.context; each = s.compared.valuation.each; meets = met; among = k.reader_among; is = k.flow_is; position_is = s.left_is ∙ sym position };
      kind = kind_of u Left left q b case k;
      position_is = position;
      at_is = s.left_at_is;
      count = sym (reader_width u Left left q b case p k s);
      cell = k.cell;
      cell_is = k.cell_is;
    }) k.branch meets a e (outside a e)
left_outside u left right h Right q b case p k s meets outside a e =
    let pair = u.pair in
    let v = picked (base (params_of u)) p in
    let position : k.reader.position ≡ q.right.position = sym k.flow_is.0 ∙ k.position_is in
    let fit = subst (λ (n : ℕ). FitParts n 0 pair.context.parts) (sym h.paired.params) h.paired.context in
    let each : length v ≡ length pair.right.params = s.compared.valuation.each ∙ sym h.paired.params in
    let met = (has_context pair.right pair.context fit v each).1 s.compared.valuation.context in
    outside_left pair.right pair.context right (params_of u) Right q b case p
    (record {
      sources = side_sources u left right h Right;
      params_are = h.paired.params;
      read = k.read;
      among = k.among;
      case_among = k.case_among;
      reader = k.reader;
      a = s.b;
      is = record { ready = h.paired.right; fit = fit; each = each; meets = met; among = k.reader_among; is = k.flow_is; position_is = s.right_is ∙ sym position };
      kind = kind_of u Right right q b case k;
      position_is = position;
      at_is = s.right_at_is;
      count = sym (reader_width u Right right q b case p k s);
      cell = k.cell;
      cell_is = k.cell_is;
    }) k.branch meets a e (outside a e)

-- a branch of a case assumes something
assumed_there : (n : ℕ) (m : Model) (q : Path) (side : Side) (cell : CellForms) (case : Case) (b : Path) → cases.IsBranch n m q side cell case b → (a : Assumed) × (b.last ≡ Some a)
assumed_there n m q side cell case b (cases.OfSource u stmt piece level rows source is pi li cr be) =
    let seat = root q.conj.columns u stmt in
    let made : Assumed = record { side = side; reader = seat_of q side; source = Some seat } in
    (made, ap (λ (z : Path). z.last) be ∙ gone_last q side (extended q.conj (width stmt) rows) seat (Some made))
assumed_there n m q side cell case b (cases.OfContents source be) =
    let here = seat_of q side in
    let made : Assumed = record { side = side; reader = here; source = None } in
    (made, ap (λ (z : Path). z.last) be ∙ gone_last q side q.conj (record { position = initial_of here.position; first = here.first; width = here.width }) (Some made))

-- the pair path comes to the question that was branched on
comes_before : (u : Unfolding) (pair_path : List (Seat × Seat)) (left right : Flow) (side : Side) (q b : Path) (case : Case) → HaveFlows u.pair left right → Leads u pair_path q → Known u side (flow_on left right side) q case b
    → (p : List ℤ) → b.conj.columns ≤ length p → Meets b.conj.rows p → ComesTo u pair_path q p
comes_before u pair_path left right side q b case h leads k p long meets =
    let grown = branch_grows (params_of u) (going.model_of (pairing_of u.pair) side) q side k.cell case b p k.branch in
    leads p (let g = grown.0 in omega (arith, g, long)) (grown.1 meets)

pub survivors_lead : SurvivorsLead
survivors_lead u pair_path left right side q b case h leads i p long meets outside =
    let k = known u left right h side q b case i in
    let to = comes_before u pair_path left right side q b case h leads k p long meets in
    goes_to_left u pair_path left right h side q b case k i.reads p to (left_outside u left right h side q b case p k to.here meets outside)

pub survivors_are_left : SurvivorsAreLeft
survivors_are_left u pair_path left right side q b case h leads i p long meets outside none =
    let k = known u left right h side q b case i in
    let to = comes_before u pair_path left right side q b case h leads k p long meets in
    let a = assumed_there (params_of u) (going.model_of (pairing_of u.pair) side) q side k.cell case b k.branch in
    subst (λ (rs : List Remainder). IsLeft rs (picked (case_columns (params_of u) a.0) p)) none (left_outside u left right h side q b case p k to.here meets outside a.0 a.1)
