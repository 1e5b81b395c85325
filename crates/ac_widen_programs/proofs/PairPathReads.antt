-- A pair path goes on at what is left of a case of a read or an output.
use Rattle.std.proofs.Common.{◌≡◌, inl, inr, ℕ, zero, suc, ◌+◌, ◌-◌, ◌≤◌, ℤ, List, [], ◌∷◌, ◌++◌, map, length, Option, Some, None, refl, sym, ap, ◌∙◌, subst, arith, append-nil, length-append}
use Rattle.std.specs.Prelude.{slice_get, slice_index_or, is_some, pos, option_and_then, option_map}
use Rattle.std.specs.List.{range_with_len}
use Rattle.std.proofs.lemmas.List.{length-map}
use Rattle.std.proofs.lemmas.List.FromFn.{length-map-range_with_len}
use Rattle.ac_forms.specs.Affine.{Affine}
use Rattle.ac_forms.specs.Negation.{HasExtension}
use Rattle.ac_forms.specs.Renaming.{picked, rows_renaming}
use Rattle.ac_forms.specs.Rows.{Meets}
use Rattle.ac_forms.specs.declared.conj.Conj.{Conj}
use Rattle.ac_forms.specs.declared.row.Row.{Row}
use Rattle.ac_sets.specs.Unions.{ArePieces}
use Rattle.ac_omega.specs.declared.piece.Piece.{Piece}
use Rattle.ac_syntax.specs.ReadyPrograms.{FitParts}
use Rattle.ac_syntax.specs.declared.tree.Order.TheVariants.{Keep}
use Rattle.ac_syntax.specs.declared.tree.Position.TheVariants.{Node}
use Rattle.ac_poly.specs.Model.{model_of}
use Rattle.ac_poly.specs.declared.types.Model.{Model}
use Rattle.ac_poly.specs.declared.types.StmtModel.{StmtModel}
use Rattle.ac_poly.proofs.Whole.{has_context}
use Rattle.ac_base.proofs.Options.{bind-some, map-some, some-is}
use Rattle.ac_claims.specs.Soundness.{ArePaired}
use Rattle.ac_claims_paths.specs.PathColumns.{base, columns_of}
use Rattle.ac_claims_paths.specs.InstanceCoordinates.{width}
use Rattle.ac_claims_paths.specs.Executions.{execution}
use Rattle.ac_claims_paths.specs.PathSteps.{branches, branches_by, extended, gone_to, initial_path, at_rows, read_branches, root, seat_of}
use Rattle.ac_claims_paths.specs.PathSteps as going
use Rattle.ac_claims_paths.specs.CopyKills.{case_columns}
use Rattle.ac_forms.specs.ListMembers.{IsAmong}
use Rattle.ac_claims_paths.specs.ModelPositions.{cell_read, element_forms, initial_of, read_of}
use Rattle.ac_claims_paths.specs.declared.path.Assumed.{Assumed}
use Rattle.ac_claims_paths.specs.declared.path.Path.{Path}
use Rattle.ac_claims_paths.specs.declared.path.Seat.{Seat}
use Rattle.ac_claims_paths.specs.declared.path.Side.{Side}
use Rattle.ac_claims_paths.specs.declared.path.Side.TheVariants.{Left, Right}
use Rattle.ac_claims_paths.specs.declared.places.CellForms.{CellForms}
use Rattle.ac_claims_paths.proofs.InBranches.{in_either}
use Rattle.ac_claims_paths.proofs.Moving.{meets-parts, pick-append, rows-value}
use Rattle.ac_flow.specs.FlowCases.{Reads, AreParts, remainder}
use Rattle.ac_flow.specs.Flows.{CasesAreSources, IsLeft}
use Rattle.ac_flow.specs.Readers.{AreFlows, IsFlowOf, readers}
use Rattle.ac_flow.specs.declared.types.Case.{Case}
use Rattle.ac_flow.specs.declared.types.Flow.{Flow}
use Rattle.ac_flow.specs.declared.types.ReadFlow.{ReadFlow}
use Rattle.ac_flow.specs.declared.types.Remainder.{Remainder}
use Rattle.ac_flow.specs.Writings.{writings}
use Rattle.ac_flow.proofs.Exact.{formed}
use Rattle.ac_flow.proofs.FlowSources.{flow_sources}
use Rattle.ac_flow.proofs.Linking.{IsReader, OfNode, OfOutput, is_reader}
use Rattle.ac_flow.proofs.Overs.{is_over}
use Rattle.ac_flow.proofs.InPieces.{flows_of_readers}
use Rattle.ac_flow.proofs.KillParts.{IsCase, OfWriting, OfContents, case_in}
use Rattle.ac_graph.specs.PairMoves.{pairing_of}
use Rattle.ac_graph.specs.GraphMeaning.{HaveFlows}
use Rattle.ac_widen_programs.specs.PairSetting.{coordinate_count, counter_count, extent_count}
use Rattle.ac_widen_programs.proofs.PositionModels.{at_width, reads_there}
use Rattle.ac_widen_programs.specs.FlowTargets.{LeadsTo}
use Rattle.ac_widen_programs.proofs.Sourcing.{goes_where_led}
use Rattle.ac_widen_programs.proofs.Stepping.{left_steps, right_steps}
use Rattle.ac_widen_programs.specs.PairPaths.{Unfolding, ComesTo, StandThere, params_of, positions_of, seats_of}
use Rattle.ac_widen_programs.specs.PairPathSteps.{ReadsOn, IsBranchOf, ReadsLead, columns_left, flow_on, further, onward, with_rest}
use Rattle.ac_widen_programs.proofs.Calling.{own_models, step_there}
use Rattle.ac_widen_programs.proofs.Cases as cases
use Rattle.ac_widen_programs.proofs.Picks.{base_many, how_many, pick_pair}
use Rattle.ac_widen_programs.proofs.Trails.{Step, goes_on, same_seats}

-- ---- the columns of what is left of a case

group_wide : (n d : ℕ) (group : List Conj) → ArePieces n group → (rest : Remainder) → IsAmong rest (map (remainder d) group) → n ≤ rest.conj.columns
group_wide n d [] a rest i = absurd i
group_wide n d (c ∷ group) a rest (inl e) = subst (λ (x : Remainder). n ≤ x.conj.columns) (sym e) a.0
group_wide n d (c ∷ group) a rest (inr i) = group_wide n d group a.2 rest i

parts_wide : (m : Model) (columns : ℕ) (rows : List Row) (kills : List (List Piece)) (d : ℕ) (qs : List (List Row)) (rs : List Remainder) → AreParts m columns rows kills d qs rs → (rest : Remainder) → IsAmong rest rs → columns ≤ rest.conj.columns
parts_wide m columns rows kills d [] rs e rest i = absurd (subst (IsAmong rest) e i)
parts_wide m columns rows kills d (q ∷ qs) rs (group, more, e, c, h) rest i =
    elim (in_either rest (map (remainder d) group) more (subst (IsAmong rest) e i)) [ inl j ↦ group_wide columns d group c.made rest j | inr j ↦ parts_wide m columns rows kills (suc d) qs more h rest j ]

-- a case of an assignment has the columns of the parameters, of the reader and of the source
source_wide : (m : Model) (r : Reads) (case : Case) → IsCase m r case → (n : ℕ) (stmt : StmtModel) → case.source ≡ Some n → slice_get m.stmts n ≡ Some stmt → (rest : Remainder) → IsAmong rest case.pieces → m.params + (r.count + width stmt) ≤ rest.conj.columns
source_wide m r case (OfWriting w h) n stmt source is rest i =
    let number : w.stmt ≡ n = some-is w.stmt n (sym h.source ∙ source) in
    let same : h.stmt ≡ stmt = some-is h.stmt stmt (sym h.is ∙ ap (slice_get m.stmts) number ∙ is) in
    let wide = parts_wide m h.own.columns h.own.rows h.case_of.found 0 r.pieces case.pieces h.case_of.parts rest i in
    let own : h.own.columns ≡ m.params + r.count + width stmt = (formed m r w h.stmt h.own r.count h.is h.formed refl).columns ∙ ap (λ (z : StmtModel). m.params + r.count + width z) same in
    omega (arith, wide, own)
source_wide m r case (OfContents h) n stmt source is rest i = let z : None ≡ Some n = sym h.source ∙ source in absurd cc

-- that of the initial contents those of the parameters and of the reader
contents_wide : (m : Model) (r : Reads) (case : Case) → IsCase m r case → case.source ≡ None → (rest : Remainder) → IsAmong rest case.pieces → m.params + r.count ≤ rest.conj.columns
contents_wide m r case (OfWriting w h) source rest i = let z : None ≡ Some w.stmt = sym source ∙ h.source in absurd cc
contents_wide m r case (OfContents h) source rest i = parts_wide m (m.params + r.count) [] h.case_of.found 0 r.pieces case.pieces h.case_of.parts rest i

-- ---- a point of what is left of a case

left_by : (pieces : List Remainder) (rest : Remainder) (p : List ℤ) → IsAmong rest pieces → HasExtension rest.conj p → IsLeft pieces p
left_by [] rest p i h = absurd i
left_by (x ∷ pieces) rest p (inl e) h = inl (subst (λ (z : Remainder). HasExtension z.conj p) e h)
left_by (x ∷ pieces) rest p (inr i) h = inr (left_by pieces rest p i h)

many : (ks : List ℕ) (p : List ℤ) → length (picked ks p) ≡ length ks
many ks p = length-map ks (λ k. slice_index_or p k (pos 0))

left_at : (params : ℕ) (a : Assumed) (columns : ℕ) (rest : Remainder) (pieces : List Remainder) (rows : List Row) (p : List ℤ) → IsAmong rest pieces → length (picked (case_columns params a) p) ≤ rest.conj.columns
    → rows_renaming (columns_left params a columns rest.conj) rest.conj.rows ≡ Some rows → Meets rows p → IsLeft pieces (picked (case_columns params a) p)
left_at params a columns rest pieces rows p i wide e meets =
    let ks = case_columns params a in
    let ls = range_with_len columns (further params a rest.conj) in
    let n = many ks p in
    let k : length (picked ls p) ≡ rest.conj.columns - length ks = length-map-range_with_len (λ k. slice_index_or p k (pos 0)) columns (further params a rest.conj) in
    let long : length (picked ks p ++ picked ls p) ≡ rest.conj.columns = omega (arith, length-append (picked ks p) (picked ls p), n, k, wide) in
    left_by pieces rest (picked ks p) i (picked ls p, long, subst (Meets rest.conj.rows) (pick-append ks ls p) ((rows-value (ks ++ ls) rest.conj.rows rows p e).0 meets))

-- the numbers in the columns of a case
pub pick_source : (n : ℕ) (side : Side) (reader source : Seat) (p : List ℤ) → picked (case_columns n (record { side = side; reader = reader; source = Some source })) p ≡ picked (base n) p ++ (picked (columns_of reader) p ++ picked (columns_of source) p)
pick_source n side reader source p = pick_pair n reader source p

pub pick_contents : (n : ℕ) (side : Side) (reader : Seat) (p : List ℤ) → picked (case_columns n (record { side = side; reader = reader; source = None })) p ≡ picked (base n) p ++ picked (columns_of reader) p
pick_contents n side reader p = pick-append (base n) (columns_of reader ++ []) p ∙ ap (λ (ks : List ℕ). picked (base n) p ++ picked ks p) (append-nil (columns_of reader))

-- ---- a step where a flow leads

left_goes : (u : Unfolding) (f : Flow) (q : Path) (p : List ℤ) (seat : Seat) → ArePaired u.pair → CasesAreSources (pairing_of u.pair).left f → StandThere u p (seats_of q) → ReadsOn u Left q
    → LeadsTo (pairing_of u.pair).left f (picked (base (params_of u)) p) q.left.position (picked (columns_of q.left) p) seat.position (picked (columns_of seat) p)
    → Step u p (seats_of q) (seat, q.right) × StandThere u p (seat, q.right)
left_goes u f q p seat paired sources s reads leads =
    let pair = u.pair in
    let g = pairing_of pair in
    let v = picked (base (params_of u)) p in
    let x = picked (columns_of q.left) p in
    let y = picked (columns_of q.right) p in
    let z = picked (columns_of seat) p in
    let step = left_steps pair g.left g.right f paired (own_models pair) sources v q.left.position x q.right.position y s (ap is_some reads.1) v seat.position z q.right.position y refl refl refl leads (u.order (positions_of (seats_of q))) in
    let r = reads_there g.left v (execution pair.left g.left v) s.compared.left s.a q.left.position s.left_is reads in
    let met = (has_context pair.left pair.context paired.context v s.compared.valuation.each).1 s.compared.valuation.context in
    let to = goes_where_led pair.left pair.context f paired.left paired.context sources v s.compared.valuation.each met s.a r q.left.position x seat.position z s.left_is s.left_at_is leads in
    (step_there u p (seats_of q) (seat, q.right) step, record { compared = s.compared; a = to.b; b = s.b; left_is = to.to_is; left_at_is = to.to_at_is; right_is = s.right_is; right_at_is = s.right_at_is })

right_goes : (u : Unfolding) (f : Flow) (q : Path) (p : List ℤ) (seat : Seat) → ArePaired u.pair → CasesAreSources (pairing_of u.pair).right f → StandThere u p (seats_of q) → ReadsOn u Right q
    → LeadsTo (pairing_of u.pair).right f (picked (base (params_of u)) p) q.right.position (picked (columns_of q.right) p) seat.position (picked (columns_of seat) p)
    → Step u p (seats_of q) (q.left, seat) × StandThere u p (q.left, seat)
right_goes u f q p seat paired sources s (none, reads) leads =
    let pair = u.pair in
    let g = pairing_of pair in
    let v = picked (base (params_of u)) p in
    let x = picked (columns_of q.left) p in
    let y = picked (columns_of q.right) p in
    let z = picked (columns_of seat) p in
    let step = right_steps pair g.left g.right f paired (own_models pair) sources v q.left.position x q.right.position y s (ap is_some none) (ap is_some reads.1) v q.left.position x seat.position z refl refl refl leads (u.order (positions_of (seats_of q))) in
    let r = reads_there g.right v (execution pair.right g.right v) s.compared.right s.b q.right.position s.right_is reads in
    let fit = subst (λ (n : ℕ). FitParts n 0 pair.context.parts) (sym paired.params) paired.context in
    let each : length v ≡ length pair.right.params = s.compared.valuation.each ∙ sym paired.params in
    let met = (has_context pair.right pair.context fit v each).1 s.compared.valuation.context in
    let to = goes_where_led pair.right pair.context f paired.right fit sources v each met s.b r q.right.position y seat.position z s.right_is s.right_at_is leads in
    (step_there u p (seats_of q) (q.left, seat) step, record { compared = s.compared; a = s.a; b = to.b; left_is = s.left_is; left_at_is = s.left_at_is; right_is = to.to_is; right_at_is = to.to_at_is })

-- ---- the flow of a side

pub side_sources : (u : Unfolding) (left right : Flow) → HaveFlows u.pair left right → (side : Side) → CasesAreSources (going.model_of (pairing_of u.pair) side) (flow_on left right side)
side_sources u left right h Left =
    let pair = u.pair in
    flow_sources (model_of pair.left pair.context) left (is_over (model_of pair.left pair.context) (record { program = pair.left; context = pair.context; ready = h.paired.left; fit = h.paired.context; is = refl })) h.left_are
side_sources u left right h Right =
    let pair = u.pair in
    let fit = subst (λ (n : ℕ). FitParts n 0 pair.context.parts) (sym h.paired.params) h.paired.context in
    flow_sources (model_of pair.right pair.context) right (is_over (model_of pair.right pair.context) (record { program = pair.right; context = pair.context; ready = h.paired.right; fit = fit; is = refl })) h.right_are

side_flows : (u : Unfolding) (left right : Flow) → HaveFlows u.pair left right → (side : Side) → AreFlows (going.model_of (pairing_of u.pair) side) (readers (going.model_of (pairing_of u.pair) side)) (flow_on left right side).reads
side_flows u left right h Left = h.left_are
side_flows u left right h Right = h.right_are

-- a reader has the array and the coordinates of its position
reader_cell : (m : Model) (r : Reads) → IsReader m r → (forms : CellForms) × (cell_read m r.position ≡ Some forms) × (forms.array ≡ r.array)
reader_cell m r (OfNode s k stmt array subs is e) =
    (record { array = array; subs = subs }, ap (λ (o : Option StmtModel). option_and_then read_of (option_and_then (λ (y : StmtModel). slice_get y.nodes k) o)) is ∙ ap (λ o. option_and_then read_of o) e, refl)
reader_cell m r (OfOutput o extents is) =
    (record { array = o; subs = element_forms m.params (length extents) }, ap (λ (y : Option (List Affine)). option_map (λ (e : List Affine). record { array = o; subs = element_forms m.params (length e) }) y) is, refl)

reader_count : (m : Model) (r : Reads) → IsReader m r → r.count ≡ coordinate_count m r.position
reader_count m r (OfNode s k stmt array subs is e) = ap counter_count (sym is)
reader_count m r (OfOutput o extents is) = ap extent_count (sym is)

-- what is known of the branch of a case
pub record Known (u : Unfolding) (side : Side) (flow : Flow) (q : Path) (case : Case) (b : Path) : Type 0 where
  pub read : ReadFlow
  pub among : IsAmong read flow.reads
  pub position_is : read.position ≡ (seat_of q side).position
  pub case_among : IsAmong case read.cases
  pub reader : Reads
  pub reader_among : IsAmong reader (readers (going.model_of (pairing_of u.pair) side))
  pub flow_is : IsFlowOf (going.model_of (pairing_of u.pair) side) reader read
  pub cell : CellForms
  pub cell_is : cell_read (going.model_of (pairing_of u.pair) side) (seat_of q side).position ≡ Some cell
  pub array_is : cell.array ≡ reader.array
  pub branch : cases.IsBranch (params_of u) (going.model_of (pairing_of u.pair) side) q side cell case b

-- the cell that is read, and the branches
side_branches : (u : Unfolding) (side : Side) (q : Path) (bs : List Path) → ReadsOn u side q → branches (pairing_of u.pair) Keep q ≡ Some bs
    → (cell : CellForms) × (cell_read (going.model_of (pairing_of u.pair) side) (seat_of q side).position ≡ Some cell) × (read_branches (params_of u) (going.model_of (pairing_of u.pair) side) q side cell ≡ Some bs)
side_branches u Left q bs (cell, is) e = (cell, is, (λ i. branches_by (pairing_of u.pair) Keep q (sym is i) (cell_read (pairing_of u.pair).right q.right.position)) ∙ e)
side_branches u Right q bs (none, (cell, is)) e = (cell, is, (λ i. branches_by (pairing_of u.pair) Keep q (sym none i) (sym is i)) ∙ e)

in_at : {A : Type 0} (xs : List A) (k : ℕ) (x : A) → slice_get xs k ≡ Some x → IsAmong x xs
in_at [] k x e = absurd cc
in_at (y ∷ xs) zero x e = inl (sym (some-is y x e))
in_at (y ∷ xs) (suc k) x e = inr (in_at xs k x e)

pub known : (u : Unfolding) (left right : Flow) → HaveFlows u.pair left right → (side : Side) (q b : Path) (case : Case) → IsBranchOf u (flow_on left right side) side q case b → Known u side (flow_on left right side) q case b
known u left right h side q b case i =
    let m = going.model_of (pairing_of u.pair) side in
    let r = (flows_of_readers m (flow_on left right side).reads (side_flows u left right h side)).reader i.read i.among in
    let c = side_branches u side q i.branches_of i.reads i.are in
    let f = reader_cell m r.0 (is_reader m r.0 r.1) in
    let position : r.0.position ≡ (seat_of q side).position = sym r.2.0 ∙ i.position_is in
    let same : c.0 ≡ f.0 = some-is c.0 f.0 (sym c.1 ∙ ap (cell_read m) (sym position) ∙ f.1) in
    let array : c.0.array ≡ r.0.array = ap (λ (z : CellForms). z.array) same ∙ f.2 in
    record {
      read = i.read;
      among = i.among;
      position_is = i.position_is;
      case_among = in_at i.read.cases i.number case i.case_is;
      reader = r.0;
      reader_among = r.1;
      flow_is = r.2;
      cell = c.0;
      cell_is = c.1;
      array_is = array;
      branch = cases.branch_of_case (params_of u) m q side c.0 r.0 i.read.cases i.branches_of array position r.2.1 c.2 i.number b case i.branch_is i.case_is;
    }

-- ---- the seat of a branch, where the case is left

-- the seat to which a case leads
target_leads : (u : Unfolding) (side : Side) (flow : Flow) (q b : Path) (case : Case) → Known u side flow q case b → (n : ℕ) (stmt : StmtModel) → case.source ≡ Some n → slice_get (going.model_of (pairing_of u.pair) side).stmts n ≡ Some stmt → (p : List ℤ)
    → IsLeft case.pieces (picked (base (params_of u)) p ++ (picked (columns_of (seat_of q side)) p ++ picked (columns_of (root q.conj.columns n stmt)) p))
    → LeadsTo (going.model_of (pairing_of u.pair) side) flow (picked (base (params_of u)) p) (seat_of q side).position (picked (columns_of (seat_of q side)) p) (Node n 0) (picked (columns_of (root q.conj.columns n stmt)) p)
target_leads u side flow q b case k n stmt source is p left = record {
  read = k.read;
  among = k.among;
  position = k.position_is;
  follows = (case, k.case_among, inr (record { number = n; stmt = stmt; source = source; is = is; to_is = refl; long = how_many (root q.conj.columns n stmt) p; left = left }));
}

contents_lead : (u : Unfolding) (side : Side) (flow : Flow) (q b : Path) (case : Case) → Known u side flow q case b → case.source ≡ None → (p : List ℤ)
    → IsLeft case.pieces (picked (base (params_of u)) p ++ picked (columns_of (seat_of q side)) p)
    → LeadsTo (going.model_of (pairing_of u.pair) side) flow (picked (base (params_of u)) p) (seat_of q side).position (picked (columns_of (seat_of q side)) p) (initial_of (seat_of q side).position) (picked (columns_of (seat_of q side)) p)
contents_lead u side flow q b case k source p left = record {
  read = k.read;
  among = k.among;
  position = k.position_is;
  follows = (case, k.case_among, inl (record { source = source; to_is = refl; at_is = refl; left = left }));
}

-- where a case of the branch is left, the pair path goes on
abbrev pub IsLeftAt : Unfolding → Case → Path → List ℤ → Type 0
IsLeftAt u case b p = (a : Assumed) → b.last ≡ Some a → IsLeft case.pieces (picked (case_columns (params_of u) a) p)

goes_by : (u : Unfolding) (pair_path : List (Seat × Seat)) (left right : Flow) → HaveFlows u.pair left right → (side : Side) (q b : Path) (case : Case) → (k : Known u side (flow_on left right side) q case b) → ReadsOn u side q → (p : List ℤ) → ComesTo u pair_path q p
    → IsLeftAt u case b p → cases.IsBranch (params_of u) (going.model_of (pairing_of u.pair) side) q side k.cell case b → ComesTo u (onward pair_path b) b p
goes_by u pair_path left right h Left q b case k reads p to is_left (cases.OfSource n stmt piece level rows source is pi li cr be) =
    let s = root q.conj.columns n stmt in
    let a : Assumed = record { side = Left; reader = q.left; source = Some s } in
    let there = subst (IsLeft case.pieces) (pick_source (params_of u) Left q.left s p) (is_left a (ap (λ (z : Path). z.last) be)) in
    let g = left_goes u left q p s h.paired (side_sources u left right h Left) to.here reads (target_leads u Left left q b case k n stmt source is p there) in
    let far = gone_to q Left (extended q.conj (width stmt) rows) s (Some a) in
    subst (λ (z : Path). ComesTo u (onward pair_path z) z p) (sym be) (goes_on u pair_path q far p to g.0 g.1)
goes_by u pair_path left right h Left q b case k reads p to is_left (cases.OfContents source be) =
    let a : Assumed = record { side = Left; reader = q.left; source = None } in
    let there = subst (IsLeft case.pieces) (pick_contents (params_of u) Left q.left p) (is_left a (ap (λ (z : Path). z.last) be)) in
    let seat : Seat = record { position = initial_of q.left.position; first = q.left.first; width = q.left.width } in
    let g = left_goes u left q p seat h.paired (side_sources u left right h Left) to.here reads (contents_lead u Left left q b case k source p there) in
    subst (λ (z : Path). ComesTo u (onward pair_path z) z p) (sym be) (goes_on u pair_path q (initial_path q Left) p to g.0 g.1)
goes_by u pair_path left right h Right q b case k reads p to is_left (cases.OfSource n stmt piece level rows source is pi li cr be) =
    let s = root q.conj.columns n stmt in
    let a : Assumed = record { side = Right; reader = q.right; source = Some s } in
    let there = subst (IsLeft case.pieces) (pick_source (params_of u) Right q.right s p) (is_left a (ap (λ (z : Path). z.last) be)) in
    let g = right_goes u right q p s h.paired (side_sources u left right h Right) to.here reads (target_leads u Right right q b case k n stmt source is p there) in
    let far = gone_to q Right (extended q.conj (width stmt) rows) s (Some a) in
    subst (λ (z : Path). ComesTo u (onward pair_path z) z p) (sym be) (goes_on u pair_path q far p to g.0 g.1)
goes_by u pair_path left right h Right q b case k reads p to is_left (cases.OfContents source be) =
    let a : Assumed = record { side = Right; reader = q.right; source = None } in
    let there = subst (IsLeft case.pieces) (pick_contents (params_of u) Right q.right p) (is_left a (ap (λ (z : Path). z.last) be)) in
    let seat : Seat = record { position = initial_of q.right.position; first = q.right.first; width = q.right.width } in
    let g = right_goes u right q p seat h.paired (side_sources u left right h Right) to.here reads (contents_lead u Right right q b case k source p there) in
    subst (λ (z : Path). ComesTo u (onward pair_path z) z p) (sym be) (goes_on u pair_path q (initial_path q Right) p to g.0 g.1)

pub goes_to_left : (u : Unfolding) (pair_path : List (Seat × Seat)) (left right : Flow) → HaveFlows u.pair left right → (side : Side) (q b : Path) (case : Case) → (k : Known u side (flow_on left right side) q case b) → ReadsOn u side q → (p : List ℤ) → ComesTo u pair_path q p
    → IsLeftAt u case b p → ComesTo u (onward pair_path b) b p
goes_to_left u pair_path left right h side q b case k reads p to is_left = goes_by u pair_path left right h side q b case k reads p to is_left k.branch

-- ---- what a branch has

pub gone_conj : (q : Path) (side : Side) (c : Conj) (seat : Seat) (last : Option Assumed) → (gone_to q side c seat last).conj ≡ c
gone_conj q Left c seat last = refl
gone_conj q Right c seat last = refl

pub gone_last : (q : Path) (side : Side) (c : Conj) (seat : Seat) (last : Option Assumed) → (gone_to q side c seat last).last ≡ last
gone_last q Left c seat last = refl
gone_last q Right c seat last = refl

-- the rows of the path before it, and maybe further columns
pub branch_grows : (params : ℕ) (m : Model) (q : Path) (side : Side) (cell : CellForms) (case : Case) (b : Path) (p : List ℤ) → cases.IsBranch params m q side cell case b → (q.conj.columns ≤ b.conj.columns) × (Meets b.conj.rows p → Meets q.conj.rows p)
branch_grows params m q side cell case b p (cases.OfSource n stmt piece level rows source is pi li cr be) =
    let s = root q.conj.columns n stmt in
    let same : b.conj ≡ extended q.conj (width stmt) rows = ap (λ (z : Path). z.conj) be ∙ gone_conj q side (extended q.conj (width stmt) rows) s (Some (record { side = side; reader = seat_of q side; source = Some s })) in
    let columns : b.conj.columns ≡ q.conj.columns + width stmt = ap (λ (z : Conj). z.columns) same in
    (omega (arith, columns), λ meets. (meets-parts q.conj.rows rows p (subst (λ (z : Conj). Meets z.rows p) same meets)).0)
branch_grows params m q side cell case b p (cases.OfContents source be) =
    let seat = seat_of q side in
    let same : b.conj ≡ q.conj = ap (λ (z : Path). z.conj) be ∙ gone_conj q side q.conj (record { position = initial_of seat.position; first = seat.first; width = seat.width }) (Some (record { side = side; reader = seat; source = None })) in
    let columns : b.conj.columns ≡ q.conj.columns = ap (λ (z : Conj). z.columns) same in
    (omega (arith, columns), λ meets. subst (λ (z : Conj). Meets z.rows p) same meets)

-- as many coordinates as the reader has
seat_count : (u : Unfolding) (q : Path) (p : List ℤ) → StandThere u p (seats_of q) → (side : Side) → (seat_of q side).width ≡ coordinate_count (going.model_of (pairing_of u.pair) side) (seat_of q side).position
seat_count u q p s Left =
    let m = (pairing_of u.pair).left in
    let v = picked (base (params_of u)) p in
    sym (how_many q.left p) ∙ ap (λ (z : List ℤ). length z) (sym s.left_at_is) ∙ at_width m v (execution u.pair.left m v) s.compared.left s.a.position s.a.at s.a.spot s.a.here ∙ ap (coordinate_count m) s.left_is
seat_count u q p s Right =
    let m = (pairing_of u.pair).right in
    let v = picked (base (params_of u)) p in
    sym (how_many q.right p) ∙ ap (λ (z : List ℤ). length z) (sym s.right_at_is) ∙ at_width m v (execution u.pair.right m v) s.compared.right s.b.position s.b.at s.b.spot s.b.here ∙ ap (coordinate_count m) s.right_is

pub reader_width : (u : Unfolding) (side : Side) (flow : Flow) (q b : Path) (case : Case) (p : List ℤ) → (k : Known u side flow q case b) → StandThere u p (seats_of q) → (seat_of q side).width ≡ k.reader.count
reader_width u side flow q b case p k s =
    let m = going.model_of (pairing_of u.pair) side in
    let position : (seat_of q side).position ≡ k.reader.position = sym k.position_is ∙ k.flow_is.0 in
    seat_count u q p s side ∙ ap (coordinate_count m) position ∙ sym (reader_count m k.reader (is_reader m k.reader k.reader_among))

pub side_params : (u : Unfolding) → ArePaired u.pair → (side : Side) → (going.model_of (pairing_of u.pair) side).params ≡ params_of u
side_params u paired Left = refl
side_params u paired Right = paired.params

pub kind_of : (u : Unfolding) (side : Side) (flow : Flow) (q b : Path) (case : Case) → (k : Known u side flow q case b) → IsCase (going.model_of (pairing_of u.pair) side) k.reader case
kind_of u side flow q b case k =
    let m = going.model_of (pairing_of u.pair) side in
    case_in m k.reader (writings m k.reader.position k.reader.array None) k.read.cases k.flow_is.1 case k.case_among

-- the case's columns are among those of what is left of it
fits : (u : Unfolding) → ArePaired u.pair → (side : Side) (flow : Flow) (q b : Path) (case : Case) (p : List ℤ) → (k : Known u side flow q case b) → StandThere u p (seats_of q) → (rest : Remainder) → IsAmong rest case.pieces → (a : Assumed) → b.last ≡ Some a
    → cases.IsBranch (params_of u) (going.model_of (pairing_of u.pair) side) q side k.cell case b → length (picked (case_columns (params_of u) a) p) ≤ rest.conj.columns
fits u paired side flow q b case p k s rest i a e (cases.OfSource n stmt piece level rows source is pi li cr be) =
    let m = going.model_of (pairing_of u.pair) side in
    let seat = root q.conj.columns n stmt in
    let here = seat_of q side in
    let made : Assumed = record { side = side; reader = here; source = Some seat } in
    let same : made ≡ a = some-is made a (sym (gone_last q side (extended q.conj (width stmt) rows) seat (Some made)) ∙ ap (λ (z : Path). z.last) (sym be) ∙ e) in
    let wide = source_wide m k.reader case (kind_of u side flow q b case k) n stmt source is rest i in
    let count = reader_width u side flow q b case p k s in
    let params = side_params u paired side in
    let lv = base_many (params_of u) p in
    let lx = how_many here p in
    let lz = how_many seat p in
    let long : length (picked (case_columns (params_of u) made) p) ≡ params_of u + (here.width + width stmt) =
    ap (λ (z : List ℤ). length z) (pick_source (params_of u) side here seat p) ∙ length-append (picked (base (params_of u)) p) (picked (columns_of here) p ++ picked (columns_of seat) p)
    ∙ (λ j. lv j + (length-append (picked (columns_of here) p) (picked (columns_of seat) p) ∙ (λ l. lx l + lz l)) j) in
    subst (λ (z : Assumed). length (picked (case_columns (params_of u) z) p) ≤ rest.conj.columns) same (omega (arith, wide, count, params, long))
fits u paired side flow q b case p k s rest i a e (cases.OfContents source be) =
    let m = going.model_of (pairing_of u.pair) side in
    let here = seat_of q side in
    let made : Assumed = record { side = side; reader = here; source = None } in
    let same : made ≡ a = some-is made a (sym (gone_last q side q.conj (record { position = initial_of here.position; first = here.first; width = here.width }) (Some made)) ∙ ap (λ (z : Path). z.last) (sym be) ∙ e) in
    let wide = contents_wide m k.reader case (kind_of u side flow q b case k) source rest i in
    let count = reader_width u side flow q b case p k s in
    let params = side_params u paired side in
    let lv = base_many (params_of u) p in
    let lx = how_many here p in
    let long : length (picked (case_columns (params_of u) made) p) ≡ params_of u + here.width =
    ap (λ (z : List ℤ). length z) (pick_contents (params_of u) side here p) ∙ length-append (picked (base (params_of u)) p) (picked (columns_of here) p) ∙ (λ j. lv j + lx j) in
    subst (λ (z : Assumed). length (picked (case_columns (params_of u) z) p) ≤ rest.conj.columns) same (omega (arith, wide, count, params, long))

pub reads_lead : ReadsLead
reads_lead u pair_path left right side q b d case rest h leads i among e p long meets =
    let params = params_of u in
    let w = bind-some b.last (with_rest params b rest.conj) d e in
    let more = further params w.0 rest.conj in
    let z = map-some (rows_renaming (columns_left params w.0 b.conj.columns rest.conj) rest.conj.rows) (λ rows. at_rows b (extended b.conj more rows)) d w.2 in
    let wide : b.conj.columns + more ≤ length p = subst (λ (y : Path). y.conj.columns ≤ length p) z.2 long in
    let parts = meets-parts b.conj.rows z.0 p (subst (λ (y : Path). Meets y.conj.rows p) z.2 meets) in
    let k = known u left right h side q b case i in
    let grown = branch_grows params (going.model_of (pairing_of u.pair) side) q side k.cell case b p k.branch in
    let to = leads p (let g = grown.0 in omega (arith, g, wide)) (grown.1 parts.0) in
    let fit = fits u h.paired side (flow_on left right side) q b case p k to.here rest among w.0 w.1 k.branch in
    let there = left_at params w.0 b.conj.columns rest case.pieces z.0 p among fit z.1 parts.1 in
    let is_left : IsLeftAt u case b p = λ a ea. subst (λ (y : Assumed). IsLeft case.pieces (picked (case_columns params y) p)) (some-is w.0 a (sym w.1 ∙ ea)) there in
    same_seats u (onward pair_path b) b d p (ap seats_of (sym z.2)) (goes_to_left u pair_path left right h side q b case k i.reads p to is_left)
