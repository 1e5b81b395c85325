-- The edges of a flow are the sources of reads and outputs.
use Rattle.std.proofs.Common.{◌≡◌, ◌⊎◌, inl, inr, ℕ, suc, ◌+◌, ◌-◌, ◌≤◌, ℤ, pos, negsuc, ◌≤ℤ◌, List, [], ◌∷◌, ◌++◌, length, take, drop, true, Option, Some, None, refl, sym, ap, ◌∙◌, subst, arith, append_assoc, append-nil, length-append}
use Rattle.std.specs.Prelude.{slice_get, option_map}
use Rattle.std.proofs.lemmas.List.{take-append-drop, length-take-le, length-drop}
use Rattle.std.proofs.lemmas.Option.{slice_get_within}
use Rattle.ac_base.specs.Multiple.{IsMultiple}
use Rattle.ac_forms.specs.Affine.{Affine, column_form, combined, shifted}
use Rattle.ac_forms.specs.Rows.{form_of, Holds, Meets, AreRowsOver}
use Rattle.ac_forms.specs.declared.row.Row.{Row}
use Rattle.ac_forms.specs.declared.row.Row.TheVariants.{Eq, Div, Ge}
use Rattle.ac_forms.proofs.Values.{value_at-append}
use Rattle.ac_syntax.specs.Algebra.{Cell}
use Rattle.ac_syntax.specs.Index.{point, holds}
use Rattle.ac_syntax.specs.ReadyPrograms.{ReadyProgram, FitParts}
use Rattle.ac_syntax.specs.Source.{Writer, source}
use Rattle.ac_syntax.specs.Spot.{Spot, AtEnd, AtNode, AtStart, Reads as IsRead}
use Rattle.ac_syntax.specs.Trace.{Entry}
use Rattle.ac_syntax.specs.Where.{element}
use Rattle.ac_syntax.specs.declared.tree.Cond.{Cond}
use Rattle.ac_syntax.specs.declared.tree.Position.{Position}
use Rattle.ac_syntax.specs.declared.tree.Position.TheVariants.{Node}
use Rattle.ac_syntax.specs.declared.tree.Program.{Program}
use Rattle.ac_syntax.proofs.LastWriters.{stands_contains}
use Rattle.ac_poly.specs.CoordinateColumns.{element_rows}
use Rattle.ac_poly.specs.Model.{model_of}
use Rattle.ac_poly.specs.declared.types.Model.{Model}
use Rattle.ac_poly.proofs.Elements.{has_elements}
use Rattle.ac_poly.proofs.Whole.{has_context, has_nodes}
use Rattle.ac_omega.specs.declared.piece.Piece.{Piece}
use Rattle.ac_base.proofs.Options.{some-is}
use Rattle.ac_claims_paths.specs.InstanceCoordinates.{width}
use Rattle.ac_claims_paths.specs.Executions.{Execution, At, Describes, execution}
use Rattle.ac_forms.specs.ListMembers.{IsAmong}
use Rattle.ac_claims_paths.specs.Pairs.{Placed, IsResolved, ResolvesTo}
use Rattle.ac_claims_paths.specs.ModelPositions.{initial_of, extent_rows}
use Rattle.ac_claims_paths.specs.declared.path.CopyNumbers.{CopyNumbers}
use Rattle.ac_claims_paths.proofs.Described.{models_describe}
use Rattle.ac_claims_paths.proofs.Heres.{reading}
use Rattle.ac_claims_paths.proofs.Moving.{meets-parts}
use Rattle.ac_claims_paths.proofs.ReadSteps.{at_root}
use Rattle.ac_flow.specs.FlowCases.{Reads, CanRead, AreParts, ArePiecesOver, IsSourceCase, IsInitialCase, AreCases}
use Rattle.ac_flow.specs.Flows.{IsLeft}
use Rattle.ac_flow.specs.Readers.{readers, AreFlows, IsOver}
use Rattle.ac_flow.specs.Sources.{IsReading, IsSource}
use Rattle.ac_flow.specs.Writings.{reading as reading_of, writing, rows_of, conj_of, writings}
use Rattle.ac_flow.specs.declared.types.Case.{Case}
use Rattle.ac_flow.specs.declared.types.Flow.{Flow}
use Rattle.ac_flow.specs.declared.types.Remainder.{Remainder}
use Rattle.ac_flow.proofs.Exact.{ReadHere, formed, cases_exact, last_case, case_of_writing}
use Rattle.ac_flow.proofs.Linking.{IsReader, OfNode, OfOutput, is_reader, at_reader}
use Rattle.ac_flow.proofs.Overs.{is_over}
use Rattle.ac_flow.proofs.Sourcing.{the_source_has_rows}
use Rattle.ac_graph.specs.PairMoves.{IsEdge, target}
use Rattle.ac_graph.specs.GraphMeaning.{HasFlow, IsNamed, Resolves, EdgesAreSources}
use Rattle.ac_graph.proofs.Named.{named_reader, reader_named, flow_of_reader, reader_of_flow, reader_cell}
use Rattle.ac_flow.proofs.FlowSources.{reader_can}
use Rattle.ac_graph.proofs.Standing.{node_there, reader_there}
use Rattle.ac_forms.specs.Negation.{HasExtension}
use Rattle.ac_forms.specs.PieceMembership.{IsInSome}

-- ---- from a source to an edge

-- the assignment of a source
abbrev stmt_of : Writer → ℕ
stmt_of w = w.entry.stmt

-- the case of a reading's source is left
record LeftCase (cases : List Case) (o : Option Writer) : Type 0 where
  case : Case
  among : IsAmong case cases
  left : ¬ (case.pieces ≡ [])
  source_is : case.source ≡ option_map stmt_of o

not_empty : (pieces : List Remainder) (p : List ℤ) → IsLeft pieces p → ¬ (pieces ≡ [])
not_empty pieces p h e = subst (λ (ps : List Remainder). IsLeft ps p) e h

left_case : (m : Model) (params : List ℤ) (x : Execution) (r : Reads) (at : List ℤ) (cell : Cell) (before : List Entry) → ReadHere m params x r at cell before → CanRead m r → (cases : List Case) → AreCases m r (writings m r.position r.array None) cases
    → (o : Option Writer) → source cell before ≡ o → LeftCase cases o
left_case m params x r at cell before t can cases h None e =
    let c = last_case m r (writings m r.position r.array None) cases h in
    let i = (cases_exact m params x r at cell before t can (writings m r.position r.array None) cases h c.0 c.1).initial c.2.source in
    record { case = c.0; among = c.1; left = not_empty c.0.pieces (params ++ at) (i.1 e); source_is = c.2.source }
left_case m params x r at cell before t can cases h (Some u) e =
    let ws = writings m r.position r.array None in
    let s = the_source_has_rows m params x t.describes r.position t.forms t.read at cell before u t.here e in
    let k : IsAmong s.writing ws = subst (λ a. IsAmong s.writing (writings m r.position a None)) (sym t.array) s.among in
    let c = case_of_writing m r ws cases h s.writing k in
    let g = c.2 in
    let same : g.stmt ≡ s.stmt = some-is g.stmt s.stmt (sym g.is ∙ s.is) in
    let f = formed m r s.writing g.stmt g.own (length at) g.is g.formed t.count in
    let me : Meets g.own.rows (params ++ (at ++ x.coords u.entry)) = s.meets g.own.rows (ap (rows_of m (reading_of m r.position (length at) None) (m.params + length at) s.writing) (sym same) ∙ f.rows) in
    let named : writing s.writing.stmt c.0.piece c.0.level None ≡ s.writing = λ i. record { stmt = s.writing.stmt; piece = g.piece i; after = sym f.after i; before = g.level i } in
    let made : conj_of m (reading_of m r.position (length at) None) s.writing ≡ Some g.own = (λ i. conj_of m (reading_of m r.position (sym t.count i) None) s.writing) ∙ g.formed in
    let q = (cases_exact m params x r at cell before t can ws cases h c.0 c.1).assigned s.writing.stmt g.stmt (x.coords u.entry) g.source g.is (s.wide ∙ ap width (sym same)) in
    let l = q.1 (record { writer = u; found = e; instance = s.instance }, record { own = g.own; formed = ap (conj_of m (reading_of m r.position (length at) None)) named ∙ made; meets = me }) in
    record { case = c.0; among = c.1; left = not_empty c.0.pieces (params ++ (at ++ x.coords u.entry)) l; source_is = g.source ∙ ap Some (sym s.instance.stmt) }

resolved_to : (x : Execution) (a b : Placed x) (cell : Cell) (o : Option Writer) → IsResolved x a cell o b → b.position ≡ target a.position (option_map stmt_of o)
resolved_to x a b cell None h = h.position_is
resolved_to x a b cell (Some w) h = h.position_is

pub edge_there : (m : Model) (params : List ℤ) (x : Execution) → Describes m params x → Meets m.context params → IsOver m → (f : Flow) → AreFlows m (readers m) f.reads → (a b : Placed x) → IsNamed m a.position → ResolvesTo x a b → IsEdge f a.position b.position
edge_there m params x d c over f h a b n ((cell, before, reads), res) =
    let t = reader_there m params x d a.position a.at a.spot a.here cell before reads in
    let r = named_reader m a.position t.0 t.1 n in
    let g = flow_of_reader m (readers m) f.reads h r.0 r.1 in
    let is = is_reader m r.0 r.1 in
    let reads_here : IsReading x r.0.position a.at cell before = record { spot = a.spot; here = subst (λ (P : Position). At x P a.at a.spot) (sym r.2) a.here; reads = reads } in
    let here = at_reader m params x d c r.0 is a.at cell before reads_here in
    let e = left_case m params x r.0 a.at cell before here (reader_can m over r.0 is) g.0.cases g.2.1 (source cell before) refl in
    let from : a.position ≡ g.0.position = sym r.2 ∙ sym g.2.0 in
    record {
      read = g.0;
      among = g.1;
      case = e.case;
      case_among = e.among;
      left = e.left;
      from_is = from;
      to_is = resolved_to x a b cell (source cell before) res ∙ (λ i. target (from i) (sym e.source_is i));
    }

-- ---- from an edge to a source

holds_front : (r : Row) (p more : List ℤ) → length (form_of r).coefs ≤ length p → Holds r (p ++ more) → Holds r p
holds_front (Eq f) p more l h = sym (value_at-append f p more l) ∙ h
holds_front (Div k f) p more l h = subst (IsMultiple k) (value_at-append f p more l) h
holds_front (Ge f) p more l h = subst (λ v. pos 0 ≤ℤ v) (value_at-append f p more l) h

meets_front : (rows : List Row) (n : ℕ) (p more : List ℤ) → length p ≡ n → AreRowsOver n rows → Meets rows (p ++ more) → Meets rows p
meets_front [] n p more l w h = tt
meets_front (r ∷ rows) n p more l w h = (let k = w.0.0 in holds_front r p more (omega (arith, k, l)) h.0, meets_front rows n p more l w.1 h.1)

somewhere_front : (qs : List (List Row)) (n : ℕ) (p more : List ℤ) → length p ≡ n → ArePiecesOver n qs → IsInSome Meets qs (p ++ more) → IsInSome Meets qs p
somewhere_front [] n p more l w h = absurd h
somewhere_front (q ∷ qs) n p more l w (inl h) = inl (meets_front q n p more l w.0 h)
somewhere_front (q ∷ qs) n p more l w (inr h) = inr (somewhere_front qs n p more l w.1 h)

-- a point of what is left of a case
record LeftPoint (m : Model) (columns : ℕ) (pieces : List (List Row)) (rs : List Remainder) : Type 0 where
  point : List ℤ
  long : length point ≡ columns
  context : Meets m.context point
  piece : IsInSome Meets pieces point
  left : IsLeft rs point

left_point : (m : Model) (columns : ℕ) (rows : List Row) (kills : List (List Piece)) (d : ℕ) (qs : List (List Row)) (rs : List Remainder) → AreParts m columns rows kills d qs rs → ¬ (rs ≡ []) → LeftPoint m columns qs rs
left_point m columns rows kills d [] rs e n = absurd (n e)
left_point m columns rows kills d (q ∷ qs) rs ([], rest, e, cut, h) n =
    let t = left_point m columns rows kills (suc d) qs rest h (λ z. n (e ∙ z)) in
    record { point = t.point; long = t.long; context = t.context; piece = inr t.piece; left = subst (λ (y : List Remainder). IsLeft y t.point) (sym e) t.left }
left_point m columns rows kills d (q ∷ qs) rs (c ∷ group, rest, e, cut, h) n =
    let p = cut.each.0 in
    let front = take columns p.0 in
    let more = drop columns p.0 in
    let whole : front ++ more ≡ p.0 = take-append-drop columns p.0 in
    let long : length front ≡ columns = (let j = p.1.long in let k = cut.made.0 in length-take-le columns p.0 (omega (arith, j, k))) in
    let there : HasExtension c front = (more, ap (λ (y : List ℤ). length y) whole ∙ p.1.long, subst (Meets c.rows) (sym whole) p.1.meets) in
    let met = (cut.points front long).0 (inl there) in
    let parts = meets-parts m.context (q ++ rows) front met.0 in
    record { point = front; long = long; context = parts.0; piece = inl (meets-parts q rows front parts.1).0; left = subst (λ (y : List Remainder). IsLeft y front) (sym e) (inl there) }

-- a point in three parts
record InParts (p : List ℤ) (a b c : ℕ) : Type 0 where
  first : List ℤ
  second : List ℤ
  third : List ℤ
  is : p ≡ first ++ (second ++ third)
  first_long : length first ≡ a
  second_long : length second ≡ b
  third_long : length third ≡ c

in_parts : (p : List ℤ) (a b c : ℕ) → length p ≡ a + b + c → InParts p a b c
in_parts p a b c l =
    let q = drop a p in
    let lq : length q ≡ length p - a = length-drop a p in
    let lt : length (drop b q) ≡ length q - b = length-drop b q in
    record {
      first = take a p;
      second = take b q;
      third = drop b q;
      is = sym (take-append-drop a p) ∙ ap (λ y. take a p ++ y) (sym (take-append-drop b q));
      first_long = length-take-le a p (omega (arith, l));
      second_long = length-take-le b q (omega (arith, l, lq));
      third_long = omega (arith, l, lq, lt);
    }

-- the rows of an array's elements
extent_rows_are : (k : ℕ) (es : List Affine) → extent_rows k es ≡ element_rows k es
extent_rows_are k [] = refl
extent_rows_are k (e ∷ es) = ap (λ rows. Ge (column_form (k + 1) k) ∷ Ge (shifted (combined (pos 1) e (negsuc 0) (column_form (k + 1) k)) (negsuc 0)) ∷ rows) (extent_rows_are (k + 1) es)

-- what stands at the coordinates of a reader
spot_there : (p : Program) (context : Cond) → ReadyProgram p → FitParts (length p.params) 0 context.parts → (params : List ℤ) → length params ≡ length p.params → (r : Reads) → IsReader (model_of p context) r → (at : List ℤ) → length at ≡ r.count → IsInSome Meets r.pieces (params ++ at)
    → (s : Spot) × At (execution p (model_of p context) params) r.position at s
unfolding At
spot_there p context ready fit params long r (OfNode s k stmt array subs is e) at l w =
    let d = models_describe p context params ready fit long in
    let i = d.instance s stmt at is l w in
    let here : slice_get (model_of p context).stmts i.0.entry.stmt ≡ Some stmt = ap (slice_get (model_of p context).stmts) i.1.stmt ∙ is in
    let n = (has_nodes p context ready params i.0.entry stmt long here (stands_contains i.1.stands)).0 in
    let b = slice_get_within stmt.nodes k _ e in
    let v = node_there i.0.entry.value k (omega (arith, n, b)) in
    (AtNode i.0 v.0, (i.0, i.1, v.0, v.1, refl))
spot_there p context ready fit params long r (OfOutput o extents is) at l (inl w) =
    let z = (has_elements p context ready params at o extents long is).0 (l, subst (λ (rows : List Row). Meets rows (params ++ at)) (extent_rows_are (model_of p context).params extents) w) in
    (AtEnd (element o at), ((extents, is, z), refl))
spot_there p context ready fit params long r (OfOutput o extents is) at l (inr w) = absurd w

-- a reading at a point of a case
record ReadingAt (p : Program) (context : Cond) (r : Reads) (params at : List ℤ) : Type 0 where
  each : length params ≡ length p.params
  holds_there : holds (point params []) context ≡ true
  spot : Spot
  here : At (execution p (model_of p context) params) r.position at spot
  cell : Cell
  before : List Entry
  reads : IsRead (execution p (model_of p context) params).trace spot cell before
  initial : At (execution p (model_of p context) params) (initial_of r.position) at (AtStart cell)
  stands : ReadHere (model_of p context) params (execution p (model_of p context) params) r at cell before

reading_there : (p : Program) (context : Cond) → ReadyProgram p → FitParts (length p.params) 0 context.parts → IsOver (model_of p context) → (r : Reads) → IsReader (model_of p context) r → CanRead (model_of p context) r → (params at more : List ℤ) → length params ≡ length p.params → length at ≡ r.count
    → Meets (model_of p context).context (params ++ (at ++ more)) → IsInSome Meets r.pieces (params ++ (at ++ more)) → ReadingAt p context r params at
reading_there p context ready fit over r is can params at more lp la c w =
    let m = model_of p context in
    let x = execution p m params in
    let d = models_describe p context params ready fit lp in
    let met : Meets m.context params = meets_front m.context m.params params (at ++ more) lp over.context c in
    let lq : length (params ++ at) ≡ m.params + r.count = length-append params at ∙ (λ i. lp i + la i) in
    let some : IsInSome Meets r.pieces (params ++ at) = somewhere_front r.pieces (m.params + r.count) (params ++ at) more lq can.pieces (subst (IsInSome Meets r.pieces) (sym (append_assoc params at more)) w) in
    let s = spot_there p context ready fit params lp r is at la some in
    let f = reader_cell m r is in
    let rd = reading m params x d r.position at f.0 s.0 f.1 s.1 in
    record {
      each = lp;
      holds_there = (has_context p context fit params lp).0 met;
      spot = s.0;
      here = s.1;
      cell = rd.read;
      before = rd.before;
      reads = rd.reads;
      initial = rd.initial;
      stands = at_reader m params x d met r is at rd.read rd.before (record { spot = s.0; here = s.1; reads = rd.reads });
    }

abbrev placed : (p : Program) (context : Cond) (r : Reads) (params at : List ℤ) → ReadingAt p context r params at → Placed (execution p (model_of p context) params)
placed p context r params at t = record { position = r.position; at = at; spot = t.spot; here = t.here }

-- it finds the initial contents
goes_initial : (p : Program) (context : Cond) (r : Reads) (params at : List ℤ) (t : ReadingAt p context r params at) → source t.cell t.before ≡ None → Resolves p context r.position (initial_of r.position)
goes_initial p context r params at t none =
    let x = execution p (model_of p context) params in
    let a = placed p context r params at t in
    let b : Placed x = record { position = initial_of r.position; at = at; spot = AtStart t.cell; here = t.initial } in
    record {
      params = params;
      each = t.each;
      context_holds = t.holds_there;
      a = a;
      b = b;
      goes = ((t.cell, t.before, t.reads), subst (λ (o : Option Writer). IsResolved x a t.cell o b) (sym none) (record { position_is = refl; at_is = refl; spot_is = refl }));
      from_is = refl;
      to_is = refl;
    }

-- or an instance of an assignment
goes_assigned : (p : Program) (context : Cond) (r : Reads) (params at : List ℤ) (t : ReadingAt p context r params at) (u : ℕ) (ys : List ℤ) → IsSource (execution p (model_of p context) params) t.cell t.before u ys → Resolves p context r.position (Node u 0)
goes_assigned p context r params at t u ys s =
    let x = execution p (model_of p context) params in
    let a = placed p context r params at t in
    let w = s.writer in
    let b : Placed x = record { position = Node w.entry.stmt 0; at = x.coords w.entry; spot = AtNode w w.entry.value; here = at_root x w w.entry.stmt (x.coords w.entry) s.instance.stands refl refl } in
    record {
      params = params;
      each = t.each;
      context_holds = t.holds_there;
      a = a;
      b = b;
      goes = ((t.cell, t.before, t.reads), subst (λ (o : Option Writer). IsResolved x a t.cell o b) (sym s.found) (record { position_is = refl; at_is = refl; spot_is = refl }));
      from_is = refl;
      to_is = ap (λ k. Node k 0) s.instance.stmt;
    }

case_kind : (m : Model) (r : Reads) (ws : List CopyNumbers) (cases : List Case) → AreCases m r ws cases → (case : Case) → IsAmong case cases → IsInitialCase m r case ⊎ ((w : CopyNumbers) × IsSourceCase m r w case)
case_kind m r [] [] h case i = absurd h
case_kind m r [] (c ∷ []) h case (inl e) = inl (subst (IsInitialCase m r) (sym e) h)
case_kind m r [] (c ∷ []) h case (inr i) = absurd i
case_kind m r [] (c ∷ d ∷ cs) h case i = absurd h
case_kind m r (w ∷ ws) [] h case i = absurd h
case_kind m r (w ∷ ws) (c ∷ cs) h case (inl e) = inr (w, subst (IsSourceCase m r w) (sym e) h.0)
case_kind m r (w ∷ ws) (c ∷ cs) h case (inr i) = case_kind m r ws cs h.1 case i

initial_source : (p : Program) (context : Cond) → ReadyProgram p → FitParts (length p.params) 0 context.parts → IsOver (model_of p context) → (r : Reads) → IsReader (model_of p context) r → (cases : List Case) → AreCases (model_of p context) r (writings (model_of p context) r.position r.array None) cases
    → (case : Case) → IsAmong case cases → ¬ (case.pieces ≡ []) → IsInitialCase (model_of p context) r case → Resolves p context r.position (target r.position case.source)
initial_source p context ready fit over r is cases are case i n h =
    let m = model_of p context in
    let can = reader_can m over r is in
    let l = left_point m (m.params + r.count) [] h.case_of.found 0 r.pieces case.pieces h.case_of.parts n in
    let k = in_parts l.point m.params r.count 0 (let z = l.long in omega (arith, z)) in
    let t = reading_there p context ready fit over r is can k.first k.second k.third k.first_long k.second_long (subst (Meets m.context) k.is l.context) (subst (IsInSome Meets r.pieces) k.is l.piece) in
    let none : k.third ≡ [] = no_items k.third k.third_long in
    let same : l.point ≡ k.first ++ k.second = k.is ∙ ap (λ y. k.first ++ (k.second ++ y)) none ∙ ap (λ y. k.first ++ y) (append-nil k.second) in
    let c = cases_exact m k.first (execution p m k.first) r k.second t.cell t.before t.stands can (writings m r.position r.array None) cases are case i in
    let e = (c.initial h.source).0 (subst (IsLeft case.pieces) same l.left) in
    subst (λ (o : Option ℕ). Resolves p context r.position (target r.position o)) (sym h.source) (goes_initial p context r k.first k.second t e)
  where
    no_items : (ys : List ℤ) → length ys ≡ 0 → ys ≡ []
    no_items [] e = refl
    no_items (y ∷ ys) e = absurd (omega (arith, e))

assigned_source : (p : Program) (context : Cond) → ReadyProgram p → FitParts (length p.params) 0 context.parts → IsOver (model_of p context) → (r : Reads) → IsReader (model_of p context) r → (cases : List Case) → AreCases (model_of p context) r (writings (model_of p context) r.position r.array None) cases
    → (case : Case) → IsAmong case cases → ¬ (case.pieces ≡ []) → (w : CopyNumbers) → IsSourceCase (model_of p context) r w case → Resolves p context r.position (target r.position case.source)
assigned_source p context ready fit over r is cases are case i n w h =
    let m = model_of p context in
    let can = reader_can m over r is in
    let f = formed m r w h.stmt h.own r.count h.is h.formed refl in
    let l = left_point m h.own.columns h.own.rows h.case_of.found 0 r.pieces case.pieces h.case_of.parts n in
    let k = in_parts l.point m.params r.count (width h.stmt) (l.long ∙ f.columns) in
    let t = reading_there p context ready fit over r is can k.first k.second k.third k.first_long k.second_long (subst (Meets m.context) k.is l.context) (subst (IsInSome Meets r.pieces) k.is l.piece) in
    let c = cases_exact m k.first (execution p m k.first) r k.second t.cell t.before t.stands can (writings m r.position r.array None) cases are case i in
    let e = (c.assigned w.stmt h.stmt k.third h.source h.is k.third_long).0 (subst (IsLeft case.pieces) k.is l.left) in
    subst (λ (o : Option ℕ). Resolves p context r.position (target r.position o)) (sym h.source) (goes_assigned p context r k.first k.second t w.stmt k.third e.0)

source_there : (p : Program) (context : Cond) (f : Flow) → HasFlow p context f → (from to : Position) → IsEdge f from to → IsNamed (model_of p context) from × Resolves p context from to
source_there p context f h from to e =
    let m = model_of p context in
    let over = is_over m (record { program = p; context = context; ready = h.ready; fit = h.fit; is = refl }) in
    let z = reader_of_flow m (readers m) f.reads h.flows e.read e.among in
    let r = z.0 in
    let is = is_reader m r z.1 in
    let name : r.position ≡ from = sym z.2.0 ∙ sym e.from_is in
    let goes : Resolves p context r.position (target r.position e.case.source) = elim (case_kind m r (writings m r.position r.array None) e.read.cases z.2.1 e.case e.case_among) [
      | inl a ↦ initial_source p context h.ready h.fit over r is e.read.cases z.2.1 e.case e.case_among e.left a
      | inr a ↦ assigned_source p context h.ready h.fit over r is e.read.cases z.2.1 e.case e.case_among e.left a.0 a.1
    ] in
    let reach : target r.position e.case.source ≡ to = ap (λ (P : Position). target P e.case.source) (sym z.2.0) ∙ sym e.to_is in
    (subst (IsNamed m) name (reader_named m r z.1), subst (λ (P : Position). Resolves p context P to) name (subst (λ (P : Position). Resolves p context r.position P) reach goes))

edge_from : (p : Program) (context : Cond) (f : Flow) → HasFlow p context f → (from to : Position) → IsNamed (model_of p context) from → Resolves p context from to → IsEdge f from to
edge_from p context f h from to n s =
    let m = model_of p context in
    let over = is_over m (record { program = p; context = context; ready = h.ready; fit = h.fit; is = refl }) in
    let d = models_describe p context s.params h.ready h.fit s.each in
    let c = (has_context p context h.fit s.params s.each).1 s.context_holds in
    let e = edge_there m s.params (execution p m s.params) d c over f h.flows s.a s.b (subst (IsNamed m) (sym s.from_is) n) s.goes in
    subst (λ (P : Position). IsEdge f P to) s.from_is (subst (λ (P : Position). IsEdge f s.a.position P) s.to_is e)

pub edges_are_sources : EdgesAreSources
edges_are_sources p context f h from to = (source_there p context f h from to, (λ s. edge_from p context f h from to s.0 s.1))
