-- For each case of a reading exactly the instances whose source it is.
use Rattle.std.proofs.Common.{◌≡◌, ◌↔◌, inl, inr, ℕ, ◌+◌, ℤ, List, [], ◌∷◌, ◌++◌, map, length, Option, Some, None, refl, sym, ap, ◌∙◌, subst, arith, append_assoc, append-nil, length-append}
use Rattle.std.specs.Prelude.{slice_get, option_map}
use Rattle.ac_forms.specs.Negation.{HasExtension}
use Rattle.ac_forms.specs.PieceMembership.{IsInSome, IsInNone}
use Rattle.ac_forms.specs.Rows.{Meets, AreRowsOver}
use Rattle.ac_forms.specs.declared.conj.Conj.{Conj}
use Rattle.ac_forms.specs.declared.row.Row.{Row}
use Rattle.ac_syntax.specs.Algebra.{Cell}
use Rattle.ac_syntax.specs.Source.{Writer, source}
use Rattle.ac_syntax.specs.Trace.{Entry}
use Rattle.ac_poly.specs.declared.types.Model.{Model}
use Rattle.ac_poly.specs.declared.types.StmtModel.{StmtModel}
use Rattle.ac_omega_steps.proofs.Keeping.{Meets-append}
use Rattle.ac_base.proofs.Options.{bind-some, map-some, some-is}
use Rattle.ac_claims_paths.specs.PathColumns.{all_of}
use Rattle.ac_claims_paths.specs.InstanceCoordinates.{width}
use Rattle.ac_claims_paths.specs.Executions.{Execution, Describes}
use Rattle.ac_claims_paths.specs.PathSteps.{root}
use Rattle.ac_claims_paths.specs.CopyKills.{case_width, after_rows}
use Rattle.ac_forms.specs.ListMembers.{IsAmong}
use Rattle.ac_claims_paths.specs.ModelPositions.{cell_read}
use Rattle.ac_claims_paths.specs.declared.path.CopyNumbers.{CopyNumbers}
use Rattle.ac_claims_paths.specs.declared.places.CellForms.{CellForms}
use Rattle.ac_claims_paths.proofs.InBranches.{made-wide}
use Rattle.ac_flow.specs.FlowCases.{Reads, CanRead, IsSourceCase, IsInitialCase, AreCases, conj_of_remainder}
use Rattle.ac_flow.specs.Flows.{IsLeft, CaseIsTheSource, HasCase}
use Rattle.ac_flow.specs.Sources.{IsReading, IsSource}
use Rattle.ac_flow.specs.Writings.{alone, reading, writing, rows_of, over, conj_of, writings, copies}
use Rattle.ac_flow.specs.declared.types.Case.{Case}
use Rattle.ac_flow.proofs.CopyParts.{parts_of}
use Rattle.ac_flow.proofs.Leaving.{left_is}
use Rattle.ac_flow.proofs.Sourcing.{no_copy, the_source_has_rows}

-- a read or an output at its coordinates: what the cases are told of
pub record ReadHere (m : Model) (params : List ℤ) (x : Execution) (r : Reads) (at : List ℤ) (cell : Cell) (before : List Entry) : Type 0 where
  pub describes : Describes m params x
  pub forms : CellForms
  pub read : cell_read m r.position ≡ Some forms
  pub array : r.array ≡ forms.array
  pub here : IsReading x r.position at cell before
  pub count : r.count ≡ length at
  pub piece : IsInSome Meets r.pieces (params ++ at)
  pub context : Meets m.context params

-- ---- the writing of a case

after_is : (m : Model) (w : CopyNumbers) (o : Option ℕ) (seat : _) (stmt : StmtModel) (rows : List Row) → after_rows (alone m) m None o w.stmt seat stmt ≡ Some rows → o ≡ None
after_is m w None seat stmt rows e = refl
after_is m w (Some k) seat stmt rows e = absurd cc

-- the parts of a formed writing
pub record Formed (m : Model) (r : Reads) (w : CopyNumbers) (stmt : StmtModel) (own : Conj) (k : ℕ) : Type 0 where
  pub rows : rows_of m (reading m r.position k None) (m.params + k) w stmt ≡ Some own.rows
  pub after : w.after ≡ None
  pub columns : own.columns ≡ m.params + k + width stmt

none_width : (p k : ℕ) → p + (k + 0) ≡ p + k
none_width p k = omega arith

pub formed : (m : Model) (r : Reads) (w : CopyNumbers) (stmt : StmtModel) (own : Conj) (k : ℕ) → slice_get m.stmts w.stmt ≡ Some stmt → conj_of m (reading m r.position r.count None) w ≡ Some own → r.count ≡ k → Formed m r w stmt own k
formed m r w stmt own k is e c =
    let a = reading m r.position r.count None in
    let n = case_width m.params a in
    let s = bind-some (slice_get m.stmts w.stmt) (λ (stmt : StmtModel). option_map (over (n + width stmt)) (rows_of m a n w stmt)) own e in
    let q = map-some (rows_of m a n w s.0) (over (n + width s.0)) own s.2 in
    let same : s.0 ≡ stmt = some-is s.0 stmt (sym s.1 ∙ is) in
    let own_rows : q.0 ≡ own.rows = ap (λ (x : Conj). x.rows) (sym q.2) in
    let there : rows_of m a n w stmt ≡ Some own.rows = ap (rows_of m a n w) (sym same) ∙ q.1 ∙ ap Some own_rows in
    let z : n ≡ m.params + k = none_width m.params r.count ∙ ap (λ j. m.params + j) c in
    let rows : rows_of m (reading m r.position k None) (m.params + k) w stmt ≡ Some own.rows = (λ i. rows_of m (reading m r.position (sym c i) None) (sym z i) w stmt) ∙ there in
    let parts = parts_of m r.position k None (m.params + k) w stmt own.rows rows in
    record {
      rows = rows;
      after = after_is m w w.after (root (m.params + k) w.stmt stmt) stmt parts.second parts.later;
      columns = ap (λ (x : Conj). x.columns) q.2 ∙ (λ i. z i + width (same i));
    }

-- the numbers of a case's writing
numbers : (w : CopyNumbers) (case : Case) → w.after ≡ None → case.piece ≡ w.piece → case.level ≡ w.before → writing w.stmt case.piece case.level None ≡ w
numbers w case a p l = λ i. record { stmt = w.stmt; piece = p i; after = sym a i; before = l i }

-- ---- the case of a writing

three : (a b c : List ℤ) → a ++ (b ++ c) ≡ (a ++ b) ++ c
three a b c = sym (append_assoc a b c)

source_case : (m : Model) (params : List ℤ) (x : Execution) (r : Reads) (at : List ℤ) (cell : Cell) (before : List Entry) → ReadHere m params x r at cell before → CanRead m r → (w : CopyNumbers) (case : Case) → (h : IsSourceCase m r w case)
    → (ys : List ℤ) → length ys ≡ width h.stmt → (IsLeft case.pieces (params ++ (at ++ ys)) → IsSource x cell before w.stmt ys × Meets h.own.rows (params ++ (at ++ ys)))
    × (Meets h.own.rows (params ++ (at ++ ys)) → IsSource x cell before w.stmt ys → IsLeft case.pieces (params ++ (at ++ ys)))
source_case m params x r at cell before t can w case h ys long =
    let f = formed m r w h.stmt h.own (length at) h.is h.formed t.count in
    let lp : length (params ++ at) ≡ m.params + r.count = length-append params at ∙ (λ i. sym t.describes.count i + sym t.count i) in
    let lq : length ((params ++ at) ++ ys) ≡ h.own.columns = length-append (params ++ at) ys ∙ (λ i. (lp ∙ ap (λ k. m.params + k) t.count) i + long i) ∙ sym f.columns in
    let pts = left_is m h.own.columns h.own.rows h.case_of.found h.case_of.all r.pieces case.pieces (m.params + r.count) (params ++ at) ys h.case_of.parts h.case_of.killed context_wide can.pieces lp context_more t.piece lq in
    let back = three params at ys in
    let all : all_of (copies m (reading m r.position (length at) (Some (root (m.params + length at) w.stmt h.stmt))) t.forms.array) ≡ Some h.case_of.all =
    (λ i. all_of (copies m (reading m r.position (sym t.count i) (Some (root (m.params + sym t.count i) w.stmt h.stmt))) (sym t.array i))) ∙ h.case_of.made in
    let nc = (no_copy m params x t.describes r.position t.forms t.read).assumed at ys cell before w h.stmt h.own.rows h.case_of.all t.here h.is long f.rows in (
      (λ l. let z = pts.0 (subst (λ q. IsInSome HasExtension (map conj_of_remainder case.pieces) q) back l) in let me = subst (Meets h.own.rows) (sym back) z.0 in ((nc me all).1 (subst (λ q. IsInNone HasExtension h.case_of.all q) (sym back) z.1), me)),
      (λ me s. subst (λ q. IsInSome HasExtension (map conj_of_remainder case.pieces) q) (sym back) (pts.1 (subst (Meets h.own.rows) back me, subst (λ q. IsInNone HasExtension h.case_of.all q) back ((nc me all).0 s)))),
    )
  where
    context_wide : AreRowsOver (m.params + r.count) m.context
    context_wide = made-wide m.context m.params (m.params + r.count) (omega arith) can.context

    context_more : Meets m.context (params ++ at)
    context_more = Meets-append m.context m.params params at (let c = t.describes.count in omega (arith, c)) can.context t.context

source_exact : (m : Model) (params : List ℤ) (x : Execution) (r : Reads) (at : List ℤ) (cell : Cell) (before : List Entry) → ReadHere m params x r at cell before → CanRead m r → (w : CopyNumbers) (case : Case) → IsSourceCase m r w case → CaseIsTheSource m params x r.position at cell before case
source_exact m params x r at cell before t can w case h = record {
  initial = λ e. absurd (let z : None ≡ Some w.stmt = sym e ∙ h.source in cc);
  assigned = λ u stmt ys e is long.
      let z : w.stmt ≡ u = some-is w.stmt u (sym h.source ∙ e) in
      let same : h.stmt ≡ stmt = some-is h.stmt stmt (sym h.is ∙ ap (slice_get m.stmts) z ∙ is) in
      let c = source_case m params x r at cell before t can w case h ys (long ∙ ap width (sym same)) in
      let f = formed m r w h.stmt h.own (length at) h.is h.formed t.count in
      let n = numbers w case f.after h.piece h.level in
      let made : conj_of m (reading m r.position (length at) None) w ≡ Some h.own = (λ i. conj_of m (reading m r.position (sym t.count i) None) w) ∙ h.formed in
      let named : writing u case.piece case.level None ≡ w = (λ i. writing (sym z i) case.piece case.level None) ∙ n in (
        (λ l. let s = c.0 l in (subst (λ k. IsSource x cell before k ys) z s.0, record { own = h.own; formed = ap (conj_of m (reading m r.position (length at) None)) named ∙ made; meets = s.1 })),
        (λ s.
            let k = s.1 in
            let o : k.own ≡ h.own = some-is k.own h.own (sym k.formed ∙ ap (conj_of m (reading m r.position (length at) None)) named ∙ made) in
            c.1 (subst (λ (y : Conj). Meets y.rows (params ++ (at ++ ys))) o k.meets) (subst (λ k. IsSource x cell before k ys) (sym z) s.0)),
      );
}

-- ---- the case of the initial contents

initial_exact : (m : Model) (params : List ℤ) (x : Execution) (r : Reads) (at : List ℤ) (cell : Cell) (before : List Entry) → ReadHere m params x r at cell before → CanRead m r → (case : Case) → IsInitialCase m r case → CaseIsTheSource m params x r.position at cell before case
initial_exact m params x r at cell before t can case h = record {
  initial = λ e. (
    (λ l. let z = pts.0 (subst (λ q. IsInSome HasExtension (map conj_of_remainder case.pieces) q) (sym none) l) in nc.1 (subst (λ q. IsInNone HasExtension h.case_of.all q) none z.1)),
    (λ s. subst (λ q. IsInSome HasExtension (map conj_of_remainder case.pieces) q) none (pts.1 (tt, subst (λ q. IsInNone HasExtension h.case_of.all q) (sym none) (nc.0 s)))),
  );
  assigned = λ u stmt ys e is long. absurd (let z : None ≡ Some u = sym h.source ∙ e in cc);
}
  where
    none : (params ++ at) ++ [] ≡ params ++ at
    none = append-nil (params ++ at)

    lp : length (params ++ at) ≡ m.params + r.count
    lp = length-append params at ∙ (λ i. sym t.describes.count i + sym t.count i)

    pts : IsInSome HasExtension (map conj_of_remainder case.pieces) ((params ++ at) ++ []) ↔ (Meets [] ((params ++ at) ++ []) × IsInNone HasExtension h.case_of.all ((params ++ at) ++ []))
    pts = left_is m (m.params + r.count) [] h.case_of.found h.case_of.all r.pieces case.pieces (m.params + r.count) (params ++ at) [] h.case_of.parts h.case_of.killed
        (made-wide m.context m.params (m.params + r.count) (omega arith) can.context) can.pieces lp
        (Meets-append m.context m.params params at (let c = t.describes.count in omega (arith, c)) can.context t.context) t.piece (ap (λ (q : List ℤ). length q) none ∙ lp)

    nc : (source cell before ≡ None) ↔ IsInNone HasExtension h.case_of.all (params ++ at)
    nc = (no_copy m params x t.describes r.position t.forms t.read).initial at cell before h.case_of.all t.here ((λ i. all_of (copies m (reading m r.position (sym t.count i) None) (sym t.array i))) ∙ h.case_of.made)

-- ---- all cases

pub cases_exact : (m : Model) (params : List ℤ) (x : Execution) (r : Reads) (at : List ℤ) (cell : Cell) (before : List Entry) → ReadHere m params x r at cell before → CanRead m r → (ws : List CopyNumbers) (cases : List Case) → AreCases m r ws cases → (case : Case) → IsAmong case cases → CaseIsTheSource m params x r.position at cell before case
cases_exact m params x r at cell before t can [] [] h case k = absurd k
cases_exact m params x r at cell before t can [] (c ∷ []) h case (inl e) = subst (CaseIsTheSource m params x r.position at cell before) (sym e) (initial_exact m params x r at cell before t can c h)
cases_exact m params x r at cell before t can [] (c ∷ []) h case (inr k) = absurd k
cases_exact m params x r at cell before t can [] (c ∷ d ∷ cs) h case k = absurd h
cases_exact m params x r at cell before t can (w ∷ ws) [] h case k = absurd h
cases_exact m params x r at cell before t can (w ∷ ws) (c ∷ cs) h case (inl e) = subst (CaseIsTheSource m params x r.position at cell before) (sym e) (source_exact m params x r at cell before t can w c h.0)
cases_exact m params x r at cell before t can (w ∷ ws) (c ∷ cs) h case (inr k) = cases_exact m params x r at cell before t can ws cs h.1 case k

-- the case of the initial contents is the last one
pub last_case : (m : Model) (r : Reads) (ws : List CopyNumbers) (cases : List Case) → AreCases m r ws cases → (case : Case) × IsAmong case cases × IsInitialCase m r case
last_case m r [] [] h = absurd h
last_case m r [] (c ∷ []) h = (c, inl refl, h)
last_case m r [] (c ∷ d ∷ cs) h = absurd h
last_case m r (w ∷ ws) [] h = absurd h
last_case m r (w ∷ ws) (c ∷ cs) h = let z = last_case m r ws cs h.1 in (z.0, inr z.1, z.2)

pub case_of_writing : (m : Model) (r : Reads) (ws : List CopyNumbers) (cases : List Case) → AreCases m r ws cases → (w : CopyNumbers) → IsAmong w ws → (case : Case) × IsAmong case cases × IsSourceCase m r w case
case_of_writing m r [] cases h w k = absurd k
case_of_writing m r (v ∷ ws) [] h w k = absurd h
case_of_writing m r (v ∷ ws) (c ∷ cs) h w (inl e) = (c, inl refl, subst (λ (y : CopyNumbers). IsSourceCase m r y c) (sym e) h.0)
case_of_writing m r (v ∷ ws) (c ∷ cs) h w (inr k) = let z = case_of_writing m r ws cs h.1 w k in (z.0, inr z.1, z.2)

pub has_case : (m : Model) (params : List ℤ) (x : Execution) (r : Reads) (at : List ℤ) (cell : Cell) (before : List Entry) → ReadHere m params x r at cell before → CanRead m r → (cases : List Case) → AreCases m r (writings m r.position r.array None) cases → HasCase m params at cases
has_case m params x r at cell before t can cases h = by (source cell before) refl
  where
    by : (o : Option Writer) → source cell before ≡ o → HasCase m params at cases
    by None e =
        let c = last_case m r (writings m r.position r.array None) cases h in
        let i = (initial_exact m params x r at cell before t can c.0 c.2).initial c.2.source in
        record { case = c.0; among = c.1; more = []; left = subst (λ q. IsInSome HasExtension (map conj_of_remainder c.0.pieces) q) (ap (λ (q : List ℤ). params ++ q) (sym (append-nil at))) (i.1 e) }
    by (Some u) e =
        let s = the_source_has_rows m params x t.describes r.position t.forms t.read at cell before u t.here e in
        let k : IsAmong s.writing (writings m r.position r.array None) = subst (λ a. IsAmong s.writing (writings m r.position a None)) (sym t.array) s.among in
        let c = case_of_writing m r (writings m r.position r.array None) cases h s.writing k in
        let g = c.2 in
        let same : g.stmt ≡ s.stmt = some-is g.stmt s.stmt (sym g.is ∙ s.is) in
        let f = formed m r s.writing g.stmt g.own (length at) g.is g.formed t.count in
        let me : Meets g.own.rows (params ++ (at ++ x.coords u.entry)) = s.meets g.own.rows (ap (rows_of m (reading m r.position (length at) None) (m.params + length at) s.writing) (sym same) ∙ f.rows) in
        let d = source_case m params x r at cell before t can s.writing c.0 g (x.coords u.entry) (s.wide ∙ ap width (sym same)) in
        record { case = c.0; among = c.1; more = x.coords u.entry; left = d.1 me (record { writer = u; found = e; instance = s.instance }) }
