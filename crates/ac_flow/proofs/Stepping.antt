-- A read goes to a case's source exactly where the case's rows hold and none of its kills.
use Rattle.std.proofs.Common.{◌≡◌, ◌↔◌, ◌⊎◌, inl, inr, ℕ, ◌+◌, ℤ, List, ◌++◌, length, Option, Some, None, refl, sym, ap, ◌∙◌, subst, arith, length-append}
use Rattle.std.specs.Prelude.{slice_get}
use Rattle.ac_forms.specs.Rows.{Meets}
use Rattle.ac_forms.specs.declared.conj.Conj.{Conj}
use Rattle.ac_syntax.specs.Algebra.{Cell}
use Rattle.ac_syntax.specs.Source.{Writer, source}
use Rattle.ac_syntax.specs.Spot.{Reads as IsRead}
use Rattle.ac_syntax.specs.Trace.{Entry}
use Rattle.ac_syntax.specs.declared.tree.Cond.{Cond}
use Rattle.ac_syntax.specs.declared.tree.Position.{Position}
use Rattle.ac_syntax.specs.declared.tree.Program.{Program}
use Rattle.ac_poly.specs.Model.{model_of, PiecesAreApart}
use Rattle.ac_poly.specs.declared.types.Model.{Model}
use Rattle.ac_poly.proofs.PiecesApart.{pieces_are_apart}
use Rattle.ac_base.proofs.Options.{some-is}
use Rattle.ac_claims_paths.specs.PathColumns.{all_of}
use Rattle.ac_claims_paths.specs.InstanceCoordinates.{width}
use Rattle.ac_claims_paths.specs.Executions.{Execution, Describes, execution}
use Rattle.ac_claims_paths.specs.PathSteps.{root}
use Rattle.ac_forms.specs.ListMembers.{IsAmong}
use Rattle.ac_claims_paths.specs.Pairs.{Placed}
use Rattle.ac_claims_paths.specs.declared.path.CopyNumbers.{CopyNumbers}
use Rattle.ac_claims_paths.proofs.Described.{models_describe}
use Rattle.ac_flow.specs.FlowCases.{Reads, IsSourceCase, IsInitialCase, AreCases}
use Rattle.ac_flow.specs.Flows.{MeetsCase}
use Rattle.ac_flow.specs.Sources.{IsReading, IsSource}
use Rattle.ac_flow.specs.Writings.{reading, writing, rows_of, conj_of, writings, copies}
use Rattle.ac_flow.specs.declared.types.Case.{Case}
use Rattle.ac_flow.specs.declared.types.ReadFlow.{ReadFlow}
use Rattle.ac_flow.proofs.Exact.{ReadHere, formed}
use Rattle.ac_flow.proofs.Linking.{is_reader, at_reader}
use Rattle.ac_flow.proofs.OneCase.{one_case}
use Rattle.ac_flow.proofs.Sourcing.{no_copy, the_source_has_rows}
use Rattle.ac_flow.specs.SourceSteps.{GoesToRoot, GoesToStart, InNoKill, IsReadOf, MeetsRows, IsStepCase, CasesAreSteps, StartsIn, ComesFrom, StepsAreOfCases, IsOneStep, StepsAreDetermined}
use Rattle.ac_flow.proofs.KillParts.{IsCase, OfWriting, OfContents, case_in}
use Rattle.ac_flow.proofs.Exact.{case_of_writing}
use Rattle.ac_flow.proofs.Exact.{last_case}
use Rattle.ac_flow.proofs.KillPoints.{no_kill}
use Rattle.ac_flow.proofs.Readings.{Found, found_there, reading_of, to_start, to_root, from_start, from_root, is_source}

-- ---- a reading, and the case of the initial contents

starts_exactly : (m : Model) (params : List ℤ) (x : Execution) (r : Reads) (at : List ℤ) (cell : Cell) (before : List Entry) → ReadHere m params x r at cell before → (case : Case) → IsInitialCase m r case → (source cell before ≡ None) ↔ InNoKill case.kills (params ++ at)
starts_exactly m params x r at cell before t case h =
    let c = h.case_of in
    let l : length (params ++ at) ≡ m.params + r.count = length-append params at ∙ (λ i. sym t.describes.count i + sym t.count i) in
    let n = (no_copy m params x t.describes r.position t.forms t.read).initial at cell before c.all t.here ((λ i. all_of (copies m (reading m r.position (sym t.count i) None) (sym t.array i))) ∙ c.made) in
    let k = no_kill m (reading m r.position r.count None) (m.params + r.count) (writings m r.position r.array None) c.all c.found (params ++ at) c.made c.killed l in
    ((λ s. subst (λ ks. InNoKill ks (params ++ at)) (sym c.are) (k.0 (n.0 s))), (λ s. n.1 (k.1 (subst (λ ks. InNoKill ks (params ++ at)) c.are s))))

-- ---- a reading, and the case of a writing

-- what stands where the rows of the case hold
own_rows : (m : Model) (params : List ℤ) (x : Execution) (r : Reads) (at : List ℤ) (cell : Cell) (before : List Entry) → ReadHere m params x r at cell before → (w : CopyNumbers) (case : Case) → (h : IsSourceCase m r w case) (u : ℕ) (p : List ℤ) → w.stmt ≡ u
    → MeetsCase m r.position (length at) u case p → Meets h.own.rows p
own_rows m params x r at cell before t w case h u p z c =
    let f = formed m r w h.stmt h.own (length at) h.is h.formed t.count in
    let n : writing w.stmt case.piece case.level None ≡ w = λ i. record { stmt = w.stmt; piece = h.piece i; after = sym f.after i; before = h.level i } in
    let named : writing u case.piece case.level None ≡ w = (λ i. writing (sym z i) case.piece case.level None) ∙ n in
    let made : conj_of m (reading m r.position (length at) None) w ≡ Some h.own = (λ i. conj_of m (reading m r.position (sym t.count i) None) w) ∙ h.formed in
    let o : c.own ≡ h.own = some-is c.own h.own (sym c.formed ∙ ap (conj_of m (reading m r.position (length at) None)) named ∙ made) in
    subst (λ (y : Conj). Meets y.rows p) o c.meets

meets_case : (m : Model) (params : List ℤ) (x : Execution) (r : Reads) (at : List ℤ) (cell : Cell) (before : List Entry) → ReadHere m params x r at cell before → (w : CopyNumbers) (case : Case) → (h : IsSourceCase m r w case) (p : List ℤ) → Meets h.own.rows p
    → MeetsCase m r.position (length at) w.stmt case p
meets_case m params x r at cell before t w case h p me =
    let f = formed m r w h.stmt h.own (length at) h.is h.formed t.count in
    let n : writing w.stmt case.piece case.level None ≡ w = λ i. record { stmt = w.stmt; piece = h.piece i; after = sym f.after i; before = h.level i } in
    let made : conj_of m (reading m r.position (length at) None) w ≡ Some h.own = (λ i. conj_of m (reading m r.position (sym t.count i) None) w) ∙ h.formed in
    record { own = h.own; formed = ap (conj_of m (reading m r.position (length at) None)) n ∙ made; meets = me }

source_exactly : (m : Model) (params : List ℤ) (x : Execution) (r : Reads) (at : List ℤ) (cell : Cell) (before : List Entry) → ReadHere m params x r at cell before → (w : CopyNumbers) (case : Case) → (h : IsSourceCase m r w case)
    → (ys : List ℤ) → length ys ≡ width h.stmt → Meets h.own.rows (params ++ (at ++ ys)) → IsSource x cell before w.stmt ys ↔ InNoKill case.kills (params ++ (at ++ ys))
source_exactly m params x r at cell before t w case h ys long me =
    let c = h.case_of in
    let p = params ++ (at ++ ys) in
    let f = formed m r w h.stmt h.own (length at) h.is h.formed t.count in
    let z : m.params + (length at + width h.stmt) ≡ m.params + length at + width h.stmt = omega arith in
    let l : length p ≡ h.own.columns = length-append params (at ++ ys) ∙ (λ i. sym t.describes.count i + (length-append at ys ∙ ap (λ k. length at + k) long) i) ∙ z ∙ sym f.columns in
    let all : all_of (copies m (reading m r.position (length at) (Some (root (m.params + length at) w.stmt h.stmt))) t.forms.array) ≡ Some c.all =
    (λ i. all_of (copies m (reading m r.position (sym t.count i) (Some (root (m.params + sym t.count i) w.stmt h.stmt))) (sym t.array i))) ∙ c.made in
    let n = (no_copy m params x t.describes r.position t.forms t.read).assumed at ys cell before w h.stmt h.own.rows c.all t.here h.is long f.rows me all in
    let source = Some (root (m.params + r.count) w.stmt h.stmt) in
    let k = no_kill m (reading m r.position r.count source) h.own.columns (writings m r.position r.array source) c.all c.found p c.made c.killed l in
    ((λ s. subst (λ ks. InNoKill ks p) (sym c.are) (k.0 (n.0 s))), (λ s. n.1 (k.1 (subst (λ ks. InNoKill ks p) c.are s))))

-- ---- at the coordinates of a reader

-- whatever it reads there
unfoldable pub Reading : (m : Model) (params : List ℤ) (x : Execution) (r : Reads) (a : Placed x) → Type 0
Reading m params x r a = (cell : Cell) (before : List Entry) → IsRead x.trace a.spot cell before → ReadHere m params x r a.at cell before

-- the source of a reading, where the rows of a case of a writing hold and none of its kills
comes_from : (m : Model) (params : List ℤ) (x : Execution) (r : Reads) (a : Placed x) → a.position ≡ r.position → (cell : Cell) (before : List Entry) → ReadHere m params x r a.at cell before
    → (case : Case) → IsCase m r case → (u : ℕ) (ys : List ℤ) → MeetsRows m params x a case u ys → IsSource x cell before u ys ↔ InNoKill case.kills (params ++ (a.at ++ ys))
comes_from m params x r a e cell before t case (OfContents h) u ys me = absurd (let z : None ≡ Some u = sym h.source ∙ me.source in cc)
comes_from m params x r a e cell before t case (OfWriting w h) u ys me =
    let p = params ++ (a.at ++ ys) in
    let z : w.stmt ≡ u = some-is w.stmt u (sym h.source ∙ me.source) in
    let same : h.stmt ≡ me.stmt = some-is h.stmt me.stmt (sym h.is ∙ ap (slice_get m.stmts) z ∙ me.is) in
    let rows = own_rows m params x r a.at cell before t w case h u p z (subst (λ (P : Position). MeetsCase m P (length a.at) u case p) e me.meets) in
    let s = source_exactly m params x r a.at cell before t w case h ys (me.wide ∙ ap width (sym same)) rows in
    ((λ i. s.0 (subst (λ k. IsSource x cell before k ys) (sym z) i)), (λ n. subst (λ k. IsSource x cell before k ys) z (s.1 n)))

starts_in : (m : Model) (params : List ℤ) (x : Execution) (r : Reads) (at : List ℤ) (cell : Cell) (before : List Entry) → ReadHere m params x r at cell before → (case : Case) → IsCase m r case → case.source ≡ None → (source cell before ≡ None) ↔ InNoKill case.kills (params ++ at)
starts_in m params x r at cell before t case (OfContents h) e = starts_exactly m params x r at cell before t case h
starts_in m params x r at cell before t case (OfWriting w h) e = absurd (let z : None ≡ Some w.stmt = sym e ∙ h.source in cc)

step_case : (m : Model) (params : List ℤ) (x : Execution) (r : Reads) (a : Placed x) → a.position ≡ r.position → Reading m params x r a → Found x a → (case : Case) → IsCase m r case → IsStepCase m params x a case
unfolding Reading
step_case m params x r a e here f case c = record {
  initial = λ none. (
    (λ g. let s = from_start x a g in (starts_in m params x r a.at s.cell s.before (here s.cell s.before s.reads) case c none).0 s.none),
    (λ n. to_start x a f ((starts_in m params x r a.at f.cell f.before (here f.cell f.before f.reads) case c none).1 n)),
  );
  assigned = λ u ys me. (
    (λ g. let s = from_root x a u ys g in (comes_from m params x r a e s.cell s.before (here s.cell s.before s.reads) case c u ys me).0 s.source_is),
    (λ n. to_root x a f.cell f.before f.reads u ys ((comes_from m params x r a e f.cell f.before (here f.cell f.before f.reads) case c u ys me).1 n)),
  );
}

-- ---- the case of a step

start_case : (m : Model) (params : List ℤ) (x : Execution) (r : Reads) (a : Placed x) → Reading m params x r a → (cases : List Case) → AreCases m r (writings m r.position r.array None) cases → GoesToStart x a → StartsIn m params x a cases
unfolding Reading
start_case m params x r a here cases h g =
    let s = from_start x a g in
    let c = last_case m r (writings m r.position r.array None) cases h in
    record { case = c.0; among = c.1; source = c.2.source; outside = (starts_exactly m params x r a.at s.cell s.before (here s.cell s.before s.reads) c.0 c.2).0 s.none }

-- the case of the source of a reading
case_there : (m : Model) (params : List ℤ) (x : Execution) (r : Reads) (a : Placed x) → a.position ≡ r.position → (cell : Cell) (before : List Entry) → ReadHere m params x r a.at cell before
    → (cases : List Case) → AreCases m r (writings m r.position r.array None) cases → (w : Writer) → source cell before ≡ Some w → ComesFrom m params x a cases w.entry.stmt (x.coords w.entry)
case_there m params x r a e cell before t cases h w found =
    let ys = x.coords w.entry in
    let s = the_source_has_rows m params x t.describes r.position t.forms t.read a.at cell before w t.here found in
    let i : IsAmong s.writing (writings m r.position r.array None) = subst (λ k. IsAmong s.writing (writings m r.position k None)) (sym t.array) s.among in
    let c = case_of_writing m r (writings m r.position r.array None) cases h s.writing i in
    let g = c.2 in
    let same : g.stmt ≡ s.stmt = some-is g.stmt s.stmt (sym g.is ∙ s.is) in
    let f = formed m r s.writing g.stmt g.own (length a.at) g.is g.formed t.count in
    let me : Meets g.own.rows (params ++ (a.at ++ ys)) = s.meets g.own.rows (ap (rows_of m (reading m r.position (length a.at) None) (m.params + length a.at) s.writing) (sym same) ∙ f.rows) in
    let wide : length ys ≡ width g.stmt = s.wide ∙ ap width (sym same) in
    let met = meets_case m params x r a.at cell before t s.writing c.0 g (params ++ (a.at ++ ys)) me in
    let n = (source_exactly m params x r a.at cell before t s.writing c.0 g ys wide me).0 (record { writer = w; found = found; instance = s.instance }) in
    let z : s.writing.stmt ≡ w.entry.stmt = sym s.instance.stmt in
    subst (λ k. ComesFrom m params x a cases k ys) z (record {
      case = c.0;
      among = c.1;
      rows = record { source = g.source; stmt = g.stmt; is = g.is; wide = wide; meets = subst (λ (P : Position). MeetsCase m P (length a.at) s.writing.stmt c.0 (params ++ (a.at ++ ys))) (sym e) met };
      outside = n;
    })

root_case : (m : Model) (params : List ℤ) (x : Execution) (r : Reads) (a : Placed x) → a.position ≡ r.position → Reading m params x r a → (cases : List Case) → AreCases m r (writings m r.position r.array None) cases
    → (u : ℕ) (ys : List ℤ) → GoesToRoot x a u ys → ComesFrom m params x a cases u ys
unfolding Reading
root_case m params x r a e here cases h u ys g =
    let s = from_root x a u ys g in
    let i = s.source_is in
    let c = case_there m params x r a e s.cell s.before (here s.cell s.before s.reads) cases h i.writer i.found in
    subst (λ q. ComesFrom m params x a cases u q) i.instance.coords (subst (λ k. ComesFrom m params x a cases k (x.coords i.writer.entry)) i.instance.stmt c)

goes_somewhere : (x : Execution) (a : Placed x) → Found x a → GoesToStart x a ⊎ ((u : ℕ) × (ys : List ℤ) × GoesToRoot x a u ys)
goes_somewhere x a f = by (source f.cell f.before) refl
  where
    by : (o : Option Writer) → source f.cell f.before ≡ o → GoesToStart x a ⊎ ((u : ℕ) × (ys : List ℤ) × GoesToRoot x a u ys)
    by None e = inl (to_start x a f e)
    by (Some w) e = inr (w.entry.stmt, x.coords w.entry, to_root x a f.cell f.before f.reads w.entry.stmt (x.coords w.entry) (is_source x a f.cell f.before f.reads w e))

-- ---- only one

one_step : (m : Model) (params : List ℤ) (x : Execution) (r : Reads) (a : Placed x) → a.position ≡ r.position → PiecesAreApart m → (cell : Cell) (before : List Entry) → ReadHere m params x r a.at cell before
    → (cases : List Case) → AreCases m r (writings m r.position r.array None) cases → IsOneStep m params x a cases
one_step m params x r a e apart cell before t cases h = record {
  one_case = λ u v ys zs f g. one_case m params x t.describes apart r.position a.at ys zs cell before u v f.rows.stmt g.rows.stmt f.case g.case f.rows.is g.rows.is f.rows.wide g.rows.wide (source_of u ys f) (source_of v zs g) (here_meets u ys f) (here_meets v zs g);
  one_kind = λ u ys s f. none_some u ys (starts s) (source_of u ys f);
}
  where
    kind : (case : Case) → IsAmong case cases → IsCase m r case
    kind case i = case_in m r (writings m r.position r.array None) cases h case i

    source_of : (u : ℕ) (ys : List ℤ) → ComesFrom m params x a cases u ys → IsSource x cell before u ys
    source_of u ys f = (comes_from m params x r a e cell before t f.case (kind f.case f.among) u ys f.rows).1 f.outside

    here_meets : (u : ℕ) (ys : List ℤ) (f : ComesFrom m params x a cases u ys) → MeetsCase m r.position (length a.at) u f.case (params ++ (a.at ++ ys))
    here_meets u ys f = subst (λ (P : Position). MeetsCase m P (length a.at) u f.case (params ++ (a.at ++ ys))) e f.rows.meets

    starts : StartsIn m params x a cases → source cell before ≡ None
    starts s = (starts_in m params x r a.at cell before t s.case (kind s.case s.among) s.source).1 s.outside

    none_some : (u : ℕ) (ys : List ℤ) → source cell before ≡ None → IsSource x cell before u ys → ⊥
    none_some u ys n s = let z : None ≡ Some s.writer = sym n ∙ s.found in cc

-- ---- for a flow

pub described : (p : Program) (context : Cond) (params : List ℤ) (r : Reads) (flow : ReadFlow) (a : Placed (execution p (model_of p context) params)) → IsReadOf p context params r flow a → Describes (model_of p context) params (execution p (model_of p context) params)
described p context params r flow a h = models_describe p context params h.ready h.fit h.each

pub readings : (p : Program) (context : Cond) (params : List ℤ) (r : Reads) (flow : ReadFlow) (a : Placed (execution p (model_of p context) params)) → IsReadOf p context params r flow a → Reading (model_of p context) params (execution p (model_of p context) params) r a
unfolding Reading
readings p context params r flow a h cell before rd =
    let m = model_of p context in
    let x = execution p m params in
    at_reader m params x (described p context params r flow a h) h.meets r (is_reader m r h.among) a.at cell before (subst (λ (P : Position). IsReading x P a.at cell before) h.position_is (reading_of x a cell before rd))

pub found : (p : Program) (context : Cond) (params : List ℤ) (r : Reads) (flow : ReadFlow) (a : Placed (execution p (model_of p context) params)) → IsReadOf p context params r flow a → Found (execution p (model_of p context) params) a
found p context params r flow a h = found_there (model_of p context) params (execution p (model_of p context) params) (described p context params r flow a h) r (is_reader (model_of p context) r h.among) a h.position_is

pub cases_are_steps : CasesAreSteps
cases_are_steps p context params r flow a h case i =
    let m = model_of p context in
    step_case m params (execution p m params) r a h.position_is (readings p context params r flow a h) (found p context params r flow a h) case (case_in m r (writings m r.position r.array None) flow.cases h.is.1 case i)

pub steps_are_of_cases : StepsAreOfCases
steps_are_of_cases p context params r flow a h =
    let m = model_of p context in
    let x = execution p m params in
    let here = readings p context params r flow a h in
    record {
      initial = λ g. start_case m params x r a here flow.cases h.is.1 g;
      assigned = λ u ys g. root_case m params x r a h.position_is here flow.cases h.is.1 u ys g;
      goes = goes_somewhere x a (found p context params r flow a h);
    }

pub steps_are_determined : StepsAreDetermined
unfolding Reading
steps_are_determined p context params r flow a h =
    let m = model_of p context in
    let f = found p context params r flow a h in
    one_step m params (execution p m params) r a h.position_is (pieces_are_apart p context) f.cell f.before (readings p context params r flow a h f.cell f.before f.reads) flow.cases h.is.1
