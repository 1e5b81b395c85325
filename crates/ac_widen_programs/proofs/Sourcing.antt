-- A read or an output goes where its flow leads.
use Rattle.std.proofs.Common.{◌≡◌, inl, inr, ℕ, ℤ, List, ◌++◌, length, Option, None, refl, sym, ap, ◌∙◌, subst}
use Rattle.ac_forms.specs.Rows.{Meets}
use Rattle.ac_syntax.specs.Algebra.{Cell}
use Rattle.ac_syntax.specs.ReadyPrograms.{ReadyProgram, FitParts}
use Rattle.ac_syntax.specs.Source.{Writer, source}
use Rattle.ac_syntax.specs.Spot.{AtNode, AtStart}
use Rattle.ac_syntax.specs.declared.tree.Cond.{Cond}
use Rattle.ac_syntax.specs.declared.tree.Position.{Position}
use Rattle.ac_syntax.specs.declared.tree.Position.TheVariants.{Node}
use Rattle.ac_syntax.specs.declared.tree.Program.{Program}
use Rattle.ac_poly.specs.Model.{model_of}
use Rattle.ac_claims_paths.specs.Executions.{Execution, At, Describes, execution}
use Rattle.ac_claims_paths.specs.Pairs.{Placed, IsReader, IsResolved, ResolvesTo}
use Rattle.ac_claims_paths.specs.ModelPositions.{initial_of}
use Rattle.ac_claims_paths.proofs.Described.{models_describe}
use Rattle.ac_claims_paths.proofs.Heres.{reading, same_read}
use Rattle.ac_claims_paths.proofs.ReadSteps.{at_root}
use Rattle.ac_poly.specs.declared.types.Model.{Model}
use Rattle.ac_flow.specs.Flows.{IsLeft, CasesAreSources}
use Rattle.ac_flow.specs.Sources.{IsReading, IsSource}
use Rattle.ac_flow.specs.declared.types.Flow.{Flow}
use Rattle.ac_graph.proofs.Standing.{reader_there}
use Rattle.ac_widen_programs.specs.FlowTargets.{Follows, LeadsTo}

-- where it goes
pub record GoesTo (x : Execution) (a : Placed x) (to : Position) (to_at : List ℤ) : Type 0 where
  pub b : Placed x
  pub resolves : ResolvesTo x a b
  pub to_is : b.position ≡ to
  pub to_at_is : b.at ≡ to_at

-- to its initial position
goes_initial : (m : Model) (params : List ℤ) (x : Execution) → Describes m params x → (a : Placed x) (r : IsReader x a) → source r.0 r.1 ≡ None → (to : Position) (to_at : List ℤ) → to ≡ initial_of a.position → a.at ≡ to_at → GoesTo x a to to_at
goes_initial m params x d a (cell, before, reads) none to to_at t e =
    let f = reader_there m params x d a.position a.at a.spot a.here cell before reads in
    let rd = reading m params x d a.position a.at f.0 a.spot f.1 a.here in
    let same : rd.read ≡ cell = same_read x.trace a.spot cell before rd.read rd.before reads rd.reads in
    let b : Placed x = record { position = initial_of a.position; at = a.at; spot = AtStart cell; here = subst (λ (c : Cell). At x (initial_of a.position) a.at (AtStart c)) same rd.initial } in
    record { b = b; resolves = ((cell, before, reads), subst (λ (o : Option Writer). IsResolved x a cell o b) (sym none) (record { position_is = refl; at_is = refl; spot_is = refl })); to_is = sym t; to_at_is = e }

-- to an instance of an assignment
goes_source : (x : Execution) (a : Placed x) (r : IsReader x a) (number : ℕ) (to : Position) (to_at : List ℤ) → IsSource x r.0 r.1 number to_at → to ≡ Node number 0 → GoesTo x a to to_at
goes_source x a (cell, before, reads) number to to_at s t =
    let w = s.writer in
    let b : Placed x = record { position = Node w.entry.stmt 0; at = x.coords w.entry; spot = AtNode w w.entry.value; here = at_root x w w.entry.stmt (x.coords w.entry) s.instance.stands refl refl } in
    record {
      b = b;
      resolves = ((cell, before, reads), subst (λ (o : Option Writer). IsResolved x a cell o b) (sym s.found) (record { position_is = refl; at_is = refl; spot_is = refl }));
      to_is = ap (λ k. Node k 0) s.instance.stmt ∙ sym t;
      to_at_is = s.instance.coords;
    }

pub goes_where_led : (p : Program) (context : Cond) (f : Flow) → ReadyProgram p → FitParts (length p.params) 0 context.parts → CasesAreSources (model_of p context) f → (params : List ℤ) → length params ≡ length p.params → Meets (model_of p context).context params
    → (a : Placed (execution p (model_of p context) params)) → IsReader (execution p (model_of p context) params) a → (from : Position) (at : List ℤ) (to : Position) (to_at : List ℤ) → a.position ≡ from → a.at ≡ at → LeadsTo (model_of p context) f params from at to to_at
    → GoesTo (execution p (model_of p context) params) a to to_at
goes_where_led p context f ready fit sources params long met a r from at to to_at e g h = by h.follows.2
  where
    m : Model
    m = model_of p context

    reads_here : IsReading (execution p (model_of p context) params) h.read.position a.at r.0 r.1
    reads_here = record { spot = a.spot; here = subst (λ (P : Position). At (execution p (model_of p context) params) P a.at a.spot) (e ∙ sym h.position) a.here; reads = r.2 }

    by : Follows (model_of p context) h.follows.0 params from at to to_at → GoesTo (execution p (model_of p context) params) a to to_at
    by (inl i) =
        let c = (sources p context params ready fit refl long met h.read a.at r.0 r.1 h.among reads_here).0 h.follows.0 h.follows.1 in
        let none = (c.initial i.source).0 (subst (λ (y : List ℤ). IsLeft h.follows.0.pieces (params ++ y)) (sym g) i.left) in
        goes_initial (model_of p context) params (execution p (model_of p context) params) (models_describe p context params ready fit long) a r none to to_at (i.to_is ∙ ap initial_of (sym e)) (g ∙ i.at_is)
    by (inr s) =
        let c = (sources p context params ready fit refl long met h.read a.at r.0 r.1 h.among reads_here).0 h.follows.0 h.follows.1 in
        let found = ((c.assigned s.number s.stmt to_at s.source s.is s.long).0 (subst (λ (y : List ℤ). IsLeft h.follows.0.pieces (params ++ (y ++ to_at))) (sym g) s.left)).0 in
        goes_source (execution p (model_of p context) params) a r s.number to to_at found s.to_is
