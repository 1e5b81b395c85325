-- What a read or an output reads at its coordinates, and where it goes.
use Rattle.std.proofs.Common.{◌≡◌, ℕ, ℤ, List, length, Option, Some, None, refl, sym, ap, ◌∙◌, subst}
use Rattle.std.specs.Prelude.{slice_get, option_and_then, option_map}
use Rattle.ac_forms.specs.Affine.{Affine}
use Rattle.ac_syntax.specs.Algebra.{Cell}
use Rattle.ac_syntax.specs.Source.{Writer, source}
use Rattle.ac_syntax.specs.Spot.{AtNode, AtStart, Reads as IsRead}
use Rattle.ac_syntax.specs.Trace.{Entry}
use Rattle.ac_syntax.specs.declared.tree.Position.{Position}
use Rattle.ac_syntax.specs.declared.tree.Position.TheVariants.{Output, Node, InitialOutput, InitialNode}
use Rattle.ac_syntax.proofs.Sources.{source_stands}
use Rattle.ac_poly.specs.declared.types.Model.{Model}
use Rattle.ac_poly.specs.declared.types.NodeModel.{NodeModel}
use Rattle.ac_poly.specs.declared.types.StmtModel.{StmtModel}
use Rattle.ac_claims_paths.specs.Executions.{Execution, At, Describes}
use Rattle.ac_claims_paths.specs.Pairs.{Placed, IsResolved}
use Rattle.ac_claims_paths.specs.ModelPositions.{cell_read, read_of, element_forms, initial_of}
use Rattle.ac_claims_paths.specs.declared.places.CellForms.{CellForms}
use Rattle.ac_claims_paths.proofs.Branches.{stands_all}
use Rattle.ac_claims_paths.proofs.Heres.{reading}
use Rattle.ac_claims_paths.proofs.ReadSteps.{at_root}
use Rattle.ac_flow.specs.FlowCases.{Reads}
use Rattle.ac_flow.specs.Sources.{IsReading, IsSource}
use Rattle.ac_flow.proofs.Linking.{IsReader, OfNode, OfOutput}
use Rattle.ac_flow.specs.SourceSteps.{GoesToRoot, GoesToStart}

-- ---- what it reads

reader_cell : (m : Model) (r : Reads) → IsReader m r → (forms : CellForms) × (cell_read m r.position ≡ Some forms)
reader_cell m r (OfNode s k stmt array subs is e) =
    (record { array = array; subs = subs }, ap (λ (o : Option StmtModel). option_and_then read_of (option_and_then (λ (y : StmtModel). slice_get y.nodes k) o)) is ∙ ap (λ (o : Option NodeModel). option_and_then read_of o) e)
reader_cell m r (OfOutput o extents is) =
    (record { array = o; subs = element_forms m.params (length extents) }, ap (λ (y : Option (List Affine)). option_map (λ (e : List Affine). record { array = o; subs = element_forms m.params (length e) }) y) is)

-- a cell behind some entries, and the initial position for its contents
pub record Found (x : Execution) (a : Placed x) : Type 0 where
  pub cell : Cell
  pub before : List Entry
  pub reads : IsRead x.trace a.spot cell before
  pub initial : At x (initial_of a.position) a.at (AtStart cell)

pub found_there : (m : Model) (params : List ℤ) (x : Execution) → Describes m params x → (r : Reads) → IsReader m r → (a : Placed x) → a.position ≡ r.position → Found x a
found_there m params x d r is a e =
    let f = reader_cell m r is in
    let rd = reading m params x d a.position a.at f.0 a.spot (ap (cell_read m) e ∙ f.1) a.here in
    record { cell = rd.read; before = rd.before; reads = rd.reads; initial = rd.initial }

pub reading_of : (x : Execution) (a : Placed x) (cell : Cell) (before : List Entry) → IsRead x.trace a.spot cell before → IsReading x a.position a.at cell before
reading_of x a cell before h = record { spot = a.spot; here = a.here; reads = h }

-- ---- where it goes

not_initial : (P : Position) (u k : ℕ) → initial_of P ≡ Node u k → ⊥
not_initial (Output o) u k e = cc
not_initial (Node s j) u k e = cc
not_initial (InitialOutput o) u k e = cc
not_initial (InitialNode s j) u k e = cc

pub to_start : (x : Execution) (a : Placed x) (f : Found x a) → source f.cell f.before ≡ None → GoesToStart x a
to_start x a f e =
    let b : Placed x = record { position = initial_of a.position; at = a.at; spot = AtStart f.cell; here = f.initial } in
    record {
      to = b;
      position_is = refl;
      at_is = refl;
      goes = ((f.cell, f.before, f.reads), subst (λ (o : Option Writer). IsResolved x a f.cell o b) (sym e) (record { position_is = refl; at_is = refl; spot_is = refl }));
    }

pub to_root : (x : Execution) (a : Placed x) (cell : Cell) (before : List Entry) → IsRead x.trace a.spot cell before → (u : ℕ) (ys : List ℤ) → IsSource x cell before u ys → GoesToRoot x a u ys
to_root x a cell before h u ys s =
    let w = s.writer in
    let b : Placed x = record { position = Node w.entry.stmt 0; at = x.coords w.entry; spot = AtNode w w.entry.value; here = at_root x w w.entry.stmt (x.coords w.entry) s.instance.stands refl refl } in
    record {
      to = b;
      position_is = ap (λ k. Node k 0) s.instance.stmt;
      at_is = s.instance.coords;
      goes = ((cell, before, h), subst (λ (o : Option Writer). IsResolved x a cell o b) (sym s.found) (record { position_is = refl; at_is = refl; spot_is = refl }));
    }

pub is_source : (x : Execution) (a : Placed x) (cell : Cell) (before : List Entry) → IsRead x.trace a.spot cell before → (w : Writer) → source cell before ≡ Some w → IsSource x cell before w.entry.stmt (x.coords w.entry)
is_source x a cell before h w e =
    let s = source_stands cell before w e in
    record { writer = w; found = e; instance = record { stands = stands_all x a.position a.at a.spot cell before w a.here h s.0; stmt = refl; coords = refl } }

-- a reading of it that has this source, or none
pub record NoSource (x : Execution) (a : Placed x) : Type 0 where
  pub cell : Cell
  pub before : List Entry
  pub reads : IsRead x.trace a.spot cell before
  pub none : source cell before ≡ None

pub record HasSource (x : Execution) (a : Placed x) (u : ℕ) (ys : List ℤ) : Type 0 where
  pub cell : Cell
  pub before : List Entry
  pub reads : IsRead x.trace a.spot cell before
  pub source_is : IsSource x cell before u ys

pub from_start : (x : Execution) (a : Placed x) → GoesToStart x a → NoSource x a
from_start x a g = by (source g.goes.0.0 g.goes.0.1) refl g.goes.1
  where
    by : (o : Option Writer) → source g.goes.0.0 g.goes.0.1 ≡ o → IsResolved x a g.goes.0.0 o g.to → NoSource x a
    by None e h = record { cell = g.goes.0.0; before = g.goes.0.1; reads = g.goes.0.2; none = e }
    by (Some w) e h = absurd (not_initial a.position w.entry.stmt 0 (sym g.position_is ∙ h.position_is))

node_number : (s u : ℕ) → Node s 0 ≡ Node u 0 → s ≡ u
node_number s u e = cc

pub from_root : (x : Execution) (a : Placed x) (u : ℕ) (ys : List ℤ) → GoesToRoot x a u ys → HasSource x a u ys
from_root x a u ys g = by (source g.goes.0.0 g.goes.0.1) refl g.goes.1
  where
    by : (o : Option Writer) → source g.goes.0.0 g.goes.0.1 ≡ o → IsResolved x a g.goes.0.0 o g.to → HasSource x a u ys
    by None e h = absurd (not_initial a.position u 0 (sym h.position_is ∙ g.position_is))
    by (Some w) e h =
        let cell = g.goes.0.0 in
        let before = g.goes.0.1 in
        let s = source_stands cell before w e in
        record {
          cell = cell;
          before = before;
          reads = g.goes.0.2;
          source_is = record {
            writer = w;
            found = e;
            instance = record { stands = stands_all x a.position a.at a.spot cell before w a.here g.goes.0.2 s.0; stmt = node_number w.entry.stmt u (sym h.position_is ∙ g.position_is); coords = sym h.at_is ∙ g.at_is };
          };
        }
