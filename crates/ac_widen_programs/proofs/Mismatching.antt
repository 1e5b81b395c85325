-- What the models tell apart is a mismatch.
use Rattle.std.proofs.Common.{◌≡◌, inl, inr, ◌++◌, ℤ, List, length, true, false, Option, Some, None, sym, ap, ◌∙◌, subst}
use Rattle.std.specs.Prelude.{is_some, slice_get, option_map, option_and_then}
use Rattle.ac_forms.specs.Affine.{Affine, value_at}
use Rattle.ac_syntax.specs.Algebra.{Cell}
use Rattle.ac_syntax.specs.Index.{index_value}
use Rattle.ac_syntax.specs.Outputs.{input_at}
use Rattle.ac_syntax.specs.Source.{Writer}
use Rattle.ac_syntax.specs.Spot.{Spot, AtEnd, AtNode, AtStart}
use Rattle.ac_syntax.specs.Where.{element}
use Rattle.ac_syntax.specs.declared.tree.IndexExpr.{IndexExpr}
use Rattle.ac_syntax.specs.declared.tree.Pair.{Pair}
use Rattle.ac_syntax.specs.declared.tree.Position.{Position}
use Rattle.ac_syntax.specs.declared.tree.Position.TheVariants.{Output, Node, InitialOutput, InitialNode}
use Rattle.ac_syntax.specs.declared.tree.Value.TheVariants.{Number, Access}
use Rattle.ac_poly.specs.Model.{model_of}
use Rattle.ac_poly.specs.declared.types.Model.{Model}
use Rattle.ac_poly.specs.declared.types.NodeModel.{NodeModel}
use Rattle.ac_poly.specs.declared.types.StmtModel.{StmtModel}
use Rattle.ac_claims_paths.specs.Executions.{Execution, At, Describes, execution}
use Rattle.ac_claims_paths.specs.Pairs.{Placed, IsReader, AreCalls, AreNumbers, AreOneInput}
use Rattle.ac_claims_paths.specs.ModelPositions.{cell_read, call_at, number_at, number_of, initial_cell, read_of, element_forms}
use Rattle.ac_claims_paths.specs.declared.places.CellForms.{CellForms}
use Rattle.ac_claims_paths.proofs.Heres.{cell_with, initial_here}
use Rattle.ac_graph.specs.GraphMeaning.{comparison}
use Rattle.ac_graph.proofs.Standing.{reader_there, call_there, call_of_place}
use Rattle.ac_widen_programs.specs.PairSetting.{PairAt}
use Rattle.ac_widen_programs.specs.PairPoints.{AreSeen}
use Rattle.ac_widen_programs.specs.PairSteps.{EndsMismatch}
use Rattle.ac_widen_programs.proofs.Stepping.{none_there, from_seen}

-- both positions at a point
abbrev pub pair_at : (pair : Pair) (params : List ℤ) (P : Position) (at : List ℤ) (Q : Position) (bt : List ℤ) → AreSeen pair params P at Q bt → PairAt pair (P, Q) (params ++ (at ++ bt))
pair_at pair params P at Q bt s = record { params = params; compared = s.compared; a = s.a; b = s.b; placed = from_seen pair params P at Q bt s }

no_reader : (m : Model) (params : List ℤ) (x : Execution) → Describes m params x → (a : Placed x) (P : Position) → a.position ≡ P → cell_read m P ≡ None → ¬ (IsReader x a)
no_reader m params x d a P p none z = let t = reader_there m params x d a.position a.at a.spot a.here z.0 z.1 z.2 in let u : None ≡ Some t.0 = sym none ∙ ap (cell_read m) (sym p) ∙ t.1 in absurd cc

-- a number of a spot is one of the model
record NumberAt (m : Model) (params : List ℤ) (P : Position) (at : List ℤ) (w : Writer) (e : IndexExpr) : Type 0 where
  form : Affine
  is : number_at m P ≡ Some form
  value : value_at form (params ++ at) ≡ index_value w.entry.point e

number_there : (m : Model) (params : List ℤ) (x : Execution) → Describes m params x → (P : Position) (at : List ℤ) (s : Spot) → At x P at s → (w : Writer) (e : IndexExpr) → s ≡ AtNode w (Number e) → NumberAt m params P at w e
unfolding At
number_there m params x d (Output o) at s h w e q = let z : AtEnd (element o at) ≡ AtNode w (Number e) = sym h.1 ∙ q in absurd cc
number_there m params x d (Node k j) at s (w', i, v', n, is) w e q =
    let same : AtNode w' v' ≡ AtNode w (Number e) = sym is ∙ q in
    let writer : w' ≡ w = cc in
    let value : v' ≡ Number e = cc in
    let mo = d.entry w' i.stands in
    let sh = d.node w' mo.stmt i.stands mo.is j (Number e) (n ∙ ap Some value) in
    let here : slice_get m.stmts k ≡ Some mo.stmt = ap (slice_get m.stmts) (sym i.stmt) ∙ mo.is in
    record {
      form = sh.0;
      is = ap (λ (o : Option StmtModel). option_and_then number_of (option_and_then (λ (st : StmtModel). slice_get st.nodes j) o)) here ∙ ap (λ (o : Option NodeModel). option_and_then number_of o) sh.1;
      value = ap (λ (y : List ℤ). value_at sh.0 (params ++ y)) (sym i.coords) ∙ sh.2 ∙ ap (λ (u : Writer). index_value u.entry.point e) writer;
    }
number_there m params x d (InitialOutput o) at s h w e q = let z : AtStart (element o at) ≡ AtNode w (Number e) = sym h.1 ∙ q in absurd cc
number_there m params x d (InitialNode k j) at s (w', i, array, subs, place, n, is) w e q = let z = sym is ∙ q in absurd cc

-- the initial contents of a spot are those of the model's cell
initial_there : (m : Model) (params : List ℤ) (x : Execution) → Describes m params x → (P : Position) (at : List ℤ) (s : Spot) → At x P at s → (c : Cell) → s ≡ AtStart c → (forms : CellForms) × (initial_cell m P ≡ Some forms)
unfolding At
initial_there m params x d (Output o) at s h c q = let z : AtEnd (element o at) ≡ AtStart c = sym h.1 ∙ q in absurd cc
initial_there m params x d (Node k j) at s (w, i, v, n, is) c q = let z : AtNode w v ≡ AtStart c = sym is ∙ q in absurd cc
initial_there m params x d (InitialOutput o) at s h c q =
    let f = d.elements o at h.0 in
    (record { array = o; subs = element_forms m.params (length f.extents) }, ap (λ (y : Option (List Affine)). option_map (λ (extents : List Affine). record { array = o; subs = element_forms m.params (length extents) }) y) f.is)
initial_there m params x d (InitialNode k j) at s (w, i, array, subs, place, n, is) c q =
    let mo = d.entry w i.stands in
    let sh = d.node w mo.stmt i.stands mo.is j (Access array subs place) n in
    let here : slice_get m.stmts k ≡ Some mo.stmt = ap (slice_get m.stmts) (sym i.stmt) ∙ mo.is in
    (record { array = array; subs = sh.0 }, ap (λ (o : Option StmtModel). option_and_then read_of (option_and_then (λ (st : StmtModel). slice_get st.nodes j) o)) here ∙ ap (λ (o : Option NodeModel). option_and_then read_of o) sh.1)

record StartAt (m : Model) (params : List ℤ) (P : Position) (at : List ℤ) (c : Cell) : Type 0 where
  forms : CellForms
  is : initial_cell m P ≡ Some forms
  cell_is : c ≡ cell_with params forms at

start_at : (m : Model) (params : List ℤ) (x : Execution) → Describes m params x → (a : Placed x) (P : Position) (at : List ℤ) → a.position ≡ P → a.at ≡ at → (c : Cell) → a.spot ≡ AtStart c → StartAt m params P at c
start_at m params x d a P at p e c q =
    let h = subst (λ (y : List ℤ). At x P y a.spot) e (subst (λ (R : Position). At x R a.at a.spot) p a.here) in
    let f = initial_there m params x d P at a.spot h c q in
    let g : AtStart c ≡ AtStart (cell_with params f.0 at) = sym q ∙ initial_here m params x d P at f.0 a.spot f.1 h in
    record { forms = f.0; is = f.1; cell_is = cc }

pub mismatch_there : EndsMismatch
mismatch_there pair left right models params P at Q bt s lr rr calls numbers cells = record {
  there = pair_at pair params P at Q bt s;
  mismatch = record {
    left = no_reader l params x s.compared.left s.a P s.left_is (none_there (cell_read l P) (subst (λ (y : Model). is_some (cell_read y P) ≡ false) models.left_is lr));
    right = no_reader m params y s.compared.right s.b Q s.right_is (none_there (cell_read m Q) (subst (λ (z : Model). is_some (cell_read z Q) ≡ false) models.right_is rr));
    apart = λ h. elim h [ inl k ↦ by_calls k | inr k ↦ elim k [ inl n ↦ by_numbers n | inr c ↦ by_cells c ] ];
  };
}
  where
    l : Model
    l = model_of pair.left pair.context

    m : Model
    m = model_of pair.right pair.context

    x : Execution
    x = execution pair.left (model_of pair.left pair.context) params

    y : Execution
    y = execution pair.right (model_of pair.right pair.context) params

    by_calls : AreCalls (comparison pair params s.compared) s.a s.b → ⊥
    by_calls (c, d, e) =
        calls (call_of_place (execution pair.left (model_of pair.left pair.context) params) s.a c) (call_of_place (execution pair.right (model_of pair.right pair.context) params) s.b d)
        ((λ i. call_at (models.left_is i) (sym s.left_is i)) ∙ call_there (model_of pair.left pair.context) params (execution pair.left (model_of pair.left pair.context) params) s.compared.left s.a c)
        ((λ i. call_at (models.right_is i) (sym s.right_is i)) ∙ call_there (model_of pair.right pair.context) params (execution pair.right (model_of pair.right pair.context) params) s.compared.right s.b d)
        e

    by_numbers : AreNumbers (comparison pair params s.compared) s.a s.b → ⊥
    by_numbers n =
        let f = number_there (model_of pair.left pair.context) params (execution pair.left (model_of pair.left pair.context) params) s.compared.left s.a.position s.a.at s.a.spot s.a.here n.left n.left_form n.left_is in
        let g = number_there (model_of pair.right pair.context) params (execution pair.right (model_of pair.right pair.context) params) s.compared.right s.b.position s.b.at s.b.spot s.b.here n.right n.right_form n.right_is in
        numbers f.form g.form ((λ i. number_at (models.left_is i) (sym s.left_is i)) ∙ f.is) ((λ i. number_at (models.right_is i) (sym s.right_is i)) ∙ g.is)
        (ap (λ (z : List ℤ). value_at f.form (params ++ z)) (sym s.left_at_is) ∙ f.value ∙ n.equal ∙ sym g.value ∙ ap (λ (z : List ℤ). value_at g.form (params ++ z)) s.right_at_is)

    by_cells : AreOneInput (comparison pair params s.compared) s.a s.b → ⊥
    by_cells (c, input, p, q) =
        let f = start_at (model_of pair.left pair.context) params (execution pair.left (model_of pair.left pair.context) params) s.compared.left s.a P at s.left_is s.left_at_is c p in
        let g = start_at (model_of pair.right pair.context) params (execution pair.right (model_of pair.right pair.context) params) s.compared.right s.b Q bt s.right_is s.right_at_is c q in
        let one = sym f.cell_is ∙ g.cell_is in
        cells f.forms g.forms ((λ i. initial_cell (models.left_is i) P) ∙ f.is) ((λ i. initial_cell (models.right_is i) Q) ∙ g.is)
        (subst (λ (z : Cell). input_at pair.left.arrays z.array ≡ true) f.cell_is input)
        (ap (λ (z : Cell). z.array) one, ap (λ (z : Cell). z.at) one)
