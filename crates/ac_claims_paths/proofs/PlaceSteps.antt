-- What the code on positions rests on.
use Rattle.std.proofs.Common.{◌≡◌, ℕ, ◌+◌, ◌≤◌, List, [], ◌∷◌, ◌++◌, map, length, Some, refl, sym, ap, ◌∙◌}
use Rattle.std.specs.Prelude.{slice_get}
use Rattle.std.specs.List.{range_with_len}
use Rattle.std.proofs.lemmas.Option.{slice_get_past, slice_get-get_or}
use Rattle.std.proofs.lemmas.List.{map-append}
use Rattle.ac_forms.specs.Affine.{Affine, column_form}
use Rattle.ac_poly.specs.declared.types.Model.{Model}
use Rattle.ac_poly.specs.declared.types.StmtModel.{StmtModel}
use Rattle.ac_claims_paths.specs.InstanceCoordinates.{levels_before}
use Rattle.ac_claims_paths.specs.ModelPositions.{element_forms, levels_to, levels_at}
use Rattle.ac_syntax.specs.declared.tree.Position.TheVariants.{Node}
use Rattle.ac_forms.proofs.Ranges.{range_more}

pub record Elements (params k : ℕ) (forms : List Affine) : Type 0 where
  pub value : forms ≡ element_forms params k

pub elements_start : (params : ℕ) → Elements params 0 []
elements_start params = record { value = refl }

pub elements_next : (params k : ℕ) (forms new : List Affine) (f : Affine) → Elements params k forms → f ≡ column_form (params + k + 1) (params + k) → new ≡ forms ++ f ∷ [] → Elements params (k + 1) new
elements_next params k forms new f h e n = record {
  value =
      n ∙ (λ i. h.value i ++ e i ∷ [])
      ∙ sym (map-append (λ j. column_form (j + 1) j) (range_with_len params k) ((params + k) ∷ []))
      ∙ ap (map (λ j. column_form (j + 1) j)) (sym (range_more params k));
}

pub elements_end : (params count k : ℕ) (forms : List Affine) → Elements params k forms → k ≡ count → forms ≡ element_forms params count
elements_end params count k forms h e = h.value ∙ ap (element_forms params) e

pub ruleset element_steps = (elements_start, elements_next, elements_end)

pub levels_past : (m : Model) (u : ℕ) (stmt : StmtModel) (s k : ℕ) → length m.stmts ≤ s → levels_to m u stmt (Node s k) ≡ []
levels_past m u stmt s k l = ap (levels_at m u stmt s) (slice_get_past m.stmts s l)

pub levels_here : (m : Model) (u : ℕ) (stmt reader : StmtModel) (s k : ℕ) → slice_get m.stmts s ≡ Some reader → levels_to m u stmt (Node s k) ≡ levels_before m.params u stmt s reader
levels_here m u stmt reader s k e = ap (levels_at m u stmt s) e

pub ruleset level_steps = (levels_past, levels_here, slice_get-get_or)
