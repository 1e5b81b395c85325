-- The elements of an array by the rows of its extents.
use Rattle.std.proofs.Common.{◌≡◌, ◌↔◌, ℕ, zero, suc, List, [], ◌∷◌, ◌++◌, length, map, refl, sym, ◌∙◌, subst, arith, ℤ, Some, append-nil}
use Rattle.std.specs.Prelude.{slice_get}
use Rattle.std.specs.List.{AllByRecursion}
use Rattle.std.proofs.lemmas.List.{length-map}
use Rattle.ac_forms.specs.Affine.{Affine}
use Rattle.ac_syntax.specs.Index.{Point, point, index_value}
use Rattle.ac_syntax.specs.Outputs.{InExtents, extents_at}
use Rattle.ac_syntax.specs.ReadyPrograms.{AllFit, ReadyProgram}
use Rattle.ac_syntax.specs.declared.tree.Array.{Array}
use Rattle.ac_syntax.specs.declared.tree.Cond.{Cond}
use Rattle.ac_syntax.specs.declared.tree.IndexExpr.{IndexExpr}
use Rattle.ac_syntax.specs.declared.tree.Program.{Program}
use Rattle.ac_poly.specs.LevelRows.{numbers}
use Rattle.ac_poly.specs.CoordinateColumns.{AreBelow}
use Rattle.ac_poly.specs.IndexForms.{lowered}
use Rattle.ac_poly.specs.ModelMeaning.{values_at}
use Rattle.ac_poly.specs.Model.{extents_of, model_of, HasElements}
use Rattle.ac_poly.proofs.Blocks.{numbers_behind}
use Rattle.ac_poly.proofs.Placing.{element_rows_hold}
use Rattle.ac_poly.proofs.Values.{all_values}

-- the extents of an array that is there
pub record Extents (ps at : List ℤ) (own : List IndexExpr) (extents : List Affine) : Type 0 where
  pub values : values_at (ps ++ at) extents ≡ map (index_value (point ps [])) own
  pub count : length extents ≡ length own

extents-at : (ps at : List ℤ) (arrays : List Array) → AllByRecursion (λ (a : Array). AllFit (length ps) 0 a.extents) arrays → (array : ℕ) (extents : List Affine) → slice_get (map extents_of arrays) array ≡ Some extents
    → Extents ps at (extents_at arrays array) extents
extents-at ps at [] h array extents e = absurd cc
extents-at ps at (a ∷ arrays) h zero extents e =
    let s : extents_of a ≡ extents = cc in
    subst (Extents ps at a.extents) s (record { values = sym (all_values ps at [] a.extents h.0); count = length-map a.extents (lowered []) })
extents-at ps at (a ∷ arrays) h (suc array) extents e = extents-at ps at arrays h.1 array extents e

inside : (p : Point) (own : List IndexExpr) (xs : List ℤ) → ((length xs ≡ length own) × AreBelow xs (map (index_value p) own)) ↔ InExtents p own xs
inside p [] [] = ((λ h. tt), (λ h. (refl, tt)))
inside p [] (x ∷ xs) = ((λ h. (let l = h.0 in absurd (omega (arith, l)))), (λ h. absurd h))
inside p (e ∷ own) [] = ((λ h. (let l = h.0 in absurd (omega (arith, l)))), (λ h. absurd h))
inside p (e ∷ own) (x ∷ xs) =
    let r = inside p own xs in
    ((λ h. (let l = h.0 in (h.1.0, h.1.1, r.0 (omega (arith, l), h.1.2)))), (λ h. (let s = r.1 h.2 in let l = s.0 in (omega (arith, l), (h.0, h.1, s.1)))))

pub has_elements : (p : Program) (context : Cond) → ReadyProgram p → HasElements p (model_of p context)
has_elements p context r params at array extents l e =
    let x = extents-at params at p.arrays (subst (λ (n : ℕ). AllByRecursion (λ (a : Array). AllFit n 0 a.extents) p.arrays) (sym l) r.extents) array extents e in
    let i = inside (point params []) (extents_at p.arrays array) at in
    let m = element_rows_hold (length p.params) extents (params ++ at) in
    let c = x.count in
    let here : length at ≡ length extents → numbers (length p.params) (length extents) (params ++ at) ≡ at =
    λ n. (λ t. numbers (length p.params) (length extents) (params ++ sym (append-nil at) t)) ∙ numbers_behind params at [] (length p.params) (length extents) l n in (
      (λ h. i.0 (h.0 ∙ c, subst (λ (ys : List ℤ). AreBelow at ys) x.values (subst (λ (xs : List ℤ). AreBelow xs (values_at (params ++ at) extents)) (here h.0) (m.0 h.1)))),
      (λ h.
          let j = i.1 h in
          let n : length at ≡ length extents = j.0 ∙ sym c in
          (n, m.1 (subst (λ (xs : List ℤ). AreBelow xs (values_at (params ++ at) extents)) (sym (here n)) (subst (λ (ys : List ℤ). AreBelow at ys) (sym x.values) j.1)))),
    )
