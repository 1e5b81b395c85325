-- Which points meet the rows of a context.
use Rattle.std.proofs.Common.{◌≡◌, ◌↔◌, ℕ, List, [], ◌∷◌, ◌++◌, length, Bool, true, false, ◌&&◌, refl, sym, ap, ◌∙◌, ℤ}
use Rattle.std.specs.List.{list_all}
use Rattle.ac_forms.specs.Affine.{Affine, value_at}
use Rattle.ac_forms.specs.Rows.{Holds, Meets}
use Rattle.ac_syntax.specs.Index.{Point, rel_holds, comparison_holds}
use Rattle.ac_syntax.specs.ReadyPrograms.{FitParts, IsPlain}
use Rattle.ac_syntax.specs.declared.tree.Comparison.{Comparison}
use Rattle.ac_syntax.specs.declared.tree.Rel.{Rel}
use Rattle.ac_syntax.specs.declared.tree.Rel.TheVariants.{NonNegative, Zero, Divides}
use Rattle.ac_poly.specs.IndexForms.{lowered, row_by, rows_of}
use Rattle.ac_poly.proofs.Values.{value-lowered}
use Rattle.ac_poly_quotients.proofs.FormValues.{worth}
use Rattle.ac_poly_quotients.proofs.HeldRows.{nonneg, zero_is}
pub use Rattle.ac_poly_quotients.proofs.HeldRows.{meets_append}

holds_row : (r : Rel) (f : Affine) (p : List ℤ) → IsPlain r → Holds (row_by r f) p ↔ (rel_holds r (value_at f p) ≡ true)
holds_row NonNegative f p h = ((nonneg (value_at f p)).1, (nonneg (value_at f p)).0)
holds_row Zero f p h = ((zero_is (value_at f p)).1, (zero_is (value_at f p)).0)
holds_row (Divides m) f p h = absurd h

both : (a b : Bool) → (a && b) ≡ true → (a ≡ true) × (b ≡ true)
both true b h = (refl, h)
both false b h = absurd (let k : false ≡ true = h in cc)

abbrev at : List ℤ → List ℤ → List Affine → Point
at ps zs its = record { params = ps; iters = worth (ps ++ zs) its }

-- a point meets the rows of a condition where the condition holds
pub meets_rows : (ps zs : List ℤ) (its : List Affine) (xs : ℕ) (cs : List Comparison) → FitParts (length ps) xs cs
    → Meets (rows_of its cs) (ps ++ zs) ↔ (list_all (comparison_holds (record { params = ps; iters = worth (ps ++ zs) its })) cs ≡ true)
meets_rows ps zs its xs [] h = ((λ _. refl), (λ _. tt))
meets_rows ps zs its xs (c ∷ cs) h =
    let r = holds_row c.rel (lowered its c.form) (ps ++ zs) h.0.rel in
    let e = ap (rel_holds c.rel) (value-lowered ps zs its c.form h.0.form.params h.0.form.plain) in
    let rest = meets_rows ps zs its xs cs h.1 in (
      (λ m. rw (sym e ∙ r.0 m.0) (rest.0 m.1)),
      (λ m. let b = both (comparison_holds (at ps zs its) c) (list_all (comparison_holds (at ps zs its)) cs) m in (r.1 (e ∙ b.0), rest.1 b.1)),
    )
