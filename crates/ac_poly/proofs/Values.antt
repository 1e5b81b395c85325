-- What the lowered forms of contexts and extents are worth.
use Rattle.std.proofs.Common.{◌≡◌, List, [], ◌∷◌, ◌++◌, length, map, refl, sym, ap, ◌∙◌, arith, ℤ, pos, ◌+ℤ◌}
use Rattle.std.proofs.lemmas.Int.{ints}
use Rattle.ac_base.specs.Dot.{dot}
use Rattle.ac_forms.specs.Affine.{Affine, value_at}
use Rattle.ac_syntax.specs.Index.{index_value, quots_value}
use Rattle.ac_syntax.specs.ReadyPrograms.{AllFit}
use Rattle.ac_syntax.specs.declared.tree.IndexExpr.{IndexExpr}
use Rattle.ac_poly.specs.IndexForms.{lowered}
use Rattle.ac_poly_quotients.proofs.FormValues.{worth, value-among}
pub use Rattle.ac_poly_quotients.proofs.FormValues.{length-mix}

-- without quotients; the columns past the parameters count for nothing
pub value-lowered : (ps zs : List ℤ) (its : List Affine) (e : IndexExpr) → length e.params ≡ length ps → e.quots ≡ []
    → value_at (lowered its e) (ps ++ zs) ≡ index_value (record { params = ps; iters = worth (ps ++ zs) its }) e
value-lowered ps zs its e h plain =
    let none : quots_value (record { params = ps; iters = worth (ps ++ zs) its }) e.quots ≡ pos 0 = ap (quots_value (record { params = ps; iters = worth (ps ++ zs) its })) plain in
    value-among ps zs its e.konst e.params e.iters h ∙ last e.konst (dot e.params ps) (dot e.iters (worth (ps ++ zs) its)) (quots_value (record { params = ps; iters = worth (ps ++ zs) its }) e.quots) none
  where
    last : (k a b q : ℤ) → q ≡ pos 0 → k +ℤ (a +ℤ b) ≡ k +ℤ (a +ℤ (b +ℤ q))
    last k a b q none = omega (arith, ints, none)

-- several index expressions
pub all_values : (ps zs : List ℤ) (its : List Affine) (es : List IndexExpr) → AllFit (length ps) (length its) es
    → map (index_value (record { params = ps; iters = worth (ps ++ zs) its })) es ≡ worth (ps ++ zs) (map (lowered its) es)
all_values ps zs its [] h = refl
all_values ps zs its (e ∷ es) h = let v = sym (value-lowered ps zs its e h.0.params h.0.plain) in λ i. v i ∷ all_values ps zs its es h.1 i
