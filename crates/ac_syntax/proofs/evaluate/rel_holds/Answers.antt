use Rattle.std.proofs.Common.{◌≡◌, ◌∙◌, ◌↔◌, ℤ, Bool, true, false, IsTrue, FitsSigned, w64, unsigned_abs, rules, sym, ap, refl}
use Rattle.std.specs.Int.{w128}
use Rattle.std.proofs.lemmas.Int.{to_z-of_z}
use Rattle.ac_base.specs.Multiple.{IsMultiple, divides}
use Rattle.ac_base.proofs.Divisors.{true-divides, false-divides}
use Rattle.ac_syntax.specs.Index.{rel_holds}
use Rattle.ac_syntax.proofs.Wide.{widened}
use Rattle.ac_syntax.proofs.evaluate.rel_holds.Goals as goal

tested : (b : Bool) (m z : ℤ) → (IsTrue b ↔ IsMultiple m z) → b ≡ divides (unsigned_abs m) z
tested true m z h = sym (true-divides (unsigned_abs m) z (h.0 refl))
tested false m z h = sym (false-divides (unsigned_abs m) z (λ d. let k : false ≡ true = h.1 d in cc))

pub returns-in-Divides : goal.returns-in-Divides
returns-in-Divides c =
    let k : FitsSigned w64 c.in-Divides.divisor = search rules in
    let w : FitsSigned w128 c.in-Divides.divisor = widened _ k in
    let v : FitsSigned w128 c.args.value = c.ranges.value in
    tested c.is_multiple.result c.in-Divides.divisor c.args.value (simp to_z-of_z at c.is_multiple.ensures) ∙ ap (λ r. rel_holds r c.args.value) (sym c.in-Divides.is)
