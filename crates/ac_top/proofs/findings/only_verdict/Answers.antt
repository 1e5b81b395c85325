use Rattle.std.proofs.Common.{◌≡◌, List, [], ◌∷◌, length, get_or, sym, arith}
use Rattle.ac_report.specs.declared.types.Verdict.{Verdict}
use Rattle.ac_top.proofs.findings.only_verdict.Goals as goal

one_of : (vs : List Verdict) (v : Verdict) → length vs ≡ 1 → v ≡ get_or vs 0 v → vs ≡ v ∷ []
one_of [] v h e = absurd (omega (arith, h))
one_of (w ∷ []) v h e = λ i. sym e i ∷ []
one_of (w ∷ u ∷ rest) v h e = absurd (omega (arith, h))

pub returns : goal.returns
returns c = one_of c.args.verdicts.now c.index-verdicts-0.result c.requires c.index-verdicts-0.is
