use Rattle.std.proofs.Common.{ℤ, List, [], IfOk, MatchOption, sym, subst}
use Rattle.std.specs.Prelude.{option_map}
use Rattle.ac_cli_args.specs.Valuations.{IsValuationWord}
use Rattle.ac_top.proofs.Instances.{IsFound}
use Rattle.ac_top.proofs.runs.given.Goals as goal

pub returns-in-Some : goal.returns-in-Some
returns-in-Some c =
    subst (λ o. IfOk c.valuation.result (IsFound c.args.pair.now (option_map (λ w. w.now) o))) (sym c.in-Some.is)
    (subst (λ names. IfOk c.valuation.result (λ found. MatchOption found ((vs : List ℤ) → ¬ (IsValuationWord names c.in-Some.word.now vs)) (λ values. IsValuationWord names c.in-Some.word.now values.items))) c.as_slice-params.ensures c.valuation.ensures)

pub returns-in-None : goal.returns-in-None
returns-in-None c =
    subst (λ o. IfOk c.valuation-in-None.result (IsFound c.args.pair.now (option_map (λ w. w.now) o))) (sym c.in-None.is)
    (subst (λ names. IfOk c.valuation-in-None.result (λ found. MatchOption found ((vs : List ℤ) → ¬ (IsValuationWord names [] vs)) (λ values. IsValuationWord names [] values.items))) c.as_slice-params.ensures c.valuation-in-None.ensures)
