use Rattle.std.proofs.Common.{ℕ, ℤ, List, map, MatchOption, Option, None, Some, Vec, subst}
use Rattle.std.specs.Global.{Global}
use Rattle.std.proofs.lemmas.Result.{IfOk-weaker}
use Rattle.ac_cli_args.specs.ValuationEntries.{Given, AreEntries, parts_of, plain}
use Rattle.ac_cli_args.specs.Valuations.{Gives, IsValuationWord}
use Rattle.ac_cli_args.proofs.Reading.{entries_once}
use Rattle.ac_cli_args.proofs.given.valuation.Goals as goal

decided : (params : List (List ℕ)) (word : List ℕ) (given : List Given) → AreEntries (parts_of word) given → (found : Option (Vec ℤ Global)) → MatchOption found ((vs : List ℤ) → ¬ (Gives params given vs)) (λ values. Gives params given values.items)
    → MatchOption found ((vs : List ℤ) → ¬ (IsValuationWord params word vs)) (λ values. IsValuationWord params word values.items)
decided params word given are None h = λ vs k. h vs (subst (λ g. Gives params g vs) (entries_once (parts_of word) k.given given k.entries are) k.gives)
decided params word given are (Some values) h = record { given = given; entries = are; gives = h }

pub returns-in-Some : goal.returns-in-Some
returns-in-Some c =
    let are : AreEntries (parts_of c.args.word.now) (map plain c.in-Some.given.items) = subst (λ found. MatchOption found ((gs : List Given) → ¬ (AreEntries (parts_of c.args.word.now) gs)) (λ given. AreEntries (parts_of c.args.word.now) (map plain given.items))) c.in-Some.is c.in_ok-given.ensures in
    IfOk-weaker c.given_values.result _ _
    (λ found h. decided c.args.params.now c.args.word.now (map plain c.in-Some.given.items) are found (subst (λ gs. MatchOption found ((vs : List ℤ) → ¬ (Gives c.args.params.now (map plain gs) vs)) (λ values. Gives c.args.params.now (map plain gs) values.items)) c.deref.ensures.value h))
    c.given_values.ensures
