use Rattle.std.proofs.Common.{List, map, IfOk, MatchOption, subst, sym}
use Rattle.ac_cli_args.specs.ValuationEntries.{Given, AreEntries, plain}
use Rattle.ac_cli_args.proofs.Reading.{parts_whole}
use Rattle.ac_cli_args.proofs.parts.entries.Goals as goal

pub returns : goal.returns
returns c =
    subst (λ ps. IfOk c.entries_of.result (λ found. MatchOption found ((gs : List Given) → ¬ (AreEntries ps gs)) (λ given. AreEntries ps (map plain given.items))))
    (sym (parts_whole c.args.word.now (sym c.if-is_empty.ensures)))
    c.entries_of.ensures
