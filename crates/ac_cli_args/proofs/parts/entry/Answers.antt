use Rattle.std.proofs.Common.{MatchOption, subst, sym}
use Rattle.ac_cli_args.specs.ValuationEntries.{Given, IsEntry, plain}
use Rattle.ac_cli_args.proofs.Reading.{no_entry}
use Rattle.ac_cli_args.proofs.parts.entry.Goals as goal

pub returns-in_err-value : goal.returns-in_err-value
returns-in_err-value c =
    subst (λ r. MatchOption r ((g : Given) → ¬ (IsEntry c.args.part.now g)) (λ g. IsEntry c.args.part.now (plain g))) (sym c.from_residual-in_err-value.ensures)
    (no_entry c.args.part.now c.in_ok-name.name.now c.in_ok-name.digits.now c.in_ok-name.ensures c.in_err-value.ensures)
