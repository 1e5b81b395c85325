use Rattle.std.proofs.Common.{◌∙◌, Bor, ℕ, List, [], map, ap, sym, subst}
use Rattle.std.specs.List.{AllByRecursion}
use Rattle.ac_cli_args.specs.SymbolLists.{FitsAName}
use Rattle.ac_cli_args.proofs.Parsing.{all_at}
use Rattle.ac_cli_args.proofs.symbols.symbol_names.Goals as goal

pub name_of-requires : goal.name_of-requires
name_of-requires c =
    let same = ap (map (λ (t : Bor (List ℕ)). t.now)) c.deref-text-items.ensures.value ∙ c.in_ok-texts.ensures in
    all_at FitsAName (λ (t : Bor (List ℕ)). t.now) c.deref-text-items.result.now c.loop-text.text-index (record { ref_ptr = (0, 0); now = [] }) c.loop-text-test.true (subst (AllByRecursion FitsAName) (sym same) c.requires)
