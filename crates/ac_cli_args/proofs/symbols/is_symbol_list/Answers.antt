use Rattle.std.proofs.Common.{List, ℕ, map, length, sym, ap, ◌∙◌}
use Rattle.std.proofs.lemmas.List.{length-map}
use Rattle.ac_cli_args.proofs.SymbolWords.{told}
use Rattle.ac_cli_args.proofs.symbols.is_symbol_list.Goals as goal

pub returns : goal.returns
returns c =
    let texts : List (List ℕ) = map (λ t. t.now) c.as_slice.result.now in
    told c.args.word.now texts (length c.as_slice.result.now) c.are_symbols.result (ap (map (λ t. t.now)) c.as_slice.ensures.value ∙ c.in_ok-texts.ensures) (sym (length-map c.as_slice.result.now (λ t. t.now))) c.are_symbols.ensures
