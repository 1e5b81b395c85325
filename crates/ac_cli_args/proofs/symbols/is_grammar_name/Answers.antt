use Rattle.std.proofs.Common.{ap, ◌∙◌}
use Rattle.ac_parse_grammar.specs.Terminals.{is_name, terminal}
use Rattle.ac_cli_args.proofs.symbols.is_grammar_name.Goals as goal

pub returns : goal.returns
unfolding terminal
returns c = c.is_name.ensures ∙ ap is_name c.terminal_of.ensures
