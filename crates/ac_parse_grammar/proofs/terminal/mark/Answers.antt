use Rattle.std.proofs.Common.{◌∙◌, ap}
use Rattle.ac_parse_grammar.specs.Terminals.{if_spelling}
use Rattle.ac_parse_grammar.proofs.terminal.mark.Goals as goal

pub returns : goal.returns
returns c = c.spelling.ensures ∙ ap (λ k. if_spelling k c.args.text.now) c.look_up-terminal.ensures
