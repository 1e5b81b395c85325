-- By the lemma on what follows the `#`.
use Rattle.std.proofs.Common.{sym, subst, ◌∙◌, ap}
use Rattle.ac_lex.specs.LexerModel.{IsOfKind, directive_of}
use Rattle.ac_lex.proofs.DirectiveKinds.{kind_is, rest_is}
use Rattle.ac_lex.proofs.directives.directive_of.Goals as goal

pub returns : goal.returns
returns c =
    subst (IsOfKind c.args.line.now) (sym (c.directive_after.ensures ∙ ap directive_of (rest_is c.args.line.now))) (kind_is c.args.line.now)
