use Rattle.std.proofs.Common.{sym, ap, ◌∙◌}
use Rattle.std.specs.Option.{option_copied}
use Rattle.ac_syntax.specs.Outputs.{is_input_kind}
use Rattle.ac_instance.proofs.Arrays.{kinds, kind_at}
use Rattle.ac_instance.proofs.evaluate.is_input.Goals as goal

pub returns-in-Input : goal.returns-in-Input
returns-in-Input c =
    sym (kinds c.args.arrays.now c.args.array ∙ ap kind_at (sym c.declared_at.ensures ∙ ap option_copied c.in-Some.is) ∙ ap is_input_kind c.in-Input.is)

pub returns-in-Local : goal.returns-in-Local
returns-in-Local c =
    sym (kinds c.args.arrays.now c.args.array ∙ ap kind_at (sym c.declared_at.ensures ∙ ap option_copied c.in-Some.is) ∙ ap is_input_kind c.in-Local.is)

pub returns-in-None : goal.returns-in-None
returns-in-None c = sym (kinds c.args.arrays.now c.args.array ∙ ap kind_at (sym c.declared_at.ensures ∙ ap option_copied c.in-None.is))
