use Rattle.std.proofs.Common.{sym, ap, ◌∙◌}
use Rattle.std.specs.Option.{option_copied}
use Rattle.ac_top.proofs.Lines.{name_is, name_in}
use Rattle.ac_top.proofs.texts.name_of.Goals as goal

pub returns-in-Some : goal.returns-in-Some
returns-in-Some c = c.as_bytes.ensures.value ∙ sym (name_is c.args.arrays.now c.args.array ∙ ap name_in (sym c.declared_at.ensures ∙ ap option_copied c.in-Some.is))

pub returns-in-None : goal.returns-in-None
returns-in-None c = sym (name_is c.args.arrays.now c.args.array ∙ ap name_in (sym c.declared_at.ensures ∙ ap option_copied c.in-None.is))
