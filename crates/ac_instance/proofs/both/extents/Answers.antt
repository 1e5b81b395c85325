use Rattle.std.proofs.Common.{sym, ap, ◌∙◌}
use Rattle.std.specs.Option.{option_copied}
use Rattle.ac_instance.proofs.Arrays.{extents_is, extents_of}
use Rattle.ac_instance.proofs.both.extents.Goals as goal

pub returns-in-Some : goal.returns-in-Some
returns-in-Some c = c.as_slice.ensures ∙ sym (extents_is c.args.arrays.now c.args.array ∙ ap extents_of (sym c.declared_at.ensures ∙ ap option_copied c.in-Some.is))

pub returns-in-None : goal.returns-in-None
returns-in-None c = sym (extents_is c.args.arrays.now c.args.array ∙ ap extents_of (sym c.declared_at.ensures ∙ ap option_copied c.in-None.is))
