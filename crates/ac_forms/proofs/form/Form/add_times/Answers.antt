use Rattle.std.proofs.Common.{refl}
use Rattle.ac_forms.proofs.Scales.{made_as}
use Rattle.ac_forms.proofs.Times.{can_add_times}
use Rattle.ac_base.proofs.Bits.{again_128}
use Rattle.ac_forms.proofs.form.Form.add_times.Goals as goal

pub returns : goal.returns
returns c =
    made_as c.combine.result (can_add_times c.args.self.now c.args.c c.args.other.now c.see_range.ensures) refl (rw (again_128 c.args.c c.ranges.c) at c.combine.ensures)
