use Rattle.ac_base.proofs.Bits.{again_128}
use Rattle.ac_forms.proofs.Scales.{made_as, can_scale, scaled_is}
use Rattle.ac_forms.proofs.form.Form.scale.Goals as goal

pub returns : goal.returns
returns c =
    made_as c.combine.result (can_scale c.args.k c.args.self.now) (scaled_is c.args.k c.args.self.now) (rw (again_128 _ c.ranges.k, c.new.ensures.items) at c.combine.ensures)
