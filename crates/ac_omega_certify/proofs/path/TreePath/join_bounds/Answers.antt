use Rattle.std.proofs.Common.{◌≡◌, true, false, sym, ◌∙◌, FitsSigned, unsigned_abs}
use Rattle.std.specs.Int.{w128}
use Rattle.ac_base.proofs.Bits.{read_back}
use Rattle.ac_base.specs.Multiple.{divides}
use Rattle.ac_forms.specs.NormalRows.{leads_negative}
use Rattle.ac_omega_certify.proofs.NormalEqualities.{sum_left, low_left, high_left}
use Rattle.ac_omega_certify.proofs.path.TreePath.join_bounds.Goals as goal

pub returns-then-not-divides_constant-clause-shows : goal.returns-then-not-divides_constant-clause-shows
returns-then-not-divides_constant-clause-shows c =
    let fs : FitsSigned w128 c.args.size = c.ranges.size in
    let k : divides (unsigned_abs c.args.size) c.args.form.now.konst ≡ false = sym (simp read_back at c.divides_constant.ensures) ∙ c.if-not-divides_constant.true in
    sum_left c.args.self.now c.add_two.new.self c.args.low c.args.high c.in_ok-sum.sum c.args.size c.args.form.now c.requires.divisor c.requires.some c.requires.up_to_2_to_122 k c.in_ok-sum.ensures.leads

pub returns-then-has_negative_lead-clause-shows : goal.returns-then-has_negative_lead-clause-shows
returns-then-has_negative_lead-clause-shows c =
    let fs : FitsSigned w128 c.args.size = c.ranges.size in
    let k : divides (unsigned_abs c.args.size) c.args.form.now.konst ≡ true = sym (simp read_back at c.divides_constant.ensures) ∙ c.if-not-divides_constant.false in
    let s : leads_negative c.args.form.now.coefs ≡ true = rw c.coefs.ensures at (sym c.has_negative_lead.ensures ∙ c.if-has_negative_lead.true) in
    high_left c.args.self.now c.join.new.self c.args.low c.args.high c.in_ok-turned.turned c.args.size c.args.form.now c.requires.divisor c.requires.some c.requires.up_to_2_to_122 k s c.in_ok-turned.ensures.leads

pub returns-clause-shows : goal.returns-clause-shows
returns-clause-shows c =
    let fs : FitsSigned w128 c.args.size = c.ranges.size in
    let k : divides (unsigned_abs c.args.size) c.args.form.now.konst ≡ true = sym (simp read_back at c.divides_constant.ensures) ∙ c.if-not-divides_constant.false in
    let s : leads_negative c.args.form.now.coefs ≡ false = rw c.coefs.ensures at (sym c.has_negative_lead.ensures ∙ c.if-has_negative_lead.false) in
    low_left c.args.self.now c.join-2.new.self c.args.low c.args.high c.in_ok-place.place c.args.size c.args.form.now c.requires.divisor c.requires.some c.requires.up_to_2_to_122 k s c.in_ok-place.ensures.leads
