use Rattle.std.proofs.Common.{◌≡◌, to_z, of_z, rules}
use Rattle.std.specs.Int.{w128}
use Rattle.ac_base.proofs.Bits.{again_128}
use Rattle.ac_omega_certify.proofs.Divided.{divided-leads}
use Rattle.ac_omega_certify.proofs.path.TreePath.show_divided.Goals as goal

pub returns-clause-leads : goal.returns-clause-leads
returns-clause-leads c = λ start path h n a.
    let s : to_z w128 (of_z w128 c.size-size.result) ≡ c.size-size.result = search (rules, again_128) in
    let zero = rw s at c.in_ok-zero.ensures.leads in
    let reduce = rw s at c.in_ok-place.ensures.leads in
    rw (← c.size-size.ensures)
    (divided-leads c.args.self.now c.divide_zero.new.self c.reduce.new.self start path c.args.names.now c.args.equality.now.column c.args.equality.now.form.now c.args.rest.now c.in_ok-form.form c.args.equality.now.place c.in_ok-zero.zero c.in_ok-place.place c.size-size.result
    c.size-size.ensures c.requires.rest c.requires.column (c.in_ok-form.ensures.renames n) c.in_ok-form.ensures.within c.in_ok-zero.ensures.base.columns zero reduce h a)
