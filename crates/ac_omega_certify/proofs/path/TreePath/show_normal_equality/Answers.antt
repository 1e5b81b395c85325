use Rattle.std.proofs.Common.{◌≡◌, pos, FitsSigned, refl, rules}
use Rattle.std.specs.Int.{w128}
use Rattle.ac_base.proofs.Bits.{read_back, again_128}
use Rattle.ac_base.specs.Gcd.{content}
use Rattle.ac_omega_certify.proofs.NormalEqualities.{eq_shows_still, equality_left, divisor_some, divisor_divides, moderate_of}
use Rattle.ac_omega_certify.proofs.path.TreePath.show_normal_equality.Goals as goal

pub returns-then-size-eq0-clause-shows : goal.returns-then-size-eq0-clause-shows
returns-then-size-eq0-clause-shows c = λ start path names h o a.
    let none : content c.args.form.now.coefs ≡ 0 = rw c.divisor_of-size.ensures at c.if-size-eq0.true in
    eq_shows_still c.args.self.now start path names c.args.x (content c.args.form.now.coefs) c.args.form.now refl none h a

pub join_bounds-requires : goal.join_bounds-requires
join_bounds-requires c =
    let size = c.divisor_of-size.result in
    let fits : FitsSigned w128 size = search rules in
    let some : size ≡ pos 0 → ⊥ = λ z. c.if-size-eq0.false (rw z refl) in
    rw (again_128 size fits) (record {
      divisor = c.divisor_of-size.ensures;
      some = divisor_some size (content c.args.form.now.coefs) c.divisor_of-size.ensures some;
      up_to_2_to_122 = moderate_of size c.args.form.now c.divisor_of-size.ensures some c.requires;
    })

pub returns-clause-shows : goal.returns-clause-shows
returns-clause-shows c =
    let size = c.divisor_of-size.result in
    let fits : FitsSigned w128 size = search rules in
    let some : size ≡ pos 0 → ⊥ = λ z. c.if-size-eq0.false (rw z refl) in
    equality_left c.args.self.now c.show_bounds.new.self c.join_bounds.new.self c.args.x c.in_ok-low.low c.in_ok-low.high c.in_ok-place-2.place size c.args.form.now
    (simp read_back at c.in_ok-low.ensures.bounds) (simp read_back at c.in_ok-place-2.ensures.shows)
    (divisor_some size (content c.args.form.now.coefs) c.divisor_of-size.ensures some) (divisor_divides size c.args.form.now c.divisor_of-size.ensures) (moderate_of size c.args.form.now c.divisor_of-size.ensures some c.requires)
