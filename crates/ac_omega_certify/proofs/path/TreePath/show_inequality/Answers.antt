use Rattle.std.proofs.Common.{◌≡◌, pos, ◌≤ℤ◌, FitsSigned, unsigned_abs, arith}
use Rattle.std.proofs.lemmas.Int.{ints}
use Rattle.std.specs.Int.{w128}
use Rattle.ac_base.proofs.Bits.{read_back}
use Rattle.ac_base.specs.Gcd.{content, DividesEach}
use Rattle.ac_forms.specs.declared.row.Row.TheVariants.{Ge}
use Rattle.ac_forms.specs.NormalRows.{divided}
use Rattle.ac_omega_certify.specs.TreePathRows.{Leads}
use Rattle.ac_omega_certify.proofs.Inequalities.{ge_shows_small, ge_shows_cut}
use Rattle.ac_omega_certify.proofs.path.TreePath.show_inequality.Goals as goal

pub returns-then-divisor-le1-clause-shows : goal.returns-then-divisor-le1-clause-shows
returns-then-divisor-le1-clause-shows c = λ start path names h a.
    let e : c.content-divisor.result ≡ content c.args.form.now.coefs = rw (← c.coefs.ensures) c.content-divisor.ensures.value in
    ge_shows_small c.args.self.now start path names c.args.x c.content-divisor.result c.args.form.now e c.if-divisor-le1.true h a

pub returns-clause-shows : goal.returns-clause-shows
returns-clause-shows c = λ start path names h a.
    let e : c.content-divisor.result ≡ content c.args.form.now.coefs = rw (← c.coefs.ensures) c.content-divisor.ensures.value in
    let s : c.in-Some.size ≡ pos c.content-divisor.result = c.in-Some.ensures.value.0 in
    let k : FitsSigned w128 c.in-Some.size = c.in-Some.ensures.value.1 in
    let l : pos 1 ≤ℤ c.in-Some.size = rw s (omega (arith, ints, c.if-divisor-le1.false)) in
    let d : DividesEach (unsigned_abs c.in-Some.size) c.args.form.now.coefs = rw (s, ← c.coefs.ensures) c.content-divisor.ensures.divides in
    let m : Leads c.cut.new.self start path names c.in_ok-place.place (Ge (divided (pos c.content-divisor.result) c.args.form.now)) = rw (← s) ((simp read_back at c.in_ok-place.ensures.leads) start path names c.args.form.now h a l d) in
    ge_shows_cut c.cut.new.self start path names c.in_ok-place.place c.content-divisor.result c.args.form.now e (λ z. absurd (omega (arith, z, c.if-divisor-le1.false))) m
