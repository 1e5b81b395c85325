use Rattle.std.proofs.Common.{◌≡◌, ℕ, ℤ, List, [], sym, subst, arith, rules, FitsSigned}
use Rattle.std.specs.Int.{w128}
use Rattle.std.proofs.lemmas.Int.{to_z-of_z}
use Rattle.ac_legal_text.proofs.Terms.{IsHalfRead, half_start, half_stop, half_step, ended}
use Rattle.ac_legal_text.proofs.times.push_coefficients.Goals as goal

pub loop-column-init : goal.loop-column-init
loop-column-init c = subst (λ (xs : List ℤ). IsHalfRead c.args.text.now c.args.columns 0 xs c.args.text.now) (sym c.requires) (half_start c.args.text.now c.args.columns)

pub loop-column-preserved : goal.loop-column-preserved
loop-column-preserved c =
    let fits : FitsSigned w128 c.in-Some.number = search rules in
    half_step c.args.text.now c.args.columns c.loop-column.column c.loop-column.coefs c.push.new.self c.loop-column.rest.now c.in-Some.left.now c.in-Some.number c.loop-column.invariant c.loop-column-test.true (omega arith)
    c.in-Some.ensures.read c.in-Some.ensures.whole (simp to_z-of_z at c.in_ok-push.ensures.ok)

pub returns-in_default : goal.returns-in_default
returns-in_default c = half_stop c.args.text.now c.args.columns c.loop-column.column c.loop-column.coefs c.loop-column.rest.now c.loop-column.invariant c.loop-column-test.true (omega arith) c.in_default.ensures.whole

pub returns : goal.returns
returns c = ended (λ r. r.now) c.args.text.now c.args.columns c.loop-column.column c.loop-column.coefs c.loop-column.rest.now c.behind.result c.loop-column.invariant (omega arith) c.behind.ensures
