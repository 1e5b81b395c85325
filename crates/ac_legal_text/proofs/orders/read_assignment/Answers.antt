use Rattle.std.proofs.Common.{arith, inl, refl, ◌≤◌, ◌+◌, length}
use Rattle.std.proofs.lemmas.Result.{IfOk-weaker, IfErr-weaker}
use Rattle.ac_legal_text.proofs.Lines.{shorter, assignment_more, assign_fails, on_line}
use Rattle.ac_legal_text.specs.OrderTexts.{assign_line}
use Rattle.ac_legal_text.proofs.orders.read_assignment.Goals as goal

pub returns-in_default-clause-fault : goal.returns-in_default-clause-fault
returns-in_default-clause-fault c = λ more. inl (refl, c.in_default.ensures)

pub read_times-requires : goal.read_times-requires
read_times-requires c = let less = shorter c.args.text.now (assign_line c.args.number) c.in-Some.rest.now c.in-Some.ensures in omega (arith, less, c.requires)

pub returns-clause-times : goal.returns-clause-times
returns-clause-times c =
    IfOk-weaker c.read_times.result _ _
    (λ rest h. assignment_more c.args.text.now c.in-Some.rest.now rest.now c.args.forms.now c.read_times.new.forms c.args.levels c.args.columns c.args.number c.in-Some.ensures h)
    c.read_times.ensures.times

pub returns-clause-fault : goal.returns-clause-fault
returns-clause-fault c = λ more.
    IfErr-weaker c.read_times.result _ _
    (λ fault h. on_line fault _ _ (λ n k. assign_fails c.args.levels c.args.columns c.args.number c.args.before n c.args.text.now c.in-Some.rest.now more c.in-Some.ensures k) h)
    (c.read_times.ensures.fault more)
