use Rattle.std.proofs.Common.{rules, arith, ◌≡◌, ◌≢◌, ◌+◌, ◌-◌, ◌≤◌, length}
use Rattle.std.proofs.lemmas.Result.{IfOk-weaker, IfErr-weaker}
use borrow.Author.Gap.{counting}
use Rattle.ac_legal_text.specs.OrderTexts.{time_line}
use Rattle.ac_legal_text.proofs.Lines.{shorter, some_arm, none_arm, no_times, times_more, fails_here, fails_later, on_line}
use Rattle.ac_legal_text.proofs.orders.+read_times.Goals as goal

pub returns-then-left-eq0-clause-times : goal.returns-then-left-eq0-clause-times
returns-then-left-eq0-clause-times t c = no_times c.args.text.now c.args.forms.now c.args.left c.args.columns c.if-left-eq0.true

pub returns-in_default-clause-fault : goal.returns-in_default-clause-fault
returns-in_default-clause-fault t c = λ more. fails_here c.args.left c.args.columns c.args.before c.args.text.now more c.if-left-eq0.false
    (none_arm c.in_ok-rest.field-0 _ _ c.in_default.is c.in_ok-rest.ensures)

pub read_times-requires : goal.read_times-requires
read_times-requires t c =
    let h = some_arm c.in_ok-rest.field-0 c.in-Some.rest _ _ c.in-Some.is c.in_ok-rest.ensures in
    let less = shorter c.args.text.now (time_line h.0) c.in-Some.rest.now h.3 in
    (search (rules, counting), omega (arith, less, c.requires))

pub returns-clause-times : goal.returns-clause-times
returns-clause-times t c =
    let h = some_arm c.in_ok-rest.field-0 c.in-Some.rest _ _ c.in-Some.is c.in_ok-rest.ensures in
    IfOk-weaker c.read_times.result _ _
    (λ rest k. times_more c.args.text.now c.in-Some.rest.now rest.now c.args.forms.now c.push_time.new.forms c.read_times.new.forms c.args.left c.args.columns h.0 c.if-left-eq0.false h.1 h.2 h.3 k)
    c.read_times.ensures.times

pub returns-clause-fault : goal.returns-clause-fault
returns-clause-fault t c = λ more.
    let h = some_arm c.in_ok-rest.field-0 c.in-Some.rest _ _ c.in-Some.is c.in_ok-rest.ensures in
    IfErr-weaker c.read_times.result _ _
    (λ fault g. on_line fault _ _ (λ n k. fails_later c.args.left c.args.columns c.args.before n c.args.text.now c.in-Some.rest.now more h.0 c.if-left-eq0.false h.2 h.3 k) g)
    (c.read_times.ensures.fault more)
