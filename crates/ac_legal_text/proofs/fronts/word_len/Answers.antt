use Rattle.std.proofs.Common.{◌≡◌, ◌<◌, ◌≤◌, ◌∙◌, get_or, length, rules, arith, sym, subst, take}
use Rattle.std.proofs.lemmas.List.{take_all}
use Rattle.ac_legal_text.specs.Fronts.{IsInk}
use Rattle.ac_legal_text.proofs.Texts.{ink_step, end_at, end_behind}
use Rattle.ac_legal_text.proofs.fronts.word_len.Goals as goal

pub loop-at-preserved : goal.loop-at-preserved
loop-at-preserved c = ink_step c.args.text.now c.loop-at.at c.loop-at-test.true c.loop-at.invariant (search (rules, arith))

pub returns-then-text-at-le32-clause-ends : goal.returns-then-text-at-le32-clause-ends
returns-then-text-at-le32-clause-ends c = end_at c.args.text.now c.loop-at.at c.loop-at-test.true (search (rules, arith))

pub returns-clause-ink : goal.returns-clause-ink
returns-clause-ink c = subst IsInk (take_all c.loop-at.at c.args.text.now (omega arith) ∙ sym (take_all (length c.args.text.now) c.args.text.now (omega arith))) c.loop-at.invariant

pub returns-clause-ends : goal.returns-clause-ends
returns-clause-ends c = end_behind c.args.text.now (length c.args.text.now) (omega arith)
