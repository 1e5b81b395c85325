use Rattle.ac_cert_short.specs.Drafts.{draft_nodes}
use Rattle.ac_cert_short.proofs.Shapes.{both_kept, second_alone}
use Rattle.ac_cert_short.proofs.drafting.beside.Goals as goal

pub returns-then-used-clause-drafted : goal.returns-then-used-clause-drafted
returns-then-used-clause-drafted c = λ old mid p q a b.
    both_kept old mid c.args.uses.now.items c.args.form p q (draft_nodes c.args.first) (draft_nodes c.args.second) (draft_nodes c.in_ok-both.both) c.args.used a b c.if-used.true c.in_ok-both.ensures

pub returns-clause-drafted : goal.returns-clause-drafted
returns-clause-drafted c = λ old mid p q a b.
    second_alone old mid c.args.uses.now.items c.forget_draft.new.counts.items c.args.form p q (draft_nodes c.args.first) (draft_nodes c.args.second) (draft_nodes c.in_ok-alone.alone) c.args.used a b c.if-used.false c.forget_draft.ensures.long c.forget_draft.ensures.forgotten c.in_ok-alone.ensures
