use Rattle.std.proofs.Common.{subst}
use Rattle.std.proofs.lemmas.Result.{on_ok_weaker}
use Rattle.ac_prooftext.specs.LinePrefixes.{Gave}
use Rattle.ac_prooftext.proofs.ReadSteps.{with_item, without_item, took_by}
use Rattle.ac_prooftext.proofs.read.read_line.Goals as goal

pub returns-in_default : goal.returns-in_default
returns-in_default c = λ ls h.
    without_item c.args.alloc ls c.args.line.now c.args.reader.now c.take_line.new.self c.args.proof.now h (c.in_ok-item.ensures.ok ls (took_by c.args.alloc ls c.args.reader.now c.args.proof.now h))
    (subst (λ found. Gave c.args.reader.now c.args.line.now c.take_line.new.self found) c.in_default.is c.in_ok-item.ensures.item)

pub returns : goal.returns
returns c =
    on_ok_weaker c.take.result
    (λ taken ls h. with_item c.args.alloc ls c.args.line.now c.in-Some.item c.args.reader.now c.take_line.new.self c.args.proof.now c.take.new.self h (c.in_ok-item.ensures.ok ls (took_by c.args.alloc ls c.args.reader.now c.args.proof.now h))
    (subst (λ found. Gave c.args.reader.now c.args.line.now c.take_line.new.self found) c.in-Some.is c.in_ok-item.ensures.item) taken)
    c.take.ensures
