use Rattle.std.proofs.Common.{rules, ◌≡◌, ◌++◌, ◌∷◌, [], None, Some, subst, sym, ap}
use Rattle.std.proofs.lemmas.Result.{on_ok_weaker}
use Rattle.ac_claims_paths.specs.ModelCalls.{pairing}
use Rattle.ac_prooftext.specs.LinePrefixes.{Gave}
use Rattle.ac_prooftext.proofs.Coursing.{with_item, without_item, took}
use Rattle.ac_prooftext.proofs.checker.take_line.Goals as goal

pub returns-in_default-clause-course : goal.returns-in_default-clause-course
returns-in_default-clause-course c = λ ls h.
    let g = pairing c.args.stepper.now.programs in
    let outputs = c.args.stepper.now.outputs.now in
    without_item g outputs ls c.args.line.now c.args.reader.now c.take_line.new.self c.args.stepper.now h (c.in_ok-item.ensures.ok ls (took g outputs ls c.args.reader.now c.args.stepper.now h))
    (subst (λ found. Gave c.args.reader.now c.args.line.now c.take_line.new.self found) c.in_default.is c.in_ok-item.ensures.item)

pub returns-clause-course : goal.returns-clause-course
returns-clause-course c =
    let g = pairing c.args.stepper.now.programs in
    let outputs = c.args.stepper.now.outputs.now in
    on_ok_weaker c.take.result
    (λ step ls h. with_item g outputs ls c.args.line.now c.in-Some.item c.args.reader.now c.take_line.new.self c.args.stepper.now c.take.new.self h (c.in_ok-item.ensures.ok ls (took g outputs ls c.args.reader.now c.args.stepper.now h))
    (subst (λ found. Gave c.args.reader.now c.args.line.now c.take_line.new.self found) c.in-Some.is c.in_ok-item.ensures.item) step)
    c.take.ensures.after
