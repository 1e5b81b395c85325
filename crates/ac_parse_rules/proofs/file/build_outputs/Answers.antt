use Rattle.ac_parse_rules.proofs.Answering.{outputs_turn}
use Rattle.ac_parse_rules.specs.Files.{output_words, output_numbers}
use Rattle.std.proofs.Common.{ap, ◌∙◌, ◌++◌}
use Rattle.ac_parse_rules.proofs.file.build_outputs.Goals as goal

pub loop-pragma-preserved : goal.loop-pragma-preserved
loop-pragma-preserved c =
    outputs_turn c.args.names.now c.args.pragmas.now c.loop-pragma.pragma-index c.pragma-item.result c.loop-pragma.all c.in_ok-all.all (output_numbers c.args.names.now (output_words c.args.pragmas.now))
    c.loop-pragma-test.true c.pragma-item.is (c.in_ok-all.ensures ∙ ap (λ ws. c.loop-pragma.all ++ output_numbers c.args.names.now ws) c.line_words.ensures) c.loop-pragma.invariant
