use Rattle.std.proofs.Common.{◌∙◌, ap, map}
use Rattle.ac_parse_rules.specs.Declarations.{param_names, slots_from}
use Rattle.ac_parse_rules.specs.Files.{commutative_words, output_line}
use Rattle.ac_parse_rules.proofs.Answering.{made}
use Rattle.ac_parse_rules.proofs.file.build.Goals as goal

pub returns : goal.returns
returns c =
    made c.args.names.now c.args.file.now _ _ _ _ _ _ _ _ c.in_ok-copy.ensures (c.in_ok-build_params.ensures ∙ ap param_names c.as_slice.ensures) c.in_ok-build_arrays.ensures
    (c.in_ok-build_slots.ensures ∙ ap (λ ps. slots_from ps 0 0) c.as_slice-2.ensures) c.in_ok-build_body.ensures c.in_ok-build_cond.ensures
    (c.in_ok-build_commutative.ensures ∙ ap (λ ps. map (λ word. word.name) (commutative_words ps)) c.as_slice-3.ensures)
    (c.in_ok-build_output_line.ensures ∙ ap (output_line c.args.names.now) c.as_slice-4.ensures)
