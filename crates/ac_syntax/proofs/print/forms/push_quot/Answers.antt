use Rattle.std.proofs.Common.{ap, ◌∙◌, ◌++◌, FitsSigned, w64, rules, codes}
use Rattle.std.specs.Fmt.{signed_decimal}
use Rattle.std.proofs.lemmas.Int.{to_z-of_z}
use Rattle.ac_syntax.specs.Text.{terms, constant_term, sum_text}
use Rattle.ac_syntax.proofs.Sums.{ended_sum}
use Rattle.ac_syntax.proofs.Shapes.{quot_shape}
use Rattle.ac_syntax.proofs.print.forms.push_quot.Goals as goal

pub returns : goal.returns
returns c =
    let k : FitsSigned w64 c.args.quot.now.konst = search rules in
    let d : FitsSigned w64 c.args.quot.now.div = search rules in
    let last = simp to_z-of_z at c.in_ok-push_last.ensures in
    let divisor = simp to_z-of_z at c.in_ok-push_number.ensures in
    let names = terms c.as_slice.result.now c.args.scope.now.params ++ terms c.as_slice-2.result.now c.args.scope.now.iters in
    let form = sum_text (names ++ constant_term c.args.quot.now.konst) in
    let number = signed_decimal c.args.quot.now.div in
    let s = ended_sum names c.in_ok-any.any c.args.quot.now.konst c.extend_from_slice.new.self.items c.push_names.new.bytes.items c.push_last.new.bytes.items c.in_ok-any.ensures.text c.in_ok-any.ensures.any last in
    c.in_ok-push.ensures.items ∙ ap (λ l. l ++ codes ")") (divisor ∙ ap (λ l. l ++ number) (c.in_ok-extend_from_slice-2.ensures.items ∙ ap (λ l. l ++ codes ", ") (s ∙ ap (λ l. l ++ form) c.in_ok-extend_from_slice.ensures.items)))
    ∙ quot_shape c.args.bytes.now.items form number
    ∙ (λ i. c.args.bytes.now.items ++ (codes "floord(" ++ sum_text (terms (c.as_slice.ensures i) c.args.scope.now.params ++ terms (c.as_slice-2.ensures i) c.args.scope.now.iters ++ constant_term c.args.quot.now.konst) ++ codes ", " ++ number ++ codes ")"))
