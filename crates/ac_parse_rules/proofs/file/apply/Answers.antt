use Rattle.std.proofs.Common.{◌≡◌, sym, ◌∙◌, ap, subst}
use Rattle.ac_syntax.specs.ReadyPrograms.{ReadyProgram}
use Rattle.ac_syntax.specs.Small.{IsSmallProgram}
use Rattle.ac_parse_rules.specs.Files.{names_of, broken_under, program_under}
use Rattle.ac_parse_rules.proofs.Answering.{answer_fault}
use Rattle.ac_parse_rules.proofs.DeclaredNumbers.{parameters_listed, inputs_had}
use Rattle.ac_parse_rules.proofs.ArraysUsed.{numbers_declared}
use Rattle.ac_parse_rules.proofs.ReadyPrograms.{ready_program}
use Rattle.ac_parse_rules.proofs.SmallPrograms.{small_program}
use Rattle.ac_parse_rules.proofs.file.apply.Goals as goal

pub returns-in-Some-clause-answer : goal.returns-in-Some-clause-answer
returns-in-Some-clause-answer c =
    let n : c.as_slice.result.now ≡ names_of c.args.file.now = c.as_slice.ensures ∙ c.in_ok-names.ensures in
    let b = sym (ap (λ ns. broken_under ns c.args.file.now) n) ∙ sym c.in_ok-broken.ensures ∙ c.in-Some.is in
    answer_fault c.args.file.now c.fault_of.result c.in-Some.broken c.fault_of.ensures b

pub returns-clause-answer : goal.returns-clause-answer
returns-clause-answer c =
    let n : c.as_slice.result.now ≡ names_of c.args.file.now = c.as_slice.ensures ∙ c.in_ok-names.ensures in
    let m : c.as_slice-in-None.result.now ≡ names_of c.args.file.now = c.as_slice-in-None.ensures ∙ c.in_ok-names.ensures in
    (sym (ap (λ ns. broken_under ns c.args.file.now) n) ∙ sym c.in_ok-broken.ensures ∙ c.in-None.is, c.in_ok-build-in-None.ensures ∙ ap (λ ns. program_under ns c.args.file.now) m)

pub returns-clause-declared : goal.returns-clause-declared
returns-clause-declared c =
    numbers_declared c.args.file.now _ _ _ (c.as_slice.ensures ∙ c.in_ok-names.ensures) (c.as_slice-in-None.ensures ∙ c.in_ok-names.ensures) (sym c.in_ok-broken.ensures ∙ c.in-None.is) c.in_ok-build-in-None.ensures

pub returns-clause-parameters : goal.returns-clause-parameters
returns-clause-parameters c = parameters_listed c.args.file.now _ _ (c.as_slice-in-None.ensures ∙ c.in_ok-names.ensures) c.in_ok-build-in-None.ensures

pub returns-clause-inputs : goal.returns-clause-inputs
returns-clause-inputs c = inputs_had c.args.file.now _ _ (c.as_slice-in-None.ensures ∙ c.in_ok-names.ensures) c.in_ok-build-in-None.ensures

pub returns-clause-ready : goal.returns-clause-ready
returns-clause-ready c = λ h.
    let a = returns-clause-answer c in
    subst ReadyProgram (sym a.1) (ready_program c.args.file.now a.0 h)

pub returns-clause-small : goal.returns-clause-small
returns-clause-small c = let a = returns-clause-answer c in subst IsSmallProgram (sym a.1) (small_program c.args.file.now a.0)
