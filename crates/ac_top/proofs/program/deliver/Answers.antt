use Rattle.std.proofs.Common.{List, ℕ, Err, refl, ap, subst, ◌∙◌}
use Rattle.std.specs.Option.{option_map}
use Rattle.std.specs.FinMap.{insert}
use Rattle.ac_port.specs.Contents.{IsSameBut}
use Rattle.ac_port.specs.CallCounts.{Rose}
use Rattle.ac_top.specs.ProgramAnswers.{Puts, only_put, proof_first, proof_fails, proof_wants}
use Rattle.ac_top.specs.Reports.{report as a_report}
use Rattle.ac_top.specs.RunStages.{file_of}
use Rattle.ac_top.specs.ConsoleLines.{write_fault_line}
use Rattle.ac_top.specs.declared.status.Status.TheVariants as status
use Rattle.ac_top.proofs.program.deliver.Goals as goal

pub returns-in-None-clause-delivers : goal.returns-in-None-clause-delivers
returns-in-None-clause-delivers g c = only_put c.put.result (ap (option_map file_of) c.in-None.is) refl c.put.ensures

pub returns-in-Ok-clause-delivers : goal.returns-in-Ok-clause-delivers
returns-in-Ok-clause-delivers g c =
    let held = c.in-Ok.ensures.written ∙ (λ i. option_map (λ told. insert told (c.as_slice.ensures.value i) (c.as_slice-in-Some.ensures.value i)) (g.F.Files.contents c.args.files.now)) in
    proof_first (file_of c.in-Some.file) c.put-in-Ok.result (ap (option_map file_of) c.in-Some.is) held c.put-in-Ok.ensures

pub returns-in-Err-Failed-clause-delivers : goal.returns-in-Err-Failed-clause-delivers
returns-in-Err-Failed-clause-delivers g c =
    let failed = c.in-Err-Failed.is ∙ ap Err c.in-Err-Failed.field-0-is in
    let others = subst (λ (n : List ℕ). IsSameBut n (g.F.Files.contents c.args.files.now) (g.F.Files.contents c.write.new.self)) c.as_slice.ensures.value (c.write.ensures.others failed) in
    let put =
    subst (λ (n : List ℕ). Puts (a_report status.WriteFault (write_fault_line n)) (Rose (g.S.Sink.faults c.args.out.now) (g.S.Sink.faults c.put_write_fault.new.out)) (g.S.Sink.sent c.args.out.now) (g.S.Sink.sent c.put_write_fault.new.out) c.put_write_fault.result)
    c.as_slice-in-Err-Failed.ensures.value c.put_write_fault.ensures in
    proof_fails (file_of c.in-Some.file) c.put_write_fault.result (ap (option_map file_of) c.in-Some.is) (c.write.ensures.failed failed) others put

pub returns-in-Err-Memory-clause-delivers : goal.returns-in-Err-Memory-clause-delivers
returns-in-Err-Memory-clause-delivers g c =
    proof_wants (file_of c.in-Some.file) (ap (option_map file_of) c.in-Some.is) (c.write.ensures.memory (c.in-Err-Memory.is ∙ ap Err c.in-Err-Memory.field-0-is)) refl
