use Rattle.std.proofs.Common.{refl}
use Rattle.ac_port.specs.CallCounts.{Rose}
use Rattle.ac_cli_args.specs.Commands.{spelled}
use Rattle.ac_top.specs.ProgramAnswers.{no_memory, kept}
use Rattle.ac_top.proofs.Delivering.{ends, leaves, tells_the_same, tells_different, no_writes}
use Rattle.ac_top.proofs.program.run.Goals as goal

pub returns-in-Ok-clause-answer : goal.returns-in-Ok-clause-answer
returns-in-Ok-clause-answer g c = ends g.F.Files.contents g.F.Files.transcript g.F.Files.write_faults c.args.files.now c.report.new.files c.deliver.new.files (spelled c.args.words.now) c.in-Ok.report (Rose (g.S.Sink.faults c.args.out.now) (g.S.Sink.faults c.deliver.new.out)) (g.S.Sink.sent c.args.out.now) (g.S.Sink.sent c.deliver.new.out) c.deliver.result c.report.ensures.same c.report.ensures.same_writes c.in-Ok.ensures.report c.deliver.ensures.delivers c.deliver.ensures.untouched c.deliver.ensures.same_reads

pub returns-in-Ok-clause-headline : goal.returns-in-Ok-clause-headline
returns-in-Ok-clause-headline g c = tells_the_same g.F.Files.contents g.F.Files.transcript g.F.Files.write_faults c.args.files.now c.report.new.files c.deliver.new.files (spelled c.args.words.now) c.in-Ok.report (Rose (g.S.Sink.faults c.args.out.now) (g.S.Sink.faults c.deliver.new.out)) (g.S.Sink.sent c.args.out.now) (g.S.Sink.sent c.deliver.new.out) c.deliver.result c.report.ensures.same c.report.ensures.same_writes c.in-Ok.ensures.report c.deliver.ensures.delivers c.deliver.ensures.untouched c.deliver.ensures.same_reads

pub returns-in-Ok-clause-different : goal.returns-in-Ok-clause-different
returns-in-Ok-clause-different g c = tells_different g.F.Files.contents g.F.Files.transcript g.F.Files.write_faults c.args.files.now c.report.new.files c.deliver.new.files (spelled c.args.words.now) c.in-Ok.report (Rose (g.S.Sink.faults c.args.out.now) (g.S.Sink.faults c.deliver.new.out)) (g.S.Sink.sent c.args.out.now) (g.S.Sink.sent c.deliver.new.out) c.deliver.result c.report.ensures.same c.report.ensures.same_writes c.in-Ok.ensures.report c.deliver.ensures.delivers c.deliver.ensures.untouched c.deliver.ensures.same_reads

pub returns-in-Ok-clause-same : goal.returns-in-Ok-clause-same
returns-in-Ok-clause-same g c = leaves g.F.Files.contents g.F.Files.transcript g.F.Files.write_faults c.args.files.now c.report.new.files c.deliver.new.files (spelled c.args.words.now) c.in-Ok.report (Rose (g.S.Sink.faults c.args.out.now) (g.S.Sink.faults c.deliver.new.out)) (g.S.Sink.sent c.args.out.now) (g.S.Sink.sent c.deliver.new.out) c.deliver.result c.report.ensures.same c.report.ensures.same_writes c.in-Ok.ensures.report c.deliver.ensures.delivers c.deliver.ensures.untouched c.deliver.ensures.same_reads

pub returns-in-Ok-clause-same_writes : goal.returns-in-Ok-clause-same_writes
returns-in-Ok-clause-same_writes g c = no_writes g.F.Files.contents g.F.Files.transcript g.F.Files.write_faults c.args.files.now c.report.new.files c.deliver.new.files (spelled c.args.words.now) c.in-Ok.report (Rose (g.S.Sink.faults c.args.out.now) (g.S.Sink.faults c.deliver.new.out)) (g.S.Sink.sent c.args.out.now) (g.S.Sink.sent c.deliver.new.out) c.deliver.result c.report.ensures.same c.report.ensures.same_writes c.in-Ok.ensures.report c.deliver.ensures.delivers c.deliver.ensures.untouched c.deliver.ensures.same_reads

pub returns-in-Err-clause-answer : goal.returns-in-Err-clause-answer
returns-in-Err-clause-answer g c = no_memory c.report.ensures.same refl

pub returns-in-Err-clause-same : goal.returns-in-Err-clause-same
returns-in-Err-clause-same g c = kept c.report.ensures.same
