use Rattle.std.proofs.Common.{◌++◌, take, Err, ap, ◌∙◌}
use Rattle.std.specs.Option.{option_map}
use Rattle.ac_top.specs.ProgramAnswers.{whole, part, nothing}
use Rattle.ac_top.proofs.program.put.Goals as goal

pub returns-in-Ok : goal.returns-in-Ok
returns-in-Ok g c = whole (c.in-Ok.ensures.appended ∙ ap (λ t. option_map (λ sent. sent ++ t) (g.S.Sink.sent c.args.out.now)) c.deref.ensures.value)

pub returns-in-Err-Failed : goal.returns-in-Err-Failed
returns-in-Err-Failed g c =
    let front = c.put.ensures.front (c.in-Err-Failed.is ∙ ap Err c.in-Err-Failed.field-0-is) in
    part front.0 (c.put.ensures.failed (c.in-Err-Failed.is ∙ ap Err c.in-Err-Failed.field-0-is)) (front.1 ∙ ap (λ t. option_map (λ sent. sent ++ take front.0 t) (g.S.Sink.sent c.args.out.now)) c.deref.ensures.value)

pub returns-in-Err-Memory : goal.returns-in-Err-Memory
returns-in-Err-Memory g c = nothing (c.put.ensures.memory (c.in-Err-Memory.is ∙ ap Err c.in-Err-Memory.field-0-is))
