use Rattle.std.proofs.Common.{◌≡◌, ◌≤◌, ◌++◌, [], ◌∷◌, ℕ, length, IfOk, IfSome, Result, Err, Some, Vec, ap, subst, ◌∙◌}
use Rattle.std.specs.Global.{Global}
use Rattle.std.specs.FinMap.{get}
use Rattle.ac_port.specs.Transcripts.{handed_of}
use Rattle.ac_port.specs.declared.files.ReadStop.{ReadStop}
use Rattle.ac_top.specs.Reads.{source_read}
use Rattle.ac_top.proofs.report.read_source.Goals as goal

pub returns-in-Ok-clause-source : goal.returns-in-Ok-clause-source
returns-in-Ok-clause-source g c =
    let files = g.F.Files.contents c.args.files.now in
    let name = c.args.name.now in
    let told = subst (λ (r : Result (Vec ℕ Global) ReadStop). IfOk r (λ bytes. IfSome files (λ held. get held name ≡ Some bytes.items))) c.in-Ok.is c.read.ensures.bytes in
    let short = subst (λ (r : Result (Vec ℕ Global) ReadStop). IfOk r (λ bytes. length bytes.items ≤ 65536)) c.in-Ok.is c.read.ensures.within in (
      record { told = told; short = short },
      c.read.ensures.handed ∙ ap (λ (r : Result (Vec ℕ Global) ReadStop). g.F.Files.transcript c.args.files.now ++ source_read name (handed_of r (λ bytes. bytes.items)) ∷ []) c.in-Ok.is,
    )

pub returns-in-Err-Failed-clause-source : goal.returns-in-Err-Failed-clause-source
returns-in-Err-Failed-clause-source g c =
    c.read.ensures.handed ∙ ap (λ (r : Result (Vec ℕ Global) ReadStop). g.F.Files.transcript c.args.files.now ++ source_read c.args.name.now (handed_of r (λ bytes. bytes.items)) ∷ []) (c.in-Err-Failed.is ∙ ap Err c.in-Err-Failed.field-0-is)

pub returns-in-Err-TooBig-clause-source : goal.returns-in-Err-TooBig-clause-source
returns-in-Err-TooBig-clause-source g c =
    let big = c.in-Err-TooBig.is ∙ ap Err c.in-Err-TooBig.field-0-is in (
      c.read.ensures.handed ∙ ap (λ (r : Result (Vec ℕ Global) ReadStop). g.F.Files.transcript c.args.files.now ++ source_read c.args.name.now (handed_of r (λ bytes. bytes.items)) ∷ []) big,
      c.read.ensures.too_big big,
    )
