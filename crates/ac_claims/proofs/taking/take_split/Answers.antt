use Rattle.std.proofs.Common.{◌≡◌, Some, ◌∙◌, sym}
use Rattle.ac_cert.specs.Rules.{side_rows}
use Rattle.ac_claims_paths.specs.ModelCalls.{pairing}
use Rattle.ac_claims.proofs.StackSteps.{settles_as, split_taken, row_entries}
use Rattle.ac_claims.proofs.taking.take_split.Goals as goal

pub awaits-requires-clause-entries : goal.awaits-requires-clause-entries
awaits-requires-clause-entries c = row_entries c.args.path c.in_ok-first-in-Ok.first c.in-Ok.low c.push_at.new.due c.in_ok-first-in-Ok.ensures c.in_ok-push_at-in-Ok.ensures.entries

pub returns-in_ok-first-in-Ok : goal.returns-in_ok-first-in-Ok
returns-in_ok-first-in-Ok c =
    let e : side_rows c.args.form.now c.args.path.conj.columns ≡ Some (c.in-Ok.low, c.in-Ok.high) = c.in-Ok.ensures.exact ∙ (λ i. Some (sym c.in-Ok.low-is i, sym c.in-Ok.high-is i)) in
    settles_as _ _ c.awaits.new.due c.awaits.result (split_taken (pairing c.args.line.now.programs.now) c.args.line.now.claims.now c.args.form.now c.args.line.now.number c.args.path (c.in-Ok.low, c.in-Ok.high) c.in_ok-first-in-Ok.first c.args.due.now c.push_at.new.due e c.in_ok-first-in-Ok.ensures c.in_ok-push_at-in-Ok.ensures.dues c.in_ok-push_at-in-Ok.ensures.entries) c.awaits.ensures
