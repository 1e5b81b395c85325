use Rattle.std.proofs.Common.{◌≡◌, ◌⊎◌, Bool, true}
use Rattle.ac_unfold_table.specs.StepQuestions.{judge}
use Rattle.ac_unfold_table.specs.TableCoverage.{AreCalls, Fails, IsCovered}
use Rattle.ac_unfold_table.proofs.Tabling.{if_each, proved_done}
use Rattle.ac_unfold_table.proofs.unfolding.take_relation.Goals as goal

pub table_proved-requires : goal.table_proved-requires
table_proved-requires c = λ d i e. c.requires (d, i, e)

pub returns-clause-done : goal.returns-clause-done
returns-clause-done c =
    let s = c.args.program_flows.now in
    let t = c.args.table.now in
    let r = c.args.relation in
    let new = c.table_proved.new.table in
    if_each c.table_proved.result (λ (b : Bool). Fails s t.order t.claims r ⊎ ((b ≡ true) × IsCovered new.tabled r)) (λ (b : Bool). Fails s t.order t.claims r ⊎ ((b ≡ true) × (AreCalls (judge s) r → IsCovered new.tabled r)))
    (λ b done. proved_done (Fails s t.order t.claims r) (IsCovered new.tabled r) (AreCalls (judge s) r) b done) c.table_proved.ensures.done
