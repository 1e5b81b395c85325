use Rattle.std.proofs.Common.{◌≡◌, ◌+◌, length, arith}
use Rattle.ac_parse_rules.specs.Statements.{targets}
use Rattle.ac_parse_rules.proofs.Targets.{in_turn, past_turn, past_length}
use Rattle.ac_parse_rules.proofs.statement.+target.Goals as goal

pub target_in-returns-in-Ok : goal.target_in-returns-in-Ok
target_in-returns-in-Ok t c =
    in_turn c.args.statements.now c.loop-statement.statement-index c.statement-item.result c.loop-statement.missing c.args.n c.in-Ok.place
    c.loop-statement-test.true c.statement-item.is c.in-Ok.ensures c.loop-statement.invariant.same

pub target_in-loop-statement-preserved : goal.target_in-loop-statement-preserved
target_in-loop-statement-preserved t c =
    let l = past_length c.args.statements.now c.loop-statement.statement-index c.statement-item.result c.loop-statement-test.true c.statement-item.is in
    let h : c.in-Err.left + length (targets c.statement-item.result) ≡ c.loop-statement.missing = c.in-Err.ensures in
    record {
      same = past_turn c.args.statements.now c.loop-statement.statement-index c.statement-item.result c.loop-statement.missing c.in-Err.left c.args.n
          c.loop-statement-test.true c.statement-item.is c.in-Err.ensures c.loop-statement.invariant.same;
      count = omega (arith, c.loop-statement.invariant.count);
    }
