use Rattle.std.proofs.Common.{ℕ, ◌<◌, length}
use Rattle.ac_legal.specs.QuestionChoices.{UnlessMemory}
use Rattle.ac_legal.specs.ScheduleAnswers.{NoneBetween, NoDecidedPointBetween, NoDecidedQuestionHasAPoint, IsPointOfTwo, IfKept, IfBroken, KeepsForAll, BreaksForAll}
use Rattle.ac_flow.proofs.Overs.{is_over}
use Rattle.ac_legal.proofs.Parting.{if_ok, if_err}
use Rattle.ac_legal.proofs.Trying.{unless_map}
use Rattle.ac_legal.proofs.Wholes.{kept_of, decided_of, broken_of, if_kept, if_broken}
use Rattle.ac_legal.proofs.deciding.legal.Goals as goal

pub from_all-requires : goal.from_all-requires
from_all-requires c = is_over c.args.m.now c.requires

pub returns-clause-kept : goal.returns-clause-kept
returns-clause-kept c =
    if_ok c.from_all.result (λ l. IfKept l ((i j : ℕ) → i < length c.args.m.now.stmts → j < length c.args.m.now.stmts → NoneBetween c.args.m.now c.args.order.now.times i j)) (λ l. IfKept l (KeepsForAll c.args.m.now c.args.order.now.times))
    (λ l h. if_kept l _ _ (kept_of c.args.m.now c.args.order.now.times) h) c.from_all.ensures.kept

pub returns-clause-broken : goal.returns-clause-broken
returns-clause-broken c =
    if_ok c.from_all.result (λ l. IfBroken l (IsPointOfTwo c.args.m.now c.args.order.now.times)) (λ l. IfBroken l (BreaksForAll c.args.m.now c.args.order.now.times))
    (λ l h. if_broken l (IsPointOfTwo c.args.m.now c.args.order.now.times) (BreaksForAll c.args.m.now c.args.order.now.times) (broken_of c.args.m.now c.args.order.now.times) h) c.from_all.ensures.broken

pub returns-clause-decided : goal.returns-clause-decided
returns-clause-decided c =
    let m = c.args.m.now in
    let times = c.args.order.now.times in
    let budget = c.args.limits.now.budget in
    if_err c.from_all.result (λ e. UnlessMemory e ((i j : ℕ) → i < length m.stmts → j < length m.stmts → NoDecidedPointBetween budget m times i j)) (λ e. UnlessMemory e (NoDecidedQuestionHasAPoint budget m times))
    (λ e. unless_map e ((i j : ℕ) → i < length m.stmts → j < length m.stmts → NoDecidedPointBetween budget m times i j) (NoDecidedQuestionHasAPoint budget m times) (decided_of budget m times)) c.from_all.ensures.decided
