use Rattle.std.proofs.Common.{◌≡◌, ◌<◌, ◌≤◌, ℕ, MatchOption, subst, arith}
use Rattle.ac_top.specs.ArrangementReports.{IsWithoutValuation, arrangement, tried_of}
use Rattle.ac_top.specs.ArrangementStages.{IfStopsFirst, IsFinding, IsSoFar}
use Rattle.ac_top.proofs.ArrangedAnswers.{none_so_far, apart_stays, equal_so, stopped_so}
use Rattle.ac_top.proofs.ArrangedPairs.{asked_can, tried_are}
use Rattle.ac_top.proofs.arrangements.answer_on.Goals as goal

pub loop-number-init : goal.loop-number-init
loop-number-init c = none_so_far c.args.asked.now.symbols.now c.args.asked.now.pair.now c.args.output

pub returns-in-Equal : goal.returns-in-Equal
returns-in-Equal c =
    let asked = c.args.asked.now in
    let names = asked.symbols.now in
    let pair = asked.pair.now in
    let output = c.args.output in
    let number = c.loop-number.number in
    let Is = IsFinding (arrangement names pair output number) output in
    let found = subst (λ f. MatchOption f (IsWithoutValuation pair) Is) c.in-Some.is c.in_ok-finding.ensures in
    let tried = tried_are asked c.requires.asked c.arrangements-count.result c.min-tried.result c.arrangements-count.ensures c.min-tried.ensures in
    equal_so names pair output (asked_can asked c.requires.asked) number (subst (λ (n : ℕ). number < n) tried.0 c.loop-number-test.true) (subst Is c.in-Equal.is found)

pub loop-number-preserved-in-Apart : goal.loop-number-preserved-in-Apart
loop-number-preserved-in-Apart c =
    let asked = c.args.asked.now in
    let names = asked.symbols.now in
    let pair = asked.pair.now in
    let output = c.args.output in
    let number = c.loop-number.number in
    let Is = IsFinding (arrangement names pair output number) output in
    let found = subst (λ f. MatchOption f (IsWithoutValuation pair) Is) c.in-Some.is c.in_ok-finding.ensures in
    apart_stays names pair output c.loop-number.early number c.loop-number.invariant (subst Is c.in-Apart.is found)

pub returns-then-over : goal.returns-then-over
returns-then-over c =
    let asked = c.args.asked.now in
    let names = asked.symbols.now in
    let pair = asked.pair.now in
    let output = c.args.output in
    let number = c.loop-number.number in
    let early = c.loop-number.early in
    let first = c.first_end-first.result in
    let made = arrangement names pair output number in
    let found = subst (λ f. MatchOption f (IsWithoutValuation pair) (IsFinding made output)) c.in-Some.is c.in_ok-finding.ensures in
    let so_far = c.first_end-first.ensures.so_far names pair output c.loop-number.invariant (subst (IsFinding made output) c.in-Early.is found) in
    let tried = tried_are asked c.requires.asked c.arrangements-count.result c.min-tried.result c.arrangements-count.ensures c.min-tried.ensures in
    let below : number < tried_of names pair = subst (λ (n : ℕ). number < n) tried.0 c.loop-number-test.true in
    stopped_so names pair output early first number below c.first_end-first.ensures.number (subst (IfStopsFirst made early) c.if-over.true c.in_ok-over-in-Early.ensures) so_far

pub loop-number-preserved : goal.loop-number-preserved
loop-number-preserved c =
    let asked = c.args.asked.now in
    let names = asked.symbols.now in
    let pair = asked.pair.now in
    let output = c.args.output in
    let Is = IsFinding (arrangement names pair output c.loop-number.number) output in
    let found = subst (λ f. MatchOption f (IsWithoutValuation pair) Is) c.in-Some.is c.in_ok-finding.ensures in
    c.first_end-first.ensures.so_far names pair output c.loop-number.invariant (subst Is c.in-Early.is found)

pub returns : goal.returns
returns c =
    let asked = c.args.asked.now in
    let names = asked.symbols.now in
    let pair = asked.pair.now in
    let output = c.args.output in
    let number = c.loop-number.number in
    let tried = tried_are asked c.requires.asked c.arrangements-count.result c.min-tried.result c.arrangements-count.ensures c.min-tried.ensures in
    let most : number ≤ c.min-tried.result = c.loop-number.auto.number-end in
    let end : number ≡ c.min-tried.result = omega (arith, most, c.loop-number-test.false) in
    let all = subst (λ (n : ℕ). IsSoFar names pair output n c.loop-number.early) tried.0 (subst (λ (n : ℕ). IsSoFar names pair output n c.loop-number.early) end c.loop-number.invariant) in
    c.last_answer.ensures names pair output tried.1 all
