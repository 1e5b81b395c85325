use Rattle.std.proofs.Common.{◌≡◌, [], ◌∷◌, length, sym, ap, subst, ◌∙◌}
use Rattle.ac_syntax.specs.ReadyPrograms.{FitParts}
use Rattle.ac_walk.specs.TriedValuations.{AreTried}
use Rattle.ac_walk.specs.UnknownCauses.{IsAnswered, IsEmptyAt}
use Rattle.ac_walk.specs.Verdicts.{AreMatched, AreVerdicts, IsStop, IsVerdict}
use Rattle.ac_top.specs.FlowReports.{default_budget}
use Rattle.ac_top.proofs.ArrangedAnswers.{one_said}
use Rattle.ac_top.proofs.findings.find.Goals as goal

pub model_of-requires-2-clause-context : goal.model_of-requires-2-clause-context
model_of-requires-2-clause-context c = subst (λ n. FitParts n 0 c.args.pair.now.context.parts) (sym c.requires.paired.params) c.requires.paired.context

pub only_verdict-verdict-requires : goal.only_verdict-verdict-requires
only_verdict-verdict-requires c =
    let pair = c.args.pair.now in
    let said = c.in-Ok.proved.verdicts in
    ap length c.as_slice.ensures ∙ one_said (IsVerdict pair) c.args.output said (subst (λ os. AreVerdicts pair os said) c.requires.output c.in-Ok.ensures.verdicts)

pub returns-in-Ok : goal.returns-in-Ok
returns-in-Ok c =
    let pair = c.args.pair.now in
    let o = c.args.output in
    let said = c.in-Ok.proved.verdicts in
    let v = c.only_verdict-verdict.result.now in
    let same : said ≡ v ∷ [] = sym c.as_slice.ensures ∙ c.only_verdict-verdict.ensures in
    let verdicts = subst (AreVerdicts pair (o ∷ [])) same (subst (λ os. AreVerdicts pair os said) c.requires.output c.in-Ok.ensures.verdicts) in
    let matched = subst (AreMatched pair (o ∷ [])) same (subst (λ os. AreMatched pair os said) c.requires.output c.in-Ok.ensures.matched) in
    let tried = subst (AreTried default_budget pair (o ∷ [])) same (subst (λ os. AreTried default_budget pair os said) c.requires.output c.in-Ok.ensures.tried) in
    c.finding_of.ensures pair o c.requires.paired verdicts.0 matched.0 (subst (IsAnswered default_budget pair) same c.in-Ok.ensures.causes) tried.0

pub returns-in-Err-EmptyContext : goal.returns-in-Err-EmptyContext
returns-in-Err-EmptyContext c =
    let pair = c.args.pair.now in
    record { stops = subst (IsEmptyAt default_budget pair) c.in-Err-EmptyContext.field-0-is c.in-Err-EmptyContext.ensures.empty; none = subst (IsStop pair) c.in-Err-EmptyContext.field-0-is c.in-Err-EmptyContext.ensures.stops }
