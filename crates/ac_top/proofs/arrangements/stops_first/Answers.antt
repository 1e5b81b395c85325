use Rattle.std.proofs.Common.{Option, false, refl, sym, subst}
use Rattle.std.proofs.lemmas.Result.{IfOk-weaker}
use Rattle.ac_claims.specs.Soundness as judge
use Rattle.ac_syntax.specs.declared.tree.Pair.{Pair}
use Rattle.ac_walk.specs.UnknownCauses.{left_model, right_model}
use Rattle.ac_top.specs.ArrangementReports.{arrangement}
use Rattle.ac_top.specs.ArrangementStages.{IfStops, IfStopsFirst}
use Rattle.ac_top.specs.ProgramAnswers.{AreLowered}
use Rattle.ac_top.specs.declared.arrangements.Early.{Early}
use Rattle.ac_top.proofs.ArrangedPairs.{asked_paired, one_lowered, one_paired}
use Rattle.ac_top.proofs.arrangements.stops_first.Goals as goal

pub returns-in-Some : goal.returns-in-Some
returns-in-Some c =
    let asked = c.args.asked.now in
    let pair = arrangement asked.symbols.now asked.pair.now c.args.output c.args.number in
    subst (λ (e : Option Early). IfStopsFirst pair e false) (sym c.in-Some.is) refl

pub stops-requires-clause-paired : goal.stops-requires-clause-paired
stops-requires-clause-paired c =
    let asked = c.args.asked.now in
    subst judge.ArePaired (sym c.in_ok-pair-in-None.ensures) (one_paired asked.symbols.now asked.pair.now c.args.output c.args.number (asked_paired asked c.requires.asked) c.requires.output)

pub stops-requires-clause-lowered : goal.stops-requires-clause-lowered
stops-requires-clause-lowered c =
    let asked = c.args.asked.now in
    subst AreLowered (sym c.in_ok-pair-in-None.ensures) (one_lowered asked.symbols.now asked.pair.now c.args.output c.args.number (asked_paired asked c.requires.asked) c.requires.asked.lowered)

pub returns-in_ok-pair-in-None : goal.returns-in_ok-pair-in-None
returns-in_ok-pair-in-None c =
    let asked = c.args.asked.now in
    let pair = arrangement asked.symbols.now asked.pair.now c.args.output c.args.number in
    IfOk-weaker c.stops.result _ _
    (λ b h. subst (λ (e : Option Early). IfStopsFirst pair e b) (sym c.in-None.is) (subst (λ (p : Pair). IfStops (left_model p) (right_model p) b) c.in_ok-pair-in-None.ensures h))
    c.stops.ensures
