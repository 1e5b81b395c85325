use Rattle.std.proofs.Common.{subst}
use Rattle.ac_unfold.specs.PlanResults.{IsOpen}
use Rattle.ac_unfold.specs.BrokenPathResults.{KeepsPairPath}
use Rattle.ac_unfold.specs.UnbrokenResults.{IsEmptyOpen}
use Rattle.ac_unfold.specs.declared.decide.Opened.{Opened}
use Rattle.ac_unfold.proofs.ReadTasks.{none_lead, opened_holds, opened_leads}
use Rattle.ac_unfold.proofs.Unbroken.{empty_stands}
use Rattle.ac_unfold.proofs.reads.rest.Goals as goal

pub returns-in-Empty-clause-holds : goal.returns-in-Empty-clause-holds
returns-in-Empty-clause-holds c = λ all. empty_stands c.args.search.now c.args.node.question (subst (λ (x : Opened). IsEmptyOpen c.args.node.question.conj x) c.in-Empty.is c.in_ok-question.ensures.none)

pub returns-in-Empty-clause-lead : goal.returns-in-Empty-clause-lead
returns-in-Empty-clause-lead c = none_lead c.args.search.now c.args.node c.new.result.items c.new.ensures.items

pub returns-clause-lead : goal.returns-clause-lead
returns-clause-lead c =
    let n = c.args.node in
    let opened = subst (λ (x : Opened). IsOpen n.embedding n.question x) c.in-On.is c.in_ok-question.ensures.open in
    let kept = subst (λ (x : Opened). KeepsPairPath n x) c.in-On.is c.in_ok-question.ensures.pair_path in
    opened_leads c.args.search.now n c.in-On.child c.in_ok-more-in-On.more.items c.in_ok-more-in-On.ensures opened.0 kept

pub returns-clause-holds : goal.returns-clause-holds
returns-clause-holds c =
    let n = c.args.node in
    let opened = subst (λ (x : Opened). IsOpen n.embedding n.question x) c.in-On.is c.in_ok-question.ensures.open in
    opened_holds c.args.search.now n c.in-On.child c.in_ok-more-in-On.more.items c.in_ok-more-in-On.ensures opened.0
