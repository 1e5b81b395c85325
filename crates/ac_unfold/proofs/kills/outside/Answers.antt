use Rattle.std.proofs.Common.{refl, subst}
use Rattle.ac_unfold.specs.PlanResults.{IsOpen}
use Rattle.ac_unfold.specs.PlanGaps.{IsShownOpen}
use Rattle.ac_unfold.specs.BrokenPathResults.{KeepsPairPath}
use Rattle.ac_unfold.specs.declared.decide.Opened.{Opened}
use Rattle.ac_unfold.proofs.KillTasks.{opened_kills, outside_empty, outside_shown}
use Rattle.ac_unfold.proofs.kills.outside.Goals as goal

pub returns-in_ok-more-in-On : goal.returns-in_ok-more-in-On
returns-in_ok-more-in-On c =
    let n = c.args.node in
    let opened = subst (λ (x : Opened). IsOpen n.embedding n.question x) c.in-On.is c.in_ok-question.ensures.open in
    let kept = subst (λ (x : Opened). KeepsPairPath n x) c.in-On.is c.in_ok-question.ensures.pair_path in
    opened_kills c.args.search.now n c.in-On.node c.args.case c.args.number c.in_ok-more-in-On.more.items c.in_ok-more-in-On.ensures c.requires opened.0 opened.1 kept c.args.plans.now.items

pub returns-in_default : goal.returns-in_default
returns-in_default c = outside_shown c.args.search.now c.args.node c.args.case c.args.number c.in-Empty.made c.new.result.items c.args.plans.now.items (subst IsShownOpen c.in-Empty.is (c.in_ok-question.ensures.shown refl)) c.in_default.is

pub returns-in_ok-push-in-Empty : goal.returns-in_ok-push-in-Empty
returns-in_ok-push-in-Empty c =
    let n = c.args.node in
    let opened = subst (λ (x : Opened). IsOpen n.embedding n.question x) c.in-Empty.is c.in_ok-question.ensures.open in
    outside_empty c.args.search.now n c.args.case c.args.number c.in-Empty.made c.in-Some.plan c.new-in-Empty.result.items c.args.plans.now.items c.push.new.self.items opened c.in-Some.is c.new-in-Empty.ensures.items c.in_ok-push-in-Empty.ensures.items
