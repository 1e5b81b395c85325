use Rattle.std.proofs.Common.{ℕ, sym, subst}
use Rattle.std.specs.Prelude.{IfSome}
use Rattle.ac_claims.specs.declared.types.PlanNext.TheVariants.{Hit}
use Rattle.ac_unfold.specs.PlanResults.{IsEndFor, IsMade}
use Rattle.ac_unfold.specs.declared.node.Node.{Node}
use Rattle.ac_unfold.proofs.Tabled.{freely_all, standing_made}
use Rattle.ac_unfold.proofs.tabling.hit_on.Goals as goal

pub returns-then-standing-clause-made : goal.returns-then-standing-clause-made
returns-then-standing-clause-made c =
    let s = c.args.search.now in
    let n = c.args.node.now in
    let ends = subst (λ (k : ℕ). IsEndFor s n.question c.args.rows.now (Hit k)) (sym c.in_ok-behind.ensures) c.requires in
    standing_made s n c.args.rows.now (Hit c.in_ok-behind.behind) c.plan_of.result ends (c.in_ok-standing.ensures.stand c.if-standing.true) (c.plan_of.ensures.steps, c.plan_of.ensures.next)

pub stand-requires : goal.stand-requires
stand-requires c =
    let s = c.args.search.now in
    let ends = subst (λ (k : ℕ). IsEndFor s c.args.node.now.question c.args.rows.now (Hit k)) (sym c.in_ok-behind.ensures) c.requires in
    subst (λ (v : Node). IsEndFor s v.question c.args.rows.now (Hit c.in_ok-behind.behind)) (sym c.in_ok-again.ensures) ends

pub returns-in-Some-clause-made : goal.returns-in-Some-clause-made
returns-in-Some-clause-made c =
    let s = c.args.search.now in
    subst (λ (v : Node). IfSome c.in-Some.made (IsMade s v.embedding v.question)) c.in_ok-again.ensures
    (freely_all (IsMade s c.in_ok-again.again.embedding c.in_ok-again.again.question) c.stand.result c.in_ok-asked.asked c.in-Some.made c.in-Some.is c.in_ok-asked.ensures.answered c.stand.ensures.made)

pub returns-in-Some-clause-missed : goal.returns-in-Some-clause-missed
returns-in-Some-clause-missed c = λ _. c.in_ok-standing.ensures.fails c.if-standing.false

pub returns-clause-missed : goal.returns-clause-missed
returns-clause-missed c = λ _. c.in_ok-standing.ensures.fails c.if-standing.false
