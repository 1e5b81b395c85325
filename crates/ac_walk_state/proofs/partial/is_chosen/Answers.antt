use Rattle.std.proofs.Common.{refl}
use Rattle.ac_walk_state.proofs.Choosing.{site_found}
use Rattle.ac_walk_state.proofs.LastItems.{not_more, reread}
use Rattle.ac_walk_state.proofs.partial.is_chosen.Goals as goal

pub returns-then-same_site : goal.returns-then-same_site
returns-then-same_site c =
    let l = c.loop-choice-test.true in
    ((λ _. site_found c.args.choices.now c.loop-choice.choice-index _ c.args.site.now l (reread c.args.choices.now c.loop-choice.choice-index _ l) (c.same_site.ensures.0 c.if-same_site.true)), (λ _. refl))

pub loop-choice-preserved : goal.loop-choice-preserved
loop-choice-preserved c =
    let l = c.loop-choice-test.true in
    not_more (λ x. x.0) c.args.choices.now c.loop-choice.choice-index _ c.args.site.now l (reread c.args.choices.now c.loop-choice.choice-index _ l) (λ same. let t = c.same_site.ensures.1 same in let f = c.if-same_site.false in absurd cc) c.loop-choice.invariant
