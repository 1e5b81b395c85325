use Rattle.std.proofs.Common.{refl}
use Rattle.ac_walk_state.proofs.Choosing.{has_found, has_not_more}
use Rattle.ac_walk_state.proofs.LastItems.{reread}
use Rattle.ac_walk_state.proofs.partial.has_site.Goals as goal

pub returns-then-same_site : goal.returns-then-same_site
returns-then-same_site c =
    let l = c.loop-other-test.true in
    ((λ _. has_found c.args.sites.now c.loop-other.other-index _ c.args.site.now l (reread c.args.sites.now c.loop-other.other-index _ l) (c.same_site.ensures.0 c.if-same_site.true)), (λ _. refl))

pub loop-other-preserved : goal.loop-other-preserved
loop-other-preserved c =
    let l = c.loop-other-test.true in
    has_not_more c.args.sites.now c.loop-other.other-index _ c.args.site.now l (reread c.args.sites.now c.loop-other.other-index _ l) (λ same. let t = c.same_site.ensures.1 same in let f = c.if-same_site.false in absurd cc) c.loop-other.invariant
