use Rattle.std.proofs.Common.{◌≡◌, ◌+◌, ◌-◌, ◌++◌, [], ◌∷◌, ap, ◌∙◌}
use Rattle.ac_gen.specs.Draws.{stage_at, stages}
use Rattle.ac_gen.proofs.Random.{stages_more}
use Rattle.ac_gen.proofs.draws.draw_stages.Goals as goal

pub loop-turn-preserved : goal.loop-turn-preserved
loop-turn-preserved c =
    let x = c.loop-turn.state in
    let n = c.args.count in
    let i = c.loop-turn._turn in
    let seen = c.loop-turn.drawn.items in
    let pushed : c.push.new.self.items ≡ seen ++ stage_at x ∷ [] = c.in_ok-push.ensures.items ∙ ap (λ t. seen ++ t ∷ []) c.draw_stage.ensures.stage in
    ap (λ ts. ts ++ stages c.draw_stage.new.state (n - (i + 1))) pushed
    ∙ ap (λ s. (seen ++ stage_at x ∷ []) ++ stages s (n - (i + 1))) c.draw_stage.ensures.state
    ∙ stages_more x n i seen c.loop-turn-test.true
    ∙ c.loop-turn.invariant
