use Rattle.std.proofs.Common.{◌≡◌, ◌+◌, ap, true, false, ◌∙◌, sym}
use Rattle.ac_match.proofs.Numbering.{place_step, place_found}
use Rattle.ac_match.proofs.numbers.place_of.Goals as goal

pub returns-then-is_same : goal.returns-then-is_same
returns-then-is_same c =
    rw c.loop-candidate.invariant.0
    (place_found c.args.sites.now c.args.site.now c.loop-candidate.candidate-index _ c.loop-candidate.invariant.1 c.loop-candidate-test.true (c.is_same.ensures.0 c.if-is_same.true))

pub loop-candidate-preserved : goal.loop-candidate-preserved
loop-candidate-preserved c = (
  ap (λ n. n + 1) c.loop-candidate.invariant.0,
  place_step c.args.sites.now c.args.site.now c.loop-candidate.candidate-index _ c.loop-candidate.invariant.1 c.loop-candidate-test.true
      (λ e. let t = c.is_same.ensures.1 e in let f = c.if-is_same.false in let g : false ≡ true = sym f ∙ t in cc),
)
