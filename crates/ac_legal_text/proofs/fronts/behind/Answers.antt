use Rattle.std.proofs.Common.{◌≡◌, ◌∙◌, length, refl, sym, true≢false, arith}
use Rattle.ac_legal_text.proofs.Texts.{front_fits, front_is, front_joined}
use Rattle.ac_legal_text.proofs.fronts.behind.Goals as goal

pub returns-then-text-long : goal.returns-then-text-long
returns-then-text-long c = λ rest e. let fits = front_fits c.args.text.now c.args.front.now rest e in omega (arith, fits, c.if-text-long.true)

pub returns-then-is : goal.returns-then-is
returns-then-is c = front_joined c.args.text.now c.args.front.now c.halves.result.0.now c.halves.result.1.now (length c.args.front.now) c.halves.ensures.front c.halves.ensures.behind (c.is.ensures.0 c.if-is.true)

pub returns : goal.returns
returns c = λ rest e. absurd (true≢false (sym (c.is.ensures.1 (front_is c.args.text.now c.args.front.now c.halves.result.0.now (length c.args.front.now) refl c.halves.ensures.front rest e)) ∙ c.if-is.false))
