use Rattle.std.proofs.Common.{◌≡◌, ◌++◌, ◌∷◌, List, ℕ, decimal, arith}
use Rattle.ac_legal_text.proofs.Levels.{one_more}
use Rattle.ac_legal_text.proofs.heads.levels_at.Goals as goal

pub loop-levels-preserved : goal.loop-levels-preserved
loop-levels-preserved c = one_more c.loop-levels.levels (λ n. (rest : List ℕ) → ¬ (c.args.text.now ≡ decimal n ++ 10 ∷ rest)) c.loop-levels.invariant c.in_default.ensures

pub returns : goal.returns
returns c = λ levels rest within. c.loop-levels.invariant levels within.0 (let h = within.1 in omega (arith, h)) rest
