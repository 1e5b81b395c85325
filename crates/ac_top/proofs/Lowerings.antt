-- What the lowering of the programs of a pair rests on.
use Rattle.std.proofs.Common.{length, sym, subst}
use Rattle.ac_syntax.specs.ReadyPrograms.{FitParts}
use Rattle.ac_syntax.specs.declared.tree.Pair.{Pair}
use Rattle.ac_claims.specs.Soundness as judge
use Rattle.ac_top.specs.RunStages.{IsReadPair}

-- the context of a pair is over the parameters of either program
pub fits_left : (pair : Pair) → IsReadPair pair → FitParts (length pair.left.params) 0 pair.context.parts
fits_left pair is = is.ready.context

pub fits_right : (pair : Pair) → IsReadPair pair → FitParts (length pair.right.params) 0 pair.context.parts
fits_right pair is = subst (λ n. FitParts n 0 pair.context.parts) is.ready.params (fits_left pair is)

-- what the judge of proofs asks of a pair
pub judged : (pair : Pair) → IsReadPair pair → judge.ArePaired pair
judged pair is = record { left = is.ready.left; right = is.ready.right; context = fits_left pair is; params = sym is.ready.params; extents = is.extents }
