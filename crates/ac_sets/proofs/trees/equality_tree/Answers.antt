use Rattle.std.proofs.Common.{ℕ, subst, arith}
use Rattle.ac_cert.specs.RowBranches.{under, over_zero}
use Rattle.ac_sets.specs.declared.parts.Part.TheVariants.{Piece}
use Rattle.ac_sets.proofs.Branches.{EndsAt}
use Rattle.ac_sets.proofs.trees.equality_tree.Goals as goal

pub returns : goal.returns
returns c =
    let below = subst (λ (n : ℕ). EndsAt (Piece n) c.at_piece-below.result) c.in_ok-sum.ensures c.at_piece-below.ensures in (
      c.requires.fits,
      λ refusal d e l stand on.
          c.in_ok-tree.ensures refusal d l (omega (arith, c.requires.over.0, e)) (c.at_piece-above.ensures refusal (over_zero d c.args.form.now) stand.0) (below refusal (under d c.args.form.now) stand.1) on,
    )
