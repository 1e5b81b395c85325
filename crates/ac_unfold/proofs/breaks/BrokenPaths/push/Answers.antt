use Rattle.std.proofs.Common.{[], ◌∷◌, ◌++◌, List, ap, ◌∙◌}
use Rattle.ac_widen.specs.declared.derivation.Entry.{Entry}
use Rattle.ac_widen_programs.specs.PairPathEnds.{entries_at}
use Rattle.ac_unfold.specs.UnfoldPaths.{BrokenPathsOf}
use Rattle.ac_unfold.proofs.Coming.{on_ok}
use Rattle.ac_unfold.proofs.Reaching.{ok_always}
use Rattle.ac_unfold.proofs.breaks.BrokenPaths.push.Goals as goal

pub returns-clause-paths : goal.returns-clause-paths
returns-clause-paths c =
    let path = entries_at c.args.params c.args.point.now c.args.node.now.pair_path in
    on_ok c.push.result _ _
    (λ h. h
    ∙ ap (λ (es : List Entry). c.self.inside.paths ++ es ∷ []) (c.in_ok-entries.ensures.exact ∙ ap (entries_at c.args.params c.args.point.now) c.as_slice.ensures)
    ∙ ap (λ (f : BrokenPathsOf). f.paths ++ path ∷ []) c.self.view_is) c.push.ensures.ok

pub returns-clause-ended : goal.returns-clause-ended
returns-clause-ended c = ok_always c.push.result _ (ap (λ (f : BrokenPathsOf). f.ended) c.self.view_is)
