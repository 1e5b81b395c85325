use Rattle.std.proofs.Common.{◌≡◌, ℕ, ◌+◌, ◌++◌, ◌∷◌, [], List, rules, subst}
use Rattle.ac_claims_plans.specs.declared.branching.Part.{Part}
use Rattle.ac_unfold.specs.UnfoldTasks.{AreBeside}
use Rattle.ac_unfold.specs.declared.tasks.Task.TheVariants as task
use Rattle.ac_unfold.proofs.TaskRuns.{two_more}
use Rattle.ac_unfold.proofs.kills.split.Goals as goal

pub returns : goal.returns
returns c =
    let at = c.args.at in
    let first : c.push.new.self.items ≡ c.in_ok-more.more.items ++ task.Cut (record { node = c.in_ok-node.node; case = at.case; number = at.number; kill = at.kill; rows = at.rows; standing = at.standing + 1 }) ∷ [] =
    subst (λ (k : ℕ). c.push.new.self.items ≡ c.in_ok-more.more.items ++ task.Cut (record { node = c.in_ok-node.node; case = at.case; number = at.number; kill = at.kill; rows = at.rows; standing = k }) ∷ []) c.in_ok-standing.ensures c.in_ok-push.ensures.items in
    record {
      next = c.number_behind-next.result;
      next_is = c.number_behind-next.ensures;
      sides = c.in_ok-more.more.items;
      are = subst (λ (ps : List Part). AreBeside at.node at.case.now c.number_behind-next.result ps c.in_ok-more.more.items) c.as_slice.ensures c.in_ok-more.ensures;
      inside = c.in_ok-node.node;
      inside_is = record { question = c.in_ok-node.ensures.question; embedding = c.in_ok-node.ensures.embedding; pair_path = c.in_ok-node.ensures.pair_path };
      around = c.replace-around.result;
      around_is = search rules;
      more_is = two_more c.in_ok-more.more.items c.push.new.self.items c.push-2.new.self.items _ _ first c.in_ok-push-2.ensures.items;
      none = search rules;
    }
