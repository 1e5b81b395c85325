use Rattle.std.proofs.Common.{◌↔◌, ℕ, List}
use Rattle.std.proofs.lemmas.Result.{IfOk-weaker}
use Rattle.ac_forms.specs.ListMembers.{IsAmong}
use Rattle.ac_graph.specs.Ways.{IsMarked}
use Rattle.ac_graph.proofs.CycleSteps.{nothing_behind, all_behind}
use Rattle.ac_graph.proofs.marks.marked_behind.Goals as goal

pub returns-then-is_marked : goal.returns-then-is_marked
returns-then-is_marked c =
    IfOk-weaker c.marked_among.result (λ (made : List ℕ). (j : ℕ) → IsAmong j made ↔ (IsAmong j c.args.nodes.now × IsMarked c.args.marks.now j)) (λ (made : List ℕ). (j : ℕ) → IsAmong j made ↔ (IsAmong j c.args.nodes.now × IsMarked c.args.marks.now c.args.node × IsMarked c.args.marks.now j))
    (λ made h. all_behind c.args.marks.now c.args.node c.args.nodes.now made c.is_marked.result c.is_marked.ensures c.if-is_marked.true h) c.marked_among.ensures

pub returns-else-is_marked : goal.returns-else-is_marked
returns-else-is_marked c = nothing_behind c.args.marks.now c.args.node c.args.nodes.now c.new.result c.is_marked.result c.is_marked.ensures c.if-is_marked.false c.new.ensures
