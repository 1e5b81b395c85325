use Rattle.ac_claims.proofs.NodeSteps.{go_behind, put_both, put_list, residue_behind}
use Rattle.ac_claims.proofs.nodes.put_behind.Goals as goal

pub returns-in_ok-push-in-Split-2 : goal.returns-in_ok-push-in-Split-2
returns-in_ok-push-in-Split-2 c =
    put_both c.args.next.now c.in-Split.field-0 c.in-Split.first c.in-Split.second c.args.left.now.items c.push.new.self.items c.push-in-Split.new.self.items c.as_ref-in-Split.result c.as_ref.result c.in-Split.is c.as_ref.ensures c.as_ref-in-Split.ensures c.in_ok-push-in-Split.ensures.items c.in_ok-push-in-Split-2.ensures.items

pub returns-in_ok-put_all-in-Residue : goal.returns-in_ok-put_all-in-Residue
returns-in_ok-put_all-in-Residue c =
    put_list c.args.next.now c.as_slice.result.now c.in-Residue.children.items c.args.left.now.items c.put_all.new.left.items (residue_behind c.args.next.now c.in-Residue.field-0 c.in-Residue.field-1 c.in-Residue.children c.in-Residue.is) c.as_slice.ensures.value c.in_ok-put_all-in-Residue.ensures

pub returns-in_ok-put_all-in-Go : goal.returns-in_ok-put_all-in-Go
returns-in_ok-put_all-in-Go c =
    put_list c.args.next.now c.as_slice-in-Go.result.now c.in-Go.cases.items c.args.left.now.items c.put_all-in-Go.new.left.items (go_behind c.args.next.now c.in-Go.order c.in-Go.cases c.in-Go.is) c.as_slice-in-Go.ensures.value c.in_ok-put_all-in-Go.ensures
