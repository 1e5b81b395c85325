use Rattle.std.proofs.Common.{◌≡◌, ℕ, List, ap, sym, ◌∙◌, map, cond, Some, nat_eq}
use Rattle.std.specs.Ordering.{nat_cmp}
use Rattle.std.specs.Cmp.Lexicographic.{slice_cmp, nat_list_cmp_total, pointwise}
use Rattle.std.specs.FinMap.{get, find, get-from_entries}
use Rattle.std.specs.VecDeque.Iter.{deque_iter_rest}
use Rattle.ac_port.specs.Log.{named_bytes}
use Rattle.ac_port.proofs.Lookup.{find-entry}
use Rattle.ac_port.proofs.mem_files.MemFiles.get.Goals as goal

pub loop-entry-init : goal.loop-entry-init
loop-entry-init c =
    ap (λ files. get files.contents c.args.name.now) (sym c.self.view_is)
    ∙ get-from_entries nat_list_cmp_total _ _
    ∙ ap (λ log. find (slice_cmp nat_cmp) c.args.name.now (map named_bytes log)) (sym c.into_iter-entry-iterator.ensures.into_iter_gives.0)

pub returns-then-eq : goal.returns-then-eq
returns-then-eq c =
    let entry = c.in-Some.entry.now in
    let rest = deque_iter_rest c.next.new.self in
    let compared : c.eq.result ≡ pointwise nat_eq c.args.name.now entry.name.items =
    c.eq.ensures ∙ ap (λ (name : List ℕ). pointwise nat_eq c.args.name.now name) c.as_slice.ensures.value in
    ap Some c.as_slice-then-eq.ensures.value
    ∙ sym (c.loop-entry.invariant
    ∙ ap (λ log. find (slice_cmp nat_cmp) c.args.name.now (map named_bytes log)) c.in-Some.ensures.steps
    ∙ find-entry c.args.name.now entry rest c.eq.result compared
    ∙ ap (λ b. cond b (Some entry.bytes.items) (find (slice_cmp nat_cmp) c.args.name.now (map named_bytes rest))) c.if-eq.true)

pub loop-entry-preserved : goal.loop-entry-preserved
loop-entry-preserved c =
    let entry = c.in-Some.entry.now in
    let rest = deque_iter_rest c.next.new.self in
    let compared : c.eq.result ≡ pointwise nat_eq c.args.name.now entry.name.items =
    c.eq.ensures ∙ ap (λ (name : List ℕ). pointwise nat_eq c.args.name.now name) c.as_slice.ensures.value in
    c.loop-entry.invariant
    ∙ ap (λ log. find (slice_cmp nat_cmp) c.args.name.now (map named_bytes log)) c.in-Some.ensures.steps
    ∙ find-entry c.args.name.now entry rest c.eq.result compared
    ∙ ap (λ b. cond b (Some entry.bytes.items) (find (slice_cmp nat_cmp) c.args.name.now (map named_bytes rest))) c.if-eq.false
