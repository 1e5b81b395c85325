use Rattle.std.proofs.Common.{◌≡◌, ap, ◌∙◌, if◌then◌else◌}
use Rattle.std.proofs.lemmas.Result.{IfOk-weaker}
use Rattle.ac_syntax.specs.Outputs.{swaps_of}
use Rattle.ac_syntax.specs.declared.tree.Symbol.{Symbol}
use Rattle.ac_terms.specs.Table.{Table, in_order, stored}
use Rattle.ac_terms.proofs.Kept.{stands_kept, call_stands}
use Rattle.ac_terms.proofs.terms.Terms.call.Goals as goal

pub returns-clause-term : goal.returns-clause-term
returns-clause-term c ts h =
    let old = c.args.self.now in
    let f = c.args.symbol.now in
    let ids = c.args.args.now in
    let names : c.deref.result.now ≡ old.commutative = c.deref.ensures.value ∙ ap (λ (t : Table). t.commutative) c.self.view_is in
    let test : c.may_swap-swapped.result ≡ swaps_of old.commutative f = c.may_swap-swapped.ensures ∙ ap (λ l. swaps_of l f) names in
    let ordered : c.in_ok-args.args.items ≡ stored old.commutative f ids = c.in_ok-args.ensures ∙ ap (λ b. if b then in_order ids else ids) test in
    let named : ◌≡◌ {A = Symbol} (record { name = c.in_ok-name.name.items; arity = f.arity }) f = ap (λ n. record { name = n; arity = f.arity }) (c.in_ok-name.ensures.items ∙ c.as_bytes.ensures.value) in
    IfOk-weaker c.store.result _ _
    (call_stands old c.store.new.self c.store.ensures.names c.store.ensures.kept f ts ids h (record { name = c.in_ok-name.name.items; arity = f.arity }) c.in_ok-args.args.items
    named ordered)
    c.store.ensures.stored

pub returns-clause-kept : goal.returns-clause-kept
returns-clause-kept c = stands_kept _ _ c.store.ensures.names c.store.ensures.kept
