use Rattle.std.proofs.Common.{rules, ◌≡◌, ◌+◌, ap, ◌∙◌}
use Rattle.ac_assoc.specs.ProgramChains.{chains_of}
use Rattle.ac_assoc.proofs.Passing.{through_ok}
use Rattle.ac_assoc.proofs.Gathering.{none_added, chains_number, chains_access, call_chains}
use Rattle.ac_assoc.proofs.finding.+chains.Goals as goal

pub add_chains-returns-in-Number : goal.add_chains-returns-in-Number
add_chains-returns-in-Number t c =
    none_added _ _ (ap (chains_of c.args.within.names.now c.args.within.side c.args.within.stmt c.args.part c.args.node) c.in-Number.is ∙ chains_number c.args.within.names.now c.args.within.side c.args.within.stmt c.args.part c.args.node c.in-Number.field-0)

pub add_chains-returns-in-Access : goal.add_chains-returns-in-Access
add_chains-returns-in-Access t c =
    none_added _ _ (ap (chains_of c.args.within.names.now c.args.within.side c.args.within.stmt c.args.part c.args.node) c.in-Access.is ∙ chains_access c.args.within.names.now c.args.within.side c.args.within.stmt c.args.part c.args.node c.in-Access.array c.in-Access.subs c.in-Access.place)

pub add_chains-returns-in_ok-first-in-Call : goal.add_chains-returns-in_ok-first-in-Call
add_chains-returns-in_ok-first-in-Call t c =
    let f : c.in_ok-first-in-Call.first ≡ c.args.node + 1 = search rules in
    through_ok c.add_all_chains.result (λ u m. call_chains c.args.within.names.now c.args.within.side c.args.within.stmt c.args.part c.args.node c.in_ok-first-in-Call.first c.args.value.now c.in-Call.symbol c.in-Call.args c.as_slice-args.result.now c.in-Call.place
    c.args.chains.now c.add_own_chain.new.chains c.add_all_chains.new.chains c.in-Call.is c.as_slice-args.ensures f c.in_ok-add_own_chain-in-Call.ensures m) c.add_all_chains.ensures
