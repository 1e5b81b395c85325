use Rattle.std.proofs.Common.{sym, subst}
use Rattle.ac_walk.proofs.Lists.{get_among}
use Rattle.ac_walk.specs.declared.search_types.Search.{Search}
use Rattle.ac_walk_state.specs.GraphWidenings.{AreRecurrentFrom}
use Rattle.ac_walk.specs.OutputDecisions.{IsDecision}
use Rattle.ac_walk.specs.declared.deciding.Decision.{Decision}
use Rattle.ac_walk.proofs.Gathered.{different_said, left_said}
use Rattle.ac_walk.proofs.Standing.{equal_said}
use Rattle.ac_walk.proofs.Widened.{sites_of, takes_all, takes_each, widening}
use Rattle.ac_walk.proofs.outputs.verdict.Goals as goal

pub decide-requires-clause-search : goal.decide-requires-clause-search
decide-requires-clause-search c =
    let b = c.args.basis.now in
    let among = get_among b.pair.now.outputs c.args.number c.args.array c.requires.array in
    let from = subst (AreRecurrentFrom b.pair.now b.graph.now c.args.array) (sym c.as_slice.ensures) c.in_ok-reach.ensures.recurrent in
    record {
      search = record {
        programs = c.requires.basis.programs;
        commutative = c.requires.basis.commutative;
        flows = c.requires.basis.flows;
        arities = c.requires.basis.arities;
        numbers = c.requires.basis.numbers;
        moduli = c.requires.basis.moduli;
        output = among;
        stops = takes_all b c.args.array c.as_slice.result.now c.requires.basis among from;
      };
      output = c.requires.array;
      widening = widening b c.args.array c.as_slice.result.now c.requires.basis among from;
    }

pub decide-requires-clause-further : goal.decide-requires-clause-further
decide-requires-clause-further c =
    let b = c.args.basis.now in
    takes_each b c.args.array c.as_slice.result.now c.requires.basis (get_among b.pair.now.outputs c.args.number c.args.array c.requires.array)
    (subst (AreRecurrentFrom b.pair.now b.graph.now c.args.array) (sym c.as_slice.ensures) c.in_ok-reach.ensures.recurrent)

pub decide-requires-clause-sites : goal.decide-requires-clause-sites
decide-requires-clause-sites c = sites_of c.args.basis.now c.args.array c.in_ok-reach.reach.sites c.requires.basis c.in_ok-reach.ensures.sites

pub returns-in-Stands : goal.returns-in-Stands
returns-in-Stands c =
    let b = c.args.basis.now in
    let s : Search = record { pair = b.pair; program_flows = b.program_flows; template = b.template; array = c.args.array; stops = c.as_slice.result; first = c.len.result; tabling = c.is_shared.result } in
    let kept = (subst (λ (d : Decision). IsDecision s c.args.number d) c.in-Stands.is c.in_ok-part.ensures).kept in
    let made = c.in_ok-with_part-in-Stands.ensures in
    let own = widening b c.args.array c.in_ok-reach.reach.recurrent c.requires.basis (get_among b.pair.now.outputs c.args.number c.args.array c.requires.array) c.in_ok-reach.ensures.recurrent in
    equal_said b b.program_flows.now.budget c.args.array own kept.0 c.args.proof c.in_ok-with_part-in-Stands.field-0 c.in-Stands.part c.len.result c.requires.basis c.len.ensures kept.1 made.longer made.accepted made.stops made.named c.requires.proof

pub returns-in-Different : goal.returns-in-Different
returns-in-Different c =
    let b = c.args.basis.now in
    let s : Search = record { pair = b.pair; program_flows = b.program_flows; template = b.template; array = c.args.array; stops = c.as_slice.result; first = c.len.result; tabling = c.is_shared.result } in
    let kept = (subst (λ (d : Decision). IsDecision s c.args.number d) c.in-Different.is c.in_ok-part.ensures).kept in
    different_said b.program_flows.now.budget b.pair.now c.args.array c.args.proof c.in-Different.found.at c.in-Different.found.element (kept c.args.array c.requires.array) c.requires.proof

pub returns : goal.returns
returns c =
    let b = c.args.basis.now in
    let s : Search = record { pair = b.pair; program_flows = b.program_flows; template = b.template; array = c.args.array; stops = c.as_slice.result; first = c.len.result; tabling = c.is_shared.result } in
    let said = subst (λ (d : Decision). IsDecision s c.args.number d) c.in-Unknown.is c.in_ok-part.ensures in
    let near = takes_each b c.args.array c.as_slice.result.now c.requires.basis (get_among b.pair.now.outputs c.args.number c.args.array c.requires.array)
    (subst (AreRecurrentFrom b.pair.now b.graph.now c.args.array) (sym c.as_slice.ensures) c.in_ok-reach.ensures.recurrent) in
    left_said b.program_flows.now.budget b.pair.now b.samples.now c.args.number c.args.array c.args.proof c.in-Unknown.cause c.in_ok-left-in-Unknown.left c.requires.array c.requires.basis.samples (said.cause near) (said.ends near) c.requires.proof c.in_ok-left-in-Unknown.ensures
