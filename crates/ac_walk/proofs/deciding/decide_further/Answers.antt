use Rattle.std.proofs.Common.{List, false, refl, sym, subst, ◌∙◌}
use Rattle.std.proofs.lemmas.Result.{IfOk-weaker}
use Rattle.ac_syntax.specs.declared.tree.Position.{Position}
use Rattle.ac_walk.specs.declared.search_types.Search.{Search}
use Rattle.ac_unfold_plans.specs.ArgumentOrders.{AreAll}
use Rattle.ac_walk.proofs.Refuting.{kept_same}
use Rattle.ac_walk.proofs.Widened.{all_further}
use Rattle.ac_walk.proofs.deciding.decide_further.Goals as goal

pub decide_up_to-requires-clause-search : goal.decide_up_to-requires-clause-search
decide_up_to-requires-clause-search c =
    let s = c.args.search.now in
    let h = c.requires.search in
    record {
      search = record {
        programs = h.search.programs;
        commutative = h.search.commutative;
        flows = h.search.flows;
        arities = h.search.arities;
        numbers = h.search.numbers;
        moduli = h.search.moduli;
        output = h.search.output;
        stops = λ w is. subst (λ (widening_points : List (Position × Position)). AreAll widening_points w.recurrent) (sym (c.as_slice-2.ensures ∙ c.in_ok-stops.ensures)) (all_further s.stops.now c.as_slice.result.now w (h.search.stops w is));
      };
      output = h.output;
      widening = h.widening;
    }

pub returns : goal.returns
returns c =
    let s = c.args.search.now in
    let further : Search = record { pair = s.pair; program_flows = s.program_flows; template = s.template; array = s.array; stops = c.as_slice-2.result; first = s.first; tabling = false } in
    IfOk-weaker c.decide_up_to.result _ _ (λ d h. kept_same further s c.args.number d refl refl refl h.kept) c.decide_up_to.ensures
