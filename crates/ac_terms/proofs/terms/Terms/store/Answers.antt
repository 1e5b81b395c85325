use Rattle.std.proofs.Common.{◌≡◌, map, slice_get, Some, sym, ap, subst, ◌∙◌, arith}
use Rattle.std.proofs.lemmas.List.{length-map}
use Rattle.std.specs.Option.{option_map}
use Rattle.std.proofs.lemmas.Option.{slice_get-map}
use Rattle.ac_terms.specs.Table.{Table}
use Rattle.ac_terms.specs.TableNodes.{shape, AreApart}
use Rattle.ac_terms.proofs.Same.{node_eq, node_eq-Decides}
use Rattle.ac_terms.proofs.Places.{inserted_apart, inserted_kept}
use Rattle.ac_terms.proofs.terms.Terms.store.Goals as goal

pub invariant_of-self-2 : goal.invariant_of-self-2
invariant_of-self-2 c =
    let few = length-map c.self.inside.nodes.keys shape in
    let room = c.if-len.false in
    let len = c.len.ensures.len in
    subst (λ ks. AreApart (map shape ks)) (sym c.in_ok-index.ensures.keys)
    (inserted_apart node_eq shape node_eq-Decides c.self.inside.nodes.keys c.args.node c.self.invariant (omega (arith, few, room, len)))

pub returns-clause-stored : goal.returns-clause-stored
returns-clause-stored c =
    let s = c.in_ok-index.ensures.stored in
    slice_get-map shape c.insert_full.new.self.keys c.in_ok-index.index ∙ ap (option_map shape) s.1 ∙ ap Some (sym ((node_eq-Decides c.args.node s.0).0 s.2))

pub returns-clause-kept : goal.returns-clause-kept
returns-clause-kept c i s h =
    subst (λ ks. slice_get (map shape ks) i ≡ Some s) (sym c.in_ok-index.ensures.keys)
    (inserted_kept node_eq shape node_eq-Decides c.self.inside.nodes.keys c.args.node i s (ap (λ (t : Table). slice_get t.places i) c.self.view_is ∙ h))
