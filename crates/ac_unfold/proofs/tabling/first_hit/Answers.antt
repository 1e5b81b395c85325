use Rattle.std.proofs.Common.{◌≡◌, ◌&&◌, true, false, sym, subst, ◌∙◌}
use Rattle.ac_claims.specs.ProofEnds.{same_position}
use Rattle.ac_claims.specs.declared.types.Claim.{Claim}
use Rattle.ac_unfold.proofs.Clearing.{get_is, numbered}
use Rattle.ac_unfold.proofs.Tabled.{all_missed, apart_fail, first_missed}
use Rattle.ac_unfold.proofs.tabling.first_hit.Goals as goal

pub hit-requires : goal.hit-requires
hit-requires c =
    let q = c.args.node.now.question in
    let of = subst (λ (x : Claim). (same_position q.left.position x.left && same_position q.right.position x.right) ≡ true) (sym c.index-search-number.is) (sym c.is_of.ensures ∙ c.if-not-is_of.false) in
    record {
      gone = c.requires.gone;
      at = numbered c.args.search.now.tabled.now q.left.position q.right.position c.loop-number.number c.index-search-number.result c.loop-number-test.true c.index-search-number.is of;
    }

pub loop-number-preserved-then-not-is_of : goal.loop-number-preserved-then-not-is_of
loop-number-preserved-then-not-is_of c =
    let s = c.args.search.now in
    let q = c.args.node.now.question in
    let i = c.loop-number.number in
    let claim = c.index-search-number.result in
    let there = get_is s.tabled.now i claim c.loop-number-test.true c.index-search-number.is in
    let not = subst (λ (x : Claim). (same_position q.left.position x.left && same_position q.right.position x.right) ≡ false) (sym c.index-search-number.is) (sym c.is_of.ensures ∙ c.if-not-is_of.true) in
    first_missed s q i claim c.loop-number-test.true c.index-search-number.is c.loop-number.invariant (λ moduli columns. apart_fail s q claim not) there

pub loop-number-preserved : goal.loop-number-preserved
loop-number-preserved c =
    let s = c.args.search.now in
    let q = c.args.node.now.question in
    let i = c.loop-number.number in
    let claim = c.index-search-number.result in
    let there = get_is s.tabled.now i claim c.loop-number-test.true c.index-search-number.is in
    first_missed s q i claim c.loop-number-test.true c.index-search-number.is c.loop-number.invariant (c.in_ok-made.ensures.missed c.in-None.is c.requires.well claim there) there

pub returns-clause-none : goal.returns-clause-none
returns-clause-none c = λ _. all_missed c.args.search.now c.args.node.now.question c.loop-number.number c.loop-number-test.false c.loop-number.invariant
