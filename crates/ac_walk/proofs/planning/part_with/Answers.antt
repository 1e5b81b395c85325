use Rattle.std.proofs.Common.{◌≡◌, ◌+◌, List, [], ℕ, length, refl, subst, arith}
use Rattle.ac_claims.specs.declared.types.ClaimTree.{ClaimTree}
use Rattle.ac_walk_state.specs.Hits.{TreesHitWithin}
use Rattle.ac_walk.specs.PartConstruction.{IsPlannedTo}
use Rattle.ac_walk.proofs.Found.{found_all, found_cut, nothing_apart}
use Rattle.ac_walk.proofs.planning.part_with.Goals as goal

pub returns-then-within-clause-planned : goal.returns-then-within-clause-planned
returns-then-within-clause-planned c =
    let s = c.args.search.now in
    let part = c.in-Part.part in
    let begun = subst (IsPlannedTo s c.args.order.now c.args.known.now c.args.claims.now [] c.args.count) c.in-Part.is c.in_ok-part.ensures.planned in
    let limit : c.in_ok-limit-in-Part.limit ≡ s.first + length part.claims.items = omega (arith, c.in_ok-limit-in-Part.ensures, c.len.ensures, part.claims.ok) in
    let hits = c.in_ok-within-in-Part.ensures.0 c.if-within.true in
    found_cut s c.args.order.now c.args.known.now c.args.numbers.now c.args.claims.now [] c.requires.search c.requires.known c.requires.claims (nothing_apart s) c.args.count part begun
    (subst (λ (n : ℕ). TreesHitWithin n part.trees.items) limit (subst (λ (ts : List ClaimTree). TreesHitWithin c.in_ok-limit-in-Part.limit ts) c.as_slice.ensures.value hits))

pub returns-in_ok-planned-in-Part-clause-planned : goal.returns-in_ok-planned-in-Part-clause-planned
returns-in_ok-planned-in-Part-clause-planned c =
    found_all c.args.search.now c.args.order.now c.args.known.now c.args.numbers.now c.args.claims.now (length c.args.numbers.now) c.in_ok-planned-in-Part.planned c.requires.search c.requires.known c.requires.claims refl c.in_ok-planned-in-Part.ensures.planned
