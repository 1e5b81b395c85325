use Rattle.std.proofs.Common.{◌≡◌, ◌+◌, List, ℕ, length, length-append, sym, ◌∙◌, subst}
use Rattle.ac_claims.specs.declared.types.Claim.{Claim}
use Rattle.ac_walk.specs.PartConstruction.{IsBegun, IsPlannedTo}
use Rattle.ac_walk.specs.Ranks.{AreClaimsAt}
use Rattle.ac_walk.specs.SearchTables.{IsFilled, IsTable}
use Rattle.ac_walk.proofs.Found.{found_whole, have_claims}
use Rattle.ac_walk.proofs.Ranked.{counted}
use Rattle.ac_walk.proofs.Tabled.{tabled_apart, tabled_begun}
use Rattle.ac_walk.proofs.tabling.part_tabled.Goals as goal

pub part_to-requires-clause-claims : goal.part_to-requires-clause-claims
part_to-requires-clause-claims c =
    let table = subst (IsFilled c.args.search.now c.args.order.now c.args.known.now c.args.claims.items) c.in-Table.is c.in_ok-table.ensures.filled in
    subst (AreClaimsAt c.args.known.now.widening_points.items c.args.numbers.now) (sym (c.claims-claims.ensures ∙ table.claims_are)) c.requires.claims

pub returns-in-Broken-clause-planned : goal.returns-in-Broken-clause-planned
returns-in-Broken-clause-planned c = subst (IsFilled c.args.search.now c.args.order.now c.args.known.now c.args.claims.items) c.in-Broken.is c.in_ok-table.ensures.filled

pub returns-in_ok-with_tabled-in-Part-clause-planned : goal.returns-in_ok-with_tabled-in-Part-clause-planned
returns-in_ok-with_tabled-in-Part-clause-planned c =
    let s = c.args.search.now in
    let order = c.args.order.now in
    let known = c.args.known.now in
    let numbers = c.args.numbers.now in
    let claims = c.args.claims.items in
    let t = c.in-Table.table in
    let table : IsTable s order claims t = subst (IsFilled s order known claims) c.in-Table.is c.in_ok-table.ensures.filled in
    let have = have_claims s order known numbers claims c.requires.known c.requires.ranks c.requires.claims in
    let same : c.claims-claims.result.now ≡ claims = c.claims-claims.ensures ∙ table.claims_are in
    let count : length numbers ≡ length claims = counted known.widening_points.items numbers claims c.requires.claims in
    let begun = subst (IsPlannedTo s order known c.claims-claims.result.now c.tabled-tabled.result.now (length numbers)) c.in-Part.is c.in_ok-part.ensures.planned in
    let first : IsBegun s order claims t.tabled (length claims) c.in-Part.part = subst (λ (n : ℕ). IsBegun s order claims t.tabled n c.in-Part.part) count
    (subst (λ (xs : List Claim). IsBegun s order claims xs (length numbers) c.in-Part.part) c.tabled-tabled.ensures (subst (λ (xs : List Claim). IsBegun s order xs c.tabled-tabled.result.now (length numbers) c.in-Part.part) same begun)) in
    let longer = c.in_ok-with_tabled-in-Part in
    let whole = tabled_begun s order claims t c.in-Part.part longer.field-0 c.requires.search have table first longer.ensures.claims longer.ensures.trees in
    found_whole s order known numbers claims t.tabled c.requires.search c.requires.known c.requires.claims (tabled_apart s order claims t have table) (length claims + length t.tabled) longer.field-0 whole (sym (length-append claims t.tabled))

pub returns-in-Broken-2-clause-planned : goal.returns-in-Broken-2-clause-planned
returns-in-Broken-2-clause-planned c =
    subst (IsPlannedTo c.args.search.now c.args.order.now c.args.known.now c.claims-claims.result.now c.tabled-tabled.result.now (length c.args.numbers.now)) c.in-Broken-2.is c.in_ok-part.ensures.planned
