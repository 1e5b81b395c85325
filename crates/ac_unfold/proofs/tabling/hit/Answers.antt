use Rattle.std.proofs.Common.{◌≡◌, ◌+◌, ◌<◌, ltb, true, ℕ, List, Some, length, refl, sym, ap, ◌∙◌, subst, arith}
use Rattle.std.proofs.lemmas.Bool.Decides.{nat_tests}
use Rattle.std.proofs.lemmas.Option.{slice_get_read}
use Rattle.ac_forms.specs.Renaming.{rows_renaming}
use Rattle.ac_forms.specs.declared.row.Row.{Row}
use Rattle.ac_claims.specs.declared.types.PlanNext.TheVariants.{Hit}
use Rattle.ac_unfold.specs.KillCuts.{columns_there}
use Rattle.ac_unfold.specs.PlanResults.{IsEndFor}
use Rattle.ac_unfold.proofs.Matching.{tabled_ends}
use Rattle.ac_unfold.proofs.Tabled.{freely_one, missed_by, missed_unmade}
use Rattle.ac_unfold.proofs.tabling.hit.Goals as goal

below : (a b : ℕ) → ltb a b ≡ true → a < b
below a b e = grind (arith, nat_tests)

pub hit_on-requires : goal.hit_on-requires
hit_on-requires c =
    let s = c.args.search.now in
    let q = c.args.node.now.question in
    let within : c.args.number < length s.tabled.now = below c.args.number (length s.tabled.now) (sym c.in-Some.ensures.lookup.0) in
    let there = slice_get_read s.tabled.now (length s.tabled.now) c.args.number c.in-Some.claim.now refl within c.in-Some.ensures.lookup.1 in
    let rows = c.in-Some-wanted.rows in
    let made = freely_one (λ rows. Some rows ≡ rows_renaming (columns_there s q) c.in-Some.claim.now.rows) c.rows_at.result c.in_ok-wanted.wanted rows c.in-Some-wanted.is c.in_ok-wanted.ensures.answered c.rows_at.ensures.rows in
    subst (λ (xs : List Row). IsEndFor s q xs (Hit (s.base + length s.claims.now + c.args.number))) (sym c.as_slice.ensures) (tabled_ends s q c.args.number c.in-Some.claim.now rows c.requires there made)

pub returns-in-Some-wanted-clause-missed : goal.returns-in-Some-wanted-clause-missed
returns-in-Some-wanted-clause-missed c =
    let s = c.args.search.now in
    let q = c.args.node.now.question in
    let within : c.args.number < length s.tabled.now = below c.args.number (length s.tabled.now) (sym c.in-Some.ensures.lookup.0) in
    let there = slice_get_read s.tabled.now (length s.tabled.now) c.args.number c.in-Some.claim.now refl within c.in-Some.ensures.lookup.1 in
    let rows = c.as_slice.result.now in
    let made = freely_one (λ rows. Some rows ≡ rows_renaming (columns_there s q) c.in-Some.claim.now.rows) c.rows_at.result c.in_ok-wanted.wanted c.in-Some-wanted.rows c.in-Some-wanted.is c.in_ok-wanted.ensures.answered c.rows_at.ensures.rows in
    missed_by s q c.args.number c.in-Some.claim.now rows c.hit_on.result there (ap Some c.as_slice.ensures ∙ made) c.hit_on.ensures.missed

pub returns-in-None-clause-missed : goal.returns-in-None-clause-missed
returns-in-None-clause-missed c = λ _ well.
    let s = c.args.search.now in
    let q = c.args.node.now.question in
    let within : c.args.number < length s.tabled.now = below c.args.number (length s.tabled.now) (sym c.in-Some.ensures.lookup.0) in
    let there = slice_get_read s.tabled.now (length s.tabled.now) c.args.number c.in-Some.claim.now refl within c.in-Some.ensures.lookup.1 in
    missed_unmade s q c.args.number c.in-Some.claim.now c.rows_at.result there (c.in_ok-wanted.ensures.given_up c.in-None.is) c.rows_at.ensures.causes
