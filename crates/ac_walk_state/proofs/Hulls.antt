-- The points of a hull, and the rows that are enough on it.
use Rattle.std.proofs.Common.{◌≡◌, ◌↔◌, ℕ, ℤ, List, [], ◌∷◌, length, ap, sym, ◌∙◌, arith}
use Rattle.std.proofs.lemmas.List.{length-map}
use Rattle.ac_forms.specs.Affine.{Affine}
use Rattle.ac_forms.specs.declared.row.Row.{Row}
use Rattle.ac_forms.specs.ListMembers.{IsAmong}
use Rattle.ac_hull.specs.Hulls.{Vanish}
use Rattle.ac_hull.proofs.Reading.{length_blend}
use Rattle.ac_widen.specs.Combinations.{Each, InHull, IsCombination, blend, times}
use Rattle.ac_widen.specs.WideningLaws.{AreEnough}
use Rattle.ac_widen.proofs.Combining.{each_among, each_map, first_of_some}
use Rattle.ac_walk_state.specs.RowRedundancy.{AreEnoughOn}

combination_length : (columns : ℕ) (members : List (List ℤ)) (q : List ℤ) (m : ℤ) (ws : List ℤ) → Each (λ p. length p ≡ columns) members → IsCombination q m ws members → length q ≡ columns
combination_length columns [] q m ws h c = absurd (first_of_some q m ws c)
combination_length columns (p ∷ ps) q m [] h c = let l = c.lengths in absurd (omega (arith, l))
combination_length columns (p ∷ ps) q m (w ∷ ws) h c =
    let l : length (times m q) ≡ length (blend (w ∷ ws) (p ∷ ps)) = ap length c.point in
    sym (length-map q _) ∙ l ∙ length_blend columns w ws p ps h.0 h.1

-- a point of a hull has a number for each column
pub hull_length : (columns : ℕ) (members : List (List ℤ)) (q : List ℤ) → Each (λ p. length p ≡ columns) members → InHull members q → length q ≡ columns
hull_length columns members q h i = combination_length columns members q i.0 i.1 h i.2

-- the kept members have a number for each column
pub kept_widths : (columns : ℕ) (kept members : List (List ℤ)) → Each (λ p. IsAmong p members) kept → Each (λ p. length p ≡ columns) members → Each (λ p. length p ≡ columns) kept
kept_widths columns kept members a w = each_map (λ p. IsAmong p members) (λ p. length p ≡ columns) kept (λ p x. each_among (λ q. length q ≡ columns) p members w x) a

-- rows that are enough stay so without those that follow from the equalities of the hull
pub enough_without : (columns : ℕ) (members : List (List ℤ)) (es : List Affine) (left rows kept : List Row) → Each (λ p. length p ≡ columns) members → ((q : List ℤ) → length q ≡ columns → InHull members q ↔ Vanish es q)
    → AreEnough members left rows → AreEnoughOn es rows kept → AreEnough members left kept
enough_without columns members es left rows kept w points enough on =
    ((λ r a. enough.0 r (on.among r a)), (λ r q a h m. enough.1 r q a h (on.follow q ((points q (hull_length columns members q w h)).0 h) m)))
