-- Where the starts of a claim stand, the steps from each of its pairs end fine.
use Rattle.std.proofs.Common.{◌≡◌, Bool, true, false, List, [], ◌∷◌, refl, sym, ◌∙◌}
use Rattle.ac_claims.specs.declared.types.Claim.{Claim}
use Rattle.ac_flow.specs.declared.types.Flow.{Flow}
use Rattle.ac_claims_paths.specs.declared.path.Path.{Path}
use Rattle.ac_graph.specs.GraphMeaning.{HaveFlows}
use Rattle.ac_widen_programs.specs.PairPaths.{Unfolding, last_of}
use Rattle.ac_unfold_complete.specs.FinePairs.{AreFree, EndsFine, IsFine, PairOf, StandingStartsAreFine}
use Rattle.ac_unfold.specs.UnbrokenStarts.{Stands, calls, empty, held, matches, reads}
use Rattle.ac_unfold_complete.proofs.Starting.{in_start}
use Rattle.ac_unfold_complete.proofs.Stepping.{FineOn, FreeOn, IsFineFrom, calls_fine, empty_fine, held_fine, matches_fine, reads_fine}

-- from a question that stands each path ends fine
standing_fine : (u : Unfolding) (left right : Flow) (claims : List Claim) → HaveFlows u.pair left right → (q : Path) → Stands u left right claims q → IsFineFrom u claims q
standing_fine u left right claims h q (empty q' none) = empty_fine u claims q none
standing_fine u left right claims h q (held q' s) = held_fine u claims q s
standing_fine u left right claims h q (matches q' s) = matches_fine u claims q s
standing_fine u left right claims h q (calls q' bs goes none two e next) = calls_fine u claims q bs goes none two e (λ b i. standing_fine u left right claims h b (next b i))
standing_fine u left right claims h q (reads side q' read bs goes are next) = reads_fine u left right claims h side q read bs goes are (λ d i. standing_fine u left right claims h d (next d i))

-- ---- from the first pair on

free_behind : (claims : List Claim) (x : PairOf) (path : List PairOf) → AreFree claims (x ∷ path) → FreeOn true claims x path
free_behind claims x [] f = tt
free_behind claims x (y ∷ path) f = ((λ gone. f.0), free_behind claims y path f.1)

not_gone : (gone : Bool) → gone ≡ false → gone ≡ true → ⊥
not_gone gone e f = let z : false ≡ true = sym e ∙ f in cc

free_from : (claims : List Claim) (gone : Bool) → gone ≡ false → (x : PairOf) (path : List PairOf) → AreFree claims path → FreeOn gone claims x path
free_from claims gone e x [] f = tt
free_from claims gone e x (y ∷ path) f = ((λ g. absurd (not_gone gone e g)), free_behind claims y path f)

fine_last : (u : Unfolding) (claims : List Claim) (x : PairOf) (path : List PairOf) → FineOn u true claims x path → IsFine u claims (last_of x path)
fine_last u claims x [] f = record { claimed = f.claimed refl; unclaimed = λ free. f.unclaimed (λ gone. free) }
fine_last u claims x (y ∷ path) f = fine_last u claims y path f

fine_ends : (u : Unfolding) (claims : List Claim) (gone : Bool) → gone ≡ false → (x : PairOf) (path : List PairOf) → FineOn u gone claims x path → EndsFine u claims x path
fine_ends u claims gone e x [] f = f.unclaimed (λ g. absurd (not_gone gone e g))
fine_ends u claims gone e x (y ∷ path) f = fine_last u claims y path f

pub standing_starts_are_fine : StandingStartsAreFine
standing_starts_are_fine u left right claims h start key p is path steps free =
    let there = in_start u left right claims h.paired start key p is in
    let s = there.0 in
    let fine = standing_fine u left right claims h s.question there.1 in
    fine_ends u claims s.question.gone s.first (key, p) path (fine p (key, p) s.there path steps (free_from claims s.question.gone s.first (key, p) path free))
