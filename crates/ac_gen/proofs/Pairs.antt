-- What holds of each generated pair.
use Rattle.std.proofs.Common.{◌≡◌, ◌≢◌, ℕ, suc, ◌+◌, ◌-◌, ◌≤◌, List, [], ◌∷◌, codes, length, map, refl, sym, ap, subst, Bool, true, false, nat_lt, None, Some, Err, if◌then◌else◌}
use Rattle.ac_syntax.specs.Index.{point, index_value}
use Rattle.ac_syntax.specs.Outputs.{extents_at}
use Rattle.ac_syntax.specs.Small.{IsSmallPair}
use Rattle.ac_syntax.specs.declared.tree.Array.{Array}
use Rattle.ac_syntax.specs.declared.tree.Pair.{Pair}
use Rattle.ac_syntax.specs.declared.tree.Program.{Program}
use Rattle.ac_gen.specs.Draws.{stages}
use Rattle.ac_gen.specs.Pipelines.{input, locals, loops, pipeline, shifted_each, program}
use Rattle.ac_gen.specs.declared.draws.Stage.{Stage}
use Rattle.ac_gen.proofs.Making.{made}
use Rattle.ac_claims.specs.Soundness.{ArePaired}
use Rattle.ac_instance.specs.ComparisonAnswers.{everything}
use Rattle.ac_instance.specs.Events.{Event, event, evaluated, fits_64, unless, reached}
use Rattle.ac_instance.specs.declared.halt.Halt.TheVariants.{OutsideContext, TooLarge, Range}
use Rattle.ac_gen.specs.GeneratedPair.{IsGeneratedPair, IsEverywhere, RunsEverywhere, IsNeverOutside, AreLowered}
use Rattle.ac_gen.specs.PairValidity as law
use Rattle.ac_gen.proofs.LoopLowering.{fine_plain, fine_shifted}

-- both pipelines of some stages
abbrev plain : ℕ → ℕ → Program
plain seed n = program (pipeline (stages seed n))

abbrev moved : ℕ → ℕ → Program
moved seed n = program (shifted_each (stages seed n) (pipeline (stages seed n)))

abbrev pair_of : ℕ → ℕ → Pair
pair_of seed n = record { left = plain seed n; right = moved seed n; context = record { parts = [] }; commutative = []; outputs = 1 ∷ [] }

-- there is one such pair
same_pair : (seed n : ℕ) (pair : Pair) → IsGeneratedPair seed n pair → pair_of seed n ≡ pair
same_pair seed n pair h = λ i. record {
  left = sym h.programs.original i;
  right = sym h.programs.transformed i;
  context = sym h.context i;
  commutative = sym h.commutative i;
  outputs = sym h.outputs i;
}

-- what holds of it holds of each
each : (P : Pair → Type 0) → ((seed n : ℕ) → 1 ≤ n → n ≤ 12 → P (pair_of seed n)) → law.EachGenerated P
each P h seed n pair some few is = subst P (same_pair seed n pair is) (h seed n some few)

-- ---- the arrays of both programs are the same

as_many : (source next : ℕ) (ts : List Stage) → length (shifted_each ts (loops source next ts)) ≡ length (loops source next ts)
as_many source next [] = refl
as_many source next (t ∷ ts) = ap suc (as_many next (suc next) ts)

abbrev arrays_of : ℕ → List Array
arrays_of n = input (codes "B") ∷ input (codes "C") ∷ locals 0 (n - 1)

same_arrays : (seed n : ℕ) → (moved seed n).arrays ≡ (plain seed n).arrays
same_arrays seed n = ap arrays_of (as_many 0 2 (stages seed n))

-- ---- the laws

paired_at : (seed n : ℕ) → 1 ≤ n → n ≤ 12 → ArePaired (pair_of seed n)
paired_at seed n some few =
    let both = made seed n some few in
    record {
      left = both.0.ready;
      right = both.1.ready;
      context = tt;
      params = refl;
      extents = λ o listed params. ap (λ arrays. map (index_value (point params [])) (extents_at arrays o)) (same_arrays seed n);
    }

small_at : (seed n : ℕ) → 1 ≤ n → n ≤ 12 → IsSmallPair (pair_of seed n)
small_at seed n some few = let both = made seed n some few in record { left = both.0.small; right = both.1.small; context = tt }

lowered_at : (seed n : ℕ) → 1 ≤ n → n ≤ 12 → AreLowered (pair_of seed n)
lowered_at seed n some few =
    let both = made seed n some few in
    (fine_plain 0 2 (stages seed n) 0 both.0.small.body, fine_shifted 0 2 (stages seed n) 0 both.1.small.body)

everywhere_at : (seed n : ℕ) → 1 ≤ n → n ≤ 12 → IsEverywhere (pair_of seed n)
everywhere_at seed n some few = λ x. record { each = refl; context = refl }

runs_at : (seed n : ℕ) → 1 ≤ n → n ≤ 12 → RunsEverywhere (pair_of seed n)
runs_at seed n some few = λ x. let both = made seed n some few in record { count = refl; left = both.0.ready.body; right = both.1.ready.body; context = tt }

-- what is reached is never that the context does not hold
never_outside : (limit n : ℕ) (hs : List Event) → reached limit n hs ≢ Err OutsideContext
never_outside limit n [] = λ e. cc
never_outside limit n (event ∷ hs) = by (nat_lt n limit) (never_outside limit (n + 1) hs)
  where
    by : (b : Bool) → reached limit (n + 1) hs ≢ Err OutsideContext → (if b then reached limit (n + 1) hs else Err (TooLarge limit)) ≢ Err OutsideContext
    by true k = k
    by false k = λ e. cc
never_outside limit n (evaluated side place None ∷ hs) = λ e. cc
never_outside limit n (evaluated side place (Some v) ∷ hs) = by (fits_64 v) (never_outside limit n hs)
  where
    by : (b : Bool) → reached limit n hs ≢ Err OutsideContext → unless (if b then None else Some (Range side place v)) (reached limit n hs) ≢ Err OutsideContext
    by true k = k
    by false k = λ e. cc

within_at : (seed n : ℕ) → 1 ≤ n → n ≤ 12 → IsNeverOutside (pair_of seed n)
within_at seed n some few = λ x limit. never_outside limit 0 (everything (pair_of seed n) (x ∷ []))

pub paired : law.GeneratedPairsArePaired
paired = each ArePaired paired_at

pub small : law.GeneratedPairsAreSmall
small = each IsSmallPair small_at

pub lowered : law.GeneratedPairsAreLowered
lowered = each AreLowered lowered_at

pub everywhere : law.GeneratedPairsAreEverywhere
everywhere = each IsEverywhere everywhere_at

pub runs : law.GeneratedPairsRunEverywhere
runs = each RunsEverywhere runs_at

pub within : law.GeneratedPairsAreNeverOutside
within = each IsNeverOutside within_at
