-- What happens while a program runs, in order: events, which are counted, and index values, which are to fit 64 bits.
use Rattle.std.specs.Prelude.{ℕ, ◌+◌, ◌^◌, ℤ, pos, negsuc, List, [], ◌∷◌, ◌++◌, Option, Some, None, Bool, Result, Ok, Err, map, nat_lt, if◌then◌else◌}
use Rattle.std.specs.List.{flat_map, range_with_len}
use Rattle.ac_syntax.specs.Index.{Point, index_value, comparison_holds, holds}
use Rattle.ac_syntax.specs.CheckedArithmetic.{checked_argument, checked_quot, checked_value, rounded}
use Rattle.ac_syntax.specs.Turns.{inside, iterator_at, turns}
use Rattle.ac_syntax.specs.declared.tree.Place.{Place}
use Rattle.ac_syntax.specs.declared.tree.Quot.{Quot}
use Rattle.ac_syntax.specs.declared.tree.IndexExpr.{IndexExpr}
use Rattle.ac_syntax.specs.declared.tree.Rel.{Rel}
use Rattle.ac_syntax.specs.declared.tree.Rel.TheVariants.{NonNegative, Zero, Divides}
use Rattle.ac_syntax.specs.declared.tree.Comparison.{Comparison}
use Rattle.ac_syntax.specs.declared.tree.Cond.{Cond}
use Rattle.ac_syntax.specs.declared.tree.Value.{Value, Row_of-Value, end_of-Value, more_of-Value}
use Rattle.ac_syntax.specs.declared.tree.Value.TheVariants.{Number, Access, Call'}
use Rattle.ac_syntax.specs.declared.tree.Stmt.{Stmt, Row_of-Stmt, end_of-Stmt, more_of-Stmt}
use Rattle.ac_syntax.specs.declared.tree.Stmt.TheVariants.{For', If', Assign}
use Rattle.ac_instance.specs.declared.halt.Halt.{Halt}
use Rattle.ac_instance.specs.declared.halt.Halt.TheVariants.{TooLarge, Range, Wide}
use Rattle.ac_instance.specs.declared.halt.Side.{Side}

-- an event, or an index value, none where a partial sum or the product of a quotient leaves 128 bits or a divisor is below 1
pub data Event : Type 0 where
  event : Event
  evaluated : Side → Place → Option ℤ → Event

abbrev pub fits_64 : ℤ → Bool
fits_64 (pos n) = nat_lt n (2 ^ 63)
fits_64 (negsuc n) = nat_lt n (2 ^ 63)

-- how an index value ends a run, if it does
abbrev pub out_of_range : Side → Place → Option ℤ → Option Halt
out_of_range side place None = Some Wide
out_of_range side place (Some v) = if fits_64 v then None else Some (Range side place v)

abbrev pub unless : Option Halt → Result ℕ Halt → Result ℕ Halt
unless None rest = rest
unless (Some h) rest = Err h

-- the number of events after n events and what happens then, or what ends the run first: an event beyond the limit, or an
-- index value that leaves its range
abbrev pub reached : ℕ → ℕ → List Event → Result ℕ Halt
reached limit n [] = Ok n
reached limit n (event ∷ hs) = if nat_lt n limit then reached limit (n + 1) hs else Err (TooLarge limit)
reached limit n (evaluated side place v ∷ hs) = unless (out_of_range side place v) (reached limit n hs)

-- a quotient is evaluated: its form, and then itself
abbrev pub quotient : Side → Point → Quot → List Event
quotient side p q = evaluated side q.place (checked_argument p q) ∷ evaluated side q.place (checked_quot p q) ∷ []

-- an index expression is evaluated: its quotients, and then itself
abbrev pub index : Side → Point → IndexExpr → List Event
index side p e = flat_map (quotient side p) e.quots ++ evaluated side e.place (checked_value p e) ∷ []

-- the quotient of a value by the divisor that a comparison tests
abbrev pub divided : Side → Place → Rel → ℤ → List Event
divided side place NonNegative v = []
divided side place Zero v = []
divided side place (Divides m) v = evaluated side place (rounded m v) ∷ []

-- a comparison is evaluated
abbrev pub in_part : Side → Point → Comparison → List Event
in_part side p c = index side p c.form ++ divided side c.form.place c.rel (index_value p c.form)

-- a node's event comes before the node is evaluated, and subscripts are evaluated as their node is met
unfoldable mutual
  pub in_value : Side → Point → Value → List Event
  in_value side p (Number e) = event ∷ index side p e
  in_value side p (Access array subs place) = event ∷ flat_map (index side p) subs
  in_value side p (Call' symbol n args place) = event ∷ in_values side p args

  pub in_values : Side → Point → {m : _} → Row_of-Value m → List Event
  in_values side p end_of-Value = []
  in_values side p (more_of-Value v rest) = in_value side p v ++ in_values side p rest

-- the comparisons of a condition, up to the first that does not hold
abbrev pub in_test : Side → Point → List Comparison → List Event
in_test side p [] = []
in_test side p (c ∷ cs) = in_part side p c ++ (if comparison_holds p c then in_test side p cs else [])

-- the turn with the number k: the test, the turn's event, the body, and the next value of the iterator
abbrev pub in_turn : Side → (Point → List Event) → Point → IndexExpr → Cond → ℤ → Place → ℕ → List Event
in_turn side body p start cond step place k =
    let at = inside p (iterator_at (index_value p start) step k) in
    in_test side at cond.parts ++ event ∷ body at ++ evaluated side place (Some (iterator_at (index_value p start) step (k + 1))) ∷ []

-- a loop's start, its turns, and the test that fails
unfoldable pub in_loop : Side → (Point → List Event) → Point → IndexExpr → Cond → ℤ → Place → List Event
in_loop side body p start cond step place =
    index side p start ++ (flat_map (in_turn side body p start cond step place) (range_with_len 0 (turns p start cond step))
    ++ in_test side (inside p (iterator_at (index_value p start) step (turns p start cond step))) cond.parts)

unfoldable mutual
  pub in_stmt : Side → Point → Stmt → List Event
  in_stmt side p (For' iter start cond step n body place) = in_loop side (λ q. in_body side q body) p start cond step place
  in_stmt side p (If' cond n taken m other place) = in_test side p cond.parts ++ (if holds p cond then in_body side p taken else in_body side p other)
  in_stmt side p (Assign array subs value place) = in_value side p value ++ flat_map (index side p) subs

  pub in_body : Side → Point → {m : _} → Row_of-Stmt m → List Event
  in_body side p end_of-Stmt = []
  in_body side p (more_of-Stmt s rest) = in_stmt side p s ++ in_body side p rest

-- several statements, one after another
abbrev pub in_all : Side → Point → List Stmt → List Event
in_all side p ss = flat_map (in_stmt side p) ss

-- how many coordinates an extent leaves
abbrev pub natural : ℤ → ℕ
natural (pos n) = n
natural (negsuc n) = 0

-- an event for each element, the last coordinate running fastest
abbrev pub in_elements : List ℤ → List Event
in_elements [] = event ∷ []
in_elements (n ∷ ns) = flat_map (λ k. in_elements ns) (range_with_len 0 (natural n))

-- an output's extents, and then its elements
abbrev pub in_output : Side → Point → List IndexExpr → List Event
in_output side p extents = flat_map (index side p) extents ++ in_elements (map (index_value p) extents)
