-- What the answer of a call tells: of the value, and of the stop that comes instead. Want of memory may come at any time, and tells nothing; so each type of
-- stops has a word for what a stop tells, as `IfWide` for `FormStop`, and the words on answers take it.
use Rattle.std.specs.Prelude.{◌≡◌, Option, Some, None, Result, MatchResult}
use Rattle.ac_forms.specs.declared.stop.FormStop.{FormStop}
use Rattle.ac_forms.specs.declared.stop.FormStop.TheVariants.{Wide, Memory}

-- a value of which Q holds, where P holds; a stop that tells so, where it does not
abbrev pub GivenWhere : {T S : Type 0} → Result T S → (S → Type 0 → Type 0) → Type 0 → (T → Type 0) → Type 0
GivenWhere r tells P Q = MatchResult r (λ x. P × Q x) (λ stop. tells stop (¬ P))

-- the value that is to be made; a stop that tells so, where there is none
abbrev pub GivenOf : {T S : Type 0} → Result T S → (S → Type 0 → Type 0) → Option T → Type 0
GivenOf r tells made = MatchResult r (λ x. made ≡ Some x) (λ stop. tells stop (made ≡ None))

-- a number leaves `i128`
abbrev pub IfWide : FormStop → Type 0 → Type 0
IfWide Wide P = P
IfWide (Memory e) P = Unit {0}

-- a value of which Q holds, where P holds; wide, where it does not
abbrev pub MadeWhere : {T : Type 0} → Result T FormStop → Type 0 → (T → Type 0) → Type 0
MadeWhere r P Q = GivenWhere r IfWide P Q

-- the value v, where P holds; wide, where it does not
abbrev pub MadeIff : {T : Type 0} → Result T FormStop → Type 0 → T → Type 0
MadeIff r P v = MadeWhere r P (λ x. x ≡ v)
