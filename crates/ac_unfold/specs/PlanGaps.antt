-- Where plans are made, one is missing only where a path was found.
use Rattle.std.specs.Prelude.{◌≡◌, ◌<◌, true, length, Option, None, is_some}
use Rattle.ac_forms.specs.Rows.{IsWellMade}
use Rattle.ac_forms.specs.declared.conj.Conj.{Conj}
use Rattle.ac_unfold.specs.UnfoldPaths.{BrokenPathsOf}
use Rattle.ac_unfold.specs.UnbrokenStarts.{HasNoPoint}
use Rattle.ac_unfold.specs.declared.decide.Answer.{Answer}
use Rattle.ac_unfold.specs.declared.decide.Answer.TheVariants as answer
use Rattle.ac_unfold.specs.declared.decide.Opened.{Opened}
use Rattle.ac_unfold.specs.declared.decide.Opened.TheVariants as opened
use Rattle.ac_unfold.specs.declared.ends.Closed.{Closed}
use Rattle.ac_unfold.specs.declared.ends.Closed.TheVariants as closed
use Rattle.ac_unfold.specs.declared.ends.Search.{Search}
use Rattle.ac_unfold.specs.declared.ends.Stood.{Stood}
use Rattle.ac_unfold.specs.declared.ends.Stood.TheVariants as stood

-- ---- answers

-- where the answer is that there is no point, there is none
abbrev pub HasNone : Conj → Answer → Type 0
HasNone c (answer.Empty o) = IsWellMade c × HasNoPoint c
HasNone c (answer.Point p) = Unit {0}

-- and a plan shows it
abbrev pub IsShown : Answer → Type 0
IsShown (answer.Empty o) = is_some o ≡ true
IsShown (answer.Point p) = Unit {0}

abbrev pub IsShownOpen : Opened → Type 0
IsShownOpen (opened.Empty o) = is_some o ≡ true
IsShownOpen (opened.On n) = Unit {0}

-- ---- paths

-- where plans are made, there is nothing only where a further path was found
abbrev pub FindsElse : {A : Type 0} → Search → Option A → BrokenPathsOf → BrokenPathsOf → Type 0
FindsElse search made before after = search.making ≡ true → made ≡ None → length before.paths < length after.paths

abbrev pub FindsStood : Search → Stood → BrokenPathsOf → BrokenPathsOf → Type 0
FindsStood search (stood.On course) before after = Unit {0}
FindsStood search (stood.Ended o) before after = FindsElse search o before after

abbrev pub FindsClosed : Search → Closed → BrokenPathsOf → BrokenPathsOf → Type 0
FindsClosed search closed.Broken before after = search.making ≡ true → length before.paths < length after.paths
FindsClosed search (closed.Refuted plans) before after = Unit {0}
