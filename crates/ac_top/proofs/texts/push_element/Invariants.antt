use Rattle.std.proofs.Common.{◌≡◌, ◌++◌, take}
use Rattle.ac_top.specs.ConsoleLines.{element_text}
use Rattle.ac_top.proofs.texts.push_element.Given as goal

abbrev pub invariant-loop-x : goal.invariant-loop-x
invariant-loop-x l = l.bytes.items ≡ l.fn.bytes.items ++ element_text (take l.x-index l.element)
