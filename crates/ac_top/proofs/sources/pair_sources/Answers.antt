use Rattle.std.proofs.Common.{List, ℕ, sym, subst}
use Rattle.std.proofs.lemmas.Result.{IfOk-weaker}
use Rattle.ac_syntax.specs.declared.tree.Program.{Program}
use Rattle.ac_parse.specs.Program.{IsProgramOf}
use Rattle.ac_top.specs.ProgramAnswers.{AreUnpaired, first_refused, second_refused, no_pair}
use Rattle.ac_top.specs.RunStages.{IsPairing, IsPairingOf, IsParsed, IsRead, said_by}
use Rattle.ac_top.specs.declared.sources.Paired.{Paired}
use Rattle.ac_top.specs.declared.sources.Paired.TheVariants.{Together, Refused}
use Rattle.ac_top.proofs.Pairs.{read_pair}
use Rattle.ac_top.proofs.sources.pair_sources.Goals as goal

pairing : (a b first second : List ℕ) (left right : Program) → IsProgramOf first left → IsRead left → IsProgramOf second right → IsRead right
    → (made : Paired) → IsPairing left right made → IsPairingOf a b first second made
pairing a b first second left right l h r k (Together pair) is = (record { left = left; right = right; is_left = l; is_right = r; is_pair = is }, read_pair first second left right pair l r is h k)
pairing a b first second left right l h r k (Refused text) why = no_pair left right text.items l r why

pub returns-in-Refused : goal.returns-in-Refused
returns-in-Refused c =
    let left = c.args.left.now in
    let right = c.args.right.now in
    let why = subst (IsParsed left.bytes.now) c.in-Refused.is c.in_ok-program.ensures in
    subst (AreUnpaired left.name.now right.name.now left.bytes.now right.bytes.now) (sym c.in_ok-refusal_line-in-Refused.ensures) (first_refused (said_by c.in-Refused.complaint) why)

pub returns-in-Refused-2 : goal.returns-in-Refused-2
returns-in-Refused-2 c =
    let left = c.args.left.now in
    let right = c.args.right.now in
    let made = subst (IsParsed left.bytes.now) c.in-Program.is c.in_ok-program.ensures in
    let why = subst (IsParsed right.bytes.now) c.in-Refused-2.is c.in_ok-program-2.ensures in
    subst (AreUnpaired left.name.now right.name.now left.bytes.now right.bytes.now) (sym c.in_ok-refusal_line-in-Refused-2.ensures) (second_refused c.in-Program.program (said_by c.in-Refused-2.complaint) made.0 why)

pub returns : goal.returns
returns c =
    let left = c.args.left.now in
    let right = c.args.right.now in
    let first = subst (IsParsed left.bytes.now) c.in-Program.is c.in_ok-program.ensures in
    let second = subst (IsParsed right.bytes.now) c.in-Program-2.is c.in_ok-program-2.ensures in
    IfOk-weaker c.pair_programs.result _ _ (pairing left.name.now right.name.now left.bytes.now right.bytes.now c.in-Program.program c.in-Program-2.program first.0 first.1 second.0 second.1) c.pair_programs.ensures
