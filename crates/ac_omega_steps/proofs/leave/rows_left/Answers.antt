use Rattle.std.proofs.Common.{rules, Some, ap}
use Rattle.ac_omega_steps.specs.LeftRows.{normal_of}
use Rattle.ac_omega_steps.proofs.LeftMade.{left_over}
use Rattle.ac_omega_steps.proofs.LeftRows.{residue_rows}
use Rattle.ac_omega_steps.proofs.leave.rows_left.Goals as goal

pub returns-in_ok-made-in-Drop-clause-over : goal.returns-in_ok-made-in-Drop-clause-over
returns-in_ok-made-in-Drop-clause-over c = left_over c.args.choice.now c.args.conj.now (Some c.in_ok-made-in-Drop.made) c.requires.legal c.requires.made (search rules)

pub returns-in_ok-made-in-Equal-clause-over : goal.returns-in_ok-made-in-Equal-clause-over
returns-in_ok-made-in-Equal-clause-over c = left_over c.args.choice.now c.args.conj.now c.in_ok-made-in-Equal.made c.requires.legal c.requires.made (search rules)

pub returns-in_ok-made-in-Residue-clause-normal : goal.returns-in_ok-made-in-Residue-clause-normal
returns-in_ok-made-in-Residue-clause-normal c =
    ap normal_of (residue_rows c.args.choice.now c.in-Residue.z c.in-Residue.m c.in-Residue.r c.args.conj.now.rows c.as_slice-rows.result.now c.in_ok-made-in-Residue.made c.in-Residue.is c.as_slice-rows.ensures c.in_ok-made-in-Residue.ensures)

pub returns-in_ok-made-in-Residue-clause-over : goal.returns-in_ok-made-in-Residue-clause-over
returns-in_ok-made-in-Residue-clause-over c =
    let made = residue_rows c.args.choice.now c.in-Residue.z c.in-Residue.m c.in-Residue.r c.args.conj.now.rows c.as_slice-rows.result.now c.in_ok-made-in-Residue.made c.in-Residue.is c.as_slice-rows.ensures c.in_ok-made-in-Residue.ensures in
    left_over c.args.choice.now c.args.conj.now c.in_ok-made-in-Residue.made c.requires.legal c.requires.made made

pub returns-in_ok-made-in-Splinter-clause-over : goal.returns-in_ok-made-in-Splinter-clause-over
returns-in_ok-made-in-Splinter-clause-over c = left_over c.args.choice.now c.args.conj.now c.in_ok-made-in-Splinter.made c.requires.legal c.requires.made (search rules)
