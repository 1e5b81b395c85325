use Rattle.std.proofs.Common.{◌≡◌, Some, None, slice_get, true, false, sym, refl}
use Rattle.ac_omega_steps.proofs.Keeping.{row-made}
use Rattle.ac_cert.specs.AbsurdEnd.{is_absurd}
use Rattle.ac_cert.proofs.ends.AbsurdEnd.check.Goals as goal

pub is_absurd-requires : goal.is_absurd-requires
is_absurd-requires c =
    let at : slice_get c.args.rows.now.rows c.args.self.now.row ≡ Some c.in-Some.row.now = sym c.in-Some.ensures.value in
    (row-made c.args.rows.now.columns c.args.rows.now.rows c.args.self.now.row c.in-Some.row.now c.requires at).1

pub returns-then-is_absurd : goal.returns-then-is_absurd
returns-then-is_absurd c =
    let at : slice_get c.args.rows.now.rows c.args.self.now.row ≡ Some c.in-Some.row.now = sym c.in-Some.ensures.value in
    let yes : is_absurd (Some c.in-Some.row.now) ≡ true = cc in
    rw (at, yes) refl

pub returns-else-is_absurd : goal.returns-else-is_absurd
returns-else-is_absurd c =
    let at : slice_get c.args.rows.now.rows c.args.self.now.row ≡ Some c.in-Some.row.now = sym c.in-Some.ensures.value in
    let no : is_absurd (Some c.in-Some.row.now) ≡ false = cc in
    rw (at, no) refl

pub returns-in-None : goal.returns-in-None
returns-in-None c =
    let at : slice_get c.args.rows.now.rows c.args.self.now.row ≡ None = sym c.in-None.ensures.value in
    rw at refl
