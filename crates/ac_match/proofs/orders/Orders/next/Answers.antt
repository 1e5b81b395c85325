use Rattle.std.proofs.Common.{arith, ◌≡◌, zip, ap}
use Rattle.ac_match.proofs.Numbering.{all_refuted, none_refuted, zip_order}
use Rattle.ac_match.proofs.orders.Orders.next.Goals.{else-len-gt-FEW_SITES-via-then-len-gt-FEW_SITES+else-len-ge-MOST_REFUTED, else-len-gt-FEW_SITES-via-else-len-gt-FEW_SITES}
use Rattle.ac_match.proofs.orders.Orders.next.Goals as goal

pub returns-then-len-ge-MOST_REFUTED : goal.returns-then-len-ge-MOST_REFUTED
returns-then-len-ge-MOST_REFUTED c =
    let e : c.self.inside.refuted ≡ c.args.self.now.refuted = ap (λ v. v.refuted) c.self.view_is in
    let s : c.self.inside.sites ≡ c.args.self.now.sites = ap (λ v. v.sites) c.self.view_is in
    let f = rw (c.as_slice.ensures, c.as_slice-2.ensures) at (rw c.in-Ok-Some.field-0-is at c.in-Ok-Some.ensures) in
    rw (← e, ← s) (
      (omega (arith, c.len.ensures, c.if-len-gt-FEW_SITES.true), omega (arith, c.len-then-len-gt-FEW_SITES.ensures, c.if-len-ge-MOST_REFUTED.true)),
      (zip c.self.inside.sites f.0, zip_order c.self.inside.sites f.0 f.1, none_refuted c.self.inside.sites c.self.inside.refuted c.self.inside.numbered f.0 c.self.invariant f.1 f.3),
    )

pub returns-else-len-gt-FEW_SITES : goal.returns-else-len-gt-FEW_SITES
returns-else-len-gt-FEW_SITES c =
    let e : c.self.inside.refuted ≡ c.args.self.now.refuted = ap (λ v. v.refuted) c.self.view_is in
    let s : c.self.inside.sites ≡ c.args.self.now.sites = ap (λ v. v.sites) c.self.view_is in
    let f = rw (c.as_slice.ensures, c.as_slice-2.ensures) at (rw c.in-Ok-Some.field-0-is at c.in-Ok-Some.ensures) in
    rw (← e, ← s, f.2) (
      zip_order c.self.inside.sites f.0 f.1,
      none_refuted c.self.inside.sites c.self.inside.refuted c.self.inside.numbered f.0 c.self.invariant f.1 f.3,
      λ many. elim c.else-len-gt-FEW_SITES.branch [
        | else-len-gt-FEW_SITES-via-then-len-gt-FEW_SITES+else-len-ge-MOST_REFUTED w ↦ absurd (omega (arith, many.1, w.len-then-len-gt-FEW_SITES.ensures, w.if-len-ge-MOST_REFUTED))
        | else-len-gt-FEW_SITES-via-else-len-gt-FEW_SITES w ↦ absurd (omega (arith, many.0, c.len.ensures, w.if-len-gt-FEW_SITES))
      ],
    )

pub returns-in-Ok-None : goal.returns-in-Ok-None
returns-in-Ok-None c =
    let e : c.self.inside.refuted ≡ c.args.self.now.refuted = ap (λ v. v.refuted) c.self.view_is in
    let s : c.self.inside.sites ≡ c.args.self.now.sites = ap (λ v. v.sites) c.self.view_is in
    let f = rw (c.as_slice.ensures, c.as_slice-2.ensures) at (rw c.in-Ok-None.field-0-is at c.in-Ok-None.ensures) in
    rw (← e, ← s) (all_refuted c.self.inside.sites c.self.inside.refuted c.self.inside.numbered c.self.invariant f)
