use Rattle.std.proofs.Common.{◌≡◌, ◌-ℤ◌, inl, inr, Some, slice_get, length, FitsSigned, refl}
use Rattle.std.specs.Int.{w128}
use Rattle.std.proofs.lemmas.Option.{slice_get_read}
use Rattle.ac_base.proofs.Bits.{read_back}
use Rattle.ac_forms.specs.Affine.{Affine}
use Rattle.ac_forms.specs.declared.row.Row.TheVariants.{Eq, Ge}
use Rattle.ac_omega_certify.proofs.Moderate.{modest-calm}
use Rattle.ac_omega_certify.proofs.ModerateSplinters.{splinter_fits, splinter-is, no-splinter, splinter-calm, splinter-stands}
use Rattle.ac_omega_certify.proofs.by_equality.splinter_rows.Goals as goal

pub worth-requires : goal.worth-requires
worth-requires c =
    let fk : FitsSigned w128 c.args.k = c.ranges.k in
    let e : slice_get c.args.rows.now c.args.i ≡ Some (Ge c.in-Ge.form) = rw (← c.in-Ge.is) (slice_get_read c.args.rows.now (length c.args.rows.now) c.args.i c.index-rows-i.result refl c.requires.lower c.index-rows-i.is) in
    let l = c.requires.last c.in-Ge.form e in
    simp read_back (splinter_fits c.args.rows.now c.args.z c.args.i c.args.k c.in-Ge.form c.requires.within_2_to_120 e c.requires.low l.0 l.1)

pub returns-in_ok-keep-in-Ge-clause-rows : goal.returns-in_ok-keep-in-Ge-clause-rows
returns-in_ok-keep-in-Ge-clause-rows c =
    let fk : FitsSigned w128 c.args.k = c.ranges.k in
    let x = simp read_back at c.in_ok-row-in-Ge.ensures in
    splinter-is c.args.k c.args.rows.now c.args.i c.index-rows-i.result c.in-Ge.form c.keep.new.kept.rows.items c.in_ok-row-in-Ge.row c.requires.lower c.index-rows-i.is c.in-Ge.is x (rw (← c.in_ok-copied.ensures) c.in_ok-keep-in-Ge.ensures.rows)

pub returns-in_ok-keep-in-Ge-clause-up_to_2_to_122 : goal.returns-in_ok-keep-in-Ge-clause-up_to_2_to_122
returns-in_ok-keep-in-Ge-clause-up_to_2_to_122 c =
    let fk : FitsSigned w128 c.args.k = c.ranges.k in
    let x = simp read_back at c.in_ok-row-in-Ge.ensures in
    let e : slice_get c.args.rows.now c.args.i ≡ Some (Ge c.in-Ge.form) = rw (← c.in-Ge.is) (slice_get_read c.args.rows.now (length c.args.rows.now) c.args.i c.index-rows-i.result refl c.requires.lower c.index-rows-i.is) in
    let l = c.requires.last c.in-Ge.form e in
    rw (c.in_ok-keep-in-Ge.ensures.rows, c.in_ok-copied.ensures, x)
    (splinter-calm c.args.rows.now c.args.z c.args.i c.args.k c.in-Ge.form c.requires.within_2_to_120 c.requires.moduli e c.requires.low l.0 l.1)

pub returns-in_ok-keep-in-Ge-clause-stand : goal.returns-in_ok-keep-in-Ge-clause-stand
returns-in_ok-keep-in-Ge-clause-stand c = λ b path names h s.
    let fk : FitsSigned w128 c.args.k = c.ranges.k in
    let x = simp read_back at c.in_ok-row-in-Ge.ensures in
    let e : slice_get c.args.rows.now c.args.i ≡ Some (Ge c.in-Ge.form) = rw (← c.in-Ge.is) (slice_get_read c.args.rows.now (length c.args.rows.now) c.args.i c.index-rows-i.result refl c.requires.lower c.index-rows-i.is) in
    rw (c.in_ok-keep-in-Ge.ensures.rows, c.in_ok-keep-in-Ge.ensures.places, c.in_ok-copied.ensures, c.in_ok-from_slice.ensures.items, x)
    (splinter-stands b path names c.args.rows.now c.args.places.now (Eq (record { konst = c.in-Ge.form.konst -ℤ c.args.k; coefs = c.in-Ge.form.coefs })) c.args.place h (s c.in-Ge.form e))

pub returns-in-Eq-clause-rows : goal.returns-in-Eq-clause-rows
returns-in-Eq-clause-rows c = no-splinter c.args.k c.args.rows.now c.args.i c.index-rows-i.result c.in_ok-copied.field-0.items c.requires.lower c.index-rows-i.is other c.in_ok-copied.ensures
  where
    other : (f : Affine) → c.index-rows-i.result ≡ Ge f → ⊥
    other f e = elim c.in-Eq.is [ inl d ↦ (let x = d.1 in cc) | inr d ↦ (let x = d.2 in cc) ]

pub returns-in-Eq-clause-up_to_2_to_122 : goal.returns-in-Eq-clause-up_to_2_to_122
returns-in-Eq-clause-up_to_2_to_122 c = rw (c.in_ok-copied.ensures) (modest-calm c.args.rows.now c.requires.within_2_to_120 c.requires.moduli)
