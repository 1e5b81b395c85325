use Rattle.std.proofs.Common.{◌∷◌, [], List, sym, subst, take}
use Rattle.std.proofs.lemmas.List.{take_all}
use Rattle.ac_forms.specs.Rows.{Meets}
use Rattle.ac_forms.specs.declared.row.Row.{Row}
use Rattle.ac_claims_paths.proofs.Moving.{meets-both}
use Rattle.ac_unfold.specs.PlanResults.{AreStanding, IsStanding}
use Rattle.ac_unfold.proofs.Results.{in_read, next_item}
use Rattle.ac_unfold.proofs.Stops.{all_more}
use Rattle.ac_unfold.proofs.Tabled.{all_fail}
use Rattle.ac_unfold.proofs.tabling.all_stand.Goals as goal

pub loop-row-init : goal.loop-row-init
loop-row-init c = (tt, λ p meets. tt)

pub loop-row-preserved : goal.loop-row-preserved
loop-row-preserved c =
    let k = c.args.conj.now in
    let rows = c.args.rows.now in
    let i = c.loop-row.row-index in
    let r = c.row-item.result in
    let more = sym (next_item rows i r c.loop-row-test.true c.row-item.is) in (
      subst (AreStanding k) more (all_more (IsStanding k) (take i rows) r c.loop-row.invariant.0 (c.in_ok-standing.ensures.stands c.if-not-standing.false)),
      λ p meets. subst (λ (rs : List Row). Meets rs p) more (meets-both (take i rows) (r ∷ []) p (c.loop-row.invariant.1 p meets) (c.in_ok-standing.ensures.holds c.if-not-standing.false p meets, tt)),
    )

pub returns-then-not-standing-clause-fails : goal.returns-then-not-standing-clause-fails
returns-then-not-standing-clause-fails c = λ _ made over.
    all_fail c.args.conj.now c.args.rows.now c.row-item.result (in_read c.args.rows.now c.loop-row.row-index c.row-item.result c.loop-row-test.true c.row-item.is) (c.in_ok-standing.ensures.fails c.if-not-standing.true) made over

pub returns-clause-stand : goal.returns-clause-stand
returns-clause-stand c = λ _. subst (AreStanding c.args.conj.now) (take_all c.loop-row.row-index c.args.rows.now c.loop-row-test.false) c.loop-row.invariant.0

pub returns-clause-holds : goal.returns-clause-holds
returns-clause-holds c = λ _ p meets. subst (λ (rs : List Row). Meets rs p) (take_all c.loop-row.row-index c.args.rows.now c.loop-row-test.false) (c.loop-row.invariant.1 p meets)
