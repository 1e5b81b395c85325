use Rattle.std.proofs.Common.{◌≡◌, ◌+◌, ◌<◌, ◌≤◌, Some, None, false, sym, arith, rules}
use Rattle.ac_forms.proofs.Passes.{moduli_of}
use Rattle.ac_omega_steps.specs.Choices.{are_absurd}
use Rattle.ac_omega.specs.ColumnChoice.{next_column}
use Rattle.ac_omega.specs.ConjunctionCosts.{cost_of}
use Rattle.ac_omega.specs.Maxima.{with_rows}
use Rattle.ac_omega.specs.Within.{Bounds, HaveRisen, IsWithin}
use Rattle.ac_omega.specs.WalkAnswers.{IsRefuted, with_choice_behind, with_refutation}
use Rattle.ac_omega.specs.Visits.{seen}
use Rattle.ac_omega_certify.specs.Alternatives.{all_of, alternatives_for}
use Rattle.ac_omega_certify.specs.declared.refutation.Refutation.TheVariants.{Absurd, Open}
use Rattle.ac_omega.proofs.Bounding.{rows-met, rows-risen, rows-on, no-less, risen-on, all-on, moduli-on}
use Rattle.ac_omega.proofs.Legal.{tried-legal}
use Rattle.ac_omega.proofs.Present.{next-within}
use Rattle.ac_omega.proofs.Rows.{column-cost}
use Rattle.ac_omega.proofs.Refuting.{absurd-refutes, absurd-within, first-tried, next-tried, last-tried, open-refutes, open-within, risen-behind, refuted-more, within-more, moduli-kept, if-wanted, leaf-risen}
use Rattle.ac_omega.proofs.Searches.{over-budget, absurd-gone, leaf-found, visits-as, by-column}
use Rattle.ac_omega.proofs.search.+searches.Goals as goal

pub by_column-first-cursor-requires : goal.by_column-first-cursor-requires
by_column-first-cursor-requires t c = rw c.as_slice-rows.ensures (moduli_of c.args.conj.columns c.args.conj.rows c.requires.made)

pub search-charged-requires : goal.search-charged-requires
search-charged-requires t c = rw c.as_slice-rows.ensures (moduli_of c.args.conj.columns c.args.conj.rows c.requires.made)

pub search-returns-in-Err-clause-exact : goal.search-returns-in-Err-clause-exact
search-returns-in-Err-clause-exact t c = λ n l.
    let over = rw c.as_slice-rows.ensures at c.in-Err.ensures in
    over-budget c.args.task.now.strategy c.args.task.now.aim c.args.task.now.vars.now n c.args.task.now.budget c.args.progress.now.path c.args.conj c.args.cost c.in-Err.over _ c.args.progress.now.pieces c.requires.cost over.0 l over.1

pub search-next_column-requires : goal.search-next_column-requires
search-next_column-requires t c = rw c.as_slice-3.ensures (moduli_of c.args.conj.columns c.args.conj.rows c.requires.made)

pub search-returns-then-are_absurd-clause-exact : goal.search-returns-then-are_absurd-clause-exact
search-returns-then-are_absurd-clause-exact t c = λ n l.
    let paid : c.in-Ok.spent ≡ c.args.cost + cost_of c.args.task.now.strategy c.args.task.now.vars.now c.args.conj.rows = (rw c.as_slice-rows.ensures at c.in-Ok.ensures).0 in
    let within : c.args.cost + cost_of c.args.task.now.strategy c.args.task.now.vars.now c.args.conj.rows ≤ c.args.task.now.budget = (rw c.as_slice-rows.ensures at c.in-Ok.ensures).1 in
    rw (paid, c.with_rows-all.ensures, c.as_slice.ensures) (absurd-gone c.args.task.now.strategy c.args.task.now.aim c.args.task.now.vars.now n c.args.task.now.budget c.args.progress.now.path c.args.conj c.args.cost _ within l (sym (rw c.as_slice-2.ensures at c.if-are_absurd.ensures)))

pub search-by_column-requires : goal.search-by_column-requires
search-by_column-requires t c =
    let paid : c.in-Ok.spent ≡ c.args.cost + cost_of c.args.task.now.strategy c.args.task.now.vars.now c.args.conj.rows = (rw c.as_slice-rows.ensures at c.in-Ok.ensures).0 in
    let below : c.args.cost + cost_of c.args.task.now.strategy c.args.task.now.vars.now c.args.conj.rows ≤ c.args.task.now.budget = (rw c.as_slice-rows.ensures at c.in-Ok.ensures).1 in
    let a : are_absurd c.args.conj.rows ≡ false = sym (rw c.as_slice-2.ensures at c.if-are_absurd.ensures) in
    let o : next_column c.args.task.now.strategy c.args.task.now.vars.now c.args.conj.rows ≡ Some c.in-Ok-Some.z = sym (rw (c.as_slice-3.ensures, c.in-Ok-Some.field-0-is) at c.in-Ok-Some.ensures) in
    let r = column-cost c.args.task.now.strategy c.args.task.now.vars.now c.args.conj.rows c.in-Ok-Some.z o in
    let within : c.in-Ok-Some.z < c.args.conj.columns = next-within c.args.task.now.strategy c.args.task.now.vars.now c.args.conj c.in-Ok-Some.z c.requires.made o in
    let bound : Bounds c.with_rows-all.result c.args.conj.rows = rw (c.with_rows-all.ensures, c.as_slice.ensures) (rows-met c.args.conj.rows c.args.met) in
    (omega (arith, paid, below, r), (omega (arith, paid, below), (c.requires.made, (c.requires.settle, (a, (within, (bound, λ h i. tried-legal c.args.task.now.strategy c.in-Ok-Some.z c.args.conj h c.requires.made within a i)))))))

pub search-returns-in-Ok-Some-clause-exact : goal.search-returns-in-Ok-Some-clause-exact
search-returns-in-Ok-Some-clause-exact t c = λ n l.
    let paid : c.in-Ok.spent ≡ c.args.cost + cost_of c.args.task.now.strategy c.args.task.now.vars.now c.args.conj.rows = (rw c.as_slice-rows.ensures at c.in-Ok.ensures).0 in
    let within : c.args.cost + cost_of c.args.task.now.strategy c.args.task.now.vars.now c.args.conj.rows ≤ c.args.task.now.budget = (rw c.as_slice-rows.ensures at c.in-Ok.ensures).1 in
    let a : are_absurd c.args.conj.rows ≡ false = sym (rw c.as_slice-2.ensures at c.if-are_absurd.ensures) in
    let o : next_column c.args.task.now.strategy c.args.task.now.vars.now c.args.conj.rows ≡ Some c.in-Ok-Some.z = sym (rw (c.as_slice-3.ensures, c.in-Ok-Some.field-0-is) at c.in-Ok-Some.ensures) in
    by-column c.args.task.now.strategy c.args.task.now.aim c.args.task.now.vars.now n c.args.task.now.budget c.args.progress.now.path c.args.conj c.args.cost _ c.in-Ok-Some.z c.by_column.result c.by_column.new.progress.pieces within l a o (rw (paid, c.with_rows-all.ensures, c.as_slice.ensures) at c.by_column.ensures.exact)

pub search-returns-in-Ok-Some-clause-risen : goal.search-returns-in-Ok-Some-clause-risen
search-returns-in-Ok-Some-clause-risen t c =
    let risen : HaveRisen c.args.met c.with_rows-all.result = rw (c.with_rows-all.ensures, c.as_slice.ensures) (rows-risen c.args.conj.rows c.args.met) in
    risen-behind c.by_column.result c.args.met c.with_rows-all.result risen c.by_column.ensures.risen

pub search-returns-in-Ok-None-clause-exact : goal.search-returns-in-Ok-None-clause-exact
search-returns-in-Ok-None-clause-exact t c = λ n l.
    let paid : c.in-Ok.spent ≡ c.args.cost + cost_of c.args.task.now.strategy c.args.task.now.vars.now c.args.conj.rows = (rw c.as_slice-rows.ensures at c.in-Ok.ensures).0 in
    let within : c.args.cost + cost_of c.args.task.now.strategy c.args.task.now.vars.now c.args.conj.rows ≤ c.args.task.now.budget = (rw c.as_slice-rows.ensures at c.in-Ok.ensures).1 in
    let a : are_absurd c.args.conj.rows ≡ false = sym (rw c.as_slice-2.ensures at c.if-are_absurd.ensures) in
    let o : next_column c.args.task.now.strategy c.args.task.now.vars.now c.args.conj.rows ≡ None = sym (rw (c.as_slice-3.ensures, c.in-Ok-None.field-0-is) at c.in-Ok-None.ensures) in
    let w = leaf-found c.args.task.now.strategy c.args.task.now.aim c.args.task.now.vars.now n c.args.task.now.budget c.args.progress.now.path c.args.conj c.args.cost (seen c.args.met c.args.progress.now.pieces) within l a o in
    visits-as c.at_leaf.result c.at_leaf.new.progress.pieces _ _ w (rw (paid, c.with_rows-all.ensures, c.as_slice.ensures) at c.at_leaf.ensures.exact)

pub search-returns-in-Ok-None-clause-risen : goal.search-returns-in-Ok-None-clause-risen
search-returns-in-Ok-None-clause-risen t c =
    let risen : HaveRisen c.args.met c.with_rows-all.result = rw (c.with_rows-all.ensures, c.as_slice.ensures) (rows-risen c.args.conj.rows c.args.met) in
    leaf-risen c.at_leaf.result c.args.task.now.aim c.args.met c.with_rows-all.result risen c.at_leaf.ensures.gone

pub search-returns-then-are_absurd-clause-refuted : goal.search-returns-then-are_absurd-clause-refuted
search-returns-then-are_absurd-clause-refuted t c =
    rw c.wanted.ensures (if-wanted c.args.task.now.aim (Absurd c.args.conj) (λ x. IsRefuted c.args.conj x) (λ w. absurd-refutes c.args.conj c.requires.made (sym (rw c.as_slice-2.ensures at c.if-are_absurd.ensures))))

pub search-returns-then-are_absurd-clause-within : goal.search-returns-then-are_absurd-clause-within
search-returns-then-are_absurd-clause-within t c =
    rw c.wanted.ensures (if-wanted c.args.task.now.aim (Absurd c.args.conj) (λ x. IsWithin c.with_rows-all.result x) (λ w. rw (c.with_rows-all.ensures, c.as_slice.ensures) (absurd-within (with_rows c.args.conj.rows c.args.met) c.args.conj (rows-met c.args.conj.rows c.args.met))))

pub by_column-choices-init : goal.by_column-choices-init
by_column-choices-init t c = record {
  low = search rules;
  high = search rules;
  sound = search rules;
  legal = search rules;
  same_path = search rules;
  so_far = search rules;
  tried = λ w. first-tried c.args.task.now.strategy c.args.z c.args.conj.rows c.as_slice-rows.result.now _ c.new-choices.result c.as_slice-rows.ensures c.first-cursor.ensures.value c.new-choices.ensures;
  refuted = rw (c.new-choices.ensures, c.new-below.ensures) tt;
  within = rw c.new-below.ensures tt;
  moduli = rw c.new-choices.ensures tt;
  risen = no-less c.args.met;
}

pub by_column-choices-preserved : goal.by_column-choices-preserved
by_column-choices-preserved t c =
    let hs = c.choices.choices in
    let rs = c.choices.below in
    let h = c.in-Ok-Try.choice in
    let r = c.in-Ok-Empty.refutation in
    let s = c.choices.all in
    let u = c.in-Ok-Empty.maxima in
    let more : c.keep.new.choices ≡ with_choice_behind hs h r = c.in_ok-keep-in-Ok-Empty.ensures.choices in
    let further : c.keep.new.below ≡ with_refutation rs r = c.in_ok-keep-in-Ok-Empty.ensures.below in
    let risen : HaveRisen s u = rw c.in-Ok-Empty.field-0-is at c.in-Ok-Empty.ensures.risen in
    record {
      low = search rules;
      high = search rules;
      sound = search rules;
      legal = search rules;
      same_path = search rules;
      so_far = search rules;
      tried = next-tried c.args.task.now.aim hs c.keep.new.choices h r _ _ _ c.choices.invariant.tried (rw c.in-Ok-Try.field-0-is at c.in-Ok-Try.ensures).0 more (rw c.in-Ok-Empty.field-0-is at c.in-Ok-Empty.ensures.told);
      refuted = rw (more, further) (refuted-more hs c.args.conj rs h r c.choices.invariant.refuted (rw c.in-Ok-Empty.field-0-is at c.in-Ok-Empty.ensures.refuted));
      within = rw further (within-more u rs r (all-on s u rs risen c.choices.invariant.within) (rw c.in-Ok-Empty.field-0-is at c.in-Ok-Empty.ensures.within));
      moduli = rw more (moduli-kept u.factor hs h r (moduli-on s u hs risen c.choices.invariant.moduli) (rw c.in-Ok-Empty.field-0-is at c.in-Ok-Empty.ensures.moduli));
      risen = risen-on c.args.met s u c.choices.invariant.risen risen;
    }

pub by_column-returns-clause-refuted : goal.by_column-returns-clause-refuted
by_column-returns-clause-refuted t c =
    rw c.open_refutation.ensures
    (if-wanted c.args.task.now.aim (Open c.args.conj c.choices.choices c.choices.below) (λ x. IsRefuted c.args.conj x)
    (λ w.
    let all : all_of (alternatives_for c.args.task.now.strategy c.args.z c.args.conj.rows) ≡ Some c.choices.choices = last-tried c.choices.choices _ _ (c.choices.invariant.tried w) (rw c.in-Ok-End.field-0-is at c.in-Ok-End.ensures) in
    open-refutes c.args.conj c.choices.choices c.choices.below c.requires.made
    (record { possible = c.requires.possible; strategy = c.args.task.now.strategy; column = c.args.z; present = c.requires.column; all = all })
    c.choices.invariant.refuted))

pub by_column-returns-clause-within : goal.by_column-returns-clause-within
by_column-returns-clause-within t c =
    rw c.open_refutation.ensures
    (if-wanted c.args.task.now.aim (Open c.args.conj c.choices.choices c.choices.below) (λ x. IsWithin c.choices.all x)
    (λ w.
    open-within c.choices.all c.args.conj c.choices.choices c.choices.below
    (rows-on c.args.met c.choices.all c.args.conj.rows c.choices.invariant.risen c.requires.within)
    c.choices.invariant.moduli c.choices.invariant.within))
