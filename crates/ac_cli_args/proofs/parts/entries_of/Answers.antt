use Rattle.std.proofs.Common.{rules, ◌≡◌, ◌==◌, ◌+◌, ◌++◌, ◌∷◌, [], map, subst, sym, ap, ◌∙◌, arith, false}
use Rattle.std.proofs.lemmas.List.{map-append}
use Rattle.std.specs.List.{list_any, slice_split}
use Rattle.ac_cli_args.specs.ValuationEntries.{AreEntries, plain}
use Rattle.ac_cli_args.proofs.Reading.{IsReadTo, stops, stops_last, ends, goes_on, ended}
use Rattle.ac_cli_args.proofs.parts.entries_of.Goals as goal
use Rattle.ac_cli_args.proofs.parts.entries_of.Goals.{else-loop-turn-test, then-loop-turn-test+in_default}

pub returns-in_default-entry : goal.returns-in_default-entry
returns-in_default-entry c = stops c.args.word.now c.loop-turn.rest.now c.loop-turn._turn (map plain c.loop-turn.given.items) c.loop-turn.invariant c.in-Some.part.now c.in-Some.behind.now c.in-Some.ensures c.in_default-entry.ensures

pub loop-turn-preserved : goal.loop-turn-preserved
loop-turn-preserved c =
    let g = plain c.in-Some-entry.found in
    let more : map plain c.push.new.self.items ≡ map plain c.loop-turn.given.items ++ g ∷ [] = ap (map plain) (let e : c.push.new.self.items ≡ c.loop-turn.given.items ++ c.in-Some-entry.found ∷ [] = search rules in e) ∙ map-append plain c.loop-turn.given.items (c.in-Some-entry.found ∷ []) in
    subst (λ gs. IsReadTo c.args.word.now c.in-Some.behind.now (c.loop-turn._turn + 1) gs) (sym more)
    (goes_on c.args.word.now c.loop-turn.rest.now c.loop-turn._turn (map plain c.loop-turn.given.items) c.loop-turn.invariant c.in-Some.part.now c.in-Some.behind.now c.in-Some.ensures g c.in-Some-entry.ensures)

pub returns-in_default-entry-2 : goal.returns-in_default-entry-2
returns-in_default-entry-2 c =
    let whole : list_any (λ b. b == 44) c.loop-turn.rest.now ≡ false = elim c.loop-turn-test.branch [
      | else-loop-turn-test w ↦ ended c.args.word.now c.loop-turn.rest.now c.loop-turn._turn (map plain c.loop-turn.given.items) c.loop-turn.invariant (let t = w.loop-turn-test.false in omega arith)
      | then-loop-turn-test+in_default w ↦ w.in_default.ensures
    ] in
    stops_last c.args.word.now c.loop-turn.rest.now c.loop-turn._turn (map plain c.loop-turn.given.items) c.loop-turn.invariant whole c.in_default-entry-2.ensures

pub returns : goal.returns
returns c =
    let whole : list_any (λ b. b == 44) c.loop-turn.rest.now ≡ false = elim c.loop-turn-test.branch [
      | else-loop-turn-test w ↦ ended c.args.word.now c.loop-turn.rest.now c.loop-turn._turn (map plain c.loop-turn.given.items) c.loop-turn.invariant (let t = w.loop-turn-test.false in omega arith)
      | then-loop-turn-test+in_default w ↦ w.in_default.ensures
    ] in
    let g = plain c.in-Some-entry-2.found in
    let more : map plain c.push-2.new.self.items ≡ map plain c.loop-turn.given.items ++ g ∷ [] = ap (map plain) (let e : c.push-2.new.self.items ≡ c.loop-turn.given.items ++ c.in-Some-entry-2.found ∷ [] = search rules in e) ∙ map-append plain c.loop-turn.given.items (c.in-Some-entry-2.found ∷ []) in
    subst (λ gs. AreEntries (slice_split (λ b. b == 44) c.args.word.now) gs) (sym more)
    (ends c.args.word.now c.loop-turn.rest.now c.loop-turn._turn (map plain c.loop-turn.given.items) c.loop-turn.invariant whole g c.in-Some-entry-2.ensures)
