-- A partial order, choice by choice.
use Rattle.std.proofs.Common.{◌≡◌, ℕ, ◌+◌, ◌<◌, ◌≤◌, List, [], ◌∷◌, length, drop, get_or, inl, inr, Option, Some, None, ap, sym, ◌∙◌, arith}
use Rattle.std.specs.Prelude.{slice_get}
use Rattle.std.proofs.lemmas.List.{drop_more, drop_all}
use Rattle.std.proofs.lemmas.Option.{slice_get-get_or, slice_get_within}
use Rattle.ac_syntax.specs.declared.tree.Order.{Order}
use Rattle.ac_match.specs.MatchInternals.Search.{Extends, Has, SomeExtended, NoneExtended}
use Rattle.ac_match.specs.declared.look.Choice.{Choice}

-- before choice i: those before it are met by each order with what is assigned
pub record LookHalfway (partial : List Choice) (assigned : List (Option Order)) (i : ℕ) : Type 0 where
  pub room : i ≤ length partial
  pub back : (os : List Order) → Has os assigned → Extends os (drop i partial) → Extends os partial
  pub onward : (os : List Order) → Extends os partial → Extends os (drop i partial)

pub look_start : (partial : List Choice) (assigned : List (Option Order)) → LookHalfway partial assigned 0
look_start partial assigned = record { room = omega arith; back = λ os h x. x; onward = λ os x. x }

at_site : (assigned : List (Option Order)) (s : ℕ) (v d : Option Order) → s < length assigned → v ≡ get_or assigned s d → slice_get assigned s ≡ Some v
at_site assigned s v d l e = slice_get-get_or assigned s d l ∙ ap (λ (x : Option Order). Some x) (sym e)

pub one_met : (c : Choice) (assigned : List (Option Order)) (v : Option Order) (o : Order) → c.site < length assigned → v ≡ get_or assigned c.site v → v ≡ Some o → o ≡ c.order
    → (os : List Order) → Has os assigned → Extends os (c ∷ [])
one_met c assigned v o w iv is same os t =
    let a : slice_get assigned c.site ≡ Some (Some o) = at_site assigned c.site v v w iv ∙ ap (λ (x : Option Order). Some x) is in
    (t.1 c.site o a ∙ ap (λ (x : Order). Some x) same, tt)

pub one_breaks : (c : Choice) (assigned : List (Option Order)) (v : Option Order) (o : Order) → c.site < length assigned → v ≡ get_or assigned c.site v → v ≡ Some o → ¬ (o ≡ c.order)
    → (os : List Order) → Has os assigned → ¬ (Extends os (c ∷ []))
one_breaks c assigned v o w iv is other os t x =
    let a : slice_get assigned c.site ≡ Some (Some o) = at_site assigned c.site v v w iv ∙ ap (λ (x : Option Order). Some x) is in
    other (let g : Some o ≡ Some c.order = sym (t.1 c.site o a) ∙ x.0 in cc)

pub one_open : (assigned : List (Option Order)) (s : ℕ) (v : Option Order) → s < length assigned → v ≡ get_or assigned s v → v ≡ None → slice_get assigned s ≡ Some None
one_open assigned s v w iv is = at_site assigned s v v w iv ∙ ap (λ (x : Option Order). Some x) is

pub one_beyond : (c : Choice) (assigned : List (Option Order)) → length assigned ≤ c.site → (os : List Order) → Has os assigned → ¬ (Extends os (c ∷ []))
one_beyond c assigned l os t x =
    let w : c.site < length os = slice_get_within os c.site c.order x.0 in
    absurd (omega (arith, t.0, w))

pub ruleset one_steps = (one_met, one_breaks, one_open, one_beyond)

pub look_step : (partial : List Choice) (assigned : List (Option Order)) (i : ℕ) (c : Choice) → LookHalfway partial assigned i → i < length partial → c ≡ get_or partial i c
    → ((os : List Order) → Has os assigned → Extends os (c ∷ [])) → LookHalfway partial assigned (i + 1)
look_step partial assigned i c h l e met =
    let d : drop i partial ≡ c ∷ drop (i + 1) partial = rw e (drop_more partial i c l) in
    record {
      room = omega arith;
      back = λ os t x. h.back os t (rw d ((met os t).0, x));
      onward = λ os x. (rw d at (h.onward os x)).1;
    }

pub look_breaks : (partial : List Choice) (assigned : List (Option Order)) (i : ℕ) (c : Choice) → LookHalfway partial assigned i → i < length partial → c ≡ get_or partial i c
    → ((os : List Order) → Has os assigned → ¬ (Extends os (c ∷ []))) → (os : List Order) → Has os assigned → ¬ (Extends os partial)
look_breaks partial assigned i c h l e breaks os t x =
    let d : drop i partial ≡ c ∷ drop (i + 1) partial = rw e (drop_more partial i c l) in
    breaks os t ((rw d at (h.onward os x)).0, tt)

pub look_end : (partial : List Choice) (assigned : List (Option Order)) (i : ℕ) → LookHalfway partial assigned i → length partial ≤ i → (os : List Order) → Has os assigned → Extends os partial
look_end partial assigned i h l os t = h.back os t (rw (drop_all i partial l) tt)

pub ruleset look_steps = (look_start, look_step, look_breaks, look_end)

-- before partial order i: those before it are extended by no order with what is assigned
pub record ScanHalfway (refuted : List (List Choice)) (assigned : List (Option Order)) (i : ℕ) : Type 0 where
  pub room : i ≤ length refuted
  pub none : (os : List Order) → Has os assigned → NoneExtended os (drop i refuted) → NoneExtended os refuted
  pub any : (os : List Order) → SomeExtended os (drop i refuted) → SomeExtended os refuted

pub scan_start : (refuted : List (List Choice)) (assigned : List (Option Order)) → ScanHalfway refuted assigned 0
scan_start refuted assigned = record { room = omega arith; none = λ os h x. x; any = λ os x. x }

pub scan_step : (refuted : List (List Choice)) (assigned : List (Option Order)) (i : ℕ) (p : List Choice) → ScanHalfway refuted assigned i → i < length refuted → p ≡ get_or refuted i p
    → ((os : List Order) → Has os assigned → ¬ (Extends os p)) → ScanHalfway refuted assigned (i + 1)
scan_step refuted assigned i p h l e breaks =
    let d : drop i refuted ≡ p ∷ drop (i + 1) refuted = rw e (drop_more refuted i p l) in
    record {
      room = omega arith;
      none = λ os t x. h.none os t (rw d (breaks os t, x));
      any = λ os x. h.any os (rw d (inr x));
    }

pub scan_found : (refuted : List (List Choice)) (assigned : List (Option Order)) (i : ℕ) (p : List Choice) → ScanHalfway refuted assigned i → i < length refuted → p ≡ get_or refuted i p
    → ((os : List Order) → Has os assigned → Extends os p) → (os : List Order) → Has os assigned → SomeExtended os refuted
scan_found refuted assigned i p h l e met os t =
    let d : drop i refuted ≡ p ∷ drop (i + 1) refuted = rw e (drop_more refuted i p l) in
    h.any os (rw d (inl (met os t)))

pub scan_end : (refuted : List (List Choice)) (assigned : List (Option Order)) (i : ℕ) → ScanHalfway refuted assigned i → length refuted ≤ i → (os : List Order) → Has os assigned → NoneExtended os refuted
scan_end refuted assigned i h l os t = h.none os t (rw (drop_all i refuted l) tt)

pub ruleset scan_steps = (scan_start, scan_step, scan_found, scan_end)
