-- Terms keep their ids while a table grows.
use Rattle.std.proofs.Common.{◌≡◌, List, Some, slice_get, sym, ap, ◌∙◌}
use Rattle.ac_syntax.specs.declared.tree.Symbol.{Symbol}
use Rattle.ac_terms.specs.declared.node.TermId.{TermId}
use Rattle.ac_syntax.specs.Term.{Term, Num, Initial, Apply, Terms, none, more}
use Rattle.ac_terms.specs.Table.{Table, call_of, stored, StandsFor, StandForAll, Keeps}
use Rattle.ac_terms.specs.TableNodes.{KeepsPlaces}

mutual
  pub stands_kept : (old new : Table) → new.commutative ≡ old.commutative → KeepsPlaces old.places new.places → (t : Term) (id : TermId) → StandsFor old t id → StandsFor new t id
  stands_kept old new same kept (Num v) id h = kept id.index _ h
  stands_kept old new same kept (Initial l) id h = kept id.index _ h
  stands_kept old new same kept (Apply f ts) id h =
      (h.0, stand_kept old new same kept ts h.0 h.1, kept id.index _ h.2 ∙ ap (λ names. Some (call_of f (stored names f h.0))) (sym same))

  pub stand_kept : (old new : Table) → new.commutative ≡ old.commutative → KeepsPlaces old.places new.places → (ts : Terms) (ids : List TermId) → StandForAll old ts ids → StandForAll new ts ids
  stand_kept old new same kept none ids h = h
  stand_kept old new same kept (more t ts) ids h = (h.0, h.1, h.2, stands_kept old new same kept t h.0 h.3, stand_kept old new same kept ts h.1 h.4)

-- and so do lists of them
pub StandForAll-kept : (old new : Table) → Keeps old new → (ts : Terms) (ids : List TermId) → StandForAll old ts ids → StandForAll new ts ids
StandForAll-kept old new kept none ids h = h
StandForAll-kept old new kept (more t ts) ids h = (h.0, h.1, h.2, kept t h.0 h.3, StandForAll-kept old new kept ts h.1 h.4)

-- a call that was stored stands where it was put
pub call_stands : (old new : Table) → new.commutative ≡ old.commutative → KeepsPlaces old.places new.places
    → (f : Symbol) (ts : Terms) (ids : List TermId) → StandForAll old ts ids
    → (name : Symbol) (args : List TermId) → name ≡ f → args ≡ stored old.commutative f ids
    → (id : TermId) → slice_get new.places id.index ≡ Some (call_of name args) → StandsFor new (Apply f ts) id
call_stands old new same kept f ts ids h name args named ordered id at =
    let e : args ≡ stored new.commutative f ids = ordered ∙ ap (λ names. stored names f ids) (sym same) in
    (ids, stand_kept old new same kept ts ids h, at ∙ (λ j. Some (call_of (named j) (e j))))
