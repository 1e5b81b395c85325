-- The first of several faults is the least of them.
use Rattle.std.proofs.Common.{◌≡◌, ◌<◌, ◌≤◌, ◌⊎◌, ℕ, inl, inr, List, [], ◌∷◌, refl, sym, ◌∙◌, subst, Bool, true, false, cond, arith, nat_lt, ◌==◌}
use Rattle.std.specs.Prelude.{Option, Some, None}
use Rattle.std.specs.List.{AllByRecursion, Contains}
use Rattle.std.proofs.lemmas.List.Elements.{All-from_recursion}
use Rattle.std.proofs.lemmas.Bool.Decides.{nat_tests}
use Rattle.ac_parse_exprs.specs.declared.fault.Broken.{Broken}
use Rattle.ac_parse_exprs.specs.FaultOrder.{rank, is_earlier, earlier}
use Rattle.ac_parse_exprs.specs.Comparisons.{first_from}
use Rattle.ac_parse_exprs.specs.FormValues.{IsNoLater, FirstIsLeast, NoFirstIsNone}
use Rattle.ac_parse_exprs.proofs.Absent.{none_of, in_rest, in_front}

-- f is no later than a fault that there may be
abbrev IsLeast : Broken → Option Broken → Type 0
IsLeast f None = Unit {0}
IsLeast f (Some g) = IsNoLater f g

-- the same of a place and a rank
abbrev Leads : ℕ → ℕ → ℕ → ℕ → Type 0
Leads a r b s = (a < b) ⊎ ((a ≡ b) × (r ≤ s))

leads_itself : (a r : ℕ) → Leads a r a r
leads_itself a r = inr (refl, omega arith)

leads_further : (a r b s c t : ℕ) → Leads a r b s → Leads b s c t → Leads a r c t
leads_further a r b s c t (inl h) (inl k) = inl (omega (arith, h, k))
leads_further a r b s c t (inl h) (inr k) = inl (omega (arith, h, k.0))
leads_further a r b s c t (inr h) (inl k) = inl (omega (arith, h.0, k))
leads_further a r b s c t (inr h) (inr k) = inr (h.0 ∙ k.0, omega (arith, h.1, k.1))

-- the test of Faults.antt passes where a place and a rank lead, and else the other two do
test_leads : (a r b s : ℕ) (e l m : Bool) → (a == b) ≡ e → nat_lt r s ≡ l → nat_lt a b ≡ m → cond e l m ≡ true → Leads a r b s
test_leads a r b s true true m h k n t = inr (grind (arith, nat_tests), grind (arith, nat_tests))
test_leads a r b s true false m h k n t = absurd cc
test_leads a r b s false l true h k n t = inl (grind (arith, nat_tests))
test_leads a r b s false l false h k n t = absurd cc

else_leads : (a r b s : ℕ) (e l m : Bool) → (a == b) ≡ e → nat_lt r s ≡ l → nat_lt a b ≡ m → cond e l m ≡ false → Leads b s a r
else_leads a r b s true true m h k n t = absurd cc
else_leads a r b s true false m h k n t = inr (grind (arith, nat_tests), grind (arith, nat_tests))
else_leads a r b s false l true h k n t = absurd cc
else_leads a r b s false l false h k n t = inl (grind (arith, nat_tests))

earlier_leads : (f g : Broken) → is_earlier f g ≡ true → IsNoLater f g
earlier_leads f g h = test_leads f.place.at (rank f.rule) g.place.at (rank g.rule) (f.place.at == g.place.at) (nat_lt (rank f.rule) (rank g.rule)) (nat_lt f.place.at g.place.at) refl refl refl h

later_follows : (f g : Broken) → is_earlier f g ≡ false → IsNoLater g f
later_follows f g h = else_leads f.place.at (rank f.rule) g.place.at (rank g.rule) (f.place.at == g.place.at) (nat_lt (rank f.rule) (rank g.rule)) (nat_lt f.place.at g.place.at) refl refl refl h

further : (f g h : Broken) → IsNoLater f g → IsNoLater g h → IsNoLater f h
further f g h = leads_further f.place.at (rank f.rule) g.place.at (rank g.rule) h.place.at (rank h.rule)

-- no later than the earlier of two is no later than both
least_case : (x f g : Broken) (b : Bool) → is_earlier g f ≡ b → IsLeast x (cond b (Some g) (Some f)) → IsNoLater x f × IsNoLater x g
least_case x f g true e h = (further x g f h (earlier_leads g f e), h)
least_case x f g false e h = (h, further x f g h (later_follows g f e))

least_of_two : (x : Broken) (a b : Option Broken) → IsLeast x (earlier a b) → IsLeast x a × IsLeast x b
least_of_two x None b h = (tt, h)
least_of_two x (Some f) None h = (h, tt)
least_of_two x (Some f) (Some g) h = least_case x f g (is_earlier g f) refl h

least_from : (x : Broken) (b : Option Broken) (cs : List (Option Broken)) → first_from b cs ≡ Some x → IsLeast x b × AllByRecursion (IsLeast x) cs
least_from x b [] h = (subst (IsLeast x) (sym h) (leads_itself x.place.at (rank x.rule)), tt)
least_from x b (c ∷ cs) h =
    let r = least_from x (earlier b c) cs h in
    let n = least_of_two x b c r.0 in
    (n.0, (n.1, r.1))

one_case : (x f g : Broken) (b : Bool) → cond b (Some g) (Some f) ≡ Some x → (Some f ≡ Some x) ⊎ (Some g ≡ Some x)
one_case x f g true h = inr h
one_case x f g false h = inl h

one_of_two : (x : Broken) (a b : Option Broken) → earlier a b ≡ Some x → (a ≡ Some x) ⊎ (b ≡ Some x)
one_of_two x None b h = inr h
one_of_two x (Some f) None h = inl h
one_of_two x (Some f) (Some g) h = one_case x f g (is_earlier g f) h

-- the first is the one before them or one of them
among : (x : Broken) (b : Option Broken) (cs : List (Option Broken)) → first_from b cs ≡ Some x → (b ≡ Some x) ⊎ Contains cs (Some x)
among x b [] h = inl h
among x b (c ∷ cs) h = by (among x (earlier b c) cs h)
  where
    in_two : (b ≡ Some x) ⊎ (c ≡ Some x) → (b ≡ Some x) ⊎ Contains (c ∷ cs) (Some x)
    in_two (inl e) = inl e
    in_two (inr e) = inr (subst (λ y. Contains (y ∷ cs) (Some x)) (sym e) (in_front (Some x) cs))

    by : (earlier b c ≡ Some x) ⊎ Contains cs (Some x) → (b ≡ Some x) ⊎ Contains (c ∷ cs) (Some x)
    by (inl e) = in_two (one_of_two x b c e)
    by (inr k) = inr (in_rest c cs (Some x) k)

-- a fact of each holds of one of them
of_contained : (P : Option Broken → Type 0) (cs : List (Option Broken)) (c : Option Broken) → AllByRecursion P cs → Contains cs c → P c
of_contained P cs c h k = subst P k.2 (All-from_recursion P cs h k.0 c k.1)

pub first_is_least : FirstIsLeast
first_is_least faults f h = (by (among f None faults h), (λ g k. of_contained (IsLeast f) faults (Some g) (least_from f None faults h).1 k))
  where
    by : (None ≡ Some f) ⊎ Contains faults (Some f) → Contains faults (Some f)
    by (inl e) = absurd cc
    by (inr k) = k

pub no_first_is_none : NoFirstIsNone
no_first_is_none faults h f k = let e = of_contained (λ c. c ≡ None) faults (Some f) (none_of faults h) k in absurd cc
