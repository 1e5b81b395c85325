-- From places to pairs: what the definitions say of places, of each two elements.
use Rattle.std.proofs.Common.{◌≡◌, ℕ, zero, suc, ◌<◌, List, [], ◌∷◌, length, ℤ, false, refl, ap, arith, get_or}
use Rattle.std.specs.List.{AllByRecursion}
use Rattle.std.specs.Ordering.{is_lt}
use Rattle.std.proofs.lemmas.Cmp.{int_cmp_total, lists_total}
use Rattle.std.proofs.lemmas.List.Sorted.{ranks_by, sorted_far}
use Rattle.ac_syntax.specs.Trace.{Entry}
use Rattle.ac_syntax.specs.Source.{Writer, Stands}
use Rattle.ac_syntax.proofs.Pairwise.{AllPairs}
use Rattle.ac_legal_law.specs.EntryTimes.{time_cmp, IsSmaller, NeverFall, KeepsOrder}
use Rattle.ac_legal_law.specs.Conflicts.{Clash}

all_at : {A : Type 0} (P : A → Type 0) (xs : List A) → ((k : ℕ) (d : A) → k < length xs → P (get_or xs k d)) → AllByRecursion P xs
all_at P [] h = tt
all_at P (x ∷ xs) h = (h zero x (omega arith), all_at P xs (λ k d l. h (suc k) d (omega arith)))

pairs_at : {A : Type 0} (R : A → A → Type 0) (xs : List A) → ((i j : ℕ) (d : A) → i < j → j < length xs → R (get_or xs i d) (get_or xs j d)) → AllPairs R xs
pairs_at R [] h = tt
pairs_at R (x ∷ xs) h = (all_at (R x) xs (λ k d l. h zero (suc k) d (omega arith) (omega arith)), pairs_at R xs (λ i j d l m. h (suc i) (suc j) d (omega arith) (omega arith)))

-- times never fall between any two
pub ascending_pairs : (time : Entry → List ℤ) (es : List Entry) → NeverFall time es → AllPairs (λ f g. is_lt (time_cmp (time g) (time f)) ≡ false) es
ascending_pairs time es h =
    pairs_at (λ f g. is_lt (time_cmp (time g) (time f)) ≡ false) es
    (λ i j d l m. sorted_far (λ x y. is_lt (time_cmp (time x) (time y))) (ranks_by (lists_total int_cmp_total) time) es h i j d (omega arith) m)

all_standing : (P : Entry → Type 0) (es : List Entry) → ((u : Writer) → Stands es u → P u.entry) → AllByRecursion P es
all_standing P [] h = tt
all_standing P (e ∷ es) h = (
  h (record { earlier = []; entry = e }) (record { later = es; splits = refl }),
  all_standing P es (λ u s. h (record { earlier = e ∷ u.earlier; entry = u.entry }) (record { later = s.later; splits = ap (λ (xs : List Entry). e ∷ xs) s.splits })),
)

pairs_standing : (R : Entry → Entry → Type 0) (es : List Entry) → ((w u : Writer) → Stands es w → Stands es u → length w.earlier < length u.earlier → R w.entry u.entry) → AllPairs R es
pairs_standing R [] h = tt
pairs_standing R (e ∷ es) h = (
  all_standing (R e) es (λ u s. h (record { earlier = []; entry = e }) (record { earlier = e ∷ u.earlier; entry = u.entry }) (record { later = es; splits = refl }) (record { later = s.later; splits = ap (λ (xs : List Entry). e ∷ xs) s.splits }) (omega arith)),
  pairs_standing R es (λ w u s t l. h (record { earlier = e ∷ w.earlier; entry = w.entry }) (record { earlier = e ∷ u.earlier; entry = u.entry })
      (record { later = s.later; splits = ap (λ (xs : List Entry). e ∷ xs) s.splits }) (record { later = t.later; splits = ap (λ (xs : List Entry). e ∷ xs) t.splits }) (omega arith)),
)

-- the earlier of each two that clash has the smaller time
pub kept_pairs : (time : Entry → List ℤ) (es : List Entry) → KeepsOrder time es → AllPairs (λ e f. Clash e f → IsSmaller (time e) (time f)) es
kept_pairs time es h = pairs_standing (λ e f. Clash e f → IsSmaller (time e) (time f)) es (λ w u s t l c. h w u (record { first = s; second = t; earlier = l; clash = c }))
