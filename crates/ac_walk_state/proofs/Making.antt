-- Widening points that are made one by one, and what is said of paths one by one.
use Rattle.std.proofs.Common.{◌≡◌, ◌⊎◌, inl, inr, ℕ, zero, suc, ◌+◌, ◌<◌, List, [], ◌∷◌, ◌++◌, map, length, take, get_or, Some, refl, sym, ap, ◌∙◌, subst, arith}
use Rattle.std.specs.Prelude.{slice_get}
use Rattle.std.proofs.lemmas.Option.{slice_get_within}
use Rattle.ac_syntax.specs.declared.tree.Pair.{Pair}
use Rattle.ac_syntax.specs.declared.tree.Position.{Position}
use Rattle.ac_forms.specs.ListMembers.{IsAmong}
use Rattle.ac_graph.specs.PairMoves.{AreDistinct, pairing_of}
use Rattle.ac_claims_paths.specs.ModelCalls.{pairing}
use Rattle.ac_claims_paths.specs.declared.path.Programs.{Programs}
use Rattle.ac_widen.specs.Combinations.{Each}
use Rattle.ac_widen.specs.declared.derivation.Entry.{Entry}
use Rattle.ac_widen.proofs.Deriving.{each_append}
use Rattle.ac_widen_programs.specs.DerivationEntries.{entries_of}
use Rattle.ac_walk_state.specs.RecurrencePairs.{WideningPointOf, positions}
use Rattle.ac_walk_state.specs.RecurrencePairInvariant.{IsWideningPoint}
use Rattle.ac_walk_state.specs.declared.template.Template.{Template}
use Rattle.ac_walk_state.specs.BrokenPathStarts.{AtEach}
use Rattle.ac_walk_state.specs.OrderKnowledge.{IsKnown, IsWide}
use Rattle.ac_walk_state.specs.FreshRecurrencePairs.{HaveWideningPoints, IsFresh}
use Rattle.ac_walk_state.specs.declared.begins.Begin.{Begin}
use Rattle.ac_walk_state.specs.declared.known.Known.{Known}
use Rattle.ac_walk_state.proofs.LastItems.{among_back, among_front, among_more, each_map, in_get, length_taken, map-append, next_item}

-- ---- one item more

-- the last item is at the last number
pub get_more : {A : Type 0} (xs : List A) (y : A) (i : ℕ) (x : A) → slice_get (xs ++ y ∷ []) i ≡ Some x → (slice_get xs i ≡ Some x) ⊎ ((i ≡ length xs) × (y ≡ x))
get_more [] y zero x e = inr (refl, cc)
get_more [] y (suc i) x e = absurd cc
get_more (z ∷ xs) y zero x e = inl e
get_more (z ∷ xs) y (suc i) x e = elim (get_more xs y i x e) [ inl h ↦ inl h | inr h ↦ inr (ap suc h.0, h.1) ]

pub distinct_more : (ps : List (Position × Position)) (p : Position × Position) → AreDistinct ps → ¬ (IsAmong p ps) → AreDistinct (ps ++ p ∷ [])
distinct_more ps p distinct none i j q e f = by (get_more ps p i q e) (get_more ps p j q f)
  where
    by : (slice_get ps i ≡ Some q) ⊎ ((i ≡ length ps) × (p ≡ q)) → (slice_get ps j ≡ Some q) ⊎ ((j ≡ length ps) × (p ≡ q)) → i ≡ j
    by (inl a) (inl b) = distinct i j q a b
    by (inl a) (inr b) = absurd (none (subst (λ (x : Position × Position). IsAmong x ps) (sym b.1) (in_get ps i q a)))
    by (inr a) (inl b) = absurd (none (subst (λ (x : Position × Position). IsAmong x ps) (sym a.1) (in_get ps j q b)))
    by (inr a) (inr b) = a.0 ∙ sym b.0

-- ---- widening points

pub no_keys : (programs : Programs) → HaveWideningPoints programs [] []
no_keys programs = record { fresh = tt; distinct = λ i j p e f. absurd cc; all = λ widening_point. ((λ k. k), (λ k. k)) }

-- the pair has a widening point already
pub keys_same : (programs : Programs) (pairs : List (Position × Position)) (widening_points : List WideningPointOf) (pair : Position × Position) → IsAmong pair (map positions widening_points) → HaveWideningPoints programs pairs widening_points → HaveWideningPoints programs (pairs ++ pair ∷ []) widening_points
keys_same programs pairs widening_points pair k h = record {
  fresh = h.fresh;
  distinct = h.distinct;
  all = λ widening_point. ((λ j. among_front pairs (pair ∷ []) widening_point ((h.all widening_point).0 j)), (λ j. elim (among_more widening_point pair pairs j) [ inl i ↦ (h.all widening_point).1 i | inr same ↦ subst (λ (x : Position × Position). IsAmong x (map positions widening_points)) (sym same) k ]));
}

pub keys_more : (programs : Programs) (pairs : List (Position × Position)) (widening_points new : List WideningPointOf) (pair : Position × Position) (widening_point : WideningPointOf) → ¬ (IsAmong pair (map positions widening_points)) → positions widening_point ≡ pair → IsFresh programs widening_point → new ≡ widening_points ++ widening_point ∷ []
    → HaveWideningPoints programs pairs widening_points → HaveWideningPoints programs (pairs ++ pair ∷ []) new
keys_more programs pairs widening_points new pair widening_point none is fresh e h =
    let all : map positions (widening_points ++ widening_point ∷ []) ≡ map positions widening_points ++ pair ∷ [] = map-append positions widening_points (widening_point ∷ []) ∙ ap (λ (x : Position × Position). map positions widening_points ++ x ∷ []) is in
    subst (HaveWideningPoints programs (pairs ++ pair ∷ [])) (sym e)
    (record {
      fresh = each_append (IsFresh programs) widening_points (widening_point ∷ []) h.fresh (fresh, tt);
      distinct = subst AreDistinct (sym all) (distinct_more (map positions widening_points) pair h.distinct none);
      all = λ k. (
        (λ j. elim (among_more k pair (map positions widening_points) (subst (IsAmong k) all j)) [ inl i ↦ among_front pairs (pair ∷ []) k ((h.all k).0 i) | inr same ↦ among_back pairs (pair ∷ []) k (inl same) ]),
        (λ j. subst (IsAmong k) (sym all) (elim (among_more k pair pairs j) [ inl i ↦ among_front (map positions widening_points) (pair ∷ []) k ((h.all k).1 i) | inr same ↦ among_back (map positions widening_points) (pair ∷ []) k (inl same) ])),
      );
    })

pub fresh_known : (programs : Programs) (pairs : List (Position × Position)) (known : Known) → HaveWideningPoints programs pairs known.widening_points.items → known.entries ≡ [] → (pair : Pair) (t : Template) → pairing_of pair ≡ pairing programs → IsKnown pair t known
fresh_known programs pairs known h none pair t same = record {
  widening_points = subst (λ (es : List Entry). Each (IsWideningPoint t (entries_of es)) known.widening_points.items) (sym none) (each_map (IsFresh programs) (IsWideningPoint t []) known.widening_points.items (λ k f. f.right t) h.fresh);
  widths = each_map (IsFresh programs) (IsWide pair) known.widening_points.items (λ k f. f.width pair same) h.fresh;
  distinct = h.distinct;
}

-- ---- paths

pub each_none : (P : List Entry → Begin → Type 0) (paths : List (List Entry)) → AtEach P paths []
each_none P paths k path begin e f = absurd cc

pub each_more : (P : List Entry → Begin → Type 0) (paths : List (List Entry)) (i : ℕ) (path : List Entry) (begins new : List Begin) (begin : Begin) → i < length paths → path ≡ get_or paths i path → length begins ≡ i → new ≡ begins ++ begin ∷ [] → P path begin
    → AtEach P (take i paths) begins → AtEach P (take (i + 1) paths) new
each_more P paths i path begins new begin l is many e here h k p b at bt =
    by (get_more (take i paths) path k p (subst (λ (ps : List (List Entry)). slice_get ps k ≡ Some p) (next_item paths i path l is) at)) (get_more begins begin k b (subst (λ (bs : List Begin). slice_get bs k ≡ Some b) e bt))
  where
    long : length (take i paths) ≡ i
    long = length_taken paths i l

    by : (slice_get (take i paths) k ≡ Some p) ⊎ ((k ≡ length (take i paths)) × (path ≡ p)) → (slice_get begins k ≡ Some b) ⊎ ((k ≡ length begins) × (begin ≡ b)) → P p b
    by (inl x) (inl y) = h k p b x y
    by (inl x) (inr y) = let w = slice_get_within (take i paths) k p x in let z = y.0 in absurd (omega (arith, w, z, long, many))
    by (inr x) (inl y) = let w = slice_get_within begins k b y in let z = x.0 in absurd (omega (arith, w, z, long, many))
    by (inr x) (inr y) = subst (λ (q : List Entry). P q b) x.1 (subst (P path) y.1 here)
