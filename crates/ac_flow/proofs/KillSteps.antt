-- What the loops over kills keep.
use Rattle.std.proofs.Common.{◌≡◌, ◌⊎◌, inl, inr, ℕ, zero, suc, ◌+◌, ◌<◌, ◌≤◌, List, [], ◌∷◌, ◌++◌, map, take, length, get_or, refl, sym, ap, ◌∙◌, subst, arith, append_assoc, append-nil}
use Rattle.std.specs.declared.alloc.AllocError.{AllocError}
use Rattle.std.proofs.lemmas.List.{map-append, take_more, take_all, length-take-le}
use Rattle.ac_forms.specs.declared.conj.Conj.{Conj}
use Rattle.ac_omega.specs.declared.piece.Piece.{Piece}
use Rattle.ac_poly.specs.declared.types.Model.{Model}
use Rattle.ac_claims.specs.declared.types.Kill.{Kill}
use Rattle.ac_flow.specs.declared.cut.CutStop.{CutStop}
use Rattle.ac_flow.specs.declared.cut.CutStop.TheVariants.{Memory}
use Rattle.ac_forms.specs.ListMembers.{IsAmong}
use Rattle.ac_claims_paths.specs.declared.path.Assumed.{Assumed}
use Rattle.ac_claims_paths.specs.declared.path.CopyNumbers.{CopyNumbers}
use Rattle.ac_flow.specs.FlowCases.{IsFoundFor, AllFound, kill_of, kills_of}
use Rattle.ac_flow.specs.FlowStops.{UnformedStops, CopyOfStops, KillsStop}

pub in_at : {A : Type 0} (xs : List A) (i : ℕ) (x : A) → i < length xs → x ≡ get_or xs i x → IsAmong x xs
in_at [] i x l e = absurd (omega (arith, l))
in_at (y ∷ xs) zero x l e = inl e
in_at (y ∷ xs) (suc i) x l e = inr (in_at xs i x (omega (arith, l)) e)

-- ---- what is found

pub record FoundSoFar (budget : ℕ) (m : Model) (a : Assumed) (ws : List CopyNumbers) (i : ℕ) (ks : List (List Piece)) : Type 0 where
  pub value : AllFound budget m a (take i ws) ks

pub found_start : (budget : ℕ) (m : Model) (a : Assumed) (ws : List CopyNumbers) (ks : List (List Piece)) → ks ≡ [] → FoundSoFar budget m a ws 0 ks
found_start budget m a ws ks e = record { value = subst (AllFound budget m a []) (sym e) tt }

found_snoc : (budget : ℕ) (m : Model) (a : Assumed) (ws : List CopyNumbers) (w : CopyNumbers) (ks : List (List Piece)) (k : List Piece) → AllFound budget m a ws ks → IsFoundFor budget m a w k → AllFound budget m a (ws ++ w ∷ []) (ks ++ k ∷ [])
found_snoc budget m a [] w [] k h f = (f, tt)
found_snoc budget m a [] w (x ∷ ks) k h f = absurd h
found_snoc budget m a (v ∷ ws) w [] k h f = absurd h
found_snoc budget m a (v ∷ ws) w (x ∷ ks) k h f = (h.0, found_snoc budget m a ws w ks k h.1 f)

pub found_next : (budget : ℕ) (m : Model) (a : Assumed) (ws : List CopyNumbers) (i : ℕ) (d : CopyNumbers) (ks new : List (List Piece)) (k : List Piece) → FoundSoFar budget m a ws i ks → i < length ws → IsFoundFor budget m a (get_or ws i d) k → new ≡ ks ++ k ∷ []
    → FoundSoFar budget m a ws (i + 1) new
found_next budget m a ws i d ks new k h l f n = record {
  value = subst (AllFound budget m a (take (i + 1) ws)) (sym n) (subst (λ (vs : List CopyNumbers). AllFound budget m a vs (ks ++ k ∷ [])) (sym (take_more ws i d l)) (found_snoc budget m a (take i ws) (get_or ws i d) ks k h.value f));
}

pub found_end : (budget : ℕ) (m : Model) (a : Assumed) (ws : List CopyNumbers) (i : ℕ) (ks : List (List Piece)) → FoundSoFar budget m a ws i ks → length ws ≤ i → AllFound budget m a ws ks
found_end budget m a ws i ks h l = subst (λ (vs : List CopyNumbers). AllFound budget m a vs ks) (take_all i ws l) h.value

pub in_get_or : (ws : List CopyNumbers) (i : ℕ) (d : CopyNumbers) → i < length ws → IsAmong (get_or ws i d) ws
in_get_or [] i d l = absurd (omega (arith, l))
in_get_or (w ∷ ws) zero d l = inl refl
in_get_or (w ∷ ws) (suc i) d l = inr (in_get_or ws i d (omega (arith, l)))

pub kills_stop : (budget : ℕ) (m : Model) (a : Assumed) (ws : List CopyNumbers) (i : ℕ) (d : CopyNumbers) (e : CutStop) → i < length ws → (UnformedStops m a (get_or ws i d) e ⊎ CopyOfStops budget m a (get_or ws i d) e) → KillsStop budget m a ws e
kills_stop budget m a ws i d e l s = record { writing = get_or ws i d; among = in_get_or ws i d l; stops = s }

some_in : (ws : List CopyNumbers) (i : ℕ) → i < length ws → (w : CopyNumbers) × IsAmong w ws
some_in [] i l = absurd (omega (arith, l))
some_in (w ∷ ws) i l = (w, inl refl)

pub kills_memory : (budget : ℕ) (m : Model) (a : Assumed) (ws : List CopyNumbers) (i : ℕ) (e : AllocError) → i < length ws → KillsStop budget m a ws (Memory e)
kills_memory budget m a ws i e l = let w = some_in ws i l in record { writing = w.0; among = w.1; stops = inl tt }

pub ruleset all_steps = (found_start, found_next, found_end, kills_stop, kills_memory)

pub found_length : (budget : ℕ) (m : Model) (a : Assumed) (ws : List CopyNumbers) (ks : List (List Piece)) → AllFound budget m a ws ks → length ws ≡ length ks
found_length budget m a [] [] h = refl
found_length budget m a [] (k ∷ ks) h = absurd h
found_length budget m a (w ∷ ws) [] h = absurd h
found_length budget m a (w ∷ ws) (k ∷ ks) h = ap suc (found_length budget m a ws ks h.1)

-- ---- the kills of a copy

pub record Pushed (columns : ℕ) (w : CopyNumbers) (found : List Piece) (old : List (Conj × Kill)) (i : ℕ) (out : List (Conj × Kill)) : Type 0 where
  pub value : out ≡ old ++ map (kill_of columns w) (take i found)

pub pushed_start : (columns : ℕ) (w : CopyNumbers) (found : List Piece) (old : List (Conj × Kill)) → Pushed columns w found old 0 old
pushed_start columns w found old = record { value = sym (append-nil old) }

pub pushed_next : (columns : ℕ) (w : CopyNumbers) (found : List Piece) (old out new : List (Conj × Kill)) (i : ℕ) (x : Piece) (k : Conj × Kill) → Pushed columns w found old i out → i < length found → x ≡ get_or found i x → k ≡ kill_of columns w x → new ≡ out ++ k ∷ [] → Pushed columns w found old (i + 1) new
pushed_next columns w found old out new i x k h l e f n = record {
  value = n ∙ (λ j. h.value j ++ f j ∷ []) ∙ append_assoc old (map (kill_of columns w) (take i found)) (kill_of columns w x ∷ []) ∙ ap (λ z. old ++ z) (sym (map-append (kill_of columns w) (take i found) (x ∷ [])))
      ∙ ap (λ z. old ++ map (kill_of columns w) z) (sym (rw e (take_more found i x l)));
}

pub pushed_end : (columns : ℕ) (w : CopyNumbers) (found : List Piece) (old out : List (Conj × Kill)) (i : ℕ) → Pushed columns w found old i out → length found ≤ i → out ≡ old ++ map (kill_of columns w) found
pushed_end columns w found old out i h l = h.value ∙ ap (λ z. old ++ map (kill_of columns w) z) (take_all i found l)

pub ruleset push_steps = (pushed_start, pushed_next, pushed_end)

-- ---- the kills of all copies

pub record Listed (columns : ℕ) (ws : List CopyNumbers) (ks : List (List Piece)) (i : ℕ) (out : List (Conj × Kill)) : Type 0 where
  pub value : out ≡ kills_of columns (take i ws) (take i ks)

pub listed_start : (columns : ℕ) (ws : List CopyNumbers) (ks : List (List Piece)) (out : List (Conj × Kill)) → out ≡ [] → Listed columns ws ks 0 out
listed_start columns ws ks out e = record { value = e }

kills_snoc : (columns : ℕ) (ws : List CopyNumbers) (w : CopyNumbers) (ks : List (List Piece)) (k : List Piece) → length ws ≡ length ks → kills_of columns (ws ++ w ∷ []) (ks ++ k ∷ []) ≡ kills_of columns ws ks ++ map (kill_of columns w) k
kills_snoc columns [] w [] k e = append-nil (map (kill_of columns w) k)
kills_snoc columns [] w (x ∷ ks) k e = absurd (omega (arith, e))
kills_snoc columns (v ∷ ws) w [] k e = absurd (omega (arith, e))
kills_snoc columns (v ∷ ws) w (x ∷ ks) k e =
    ap (λ z. map (kill_of columns v) x ++ z) (kills_snoc columns ws w ks k (omega (arith, e))) ∙ sym (append_assoc (map (kill_of columns v) x) (kills_of columns ws ks) (map (kill_of columns w) k))

pub listed_next : (columns : ℕ) (ws : List CopyNumbers) (ks : List (List Piece)) (i : ℕ) (d : CopyNumbers) (k given : List Piece) (out new : List (Conj × Kill)) → Listed columns ws ks i out → length ws ≡ length ks → i < length ws → k ≡ get_or ks i k → given ≡ k
    → new ≡ out ++ map (kill_of columns (get_or ws i d)) given → Listed columns ws ks (i + 1) new
listed_next columns ws ks i d k given out new h len l f g n = record {
  value = n ∙ (λ j. h.value j ++ map (kill_of columns (get_or ws i d)) (g j)) ∙ sym (kills_snoc columns (take i ws) (get_or ws i d) (take i ks) k (length-take-le i ws (omega (arith, l)) ∙ sym (length-take-le i ks (omega (arith, l, len)))))
      ∙ (λ j. kills_of columns (here j) (there j));
}
  where
    here : take i ws ++ get_or ws i d ∷ [] ≡ take (i + 1) ws
    here = sym (take_more ws i d l)

    there : take i ks ++ k ∷ [] ≡ take (i + 1) ks
    there = let m : i < length ks = omega (arith, l, len) in sym (rw f (take_more ks i k m))

pub listed_end : (columns : ℕ) (ws : List CopyNumbers) (ks : List (List Piece)) (i : ℕ) (out : List (Conj × Kill)) → Listed columns ws ks i out → length ws ≡ length ks → length ws ≤ i → out ≡ kills_of columns ws ks
listed_end columns ws ks i out h len l = h.value ∙ (λ j. kills_of columns (take_all i ws l j) (take_all i ks (let m : length ks ≤ i = omega (arith, l, len) in m) j))

pub ruleset list_steps = (listed_start, listed_next, listed_end)
