-- What an unfolding asks against claims, it asks against the same claims in another order, and it reaches the same ends.
use Rattle.std.proofs.Common.{◌⊎◌, inl, inr, ℕ, List, Option, Some}
use Rattle.ac_forms.specs.ListMembers.{IsAmong}
use Rattle.ac_forms.specs.declared.conj.Conj.{Conj}
use Rattle.ac_forms.specs.declared.row.Row.{Row}
use Rattle.ac_claims_paths.specs.PathSteps.{Pairing}
use Rattle.ac_claims_paths.specs.declared.path.Path.{Path}
use Rattle.ac_claims_paths.specs.declared.path.Seat.{Seat}
use Rattle.ac_claims.specs.declared.types.Claim.{Claim}
use Rattle.ac_widen.specs.declared.derivation.Entry.{Entry}
use Rattle.ac_flow.specs.declared.types.Flow.{Flow}
use Rattle.ac_graph.specs.PairMoves.{pairing_of}
use Rattle.ac_widen_programs.specs.BrokenPaths.{HasNoClaim}
use Rattle.ac_widen_programs.specs.PairPaths.{Unfolding}
use Rattle.ac_unfold.specs.UnfoldQuestions.{AreTargets, GoesOn, IsAsked, IsAskedAt, IsFollowed, LacksNext}
use Rattle.ac_unfold.specs.FoundPaths.{IsFoundAt}
use Rattle.ac_unfold.specs.UnfoldCauses.{IsStopOf}
use Rattle.ac_unfold.specs.UnfoldEnds.{AreTooMany, EndsAtClaimed, EndsWithoutStep, IsWalked}
use Rattle.ac_unfold.specs.declared.types.UnfoldStop.{UnfoldStop}
use Rattle.ac_unfold.specs.declared.types.UnfoldStop.TheVariants as found
use Rattle.ac_walk.proofs.Lists.{all_map}
use Rattle.ac_walk.proofs.SameClaims.{none_there}

module _ (u : Unfolding) (left right : Flow) (cs ds : List Claim) (onto : (c : Claim) → IsAmong c cs → IsAmong c ds) (back : (c : Claim) → IsAmong c ds → IsAmong c cs) where
  goes_there : (q : Path) → GoesOn cs q → GoesOn ds q
  goes_there q h = λ gone c i l r. h gone c (back c i) l r

  followed_there : (pairs : List (Seat × Seat)) (q : Path) → IsFollowed u left right cs pairs q → IsFollowed u left right ds pairs q
  followed_there pairs q (IsFollowed.start i k q' e) = IsFollowed.start i k q' e
  followed_there pairs q (IsFollowed.call t q' b bs f g n e i) = IsFollowed.call t q' b bs (followed_there t q' f) (goes_there q' g) n e i
  followed_there pairs q (IsFollowed.read side t q' b d case r f g of i e) = IsFollowed.read side t q' b d case r (followed_there t q' f) (goes_there q' g) of i e
  followed_there pairs q (IsFollowed.cut side t q' b d case n r f g of k) = IsFollowed.cut side t q' b d case n r (followed_there t q' f) (goes_there q' g) of k

  targets_there : (g : Pairing) (q : Path) (rows : Option (List Row)) → AreTargets g cs q rows → AreTargets g ds q rows
  targets_there g q rows (AreTargets.claim c gone i l r) = AreTargets.claim c gone (onto c i) l r
  targets_there g q rows (AreTargets.numbers f h a b) = AreTargets.numbers f h a b
  targets_there g q rows (AreTargets.cells c d a b e k) = AreTargets.cells c d a b e k

  asked_at : (g : Pairing) (q : Path) (c : Conj) → IsAskedAt g cs q c → IsAskedAt g ds q c
  asked_at g q c (IsAskedAt.here e) = IsAskedAt.here e
  asked_at g q c (IsAskedAt.beside rows t b) = IsAskedAt.beside rows (targets_there g q (Some rows) t) b

  asked_there : (c : Conj) → IsAsked u left right cs c → IsAsked u left right ds c
  asked_there c a = record { pairs = a.pairs; path = a.path; followed = followed_there a.pairs a.path a.followed; at = asked_at (pairing_of u.pair) a.path c a.at }

  -- so is a path that it finds
  pub found_there : (path : List Entry) → IsFoundAt u left right cs path → IsFoundAt u left right ds path
  found_there path f = record {
    pairs = f.pairs;
    path = f.path;
    followed = followed_there f.pairs f.path f.followed;
    question = f.question;
    asked = asked_at (pairing_of u.pair) f.path f.question f.asked;
    point = f.point;
    there = f.there;
    are = f.are;
  }

  lacks_there : (q : Path) → LacksNext u left right cs q → LacksNext u left right ds q
  lacks_there q (LacksNext.target t q' rows f w l) = LacksNext.target t q' rows (followed_there t q' f) (targets_there (pairing_of u.pair) q' rows w) l
  lacks_there q (LacksNext.read t q' side f g r e) = LacksNext.read t q' side (followed_there t q' f) (goes_there q' g) r e
  lacks_there q (LacksNext.call t q' f g n w e) = LacksNext.call t q' (followed_there t q' f) (goes_there q' g) n w e
  lacks_there q (LacksNext.rest side t q' b case r f g of i e) = LacksNext.rest side t q' b case r (followed_there t q' f) (goes_there q' g) of i e
  lacks_there q (LacksNext.kill side t q' b d case n r k f g of c i l) = LacksNext.kill side t q' b d case n r k (followed_there t q' f) (goes_there q' g) of c i l

  ends_reached : (rest : List (Seat × Seat)) (q : Path) → EndsAtClaimed cs rest q ⊎ EndsWithoutStep u cs rest q → EndsAtClaimed ds rest q ⊎ EndsWithoutStep u ds rest q
  ends_reached rest q (inl h) = inl (record {
    between = h.between;
    rest_is = h.rest_is;
    free = all_map (HasNoClaim cs) (HasNoClaim ds) h.between (none_there u cs ds onto back) h.free;
    claim = h.claim;
    among = onto h.claim h.among;
    left_is = h.left_is;
    right_is = h.right_is;
  })
  ends_reached rest q (inr h) = inr (record { free = all_map (HasNoClaim cs) (HasNoClaim ds) rest (none_there u cs ds onto back) h.free; readers = h.readers; calls = h.calls })

  walked_there : (path : List Entry) → IsWalked u cs path → IsWalked u ds path
  walked_there path w = record { first = w.first; rest = w.rest; question = w.question; point = w.point; comes = w.comes; are = w.are; ends = ends_reached w.rest w.question w.ends }

  many_there : (paths : List (List Entry)) → AreTooMany u cs paths → AreTooMany u ds paths
  many_there paths h = record { walked = all_map (IsWalked u cs) (IsWalked u ds) paths walked_there h.walked; differ = h.differ; count = h.count }

  pub stops_of_same_claims : (budget : ℕ) (stop : UnfoldStop) → IsStopOf u left right cs budget stop → IsStopOf u left right ds budget stop
  stops_of_same_claims budget (found.Overflow question) (inl h) = inl (asked_there question h.0, h.1)
  stops_of_same_claims budget (found.Overflow question) (inr h) = inr (record { path = h.path; is = h.is; lacks = lacks_there h.path h.lacks })
  stops_of_same_claims budget (found.Spent question cost) h = (asked_there question h.0, h.1)
  stops_of_same_claims budget (found.Paths paths) h = many_there paths h
  stops_of_same_claims budget (found.Memory want) h = tt
