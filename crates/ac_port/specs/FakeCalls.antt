-- The calls of one kind on a fake: which is the next, which of them are to fail, and how many have failed.
use Rattle.std.specs.Prelude.{ℕ, List, Bool, cond, ◌==◌, refl}
use Rattle.std.specs.List.{list_any}
use Rattle.std.specs.Coded.{Coded, code_by, coded×, coded_list, coded_ℕ}
use Rattle.ac_port.specs.CallCounts.{one_more}

-- the number of the next call (from 0), the numbers of those that are to fail, and the faults so far
pub record Calls : Type 0 where
  pub next : ℕ
  pub failing : List ℕ
  pub faults : ℕ

-- calls are told apart by their three parts
abbrev pub calls_code : Coded Calls
calls_code =
    code_by (ℕ × (List ℕ × ℕ)) (coded× coded_ℕ (coded× (coded_list coded_ℕ) coded_ℕ))
    (λ c. (c.next, (c.failing, c.faults)))
    (λ p. record { next = p.0; failing = p.1.0; faults = p.1.1 })
    (λ _. refl)

-- the next call is one of those that are to fail
abbrev pub is_listed : Calls → Bool
is_listed calls = list_any (λ number. number == calls.next) calls.failing

-- what a call leaves: its number has passed, and there is one more fault where it failed
abbrev pub after_call : Bool → Calls → Calls
after_call failed calls = record calls { next = one_more calls.next; faults = cond failed (one_more calls.faults) calls.faults }
