-- Transcripts of reads: what files were asked for, and what they handed out.
use Rattle.std.specs.Prelude.{◌≡◌, ◌==◌, ℕ, List, [], Option, None, Some, Result, Ok, Err, cond, refl}
use Rattle.std.specs.Coded.{Coded, code_by, coded×, coded_list, coded_option, coded_ℕ}
use Rattle.std.proofs.Common.{ap}
use Rattle.ac_port.specs.declared.files.ReadStop.{ReadStop}
use Rattle.ac_port.specs.declared.files.ReadStop.TheVariants.{Failed, TooBig, Memory}

-- what a read handed out: bytes; or nothing, as it failed, as there are more bytes than were asked for, or for want of memory
pub data Handed : Type 0 where
  handed_out : List ℕ → Handed
  read_failed : Handed
  was_too_big : Handed
  lacked_memory : Handed

-- a read: of which file, from which place of it or the whole, of how many bytes at most, and what it handed out
pub record Read : Type 0 where
  pub name : List ℕ
  pub from : Option ℕ
  pub limit : ℕ
  pub handed : Handed

-- a read of a whole file
abbrev pub whole_read : (name : List ℕ) (limit : ℕ) → Handed → Read
whole_read name limit handed = record { name = name; from = None; limit = limit; handed = handed }

-- a read of the part of a file from a place on
abbrev pub part_read : (name : List ℕ) (from limit : ℕ) → Handed → Read
part_read name from limit handed = record { name = name; from = Some from; limit = limit; handed = handed }

-- a read that stopped for this cause
abbrev pub stopped : ReadStop → Handed
stopped Failed = read_failed
stopped TooBig = was_too_big
stopped (Memory error) = lacked_memory

-- what an answer hands out: its bytes, or nothing
abbrev pub handed_of : {T : Type 0} → Result T ReadStop → (T → List ℕ) → Handed
handed_of (Ok found) bytes_of = handed_out (bytes_of found)
handed_of (Err stop) bytes_of = stopped stop

abbrev parts_of : Handed → List ℕ × ℕ
parts_of (handed_out bytes) = (bytes, 0)
parts_of read_failed = ([], 1)
parts_of was_too_big = ([], 2)
parts_of lacked_memory = ([], 3)

abbrev of_parts : List ℕ × ℕ → Handed
of_parts p = cond (p.1 == 0) (handed_out p.0) (cond (p.1 == 1) read_failed (cond (p.1 == 2) was_too_big lacked_memory))

pub handed_back : (h : Handed) → of_parts (parts_of h) ≡ h
handed_back (handed_out bytes) = refl
handed_back read_failed = refl
handed_back was_too_big = refl
handed_back lacked_memory = refl

abbrev with_handed : Read → Handed → Read
with_handed r h = record r { handed = h }

-- reads are told apart by their parts
abbrev pub read_code : Coded Read
read_code =
    code_by (List ℕ × (Option ℕ × (ℕ × (List ℕ × ℕ)))) (coded× (coded_list coded_ℕ) (coded× (coded_option coded_ℕ) (coded× coded_ℕ (coded× (coded_list coded_ℕ) coded_ℕ))))
    (λ r. (r.name, (r.from, (r.limit, parts_of r.handed))))
    (λ p. record { name = p.0; from = p.1.0; limit = p.1.1.0; handed = of_parts p.1.1.1 })
    (λ r. ap (with_handed r) (handed_back r.handed))
