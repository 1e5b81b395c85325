-- Files and a sink that are kept in memory.
use Rattle.std.specs.Prelude.{ℕ, List, Bool, ◌||◌, is_none, refl}
use Rattle.std.specs.Coded.{Coded, code_by, coded×, coded_list, coded_ℕ}
use Rattle.std.specs.FinMap.{get, code}
use Rattle.ac_port.specs.Contents.{Contents}
use Rattle.ac_port.specs.FakeCalls.{Calls, calls_code, is_listed}
use Rattle.ac_port.specs.Transcripts.{Read, read_code}

-- what the files hold, the calls of reads and writes on them, and what the reads handed out
pub record FilesInMemory : Type 0 where
  pub contents : Contents
  pub reads : Calls
  pub writes : Calls
  pub transcript : List Read

-- files are told apart by their four parts
abbrev pub files_code : Coded FilesInMemory
files_code =
    code_by (Contents × (Calls × (Calls × List Read))) (coded× (code (coded_list coded_ℕ) (coded_list coded_ℕ)) (coded× calls_code (coded× calls_code (coded_list read_code))))
    (λ f. (f.contents, (f.reads, (f.writes, f.transcript))))
    (λ p. record { contents = p.0; reads = p.1.0; writes = p.1.1.0; transcript = p.1.1.1 })
    (λ _. refl)

-- the next read of this name fails: it is listed, or no file has the name
abbrev pub read_fails : FilesInMemory → List ℕ → Bool
read_fails files name = is_listed files.reads || is_none (get files.contents name)

-- the bytes so far, and the puts
pub record SinkInMemory : Type 0 where
  pub bytes : List ℕ
  pub puts : Calls

-- sinks are told apart by their two parts
abbrev pub sink_code : Coded SinkInMemory
sink_code =
    code_by (List ℕ × Calls) (coded× (coded_list coded_ℕ) calls_code)
    (λ s. (s.bytes, s.puts))
    (λ p. record { bytes = p.0; puts = p.1 })
    (λ _. refl)
