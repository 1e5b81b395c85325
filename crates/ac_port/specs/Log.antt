-- A log of files, the newest first.
use Rattle.std.specs.Prelude.{ℕ, List, map}
use Rattle.std.specs.FinMap.{from_entries}
use Rattle.ac_port.specs.Contents.{Contents}
use Rattle.ac_port.specs.declared.mem_files.Entry.{Entry}

-- a name and its bytes
abbrev pub named_bytes : Entry → List ℕ × List ℕ
named_bytes entry = (entry.name.items, entry.bytes.items)

-- what the log says that each name holds: the bytes of its newest entry
abbrev pub contents_of : List Entry → Contents
contents_of log = from_entries (map named_bytes log)
