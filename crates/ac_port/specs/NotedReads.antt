-- A read of the program, as a transcript has it.
use Rattle.ac_port.specs.Transcripts.{Read, handed_of}
use Rattle.ac_port.specs.declared.transcript.FileRead.{FileRead}

abbrev pub read_of : FileRead → Read
read_of read = record { name = read.name.now; from = read.from; limit = read.limit; handed = handed_of read.handed (λ bytes. bytes.now) }
