-- What is seen of the host's files and sink: how often they failed, and the writer of a sink.
use Rattle.std.specs.Prelude.{ℕ, List, take, Option, Result, Ok, Err, Vec}
use Rattle.std.specs.Io.KnownBytes.{Appends}
use Rattle.std.specs.declared.alloc.Global.{Global}
use Rattle.cg_io.specs.declared.files.FileFault.{FileFault}
use Rattle.cg_io.specs.declared.files.FileFault.TheVariants as file
use Rattle.cg_io.specs.declared.files.WriteFault.{WriteFault}
use Rattle.cg_io.specs.declared.files.WriteFault.TheVariants as write
use Rattle.cg_io.specs.declared.host.HostSink.{HostSink}
use Rattle.cg_base.specs.Counts.{raised}

-- how often a sink of the host has failed
abbrev pub faults_of_sink : {W : Type 0} → HostSink W → ℕ
faults_of_sink sink = sink.faults

-- the writer that it puts its pieces to
abbrev pub writer_of : {W : Type 0} → HostSink W → W
writer_of sink = sink.out

-- the count after a reading: raised exactly where it answered an error but want of memory
abbrev pub after_read : ℕ → Result (Vec ℕ Global) FileFault → ℕ
after_read count (Ok bytes) = count
after_read count (Err file.NoMemory) = count
after_read count (Err file.Missing) = raised count
after_read count (Err file.TooLong) = raised count
after_read count (Err file.Failed) = raised count

-- the count after a writing, in the same way
abbrev pub after_write : ℕ → Result (Unit {0}) WriteFault → ℕ
after_write count (Ok done) = count
after_write count (Err write.NoMemory) = count
after_write count (Err write.Failed) = raised count

-- what a writer is known to hold grew by a front of the piece
abbrev pub AppendsSome : Option (List ℕ) → Option (List ℕ) → List ℕ → Type 0
AppendsSome old new piece = (n : ℕ) × Appends old new (take n piece)
