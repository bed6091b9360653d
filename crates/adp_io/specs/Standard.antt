-- What contracts see of the adapters over std's readers and writers.
use Rattle.std.specs.Prelude.{ℕ}
use Rattle.adp_io.specs.declared.standard.StdSource.{StdSource}
use Rattle.adp_io.specs.declared.standard.StdSink.{StdSink}

-- the reader under a source
abbrev pub source_reader : {R : Type 0} → StdSource R → R
source_reader source = source.reader

-- how many errors the reader has answered
abbrev pub source_faults : {R : Type 0} → StdSource R → ℕ
source_faults source = source.faults

-- the writer under a sink
abbrev pub sink_writer : {W : Type 0} → StdSink W → W
sink_writer sink = sink.writer

-- how many errors the writer has answered, and how often it took nothing
abbrev pub sink_faults : {W : Type 0} → StdSink W → ℕ
sink_faults sink = sink.faults
