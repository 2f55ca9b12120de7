use Rattle.std.proofs.KnownBytes.{Keeps-refl}
use Rattle.counted_io.specs.Limits.Laws.{read_none}
use Rattle.hierfile.proofs.byte_reader.ByteReader.has.Goals as goal

pub returns-then-self-count-clause-reads : goal.returns-then-self-count-clause-reads
returns-then-self-count-clause-reads g c = record { bytes = Keeps-refl _; calls = read_none g.R.StepRead.step c.args.self.now.left c.args.reader.now; fits = λ fits. fits }
