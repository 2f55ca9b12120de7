use Rattle.std.proofs.KnownBytes.{Keeps-refl}
use Rattle.counted_io.specs.Limits.Laws.{read_none}
use Rattle.hierfile.specs.Fault.{cut}
use Rattle.hierfile.proofs.FaultsOfParts.{cut_short}
use Rattle.hierfile.proofs.PartAfterPart.{hands_back, read_failed}
use Rattle.hierfile.proofs.byte_reader.ByteReader.need.Goals as goal

pub returns-then-self-count-clause-reads : goal.returns-then-self-count-clause-reads
returns-then-self-count-clause-reads g c = record { bytes = Keeps-refl _; calls = read_none g.R.StepRead.step c.args.self.now.left c.args.reader.now; fits = λ fits. fits }

pub returns-in_err-fill-clause-reads : goal.returns-in_err-fill-clause-reads
returns-in_err-fill-clause-reads g c = hands_back c.from_residual.result _ _ _ c.from_residual.ensures.1 (read_failed g.R.StepRead.step g.R.Read.remaining (cut c.args.count) c.args.count (λ came less. cut_short c.args.count came less) c.in_err-fill.ensures.reads)
