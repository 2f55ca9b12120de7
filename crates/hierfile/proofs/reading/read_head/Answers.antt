use Rattle.std.proofs.Common.{[], ◌≡◌, ◌+◌, ◌++◌, ◌≤◌, ◌∙◌, length, Some, subst, arith, length-append}
use Rattle.hierfile.proofs.FaultsOfParts.{of_bytes, length-word, length-long, head_cut, head_fault-sizes, size_no_memory}
use Rattle.hierfile.proofs.PartAfterPart.{fault_behind, fault_found, hands_back, takes_none, takes_then}
use Rattle.hierfile.specs.Spelling.{word, long}
use Rattle.hierfile.specs.Fault.{cut, head_fault, size_fault}
use Rattle.hierfile.specs.declared.error.HierError.{HierError}
use Rattle.hierfile.proofs.reading.read_head.Goals as goal

pub returns-in_err-word-clause-reads : goal.returns-in_err-word-clause-reads
returns-in_err-word-clause-reads g c =
    let step = g.R.StepRead.step in
    let remaining = g.R.Read.remaining in
    let short : 4 ≤ 20 = omega arith in
    hands_back c.from_residual.result _ _ _ c.from_residual.ensures.1 (fault_behind step remaining (cut 4) head_fault (takes_none step remaining c.args.input.now c.args.reader.now) (λ d rest is. head_cut 4 [] rest short is) c.in_err-word.ensures.reads)

pub returns-in_err-long-clause-reads : goal.returns-in_err-long-clause-reads
returns-in_err-long-clause-reads g c =
    let n = c.in_ok-word.field-0 in
    let front = word n in
    let short : length front + 8 ≤ 20 = omega (arith, length-word n) in
    hands_back c.from_residual-in_err-long.result _ _ _ c.from_residual-in_err-long.ensures.1 (fault_behind g.R.StepRead.step g.R.Read.remaining (cut 8) head_fault c.in_ok-word.ensures.reads (λ d rest is. head_cut 8 front rest short is) c.in_err-long.ensures.reads)

pub returns-in_err-long-2-clause-reads : goal.returns-in_err-long-2-clause-reads
returns-in_err-long-2-clause-reads g c =
    let step = g.R.StepRead.step in
    let remaining = g.R.Read.remaining in
    let n = c.in_ok-word.field-0 in
    let k = c.in_ok-long.field-0 in
    let front = word n ++ long k in
    let short : length front + 8 ≤ 20 = omega (arith, length-append (word n) (long k), length-word n, length-long k) in
    let so_far = takes_then step remaining c.in_ok-word.ensures.reads c.in_ok-long.ensures.reads in
    hands_back c.from_residual-in_err-long-2.result _ _ _ c.from_residual-in_err-long-2.ensures.1 (fault_behind step remaining (cut 8) head_fault so_far (λ d rest is. head_cut 8 front rest short is) c.in_err-long-2.ensures.reads)

pub returns-in_err-test_sizes-clause-reads : goal.returns-in_err-test_sizes-clause-reads
returns-in_err-test_sizes-clause-reads g c =
    let step = g.R.StepRead.step in
    let remaining = g.R.Read.remaining in
    let n = c.in_ok-word.field-0 in
    let k = c.in_ok-long.field-0 in
    let b = c.in_ok-long-2.field-0 in
    let so_far = takes_then step remaining (takes_then step remaining c.in_ok-word.ensures.reads c.in_ok-long.ensures.reads) c.in_ok-long-2.ensures.reads in
    hands_back c.from_residual-in_err-test_sizes.result _ _ _ c.from_residual-in_err-test_sizes.ensures.1
    (fault_found step remaining head_fault so_far (λ is rest. head_fault-sizes n k b rest (omega arith) (omega arith) (omega arith) ∙ is) (of_bytes _ c.in_err-test_sizes.ensures.told.0) c.in_err-test_sizes.ensures.told.1
    (λ memory. absurd (size_no_memory n k b (subst (λ (e : HierError). size_fault n k b ≡ Some e) memory c.in_err-test_sizes.ensures.told.0))))

pub returns-clause-reads : goal.returns-clause-reads
returns-clause-reads g c =
    let step = g.R.StepRead.step in
    let remaining = g.R.Read.remaining in
    takes_then step remaining (takes_then step remaining c.in_ok-word.ensures.reads c.in_ok-long.ensures.reads) c.in_ok-long-2.ensures.reads
