use Rattle.std.proofs.Common.{ℕ, ◌≡◌, List, [], length, Option, Result, Ok, Err, refl, ap, subst, arith, inl, IfSome, IsErrAnd, min}
use Rattle.std.specs.declared.io.Error.{Error}
use Rattle.counted_io.specs.Limits.{IsRead, ReadsWithin}
use Rattle.counted_io.specs.Limits.Laws.{read_none, read_then}
use Rattle.counted_io.specs.declared.TheConstants.{MOST_CALLS}
use Rattle.ch_graph.specs.Hierarchy.{Hierarchy}
use Rattle.hierfile.specs.Spelling.{bytes_of}
use Rattle.hierfile.specs.Fault.{magic_fault, head_fault, body_fault, first_fault}
use Rattle.hierfile.specs.Bytes.{Buffered, ButReadAhead, Fits, HasNoneButHalves, HasNoneSoFar, IsFaultOf, StopsWhere, coming}
use Rattle.hierfile.specs.Reading.{IsRefused, ReadsFile, Refuses}
use Rattle.hierfile.specs.declared.error.HierError.{HierError}
use Rattle.hierfile.specs.declared.error.HierError.TheVariants.{OutOfMemory, Read}
use Rattle.hierfile.proofs.PartAfterPart.{fault_so_far, no_memory, refused_behind, runs_out, takes_none, takes_then}
use Rattle.hierfile.proofs.FaultlessIsWellMade.{first_but_halves, first_so_far, first_magic, first_head, first_body, nothing_waits, spelled_whole}
use Rattle.hierfile.proofs.reading.read_within.Goals as goal

-- from the start on, where nothing waits and this many calls may be made
module _ {S : Type 0} (step : S → S → Result ℕ Error → Type 0) (remaining : S → Option (List ℕ)) (start : Buffered) (most : ℕ) (begins : start ≡ record { waiting = []; left = most }) where
  abbrev left : start.left ≡ most
  left = ap (λ (b : Buffered). b.left) begins

  abbrev known : (from : S) → coming start.waiting (remaining from) ≡ remaining from
  known from = nothing_waits start.waiting (remaining from) (ap (λ (b : Buffered). b.waiting) begins)

  -- a hierarchy was read
  whole : {from to : S} (after : ℕ) (h : Hierarchy) → IfSome (coming start.waiting (remaining from)) (λ bytes. bytes ≡ bytes_of h) → IsRead step start.left after from to → ReadsFile step remaining most from to (Ok h)
  whole {from} {to} after h spelled calls = record {
    ok = subst (λ o. IfSome o (λ bytes. bytes ≡ bytes_of h)) (known from) spelled;
    calls = (after, subst (λ n. IsRead step n after from to) left calls);
    err = tt;
    so_far = tt;
    memory = tt;
    stopped = tt;
  }

  -- or the file was refused
  refused : {from to : S} (r : Result Hierarchy HierError) (e : HierError) → IsErrAnd r (λ d. d ≡ e)
      → IsRefused step remaining start from to (Refuses first_fault (HasNoneSoFar first_fault) (HasNoneButHalves first_fault)) e → ReadsFile step remaining most from to r
  refused {from} {to} (Ok h) e is k = absurd is
  refused {from} {to} (Err d) e is k =
      let same : d ≡ e = is in
      let few : Fits start = omega (arith, ap (λ (b : Buffered). length b.waiting) begins) in
      rw same (record {
        ok = tt;
        calls = tt;
        err = subst (λ o. IsFaultOf first_fault o e) (known from) k.fault.told;
        so_far = λ read. subst (λ o. StopsWhere (HasNoneSoFar first_fault) o (remaining to)) (known from) (k.fault.read read);
        memory = λ memory. subst (λ o. StopsWhere (ButReadAhead (HasNoneButHalves first_fault)) o (remaining to)) (known from) (k.fault.memory memory few);
        stopped = subst (λ n. ReadsWithin step n (e ≡ Read) from to) left k.calls;
      })

pub returns-in_err-input : goal.returns-in_err-input
returns-in_err-input g c =
    let step = g.R.StepRead.step in
    let remaining = g.R.Read.remaining in
    let reader = c.args.reader.now in
    let start : Buffered = record { waiting = []; left = min c.args.calls MOST_CALLS } in
    record {
      reads = refused step remaining start _ refl c.from_residual.result OutOfMemory c.from_residual.ensures.1
          (no_memory step remaining first_fault (read_none step start.left reader)
          (runs_out step remaining (HasNoneButHalves first_fault) (takes_none step remaining start reader) (inl (inl (first_magic [] refl)))));
    }

pub returns-in_err-version : goal.returns-in_err-version
returns-in_err-version g c =
    let step = g.R.StepRead.step in
    let remaining = g.R.Read.remaining in
    let start = c.in_ok-input.input in
    record {
      reads = refused step remaining start _ c.in_ok-input.ensures c.from_residual-in_err-version.result _ c.from_residual-in_err-version.ensures.1
          (fault_so_far step remaining magic_fault first_fault (takes_none step remaining start c.args.reader.now) (λ d rest is. first_magic rest is) (λ came is. inl (inl (first_magic came is))) c.in_err-version.ensures.reads);
    }

pub returns-in_err-head : goal.returns-in_err-head
returns-in_err-head g c =
    let step = g.R.StepRead.step in
    let remaining = g.R.Read.remaining in
    let version = c.in_ok-version.version in
    record {
      reads = refused step remaining c.in_ok-input.input _ c.in_ok-input.ensures c.from_residual-in_err-head.result _ c.from_residual-in_err-head.ensures.1
          (fault_so_far step remaining head_fault first_fault c.in_ok-version.ensures.reads (λ d rest is. first_head version rest is) (λ came is. inl (inl (first_head version came is))) c.in_err-head.ensures.reads);
    }

pub returns-in_err-hierarchy : goal.returns-in_err-hierarchy
returns-in_err-hierarchy g c =
    let step = g.R.StepRead.step in
    let remaining = g.R.Read.remaining in
    let head = c.in_ok-head.head in
    let version = c.in_ok-version.version in
    let so_far = takes_then step remaining c.in_ok-version.ensures.reads c.in_ok-head.ensures.reads in
    record {
      reads = refused step remaining c.in_ok-input.input _ c.in_ok-input.ensures c.from_residual-in_err-hierarchy.result _ c.from_residual-in_err-hierarchy.ensures.1
          (refused_behind step remaining (body_fault version head.nodes head.links head.bound) first_fault so_far
          (λ d rest is. first_body version head.nodes head.links head.bound rest (omega arith) (omega arith) (omega arith) c.in_ok-head.ensures.sizes is)
          (λ came is. first_so_far version head.nodes head.links head.bound came (omega arith) (omega arith) (omega arith) c.in_ok-head.ensures.sizes is)
          (λ came is. first_but_halves version head.nodes head.links head.bound came (omega arith) (omega arith) (omega arith) c.in_ok-head.ensures.sizes is)
          c.in_err-hierarchy.ensures.reads);
    }

pub returns : goal.returns
returns g c =
    let step = g.R.StepRead.step in
    let remaining = g.R.Read.remaining in
    let head = c.in_ok-head.head in
    let read = c.in_ok-hierarchy.ensures in
    let so_far = takes_then step remaining c.in_ok-version.ensures.reads c.in_ok-head.ensures.reads in
    record {
      reads = whole step remaining c.in_ok-input.input _ c.in_ok-input.ensures c.read_body.new.input.left c.in_ok-hierarchy.hierarchy
          (spelled_whole c.in_ok-version.version head.nodes head.links head.bound _ _ _ so_far.bytes read.sizes read.reads.bytes) (read_then step so_far.calls read.reads.calls);
    }
