use Rattle.std.proofs.Common.{List, Contains, ap, sym, subst, ◌∙◌}
use Rattle.std.proofs.lemmas.Result.{err_from_is_err_and}
use Rattle.std.proofs.lemmas.List.Elements.{All-contains}
use Rattle.ch_laws.specs.declared.entry.Entry.{Entry}
use Rattle.ch_laws.specs.Members.{contains_place}
use Rattle.ch_laws.specs.Rows.{Row}
use Rattle.ch_witness.specs.Kept.{finds_unless}
use Rattle.ch_contract.proofs.proposing.read_neighbours.Goals as goal

pub inns-init : goal.inns-init
inns-init g c = record {
  read = record { kept = c.requires.kept; more = λ x s is. is; stays = g.met.S.RowSource.stays_self c.args.source.now };
  names = λ named names. named;
}

pub read-requires : goal.read-requires
read-requires g c = record { kept = c.inns.invariant.read.kept }

pub returns-in_err-read-clause-read : goal.returns-in_err-read-clause-read
returns-in_err-read-clause-read g c =
    let inv = c.inns.invariant.read in
    let step = c.in_err-read.ensures.read in
    record {
      kept = step.kept;
      more = λ x s is. step.more x s (inv.more x s is);
      stays = g.met.S.RowSource.stays_more c.args.source.now c.inns.source c.read.new.source inv.stays step.stays;
    }

pub returns-in_err-read-clause-found : goal.returns-in_err-read-clause-found
returns-in_err-read-clause-found g c = λ named names.
    let inv = c.inns.invariant in
    let inns = c.inn-into-items.ensures in
    let whole = All-contains (λ (x : Entry). g.S.RowSource.whole c.args.source.now x.other) c.args.row.now.inn c.into-item.result names.inn
    (subst (λ (es : List Entry). Contains es c.into-item.result) inns
    (contains_place c.inn-into-items.result.now c.inns.into-index c.into-item.result c.into-item.result c.inns-test.true
    (sym c.into-item.is))) in
    let p = err_from_is_err_and c.from_residual.result c.from_residual.ensures.1 in
    let same = p.2 in
    let other = c.in_err-read.ensures.found (inv.names named names) (g.met.S.RowSource.still_whole c.args.source.now c.inns.source c.into-item.result.other inv.read.stays whole) in
    finds_unless _ _ _ _ _ p.1 (λ unseen. other (cc (same, unseen)))

pub inns-preserved : goal.inns-preserved
inns-preserved g c =
    let inv = c.inns.invariant in
    let inns = c.inn-into-items.ensures in
    let step = c.in_ok-read.ensures in
    record {
      read = record {
        kept = step.read.kept;
        more = λ x s is. step.read.more x s (inv.read.more x s is);
        stays = g.met.S.RowSource.stays_more c.args.source.now c.inns.source c.read.new.source inv.read.stays step.read.stays;
      };
      names = λ named names.
          let whole = All-contains (λ (x : Entry). g.S.RowSource.whole c.args.source.now x.other) c.args.row.now.inn c.into-item.result names.inn
          (subst (λ (es : List Entry). Contains es c.into-item.result) inns
          (contains_place c.inn-into-items.result.now c.inns.into-index c.into-item.result c.into-item.result c.inns-test.true
          (sym c.into-item.is))) in
          step.found (inv.names named names) (g.met.S.RowSource.still_whole c.args.source.now c.inns.source c.into-item.result.other inv.read.stays whole);
    }

pub returns-clause-read : goal.returns-clause-read
returns-clause-read g c = c.inns.invariant.read

pub returns-clause-found : goal.returns-clause-found
returns-clause-found g c = c.inns.invariant.names
