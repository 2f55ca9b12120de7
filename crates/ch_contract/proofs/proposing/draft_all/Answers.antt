use Rattle.std.proofs.Common.{List, Contains, ap, sym, subst, ◌∙◌, arith}
use Rattle.std.proofs.lemmas.Result.{err_from_is_err_and}
use Rattle.std.proofs.lemmas.Grind.{common_steps}
use Rattle.ch_laws.specs.declared.entry.Entry.{Entry}
use Rattle.ch_laws.specs.Members.{contains_place}
use Rattle.ch_laws.specs.Rows.{Row}
use Rattle.ch_witness.specs.Kept.{kept_of, finds_unless}
use Rattle.ch_contract.specs.Drafts.{IsDraftedFrom}
use Rattle.ch_contract.proofs.DraftOfNeighbours.{drafted_none, next_drafted, names_moved}
use Rattle.ch_contract.proofs.proposing.draft_all.Goals as goal

pub inns-init : goal.inns-init
inns-init g c =
    record {
      draft = drafted_none c.args.task.bound c.args.task.node c.args.row.now (kept_of c.read_neighbours.new.rows) c.args.draft.now c.requires.begun;
      read = c.in_ok-read_neighbours.ensures.read;
      names = c.in_ok-read_neighbours.ensures.found;
    }

pub draft_pairs-requires-clause-bound : goal.draft_pairs-requires-clause-bound
draft_pairs-requires-clause-bound g c = c.requires.bound ∙ sym (g.met.S.RowSource.same_bound c.args.source.now c.inns.source c.inns.invariant.read.stays)

pub draft_pairs-requires-clause-among : goal.draft_pairs-requires-clause-among
draft_pairs-requires-clause-among g c =
    let inns = c.inn-into-items.ensures in
    subst (λ (es : List Entry). Contains es c.into-item.result) inns (contains_place c.inn-into-items.result.now c.inns.into-index c.into-item.result c.into-item.result c.inns-test.true (sym c.into-item.is))

pub draft_pairs-requires-clause-kept : goal.draft_pairs-requires-clause-kept
draft_pairs-requires-clause-kept g c = c.inns.invariant.read.kept

pub inns-preserved : goal.inns-preserved
inns-preserved g c =
    let inns = c.inn-into-items.ensures in
    let inv = c.inns.invariant in
    let step = c.in_ok-draft_pairs.ensures in
    record {
      draft = next_drafted c.args.task.bound c.args.task.node c.args.row.now c.inn-into-items.result.now inns c.requires.inn_rises c.inns.into-index _ c.inns-test.true
          (kept_of c.inns.desk.searcher.rows) (kept_of c.draft_pairs.new.desk.searcher.rows) c.inns.draft c.draft_pairs.new.draft step.read.more inv.draft
          (subst (λ (e : Entry). IsDraftedFrom c.args.task.bound c.args.task.node c.args.row.now e
          (kept_of c.draft_pairs.new.desk.searcher.rows) c.inns.draft c.draft_pairs.new.draft) c.into-item.is step.draft);
      read = record {
        kept = step.read.kept;
        more = λ x s is. step.read.more x s (inv.read.more x s is);
        stays = g.met.S.RowSource.stays_more c.args.source.now c.inns.source c.draft_pairs.new.source inv.read.stays step.read.stays;
      };
      names = λ named names. step.found (inv.names named names) (names_moved _ _ c.args.row.now (λ v h. g.met.S.RowSource.still_whole c.args.source.now c.inns.source v inv.read.stays h) names);
    }

pub returns-in_err-read_neighbours-clause-read : goal.returns-in_err-read_neighbours-clause-read
returns-in_err-read_neighbours-clause-read g c = c.in_err-read_neighbours.ensures.read

pub returns-in_err-read_neighbours-clause-found : goal.returns-in_err-read_neighbours-clause-found
returns-in_err-read_neighbours-clause-found g c = λ named names.
    let p = err_from_is_err_and c.from_residual.result c.from_residual.ensures.1 in
    finds_unless _ _ _ _ p.0 p.1 (λ unseen. c.in_err-read_neighbours.ensures.found named names (p.2.0 unseen))

pub returns-in_err-draft_pairs-clause-read : goal.returns-in_err-draft_pairs-clause-read
returns-in_err-draft_pairs-clause-read g c =
    let inv = c.inns.invariant in
    let step = c.in_err-draft_pairs.ensures.read in
    record {
      kept = step.kept;
      more = λ x s is. step.more x s (inv.read.more x s is);
      stays = g.met.S.RowSource.stays_more c.args.source.now c.inns.source c.draft_pairs.new.source inv.read.stays step.stays;
    }

pub returns-in_err-draft_pairs-clause-found : goal.returns-in_err-draft_pairs-clause-found
returns-in_err-draft_pairs-clause-found g c = λ named names.
    let inv = c.inns.invariant in
    let p = err_from_is_err_and c.from_residual-in_err-draft_pairs.result c.from_residual-in_err-draft_pairs.ensures.1 in
    let same = p.2 in
    let other = c.in_err-draft_pairs.ensures.found (inv.names named names) (names_moved _ _ c.args.row.now (λ v h. g.met.S.RowSource.still_whole c.args.source.now c.inns.source v inv.read.stays h) names) in
    finds_unless _ _ _ _ p.0 p.1 (λ unseen. other (cc (same, unseen)))

pub returns-clause-read : goal.returns-clause-read
returns-clause-read g c = c.inns.invariant.read

pub returns-clause-found : goal.returns-clause-found
returns-clause-found g c = c.inns.invariant.names

pub bounds-into-items-into-index : goal.bounds-into-items-into-index
bounds-into-items-into-index c = grind (arith, common_steps) steps 200000

pub draft_pairs-requires-clause-inn_rises : goal.draft_pairs-requires-clause-inn_rises
draft_pairs-requires-clause-inn_rises c = grind (arith, common_steps) steps 200000

pub draft_pairs-requires-clause-out_rises : goal.draft_pairs-requires-clause-out_rises
draft_pairs-requires-clause-out_rises c = grind (arith, common_steps) steps 200000

pub inns-smaller : goal.inns-smaller
inns-smaller c = grind (arith, common_steps) steps 200000

pub returns-clause-draft : goal.returns-clause-draft
returns-clause-draft c = grind (arith, common_steps)
