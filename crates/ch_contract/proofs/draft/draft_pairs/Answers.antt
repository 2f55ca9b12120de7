use Rattle.std.proofs.Common.{Bool, ◌≡◌, ◌^◌, List, [], ◌∷◌, length, true, false, refl, ap, sym, subst, ◌∙◌, arith}
use Rattle.std.proofs.lemmas.Bool.Decides.{nat_tests}
use Rattle.std.proofs.lemmas.Result.{err_from_is_err_and}
use Rattle.std.proofs.lemmas.List.Elements.{All-contains}
use Rattle.ch_cost.specs.declared.cost.Cost.{Cost}
use Rattle.ch_cost.specs.Cost.{IsWithin}
use Rattle.ch_laws.specs.declared.entry.Entry.{Entry}
use Rattle.ch_laws.specs.declared.shortcut.Shortcut.{Shortcut}
use Rattle.ch_laws.specs.Rows.{Row, Rises}
use Rattle.ch_overlay.specs.Overlay.{IsEntry}
use Rattle.ch_witness.specs.Kept.{kept_of, finds_unless}
use Rattle.ch_contract.specs.Listed.{LeadsOn}
use Rattle.ch_contract.specs.Drafts.{ArePairs}
use Rattle.ch_contract.proofs.ThroughResults.{finds_short, on_ok_too}
use Rattle.ch_contract.proofs.PairsBySearch.{drafted_search, idle_alone, idle_read, no_target, pair_through}
use Rattle.ch_contract.proofs.draft.draft_pairs.Goals as goal

not-true : (b : Bool) → b ≡ false → b ≡ true → ⊥
not-true b f t = cc

is-true : (b : Bool) → b ≡ true → b ≡ true
is-true b t = t

no-items : (xs : List Shortcut) → length xs ≡ 0 → xs ≡ []
no-items [] e = refl
no-items (x ∷ xs) e = absurd (omega (arith, e))

pub returns-then-not-leads_on-clause-draft : goal.returns-then-not-leads_on-clause-draft
returns-then-not-leads_on-clause-draft g c =
    let outs : c.out.result.now ≡ c.args.row.now.out = c.out.ensures in
    idle_alone c.args.task.bound c.args.task.node c.args.row.now c.args.into.now (kept_of c.args.desk.now.searcher.rows) c.args.draft.now (λ leads. not-true _ c.if-not-leads_on.true (c.leads_on.ensures.1 (subst (λ (es : List Entry). LeadsOn es c.args.into.now.other) (sym outs) leads)))

pub returns-then-not-leads_on-clause-read : goal.returns-then-not-leads_on-clause-read
returns-then-not-leads_on-clause-read g c = record {
  kept = c.requires.kept;
  more = λ x s is. is;
  stays = g.met.S.RowSource.stays_self c.args.source.now;
}

pub returns-then-not-leads_on-clause-found : goal.returns-then-not-leads_on-clause-found
returns-then-not-leads_on-clause-found g c = λ named names. named

pub read-requires : goal.read-requires
read-requires g c = record { kept = c.requires.kept }

pub returns-in_err-read-clause-read : goal.returns-in_err-read-clause-read
returns-in_err-read-clause-read g c = c.in_err-read.ensures.read

pub returns-in_err-read-clause-found : goal.returns-in_err-read-clause-found
returns-in_err-read-clause-found g c = λ named names.
    let whole = All-contains (λ (x : Entry). g.S.RowSource.whole c.args.source.now x.other) c.args.row.now.inn c.args.into.now names.inn c.requires.among in
    let p = err_from_is_err_and c.from_residual.result c.from_residual.ensures.1 in
    finds_unless _ _ _ _ p.0 p.1 (λ unseen. c.in_err-read.ensures.found named whole (p.2.0 unseen))

pub returns-in_err-push-clause-read : goal.returns-in_err-push-clause-read
returns-in_err-push-clause-read g c = c.in_ok-read.ensures.read

pub returns-in_err-push-clause-found : goal.returns-in_err-push-clause-found
returns-in_err-push-clause-found g c = λ named names.
    let p = err_from_is_err_and c.from_residual-in_err-push.result c.from_residual-in_err-push.ensures.1 in
    finds_short _ _ _ p.0 p.1 p.2

pub returns-in_err-find_pairs-clause-read : goal.returns-in_err-find_pairs-clause-read
returns-in_err-find_pairs-clause-read g c = c.in_ok-read.ensures.read

pub returns-in_err-find_pairs-clause-found : goal.returns-in_err-find_pairs-clause-found
returns-in_err-find_pairs-clause-found g c = λ named names.
    let p = err_from_is_err_and c.from_residual-in_err-find_pairs.result c.from_residual-in_err-find_pairs.ensures.1 in
    finds_short _ _ _ p.0 p.1 p.2

pub find_pairs-requires : goal.find_pairs-requires
find_pairs-requires g c = record { rises = subst Rises (sym (c.out-2.ensures)) c.requires.out_rises; limit = c.requires.limit }

pub returns-then-is_empty-clause-draft : goal.returns-then-is_empty-clause-draft
returns-then-is_empty-clause-draft g c =
    let long : length c.find_pairs.new.pairs.light.items ≡ 0 = grind (arith, nat_tests, c.is_empty.ensures, c.if-is_empty.true, c.find_pairs.new.pairs.light.ok) in
    let none = no-items c.find_pairs.new.pairs.light.items long in
    let first = c.in_ok-read.ensures.here in
    let outs : c.out.result.now ≡ c.args.row.now.out = c.out.ensures in
    idle_read c.args.task.bound c.args.task.node c.args.row.now c.args.into.now (kept_of c.read.new.self) first.seen first.kept c.args.draft.now _ c.requires.among c.requires.inn_rises c.requires.out_rises
    (subst (λ (es : List Entry). LeadsOn es c.args.into.now.other) outs (c.leads_on.ensures.0 (is-true _ c.if-not-leads_on.false)))
    (subst (λ (ps : List Shortcut). ArePairs c.args.task.bound c.args.into.now c.args.row.now.out ps) none
    (subst (λ (es : List Entry). ArePairs c.args.task.bound c.args.into.now es c.find_pairs.new.pairs.light.items)
    (c.out-2.ensures) c.in_ok-find_pairs.ensures.light))
    refl c.in_ok-push.ensures.items

pub returns-then-is_empty-clause-read : goal.returns-then-is_empty-clause-read
returns-then-is_empty-clause-read g c = c.in_ok-read.ensures.read

pub returns-then-is_empty-clause-found : goal.returns-then-is_empty-clause-found
returns-then-is_empty-clause-found g c = λ named names.
    let whole = All-contains (λ (x : Entry). g.S.RowSource.whole c.args.source.now x.other) c.args.row.now.inn c.args.into.now names.inn c.requires.among in
    c.in_ok-read.ensures.found named whole

pub judge_by_search-requires-clause-start : goal.judge_by_search-requires-clause-start
judge_by_search-requires-clause-start g c = (All-contains (IsEntry (2 ^ 25) c.args.task.bound c.args.task.node) c.args.row.now.inn c.args.into.now c.requires.entries.inn c.requires.among).apart

pub judge_by_search-requires-clause-avoided : goal.judge_by_search-requires-clause-avoided
judge_by_search-requires-clause-avoided g c = no_target c.args.task.bound c.args.task.node c.args.row.now c.args.into.now c.find_pairs.new.pairs.light.items
    (subst (λ (es : List Entry). ArePairs c.args.task.bound c.args.into.now es c.find_pairs.new.pairs.light.items)
    (c.out-2.ensures) c.in_ok-find_pairs.ensures.light) c.requires.entries

pub judge_by_search-requires-clause-ends : goal.judge_by_search-requires-clause-ends
judge_by_search-requires-clause-ends g c = c.in_ok-find_pairs.ensures.ends

pub judge_by_search-requires-clause-within : goal.judge_by_search-requires-clause-within
judge_by_search-requires-clause-within g c = λ p among.
    let bound : c.args.task.bound ≡ g.S.RowSource.bound_of c.read.new.source = c.requires.bound ∙ sym (g.met.S.RowSource.same_bound c.args.source.now c.read.new.source c.in_ok-read.ensures.read.stays) in
    subst (λ (b : Cost). IsWithin p.cost b) bound
    (pair_through c.args.task.bound c.args.row.now c.args.into.now c.find_pairs.new.pairs.light.items c.requires.among c.requires.inn_rises
    (subst (λ (es : List Entry). ArePairs c.args.task.bound c.args.into.now es c.find_pairs.new.pairs.light.items)
    (c.out-2.ensures) c.in_ok-find_pairs.ensures.light) p among).1

pub judge_by_search-requires-clause-kept : goal.judge_by_search-requires-clause-kept
judge_by_search-requires-clause-kept g c = c.in_ok-read.ensures.read.kept

pub returns-clause-draft : goal.returns-clause-draft
returns-clause-draft g c =
    let first = c.in_ok-read.ensures.here in
    let outs : c.out.result.now ≡ c.args.row.now.out = c.out.ensures in
    on_ok_too c.judge_by_search.result (λ s. drafted_search c.args.task.bound c.args.task.node c.args.row.now c.args.into.now c.find_pairs.new.pairs.light.items c.requires.among c.requires.inn_rises
    (subst (λ (es : List Entry). ArePairs c.args.task.bound c.args.into.now es c.find_pairs.new.pairs.light.items)
    (c.out-2.ensures) c.in_ok-find_pairs.ensures.light)
    c.requires.out_rises (subst (λ (es : List Entry). LeadsOn es c.args.into.now.other) outs (c.leads_on.ensures.0 (is-true _ c.if-not-leads_on.false)))
    (kept_of c.judge_by_search.new.desk.searcher.rows) first.seen (c.judge_by_search.ensures.read.more c.args.into.now.other first.seen first.kept)
    s.rows s.cutoff s.ways s.found s.most s.direct s.rows_kept
    c.args.draft.now _ c.judge_by_search.new.draft s.judged refl c.in_ok-push.ensures.items) c.judge_by_search.ensures.searched

pub returns-clause-read : goal.returns-clause-read
returns-clause-read g c =
    let read = c.judge_by_search.ensures.read in
    record {
      kept = read.kept;
      more = λ x s is. read.more x s (c.in_ok-read.ensures.read.more x s is);
      stays = g.met.S.RowSource.stays_more c.args.source.now c.read.new.source c.judge_by_search.new.source c.in_ok-read.ensures.read.stays read.stays;
    }

pub returns-clause-found : goal.returns-clause-found
returns-clause-found g c = λ named names.
    let whole = All-contains (λ (x : Entry). g.S.RowSource.whole c.args.source.now x.other) c.args.row.now.inn c.args.into.now names.inn c.requires.among in
    c.judge_by_search.ensures.found (c.in_ok-read.ensures.found named whole) (g.met.S.RowSource.still_whole c.args.source.now c.read.new.source c.args.into.now.other c.in_ok-read.ensures.read.stays whole)
