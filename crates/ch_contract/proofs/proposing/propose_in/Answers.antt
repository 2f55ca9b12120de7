use Rattle.std.proofs.Common.{ℕ, ◌≡◌, ◌≢◌, ◌⊎◌, List, Option, Some, None, Result, Err, true, false, refl, ap, sym, subst, ◌∙◌, arith, inl, inr}
use Rattle.std.specs.Option.{is_some}
use Rattle.std.proofs.lemmas.Result.{err_from_is_err_and}
use Rattle.std.proofs.lemmas.Grind.{common_steps}
use Rattle.ch_cost.specs.declared.cost.Cost.{Cost}
use Rattle.ch_laws.specs.Rows.{Row}
use Rattle.ch_overlay.specs.declared.source.Seen.{Seen}
use Rattle.ch_overlay.specs.Source.{row_in, NamesAlone}
use Rattle.ch_witness.specs.Kept.{kept_of, AllNamed, AreKept, AreListed, Kept, read_there}
use Rattle.ch_contract.specs.Drafts.{IsDrafted}
use Rattle.ch_contract.specs.Proposal.{Proposal, IsProposedBy, IsReadUnranked, TellsContracted}
use Rattle.ch_contract.specs.declared.error.ProposeError.{ProposeError}
use Rattle.ch_contract.specs.declared.error.ProposeError.TheVariants.{OutOfMemory, Unseen, Contracted}
use Rattle.ch_contract.proofs.DraftOfNeighbours.{proposed}
use Rattle.ch_witness.specs.Kept.{all_listed_are}
use Rattle.ch_contract.proofs.proposing.propose_in.Goals as goal

nothing : (o : Option ℕ) → false ≡ is_some o → o ≡ None
nothing None e = refl
nothing (Some k) e = absurd (cc)

ranked : (o : Option ℕ) → true ≡ is_some o → o ≡ None → ⊥
ranked None e is = absurd (cc)
ranked (Some k) e is = absurd (cc)

none-kept : (kept : Kept) → ((x : ℕ) → kept x ≡ None) → (IsKind : ℕ → Type 0) → AllNamed IsKind kept
none-kept kept empty IsKind x s is = absurd (apart (kept x) is (empty x)) where
  apart : (o : Option Seen) → o ≡ Some s → o ≡ None → ⊥
  apart o e f = cc

apart : (e : ProposeError) → e ≡ OutOfMemory → e ≡ Unseen → ⊥
apart e f h = absurd (cc)

not-contracted : (r : Result Proposal ProposeError) (e : ProposeError) → r ≡ Err e → e ≢ Contracted → (r ≡ Err OutOfMemory → ⊥) → (r ≡ Err Unseen → ⊥) → ⊥
not-contracted r OutOfMemory is other memory unseen = memory is
not-contracted r Unseen is other memory unseen = unseen is
not-contracted r Contracted is other memory unseen = other refl

module _ {Bears Shows : Seen → Type 0} {limit : Cost} {Moved Same IsWhole : Type 0} {v : ℕ} (r : Result Proposal ProposeError) (e : ProposeError) (is : r ≡ Err e) where
  -- what is owed where there is no proposal
  refused : TellsContracted Bears Shows v r → (e ≡ Unseen → Same ⊎ IsReadUnranked Bears Shows v) → Moved → (IsWhole → e ≡ Unseen → ⊥) → IsProposedBy Bears Shows limit Moved Same IsWhole v r
  refused tells missed moved found =
      subst (λ (o : Result Proposal ProposeError). IsProposedBy Bears Shows limit Moved Same IsWhole v o) (sym is) (record {
        node = tt;
        bound = tt;
        holds = tt;
        bears = tt;
        shows = tt;
        contracted = subst (TellsContracted Bears Shows v) is tells;
        missed = λ missing. let it : e ≡ Unseen = cc (missing) in missed it;
        stays = moved;
        found = λ whole missing. let it : e ≡ Unseen = cc (missing) in found whole it;
      })

  -- where memory ran out
  short : e ≡ OutOfMemory → Moved → IsProposedBy Bears Shows limit Moved Same IsWhole v r
  short memory moved = refused (λ other unseen. let it : r ≡ Err OutOfMemory = cc (is, memory) in absurd (other it)) (λ missing. absurd (apart e memory missing)) moved (λ whole missing. apart e memory missing)

  -- where a row wasn't read
  unread : e ≢ Contracted → (e ≡ Unseen → Same ⊎ IsReadUnranked Bears Shows v) → Moved → (IsWhole → e ≡ Unseen → ⊥) → IsProposedBy Bears Shows limit Moved Same IsWhole v r
  unread other missed moved found = refused (λ memory unseen. absurd (not-contracted r e is other memory unseen)) missed moved found

pub returns-in_err-place : goal.returns-in_err-place
returns-in_err-place g c =
    let p = err_from_is_err_and c.from_residual.result c.from_residual.ensures.1 in
    let was = c.in_err-place.was in
    let named = none-kept (kept_of c.args.desk.now.searcher.rows) c.requires.none (g.S.RowSource.whole c.args.source.now) in
    unread _ p.0 p.1 p.2.0
    (λ missing. let none = p.2.1.0 missing in inl (c.in_err-place.ensures.unseen (cc (was, none))))
    c.in_err-place.ensures.read.stays
    (λ whole missing. c.in_err-place.ensures.found named whole (p.2.1.0 missing))

pub returns-then-is_some : goal.returns-then-is_some
returns-then-is_some g c =
    let own = c.at-own.result.now in
    let a = (read_there _ _ _ _ _ _ _ c.in_ok-place.ensures.here c.at-own.ensures).1 in
    refused _ Contracted refl (λ memory unseen. record {
      row = own;
      of_node = a.node;
      bears = a.bears;
      shows = a.shows;
      ranked = (λ e none. ranked c.behind-own.inside.rank c.if-is_some.ensures (ap (λ (r : Row). r.rank) (c.behind-own.view_is ∙ c.deref.ensures) ∙ none), λ some. refl);
    }) (λ missing. absurd (cc)) c.in_ok-place.ensures.read.stays (λ whole missing. absurd (cc))

pub returns-in_err-row : goal.returns-in_err-row
returns-in_err-row g c =
    let p = err_from_is_err_and c.from_residual-in_err-row.result c.from_residual-in_err-row.ensures.1 in
    short _ p.0 p.1 p.2 c.in_ok-place.ensures.read.stays

pub returns-in_err-draft : goal.returns-in_err-draft
returns-in_err-draft g c =
    let p = err_from_is_err_and c.from_residual-in_err-draft.result c.from_residual-in_err-draft.ensures.1 in
    short _ p.0 p.1 p.2 c.in_ok-place.ensures.read.stays

pub returns-in_err-draft_all : goal.returns-in_err-draft_all
returns-in_err-draft_all g c =
    let there = read_there _ _ _ _ _ _ _ c.in_ok-place.ensures.here c.at-own.ensures in
    let own = c.at-own.result.now in
    let p = err_from_is_err_and c.from_residual-in_err-draft_all.result c.from_residual-in_err-draft_all.ensures.1 in
    let a = c.in_err-draft_all.ensures.read.kept own.node own (c.in_err-draft_all.ensures.read.more own.node own there.0) in
    let unranked = ap (λ (r : Row). r.rank) (sym (c.behind-own.view_is ∙ c.deref.ensures)) ∙ nothing c.behind-own.inside.rank c.if-is_some.ensures in
    let none = none-kept (kept_of c.args.desk.now.searcher.rows) c.requires.none (g.S.RowSource.whole c.args.source.now) in
    unread _ p.0 p.1 p.2.0
    (λ missing. inr (record { row = own; of_node = there.1.node; bears = a.bears; shows = a.shows; unranked = unranked }))
    (g.met.S.RowSource.stays_more c.args.source.now c.read.new.source c.draft_all.new.source c.in_ok-place.ensures.read.stays c.in_err-draft_all.ensures.read.stays)
    (λ whole missing.
    let named = c.in_ok-place.ensures.found none whole in
    let names = subst (NamesAlone (g.S.RowSource.whole c.read.new.source)) (sym (c.deref-2.ensures ∙ c.in_ok-row.ensures)) (named own.node own there.0) in
    c.in_err-draft_all.ensures.found named names (p.2.1.0 missing))

pub returns-in_err-rests_on : goal.returns-in_err-rests_on
returns-in_err-rests_on g c =
    let p = err_from_is_err_and c.from_residual-in_err-rests_on.result c.from_residual-in_err-rests_on.ensures.1 in
    short _ p.0 p.1 p.2 (g.met.S.RowSource.stays_more c.args.source.now c.read.new.source c.draft_all.new.source c.in_ok-place.ensures.read.stays c.in_ok-draft_all.ensures.read.stays)

pub take_listed-requires : goal.take_listed-requires
take_listed-requires g c = record { nodes = λ x s is. (c.in_ok-draft_all.ensures.read.kept x s is).node }

pub invariant_of-result : goal.invariant_of-result
invariant_of-result g c =
    let there = read_there _ _ _ _ _ _ _ c.in_ok-place.ensures.here c.at-own.ensures in
    let own = c.at-own.result.now in
    let moved = g.met.S.RowSource.stays_more c.args.source.now c.read.new.source c.draft_all.new.source c.in_ok-place.ensures.read.stays c.in_ok-draft_all.ensures.read.stays in
    let bound : g.S.RowSource.bound_of c.draft_all.new.source ≡ c.bound.result = g.met.S.RowSource.same_bound c.args.source.now c.draft_all.new.source moved ∙ sym c.bound.ensures.bound in
    proposed g.S.RowSource.bears (g.S.RowSource.shows c.draft_all.new.source) c.bound.result c.args.node (row_in own) (kept_of c.draft_all.new.desk.searcher.rows) c.draft_all.new.draft c.in_ok-rests_on.rests_on.items own c.bound.ensures.limit
    (subst (λ (b : Cost). AreKept g.S.RowSource.bears (g.S.RowSource.shows c.draft_all.new.source) b (kept_of c.draft_all.new.desk.searcher.rows)) bound c.in_ok-draft_all.ensures.read.kept)
    (subst (λ (x : ℕ). kept_of c.draft_all.new.desk.searcher.rows x ≡ Some own) there.1.node (c.in_ok-draft_all.ensures.read.more own.node own there.0))
    refl
    (ap (λ (r : Row). r.rank) (sym (c.behind-own.view_is ∙ c.deref.ensures)) ∙ nothing c.behind-own.inside.rank c.if-is_some.ensures)
    (subst (λ (r : Row). IsDrafted c.bound.result c.args.node r r.inn (kept_of c.draft_all.new.desk.searcher.rows) c.draft_all.new.draft) (c.deref-2.ensures ∙ c.in_ok-row.ensures) c.in_ok-draft_all.ensures.draft)
    (subst (λ (ns : List ℕ). AreListed (kept_of c.draft_all.new.desk.searcher.rows) ns c.in_ok-rests_on.rests_on.items) c.deref-3.ensures.value c.in_ok-rests_on.ensures)

pub returns : goal.returns
returns g c =
    let there = read_there _ _ _ _ _ _ _ c.in_ok-place.ensures.here c.at-own.ensures in
    let own = c.at-own.result.now in
    let moved = g.met.S.RowSource.stays_more c.args.source.now c.read.new.source c.draft_all.new.source c.in_ok-place.ensures.read.stays c.in_ok-draft_all.ensures.read.stays in
    let bound : g.S.RowSource.bound_of c.draft_all.new.source ≡ c.bound.result = g.met.S.RowSource.same_bound c.args.source.now c.draft_all.new.source moved ∙ sym c.bound.ensures.bound in
    let a = c.in_ok-draft_all.ensures.read.kept own.node own (c.in_ok-draft_all.ensures.read.more own.node own there.0) in
    let unranked = ap (λ (r : Row). r.rank) (sym (c.behind-own.view_is ∙ c.deref.ensures)) ∙ nothing c.behind-own.inside.rank c.if-is_some.ensures in
    record {
      node = refl;
      bound = c.bound.ensures.bound;
      holds = proposed g.S.RowSource.bears (g.S.RowSource.shows c.draft_all.new.source) c.bound.result c.args.node (row_in own) (kept_of c.draft_all.new.desk.searcher.rows) c.draft_all.new.draft c.in_ok-rests_on.rests_on.items own c.bound.ensures.limit
          (subst (λ (b : Cost). AreKept g.S.RowSource.bears (g.S.RowSource.shows c.draft_all.new.source) b (kept_of c.draft_all.new.desk.searcher.rows)) bound c.in_ok-draft_all.ensures.read.kept)
          (subst (λ (x : ℕ). kept_of c.draft_all.new.desk.searcher.rows x ≡ Some own) there.1.node (c.in_ok-draft_all.ensures.read.more own.node own there.0))
          refl
          unranked
          (subst (λ (r : Row). IsDrafted c.bound.result c.args.node r r.inn (kept_of c.draft_all.new.desk.searcher.rows) c.draft_all.new.draft) (c.deref-2.ensures ∙ c.in_ok-row.ensures) c.in_ok-draft_all.ensures.draft)
          (subst (λ (ns : List ℕ). AreListed (kept_of c.draft_all.new.desk.searcher.rows) ns c.in_ok-rests_on.rests_on.items) c.deref-3.ensures.value c.in_ok-rests_on.ensures);
      bears = all_listed_are _ _ g.S.RowSource.bears _ _ _ _ c.in_ok-draft_all.ensures.read.kept c.in_ok-rests_on.ensures (λ x s a. a.bears);
      shows = all_listed_are _ _ (g.S.RowSource.shows c.draft_all.new.source) _ _ _ _ c.in_ok-draft_all.ensures.read.kept c.in_ok-rests_on.ensures (λ x s a. a.shows);
      contracted = λ memory unseen. record {
        row = own;
        of_node = there.1.node;
        bears = a.bears;
        shows = a.shows;
        ranked = (λ done. absurd (cc), λ some. absurd (some unranked));
      };
      missed = λ missing. absurd (cc);
      stays = moved;
      found = λ whole missing. absurd (cc);
    }

pub draft_all-requires-clause-inn_rises : goal.draft_all-requires-clause-inn_rises
draft_all-requires-clause-inn_rises c = grind (arith, common_steps)

pub draft_all-requires-clause-out_rises : goal.draft_all-requires-clause-out_rises
draft_all-requires-clause-out_rises c = grind (arith, common_steps)
