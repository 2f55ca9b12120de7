use Rattle.std.proofs.Common.{ℕ, ◌≡◌, Option, Some, None, sym, subst, ◌∙◌, inl, inr, rules}
use Rattle.std.proofs.lemmas.Bool.{cases_eq}
use Rattle.ch_overlay.specs.declared.source.Seen.{Seen}
use Rattle.ch_overlay.specs.Source.{IsBound, IsSeenRow}
use Rattle.ch_cost.specs.declared.cost.Cost.{Cost}
use Rattle.ch_witness.specs.Kept.{kept_of}
use Rattle.ch_witness.proofs.KeptAnswers.{kept_moved, kept_put}
use Rattle.ch_witness.proofs.rows.Rows.read.Goals as goal

pub returns-in-Some-clause-read : goal.returns-in-Some-clause-read
returns-in-Some-clause-read g c = record { kept = c.requires.kept; more = λ x s is. is; stays = g.met.S.RowSource.stays_self c.args.source.now }

pub returns-in-Some-clause-found : goal.returns-in-Some-clause-found
returns-in-Some-clause-found g c = λ named whole. named

pub returns-in_err-seen-clause-read : goal.returns-in_err-seen-clause-read
returns-in_err-seen-clause-read g c = record {
  kept = kept_moved g.S.RowSource.bears (g.S.RowSource.shows c.args.source.now) (g.S.RowSource.shows c.row_of.new.self)
      (kept_of c.args.self.now)
      (g.met.S.RowSource.same_bound c.args.source.now c.row_of.new.self c.in_err-seen.ensures.stays)
      (λ s h. g.met.S.RowSource.still_shows c.args.source.now c.row_of.new.self s c.in_err-seen.ensures.stays h) c.requires.kept;
  more = λ x s is. is;
  stays = c.in_err-seen.ensures.stays;
}

pub returns-in_err-seen-clause-found : goal.returns-in_err-seen-clause-found
returns-in_err-seen-clause-found g c = λ named whole. search rules

pub returns-in_err-seen-clause-unseen : goal.returns-in_err-seen-clause-unseen
returns-in_err-seen-clause-unseen g c = λ missing. c.in_err-seen.ensures.kept

pub returns-in_err-put-clause-read : goal.returns-in_err-put-clause-read
returns-in_err-put-clause-read g c = record {
  kept = λ x s is. (kept_moved g.S.RowSource.bears (g.S.RowSource.shows c.args.source.now) (g.S.RowSource.shows c.row_of.new.self)
      (kept_of c.args.self.now)
      (g.met.S.RowSource.same_bound c.args.source.now c.row_of.new.self c.in_ok-seen.ensures.stays)
      (λ s h. g.met.S.RowSource.still_shows c.args.source.now c.row_of.new.self s c.in_ok-seen.ensures.stays h) c.requires.kept) x s
      (sym (c.in_err-put.ensures.stays x) ∙ is);
  more = λ x s is. c.in_err-put.ensures.stays x ∙ is;
  stays = c.in_ok-seen.ensures.stays;
}

some-none : (o : Option Seen) (s : Seen) → o ≡ Some s → o ≡ None → ⊥
some-none o s e f = cc

pub returns-clause-read : goal.returns-clause-read
returns-clause-read g c = record {
  kept = kept_put g.S.RowSource.bears (g.S.RowSource.shows c.args.source.now) (g.S.RowSource.shows c.row_of.new.self)
      (kept_of c.args.self.now)
      (g.met.S.RowSource.same_bound c.args.source.now c.row_of.new.self c.in_ok-seen.ensures.stays)
      (λ s h. g.met.S.RowSource.still_shows c.args.source.now c.row_of.new.self s c.in_ok-seen.ensures.stays h) c.requires.kept
      (kept_of c.put.new.self) c.args.node c.in_ok-seen.seen (record {
        node = c.in_ok-seen.ensures.node;
        bears = c.in_ok-seen.ensures.bears;
        shows = c.in_ok-seen.ensures.shows;
        row = subst (λ (b : Cost). IsSeenRow b c.in_ok-seen.seen) (sym (g.met.S.RowSource.same_bound c.args.source.now c.row_of.new.self c.in_ok-seen.ensures.stays)) c.in_ok-seen.ensures.row;
        limit = subst IsBound (sym (g.met.S.RowSource.same_bound c.args.source.now c.row_of.new.self c.in_ok-seen.ensures.stays)) c.in_ok-seen.ensures.bound;
      }) c.in_ok-put.ensures.here c.put.ensures.others;
  more = λ x s is. elim (cases_eq x c.args.node) [
    | inl at ↦ absurd (some-none (kept_of c.args.self.now c.args.node) s (subst (λ (w : ℕ). kept_of c.args.self.now w ≡ Some s) at is) c.in_default.ensures.none)
    | inr other ↦ c.put.ensures.others x other ∙ is
  ];
  stays = c.in_ok-seen.ensures.stays;
}

pub returns-clause-here : goal.returns-clause-here
returns-clause-here g c = record {
  seen = c.in_ok-seen.seen;
  there = c.in_ok-put.ensures.there;
  kept = c.in_ok-put.ensures.here;
  answer = record { node = c.in_ok-seen.ensures.node; bears = c.in_ok-seen.ensures.bears; shows = c.in_ok-seen.ensures.shows; row = c.in_ok-seen.ensures.row; limit = c.in_ok-seen.ensures.bound };
}

pub returns-in-Some-clause-here : goal.returns-in-Some-clause-here
returns-in-Some-clause-here g c =
    let h = c.in-Some.ensures.here in
    record { seen = h.0; there = h.1; kept = h.2; answer = c.requires.kept c.args.node h.0 h.2 }

pub known-requires-clause-found : goal.known-requires-clause-found
known-requires-clause-found g c = search rules

pub known-requires-clause-absent : goal.known-requires-clause-absent
known-requires-clause-absent g c = search rules

pub put-requires-clause-found : goal.put-requires-clause-found
put-requires-clause-found g c = search rules

pub put-requires-clause-absent : goal.put-requires-clause-absent
put-requires-clause-absent g c = search rules
