use Rattle.std.proofs.Common.{ℕ, ◌≡◌, ◌<◌, ◌-◌, ◌∙◌, List, Some, cond, suc, true, length, set, slice_index, ap, sym, arith}
use Rattle.std.proofs.lemmas.Grind.{get_or_default_zero}
use Rattle.ch_graph.specs.declared.mark.Mark.{Mark}
use Rattle.ch_graph.specs.declared.mark.Mark.TheVariants.{Open, Settled}
use Rattle.ch_query.specs.declared.label.Label.{Label}
use Rattle.ch_query.specs.declared.mark_list.Touched.{Touched}
use Rattle.ch_query.specs.Touched.{mark_in, mark_at}
use Rattle.ch_query.proofs.SeenNodes.{as_many, place_of_open, placed-written, marks-written}
use Rattle.ch_query.proofs.mark_list.MarkList.settle.Goals as goal

pub invariant_of-self : goal.invariant_of-self
invariant_of-self c =
    let places : List ℕ = c.self.inside.places.items in
    let seen : List Touched = c.self.inside.seen.items in
    let s : Touched = record { label = c.in_ok-seen.seen.label; rank = c.args.rank; settled = true } in
    let within : c.args.rank < length places = omega (arith, c.requires, ap (λ (ms : List (Mark Label)). length ms) c.self.view_is, as_many seen places) in
    let read : mark_in (Some c.in_ok-seen.seen) ≡ mark_at seen (slice_index places c.args.rank) = c.in_ok-seen.ensures ∙ ap (λ (xs : List Touched). mark_at xs (slice_index c.deref.result.now c.args.rank)) c.deref-2.ensures.value ∙ ap (λ (ns : List ℕ). mark_at seen (slice_index ns c.args.rank)) c.deref.ensures.value in
    let opens : mark_at seen (slice_index places c.args.rank) ≡ Open c.in_ok-seen.seen.label = sym read ∙ ap (λ b. cond b (Settled c.in_ok-seen.seen.label) (Open c.in_ok-seen.seen.label)) c.if-seen.false in
    let at : slice_index places c.args.rank ≡ suc (c.index.result.now - 1) = omega (arith, place_of_open seen opens, c.index.ensures, get_or_default_zero places c.args.rank c.index.result.now within) in
    (placed-written c.self.invariant.0 (c.index.result.now - 1) s within at, c.self.invariant.1)

pub returns-clause-settled : goal.returns-clause-settled
returns-clause-settled c =
    let places : List ℕ = c.self.inside.places.items in
    let seen : List Touched = c.self.inside.seen.items in
    let s : Touched = record { label = c.in_ok-seen.seen.label; rank = c.args.rank; settled = true } in
    let within : c.args.rank < length places = omega (arith, c.requires, ap (λ (ms : List (Mark Label)). length ms) c.self.view_is, as_many seen places) in
    let read : mark_in (Some c.in_ok-seen.seen) ≡ mark_at seen (slice_index places c.args.rank) = c.in_ok-seen.ensures ∙ ap (λ (xs : List Touched). mark_at xs (slice_index c.deref.result.now c.args.rank)) c.deref-2.ensures.value ∙ ap (λ (ns : List ℕ). mark_at seen (slice_index ns c.args.rank)) c.deref.ensures.value in
    let opens : mark_at seen (slice_index places c.args.rank) ≡ Open c.in_ok-seen.seen.label = sym read ∙ ap (λ b. cond b (Settled c.in_ok-seen.seen.label) (Open c.in_ok-seen.seen.label)) c.if-seen.false in
    let at : slice_index places c.args.rank ≡ suc (c.index.result.now - 1) = omega (arith, place_of_open seen opens, c.index.ensures, get_or_default_zero places c.args.rank c.index.result.now within) in
    marks-written c.self.invariant.0 (c.index.result.now - 1) s within at
    ∙ ap (λ (ms : List (Mark Label)). set ms c.args.rank (Settled c.in_ok-seen.seen.label)) c.self.view_is
