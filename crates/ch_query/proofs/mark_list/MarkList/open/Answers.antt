use Rattle.std.proofs.Common.{ℕ, ◌≡◌, ◌<◌, ◌-◌, ◌∙◌, List, [], ◌∷◌, ◌++◌, suc, false, length, set, slice_index, ap, subst, sym, arith}
use Rattle.std.proofs.lemmas.Grind.{get_or_default_zero}
use Rattle.std.proofs.lemmas.List.{length-append, length-set}
use Rattle.ch_graph.specs.declared.mark.Mark.{Mark}
use Rattle.ch_graph.specs.declared.mark.Mark.TheVariants.{Open}
use Rattle.ch_query.specs.declared.label.Label.{Label}
use Rattle.ch_query.specs.declared.mark_list.Touched.{Touched}
use Rattle.ch_query.specs.Touched.{marks_in, ArePlaces}
use Rattle.ch_query.proofs.SeenNodes.{as_many, written-within, placed-written, marks-written, placed-pushed, marks-pushed, few_seen}
use Rattle.ch_query.proofs.mark_list.MarkList.open.Goals as goal

pub overflow_cast-len : goal.overflow_cast-len
overflow_cast-len c =
    let places : List ℕ = c.self.inside.places.items in
    let seen : List Touched = c.self.inside.seen.items in
    let s : Touched = record { label = c.args.label; rank = c.args.rank; settled = false } in
    let within : c.args.rank < length places = omega (arith, c.requires, ap (λ (ms : List (Mark Label)). length ms) c.self.view_is, as_many seen places) in
    let none : slice_index places c.args.rank ≡ 0 = omega (arith, c.if-place-eq0.true, c.index.ensures, get_or_default_zero places c.args.rank c.index.result.now within) in
    omega (arith, few_seen c.self.invariant.0 s within none, c.self.invariant.1, c.len.ensures, c.push.new.self.ok, ap (λ (xs : List Touched). length xs) c.in_ok-push.ensures.items, length-append seen (s ∷ []))

pub invariant_of-self-then-place-eq0 : goal.invariant_of-self-then-place-eq0
invariant_of-self-then-place-eq0 c =
    let places : List ℕ = c.self.inside.places.items in
    let seen : List Touched = c.self.inside.seen.items in
    let s : Touched = record { label = c.args.label; rank = c.args.rank; settled = false } in
    let within : c.args.rank < length places = omega (arith, c.requires, ap (λ (ms : List (Mark Label)). length ms) c.self.view_is, as_many seen places) in
    let none : slice_index places c.args.rank ≡ 0 = omega (arith, c.if-place-eq0.true, c.index.ensures, get_or_default_zero places c.args.rank c.index.result.now within) in
    let count : c.len.result ≡ suc (length seen) = omega (arith, c.len.ensures, c.push.new.self.ok, ap (λ (xs : List Touched). length xs) c.in_ok-push.ensures.items, length-append seen (s ∷ [])) in (
      subst (λ (xs : List Touched). ArePlaces (set places c.args.rank c.len.result) xs) (sym c.in_ok-push.ensures.items)
          (subst (λ n. ArePlaces (set places c.args.rank n) (seen ++ s ∷ [])) (sym count) (placed-pushed c.self.invariant.0 s within none)),
      omega (arith, c.self.invariant.1, length-set places c.args.rank c.len.result),
    )

pub returns-then-place-eq0-clause-opened : goal.returns-then-place-eq0-clause-opened
returns-then-place-eq0-clause-opened c =
    let places : List ℕ = c.self.inside.places.items in
    let seen : List Touched = c.self.inside.seen.items in
    let s : Touched = record { label = c.args.label; rank = c.args.rank; settled = false } in
    let within : c.args.rank < length places = omega (arith, c.requires, ap (λ (ms : List (Mark Label)). length ms) c.self.view_is, as_many seen places) in
    let none : slice_index places c.args.rank ≡ 0 = omega (arith, c.if-place-eq0.true, c.index.ensures, get_or_default_zero places c.args.rank c.index.result.now within) in
    let count : c.len.result ≡ suc (length seen) = omega (arith, c.len.ensures, c.push.new.self.ok, ap (λ (xs : List Touched). length xs) c.in_ok-push.ensures.items, length-append seen (s ∷ [])) in
    subst (λ (xs : List Touched). marks_in xs (set places c.args.rank c.len.result) ≡ set (marks_in seen places) c.args.rank (Open c.args.label)) (sym c.in_ok-push.ensures.items)
    (subst (λ n. marks_in (seen ++ s ∷ []) (set places c.args.rank n) ≡ set (marks_in seen places) c.args.rank (Open c.args.label)) (sym count) (marks-pushed c.self.invariant.0 s within none))
    ∙ ap (λ (ms : List (Mark Label)). set ms c.args.rank (Open c.args.label)) c.self.view_is

pub index_mut-requires-2 : goal.index_mut-requires-2
index_mut-requires-2 c =
    let places : List ℕ = c.self.inside.places.items in
    let seen : List Touched = c.self.inside.seen.items in
    let s : Touched = record { label = c.args.label; rank = c.args.rank; settled = false } in
    let within : c.args.rank < length places = omega (arith, c.requires, ap (λ (ms : List (Mark Label)). length ms) c.self.view_is, as_many seen places) in
    let at : slice_index places c.args.rank ≡ suc (c.index.result.now - 1) = omega (arith, c.if-place-eq0.false, c.index.ensures, get_or_default_zero places c.args.rank c.index.result.now within) in
    omega (arith, written-within c.self.invariant.0 (c.index.result.now - 1) s within at, c.self.inside.seen.ok)

pub invariant_of-self-2 : goal.invariant_of-self-2
invariant_of-self-2 c =
    let places : List ℕ = c.self.inside.places.items in
    let seen : List Touched = c.self.inside.seen.items in
    let s : Touched = record { label = c.args.label; rank = c.args.rank; settled = false } in
    let within : c.args.rank < length places = omega (arith, c.requires, ap (λ (ms : List (Mark Label)). length ms) c.self.view_is, as_many seen places) in
    let at : slice_index places c.args.rank ≡ suc (c.index.result.now - 1) = omega (arith, c.if-place-eq0.false, c.index.ensures, get_or_default_zero places c.args.rank c.index.result.now within) in
    (placed-written c.self.invariant.0 (c.index.result.now - 1) s within at, c.self.invariant.1)

pub returns-clause-opened : goal.returns-clause-opened
returns-clause-opened c =
    let places : List ℕ = c.self.inside.places.items in
    let seen : List Touched = c.self.inside.seen.items in
    let s : Touched = record { label = c.args.label; rank = c.args.rank; settled = false } in
    let within : c.args.rank < length places = omega (arith, c.requires, ap (λ (ms : List (Mark Label)). length ms) c.self.view_is, as_many seen places) in
    let at : slice_index places c.args.rank ≡ suc (c.index.result.now - 1) = omega (arith, c.if-place-eq0.false, c.index.ensures, get_or_default_zero places c.args.rank c.index.result.now within) in
    marks-written c.self.invariant.0 (c.index.result.now - 1) s within at
    ∙ ap (λ (ms : List (Mark Label)). set ms c.args.rank (Open c.args.label)) c.self.view_is
