use Rattle.std.proofs.Common.{refl, sym, ◌∙◌}
use Rattle.std.specs.Option.{option_map}
use Rattle.std.proofs.lemmas.Result.{err_from_is_err_and}
use Rattle.grfile.specs.Progress.{listing_of}
use Rattle.grfile.proofs.OneMoreLine.{from_text, read_first, read_nothing, step-skipped, step-unknown, step-again, step-before, step-refuses, step-opens, step-lists, taken_along}
use Rattle.grfile.proofs.listing.take_numbered.Goals as goal

pub returns-in_default-clause-takes : goal.returns-in_default-clause-takes
returns-in_default-clause-takes g c = λ n is rest.
    let grammar = g.F.Form.grammar c.args.form in
    let read = read_nothing grammar c.args.line.now c.fields_of-fields.ensures c.in_default.ensures in
    rw is (step-skipped grammar n c.args.line.now _ rest (option_map listing_of c.args.listed.now) read)

pub returns-in-Skipped-clause-takes : goal.returns-in-Skipped-clause-takes
returns-in-Skipped-clause-takes g c = λ n is rest.
    let grammar = g.F.Form.grammar c.args.form in
    let read = read_first grammar c.args.line.now _ _ c.letter.ensures c.fields_of-fields.ensures c.in-Some.ensures c.kind_of.ensures c.in-Skipped.is in
    rw is (step-skipped grammar n c.args.line.now _ rest (option_map listing_of c.args.listed.now) read)

pub returns-in-Unknown-clause-takes : goal.returns-in-Unknown-clause-takes
returns-in-Unknown-clause-takes g c = λ n is rest.
    let grammar = g.F.Form.grammar c.args.form in
    let read = read_first grammar c.args.line.now _ _ c.letter.ensures c.fields_of-fields.ensures c.in-Some.ensures c.kind_of.ensures c.in-Unknown.is in
    rw (c.at.ensures, is) (step-unknown grammar n c.args.line.now _ rest (option_map listing_of c.args.listed.now) read)

pub returns-then-is_some-clause-takes : goal.returns-then-is_some-clause-takes
returns-then-is_some-clause-takes g c = λ n is rest.
    let grammar = g.F.Form.grammar c.args.form in
    let read = read_first grammar c.args.line.now _ _ c.letter.ensures c.fields_of-fields.ensures c.in-Some.ensures c.kind_of.ensures c.in-Problem.is in
    rw (c.at-then-is_some.ensures, is) (step-again grammar n c.args.line.now _ c.args.listed.now rest (sym c.is_some.ensures ∙ c.if-is_some.true) read)

pub returns-in_err-size-in-Problem-clause-takes : goal.returns-in_err-size-in-Problem-clause-takes
returns-in_err-size-in-Problem-clause-takes g c = λ n is.
    let grammar = g.F.Form.grammar c.args.form in
    let exit = err_from_is_err_and c.from_residual.result c.from_residual.ensures.1 in
    let read = read_first grammar c.args.line.now _ _ c.letter.ensures c.fields_of-fields.ensures c.in-Some.ensures c.kind_of.ensures c.in-Problem.is in
    let says = rw is at (sym c.size.ensures.says ∙ c.in_err-size-in-Problem.was) in
    rw (exit.1, exit.2) (λ rest. from_text c.in_err-size-in-Problem.field-0.0.kind (step-refuses grammar n c.args.line.now _ c.args.listed.now rest _ (sym c.is_some.ensures ∙ c.if-is_some.false) read says))

pub returns-in_ok-size-in-Problem-clause-takes : goal.returns-in_ok-size-in-Problem-clause-takes
returns-in_ok-size-in-Problem-clause-takes g c = λ n is rest.
    let grammar = g.F.Form.grammar c.args.form in
    let read = read_first grammar c.args.line.now _ _ c.letter.ensures c.fields_of-fields.ensures c.in-Some.ensures c.kind_of.ensures c.in-Problem.is in
    let says = rw is at (sym c.size.ensures.says ∙ c.in_ok-size-in-Problem.was) in
    rw is (step-opens grammar n c.args.line.now _ c.args.listed.now rest c.in_ok-size-in-Problem.size (sym c.is_some.ensures ∙ c.if-is_some.false) read says c.new-entries.ensures.items)

pub returns-in-Some-listed-clause-takes : goal.returns-in-Some-listed-clause-takes
returns-in-Some-listed-clause-takes g c = λ n is.
    let grammar = g.F.Form.grammar c.args.form in
    let read = read_first grammar c.args.line.now _ _ c.letter.ensures c.fields_of-fields.ensures c.in-Some.ensures c.kind_of.ensures c.in-Entry.is in
    taken_along c.take_entry.result _ _ _ _ c.take_entry.ensures.takes (λ rest. rw is (step-lists grammar n c.args.line.now _ c.args.listed.now rest c.in-Some-listed.listed c.in-Some-listed.is read)) (λ rest. refl)

pub returns-in-None-clause-takes : goal.returns-in-None-clause-takes
returns-in-None-clause-takes g c = λ n is rest.
    let grammar = g.F.Form.grammar c.args.form in
    let read = read_first grammar c.args.line.now _ _ c.letter.ensures c.fields_of-fields.ensures c.in-Some.ensures c.kind_of.ensures c.in-Entry.is in
    rw (c.at-in-None.ensures, is) (step-before grammar n c.args.line.now _ c.args.listed.now rest c.in-None.is read)
