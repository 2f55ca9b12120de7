use Rattle.std.proofs.Common.{◌≡◌, Contains, List, ap, sym, subst, ◌∙◌}
use Rattle.ch_laws.specs.declared.entry.Entry.{Entry}
use Rattle.ch_laws.specs.Rows.{Row, Rises}
use Rattle.ch_overlay.specs.Overlay.{row_at}
use Rattle.ch_check.specs.Comparing.{entry_of}
use Rattle.ch_check.proofs.comparing.is_arc.Goals as goal

outs : (c : goal.After-has_entry) → c.out.result.now ≡ (row_at c.args.overlay.now.rows c.args.link.now.from).out
outs c = c.out.ensures ∙ ap (λ (r : Row). r.out) (c.deref.ensures ∙ c.row.ensures)

inns : (c : goal.After-has_entry-2) → c.inn.result.now ≡ (row_at c.args.overlay.now.rows c.args.link.now.to).inn
inns c = c.inn.ensures ∙ ap (λ (r : Row). r.inn) (c.deref-2.ensures ∙ c.row-2.ensures)

pub has_entry-requires : goal.has_entry-requires
has_entry-requires c = subst Rises (sym (c.out.ensures ∙ ap (λ (r : Row). r.out) (c.deref.ensures ∙ c.row.ensures))) (c.nodes.ensures.holds.rows c.args.link.now.from c.requires.from_in).out_rises

pub returns-then-rank : goal.returns-then-rank
returns-then-rank c = λ yes.
    (((c.nodes.ensures.holds.rows c.args.link.now.from c.requires.from_in).out (entry_of c.args.link.now.to c.args.link.now)).0
    (subst (λ (es : List Entry). Contains es (entry_of c.args.link.now.to c.args.link.now)) (outs c) (c.has_entry.ensures yes))).0

pub has_entry-requires-2 : goal.has_entry-requires-2
has_entry-requires-2 c = subst Rises (sym (c.inn.ensures ∙ ap (λ (r : Row). r.inn) (c.deref-2.ensures ∙ c.row-2.ensures))) (c.nodes.ensures.holds.rows c.args.link.now.to c.requires.to_in).inn_rises

pub returns : goal.returns
returns c = λ yes.
    (((c.nodes.ensures.holds.rows c.args.link.now.to c.requires.to_in).inn (entry_of c.args.link.now.from c.args.link.now)).0
    (subst (λ (es : List Entry). Contains es (entry_of c.args.link.now.from c.args.link.now)) (inns c) (c.has_entry-2.ensures yes))).0
