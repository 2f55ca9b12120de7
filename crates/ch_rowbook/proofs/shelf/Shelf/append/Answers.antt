use Rattle.std.proofs.Common.{subst, sym, rules}
use Rattle.std.specs.Arc.{arc_value}
use Rattle.ch_cost.specs.declared.cost.Cost.{Cost}
use Rattle.ch_overlay.specs.Records.{IsSoundRow}
use Rattle.ch_rowbook.proofs.BoundOfRows.{marked_is}
use Rattle.ch_rowbook.proofs.shelf.Shelf.append.Goals as goal

-- the list's mark is the bound of the book
pub push_shown-requires : goal.push_shown-requires
push_shown-requires g c =
    let shelf = c.args.self.now in
    λ place. subst (λ (b : Cost). IsSoundRow b c.args.node (arc_value c.args.row)) (sym (marked_is shelf.list.tag shelf.bound g.B.Book.book.bound shelf.mark shelf.bound_is)) c.requires

pub returns-clause-place : goal.returns-clause-place
returns-clause-place g c = search rules
