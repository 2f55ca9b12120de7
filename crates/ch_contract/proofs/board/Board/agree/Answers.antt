use Rattle.std.proofs.Common.{All, List, ap, sym, subst, ◌∙◌}
use Rattle.ch_overlay.specs.declared.source.Seen.{Seen}
use Rattle.ch_rowbook.specs.Books.{IsOfBook}
use Rattle.ch_contract.specs.Ledger.{Ledger}
use Rattle.ch_contract.specs.Commit.{IsRowOf, NoneIsOld}
use Rattle.ch_contract.proofs.board.Board.agree.Goals as goal

pub agree_all-requires-clause-of_book : goal.agree_all-requires-clause-of_book
agree_all-requires-clause-of_book g c = subst (λ (rows : List Seen). All (IsOfBook g.S.Book.book) rows) (sym c.rests_on.ensures.rows) c.requires.of_book

pub agree_all-requires-clause-current : goal.agree_all-requires-clause-current
agree_all-requires-clause-current g c = subst (λ (rows : List Seen). NoneIsOld c.args.self.now rows) (sym c.rests_on.ensures.rows) c.requires.current

pub returns-clause-agrees : goal.returns-clause-agrees
returns-clause-agrees g c = record {
  bound = c.requires.bound ∙ c.self.invariant.bound ∙ ap (λ (l : Ledger). l.overlay.bound) c.self.view_is;
  rows = subst (λ (rows : List Seen). All (IsRowOf c.args.self.now) rows) c.rests_on.ensures.rows c.agree_all.ensures;
}
