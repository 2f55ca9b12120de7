use Rattle.std.proofs.Common.{ℕ, ◌≡◌, ◌<◌, All, List, length, get_or, sym, subst}
use Rattle.std.proofs.lemmas.List.{take_all}
use Rattle.std.proofs.lemmas.List.Elements.{All-more, All-get_or}
use Rattle.ch_overlay.specs.declared.source.Seen.{Seen}
use Rattle.ch_rowbook.specs.Books.{IsOfBook}
use Rattle.ch_contract.specs.Ledger.{Ledger}
use Rattle.ch_contract.specs.Commit.{IsOld, IsRowOf}
use Rattle.ch_contract.proofs.LedgerInBook.{row_from_book, version_from_book}
use Rattle.ch_contract.proofs.board.Board.agree_all.Goals as goal

-- what holds of all rows holds of the one that is looked at
of_each : (P : Seen → Type 0) (rows : List Seen) (i : ℕ) (s : Seen) → All P rows → i < length rows → s ≡ get_or rows i s → P s
of_each P rows i s all less is = subst P (sym is) (All-get_or P rows i s less all)

pub agrees-requires-clause-record : goal.agrees-requires-clause-record
agrees-requires-clause-record g c = of_each (IsOfBook g.S.Book.book) c.args.rows.now c.rows.seen-index c.seen-item.result c.requires.of_book c.rows-test.true c.seen-item.is

pub agrees-requires-clause-current : goal.agrees-requires-clause-current
agrees-requires-clause-current g c =
    let s = c.seen-item.result in
    let of = of_each (IsOfBook g.S.Book.book) c.args.rows.now c.rows.seen-index s c.requires.of_book c.rows-test.true c.seen-item.is in
    let current = of_each (λ (r : Seen). IsOld c.args.self.now r → ⊥) c.args.rows.now c.rows.seen-index s c.requires.current c.rows-test.true c.seen-item.is in
    version_from_book g.S.Site.graph g.S.Book.book c.self.inside.ledger c.self.inside.pen c.self.invariant s of (λ old. current (subst (λ (l : Ledger). IsOld l s) c.self.view_is old))

pub rows-preserved : goal.rows-preserved
rows-preserved g c =
    let s = c.seen-item.result in
    let of = of_each (IsOfBook g.S.Book.book) c.args.rows.now c.rows.seen-index s c.requires.of_book c.rows-test.true c.seen-item.is in
    let here : IsRowOf c.args.self.now s = subst (λ (l : Ledger). IsRowOf l s) c.self.view_is (row_from_book g.S.Site.graph g.S.Book.book c.self.inside.ledger c.self.inside.pen c.self.invariant s of c.agrees.ensures) in
    All-more (IsRowOf c.args.self.now) c.args.rows.now c.rows.seen-index s c.rows-test.true c.rows.invariant (subst (λ (r : Seen). IsRowOf c.args.self.now r) c.seen-item.is here)

pub returns : goal.returns
returns g c = subst (λ (rows : List Seen). All (IsRowOf c.args.self.now) rows) (take_all c.rows.seen-index c.args.rows.now c.rows-test.false) c.rows.invariant
