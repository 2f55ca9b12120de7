use Rattle.std.proofs.Common.{Option, IfSome, List, All, sym, subst}
use Rattle.ch_overlay.specs.declared.source.Seen.{Seen}
use Rattle.ch_contract.specs.Commit.{IsRowOf}
use Rattle.ch_contract.specs.Ready.{Ready, IsReadyFor}
use Rattle.ch_contract.proofs.ReadRows.{fits}
use Rattle.ch_contract.proofs.board.Board.fitting.Goals as goal

pub returns : goal.returns
returns g c =
    let l = c.args.self.now in
    let p = c.args.proposal.now in
    let made : Ready = record { prepared = c.prepared.inside.prepared; beside = c.prepared.inside.beside.items } in
    let is : IsReadyFor p made =
    subst (λ (r : Ready). IsReadyFor p r) (sym c.prepared.view_is) (subst (λ (o : Option Ready). IfSome o (IsReadyFor p)) c.in_ok-prepared.was c.requires.ready) in
    let beside : All (IsRowOf l) c.prepared.inside.beside.items = subst (λ (seen : List Seen). All (IsRowOf l) seen) c.as_slice-2.ensures.value c.agree_all.ensures in
    fits l p made is c.requires.agrees.rows beside c.requires.lawful
