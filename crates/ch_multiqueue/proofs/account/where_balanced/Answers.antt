use Rattle.std.proofs.Common.{◌≡◌, ◌∙◌, refl, sym}
use Rattle.std.proofs.lemmas.Slice.Eq.{slice_eq-Decides}
use Rattle.ch_multiqueue.proofs.Comparing.{item_decides}
use Rattle.ch_multiqueue.proofs.account.where_balanced.Goals as goal

pub returns-then-eq : goal.returns-then-eq
returns-then-eq c =
    let put = c.as_slice.result.now in
    let gone = c.as_slice-2.result.now in
    let equal : put ≡ gone = (slice_eq-Decides item_decides put gone c.eq.result c.eq.ensures).0 c.if-eq.true in
    (refl, sym c.as_slice.ensures.value ∙ equal ∙ c.as_slice-2.ensures.value)
