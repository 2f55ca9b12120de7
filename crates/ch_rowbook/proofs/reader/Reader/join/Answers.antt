use Rattle.std.specs.Prelude.{ℕ, List, ◌≡◌, max, slice_index}
use Rattle.std.proofs.Common.{subst, ◌∙◌, ap}
use Rattle.ch_rowbook.proofs.Fronts.{greater_at}
use Rattle.ch_rowbook.proofs.reader.Reader.join.Goals as goal

-- the fronts are the seats'
pub returns : goal.returns
returns g c =
    let mine = c.self.inside.seat.me.0.versions in
    let theirs = c.other.inside.seat.me.0.versions in
    let new = c.meet.new.seat.me.0.versions in
    λ x. subst (λ (a : List ℕ). slice_index new x ≡ max (slice_index a x) (slice_index c.args.other x)) c.self.view_is
    (subst (λ (b : List ℕ). slice_index new x ≡ max (slice_index mine x) (slice_index b x)) c.other.view_is (ap (λ (l : List ℕ). slice_index l x) c.meet.ensures.front ∙ greater_at mine theirs x))
