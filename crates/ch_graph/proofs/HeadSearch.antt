-- Where the link to a node is, among links that leave one node.
use Rattle.std.proofs.Common.{ℕ, ◌≡◌, ◌≢◌, ◌+◌, ◌<◌, ◌≤◌, List, get_or, None, AllPairs, inl, inr, subst, arith}
use Rattle.std.proofs.lemmas.Bool.{cases_lt}
use Rattle.std.proofs.lemmas.List.{get_or_default}
use Rattle.ch_cost.specs.Cost.{zero_cost}
use Rattle.ch_graph.specs.declared.link.Link.{Link}
use Rattle.ch_graph.specs.LinkIndex.{ComesToLower, IsHeadAt, IsHeadWithin}

abbrev some_link : Link
some_link = record { from = 0; to = 0; cost = zero_cost; middle = None }

abbrev head : List Link → ℕ → ℕ
head links k = (get_or links k some_link).to

-- from the place of a lower head on, or of the head itself
pub upper_half : {links : List Link} {y begin end : ℕ} (middle : ℕ) (e : Link) → AllPairs ComesToLower links → IsHeadWithin links y begin end → middle < end → (get_or links middle e).to ≤ y → IsHeadWithin links y middle end
upper_half {links} {y} middle e sorted near inside low = record {
  ordered = omega arith;
  within = near.within;
  holds = λ place at. elim (cases_lt place middle) [
    | inl before ↦
        let here : head links middle ≤ y = subst (λ (l : Link). l.to ≤ y) (get_or_default links middle e some_link (omega (arith, near.within))) low in
        let below : head links place < head links middle = sorted place middle some_link before (omega (arith, near.within)) in
        absurd (omega (arith, below, here, at.to some_link))
    | inr after ↦ (omega arith, (near.holds place at).1)
  ];
}

-- before the place of a higher head
pub lower_half : {links : List Link} {y begin end : ℕ} (middle : ℕ) (e : Link) → AllPairs ComesToLower links → IsHeadWithin links y begin end → begin ≤ middle → middle < end → y < (get_or links middle e).to → IsHeadWithin links y begin middle
lower_half {links} {y} middle e sorted near inside below_end high = record {
  ordered = inside;
  within = omega (arith, near.within);
  holds = λ place at. elim (cases_lt place middle) [
    | inl before ↦ ((near.holds place at).0, before)
    | inr after ↦
        let here : y < head links middle = subst (λ (l : Link). y < l.to) (get_or_default links middle e some_link (omega (arith, near.within))) high in
        elim (cases_lt middle place) [
          | inl more ↦
              let above : head links middle < head links place = sorted middle place some_link more at.within in
              absurd (omega (arith, above, here, at.to some_link))
          | inr same ↦
              let is : middle ≡ place = omega arith in
              let above : y < head links place = subst (λ k. y < head links k) is here in
              absurd (omega (arith, above, at.to some_link))
        ]
  ];
}

-- it is at no place up to one that has another head
pub not_here : (links : List Link) (y place : ℕ) (e : Link) → ((k : ℕ) → k < place → IsHeadAt links y k → ⊥) → (get_or links place e).to ≢ y → (k : ℕ) → k < place + 1 → IsHeadAt links y k → ⊥
not_here links y place e before apart k low at = elim (cases_lt k place) [
  | inl earlier ↦ before k earlier at
  | inr here ↦
      let is : k ≡ place = omega arith in
      apart (subst (λ (n : ℕ). (get_or links n e).to ≡ y) is (at.to e))
]
