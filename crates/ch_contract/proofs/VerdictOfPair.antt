-- What a proposal says of one pair.
use Rattle.std.proofs.Common.{ℕ, ◌≡◌, ◌≢◌, Option, Some, None, true, SomeIff, Contains, ap, sym, subst, refl, ◌∙◌}
use Rattle.std.specs.Option.{is_some}
use Rattle.ch_cost.specs.declared.cost.Cost.{Cost}
use Rattle.ch_cost.specs.Cost.{◌⊕◌, IsWithin}
use Rattle.ch_laws.specs.declared.shortcut.Shortcut.{Shortcut}
use Rattle.ch_laws.specs.Contraction.{NoShortcut}
use Rattle.ch_laws.specs.Rows.{Row, Rises, Lists}
use Rattle.ch_laws.specs.Verdicts.{ListsThrough}
use Rattle.ch_overlay.specs.Source.{row_of}
use Rattle.ch_overlay.specs.Entries.{one_cost}
use Rattle.ch_contract.specs.Proposal.{Proposal, IsProposal, IsVerdict, HasShortcut, Joins}
use Rattle.ch_contract.specs.declared.verdict.Verdict.TheVariants as verdicts
use Rattle.ch_contract.proofs.SomeValues.{some-same}

-- a sum that there is is within the bound
pub sum_within : (sum : Option Cost) (P : Type 0) (c : Cost) → SomeIff sum P c → is_some sum ≡ true → P
sum_within None P c iff some = absurd (cc)
sum_within (Some d) P c iff some = iff.0

-- so a row joins a pair at one sum
one_sum : (row : Row) → Rises row.inn → Rises row.out → (u w : ℕ) (a b : Cost) → ListsThrough row u w a → ListsThrough row u w b → a ≡ b
one_sum row inn out u w a b first second =
    let left : first.into ≡ second.into = one_cost row.inn inn u first.into second.into first.first second.first in
    let right : first.out ≡ second.out = one_cost row.out out w first.out second.out first.second second.second in
    first.adds ∙ ap (λ (c : Cost). c ⊕ first.out) left ∙ ap (λ (c : Cost). second.into ⊕ c) right ∙ sym second.adds

module _ (p : Proposal) (holds : IsProposal p) (row : Row) (read : row_of p.rests_on p.node ≡ Some row) where
  -- the row that was read is the one that the verdicts are by
  pub same_row : (other : Row) → row_of p.rests_on p.node ≡ Some other → other ≡ row
  same_row other is = some-same other row (sym is ∙ read)

  -- without an arc in, or one out, a pair isn't joined
  pub no_arc_in : (u w : ℕ) → ((c : Cost) → Lists row.inn u c → ⊥) → (sum : Cost) → Joins p u w sum → ⊥
  no_arc_in u w none sum joins = none joins.through.into (subst (λ (r : Row). Lists r.inn u joins.through.into) (same_row joins.row joins.read) joins.through.first)

  pub no_arc_out : (u w : ℕ) → ((c : Cost) → Lists row.out w c → ⊥) → (sum : Cost) → Joins p u w sum → ⊥
  no_arc_out u w none sum joins = none joins.through.out (subst (λ (r : Row). Lists r.out w joins.through.out) (same_row joins.row joins.read) joins.through.second)

  module _ (inn : Rises row.inn) (out : Rises row.out) (u w : ℕ) (a b : Cost) (apart : u ≢ w) (first : Lists row.inn u a) (second : Lists row.out w b) where
    through : ListsThrough row u w (a ⊕ b)
    through = record { into = a; out = b; apart = apart; first = first; second = second; adds = refl }

    joined : Joins p u w (a ⊕ b)
    joined = record { row = row; read = read; through = through }

    by_row : ListsThrough holds.verdicts.row u w (a ⊕ b)
    by_row = subst (λ (r : Row). ListsThrough r u w (a ⊕ b)) (sym (same_row holds.verdicts.row holds.verdicts.read)) through

    pub heavy_pair : (IsWithin (a ⊕ b) p.bound → ⊥) → IsVerdict p u w (Some verdicts.Heavy)
    heavy_pair heavy = (a ⊕ b, joined, heavy)

    pub witness_pair : IsWithin (a ⊕ b) p.bound → NoShortcut p.shortcuts u w → IsVerdict p u w (Some verdicts.Witness)
    witness_pair within none = (a ⊕ b, joined, (within, none, holds.verdicts.ways u w (a ⊕ b) by_row within none))

    pub shortcut_pair : IsWithin (a ⊕ b) p.bound → HasShortcut p.shortcuts u w → IsVerdict p u w (Some verdicts.Shortcut)
    shortcut_pair within has =
        let q = has.0 in
        let there : ListsThrough row q.from q.to q.cost = subst (λ (r : Row). ListsThrough r q.from q.to q.cost) (same_row holds.verdicts.row holds.verdicts.read) ((holds.verdicts.shortcuts q has.1).through) in
        let here : ListsThrough row u w q.cost = subst (λ (x : ℕ). ListsThrough row x w q.cost) has.2 (subst (λ (y : ℕ). ListsThrough row q.from y q.cost) has.3 there) in
        let cost : q.cost ≡ a ⊕ b = one_sum row inn out u w q.cost (a ⊕ b) here through in
        let is : q ≡ record { from = u; to = w; cost = a ⊕ b } = ap (λ (x : ℕ). record { from = x; to = q.to; cost = q.cost }) has.2 ∙ ap (λ (y : ℕ). record { from = u; to = y; cost = q.cost }) has.3 ∙ ap (λ (c : Cost). record { from = u; to = w; cost = c }) cost in
        (a ⊕ b, joined, (within, subst (λ (s : Shortcut). Contains p.shortcuts s) is has.1))
