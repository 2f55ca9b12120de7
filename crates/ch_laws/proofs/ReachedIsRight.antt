-- A reached hierarchy is right: each walk of the graph has a rise-fall walk that costs no more, and the other way round.
use Rattle.std.proofs.Common.{ℕ, ◌≡◌, ◌<◌, ◌↔◌, List, [], ◌∷◌, ◌++◌, Option, Some, None, Contains, arith, refl, sym, ◌∙◌, ap, subst, inl, inr}
use Rattle.ch_cost.specs.declared.cost.Cost.{Cost}
use Rattle.ch_cost.specs.Cost.{◌⊕◌, ◌≼◌, IsWithin, IsNoLonger}
use Rattle.ch_cost.specs.Cost.Laws.{at_most_refl, at_most_trans, at_most_antisym, at_most-from_below, no_longer-from_within, cost-induction}
use Rattle.ch_graph.specs.declared.link.Link.{Link}
use Rattle.ch_graph.specs.Walk.{Walk, Walk.stay, Walk.go}
use Rattle.ch_graph.specs.Graph.{Graph, ArcOf, IsDistance}
use Rattle.ch_graph.specs.Limits.{IsGraph, bound_of}
use Rattle.ch_graph.specs.Hierarchy.{Hierarchy, Chain, Chain.nothing, Chain.then, IsRising, IsFalling, HasRiseFall, IsValue, Unfolds, Unfolds.whole, Unfolds.halves, IsArcOf}
use Rattle.ch_graph.specs.Walk.Laws.{Cheaper, join}
use Rattle.ch_graph.specs.Limits.Laws.{within_or_cheaper}
use Rattle.ch_graph.specs.Hierarchy.Chains.{chain-same, chain-join, one_link, chain-walk}
use Rattle.ch_graph.specs.Unfolding.{LinksUnfold}
use Rattle.ch_laws.specs.Contraction.{State, Contraction, IsReached, IsOver, IsMade}
use Rattle.ch_laws.specs.Theorems.{AlwaysRight, AlwaysWellMade}
use Rattle.ch_laws.proofs.OneContraction.{one_cost}
use Rattle.ch_laws.proofs.SoundStates.{IsSound, IsSplit, start-sound, reached-sound}
use Rattle.ch_laws.proofs.Detour.{Climbs, Drops}
use Rattle.ch_laws.proofs.Passage.{Crest, start-progress, run-progress, over-progress}
use Rattle.ch_laws.proofs.MadeHierarchy.{before-rank, arc-link, link-sound, link-arc, made-well}

-- some chain of links of a kind
record HasChain (IsKind : Link → Type 0) (x z : ℕ) (c : Cost) : Type 0 where
  links : List Link
  chain : Chain IsKind links x z c

-- one more link in front, at the cost that its arc has
chain-before : {IsKind : Link → Type 0} {y z : ℕ} {c d : Cost} (l : Link) → IsKind l → l.to ≡ y → l.cost ≡ c → HasChain IsKind y z d → HasChain IsKind l.from z (c ⊕ d)
chain-before {IsKind} {y} {z} {c} {d} l kind to costs more = record {
  links = l ∷ more.links;
  chain = chain-same (ap (λ (e : Cost). e ⊕ d) costs) (then kind refl (subst (λ n. Chain IsKind more.links n z d) (sym to) more.chain));
}

-- some rise-fall walk costs at most c
record HasNoDearer (h : Hierarchy) (x z : ℕ) (c : Cost) : Type 0 where
  cost : Cost
  rise_fall : HasRiseFall h x z cost
  at_most : cost ≼ c

module _ {g : Graph} {s : State} {h : Hierarchy} (sound : IsSound g s) (over : IsOver s) (made : IsMade g s h) where
  -- what rises in the order rises in rank, and what falls falls
  rise-chain : {x z : ℕ} {c : Cost} → Walk (Climbs s) x z c → HasChain (IsRising h) x z c
  rise-chain stay = record { links = []; chain = nothing }
  rise-chain (go {x = x} {y = y} arc more) =
      let low : y < s.nodes = omega (arith, (sound.arcs x y arc.arc.arc arc.arc.here).to_in, sound.nodes) in
      let l : Link = record { from = x; to = y; cost = arc.arc.arc.cost; middle = arc.arc.arc.middle } in
      chain-before l (record { among = arc-link sound over made x y arc.arc.arc arc.arc.here; rises = before-rank sound over made arc.before low }) refl arc.arc.costs (rise-chain more)

  -- the same downwards
  fall-chain : {x z : ℕ} {c : Cost} → Walk (Drops s) x z c → HasChain (IsFalling h) x z c
  fall-chain stay = record { links = []; chain = nothing }
  fall-chain (go {x = x} {y = y} arc more) =
      let low : x < s.nodes = omega (arith, (sound.arcs x y arc.arc.arc arc.arc.here).from_in, sound.nodes) in
      let l : Link = record { from = x; to = y; cost = arc.arc.arc.cost; middle = arc.arc.arc.middle } in
      chain-before l (record { among = arc-link sound over made x y arc.arc.arc arc.arc.here; falls = before-rank sound over made arc.before low }) refl arc.arc.costs (fall-chain more)

  -- so a crest that isn't heavy is a rise-fall walk
  crest-rise_fall : {x z : ℕ} {c : Cost} → IsWithin c (bound_of g) → Crest s x z c → HasRiseFall h x z c
  crest-rise_fall {c = c} within crest =
      let rise = rise-chain crest.rise in
      let fall = fall-chain crest.fall in
      record {
        links = rise.links ++ fall.links;
        leads = record { rise = rise.links; fall = fall.links; top = crest.top; up = crest.up; down = crest.down; parts = refl; rises = rise.chain; falls = fall.chain; sum = crest.sum };
        short = subst (λ (b : Cost). IsNoLonger c b) (sym made.bound) (no_longer-from_within within);
      }

  -- and a rise-fall walk is a walk of the graph
  rise_fall-walk : {x z : ℕ} {c : Cost} → HasRiseFall h x z c → Walk (ArcOf g) x z c
  rise_fall-walk {x} {z} has =
      let rise = chain-walk (λ l kind. (link-sound sound over made l kind.among).walk) has.leads.rises in
      let fall = chain-walk (λ l kind. (link-sound sound over made l kind.among).walk) has.leads.falls in
      subst (λ (c : Cost). Walk (ArcOf g) x z c) (sym has.leads.sum) (join rise fall)

  -- an unfolded link is a chain of arcs of the graph
  unfolded-chain : {l : Link} {arcs : List Link} → Unfolds h l arcs → Contains h.links l → Chain (IsArcOf g) arcs l.from l.to l.cost
  unfolded-chain (whole {l} none) among = one_link l ((link-sound sound over made l among).whole none)
  unfolded-chain (halves {l = l} {a = a} {b = b} {m = m} {ls = ls} {rs = rs} some first second left right) among =
      let split : IsSplit s l.from l.to m l.cost = (link-sound sound over made l among).split m some in
      let into : split.into ≡ a.cost = one_cost split.first (link-arc sound over made first) in
      let out : split.out ≡ b.cost = one_cost split.second (link-arc sound over made second) in
      let costs : a.cost ⊕ b.cost ≡ l.cost = sym (split.adds ∙ ap (λ (c : Cost). c ⊕ split.out) into ∙ ap (λ (c : Cost). a.cost ⊕ c) out) in
      let lower : Chain (IsArcOf g) ls l.from m a.cost = subst (λ n. Chain (IsArcOf g) ls l.from n a.cost) first.to (subst (λ n. Chain (IsArcOf g) ls n a.to a.cost) first.from (unfolded-chain left first.among)) in
      let upper : Chain (IsArcOf g) rs m l.to b.cost = subst (λ n. Chain (IsArcOf g) rs m n b.cost) second.to (subst (λ n. Chain (IsArcOf g) rs n b.to b.cost) second.from (unfolded-chain right second.among)) in
      chain-same costs (chain-join lower upper)

-- The law

module _ {g : Graph} {log : List Contraction} {s : State} {h : Hierarchy} (is : IsGraph g) (reached : IsReached g log s) (over : IsOver s) (made : IsMade g s h) where
  -- for each walk some rise-fall walk costs no more
  no_dearer : (c : Cost) (x z : ℕ) → Walk (ArcOf g) x z c → HasNoDearer h x z c
  no_dearer = cost-induction (λ c. (x z : ℕ) → Walk (ArcOf g) x z c → HasNoDearer h x z c) (λ c smaller x z w.
      let by_cheaper : Cheaper (ArcOf g) x z c → HasNoDearer h x z c = λ less.
      let found = smaller less.cost less.below x z less.walk in
      record { cost = found.cost; rise_fall = found.rise_fall; at_most = at_most_trans found.at_most (at_most-from_below less.below) } in
      elim (within_or_cheaper g is w) [
        | inr less ↦ by_cheaper less
        | inl within ↦ elim (over-progress over (run-progress reached.run (start-sound is reached.starts) within (start-progress is reached.starts w))) [
          | inl crest ↦ record { cost = c; rise_fall = crest-rise_fall (reached-sound is reached) over made within crest; at_most = at_most_refl c }
          | inr less ↦ by_cheaper less
        ]
      ])

  -- so distances and values are the same
  value-same : (x z : ℕ) (c : Option Cost) → IsDistance g x z c ↔ IsValue h x z c
  value-same x z (Some c) = (
    λ distance.
        let found = no_dearer c x z distance.0 in
        let same : found.cost ≡ c = at_most_antisym found.at_most (distance.1 found.cost (rise_fall-walk (reached-sound is reached) over made found.rise_fall)) in
        (subst (λ (d : Cost). HasRiseFall h x z d) same found.rise_fall, λ d has. distance.1 d (rise_fall-walk (reached-sound is reached) over made has)),
    λ value. (
      rise_fall-walk (reached-sound is reached) over made value.0,
      λ d w.
          let found = no_dearer d x z w in
          at_most_trans (value.1 found.cost found.rise_fall) found.at_most,
    ),
  )
  value-same x z None = (
    λ none c has. none c (rise_fall-walk (reached-sound is reached) over made has),
    λ none c w. let found = no_dearer c x z w in none found.cost found.rise_fall,
  )

-- the law that the hierarchy is right
pub always_right : LinksUnfold → AlwaysRight
always_right links_unfold g log s h is reached over made =
    let sound = reached-sound is reached in
    let well = made-well sound over made is in
    record {
      nodes = made.nodes ∙ sound.nodes;
      value = λ x z c from_in to_in. value-same is reached over made x z c;
      unfolds = λ l among. let found = links_unfold h l well among in (found.0, found.1);
      unfolded = λ l arcs among unfolds. unfolded-chain sound over made unfolds among;
    }

-- and that it is well made
pub always_well_made : AlwaysWellMade
always_well_made g log s h is reached over made = made-well (reached-sound is reached) over made is
