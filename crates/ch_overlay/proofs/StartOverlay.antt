-- The overlay of a graph in which no node is contracted.
use Rattle.std.proofs.Common.{ℕ, ◌≡◌, ◌≢◌, ◌<◌, ◌⊎◌, nat_eq, true, List, [], length, get_or, map, Option, None, Contains, arith, refl, sym, ◌∙◌, ap, subst, inl, inr}
use Rattle.std.specs.List.{filter}
use Rattle.std.proofs.lemmas.Bool.Decides.{nat_tests}
use Rattle.std.proofs.lemmas.List.{get_or-map, length-map}
use Rattle.std.proofs.lemmas.List.Elements.{All-contains}
use Rattle.std.proofs.lemmas.List.Kept.{AllPairs-filter}
use Rattle.std.proofs.lemmas.List.Elements.{filter_passes}
use Rattle.ch_cost.specs.declared.cost.Cost.{Cost}
use Rattle.ch_cost.specs.Cost.{◌≼◌, of_weight}
use Rattle.ch_cost.specs.Cost.Laws.{arc_at_most, at_most_antisym}
use Rattle.ch_graph.specs.declared.road.Road.{Road}
use Rattle.ch_graph.specs.Graph.{Graph}
use Rattle.ch_graph.specs.Limits.{IsGraph, bound_of}
use Rattle.ch_graph.specs.LeastArcs.{IsLeastArc}
use Rattle.ch_laws.specs.declared.entry.Entry.{Entry}
use Rattle.ch_laws.specs.Contraction.{IsStart}
use Rattle.ch_laws.specs.Rows.{Row, Rises, IsPlain, IsStartRow, AreRows, state_by}
use Rattle.ch_laws.specs.Members.{contains-map, contains-mapped}
use Rattle.ch_laws.specs.Theorems.{RowsStart}
use Rattle.ch_overlay.specs.Overlay.{IsOverlay, row_at, state_of}
use Rattle.ch_overlay.specs.Opening.{out_entry, in_entry, opening_row, AreLeast, EndsRise}
use Rattle.ch_overlay.proofs.KeptArcs.{kept_in, in_kept}
use Rattle.ch_overlay.proofs.EntriesOfArcs.{entries-sound}

-- What an opening row has

from_test : (r : Road) (x : ℕ) → nat_eq r.from x ≡ true → r.from ≡ x
from_test r x e = grind (arith, nat_tests, e)

to_test : (r : Road) (x : ℕ) → nat_eq r.to x ≡ true → r.to ≡ x
to_test r x e = grind (arith, nat_tests, e)

test_from : (r : Road) (x : ℕ) → r.from ≡ x → nat_eq r.from x ≡ true
test_from r x e = grind (arith, nat_tests, e)

test_to : (r : Road) (x : ℕ) → r.to ≡ x → nat_eq r.to x ≡ true
test_to r x e = grind (arith, nat_tests, e)

-- an entry of an opening row is that of an arc
pub out_from_entry : (arcs : List Road) (x : ℕ) (e : Entry) → Contains (opening_row arcs x).out e → (r : Road) × Contains arcs r × (r.from ≡ x) × (out_entry r ≡ e)
unfolding opening_row
out_from_entry arcs x e h =
    let found = contains-mapped out_entry (filter (λ r. nat_eq r.from x) arcs) e h in
    let kept = kept_in (λ r. nat_eq r.from x) arcs found.0 found.1 in
    (found.0, kept.0, from_test found.0 x kept.1, found.2)

pub in_from_entry : (arcs : List Road) (x : ℕ) (e : Entry) → Contains (opening_row arcs x).inn e → (r : Road) × Contains arcs r × (r.to ≡ x) × (in_entry r ≡ e)
unfolding opening_row
in_from_entry arcs x e h =
    let found = contains-mapped in_entry (filter (λ r. nat_eq r.to x) arcs) e h in
    let kept = kept_in (λ r. nat_eq r.to x) arcs found.0 found.1 in
    (found.0, kept.0, to_test found.0 x kept.1, found.2)

pub out_to_entry : (arcs : List Road) (r : Road) → Contains arcs r → Contains (opening_row arcs r.from).out (out_entry r)
unfolding opening_row
out_to_entry arcs r among = contains-map out_entry (filter (λ q. nat_eq q.from r.from) arcs) r (in_kept (λ q. nat_eq q.from r.from) arcs r among (test_from r r.from refl))

pub in_to_entry : (arcs : List Road) (r : Road) → Contains arcs r → Contains (opening_row arcs r.to).inn (in_entry r)
unfolding opening_row
in_to_entry arcs r among = contains-map in_entry (filter (λ q. nat_eq q.to r.to) arcs) r (in_kept (λ q. nat_eq q.to r.to) arcs r among (test_to r r.to refl))

mapped_rises : (f : Road → Entry) (rs : List Road) → ((i j : ℕ) (d : Road) → i < j → j < length rs → (f (get_or rs i d)).other < (f (get_or rs j d)).other) → (d : Road) → Rises (map f rs)
mapped_rises f rs rising d i j e less h =
    let long = length-map rs f in
    let low : i < length rs = omega (arith, less, h, long) in
    let high : j < length rs = omega (arith, h, long) in
    let first = get_or-map f rs i d e low in
    let second = get_or-map f rs j d e high in
    subst (λ (a : Entry). a.other < (get_or (map f rs) j e).other) (sym first) (subst (λ (a : Entry). (f (get_or rs i d)).other < a.other) (sym second) (rising i j d less high))

nowhere : Road
nowhere = record { from = 0; to = 0; weight = 0 }

pub out_rises : (arcs : List Road) (x : ℕ) → EndsRise arcs → Rises (opening_row arcs x).out
unfolding opening_row
out_rises arcs x rising =
    let kept = AllPairs-filter (λ (a b : Road). (a.from < b.from) ⊎ ((a.from ≡ b.from) × (a.to < b.to))) (λ r. nat_eq r.from x) arcs rising in
    let all = filter_passes (λ (r : Road). nat_eq r.from x) arcs in
    mapped_rises out_entry (filter (λ r. nat_eq r.from x) arcs) (λ i j d less h.
    let first = from_test (get_or (filter (λ r. nat_eq r.from x) arcs) i d) x (all i d (omega (arith, less, h))) in
    let second = from_test (get_or (filter (λ r. nat_eq r.from x) arcs) j d) x (all j d h) in
    elim (kept i j d less h) [ inl below ↦ absurd (omega (arith, below, first, second)) | inr both ↦ both.1 ]) nowhere

pub in_rises : (arcs : List Road) (x : ℕ) → EndsRise arcs → Rises (opening_row arcs x).inn
unfolding opening_row
in_rises arcs x rising =
    let kept = AllPairs-filter (λ (a b : Road). (a.from < b.from) ⊎ ((a.from ≡ b.from) × (a.to < b.to))) (λ r. nat_eq r.to x) arcs rising in
    let all = filter_passes (λ (r : Road). nat_eq r.to x) arcs in
    mapped_rises in_entry (filter (λ r. nat_eq r.to x) arcs) (λ i j d less h.
    let first = to_test (get_or (filter (λ r. nat_eq r.to x) arcs) i d) x (all i d (omega (arith, less, h))) in
    let second = to_test (get_or (filter (λ r. nat_eq r.to x) arcs) j d) x (all j d h) in
    elim (kept i j d less h) [ inl below ↦ below | inr both ↦ absurd (omega (arith, both.1, first, second)) ]) nowhere

pub no_rank : (arcs : List Road) (x : ℕ) → (opening_row arcs x).rank ≡ None
unfolding opening_row
no_rank arcs x = refl

abbrev made : ℕ → Cost → Option ℕ → Entry
made n d k = record { other = n; cost = d; middle = k }

-- The state that opening rows show

entries_same : (e f : Entry) → e ≡ f → (e.other ≡ f.other) × (e.cost ≡ f.cost) × (e.middle ≡ f.middle)
entries_same e f same = (ap (λ (a : Entry). a.other) same, ap (λ (a : Entry). a.cost) same, ap (λ (a : Entry). a.middle) same)

entry_is : (e : Entry) (other : ℕ) (cost : Cost) → other ≡ e.other → cost ≡ e.cost → None ≡ e.middle → made other cost None ≡ e
entry_is e other cost o c m = ap (λ n. made n cost None) o ∙ ap (λ (d : Cost). made e.other d None) c ∙ ap (λ (k : Option ℕ). made e.other e.cost k) m

module _ (g : Graph) (is : IsGraph g) (least : List Road) (are : AreLeast g.arcs least) where
  -- the arcs are the least ones between different nodes
  of_least : (r : Road) (x y : ℕ) (c : Cost) → Contains least r → r.from ≡ x → r.to ≡ y → of_weight r.weight ≡ c → (x ≢ y) × IsLeastArc g x y c
  of_least r x y c among from to costs = (
    λ same. All-contains (λ (q : Road). q.from ≢ q.to) least r are.apart among (from ∙ same ∙ sym to),
    (
      record { road = r; among = All-contains (λ (q : Road). Contains g.arcs q) least r are.among among; from = from; to = to; costs = costs },
      λ d arc.
          let weights = are.at_most r arc.road among arc.among (from ∙ sym arc.from, to ∙ sym arc.to) in
          subst (λ (c : Cost). c ≼ d) costs (subst (λ (d : Cost). of_weight r.weight ≼ d) arc.costs (arc_at_most weights)),
    ),
  )

  least_of : (x y : ℕ) (c : Cost) → x ≢ y → IsLeastArc g x y c → (r : Road) × Contains least r × (r.from ≡ x) × (r.to ≡ y) × (of_weight r.weight ≡ c)
  least_of x y c apart arc =
      let q = arc.0.road in
      let found = are.whole q arc.0.among (λ same. apart (sym arc.0.from ∙ same ∙ arc.0.to)) in
      let r = found.0 in
      let among = All-contains (λ (q : Road). Contains g.arcs q) least r are.among found.1 in
      let from = found.2.0 ∙ arc.0.from in
      let to = found.2.1 ∙ arc.0.to in
      let lighter = subst (λ (d : Cost). of_weight r.weight ≼ d) arc.0.costs (arc_at_most (are.at_most r q found.1 arc.0.among found.2)) in
      let heavier = arc.1 (of_weight r.weight) (record { road = r; among = among; from = from; to = to; costs = refl }) in
      (r, found.1, from, to, at_most_antisym lighter heavier)

  -- so the opening rows are those of the start
  start_row : (x : ℕ) → IsStartRow g x (opening_row least x)
  start_row x = record {
    rank = no_rank least x;
    out_rises = out_rises least x are.rising;
    inn_rises = in_rises least x are.rising;
    out = λ e. (
      λ h.
          let found = out_from_entry least x e h in
          let parts = entries_same (out_entry found.0) e found.3 in
          let arc = of_least found.0 x e.other e.cost found.1 found.2 parts.0 parts.1 in
          (arc.0, arc.1, sym parts.2),
      λ h.
          let found = least_of x e.other e.cost h.0 h.1 in
          subst (λ (f : Entry). Contains (opening_row least x).out f) (entry_is e found.0.to (of_weight found.0.weight) found.3 found.4 (sym h.2))
          (subst (λ z. Contains (opening_row least z).out (out_entry found.0)) found.2 (out_to_entry least found.0 found.1)),
    );
    inn = λ e. (
      λ h.
          let found = in_from_entry least x e h in
          let parts = entries_same (in_entry found.0) e found.3 in
          let arc = of_least found.0 e.other x e.cost found.1 parts.0 found.2 parts.1 in
          (λ same. arc.0 (sym same), arc.1, sym parts.2),
      λ h.
          let found = least_of e.other x e.cost (λ same. h.0 (sym same)) h.1 in
          subst (λ (f : Entry). Contains (opening_row least x).inn f) (entry_is e found.0.from (of_weight found.0.weight) found.2 found.4 (sym h.2))
          (subst (λ z. Contains (opening_row least z).inn (in_entry found.0)) found.3 (in_to_entry least found.0 found.1)),
    );
  }

  module _ (rows_start : RowsStart) (rows : List Row) (count : length rows ≡ g.nodes) (at : (x : ℕ) → x < g.nodes → row_at rows x ≡ opening_row least x) where
    begun : IsStart g (state_by rows []) × AreRows (state_by rows []) rows × IsPlain (bound_of g) (state_by rows [])
    begun = rows_start g rows is count (λ x inside. subst (λ (r : Row). IsStartRow g x r) (sym (at x inside)) (start_row x))

    pub starts : (bound : Cost) (versions : List ℕ) → IsStart g (state_of (record { bound = bound; rows = rows; versions = versions; order = [] }))
    starts bound versions = begun.0

    pub opens : (versions : List ℕ) → length versions ≡ g.nodes → IsOverlay (record { bound = bound_of g; rows = rows; versions = versions; order = [] })
    opens versions long = record {
      few_nodes = omega (arith, count, is.few_nodes);
      versions = long ∙ sym count;
      once = λ i j d less h. absurd (omega (arith, h));
      plain = begun.2;
      rows = begun.1.each;
      entries = λ x inside. entries-sound (bound_of g) (state_by rows []) x (row_at rows x) begun.2 (begun.1.each x inside);
    }
