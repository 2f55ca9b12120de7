-- A sweep, node by node.
use Rattle.std.proofs.Common.{ℕ, ◌≡◌, ◌+◌, ◌-◌, ◌<◌, ◌≤◌, Bool, true, false, cond, List, [], ◌∷◌, ◌++◌, Option, Some, None, is_none, length, map, filter, All, Contains, append_assoc, arith, ap, sym, subst, refl, ◌∙◌, inl, inr}
use Rattle.std.specs.List.{range_with_len}
use Rattle.std.proofs.lemmas.Bool.{cases_Bool, false≢true}
use Rattle.std.proofs.lemmas.List.{append-nil, map-append}
use Rattle.std.proofs.lemmas.List.Elements.{All-contains, All-filter, Contains-append_left, Contains-append_right, Contains-append_cases, filter-append}
use Rattle.std.proofs.lemmas.List.FromFn.{get_or-range_with_len, length-range_with_len}
use Rattle.ch_graph.specs.Graph.{Graph}
use Rattle.ch_graph.specs.Limits.{bound_of}
use Rattle.ch_laws.specs.Contraction.{State, Contraction, Step, rest, IsAlive}
use Rattle.ch_laws.specs.Orders.{run_push}
use Rattle.ch_laws.specs.Rows.{Row, IsRow}
use Rattle.ch_laws.specs.Members.{contains_first, contains_later, contains_cases, contains_place, place_of}
use Rattle.ch_overlay.specs.Overlay.{Overlay, IsOverlay, row_at, state_of}
use Rattle.ch_overlay.specs.Ranges.{contains-range, range_with_len-append, range_with_len-more}
use Rattle.ch_contract.specs.declared.contraction.Receipt.{Receipt}
use Rattle.ch_contract.specs.Ledger.{Ledger, receipt_of, alive_nodes}
use Rattle.ch_contract.specs.Sweep.{AreContracted, IsSwept, IsPartlySwept, IsTaken, IsVisited}

-- Ranks

-- a node whose row has no rank isn't contracted
pub waits-from_none : {s : State} {x : ℕ} {r : Row} → IsRow s x r → is_none r.rank ≡ true → Contains s.order x → ⊥
waits-from_none {s} {x} {r} row none among =
    let ranked : r.rank ≡ Some among.0 = (row.rank among.0).1 (among.1, place_of s.order x among) in
    false≢true (subst (λ o. is_none o ≡ true) ranked none)

-- and one whose row has a rank is
pub gone-from_some : {s : State} {x : ℕ} {r : Row} → IsRow s x r → is_none r.rank ≡ false → Contains s.order x
gone-from_some {s} {x} {r} row some = by_rank r.rank refl
  where
    by_rank : (o : Option ℕ) → r.rank ≡ o → Contains s.order x
    by_rank None is = absurd (false≢true (sym some ∙ ap is_none is))
    by_rank (Some k) is = let at = (row.rank k).0 is in contains_place s.order k 0 x at.0 at.1

module _ (o : Overlay) (is : IsOverlay o) (x : ℕ) (in_range : x < length o.rows) where
  -- so the rows show which nodes aren't contracted
  pub alive-from_none : is_none (row_at o.rows x).rank ≡ true → IsAlive (state_of o) x
  alive-from_none none = record { in_range = in_range; waits = waits-from_none (is.rows x in_range) none }

  pub none-from_alive : IsAlive (state_of o) x → is_none (row_at o.rows x).rank ≡ true
  none-from_alive alive = elim (cases_Bool (is_none (row_at o.rows x).rank)) [
    | inl none ↦ none
    | inr some ↦ absurd (alive.waits (gone-from_some (is.rows x in_range) some))
  ]

-- Node by node

-- the nodes below this one that weren't contracted before the sweep
abbrev pub alive_below : Ledger → ℕ → List ℕ
alive_below b i = filter (λ x. is_none (row_at b.overlay.rows x).rank) (range_with_len 0 i)

-- the nodes below this one are all contracted
pub record IsSweptTo (old : Ledger) (i : ℕ) (receipts : List Receipt) (now : Ledger) : Type 0 where
  pub entries : List Contraction
  pub contracted : AreContracted old (alive_below old i) entries now
  pub handed : receipts ≡ map receipt_of entries
  pub count : length now.overlay.rows ≡ length old.overlay.rows
  pub order : now.overlay.order ≡ old.overlay.order ++ alive_below old i

-- none is at first
pub swept-start : (l : Ledger) → IsSweptTo l 0 [] l
swept-start l = record {
  entries = [];
  contracted = record { graph = refl; log = sym (append-nil l.log); of_nodes = refl; run = rest };
  handed = refl;
  count = refl;
  order = sym (append-nil l.overlay.order);
}

-- nor where nothing is done
pub unswept : (l : Ledger) → IsPartlySwept l l
unswept l = record {
  entries = [];
  nodes = [];
  left = alive_nodes l;
  contracted = record { graph = refl; log = sym (append-nil l.log); of_nodes = refl; run = rest };
  first = refl;
}

below-range : (i : ℕ) → All (λ x. x < i) (range_with_len 0 i)
below-range i k d h =
    let long : length (range_with_len 0 i) ≡ i = length-range_with_len 0 i in
    let low : k < i = omega arith in
    rw (get_or-range_with_len 0 i k d low) (omega arith)

module _ (old now : Ledger) (i : ℕ) (receipts : List Receipt) (is : IsOverlay old.overlay) (inside : i < length old.overlay.rows) (so_far : IsSweptTo old i receipts now) where
  -- the next node isn't among those that were contracted
  apart : Contains (alive_below old i) i → ⊥
  apart among = absurd (omega (arith, All-contains (λ x. x < i) (alive_below old i) i (All-filter (λ x. is_none (row_at old.overlay.rows x).rank) (λ x. x < i) (range_with_len 0 i) (below-range i)) among))

  -- so it waits where it waited before the sweep
  still_alive : IsAlive (state_of old.overlay) i → IsAlive (state_of now.overlay) i
  still_alive alive = record {
    in_range = subst (λ n. i < n) (sym so_far.count) inside;
    waits = λ among. elim (Contains-append_cases old.overlay.order (alive_below old i) i (subst (λ (xs : List ℕ). Contains xs i) so_far.order among)) [
      | inl before ↦ alive.waits before
      | inr since ↦ apart since
    ];
  }

  was_alive : IsAlive (state_of now.overlay) i → IsAlive (state_of old.overlay) i
  was_alive alive = record {
    in_range = inside;
    waits = λ among. alive.waits (subst (λ (xs : List ℕ). Contains xs i) (sym so_far.order) (Contains-append_left old.overlay.order (alive_below old i) i among));
  }

  more : alive_below old (i + 1) ≡ alive_below old i ++ cond (is_none (row_at old.overlay.rows i).rank) (i ∷ []) []
  more =
      let here : 0 + i ≡ i = omega arith in
      let p : ℕ → Bool = λ x. is_none (row_at old.overlay.rows x).rank in
      ap (filter p) (range_with_len-more 0 i) ∙ filter-append p (range_with_len 0 i) ((0 + i) ∷ []) ∙ ap (λ x. alive_below old i ++ filter p (x ∷ [])) here

  -- the next node comes behind them where it waits, and they stay where it doesn't
  next_none : is_none (row_at old.overlay.rows i).rank ≡ true → alive_below old (i + 1) ≡ alive_below old i ++ i ∷ []
  next_none none = more ∙ ap (λ b. alive_below old i ++ cond b (i ∷ []) []) none

  next_some : is_none (row_at old.overlay.rows i).rank ≡ false → alive_below old (i + 1) ≡ alive_below old i
  next_some some = more ∙ ap (λ b. alive_below old i ++ cond b (i ∷ []) []) some ∙ append-nil (alive_below old i)

  taken : (new : Ledger) (after : List Receipt) → IsTaken now i receipts new after → IsSweptTo old (i + 1) after new
  taken new after t =
      let e = t.contracted.entry in
      let nodes : alive_below old (i + 1) ≡ alive_below old i ++ i ∷ [] = next_none (none-from_alive old.overlay is i inside (was_alive t.alive)) in
      let order : new.overlay.order ≡ now.overlay.order ++ i ∷ [] = ap (λ (s : State). s.order) t.contracted.state in
      record {
        entries = so_far.entries ++ e ∷ [];
        contracted = record {
          graph = t.contracted.contracts.graph ∙ so_far.contracted.graph;
          log = t.contracted.contracts.log ∙ ap (λ (es : List Contraction). es ++ e ∷ []) so_far.contracted.log ∙ append_assoc old.log so_far.entries (e ∷ []);
          of_nodes = map-append (λ (f : Contraction). f.node) so_far.entries (e ∷ []) ∙ ap (λ ns. ns ++ e.node ∷ []) so_far.contracted.of_nodes ∙ ap (λ n. alive_below old i ++ n ∷ []) t.contracted.of_node ∙ sym nodes;
          run = run_push so_far.contracted.run (subst (λ (g : Graph). Step (bound_of g) (state_of now.overlay) e (state_of new.overlay)) so_far.contracted.graph t.contracted.contracts.step);
        };
        handed = t.handed ∙ ap (λ (rs : List Receipt). rs ++ t.receipt ∷ []) so_far.handed ∙ ap (λ (r : Receipt). map receipt_of so_far.entries ++ r ∷ []) t.contracted.handed ∙ sym (map-append receipt_of so_far.entries (e ∷ []));
        count = ap (λ (s : State). s.nodes) t.contracted.state ∙ so_far.count;
        order = order ∙ ap (λ ns. ns ++ i ∷ []) so_far.order ∙ append_assoc old.overlay.order (alive_below old i) (i ∷ []) ∙ ap (λ ns. old.overlay.order ++ ns) (sym nodes);
      }

  passed : (after : List Receipt) → after ≡ receipts → (IsAlive (state_of now.overlay) i → ⊥) → IsSweptTo old (i + 1) after now
  passed after nothing gone =
      let nodes : alive_below old (i + 1) ≡ alive_below old i = elim (cases_Bool (is_none (row_at old.overlay.rows i).rank)) [
        | inl none ↦ absurd (gone (still_alive (alive-from_none old.overlay is i inside none)))
        | inr some ↦ next_some some
      ] in
      record {
        entries = so_far.entries;
        contracted = record { graph = so_far.contracted.graph; log = so_far.contracted.log; of_nodes = so_far.contracted.of_nodes ∙ sym nodes; run = so_far.contracted.run };
        handed = nothing ∙ so_far.handed;
        count = so_far.count;
        order = so_far.order ∙ ap (λ ns. old.overlay.order ++ ns) (sym nodes);
      }

  -- and after it is visited it is contracted too
  pub swept-more : (new : Ledger) (after : List Receipt) → IsVisited now i receipts new after → IsSweptTo old (i + 1) after new
  swept-more new after (inl t) = taken new after t
  swept-more new after (inr p) = subst (λ (b : Ledger). IsSweptTo old (i + 1) after b) (sym p.same) (passed after p.nothing p.gone)

-- The end

-- an element that passes is kept
contains-filter : (p : ℕ → Bool) (xs : List ℕ) (x : ℕ) → p x ≡ true → Contains xs x → Contains (filter p xs) x
contains-filter p [] x passes among = absurd (omega (arith, among.1))
contains-filter p (y ∷ ys) x passes among = elim (contains_cases y ys x among) [
  | inl here ↦
      let keeps : p y ≡ true = ap p here ∙ passes in
      rw keeps (subst (λ z. Contains (z ∷ filter p ys) x) (sym here) (contains_first x (filter p ys)))
  | inr later ↦ elim (cases_Bool (p y)) [
    | inl keeps ↦ rw keeps (contains_later y (filter p ys) x (contains-filter p ys x passes later))
    | inr drops ↦ rw drops (contains-filter p ys x passes later)
  ]
]

module _ (old now : Ledger) (i : ℕ) (receipts : List Receipt) (is : IsOverlay old.overlay) (so_far : IsSweptTo old i receipts now) where
  -- once all nodes were visited, all are contracted
  pub swept-all : i ≡ length old.overlay.rows → IsSwept old receipts now
  swept-all all = record {
    entries = so_far.entries;
    contracted = subst (λ n. AreContracted old (alive_below old n) so_far.entries now) all so_far.contracted;
    handed = so_far.handed;
    over = λ x h. let inside : x < length old.overlay.rows = subst (λ n. x < n) so_far.count h in
        subst (λ (xs : List ℕ). Contains xs x) (sym so_far.order) (elim (cases_Bool (is_none (row_at old.overlay.rows x).rank)) [
          | inl none ↦ Contains-append_right old.overlay.order (alive_below old i) x (contains-filter (λ y. is_none (row_at old.overlay.rows y).rank) (range_with_len 0 i) x none (contains-range i x (omega arith)))
          | inr some ↦ Contains-append_left old.overlay.order (alive_below old i) x (gone-from_some (is.rows x inside) some)
        ]);
  }

  -- and before that the first of them are
  pub swept-partly : i ≤ length old.overlay.rows → IsPartlySwept old now
  swept-partly few =
      let p : ℕ → Bool = λ x. is_none (row_at old.overlay.rows x).rank in
      let left : ℕ = length old.overlay.rows - i in
      let all : length old.overlay.rows ≡ i + left = omega arith in
      record {
        entries = so_far.entries;
        nodes = alive_below old i;
        left = filter p (range_with_len (0 + i) left);
        contracted = so_far.contracted;
        first = ap (alive_below old) all ∙ ap (filter p) (range_with_len-append 0 i left) ∙ filter-append p (range_with_len 0 i) (range_with_len (0 + i) left);
      }
