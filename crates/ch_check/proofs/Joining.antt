-- The pairs by way of a node: what is due for each, ways around it, and the verdicts.
use Rattle.std.proofs.Common.{ℕ, ◌≡◌, ◌^◌, ◌<◌, List, None, Some, All, length, arith, ap, sym, subst, refl, ◌∙◌, ◌+◌, [], ◌∷◌, ◌++◌, get_or, take, Contains, inl, inr, ◌≢◌, map, Option, slice_index}
use Rattle.std.proofs.lemmas.Option.{slice_get-get_or, slice_get_within, get_or_from_slice_get, IfSome_then}
use Rattle.std.proofs.lemmas.List.{take_more}
use Rattle.std.proofs.lemmas.List.Elements.{Contains-append_left, Contains-push, Contains-push_cases, Contains-get_or, All-contains, Contains-append_right, Contains-append_cases}
use Rattle.std.proofs.lemmas.List.Quantifiers.{all_pairs_push}
use Rattle.std.specs.List.{slice_get}
use Rattle.std.specs.Option.{IfSome, IsSomeAnd}
use Rattle.std.proofs.lemmas.Bool.{cases_lt}
use Rattle.ch_cost.specs.declared.cost.Cost.{Cost}
use Rattle.ch_cost.specs.Cost.{◌⊕◌, IsWithin, ◌≼◌}
use Rattle.ch_cost.specs.Cost.Laws.{sum-zero_cost}
use Rattle.ch_laws.specs.declared.entry.Entry.{Entry}
use Rattle.ch_laws.specs.Contraction.{IsAlive, Remains, IsFor, IsPlan, IsWitnessed, NoShortcut}
use Rattle.ch_laws.specs.Rows.{Row, IsRow, ShowsRemaining, Rises}
use Rattle.ch_laws.specs.Theorems.{RowOfAlive, VerdictsAreLawful}
use Rattle.ch_laws.specs.Verdicts.{AreRead, HasWay, AreVerdicts, IsForShortcut, ListsThrough, SeenArc}
use Rattle.ch_laws.specs.declared.shortcut.Shortcut.{Shortcut}
use Rattle.ch_laws.specs.Members.{contains_none, contains-mapped}
use Rattle.ch_laws.specs.Moving.{along_moved}
use Rattle.ch_overlay.specs.declared.source.Seen.{Seen}
use Rattle.ch_overlay.specs.Overlay.{Overlay, IsOverlay, IsEntry, AreEntries, no_arcs, row_at, state_of}
use Rattle.ch_overlay.specs.Source as sources
use Rattle.ch_overlay.specs.Source.{IsSeenRow, NamesAlone}
use Rattle.ch_overlay.specs.Pairs.{IsPairOf, over, target_at}
use Rattle.ch_overlay.specs.Entries.{last_is_past, one_entry}
use Rattle.ch_overlay.specs.Ranges.{AllPairs-take, AllPairs-append}
use Rattle.ch_overlay.specs.Finding.{row_among}
use Rattle.ch_witness.specs.Kept.{Kept, AreKept, IsKept}
use Rattle.ch_witness.specs.declared.way.Way.{Way}
use Rattle.ch_witness.specs.Ways.{AreWays, IsFound, way_at}
use Rattle.ch_graph.specs.Walk.{Walk}
use Rattle.ch_check.specs.Pairs.{HasArc, IsOpenRow, row_in, AreSorted, CostMore, IsAdded, IsDue, IsPairAmong, AreJoined, HaveWays, IsJoined, Joins, LeadsDirectly, LeadsOver, AreRowsOf, ShowsRow, AreOwed, AreAround, AreByEnds, AreLeft, AreUnmet}
use Rattle.ch_check.specs.declared.share.Share.{Share}
use Rattle.ch_check.specs.declared.share.Share.TheVariants.{Spared, Put, Owed}
use Rattle.ch_check.specs.Replay.{Replay, IsReplay, MayPut}

-- The rows of an overlay can be relied on.

module _ {o : Overlay} (is : IsOverlay o) (s : Seen) (inside : s.node < length o.rows) (row_is : sources.row_in s ≡ row_at o.rows s.node) where
  wide : (es : List Entry) → All (IsEntry (length o.rows) o.bound s.node) es → All (IsEntry (2 ^ 25) o.bound s.node) es
  wide es all k d h =
      let e = all k d h in
      let few = is.few_nodes in
      record { in_range = omega (arith, e.in_range, few); apart = e.apart; above = e.above; within = e.within }

  -- the row of a node is one that can be relied on
  pub seen_row : IsSeenRow o.bound s
  seen_row =
      let row : IsRow (state_of o) s.node (sources.row_in s) = subst (λ (r : Row). IsRow (state_of o) s.node r) (sym row_is) (is.rows s.node inside) in
      let entries : AreEntries (length o.rows) o.bound s.node (sources.row_in s) = subst (λ (r : Row). AreEntries (length o.rows) o.bound s.node r) (sym row_is) (is.entries s.node inside) in
      let few = is.few_nodes in
      record { in_range = omega (arith, few, inside); out_rises = row.out_rises; inn_rises = row.inn_rises; entries = record { out = wide (sources.row_in s).out entries.out; inn = wide (sources.row_in s).inn entries.inn } }

  -- names nodes alone
  pub names_nodes : NamesAlone (λ x. x < length o.rows) (sources.row_in s)
  names_nodes =
      let entries : AreEntries (length o.rows) o.bound s.node (sources.row_in s) = subst (λ (r : Row). AreEntries (length o.rows) o.bound s.node r) (sym row_is) (is.entries s.node inside) in
      record { out = λ k d h. (entries.out k d h).in_range; inn = λ k d h. (entries.inn k d h).in_range }

  -- and is the one that the overlay has
  pub shows_row : ShowsRow o s
  shows_row = slice_get-get_or o.rows s.node no_arcs inside ∙ ap (λ (r : Row). Some r) (sym row_is)

-- each row of an overlay is that of its node
pub are_read : {o : Overlay} → IsOverlay o → AreRead (state_of o) (row_in o)
are_read {o} is x r read =
    let inside = slice_get_within o.rows x r read in
    subst (λ (q : Row). IsRow (state_of o) x q) (get_or_from_slice_get o.rows x r no_arcs read) (is.rows x inside)

-- and that of a node that isn't contracted is open
pub row_is_open : RowOfAlive → {o : Overlay} → IsOverlay o → {x : ℕ} → IsAlive (state_of o) x → IsOpenRow o x (row_at o.rows x)
row_is_open rows_of_alive {o} is {x} alive =
    let row : IsRow (state_of o) x (row_at o.rows x) = is.rows x alive.in_range in
    let shows : ShowsRemaining (state_of o) x (row_at o.rows x) = rows_of_alive o.bound (state_of o) x (row_at o.rows x) is.plain row alive in
    let start : (y : ℕ) (c : Cost) → Remains (state_of o) y x c → HasArc o y x c = λ y c remains.
    let other : ShowsRemaining (state_of o) y (row_at o.rows y) = rows_of_alive o.bound (state_of o) y (row_at o.rows y) is.plain (is.rows y remains.from_alive.in_range) remains.from_alive in
    record {
      row = row_at o.rows y;
      read = slice_get-get_or o.rows y no_arcs remains.from_alive.in_range;
      unranked = other.unranked;
      listed = (other.out x c).0 remains;
    } in
    record {
      inside = alive.in_range;
      read = slice_get-get_or o.rows x no_arcs alive.in_range;
      unranked = shows.unranked;
      out_rises = row.out_rises;
      inn_rises = row.inn_rises;
      entries = is.entries x alive.in_range;
      outs = λ e among. ((shows.out e.other e.cost).1 (record { entry = e; among = among; other = refl; costs = refl })).to_alive;
      inns = λ e among. ((shows.inn e.other e.cost).1 (record { entry = e; among = among; other = refl; costs = refl })).from_alive;
      starts = λ e among. start e.other e.cost ((shows.inn e.other e.cost).1 (record { entry = e; among = among; other = refl; costs = refl }));
    }

-- where no answer is kept, all that are have the rows of an overlay
pub none_kept : (o : Overlay) (kept : Kept) → ((x : ℕ) → kept x ≡ None) → AreRowsOf o kept
none_kept o kept none = record {
  answers = λ x s is. absurd (apart s (sym (none x) ∙ is));
  named = λ x s is. absurd (apart s (sym (none x) ∙ is));
} where
  apart : (s : Seen) → None ≡ Some s → ⊥
  apart s e = cc

-- What is due for the pairs of an arc, one by one.

pub sorted_none : (o : Overlay) (v : ℕ) (first : Row) (into : Entry) → AreSorted o v first into [] [] []
sorted_none o v first into = record {
  from_put = λ p among. absurd (contains_none p among);
  less = λ p among. absurd (contains_none p among);
  rising = λ i j d low high. absurd (omega (arith, high));
  from_owed = λ p among. absurd (contains_none p among);
  every = λ out p among is. absurd (contains_none out among);
}

module _ {o : Overlay} {v : ℕ} {first : Row} {into : Entry} {outs : List Entry} (out : Entry) (rises : Rises (outs ++ out ∷ [])) {put owed : List Shortcut} (are : AreSorted o v first into outs put owed) where
  among_more : (p : Shortcut) → IsPairAmong o.bound into outs p → IsPairAmong o.bound into (outs ++ out ∷ []) p
  among_more p has = (has.0, Contains-append_left outs (out ∷ []) has.0 has.1, has.2)

  -- one more pair, at the end of a list
  pushed : (ps : List Shortcut) (q : Shortcut) → IsPairOf o.bound into out (Some q) → ((p : Shortcut) → Contains ps p → IsPairAmong o.bound into outs p) → (p : Shortcut) → Contains (ps ++ q ∷ []) p → IsPairAmong o.bound into (outs ++ out ∷ []) p
  pushed ps q is each p among = elim (Contains-push_cases ps q p among) [
    | inl old ↦ among_more p (each p old)
    | inr here ↦ subst (λ (s : Shortcut). IsPairAmong o.bound into (outs ++ out ∷ []) s) here (out, Contains-push outs out, is)
  ]

  -- the pair of the last arc is this one
  same_pair : {f : Entry} (p q : Shortcut) → out ≡ f → IsPairOf o.bound into f (Some p) → IsPairOf o.bound into out (Some q) → q ≡ p
  same_pair p q here is last = last.2 ∙ ap (λ (e : Entry). over into e) here ∙ sym is.2

  below : (q : Shortcut) → IsPairOf o.bound into out (Some q) → (p : Shortcut) → Contains put p → p.to < q.to
  below q is p among =
      let has = are.from_put p among in
      let end : p.to ≡ has.0.other = ap (λ (s : Shortcut). s.to) has.2.2 in
      let last : q.to ≡ out.other = ap (λ (s : Shortcut). s.to) is.2 in
      omega (arith, last_is_past outs out rises has.0 has.1, end, last)

  spared : ((p : Shortcut) → IsPairOf o.bound into out (Some p) → HasWay (row_in o) v p.from p.to p.cost) → AreSorted o v first into (outs ++ out ∷ []) put owed
  spared way = record {
    from_put = λ p among. among_more p (are.from_put p among);
    less = are.less;
    rising = are.rising;
    from_owed = λ p among. among_more p (are.from_owed p among);
    every = λ f p among is. elim (Contains-push_cases outs out f among) [
      | inl old ↦ are.every f p old is
      | inr here ↦ inr (way p (subst (λ (e : Entry). IsPairOf o.bound into e (Some p)) (sym here) is))
    ];
  }

  put_one : (q : Shortcut) → IsPairOf o.bound into out (Some q) → CostMore first.out q → AreSorted o v first into (outs ++ out ∷ []) (put ++ q ∷ []) owed
  put_one q pair more = record {
    from_put = pushed put q pair are.from_put;
    less = λ p among. elim (Contains-push_cases put q p among) [
      | inl old ↦ are.less p old
      | inr here ↦ subst (λ (s : Shortcut). CostMore first.out s) here more
    ];
    rising = all_pairs_push (λ (a b : Shortcut). a.to < b.to) put q are.rising (λ k d inside. below q pair (get_or put k d) (Contains-get_or put k d inside));
    from_owed = λ p among. among_more p (are.from_owed p among);
    every = λ f p among is. elim (Contains-push_cases outs out f among) [
      | inl old ↦ elim (are.every f p old is) [
        | inl pending ↦ elim pending [
          | inl in_put ↦ inl (inl (Contains-append_left put (q ∷ []) p in_put))
          | inr in_owed ↦ inl (inr in_owed)
        ]
        | inr way ↦ inr way
      ]
      | inr here ↦ inl (inl (subst (λ (s : Shortcut). Contains (put ++ q ∷ []) s) (same_pair p q here is pair) (Contains-push put q)))
    ];
  }

  owe_one : (q : Shortcut) → IsPairOf o.bound into out (Some q) → AreSorted o v first into (outs ++ out ∷ []) put (owed ++ q ∷ [])
  owe_one q pair = record {
    from_put = λ p among. among_more p (are.from_put p among);
    less = are.less;
    rising = are.rising;
    from_owed = pushed owed q pair are.from_owed;
    every = λ f p among is. elim (Contains-push_cases outs out f among) [
      | inl old ↦ elim (are.every f p old is) [
        | inl pending ↦ elim pending [
          | inl in_put ↦ inl (inl in_put)
          | inr in_owed ↦ inl (inr (Contains-append_left owed (q ∷ []) p in_owed))
        ]
        | inr way ↦ inr way
      ]
      | inr here ↦ inl (inr (subst (λ (s : Shortcut). Contains (owed ++ q ∷ []) s) (same_pair p q here is pair) (Contains-push owed q)))
    ];
  }

  to_lists : {new_put new_owed ps qs : List Shortcut} → new_put ≡ ps → new_owed ≡ qs → AreSorted o v first into (outs ++ out ∷ []) ps qs → AreSorted o v first into (outs ++ out ∷ []) new_put new_owed
  to_lists {new_owed} {ps} e f h =
      subst (λ (a : List Shortcut). AreSorted o v first into (outs ++ out ∷ []) a new_owed) (sym e)
      (subst (λ (b : List Shortcut). AreSorted o v first into (outs ++ out ∷ []) ps b) (sym f) h)

  pub sorted_more : (share : Share) (new_put new_owed : List Shortcut) → IsDue o v first into out share → IsAdded share put owed new_put new_owed → AreSorted o v first into (outs ++ out ∷ []) new_put new_owed
  sorted_more Spared new_put new_owed due added = to_lists added.0 added.1 (spared due)
  sorted_more (Put q) new_put new_owed due added = to_lists added.0 added.1 (put_one q due.0 due.1)
  sorted_more (Owed q) new_put new_owed due added = to_lists added.0 added.1 (owe_one q due)

-- one step of the loop over the arcs out
pub next_sorted : {o : Overlay} {v : ℕ} {first : Row} {into : Entry} (outs : List Entry) (k : ℕ) (d : Entry) {put owed : List Shortcut} (share : Share) (new_put new_owed : List Shortcut)
    → k < length outs → Rises outs → AreSorted o v first into (take k outs) put owed → IsDue o v first into (get_or outs k d) share
    → IsAdded share put owed new_put new_owed → AreSorted o v first into (take (k + 1) outs) new_put new_owed
next_sorted {o} {v} {first} {into} outs k d {put} {owed} share new_put new_owed inside rises are due added =
    let more : take (k + 1) outs ≡ take k outs ++ get_or outs k d ∷ [] = take_more outs k d inside in
    subst (λ (es : List Entry). AreSorted o v first into es new_put new_owed) (sym more)
    (sorted_more (get_or outs k d) (subst Rises more (AllPairs-take (λ (a b : Entry). a.other < b.other) (k + 1) outs rises)) are share new_put new_owed due added)

-- The verdicts on the pairs from one neighbour, and on all pairs.

-- From one neighbour

module _ {o : Overlay} {v : ℕ} {row first : Row} {into : Entry} (mid_row : IsOpenRow o v row) (start_row : IsOpenRow o into.other first) (among : Contains row.inn into) {put owed : List Shortcut} (are : AreSorted o v first into row.out put owed) where
  -- the neighbour isn't v, nor is the end of a pair
  start_apart : into.other ≢ v
  start_apart = (All-contains (IsEntry (length o.rows) o.bound v) row.inn into mid_row.entries.inn among).apart

  end_apart : (out : Entry) → Contains row.out out → out.other ≢ v
  end_apart out here = (All-contains (IsEntry (length o.rows) o.bound v) row.out out mid_row.entries.out here).apart

  -- what is owed a way
  pub are_owed : AreOwed o v into.other owed
  are_owed p h =
      let has = are.from_owed p h in
      let is = has.2.2 in (
        ap (λ (s : Shortcut). s.from) is,
        λ e. end_apart has.0 has.1 (sym (ap (λ (s : Shortcut). s.to) is) ∙ e),
        subst (λ (c : Cost). IsWithin c o.bound) (sym (ap (λ (s : Shortcut). s.cost) is)) has.2.1,
      )

  through_pair : (out : Entry) → Contains row.out out → (p : Shortcut) → IsPairOf o.bound into out (Some p) → ListsThrough row p.from p.to p.cost
  through_pair out here p is = subst (λ (s : Shortcut). ListsThrough row s.from s.to s.cost) (sym is.2) (record {
    into = into.cost;
    out = out.cost;
    apart = is.0;
    first = record { entry = into; among = among; other = refl; costs = refl };
    second = record { entry = out; among = here; other = refl; costs = refl };
    adds = refl;
  })

  shortcut_is : (p : Shortcut) → Contains put p → IsForShortcut o.bound (row_in o) row p
  shortcut_is p h =
      let has = are.from_put p h in
      record {
        through = through_pair has.0 has.1 p has.2;
        within = subst (λ (s : Shortcut). IsWithin s.cost o.bound) (sym has.2.2) has.2.1;
        first_row = first;
        first_read = ap (row_in o) (ap (λ (s : Shortcut). s.from) has.2.2) ∙ start_row.read;
        less = λ unranked c listed. are.less p h c listed;
      }

  -- the pair that the row joins
  pair_is : {w : ℕ} {sum : Cost} → (t : ListsThrough row into.other w sum) → IsWithin sum o.bound → IsPairOf o.bound into t.second.entry (Some (record { from = into.other; to = w; cost = sum }))
  pair_is {w} {sum} t within =
      let out = t.second.entry in
      let same : t.first.entry ≡ into = one_entry row.inn mid_row.inn_rises t.first.entry into t.first.among among t.first.other in
      let arc_in : t.into ≡ into.cost = sym t.first.costs ∙ ap (λ (e : Entry). e.cost) same in
      let total : sum ≡ into.cost ⊕ out.cost = t.adds ∙ ap (λ (c : Cost). c ⊕ t.out) arc_in ∙ ap (λ (c : Cost). into.cost ⊕ c) (sym t.second.costs) in (
        λ e. t.apart (e ∙ t.second.other),
        subst (λ (c : Cost). IsWithin c o.bound) total within,
        made into.other w out.other sum (into.cost ⊕ out.cost) (sym t.second.other) total,
      )
    where
      pair : ℕ → ℕ → Cost → Shortcut
      pair u y c = record { from = u; to = y; cost = c }

      made : (u x y : ℕ) (c d : Cost) → x ≡ y → c ≡ d → pair u x c ≡ pair u y d
      made u x y c d e f = ap (λ (z : ℕ). pair u z c) e ∙ ap (λ (k : Cost). pair u y k) f

  pub is_joined : HaveWays o v owed → IsJoined o v row into put
  is_joined ways = record {
    from = λ p h. ap (λ (s : Shortcut). s.from) ((are.from_put p h).2.2);
    rising = are.rising;
    shortcuts = shortcut_is;
    ways = λ w sum t within none.
        let p : Shortcut = record { from = into.other; to = w; cost = sum } in
        elim (are.every t.second.entry p t.second.among (pair_is t within)) [
          | inl pending ↦ elim pending [
            | inl in_put ↦ absurd (none p in_put (refl, refl))
            | inr in_owed ↦ ways p in_owed
          ]
          | inr way ↦ way
        ];
  }

  -- where all are searched, and those that are left get a shortcut
  pub is_joined_anew : owed ≡ [] → {left : List Shortcut} → AreLeft o v put left → IsJoined o v row into left
  is_joined_anew nothing {left} of_search = record {
    from = λ p h. ap (λ (s : Shortcut). s.from) ((are.from_put p (of_search.among p h)).2.2);
    rising = of_search.rising are.rising;
    shortcuts = λ p h. shortcut_is p (of_search.among p h);
    ways = λ w sum t within none.
        let p : Shortcut = record { from = into.other; to = w; cost = sum } in
        elim (are.every t.second.entry p t.second.among (pair_is t within)) [
          | inl pending ↦ elim pending [
            | inl in_put ↦ elim (of_search.ways p in_put) [
              | inl in_left ↦ absurd (none p in_left (refl, refl))
              | inr way ↦ way
            ]
            | inr in_owed ↦ absurd (contains_none p (subst (λ (ps : List Shortcut). Contains ps p) nothing in_owed))
          ]
          | inr way ↦ way
        ];
  }

  -- and a way may be owed for each
  pub put_are_owed : AreOwed o v into.other put
  put_are_owed p h =
      let has = are.from_put p h in
      let is = has.2.2 in (
        ap (λ (s : Shortcut). s.from) is,
        λ e. end_apart has.0 has.1 (sym (ap (λ (s : Shortcut). s.to) is) ∙ e),
        subst (λ (c : Cost). IsWithin c o.bound) (sym (ap (λ (s : Shortcut). s.cost) is)) has.2.1,
      )

-- From all

module _ {o : Overlay} {v : ℕ} {row : Row} {inns : List Entry} {into : Entry} (rises : Rises (inns ++ into ∷ [])) {old put : List Shortcut} (are : AreJoined o v row inns old) (is : IsJoined o v row into put) where
  pub joined_more : AreJoined o v row (inns ++ into ∷ []) (old ++ put)
  joined_more = record {
    from = λ p among. elim (Contains-append_cases old put p among) [
      | inl before ↦ let has = are.from p before in (has.0, Contains-append_left inns (into ∷ []) has.0 has.1, has.2)
      | inr new ↦ (into, Contains-push inns into, is.from p new)
    ];
    once = AllPairs-append (λ (p q : Shortcut). IsFor p q.from q.to → ⊥) old put are.once
        (λ i j d low high both. absurd (omega (arith, is.rising i j d low high, both.1)))
        (λ p q before new both.
        let has = are.from p before in
        absurd (omega (arith, last_is_past inns into rises has.0 has.1, has.2, is.from q new, both.0)));
    shortcuts = λ p among. elim (Contains-append_cases old put p among) [
      | inl before ↦ are.shortcuts p before
      | inr new ↦ is.shortcuts p new
    ];
    ways = λ e w sum among t within none. elim (Contains-push_cases inns into e among) [
      | inl before ↦ are.ways e w sum before t within (λ p h. none p (Contains-append_left old put p h))
      | inr here ↦
          subst (λ (f : Entry). HasWay (row_in o) v f.other w sum) here
          (is.ways w sum (subst (λ (f : Entry). ListsThrough row f.other w sum) (sym here) t) within
          (λ p h. subst (λ (f : Entry). IsFor p f.other w → ⊥) (sym here) (none p (Contains-append_right old put p h))))
    ];
  }

-- one step of the loop over the arcs in
pub next_joined : {o : Overlay} {v : ℕ} {row : Row} (inns : List Entry) (k : ℕ) (d : Entry) {old : List Shortcut} (new : List Shortcut) → k < length inns → Rises inns → AreJoined o v row (take k inns) old
    → Joins o v row (get_or inns k d) old new → AreJoined o v row (take (k + 1) inns) new
next_joined {o} {v} {row} inns k d {old} new inside rises are joins =
    let more : take (k + 1) inns ≡ take k inns ++ get_or inns k d ∷ [] = take_more inns k d inside in
    subst (λ (es : List Entry). AreJoined o v row es new) (sym more)
    (subst (λ (ps : List Shortcut). AreJoined o v row (take k inns ++ get_or inns k d ∷ []) ps) (sym joins.appends)
    (joined_more (subst Rises more (AllPairs-take (λ (a b : Entry). a.other < b.other) (k + 1) inns rises)) are joins.joined))

-- so the shortcuts may be put in
pub may_put : VerdictsAreLawful → {r : Replay} → IsReplay r → {v : ℕ} {row : Row} {put : List Shortcut} → IsOpenRow r.overlay v row → AreJoined r.overlay v row row.inn put → MayPut r.overlay v put
may_put verdicts_are_lawful {r} is {v} {row} {put} mid_row are =
    let o : Overlay = r.overlay in
    let verdicts : AreVerdicts o.bound (row_in o) v put = record {
      row = row;
      read = mid_row.read;
      unranked = mid_row.unranked;
      once = are.once;
      shortcuts = are.shortcuts;
      ways = λ u w sum t within none.
          let e = t.first.entry in
          subst (λ (x : ℕ). HasWay (row_in o) v x w sum) t.first.other
          (are.ways e w sum t.first.among (subst (λ (x : ℕ). ListsThrough row x w sum) (sym t.first.other) t) within (subst (λ (x : ℕ). NoShortcut put x w) (sym t.first.other) none));
    } in
    let lawful = verdicts_are_lawful r.graph is.log (state_of o) (row_in o) v put is.graph is.reached mid_row.inside (are_read is.overlay) (subst (λ (c : Cost). AreVerdicts c (row_in o) v put) is.bound verdicts) in
    record {
      plan = subst (λ (c : Cost). IsPlan c (state_of o) v put) (sym is.bound) lawful.0;
      witnessed = subst (λ (c : Cost). IsWitnessed c (state_of o) v put) (sym is.bound) lawful.1;
    }

-- Ways around a node along the rows of an overlay.

module _ (o : Overlay) (v u : ℕ) where
  -- the ways of a search are along the rows of the overlay
  pub ways_around : (kept : Kept) {seen : List Seen} {cutoff : Cost} {targets : List ℕ} {ways : List (Option Way)}
      → AreKept (λ _. Unit {0}) (ShowsRow o) o.bound kept → All (IsKept kept) seen → AreWays seen u v cutoff targets ways → AreAround o v u targets ways
  ways_around kept {seen} {targets} {ways} answers rows are = record {
    many = are.many;
    leads = λ k inside. IfSome_then (way_at ways k) (are.leads k inside) (λ w is. (along_moved (SeenArc (sources.row_of seen) v) (SeenArc (row_in o) v) w.nodes.items u (slice_index targets k) w.cost arc is).0);
  } where
    arc : (y t : ℕ) (d : Cost) → SeenArc (sources.row_of seen) v y t d → SeenArc (row_in o) v y t d
    arc y t d a =
        let at = row_among seen y a.row a.read in
        let answer = answers at.0.node at.0 (All-contains (IsKept kept) seen at.0 rows at.1) in
        record {
          row = a.row;
          read = subst (λ (x : ℕ). row_in o x ≡ Some a.row) at.2 (answer.shows ∙ ap (λ r. Some r) at.3);
          unranked = a.unranked;
          listed = a.listed;
          from_other = a.from_other;
          to_other = a.to_other;
        }

  met : (t : ℕ) (sum : Cost) (way : Option Way) → IsSomeAnd way (λ (w : Way). w.cost ≼ sum) → IfSome way (λ (w : Way). Walk (SeenArc (row_in o) v) u t w.cost) → HasWay (row_in o) v u t sum
  met t sum None found leads = absurd found
  met t sum (Some w) found leads = record { cost = w.cost; way = leads; at_most = found }

  -- so each pair but those without a way has one
  pub left_over : {owed : List Shortcut} {ways : List (Option Way)} {left : List Shortcut} → AreOwed o v u owed → AreAround o v u (map (λ p. p.to) owed) ways → AreUnmet owed ways (length owed) left → AreLeft o v owed left
  left_over {owed} {ways} are around unmet = record {
    among = unmet.among;
    rising = unmet.rising;
    ways = λ p among.
        let k = among.0 in
        let here : slice_get owed k ≡ Some p = slice_get-get_or owed k p among.1 ∙ ap (λ (s : Shortcut). Some s) among.2 in
        let at = target_at owed k p here in
        elim (unmet.found k p among.1 here) [
          | inl in_left ↦ inl in_left
          | inr found ↦
              let way : HasWay (row_in o) v u (slice_index (map (λ (q : Shortcut). q.to) owed) k) p.cost = met (slice_index (map (λ (q : Shortcut). q.to) owed) k) p.cost (way_at ways k) found (around.leads k at.0) in
              inr (subst (λ (x : ℕ). HasWay (row_in o) v x p.to p.cost) (sym (are p among).0) (subst (λ (t : ℕ). HasWay (row_in o) v u t p.cost) at.1 way))
        ];
  }

  -- none of the targets is v
  pub apart_targets : (owed : List Shortcut) → AreOwed o v u owed → Contains (map (λ (p : Shortcut). p.to) owed) v → ⊥
  apart_targets owed are among = let p = contains-mapped (λ (q : Shortcut). q.to) owed v among in (are p.0 p.1).1 p.2

-- what a second search leaves of what a first has left
pub left_of_left : {o : Overlay} {v : ℕ} {owed some few : List Shortcut} → AreLeft o v owed some → AreLeft o v some few → AreLeft o v owed few
left_of_left first second = record {
  among = λ p among. first.among p (second.among p among);
  rising = λ rises. second.rising (first.rising rises);
  ways = λ p among. elim (first.ways p among) [
    | inl in_some ↦ second.ways p in_some
    | inr way ↦ inr way
  ];
}

-- all pairs are left where there is no search
pub all_left : {o : Overlay} {v : ℕ} (owed left : List Shortcut) → left ≡ owed → AreLeft o v owed left
all_left owed left same = record {
  among = λ p among. subst (λ (ps : List Shortcut). Contains ps p) same among;
  rising = λ rises. subst AreByEnds (sym same) rises;
  ways = λ p among. inl (subst (λ (ps : List Shortcut). Contains ps p) (sym same) among);
}

-- and none at first
pub none_unmet : (owed : List Shortcut) (ways : List (Option Way)) → AreUnmet owed ways 0 []
none_unmet owed ways = record {
  among = λ p among. absurd (contains_none p among);
  before = λ p among. absurd (contains_none p among);
  rising = λ rises i j d low high. absurd (omega (arith, high));
  found = λ k p low. absurd (omega (arith, low));
}

module _ {owed : List Shortcut} {ways : List (Option Way)} {k : ℕ} {q : Shortcut} {left : List Shortcut} (here : slice_get owed k ≡ Some q) (are : AreUnmet owed ways k left) where
  same_owed : {j : ℕ} {p : Shortcut} → j ≡ k → slice_get owed j ≡ Some p → q ≡ p
  same_owed {p} e is = let at : slice_get owed k ≡ Some p = subst (λ (i : ℕ). slice_get owed i ≡ Some p) e is in some_same q p (sym here ∙ at) where
    some_same : (a b : Shortcut) → Some a ≡ Some b → a ≡ b
    some_same a b h = cc

  -- one more is met
  pub unmet_met : IsFound ways k q.cost → AreUnmet owed ways (k + 1) left
  unmet_met found = record {
    among = are.among;
    before = λ p among. let at = are.before p among in (at.0, omega (arith, at.1), at.2);
    rising = are.rising;
    found = λ j p low is. elim (cases_lt j k) [
      | inl below ↦ are.found j p below is
      | inr high ↦
          let e : j ≡ k = omega (arith, low, high) in
          inr (subst (λ (i : ℕ). IsFound ways i p.cost) (sym e) (subst (λ (s : Shortcut). IsFound ways k s.cost) (same_owed e is) found))
    ];
  }

  -- one more is left
  pub unmet_more : AreUnmet owed ways (k + 1) (left ++ q ∷ [])
  unmet_more = record {
    among = λ p among. elim (Contains-push_cases left q p among) [
      | inl old ↦ are.among p old
      | inr last ↦ subst (λ (s : Shortcut). Contains owed s) last (k, slice_get_within owed k q here, get_or_from_slice_get owed k q q here)
    ];
    before = λ p among. elim (Contains-push_cases left q p among) [
      | inl old ↦ let at = are.before p old in (at.0, omega (arith, at.1), at.2)
      | inr last ↦ subst (λ (s : Shortcut). (j : ℕ) × (j < k + 1) × (slice_get owed j ≡ Some s)) last (k, omega arith, here)
    ];
    rising = λ rises. all_pairs_push (λ (a b : Shortcut). a.to < b.to) left q (are.rising rises) (λ i d inside. let p = get_or left i d in let at = are.before p (Contains-get_or left i d inside) in
        subst (λ (s : Shortcut). p.to < s.to) (get_or_from_slice_get owed k q q here)
        (subst (λ (s : Shortcut). s.to < (get_or owed k q).to) (get_or_from_slice_get owed at.0 p q at.2)
        (rises at.0 k q at.1 (slice_get_within owed k q here))));
    found = λ j p low is. elim (cases_lt j k) [
      | inl below ↦ elim (are.found j p below is) [
        | inl in_left ↦ inl (Contains-append_left left (q ∷ []) p in_left)
        | inr found ↦ inr found
      ]
      | inr high ↦ inl (subst (λ (s : Shortcut). Contains (left ++ q ∷ []) s) (same_owed {j = j} (omega (arith, low, high)) is) (Contains-push left q))
    ];
  }

-- Ways of one arc and of two

module _ {o : Overlay} (v : ℕ) {u w : ℕ} {first : Row} (start_row : IsOpenRow o u first) (start_apart : u ≢ v) (end_apart : w ≢ v) where
  pub direct_way : {sum : Cost} → LeadsDirectly first.out (record { from = u; to = w; cost = sum }) → HasWay (row_in o) v u w sum
  direct_way {sum} direct =
      let arc : SeenArc (row_in o) v u w direct.cost = record {
        row = first;
        read = start_row.read;
        unranked = start_row.unranked;
        listed = direct.listed;
        from_other = start_apart;
        to_other = end_apart;
      } in
      record { cost = _; way = Walk.go arc Walk.stay; at_most = subst (λ (c : Cost). c ≼ sum) (sym (sum-zero_cost direct.cost)) direct.at_most }

  pub two_way : {last : Row} → IsOpenRow o w last → (sum : Cost) → LeadsOver first.out last.inn v (record { from = u; to = w; cost = sum }) → HasWay (row_in o) v u w sum
  two_way last_row sum over =
      let e = over.0 in
      let by = over.2 in
      let start = last_row.starts e over.1 in
      let one : SeenArc (row_in o) v u e.other by.cost = record {
        row = first;
        read = start_row.read;
        unranked = start_row.unranked;
        listed = by.listed;
        from_other = start_apart;
        to_other = by.apart;
      } in
      let two : SeenArc (row_in o) v e.other w e.cost = record {
        row = start.row;
        read = start.read;
        unranked = start.unranked;
        listed = start.listed;
        from_other = by.apart;
        to_other = end_apart;
      } in
      record { cost = _; way = Walk.go one (Walk.go two Walk.stay); at_most = subst (λ (c : Cost). by.cost ⊕ c ≼ sum) (sym (sum-zero_cost e.cost)) by.at_most }

-- so the pair of two arcs needs no more
module _ {o : Overlay} (v : ℕ) {first : Row} (into out : Entry) (start_row : IsOpenRow o into.other first) (start_apart : into.other ≢ v) (end_apart : out.other ≢ v) (q : Shortcut) (is : IsPairOf o.bound into out (Some q)) where
  pub direct_pair : LeadsDirectly first.out q → (p : Shortcut) → IsPairOf o.bound into out (Some p) → HasWay (row_in o) v p.from p.to p.cost
  direct_pair direct p here = subst (λ (s : Shortcut). HasWay (row_in o) v s.from s.to s.cost) (sym here.2)
      (direct_way v start_row start_apart end_apart (subst (λ (s : Shortcut). LeadsDirectly first.out s) is.2 direct))

  pub two_pair : {last : Row} → IsOpenRow o out.other last → LeadsOver first.out last.inn v q → (p : Shortcut) → IsPairOf o.bound into out (Some p) → HasWay (row_in o) v p.from p.to p.cost
  two_pair {last} last_row leads p here = subst (λ (s : Shortcut). HasWay (row_in o) v s.from s.to s.cost) (sym here.2)
      (two_way v start_row start_apart end_apart last_row (over into out).cost (subst (λ (s : Shortcut). LeadsOver first.out last.inn v s) is.2 leads))
