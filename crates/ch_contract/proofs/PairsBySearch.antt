-- The pairs from one neighbour, by what a search found.
use Rattle.std.proofs.Common.{ℕ, ◌≡◌, ◌≢◌, ◌<◌, ◌^◌, ◌⊎◌, List, [], ◌∷◌, ◌++◌, length, get_or, map, Option, Some, None, Contains, append_assoc, refl, ap, sym, subst, ◌∙◌, arith, inl, inr, slice_index}
use Rattle.std.specs.List.{All, slice_get}
use Rattle.std.specs.Option.{IfSome, IsSomeAnd}
use Rattle.std.proofs.lemmas.Bool.{cases_eq, cases_lt}
use Rattle.std.proofs.lemmas.List.{append-nil, take_all}
use Rattle.std.proofs.lemmas.List.Elements.{All-contains, Contains-append_right, Contains-append_left, Contains-push}
use Rattle.std.proofs.lemmas.Option.{slice_get_within, get_or_from_slice_get}
use Rattle.ch_cost.specs.declared.cost.Cost.{Cost}
use Rattle.ch_cost.specs.Cost.{◌⊕◌, ◌≼◌, ◌≺◌, IsWithin}
use Rattle.ch_cost.specs.Cost.Laws.{at_most_trans, cases_cost}
use Rattle.ch_graph.specs.Walk.{Along}
use Rattle.ch_laws.specs.Contraction.{NoShortcut}
use Rattle.ch_laws.specs.declared.entry.Entry.{Entry}
use Rattle.ch_laws.specs.declared.shortcut.Shortcut.{Shortcut}
use Rattle.ch_laws.specs.Members.{contains_cases, contains_first, contains_later, contains_none}
use Rattle.ch_overlay.specs.Overlay.{AreEntries, IsEntry}
use Rattle.ch_laws.specs.Rows.{Row, Rises, Lists}
use Rattle.ch_laws.specs.Verdicts.{ListsThrough, SeenArc}
use Rattle.ch_overlay.specs.declared.source.Seen.{Seen}
use Rattle.ch_overlay.specs.Source.{row_in, row_of}
use Rattle.ch_witness.specs.declared.way.Way.{Way}
use Rattle.ch_witness.specs.Kept.{HasAll, Kept, IsKept}
use Rattle.ch_witness.specs.Ways.{AreWays, IsFound, IsStartRead, IsWay, way_at}
use Rattle.ch_contract.specs.declared.draft.Draft.{Draft}
use Rattle.ch_contract.specs.Listed.{HasInner, IsInnerOf, IsNamedBy, LeadsOn, NeedsWay, InParts, ends}
use Rattle.ch_contract.specs.Drafts.{AgreesWithKept, AreJudged, ArePairs, IsDraftedFrom, IsInner, IsJoined, IsJudgedBy, IsPairPart, Lengthens}
use Rattle.ch_contract.proofs.SomeValues.{some-same}
use Rattle.ch_contract.proofs.InnerNodes.{inner_leaves, inner_moved}
use Rattle.ch_contract.proofs.PartByPart.{parts_at, parts_compose, parts_first, parts_from, parts_map, parts_none}
use Rattle.ch_overlay.specs.Finding.{row_among}
use Rattle.ch_overlay.specs.Entries.{one_entry}
use Rattle.ch_overlay.specs.Pairs.{IsPairOf, over, target_at}

module _ (bound : Cost) (row : Row) (into : Entry) (pairs : List Shortcut) (among : Contains row.inn into) (rises : Rises row.inn) (are : ArePairs bound into row.out pairs) where
  -- each pair that isn't heavy is one of them
  pub through_pair : (w : ℕ) (sum : Cost) → ListsThrough row into.other w sum → IsWithin sum bound → Contains pairs (record { from = into.other; to = w; cost = sum })
  through_pair w sum t within =
      let same : t.first.entry ≡ into = one_entry row.inn rises t.first.entry into t.first.among among t.first.other in
      let arc_in : t.into ≡ into.cost = sym t.first.costs ∙ ap (λ (e : Entry). e.cost) same in
      let out = t.second.entry in
      let total : sum ≡ into.cost ⊕ out.cost = t.adds ∙ ap (λ (c : Cost). c ⊕ t.out) arc_in ∙ ap (λ (c : Cost). into.cost ⊕ c) (sym t.second.costs) in
      subst (λ (c : Cost). Contains pairs (record { from = into.other; to = w; cost = c })) (sym total)
      (subst (λ (n : ℕ). Contains pairs (record { from = into.other; to = n; cost = into.cost ⊕ out.cost })) t.second.other
      (are.every out t.second.among (λ e. t.apart (e ∙ t.second.other)) (subst (λ (c : Cost). IsWithin c bound) total within)))

  -- and each of them is one by the row
  pub pair_through : (p : Shortcut) → Contains pairs p → ListsThrough row p.from p.to p.cost × IsWithin p.cost bound × (p.from ≡ into.other)
  pair_through p h =
      let was = are.each p h in
      let out = was.0 in
      let is : p ≡ over into out = was.2.2 in
      subst (λ (q : Shortcut). ListsThrough row q.from q.to q.cost × IsWithin q.cost bound × (q.from ≡ into.other)) (sym is) (
        record {
          into = into.cost;
          out = out.cost;
          apart = was.2.0;
          first = record { entry = into; among = among; other = refl; costs = refl };
          second = record { entry = out; among = was.1; other = refl; costs = refl };
          adds = refl;
        },
        was.2.1,
        refl,
      )

-- what a pair is judged to be: it got a shortcut, or it got none and has a way
abbrev pub IsSettled : (ℕ → Option Row) → ℕ → List Shortcut → Shortcut → List ℕ → Type 0
IsSettled seen v put p inner = (Contains put p × (inner ≡ [])) ⊎ (NoShortcut put p.from p.to × HasInner seen v p.from p.to p.cost inner)

module _ (bound : Cost) (v : ℕ) (row : Row) (into : Entry) (among : Contains row.inn into) (inn : Rises row.inn) (out : Rises row.out) (seen : ℕ → Option Row) (put : List Shortcut) where
  -- the sum of a pair of two arcs
  sum_of : (o : Entry) → Contains row.out o → (sum : Cost) → ListsThrough row into.other o.other sum → sum ≡ into.cost ⊕ o.cost
  sum_of o here sum t =
      let first : t.first.entry ≡ into = one_entry row.inn inn t.first.entry into t.first.among among t.first.other in
      let second : t.second.entry ≡ o = one_entry row.out out t.second.entry o t.second.among here t.second.other in
      t.adds
      ∙ ap (λ (c : Cost). c ⊕ t.out) (sym t.first.costs ∙ ap (λ (e : Entry). e.cost) first)
      ∙ ap (λ (c : Cost). into.cost ⊕ c) (sym t.second.costs ∙ ap (λ (e : Entry). e.cost) second)

  -- an arc without a pair needs no way
  no_way : (o : Entry) → Contains row.out o → IsPairOf bound into o None → (sum : Cost) → NeedsWay bound row put into.other o.other sum → ⊥
  no_way o here none sum needs = elim none [
    | inl same ↦ needs.through.apart same
    | inr heavy ↦ heavy (subst (λ (c : Cost). IsWithin c bound) (sum_of o here sum needs.through) needs.within)
  ]

  -- one with a pair names what the pair does
  by_pair : (o : Entry) → Contains row.out o → (p : Shortcut) → IsPairOf bound into o (Some p) → (inner : List ℕ) → IsSettled seen v put p inner → IsInnerOf bound seen v row put into.other o inner
  by_pair o here p is inner settled = elim (subst (λ (q : Shortcut). IsSettled seen v put q inner) is.2 settled) [
    | inl has ↦ inr (λ sum needs. needs.none (over into o) has.0 (refl, refl), has.1)
    | inr way ↦ inl (
      into.cost ⊕ o.cost,
      record {
        through = record {
          into = into.cost;
          out = o.cost;
          apart = is.0;
          first = record { entry = into; among = among; other = refl; costs = refl };
          second = record { entry = o; among = here; other = refl; costs = refl };
          adds = refl;
        };
        within = is.1;
        none = way.0;
      },
      way.1,
    )
  ]

  by_part : (o : Entry) → Contains row.out o → (inner : List ℕ) → (pairs : List Shortcut) → IsPairPart bound into o pairs → InParts (IsSettled seen v put) pairs inner → IsInnerOf bound seen v row put into.other o inner
  by_part o here inner pairs part parts = elim part [
    | inl none ↦ inr (no_way o here none.0, parts_none (IsSettled seen v put) (subst (λ (ps : List Shortcut). InParts (IsSettled seen v put) ps inner) none.1 parts))
    | inr one ↦
        let first = parts_first (IsSettled seen v put) (subst (λ (ps : List Shortcut). InParts (IsSettled seen v put) ps inner) one.2 parts) in
        let is : inner ≡ first.0 = first.4 ∙ ap (λ (ns : List ℕ). first.0 ++ ns) (parts_none (IsSettled seen v put) first.3) ∙ append-nil first.0 in
        subst (λ (ns : List ℕ). IsInnerOf bound seen v row put into.other o ns) (sym is) (by_pair o here one.0 one.1 first.0 first.2)
  ]

  -- so the inner nodes by the pairs are those by the arcs out
  pub inner_by_arcs : (pairs : List Shortcut) (inner : List ℕ) → InParts (IsPairPart bound into) row.out pairs → InParts (IsSettled seen v put) pairs inner → InParts (IsInnerOf bound seen v row put into.other) row.out inner
  inner_by_arcs pairs inner are settled =
      parts_map (λ (o : Entry) (part : List ℕ). (mid : List Shortcut) × IsPairPart bound into o mid × InParts (IsSettled seen v put) mid part) (IsInnerOf bound seen v row put into.other) row.out
      (λ o part here inside by. by_part o here part by.0 by.1 by.2)
      (parts_compose (IsPairPart bound into) (IsSettled seen v put) are settled)

-- where no pair is worth a search, nothing is put in
pub drafted_idle : (bound : Cost) (v : ℕ) (row : Row) (into : Entry) (kept : Kept) (old new : Draft) (more : List ℕ)
    → ((w : ℕ) (sum : Cost) → ListsThrough row into.other w sum → IsWithin sum bound → ⊥) → new.shortcuts.items ≡ old.shortcuts.items
    → Lengthens more old new → ((seen : ℕ → Option Row) → IsNamedBy bound seen v row [] into more) → HasAll kept more
    → IsDraftedFrom bound v row into kept old new
drafted_idle bound v row into kept old new more none same longer named all = record {
  put = [];
  more = more;
  shortcuts = same ∙ sym (append-nil old.shortcuts.items);
  listed = longer;
  from_it = λ p among. absurd (contains_none p among);
  sorted = λ i j d low high. absurd (omega (arith, high));
  joined = λ seen agrees. record { shortcuts = λ p among. absurd (contains_none p among); ways = λ w sum t within no_put. absurd (none w sum t within) };
  named = λ seen agrees. named seen;
  has_all = all;
}

no_outs : (row : Row) (u : ℕ) → (LeadsOn row.out u → ⊥) → (w : ℕ) (sum : Cost) → ListsThrough row u w sum → ⊥
no_outs row u none w sum t = none (t.second.entry, t.second.among, λ e. t.apart (e ∙ t.second.other))

-- nothing is listed where no other arc leads on
pub idle_alone : (bound : Cost) (v : ℕ) (row : Row) (into : Entry) (kept : Kept) (d : Draft) → (LeadsOn row.out into.other → ⊥) → IsDraftedFrom bound v row into kept d d
idle_alone bound v row into kept d none = drafted_idle bound v row into kept d d [] (λ w sum t within. no_outs row into.other none w sum t) refl (sym (append-nil d.listed.items)) (λ seen. inr (none, refl)) (λ x among. absurd (omega (arith, among.1)))

-- and the neighbour alone where one does, and yet no pair is light
pub idle_read : (bound : Cost) (v : ℕ) (row : Row) (into : Entry) (kept : Kept) (first : Seen) → kept into.other ≡ Some first → (old new : Draft)
    → Contains row.inn into → Rises row.inn → Rises row.out → LeadsOn row.out into.other → ArePairs bound into row.out []
    → new.shortcuts.items ≡ old.shortcuts.items → Lengthens (into.other ∷ []) old new → IsDraftedFrom bound v row into kept old new
idle_read bound v row into kept first is old new among inn out leads are same longer =
    drafted_idle bound v row into kept old new (into.other ∷ [])
    (λ w sum t within. contains_none (record { from = into.other; to = w; cost = sum }) (through_pair bound row into [] among inn are w sum t within))
    same longer
    (λ seen. inl (leads, ([], inner_by_arcs bound v row into among inn out seen [] [] [] are.parts ends, refl)))
    (λ x here. elim (contains_cases into.other [] x here) [
      | inl e ↦ (first, ap kept (sym e) ∙ is)
      | inr later ↦ absurd (omega (arith, later.1))
    ])

found_more : (o : Option Way) (c d : Cost) → IsSomeAnd o (λ w. w.cost ≼ c) → c ≼ d → IsSomeAnd o (λ w. w.cost ≼ d)
found_more None c d h le = h
found_more (Some w) c d h le = at_most_trans h le

leads_of : (seen : List Seen) (v u t : ℕ) (o : Option Way) (w : Way) → o ≡ Some w → IfSome o (IsWay seen v u t) → IsWay seen v u t w
leads_of seen v u t o w is h = subst (λ (p : Option Way). IfSome p (IsWay seen v u t)) is h

found_at : (o : Option Way) (w : Way) (c : Cost) → o ≡ Some w → w.cost ≼ c → IsSomeAnd o (λ (x : Way). x.cost ≼ c)
found_at o w c is le = subst (λ (p : Option Way). IsSomeAnd p (λ (x : Way). x.cost ≼ c)) (sym is) le

module _ (bound : Cost) (v : ℕ) (row : Row) (into : Entry) (pairs : List Shortcut) (among : Contains row.inn into) (rises : Rises row.inn) (are : ArePairs bound into row.out pairs)
    (out : Rises row.out) (leads_on : LeadsOn row.out into.other)
    (kept : Kept) (first : Seen) (first_kept : kept into.other ≡ Some first)
    (rows : List Seen) (cutoff : Cost) (ways : List (Option Way)) (found : AreWays rows into.other v cutoff (map (λ (q : Shortcut). q.to) pairs) ways)
    (most : (p : Shortcut) → Contains pairs p → p.cost ≼ cutoff)
    (direct : (k : ℕ) → k < length (map (λ (q : Shortcut). q.to) pairs) → slice_index (map (λ (q : Shortcut). q.to) pairs) k ≢ into.other → (s : Seen) × IsKept kept s × IsStartRead rows into.other cutoff (map (λ (q : Shortcut). q.to) pairs) ways s)
    (rows_kept : All (IsKept kept) rows)
    (old mid new : Draft) (judged : AreJudged pairs ways (length pairs) mid new) (same : mid.shortcuts.items ≡ old.shortcuts.items) (longer : mid.listed.items ≡ old.listed.items ++ into.other ∷ []) where
  among_pairs : (k : ℕ) (p : Shortcut) → slice_get pairs k ≡ Some p → Contains pairs p
  among_pairs k p is = (k, slice_get_within pairs k p is, get_or_from_slice_get pairs k p p is)

  is_pair : (p : Shortcut) → Contains judged.put p → Contains pairs p
  is_pair p h = let was = judged.only p h in among_pairs was.0 p was.2

  -- all pairs are judged
  by_all : InParts (IsJudgedBy pairs ways judged.put) pairs judged.more
  by_all = subst (λ (ps : List Shortcut). InParts (IsJudgedBy pairs ways judged.put) ps judged.more) (take_all (length pairs) pairs (omega arith)) judged.parts

  -- the way that was found for a pair leads to its end
  leads_to : (p : Shortcut) (k : ℕ) → slice_get pairs k ≡ Some p → (w : Way) → way_at ways k ≡ Some w → Along (SeenArc (row_of rows) v) w.nodes.items into.other p.to w.cost
  leads_to p k is w here =
      let at = target_at pairs k p is in
      subst (λ (n : ℕ). Along (SeenArc (row_of rows) v) w.nodes.items into.other n w.cost) at.1 (leads_of rows v into.other (slice_index (map (λ (q : Shortcut). q.to) pairs) k) (way_at ways k) w here (found.leads k at.0))

  -- a pair that has one got no shortcut
  no_shortcut : (p : Shortcut) (k : ℕ) → slice_get pairs k ≡ Some p → (w : Way) → way_at ways k ≡ Some w → w.cost ≼ p.cost → NoShortcut judged.put p.from p.to
  no_shortcut p k is w here le q put for_it =
      let was = judged.only q put in
      let j = was.0 in
      let first : get_or pairs j q ≡ q = get_or_from_slice_get pairs j q q was.2 in
      let second : get_or pairs k q ≡ p = get_or_from_slice_get pairs k p q is in
      let same : (get_or pairs j q).to ≡ (get_or pairs k q).to = ap (λ (s : Shortcut). s.to) first ∙ for_it.1 ∙ sym (ap (λ (s : Shortcut). s.to) second) in
      elim (cases_eq j k) [
        | inl e ↦
            let it : p ≡ q = sym second ∙ ap (λ n. get_or pairs n q) (sym e) ∙ first in
            was.3 (subst (λ n. IsFound ways n q.cost) (sym e) (subst (λ (s : Shortcut). IsFound ways k s.cost) it (found_at (way_at ways k) w p.cost here le)))
        | inr apart ↦ elim (cases_lt j k) [
          | inl less ↦ absurd (omega (arith, are.sorted j k q less (slice_get_within pairs k p is), same))
          | inr past ↦ absurd (omega (arith, are.sorted k j q (omega (arith, apart, past)) (slice_get_within pairs j q was.2), same))
        ]
      ]

  all_listed : new.listed.items ≡ (old.listed.items ++ into.other ∷ []) ++ judged.more
  all_listed = judged.listed ∙ ap (λ (ns : List ℕ). ns ++ judged.more) longer

  module _ (seen : ℕ → Option Row) (agrees : AgreesWithKept seen kept new.listed.items) where
    -- the neighbour's row was read
    first_read : seen into.other ≡ Some (row_in first)
    first_read = agrees into.other first (subst (λ (ns : List ℕ). Contains ns into.other) (sym all_listed) (Contains-append_left (old.listed.items ++ into.other ∷ []) judged.more into.other (Contains-push old.listed.items into.other))) first_kept

    -- it lists no arc that costs as little as a shortcut
    less : (p : Shortcut) → Contains judged.put p → (row_in first).rank ≡ None → (c : Cost) → Lists (row_in first).out p.to c → p.cost ≺ c
    less p h unranked c listed = elim (cases_cost p.cost c) [
      | inl below ↦ below
      | inr low ↦
          let was = judged.only p h in
          let at = target_at pairs was.0 p was.2 in
          let through = pair_through bound row into pairs among rises are p (is_pair p h) in
          let apart : slice_index (map (λ (q : Shortcut). q.to) pairs) was.0 ≢ into.other = λ e. through.0.apart (through.2 ∙ sym e ∙ at.1) in
          let start = direct was.0 at.0 apart in
          let s = start.0 in
          let it : s ≡ first = some-same s first (sym start.1 ∙ ap (λ (x : ℕ). kept x) start.2.node ∙ first_kept) in
          let row_is : row_in s ≡ row_in first = ap (λ (t : Seen). row_in t) it in
          let here : Lists (row_in s).out (slice_index (map (λ (q : Shortcut). q.to) pairs) was.0) c = subst (λ (t : ℕ). Lists (row_in s).out t c) (sym at.1) (subst (λ (r : Row). Lists r.out p.to c) (sym row_is) listed) in
          absurd (was.3 (found_more (way_at ways was.0) c p.cost (start.2.direct (ap (λ (r : Row). r.rank) row_is ∙ unranked) was.0 c at.0 here (at_most_trans low (most p (is_pair p h)))) low))
    ]

    -- an arc of a row that the search read, by these rows
    arc_moved : (inner : List ℕ) → ((x : ℕ) → Contains inner x → Contains judged.more x) → (y t : ℕ) (d : Cost) → Contains (into.other ∷ inner) y → SeenArc (row_of rows) v y t d → SeenArc seen v y t d
    arc_moved inner inside y t d h arc =
        let at = row_among rows y arc.row arc.read in
        let k = All-contains (IsKept kept) rows at.0 rows_kept at.1 in
        let there : Contains new.listed.items at.0.node = subst (λ (ns : List ℕ). Contains ns at.0.node) (sym all_listed) (subst (λ (n : ℕ). Contains ((old.listed.items ++ into.other ∷ []) ++ judged.more) n) (sym at.2) (listed_here y h)) in
        let read : seen at.0.node ≡ Some (row_in at.0) = agrees at.0.node at.0 there k in
        record {
          row = arc.row;
          read = subst (λ (x : ℕ). seen x ≡ Some arc.row) at.2 (read ∙ ap (λ (r : Row). Some r) at.3);
          unranked = arc.unranked;
          listed = arc.listed;
          from_other = arc.from_other;
          to_other = arc.to_other;
        }
      where
        listed_here : (x : ℕ) → Contains (into.other ∷ inner) x → Contains ((old.listed.items ++ into.other ∷ []) ++ judged.more) x
        listed_here x among = elim (contains_cases into.other inner x among) [
          | inl e ↦ Contains-append_left (old.listed.items ++ into.other ∷ []) judged.more x (subst (λ (n : ℕ). Contains (old.listed.items ++ into.other ∷ []) n) e (Contains-push old.listed.items into.other))
          | inr later ↦ Contains-append_right (old.listed.items ++ into.other ∷ []) judged.more x (inside x later)
        ]

    -- the way of a pair that got no shortcut, by these rows
    way_of : (p : Shortcut) (k : ℕ) → slice_get pairs k ≡ Some p → (w : Way) → way_at ways k ≡ Some w → (inner : List ℕ) → IsInner w.nodes.items inner → ((x : ℕ) → Contains inner x → Contains judged.more x) → w.cost ≼ p.cost → HasInner seen v into.other p.to p.cost inner
    way_of p k is w here inner is_inner inside le =
        let through = pair_through bound row into pairs among rises are p (among_pairs k p is) in
        record {
          cost = w.cost;
          way = inner_moved (SeenArc (row_of rows) v) w.nodes.items into.other p.to w.cost inner (leads_to p k is w here) is_inner (λ e. through.0.apart (through.2 ∙ e)) (SeenArc seen v) (arc_moved inner inside);
          at_most = le;
        }

    -- each pair is settled by what it was judged to be
    settled : (p : Shortcut) (inner : List ℕ) → ((x : ℕ) → Contains inner x → Contains judged.more x) → IsJudgedBy pairs ways judged.put p inner → IsSettled seen v judged.put p inner
    settled p inner inside by = elim by.2 [
      | inl put ↦ inl (put.1, put.2)
      | inr way ↦
          let through = pair_through bound row into pairs among rises are p (among_pairs by.0 p by.1) in
          inr (
            no_shortcut p by.0 by.1 way.0 way.1 way.2,
            subst (λ (u : ℕ). HasInner seen v u p.to p.cost inner) (sym through.2) (way_of p by.0 by.1 way.0 way.1 inner way.3 inside way.2),
          )
    ]

    joined : IsJoined bound seen row v into.other judged.put
    joined = record {
      shortcuts = λ p h.
          let through = pair_through bound row into pairs among rises are p (is_pair p h) in
          record {
            through = through.0;
            within = through.1;
            first_row = row_in first;
            first_read = ap seen through.2 ∙ first_read;
            less = less p h;
          };
      ways = λ w sum t within no_put.
          let p : Shortcut = record { from = into.other; to = w; cost = sum } in
          let there = through_pair bound row into pairs among rises are w sum t within in
          let part = parts_at (IsJudgedBy pairs ways judged.put) by_all p there in
          elim (settled p part.0 part.2 part.1) [
            | inl put ↦ absurd (no_put p put.0 (refl, refl))
            | inr has ↦ record { cost = has.1.cost; way = has.1.way.0; at_most = has.1.at_most }
          ];
    }

    named : IsNamedBy bound seen v row judged.put into (into.other ∷ judged.more)
    named = inl (leads_on, (judged.more, inner_by_arcs bound v row into among rises out seen judged.put pairs judged.more are.parts (parts_map (IsJudgedBy pairs ways judged.put) (IsSettled seen v judged.put) pairs (λ p inner h inside by. settled p inner inside by) by_all), refl))

  -- an answer is kept for each node that is listed
  all_kept : HasAll kept (into.other ∷ judged.more)
  all_kept x here = elim (contains_cases into.other judged.more x here) [
    | inl e ↦ (first, ap kept (sym e) ∙ first_kept)
    | inr later ↦
        let from = parts_from (IsJudgedBy pairs ways judged.put) by_all x later in
        of_part from.0 from.2.0 from.2.1 from.2.2
  ] where
    of_part : (p : Shortcut) (inner : List ℕ) → IsJudgedBy pairs ways judged.put p inner → Contains inner x → (s : Seen) × (kept x ≡ Some s)
    of_part p inner by inside = elim by.2 [
      | inl put ↦ absurd (omega (arith, ap length put.2, inside.1))
      | inr way ↦
          let arc = inner_leaves (SeenArc (row_of rows) v) way.0.nodes.items into.other p.to way.0.cost inner (leads_to p by.0 by.1 way.0 way.1) way.3 x inside in
          let at = row_among rows x arc.2.row arc.2.read in
          let k = All-contains (IsKept kept) rows at.0 rows_kept at.1 in
          (at.0, ap kept (sym at.2) ∙ k)
    ]

  pub drafted_search : IsDraftedFrom bound v row into kept old new
  drafted_search = record {
    put = judged.put;
    more = into.other ∷ judged.more;
    shortcuts = judged.shortcuts ∙ ap (λ (ps : List Shortcut). ps ++ judged.put) same;
    listed = all_listed ∙ append_assoc old.listed.items (into.other ∷ []) judged.more;
    from_it = λ p h. (pair_through bound row into pairs among rises are p (is_pair p h)).2;
    sorted = judged.sorted are.sorted;
    joined = joined;
    named = named;
    has_all = all_kept;
  }

-- none of the targets is the node
to_of : (pairs : List Shortcut) (x : ℕ) → Contains (map (λ (q : Shortcut). q.to) pairs) x → (p : Shortcut) × Contains pairs p × (p.to ≡ x)
to_of [] x among = absurd (omega (arith, among.1))
to_of (q ∷ pairs) x among = elim (contains_cases q.to (map (λ (p : Shortcut). p.to) pairs) x among) [
  | inl here ↦ (q, contains_first q pairs, here)
  | inr later ↦ let rest = to_of pairs x later in (rest.0, contains_later q pairs rest.0 rest.1, rest.2)
]

pub no_target : (bound : Cost) (v : ℕ) (row : Row) (into : Entry) (pairs : List Shortcut) → ArePairs bound into row.out pairs → AreEntries (2 ^ 25) bound v row → Contains (map (λ (q : Shortcut). q.to) pairs) v → ⊥
no_target bound v row into pairs are entries among =
    let p = to_of pairs v among in
    let was = are.each p.0 p.1 in
    (All-contains (IsEntry (2 ^ 25) bound v) row.out was.0 entries.out was.1).apart (sym (ap (λ (q : Shortcut). q.to) was.2.2) ∙ p.2)

-- the start's row, for the same targets
pub direct_for : (kept : Kept) (rows : List Seen) (u : ℕ) (cutoff : Cost) (ways : List (Option Way)) (ts us : List ℕ) → ts ≡ us
    → ((k : ℕ) → k < length ts → slice_index ts k ≢ u → (s : Seen) × IsKept kept s × IsStartRead rows u cutoff ts ways s) → (k : ℕ) → k < length us
    → slice_index us k ≢ u → (s : Seen) × IsKept kept s × IsStartRead rows u cutoff us ways s
direct_for kept rows u cutoff ways ts us e h = subst (λ (vs : List ℕ). (k : ℕ) → k < length vs → slice_index vs k ≢ u → (s : Seen) × IsKept kept s × IsStartRead rows u cutoff vs ways s) e h

-- the judgement, for the same pairs and ways
pub judged_for : (ps pairs : List Shortcut) (ws ways : List (Option Way)) (old new : Draft) → ps ≡ pairs → ws ≡ ways → AreJudged ps ws (length ps) old new → AreJudged pairs ways (length pairs) old new
judged_for ps pairs ws ways old new e f h = subst (λ (qs : List Shortcut). AreJudged qs ways (length qs) old new) e (subst (λ (vs : List (Option Way)). AreJudged ps vs (length ps) old new) f h)
