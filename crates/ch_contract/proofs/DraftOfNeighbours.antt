-- A draft over the neighbours, one by one, and the proposal that it makes.
use Rattle.std.proofs.Common.{ℕ, ◌≡◌, ◌+◌, ◌<◌, ◌⊎◌, ◌↔◌, List, [], ◌∷◌, ◌++◌, length, get_or, take, Option, Some, None, AllPairs, Contains, ap, sym, subst, ◌∙◌, arith, inl, inr}
use Rattle.std.proofs.lemmas.List.Elements.{Contains-append_left, Contains-append_right, Contains-append_cases, Contains-push, Contains-push_cases, Contains-get_or}
use Rattle.ch_cost.specs.declared.cost.Cost.{Cost}
use Rattle.ch_laws.specs.declared.entry.Entry.{Entry}
use Rattle.ch_laws.specs.declared.shortcut.Shortcut.{Shortcut}
use Rattle.ch_laws.specs.Contraction.{IsFor, NoShortcut}
use Rattle.ch_laws.specs.Rows.{Row, Rises}
use Rattle.ch_laws.specs.Verdicts.{HasWay, ListsThrough}
use Rattle.ch_overlay.specs.declared.source.Seen.{Seen}
use Rattle.ch_overlay.specs.Source.{row_in, row_of, IsBound, NamesAlone}
use Rattle.ch_witness.specs.Kept.{HasAll, Kept, AreKept, AreListed, IsMore}
use Rattle.ch_witness.specs.FirstPlaces.{first_places}
use Rattle.ch_contract.specs.declared.draft.Draft.{Draft}
use Rattle.ch_contract.specs.Listed.{AreNamed, IsInnerOf, IsNamedBy, NeedsWay, ends}
use Rattle.ch_contract.proofs.PartByPart.{parts_map, parts_push}
use Rattle.ch_contract.specs.Drafts.{AgreesWithKept, IsBegun, IsDrafted, IsDraftedFrom}
use Rattle.ch_contract.specs.Proposal.{IsProposal, ShortcutBefore}
use Rattle.ch_overlay.specs.Finding.{row_found}
use Rattle.ch_overlay.specs.Entries.{last_is_past}
use Rattle.ch_overlay.specs.Ranges.{AllPairs-append, AllPairs-take}
use Rattle.ch_laws.specs.Members.{contains_cases, contains_first}
use Rattle.std.proofs.lemmas.List.{take_more}

none-in : (x : Shortcut) (xs : List Shortcut) → xs ≡ [] → Contains xs x → ⊥
none-in x xs e among = let h = subst (λ (ys : List Shortcut). Contains ys x) e among in omega (arith, h.1)

-- what a neighbour names depends on the shortcuts from it alone
named_by : (bound : Cost) (seen : ℕ → Option Row) (v : ℕ) (row : Row) (a b : List Shortcut) (u : Entry) (named : List ℕ) → ((w : ℕ) → NoShortcut a u.other w ↔ NoShortcut b u.other w) → IsNamedBy bound seen v row a u named → IsNamedBy bound seen v row b u named
named_by bound seen v row a b u named same by = elim by [
  | inr none ↦ inr none
  | inl leads ↦ inl (leads.0, (leads.1.0, parts_map (IsInnerOf bound seen v row a u.other) (IsInnerOf bound seen v row b u.other) row.out (λ out inner among inside. inner_by out inner) leads.1.1, leads.1.2))
] where
  needs_by : (w : ℕ) (sum : Cost) (c d : List Shortcut) → (NoShortcut c u.other w → NoShortcut d u.other w) → NeedsWay bound row c u.other w sum → NeedsWay bound row d u.other w sum
  needs_by w sum c d to needs = record { through = needs.through; within = needs.within; none = to needs.none }

  inner_by : (out : Entry) (inner : List ℕ) → IsInnerOf bound seen v row a u.other out inner → IsInnerOf bound seen v row b u.other out inner
  inner_by out inner is = elim is [
    | inl way ↦ inl (way.0, needs_by out.other way.0 a b (same out.other).0 way.1, way.2)
    | inr none ↦ inr (λ sum needs. none.0 sum (needs_by out.other sum b a (same out.other).1 needs), none.1)
  ]

pub drafted_none : (bound : Cost) (v : ℕ) (row : Row) (kept : Kept) (d : Draft) → IsBegun v d → IsDrafted bound v row [] kept d
drafted_none bound v row kept d begun = record {
  others = [];
  listed = begun.listed;
  from_them = λ p among. absurd (none-in p _ begun.shortcuts among);
  sorted = subst (AllPairs ShortcutBefore) (sym begun.shortcuts) (λ i j e low high. absurd (omega (arith, high)));
  shortcuts = λ seen agrees p among. absurd (none-in p _ begun.shortcuts among);
  ways = λ seen agrees u w sum named. absurd (omega (arith, named.1.1));
  named = λ seen agrees. ends;
  has_all = λ x among. absurd (omega (arith, among.1));
}

module _ (bound : Cost) (v : ℕ) (row : Row) (inns : List Entry) (e : Entry) (kept now : Kept) (old new : Draft) (more : IsMore kept now) (rises : Rises (inns ++ e ∷ [])) (was : IsDrafted bound v row inns kept old) (this : IsDraftedFrom bound v row e now old new) where
  earlier : (seen : ℕ → Option Row) → AgreesWithKept seen now new.listed.items → AgreesWithKept seen kept old.listed.items
  earlier seen agrees x s among is = agrees x s (subst (λ (ns : List ℕ). Contains ns x) (sym this.listed) (Contains-append_left old.listed.items this.more x among)) (more x s is)

  cases : (p : Shortcut) → Contains new.shortcuts.items p → Contains old.shortcuts.items p ⊎ Contains this.put p
  cases p among = Contains-append_cases old.shortcuts.items this.put p (subst (λ (ps : List Shortcut). Contains ps p) this.shortcuts among)

  before : (p q : Shortcut) → Contains old.shortcuts.items p → Contains this.put q → ShortcutBefore p q
  before p q first second =
      let named = was.from_them p first in
      let less = last_is_past inns e rises named.0 named.1 in
      let from : q.from ≡ e.other = this.from_it q second in
      let low : p.from < q.from = omega (arith, less, named.2, from) in
      inl low

  put_sorted : AllPairs ShortcutBefore this.put
  put_sorted i j d low high = inr (same, this.sorted i j d low high) where
    same : (get_or this.put i d).from ≡ (get_or this.put j d).from
    same = this.from_it (get_or this.put i d) (Contains-get_or this.put i d (omega (arith, low, high))) ∙ sym (this.from_it (get_or this.put j d) (Contains-get_or this.put j d high))

  -- of the pairs from a neighbour before, none got its shortcut now
  from_before : (u : Entry) → Contains inns u → (w : ℕ) → NoShortcut old.shortcuts.items u.other w ↔ NoShortcut new.shortcuts.items u.other w
  from_before u among w = (
    λ none p h is. elim (cases p h) [
      | inl first ↦ none p first is
      | inr second ↦ absurd (omega (arith, last_is_past inns e rises u among, is.0, this.from_it p second))
    ],
    λ none p h is. none p (subst (λ (ps : List Shortcut). Contains ps p) (sym this.shortcuts) (Contains-append_left old.shortcuts.items this.put p h)) is,
  )

  -- and of those from this one, none had one before
  from_this : (w : ℕ) → NoShortcut this.put e.other w ↔ NoShortcut new.shortcuts.items e.other w
  from_this w = (
    λ none p h is. elim (cases p h) [
      | inl first ↦
          let named = was.from_them p first in
          absurd (omega (arith, last_is_past inns e rises named.0 named.1, named.2, is.0))
      | inr second ↦ none p second is
    ],
    λ none p h is. none p (subst (λ (ps : List Shortcut). Contains ps p) (sym this.shortcuts) (Contains-append_right old.shortcuts.items this.put p h)) is,
  )

  named_next : (seen : ℕ → Option Row) → AgreesWithKept seen now new.listed.items → AreNamed bound seen v row new.shortcuts.items (inns ++ e ∷ []) (was.others ++ this.more)
  named_next seen agrees =
      parts_push (IsNamedBy bound seen v row new.shortcuts.items) e this.more
      (parts_map (IsNamedBy bound seen v row old.shortcuts.items) (IsNamedBy bound seen v row new.shortcuts.items) inns (λ u part among inside. named_by bound seen v row old.shortcuts.items new.shortcuts.items u part (from_before u among)) (was.named seen (earlier seen agrees)))
      (named_by bound seen v row this.put new.shortcuts.items e this.more from_this (this.named seen agrees))

  all_next : HasAll now (was.others ++ this.more)
  all_next x among = elim (Contains-append_cases was.others this.more x among) [
    | inl first ↦ let has = was.has_all x first in (has.0, more x has.0 has.1)
    | inr second ↦ this.has_all x second
  ]

  pub drafted_next : IsDrafted bound v row (inns ++ e ∷ []) now new
  drafted_next = record {
    others = was.others ++ this.more;
    listed = this.listed ∙ ap (λ (ns : List ℕ). ns ++ this.more) was.listed;
    from_them = λ p among. elim (cases p among) [
      | inl first ↦ let named = was.from_them p first in (named.0, Contains-append_left inns (e ∷ []) named.0 named.1, named.2)
      | inr second ↦ (e, Contains-push inns e, sym (this.from_it p second))
    ];
    sorted = subst (AllPairs ShortcutBefore) (sym this.shortcuts) (AllPairs-append ShortcutBefore old.shortcuts.items this.put was.sorted put_sorted before);
    shortcuts = λ seen agrees p among. elim (cases p among) [
      | inl first ↦ was.shortcuts seen (earlier seen agrees) p first
      | inr second ↦ (this.joined seen agrees).shortcuts p second
    ];
    ways = λ seen agrees u w sum named through within none. elim (Contains-push_cases inns e named.0 named.1) [
      | inl first ↦ was.ways seen (earlier seen agrees) u w sum (named.0, first, named.2) through within (λ p among is. none p (subst (λ (ps : List Shortcut). Contains ps p) (sym this.shortcuts) (Contains-append_left old.shortcuts.items this.put p among)) is)
      | inr here ↦
          let at : e.other ≡ u = ap (λ (x : Entry). x.other) here ∙ named.2 in
          subst (λ (x : ℕ). HasWay seen v x w sum) at
          ((this.joined seen agrees).ways w sum (subst (λ (x : ℕ). ListsThrough row x w sum) (sym at) through) within
          (λ p among is. none p (subst (λ (ps : List Shortcut). Contains ps p) (sym this.shortcuts)
          (Contains-append_right old.shortcuts.items this.put p among)) (is.0 ∙ at, is.1)))
    ];
    named = named_next;
    has_all = all_next;
  }

-- one step of a loop over the arcs in
pub next_drafted : (bound : Cost) (v : ℕ) (row : Row) (inns : List Entry) → inns ≡ row.inn → Rises row.inn → (k : ℕ) (d : Entry) → k < length inns
    → (kept now : Kept) (old new : Draft) → IsMore kept now → IsDrafted bound v row (take k inns) kept old
    → IsDraftedFrom bound v row (get_or inns k d) now old new → IsDrafted bound v row (take (k + 1) inns) now new
next_drafted bound v row inns is rises k d inside kept now old new more was this =
    let longer : take (k + 1) inns ≡ take k inns ++ get_or inns k d ∷ [] = take_more inns k d inside in
    let all : Rises inns = subst Rises (sym is) rises in
    subst (λ (es : List Entry). IsDrafted bound v row es now new) (sym longer) (drafted_next bound v row (take k inns) (get_or inns k d) kept now old new more (subst Rises longer (AllPairs-take (λ (a b : Entry). a.other < b.other) (k + 1) inns all)) was this)

pub names_moved : (Old New : ℕ → Type 0) (row : Row) → ((x : ℕ) → Old x → New x) → NamesAlone Old row → NamesAlone New row
names_moved Old New row still names = record {
  out = λ k d h. still _ (names.out k d h);
  inn = λ k d h. still _ (names.inn k d h);
}

-- the proposal of a draft
pub proposed : (Bears Shows : Seen → Type 0) (bound : Cost) (v : ℕ) (row : Row) (kept : Kept) (d : Draft) (rows : List Seen) (own : Seen)
    → IsBound bound → AreKept Bears Shows bound kept → kept v ≡ Some own → row ≡ row_in own → row.rank ≡ None → IsDrafted bound v row row.inn kept d
    → AreListed kept d.listed.items rows → IsProposal (record { bound = bound; node = v; rests_on = rows; shortcuts = d.shortcuts.items })
proposed Bears Shows bound v row kept d rows own limit are own_kept row_is unranked drafted listed = record {
  bound = limit;
  first = own;
  others = begun.0;
  rests_on = begun.1;
  of_node = (are v own own_kept).node;
  once = listed.once;
  rows = λ k e h. (are _ (get_or rows k e) (listed.from_kept (get_or rows k e) (Contains-get_or rows k e h))).row;
  sorted = drafted.sorted;
  verdicts = record {
    row = row;
    read = agrees v own (subst (λ (ns : List ℕ). Contains ns v) (sym drafted.listed) (contains_first v drafted.others)) own_kept ∙ ap (λ (r : Row). Some r) (sym row_is);
    unranked = unranked;
    once = λ i j e low high same. apart (get_or d.shortcuts.items i e) (get_or d.shortcuts.items j e) (drafted.sorted i j e low high) same;
    shortcuts = drafted.shortcuts (row_of rows) agrees;
    ways = λ u w sum t within none. drafted.ways (row_of rows) agrees u w sum (t.first.entry, t.first.among, t.first.other) t within none;
  };
  listing = record {
    named = drafted.others;
    by_pairs = drafted.named (row_of rows) agrees;
    nodes = listed.in_order all_listed ∙ ap first_places drafted.listed;
  };
} where
  begun : (more : List Seen) × (rows ≡ own ∷ more)
  begun = listed.first v drafted.others own drafted.listed own_kept

  agrees : AgreesWithKept (row_of rows) kept d.listed.items
  agrees x s among is = subst (λ (y : ℕ). row_of rows y ≡ Some (row_in s)) (are x s is).node (row_found rows listed.once s (listed.every x s among is))

  all_listed : HasAll kept d.listed.items
  all_listed x among = elim (contains_cases v drafted.others x (subst (λ (ns : List ℕ). Contains ns x) drafted.listed among)) [
    | inl here ↦ (own, ap kept (sym here) ∙ own_kept)
    | inr later ↦ drafted.has_all x later
  ]

  apart : (p q : Shortcut) → ShortcutBefore p q → IsFor p q.from q.to → ⊥
  apart p q before same = elim before [
    | inl less ↦ omega (arith, less, same.0)
    | inr both ↦ omega (arith, both.1, same.1)
  ]
