-- The links that leave one node, in a list of links in rising order of their ends.
use Rattle.std.proofs.Common.{ℕ, ◌≡◌, ◌+◌, ◌-◌, ◌<◌, ◌≤◌, ◌∙◌, List, length, take, drop, get_or, slice_index, AllPairs, None, inl, inr, ap, subst, sym, arith}
use Rattle.std.proofs.lemmas.Bool.{cases_lt}
use Rattle.std.proofs.lemmas.List.{get_or_default, get_or-take, get_or-drop, length-take-le, length-drop}
use Rattle.ch_cost.specs.Cost.{zero_cost}
use Rattle.ch_graph.specs.declared.link.Link.{Link}
use Rattle.ch_graph.specs.Hierarchy.{ComesBefore, IsLinkAt}
use Rattle.ch_graph.specs.LinkIndex.{IsFirstFrom, IsIndexOf, IsPartOf, IsHeadAt, ComesToLower}

some_link : Link
some_link = record { from = 0; to = 0; cost = zero_cost; middle = None }

-- the links from one place on and before another
abbrev pub part : List Link → ℕ → ℕ → List Link
part links b e = take (e - b) (drop b links)

pub part_length : (links : List Link) (b e : ℕ) → b ≤ e → e ≤ length links → length (part links b e) ≡ e - b
part_length links b e b≤e within =
    let left : e - b ≤ length (drop b links) = omega (arith, length-drop b links) in
    length-take-le (e - b) (drop b links) left

part_at : (links : List Link) (b e k : ℕ) (d : Link) → k < e - b → get_or (part links b e) k d ≡ get_or links (b + k) d
part_at links b e k d k< = get_or-take (e - b) (drop b links) k d k< ∙ get_or-drop b links k d

pub part_rises : {links : List Link} {x b e : ℕ} → IsPartOf links x b e → AllPairs ComesBefore links → AllPairs ComesToLower (part links b e)
part_rises {links} {b} {e} is_part sorted i j d i<j j< =
    let inside : j < e - b = omega (arith, part_length links b e is_part.ordered is_part.within) in
    let first : get_or (part links b e) i d ≡ get_or links (b + i) d = part_at links b e i d (omega arith) in
    let second : get_or (part links b e) j d ≡ get_or links (b + j) d = part_at links b e j d inside in
    let below : (get_or links (b + i) d).to < (get_or links (b + j) d).to = elim (sorted (b + i) (b + j) d (omega arith) (omega (arith, is_part.within))) [
      | inl h ↦ absurd (omega (arith, h, is_part.leave (b + i) d (omega arith) (omega arith), is_part.leave (b + j) d (omega arith) (omega arith)))
      | inr h ↦ h.1
    ] in
    rw (first, second) below

-- a place in the part is a place in the whole, and the other way round
pub found_in_part : {links : List Link} {b e x y p : ℕ} → IsPartOf links x b e → IsHeadAt (part links b e) y p → IsLinkAt links x y (b + p)
found_in_part {links} {b} {e} {p} is_part at =
    let inside : p < e - b = omega (arith, part_length links b e is_part.ordered is_part.within, at.within) in
    record {
      within = omega (arith, is_part.within);
      from = λ (d : Link). is_part.leave (b + p) d (omega arith) (omega arith);
      to = λ (d : Link). ap (λ (l : Link). l.to) (sym (part_at links b e p d inside)) ∙ at.to d;
    }

pub not_in_part : {links : List Link} {b e x : ℕ} (y : ℕ) → IsPartOf links x b e → ((p : ℕ) → IsHeadAt (part links b e) y p → ⊥) → (p : ℕ) → IsLinkAt links x y p → ⊥
not_in_part {links} {b} {e} y is_part nowhere p at =
    let there = is_part.whole p some_link at.within (at.from some_link) in
    let low : b ≤ p = there.0 in
    let high : p < e = there.1 in
    let same : b + (p - b) ≡ p = omega arith in
    let inside : p - b < e - b = omega arith in
    let is : (d : Link) → get_or (part links b e) (p - b) d ≡ get_or links p d = λ (d : Link). part_at links b e (p - b) d inside ∙ ap (λ k. get_or links k d) same in
    nowhere (p - b) (record {
      within = omega (arith, part_length links b e is_part.ordered is_part.within);
      to = λ (d : Link). ap (λ (l : Link). l.to) (is d) ∙ at.to d;
    })

-- The part of a node

pub part_of : {links : List Link} {firsts : List ℕ} (x : ℕ) → IsIndexOf links firsts → x + 1 < length firsts → IsPartOf links x (slice_index firsts x) (slice_index firsts (x + 1))
part_of {links} {firsts} x is_index x< =
    let here : IsFirstFrom links x (slice_index firsts x) = is_index.first x (omega arith) in
    let next : IsFirstFrom links (x + 1) (slice_index firsts (x + 1)) = is_index.first (x + 1) x< in
    let b : ℕ = slice_index firsts x in
    let e : ℕ = slice_index firsts (x + 1) in
    let low_end : e ≤ length links = next.within in
    record {
      ordered = elim (cases_lt e b) [
        | inl h ↦ absurd (omega (arith, here.before e some_link h, next.behind e some_link (omega arith) (omega (arith, here.within))))
        | inr h ↦ omega arith
      ];
      within = next.within;
      leave = λ k (d : Link) low high. omega (arith, low_end, here.behind k d low (omega arith), next.before k d high);
      whole = λ k (d : Link) k< leaves. (
        elim (cases_lt k b) [
          | inl h ↦ absurd (omega (arith, here.before k d h))
          | inr h ↦ omega arith
        ],
        elim (cases_lt k e) [
          | inl h ↦ h
          | inr h ↦ absurd (omega (arith, next.behind k d (omega arith) k<))
        ],
      );
    }

-- The first link from a node on

leaves_rise : (links : List Link) → AllPairs ComesBefore links → (i j : ℕ) (d : Link) → i ≤ j → j < length links → (get_or links i d).from ≤ (get_or links j d).from
leaves_rise links sorted i j d i≤j j< =
    elim (cases_lt i j) [
      | inl h ↦ elim (sorted i j d h j<) [ inl below ↦ omega arith | inr same ↦ omega (arith, same.0) ]
      | inr h ↦ let e : i ≡ j = omega arith in subst (λ k. (get_or links i d).from ≤ (get_or links k d).from) e (omega arith)
    ]

pub first_from_here : (links : List Link) (v place : ℕ) (e : Link) → AllPairs ComesBefore links → ((k : ℕ) (d : Link) → k < place → (get_or links k d).from < v) → place < length links → v ≤ (get_or links place e).from → IsFirstFrom links v place
first_from_here links v place e sorted before place< here = record {
  within = omega arith;
  before = before;
  behind = λ k (d : Link) low k<.
      let there : v ≤ (get_or links place d).from = subst (λ (l : Link). v ≤ l.from) (get_or_default links place e d place<) here in
      omega (arith, there, leaves_rise links sorted place k d low k<);
}
