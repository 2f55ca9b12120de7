-- A half that climbs as far as its links lead lists the least climb to each node.
use Rattle.std.proofs.Common.{ℕ, ◌≡◌, ◌≢◌, ◌<◌, List, [], ◌∷◌, ◌++◌, length, get_or, None, All, ap, refl, sym, subst, ◌∙◌, inl, inr, arith}
use Rattle.std.proofs.lemmas.Bool.{cases_lt}
use Rattle.std.proofs.lemmas.List.{get_or_append_left, get_or_push, length-append}
use Rattle.std.proofs.lemmas.List.Elements.{All-nil, All-push}
use Rattle.ch_cost.specs.declared.cost.Cost.{Cost}
use Rattle.ch_cost.specs.Cost.{◌≼◌, length_of}
use Rattle.ch_graph.specs.declared.mark.Mark.{Mark}
use Rattle.ch_graph.specs.declared.mark.Mark.TheVariants.{Unseen, Open, Settled}
use Rattle.ch_graph.specs.Walk.{IsLeast}
use Rattle.ch_graph.specs.Hierarchy.{Hierarchy}
use Rattle.ch_graph.specs.Marks.{mark, HasLabel, IsAtMost, NoneOpen}
use Rattle.ch_graph.specs.Marks.Laws.{label_settled, label-in}
use Rattle.ch_graph.specs.Searching.Laws.{labelled_or_open}
use Rattle.ch_query.specs.declared.climb.Climbed.{Climbed}
use Rattle.ch_query.specs.declared.label.Label.{Label}
use Rattle.ch_query.specs.declared.seed.Seed.{Seed}
use Rattle.ch_query.specs.declared.side.Side.{Side}
use Rattle.ch_query.specs.Climbing.{IsClimbedOn, AreListed}
use Rattle.ch_query.specs.Beginning.{NoneSettled}
use Rattle.ch_query.specs.Marks.{label_cost}
use Rattle.ch_query.specs.Searching.{IsClimbing, IsSearching}
use Rattle.ch_query.specs.Ways.{IsClimb, AreLeastClimbs}
use Rattle.ch_query.proofs.ClimbLinks.{came_from}
use Rattle.ch_query.proofs.FollowedLinks.{counts-short}
use Rattle.ch_query.proofs.LeastSum.{counts_less}

-- nothing is listed where nothing is settled
pub listed-none : {marks : List (Mark Label)} {climbs : List Climbed} → climbs ≡ [] → NoneSettled marks → AreListed marks climbs
listed-none {marks} {climbs} is none = record {
  each = subst (All (λ (c : Climbed). (e : Label) × (mark marks c.rank ≡ Settled e) × (c.length ≡ length_of e.cost))) (sym is) (All-nil (λ (c : Climbed). (e : Label) × (mark marks c.rank ≡ Settled e) × (c.length ≡ length_of e.cost)));
  all = λ r e closed. absurd (none r e closed);
  before = λ k (c : Climbed) e low closed other. absurd (none (get_or climbs k c).rank e closed);
}

one_label : {m : Mark Label} {e d : Label} → m ≡ Settled e → m ≡ Settled d → e ≡ d
one_label is other = cc

-- and one more node with it
pub listed-more : {h : Hierarchy} {side : Side} {seeds : List Seed} {bound : Cost} {old new : List (Mark Label)} {climbs : List Climbed} {c : Climbed} {e : Label} → IsSearching h side seeds bound new → IsClimbedOn c.rank e old new → c.length ≡ length_of e.cost
    → AreListed old climbs → AreListed new (climbs ++ c ∷ [])
listed-more {old = old} {new = new} {climbs = climbs} {c = c} {e = e} searching turn long was = record {
  each = All-push (λ (c : Climbed). (e : Label) × (mark new c.rank ≡ Settled e) × (c.length ≡ length_of e.cost)) climbs c
      (λ k d low. let one = was.each k d low in (one.0, turn.stays (get_or climbs k d).rank one.0 one.1, one.2)) (e, turn.here, long);
  all = λ r d closed. elim (turn.settled r d closed) [
    | inl here ↦ (length climbs, omega (arith, length-append climbs (c ∷ [])), λ (b : Climbed). ap (λ (x : Climbed). x.rank) (get_or_push climbs c b (length climbs) refl) ∙ sym here)
    | inr before ↦
        let one = was.all r d before in
        (one.0, omega (arith, length-append climbs (c ∷ []), one.1), λ (b : Climbed). ap (λ (x : Climbed). x.rank) (get_or_append_left climbs (c ∷ []) b one.0 one.1) ∙ one.2 b)
  ];
  before = λ k (d : Climbed) (f : Label) low closed other. elim (cases_lt k (length climbs)) [
    | inl earlier ↦
        let same : get_or (climbs ++ c ∷ []) k d ≡ get_or climbs k d = get_or_append_left climbs (c ∷ []) d k earlier in
        let one = was.each k d earlier in
        let closed_here : mark new (get_or climbs k d).rank ≡ Settled f = subst (λ (b : Climbed). mark new b.rank ≡ Settled f) same closed in
        let label : one.0 ≡ f = one_label (turn.stays (get_or climbs k d).rank one.0 one.1) closed_here in
        let closed_before : mark old (get_or climbs k d).rank ≡ Settled f = subst (λ (l : Label). mark old (get_or climbs k d).rank ≡ Settled l) label one.1 in
        let found = was.before k d f earlier closed_before (subst (λ (b : Climbed). f.foot ≢ b.rank) same other) in
        (found.0, found.1, λ (b : Climbed). ap (λ (x : Climbed). x.rank) (get_or_append_left climbs (c ∷ []) b found.0 (omega (arith, found.1, earlier))) ∙ found.2 b)
    | inr late ↦
        let last : k ≡ length climbs = omega (arith, low, late, length-append climbs (c ∷ [])) in
        let same : get_or (climbs ++ c ∷ []) k d ≡ c = get_or_push climbs c d k (sym last) in
        let apart : f.foot ≢ c.rank = subst (λ (b : Climbed). f.foot ≢ b.rank) same other in
        let comes = came_from searching (label_settled (mark new c.rank) f (subst (λ (b : Climbed). mark new b.rank ≡ Settled f) same closed)) apart in
        elim (turn.settled f.foot comes.foot comes.settled) [
          | inl here ↦ absurd (apart here)
          | inr before ↦
              let one = was.all f.foot comes.foot before in
              (one.0, omega (arith, one.1, last), λ (b : Climbed). ap (λ (x : Climbed). x.rank) (get_or_append_left climbs (c ∷ []) b one.0 one.1) ∙ one.2 b)
        ]
  ];
}

module _ {h : Hierarchy} {side : Side} {seeds : List Seed} {bound : Cost} {marks : List (Mark Label)} (searching : IsSearching h side seeds bound marks) (climbing : IsClimbing h side seeds bound None marks) (none : NoneOpen (mark marks)) where
  settled_below : (r : ℕ) {c : Cost} {m : Mark Label} → mark marks r ≡ m → IsAtMost label_cost m c → (e : Label) × (mark marks r ≡ Settled e) × (e.cost ≼ c)
  settled_below r {m = Unseen} is most = absurd most
  settled_below r {m = Open e} is most = absurd (none r e is)
  settled_below r {m = Settled e} is most = (e, is, most)

  -- a climb leads to a settled node, whose label costs no more
  climb-settled : {r : ℕ} {c : Cost} → IsClimb h side seeds bound r c → (e : Label) × (mark marks r ≡ Settled e) × (e.cost ≼ c)
  climb-settled {r} {c} climb = elim (labelled_or_open label_cost (counts_less bound None) climbing climb.climb ((counts-short bound c).0 climb.short)) [
    | inl most ↦ settled_below r refl most
    | inr passed ↦ absurd (none passed.node passed.label passed.opens)
  ]

  one_settled : (r : ℕ) {e d : Label} → mark marks r ≡ Settled e → mark marks r ≡ Settled d → d ≡ e
  one_settled r {e} {d} is other = same e d (sym is ∙ other)
    where
      same : (e d : Label) → Settled e ≡ Settled d → d ≡ e
      same e d is = cc

  settled-least : {r : ℕ} {e : Label} → mark marks r ≡ Settled e → IsLeast (IsClimb h side seeds bound r) e.cost
  settled-least {r} {e} is =
      let has : HasLabel (mark marks r) e = label_settled (mark marks r) e is in (
        record { climb = climbing.walks r e has; short = searching.short r e has },
        λ d climb.
            let one = climb-settled climb in
            subst (λ (l : Label). l.cost ≼ d) (one_settled r is one.1) one.2,
      )

  pub climbs-listed : {climbs : List Climbed} → AreListed marks climbs → AreLeastClimbs h side seeds bound climbs
  climbs-listed {climbs} are = record {
    each = λ k d low.
        let one = are.each k d low in
        let c : Climbed = get_or climbs k d in
        record {
          rank_in = omega (arith, label-in marks c.rank one.0 (label_settled (mark marks c.rank) one.0 one.1), searching.nodes);
          cost = one.0.cost;
          least = settled-least one.1;
          long = one.2;
        };
    all = λ r c climb. let one = climb-settled climb in are.all r one.0 one.1;
  }
