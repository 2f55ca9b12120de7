-- The answers that are kept, listed one by one.
use Rattle.std.proofs.Common.{ℕ, ◌≡◌, ◌≢◌, ◌⊎◌, List, [], ◌∷◌, ◌++◌, get_or, map, Option, Some, None, Contains, refl, ap, sym, subst, ◌∙◌, arith, inl, inr}
use Rattle.std.proofs.lemmas.Bool.{cases_eq}
use Rattle.std.proofs.lemmas.List.{map-append}
use Rattle.std.proofs.lemmas.List.Elements.{Contains-append_left, Contains-push, Contains-push_cases, Contains-get_or}
use Rattle.std.proofs.lemmas.List.Quantifiers.{all_pairs_push}
use Rattle.ch_overlay.specs.declared.source.Seen.{Seen}
use Rattle.ch_witness.specs.FirstPlaces.{first_places}
use Rattle.ch_witness.specs.Kept.{HasAll, Kept, AreListed, IsListedFrom, OfTheirNodes}
use Rattle.ch_witness.proofs.SomeValues.{some-same}
use Rattle.ch_witness.proofs.FirstPlaces.{first_places-new, first_places-old}

some-none : (a : Seen) {o : Option Seen} → o ≡ Some a → o ≡ None → ⊥
some-none a e f = cc

-- The list so far: what isn't in it is still kept, and what is in it isn't.
pub record Listing (whole kept : Kept) (nodes : List ℕ) (listed : List Seen) : Type 0 where
  pub is : AreListed whole nodes listed
  pub gone : (s : Seen) → Contains listed s → kept s.node ≡ None
  pub left : (x : ℕ) (s : Seen) → kept x ≡ Some s → whole x ≡ Some s
  pub none : nodes ≡ [] → listed ≡ []
  pub rest : (x : ℕ) (s : Seen) → whole x ≡ Some s → (kept x ≡ Some s) ⊎ Contains listed s

empty : (s : Seen) → Contains [] s → ⊥
empty s among = omega (arith, among.1)

none-among : (x : ℕ) → Contains [] x → ⊥
none-among x among = omega (arith, among.1)

no-first : (x : ℕ) (others : List ℕ) → [] ≡ x ∷ others → ⊥
no-first x others e = absurd (cc)

pub listing-start : (kept : Kept) → Listing kept kept [] []
listing-start kept = record {
  is = record {
    once = λ i j d low high. absurd (omega (arith, high));
    from_kept = λ s among. absurd (empty s among);
    of_nodes = λ s among. absurd (empty s among);
    every = λ x s among is. absurd (none-among x among);
    first = λ x others s e is. absurd (no-first x others e);
    in_order = λ all. refl;
  };
  gone = λ s among. absurd (empty s among);
  left = λ x s is. is;
  none = λ e. refl;
  rest = λ x s is. inl is;
}

first-of : (v x : ℕ) (others : List ℕ) → v ∷ [] ≡ x ∷ others → v ≡ x
first-of v x others e = cc

first-of-more : (n v x : ℕ) (nodes others : List ℕ) → (n ∷ nodes) ++ v ∷ [] ≡ x ∷ others → n ≡ x
first-of-more n v x nodes others e = cc

not-nothing : (xs : List ℕ) (v : ℕ) → xs ++ v ∷ [] ≡ [] → ⊥
not-nothing [] v e = absurd (cc)
not-nothing (x ∷ xs) v e = absurd (cc)

among-nothing : {xs : List Seen} (s : Seen) → xs ≡ [] → Contains xs s → ⊥
among-nothing s e among = empty s (subst (λ (ys : List Seen). Contains ys s) e among)

-- none is kept for the node
module _ (whole kept new : Kept) (own : OfTheirNodes whole) (v : ℕ) where
  -- none is kept for the node
  first-none : (nodes : List ℕ) {listed : List Seen} → kept v ≡ None → Listing whole kept nodes listed → (x : ℕ) (others : List ℕ) (s : Seen) → nodes ++ v ∷ [] ≡ x ∷ others → whole x ≡ Some s → (more : List Seen) × (listed ≡ s ∷ more)
  first-none [] {listed} none l x others s e is = elim (l.rest v s (subst (λ (y : ℕ). whole y ≡ Some s) (sym (first-of v x others e)) is)) [
    | inl k ↦ absurd (some-none s k none)
    | inr among ↦ absurd (among-nothing s (l.none refl) among)
  ]
  first-none (n ∷ nodes) none l x others s e is = l.is.first n nodes s refl (subst (λ (y : ℕ). whole y ≡ Some s) (sym (first-of-more n v x nodes others e)) is)

  every-none : {nodes : List ℕ} {listed : List Seen} → kept v ≡ None → Listing whole kept nodes listed → (x : ℕ) (s : Seen) → Contains (nodes ++ v ∷ []) x → whole x ≡ Some s → Contains listed s
  every-none {nodes} none l x s among is = elim (Contains-push_cases nodes v x among) [
    | inl old ↦ l.is.every x s old is
    | inr here ↦ elim (l.rest v s (subst (λ (y : ℕ). whole y ≡ Some s) (sym here) is)) [
      | inl k ↦ absurd (some-none s k none)
      | inr there ↦ there
    ]
  ]

  has-first : (nodes : List ℕ) → HasAll whole (nodes ++ v ∷ []) → HasAll whole nodes
  has-first nodes all x among = all x (Contains-append_left nodes (v ∷ []) x among)

  order-none : {nodes : List ℕ} {listed : List Seen} → kept v ≡ None → Listing whole kept nodes listed → HasAll whole (nodes ++ v ∷ []) → map (λ s. s.node) listed ≡ first_places (nodes ++ v ∷ [])
  order-none {nodes} none l all =
      let has = all v (Contains-push nodes v) in
      elim (l.rest v has.0 has.1) [
        | inl k ↦ absurd (some-none has.0 k none)
        | inr among ↦
            let node : has.0.node ≡ v = own v has.0 has.1 in
            l.is.in_order (has-first nodes all) ∙ sym (first_places-old nodes v (subst (λ (x : ℕ). Contains nodes x) node (l.is.of_nodes has.0 among)))
      ]

  listing-none : {nodes : List ℕ} {listed : List Seen} → kept v ≡ None → ((y : ℕ) → new y ≡ kept y) → Listing whole kept nodes listed → Listing whole new (nodes ++ v ∷ []) listed
  listing-none {nodes} {listed} none same l = record {
    is = record { once = l.is.once; from_kept = l.is.from_kept; of_nodes = λ s among. Contains-append_left nodes (v ∷ []) s.node (l.is.of_nodes s among); every = every-none none l; first = first-none nodes none l; in_order = order-none none l };
    gone = λ s among. same s.node ∙ l.gone s among;
    left = λ x s is. l.left x s (sym (same x) ∙ is);
    none = λ e. absurd (not-nothing nodes v e);
    rest = λ x s is. elim (l.rest x s is) [
      | inl k ↦ inl (same x ∙ k)
      | inr among ↦ inr among
    ];
  }

  -- or one is, and it is listed
  first-some : (t : Seen) (nodes : List ℕ) {listed : List Seen} → kept v ≡ Some t → Listing whole kept nodes listed → (x : ℕ) (others : List ℕ) (s : Seen) → nodes ++ v ∷ [] ≡ x ∷ others → whole x ≡ Some s → (more : List Seen) × (listed ++ t ∷ [] ≡ s ∷ more)
  first-some t [] some l x others s e is =
      let it : t ≡ s = some-same t s (sym (l.left v t some) ∙ subst (λ (y : ℕ). whole y ≡ Some s) (sym (first-of v x others e)) is) in
      ([], ap (λ (ys : List Seen). ys ++ t ∷ []) (l.none refl) ∙ ap (λ (u : Seen). u ∷ []) it)
  first-some t (n ∷ nodes) some l x others s e is =
      let old = l.is.first n nodes s refl (subst (λ (y : ℕ). whole y ≡ Some s) (sym (first-of-more n v x nodes others e)) is) in
      (old.0 ++ t ∷ [], ap (λ (ys : List Seen). ys ++ t ∷ []) old.1)

  listing-some : (t : Seen) {nodes : List ℕ} {listed : List Seen} → kept v ≡ Some t → new v ≡ None → ((y : ℕ) → y ≢ v → new y ≡ kept y) → Listing whole kept nodes listed → Listing whole new (nodes ++ v ∷ []) (listed ++ t ∷ [])
  listing-some t {nodes} {listed} some none others l = record {
    is = record {
      once = all_pairs_push (λ a b. a.node ≢ b.node) listed t l.is.once (λ k d inside. apart (get_or listed k d) (Contains-get_or listed k d inside));
      from_kept = λ s among. elim (Contains-push_cases listed t s among) [
        | inl old ↦ l.is.from_kept s old
        | inr here ↦ subst (λ (u : Seen). whole u.node ≡ Some u) here at
      ];
      of_nodes = λ s among. elim (Contains-push_cases listed t s among) [
        | inl old ↦ Contains-append_left nodes (v ∷ []) s.node (l.is.of_nodes s old)
        | inr here ↦ subst (λ (u : Seen). Contains (nodes ++ v ∷ []) u.node) here (subst (λ (y : ℕ). Contains (nodes ++ v ∷ []) y) (sym node) (Contains-push nodes v))
      ];
      every = λ x s among is. elim (Contains-push_cases nodes v x among) [
        | inl old ↦ Contains-append_left listed (t ∷ []) s (l.is.every x s old is)
        | inr here ↦ subst (λ (u : Seen). Contains (listed ++ t ∷ []) u) (some-same t s (sym (l.left v t some) ∙ subst (λ (y : ℕ). whole y ≡ Some s) (sym here) is)) (Contains-push listed t)
      ];
      first = first-some t nodes some l;
      in_order = λ all.
          map-append (λ (s : Seen). s.node) listed (t ∷ [])
          ∙ ap (λ ns. ns ++ t.node ∷ []) (l.is.in_order (has-first nodes all))
          ∙ ap (λ (x : ℕ). first_places nodes ++ x ∷ []) node
          ∙ sym (first_places-new nodes v absent);
    };
    gone = λ s among. elim (Contains-push_cases listed t s among) [
      | inl old ↦ others s.node (λ e. apart s old (e ∙ sym node)) ∙ l.gone s old
      | inr here ↦ subst (λ (u : Seen). new u.node ≡ None) here (subst (λ (y : ℕ). new y ≡ None) (sym node) none)
    ];
    left = λ x s is. elim (cases_eq x v) [
      | inl e ↦ absurd (some-none s (subst (λ (y : ℕ). new y ≡ Some s) e is) none)
      | inr other ↦ l.left x s (sym (others x other) ∙ is)
    ];
    none = λ e. absurd (not-nothing nodes v e);
    rest = λ x s is. elim (cases_eq x v) [
      | inl e ↦ inr (subst (λ (u : Seen). Contains (listed ++ t ∷ []) u) (some-same t s (sym (l.left v t some) ∙ subst (λ (y : ℕ). whole y ≡ Some s) e is)) (Contains-push listed t))
      | inr other ↦ elim (l.rest x s is) [
        | inl k ↦ inl (others x other ∙ k)
        | inr among ↦ inr (Contains-append_left listed (t ∷ []) s among)
      ]
    ];
  } where
    node : t.node ≡ v
    node = own v t (l.left v t some)

    at : whole t.node ≡ Some t
    at = subst (λ (y : ℕ). whole y ≡ Some t) (sym node) (l.left v t some)

    absent : Contains nodes v → ⊥
    absent among = some-none t some (subst (λ (y : ℕ). kept y ≡ None) node (l.gone t (l.is.every v t among (l.left v t some))))

    apart : (s : Seen) → Contains listed s → s.node ≢ t.node
    apart s among e = some-none t some (subst (λ (y : ℕ). kept y ≡ None) (e ∙ node) (l.gone s among))

  -- whichever it is
  pub listing-more : {nodes : List ℕ} {listed : List Seen} (more : List Seen) → (o : Option Seen) → kept v ≡ o → IsListedFrom o kept v listed new more → Listing whole kept nodes listed → Listing whole new (nodes ++ v ∷ []) more
  listing-more {nodes} {listed} more None is step l = subst (Listing whole new (nodes ++ v ∷ [])) (sym step.1) (listing-none is step.0 l)
  listing-more {nodes} {listed} more (Some t) is step l = subst (Listing whole new (nodes ++ v ∷ [])) (sym step.2) (listing-some t is step.0 step.1 l)
