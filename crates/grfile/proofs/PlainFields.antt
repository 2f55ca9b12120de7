-- Plain lines of entries: their kind, and what their numbers say.
use Rattle.std.proofs.Common.{ℕ, ◌≡◌, List, [], ◌∷◌, drop, Option, Some, None, Result, Ok, refl, ap, ◌∙◌}
use Rattle.text_lines.specs.Numbers.{IsNumberBefore, number_of}
use Rattle.text_lines.specs.Plain.{plain_line}
use Rattle.text_lines.specs.Plain.Laws.{last_number, one_number, plain_fields, spelled}
use Rattle.ch_graph.specs.declared.road.Road.{Road}
use Rattle.grfile.specs.declared.error.GrError.{GrError}
use Rattle.grfile.specs.declared.error.GrErrorKind.TheVariants.{NotANumber}
use Rattle.grfile.specs.declared.form.Size.{Size}
use Rattle.grfile.specs.Outcome.{◌>>=◌, fault}
use Rattle.grfile.specs.Grammar.{kind_of, number_in}
use Rattle.grfile.specs.Pairs.{pair_grammar, pair_in_range, pair_of}
use Rattle.grfile.specs.Roads.{graph_grammar, road_in_range, road_of}
use Rattle.grfile.specs.PlainLines.{IsEntryBefore}

number_at : (n : ℕ) (field : List ℕ) (value : ℕ) → number_of field ≡ Some value → number_in n field ≡ Ok value
number_at n field value is = ap (λ (o : Option ℕ). elim o as (λ _. Result ℕ GrError) [ Some v ↦ Ok v | None ↦ fault NotANumber n ]) is

-- the fields say what the numbers say
road_three : (nodes n : ℕ) (road : Road) (u v w : List ℕ) (from to weight : ℕ) → number_of u ≡ Some from → number_of v ≡ Some to → number_of w ≡ Some weight
    → road_in_range nodes n from to weight ≡ Ok road → road_of nodes n (u ∷ v ∷ w ∷ []) ≡ Ok road
unfolding road_of
road_three nodes n road u v w from to weight u_is v_is w_is is =
    ap (λ (r : Result ℕ GrError). r >>= (λ from. number_in n v >>= (λ to. number_in n w >>= (λ weight. road_in_range nodes n from to weight))))
    (number_at n u from u_is) ∙ ap (λ (r : Result ℕ GrError). r >>= (λ to. number_in n w >>= (λ weight. road_in_range nodes n from to weight)))
    (number_at n v to v_is) ∙ ap (λ (r : Result ℕ GrError). r >>= (λ weight. road_in_range nodes n from to weight)) (number_at n w weight w_is)
    ∙ is

pub road_before : (size : Size) (n : ℕ) {text rest after_u after_v after_w : List ℕ} {from to weight : ℕ} (road : Road) → text ≡ 97 ∷ 32 ∷ rest
    → IsNumberBefore 32 rest from after_u → IsNumberBefore 32 after_u to after_v → IsNumberBefore 10 after_v weight after_w
    → road_in_range size.nodes n from to weight ≡ Ok road → IsEntryBefore graph_grammar size n text road after_w
road_before size n {rest} {after_u} {after_v} {after_w} {from} {to} {weight} road text_is u v w is =
    let fields : List (List ℕ) = u.field ∷ v.field ∷ w.field ∷ [] in
    let u_is = spelled u.field from u.spells in
    let v_is = spelled v.field to v.spells in
    let w_is = spelled w.field weight w.spells in
    let plain = plain_fields 97 fields refl refl refl (u_is.0, u_is.1, (v_is.0, v_is.1, (w_is.0, w_is.1, tt))) in
    record {
      line = plain_line 97 fields;
      text_is = text_is ∙ ap (λ (t : List ℕ). 97 ∷ t) (one_number rest u.field after_u (10 ∷ after_w) (v.field ∷ w.field ∷ []) u.text_is
          (one_number after_u v.field after_v (10 ∷ after_w) (w.field ∷ []) v.text_is (last_number after_v w.field after_w w.text_is)));
      one_line = plain.0;
      kind_is = ap (λ (all : List (List ℕ)). kind_of 97 all) plain.1;
      says = ap (λ (all : List (List ℕ)). road_of size.nodes n (drop 1 all)) plain.1
          ∙ road_three size.nodes n road u.field v.field w.field from to weight u.spells v.spells w.spells is;
    }

pair_two : (nodes n : ℕ) (pair : ℕ × ℕ) (u v : List ℕ) (source target : ℕ) → number_of u ≡ Some source → number_of v ≡ Some target
    → pair_in_range nodes n source target ≡ Ok pair → pair_of nodes n (u ∷ v ∷ []) ≡ Ok pair
unfolding pair_of
pair_two nodes n pair u v source target u_is v_is is =
    ap (λ (r : Result ℕ GrError). r >>= (λ source. number_in n v >>= (λ target. pair_in_range nodes n source target))) (number_at n u source u_is) ∙ ap (λ (r : Result ℕ GrError). r >>= (λ target. pair_in_range nodes n source target)) (number_at n v target v_is) ∙ is

pub pair_before : (nodes : ℕ) (size : Size) (n : ℕ) {text rest after_u after_v : List ℕ} {source target : ℕ} (pair : ℕ × ℕ) → text ≡ 113 ∷ 32 ∷ rest
    → IsNumberBefore 32 rest source after_u → IsNumberBefore 10 after_u target after_v → pair_in_range size.nodes n source target ≡ Ok pair
    → IsEntryBefore (pair_grammar nodes) size n text pair after_v
pair_before nodes size n {rest} {after_u} {after_v} {source} {target} pair text_is u v is =
    let fields : List (List ℕ) = u.field ∷ v.field ∷ [] in
    let u_is = spelled u.field source u.spells in
    let v_is = spelled v.field target v.spells in
    let plain = plain_fields 113 fields refl refl refl (u_is.0, u_is.1, (v_is.0, v_is.1, tt)) in
    record {
      line = plain_line 113 fields;
      text_is = text_is ∙ ap (λ (t : List ℕ). 113 ∷ t)
          (one_number rest u.field after_u (10 ∷ after_v) (v.field ∷ []) u.text_is (last_number after_u v.field after_v v.text_is));
      one_line = plain.0;
      kind_is = ap (λ (all : List (List ℕ)). kind_of 113 all) plain.1;
      says = ap (λ (all : List (List ℕ)). pair_of size.nodes n (drop 1 all)) plain.1 ∙ pair_two size.nodes n pair u.field v.field source target u.spells v.spells is;
    }
