use Rattle.std.proofs.Common.{false, true, IsSome, ℕ, ◌≡◌, ◌<◌, ◌≤◌, List, [], ◌∷◌, ◌++◌, length, length-append, append-nil, option_to_list, arith, ap, subst, sym, ◌∙◌, Option, Some, None, Result, Err}
use Rattle.std.proofs.lemmas.Result.{err_from_is_err_and}
use Rattle.ch_unpack.specs.declared.error.UnpackError.{UnpackError}
use Rattle.ch_unpack.specs.declared.error.UnpackError.TheVariants.{TooLong}
use Rattle.std.proofs.lemmas.List.{length-reverse}
use Rattle.ch_graph.specs.declared.hierarchy.LinkId.{LinkId}
use Rattle.ch_unpack.proofs.LinksToArcs.{IsUnderWay, set_out, next_within, pass_on, turn_off, arrive, too_many_links, no_room}
use Rattle.ch_unpack.proofs.unpacking.unpack.Goals as goal

-- the links ahead with the next one behind them
with_next : (ahead : List LinkId) (next : Option LinkId) (link : LinkId) → next ≡ Some link → ahead ++ option_to_list next ≡ ahead ++ link ∷ []
with_next ahead next link is = ap (λ (n : Option LinkId). ahead ++ option_to_list n) is

-- where none is taken out none is left
none_left : (ahead left : List LinkId) (next : Option LinkId) → (0 < length ahead → IsSome next) → ahead ≡ left ++ option_to_list next → next ≡ None → left ≡ []
none_left [] left None some is e = sym (append-nil left) ∙ sym is
none_left (link ∷ links) left None some is e = let one : false ≡ true = some (omega arith) in absurd (cc)
none_left ahead left (Some next) some is e = absurd (cc)

pub returns-then-links-room-clause-too_long : goal.returns-then-links-room-clause-too_long
returns-then-links-room-clause-too_long c = λ e. too_many_links c.links_unfold.ensures c.nodes-room.ensures.made c.requires.joined c.requires.source_in (omega arith)

pub route-init : goal.route-init
route-init c =
    let first : c.push.new.self.items ≡ c.args.source ∷ [] = c.in_ok-push.ensures.items ∙ ap (λ (xs : List ℕ). xs ++ c.args.source ∷ []) c.new-nodes.ensures.items in
    let ahead = c.in_ok-ahead.ahead.items in
    let popped = c.pop-next.ensures.items in
    record {
      under_way =
          subst (λ (xs : List LinkId). IsUnderWay c.args.hierarchy.now c.args.source c.args.links.now c.push.new.self.items xs) popped
          (set_out c.links_unfold.ensures c.nodes-room.ensures.made c.requires.joined first c.in_ok-ahead.ensures);
      none_left = none_left _ _ c.pop-next.result c.pop-next.ensures.variant.1 popped;
      in_room = omega (arith, ap (λ (xs : List ℕ). length xs) first, ap (λ (xs : List LinkId). length xs) c.in_ok-ahead.ensures, length-reverse ahead, ap (λ (xs : List LinkId). length xs) popped);
    }

pub parts-requires : goal.parts-requires
parts-requires c = next_within c.in-Some.link c.route.ahead.items c.route.invariant.under_way (with_next c.route.ahead.items c.route.next c.in-Some.link c.in-Some.is)

same_error : {T : Type 0} (d e : UnpackError) (r : Result T UnpackError) → r ≡ Err d → r ≡ Err e → d ≡ e
same_error d e r a b = cc

pub returns-in_err-turn_off-in-Shortcut-clause-too_long : goal.returns-in_err-turn_off-in-Shortcut-clause-too_long
returns-in_err-turn_off-in-Shortcut-clause-too_long c =
    let told = err_from_is_err_and c.from_residual-in_err-turn_off-in-Shortcut.result c.from_residual-in_err-turn_off-in-Shortcut.ensures.1 in
    λ e.
    let named : told.0 ≡ TooLong = same_error told.0 TooLong _ told.1 e in
    let far = c.in_err-turn_off-in-Shortcut.ensures.too_long (ap (λ (x : UnpackError). Err x) (sym told.2 ∙ named)) in
    no_room c.in-Some.link c.in-Shortcut.first c.in-Shortcut.second c.route.ahead.items c.links_unfold.ensures c.nodes-room.ensures.made c.route.invariant.under_way
    (with_next c.route.ahead.items c.route.next c.in-Some.link c.in-Some.is) c.in-Shortcut.ensures c.requires.source_in (omega (arith, c.route.nodes.ok, far))

pub route-preserved-in-Shortcut : goal.route-preserved-in-Shortcut
route-preserved-in-Shortcut c =
    let left = c.route.ahead.items in
    let one = c.in-Shortcut.first in
    let two = c.in-Shortcut.second in
    let put = c.in_ok-turn_off-in-Shortcut.ensures.half in
    record {
      under_way =
          subst (λ (xs : List LinkId). IsUnderWay c.args.hierarchy.now c.args.source c.args.links.now c.route.nodes.items (xs ++ one ∷ [])) (sym put)
          (turn_off c.in-Some.link one two left c.links_unfold.ensures c.nodes-room.ensures.made c.route.invariant.under_way (with_next left c.route.next c.in-Some.link c.in-Some.is) c.in-Shortcut.ensures);
      none_left = λ e. absurd (cc);
      in_room = omega (arith, c.in_ok-turn_off-in-Shortcut.ensures.in_room, c.route.nodes.ok, length-append c.turn_off.new.ahead.items (one ∷ []));
    }

pub route-preserved : goal.route-preserved
route-preserved c =
    let left = c.route.ahead.items in
    let popped = c.pop-next-in-Arc.ensures.items in
    record {
      under_way =
          subst (λ (xs : List LinkId). IsUnderWay c.args.hierarchy.now c.args.source c.args.links.now c.push-in-Arc.new.self.items xs) popped
          (subst (λ (xs : List ℕ). IsUnderWay c.args.hierarchy.now c.args.source c.args.links.now xs left) (sym c.in_ok-push-in-Arc.ensures.items)
          (pass_on c.in-Some.link c.in-Arc.to left c.route.invariant.under_way (with_next left c.route.next c.in-Some.link c.in-Some.is) c.in-Arc.ensures));
      none_left = none_left _ _ c.pop-next-in-Arc.result c.pop-next-in-Arc.ensures.variant.1 popped;
      in_room = omega (arith, c.in_ok-push-in-Arc.ensures.len, ap (λ (xs : List LinkId). length xs) popped, c.route.invariant.in_room, ap (λ (xs : List LinkId). length xs) (with_next left c.route.next c.in-Some.link c.in-Some.is), length-append left (c.in-Some.link ∷ []));
    }

pub returns-clause-nodes : goal.returns-clause-nodes
returns-clause-nodes c =
    let none : c.route.ahead.items ++ option_to_list c.route.next ≡ [] = ap (λ (xs : List LinkId). xs ++ option_to_list c.route.next) (c.route.invariant.none_left c.in_default.is) ∙ ap (λ (n : Option LinkId). option_to_list n) c.in_default.is in
    let room : length c.route.nodes.items ≤ length c.args.hierarchy.now.ranks = omega (arith, c.route.nodes.ok, c.route.invariant.in_room, c.nodes-room.ensures.count) in
    arrive (subst (λ (xs : List LinkId). IsUnderWay c.args.hierarchy.now c.args.source c.args.links.now c.route.nodes.items xs) none c.route.invariant.under_way) room
