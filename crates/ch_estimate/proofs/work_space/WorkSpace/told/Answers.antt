use Rattle.std.proofs.Common.{◌≡◌, ℕ, ◌<◌, List, length, AllPairs, ap, sym, subst, ◌∙◌, arith}
use Rattle.ch_laws.specs.Contraction.{Contraction}
use Rattle.ch_estimate.specs.Notes.{Note, note_in, note_of}
use Rattle.ch_estimate.proofs.EntriesTold.{note_low, taken_in, written}
use Rattle.ch_estimate.proofs.work_space.WorkSpace.told.Goals as goal

pub lose_all-requires-clause-deep : goal.lose_all-requires-clause-deep
lose_all-requires-clause-deep c =
    let low = note_low c.self.inside.heard.entries c.entry.inside.node in
    let own : c.note_of-depth.result ≡ note_of c.self.inside.heard.entries c.entry.inside.node =
    c.note_of-depth.ensures ∙ ap (λ (ns : List Note). note_in ns c.entry.inside.node) c.deref.ensures.value ∙ c.self.invariant c.entry.inside.node in
    let depth : c.note_of-depth.result.depth ≡ (note_of c.self.inside.heard.entries c.entry.inside.node).depth = ap (λ (n : Note). n.depth) own in
    let count : length c.self.inside.heard.entries ≡ length c.args.self.now = ap length c.self.view_is in
    omega (arith, depth, low.depth, count, c.requires.rank, c.requires.few)

pub lose_all-requires-clause-few : goal.lose_all-requires-clause-few
lose_all-requires-clause-few c = λ (x : ℕ).
    let low = note_low c.self.inside.heard.entries x in
    let before : note_in c.deref_mut.result.now x ≡ note_of c.self.inside.heard.entries x =
    ap (λ (ns : List Note). note_in ns x) c.deref_mut.ensures.value ∙ c.make_room.ensures.same x ∙ c.self.invariant x in
    let gone : (note_in c.deref_mut.result.now x).gone ≡ (note_of c.self.inside.heard.entries x).gone = ap (λ (n : Note). n.gone) before in
    let count : length c.self.inside.heard.entries ≡ length c.args.self.now = ap length c.self.view_is in
    omega (arith, gone, low.gone, count, c.requires.rank, c.requires.few)

pub lose_all-requires-clause-rising : goal.lose_all-requires-clause-rising
lose_all-requires-clause-rising c =
    let neighbours : c.as_slice-neighbours.result.now ≡ c.args.entry.now.neighbours =
    c.as_slice-neighbours.ensures.value ∙ ap (λ (e : Contraction). e.neighbours) c.entry.view_is in
    subst (λ (ns : List ℕ). AllPairs (λ x y. x < y) ns) (sym neighbours) c.requires.rising

pub invariant_of-self-2 : goal.invariant_of-self-2
invariant_of-self-2 c = λ (x : ℕ).
    let before : (y : ℕ) → note_in c.deref_mut.result.now y ≡ note_of c.self.inside.heard.entries y =
    λ (y : ℕ). ap (λ (ns : List Note). note_in ns y) c.deref_mut.ensures.value ∙ c.make_room.ensures.same y ∙ c.self.invariant y in
    let own : c.note_of-depth.result ≡ note_of c.self.inside.heard.entries c.entry.inside.node =
    c.note_of-depth.ensures ∙ ap (λ (ns : List Note). note_in ns c.entry.inside.node) c.deref.ensures.value ∙ c.self.invariant c.entry.inside.node in
    let e = c.args.entry.now in
    let node : c.entry.inside.node ≡ e.node = ap (λ (e : Contraction). e.node) c.entry.view_is in
    let neighbours : c.as_slice-neighbours.result.now ≡ e.neighbours = c.as_slice-neighbours.ensures.value ∙ ap (λ (e : Contraction). e.neighbours) c.entry.view_is in
    let depth : c.note_of-depth.result.depth ≡ (note_of c.self.inside.heard.entries e.node).depth =
    ap (λ (n : Note). n.depth) own ∙ ap (λ (v : ℕ). (note_of c.self.inside.heard.entries v).depth) node in
    let as_many : length c.lose_all.new.notes ≡ length c.make_room.new.notes.items = c.lose_all.ensures.room ∙ ap length c.deref_mut.ensures.value in
    let whole : length c.make_room.new.notes.items ≡ c.make_room.new.notes.len = sym (ap length c.deref_mut.ensures.value) ∙ c.deref_mut.ensures.len in
    ap (λ (ns : List Note). note_in ns x) (written c.lose_all.new.notes c.make_room.new.notes.items c.make_room.new.notes.len as_many whole)
    ∙ taken_in c.self.inside.heard.entries e (note_in c.deref_mut.result.now) c.as_slice-neighbours.result.now c.note_of-depth.result.depth
    before depth neighbours x (note_in c.lose_all.new.notes x) (c.lose_all.ensures.notes x)
    ∙ ap (λ (es : List Contraction). note_of es x) (sym c.and-self-inside.ensures)
