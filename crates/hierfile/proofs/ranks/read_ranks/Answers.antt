use Rattle.std.proofs.Common.{◌≡◌, ◌+◌, ◌++◌, ◌∷◌, [], ◌<◌, length, sym, ◌∙◌, ap, subst, arith, length-append}
use Rattle.std.specs.List.{flat_map}
use Rattle.std.proofs.lemmas.List.{flat_map_more}
use Rattle.hierfile.specs.Spelling.{word}
use Rattle.hierfile.specs.Fault.{cut, rank_fault, ranks_fault}
use Rattle.hierfile.specs.Bytes.{IsCut, NoneBelow}
use Rattle.hierfile.proofs.FaultsOfParts.{ranks_cut, ranks_so_far, ranks_stop, none-push, length-word}
use Rattle.hierfile.proofs.PartAfterPart.{Takes, fault_behind, fault_found, hands_back, no_memory, runs_out_behind, takes_none, takes_then}
use Rattle.counted_io.specs.Limits.Laws.{read_then}
use Rattle.hierfile.specs.declared.error.HierError.TheVariants.{OutOfMemory}
use Rattle.std.proofs.Common.{List, ℕ, rules}
use Rattle.std.proofs.lemmas.Grind.{common_steps}
use Rattle.hierfile.proofs.ranks.read_ranks.Goals as goal

pub returns-in_err-rank-clause-reads : goal.returns-in_err-rank-clause-reads
returns-in_err-rank-clause-reads g c =
    let n = c.args.nodes in
    let ranks = c.nodes.ranks.items in
    let before : NoneBelow (length ranks) (rank_fault n ranks) =
    subst (λ m. NoneBelow m (rank_fault n ranks)) (sym c.nodes.invariant.count) c.nodes.invariant.faultless in
    let less : length ranks < n = omega arith in
    let fits : n < 4294967296 = omega arith in
    hands_back c.from_residual.result _ _ _ c.from_residual.ensures.1
    (fault_behind g.R.StepRead.step g.R.Read.remaining (cut 4) (ranks_fault n) c.nodes.invariant.taken (λ d rest is. ranks_cut n ranks rest _ fits less before is) c.in_err-rank.ensures.reads)

pub returns-in_err-take_rank-clause-reads : goal.returns-in_err-take_rank-clause-reads
returns-in_err-take_rank-clause-reads g c =
    let step = g.R.StepRead.step in
    let remaining = g.R.Read.remaining in
    let n = c.args.nodes in
    let rank = c.in_ok-rank.rank in
    let ranks = c.nodes.ranks.items in
    let before : NoneBelow (length ranks) (rank_fault n ranks) =
    subst (λ m. NoneBelow m (rank_fault n ranks)) (sym c.nodes.invariant.count) c.nodes.invariant.faultless in
    let less : length ranks < n = omega arith in
    let fits : n < 4294967296 = omega arith in
    let small : rank < 4294967296 = omega arith in
    let so_far = takes_then step remaining c.nodes.invariant.taken c.in_ok-rank.ensures.reads in
    hands_back c.from_residual-in_err-take_rank.result _ _ _ c.from_residual-in_err-take_rank.ensures.1
    (fault_found step remaining (ranks_fault n) so_far (λ is rest. ap (λ l. ranks_fault n (l ++ rest)) (flat_map_more word [] ranks rank) ∙ ranks_stop n rank ranks rest _ fits small less before is) c.in_err-take_rank.ensures.err c.in_err-take_rank.ensures.no_read
    (λ _. runs_out_behind step remaining (IsCut (ranks_fault n)) c.nodes.invariant.taken c.in_ok-rank.ensures.reads (omega (arith, length-word rank, c.in_ok-rank.ensures.room)) (ranks_so_far n ranks fits less before)))

pub nodes-preserved : goal.nodes-preserved
nodes-preserved g c =
    let step = g.R.StepRead.step in
    let remaining = g.R.Read.remaining in
    let n = c.args.nodes in
    let rank = c.in_ok-rank.rank in
    let ranks = c.nodes.ranks.items in
    let new = c.take_rank.new.ranks.items in
    let pushed : new ≡ ranks ++ rank ∷ [] = c.in_ok-take_rank.ensures.ok in
    let so_far = takes_then step remaining c.nodes.invariant.taken c.in_ok-rank.ensures.reads in
    let spelled : flat_map word ranks ++ word rank ≡ flat_map word new =
    flat_map_more word [] ranks rank ∙ ap (flat_map word) (sym pushed) in
    record {
      count = omega (arith, c.nodes.invariant.count, ap length pushed, length-append ranks (rank ∷ []));
      came = c.in_ok-take_rank.ensures.taken;
      faultless = subst (λ l. NoneBelow (c.nodes.counter + 1) (rank_fault n l)) (sym pushed) (none-push n rank c.nodes.counter ranks c.nodes.invariant.count c.nodes.invariant.faultless c.in_ok-take_rank.ensures.faultless);
      taken = subst (Takes step remaining c.args.input.now c.word.new.self c.args.reader.now c.word.new.reader) spelled so_far;
    }

pub nodes-init : goal.nodes-init
nodes-init g c =
    let step = g.R.StepRead.step in
    let remaining = g.R.Read.remaining in
    let none = c.new-ranks.ensures.items in
    let input = c.args.input.now in
    let reader = c.args.reader.now in
    record {
      count = ap length none;
      came = search rules;
      faultless = λ k less. absurd (omega (arith, less));
      taken = subst (λ (l : List ℕ). Takes step remaining input input reader reader (flat_map word l)) (sym none) (takes_none step remaining input reader);
    }

-- this rank wasn't tested
pub returns-in_err-mark_if_many-clause-reads : goal.returns-in_err-mark_if_many-clause-reads
returns-in_err-mark_if_many-clause-reads g c =
    let step = g.R.StepRead.step in
    let remaining = g.R.Read.remaining in
    let n = c.args.nodes in
    let rank = c.in_ok-rank.rank in
    let ranks = c.nodes.ranks.items in
    let before : NoneBelow (length ranks) (rank_fault n ranks) =
    subst (λ m. NoneBelow m (rank_fault n ranks)) (sym c.nodes.invariant.count) c.nodes.invariant.faultless in
    let less : length ranks < n = omega arith in
    let fits : n < 4294967296 = omega arith in
    hands_back c.from_residual-in_err-mark_if_many.result _ _ OutOfMemory c.from_residual-in_err-mark_if_many.ensures.1
    (no_memory step remaining (ranks_fault n) (read_then step c.nodes.invariant.taken.calls c.in_ok-rank.ensures.reads.calls)
    (runs_out_behind step remaining (IsCut (ranks_fault n)) c.nodes.invariant.taken c.in_ok-rank.ensures.reads (omega (arith, length-word rank, c.in_ok-rank.ensures.room)) (ranks_so_far n ranks fits less before)))

pub nodes-smaller : goal.nodes-smaller
nodes-smaller c = grind (arith, common_steps) steps 200000

pub returns-clause-count : goal.returns-clause-count
returns-clause-count c = grind (arith, common_steps) steps 200000
