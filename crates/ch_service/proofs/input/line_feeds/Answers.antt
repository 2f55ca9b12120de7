use Rattle.std.proofs.Common.{rules, ◌≡◌, ◌==◌, ◌∙◌, sym}
use Rattle.std.specs.List.{count_by}
use Rattle.std.proofs.iter.runs.Made.{chains}
use Rattle.ch_service.proofs.JoinedLines.{line_feeds_count}
use Rattle.ch_service.proofs.input.line_feeds.Goals as goal

pub returns : goal.returns
returns c =
    let counted : c.count.result ≡ count_by (λ b. b == 10) c.args.text.now = search (rules, chains) in
    counted ∙ sym (line_feeds_count c.args.text.now)
