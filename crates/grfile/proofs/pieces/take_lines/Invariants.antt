use Rattle.std.proofs.Common.{◌≡◌, ◌≤◌, ◌+◌, ◌++◌, [], List, ℕ, length}
use Rattle.text_lines.specs.Numbers.{capped}
use Rattle.grfile.specs.Progress.{told_from}
use Rattle.text_lines.specs.Lines.{line_feeds, lines_after}
use Rattle.grfile.proofs.pieces.take_lines.Given as goal

abbrev pub invariant-loop-more : goal.invariant-loop-more
invariant-loop-more g l = record {
  told : (more : List ℕ) → told_from (g.F.Form.grammar l.fn.form) l.progress (lines_after [] (l.rest ++ more)) ≡ told_from (g.F.Form.grammar l.fn.form) l.fn.progress (lines_after [] (l.fn.text ++ more));
  count : capped (l.progress.line + line_feeds l.rest) ≡ capped (l.fn.progress.line + line_feeds l.fn.text);
  from : capped l.fn.progress.line ≤ l.progress.line;
  to : l.progress.line + line_feeds l.rest ≤ l.fn.progress.line + line_feeds l.fn.text;
}

abbrev pub decreases-loop-more : goal.decreases-loop-more
decreases-loop-more g l = length l.rest
