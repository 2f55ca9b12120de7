use Rattle.std.proofs.Common.{ap, is_some}
use Rattle.clap.proofs.CallerLemmas.{subcommand_required}
use Rattle.command_line.proofs.reading.read_words.Goals as goal

-- a parse of a command that needs a subcommand has met one
pub unreachable-requires : goal.unreachable-requires
unreachable-requires c =
    let program = c.in_ok-program.ensures in
    let met = subcommand_required _ c.in_ok-matches.matches c.in_ok-matches.ensures.parsed program.local program.needs in
    let some = c.subcommand.ensures.variant in
    let none = ap is_some c.in_default.is in
    absurd (cc)
