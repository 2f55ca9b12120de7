-- Commands without arguments of all levels.
use Rattle.std.proofs.Common.{◌≡◌, ◌∙◌, ◌||◌, ap, Bool, false}
use Rattle.clap.specs.Built.{AddsArg}
use Rattle.clap.specs.declared.builder.arg.Arg.{Arg}
use Rattle.clap.specs.declared.builder.command.Command.{Command}
use Rattle.clap.specs.declared.builder.command.Command.TheViews.{out-Command}

-- with one more argument of its own level it stays such a one
pub still_local : {old new : Command} {a : Arg} → AddsArg old a new → (out-Command old).has_globals ≡ false → a.global ≡ false → (out-Command new).has_globals ≡ false
still_local {a = a} added before own = added.globals ∙ (ap (λ (b : Bool). b || a.global) before ∙ own)
