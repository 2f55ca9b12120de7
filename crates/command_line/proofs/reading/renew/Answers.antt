use Rattle.std.proofs.Common.{◌≡◌, false, rules}
use Rattle.std.proofs.lemmas.Result.{IfOk-weaker}
use Rattle.clap.specs.declared.builder.command.Command.TheViews.{out-Command}
use Rattle.command_line.proofs.LocalArguments.{still_local}
use Rattle.command_line.proofs.reading.renew.Goals as goal

-- none of the five arguments is of all levels
pub returns : goal.returns
returns c =
    let none : (out-Command c.after_help.result).has_globals ≡ false = search rules in
    let one = still_local c.in_ok-arg.ensures none c.progress.ensures in
    let two = still_local c.in_ok-arg-2.ensures one c.explain.ensures in
    let three = still_local c.in_ok-arg-3.ensures two c.file.ensures in
    let four = still_local c.in_ok-arg-4.ensures three c.file-2.ensures in
    IfOk-weaker c.arg-5.result _ _ (λ made added. still_local added four c.file-3.ensures) c.arg-5.ensures
