use Rattle.std.proofs.Common.{◌≡◌, false, rules}
use Rattle.std.proofs.lemmas.Result.{IfOk-weaker}
use Rattle.clap.specs.declared.builder.command.Command.TheViews.{out-Command}
use Rattle.command_line.proofs.LocalArguments.{still_local}
use Rattle.command_line.proofs.reading.preparation.Goals as goal

-- none of the six arguments is of all levels
pub returns : goal.returns
returns c =
    let none : (out-Command c.after_help.result).has_globals ≡ false = search rules in
    let one = still_local c.in_ok-arg.ensures none c.workers.ensures in
    let two = still_local c.in_ok-arg-2.ensures one c.in_ok-sequential.ensures in
    let three = still_local c.in_ok-arg-3.ensures two c.seed.ensures in
    let four = still_local c.in_ok-arg-4.ensures three c.order.ensures in
    let five = still_local c.in_ok-arg-5.ensures four c.stint.ensures in
    IfOk-weaker c.arg-6.result _ _ (λ made added. still_local added five c.progress.ensures) c.arg-6.ensures
