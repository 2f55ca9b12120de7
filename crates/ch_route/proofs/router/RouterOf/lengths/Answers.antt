use Rattle.std.proofs.Common.{length, arith}
use Rattle.std.proofs.lemmas.Result.{IfErr-weaker, IfOk-weaker}
use Rattle.ch_table.specs.Lengths.{AreFirstRows, AreRows, IsLengthFrom}
use Rattle.ch_route.specs.Routes.{IsRowLength}
use Rattle.ch_route.proofs.RoutesAreLeast.{first-lengths, rows-lengths}
use Rattle.ch_route.proofs.router.RouterOf.lengths.Goals as goal

pub returns-clause-rows : goal.returns-clause-rows
returns-clause-rows g c =
    let sources = c.args.sources.now in
    let targets = c.args.selection.now.targets in
    IfOk-weaker c.lengths.result (λ done. AreRows (IsLengthFrom c.self.inside.search) sources targets c.args.from (length sources) c.args.rows.now c.lengths.new.rows)
    (λ done. AreRows (IsRowLength c.args.self.now) sources targets c.args.from (length sources) c.args.rows.now c.lengths.new.rows)
    (λ done rows. rows-lengths c.routes_are_least.ensures.lengths c.routes_are_least.ensures.lengths_by_weight c.self.inside.search c.args.self.now c.self.view_is sources targets
    c.requires.sources c.requires.selection.ends.targets_in c.args.from c.args.rows.now c.lengths.new.rows (length sources) (omega arith) rows) c.lengths.ensures.rows

pub returns-clause-refused : goal.returns-clause-refused
returns-clause-refused g c =
    let sources = c.args.sources.now in
    let targets = c.args.selection.now.targets in
    IfErr-weaker c.lengths.result (λ e. AreFirstRows (IsLengthFrom c.self.inside.search) sources targets c.args.from c.args.rows.now c.lengths.new.rows)
    (λ e. AreFirstRows (IsRowLength c.args.self.now) sources targets c.args.from c.args.rows.now c.lengths.new.rows)
    (λ e first. first-lengths c.routes_are_least.ensures.lengths c.routes_are_least.ensures.lengths_by_weight c.self.inside.search c.args.self.now c.self.view_is sources targets
    c.requires.sources c.requires.selection.ends.targets_in c.args.from c.args.rows.now c.lengths.new.rows first) c.lengths.ensures.refused
