use Rattle.std.proofs.Common.{◌<◌, ◌^◌, ◌≡◌, length, ap, arith}
use Rattle.ch_laws.specs.Rows.{Row}
use Rattle.ch_contract.specs.Proposal.{Proposal}
use Rattle.ch_contract.proofs.RowSizes.{few_entries, few_shortcuts}
use Rattle.ch_contract.proofs.proposal.Proposal.facts.Goals as goal

pub overflow_cast-result : goal.overflow_cast-result
overflow_cast-result c =
    let few : length c.own-row.result.now.inn < 2 ^ 25 = few_entries (2 ^ 25) c.args.self.now.node c.args.self.now.bound c.own-row.result.now.inn c.own-row.ensures.node c.own-row.ensures.inn_rises c.own-row.ensures.entries.inn in
    omega (arith, few, ap length c.inn.ensures)

pub overflow_cast-result-2 : goal.overflow_cast-result-2
overflow_cast-result-2 c =
    let few : length c.own-row.result.now.out < 2 ^ 25 = few_entries (2 ^ 25) c.args.self.now.node c.args.self.now.bound c.own-row.result.now.out c.own-row.ensures.node c.own-row.ensures.out_rises c.own-row.ensures.entries.out in
    omega (arith, few, ap length c.out.ensures)

pub returns-clause-few : goal.returns-clause-few
returns-clause-few c =
    let row = c.own-row.result.now in
    let few_in : length row.inn < 2 ^ 25 = few_entries (2 ^ 25) c.args.self.now.node c.args.self.now.bound row.inn c.own-row.ensures.node c.own-row.ensures.inn_rises c.own-row.ensures.entries.inn in
    let few_out : length row.out < 2 ^ 25 = few_entries (2 ^ 25) c.args.self.now.node c.args.self.now.bound row.out c.own-row.ensures.node c.own-row.ensures.out_rises c.own-row.ensures.entries.out in
    let few = few_shortcuts c.args.self.now c.own-row.ensures.holds row c.own-row.ensures.read c.own-row.ensures.inn_rises c.own-row.ensures.out_rises in
    let ins : length c.inn.result.now ≡ length row.inn = ap length c.inn.ensures in
    let outs : length c.out.result.now ≡ length row.out = ap length c.out.ensures in
    let put : c.len.result ≡ length c.args.self.now.shortcuts = omega (arith, c.len.ensures, c.self.inside.shortcuts.ok, ap (λ (p : Proposal). length p.shortcuts) c.self.view_is) in
    record {
      ins = omega (arith, ins, few_in);
      outs = omega (arith, outs, few_out);
      shortcuts = rw (ins, outs, put) few;
    }
