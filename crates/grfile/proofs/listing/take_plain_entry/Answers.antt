use Rattle.std.proofs.Common.{arith, refl}
use Rattle.grfile.proofs.PlainTaken.{takes_plain}
use Rattle.grfile.proofs.listing.take_plain_entry.Goals as goal

pub returns-in-Ok-clause-takes : goal.returns-in-Ok-clause-takes
returns-in-Ok-clause-takes g c = λ n is.
    takes_plain (g.F.Form.grammar c.args.form) n c.args.number c.args.listed.now
    (record {
      size = c.args.listed.now.size;
      entries = c.push.new.self;
    }) c.args.text.now c.in-Some.found.rest.now c.in-Some.found.entry is refl c.in-Ok.ensures.items
    (omega (arith, c.args.listed.now.entries.ok, c.len.ensures, c.if-len-listed.false)) c.in-Some.ensures
