use Rattle.std.proofs.Common.{◌≡◌, take}
use Rattle.domethyme_c.specs.Sets.{digest_links}
use Rattle.domethyme_c.proofs.digest.digest_of.Given as goal

abbrev pub invariant-links : goal.invariant-links
invariant-links l = l.digest ≡ digest_links 0 (take l.at l.links)
