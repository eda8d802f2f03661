use Rattle.std.proofs.Common.{sym, ◌∙◌}
use Rattle.router_requests.specs.Works.{numbers_of}
use Rattle.router_requests.proofs.Told.{not_all, passed}
use Rattle.router_requests.proofs.asker.Asker.have_all_told.Goals as goal

pub returns-then-not-has_told-clause-some : goal.returns-then-not-has_told-clause-some
returns-then-not-has_told-clause-some c = λ is. not_all (numbers_of c.args.told.now) c.args.self.shards c.loop-i.i c.loop-i-test.true (sym c.has_told.ensures ∙ c.if-not-has_told.true)

pub loop-i-preserved : goal.loop-i-preserved
loop-i-preserved c = passed (numbers_of c.args.told.now) c.loop-i.i (sym c.has_told.ensures ∙ c.if-not-has_told.false) c.loop-i.invariant
