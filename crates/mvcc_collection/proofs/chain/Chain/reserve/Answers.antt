use Rattle.std.proofs.Common.{subst, ◌≡◌, ◌∙◌, sym, Some}
use Rattle.mvcc_collection.specs.View.{AreRising}
use Rattle.mvcc_collection.proofs.Chains.{joined_rising}
use Rattle.mvcc_collection.proofs.chain.Chain.reserve.Goals as goal

pub invariant_of-self-in-Some : goal.invariant_of-self-in-Some
invariant_of-self-in-Some c =
    let older = c.self.inside.older.items in
    let is : c.self.inside.last ≡ Some c.in-Some.last = sym c.take.ensures.value ∙ c.in-Some.is in
    let rising : AreRising (Some c.in-Some.last) older = subst (λ l. AreRising l older) is c.self.invariant in
    rw (c.take.ensures.after, c.push_reserved.ensures.items, c.in_ok-reserve.ensures.items) (joined_rising c.in-Some.last older rising)
