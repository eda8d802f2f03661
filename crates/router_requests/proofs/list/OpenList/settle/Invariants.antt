use Rattle.std.proofs.Common.{◌≡◌, ℕ, length}
use Rattle.std.specs.Vec.Iter.{into_iter_items, into_iter_len}
use Rattle.router_requests.specs.Fates.{fated}
use Rattle.router_requests.specs.Lists.{opens_of, taken_of}
use Rattle.router_requests.specs.Turns.{settled}
use Rattle.router_requests.specs.Works.{open_view}
use Rattle.router_requests.proofs.list.OpenList.settle.Given as goal

abbrev pub invariant-loop-fate : goal.invariant-loop-fate
invariant-loop-fate l = record {
  taken : taken_of l.self ≡ taken_of l.fn.self;
  left : into_iter_len l.fate-iterator ≡ length (into_iter_items l.fate-iterator);
  opens : (router life : ℕ) → settled (λ q. open_view router life q.value) l.place l.self.requests.items (into_iter_items l.fate-iterator) ≡ fated (opens_of router life l.fn.self) l.fn.fates.items;
}
