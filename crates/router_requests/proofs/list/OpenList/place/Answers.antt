use Rattle.std.proofs.Common.{◌≡◌, ap, sym, subst, ◌∙◌, ℕ, List, true, length, rules, Result}
use Rattle.std.proofs.lemmas.List.Sorted.{answers_always}
use Rattle.router_requests.specs.Order.{Held, place_of, rises}
use Rattle.router_requests.proofs.Found.{Ends, searched}
use Rattle.router_requests.proofs.list.OpenList.place.Goals as goal

pub returns-in-Ok : goal.returns-in-Ok
returns-in-Ok c =
    let list = c.args.self.now in
    let facts = c.binary_search_by_key.ensures in
    let e : rises 0 list.taken c.deref.result.now ≡ true = rw c.deref.ensures.value list.rising in
    let found = searched c.args.count list.taken c.deref.result.now e c.binary_search_by_key.result facts.bound (facts.position (λ q. q.value.count) (answers_always _ _ _ (λ f a r g called. search rules))) in
    subst (λ (r : Result ℕ ℕ). Ends c.args.count c.deref.result.now r) c.in-Ok.is found
    ∙ ap (λ (l : List Held). place_of c.args.count l) c.deref.ensures.value

pub returns-in-Err : goal.returns-in-Err
returns-in-Err c =
    let list = c.args.self.now in
    let facts = c.binary_search_by_key.ensures in
    let e : rises 0 list.taken c.deref.result.now ≡ true = rw c.deref.ensures.value list.rising in
    let found = searched c.args.count list.taken c.deref.result.now e c.binary_search_by_key.result facts.bound (facts.position (λ q. q.value.count) (answers_always _ _ _ (λ f a r g called. search rules))) in
    let none : length c.deref.result.now ≡ place_of c.args.count c.deref.result.now = subst (λ (r : Result ℕ ℕ). Ends c.args.count c.deref.result.now r) c.in-Err.is found in
    c.len.ensures ∙ sym c.deref.ensures.len ∙ none ∙ ap (λ (l : List Held). place_of c.args.count l) c.deref.ensures.value
