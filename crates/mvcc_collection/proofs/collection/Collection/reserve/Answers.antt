use Rattle.std.proofs.Common.{◌≡◌, ◌∙◌, ◌++◌, ◌∷◌, [], Some, None, cond, arith, length, sym, refl, subst}
use Rattle.std.specs.BTreeMap.{get_by}
use Rattle.value_compare.specs.Order.{order, same_value}
use Rattle.mvcc_collection.specs.Collections.{at_in, last_in, room_in}
use Rattle.mvcc_collection.specs.Places.{AreApart}
use Rattle.mvcc_collection.proofs.Places.{added_apart, added_behind, alike_at, none_before, pasts_at}
use Rattle.mvcc_collection.proofs.Puts.{IsChanged, documents_stay, last_stays, rooms_grow}
use Rattle.mvcc_collection.proofs.collection.Collection.reserve.Goals as goal

pub invariant_of-self-2 : goal.invariant_of-self-2
invariant_of-self-2 c =
    let cs = c.args.self.now.chains.items in
    let old = c.args.self.now.places in
    let more = c.insert.new.self in
    let apart = c.args.self.now.apart in
    let key = c.args.key.now in
    let chain = c.new.result in
    let items = c.push_reserved.new.self.items in
    let behind : items ≡ cs ++ chain ∷ [] = rw (c.push_reserved.ensures.items, c.in_ok-reserve.ensures.items) refl in
    let long : c.in-Ok.place ≡ length cs = c.in-Ok.ensures.1 ∙ c.len.ensures ∙ c.args.self.now.chains.ok.0 in
    let none : get_by (order key) old ≡ None = sym c.in_default.ensures.value in
    let added : (q : _) → get_by (order q) more ≡ cond (same_value key q) (Some (length cs)) (get_by (order q) old) =
    λ q. rw (sym long, sym c.in_ok-copy.ensures) (c.in_ok-insert.ensures.updates.0 q) in
    record { apart = subst (λ es. AreApart more es) (sym behind) (added_apart old cs apart key none more chain added) }

pub returns-clause-same : goal.returns-clause-same
unfolding at_in
returns-clause-same c = λ k t.
    let cs = c.args.self.now.chains.items in
    let old = c.args.self.now.places in
    let more = c.insert.new.self in
    let apart = c.args.self.now.apart in
    let key = c.args.key.now in
    let chain = c.new.result in
    let items = c.push_reserved.new.self.items in
    let behind : items ≡ cs ++ chain ∷ [] = rw (c.push_reserved.ensures.items, c.in_ok-reserve.ensures.items) refl in
    let long : c.in-Ok.place ≡ length cs = c.in-Ok.ensures.1 ∙ c.len.ensures ∙ c.args.self.now.chains.ok.0 in
    let none : get_by (order key) old ≡ None = sym c.in_default.ensures.value in
    let added : (q : _) → get_by (order q) more ≡ cond (same_value key q) (Some (length cs)) (get_by (order q) old) =
    λ q. rw (sym long, sym c.in_ok-copy.ensures) (c.in_ok-insert.ensures.updates.0 q) in
    documents_stay (pasts_at old cs) (pasts_at more items) (alike_at old cs) key None (none_before old cs apart key none more chain added) chain
    (subst (λ es. IsChanged (pasts_at old cs) (pasts_at more es) key chain) (sym behind) (added_behind old cs apart key none more chain added))
    c.new.ensures.empty k t

pub returns-clause-last : goal.returns-clause-last
unfolding last_in
returns-clause-last c = λ k.
    let cs = c.args.self.now.chains.items in
    let old = c.args.self.now.places in
    let more = c.insert.new.self in
    let apart = c.args.self.now.apart in
    let key = c.args.key.now in
    let chain = c.new.result in
    let items = c.push_reserved.new.self.items in
    let behind : items ≡ cs ++ chain ∷ [] = rw (c.push_reserved.ensures.items, c.in_ok-reserve.ensures.items) refl in
    let long : c.in-Ok.place ≡ length cs = c.in-Ok.ensures.1 ∙ c.len.ensures ∙ c.args.self.now.chains.ok.0 in
    let none : get_by (order key) old ≡ None = sym c.in_default.ensures.value in
    let added : (q : _) → get_by (order q) more ≡ cond (same_value key q) (Some (length cs)) (get_by (order q) old) =
    λ q. rw (sym long, sym c.in_ok-copy.ensures) (c.in_ok-insert.ensures.updates.0 q) in
    last_stays (pasts_at old cs) (pasts_at more items) (alike_at old cs) key None (none_before old cs apart key none more chain added) chain
    (subst (λ es. IsChanged (pasts_at old cs) (pasts_at more es) key chain) (sym behind) (added_behind old cs apart key none more chain added))
    c.new.ensures.empty k

pub returns-clause-rooms : goal.returns-clause-rooms
unfolding room_in
returns-clause-rooms c = λ k.
    let cs = c.args.self.now.chains.items in
    let old = c.args.self.now.places in
    let more = c.insert.new.self in
    let apart = c.args.self.now.apart in
    let key = c.args.key.now in
    let chain = c.new.result in
    let items = c.push_reserved.new.self.items in
    let behind : items ≡ cs ++ chain ∷ [] = rw (c.push_reserved.ensures.items, c.in_ok-reserve.ensures.items) refl in
    let long : c.in-Ok.place ≡ length cs = c.in-Ok.ensures.1 ∙ c.len.ensures ∙ c.args.self.now.chains.ok.0 in
    let none : get_by (order key) old ≡ None = sym c.in_default.ensures.value in
    let added : (q : _) → get_by (order q) more ≡ cond (same_value key q) (Some (length cs)) (get_by (order q) old) =
    λ q. rw (sym long, sym c.in_ok-copy.ensures) (c.in_ok-insert.ensures.updates.0 q) in
    rooms_grow (pasts_at old cs) (pasts_at more items) (alike_at old cs) key None (none_before old cs apart key none more chain added) chain
    (subst (λ es. IsChanged (pasts_at old cs) (pasts_at more es) key chain) (sym behind) (added_behind old cs apart key none more chain added))
    (omega arith) k
