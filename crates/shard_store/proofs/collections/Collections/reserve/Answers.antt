use Rattle.std.proofs.Common.{arith, refl, ◌≡◌, ◌≤◌, ◌∙◌, true, Some, None, if◌then◌else◌}
use Rattle.std.specs.Str.{bytes_eq}
use Rattle.std.specs.BTreeMap.{get_by_text}
use Rattle.std.proofs.lemmas.Slice.Eq.{bytes_eq-Decides}
use Rattle.std.proofs.lemmas.Map.Text.{text_keys}
use Rattle.shard_store.proofs.Named.{changed_at}
use Rattle.shard_store.specs.Collections.{at_of, last_of, room_of, shown_in, last_under, room_under}
use Rattle.shard_store.proofs.collections.Collections.reserve.Goals as goal

pub returns-in-Some-clause-rooms : goal.returns-in-Some-clause-rooms
unfolding room_under
returns-in-Some-clause-rooms c = λ n k.
    let old = c.args.self.now.by_name in
    let ns = c.args.namespace.now in
    let here : get_by_text old ns ≡ Some c.in-Some.collection.now = grind (arith, text_keys) in
    let found : bytes_eq n ns ≡ true → get_by_text old n ≡ Some c.in-Some.collection.now = λ same. rw ((bytes_eq-Decides n ns).0 same) here in
    let changed : get_by_text (c.get_mut.follows.lender c.reserve.new.self) n ≡ (if bytes_eq n ns then Some c.reserve.new.self else get_by_text old n) = grind (arith, text_keys) in
    changed_at (λ o. room_of o k) (λ x y. y ≤ x) (bytes_eq n ns) (get_by_text old n) _ (Some c.in-Some.collection.now) c.reserve.new.self found changed (λ same. c.reserve.ensures.rooms k) (λ other. omega arith)

pub returns-in-Some-clause-shown : goal.returns-in-Some-clause-shown
unfolding shown_in
returns-in-Some-clause-shown c = λ n k t.
    let old = c.args.self.now.by_name in
    let ns = c.args.namespace.now in
    let here : get_by_text old ns ≡ Some c.in-Some.collection.now = grind (arith, text_keys) in
    let found : bytes_eq n ns ≡ true → get_by_text old n ≡ Some c.in-Some.collection.now = λ same. rw ((bytes_eq-Decides n ns).0 same) here in
    let changed : get_by_text (c.get_mut.follows.lender c.reserve.new.self) n ≡ (if bytes_eq n ns then Some c.reserve.new.self else get_by_text old n) = grind (arith, text_keys) in
    changed_at (λ o. at_of o k t) (λ x y. x ≡ y) (bytes_eq n ns) (get_by_text old n) _ (Some c.in-Some.collection.now) c.reserve.new.self found changed (λ same. c.reserve.ensures.same k t) (λ other. refl)

pub returns-in-Some-clause-last : goal.returns-in-Some-clause-last
unfolding last_under
returns-in-Some-clause-last c = λ n k.
    let old = c.args.self.now.by_name in
    let ns = c.args.namespace.now in
    let here : get_by_text old ns ≡ Some c.in-Some.collection.now = grind (arith, text_keys) in
    let found : bytes_eq n ns ≡ true → get_by_text old n ≡ Some c.in-Some.collection.now = λ same. rw ((bytes_eq-Decides n ns).0 same) here in
    let changed : get_by_text (c.get_mut.follows.lender c.reserve.new.self) n ≡ (if bytes_eq n ns then Some c.reserve.new.self else get_by_text old n) = grind (arith, text_keys) in
    changed_at (λ o. last_of o k) (λ x y. x ≡ y) (bytes_eq n ns) (get_by_text old n) _ (Some c.in-Some.collection.now) c.reserve.new.self found changed (λ same. c.reserve.ensures.last k) (λ other. refl)

pub returns-clause-rooms : goal.returns-clause-rooms
unfolding room_under
returns-clause-rooms c = λ n k.
    let old = c.args.self.now.by_name in
    let ns = c.args.namespace.now in
    let here : get_by_text old ns ≡ None = grind (arith, text_keys) in
    let found : bytes_eq n ns ≡ true → get_by_text old n ≡ None = λ same. rw ((bytes_eq-Decides n ns).0 same) here in
    let changed : get_by_text c.insert.new.self n ≡ (if bytes_eq n ns then Some c.reserve-2.new.self else get_by_text old n) = grind (arith, text_keys) in
    changed_at (λ o. room_of o k) (λ x y. y ≤ x) (bytes_eq n ns) (get_by_text old n) _ None c.reserve-2.new.self found changed (λ same. omega arith) (λ other. omega arith)

pub returns-clause-shown : goal.returns-clause-shown
unfolding shown_in
returns-clause-shown c = λ n k t.
    let old = c.args.self.now.by_name in
    let ns = c.args.namespace.now in
    let here : get_by_text old ns ≡ None = grind (arith, text_keys) in
    let found : bytes_eq n ns ≡ true → get_by_text old n ≡ None = λ same. rw ((bytes_eq-Decides n ns).0 same) here in
    let changed : get_by_text c.insert.new.self n ≡ (if bytes_eq n ns then Some c.reserve-2.new.self else get_by_text old n) = grind (arith, text_keys) in
    changed_at (λ o. at_of o k t) (λ x y. x ≡ y) (bytes_eq n ns) (get_by_text old n) _ None c.reserve-2.new.self found changed (λ same. c.reserve-2.ensures.same k t ∙ c.new-collection.ensures.empty k t) (λ other. refl)

pub returns-clause-last : goal.returns-clause-last
unfolding last_under
returns-clause-last c = λ n k.
    let old = c.args.self.now.by_name in
    let ns = c.args.namespace.now in
    let here : get_by_text old ns ≡ None = grind (arith, text_keys) in
    let found : bytes_eq n ns ≡ true → get_by_text old n ≡ None = λ same. rw ((bytes_eq-Decides n ns).0 same) here in
    let changed : get_by_text c.insert.new.self n ≡ (if bytes_eq n ns then Some c.reserve-2.new.self else get_by_text old n) = grind (arith, text_keys) in
    changed_at (λ o. last_of o k) (λ x y. x ≡ y) (bytes_eq n ns) (get_by_text old n) _ None c.reserve-2.new.self found changed (λ same. c.reserve-2.ensures.last k ∙ c.new-collection.ensures.last k) (λ other. refl)
