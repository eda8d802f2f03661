use Rattle.std.proofs.Common.{arith, refl, ◌≡◌, ◌≤◌, ◌+◌, ap, ◌∙◌, true, Some, if◌then◌else◌}
use Rattle.std.specs.Prelude.{Bool, ◌&&◌}
use Rattle.std.specs.Str.{bytes_eq}
use Rattle.std.specs.BTreeMap.{get_by_text}
use Rattle.std.proofs.lemmas.Slice.Eq.{bytes_eq-Decides}
use Rattle.std.proofs.lemmas.Map.Text.{text_keys}
use Rattle.value_compare.specs.Order.{same_value}
use Rattle.history_model.specs.Versions.{one_more}
use Rattle.mvcc_collection.specs.Collections.{put_view}
use Rattle.shard_store.proofs.Named.{changed_at, turned_bytes}
use Rattle.shard_store.specs.Collections.{at_of, last_of, room_of, shown_in, last_under, room_under}
use Rattle.shard_store.proofs.collections.Collections.put.Goals as goal

pub returns-in-Some-clause-shown : goal.returns-in-Some-clause-shown
unfolding shown_in
returns-in-Some-clause-shown c = λ n k t.
    let old = c.args.self.now.by_name in
    let ns = c.args.namespace.now in
    let here : get_by_text old ns ≡ Some c.in-Some.collection.now = grind (arith, text_keys) in
    let found : bytes_eq ns n ≡ true → get_by_text old n ≡ Some c.in-Some.collection.now = λ same. rw (← (bytes_eq-Decides ns n).0 same) here in
    let grown : get_by_text (c.get_mut.follows.lender c.put.new.self) n ≡ (if bytes_eq n ns then Some c.put.new.self else get_by_text old n) = grind (arith, text_keys) in
    let changed : get_by_text (c.get_mut.follows.lender c.put.new.self) n ≡ (if bytes_eq ns n then Some c.put.new.self else get_by_text old n) =
    grown ∙ ap (λ (b : Bool). if b then Some c.put.new.self else get_by_text old n) (turned_bytes n ns) in
    changed_at (λ o. at_of o k t) (λ x y. x ≡ (if bytes_eq ns n then one_more (put_view c.args.key.now c.args.time c.args.document) k t y else y))
    (bytes_eq ns n) (get_by_text old n) _ (Some c.in-Some.collection.now) c.put.new.self found changed (λ same. rw same (c.put.ensures.put k t)) (λ other. rw other refl)

pub returns-in-Some-clause-last : goal.returns-in-Some-clause-last
unfolding last_under
returns-in-Some-clause-last c = λ n k.
    let old = c.args.self.now.by_name in
    let ns = c.args.namespace.now in
    let here : get_by_text old ns ≡ Some c.in-Some.collection.now = grind (arith, text_keys) in
    let found : bytes_eq ns n ≡ true → get_by_text old n ≡ Some c.in-Some.collection.now = λ same. rw (← (bytes_eq-Decides ns n).0 same) here in
    let grown : get_by_text (c.get_mut.follows.lender c.put.new.self) n ≡ (if bytes_eq n ns then Some c.put.new.self else get_by_text old n) = grind (arith, text_keys) in
    let changed : get_by_text (c.get_mut.follows.lender c.put.new.self) n ≡ (if bytes_eq ns n then Some c.put.new.self else get_by_text old n) =
    grown ∙ ap (λ (b : Bool). if b then Some c.put.new.self else get_by_text old n) (turned_bytes n ns) in
    changed_at (λ o. last_of o k) (λ x y. x ≡ (if bytes_eq ns n && same_value c.args.key.now k then Some c.args.time.0 else y))
    (bytes_eq ns n) (get_by_text old n) _ (Some c.in-Some.collection.now) c.put.new.self found changed (λ same. rw same (c.put.ensures.last k)) (λ other. rw other refl)

pub returns-in-Some-clause-rooms : goal.returns-in-Some-clause-rooms
unfolding room_under
returns-in-Some-clause-rooms c = λ n k.
    let old = c.args.self.now.by_name in
    let ns = c.args.namespace.now in
    let here : get_by_text old ns ≡ Some c.in-Some.collection.now = grind (arith, text_keys) in
    let found : bytes_eq ns n ≡ true → get_by_text old n ≡ Some c.in-Some.collection.now = λ same. rw (← (bytes_eq-Decides ns n).0 same) here in
    let grown : get_by_text (c.get_mut.follows.lender c.put.new.self) n ≡ (if bytes_eq n ns then Some c.put.new.self else get_by_text old n) = grind (arith, text_keys) in
    let changed : get_by_text (c.get_mut.follows.lender c.put.new.self) n ≡ (if bytes_eq ns n then Some c.put.new.self else get_by_text old n) =
    grown ∙ ap (λ (b : Bool). if b then Some c.put.new.self else get_by_text old n) (turned_bytes n ns) in
    changed_at (λ o. room_of o k) (λ x y. y ≤ x + (if bytes_eq ns n && same_value c.args.key.now k then 1 else 0))
    (bytes_eq ns n) (get_by_text old n) _ (Some c.in-Some.collection.now) c.put.new.self found changed (λ same. rw same (c.put.ensures.rooms k)) (λ other. omega arith)
