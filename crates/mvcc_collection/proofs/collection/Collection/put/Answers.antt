use Rattle.std.proofs.Common.{sym, ap, ◌∙◌}
use Rattle.std.specs.Arc.{arc_value}
use Rattle.std.specs.List.{slice_set}
use Rattle.std.specs.Option.{option_map}
use Rattle.history_model.specs.Versions.{one_more}
use Rattle.history_model.proofs.Versions.{one_more_put}
use Rattle.mvcc_collection.specs.Collections.{at_in, last_in, room_in, put_view}
use Rattle.mvcc_collection.proofs.Places.{alike_at, changed_at, had_at, pasts_at}
use Rattle.mvcc_collection.proofs.Puts.{documents_put, last_put_time, one_room}
use Rattle.mvcc_collection.proofs.collection.Collection.put.Goals as goal

pub returns-in-Some-clause-put : goal.returns-in-Some-clause-put
unfolding at_in
returns-in-Some-clause-put c = λ k t.
    let cs = c.args.self.now.chains.items in
    let places = c.args.self.now.places in
    let apart = c.args.self.now.apart in
    let key = c.args.key.now in
    let place = c.in-Some.place.now in
    let chain = c.index_mut-chain.result.now in
    let at = sym c.in-Some.ensures.value in
    documents_put (pasts_at places cs) (pasts_at places (slice_set cs place c.push.new.self)) (alike_at places cs) key chain
    (had_at places cs apart key place at c.push.new.self chain c.index_mut-chain.ensures.value) c.push.new.self
    (changed_at places cs apart key place at c.push.new.self) (c.args.time.0, option_map arc_value c.args.document) c.push.ensures.versions k t

pub returns-in-Some-clause-so_far : goal.returns-in-Some-clause-so_far
unfolding at_in
returns-in-Some-clause-so_far c = λ puts are k t.
    let cs = c.args.self.now.chains.items in
    let places = c.args.self.now.places in
    let apart = c.args.self.now.apart in
    let key = c.args.key.now in
    let place = c.in-Some.place.now in
    let chain = c.index_mut-chain.result.now in
    let at = sym c.in-Some.ensures.value in
    documents_put (pasts_at places cs) (pasts_at places (slice_set cs place c.push.new.self)) (alike_at places cs) key chain
    (had_at places cs apart key place at c.push.new.self chain c.index_mut-chain.ensures.value) c.push.new.self
    (changed_at places cs apart key place at c.push.new.self) (c.args.time.0, option_map arc_value c.args.document) c.push.ensures.versions k t
    ∙ ap (λ b. one_more (put_view key c.args.time c.args.document) k t b) (are k t)
    ∙ sym (one_more_put puts (put_view key c.args.time c.args.document) k t)

pub returns-in-Some-clause-last : goal.returns-in-Some-clause-last
unfolding last_in
returns-in-Some-clause-last c = λ k.
    let cs = c.args.self.now.chains.items in
    let places = c.args.self.now.places in
    let apart = c.args.self.now.apart in
    let key = c.args.key.now in
    let place = c.in-Some.place.now in
    let chain = c.index_mut-chain.result.now in
    let at = sym c.in-Some.ensures.value in
    last_put_time (pasts_at places cs) (pasts_at places (slice_set cs place c.push.new.self)) (alike_at places cs) key chain
    (had_at places cs apart key place at c.push.new.self chain c.index_mut-chain.ensures.value) c.push.new.self
    (changed_at places cs apart key place at c.push.new.self) (c.args.time.0, option_map arc_value c.args.document) c.push.ensures.versions k

pub returns-in-Some-clause-rooms : goal.returns-in-Some-clause-rooms
unfolding room_in
returns-in-Some-clause-rooms c = λ k.
    let cs = c.args.self.now.chains.items in
    let places = c.args.self.now.places in
    let apart = c.args.self.now.apart in
    let key = c.args.key.now in
    let place = c.in-Some.place.now in
    let chain = c.index_mut-chain.result.now in
    let at = sym c.in-Some.ensures.value in
    one_room (pasts_at places cs) (pasts_at places (slice_set cs place c.push.new.self)) (alike_at places cs) key chain
    (had_at places cs apart key place at c.push.new.self chain c.index_mut-chain.ensures.value) c.push.new.self
    (changed_at places cs apart key place at c.push.new.self) (c.args.time.0, option_map arc_value c.args.document) c.push.ensures.versions
    c.push.ensures.room k
