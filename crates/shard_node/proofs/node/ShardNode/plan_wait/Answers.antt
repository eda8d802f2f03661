use Rattle.std.proofs.Common.{◌≡◌, ◌++◌, ◌∷◌, ℕ, List, [], refl, sym, ap, subst, ◌∙◌}
use Rattle.std.specs.Prelude.{map}
use Rattle.chunk_table.specs.Tables.{table_of}
use Rattle.chunk_table.specs.Verdicts.{shard_is_old, verdict_of}
use Rattle.node_traits.specs.Letters.{Letter, letter_input, sends}
use Rattle.node_traits.specs.ShardRows.{Ask, ShardRow, asks_table, heard, is_parked, shard_park, shard_waits}
use Rattle.protocol_model.specs.Messages.{letter_of}
use Rattle.protocol_model.specs.declared.message.Message.{Message}
use Rattle.shard_node.proofs.Planned.{quiet_planned}
use Rattle.shard_requests.specs.Asks.{ask_view}
use Rattle.shard_node.specs.State.{shard_view}
use Rattle.shard_node.proofs.node.ShardNode.plan_wait.Goals as goal

pub returns-then-is_parked-clause-planned : goal.returns-then-is_parked-clause-planned
returns-then-is_parked-clause-planned c =
    let s = shard_view c.args.self.now in
    let m = letter_of c.args.message in
    let ask = c.in-Some.ask in
    let parked = ap (λ (ms : List Message). is_parked (ask_view ask) (map letter_of ms)) c.deref.ensures.value in
    let same : ask_view ask ≡ c.requires.old.0 = let e = c.in-Some.ensures ∙ c.requires.old.1 in cc in
    let verdict = subst (λ (a : Ask). verdict_of a.sent s.me (table_of a.namespace s.tables) ≡ shard_is_old) (sym same) c.requires.old.2 in
    let planned = c.of_time-then-is_parked.ensures in
    quiet_planned s (letter_input m) c.of_time-then-is_parked.result (heard s m) (ap (λ t. t.0) planned.time ∙ c.requires.time) planned.change planned.records planned.mail
    (shard_waits s m (ask_view ask) (sym c.in-Some.ensures) c.requires.unseen verdict (sym (c.is_parked.ensures ∙ parked) ∙ c.if-is_parked.true))

pub returns-clause-planned : goal.returns-clause-planned
returns-clause-planned c =
    let s = shard_view c.args.self.now in
    let m = letter_of c.args.message in
    let ask = c.in-Some.ask in
    let parked = ap (λ (ms : List Message). is_parked (ask_view ask) (map letter_of ms)) c.deref.ensures.value in
    let same : ask_view ask ≡ c.requires.old.0 = let e = c.in-Some.ensures ∙ c.requires.old.1 in cc in
    let verdict = subst (λ (a : Ask). verdict_of a.sent s.me (table_of a.namespace s.tables) ≡ shard_is_old) (sym same) c.requires.old.2 in
    record {
      effect = sends (asks_table s c.args.time.0 ask.namespace.now ∷ []);
      row = subst
          (λ (t : ℕ). ShardRow s (letter_input m) (sends (asks_table s t ask.namespace.now ∷ []))
          (record { me = s.me; time = t; tables = s.tables; entries = s.entries; ceiling = s.ceiling; parked = s.parked ++ m ∷ [] }))
          (sym c.requires.time)
          (shard_park s m (ask_view ask) (sym c.in-Some.ensures) c.requires.unseen verdict (sym (c.is_parked.ensures ∙ parked) ∙ c.if-is_parked.false));
      sent = sym (ap (λ (l : List Message). map letter_of l) c.of_one.ensures ∙ ap (λ (x : Letter). x ∷ []) c.in_ok-asked.ensures);
      untold = refl;
      readable = tt;
      spelled = c.new.ensures.items;
    }
