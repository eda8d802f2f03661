-- Each delivery in a world that a run reaches lowers the four numbers, and so deliveries end.
use Rattle.std.proofs.Common.{◌≡◌, inl, inr, ℕ, zero, suc, ◌+◌, ◌<◌, ◌≤◌, List, [], ◌∷◌, ◌++◌, length, length-append, refl, sym, subst, ap, ◌∙◌, arith}
use Rattle.std.specs.Prelude.{Some}
use Rattle.std.specs.List.{AllByRecursion, slice_get, slice_set}
use Rattle.std.proofs.lemmas.List.{append_cancel_left}
use Rattle.history_model.specs.History.{IsIn}
use Rattle.history_model.proofs.Lists.{all_at, all_weaken, all_append, all_from, in_prefix, in_back}
use Rattle.base_model.specs.Identities.{RequestId}
use Rattle.chunk_model.specs.Changes.{Change, create_change, namespace_of}
use Rattle.reply_model.specs.Accounts.{Dated, changes_in as changes_of}
use Rattle.reply_model.specs.Versions.{Version}
use Rattle.node_model.specs.Letters.{refused, of_request, is_stale, Letter, letter_input, Effect, nothing}
use Rattle.node_model.specs.Lacks.{misses}
use Rattle.node_model.specs.States.{NodeState, catalogue_state, shard_state, router_state}
use Rattle.node_model.specs.Steps.{Step, catalogue_step, shard_step, router_step, begin_step, other_step}
use Rattle.node_model.specs.World.{Held, World, Meets, steps_after, deliver_event, delivers}
use Rattle.node_replay.specs.Restarts.{EventOrStop, RunWithStops}
use Rattle.node_progress.specs.Firsts.{IsFirst}
use Rattle.node_laws.proofs.Views.{view_of}
use Rattle.node_laws.proofs.Facts.{counts_of, AreDifferentCounts, BodyFits, IsKnownTable, HeldFits, SentFits, StateFits}
use Rattle.node_laws.proofs.Lists.{all_prefix, all_behind}
use Rattle.node_laws.proofs.Places.{each_get}
use Rattle.node_laws.proofs.StepsKeep.{StaysTrue}
use Rattle.node_laws.proofs.CatalogueTables.{some_created}
use Rattle.restart_laws.proofs.Kept.{event_keeps}
use Rattle.restart_laws.proofs.Runs.{runs_with_stops_stay_true}
use Rattle.node_progress.proofs.AnsweredSince.{first_whole}
use Rattle.node_progress.proofs.Places.{get_behind}
use Rattle.node_weights.specs.Deliveries.{Waiting, WereSent, IsTaken, Delivers, delivers_to, delivers_to_none, Ends, ends_after}
use Rattle.node_weights.specs.Weights.{IsLower, fewer_requests, fewer_turns, fewer_changes, fewer_messages, weight_by, weight_of}
use Rattle.node_weights.proofs.CatalogueFalls.{catalogue_falls, stays_falls, missed_falls, missed_plain}
use Rattle.node_weights.proofs.Changes.{few_changes, in_dated}
use Rattle.node_weights.proofs.Falls.{Falls}
use Rattle.node_weights.proofs.RouterFalls.{router_falls}
use Rattle.node_weights.proofs.ShardFalls.{shard_falls, some_cost}
use Rattle.node_weights.proofs.Worlds.{WasTold, TellsKnown, lowers, lost_lowers}

-- A STEP

-- the open requests of a router have counts of their own
abbrev HasCounts : NodeState → Type 0
HasCounts (catalogue_state c) = Unit {0}
HasCounts (shard_state s) = Unit {0}
HasCounts (router_state r) = AreDifferentCounts (counts_of r.requests)

-- no request of a client was refused for an older table
abbrev IsNeverStale : Letter → Type 0
IsNeverStale m = (id : RequestId) (turn first : ℕ) (met : Version) → m.body ≡ refused (of_request id turn first) (is_stale met) → ⊥

step_falls : (s : NodeState) (m : Letter) (f : Effect) (t : NodeState) → HasCounts s → IsNeverStale m → Step s (letter_input m) f t → Falls s m f t
step_falls _ m _ _ own never (catalogue_step c d i f for row) = catalogue_falls c m f d row
step_falls _ m _ _ own never (shard_step s t i f for row) = shard_falls s m f t row
step_falls _ m _ _ own never (router_step r q i f for row) = router_falls r m f q own never row
step_falls _ m _ _ own never (begin_step r q i f begun before row) = absurd before
step_falls _ _ _ _ own never (other_step s m other) = stays_falls s m nothing (λ now changed. refl) refl (some_cost m.body)

-- WHAT IS KNOWN OF A WORLD

map_long : (changed : List Dated) → length (changes_of changed) ≡ length changed
map_long [] = refl
map_long (d ∷ changed) = ap suc (map_long changed)

has_counts : (w : World) → (g : StaysTrue w) → (at : ℕ) (old : Held) → slice_get w.nodes at ≡ Some old → HasCounts old.state
has_counts w g at old got =
    by_state old.state
    (each_get (HeldFits (view_of w.nodes g.0.book) w.asked w.answered w.given) 0 at w.nodes old g.0.good.nodes got).state
  where
    by_state : (s : NodeState) → StateFits (view_of w.nodes g.0.book) w.asked w.answered (0 + at) old.kept s → HasCounts s
    by_state (catalogue_state c) fits = tt
    by_state (shard_state s) fits = tt
    by_state (router_state r) fits = fits.different

module _ (w : World) (g : StaysTrue w) (m : Letter) (there : IsIn m w.sent) where
  fits : BodyFits (view_of w.nodes g.0.book) w.asked m.sender m.receiver m.time m.body
  fits = (all_at (SentFits (view_of w.nodes g.0.book) w.changed w.asked w.answered w.given) m w.sent g.0.good.letters there).0

  never_stale : IsNeverStale m
  never_stale id turn first met says = subst (λ b. BodyFits (view_of w.nodes g.0.book) w.asked m.sender m.receiver m.time b) says fits

  tells_known : TellsKnown w.changed m
  tells_known namespace create at t says =
      let told = subst (λ b. BodyFits (view_of w.nodes g.0.book) w.asked m.sender m.receiver m.time b) says fits in
      was_told told.0
    where
      was_told : IsKnownTable (view_of w.nodes g.0.book) m.time t → WasTold w.changed t
      was_told k =
          let all : changes_of w.changed ≡ k.more ++ k.older = g.0.good.dated ∙ k.all in
          let created = some_created t.namespace k.older t k.known in
          let made = in_dated (create_change created.creation) w.changed
          (subst (λ l. IsIn (create_change created.creation) l) (sym all) (in_back (create_change created.creation) k.more k.older created.begun)) in
          let few = few_changes t.namespace k.older t k.known in
          let long : length w.changed ≡ length (k.more ++ k.older) = sym (map_long w.changed) ∙ ap (λ (l : List Change). length l) all in
          let parts = length-append k.more k.older in
          record {
            few = omega (arith, few, long, parts);
            change = made.0;
            made = made.1;
            name = ap namespace_of made.2 ∙ created.name;
          }

-- A DELIVERY

pub delivery_lowers : (x next : Waiting) → StaysTrue x.world → WereSent x → Delivers x next → IsLower (weight_of next) (weight_of x)
delivery_lowers _ _ g sent (delivers_to w v letters others more m taken meets grows) = by_meeting meets
  where
    there : IsIn m w.sent
    there = all_at (λ (l : Letter). IsIn l w.sent) m letters sent (taken.0, taken.1, taken.2)

    by_meeting : Meets w m.receiver (letter_input m) v → IsLower (weight_by v.nodes v.changed (others ++ more)) (weight_by w.nodes w.changed letters)
    by_meeting (inl a) =
        let same : more ≡ a.f.mail = append_cancel_left w.sent more a.f.mail (sym grows ∙ ap (λ (u : World). u.sent) a.then) in
        subst (λ (l : List Letter). IsLower (weight_by v.nodes v.changed (others ++ l)) (weight_by w.nodes w.changed letters)) (sym same)
        (subst (λ (u : World). IsLower (weight_by u.nodes u.changed (others ++ a.f.mail)) (weight_by w.nodes w.changed letters)) (sym a.then)
        (lowers w.nodes w.changed w.now m.receiver letters others m a.old
        (record { state = a.new; kept = a.old.kept ++ a.f.written; steps = a.old.steps + 1 }) a.f a.here taken (tells_known w g m there)
        (step_falls a.old.state m a.f a.new (has_counts w g m.receiver a.old a.here) (never_stale w g m there) a.step)))
    by_meeting (inr a) =
        let f : Effect = misses a.old.state a.lack (letter_input m) in
        let held : Held = record { state = a.old.state; kept = a.old.kept; steps = steps_after a.lack a.old.steps } in
        let same : more ≡ f.mail = append_cancel_left w.sent more f.mail (sym grows ∙ ap (λ (u : World). u.sent) a.then) in
        subst (λ (l : List Letter). IsLower (weight_by v.nodes v.changed (others ++ l)) (weight_by w.nodes w.changed letters)) (sym same)
        (subst (λ (u : World). IsLower (weight_by u.nodes u.changed (others ++ f.mail)) (weight_by w.nodes w.changed letters)) (sym a.then)
        (subst (λ (l : List Dated). IsLower (weight_by (slice_set w.nodes m.receiver held) l
        (others ++ f.mail)) (weight_by w.nodes w.changed letters)) (missed_plain a.old.state m a.lack w.now w.changed)
        (lowers w.nodes w.changed w.now m.receiver letters others m a.old held f a.here taken (tells_known w g m there)
        (missed_falls a.old.state m a.lack))))
delivery_lowers _ _ g sent (delivers_to_none w letters others m taken none) = lost_lowers w.nodes w.changed letters others m taken

-- what is true of a world that a run reaches, and of messages that were sent
record IsReached (x : Waiting) : Type 0 where
  facts : StaysTrue x.world
  sent : WereSent x

others_sent : (P : Letter → Type 0) (m : Letter) (letters others : List Letter) → IsTaken m letters others → AllByRecursion P letters → AllByRecursion P others
others_sent P m letters others (front, back, all, rest) each =
    let parts = subst (λ l. AllByRecursion P l) all each in
    subst (λ l. AllByRecursion P l) (sym rest)
    (all_append P front back (all_prefix P front (m ∷ back) parts) (all_behind P front (m ∷ back) parts).1)

delivery_reaches : (x next : Waiting) → IsReached x → Delivers x next → IsReached next
delivery_reaches _ _ reached (delivers_to w v letters others more m taken meets grows) =
    let there : IsIn m w.sent = all_at (λ (l : Letter). IsIn l w.sent) m letters reached.sent (taken.0, taken.1, taken.2) in
    record {
      facts = event_keeps w v (deliver_event m.receiver (length there.0)) reached.facts
          (delivers w v m.receiver (length there.0) m
          (subst (λ l. slice_get l (length there.0) ≡ Some m) (sym there.2) (get_behind there.0 m there.1)) refl meets);
      sent = subst (λ l. AllByRecursion (λ (n : Letter). IsIn n l) (others ++ more)) (sym grows)
          (all_append (λ (n : Letter). IsIn n (w.sent ++ more)) others more
          (all_weaken (λ (n : Letter). IsIn n w.sent) (λ (n : Letter). IsIn n (w.sent ++ more)) others (λ n i. in_prefix n w.sent more i)
          (others_sent (λ (n : Letter). IsIn n w.sent) m letters others taken reached.sent))
          (all_from (λ (n : Letter). IsIn n (w.sent ++ more)) more (λ n i. in_back n w.sent more i)));
    }
delivery_reaches _ _ reached (delivers_to_none w letters others m taken none) =
    record { facts = reached.facts; sent = others_sent (λ (n : Letter). IsIn n w.sent) m letters others taken reached.sent }

-- DELIVERIES END

-- the numbers are below these, from the first on: where one is lower, those after it may be any
module _ (a : ℕ) (fewer : (x : Waiting) → IsReached x → (weight_of x).requests < a → Ends x) where
  module _ (b : ℕ) (sooner : (x : Waiting) → IsReached x → (weight_of x).requests ≤ a → (weight_of x).turns < b → Ends x) where
    module _ (c : ℕ)
        (nearer : (x : Waiting) → IsReached x → (weight_of x).requests ≤ a → (weight_of x).turns ≤ b → (weight_of x).changes < c → Ends x) where
      ends_messages : (d : ℕ) (x : Waiting) → IsReached x → (weight_of x).requests ≤ a → (weight_of x).turns ≤ b → (weight_of x).changes ≤ c
          → (weight_of x).messages < d → Ends x
      ends_messages zero x reached few le most less = absurd (omega (arith, less))
      ends_messages (suc d) x reached few le most less =
          ends_after x (λ next one. by_lower next (delivery_reaches x next reached one) (delivery_lowers x next reached.facts reached.sent one)
          (λ near f l m k. ends_messages d next near f l m k))
        where
          by_lower : (next : Waiting) → IsReached next → IsLower (weight_of next) (weight_of x)
              → (IsReached next → (weight_of next).requests ≤ a → (weight_of next).turns ≤ b → (weight_of next).changes ≤ c
              → (weight_of next).messages < d → Ends next)
              → Ends next
          by_lower next near (fewer_requests one) later = fewer next near (omega (arith, one, few))
          by_lower next near (fewer_turns same two) later = sooner next near (omega (arith, same, few)) (omega (arith, two, le))
          by_lower next near (fewer_changes same still three) later =
              nearer next near (omega (arith, same, few)) (omega (arith, still, le)) (omega (arith, three, most))
          by_lower next near (fewer_messages same still as_many four) later =
              later near (omega (arith, same, few)) (omega (arith, still, le)) (omega (arith, as_many, most)) (omega (arith, four, less))

    ends_changes : (c : ℕ) (x : Waiting) → IsReached x → (weight_of x).requests ≤ a → (weight_of x).turns ≤ b → (weight_of x).changes < c → Ends x
    ends_changes zero x reached few le less = absurd (omega (arith, less))
    ends_changes (suc c) x reached few le less =
        ends_messages c (λ next near f l m. ends_changes c next near f l m) (suc (weight_of x).messages) x reached few le (omega (arith, less)) (omega arith)

  ends_turns : (b : ℕ) (x : Waiting) → IsReached x → (weight_of x).requests ≤ a → (weight_of x).turns < b → Ends x
  ends_turns zero x reached few less = absurd (omega (arith, less))
  ends_turns (suc b) x reached few less =
      ends_changes b (λ next near f l. ends_turns b next near f l) (suc (weight_of x).changes) x reached few (omega (arith, less)) (omega arith)

ends_requests : (a : ℕ) (x : Waiting) → IsReached x → (weight_of x).requests < a → Ends x
ends_requests zero x reached less = absurd (omega (arith, less))
ends_requests (suc a) x reached less =
    ends_turns a (λ next near f. ends_requests a next near f) (suc (weight_of x).turns) x reached (omega (arith, less)) (omega arith)

-- LAWS

reached_true : (first : World) (events : List EventOrStop) (w : World) → IsFirst first → RunWithStops first events w → StaysTrue w
reached_true first events w is run = (runs_with_stops_stay_true first w events (first_whole first is) run).facts

pub each_delivery_weighs_less : (first : World) (events : List EventOrStop) (x next : Waiting) → IsFirst first → RunWithStops first events x.world → WereSent x
    → Delivers x next → IsLower (weight_of next) (weight_of x)
each_delivery_weighs_less first events x next is run sent one = delivery_lowers x next (reached_true first events x.world is run) sent one

pub deliveries_end : (first : World) (events : List EventOrStop) (x : Waiting) → IsFirst first → RunWithStops first events x.world → WereSent x → Ends x
deliveries_end first events x is run sent =
    ends_requests (suc (weight_of x).requests) x (record { facts = reached_true first events x.world is run; sent = sent }) (omega arith)
