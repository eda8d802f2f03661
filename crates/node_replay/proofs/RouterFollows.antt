-- The records of each transition of a router may follow, and lead to its durable part after it.
use Rattle.std.proofs.Common.{◌≡◌, ◌⊎◌, inl, inr, ℕ, ◌+◌, ◌*◌, ◌≤◌, List, [], ◌∷◌, ◌++◌, refl, sym, ap, subst, ◌∙◌, arith}
use Rattle.std.specs.Prelude.{length, drop, Bool, true, false, ◌&&◌, ◌==◌, Option, Some, None, nat_lt, if◌then◌else◌}
use Rattle.std.specs.List.{flat_map}
use Rattle.std.specs.Option.{option_map}
use Rattle.std.proofs.lemmas.Bool.{and_from, lt-ltb, eq-eqb}
use Rattle.base_model.specs.Identities.{RequestId, same_request}
use Rattle.pipeline_model.specs.Runs.{Outcome}
use Rattle.reply_model.specs.Answers.{Answer}
use Rattle.reply_model.specs.Cursors.{Cursor}
use Rattle.reply_model.specs.Outcomes.{lack_refusal}
use Rattle.node_model.specs.Journal.{kept_block, kept_life}
use Rattle.node_model.specs.Letters.{Input, Effect}
use Rattle.node_model.specs.States.{Telling, Open, Router, open_with}
use Rattle.node_model.specs.RouterRequests.{heard, id_of}
use Rattle.node_model.specs.RouterNext.{next_of, stay_in, table_refused, adopted, was_created}
use Rattle.node_model.specs.RouterRows.{open_of, new_cursor, begins, Opened, block_size, Tells, tells_overflow, tells_excess, tells_number, tells_batch, tells_cursor, RouterRow, router_begin, router_opened, router_plain, router_more, router_no_cursor, router_kill, router_take, router_learn, router_split, router_not_sharded, router_reach, router_hear, router_ahead, router_note, router_part as router_parted, router_read, router_excess, router_overflow, router_late, router_skip, router_moment, router_refused, router_no_table}
use Rattle.node_replay.specs.Durable.{DurableRouter, durable_router, next_life, router_part}
use Rattle.node_replay.specs.Replays.{replayed, records_of}

-- lives count from 1, and outside of a life no request is open
abbrev pub RouterHolds : Router → Type 0
RouterHolds r = (1 ≤ r.life) × ((r.begun ≡ true) ⊎ (r.requests ≡ []))

-- what a step of a router has to show
pub record RouterFollows (r : Router) (f : Effect) (q : Router) : Type 0 where
  pub own : q.me ≡ r.me
  pub shards : q.shards ≡ r.shards
  pub leads : replayed (Some (durable_router (router_part r))) (records_of f.written) ≡ Some (durable_router (router_part q))
  pub holds : RouterHolds q

-- NO REQUEST IS OPEN OUTSIDE OF A LIFE

none_open : (r : Router) (id : RequestId) → r.requests ≡ [] → open_of r id ≡ None
none_open r id none =
    ap (λ l. if same_request id (id_of r id.count) then open_with id.count l else None) none
    ∙ no_choice None (same_request id (id_of r id.count))
  where
    no_choice : (o : Option Open) (t : Bool) → (if t then o else o) ≡ o
    no_choice o true = refl
    no_choice o false = refl

-- a router with an open request is in a life
in_life : (r : Router) (id : RequestId) (q : Open) → (r.begun ≡ true) ⊎ (r.requests ≡ []) → open_of r id ≡ Some q → r.begun ≡ true
in_life r id q (inl begun) found = begun
in_life r id q (inr none) found = absurd (let h = none_open r id none in cc)

-- requests that are none where there was none
kept_none : (begun : Bool) (requests next : List Open) → (begun ≡ true) ⊎ (requests ≡ []) → (requests ≡ [] → next ≡ []) → (begun ≡ true) ⊎ (next ≡ [])
kept_none begun requests next (inl is) f = inl is
kept_none begun requests next (inr none) f = inr (f none)

-- TRANSITIONS

-- the router stores nothing, and is in the same life
still : (r q : Router) (f : Effect) → f.written ≡ [] → q.me ≡ r.me → q.shards ≡ r.shards → q.life ≡ r.life → q.begun ≡ r.begun
    → q.blocks ≡ r.blocks → 1 ≤ r.life
    → (q.begun ≡ true) ⊎ (q.requests ≡ []) → RouterFollows r f q
still r q f none me shards life begun blocks first closed =
    let same : Some (durable_router (router_part r)) ≡ Some (durable_router (router_part q)) =
    λ i. Some (durable_router (record { me = sym me i; shards = sym shards i; life = next_life (sym life i) (sym begun i); blocks = sym blocks i })) in
    record {
      own = me;
      shards = shards;
      leads = ap (λ l. replayed (Some (durable_router (router_part r))) (records_of l)) none ∙ same;
      holds = (subst (λ n. 1 ≤ n) (sym life) first, closed);
    }

-- the record of a life
begins_follow : (r : Router) → RouterHolds r → r.begun ≡ false
    → replayed (Some (durable_router (router_part r))) (records_of (kept_life r.life ∷ [])) ≡ Some (durable_router (router_part (begins r)))
begins_follow r holds not_begun =
    let life : next_life r.life r.begun ≡ r.life = ap (λ b. next_life r.life b) not_begun in
    let may : (r.life == next_life r.life r.begun) ≡ true = eq-eqb r.life (next_life r.life r.begun) (sym life) in
    let next : DurableRouter = record { me = r.me; shards = r.shards; life = r.life + 1; blocks = r.blocks } in
    ap (λ b. replayed (option_map durable_router (if b then Some next else None)) []) may

pub begins_holds : (r : Router) → RouterHolds r → RouterHolds (begins r)
begins_holds r holds = (holds.0, inl refl)

-- the record of a block
block_follows : (r : Router) → 1 ≤ r.life → r.begun ≡ true
    → replayed (Some (durable_router (router_part r))) (records_of (kept_block r.blocks ∷ []))
    ≡ Some (durable_router (record { me = r.me; shards = r.shards; life = next_life r.life r.begun; blocks = r.blocks + 1 }))
block_follows r first begun =
    let life : next_life r.life r.begun ≡ r.life + 1 = ap (λ b. next_life r.life b) begun in
    let may : (nat_lt 1 (next_life r.life r.begun) && (r.blocks == r.blocks)) ≡ true =
    and_from _ _ (lt-ltb 1 (next_life r.life r.begun) (omega (arith, life, first))) (eq-eqb r.blocks r.blocks refl) in
    let next : DurableRouter = record { me = r.me; shards = r.shards; life = next_life r.life r.begun; blocks = r.blocks + 1 } in
    ap (λ b. replayed (option_map durable_router (if b then Some next else None)) []) may

-- the cursors of an answer: a block is stored where one begins
abbrev numbered : Router → List Cursor → Bool → Opened
numbered r cursors t =
    if t then record { written = []; cursors = cursors; blocks = r.blocks; gave = r.gave + 1 }
    else record { written = kept_block r.blocks ∷ []; cursors = cursors; blocks = r.blocks + 1; gave = block_size * r.blocks + 1 }

abbrev HasBlocks : Router → Opened → Type 0
HasBlocks r f =
    replayed (Some (durable_router (router_part r))) (records_of f.written)
    ≡ Some (durable_router (record { me = r.me; shards = r.shards; life = next_life r.life r.begun; blocks = f.blocks }))

number_follows : (r : Router) (cursors : List Cursor) (t : Bool) → 1 ≤ r.life → r.begun ≡ true → HasBlocks r (numbered r cursors t)
number_follows r cursors true first begun = refl
number_follows r cursors false first begun = block_follows r first begun

opened_follow : (r : Router) (q : Open) (at : ℕ) (telling : Telling) (out : Outcome) (answer : Answer) (f : Opened) → 1 ≤ r.life → r.begun ≡ true
    → Tells r q at telling out answer f → HasBlocks r f
opened_follow r q at _ _ _ _ first begun (tells_overflow telling) = refl
opened_follow r q at _ _ _ _ first begun (tells_excess telling documents n excess) = refl
opened_follow r q at _ _ _ _ first begun (tells_number n) = refl
opened_follow r q at _ _ _ _ first begun (tells_batch size single documents batch small is last) = refl
opened_follow r q at _ _ _ _ first begun (tells_cursor size documents batch small is more) =
    number_follows r (r.cursors ++ new_cursor r q at (drop (length batch) documents) ∷ []) (nat_lt r.gave (block_size * r.blocks)) first begun

pub router_follows : (r q : Router) (i : Input) (f : Effect) → RouterHolds r → RouterRow r i f q → RouterFollows r f q
router_follows _ _ _ _ holds (router_begin r not_begun) =
    record { own = refl; shards = refl; leads = begins_follow r holds not_begun; holds = begins_holds r holds }
router_follows _ _ _ _ holds (router_opened r begun) = still r r _ refl refl refl refl refl refl holds.0 holds.1
router_follows _ _ _ _ holds (router_plain r link number request answer begun plan) = still r _ _ refl refl refl refl refl refl holds.0 (inl begun)
router_follows _ _ _ _ holds (router_more r link number request more c batch next begun plan found shows) =
    still r _ _ refl refl refl refl refl refl holds.0 (inl begun)
router_follows _ _ _ _ holds (router_no_cursor r link number request more begun plan none) = still r _ _ refl refl refl refl refl refl holds.0 (inl begun)
router_follows _ _ _ _ holds (router_kill r link number request kill killed missing next begun plan ends) =
    still r _ _ refl refl refl refl refl refl holds.0 (inl begun)
router_follows _ _ _ _ holds (router_take r link number request namespace work begun plan) = still r _ _ refl refl refl refl refl refl holds.0 (inl begun)
router_follows _ _ _ _ holds (router_learn r m namespace create at table tells) =
    still r _ _ refl refl refl refl refl refl holds.0
    (kept_none r.begun r.requests _ holds.1
    (λ none. ap (λ (l : List Open). flat_map (λ q. stay_in (next_of r (heard r m) (adopted table r.tables) namespace (was_created create table) at q)) l) none))
router_follows _ _ _ _ holds (router_split r m id q middle tells found work) =
    still r _ _ refl refl refl refl refl refl holds.0 (inl (in_life r id q holds.1 found))
router_follows _ _ _ _ holds (router_not_sharded r m id q middle tells found work) =
    still r _ _ refl refl refl refl refl refl holds.0 (inl (in_life r id q holds.1 found))
router_follows _ _ _ _ holds (router_reach r m id q named at stages telling tells found work waits reached) =
    still r _ _ refl refl refl refl refl refl holds.0 (inl (in_life r id q holds.1 found))
router_follows _ _ _ _ holds (router_hear r m id q named at stages telling tells found work waits ahead some) =
    still r _ _ refl refl refl refl refl refl holds.0 (inl (in_life r id q holds.1 found))
router_follows _ _ _ _ holds (router_ahead r m id q named at stages telling tells found work waits ahead all) =
    still r _ _ refl refl refl refl refl refl holds.0 (inl (in_life r id q holds.1 found))
router_follows _ _ _ _ holds (router_note r m id dones q kind ordered statements c next tells found work news is) =
    still r _ _ refl refl refl refl refl refl holds.0 (inl (in_life r id q holds.1 found))
router_follows _ _ _ _ holds (router_refused r m id turn first cause q next tells found is) =
    still r _ _ refl refl refl refl refl refl holds.0 (inl (in_life r id q holds.1 found))
router_follows _ _ _ _ holds (router_no_table r m namespace create at node lack tells) =
    still r _ _ refl refl refl refl refl refl holds.0
    (kept_none r.begun r.requests _ holds.1
    (λ none. ap (λ (l : List Open). flat_map (λ q. stay_in (table_refused r (heard r m) namespace create at (lack_refusal node lack) q)) l) none))
router_follows _ _ _ _ holds (router_parted r m id rows q named at stages telling tells found work target some) =
    still r _ _ refl refl refl refl refl refl holds.0 (inl (in_life r id q holds.1 found))
router_follows _ _ _ _ holds (router_read r m id rows q named at stages telling parts out answer f tells found work target whole got merges shown) =
    let begun : r.begun ≡ true = in_life r id q holds.1 found in
    record { own = refl; shards = refl; leads = opened_follow r q at telling out answer f holds.0 begun shown; holds = (holds.0, inl begun) }
router_follows _ _ _ _ holds (router_excess r m id rows n q named at stages telling tells found work target whole got) =
    still r _ _ refl refl refl refl refl refl holds.0 (inl (in_life r id q holds.1 found))
router_follows _ _ _ _ holds (router_overflow r m id rows q named at stages telling tells found work target whole got) =
    still r _ _ refl refl refl refl refl refl holds.0 (inl (in_life r id q holds.1 found))
router_follows _ _ _ _ holds (router_late r m late) = still r _ _ refl refl refl refl refl refl holds.0 holds.1
router_follows _ _ _ _ holds (router_skip r m none) = still r r _ refl refl refl refl refl refl holds.0 holds.1
router_follows _ _ _ _ holds (router_moment r moment begun) = still r _ _ refl refl refl refl refl refl holds.0 (inl begun)
