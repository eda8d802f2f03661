-- What a router's step on a message lowers.
use Rattle.std.proofs.Common.{◌≡◌, ℕ, ◌+◌, List, [], ◌∷◌, refl, sym, subst, ap, arith, Bool}
use Rattle.std.specs.Prelude.{true, false, ◌*◌, nat_lt, if◌then◌else◌}
use Rattle.reply_model.specs.Accounts.{Dated}
use Rattle.history_model.specs.History.{IsIn}
use Rattle.reply_model.specs.Answers.{Answer, changed_answer}
use Rattle.reply_model.specs.Cursors.{Cursor}
use Rattle.reply_model.specs.Outcomes.{lack_refusal}
use Rattle.reply_model.specs.Versions.{Version}
use Rattle.pipeline_model.specs.Runs.{Outcome}
use Rattle.base_model.specs.Identities.{RequestId}
use Rattle.node_model.specs.Journal.{kept_block}
use Rattle.node_model.specs.Letters.{Letter, letter_input, Effect, refused, of_request, is_stale}
use Rattle.node_model.specs.RouterNext.{reply_to, Next, stays, is_told, adopted, was_created, noted, served_in_part, with_told, with_part, next_of, table_refused, begins_work}
use Rattle.node_model.specs.RouterRequests.{heard, reached}
use Rattle.node_model.specs.RouterRows.{Opened, Tells, tells_overflow, tells_excess, tells_number, tells_batch, tells_cursor, block_size, gives_number, RouterRow, router_learn, router_split, router_not_sharded, router_reach, router_hear, router_ahead, router_note, router_part, router_read, router_excess, router_overflow, router_late, router_skip, router_refused, router_no_table}
use Rattle.node_model.specs.States.{Telling, Open, Router, router_state, without}
use Rattle.node_model.specs.World.{dated_onto}
use Rattle.node_laws.proofs.Facts.{counts_of, AreDifferentCounts}
use Rattle.node_laws.proofs.OpenRequests.{open_of_found}
use Rattle.node_weights.specs.Weights.{changes_to_come, costs_of, turns_of}
use Rattle.node_weights.proofs.Falls.{WritesNoChange, spends_none, Falls, falls_requests, falls_turns, falls_messages}
use Rattle.node_weights.proofs.Requests.{Proceeds, proceeds_told, proceeds_same, turns_now, next_proceeds, reach_proceeds, note_proceeds, refused_proceeds, no_table_proceeds, Goes, goes_fewer, goes_less, goes_same, each_goes, one_goes}
use Rattle.node_weights.proofs.ShardFalls.{some_cost}

-- what becomes of the requests says what falls
goes_falls : (r q : Router) (m : Letter) (f : Effect) → WritesNoChange f → Goes r.requests q.requests f.mail → Falls (router_state r) m f (router_state q)
goes_falls r q m f plain (goes_fewer few) = falls_requests few
goes_falls r q m f plain (goes_less few less) = falls_turns few less
goes_falls r q m f plain (goes_same few le none) =
    let some = some_cost m.body in
    let coming = ap changes_to_come none in
    let light = ap costs_of none in
    falls_messages few le tt (spends_none plain (omega (arith, coming))) (omega (arith, some, light))

-- a block of numbers for cursors is no change of the catalogue
numbers_plain : (r : Router) (cursors : List Cursor) (now : ℕ) (changed : List Dated) → dated_onto now changed (gives_number r cursors).written ≡ changed
numbers_plain r cursors now changed = by_test (nat_lt r.gave (block_size * r.blocks))
  where
    by_test : (b : Bool) → dated_onto now changed (if◌then◌else◌ {A = Opened} b
        (record { written = []; cursors = cursors; blocks = r.blocks; gave = r.gave + 1 })
        (record { written = kept_block r.blocks ∷ []; cursors = cursors; blocks = r.blocks + 1; gave = block_size * r.blocks + 1 })).written ≡ changed
    by_test true = refl
    by_test false = refl

tells_plain : (r : Router) (q : Open) (at : ℕ) (telling : Telling) (out : Outcome) (answer : Answer) (f : Opened) → Tells r q at telling out answer f
    → (now : ℕ) (changed : List Dated) → dated_onto now changed f.written ≡ changed
tells_plain r q at _ _ _ _ (tells_overflow telling) now changed = refl
tells_plain r q at _ _ _ _ (tells_excess telling documents n excess) now changed = refl
tells_plain r q at _ _ _ _ (tells_number n) now changed = refl
tells_plain r q at _ _ _ _ (tells_batch size single documents batch small is rest) now changed = refl
tells_plain r q at _ _ _ _ (tells_cursor size documents batch small is rest) now changed = numbers_plain r _ now changed

-- one that is answered
answered : (r : Router) (time : ℕ) (q : Open) (requests : List Open) → AreDifferentCounts (counts_of requests) → IsIn q requests
    → Goes requests (without q.count requests) []
answered r time q requests different there =
    one_goes q (is_told (reply_to r time q (changed_answer time))) requests (proceeds_told (reply_to r time q (changed_answer time))) different there

pub router_falls : (r : Router) (m : Letter) (f : Effect) (u : Router) → AreDifferentCounts (counts_of r.requests)
    → ((id : RequestId) (turn first : ℕ) (met : Version) → m.body ≡ refused (of_request id turn first) (is_stale met) → ⊥)
    → RouterRow r (letter_input m) f u → Falls (router_state r) m f (router_state u)
router_falls _ _ _ _ different never (router_learn r m namespace create at table says) =
    goes_falls r _ m _ (λ now changed. refl)
    (each_goes (λ q. next_of r (heard r m) (adopted table r.tables) namespace (was_created create table) at q)
    (λ q. next_proceeds r (heard r m) (adopted table r.tables) namespace (was_created create table) at q) r.requests)
router_falls _ _ _ _ different never (router_split r m id q middle says o work) =
    goes_falls r _ m _ (λ now changed. refl) (answered r (heard r m) q r.requests different (open_of_found r id q o).stands)
router_falls _ _ _ _ different never (router_not_sharded r m id q middle says o work) =
    goes_falls r _ m _ (λ now changed. refl) (answered r (heard r m) q r.requests different (open_of_found r id q o).stands)
router_falls _ _ _ _ different never (router_reach r m id q named at stages telling says o w t le) =
    goes_falls r _ m _ (λ now changed. refl)
    (one_goes q (begins_work r (heard r m) q (reached (heard r m) q.work)) r.requests (reach_proceeds r (heard r m) q named at stages telling w t le) different
    (open_of_found r id q o).stands)
router_falls _ _ _ _ different never (router_hear r m id q named at stages telling says o w t le some) =
    goes_falls r _ m _ (λ now changed. refl)
    (one_goes q (stays (with_told q m.sender) []) r.requests (proceeds_same (with_told q m.sender) refl (omega arith)) different
    (open_of_found r id q o).stands)
router_falls _ _ _ _ different never (router_ahead r m id q named at stages telling says o w t le all) =
    goes_falls r _ m _ (λ now changed. refl) (answered r (heard r m) q r.requests different (open_of_found r id q o).stands)
router_falls _ _ _ _ different never (router_note r m id dones q kind ordered statements c next says o w n is) =
    goes_falls r _ m _ (λ now changed. refl)
    (one_goes q next r.requests
    (subst (λ (x : Next). Proceeds q.count (turns_now q) x) (sym is)
    (note_proceeds r (heard r m) ordered (served_in_part (noted ordered c.answers dones) c.runs) q kind ordered statements c dones (turns_now q)
    (ap (λ x. turns_of x q.wait) w) n))
    different (open_of_found r id q o).stands)
router_falls _ _ _ _ different never (router_refused r m id turn first cause q next says o is) =
    goes_falls r _ m _ (λ now changed. refl)
    (one_goes q next r.requests
    (refused_proceeds r (heard r m) q m.sender turn first cause next
    (λ met same. never id turn first met (subst (λ x. m.body ≡ refused (of_request id turn first) x) same says)) is)
    different (open_of_found r id q o).stands)
router_falls _ _ _ _ different never (router_no_table r m namespace create at node lack says) =
    goes_falls r _ m _ (λ now changed. refl)
    (each_goes (table_refused r (heard r m) namespace create at (lack_refusal node lack))
    (λ q. no_table_proceeds r (heard r m) namespace create at (lack_refusal node lack) q) r.requests)
router_falls _ _ _ _ different never (router_part r m id rows q named at stages telling says o w target some) =
    goes_falls r _ m _ (λ now changed. refl)
    (one_goes q (stays (with_part q m.sender rows) []) r.requests (proceeds_same (with_part q m.sender rows) refl (omega arith)) different
    (open_of_found r id q o).stands)
router_falls _ _ _ _ different never (router_read r m id rows q named at stages telling all out answer f says o w target whole got merged tells) =
    goes_falls r _ m _ (λ now changed. tells_plain r q at telling out answer f tells now changed)
    (answered r (heard r m) q r.requests different (open_of_found r id q o).stands)
router_falls _ _ _ _ different never (router_excess r m id rows n q named at stages telling says o w target whole got) =
    goes_falls r _ m _ (λ now changed. refl) (answered r (heard r m) q r.requests different (open_of_found r id q o).stands)
router_falls _ _ _ _ different never (router_overflow r m id rows q named at stages telling says o w target whole got) =
    goes_falls r _ m _ (λ now changed. refl) (answered r (heard r m) q r.requests different (open_of_found r id q o).stands)
router_falls _ _ _ _ different never (router_late r m l) = goes_falls r _ m _ (λ now changed. refl) (goes_same (omega arith) (omega arith) refl)
router_falls _ _ _ _ different never (router_skip r m s) = goes_falls r r m _ (λ now changed. refl) (goes_same (omega arith) (omega arith) refl)
