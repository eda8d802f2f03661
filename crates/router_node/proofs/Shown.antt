-- The transitions of requests about cursors, and of the answers to reads.
use Rattle.std.proofs.Common.{Global, ◌≡◌, map, refl, sym, subst, ℕ, ℤ, ◌+◌, ◌*◌, List, [], ◌∷◌, ◌++◌, Bool, true, false, append-nil, if◌then◌else◌}
use Rattle.std.specs.Prelude.{Some, None, nat_lt}
use Rattle.std.specs.Arc.{arc_value}
use Rattle.std.specs.declared.vec.Vec.{Vec}
use Rattle.command_model.specs.Cursors.{Batch}
use Rattle.command_model.specs.GetMore.{GetMore}
use Rattle.command_model.specs.KillCursors.{KillCursors}
use Rattle.command_model.specs.Answers.{Answer, answer_document, next_answer, killed_answer, refusal_answer}
use Rattle.command_model.specs.Command.{command_of}
use Rattle.reply_model.specs.Cursors.{Cursor, Kills, ShowsNext, open_cursor}
use Rattle.base_model.specs.Errors.{cursor_not_found}
use Rattle.base_model.specs.Identities.{RequestId}
use Rattle.node_model.specs.Journal.{kept_block}
use Rattle.node_model.specs.Letters.{Letter, client_input}
use Rattle.base_model.specs.Refusals.{cursor_evidence}
use Rattle.opmsg_model.specs.Requests.{Request}
use Rattle.node_model.specs.RouterRequests.{heard, id_of, needs_batch, needs_end, plan_of}
use Rattle.node_model.specs.RouterNext.{reply_to}
use Rattle.node_model.specs.RouterRows.{RouterRow, Opened, router_more, router_no_cursor, router_kill, answers_at_once, as_before, gives_number, next_number}
use Rattle.node_model.specs.States.{Open, Router}
use Rattle.node_traits.specs.Effects.{AreReadable, puts_of}
use Rattle.node_traits.specs.declared.outputs.ToLink.{ToLink}
use Rattle.router_cursors.specs.CursorLists.{advanced, closed_all}
use Rattle.router_cursors.specs.Marks.{is_left}
use Rattle.router_cursors.specs.Numbers.{block_given, block_kept, blocks_then}
use Rattle.router_node.specs.Rows.{TookRow, started}
use Rattle.router_node.specs.StepPlans.{Hears, HearsKeeping, IsHeard, changed, cursors_then}
use Rattle.router_node.specs.Tellings.{MayTell}
use Rattle.router_node.specs.declared.step_plan.Change.TheVariants.{Counts, Closes, Advances, Ends, Shelves}
use Rattle.router_node.specs.declared.step_plan.NewCursor.{NewCursor}
use Rattle.router_node.specs.declared.step_plan.StepPlan.{StepPlan}
use Rattle.router_node.proofs.Heard.{heard_by, heard_keeping}

-- the router after one more request, with these cursors
abbrev counted : Router → List Open → List Cursor → Router
counted r requests cursors = record {
  me = r.me;
  shards = r.shards;
  time = r.time;
  life = r.life;
  begun = true;
  moment = r.moment;
  count = r.count + 1;
  tables = r.tables;
  requests = requests;
  cursors = cursors;
  blocks = r.blocks;
  gave = r.gave;
}

-- REQUESTS ABOUT CURSORS

module _ (r : Router) (link : ℕ) (number : ℤ) (request : Request) (replies : List ToLink) where
  abbrev id : RequestId
  id = id_of r (r.count + 1)

  abbrev Tells : Answer → Type 0
  Tells answer = replies ≡ puts_of (record { id = id; link = link; number = number; request = request; time = r.time; document = answer_document answer } ∷ [])

  -- by a transition that results in these cursors
  took : (answer : Answer) (cursors : List Cursor) → Tells answer
      → RouterRow (started r) (client_input link number request) (answers_at_once (started r) link number request answer) (counted r (r.requests ++ []) cursors)
      → TookRow (started r) (client_input link number request) [] replies (counted r r.requests cursors)
  took answer cursors told row = record {
    effect = answers_at_once (started r) link number request answer;
    row = subst (λ (l : List Open). RouterRow (started r) (client_input link number request) (answers_at_once (started r) link number request answer) (counted r l cursors)) (append-nil r.requests) row;
    written = refl;
    sent = refl;
    told = told;
  }

  module _ (more : GetMore) (plan : plan_of (started r) id request.more (command_of request) ≡ needs_batch more) where
    -- the next batch is returned, and its documents are removed, unless no reply is requested
    batch_told : (c : Cursor) (batch : Batch) (next : List Cursor) (silent : Bool) → request.more ≡ silent → open_cursor id more.cursor more.namespace r.cursors ≡ Some c
        → ShowsNext id more.size r.cursors c batch next → Tells (next_answer batch)
        → TookRow (started r) (client_input link number request) [] replies (counted r r.requests (if silent then r.cursors else next))
    batch_told c batch next silent is found shows told =
        took (next_answer batch) (if silent then r.cursors else next) told
        (subst (λ (b : Bool). RouterRow (started r) (client_input link number request) (answers_at_once (started r) link number request (next_answer batch)) (counted r (r.requests ++ []) (if b then r.cursors else next)))
        is (router_more (started r) link number request more c batch next refl plan found shows))

    pub took_silent : (c : Cursor) (batch : Batch) (next : List Cursor) → request.more ≡ true → open_cursor id more.cursor more.namespace r.cursors ≡ Some c
        → ShowsNext id more.size r.cursors c batch next → Tells (next_answer batch)
        → TookRow (started r) (client_input link number request) [] replies (changed r r.time true r.moment Counts)
    took_silent c batch next is found shows told = batch_told c batch next true is found shows told

    pub took_batch : (c : Cursor) (batch : Batch) (shown : ℕ) → request.more ≡ false → open_cursor id more.cursor more.namespace r.cursors ≡ Some c
        → ShowsNext id more.size r.cursors c batch (advanced id more.cursor shown r.cursors) → Tells (next_answer batch)
        → TookRow (started r) (client_input link number request) [] replies (changed r r.time true r.moment (Advances more.cursor shown))
    took_batch c batch shown is found shows told = batch_told c batch (advanced id more.cursor shown r.cursors) false is found shows told

    pub took_not_open : open_cursor id more.cursor more.namespace r.cursors ≡ None
        → Tells (refusal_answer (record { error = cursor_not_found; evidence = cursor_evidence more.cursor }))
        → TookRow (started r) (client_input link number request) [] replies (changed r r.time true r.moment Counts)
    took_not_open none told =
        took (refusal_answer (record { error = cursor_not_found; evidence = cursor_evidence more.cursor })) r.cursors told
        (router_no_cursor (started r) link number request more refl plan none)

  pub took_end : (kill : KillCursors) (killed missing : List ℤ) (numbers : Vec ℤ Global) → plan_of (started r) id request.more (command_of request) ≡ needs_end kill
      → Kills id kill.namespace r.cursors kill.cursors killed missing (closed_all id killed r.cursors) → numbers.items ≡ killed → Tells (killed_answer killed missing)
      → TookRow (started r) (client_input link number request) [] replies (changed r r.time true r.moment (Ends numbers))
  took_end kill killed missing numbers plan kills same told =
      subst (λ (ns : List ℤ). TookRow (started r) (client_input link number request) [] replies (counted r r.requests (closed_all id ns r.cursors))) (sym same)
      (took (killed_answer killed missing) (closed_all id killed r.cursors) told
      (router_kill (started r) link number request kill killed missing (closed_all id killed r.cursors) refl plan kills))

-- ANSWERS TO READS

-- the next number is used
gives_is : (r : Router) (cursors : List Cursor)
    → gives_number r cursors ≡ record { written = block_kept (block_given r.blocks r.gave); cursors = cursors; blocks = blocks_then r.blocks r.gave; gave = next_number r }
gives_is r cursors = by (nat_lt r.gave (64 * r.blocks)) where
  by : (b : Bool)
      → ◌≡◌ {A = Opened} (if b then record { written = []; cursors = cursors; blocks = r.blocks; gave = r.gave + 1 }
      else record { written = kept_block r.blocks ∷ []; cursors = cursors; blocks = r.blocks + 1; gave = 64 * r.blocks + 1 })
      (record { written = block_kept (if b then None else Some r.blocks); cursors = cursors; blocks = if b then r.blocks else r.blocks + 1; gave = if b then r.gave + 1 else 64 * r.blocks + 1 })
  by true = refl
  by false = refl

module _ (r : Router) (m : Letter) (p : StepPlan) (time : ℕ) (late : time ≡ heard r m) (q : Open) (answer : Answer) (replies : List ToLink)
    (told : replies ≡ puts_of (reply_to r (heard r m) q answer ∷ [])) where
  -- without a cursor
  pub told_plain : Hears r time (Closes q.count) [] replies p → MayTell r m q answer (as_before r) → IsHeard r m p
  told_plain h may = heard_by r m p time late (Closes q.count) [] replies h (λ e. e) (record {
    effect = record { written = []; mail = []; taken = []; replies = reply_to r (heard r m) q answer ∷ []; away = [] };
    row = may;
    written = refl;
    sent = refl;
    told = told;
  })

  -- with one
  pub told_cursor : (opened : NewCursor) → HearsKeeping r time (Shelves q.count opened) replies (block_kept (block_given r.blocks r.gave)) p → is_left (map (λ d. arc_value d) opened.rest.items) ≡ true
      → AreReadable (block_kept (block_given r.blocks r.gave)) → MayTell r m q answer (gives_number r (cursors_then r (Shelves q.count opened))) → IsHeard r m p
  told_cursor opened h left readable may =
      let cursors = cursors_then r (Shelves q.count opened) in
      let f : Opened = record { written = block_kept (block_given r.blocks r.gave); cursors = cursors; blocks = blocks_then r.blocks r.gave; gave = next_number r } in
      heard_keeping r m p time late (Shelves q.count opened) replies
      (record { written = f.written; mail = []; taken = []; replies = reply_to r (heard r m) q answer ∷ []; away = [] }) h ((λ e. e), left)
      (subst (λ (g : Opened). MayTell r m q answer g) (gives_is r cursors) may) refl told readable
