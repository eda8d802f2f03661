-- In every run in which nodes stop and are started again, what was stored and acknowledged stays.
use Rattle.std.proofs.Common.{◌≡◌, ◌≢◌, ◌⊎◌, inl, inr, ℕ, zero, suc, ◌+◌, ◌≤◌, List, [], ◌∷◌, ◌++◌, refl, sym, ap, subst, ◌∙◌, arith, append-nil}
use Rattle.std.specs.Prelude.{Some}
use Rattle.std.specs.List.{AllByRecursion, slice_get, slice_set}
use Rattle.history_model.proofs.Lists.{all_weaken, all_append, in_prefix}
use Rattle.history_model.specs.History.{Entry, IsIn}
use Rattle.reply_model.specs.Exchanges.{Asked, Answered}
use Rattle.reply_model.specs.Accounts.{Dated, changes_in as changes_of}
use Rattle.reply_model.specs.OneHistory.{ids_asked, AreDifferent}
use Rattle.node_model.specs.Journal.{Kept, entries_kept, changes_kept}
use Rattle.node_model.specs.Letters.{Letter, Input, client_input, letter_input, moment_input, opened_input, Effect, Reply}
use Rattle.node_model.specs.RouterRows.{begins}
use Rattle.node_model.specs.States.{Router, NodeState, catalogue_state, shard_state, router_state}
use Rattle.node_model.specs.Steps.{Step, catalogue_step, shard_step, router_step, begin_step, other_step}
use Rattle.node_model.specs.World.{Held, World, asked_by, answered_by, dated_onto, journal_at, history_of}
use Rattle.node_laws.proofs.Causes.{router_aside}
use Rattle.node_laws.proofs.Dates.{IsNoChange, dated_same}
use Rattle.node_laws.proofs.LongerJournals.{entries_longer}
use Rattle.node_laws.proofs.Places.{EachAt, each_set}
use Rattle.node_laws.proofs.RouterLater.{of_answers}
use Rattle.node_replay.specs.Acknowledged.{IsStored}
use Rattle.node_replay.specs.Holds.{Holds}
use Rattle.node_replay.proofs.StoredEntries.{of_history, in_first_journal, in_later_journals}
use Rattle.node_replay.proofs.StayFacts.{LetterStays, StateStays, HeldStays, CatalogueStays, RouterStays, OpenStays, Grows, body_grows, letters_grow, open_grows, stored_grows}
use Rattle.node_replay.proofs.CatalogueStays.{catalogue_stays}
use Rattle.node_replay.proofs.ShardStays.{InputStays, shard_stays}
use Rattle.node_replay.proofs.RouterNext.{begins_stays, RouterSteps}
use Rattle.node_replay.proofs.RouterRows.{router_steps}
use Rattle.node_laws.proofs.Facts.{IsBy}

-- what a step of a node shows, for what is requested and stored after it
pub record StepStays (asked : List Asked) (history : List Entry) (now at : ℕ) (kept : List Kept) (f : Effect) (new : NodeState) : Type 0 where
  pub node : StateStays (asked ++ asked_by now f.taken) history at (kept ++ f.written) new
  pub letters : AllByRecursion (LetterStays (asked ++ asked_by now f.taken) history) f.mail
  pub told : AllByRecursion (IsStored history) (answered_by now f.replies)
  pub one : AreDifferent (ids_asked (asked ++ asked_by now f.taken))
  pub here : AllByRecursion (λ (a : Asked). a.id.router ≡ at) (asked_by now f.taken)
  pub changes : (at ≡ 0) ⊎ AllByRecursion IsNoChange f.written

-- a node that takes and answers nothing
silent : (asked : List Asked) (history : List Entry) (now at : ℕ) (kept : List Kept) (f : Effect) (new : NodeState) → AreDifferent (ids_asked asked)
    → f.taken ≡ [] → f.replies ≡ [] → StateStays asked history at (kept ++ f.written) new → AllByRecursion (LetterStays asked history) f.mail
    → (at ≡ 0) ⊎ AllByRecursion IsNoChange f.written → StepStays asked history now at kept f new
silent asked history now at kept f new one takes tells node letters changes =
    let same : asked ≡ asked ++ asked_by now f.taken = sym (append-nil asked) ∙ ap (λ l. asked ++ asked_by now l) (sym takes) in
    record {
      node = subst (λ l. StateStays l history at (kept ++ f.written) new) same node;
      letters = subst (λ l. AllByRecursion (LetterStays l history) f.mail) same letters;
      told = subst (λ l. AllByRecursion (IsStored history) (answered_by now l)) (sym tells) tt;
      one = subst (λ l. AreDifferent (ids_asked l)) same one;
      here = subst (λ l. AllByRecursion (λ (a : Asked). a.id.router ≡ at) (asked_by now l)) (sym takes) tt;
      changes = changes;
    }

of_router : (asked : List Asked) (history : List Entry) (now at : ℕ) (kept : List Kept) (f : Effect) (q : Router) → RouterSteps asked history now at f q
    → AllByRecursion IsNoChange f.written → StepStays asked history now at kept f (router_state q)
of_router asked history now at kept f q s none = record {
  node = s.next.node;
  letters = s.next.letters;
  told = of_answers (IsStored history) now f.replies s.next.told;
  one = s.one;
  here = s.here;
  changes = inr none;
}

-- entries that are stored later, all before stay
module _ (asked : List Asked) (history longer : List Entry) (stays : (e : Entry) → IsIn e history → IsIn e longer) where
  longer_only : Grows asked asked history longer
  longer_only = record { taken = λ a i. i; stored = stays }

  pub input_grows : (i : Input) → InputStays asked history i → InputStays asked longer i
  input_grows (letter_input m) s = body_grows asked asked history longer longer_only m.body s
  input_grows (client_input link number request) s = tt
  input_grows (moment_input moment) s = tt
  input_grows opened_input s = tt

  router_longer : (at : ℕ) (r : Router) → RouterStays asked history at r → RouterStays asked longer at r
  router_longer at r s = record {
    own = s.own;
    place = s.place;
    requests = all_weaken (OpenStays asked history r.me r.life) (OpenStays asked longer r.me r.life) r.requests
        (λ q o. open_grows asked asked history longer longer_only r.me r.life q o) s.requests;
    counted = s.counted;
  }

  pub step_stays : (now at stored : ℕ) (kept : List Kept) (s t : NodeState) (i : Input) (f : Effect) → AreDifferent (ids_asked asked)
      → ((e : Entry) → IsIn e (entries_kept (kept ++ f.written)) → IsIn e longer) → StateStays asked history at kept s → Holds stored s
      → InputStays asked history i → Step s i f t → StepStays asked longer now at kept f t
  step_stays now at stored kept _ _ _ _ one written mine holds input (catalogue_step c d i f own row) =
      let h = catalogue_stays asked longer at kept c d i f mine (input_grows i input) row in
      silent asked longer now at kept f (catalogue_state d) one h.takes h.tells h.node h.letters (inl mine.place)
  step_stays now at stored kept _ _ _ _ one written mine holds input (shard_step s t i f own row) =
      let h = shard_stays asked asked history longer longer_only at kept s t i f written mine (omega (arith, holds)) input row in
      silent asked longer now at kept f (shard_state t) one h.takes h.tells h.node h.letters (inr h.stores)
  step_stays now at stored kept _ _ _ _ one written mine holds input (router_step r q i f own row) =
      of_router asked longer now at kept f q (router_steps asked longer now at r q i f (router_longer at r mine) one (input_grows i input) row)
      (router_aside r q i f row)
  step_stays now at stored kept _ _ _ _ one written mine holds input (begin_step r q i f not_begun before row) =
      let h = router_steps asked longer now at (begins r) q i f
      (begins_stays asked longer now at r (router_longer at r mine) one not_begun) one (input_grows i input) row in
      let s = of_router asked longer now at kept f q h (router_aside (begins r) q i f row) in
      record {
        node = s.node;
        letters = s.letters;
        told = s.told;
        one = s.one;
        here = s.here;
        changes = inr (tt, router_aside (begins r) q i f row);
      }
  step_stays now at stored kept _ _ _ _ one written mine holds input (other_step s m apart) =
      silent asked longer now at kept _ s one refl refl (by_state s mine) tt (inr tt)
    where
      by_state : (s : NodeState) → StateStays asked history at kept s → StateStays asked longer at (kept ++ []) s
      by_state (catalogue_state c) s = subst (λ l. CatalogueStays at l c) (sym (append-nil kept)) s
      by_state (shard_state x) s = record {
        own = s.own;
        place = s.place;
        entries = s.entries ∙ ap (λ l. entries_kept l) (sym (append-nil kept));
        parked = letters_grow asked asked history longer longer_only x.parked s.parked;
      }
      by_state (router_state r) s = router_longer at r s

-- OTHER NODES

-- what is true of a node stays where another one steps
pub state_grows : (asked more : List Asked) (history longer : List Entry) → Grows asked (asked ++ more) history longer → (j : ℕ) (kept : List Kept)
    (s : NodeState)
    → AllByRecursion (λ (a : Asked). a.id.router ≢ j) more → StateStays asked history j kept s → StateStays (asked ++ more) longer j kept s
state_grows asked more history longer g j kept (catalogue_state c) other s = s
state_grows asked more history longer g j kept (shard_state x) other s = record {
  own = s.own;
  place = s.place;
  entries = s.entries;
  parked = letters_grow asked (asked ++ more) history longer g x.parked s.parked;
}
state_grows asked more history longer g j kept (router_state r) other s = record {
  own = s.own;
  place = s.place;
  requests = all_weaken (OpenStays asked history r.me r.life) (OpenStays (asked ++ more) longer r.me r.life) r.requests
      (λ q o. open_grows asked (asked ++ more) history longer g r.me r.life q o) s.requests;
  counted = all_append (λ (a : Asked). a.id.router ≡ j → IsBy a.id.life r.life r.begun (a.id.count ≤ r.count)) asked more s.counted
      (all_weaken (λ (a : Asked). a.id.router ≢ j) (λ (a : Asked). a.id.router ≡ j → IsBy a.id.life r.life r.begun (a.id.count ≤ r.count)) more
      (λ a apart e. absurd (apart e)) other);
}

-- THE WORLD

pub record ListsStay (nodes : List Held) (sent : List Letter) (asked : List Asked) (answered : List Answered) (changed : List Dated) : Type 0 where
  pub each : EachAt (HeldStays asked (history_of nodes)) 0 nodes
  pub letters : AllByRecursion (LetterStays asked (history_of nodes)) sent
  pub told : AllByRecursion (IsStored (history_of nodes)) answered
  pub one : AreDifferent (ids_asked asked)
  pub dated : changes_of changed ≡ changes_kept (journal_at nodes 0)

abbrev pub WorldStays : World → Type 0
WorldStays w = ListsStay w.nodes w.sent w.asked w.answered w.changed

-- the nodes after a step
abbrev pub with_step : List Held → ℕ → Held → List Kept → (steps : ℕ) → NodeState → List Held
with_step nodes at old written steps new = slice_set nodes at (record { state = new; kept = old.kept ++ written; steps = steps })

-- no entry of another journal is lost
pub stored_stays : (nodes : List Held) (at : ℕ) (old : Held) (written : List Kept) (steps : ℕ) (new : NodeState) → slice_get nodes at ≡ Some old → (e : Entry)
    → IsIn e (history_of nodes) → IsIn e (history_of (with_step nodes at old written steps new))
stored_stays [] at old written steps new here e i = absurd (cc)
stored_stays (h ∷ nodes) zero old written steps new here e i = by_part (of_history e h nodes i)
  where
    same : old ≡ h
    same = cc

    longer : entries_kept (old.kept ++ written) ≡ entries_kept h.kept ++ entries_kept written
    longer = entries_longer old.kept written ∙ ap (λ (x : Held). entries_kept x.kept ++ entries_kept written) same

    by_part : IsIn e (entries_kept h.kept) ⊎ IsIn e (history_of nodes) → IsIn e (history_of (record { state = new; kept = old.kept ++ written; steps = steps } ∷ nodes))
    by_part (inl own) =
        in_first_journal e (record { state = new; kept = old.kept ++ written; steps = steps }) nodes
        (subst (λ l. IsIn e l) (sym longer) (in_prefix e (entries_kept h.kept) (entries_kept written) own))
    by_part (inr other) = in_later_journals e (record { state = new; kept = old.kept ++ written; steps = steps }) nodes other
stored_stays (h ∷ nodes) (suc at) old written steps new here e i =
    by_part (of_history e h nodes i) (λ other. stored_stays nodes at old written steps new here e other)
  where
    by_part : IsIn e (entries_kept h.kept) ⊎ IsIn e (history_of nodes)
        → (IsIn e (history_of nodes) → IsIn e (history_of (with_step nodes at old written steps new)))
        → IsIn e (history_of (h ∷ with_step nodes at old written steps new))
    by_part (inl own) later = in_first_journal e h (with_step nodes at old written steps new) own
    by_part (inr other) later = in_later_journals e h (with_step nodes at old written steps new) (later other)

-- the entries of a journal are stored
pub stored_here : (nodes : List Held) (at : ℕ) (old : Held) (written : List Kept) (steps : ℕ) (new : NodeState) → slice_get nodes at ≡ Some old → (e : Entry)
    → IsIn e (entries_kept (old.kept ++ written)) → IsIn e (history_of (with_step nodes at old written steps new))
stored_here [] at old written steps new here e i = absurd (cc)
stored_here (h ∷ nodes) zero old written steps new here e i = in_first_journal e (record { state = new; kept = old.kept ++ written; steps = steps }) nodes i
stored_here (h ∷ nodes) (suc at) old written steps new here e i =
    in_later_journals e h (with_step nodes at old written steps new) (stored_here nodes at old written steps new here e i)

-- what the world has after a step
module _ (w : World) (at : ℕ) (old : Held) (f : Effect) (steps : ℕ) (new : NodeState) (stay : WorldStays w) (here : slice_get w.nodes at ≡ Some old) where
  abbrev More : List Asked
  More = asked_by w.now f.taken

  abbrev Next : List Held
  Next = with_step w.nodes at old f.written steps new

  grown : Grows w.asked (w.asked ++ More) (history_of w.nodes) (history_of Next)
  grown = record { taken = λ a i. in_prefix a w.asked More i; stored = stored_stays w.nodes at old f.written steps new here }

  nodes_after : StateStays (w.asked ++ More) (history_of Next) at (old.kept ++ f.written) new → AllByRecursion (λ (a : Asked). a.id.router ≡ at) More
      → EachAt (HeldStays (w.asked ++ More) (history_of Next)) 0 Next
  nodes_after node own =
      let zero_at : 0 + at ≡ at = omega arith in
      each_set (HeldStays w.asked (history_of w.nodes)) (HeldStays (w.asked ++ More) (history_of Next)) 0 at w.nodes
      (record { state = new; kept = old.kept ++ f.written; steps = steps })
      (λ j y apart s. state_grows w.asked More (history_of w.nodes) (history_of Next) grown j y.kept y.state
      (all_weaken (λ (a : Asked). a.id.router ≡ at) (λ (a : Asked). a.id.router ≢ j) More (λ a is e. apart (sym e ∙ is ∙ sym zero_at)) own) s)
      (subst (λ n. StateStays (w.asked ++ More) (history_of Next) n (old.kept ++ f.written) new) (sym zero_at) node) stay.each

  pub world_after : (mail : List Letter) (replies : List Reply) → (at ≡ 0) ⊎ AllByRecursion IsNoChange f.written
      → StateStays (w.asked ++ More) (history_of Next) at (old.kept ++ f.written) new → AllByRecursion (LetterStays (w.asked ++ More) (history_of Next)) mail
      → AllByRecursion (IsStored (history_of Next)) (answered_by w.now replies) → AreDifferent (ids_asked (w.asked ++ More))
      → AllByRecursion (λ (a : Asked). a.id.router ≡ at) More
      → ListsStay Next (w.sent ++ mail) (w.asked ++ More) (w.answered ++ answered_by w.now replies) (dated_onto w.now w.changed f.written)
  world_after mail replies changes node letters told one own = record {
    each = nodes_after node own;
    letters = all_append (LetterStays (w.asked ++ More) (history_of Next)) w.sent mail
        (letters_grow w.asked (w.asked ++ More) (history_of w.nodes) (history_of Next) grown w.sent stay.letters) letters;
    told = all_append (IsStored (history_of Next)) w.answered (answered_by w.now replies)
        (all_weaken (IsStored (history_of w.nodes)) (IsStored (history_of Next)) w.answered
        (λ t s. stored_grows w.asked (w.asked ++ More) (history_of w.nodes) (history_of Next) grown t s) stay.told) told;
    one = one;
    dated = dated_same w.now w.nodes at old f.written new steps w.changed here stay.dated changes;
  }
