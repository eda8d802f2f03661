-- Two calls, one after the other: the next one may begin on the files that the first one left, and keeps what they store.
use Rattle.std.specs.Prelude.{◌≡◌, ℕ, List, [], ◌+◌, ◌++◌, Bool, IsTrue}
use Rattle.std.proofs.Common.{ap, ◌∙◌}
use Rattle.outside.specs.Devices.{SourceCall, SinkCall}
use Rattle.node_model.specs.Journal.{Kept}
use Rattle.node_model.specs.World.{World, journal_at}
use Rattle.node_replay.specs.Acknowledged.{KeepsJournals}
use Rattle.node_replay.specs.Restarts.{stays}
use Rattle.restart_laws.specs.Calls.{Reached, next_call, this_call, wholes}
use Rattle.restart_laws.proofs.ReachedCalls.{calls_keep_journals, reached_calls_may_go_on, run_whole}
use Rattle.driver_steps.specs.Crashes.{LeadsTo}
use Rattle.pipe_driver.specs.Endings.{most_taken}
use Rattle.pipe_driver.specs.declared.status.Status.{Status}
use Rattle.pipe_driver.proofs.Histories.{piped_run}
use Rattle.sim_driver.proofs.Histories.{simulated_run}
use Rattle.journal_starts.specs.Journals.{AreJournals}
use Rattle.journal_starts.specs.Starts.{BeginsOnFiles, begins_again, begins_new}
use Rattle.journal_starts.proofs.Starts.{starts_are_stored}
use Rattle.cluster_service.specs.Arguments.{others_of, routers_of}
use Rattle.cluster_service.specs.Ends.{ends_in}
use Rattle.cluster_service.specs.Headline.{HeadlineOf}
use Rattle.cluster_service.specs.declared.arguments.Command.{Command}
use Rattle.cluster_service.specs.declared.arguments.Command.TheVariants.{Pipe, Sim, Serve}
use Rattle.cluster_service.proofs.SameJournals.{same_journals}

-- a run loses nothing that is stored
pub keeps_by : (u w : World) → LeadsTo u w → KeepsJournals u w
keeps_by u w leads = calls_keep_journals u w (this_call w leads.0 leads.1)

-- calls lead to what a call leads to that begins on files
pub reached_from : (others routers : ℕ) (files : List (List ℕ)) (first w : World) → BeginsOnFiles others routers files first → LeadsTo first w
    → Reached others routers w
reached_from others routers files _ w (begins_new are) (events, run) =
    this_call w events run
reached_from others routers files _ w (begins_again u first reached are b) (events, run) =
    next_call u first w events reached b run

module _ (tells : Bool) (files_after : List (List ℕ)) (first : World) (source : SourceCall) (sink : SinkCall) (leaves : World → Type 0)
    (owed : World → List ℕ → Type 0) (gives : ℕ → Type 0) (ending : Status) (rest : ℕ) where
  pub leads_to_end : (command : Command) (headline : HeadlineOf command first source sink tells files_after leaves owed gives ending rest)
      → LeadsTo first (ends_in command _ _ _ _ _ _ _ _ _ _ headline)
  leads_to_end (Pipe shards) headline =
      let run = piped_run source sink gives (1 + shards) _ leaves owed first most_taken ending rest headline.piped in
      (wholes run.0, run_whole first headline.piped.end run.0 run.1)
  leads_to_end (Sim shards routers) headline = simulated_run source sink (1 + shards) _ leaves owed first most_taken ending headline.simulated
  leads_to_end (Serve server) headline = absurd headline

  pub files_of_end : IsTrue tells → (command : Command) (headline : HeadlineOf command first source sink tells files_after leaves owed gives ending rest)
      → AreJournals files_after (ends_in command _ _ _ _ _ _ _ _ _ _ headline).nodes
  files_of_end told (Pipe shards) headline = headline.piped.files told
  files_of_end told (Sim shards routers) headline = headline.simulated.files told
  files_of_end told (Serve server) headline = absurd headline

-- LAWS

pub calls_go_on : (tells : Bool) (command : Command) (files files_after : List (List ℕ)) (first : World) (source : SourceCall) (sink : SinkCall)
    (leaves : World → Type 0) (owed : World → List ℕ → Type 0) (gives : ℕ → Type 0) (ending : Status) (rest : ℕ)
    → IsTrue tells → BeginsOnFiles (others_of command) (routers_of command) files first
    → HeadlineOf command first source sink tells files_after leaves owed gives ending rest
    → (next : World) × BeginsOnFiles (others_of command) (routers_of command) files_after next
calls_go_on tells command files files_after first source sink leaves owed gives ending rest told begins headline =
    let end : World = ends_in command _ _ _ _ _ _ _ _ _ _ headline in
    let reached : Reached (others_of command) (routers_of command) end = reached_from (others_of command) (routers_of command) files first end begins
    (leads_to_end tells files_after first source sink leaves owed gives ending rest command headline) in
    let on = reached_calls_may_go_on (others_of command) (routers_of command) end reached in
    (on.0, begins_again end on.0 reached (files_of_end tells files_after first source sink leaves owed gives ending rest told command headline) on.1)

-- where both worlds store the same, what keeps the journals of one keeps those of the other
pub kept_from : (u v w : World) → ((at : ℕ) → journal_at v.nodes at ≡ journal_at u.nodes at) → KeepsJournals v w → KeepsJournals u w
kept_from u v w same keeps at = let k = keeps at in (k.0, k.1 ∙ ap (λ (l : List Kept). l ++ k.0) (same at))

pub acknowledged_goes_on : (tells : Bool) (command : Command) (files files_after : List (List ℕ)) (first : World) (source : SourceCall) (sink : SinkCall)
    (leaves : World → Type 0) (owed : World → List ℕ → Type 0) (gives : ℕ → Type 0) (ending : Status) (rest : ℕ)
    → IsTrue tells → BeginsOnFiles (others_of command) (routers_of command) files first
    → (headline : HeadlineOf command first source sink tells files_after leaves owed gives ending rest)
    → (next w : World) → BeginsOnFiles (others_of command) (routers_of command) files_after next → LeadsTo next w
    → KeepsJournals (ends_in command _ _ _ _ _ _ _ _ _ _ headline) w
acknowledged_goes_on tells command files files_after first source sink leaves owed gives ending rest told begins headline next w again leads =
    let others : ℕ = others_of command in
    let routers : ℕ = routers_of command in
    let end : World = ends_in command _ _ _ _ _ _ _ _ _ _ headline in
    let reached : Reached others routers end = reached_from others routers files first end begins
    (leads_to_end tells files_after first source sink leaves owed gives ending rest command headline) in
    let same : (at : ℕ) → journal_at next.nodes at ≡ journal_at end.nodes at =
    same_journals others routers files_after next end (reached_from others routers files_after next next again ([], stays next)) reached
    (starts_are_stored others routers files_after next again)
    (files_of_end tells files_after first source sink leaves owed gives ending rest told command headline) in
    kept_from end next w same (keeps_by next w leads)
