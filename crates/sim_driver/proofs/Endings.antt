-- How a script ends.
use Rattle.std.specs.Prelude.{◌≡◌, ◌≢◌, ◌⊎◌, ℕ, ◌+◌, ◌<◌, ◌≤◌, Bool, IsTrue, Result, Err, List, [], ◌∷◌, ◌++◌, length}
use Rattle.std.proofs.Common.{inl, inr, refl, ap, sym, ◌∙◌, subst, arith, append_assoc, length-append}
use Rattle.outside.specs.Streams.{Took}
use Rattle.outside.specs.Devices.{SourceCall, SinkCall}
use Rattle.node_model.specs.World.{Held, World}
use Rattle.driver_steps.specs.Crashes.{Noted}
use Rattle.driver_steps.specs.Seats.{Hosted, SeatView, AreKept, LeaveKept}
use Rattle.driver_steps.specs.Worlds.{NetworkView}
use Rattle.driver_steps.proofs.Seats.{held_kept}
use Rattle.outside.proofs.Relations.{took_then}
use Rattle.pipe_driver.specs.Acknowledgements.{AreCovered}
use Rattle.pipe_driver.specs.Counts.{RoseWhere}
use Rattle.pipe_driver.proofs.Counts.{rose_after, rose_as, same_err}
use Rattle.pipe_driver.proofs.Endings.{taking_stops}
use Rattle.pipe_driver.specs.Buffers.{EndsTaking, at_source_end, at_read_fault}
use Rattle.pipe_driver.specs.declared.status.Status.{Status}
use Rattle.pipe_driver.specs.declared.status.Status.TheVariants as statuses
use Rattle.script_lines.specs.Words.{HasNone}
use Rattle.sim_driver.specs.Scripts.{ScriptView}
use Rattle.sim_driver.specs.Simulations.{newline, all_printed, AllPlayed, CameTo, Cause, input_ended, read_failed, write_failed, disk_failed, no_memory}
use Rattle.sim_driver.specs.Simulations.{line_refused, line_unended, too_long, IsLastOfScript, IsSimulated}
use Rattle.sim_driver.specs.Progress.{Playing, StopsAt, at_refused_line, at_write_fault, at_disk_fault, at_no_memory, Stopped, HasStoppedIn}
use Rattle.sim_driver.proofs.Settled.{all_played}

module _ {S : Type 0} (view : S → SeatView) (hosts : Hosted S) (source : SourceCall) (sink : SinkCall) (noted : List Noted) (first_router : ℕ) (first : World)
    (limit : ℕ)
    (status : Status) (consumed left : List ℕ) where
  -- what the journals owed before bytes were put
  abbrev pub Owed : World → List ℕ → Type 0
  Owed last put = IsTrue sink.tells → AreCovered (all_printed first_router first) first noted sink.held_before put last

  as_cause : (known : Status) → status ≡ known → (lines : List (List ℕ)) (put : List ℕ) (end : World)
      → Cause first_router first limit (IsTrue source.tells → source.left_after ≡ []) (consumed ++ left) lines left put end known
      → Cause first_router first limit (IsTrue source.tells → source.left_after ≡ []) (consumed ++ left) lines left put end status
  as_cause known is lines put end cause =
      subst (λ (n : Status). Cause first_router first limit (IsTrue source.tells → source.left_after ≡ []) (consumed ++ left) lines left put end n)
      (sym is) cause

  -- all whole lines were played
  ended : (network : NetworkView) (s : ScriptView) (known : Status) → status ≡ known
      → (p : Playing view hosts network first_router first sink.tells noted sink.held_before sink.held_after s consumed)
      → Took source.tells source.left_before (consumed ++ left) source.left_after → length consumed + length left ≤ limit
      → (AllPlayed first_router first p.lines p.out p.world
      → Cause first_router first limit (IsTrue source.tells → source.left_after ≡ []) (consumed ++ left) p.lines left p.out p.world known)
      → IsSimulated source sink first_router (AreKept view hosts.seats) (LeaveKept view hosts) Owed first limit status
  ended network s known is p took most cause = record {
    taken = consumed ++ left;
    put = p.out;
    lines = p.lines;
    left = left;
    end = p.world;
    took = took;
    put_all = p.put;
    parts = ap (λ (b : List ℕ). b ++ left) p.all;
    each = p.each;
    most = omega (arith, most, length-append consumed left);
    cause = as_cause known is p.lines p.out p.world
        (cause (all_played first_router first p.begins p.lines p.events p.world s p.out p.plays));
    files = held_kept view hosts.seats p.world.nodes p.stands.nodes;
    last = p.world;
    is_last = inl refl;
    crashes = p.stands.crashes;
    acknowledged = p.covered;
  }

  -- the script stopped at the line that is next, or before it
  pub ended_stopped : (told : Status) → status ≡ told
      → Stopped view hosts first_router first sink.tells noted sink.held_before sink.held_after consumed left told
      → Took source.tells source.left_before (consumed ++ left) source.left_after → length consumed + length left ≤ limit
      → IsSimulated source sink first_router (AreKept view hosts.seats) (LeaveKept view hosts) Owed first limit status
  ended_stopped told is s took most = record {
    taken = consumed ++ left;
    put = s.out;
    lines = s.lines;
    left = left;
    end = s.end;
    took = took;
    put_all = s.put;
    parts = ap (λ (b : List ℕ). b ++ left) s.all;
    each = s.each;
    most = omega (arith, most, length-append consumed left);
    cause = as_cause told is s.lines s.out s.end (by_cause told s.cause);
    files = s.kept;
    last = s.last;
    is_last = subst (λ (n : Status). IsLastOfScript n (λ w. CameTo first_router first s.lines left s.out w) s.end s.last) (sym is) s.is_last;
    crashes = s.crashes;
    acknowledged = s.covered;
  }
    where
      by_cause : (n : Status) → StopsAt first_router first s.lines left s.out s.end n
          → Cause first_router first limit (IsTrue source.tells → source.left_after ≡ []) (consumed ++ left) s.lines left s.out s.end n
      by_cause _ (at_refused_line bytes others next refused all) = line_refused bytes others next refused all
      by_cause _ (at_write_fault short) = write_failed short
      by_cause _ (at_disk_fault came) = disk_failed came
      by_cause _ (at_no_memory came) = no_memory came

  module _ (network : NetworkView) (s : ScriptView)
      (p : Playing view hosts network first_router first sink.tells noted sink.held_before sink.held_after s consumed)
      (took : Took source.tells source.left_before (consumed ++ left) source.left_after) (none : HasNone newline left) where
    -- the input is at its limit
    pub ended_at_limit : status ≡ statuses.InputTooLong → length consumed + length left ≡ limit
        → IsSimulated source sink first_router (AreKept view hosts.seats) (LeaveKept view hosts) Owed first limit status
    ended_at_limit is full =
        ended network s statuses.InputTooLong is p took (omega (arith, full))
        (λ all. too_long (omega (arith, full, length-append consumed left)) none all)

    -- no more is taken
    module _ (most : length consumed + length left < limit) (told : Status) (whole : left ≡ [] → status ≡ told)
        (begun : left ≢ [] → told ≡ statuses.InputEnded → status ≡ statuses.BadInput) (other : told ≢ statuses.InputEnded → status ≡ told) where
      below : length (consumed ++ left) < limit
      below = omega (arith, most, length-append consumed left)

      at_end : (b : List ℕ) → left ≡ b → told ≡ statuses.InputEnded → (IsTrue source.tells → source.left_after ≡ [])
          → IsSimulated source sink first_router (AreKept view hosts.seats) (LeaveKept view hosts) Owed first limit status
      at_end [] is ends source_end =
          ended network s statuses.InputEnded (whole is ∙ ends) p took (omega (arith, most)) (λ all. input_ended source_end below is all)
      at_end (x ∷ b) is ends source_end =
          let some : left ≢ [] = λ e. let clash : x ∷ b ≡ [] = sym is ∙ e in absurd (cc clash) in
          ended network s statuses.BadInput (begun some ends) p took (omega (arith, most)) (λ all. line_unended source_end below some none all)

      by_taking : (n : Status) → told ≡ n → EndsTaking source.tells source.left_after n
          → IsSimulated source sink first_router (AreKept view hosts.seats) (LeaveKept view hosts) Owed first limit status
      by_taking _ is (at_source_end source_end) = at_end left refl is source_end
      by_taking _ is at_read_fault =
          ended network s statuses.ReadFailed (other (λ e. let clash : statuses.ReadFailed ≡ statuses.InputEnded = sym is ∙ e in absurd (cc clash)) ∙ is) p took
          (omega (arith, most)) (λ all. read_failed below none all)

      pub ended_taking : EndsTaking source.tells source.left_after told
          → IsSimulated source sink first_router (AreKept view hosts.seats) (LeaveKept view hosts) Owed first limit status
      ended_taking taking = by_taking told refl taking

-- the script stopped within a piece
pub ended_within : {S : Type 0} (view : S → SeatView) (hosts : Hosted S) (source : SourceCall) (sink : SinkCall) (noted : List Noted) (first_router : ℕ)
    (first : World) (limit : ℕ)
    (status : Status) (bytes : List ℕ) → HasStoppedIn view hosts first_router first sink.tells noted sink.held_before sink.held_after bytes status
    → Took source.tells source.left_before bytes source.left_after → length bytes ≤ limit
    → IsSimulated source sink first_router (AreKept view hosts.seats) (LeaveKept view hosts)
    (λ last put. IsTrue sink.tells → AreCovered (all_printed first_router first) first noted sink.held_before put last) first limit status
ended_within view hosts source sink noted first_router first limit status bytes h took most =
    let size : length h.consumed + length h.left ≤ limit = omega (arith, most, ap (λ (b : List ℕ). length b) h.whole, length-append h.consumed h.left) in
    ended_stopped view hosts source sink noted first_router first limit status h.consumed h.left status refl h.stopped
    (subst (λ (b : List ℕ). Took source.tells source.left_before b source.left_after) h.whole took) size

-- what is said of the nodes' journals, said otherwise
pub simulated_as : (source : SourceCall) (sink : SinkCall) (first_router : ℕ) (kept other : List Held → Type 0) (leaves leaves' : World → Type 0)
    (owed owed' : World → List ℕ → Type 0) (first : World) (limit : ℕ) (status : Status)
    → ((nodes : List Held) → kept nodes → other nodes) → ((w : World) → leaves w → leaves' w) → ((w : World) (put : List ℕ) → leaves w → owed w put
    → owed' w put)
    → IsSimulated source sink first_router kept leaves owed first limit status → IsSimulated source sink first_router other leaves' owed' first limit status
simulated_as source sink first_router kept other leaves leaves' owed owed' first limit status says weaker pays s = record {
  taken = s.taken;
  put = s.put;
  lines = s.lines;
  left = s.left;
  end = s.end;
  took = s.took;
  put_all = s.put_all;
  parts = s.parts;
  each = s.each;
  most = s.most;
  cause = s.cause;
  files = says s.end.nodes s.files;
  last = s.last;
  is_last = s.is_last;
  crashes = weaker s.last s.crashes;
  acknowledged = pays s.last s.put s.crashes s.acknowledged;
}

pub simulated_by : (source : SourceCall) (sink sink' : SinkCall) (first_router : ℕ) (kept : List Held → Type 0) (leaves : World → Type 0)
    (owed : World → List ℕ → Type 0) (first : World) (limit : ℕ) (status : Status) → sink ≡ sink'
    → IsSimulated source sink first_router kept leaves owed first limit status → IsSimulated source sink' first_router kept leaves owed first limit status
simulated_by source sink sink' first_router kept leaves owed first limit status same s =
    subst (λ (k : SinkCall). IsSimulated source k first_router kept leaves owed first limit status) same s

-- BYTES THAT ARE TAKEN

-- a piece more was taken
pub piece_taken : (tells : Bool) (first second third consumed begun bytes piece : List ℕ) (taken count : ℕ)
    → Took tells first (consumed ++ begun) second → Took tells second bytes third → piece ≡ bytes
    → length consumed + length begun ≡ taken → length bytes ≡ count
    → Took tells first (consumed ++ (begun ++ piece)) third × (length (consumed ++ (begun ++ piece)) ≡ taken + count)
piece_taken tells first second third consumed begun bytes piece taken count took more same size counted =
    let all : (consumed ++ begun) ++ bytes ≡ consumed ++ (begun ++ piece) =
    append_assoc consumed begun bytes ∙ ap (λ (b : List ℕ). consumed ++ (begun ++ b)) (sym same) in (
      subst (λ (b : List ℕ). Took tells first b third) all (took_then tells first (consumed ++ begun) second bytes third took more),
      omega (arith, size, counted, ap (λ (b : List ℕ). length b) (sym all), length-append (consumed ++ begun) bytes, length-append consumed begun),
    )

-- FAULTS

pub reads_by : {X : Type 0} (answer : Result X Status) (told status : Status) → answer ≡ Err told → (told ≢ statuses.InputEnded → status ≡ told)
    → (status ≡ told) ⊎ (status ≡ statuses.BadInput) → (a b c : ℕ) → b ≡ a → RoseWhere (answer ≡ Err statuses.ReadFailed) b c
    → RoseWhere (status ≡ statuses.ReadFailed) a c
reads_by answer told status is other either a b c same where_it =
    rose_after (status ≡ statuses.ReadFailed) a b c same
    (rose_as (answer ≡ Err statuses.ReadFailed) (status ≡ statuses.ReadFailed) b c there (back either) where_it)
  where
    there : answer ≡ Err statuses.ReadFailed → status ≡ statuses.ReadFailed
    there e =
        let one : told ≡ statuses.ReadFailed = same_err answer told statuses.ReadFailed is e in
        other (λ ended. let clash : statuses.ReadFailed ≡ statuses.InputEnded = sym one ∙ ended in absurd (cc clash)) ∙ one

    back : (status ≡ told) ⊎ (status ≡ statuses.BadInput) → status ≡ statuses.ReadFailed → answer ≡ Err statuses.ReadFailed
    back (inl it) e = is ∙ ap (λ (s : Status). Err s) (sym it ∙ e)
    back (inr bad) e = let clash : statuses.BadInput ≡ statuses.ReadFailed = sym bad ∙ e in absurd (cc clash)

pub no_fault_of_writes : (tells : Bool) (left : List ℕ) (told status : Status) → EndsTaking tells left told → (status ≡ told) ⊎ (status ≡ statuses.BadInput)
    → status ≢ statuses.WriteFailed
no_fault_of_writes tells left told status ends (inl it) e = (taking_stops tells left told ends).0 (sym it ∙ e)
no_fault_of_writes tells left told status ends (inr bad) e = let clash : statuses.BadInput ≡ statuses.WriteFailed = sym bad ∙ e in absurd (cc clash)

pub no_fault_of_disks : (tells : Bool) (left : List ℕ) (told status : Status) → EndsTaking tells left told → (status ≡ told) ⊎ (status ≡ statuses.BadInput)
    → status ≢ statuses.DiskFailed
no_fault_of_disks tells left told status ends (inl it) e = (taking_stops tells left told ends).1 (sym it ∙ e)
no_fault_of_disks tells left told status ends (inr bad) e = let clash : statuses.BadInput ≡ statuses.DiskFailed = sym bad ∙ e in absurd (cc clash)
