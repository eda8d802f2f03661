-- How a connection ends.
use Rattle.std.specs.Prelude.{◌≡◌, ◌≢◌, ℕ, ◌+◌, ◌<◌, ◌≤◌, Option, Some, None, Bool, IsTrue, List, [], ◌∷◌, ◌++◌, length}
use Rattle.std.proofs.Common.{inl, inr, refl, ap, sym, ◌∙◌, subst, arith, append_assoc, append-nil, length-append}
use Rattle.outside.specs.Streams.{Took}
use Rattle.outside.specs.Devices.{SourceCall, SinkCall, sink_call}
use Rattle.outside.proofs.Relations.{took_then}
use Rattle.opmsg_frames.specs.Requests.{Request}
use Rattle.opmsg_frames.specs.Outline.{FrameFault, outline, partial_outline, message_outline, faulty_outline}
use Rattle.opmsg_frames.specs.Frames.{FramesFrom, ends, fails, goes_on}
use Rattle.node_model.specs.World.{Held, World}
use Rattle.node_model.specs.Schedule.{Round}
use Rattle.node_progress.proofs.Rounds.{piped_requests_are_answered}
use Rattle.driver_steps.specs.Crashes.{Noted}
use Rattle.driver_steps.specs.Seats.{Hosted, SeatView, AreKept, LeaveKept}
use Rattle.driver_steps.specs.Worlds.{NetworkView}
use Rattle.driver_steps.proofs.Seats.{held_kept}
use Rattle.pipe_driver.specs.Buffers.{EndsTaking, at_source_end, at_read_fault}
use Rattle.pipe_driver.specs.Endings.{AllServed, SomeServed, LastCutShort, Cause, input_ended, read_failed, write_failed, disk_failed, no_memory, no_request}
use Rattle.pipe_driver.specs.Endings.{too_long, IsPiped}
use Rattle.pipe_driver.specs.Acknowledgements.{AreCovered}
use Rattle.pipe_driver.specs.Progress.{AreAsked, Serving, CutShort, PutShort, all_replies}
use Rattle.pipe_driver.specs.Rest.{Unframed}
use Rattle.pipe_driver.specs.Rounds.{requests_of, bytes_of, puts_since}
use Rattle.pipe_driver.specs.Schedules.{Came, IsLast}
use Rattle.pipe_driver.specs.Stops.{IsMalformed, StopsServing, at_write_fault, at_disk_fault, at_no_memory}
use Rattle.pipe_driver.specs.declared.status.Status.{Status}
use Rattle.pipe_driver.specs.declared.status.Status.TheVariants as statuses
use Rattle.pipe_driver.proofs.Frames.{bytes_of as bytes_asked, frames_behind}
use Rattle.pipe_driver.proofs.Serving.{cut_between}

-- TAKING

-- nothing more was taken
pub took_no_more : (tells : Bool) (first second third bytes : List ℕ) → Took tells first bytes second → Took tells second [] third
    → Took tells first bytes third
took_no_more tells first second third bytes took none told = took told ∙ ap (λ (b : List ℕ). bytes ++ b) (none told)

-- bytes more were taken and fed, and of all of them these are left
pub took_round : (tells : Bool) (first second third consumed before bytes fed more rest : List ℕ) → Took tells first (consumed ++ before) second
    → Took tells second bytes third → fed ≡ before ++ bytes → consumed ++ fed ≡ more ++ rest → Took tells first (more ++ rest) third
took_round tells first second third consumed before bytes fed more rest took taken grown all told =
    let joined : (consumed ++ before) ++ bytes ≡ more ++ rest = append_assoc consumed before bytes ∙ ap (λ (b : List ℕ). consumed ++ b) (sym grown) ∙ all in
    subst (λ (b : List ℕ). first ≡ b ++ third) joined (took_then tells first (consumed ++ before) second bytes third took taken told)

-- how many bytes these are
pub round_length : (consumed before bytes fed more rest : List ℕ) (taken count : ℕ) → length consumed + length before ≡ taken → length bytes ≡ count
    → fed ≡ before ++ bytes → consumed ++ fed ≡ more ++ rest → length more + length rest ≡ taken + count
round_length consumed before bytes fed more rest taken count was counted grown all =
    let long : length fed ≡ length before + length bytes = ap (λ (b : List ℕ). length b) grown ∙ length-append before bytes in
    let both : length (consumed ++ fed) ≡ length (more ++ rest) = ap (λ (b : List ℕ). length b) all in
    omega (arith, both, length-append consumed fed, length-append more rest, long, was, counted)

-- THE BYTES TAKEN

-- all bytes taken, by what their rest is
record AreFramed (limit count : ℕ) (source : SourceCall) (consumed rest left : List ℕ) (more : List Request) (fault : Option (FrameFault
    × ℕ)) (asked : List Request) : Type 0 where
  took : Took source.tells source.left_before (consumed ++ rest) source.left_after
  most : length (consumed ++ rest) ≤ limit
  frames : FramesFrom 0 (consumed ++ rest) (asked ++ more) left fault
  counted : count ≡ length left

framed : (limit count : ℕ) (source : SourceCall) (consumed rest left : List ℕ) (more : List Request) (fault : Option (FrameFault × ℕ)) (asked : List Request)
    → AreAsked consumed asked → Took source.tells source.left_before (consumed ++ rest) source.left_after → length consumed + length rest ≤ limit
    → FramesFrom (0 + length (bytes_asked asked)) rest more left fault → count ≡ length left
    → AreFramed limit count source consumed rest left more fault asked
framed limit count source consumed rest left more fault asked are took most frames counted = record {
  took = took;
  most = omega (arith, most, length-append consumed rest);
  frames = subst (λ (b : List ℕ). FramesFrom 0 (b ++ rest) (asked ++ more) left fault) (sym are.all)
      (frames_behind 0 asked rest more left fault are.each frames);
  counted = counted;
}

module _ {S : Type 0} (view : S → SeatView) (hosts : Hosted S) (source : SourceCall) (sink : SinkCall) (gives : ℕ → Type 0) (router : ℕ) (noted : List Noted) (first : World) (limit count : ℕ)
    (status : Status) (consumed rest : List ℕ) where
  -- what the journals owed before bytes were put
  abbrev pub Owed : World → List ℕ → Type 0
  Owed last put = IsTrue sink.tells → AreCovered (all_replies first) first noted sink.held_before put last

  -- ALL WAS SERVED

  -- all requests had their rounds
  ended : (network : NetworkView) (replied : ℕ) (known : Status) (fault : Option (FrameFault × ℕ)) → status ≡ known
      → (s : Serving view hosts network gives router first sink.tells noted sink.held_before sink.held_after consumed replied)
      → Took source.tells source.left_before (consumed ++ rest) source.left_after → length consumed + length rest ≤ limit
      → FramesFrom (0 + length (bytes_asked (requests_of s.rounds))) rest [] rest fault → count ≡ length rest
      → ((put : List ℕ) (requests : List Request) → AllServed first put requests s.rounds s.world
      → Cause limit (IsTrue source.tells → source.left_after ≡ []) (consumed ++ rest) fault (AllServed first put requests s.rounds s.world)
      (SomeServed first gives router put requests s.rounds s.world) (LastCutShort first put requests s.rounds s.world) known)
      → IsPiped source sink gives router (AreKept view hosts.seats) (LeaveKept view hosts) Owed first limit status count
  ended network replied known fault is s took most frames counted cause =
      let f = framed limit count source consumed rest rest [] fault (requests_of s.rounds) s.asked took most frames counted in
      record {
        taken = consumed ++ rest;
        put = bytes_of (puts_since first s.world);
        requests = requests_of s.rounds ++ [];
        left = rest;
        fault = fault;
        rounds = s.rounds;
        end = s.world;
        took = f.took;
        put_all = s.put;
        frames = f.frames;
        rest_left = f.counted;
        most = f.most;
        one = s.one;
        cause = subst (λ (n : Status). Cause limit (IsTrue source.tells → source.left_after ≡ []) (consumed ++ rest) fault
            (AllServed first (bytes_of (puts_since first s.world)) (requests_of s.rounds ++ []) s.rounds s.world)
            (SomeServed first gives router (bytes_of (puts_since first s.world)) (requests_of s.rounds ++ []) s.rounds s.world)
            (LastCutShort first (bytes_of (puts_since first s.world)) (requests_of s.rounds ++ []) s.rounds s.world) n) (sym is)
            (cause (bytes_of (puts_since first s.world)) (requests_of s.rounds ++ [])
            (record {
              events = s.events;
              next = s.next;
              asked = append-nil (requests_of s.rounds);
              served = s.pipes;
              answered = λ none. piped_requests_are_answered first s.rounds s.events s.world s.next s.begins s.pipes none;
              replied = refl;
            }));
        files = held_kept view hosts.seats s.world.nodes s.stands.nodes;
        last = s.world;
        is_last = inl refl;
        crashes = s.stands.crashes;
        acknowledged = s.covered;
      }

  -- the input is at its limit, and the rest is less than a whole message
  pub ended_at_limit : (network : NetworkView) (replied : ℕ) → status ≡ statuses.InputTooLong
      → Serving view hosts network gives router first sink.tells noted sink.held_before sink.held_after consumed replied
      → Took source.tells source.left_before (consumed ++ rest) source.left_after → length consumed + length rest ≡ limit
      → outline rest ≡ partial_outline → count ≡ length rest
      → IsPiped source sink gives router (AreKept view hosts.seats) (LeaveKept view hosts) Owed first limit status count
  ended_at_limit network replied is s took most partial counted =
      let full : length (consumed ++ rest) ≡ limit = omega (arith, most, length-append consumed rest) in
      ended network replied statuses.InputTooLong None is s took (omega (arith, most)) (ends _ rest partial) counted
      (λ put requests all. too_long full refl all)

  -- the rest begins no message
  ended_malformed : (network : NetworkView) (replied : ℕ) → status ≡ statuses.BadInput
      → Serving view hosts network gives router first sink.tells noted sink.held_before sink.held_after consumed replied
      → Took source.tells source.left_before (consumed ++ rest) source.left_after → length consumed + length rest ≤ limit
      → IsMalformed rest → count ≡ length rest
      → IsPiped source sink gives router (AreKept view hosts.seats) (LeaveKept view hosts) Owed first limit status count
  ended_malformed network replied is s took most malformed counted =
      let place : ℕ = 0 + length (bytes_asked (requests_of s.rounds)) in
      ended network replied statuses.BadInput (Some (malformed.0, place)) is s took most (fails place rest malformed.0 malformed.1) counted
      (λ put requests all. no_request refl all)

  -- SOME WAS SERVED

  last_with : (known : Status) → status ≡ known → (P Q : World → Type 0) (end last : World) → IsLast known P end last → (P last → Q last)
      → IsLast status Q end last
  last_with known is P Q end last (inl same) on = inl same
  last_with known is P Q end last (inr (disk, further, e, more)) on = inr (is ∙ disk, on further, e, more)

  -- some requests had their rounds, and one more may be under way
  ended_cut : (known : Status) → status ≡ known → (s : CutShort view hosts gives router first sink.tells noted sink.held_before sink.held_after consumed known)
      → Took source.tells source.left_before (consumed ++ rest) source.left_after → length consumed + length rest ≤ limit
      → Unframed rest count
      → ((put : List ℕ) (requests : List Request) (fault : Option (FrameFault × ℕ)) → SomeServed first gives router put requests s.rounds s.end
      → Cause limit (IsTrue source.tells → source.left_after ≡ []) (consumed ++ rest) fault (AllServed first put requests s.rounds s.end)
      (SomeServed first gives router put requests s.rounds s.end) (LastCutShort first put requests s.rounds s.end) known)
      → IsPiped source sink gives router (AreKept view hosts.seats) (LeaveKept view hosts) Owed first limit status count
  ended_cut known is s took most unframed cause =
      let asked : List Request = requests_of s.rounds ++ s.under_way in
      let found = unframed (0 + length (bytes_asked asked)) in
      let f = framed limit count source consumed rest found.1 found.0 found.2 asked s.asked took most found.3 found.4 in
      record {
        taken = consumed ++ rest;
        put = bytes_of (puts_since first s.whole);
        requests = asked ++ found.0;
        left = found.1;
        fault = found.2;
        rounds = s.rounds;
        end = s.end;
        took = f.took;
        put_all = s.put;
        frames = f.frames;
        rest_left = f.counted;
        most = f.most;
        one = s.one;
        cause = subst (λ (n : Status). Cause limit (IsTrue source.tells → source.left_after ≡ []) (consumed ++ rest) found.2
            (AllServed first (bytes_of (puts_since first s.whole)) (asked ++ found.0) s.rounds s.end)
            (SomeServed first gives router (bytes_of (puts_since first s.whole)) (asked ++ found.0) s.rounds s.end)
            (LastCutShort first (bytes_of (puts_since first s.whole)) (asked ++ found.0) s.rounds s.end) n) (sym is)
            (cause (bytes_of (puts_since first s.whole)) (asked ++ found.0) found.2
            (record { under_way = s.under_way; others = found.0; whole = s.whole; asked = refl; came = s.came; replied = refl }));
        files = s.kept;
        last = s.last;
        is_last = last_with known is (λ w. Came first gives router s.rounds s.under_way s.whole w)
            (λ w. SomeServed first gives router (bytes_of (puts_since first s.whole)) (asked ++ found.0) s.rounds w) s.end s.last s.is_last
            (λ came. record { under_way = s.under_way; others = found.0; whole = s.whole; asked = refl; came = came; replied = refl });
        crashes = s.crashes;
        acknowledged = s.covered;
      }

  -- the replies of the last round were put in part
  ended_short : status ≡ statuses.WriteFailed → (s : PutShort view hosts gives router first sink.tells noted sink.held_before sink.held_after consumed)
      → Took source.tells source.left_before (consumed ++ rest) source.left_after → length consumed + length rest ≤ limit
      → Unframed rest count
      → IsPiped source sink gives router (AreKept view hosts.seats) (LeaveKept view hosts) Owed first limit status count
  ended_short is s took most unframed =
      let rounds : List Round = s.earlier ++ s.last ∷ [] in
      let asked : List Request = requests_of rounds in
      let found = unframed (0 + length (bytes_asked asked)) in
      let f = framed limit count source consumed rest found.1 found.0 found.2 asked s.asked took most found.3 found.4 in
      record {
        taken = consumed ++ rest;
        put = s.part;
        requests = asked ++ found.0;
        left = found.1;
        fault = found.2;
        rounds = rounds;
        end = s.end;
        took = f.took;
        put_all = s.put;
        frames = f.frames;
        rest_left = f.counted;
        most = f.most;
        one = s.one;
        cause = subst (λ (n : Status). Cause limit (IsTrue source.tells → source.left_after ≡ []) (consumed ++ rest) found.2
            (AllServed first s.part (asked ++ found.0) rounds s.end) (SomeServed first gives router s.part (asked ++ found.0) rounds s.end)
            (LastCutShort first s.part (asked ++ found.0) rounds s.end) n) (sym is)
            (write_failed (record {
              earlier = s.earlier;
              last = s.last;
              before = s.before;
              events = s.events;
              more = s.more;
              next = s.next;
              others = found.0;
              all = refl;
              asked = refl;
              served = s.served;
              round = s.round;
              earlier_put = s.earlier_put;
              in_part = s.in_part;
            }));
        files = s.kept;
        last = s.end;
        is_last = inl refl;
        crashes = s.crashes;
        acknowledged = s.covered;
      }

  -- memory ran out, between two rounds
  pub ended_full : (network : NetworkView) (replied : ℕ) → status ≡ statuses.OutOfMemory
      → Serving view hosts network gives router first sink.tells noted sink.held_before sink.held_after consumed replied
      → Took source.tells source.left_before (consumed ++ rest) source.left_after → length consumed + length rest ≤ limit
      → outline rest ≡ partial_outline → count ≡ length rest
      → IsPiped source sink gives router (AreKept view hosts.seats) (LeaveKept view hosts) Owed first limit status count
  ended_full network replied is s took most partial counted =
      ended_cut statuses.OutOfMemory is
      (cut_between view hosts gives router first sink.tells noted sink.held_before sink.held_after consumed network replied s) took most
      (λ place. ([], rest, None, ends place rest partial, counted)) (λ put requests fault some. no_memory some)

  -- no more is taken, and the rest is less than a whole message
  pub ended_taking : (network : NetworkView) (replied : ℕ) (told : Status) → status ≡ told → EndsTaking source.tells source.left_after told
      → Serving view hosts network gives router first sink.tells noted sink.held_before sink.held_after consumed replied
      → Took source.tells source.left_before (consumed ++ rest) source.left_after → length (consumed ++ rest) < limit
      → outline rest ≡ partial_outline → count ≡ length rest
      → IsPiped source sink gives router (AreKept view hosts.seats) (LeaveKept view hosts) Owed first limit status count
  ended_taking network replied told is (at_source_end at_end) s took below partial counted =
      ended network replied statuses.InputEnded None is s took (omega (arith, below, length-append consumed rest)) (ends _ rest partial) counted
      (λ put requests all. input_ended at_end below refl all)
  ended_taking network replied told is at_read_fault s took below partial counted =
      ended network replied statuses.ReadFailed None is s took (omega (arith, below, length-append consumed rest)) (ends _ rest partial) counted
      (λ put requests all. read_failed below refl all)

  -- what begins with no request is all that is left
  malformed_frames : (place : ℕ) (bytes : List ℕ) (requests : List Request) (left : List ℕ) (fault : Option (FrameFault × ℕ)) (known : FrameFault)
      → FramesFrom place bytes requests left fault → outline bytes ≡ faulty_outline known → left ≡ bytes
  malformed_frames place bytes requests left fault known (ends at all partial) malformed =
      let clash : partial_outline ≡ faulty_outline known = sym partial ∙ malformed in absurd (cc clash)
  malformed_frames place bytes requests left fault known (fails at all other told) malformed = refl
  malformed_frames place bytes requests left fault known (goes_on at all behind request more over later first others) malformed =
      let clash : message_outline (length request.bytes) ≡ faulty_outline known = sym first.whole ∙ malformed in absurd (cc clash)

  malformed_left : IsMalformed rest → Unframed rest count → count ≡ length rest
  malformed_left malformed unframed =
      let found = unframed 0 in
      found.4 ∙ ap (λ (b : List ℕ). length b) (malformed_frames 0 rest found.0 found.1 found.2 malformed.0 found.3 malformed.1)

  -- no further request is served
  pub ended_serving : (network : NetworkView) (told : Status) → status ≡ told
      → StopsServing told view hosts network gives router first sink.tells noted sink.held_before sink.held_after consumed rest
      → Took source.tells source.left_before (consumed ++ rest) source.left_after → length consumed + length rest ≤ limit → Unframed rest count
      → IsPiped source sink gives router (AreKept view hosts.seats) (LeaveKept view hosts) Owed first limit status count
  ended_serving network told is (inl (bad, malformed, (replied, s))) took most unframed =
      ended_malformed network replied (is ∙ bad) s took most malformed (malformed_left malformed unframed)
  ended_serving network told is (inr (at_write_fault s)) took most unframed = ended_short is s took most unframed
  ended_serving network told is (inr (at_disk_fault s)) took most unframed =
      ended_cut statuses.DiskFailed is s took most unframed (λ put requests fault some. disk_failed some)
  ended_serving network told is (inr (at_no_memory s)) took most unframed =
      ended_cut statuses.OutOfMemory is s took most unframed (λ put requests fault some. no_memory some)

-- that is no status of writing or of disks
pub taking_stops : (tells : Bool) (left : List ℕ) (status : Status) → EndsTaking tells left status
    → (status ≢ statuses.WriteFailed) × (status ≢ statuses.DiskFailed)
taking_stops tells left status (at_source_end at_end) = (λ e. cc, λ e. cc)
taking_stops tells left status at_read_fault = (λ e. cc, λ e. cc)

-- a sink whose bytes and count of faults are the same, before and after
pub same_sink : {K : Type 0} (tells : Bool) (held : K → List ℕ) (faults : K → ℕ) (before before' after after' : K) → held before ≡ held before'
    → faults before ≡ faults before' → held after ≡ held after' → faults after ≡ faults after'
    → sink_call tells held faults before after ≡ sink_call tells held faults before' after'
same_sink tells held faults before before' after after' one two three four = rw (one, two, three, four) refl

pub piped_by : (source : SourceCall) (sink sink' : SinkCall) (gives : ℕ → Type 0) (router : ℕ) (kept : List Held → Type 0) (leaves : World → Type 0)
    (owed : World → List ℕ → Type 0) (first : World) (limit : ℕ) (status : Status) (rest : ℕ) → sink ≡ sink'
    → IsPiped source sink gives router kept leaves owed first limit status rest → IsPiped source sink' gives router kept leaves owed first limit status rest
piped_by source sink sink' gives router kept leaves owed first limit status rest same p =
    subst (λ (k : SinkCall). IsPiped source k gives router kept leaves owed first limit status rest) same p

-- the same with another view of what the journals store
pub piped_with : (source : SourceCall) (sink : SinkCall) (gives : ℕ → Type 0) (router : ℕ) (kept plain : List Held → Type 0) (leaves leaves' : World → Type 0)
    (owed owed' : World → List ℕ → Type 0) (first : World) (limit : ℕ) (status : Status) (rest : ℕ)
    → IsPiped source sink gives router kept leaves owed first limit status rest
    → ((nodes : List Held) → kept nodes → plain nodes) → ((w : World) → leaves w → leaves' w) → ((w : World) (put : List ℕ) → leaves w → owed w put → owed' w put)
    → IsPiped source sink gives router plain leaves' owed' first limit status rest
piped_with source sink gives router kept plain leaves leaves' owed owed' first limit status rest p told weaker pays = record {
  taken = p.taken;
  put = p.put;
  requests = p.requests;
  left = p.left;
  fault = p.fault;
  rounds = p.rounds;
  end = p.end;
  took = p.took;
  put_all = p.put_all;
  frames = p.frames;
  rest_left = p.rest_left;
  most = p.most;
  one = p.one;
  cause = p.cause;
  files = told p.end.nodes p.files;
  last = p.last;
  is_last = p.is_last;
  crashes = weaker p.last p.crashes;
  acknowledged = pays p.last p.put p.crashes p.acknowledged;
}
