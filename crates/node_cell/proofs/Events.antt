-- What a step gives out was seen, once its event is one of the run.
use Rattle.std.proofs.Common.{◌≡◌, ℕ, ◌+◌, ◌≤◌, List, [], ◌∷◌, ◌++◌, map, length}
use Rattle.std.proofs.Common.{Bool, true, false, refl, sym, ap, ◌∙◌, subst, arith, append_assoc}
use Rattle.std.specs.Prelude.{Some, if◌then◌else◌}
use Rattle.std.specs.List.{slice_get, AllByRecursion}
use Rattle.std.proofs.lemmas.Bool.Decides.{nat_tests}
use Rattle.node_model.specs.Exchanges.{Answered}
use Rattle.node_model.specs.Letters.{Letter, Input, client_input, letter_input, moment_input, opened_input, Reply}
use Rattle.node_model.specs.World.{World, IsRouter, Event, client_event, deliver_event, moment_event, opened_event, comes, delivers, passes}
use Rattle.node_model.specs.World.{begins as was_opened, answered_by}
use Rattle.node_traits.specs.Effects.{puts_of, put_by}
use Rattle.node_traits.specs.declared.outputs.ToLink.{ToLink}
use Rattle.driver_steps.specs.declared.seat.Seat.{Seat}
use Rattle.driver_steps.specs.Crashes.{Noted}
use Rattle.driver_steps.specs.Moves.{IsEvent}
use Rattle.driver_steps.specs.Worlds.{puts_given}
use Rattle.group_steps.specs.declared.group.Part.{Part}
use Rattle.history_model.proofs.Lists.{all_append, all_weaken}
use Rattle.node_cell.specs.declared.view.Taken.{Taken}
use Rattle.node_cell.specs.declared.view.View.{View}
use Rattle.node_cell.specs.Courses.{NodeFacts, IsStepOn, Saw, WasSafe, WasSent, WasTaken, WasTold}
use Rattle.node_cell.specs.Standing.{AreAmong, IsKnown}
use Rattle.node_cell.specs.Views.{Sights, holder, view_of}
use Rattle.node_cell.proofs.Lists.{all_at, all_map, all_unmap, get_front, get_seam}
use Rattle.node_cell.proofs.Lists.{sits}

-- WHAT WAS SEEN

-- a reply is what is put for one of these answers
record IsPutIn (answered : List Answered) (now : ℕ) (r : ToLink) : Type 0 where
  which : ℕ
  answer : Answered
  here : slice_get answered which ≡ Some answer
  step : answer.step ≡ now
  put : puts_given (answer ∷ []) ≡ r ∷ []

abbrev answer_by : (now : ℕ) → Reply → Answered
answer_by now r = record { id = r.id; link = r.link; number = r.number; request = r.request; step = now; time = r.time; document = r.document }

abbrev link_by : Reply → ToLink
link_by r = record { link = r.link; bytes = put_by r }

put_more : (now : ℕ) (before : List Answered) (r : Reply) (more : List Answered) (puts : List ToLink)
    → AllByRecursion (λ x. IsPutIn (before ++ answer_by now r ∷ more) now x) puts → (silent : Bool) → r.request.more ≡ silent
    → AllByRecursion (λ x. IsPutIn (before ++ answer_by now r ∷ more) now x) (if silent then puts else link_by r ∷ puts)
put_more now before r more puts rest true is = rest
put_more now before r more puts rest false is = (
  record {
    which = length before;
    answer = answer_by now r;
    here = get_seam before (answer_by now r) more;
    step = refl;
    put = ap (λ (c : Bool). if c then [] else link_by r ∷ []) is;
  },
  rest,
)

puts_in : (now : ℕ) (before : List Answered) (replies : List Reply)
    → AllByRecursion (λ x. IsPutIn (before ++ answered_by now replies) now x) (puts_of replies)
puts_in now before [] = tt
puts_in now before (r ∷ replies) =
    let all : (before ++ answer_by now r ∷ []) ++ answered_by now replies ≡ before ++ answer_by now r ∷ answered_by now replies =
    append_assoc before (answer_by now r ∷ []) (answered_by now replies) in
    put_more now before r (answered_by now replies) (puts_of replies)
    (subst (λ (l : List Answered). AllByRecursion (λ x. IsPutIn l now x) (puts_of replies)) all (puts_in now (before ++ answer_by now r ∷ []) replies))
    r.request.more refl

-- an event stays a step on its input while more messages are sent
still_on : (w v : World) (mail : List Letter) → v.sent ≡ w.sent ++ mail → (e : Event) (at : ℕ) (i : Input) → IsStepOn w e at i → IsStepOn v e at i
still_on w v mail more (client_event to link number request) at i on = on
still_on w v mail more (deliver_event to which) at i (there, (m, got, is)) =
    (there, (m, ap (λ (l : List Letter). slice_get l which) more ∙ get_front w.sent mail which m got, is))
still_on w v mail more (moment_event to moment) at i on = on
still_on w v mail more (opened_event to) at i on = on

-- an event that a step on an input is
pub record KnownEvent (w : World) (at : ℕ) (i : Input) : Type 0 where
  pub event : Event
  pub is : IsEvent w at i event
  pub on : IsStepOn w event at i

pub event_of : (routers : ℕ) (w : World) (at : ℕ) (seen : List Letter) → AllByRecursion (λ m. WasSent w m) seen → (routers ≤ at → IsRouter w.nodes at)
    → (i : Input) → IsKnown routers seen at i → KnownEvent w at i
event_of routers w at seen all router (client_input link number request) known = record {
  event = client_event at link number request;
  is = λ v moves. comes w v at link number request (router known) moves;
  on = (refl, refl);
}
event_of routers w at seen all router (letter_input m) known =
    let sent : WasSent w m = all_at (λ m. WasSent w m) seen known.1.0 m known.1.1 all in
    record {
      event = deliver_event at sent.0;
      is = λ v moves. delivers w v at sent.0 m sent.1 known.0 moves;
      on = (refl, (m, sent.1, refl));
    }
event_of routers w at seen all router (moment_input moment) known = record {
  event = moment_event at moment;
  is = λ v moves. passes w v at moment moves;
  on = (refl, refl);
}
event_of routers w at seen all router opened_input known = record {
  event = opened_event at;
  is = λ v moves. was_opened w v at moves;
  on = (refl, refl);
}

pub sent_on : (w v : World) (mail : List Letter) → v.sent ≡ w.sent ++ mail → (m : Letter) → WasSent w m → WasSent v m
sent_on w v mail more m s = (s.0, ap (λ (l : List Letter). slice_get l s.0) more ∙ get_front w.sent mail s.0 m s.1)

-- what the step with a number at a place gives out
abbrev pub part_seen : {N L M I : Type 0} → (number at : ℕ) → Part M I → View N L M I
part_seen number at p =
    view_of [] [] p.outputs.mail (map (λ r. (number, r)) p.outputs.replies) (record { number = number; at = at; input = p.input.value } ∷ []) []

-- all that one view has seen and another has, with these nodes
pub saw_more : {N L M I : Type 0} (f : NodeFacts N L M I) (places : List (List ℕ)) (first : ℕ) (events : List Event) (marks : List Noted) (w : World)
    (held : List (ℕ × Seat N L)) (board : List Sights) (u v : View N L M I) → Saw f places first events marks w u → Saw f places first events marks w v
    → Saw f places first events marks w (view_of held board (u.seen ++ v.seen) (u.told ++ v.told) (u.taken ++ v.taken) (u.safe ++ v.safe))
saw_more f places first events marks w held board u v a b = record {
  seen = all_append (λ m. WasSent w (f.letter m)) u.seen v.seen a.seen b.seen;
  told = all_append (λ r. WasTold first w r) u.told v.told a.told b.told;
  taken = all_append (λ t. WasTaken f.meaning events w t) u.taken v.taken a.taken b.taken;
  safe = all_append (λ s. WasSafe places first marks s) u.safe v.safe a.safe b.safe;
}

pub holder_alone : {S : Type 0} (k : ℕ) (s : S) (held : List (ℕ × S)) → held ≡ (k, s) ∷ [] → holder k held ≡ Some s
holder_alone {S} k s held is =
    let here : holder k ((k, s) ∷ []) ≡ Some s = grind (arith, nat_tests) in
    ap (λ (l : List (ℕ × S)). holder k l) is ∙ here

module _ {N L M I : Type 0} (f : NodeFacts N L M I) (places : List (List ℕ)) (first : ℕ) (events : List Event) (marks : List Noted) (e : Event) (w v : World)
    (mail : List Letter) (more : List Answered) (sent : v.sent ≡ w.sent ++ mail) (answered : v.answered ≡ w.answered ++ more) where
  still_told : (r : ℕ × ToLink) → WasTold first w r → WasTold first v r
  still_told r t = record {
    which = t.which;
    answer = t.answer;
    here = ap (λ (l : List Answered). slice_get l t.which) answered ∙ get_front w.answered more t.which t.answer t.here;
    step = t.step;
    put = t.put;
  }

  still_taken : (t : Taken I) → WasTaken f.meaning events w t → WasTaken f.meaning (events ++ e ∷ []) v t
  still_taken t was = record {
    event = was.event;
    here = get_front events (e ∷ []) t.number was.event was.here;
    is = still_on w v mail sent was.event t.at (f.meaning t.input) was.is;
  }

  pub still_saw : (u : View N L M I) → Saw f places first events marks w u → Saw f places first (events ++ e ∷ []) marks v u
  still_saw u s = record {
    seen = all_weaken (λ m. WasSent w (f.letter m)) (λ m. WasSent v (f.letter m)) u.seen (λ m x. sent_on w v mail sent (f.letter m) x) s.seen;
    told = all_weaken (λ r. WasTold first w r) (λ r. WasTold first v r) u.told still_told s.told;
    taken = all_weaken (λ t. WasTaken f.meaning events w t) (λ t. WasTaken f.meaning (events ++ e ∷ []) v t) u.taken still_taken s.taken;
    safe = s.safe;
  }

  -- what the step itself gave out
  pub now_saw : (at : ℕ) (p : Part M I) (replies : List Reply) → mail ≡ map f.letter p.outputs.mail → p.outputs.replies ≡ puts_of replies
      → more ≡ answered_by w.now replies → w.now ≡ first + length events → IsStepOn w e at (f.meaning p.input.value)
      → Saw f places first (events ++ e ∷ []) marks v (part_seen (length events) at p)
  now_saw at p replies out told by now on =
      let all_sent : v.sent ≡ w.sent ++ map f.letter p.outputs.mail = sent ∙ ap (λ (l : List Letter). w.sent ++ l) out in
      let all_answered : v.answered ≡ w.answered ++ answered_by w.now replies = answered ∙ ap (λ (l : List Answered). w.answered ++ l) by in
      let puts : AllByRecursion (λ r. IsPutIn (w.answered ++ answered_by w.now replies) w.now r) p.outputs.replies =
      subst (λ (l : List ToLink). AllByRecursion (λ r. IsPutIn (w.answered ++ answered_by w.now replies) w.now r) l) (sym told) (puts_in w.now w.answered replies) in
      record {
        seen = all_unmap f.letter (λ m. WasSent v m) p.outputs.mail
            (subst (λ (l : List Letter). AreAmong (map f.letter p.outputs.mail) l) (sym all_sent) (sits w.sent (map f.letter p.outputs.mail)));
        told = all_map (λ r. (length events, r)) (λ r. WasTold first v r) p.outputs.replies
            (all_weaken (λ r. IsPutIn (w.answered ++ answered_by w.now replies) w.now r) (λ r. WasTold first v (length events, r))
            p.outputs.replies (λ r put. record {
              which = put.which;
              answer = put.answer;
              here = ap (λ (l : List Answered). slice_get l put.which) all_answered ∙ put.here;
              step = put.step ∙ now;
              put = put.put;
            }) puts);
        taken = (record { event = e; here = get_seam events e []; is = still_on w v mail sent e at (f.meaning p.input.value) on }, tt);
        safe = tt;
      }
