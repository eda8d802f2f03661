use Rattle.std.proofs.Common.{[], ◌∙◌, ◌∷◌, ◌++◌, List, ℕ, length, refl, sym, ap, subst, arith, length-append}
use Rattle.driver_steps.specs.Crashes.{with_notes}
use Rattle.driver_steps.specs.Seats.{seat_since}
use Rattle.script_lines.specs.Words.{HasNone}
use Rattle.script_lines.proofs.Cuts.{none_append}
use Rattle.sim_driver.specs.Scripts.{script_view}
use Rattle.sim_driver.specs.Simulations.{newline}
use Rattle.sim_driver.proofs.Steps.{bytes_more, bytes_next, playing_full}
use Rattle.sim_driver.proofs.lines.play_piece.Goals as goal

pub lines-init : goal.lines-init
lines-init g c = record {
  begun = c.requires.begun;
  len = refl;
  are_open = c.requires.«open»;
  router = refl;
  links = refl;
  sink_calm = refl;
  disks_calm = refl;
  places = refl;
  went = λ asks told since first_router first some parts held_before consumed p n. (since.noted, n, (consumed, refl, p));
}

pub returns-in-Err-clause-stopped : goal.returns-in-Err-clause-stopped
returns-in-Err-clause-stopped g c asks told since first_router first some parts held_before consumed p n =
    let was = c.lines.invariant.went asks told since first_router first some parts held_before consumed p n in (
      was.0,
      was.1,
      record {
        consumed = was.2.0;
        left = c.lines.begun.items ++ c.lines.rest.now;
        whole = was.2.1;
        stopped = playing_full (seat_since g.N.Node.state g.N.Node.steps g.L.Log.facts (with_notes since was.0)) _
            _ first_router first _ was.0 held_before _ was.2.0
            (c.lines.begun.items ++ c.lines.rest.now) (script_view c.lines.script) was.2.2;
      },
    )

pub answer_line-requires-clause-line : goal.answer_line-requires-clause-line
answer_line-requires-clause-line g c = λ κs lives.
    subst (λ (l : List ℕ). HasNone newline l) (sym (c.as_slice.ensures.value ∙ c.in-Ok.ensures.items))
    (none_append newline c.lines.begun.items c.in-Some.first.now c.lines.invariant.begun c.in-Some.ensures.found.first)

pub lines-smaller : goal.lines-smaller
lines-smaller g c =
    let cut = c.in-Some.ensures.found in
    omega (arith, ap (λ (l : List ℕ). length l) cut.whole, length-append c.in-Some.first.now (newline ∷ c.in-Some.behind.now))

pub lines-preserved : goal.lines-preserved
lines-preserved g c = record {
  begun = subst (λ (l : List ℕ). HasNone newline l) (sym c.clear.ensures.items) tt;
  len = c.answer_line.ensures.len ∙ c.lines.invariant.len;
  are_open = c.in-Ok-answer_line.ensures.«open» (λ e. cc);
  router = c.answer_line.ensures.router ∙ c.lines.invariant.router;
  links = c.answer_line.ensures.links ∙ c.lines.invariant.links;
  sink_calm = c.answer_line.ensures.write_fault.1 (λ e. cc) ∙ c.lines.invariant.sink_calm;
  disks_calm = c.answer_line.ensures.disk_fault.1 (λ e. cc) ∙ c.lines.invariant.disks_calm;
  places = c.answer_line.ensures.places ∙ c.lines.invariant.places;
  went = λ asks told since first_router first some parts held_before consumed p n.
      let was = c.lines.invariant.went asks told since first_router first some parts held_before consumed p n in
      let then = c.in-Ok-answer_line.ensures.answered asks told (with_notes since was.0) first_router first some parts held_before was.2.0 was.2.2 was.1 in (
        then.0,
        then.1,
        (
          was.2.0 ++ (c.as_slice.result.now ++ newline ∷ []),
          bytes_more _ was.2.0 c.lines.begun.items c.lines.rest.now c.in-Some.first.now c.in-Some.behind.now c.as_slice.result.now c.clear.new.self.items
              was.2.1
              c.in-Some.ensures.found.whole (c.as_slice.ensures.value ∙ c.in-Ok.ensures.items) c.clear.ensures.items,
          then.2,
        ),
      );
}

pub returns-in-Err-answer_line-clause-stopped : goal.returns-in-Err-answer_line-clause-stopped
returns-in-Err-answer_line-clause-stopped g c asks told since first_router first some parts held_before consumed p n =
    let was = c.lines.invariant.went asks told since first_router first some parts held_before consumed p n in
    let then = c.in-Err-answer_line.ensures.stopped asks told (with_notes since was.0) first_router first some parts held_before was.2.0 c.in-Some.behind.now
    was.2.2 was.1 in (
      then.0,
      then.1,
      record {
        consumed = was.2.0;
        left = c.as_slice.result.now ++ newline ∷ c.in-Some.behind.now;
        whole = bytes_next _ was.2.0 c.lines.begun.items c.lines.rest.now c.in-Some.first.now c.in-Some.behind.now c.as_slice.result.now was.2.1
            c.in-Some.ensures.found.whole (c.as_slice.ensures.value ∙ c.in-Ok.ensures.items);
        stopped = then.2;
      },
    )

pub returns-in-Ok-extend_from_slice-clause-played : goal.returns-in-Ok-extend_from_slice-clause-played
returns-in-Ok-extend_from_slice-clause-played g c asks told since first_router first some parts held_before consumed p n =
    let was = c.lines.invariant.went asks told since first_router first some parts held_before consumed p n in (
      was.0,
      was.1,
      record {
        consumed = was.2.0;
        whole = was.2.1 ∙ ap (λ (l : List ℕ). was.2.0 ++ l) (sym c.in-Ok-extend_from_slice.ensures.items);
        playing = was.2.2;
      },
    )

pub returns-in-Err-extend_from_slice-clause-stopped : goal.returns-in-Err-extend_from_slice-clause-stopped
returns-in-Err-extend_from_slice-clause-stopped g c asks told since first_router first some parts held_before consumed p n =
    let was = c.lines.invariant.went asks told since first_router first some parts held_before consumed p n in (
      was.0,
      was.1,
      record {
        consumed = was.2.0;
        left = c.lines.begun.items ++ c.lines.rest.now;
        whole = was.2.1;
        stopped = playing_full (seat_since g.N.Node.state g.N.Node.steps g.L.Log.facts (with_notes since was.0)) _
            _ first_router first _ was.0 held_before _ was.2.0
            (c.lines.begun.items ++ c.lines.rest.now) (script_view c.lines.script) was.2.2;
      },
    )
