use Rattle.std.proofs.Common.{◌≡◌, ◌≤◌, take, length, vec_len, arith, refl, sym, subst, rules}
use Rattle.outside.specs.Streams.{Took}
use Rattle.pipe_driver.specs.Buffers.{at_source_end, at_read_fault}
use Rattle.pipe_driver.proofs.Buffers.{front_taken}
use Rattle.pipe_driver.proofs.Counts.{it_rose}
use Rattle.pipe_driver.proofs.streams.take_more.Goals as goal

pub returns-in-Ok-clause-taken : goal.returns-in-Ok-clause-taken
returns-in-Ok-clause-taken g c =
    let fits : c.in-Ok.count ≤ length c.take.new.buf = omega (arith, c.in-Ok.ensures.count, c.in-Ok.ensures.len) in
    let below : c.in-Ok.count ≤ vec_len c.args.piece.now =
    omega (arith, c.in-Ok.ensures.count, c.split_at_mut-front.ensures.front_len, c.requires.fits) in
    record {
      took = subst (λ l. Took g.S.Source.tells (g.S.Source.left c.args.input.now) l (g.S.Source.left c.take.new.self))
          (sym (front_taken c.in-Ok.count c.args.piece.now.len c.take.new.buf _ _ fits below)) c.in-Ok.ensures.took;
      some = c.if-count-gt0.true;
    }

pub returns-in-Ok-2-clause-taken : goal.returns-in-Ok-2-clause-taken
returns-in-Ok-2-clause-taken g c =
    let one : c.in-Ok-2.field-0 ≡ c.in-Ok.count = cc in
    let none : c.in-Ok-2.field-0 ≡ 0 = omega (arith, one, c.if-count-gt0.false) in (
      subst (λ n. Took g.S.Source.tells (g.S.Source.left c.args.input.now) (take n c.take.new.buf) (g.S.Source.left c.take.new.self))
          none c.in-Ok-2.ensures.took,
      at_source_end (search rules),
    )

pub returns-in-Err-clause-taken : goal.returns-in-Err-clause-taken
returns-in-Err-clause-taken g c = (c.in-Err.ensures.nothing, at_read_fault)

pub returns-in-Err-clause-fault : goal.returns-in-Err-clause-fault
returns-in-Err-clause-fault g c = it_rose _ _ _ refl c.in-Err.ensures.cause
