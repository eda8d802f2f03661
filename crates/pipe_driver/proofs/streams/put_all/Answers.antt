use Rattle.std.proofs.Common.{Bool, ℕ, ◌+◌, ◌-◌, List, length, take, drop, ◌∙◌, arith}
use Rattle.std.proofs.lemmas.List.{take_rest}
use Rattle.std.proofs.lemmas.Result.{err_from_is_err_and}
use Rattle.std.proofs.Math.Seq.{take-add}
use Rattle.outside.specs.Streams.{Put}
use Rattle.outside.proofs.Relations.{put_then}
use Rattle.pipe_driver.proofs.Puts.{put_first, put_no_more}
use Rattle.pipe_driver.proofs.streams.put_all.Goals as goal

-- one piece more was put
put_more : (tells : Bool) (held held' held'' piece : List ℕ) (at n : ℕ) → Put tells held (take at piece) held'
    → Put tells held' (take n (take (length piece - at) (drop at piece))) held'' → Put tells held (take (at + n) piece) held''
put_more tells held held' held'' piece at n before more = rw take-add (put_then tells held (take at piece) held' (take n (drop at piece)) held'' before (rw
    take_rest at more))

pub loop-at-preserved : goal.loop-at-preserved
loop-at-preserved g c = record {
  within = omega (arith, c.in_ok-at.ensures.count, c.loop-at.invariant.within);
  put = put_more g.K.Sink.tells _ _ _ c.args.piece.now c.loop-at.at c.in_ok-at.field-0 c.loop-at.invariant.put c.in_ok-at.ensures.put;
  calm = c.in_ok-at.ensures.calm ∙ c.loop-at.invariant.calm;
  noted = c.put.ensures.noted ∙ c.loop-at.invariant.noted;
  aside = c.put.ensures.aside ∙ c.loop-at.invariant.aside;
}

pub returns-in_err-at-clause-prefix : goal.returns-in_err-at-clause-prefix
returns-in_err-at-clause-prefix g c =
    let p = err_from_is_err_and c.from_residual.result c.from_residual.ensures.1 in
    rw p.1 (put_first g.K.Sink.tells _ c.args.piece.now _ c.loop-at.at
    (put_no_more g.K.Sink.tells _ (take c.loop-at.at c.args.piece.now) _ _ c.loop-at.invariant.put c.in_err-at.ensures.nothing))
