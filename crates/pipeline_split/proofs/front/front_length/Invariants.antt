-- The stages that were passed are at the front, and the others follow.
use Rattle.std.proofs.Common.{◌≡◌, ◌++◌, drop, map, take}
use Rattle.pipeline_lang.specs.View.{stage_of}
use Rattle.pipeline_model.specs.Split.{behind_front, front}
use Rattle.pipeline_split.proofs.front.front_length.Given as goal

abbrev pub invariant-loop-i : goal.invariant-loop-i
invariant-loop-i l = record {
  front : map stage_of (take l.i l.stages) ++ front (map stage_of (drop l.i l.stages)) ≡ front (map stage_of l.stages);
  behind : behind_front (map stage_of (drop l.i l.stages)) ≡ behind_front (map stage_of l.stages);
}
