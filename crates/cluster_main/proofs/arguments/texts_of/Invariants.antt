use Rattle.std.proofs.Common.{◌≡◌, ◌++◌, map, string_bytes}
use Rattle.std.specs.Vec.Iter.{into_iter_items}
use Rattle.cluster_main.proofs.arguments.texts_of.Given as goal

-- what was copied, and what is left
abbrev pub invariant-loop-arg : goal.invariant-loop-arg
invariant-loop-arg l = l.words.items ++ map string_bytes (into_iter_items l.arg-iterator) ≡ map string_bytes (into_iter_items l.fn.args)
