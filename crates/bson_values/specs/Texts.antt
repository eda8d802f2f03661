-- The bytes of a text or a name.
use Rattle.std.specs.Prelude.{ℕ, List, take, string_bytes, box_value}
use Rattle.bson_values.specs.declared.text.Held.{Held}
use Rattle.bson_values.specs.declared.text.HeldName.{HeldName}
use Rattle.bson_values.specs.declared.text.Short.{Short as ShortText}
use Rattle.bson_values.specs.declared.text.Held.TheVariants.{Short, Long}
use Rattle.bson_values.specs.declared.text.HeldName.TheVariants.{Short as ShortBytes, Long as LongBytes}

-- the bytes that are used
abbrev pub short_bytes : {N : ℕ} → ShortText N → List ℕ
short_bytes s = take s.length s.bytes

abbrev pub held_bytes : Held → List ℕ
held_bytes (Short s) = short_bytes s
held_bytes (Long s) = string_bytes s

abbrev pub name_bytes : HeldName → List ℕ
name_bytes (ShortBytes s) = short_bytes s.bytes
name_bytes (LongBytes s) = string_bytes (box_value s)
