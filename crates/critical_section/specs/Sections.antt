-- What a critical section covers, and what waits for its end (MongoDB manual, "Chunk Migration Procedure").
use Rattle.std.specs.Prelude.{ℕ, List, Bool, true, ◌&&◌, nat_lt}
use Rattle.std.specs.List.{list_any}
use Rattle.std.specs.Ordering.{is_lt}
use Rattle.std.specs.Str.{bytes_eq}
use Rattle.value_model.specs.Keys as keys
use Rattle.value_model.specs.Keys.{Range, range_span, point_span, inside, order_bounds}
use Rattle.value_compare.specs.Spans.{span_of}
use Rattle.value_compare.specs.declared.span.Span.{Span}
use Rattle.critical_section.specs.declared.parked.Parked.{Parked}
use Rattle.critical_section.specs.declared.section.Section.{Section}
use Rattle.critical_section.specs.declared.section.Want.{Want}
use Rattle.critical_section.specs.declared.section.Want.TheVariants.{Write, Read}

-- a section: the namespace and the range that it covers, its time, and the commands that wait, in the order in which they came
pub record View (C : Type 0) : Type 0 where
  pub namespace : List ℕ
  pub range : Range
  pub time : ℕ
  pub parked : List (Parked C)

-- they overlap by their bounds: a key is in the range; of two ranges each begins below the other's end
abbrev pub overlap : Range → keys.Span → Bool
overlap range (point_span key) = inside (range_span range) key
overlap range (range_span other) = is_lt (order_bounds range.min other.max) && is_lt (order_bounds other.min range.max)

-- a write waits, and a read above the time of the section
abbrev pub must_wait : ℕ → Want → Bool
must_wait time Write = true
must_wait time (Read at) = nat_lt time at.0

module _ {C : Type 0} where
  abbrev pub section_view : Section C → View C
  section_view section = record { namespace = section.namespace; range = section.range; time = section.time.0; parked = section.parked.items }

  abbrev pub covers : View C → List ℕ → keys.Span → Want → Bool
  covers section namespace span want = bytes_eq section.namespace namespace && (overlap section.range span && must_wait section.time want)

  -- one of the spans is covered
  abbrev pub covers_one_of : View C → List ℕ → List Span → Want → Bool
  covers_one_of section namespace spans want = list_any (λ span. covers section namespace (span_of span) want) spans
