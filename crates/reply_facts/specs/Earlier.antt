-- How requests, replies and entries relate to each other.
use Rattle.std.specs.Prelude.{◌≡◌, ◌<◌, List, [], ◌∷◌, Bool, false, ◌&&◌, Option, Some, None}
use Rattle.bson_model.specs.Tree.{Fields}
use Rattle.std.specs.Str.{bytes_eq}
use Rattle.value_model.specs.Keys.{inside_some}
use Rattle.pipeline_model.specs.Split.{span_of_stages}
use Rattle.command_model.specs.Reading.{Reading}
use Rattle.history_model.specs.History.{Entry, IsIn, key_written}
use Rattle.reply_model.specs.Exchanges.{Asked, Answered}

-- the request was taken, and this is its reply
pub record IsTold (asked : List Asked) (answered : List Answered) (a : Asked) (t : Answered) : Type 0 where
  pub taken : IsIn a asked
  pub told : IsIn t answered
  pub own : a.id ≡ t.id

-- its router returned this in the life in which it took the request, before that came
pub record WasToldBefore (answered : List Answered) (a : Asked) (t : Answered) : Type 0 where
  pub told : IsIn t answered
  pub router : t.id.router ≡ a.id.router
  pub life : t.id.life ≡ a.id.life
  pub before : t.step < a.came

-- its router took this one in the same life, before it
pub record WasTakenBefore (asked : List Asked) (a b : Asked) : Type 0 where
  pub taken : IsIn b asked
  pub router : b.id.router ≡ a.id.router
  pub life : b.id.life ≡ a.id.life
  pub before : b.came < a.came

-- the document, if there is one
abbrev pub found : Option Fields → List Fields
found None = []
found (Some document) = document ∷ []

-- the entry writes in the collection that is read, under a key that may be in the span of the stages
abbrev pub touches : Reading → Entry → Bool
touches reading e =
    bytes_eq e.namespace reading.namespace && elim (key_written e.operation) [ None ↦ false | Some key ↦ inside_some (span_of_stages reading.stages) key ]
