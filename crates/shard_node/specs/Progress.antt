-- What was served of the statements of one request.
use Rattle.std.specs.Prelude.{ℕ, List, ◌++◌, Bool, true, false}
use Rattle.node_model.specs.Service.{Serves}
use Rattle.node_traits.specs.History.{Entry}
use Rattle.node_traits.specs.Letters.{Statement}
use Rattle.node_traits.specs.Outcomes.{Done}

-- So much was served of all these statements, after these entries from a time on: what serves those that are left, after what was made,
-- serves all of them.
pub record GoesOn (shard : ℕ) (namespace : List ℕ) (ordered : Bool) (entries : List Entry) (start : ℕ) (all left : List Statement)
    (dones : List Done) (made : List Entry) (now : ℕ) : Type 0 where
  pub on : (more : List Done) (further : List Entry) (last : ℕ) → Serves shard namespace ordered (entries ++ made) now left more further last
      → Serves shard namespace ordered entries start all (dones ++ more) (made ++ further) last

-- More may be served after it, or it is all that is served in this step.
abbrev pub GoesOrEnds : Bool → (shard : ℕ) (namespace : List ℕ) (ordered : Bool) (entries : List Entry) (start : ℕ) (all left : List Statement)
    (dones : List Done) (made : List Entry) (now : ℕ) → Type 0
GoesOrEnds true shard namespace ordered entries start all left dones made now = GoesOn shard namespace ordered entries start all left dones made now
GoesOrEnds false shard namespace ordered entries start all left dones made now = Serves shard namespace ordered entries start all dones made now
