-- Who sends requests, and what is requested.
use Rattle.std.specs.Prelude.{ℕ, List, [], ◌∷◌, Option, Some, None, true}
use Rattle.chunk_model.specs.Tables.{Table}
use Rattle.node_model.specs.Letters.{Letter}
use Rattle.node_model.specs.States.{Router}
use Rattle.protocol_model.specs.Messages.{letter_of}
use Rattle.protocol_model.specs.declared.message.Message.{Message}
use Rattle.router_requests.specs.declared.asker.Asker.{Asker}

-- a router of this number, one of a cluster with so many shards, in this of its lives, that knows nothing: what it requests by a table does not depend on
-- what it knows
abbrev pub asking : (router shards life : ℕ) → Router
asking router shards life =
    record { me = router; shards = shards; time = 0; life = life; begun = true; moment = 0; count = 0; tables = []; requests = []; cursors = []; blocks = 0; gave = 0 }

abbrev pub asker_view : Asker → Router
asker_view a = asking a.me.0 a.shards a.life

-- a router that knows these tables
abbrev pub knowing : List Table → Router → Router
knowing tables r =
    record { me = r.me; shards = r.shards; time = r.time; life = r.life; begun = r.begun; moment = r.moment; count = r.count; tables = tables; requests = r.requests; cursors = r.cursors; blocks = r.blocks; gave = r.gave }

-- the message, if there is one
abbrev pub letters_of : Option Message → List Letter
letters_of None = []
letters_of (Some m) = letter_of m ∷ []
