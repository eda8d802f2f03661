-- The result of a transition.
use Rattle.std.specs.Prelude.{◌≡◌, List, [], ◌∷◌, true, if◌then◌else◌}
use Rattle.node_model.specs.Journal.{Kept, kept_life}
use Rattle.node_model.specs.Letters.{Letter, Input, Effect}
use Rattle.node_model.specs.RouterRows.{RouterRow}
use Rattle.node_model.specs.States.{Router}
use Rattle.node_traits.specs.Effects.{puts_of}
use Rattle.node_traits.specs.declared.outputs.ToLink.{ToLink}

-- a transition was taken on the input; these are its messages and the bytes of its replies, and it has no records
pub record TookRow (old : Router) (i : Input) (mail : List Letter) (replies : List ToLink) (new : Router) : Type 0 where
  pub effect : Effect
  pub row : RouterRow old i effect new
  pub written : effect.written ≡ []
  pub sent : effect.mail ≡ mail
  pub told : replies ≡ puts_of effect.replies

-- the router in its life; where the life did not begin, no request was taken
abbrev pub started : Router → Router
started r = record {
  me = r.me;
  shards = r.shards;
  time = r.time;
  life = r.life;
  begun = true;
  moment = r.moment;
  count = r.count;
  tables = r.tables;
  requests = r.requests;
  cursors = r.cursors;
  blocks = r.blocks;
  gave = r.gave;
}

-- the record of a life that begins
abbrev pub life_kept : Router → List Kept
life_kept r = if r.begun then [] else kept_life r.life ∷ []
