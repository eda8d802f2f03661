-- One more version after others.
use Rattle.std.proofs.Common.{◌≡◌, ℕ, List, [], ◌∷◌, ◌++◌, refl}
use Rattle.std.specs.Prelude.{Option, None}
use Rattle.bson_model.specs.Tree.{Datum, Fields}
use Rattle.history_model.specs.Versions.{Put, one_more, put_after, last_put}

after_push : (puts : List Put) (put : Put) (key : Datum) (time : ℕ) (before : Option Fields) →
    put_after (puts ++ put ∷ []) key time before ≡ one_more put key time (put_after puts key time before)
after_push [] put key time before = refl
after_push (p ∷ puts) put key time before = after_push puts put key time (one_more p key time before)

pub one_more_put : (puts : List Put) (put : Put) (key : Datum) (time : ℕ) →
    last_put (puts ++ put ∷ []) key time ≡ one_more put key time (last_put puts key time)
one_more_put puts put key time = after_push puts put key time None
