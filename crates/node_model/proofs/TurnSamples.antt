-- Turns of a write over two shards, computed: what each rule of sending and of giving up comes to.
use Rattle.std.proofs.Common.{◌≡◌, refl, ℕ, List, [], ◌∷◌, true, false, Some, None, map, codes}
use Rattle.std.specs.Prelude.{pos}
use Rattle.reply_model.specs.Tree.{field, no_fields, int32_value}
use Rattle.reply_model.specs.Keys.{min_bound, max_bound, key_bound}
use Rattle.reply_model.specs.History.{insert_operation, router_session}
use Rattle.reply_model.specs.Tables.{Table}
use Rattle.reply_model.specs.Accounts.{no_memory}
use Rattle.reply_model.specs.Versions.{Version}
use Rattle.reply_model.specs.Outcomes.{Try, has_outcome, lack_refusal}
use Rattle.node_model.specs.Letters.{Statement}
use Rattle.node_model.specs.States.{Run, Course}
use Rattle.node_model.specs.RouterRequests.{all_runs, next_run, table_to_read}
use Rattle.node_model.specs.RouterNext.{is_bound, given_up, is_answered, after_stale, run_with}

abbrev version : ℕ → ℕ → Version
version major minor = record { epoch = 1; major = major; minor = minor }

abbrev two_shards : Table
two_shards = record {
  namespace = [];
  epoch = 1;
  changes = 3;
  oldest = 0;
  chunks =
      record {
        range = record { min = min_bound; max = key_bound (int32_value (pos 10)) };
        version = version 2 1;
        owners = record { since = 1; shard = 1 } ∷ [];
      }
      ∷ record {
        range = record { min = key_bound (int32_value (pos 10)); max = max_bound };
        version = version 2 0;
        owners = record { since = 2; shard = 2 } ∷ record { since = 1; shard = 1 } ∷ [];
      }
      ∷ [];
}

abbrev inserts : ℕ → ℕ → Statement
inserts index key = record {
  number = record { session = router_session 3 1 1; transaction = pos 0; index = index };
  operation = insert_operation (field (codes "_id") (int32_value (pos key)) no_fields);
}

abbrev three : List Statement
three = inserts 0 1 ∷ inserts 1 11 ∷ inserts 2 2 ∷ []

abbrev indices : List Run → List (List ℕ)
indices runs = map (λ (run : Run). run.indices) runs

abbrev no_tries : List (List Try)
no_tries = [] ∷ [] ∷ [] ∷ []

-- an unordered write goes to each owner at once, an ordered one to the first alone
unordered_runs : indices (all_runs two_shards no_tries three) ≡ (0 ∷ 2 ∷ []) ∷ (1 ∷ []) ∷ []
unordered_runs = refl

ordered_run : indices (next_run two_shards no_tries three) ≡ (0 ∷ []) ∷ []
ordered_run = refl

-- one that met a later table is not sent by an older one
abbrev met_later : List Try
met_later = record { sent = version 2 0; met = version 3 0 } ∷ []

not_sent_yet : indices (all_runs two_shards (met_later ∷ [] ∷ met_later ∷ []) three) ≡ (1 ∷ []) ∷ []
not_sent_yet = refl

-- nor is a read
read_waits : table_to_read (Some two_shards) 2 met_later ≡ None
read_waits = refl

read_goes : table_to_read (Some two_shards) 2 [] ≡ Some two_shards
read_goes = refl

-- several statements of an ordered write are not given up; of an unordered one all of the run are, of an ordered one the first
abbrev run_of_two : Run
run_of_two = record { shard = 1; sent = record { shard = version 2 1; collection = version 2 1 }; indices = 0 ∷ 2 ∷ [] }

bound : is_bound true (run_of_two ∷ []) ≡ true
bound = refl

not_bound : is_bound false (run_of_two ∷ []) ≡ false
not_bound = refl

refused_both : map (λ i. has_outcome (given_up false (lack_refusal 1 no_memory) (0 ∷ 2 ∷ []) (None ∷ None ∷ None ∷ [])) i) (0 ∷ 1 ∷ 2 ∷ []) ≡ true ∷ false ∷ true ∷ []
refused_both = refl

refused_first : is_answered true (given_up true (lack_refusal 1 no_memory) (0 ∷ 2 ∷ []) (None ∷ None ∷ None ∷ [])) ≡ true
refused_first = refl

-- a refusal of an earlier turn finds no run
abbrev begun : Course
begun = record { answers = None ∷ None ∷ None ∷ []; tries = no_tries; runs = run_of_two ∷ [] }

abbrev retried : Course
retried = record { answers = None ∷ None ∷ None ∷ []; tries = met_later ∷ [] ∷ met_later ∷ []; runs = run_of_two ∷ [] }

found : run_with 1 0 begun begun.runs ≡ Some run_of_two
found = refl

late : run_with 1 0 retried retried.runs ≡ None
late = refl

-- a stale run is no longer under way, and its statements have one try more
stale_run : (after_stale false begun run_of_two (version 3 0)).runs ≡ []
stale_run = refl

stale_tries : (after_stale false begun run_of_two (version 3 0)).tries ≡ (record { sent = version 2 1; met = version 3 0 } ∷ []) ∷ [] ∷ (record { sent = version 2 1; met = version 3 0 } ∷ []) ∷ []
stale_tries = refl
