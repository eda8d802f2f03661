-- Reading fields, and values of an array, one after the other, as a loop does.
use Rattle.std.proofs.Common.{◌≡◌, ℕ, suc, ◌+◌, ◌-◌, ◌<◌, List, length, Some, None, Result, Ok, Err, refl, sym, ap, subst, ◌∙◌, arith}
use Rattle.bson_model.specs.Tree.{Datum, Items, no_items, item, Fields, no_fields, field, joined, joined_items}
use Rattle.bson_model.proofs.Joined.{joined_none, joined_one, joined_items_none, joined_items_one}
use Rattle.bson_values.specs.declared.fault.BsonFault.{BsonFault}
use Rattle.bson_values.specs.declared.fault.BsonFault.TheVariants as faults
use Rattle.bson_values.specs.ReadFaults.{◌>>=◌, Fails}
use Rattle.bson_values.specs.Readers.{Reader, length_at, field_at, fields_behind, fields_with, document_with, item_at, items_behind, items_with, array_with}

-- a reader that runs after one that failed fails in the same way
pub passes_on : {A B : Type 0} (e : BsonFault) (r : Result A BsonFault) (s : Result B BsonFault) → (r ≡ Err e → s ≡ Err e) → Fails e r → Fails e s
passes_on (faults.Short offset) r s on h = on h
passes_on (faults.BadLength offset) r s on h = on h
passes_on (faults.BadType offset byte) r s on h = on h
passes_on (faults.BadText offset) r s on h = on h
passes_on (faults.BadBool offset) r s on h = on h
passes_on (faults.Deep offset) r s on h = on h
passes_on (faults.Trailing offset) r s on h = on h
passes_on faults.Memory r s on h = tt

-- ---- fields

-- the fields already read, and the result of reading the rest
abbrev pub with_prefix : Fields → Result (Fields × List ℕ) BsonFault → Result (Fields × List ℕ) BsonFault
with_prefix prefix read = read >>= λ x. Ok (joined prefix x.0, x.1)

-- The fields already read, and those that are left, are those of the whole.
pub record ReadsOn (total : ℕ) (value_at : Reader) (room : ℕ) (bytes : List ℕ) (prefix : Fields) (space : ℕ) (left : List ℕ) : Type 0 where
  pub fuel : ℕ
  pub enough : length left < fuel
  pub same : with_prefix prefix (fields_with total value_at fuel space left) ≡ fields_with total value_at (length bytes + 1) room bytes

regroup : (prefix : Fields) (name : List ℕ) (d : Datum) (read : Result (Fields × List ℕ) BsonFault)
    → with_prefix prefix (read >>= λ x. Ok (field name d x.0, x.1)) ≡ with_prefix (joined prefix (field name d no_fields)) read
regroup prefix name d (Ok x) = ap (λ (ms : Fields). Ok (ms, x.1)) (sym (joined_one prefix x.0 name d))
regroup prefix name d (Err e) = refl

one_more : (total : ℕ) (value_at : Reader) (n space : ℕ) (left rest : List ℕ) (name : List ℕ) (d : Datum) → field_at total value_at space left ≡ Ok (Some (name, d), rest)
    → fields_with total value_at (suc n) space left ≡ (fields_with total value_at n (space - (length left - length rest)) rest >>= λ x. Ok (field name d x.0, x.1))
unfolding fields_with fields_behind
one_more total value_at n space left rest name d h = rw h refl

none_more : (total : ℕ) (value_at : Reader) (n space : ℕ) (left rest : List ℕ) → field_at total value_at space left ≡ Ok (None, rest)
    → fields_with total value_at (suc n) space left ≡ Ok (no_fields, rest)
unfolding fields_with fields_behind
none_more total value_at n space left rest h = rw h refl

no_more : (total : ℕ) (value_at : Reader) (n space : ℕ) (left : List ℕ) (e : BsonFault) → field_at total value_at space left ≡ Err e
    → fields_with total value_at (suc n) space left ≡ Err e
unfolding fields_with fields_behind
no_more total value_at n space left e h = rw h refl

-- there is some fuel left
spent : (total : ℕ) (value_at : Reader) (room : ℕ) (bytes : List ℕ) (prefix : Fields) (space : ℕ) (left : List ℕ) → (on : ReadsOn total value_at room bytes prefix space left)
    → with_prefix prefix (fields_with total value_at (suc (on.fuel - 1)) space left) ≡ fields_with total value_at (length bytes + 1) room bytes
spent total value_at room bytes prefix space left on =
    let k : on.fuel ≡ suc (on.fuel - 1) = omega (arith, on.enough) in
    subst (λ (fuel : ℕ). with_prefix prefix (fields_with total value_at fuel space left) ≡ fields_with total value_at (length bytes + 1) room bytes) k on.same

pub goes_on : (total : ℕ) (value_at : Reader) (room : ℕ) (bytes : List ℕ) (prefix : Fields) (space : ℕ) (left rest name : List ℕ) (d : Datum)
    → field_at total value_at space left ≡ Ok (Some (name, d), rest) → length rest < length left
    → ReadsOn total value_at room bytes prefix space left → ReadsOn total value_at room bytes (joined prefix (field name d no_fields)) (space - (length left - length rest)) rest
goes_on total value_at room bytes prefix space left rest name d h shorter on =
    let enough : length rest < on.fuel - 1 = omega (arith, on.enough) in
    let step = ap (λ (r : Result (Fields × List ℕ) BsonFault). with_prefix prefix r) (one_more total value_at (on.fuel - 1) space left rest name d h)
    ∙ regroup prefix name d (fields_with total value_at (on.fuel - 1) (space - (length left - length rest)) rest) in
    record { fuel = on.fuel - 1; enough = enough; same = sym step ∙ spent total value_at room bytes prefix space left on }

pub ends : (total : ℕ) (value_at : Reader) (room : ℕ) (bytes : List ℕ) (prefix : Fields) (space : ℕ) (left rest : List ℕ)
    → field_at total value_at space left ≡ Ok (None, rest)
    → ReadsOn total value_at room bytes prefix space left → fields_with total value_at (length bytes + 1) room bytes ≡ Ok (prefix, rest)
ends total value_at room bytes prefix space left rest h on =
    let step = ap (λ (r : Result (Fields × List ℕ) BsonFault). with_prefix prefix r) (none_more total value_at (on.fuel - 1) space left rest h)
    ∙ ap (λ (ms : Fields). Ok (ms, rest)) (joined_none prefix) in
    sym (spent total value_at room bytes prefix space left on) ∙ step

pub fails : (total : ℕ) (value_at : Reader) (room : ℕ) (bytes : List ℕ) (prefix : Fields) (space : ℕ) (left : List ℕ) (e : BsonFault)
    → field_at total value_at space left ≡ Err e
    → ReadsOn total value_at room bytes prefix space left → fields_with total value_at (length bytes + 1) room bytes ≡ Err e
fails total value_at room bytes prefix space left e h on =
    sym (spent total value_at room bytes prefix space left on) ∙ ap (λ (r : Result (Fields × List ℕ) BsonFault). with_prefix prefix r) (no_more total value_at (on.fuel - 1) space left e h)

-- a document after its length
pub behind_length : (total : ℕ) (value_at : Reader) (room count : ℕ) (bytes rest : List ℕ) (read : Result (Fields × List ℕ) BsonFault) → length_at total 5 0 room bytes ≡ Ok (count, rest)
    → fields_with total value_at (length rest + 1) (count - 4) rest ≡ read → document_with total value_at room bytes ≡ read
unfolding document_with
behind_length total value_at room count bytes rest read h e = rw h e

-- ---- values of an array

-- the values already read, and the result of reading the rest
abbrev pub items_with_prefix : Items → Result (Items × List ℕ) BsonFault → Result (Items × List ℕ) BsonFault
items_with_prefix prefix read = read >>= λ x. Ok (joined_items prefix x.0, x.1)

-- The values already read, and those that are left, are those of the whole.
pub record ReadsItemsOn (total : ℕ) (value_at : Reader) (room : ℕ) (bytes : List ℕ) (prefix : Items) (space : ℕ) (left : List ℕ) : Type 0 where
  pub fuel : ℕ
  pub enough : length left < fuel
  pub same : items_with_prefix prefix (items_with total value_at fuel space left) ≡ items_with total value_at (length bytes + 1) room bytes

items_regroup : (prefix : Items) (d : Datum) (read : Result (Items × List ℕ) BsonFault)
    → items_with_prefix prefix (read >>= λ x. Ok (item d x.0, x.1)) ≡ items_with_prefix (joined_items prefix (item d no_items)) read
items_regroup prefix d (Ok x) = ap (λ (ms : Items). Ok (ms, x.1)) (sym (joined_items_one prefix x.0 d))
items_regroup prefix d (Err e) = refl

items_one_more : (total : ℕ) (value_at : Reader) (n space : ℕ) (left rest : List ℕ) (d : Datum) → item_at total value_at space left ≡ Ok (Some d, rest)
    → items_with total value_at (suc n) space left ≡ (items_with total value_at n (space - (length left - length rest)) rest >>= λ x. Ok (item d x.0, x.1))
unfolding items_with items_behind
items_one_more total value_at n space left rest d h = rw h refl

items_none_more : (total : ℕ) (value_at : Reader) (n space : ℕ) (left rest : List ℕ) → item_at total value_at space left ≡ Ok (None, rest)
    → items_with total value_at (suc n) space left ≡ Ok (no_items, rest)
unfolding items_with items_behind
items_none_more total value_at n space left rest h = rw h refl

items_no_more : (total : ℕ) (value_at : Reader) (n space : ℕ) (left : List ℕ) (e : BsonFault) → item_at total value_at space left ≡ Err e
    → items_with total value_at (suc n) space left ≡ Err e
unfolding items_with items_behind
items_no_more total value_at n space left e h = rw h refl

-- there is some fuel left
items_spent : (total : ℕ) (value_at : Reader) (room : ℕ) (bytes : List ℕ) (prefix : Items) (space : ℕ) (left : List ℕ) → (on : ReadsItemsOn total value_at room bytes prefix space left)
    → items_with_prefix prefix (items_with total value_at (suc (on.fuel - 1)) space left) ≡ items_with total value_at (length bytes + 1) room bytes
items_spent total value_at room bytes prefix space left on =
    let k : on.fuel ≡ suc (on.fuel - 1) = omega (arith, on.enough) in
    subst (λ (fuel : ℕ). items_with_prefix prefix (items_with total value_at fuel space left) ≡ items_with total value_at (length bytes + 1) room bytes) k on.same

pub items_goes_on : (total : ℕ) (value_at : Reader) (room : ℕ) (bytes : List ℕ) (prefix : Items) (space : ℕ) (left rest : List ℕ) (d : Datum)
    → item_at total value_at space left ≡ Ok (Some d, rest) → length rest < length left
    → ReadsItemsOn total value_at room bytes prefix space left → ReadsItemsOn total value_at room bytes (joined_items prefix (item d no_items)) (space - (length left - length rest)) rest
items_goes_on total value_at room bytes prefix space left rest d h shorter on =
    let enough : length rest < on.fuel - 1 = omega (arith, on.enough) in
    let step = ap (λ (r : Result (Items × List ℕ) BsonFault). items_with_prefix prefix r) (items_one_more total value_at (on.fuel - 1) space left rest d h)
    ∙ items_regroup prefix d (items_with total value_at (on.fuel - 1) (space - (length left - length rest)) rest) in
    record { fuel = on.fuel - 1; enough = enough; same = sym step ∙ items_spent total value_at room bytes prefix space left on }

pub items_ends : (total : ℕ) (value_at : Reader) (room : ℕ) (bytes : List ℕ) (prefix : Items) (space : ℕ) (left rest : List ℕ)
    → item_at total value_at space left ≡ Ok (None, rest)
    → ReadsItemsOn total value_at room bytes prefix space left → items_with total value_at (length bytes + 1) room bytes ≡ Ok (prefix, rest)
items_ends total value_at room bytes prefix space left rest h on =
    let step = ap (λ (r : Result (Items × List ℕ) BsonFault). items_with_prefix prefix r) (items_none_more total value_at (on.fuel - 1) space left rest h)
    ∙ ap (λ (ms : Items). Ok (ms, rest)) (joined_items_none prefix) in
    sym (items_spent total value_at room bytes prefix space left on) ∙ step

pub items_fails : (total : ℕ) (value_at : Reader) (room : ℕ) (bytes : List ℕ) (prefix : Items) (space : ℕ) (left : List ℕ) (e : BsonFault)
    → item_at total value_at space left ≡ Err e
    → ReadsItemsOn total value_at room bytes prefix space left → items_with total value_at (length bytes + 1) room bytes ≡ Err e
items_fails total value_at room bytes prefix space left e h on =
    sym (items_spent total value_at room bytes prefix space left on) ∙ ap (λ (r : Result (Items × List ℕ) BsonFault). items_with_prefix prefix r) (items_no_more total value_at (on.fuel - 1) space left e h)

-- an array after its length
pub items_behind_length : (total : ℕ) (value_at : Reader) (room count : ℕ) (bytes rest : List ℕ) (read : Result (Items × List ℕ) BsonFault) → length_at total 5 0 room bytes ≡ Ok (count, rest)
    → items_with total value_at (length rest + 1) (count - 4) rest ≡ read → array_with total value_at room bytes ≡ read
unfolding array_with
items_behind_length total value_at room count bytes rest read h e = rw h e
