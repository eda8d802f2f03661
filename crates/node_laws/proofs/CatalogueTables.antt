-- What changes of the catalogue make of tables where none moves a chunk: from its creation on the first shard owns all keys of a collection.
use Rattle.std.proofs.Common.{◌≡◌, ◌≢◌, ◌⊎◌, inl, inr, ℕ, ◌<◌, ◌≤◌, List, [], ◌∷◌, refl, sym, ap, subst, ◌∙◌, arith, Bool}
use Rattle.std.specs.Prelude.{Option, Some, None, true, false, ◌&&◌, nat_le, if◌then◌else◌}
use Rattle.std.specs.List.{AllByRecursion}
use Rattle.std.specs.Option.{option_map}
use Rattle.std.specs.Str.{bytes_eq}
use Rattle.std.proofs.lemmas.Bool.{leb-true, leb-false}
use Rattle.std.proofs.lemmas.Slice.Eq.{bytes_eq-Decides}
use Rattle.bson_model.proofs.Booleans.{both}
use Rattle.bson_model.specs.Tree.{Datum}
use Rattle.value_model.specs.Keys.{is_key}
use Rattle.history_model.proofs.Lists.{all_at, in_cons, in_none, in_first, in_later}
use Rattle.chunk_model.specs.Catalogue.{Creation}
use Rattle.chunk_model.specs.Tables.{Table, first_table, first_shard, owner_now, owner_at}
use Rattle.chunk_model.specs.Changes.{Change, create_change, split_change, commit_change, namespace_of, can_split, split_table, commit_table, table_after, known_table}
use Rattle.chunk_model.specs.Placement.{owner, AreFitting}
use Rattle.chunk_laws.proofs.Owners.{now_is}
use Rattle.chunk_laws.proofs.Folds.{latest, placed}
use Rattle.chunk_laws.proofs.Placed.{same_owner_at}
use Rattle.history_model.specs.History.{Entry, IsIn}
use Rattle.reply_model.specs.Exchanges.{Asked}
use Rattle.reply_model.specs.OneHistory.{WasWanted, IsPlaced}
use Rattle.reply_model.specs.Right.{WasCreated}
use Rattle.node_laws.proofs.Views.{MovesNothing}

-- CREATIONS

-- a collection of this name was created
pub record IsCreated (changes : List Change) (namespace : List ℕ) : Type 0 where
  pub creation : Creation
  pub begun : IsIn (create_change creation) changes
  pub name : creation.namespace ≡ namespace

later_created : (x : Change) (changes : List Change) (namespace : List ℕ) → IsCreated changes namespace → IsCreated (x ∷ changes) namespace
later_created x changes namespace c =
    record { creation = c.creation; begun = in_later (create_change c.creation) x changes c.begun; name = c.name }

pub same_name : (a b : List ℕ) → bytes_eq a b ≡ true → a ≡ b
same_name a b e = (bytes_eq-Decides a b).0 e

-- a change does not create this collection
abbrev pub IsNoCreation : (namespace : List ℕ) → Change → Type 0
IsNoCreation namespace (create_change c) = c.namespace ≢ namespace
IsNoCreation namespace (split_change s) = Unit {0}
IsNoCreation namespace (commit_change c) = Unit {0}

false_true : false ≡ true → ⊥
false_true e = cc

-- where there is no table no change created it
pub none_created : (namespace : List ℕ) (changes : List Change) → known_table namespace changes ≡ None → AllByRecursion (IsNoCreation namespace) changes
none_created namespace [] none = tt
none_created namespace (x ∷ older) none =
    by_name (bytes_eq (namespace_of x) namespace) refl none (λ e. none_created namespace older e)
  where
    mapped : (f : Table → Table) (o : Option Table) → option_map f o ≡ None → o ≡ None
    mapped f None e = refl
    mapped f (Some t) e = absurd (cc)

    by_change : (y : Change) → table_after y (known_table namespace older) ≡ None → (known_table namespace older ≡ None
        → AllByRecursion (IsNoCreation namespace) older) → AllByRecursion (IsNoCreation namespace) (y ∷ older)
    by_change (create_change c) e more = absurd (created (known_table namespace older) e)
      where
        created : (o : Option Table) → table_after (create_change c) o ≡ None → ⊥
        created None h = cc
        created (Some t) h = cc
    by_change (split_change s) e more = (tt, more (mapped (split_table s.middle) (known_table namespace older) e))
    by_change (commit_change c) e more = (tt, more (mapped (commit_table c) (known_table namespace older) e))

    other_name : (y : Change) → bytes_eq (namespace_of y) namespace ≡ false → IsNoCreation namespace y
    other_name (create_change c) h = λ same. false_true (sym h ∙ (bytes_eq-Decides c.namespace namespace).1 same)
    other_name (split_change s) h = tt
    other_name (commit_change c) h = tt

    by_name : (b : Bool) → bytes_eq (namespace_of x) namespace ≡ b
        → (if b then table_after x (known_table namespace older) else known_table namespace older) ≡ None
        → (known_table namespace older ≡ None → AllByRecursion (IsNoCreation namespace) older) → AllByRecursion (IsNoCreation namespace) (x ∷ older)
    by_name true h e more = by_change x e more
    by_name false h e more = (other_name x h, more e)

-- and there is none where no change created it
pub not_created : (namespace : List ℕ) (changes : List Change) → AllByRecursion (IsNoCreation namespace) changes → known_table namespace changes ≡ None
not_created namespace [] none = refl
not_created namespace (x ∷ older) none =
    by_name (bytes_eq (namespace_of x) namespace) refl (not_created namespace older none.1)
  where
    by_change : (y : Change) → bytes_eq (namespace_of y) namespace ≡ true → IsNoCreation namespace y → known_table namespace older ≡ None
        → table_after y (known_table namespace older) ≡ None
    by_change (create_change c) h other rest = absurd (other (same_name c.namespace namespace h))
    by_change (split_change s) h other rest = ap (λ o. option_map (split_table s.middle) o) rest
    by_change (commit_change c) h other rest = ap (λ o. option_map (commit_table c) o) rest

    by_name : (b : Bool) → bytes_eq (namespace_of x) namespace ≡ b → known_table namespace older ≡ None
        → (if b then table_after x (known_table namespace older) else known_table namespace older) ≡ None
    by_name true h rest = by_change x h none.0 rest
    by_name false h rest = rest

-- a table is that of a collection that was created
pub some_created : (namespace : List ℕ) (changes : List Change) (t : Table) → known_table namespace changes ≡ Some t → IsCreated changes namespace
some_created namespace [] t known = absurd (cc)
some_created namespace (x ∷ older) t known =
    by_name (bytes_eq (namespace_of x) namespace) refl known (λ u e. some_created namespace older u e)
  where
    mapped : (f : Table → Table) (o : Option Table) → option_map f o ≡ Some t → ((u : Table) → o ≡ Some u → IsCreated older namespace)
        → IsCreated older namespace
    mapped f None e more = absurd (cc)
    mapped f (Some u) e more = more u refl

    by_change : (y : Change) → bytes_eq (namespace_of y) namespace ≡ true → table_after y (known_table namespace older) ≡ Some t
        → ((u : Table) → known_table namespace older ≡ Some u → IsCreated older namespace) → IsCreated (y ∷ older) namespace
    by_change (create_change c) h e more =
        record { creation = c; begun = in_first (create_change c) older; name = same_name c.namespace namespace h }
    by_change (split_change s) h e more =
        later_created (split_change s) older namespace (mapped (split_table s.middle) (known_table namespace older) e more)
    by_change (commit_change c) h e more =
        later_created (commit_change c) older namespace (mapped (commit_table c) (known_table namespace older) e more)

    by_name : (b : Bool) → bytes_eq (namespace_of x) namespace ≡ b
        → (if b then table_after x (known_table namespace older) else known_table namespace older) ≡ Some t
        → ((u : Table) → known_table namespace older ≡ Some u → IsCreated older namespace) → IsCreated (x ∷ older) namespace
    by_name true h e more = by_change x h e more
    by_name false h e more = later_created x older namespace (more t e)

split_name : (middle : Datum) (t : Table) (can : Bool) → can_split middle t.chunks ≡ can → (split_table middle t).namespace ≡ t.namespace
split_name middle t true h = rw h refl
split_name middle t false h = rw h refl

-- a table has the name of its collection
pub table_name : (namespace : List ℕ) (changes : List Change) (t : Table) → known_table namespace changes ≡ Some t → t.namespace ≡ namespace
table_name namespace [] t known = absurd (cc)
table_name namespace (x ∷ older) t known = by_name (bytes_eq (namespace_of x) namespace) refl known (λ u e. table_name namespace older u e)
  where
    mapped : (f : Table → Table) (o : Option Table) → ((u : Table) → (f u).namespace ≡ u.namespace) → option_map f o ≡ Some t
        → ((u : Table) → o ≡ Some u → u.namespace ≡ namespace) → t.namespace ≡ namespace
    mapped f None keeps e more = absurd (cc)
    mapped f (Some u) keeps e more =
        let same : f u ≡ t = cc in
        ap (λ (v : Table). v.namespace) (sym same) ∙ keeps u ∙ more u refl

    created : (c : Creation) (o : Option Table) → c.namespace ≡ namespace → table_after (create_change c) o ≡ Some t
        → ((u : Table) → o ≡ Some u → u.namespace ≡ namespace) → t.namespace ≡ namespace
    created c None name e more = let same : first_table c ≡ t = cc in ap (λ (v : Table). v.namespace) (sym same) ∙ name
    created c (Some u) name e more = let same : u ≡ t = cc in ap (λ (v : Table). v.namespace) (sym same) ∙ more u refl

    by_change : (y : Change) → bytes_eq (namespace_of y) namespace ≡ true → table_after y (known_table namespace older) ≡ Some t
        → ((u : Table) → known_table namespace older ≡ Some u → u.namespace ≡ namespace) → t.namespace ≡ namespace
    by_change (create_change c) h e more = created c (known_table namespace older) (same_name c.namespace namespace h) e more
    by_change (split_change s) h e more =
        mapped (split_table s.middle) (known_table namespace older) (λ u. split_name s.middle u (can_split s.middle u.chunks) refl) e more
    by_change (commit_change c) h e more = mapped (commit_table c) (known_table namespace older) (λ u. refl) e more

    by_name : (b : Bool) → bytes_eq (namespace_of x) namespace ≡ b
        → (if b then table_after x (known_table namespace older) else known_table namespace older) ≡ Some t
        → ((u : Table) → known_table namespace older ≡ Some u → u.namespace ≡ namespace) → t.namespace ≡ namespace
    by_name true h e more = by_change x h e more
    by_name false h e more = more t e

-- a name has one creation
pub one_creation : (c d : Creation) (changes : List Change) → AreFitting changes → IsIn (create_change c) changes → IsIn (create_change d) changes
    → c.namespace ≡ d.namespace → c ≡ d
one_creation c d [] fits i j same = absurd (in_none (create_change c) i)
one_creation c d (x ∷ older) fits i j same =
    by_places (in_cons (create_change c) x older i) (in_cons (create_change d) x older j) (λ k l. one_creation c d older fits.1 k l same)
  where
    creation_is : create_change c ≡ create_change d → c ≡ d
    creation_is e = cc

    -- what is created was not there
    apart : (a b : Creation) → create_change a ≡ x → IsIn (create_change b) older → b.namespace ≡ a.namespace → ⊥
    apart a b first stands name =
        let f = subst (λ y. AreFitting (y ∷ older)) (sym first) fits in
        all_at (IsNoCreation a.namespace) (create_change b) older (none_created a.namespace older f.0.fits.absent) stands name

    by_places : (create_change c ≡ x) ⊎ IsIn (create_change c) older → (create_change d ≡ x) ⊎ IsIn (create_change d) older
        → (IsIn (create_change c) older → IsIn (create_change d) older → c ≡ d) → c ≡ d
    by_places (inl a) (inl b) more = creation_is (a ∙ sym b)
    by_places (inl a) (inr l) more = absurd (apart c d a l (sym same))
    by_places (inr k) (inl b) more = absurd (apart d c b k same)
    by_places (inr k) (inr l) more = more k l

-- OWNERS

later_was : (x : Change) (changes : List Change) (namespace : List ℕ) (time : ℕ) → WasCreated changes namespace time
    → WasCreated (x ∷ changes) namespace time
later_was x changes namespace time c =
    record { creation = c.creation; begun = in_later (create_change c.creation) x changes c.begun; name = c.name; before = c.before }

-- what is said of an owner
pub record IsFirst (changes : List Change) (namespace : List ℕ) (time shard : ℕ) : Type 0 where
  pub shard_is : shard ≡ first_shard
  pub created : WasCreated changes namespace time

first_later : (x : Change) (changes : List Change) (namespace : List ℕ) (time shard : ℕ) → IsFirst changes namespace time shard
    → IsFirst (x ∷ changes) namespace time shard
first_later x changes namespace time shard f = record { shard_is = f.shard_is; created = later_was x changes namespace time f.created }

-- only the first shard owns, in a collection that was created by then
pub unmoved : (changes : List Change) → AllByRecursion MovesNothing changes → (namespace : List ℕ) (key : Datum) (time shard : ℕ)
    → owner namespace key time changes ≡ Some shard → IsFirst changes namespace time shard
unmoved [] still namespace key time shard owns = absurd (cc)
unmoved (create_change c ∷ older) still namespace key time shard owns =
    by_test (bytes_eq c.namespace namespace && nat_le c.at time) refl owns (λ e. unmoved older still.1 namespace key time shard e)
  where
    by_test : (test : Bool) → (bytes_eq c.namespace namespace && nat_le c.at time) ≡ test
        → (if test then Some first_shard else owner namespace key time older) ≡ Some shard
        → (owner namespace key time older ≡ Some shard → IsFirst older namespace time shard) → IsFirst (create_change c ∷ older) namespace time shard
    by_test true h e more =
        let parts = both (bytes_eq c.namespace namespace) (nat_le c.at time) h in
        record {
          shard_is = cc;
          created = record {
            creation = c;
            begun = in_first (create_change c) older;
            name = same_name c.namespace namespace parts.0;
            before = leb-true _ _ parts.1;
          };
        }
    by_test false h e more = first_later (create_change c) older namespace time shard (more e)
unmoved (split_change s ∷ older) still namespace key time shard owns =
    first_later (split_change s) older namespace time shard (unmoved older still.1 namespace key time shard owns)
unmoved (commit_change c ∷ older) still namespace key time shard owns = absurd still.0

created_owned : (changes : List Change) → AllByRecursion MovesNothing changes → (namespace : List ℕ) (key : Datum) (time : ℕ) (c : Creation)
    → IsIn (create_change c) changes → c.namespace ≡ namespace → c.at ≤ time → owner namespace key time changes ≡ Some first_shard
created_owned [] still namespace key time c i name before = absurd (in_none (create_change c) i)
created_owned (create_change d ∷ older) still namespace key time c i name before =
    by_test (bytes_eq d.namespace namespace && nat_le d.at time) refl (in_cons (create_change c) (create_change d) older i)
    (λ j. created_owned older still.1 namespace key time c j name before)
  where
    holds : c ≡ d → (bytes_eq d.namespace namespace && nat_le d.at time) ≡ true
    holds same =
        let named : bytes_eq d.namespace namespace ≡ true = (bytes_eq-Decides d.namespace namespace).1 (ap (λ (x : Creation). x.namespace) (sym same) ∙ name) in
        rw named (by_le (nat_le d.at time) refl (subst (λ (x : Creation). x.at ≤ time) same before))
      where
        by_le : (b : Bool) → nat_le d.at time ≡ b → d.at ≤ time → b ≡ true
        by_le true h le = refl
        by_le false h le = absurd (let less : time < d.at = leb-false _ _ h in omega arith)

    creation_is : create_change c ≡ create_change d → c ≡ d
    creation_is e = cc

    by_test : (test : Bool) → (bytes_eq d.namespace namespace && nat_le d.at time) ≡ test
        → (create_change c ≡ create_change d) ⊎ IsIn (create_change c) older
        → (IsIn (create_change c) older → owner namespace key time older ≡ Some first_shard)
        → (if test then Some first_shard else owner namespace key time older) ≡ Some first_shard
    by_test true h place more = refl
    by_test false h (inl same) more = absurd (false_true (sym h ∙ holds (creation_is same)))
    by_test false h (inr j) more = more j
created_owned (split_change s ∷ older) still namespace key time c i name before =
    by_place (in_cons (create_change c) (split_change s) older i) (λ j. created_owned older still.1 namespace key time c j name before)
  where
    no_split : create_change c ≡ split_change s → ⊥
    no_split e = cc

    by_place : (create_change c ≡ split_change s) ⊎ IsIn (create_change c) older
        → (IsIn (create_change c) older → owner namespace key time older ≡ Some first_shard) → owner namespace key time older ≡ Some first_shard
    by_place (inl same) more = absurd (no_split same)
    by_place (inr j) more = more j
created_owned (commit_change d ∷ older) still namespace key time c i name before = absurd still.0

-- the first shard owns each key of a collection from its creation on
pub owned_from : (changes : List Change) → AllByRecursion MovesNothing changes → (namespace : List ℕ) (key : Datum) (time : ℕ)
    → WasCreated changes namespace time → owner namespace key time changes ≡ Some first_shard
owned_from changes still namespace key time c = created_owned changes still namespace key time c.creation c.begun c.name c.before

-- so each entry is on it
pub placed_first : (changes : List Change) → AllByRecursion MovesNothing changes → (e : Entry) → IsPlaced changes e → e.shard ≡ first_shard
placed_first changes still e p = (unmoved changes still e.namespace p.key e.time e.shard p.owner).shard_is

-- no request asks to move a chunk
pub wanted_still : (asked : List Asked) (x : Change) → WasWanted asked x → MovesNothing x
wanted_still asked (create_change c) h = tt
wanted_still asked (split_change s) h = tt
wanted_still asked (commit_change m) h = absurd h.asks

-- the owner by all changes
latest_first : (changes : List Change) → AllByRecursion MovesNothing changes → (namespace : List ℕ) (key : Datum) (shard : ℕ)
    → latest namespace key changes ≡ Some shard → shard ≡ first_shard
latest_first [] still namespace key shard owns = absurd (cc)
latest_first (create_change c ∷ older) still namespace key shard owns =
    by_test (bytes_eq c.namespace namespace) owns (λ e. latest_first older still.1 namespace key shard e)
  where
    by_test : (test : Bool) → (if test then Some first_shard else latest namespace key older) ≡ Some shard
        → (latest namespace key older ≡ Some shard → shard ≡ first_shard) → shard ≡ first_shard
    by_test true e more = cc
    by_test false e more = more e
latest_first (split_change s ∷ older) still namespace key shard owns = latest_first older still.1 namespace key shard owns
latest_first (commit_change c ∷ older) still namespace key shard owns = absurd still.0

pub latest_created : (changes : List Change) → AllByRecursion MovesNothing changes → (namespace : List ℕ) (key : Datum) (c : Creation)
    → IsIn (create_change c) changes → c.namespace ≡ namespace → latest namespace key changes ≡ Some first_shard
latest_created [] still namespace key c i name = absurd (in_none (create_change c) i)
latest_created (create_change d ∷ older) still namespace key c i name =
    by_test (bytes_eq d.namespace namespace) refl (in_cons (create_change c) (create_change d) older i)
    (λ j. latest_created older still.1 namespace key c j name)
  where
    creation_is : create_change c ≡ create_change d → c ≡ d
    creation_is e = cc

    by_test : (test : Bool) → bytes_eq d.namespace namespace ≡ test
        → (create_change c ≡ create_change d) ⊎ IsIn (create_change c) older
        → (IsIn (create_change c) older → latest namespace key older ≡ Some first_shard)
        → (if test then Some first_shard else latest namespace key older) ≡ Some first_shard
    by_test true h place more = refl
    by_test false h (inl same) more =
        absurd (false_true (sym h ∙ (bytes_eq-Decides d.namespace namespace).1 (ap (λ (x : Creation). x.namespace) (sym (creation_is same)) ∙ name)))
    by_test false h (inr j) more = more j
latest_created (split_change s ∷ older) still namespace key c i name =
    by_place (in_cons (create_change c) (split_change s) older i) (λ j. latest_created older still.1 namespace key c j name)
  where
    no_split : create_change c ≡ split_change s → ⊥
    no_split e = cc

    by_place : (create_change c ≡ split_change s) ⊎ IsIn (create_change c) older
        → (IsIn (create_change c) older → latest namespace key older ≡ Some first_shard) → latest namespace key older ≡ Some first_shard
    by_place (inl same) more = absurd (no_split same)
    by_place (inr j) more = more j
latest_created (commit_change d ∷ older) still namespace key c i name = absurd still.0

-- TABLES

module _ (namespace : List ℕ) (changes : List Change) (t : Table) (fits : AreFitting changes) (still : AllByRecursion MovesNothing changes)
    (known : known_table namespace changes ≡ Some t) (key : Datum) (valid : is_key key ≡ true) where
  -- by a table the first shard owns all keys
  pub only_now : (shard : ℕ) → owner_now t key ≡ Some shard → shard ≡ first_shard
  only_now shard owns =
      latest_first changes still namespace key shard (sym ((placed namespace changes t fits known).last key valid) ∙ sym (now_is t key) ∙ owns)

  pub owns_now : owner_now t key ≡ Some first_shard
  owns_now =
      let c = some_created namespace changes t known in
      now_is t key ∙ (placed namespace changes t fits known).last key valid
      ∙ latest_created changes still namespace key c.creation c.begun c.name

  pub only_at : (time shard : ℕ) → owner_at t key time ≡ Some shard → shard ≡ first_shard
  only_at time shard owns =
      (unmoved changes still namespace key time shard (sym (same_owner_at namespace changes t key time fits known valid) ∙ owns)).shard_is

  -- and owned them from the creation on
  pub owns_from : (time : ℕ) → WasCreated changes namespace time → owner_at t key time ≡ Some first_shard
  owns_from time created =
      same_owner_at namespace changes t key time fits known valid ∙ owned_from changes still namespace key time created

some_not_none : {X : Type 0} {x : X} → Some x ≡ None → ⊥
some_not_none e = cc

-- a table that names no owner at a time is of a collection that was created later
pub created_after : (namespace : List ℕ) (changes : List Change) (t : Table) (key : Datum) (time : ℕ) → AreFitting changes
    → AllByRecursion MovesNothing changes → known_table namespace changes ≡ Some t → is_key key ≡ true → owner_at t key time ≡ None
    → (c : IsCreated changes namespace) → time < c.creation.at
created_after namespace changes t key time fits still known valid none c = by_time (nat_le c.creation.at time) refl
  where
    by_time : (b : Bool) → nat_le c.creation.at time ≡ b → time < c.creation.at
    by_time true h =
        absurd (some_not_none (sym (owns_from namespace changes t fits still known key valid time
        (record { creation = c.creation; begun = c.begun; name = c.name; before = leb-true _ _ h })) ∙ none))
    by_time false h = leb-false _ _ h
