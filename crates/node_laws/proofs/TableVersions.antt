-- Where no change moves a chunk, all tables of a collection agree in their versions.
use Rattle.std.proofs.Common.{◌≡◌, ℕ, ◌+◌, ◌≤◌, List, [], ◌∷◌, ◌++◌, refl, sym, ap, subst, ◌∙◌, arith, Bool}
use Rattle.std.specs.Prelude.{Option, Some, None, true, false, if◌then◌else◌}
use Rattle.std.specs.List.{AllByRecursion}
use Rattle.std.specs.Option.{option_map}
use Rattle.std.specs.Str.{bytes_eq}
use Rattle.std.proofs.lemmas.Bool.Decides.{nat_tests}
use Rattle.bson_model.specs.Tree.{Datum}
use Rattle.history_model.specs.History.{IsIn}
use Rattle.history_model.proofs.Lists.{all_weaken, in_first, in_later, in_back}
use Rattle.chunk_model.specs.Catalogue.{Creation}
use Rattle.chunk_model.specs.Versions.{Version, agrees, is_later, no_chunk}
use Rattle.chunk_model.specs.Tables.{Chunk, Table, first_shard, first_chunk, first_table, is_owner, chunks_on, collection_version, shard_version}
use Rattle.chunk_model.specs.Changes.{Change, create_change, split_change, commit_change, namespace_of, strictly_inside, can_split, greatest_minor, lower_half, upper_half, split_chunks, split_table, table_after, known_table}
use Rattle.chunk_model.specs.Placement.{Follows, AreFitting}
use Rattle.chunk_model.specs.Verdicts.{fits, sent_by, verdict_of}
use Rattle.chunk_laws.proofs.Majors.{top, top_most, greatest_is, split_all}
use Rattle.node_laws.proofs.Views.{View, changes_in, MovesNothing, account_in}
use Rattle.node_laws.proofs.CatalogueTables.{IsCreated, same_name, one_creation, some_created, table_name}
use Rattle.node_laws.proofs.SeenStatements.{true_false}
use Rattle.reply_model.specs.Exchanges.{Asked, Answered}
use Rattle.reply_model.specs.Outcomes.{Try, most_tries}
use Rattle.reply_model.specs.Right.{HadVersion, WereStale}
use Rattle.node_laws.proofs.Facts.{IsKnownTable}
use Rattle.node_laws.proofs.KnownTables.{older_still}

-- a chunk as its collection began with, but for its range and minor number
record IsUnmoved (epoch : ℕ) (c : Chunk) : Type 0 where
  pub epoch_is : c.version.epoch ≡ epoch
  pub major_is : c.version.major ≡ 1
  pub owner : is_owner first_shard c.owners ≡ true

record AreUnmoved (epoch : ℕ) (t : Table) : Type 0 where
  pub epoch_is : t.epoch ≡ epoch
  pub first : Chunk
  pub rest : List Chunk
  pub some : t.chunks ≡ first ∷ rest
  pub each : AllByRecursion (IsUnmoved epoch) t.chunks

-- SPLITS

some_split : (middle : Datum) (all : List Chunk) (c : Chunk) (chunks : List Chunk)
    → (first : Chunk) × (rest : List Chunk) × (split_chunks middle all (c ∷ chunks) ≡ first ∷ rest)
some_split middle all c chunks = by_test (strictly_inside middle c.range)
  where
    minor : ℕ
    minor = greatest_minor 0 c.version.major all

    by_test : (b : Bool) → (first : Chunk) × (rest : List Chunk)
        × ((if b then lower_half middle minor c ∷ upper_half middle minor c ∷ split_chunks middle all chunks else c ∷ split_chunks middle all chunks) ≡ first ∷ rest)
    by_test true = (lower_half middle minor c, upper_half middle minor c ∷ split_chunks middle all chunks, refl)
    by_test false = (c, split_chunks middle all chunks, refl)

split_unmoved : (middle : Datum) (epoch : ℕ) (t : Table) → AreUnmoved epoch t → AreUnmoved epoch (split_table middle t)
split_unmoved middle epoch t u = by_can (can_split middle t.chunks)
  where
    by_can : (b : Bool) → AreUnmoved epoch (if b then
        (record { namespace = t.namespace; epoch = t.epoch; changes = t.changes + 1; oldest = t.oldest; chunks = split_chunks middle t.chunks t.chunks }) else t)
    by_can true =
        let some = some_split middle t.chunks u.first u.rest in
        record {
          epoch_is = u.epoch_is;
          first = some.0;
          rest = some.1;
          some = ap (λ l. split_chunks middle t.chunks l) u.some ∙ some.2;
          each = split_all (IsUnmoved epoch) middle t.chunks t.chunks
              (λ c minor within h. (
                record { epoch_is = h.epoch_is; major_is = h.major_is; owner = h.owner },
                record { epoch_is = h.epoch_is; major_is = h.major_is; owner = h.owner },
              )) u.each;
        }
    by_can false = u

-- WHAT CHANGES MAKE

record MadeOf (namespace : List ℕ) (changes : List Change) (t : Table) : Type 0 where
  pub creation : Creation
  pub begun : IsIn (create_change creation) changes
  pub name : creation.namespace ≡ namespace
  pub chunks : AreUnmoved creation.epoch t

made_later : (namespace : List ℕ) (x : Change) (changes : List Change) (t : Table) → MadeOf namespace changes t → MadeOf namespace (x ∷ changes) t
made_later namespace x changes t m =
    record { creation = m.creation; begun = in_later (create_change m.creation) x changes m.begun; name = m.name; chunks = m.chunks }

made_of : (namespace : List ℕ) (changes : List Change) (t : Table) → AreFitting changes → AllByRecursion MovesNothing changes
    → known_table namespace changes ≡ Some t → MadeOf namespace changes t
made_of namespace [] t fitting still known = absurd (cc)
made_of namespace (x ∷ older) t fitting still known =
    by_name (bytes_eq (namespace_of x) namespace) refl known (λ u e. made_of namespace older u fitting.1 still.1 e)
  where
    split_made : (s : Datum) (o : Option Table) → option_map (split_table s) o ≡ Some t → ((u : Table) → o ≡ Some u → MadeOf namespace older u)
        → MadeOf namespace older t
    split_made s None e more = absurd (cc)
    split_made s (Some u) e more =
        let same : split_table s u ≡ t = cc in
        let m = more u refl in
        record {
          creation = m.creation;
          begun = m.begun;
          name = m.name;
          chunks = subst (λ v. AreUnmoved m.creation.epoch v) same (split_unmoved s m.creation.epoch u m.chunks);
        }

    by_change : (y : Change) → Follows y older → MovesNothing y → bytes_eq (namespace_of y) namespace ≡ true
        → table_after y (known_table namespace older) ≡ Some t
        → ((u : Table) → known_table namespace older ≡ Some u → MadeOf namespace older u) → MadeOf namespace (y ∷ older) t
    by_change (create_change c) f st h e more =
        let name : c.namespace ≡ namespace = same_name c.namespace namespace h in
        let none : known_table namespace older ≡ None = ap (λ n. known_table n older) (sym name) ∙ f.fits.absent in
        let is : Some (first_table c) ≡ Some t = ap (λ o. table_after (create_change c) o) (sym none) ∙ e in
        let same : first_table c ≡ t = cc in
        record {
          creation = c;
          begun = in_first (create_change c) older;
          name = name;
          chunks = subst (λ v. AreUnmoved c.epoch v) same (record {
            epoch_is = refl;
            first = first_chunk c;
            rest = [];
            some = refl;
            each = (record { epoch_is = refl; major_is = refl; owner = refl }, tt);
          });
        }
    by_change (split_change s) f st h e more =
        made_later namespace (split_change s) older t (split_made s.middle (known_table namespace older) e more)
    by_change (commit_change m) f st h e more = absurd st

    by_name : (b : Bool) → bytes_eq (namespace_of x) namespace ≡ b
        → (if b then table_after x (known_table namespace older) else known_table namespace older) ≡ Some t
        → ((u : Table) → known_table namespace older ≡ Some u → MadeOf namespace older u) → MadeOf namespace (x ∷ older) t
    by_name true h e more = by_change x fitting.0 still.0 h e more
    by_name false h e more = made_later namespace x older t (more t e)

-- VERSIONS

all_on : (epoch : ℕ) (chunks : List Chunk) → AllByRecursion (IsUnmoved epoch) chunks → chunks_on first_shard chunks ≡ chunks
all_on epoch [] all = refl
all_on epoch (c ∷ chunks) all = rw all.0.owner (ap (λ l. c ∷ l) (all_on epoch chunks all.1))

top_one : (epoch : ℕ) (chunks : List Chunk) (first : Chunk) (rest : List Chunk) → chunks ≡ first ∷ rest → AllByRecursion (IsUnmoved epoch) chunks
    → top chunks ≡ 1
top_one epoch chunks first rest is all =
    let each = subst (λ l. AllByRecursion (IsUnmoved epoch) l) is all in
    let one = each.0.major_is in
    let most : top rest ≤ 1 = top_most 1 rest (all_weaken (IsUnmoved epoch) (λ c. c.version.major ≤ 1) rest (λ c h. let m = h.major_is in omega arith) each.1) in
    ap (λ l. top l) is ∙ omega arith

record VersionIs (epoch : ℕ) (v : Version) : Type 0 where
  pub epoch_is : v.epoch ≡ epoch
  pub major_is : v.major ≡ 1

greatest_one : (epoch : ℕ) (t : Table) → AreUnmoved epoch t → VersionIs epoch (collection_version t)
greatest_one epoch t u =
    let g = greatest_is (no_chunk t.epoch) t.chunks
    (all_weaken (IsUnmoved epoch) (λ c. c.version.epoch ≡ t.epoch) t.chunks (λ c h. h.epoch_is ∙ sym u.epoch_is) u.each) in
    let one : top t.chunks ≡ 1 = top_one epoch t.chunks u.first u.rest u.some u.each in
    let m = g.major in
    record { epoch_is = g.epoch ∙ u.epoch_is; major_is = omega arith }

shard_one : (epoch : ℕ) (t : Table) → AreUnmoved epoch t → VersionIs epoch (shard_version t first_shard)
shard_one epoch t u = rw (all_on epoch t.chunks u.each) (greatest_one epoch t u)

not_later : (a b : Version) → a.epoch ≡ b.epoch → a.major ≡ b.major → is_later a b ≡ false
not_later a b epoch major = grind (arith, nat_tests)

they_agree : (a b : Version) → a.epoch ≡ b.epoch → a.major ≡ b.major → agrees a b ≡ true
they_agree a b epoch major = grind (arith, nat_tests)

-- what was sent with one of two tables that the catalogue had fits the other
pub known_fits : (v : View) (early late : ℕ) (t u : Table) → AreFitting (changes_in v) → IsKnownTable v early t → IsKnownTable v late u
    → t.namespace ≡ u.namespace → verdict_of (sent_by t first_shard) first_shard (Some u) ≡ fits
known_fits v early late t u fitting k l name =
    let a = made_of t.namespace k.older t k.fitting (older_still v early t k) k.known in
    let b = made_of u.namespace l.older u l.fitting (older_still v late u l) l.known in
    let first : IsIn (create_change a.creation) (changes_in v) =
    subst (λ x. IsIn (create_change a.creation) x) (sym k.all) (in_back (create_change a.creation) k.more k.older a.begun) in
    let second : IsIn (create_change b.creation) (changes_in v) =
    subst (λ x. IsIn (create_change b.creation) x) (sym l.all) (in_back (create_change b.creation) l.more l.older b.begun) in
    let one : a.creation ≡ b.creation = one_creation a.creation b.creation (changes_in v) fitting first second (a.name ∙ name ∙ sym b.name) in
    let same : a.creation.epoch ≡ b.creation.epoch = ap (λ (c : Creation). c.epoch) one in
    let ca = greatest_one a.creation.epoch t a.chunks in
    let cb = greatest_one b.creation.epoch u b.chunks in
    let sa = shard_one a.creation.epoch t a.chunks in
    let sb = shard_one b.creation.epoch u b.chunks in
    rw (
      not_later (collection_version t) (collection_version u) (ca.epoch_is ∙ same ∙ sym cb.epoch_is) (ca.major_is ∙ sym cb.major_is),
      they_agree (shard_version t first_shard) (shard_version u first_shard) (sa.epoch_is ∙ same ∙ sym sb.epoch_is) (sa.major_is ∙ sym sb.major_is),
    ) refl

-- nor is its version later
known_not_later : (v : View) (early late : ℕ) (t u : Table) → AreFitting (changes_in v) → IsKnownTable v early t → IsKnownTable v late u
    → t.namespace ≡ u.namespace → is_later (collection_version t) (collection_version u) ≡ false
known_not_later v early late t u fitting k l name =
    let a = made_of t.namespace k.older t k.fitting (older_still v early t k) k.known in
    let b = made_of u.namespace l.older u l.fitting (older_still v late u l) l.known in
    let first : IsIn (create_change a.creation) (changes_in v) =
    subst (λ x. IsIn (create_change a.creation) x) (sym k.all) (in_back (create_change a.creation) k.more k.older a.begun) in
    let second : IsIn (create_change b.creation) (changes_in v) =
    subst (λ x. IsIn (create_change b.creation) x) (sym l.all) (in_back (create_change b.creation) l.more l.older b.begun) in
    let one : a.creation ≡ b.creation = one_creation a.creation b.creation (changes_in v) fitting first second (a.name ∙ name ∙ sym b.name) in
    let same : a.creation.epoch ≡ b.creation.epoch = ap (λ (c : Creation). c.epoch) one in
    let ca = greatest_one a.creation.epoch t a.chunks in
    let cb = greatest_one b.creation.epoch u b.chunks in
    not_later (collection_version t) (collection_version u) (ca.epoch_is ∙ same ∙ sym cb.epoch_is) (ca.major_is ∙ sym cb.major_is)

back_fits : (more older : List Change) → AreFitting (more ++ older) → AreFitting older
back_fits [] older all = all
back_fits (x ∷ more) older all = back_fits more older all.1

had_known : (v : View) (namespace : List ℕ) (version : Version) → AreFitting (changes_in v) → AllByRecursion MovesNothing (changes_in v)
    → (h : HadVersion (changes_in v) namespace version) → IsKnownTable v (some_created namespace h.older h.table h.known).creation.at h.table
had_known v namespace version fitting still h =
    let c : IsCreated h.older namespace = some_created namespace h.older h.table h.known in
    let name : h.table.namespace ≡ namespace = table_name namespace h.older h.table h.known in
    record {
      more = h.later;
      older = h.older;
      all = h.all;
      begun = record { creation = c.creation; begun = c.begun; name = c.name ∙ sym name; before = omega arith };
      known = ap (λ n. known_table n h.older) name ∙ h.known;
      fitting = back_fits h.later h.older (subst (λ l. AreFitting l) h.all fitting);
      still = still;
    }

-- so nothing was stale
pub never_were_stale : (v : View) (asked : List Asked) (answered : List Answered) (a : Asked) (namespace : List ℕ) (tries : List Try) → AreFitting (changes_in v)
    → AllByRecursion MovesNothing (changes_in v) → WereStale (account_in v asked answered) a namespace tries → ⊥
never_were_stale v asked answered a namespace [] fitting still were = let none : 0 ≡ most_tries = were.all in omega (arith, none)
never_were_stale v asked answered a namespace (x ∷ tries) fitting still were =
    let met = were.had.0.1 in
    let sent = were.had.0.0 in
    let k = had_known v namespace x.met fitting still met in
    let l = had_known v namespace x.sent fitting still sent in
    let none = known_not_later v (some_created namespace met.older met.table met.known).creation.at (some_created namespace sent.older sent.table sent.known).creation.at
    met.table sent.table fitting k l
    (table_name namespace met.older met.table met.known ∙ sym (table_name namespace sent.older sent.table sent.known)) in
    true_false (sym were.turns.0 ∙ ap (λ v. is_later v x.sent) (sym met.same) ∙ ap (λ v. is_later (collection_version met.table) v) (sym sent.same) ∙ none)
