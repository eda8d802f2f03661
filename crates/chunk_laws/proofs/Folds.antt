-- What the changes of a catalogue make of a collection's table.
use Rattle.std.proofs.Common.{◌≡◌, ◌≢◌, ℕ, ◌+◌, ◌≤◌, List, [], ◌∷◌, refl, sym, ap, subst, ◌∙◌, arith, rules, Less}
use Rattle.std.specs.Prelude.{Bool, true, false, ◌&&◌, Option, Some, None, map, nat_le, if◌then◌else◌}
use Rattle.std.specs.List.{AllByRecursion}
use Rattle.std.specs.Str.{bytes_eq}
use Rattle.std.proofs.lemmas.Slice.Eq.{bytes_eq-Decides}
use Rattle.bson_model.specs.Tree.{Datum}
use Rattle.bson_model.proofs.Booleans.{both}
use Rattle.value_model.specs.Order.{order}
use Rattle.value_model.specs.Keys.{is_key, Bound, Range, min_bound, value_of_bound, order_bounds, range_span, inside}
use Rattle.value_model.proofs.Spans.{whole_inside}
use Rattle.value_model.proofs.Flat.{order_total}
use Rattle.std.proofs.lemmas.Cmp.{alike_right}
use Rattle.chunk_model.specs.Versions.{Version}
use Rattle.chunk_model.specs.Catalogue.{Creation, Split, Commit}
use Rattle.chunk_model.specs.Tables.{Owned, Chunk, Table, first_table, first_shard, newest, owner_among, collection_version}
use Rattle.chunk_model.specs.Changes.{Change, create_change, split_change, commit_change, namespace_of, same_range, chunk_with, moved_chunk, can_split, split_chunks, commit_table, known_table, table_after}
use Rattle.chunk_model.specs.Placement.{owner, CommitFits, ChangeFits, AreFitting, CoverFrom, Covers}
use Rattle.chunk_model.specs.Targets.{overlap}
use Rattle.chunk_laws.proofs.Orders.{equal_is, eq_le, not_lt, eq_turned}
use Rattle.chunk_laws.proofs.Owners.{owners_of, Below, begins, AllBegin, all_begin}
use Rattle.chunk_laws.proofs.Splits.{split_owners, split_cover}
use Rattle.chunk_laws.proofs.Moves.{moved_cover, lowest_cover, lowest_owners, moved_others, moved_keys, late_out}
use Rattle.chunk_laws.proofs.Majors.{OfEpoch, split_all, moved_all, lowest_all}

-- the shard that owns a key after all changes
abbrev pub latest : List ℕ → Datum → List Change → Option ℕ
latest namespace key [] = None
latest namespace key (x ∷ older) = elim x [
  | create_change c ↦ if bytes_eq c.namespace namespace then Some first_shard else latest namespace key older
  | split_change s ↦ latest namespace key older
  | commit_change c ↦ if bytes_eq c.namespace namespace && inside (range_span c.range) key then Some c.to else latest namespace key older
]

-- the range of the chunk that was found goes up
pub range_up : (r : Range) (e : Chunk) (start : Bound) (chunks : List Chunk) → CoverFrom start chunks → chunk_with r chunks ≡ Some e
    → order_bounds r.min r.max ≡ Less
range_up r e start [] cover f = absurd cc
range_up r e start (c ∷ chunks) cover f = by_test (same_range c.range r) refl f (range_up r e c.range.max chunks cover.2)
  where
    by_test : (b : Bool) → same_range c.range r ≡ b → (if b then Some c else chunk_with r chunks) ≡ Some e → (chunk_with r chunks ≡ Some e
        → order_bounds r.min r.max ≡ Less) → order_bounds r.min r.max ≡ Less
    by_test true same g rest =
        let s = both _ _ same in
        sym (order_total.congr (value_of_bound c.range.min) (value_of_bound r.min) (value_of_bound r.max) (equal_is _ s.0))
        ∙ sym (alike_right order_total (value_of_bound c.range.max) (value_of_bound r.max) (value_of_bound c.range.min) (equal_is _ s.1))
        ∙ cover.1
    by_test false is g rest = rest g

-- of a cover, a chunk of this range is the one that was found, and any other does not overlap it
pub record Sole (r : Range) (e d : Chunk) : Type 0 where
  pub same : same_range d.range r ≡ true → d ≡ e
  pub other : same_range d.range r ≡ false → overlap d.range r ≡ false

all_late : (r : Range) (e : Chunk) (start : Bound) (chunks : List Chunk) → order_bounds r.min r.max ≡ Less → Below r.max start
    → AllBegin start chunks → AllByRecursion (Sole r e) chunks
all_late r e start [] up end all = tt
all_late r e start (d ∷ chunks) up end all =
    let out = late_out r start d end up all.0 in
    (record { same = λ same. absurd (let n = out.0 in cc); other = λ h. out.1 }, all_late r e start chunks up end all.1)

sole_here : (r : Range) (e c : Chunk) → same_range c.range r ≡ true → Some c ≡ Some e → Sole r e c
sole_here r e c is g = record { same = λ h. cc; other = λ h. absurd cc }

pub sole : (r : Range) (e : Chunk) (start : Bound) (chunks : List Chunk) → order_bounds r.min r.max ≡ Less → CoverFrom start chunks
    → chunk_with r chunks ≡ Some e → AllByRecursion (Sole r e) chunks
sole r e start [] up cover f = tt
sole r e start (c ∷ chunks) up cover f = by_test (same_range c.range r) refl f (sole r e c.range.max chunks up cover.2)
  where
    no_overlap : (b : Bool) → overlap c.range r ≡ b → Below c.range.max r.min → b ≡ false
    no_overlap true over low = sym (both _ _ over).1 ∙ not_lt (value_of_bound r.min) (value_of_bound c.range.max) low
    no_overlap false over low = refl

    by_test : (b : Bool) → same_range c.range r ≡ b → (if b then Some c else chunk_with r chunks) ≡ Some e → (chunk_with r chunks ≡ Some e
        → AllByRecursion (Sole r e) chunks) → Sole r e c × AllByRecursion (Sole r e) chunks
    by_test true is g rest =
        let end : Below r.max c.range.max = eq_le (order (value_of_bound r.max) (value_of_bound c.range.max)) (eq_turned (value_of_bound c.range.max)
        (value_of_bound r.max) (both _ _ is).1) in
        (sole_here r e c is g, all_late r e c.range.max chunks up end (all_begin c.range.max chunks cover.2))
    by_test false is g rest =
        let low : Below c.range.max r.min = begins r e c.range.max chunks cover.2 g in
        (record { same = λ h. absurd (cc); other = λ h. no_overlap (overlap c.range r) refl low }, rest g)

pub same_name : (a b : List ℕ) → bytes_eq a b ≡ true → a ≡ b
same_name a b e = search (rules, bytes_eq-Decides)

-- what is so of a table that fitting changes make
pub record IsPlaced (namespace : List ℕ) (changes : List Change) (t : Table) : Type 0 where
  pub covers : Covers t.chunks
  pub owners : (key : Datum) (time : ℕ) → is_key key ≡ true → owner_among time (owners_of key t.chunks) ≡ owner namespace key time changes
  pub last : (key : Datum) → is_key key ≡ true → newest (owners_of key t.chunks) ≡ latest namespace key changes
  pub epochs : OfEpoch t.epoch t.chunks
  pub majors : AllByRecursion (λ c. 1 ≤ c.version.major) t.chunks

pub record IsAbsent (namespace : List ℕ) (changes : List Change) : Type 0 where
  pub owners : (key : Datum) (time : ℕ) → owner namespace key time changes ≡ None
  pub last : (key : Datum) → latest namespace key changes ≡ None

abbrev pub IsSound : List ℕ → List Change → Option Table → Type 0
IsSound namespace changes None = IsAbsent namespace changes
IsSound namespace changes (Some t) = IsPlaced namespace changes t

create_placed : (ns : List ℕ) (older : List Change) (c : Creation) → bytes_eq c.namespace ns ≡ true → IsAbsent ns older
    → IsPlaced ns (create_change c ∷ older) (first_table c)
create_placed ns older c same none = record {
  covers = (refl, refl, refl);
  owners = λ key time valid. rw (whole_inside key valid, same, none.owners key time) refl;
  last = λ key valid. rw (whole_inside key valid, same) refl;
  epochs = (refl, tt);
  majors = (omega arith, tt);
}

split_placed : (ns : List ℕ) (older : List Change) (s : Split) (t : Table) → (b : Bool) → IsPlaced ns older t
    → IsPlaced ns (split_change s ∷ older) (if b then
    (record { namespace = t.namespace; epoch = t.epoch; changes = t.changes + 1; oldest = t.oldest; chunks = split_chunks s.middle t.chunks t.chunks }) else t)
split_placed ns older s t true p = record {
  covers = split_cover s.middle t.chunks min_bound t.chunks p.covers;
  owners = λ key time valid. ap (owner_among time) (split_owners s.middle key t.chunks t.chunks) ∙ p.owners key time valid;
  last = λ key valid. ap newest (split_owners s.middle key t.chunks t.chunks) ∙ p.last key valid;
  epochs = split_all (λ c. c.version.epoch ≡ t.epoch) s.middle t.chunks t.chunks (λ c minor within e. (e, e)) p.epochs;
  majors = split_all (λ c. 1 ≤ c.version.major) s.middle t.chunks t.chunks (λ c minor within e. (e, e)) p.majors;
}
split_placed ns older s t false p = record { covers = p.covers; owners = p.owners; last = p.last; epochs = p.epochs; majors = p.majors }

-- a commit, where it fits
pub record Commits (c : Commit) (t : Table) (e : Chunk) : Type 0 where
  pub range : chunk_with c.range t.chunks ≡ Some e
  pub owner : newest e.owners ≡ Some c.from
  pub apart : c.from ≢ c.to

abbrev major_after : Table → ℕ
major_after t = (collection_version t).major + 1

abbrev moved_version : Table → Version
moved_version t = record { epoch = t.epoch; major = major_after t; minor = 0 }

abbrev lowest_version : Table → Version
lowest_version t = record { epoch = t.epoch; major = major_after t; minor = 1 }

abbrev owned_by : Commit → Owned
owned_by c = record { since = c.at; shard = c.to }

abbrev moved_of : Commit → Table → List Chunk
moved_of c t = map (moved_chunk c.range (moved_version t) (owned_by c)) t.chunks

commit_owners_in : (c : Commit) (t : Table) (e : Chunk) (key : Datum) → Covers t.chunks → Commits c t e → inside (range_span c.range) key ≡ true
    → owners_of key (commit_table c t).chunks ≡ owned_by c ∷ owners_of key t.chunks
commit_owners_in c t e key cover fits has =
    lowest_owners c.from (lowest_version t) key (moved_of c t)
    ∙ moved_keys c.range (moved_version t) (owned_by c) e key min_bound t.chunks cover fits.range has

commit_owners_out : (c : Commit) (t : Table) (key : Datum) → inside (range_span c.range) key ≡ false
    → owners_of key (commit_table c t).chunks ≡ owners_of key t.chunks
commit_owners_out c t key out =
    lowest_owners c.from (lowest_version t) key (moved_of c t)
    ∙ moved_others c.range (moved_version t) (owned_by c) key t.chunks out

commit_placed : (ns : List ℕ) (older : List Change) (c : Commit) (t : Table) (e : Chunk) → bytes_eq c.namespace ns ≡ true → Commits c t e
    → IsPlaced ns older t → IsPlaced ns (commit_change c ∷ older) (commit_table c t)
commit_placed ns older c t e same fits p = record {
  covers = lowest_cover c.from (lowest_version t) min_bound (moved_of c t) (moved_cover c.range (moved_version t) (owned_by c) min_bound t.chunks p.covers);
  owners = λ key time valid. by_owner key time valid (inside (range_span c.range) key) refl;
  last = λ key valid. by_last key valid (inside (range_span c.range) key) refl;
  epochs = lowest_all (λ d. d.version.epoch ≡ t.epoch) c.from (lowest_version t) (moved_of c t) (λ d h. refl)
      (moved_all (λ d. d.version.epoch ≡ t.epoch) (λ d. d.version.epoch ≡ t.epoch) c.range (moved_version t) (owned_by c) t.chunks (λ d s h. refl)
      (λ d s h. h) p.epochs);
  majors = lowest_all (λ d. 1 ≤ d.version.major) c.from (lowest_version t) (moved_of c t) (λ d h. omega arith)
      (moved_all (λ d. 1 ≤ d.version.major) (λ d. 1 ≤ d.version.major) c.range (moved_version t) (owned_by c) t.chunks (λ d s h. omega arith)
      (λ d s h. h) p.majors);
}
  where
    by_owner : (key : Datum) (time : ℕ) → is_key key ≡ true → (b : Bool) → inside (range_span c.range) key ≡ b
        → owner_among time (owners_of key (commit_table c t).chunks) ≡ owner ns key time (commit_change c ∷ older)
    by_owner key time valid true has = rw (commit_owners_in c t e key p.covers fits has, same, has) (by_time (nat_le c.at time))
      where
        by_time : (b : Bool) → (if b then Some c.to else owner_among time (owners_of key t.chunks)) ≡
            (if b && true then Some c.to else owner ns key time older)
        by_time true = refl
        by_time false = p.owners key time valid
    by_owner key time valid false out = rw (commit_owners_out c t key out, same, out) (by_time (nat_le c.at time))
      where
        by_time : (b : Bool) → owner_among time (owners_of key t.chunks) ≡ (if b && false then Some c.to else owner ns key time older)
        by_time true = p.owners key time valid
        by_time false = p.owners key time valid

    by_last : (key : Datum) → is_key key ≡ true → (b : Bool) → inside (range_span c.range) key ≡ b
        → newest (owners_of key (commit_table c t).chunks) ≡ latest ns key (commit_change c ∷ older)
    by_last key valid true has = rw (commit_owners_in c t e key p.covers fits has, same, has) refl
    by_last key valid false out = rw (commit_owners_out c t key out, same, out) (p.last key valid)

skipped : (ns : List ℕ) (x : Change) (older : List Change) (o : Option Table) → bytes_eq (namespace_of x) ns ≡ false → IsSound ns older o
    → IsSound ns (x ∷ older) o
skipped ns x older o other s = by_table o s
  where
    owner_stays : (y : Change) → bytes_eq (namespace_of y) ns ≡ false → (key : Datum) (time : ℕ) → owner ns key time (y ∷ older) ≡ owner ns key time older
    owner_stays (create_change c) h key time = rw h refl
    owner_stays (split_change c) h key time = refl
    owner_stays (commit_change c) h key time = rw h refl

    last_stays : (y : Change) → bytes_eq (namespace_of y) ns ≡ false → (key : Datum) → latest ns key (y ∷ older) ≡ latest ns key older
    last_stays (create_change c) h key = rw h refl
    last_stays (split_change c) h key = refl
    last_stays (commit_change c) h key = rw h refl

    by_table : (q : Option Table) → IsSound ns older q → IsSound ns (x ∷ older) q
    by_table None k = record { owners = λ key time. owner_stays x other key time ∙ k.owners key time; last = λ key. last_stays x other key ∙ k.last key }
    by_table (Some t) k = record {
      covers = k.covers;
      owners = λ key time valid. k.owners key time valid ∙ sym (owner_stays x other key time);
      last = λ key valid. k.last key valid ∙ sym (last_stays x other key);
      epochs = k.epochs;
      majors = k.majors;
    }

pub some_is : (t u : Table) → Some t ≡ Some u → t ≡ u
some_is t u e = cc

-- what a commit needs, of the table that is known
pub commits_here : (ns : List ℕ) (older : List Change) (c : Commit) (t : Table) → bytes_eq c.namespace ns ≡ true → known_table ns older ≡ Some t
    → CommitFits c older → (e : Chunk) × Commits c t e
commits_here ns older c t same is fits =
    let name : c.namespace ≡ ns = same_name _ _ same in
    let one : fits.table ≡ t = some_is _ _ (sym fits.known ∙ ap (λ n. known_table n older) name ∙ is) in
    (fits.chunk, record { range = ap (λ (u : Table). chunk_with c.range u.chunks) (sym one) ∙ fits.range; owner = fits.owner; apart = fits.apart })

here : (ns : List ℕ) (x : Change) (older : List Change) (o : Option Table) → ChangeFits x older → bytes_eq (namespace_of x) ns ≡ true
    → known_table ns older ≡ o → IsSound ns older o → IsSound ns (x ∷ older) (table_after x o)
here ns (create_change c) older None fits same is s = create_placed ns older c same s
here ns (create_change c) older (Some t) fits same is s =
    let name : c.namespace ≡ ns = same_name _ _ same in
    absurd (let two = sym fits.absent ∙ ap (λ n. known_table n older) name ∙ is in cc)
here ns (split_change c) older None fits same is s = record { owners = s.owners; last = s.last }
here ns (split_change c) older (Some t) fits same is s = split_placed ns older c t (can_split c.middle t.chunks) s
here ns (commit_change c) older None fits same is s =
    let name : c.namespace ≡ ns = same_name _ _ same in
    absurd (let two = sym fits.known ∙ ap (λ n. known_table n older) name ∙ is in cc)
here ns (commit_change c) older (Some t) fits same is s =
    let k = commits_here ns older c t same is fits in
    commit_placed ns older c t k.0 same k.1 s

pub sound : (ns : List ℕ) (changes : List Change) → AreFitting changes → IsSound ns changes (known_table ns changes)
sound ns [] fits = record { owners = λ key time. refl; last = λ key. refl }
sound ns (x ∷ older) fits = by_name (bytes_eq (namespace_of x) ns) refl (sound ns older fits.1)
  where
    by_name : (b : Bool) → bytes_eq (namespace_of x) ns ≡ b → IsSound ns older (known_table ns older)
        → IsSound ns (x ∷ older) (if b then table_after x (known_table ns older) else known_table ns older)
    by_name true same s = here ns x older (known_table ns older) fits.0.fits same refl s
    by_name false other s = skipped ns x older (known_table ns older) other s

pub placed : (ns : List ℕ) (changes : List Change) (t : Table) → AreFitting changes → known_table ns changes ≡ Some t → IsPlaced ns changes t
placed ns changes t fits is = subst (IsSound ns changes) is (sound ns changes fits)
