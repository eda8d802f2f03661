-- Of two tables that fronts of the same changes make, a shard's version says which keys it has.
use Rattle.std.proofs.Common.{◌≡◌, ◌≢◌, ◌⊎◌, inl, inr, ℕ, ◌+◌, ◌≤◌, ◌<◌, List, [], ◌∷◌, ◌++◌, refl, sym, ap, subst, ◌∙◌, arith}
use Rattle.std.specs.Prelude.{Bool, true, false, ◌&&◌, ◌==◌, Option, Some, None, map, nat_le, if◌then◌else◌}
use Rattle.std.specs.List.{AllByRecursion}
use Rattle.std.specs.Str.{bytes_eq}
use Rattle.std.proofs.lemmas.Bool.{eqb-true, eqb-false, leb-true}
use Rattle.std.proofs.Common.{eq-eqb}
use Rattle.std.proofs.lemmas.Bool.Decides.{nat_tests}
use Rattle.bson_model.specs.Tree.{Datum}
use Rattle.bson_model.proofs.Booleans.{both}
use Rattle.value_model.specs.Keys.{is_key, Range, min_bound, range_span, inside}
use Rattle.chunk_model.specs.Versions.{Version, agrees}
use Rattle.chunk_model.specs.Catalogue.{Split, Commit}
use Rattle.chunk_model.specs.Tables.{Owned, Chunk, Table, first_shard, newest, is_owner, chunks_on, owner_now, owner_at, collection_version, shard_version}
use Rattle.chunk_model.specs.Changes.{Change, create_change, split_change, commit_change, namespace_of, time_of, same_range, moved_chunk, with_lowest, can_split, split_chunks, commit_table, known_table}
use Rattle.chunk_model.specs.Placement.{owner, AreFitting, SameKeys}
use Rattle.chunk_laws.proofs.Owners.{owners_of, now_is, at_is}
use Rattle.chunk_laws.proofs.Moves.{is_in}
use Rattle.chunk_laws.proofs.Majors.{top, collection_major, shard_major, on_top, split_top, split_on, lowest_on, moved_on, recipient_top, donor_top}
use Rattle.chunk_laws.proofs.Folds.{latest, Sole, sole, range_up, IsPlaced, placed, Commits, some_is}
use Rattle.chunk_laws.proofs.Later.{Stays, Later, later, commit_top, older_fit}

some_nat : (a b : ℕ) → Some a ≡ Some b → a ≡ b
some_nat a b e = cc

-- the keys of the shard are the same, now and at each time
pub record Unmoved (ns : List ℕ) (s : ℕ) (old : List Change) (new : List Change) : Type 0 where
  pub on : (key : Datum) → is_key key ≡ true → latest ns key old ≡ Some s → latest ns key new ≡ Some s
  pub back : (key : Datum) → is_key key ≡ true → latest ns key new ≡ Some s → latest ns key old ≡ Some s
  pub always : (key : Datum) (time : ℕ) → is_key key ≡ true → latest ns key old ≡ Some s → owner ns key time new ≡ owner ns key time old

-- the shard has no chunk, or has a version that is above all of the old table, or was not touched
pub record Grown (ns : List ℕ) (s : ℕ) (old : List Change) (a : Table) (new : List Change) (t : Table) : Type 0 where
  pub high : top a.chunks ≤ top t.chunks
  pub how : (top (chunks_on s t.chunks) ≡ 0) ⊎ ((top a.chunks < top (chunks_on s t.chunks)) ⊎ Unmoved ns s old new)

-- a change that is about none of the keys of the shard
same_owner : (ns : List ℕ) (s : ℕ) (old new new2 : List Change) → ((key : Datum) → is_key key ≡ true → latest ns key new2 ≡ latest ns key new)
    → ((key : Datum) (time : ℕ) → owner ns key time new2 ≡ owner ns key time new) → Unmoved ns s old new → Unmoved ns s old new2
same_owner ns s old new new2 last owns u = record {
  on = λ key valid h. last key valid ∙ u.on key valid h;
  back = λ key valid h. u.back key valid (sym (last key valid) ∙ h);
  always = λ key time valid h. owns key time ∙ u.always key time valid h;
}

other_last : (ns : List ℕ) (x : Change) (older : List Change) → bytes_eq (namespace_of x) ns ≡ false → (key : Datum)
    → latest ns key (x ∷ older) ≡ latest ns key older
other_last ns (create_change c) older h key = rw h refl
other_last ns (split_change c) older h key = refl
other_last ns (commit_change c) older h key = rw h refl

other_owner : (ns : List ℕ) (x : Change) (older : List Change) → bytes_eq (namespace_of x) ns ≡ false → (key : Datum) (time : ℕ)
    → owner ns key time (x ∷ older) ≡ owner ns key time older
other_owner ns (create_change c) older h key time = rw h refl
other_owner ns (split_change c) older h key time = refl
other_owner ns (commit_change c) older h key time = rw h refl

grown_other : (ns : List ℕ) (s : ℕ) (old : List Change) (a : Table) (x : Change) (older : List Change) (t : Table)
    → bytes_eq (namespace_of x) ns ≡ false → Grown ns s old a older t → Grown ns s old a (x ∷ older) t
grown_other ns s old a x older t differs g = record { high = g.high; how = by_how g.how }
  where
    by_how : (top (chunks_on s t.chunks) ≡ 0) ⊎ ((top a.chunks < top (chunks_on s t.chunks)) ⊎ Unmoved ns s old older)
        → (top (chunks_on s t.chunks) ≡ 0) ⊎ ((top a.chunks < top (chunks_on s t.chunks)) ⊎ Unmoved ns s old (x ∷ older))
    by_how (inl e) = inl e
    by_how (inr (inl e)) = inr (inl e)
    by_how (inr (inr u)) = inr (inr (same_owner ns s old older (x ∷ older) (λ key valid. other_last ns x older differs key)
        (λ key time. other_owner ns x older differs key time) u))

grown_split : (ns : List ℕ) (s : ℕ) (old : List Change) (a : Table) (c : Split) (older : List Change) (t : Table) (b : Bool) → Grown ns s old a older t
    → Grown ns s old a (split_change c ∷ older) (if b then
    (record { namespace = t.namespace; epoch = t.epoch; changes = t.changes + 1; oldest = t.oldest; chunks = split_chunks c.middle t.chunks t.chunks }) else t)
grown_split ns s old a c older t false g = record { high = g.high; how = by_how g.how }
  where
    by_how : (top (chunks_on s t.chunks) ≡ 0) ⊎ ((top a.chunks < top (chunks_on s t.chunks)) ⊎ Unmoved ns s old older)
        → (top (chunks_on s t.chunks) ≡ 0) ⊎ ((top a.chunks < top (chunks_on s t.chunks)) ⊎ Unmoved ns s old (split_change c ∷ older))
    by_how (inl e) = inl e
    by_how (inr (inl e)) = inr (inl e)
    by_how (inr (inr u)) = inr (inr (same_owner ns s old older (split_change c ∷ older) (λ key valid. refl) (λ key time. refl) u))
grown_split ns s old a c older t true g = record {
  high = let k = g.high in let e = split_top c.middle t.chunks t.chunks in
      omega arith;
  how = by_how (split_on c.middle s t.chunks t.chunks) g.how;
}
  where
    by_how : top (chunks_on s (split_chunks c.middle t.chunks t.chunks)) ≡ top (chunks_on s t.chunks)
        → (top (chunks_on s t.chunks) ≡ 0) ⊎ ((top a.chunks < top (chunks_on s t.chunks)) ⊎ Unmoved ns s old older)
        → (top (chunks_on s (split_chunks c.middle t.chunks t.chunks)) ≡ 0) ⊎ ((top a.chunks < top (chunks_on s
        (split_chunks c.middle t.chunks t.chunks))) ⊎ Unmoved ns s old (split_change c ∷ older))
    by_how e (inl z) = inl (e ∙ z)
    by_how e (inr (inl z)) = inr (inl (omega arith))
    by_how e (inr (inr u)) = inr (inr (same_owner ns s old older (split_change c ∷ older) (λ key valid. refl) (λ key time. refl) u))

-- a commit that is neither from the shard nor to it
spared : (ns : List ℕ) (s : ℕ) (old older : List Change) (c : Commit) (t : Table) (e : Chunk) → bytes_eq c.namespace ns ≡ true → Commits c t e
    → IsPlaced ns older t → c.from ≢ s → c.to ≢ s → Unmoved ns s old older → Unmoved ns s old (commit_change c ∷ older)
spared ns s old older c t e same k p no_donor no_recipient u = record {
  on = λ key valid h. by_on key (u.on key valid h) valid (inside (range_span c.range) key) refl;
  back = λ key valid h. u.back key valid (by_back key (inside (range_span c.range) key) refl h);
  always = λ key time valid h. by_owner key time (u.on key valid h) valid (inside (range_span c.range) key) refl ∙ u.always key time valid h;
}
  where
    donor : (key : Datum) → is_key key ≡ true → inside (range_span c.range) key ≡ true → latest ns key older ≡ Some c.from
    donor key valid has = sym (p.last key valid) ∙ ap newest (is_in c.range e key min_bound t.chunks p.covers k.range has) ∙ k.owner

    never : (key : Datum) → is_key key ≡ true → inside (range_span c.range) key ≡ true → latest ns key older ≡ Some s → ⊥
    never key valid has h = let d = donor key valid has in no_donor (some_nat c.from s (sym d ∙ h))

    by_on : (key : Datum) → latest ns key older ≡ Some s → is_key key ≡ true → (b : Bool) → inside (range_span c.range) key ≡ b
        → latest ns key (commit_change c ∷ older) ≡ Some s
    by_on key own valid true has = absurd (never key valid has own)
    by_on key own valid false out = rw (same, out) own

    by_back : (key : Datum) → (b : Bool) → inside (range_span c.range) key ≡ b → latest ns key (commit_change c ∷ older) ≡ Some s
        → latest ns key older ≡ Some s
    by_back key true has own = absurd (no_recipient (some_nat c.to s (rw (same, has) at own)))
    by_back key false out own = rw (same, out) at own

    by_owner : (key : Datum) (time : ℕ) → latest ns key older ≡ Some s → is_key key ≡ true → (b : Bool) → inside (range_span c.range) key ≡ b
        → owner ns key time (commit_change c ∷ older) ≡ owner ns key time older
    by_owner key time own valid true has = absurd (never key valid has own)
    by_owner key time own valid false out = rw (same, out) (by_time (nat_le c.at time))
      where
        by_time : (b : Bool) → (if b && false then Some c.to else owner ns key time older) ≡ owner ns key time older
        by_time true = refl
        by_time false = refl

-- a commit from the shard or to it leaves it no chunk, or a version above all before
not_owner : (e : Chunk) (from s : ℕ) → newest e.owners ≡ Some from → (from == s) ≡ false → is_owner s e.owners ≡ false
not_owner e from s own apart = by_owners e.owners own
  where
    by_owners : (owners : List Owned) → newest owners ≡ Some from → is_owner s owners ≡ false
    by_owners [] h = refl
    by_owners (o ∷ owners) h = let i : o.shard ≡ from = some_nat _ _ h in ap (λ (n : ℕ). n == s) i ∙ apart

none_on : (r : Range) (e : Chunk) (s : ℕ) (chunks : List Chunk) → is_owner s e.owners ≡ false → AllByRecursion (Sole r e) chunks
    → AllByRecursion (λ d. same_range d.range r ≡ true → is_owner s d.owners ≡ false) chunks
none_on r e s [] others all = tt
none_on r e s (d ∷ chunks) others all = (
  λ same. let i : d ≡ e = all.0.same same in ap (λ (x : Chunk). is_owner s x.owners) i
      ∙ others,
  none_on r e s chunks others all.1,
)

grown_commit : (ns : List ℕ) (s : ℕ) (old : List Change) (a : Table) (c : Commit) (older : List Change) (t : Table) (e : Chunk)
    → bytes_eq c.namespace ns ≡ true → Commits c t e → IsPlaced ns older t → Grown ns s old a older t
    → Grown ns s old a (commit_change c ∷ older) (commit_table c t)
grown_commit ns s old a c older t e same k p g =
    let up = commit_top c t e p.epochs k.range in
    let high = g.high in
    record { high = omega arith; how = by_test (c.from == s) (c.to == s) refl refl g.how }
  where
    is : (collection_version t).major ≡ top t.chunks
    is = collection_major t p.epochs

    v : Version
    v = record { epoch = t.epoch; major = (collection_version t).major + 1; minor = 0 }

    w : Version
    w = record { epoch = t.epoch; major = (collection_version t).major + 1; minor = 1 }

    o : Owned
    o = record { since = c.at; shard = c.to }

    moved : List Chunk
    moved = map (moved_chunk c.range v o) t.chunks

    Outcome : Type 0
    Outcome = (top (chunks_on s (commit_table c t).chunks) ≡ 0) ⊎ ((top a.chunks < top (chunks_on s (commit_table c t).chunks)) ⊎ Unmoved ns s old
        (commit_change c ∷ older))

    from_donor : (top (chunks_on c.from (with_lowest c.from w moved)) ≡ 0) ⊎ ((collection_version t).major + 1 ≤ top (chunks_on c.from
        (with_lowest c.from w moved))) → c.from ≡ s → Outcome
    from_donor (inl z) i = inl (ap (λ n. top (chunks_on n (with_lowest c.from w moved))) (sym i) ∙ z)
    from_donor (inr z) i =
        let j : top (chunks_on c.from (with_lowest c.from w moved)) ≡ top (chunks_on s (with_lowest c.from w moved)) = ap (λ n. top (chunks_on n
        (with_lowest c.from w moved))) i in
        let h = g.high in let m = is in
        inr (inl (omega arith))

    by_test : (donor recipient : Bool) → (c.from == s) ≡ donor → (c.to == s) ≡ recipient
        → (top (chunks_on s t.chunks) ≡ 0) ⊎ ((top a.chunks < top (chunks_on s t.chunks)) ⊎ Unmoved ns s old older) → Outcome
    by_test true recipient d r how = from_donor (donor_top c.from w moved) (eqb-true _ _ d)
    by_test false true d r how =
        let i : c.to ≡ s = eqb-true _ _ r in
        let itself : (c.to == c.to) ≡ true = eq-eqb c.to c.to refl in
        let least : (collection_version t).major + 1 ≤ top (chunks_on c.to moved) = recipient_top c.range v o e t.chunks itself k.range in
        let j : top (chunks_on c.to moved) ≡ top (chunks_on s moved) = ap (λ n. top (chunks_on n moved)) i in
        let l : top (chunks_on s (with_lowest c.from w moved)) ≡ top (chunks_on s moved) = ap top (lowest_on c.from s w moved d) in
        let h = g.high in let m = is in
        inr (inl (omega arith))
    by_test false false d r how =
        let apart : is_owner s e.owners ≡ false = not_owner e c.from s k.owner d in
        let all = none_on c.range e s t.chunks apart (sole c.range e min_bound t.chunks
        (range_up c.range e min_bound t.chunks p.covers k.range) p.covers k.range) in
        let kept : top (chunks_on s (with_lowest c.from w moved)) ≡ top (chunks_on s t.chunks) = ap top (lowest_on c.from s w moved d
        ∙ moved_on c.range v o s t.chunks all r) in
        by_how kept how
      where
        by_how : top (chunks_on s (with_lowest c.from w moved)) ≡ top (chunks_on s t.chunks)
            → (top (chunks_on s t.chunks) ≡ 0) ⊎ ((top a.chunks < top (chunks_on s t.chunks)) ⊎ Unmoved ns s old older) → Outcome
        by_how kept (inl z) = inl (kept ∙ z)
        by_how kept (inr (inl z)) = inr (inl (omega arith))
        by_how kept (inr (inr u)) = inr (inr (spared ns s old older c t e same k p (eqb-false _ _ d) (eqb-false _ _ r) u))

grown_stays : (ns : List ℕ) (s : ℕ) (old : List Change) (a : Table) → Stays ns (Grown ns s old a)
grown_stays ns s old a = record {
  other = λ x older t fits is differs g. grown_other ns s old a x older t differs g;
  by_split = λ c older t fits is g. grown_split ns s old a c older t (can_split c.middle t.chunks) g;
  by_commit = λ c older t e fits is same k g. grown_commit ns s old a c older t e same k (placed ns older t fits.1 is) g;
}

-- a shard that owns a key has a version
owned_top : (s : ℕ) (key : Datum) (chunks : List Chunk) → AllByRecursion (λ c. 1 ≤ c.version.major) chunks → newest (owners_of key chunks) ≡ Some s
    → 1 ≤ top (chunks_on s chunks)
owned_top s key [] all own = absurd cc
owned_top s key (c ∷ chunks) all own = by_test (inside (range_span c.range) key) own (owned_top s key chunks all.1)
  where
    owns : (owners : List Owned) → newest owners ≡ Some s → is_owner s owners ≡ true
    owns [] h = absurd cc
    owns (o ∷ owners) h = let i : o.shard ≡ s = some_nat _ _ h in ap (λ (n : ℕ). n == s) i ∙ eq-eqb s s refl

    by_more : (b : Bool) → 1 ≤ top (chunks_on s chunks) → 1 ≤ top (if b then c ∷ chunks_on s chunks else chunks_on s chunks)
    by_more true k = omega arith
    by_more false k = k

    by_test : (b : Bool) → newest (if b then c.owners else owners_of key chunks) ≡ Some s → (newest (owners_of key chunks) ≡ Some s
        → 1 ≤ top (chunks_on s chunks)) → 1 ≤ top (chunks_on s (c ∷ chunks))
    by_test true h more = let k = all.0 in rw (owns c.owners h) (omega arith)
    by_test false h more = by_more (is_owner s c.owners) (more h)

leb-le : (a b : ℕ) → a ≤ b → nat_le a b ≡ true
leb-le a b less = grind (arith, nat_tests)

-- after all its changes a key's owner is the present one
owner_late : (ns : List ℕ) (key : Datum) (time : ℕ) (changes : List Change) → AllByRecursion (λ y. time_of y ≤ time) changes
    → owner ns key time changes ≡ latest ns key changes
owner_late ns key time [] all = refl
owner_late ns key time (create_change c ∷ older) all = rw (leb-le c.at time all.0) (by_name (bytes_eq c.namespace ns) (owner_late ns key time older all.1))
  where
    by_name : (b : Bool) → owner ns key time older ≡ latest ns key older
        → (if b && true then Some first_shard else owner ns key time older) ≡ (if b then Some first_shard else latest ns key older)
    by_name true e = refl
    by_name false e = e
owner_late ns key time (split_change c ∷ older) all = owner_late ns key time older all.1
owner_late ns key time (commit_change c ∷ older) all = rw (leb-le c.at time all.0) (by_name (bytes_eq c.namespace ns) (inside
    (range_span c.range) key) (owner_late ns key time older all.1))
  where
    by_name : (b has : Bool) → owner ns key time older ≡ latest ns key older
        → (if b && (true && has) then Some c.to else owner ns key time older) ≡ (if b && has then Some c.to else latest ns key older)
    by_name true true e = refl
    by_name true false e = e
    by_name false has e = e

-- a later change says nothing of a time
owner_before : (ns : List ℕ) (key : Datum) (time : ℕ) (x : Change) (older : List Change) → nat_le (time_of x) time ≡ false
    → owner ns key time (x ∷ older) ≡ owner ns key time older
owner_before ns key time (create_change c) older e = rw e (by_name (bytes_eq c.namespace ns))
  where
    by_name : (b : Bool) → (if b && false then Some first_shard else owner ns key time older) ≡ owner ns key time older
    by_name true = refl
    by_name false = refl
owner_before ns key time (split_change c) older e = refl
owner_before ns key time (commit_change c) older e = rw e (by_name (bytes_eq c.namespace ns))
  where
    by_name : (b : Bool) → (if b && (false && inside (range_span c.range) key) then Some c.to else owner ns key time older) ≡ owner ns key time older
    by_name true = refl
    by_name false = refl

all_before : (n m : ℕ) (more older : List Change) → n ≤ m → AllByRecursion (λ y. time_of y < n) (more ++ older) → AllByRecursion (λ y. time_of y ≤ m) older
all_before n m [] [] less all = tt
all_before n m [] (y ∷ older) less all = (let k = all.0 in omega arith, all_before n m [] older less all.1)
all_before n m (x ∷ more) older less all = all_before n m more older less all.1

-- a key that the shard owned at a time and gave away: all later changes are later than the time
owner_on : (ns : List ℕ) (key : Datum) (time s : ℕ) (more older : List Change) → AreFitting (more ++ older) → owner ns key time older ≡ Some s
    → (latest ns key older ≡ Some s → ⊥) → owner ns key time (more ++ older) ≡ Some s
owner_on ns key time s [] older fits own gone = own
owner_on ns key time s (x ∷ more) older fits own gone = by_time (nat_le (time_of x) time) refl (owner_on ns key time s more older fits.1 own gone)
  where
    by_time : (b : Bool) → nat_le (time_of x) time ≡ b → owner ns key time (more ++ older) ≡ Some s → owner ns key time (x ∷ (more ++ older)) ≡ Some s
    by_time true e rest =
        let all = all_before (time_of x) time more older (leb-true _ _ e) fits.0.later in
        absurd (gone (sym (owner_late ns key time older all) ∙ own))
    by_time false e rest = owner_before ns key time x (more ++ older) e ∙ rest

unmoved_start : (ns : List ℕ) (s : ℕ) (old : List Change) → Unmoved ns s old old
unmoved_start ns s old = record { on = λ key valid h. h; back = λ key valid h. h; always = λ key time valid h. refl }

module _ (ns : List ℕ) (s : ℕ) (more older : List Change) (a b : Table) (fits : AreFitting (more ++ older)) (p : IsPlaced ns older a)
    (q : IsPlaced ns (more ++ older) b) where
  now_old : (key : Datum) → is_key key ≡ true → owner_now a key ≡ latest ns key older
  now_old key valid = now_is a key ∙ p.last key valid

  now_new : (key : Datum) → is_key key ≡ true → owner_now b key ≡ latest ns key (more ++ older)
  now_new key valid = now_is b key ∙ q.last key valid

  at_old : (key : Datum) (time : ℕ) → is_key key ≡ true → owner_at a key time ≡ owner ns key time older
  at_old key time valid = at_is a key time ∙ p.owners key time valid

  at_new : (key : Datum) (time : ℕ) → is_key key ≡ true → owner_at b key time ≡ owner ns key time (more ++ older)
  at_new key time valid = at_is b key time ∙ q.owners key time valid

  gone_at : (key : Datum) (time : ℕ) → is_key key ≡ true → (latest ns key older ≡ Some s → ⊥) → owner_at a key time ≡ Some s → owner_at b key time ≡ Some s
  gone_at key time valid gone own = at_new key time valid ∙ owner_on ns key time s more older fits (sym (at_old key time valid) ∙ own) gone

  never_old : top (chunks_on s a.chunks) ≡ 0 → (key : Datum) → is_key key ≡ true → latest ns key older ≡ Some s → ⊥
  never_old z key valid h = let k = owned_top s key a.chunks p.majors (p.last key valid ∙ h) in omega arith

  never_new : top (chunks_on s b.chunks) ≡ 0 → (key : Datum) → is_key key ≡ true → latest ns key (more ++ older) ≡ Some s → ⊥
  never_new z key valid h = let k = owned_top s key b.chunks q.majors (q.last key valid ∙ h) in omega arith

  without : top (chunks_on s a.chunks) ≡ 0 → top (chunks_on s b.chunks) ≡ 0 → SameKeys s a b
  without y z = record {
    on = λ key valid h. absurd (never_old y key valid (sym (now_old key valid) ∙ h));
    back = λ key valid h. absurd (never_new z key valid (sym (now_new key valid) ∙ h));
    at = λ key time valid h. gone_at key time valid (never_old y key valid) h;
  }

  owned_or_not : (o : Option ℕ) → (o ≡ Some s) ⊎ (o ≡ Some s → ⊥)
  owned_or_not None = inr (λ h. cc)
  owned_or_not (Some n) = by_test (n == s) refl
    where
      by_test : (t : Bool) → (n == s) ≡ t → (Some n ≡ Some s) ⊎ (Some n ≡ Some s → ⊥)
      by_test true e = inl (ap (λ (m : ℕ). Some m) (eqb-true _ _ e))
      by_test false e = inr (λ h. eqb-false _ _ e (some_nat _ _ h))

  unmoved : Unmoved ns s older (more ++ older) → SameKeys s a b
  unmoved u = record {
    on = λ key valid h. now_new key valid ∙ u.on key valid (sym (now_old key valid) ∙ h);
    back = λ key valid h. now_old key valid ∙ u.back key valid (sym (now_new key valid) ∙ h);
    at = λ key time valid h. by_own key time valid h (owned_or_not (latest ns key older));
  }
    where
      by_own : (key : Datum) (time : ℕ) → is_key key ≡ true → owner_at a key time ≡ Some s
          → (latest ns key older ≡ Some s) ⊎ (latest ns key older ≡ Some s → ⊥) → owner_at b key time ≡ Some s
      by_own key time valid h (inl own) = at_new key time valid ∙ u.always key time valid own ∙ sym (at_old key time valid) ∙ h
      by_own key time valid h (inr gone) = gone_at key time valid gone h

pub same_version : (ns : List ℕ) (s : ℕ) (more older : List Change) (a b : Table) → AreFitting (more ++ older) → known_table ns older ≡ Some a
    → known_table ns (more ++ older) ≡ Some b → agrees (shard_version a s) (shard_version b s) ≡ true → SameKeys s a b
same_version ns s more older a b fits is known same = by_how majors (subst (λ (t : Table). Grown ns s older a (more ++ older) t) end l.holds).how
  where
    p : IsPlaced ns older a
    p = placed ns older a (older_fit more older fits) is

    q : IsPlaced ns (more ++ older) b
    q = placed ns (more ++ older) b fits known

    l : Later ns (Grown ns s older a) (more ++ older)
    l = later ns (Grown ns s older a) (grown_stays ns s older a) more older a fits is (record {
      high = omega arith;
      how = inr (inr
          (unmoved_start ns s older));
    })

    end : l.table ≡ b
    end = some_is _ _ (sym l.known ∙ known)

    majors : top (chunks_on s a.chunks) ≡ top (chunks_on s b.chunks)
    majors = sym (shard_major a s p.epochs) ∙ eqb-true (shard_version a s).major (shard_version b s).major (both ((shard_version a s).epoch ==
        (shard_version b s).epoch) ((shard_version a s).major == (shard_version b s).major) same).1 ∙ shard_major b s q.epochs

    by_how : top (chunks_on s a.chunks) ≡ top (chunks_on s b.chunks)
        → (top (chunks_on s b.chunks) ≡ 0) ⊎ ((top a.chunks < top (chunks_on s b.chunks)) ⊎ Unmoved ns s older (more ++ older)) → SameKeys s a b
    by_how m (inl z) = without ns s more older a b fits p q (m ∙ z) z
    by_how m (inr (inl z)) = absurd (let k = on_top s a.chunks in omega arith)
    by_how m (inr (inr u)) = unmoved ns s more older a b fits p q u
