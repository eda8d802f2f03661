-- The files after a crash in the middle of a call are the journals of one world on its way; the next call may begin on them, and keeps what was acknowledged.
use Rattle.std.specs.Prelude.{◌≡◌, ℕ, zero, suc, ◌<◌, ◌≤◌, Some, Bool, IsTrue, List, [], ◌∷◌, ◌++◌, length, map}
use Rattle.std.specs.List.{slice_get}
use Rattle.std.proofs.Common.{refl, sym, ap, subst, ◌∙◌, inl, inr, arith, append_assoc}
use Rattle.std.proofs.lemmas.Bool.{cases_lt}
use Rattle.std.proofs.lemmas.List.{length-map}
use Rattle.outside.specs.Devices.{SourceCall, SinkCall}
use Rattle.outside.specs.Disks.{Outcomes}
use Rattle.outside.specs.Notes.{Note}
use Rattle.journal_frames.specs.Files.{Stands}
use Rattle.journal_frames.proofs.Unique as unique
use Rattle.node_model.specs.Journal.{Kept, record_kept}
use Rattle.node_model.specs.RecordFormat.{spelled}
use Rattle.node_model.specs.World.{Held, World, journal_at}
use Rattle.node_replay.specs.Acknowledged.{KeepsJournals}
use Rattle.node_replay.specs.Restarts.{stays}
use Rattle.node_traits.specs.Effects.{AreReadable, spellings}
use Rattle.restart_laws.specs.Calls.{Reached}
use Rattle.restart_laws.proofs.ReachedCalls.{reached_calls_may_go_on}
use Rattle.driver_steps.specs.Crashes.{LeadsTo, Passes}
use Rattle.driver_steps.specs.Cuts.{Along, AtMostOneMoved, Between, Cut, MightLeave, OneMove}
use Rattle.driver_steps.specs.Together.{AreFound, AreOfOne}
use Rattle.driver_steps.proofs.Crashes.{leads_nowhere, leads_on}
use Rattle.pipe_driver.specs.Acknowledgements.{IsAcknowledged}
use Rattle.pipe_driver.specs.declared.status.Status.{Status}
use Rattle.sim_driver.proofs.Plays.{run_count}
use Rattle.journal_starts.specs.Journals.{AreJournals}
use Rattle.journal_starts.specs.Starts.{BeginsOnFiles, begins_again}
use Rattle.journal_starts.proofs.Starts.{starts_are_stored}
use Rattle.cluster_service.specs.AfterCrashes.{AreAfterNotes, AtOnce, MightLeaveAtOnce}
use Rattle.cluster_service.specs.Arguments.{others_of, routers_of}
use Rattle.cluster_service.specs.Ends.{ends_in}
use Rattle.cluster_service.specs.Headline.{HeadlineOf}
use Rattle.cluster_service.specs.declared.arguments.Command.{Command}
use Rattle.cluster_service.proofs.Composed.{files_of_end, keeps_by, kept_from, reached_from}
use Rattle.cluster_service.proofs.SameJournals.{same_journals}

-- ONE WORLD

between_self : (moments : List ℕ) → Between moments moments moments
between_self [] = tt
between_self (m ∷ moments) = (omega arith, omega arith, between_self moments)

between_end : (firsts nexts : List ℕ) → AtMostOneMoved firsts nexts → Between firsts nexts nexts
between_end [] [] moved = tt
between_end [] (b ∷ nexts) moved = absurd moved
between_end (a ∷ firsts) [] moved = absurd moved
between_end (a ∷ firsts) (b ∷ nexts) (inl (same, more)) = (omega (arith, same), omega arith, between_end firsts nexts more)
between_end (a ∷ firsts) (b ∷ nexts) (inr (le, same)) =
    (le, omega arith, subst (λ (l : List ℕ). Between firsts l l) same (between_self firsts))

module _ {D : Type 0} (left_at : D → ℕ → Outcomes) (disks : List D) (first : World) where
  abbrev Moves : Cut World → Cut World → Type 0
  Moves a b = OneMove left_at LeadsTo (AreOfOne Stands) disks a b

  leads_along : (a b : Cut World) (cuts : List (Cut World)) → Along Moves a cuts b → LeadsTo a.world b.world
  leads_along a b [] same = subst (λ (c : Cut World). LeadsTo a.world c.world) same (leads_nowhere a.world)
  leads_along a b (next ∷ cuts) along = leads_on a.world next.world b.world along.0.led (leads_along next b cuts along.1)

  by_move : (a next b : Cut World) (cuts : List (Cut World)) (ts : List ℕ) (files : List (List ℕ)) → LeadsTo first a.world → Moves a next
      → Along Moves next cuts b → Between a.moments ts next.moments → MightLeave left_at disks ts files
      → Passes first b.world (λ v. AreOfOne Stands files v)
  by_move a next b cuts ts files came move along between left = elim (move.whole ts files between left) [
    | inl found ↦ record {
      world = a.world;
      before = came;
      behind = leads_on a.world next.world b.world move.led (leads_along next b cuts along);
      has = found;
    }
    | inr found ↦ record {
      world = next.world;
      before = leads_on first a.world next.world came move.led;
      behind = leads_along next b cuts along;
      has = found;
    }
  ]

  -- `now` is of the moments of the cut itself
  one_world : (a b : Cut World) (cuts : List (Cut World)) (ts : List ℕ) (files : List (List ℕ)) → LeadsTo first a.world → Along Moves a cuts b
      → (ts ≡ a.moments → Passes first b.world (λ v. AreOfOne Stands files v)) → AtOnce a.moments (map (λ (c : Cut World). c.moments) cuts) ts
      → MightLeave left_at disks ts files → Passes first b.world (λ v. AreOfOne Stands files v)
  one_world a b [] ts files came along now at left = now at
  one_world a b (next ∷ cuts) ts files came along now (inl between) left = by_move a next b cuts ts files came along.0 along.1 between left
  one_world a b (next ∷ cuts) ts files came along now (inr later) left =
      one_world next b cuts ts files (leads_on first a.world next.world came along.0.led) along.1
      (λ same. by_move a next b cuts ts files came along.0 along.1
      (subst (λ (l : List ℕ). Between a.moments l next.moments) (sym same) (between_end a.moments next.moments along.0.moved)) left)
      later left

  pub found_at_once : (place : D → List ℕ) (moment : D → ℕ) (noted noted' : List Note) (befores : List D) (end : World) (ts : List ℕ) (files : List (List ℕ))
      → MightLeaveAtOnce first place moment left_at noted noted' befores disks end ts files → Passes first end (λ v. AreOfOne Stands files v)
  found_at_once place moment noted noted' befores end ts files might =
      let l = might.cuts.leave in
      let from : Cut World = record { moments = might.cuts.from; world = first } in
      let last : Cut World = record { moments = map moment disks; world = end } in
      one_world from last l.cuts ts files (leads_nowhere first) l.along
      (λ same. record {
        world = first;
        before = leads_nowhere first;
        behind = leads_along from last l.cuts l.along;
        has = l.here files (subst (λ (m : List ℕ). MightLeave left_at disks m files) same might.left);
      })
      might.at_once might.left

-- ITS JOURNALS

readable_within : (kept more : List Kept) → AreReadable (kept ++ more) → AreReadable kept
readable_within [] more all = tt
readable_within (k ∷ kept) more all = (all.0, readable_within kept more all.1)

readable_at : (files : List (List ℕ)) (nodes : List Held) (at : ℕ) → AreJournals files nodes → AreReadable (journal_at nodes at)
readable_at [] [] at are = tt
readable_at [] (h ∷ nodes) at are = absurd are
readable_at (file ∷ files) [] at are = absurd are
readable_at (file ∷ files) (h ∷ nodes) zero are = are.0.readable
readable_at (file ∷ files) (h ∷ nodes) (suc at) are = readable_at files nodes at are.1

found_journals : (files : List (List ℕ)) (nodes : List Held) → AreFound Stands files (map (λ (h : Held). spellings h.kept) nodes)
    → ((at : ℕ) → AreReadable (journal_at nodes at)) → AreJournals files nodes
found_journals [] [] found readable = tt
found_journals [] (h ∷ nodes) found readable = absurd found
found_journals (file ∷ files) [] found readable = absurd found
found_journals (file ∷ files) (h ∷ nodes) found readable =
    (record { stands = found.0; readable = readable zero }, found_journals files nodes found.1 (λ at. readable (suc at)))

-- of a world on the way to one whose journals are in files
journals_of : (files_after files : List (List ℕ)) (v end : World) → AreJournals files_after end.nodes → LeadsTo v end → AreOfOne Stands files v
    → AreJournals files v.nodes
journals_of files_after files v end are on found =
    found_journals files v.nodes found
    (λ at. let k = keeps_by v end on at in
    readable_within (journal_at v.nodes at) k.0
    (subst (λ (l : List Kept). AreReadable l) k.1 (readable_at files_after end.nodes at are)))

-- WHAT WAS ACKNOWLEDGED

same_prefix : {A : Type 0} (xs ys more others : List A) → xs ++ more ≡ ys ++ others → length xs ≡ length ys → xs ≡ ys
same_prefix [] [] more others same long = refl
same_prefix [] (y ∷ ys) more others same long = absurd (omega (arith, long))
same_prefix (x ∷ xs) [] more others same long = absurd (omega (arith, long))
same_prefix {A} (x ∷ xs) (y ∷ ys) more others same long =
    let head : x ≡ y = cc same in
    let rest : xs ++ more ≡ ys ++ others = cc same in
    ap (λ (a : A). a ∷ xs) head ∙ ap (λ (l : List A). y ∷ l) (same_prefix xs ys more others rest (omega (arith, long)))

journal_past : (nodes : List Held) (at : ℕ) → length nodes ≤ at → journal_at nodes at ≡ []
journal_past [] at past = refl
journal_past (h ∷ nodes) zero past = absurd (omega (arith, past))
journal_past (h ∷ nodes) (suc at) past = journal_past nodes at (omega (arith, past))

-- a disk in its place, with its moment, its file and what its node stores
record IsAtPlace {D : Type 0} (left_at : D → ℕ → Outcomes) (disks : List D) (ts : List ℕ) (files : List (List ℕ)) (nodes : List Held) (at : ℕ) : Type 0 where
  disk : D
  t : ℕ
  file : List ℕ
  got : slice_get disks at ≡ Some disk
  when : slice_get ts at ≡ Some t
  left : left_at disk t file
  found : Stands file (spellings (journal_at nodes at))

at_place : {D : Type 0} (left_at : D → ℕ → Outcomes) (disks : List D) (ts : List ℕ) (files : List (List ℕ)) (nodes : List Held) (at : ℕ)
    → MightLeave left_at disks ts files → AreFound Stands files (map (λ (h : Held). spellings h.kept) nodes) → at < length nodes
    → IsAtPlace left_at disks ts files nodes at
at_place left_at disks ts files [] at left found within = absurd (omega (arith, within))
at_place left_at disks ts [] (h ∷ nodes) at left found within = absurd found
at_place left_at [] [] (file ∷ files) (h ∷ nodes) at left found within = absurd left
at_place left_at [] (t ∷ ts) (file ∷ files) (h ∷ nodes) at left found within = absurd left
at_place left_at (disk ∷ disks) [] (file ∷ files) (h ∷ nodes) at left found within = absurd left
at_place left_at (disk ∷ disks) (t ∷ ts) (file ∷ files) (h ∷ nodes) zero left found within =
    record { disk = disk; t = t; file = file; got = refl; when = refl; left = left.0; found = found.0 }
at_place left_at (disk ∷ disks) (t ∷ ts) (file ∷ files) (h ∷ nodes) (suc at) left found within =
    let p = at_place left_at disks ts files nodes at left.1 found.1 (omega (arith, within)) in
    record { disk = p.disk; t = p.t; file = p.file; got = p.got; when = p.when; left = p.left; found = p.found }

-- two worlds on the way to one: where a file has just what a node stores in the one and in the other, these are the same
one_journal : (file : List ℕ) (u v end : World) (at : ℕ) → LeadsTo u end → LeadsTo v end → Stands file (spellings (journal_at u.nodes at))
    → Stands file (spellings (journal_at v.nodes at)) → journal_at u.nodes at ≡ journal_at v.nodes at
one_journal file u v end at first second of_u of_v =
    let k = keeps_by u end first at in
    let l = keeps_by v end second at in
    let spelled_same : spellings (journal_at u.nodes at) ≡ spellings (journal_at v.nodes at) = unique.one_list file _ _ of_u of_v in
    same_prefix (journal_at u.nodes at) (journal_at v.nodes at) k.0 l.0 (sym k.1 ∙ l.1)
    (sym (length-map (journal_at u.nodes at) (λ k. spelled 1 (record_kept k)))
    ∙ (ap length spelled_same ∙ length-map (journal_at v.nodes at) (λ k. spelled 1 (record_kept k))))

module _ {D : Type 0} (place : D → List ℕ) (moment : D → ℕ) (left_at : D → ℕ → Outcomes) (output : World → List ℕ → Type 0) (first : World) (notes : List Note)
    (held_before : List ℕ) (disks : List D) (end : World) (put : List ℕ) (offset : ℕ) where
  -- the world in which the files were left has what was stored where the byte was given
  has_acknowledged : (byte : IsAcknowledged Stands place moment left_at output first notes held_before disks end put offset) (ts : List ℕ)
      (files : List (List ℕ)) (v : World) → AreAfterNotes place moment left_at output first notes held_before disks end put offset byte ts
      → MightLeave left_at disks ts files → AreOfOne Stands files v → LeadsTo v end → KeepsJournals byte.given v
  has_acknowledged byte ts files v after left found on at = elim (cases_lt at (length v.nodes)) [
    | inl within ↦ (
        let p = at_place left_at disks ts files v.nodes at left found within in
        let late = after at p.disk p.got p.t p.when in
        let passed = (byte.each at p.disk p.got).left p.t p.file late.0 late.1 p.left in
        let k = keeps_by byte.given passed.world passed.before at in
        (k.0, one_journal p.file v passed.world end at on passed.behind p.found passed.has ∙ k.1)
        )
    | inr past ↦ (
        let counted : length byte.given.nodes ≡ length v.nodes =
        sym (run_count byte.given byte.to.0 end byte.to.1) ∙ run_count v on.0 end on.1 in
        (journal_at v.nodes at, ap (λ (l : List Kept). l ++ journal_at v.nodes at) (sym (journal_past byte.given.nodes at (omega (arith, counted, past)))))
        )
  ]

-- LAWS

module _ {D : Type 0} (place : D → List ℕ) (moment : D → ℕ) (left_at : D → ℕ → Outcomes) (tells : Bool) (command : Command) (files_before files_after : List (List ℕ))
    (first : World) (source : SourceCall) (sink : SinkCall) (leaves : World → Type 0) (owed : World → List ℕ → Type 0) (gives : ℕ → Type 0) (ending : Status)
    (rest : ℕ) (told : IsTrue tells) (begins : BeginsOnFiles (others_of command) (routers_of command) files_before first)
    (headline : HeadlineOf command first source sink tells files_after leaves owed gives ending rest) (befores afters : List D) (noted noted' : List Note)
    (ts : List ℕ) (files : List (List ℕ)) where
  abbrev end : World
  end = ends_in command _ _ _ _ _ _ _ _ _ _ headline

  abbrev Might : Type 0
  Might = MightLeaveAtOnce first place moment left_at noted noted' befores afters end ts files

  passes : Might → Passes first end (λ v. AreOfOne Stands files v)
  passes might = found_at_once left_at afters first place moment noted noted' befores end ts files might

  is_reached : (v : World) → LeadsTo first v → Reached (others_of command) (routers_of command) v
  is_reached v on = reached_from (others_of command) (routers_of command) files_before first v begins on

  are_journals : (p : Passes first end (λ v. AreOfOne Stands files v)) → AreJournals files p.world.nodes
  are_journals p =
      journals_of files_after files p.world end
      (files_of_end tells files_after first source sink leaves owed gives ending rest told command headline) p.behind p.has

  pub crashes_go_on : Might → (next : World) × BeginsOnFiles (others_of command) (routers_of command) files next
  crashes_go_on might =
      let p = passes might in
      let on = reached_calls_may_go_on (others_of command) (routers_of command) p.world (is_reached p.world p.before) in
      (on.0, begins_again p.world on.0 (is_reached p.world p.before) (are_journals p) on.1)

  pub acknowledged_survives : Might → (notes : List Note) (output : World → List ℕ → Type 0) (held_before put : List ℕ) (offset : ℕ)
      (byte : IsAcknowledged Stands place moment left_at output first notes held_before afters end put offset)
      → AreAfterNotes place moment left_at output first notes held_before afters end put offset byte ts
      → (next w : World) → BeginsOnFiles (others_of command) (routers_of command) files next → LeadsTo next w → KeepsJournals byte.given w
  acknowledged_survives might notes output held_before put offset byte after next w again leads at =
      let others : ℕ = others_of command in
      let routers : ℕ = routers_of command in
      let p = passes might in
      let same : (n : ℕ) → journal_at next.nodes n ≡ journal_at p.world.nodes n =
      same_journals others routers files next p.world (reached_from others routers files next next again ([], stays next)) (is_reached p.world p.before)
      (starts_are_stored others routers files next again) (are_journals p) in
      let had = has_acknowledged place moment left_at output first notes held_before afters end put offset byte ts files p.world after might.left p.has p.behind at in
      let kept = kept_from p.world next w same (keeps_by next w leads) at in
      (had.0 ++ kept.0, kept.1 ∙ (ap (λ (l : List Kept). l ++ kept.0) had.1 ∙ append_assoc (journal_at byte.given.nodes at) had.0 kept.0))
