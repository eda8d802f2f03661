-- A shard returns its part of a read, and others have not returned theirs.
use Rattle.std.proofs.Common.{◌≡◌, ◌≢◌, ℕ, List, [], ◌∷◌, ◌++◌, map, refl, sym, ap, subst, ◌∙◌, Bool}
use Rattle.std.specs.Prelude.{Some, None, is_some, Result, true, false, ◌==◌, not, if◌then◌else◌}
use Rattle.std.proofs.lemmas.Bool.{eqb-false}
use Rattle.history_model.specs.History.{IsIn}
use Rattle.base_model.specs.Identities.{RequestId}
use Rattle.pipeline_model.specs.Halves.{Rows}
use Rattle.pipeline_model.specs.Stages.{Stage}
use Rattle.node_model.specs.Letters.{HalfFault, read_rows, Letter, letter_input}
use Rattle.node_model.specs.States.{Target, Part, Telling, reading, for_shards, Router, Open}
use Rattle.node_model.specs.RouterRequests.{id_of, shards_of, untold}
use Rattle.node_model.specs.RouterNext.{part_of, also_part, with_part, awaited}
use Rattle.node_progress.specs.UnderWay.{Thing, a_part, things_stored, things_by, things_of, Brings, IsFor}
use Rattle.node_progress.proofs.Members.{in_map, in_filter, in_filtered, is_false}
use Rattle.node_progress.proofs.Things.{IsAwaited, IsAwaitedStored, awaits, InSameLife, same_things}
use Rattle.node_progress.proofs.RouterWaits.{StillWaits, same_id}
use Rattle.node_progress.proofs.RouterHears.{some_more}

-- a shard that has no part where there is one more has none before, and that is another's
none_longer : (shard : ℕ) (parts : List Part) (p : Part) → is_some (part_of shard (parts ++ p ∷ [])) ≡ false
    → (is_some (part_of shard parts) ≡ false) × ((p.shard == shard) ≡ false)
none_longer shard [] p none = by_test (p.shard == shard) none
  where
    by_test : (b : Bool) → is_some (if b then Some p.rows else None) ≡ false → (false ≡ false) × (b ≡ false)
    by_test true none = absurd (cc none)
    by_test false none = (refl, refl)
none_longer shard (x ∷ parts) p none = by_test (x.shard == shard) none (λ e. none_longer shard parts p e)
  where
    by_test : (b : Bool) → is_some (if b then Some x.rows else part_of shard (parts ++ p ∷ [])) ≡ false
        → (is_some (part_of shard (parts ++ p ∷ [])) ≡ false → (is_some (part_of shard parts) ≡ false) × ((p.shard == shard) ≡ false))
        → (is_some (if b then Some x.rows else part_of shard parts) ≡ false) × ((p.shard == shard) ≡ false)
    by_test true none later = absurd (cc none)
    by_test false none later = later none

-- a target that is still awaited, where one more part came: it was before, and the part is another's
pub still_awaited : (targets : List Target) (parts : List Part) (now : ℕ) (rows : Result Rows HalfFault) (x : Target)
    → IsIn x (awaited targets (also_part parts now rows)) → IsIn x (awaited targets parts) × (x.shard ≢ now)
still_awaited targets parts now rows x there = by_part (is_some (part_of now parts)) refl (is_false _ found.1)
  where
    found : IsIn x targets × (not (is_some (part_of x.shard (also_part parts now rows))) ≡ true)
    found = in_filtered (λ (t : Target). not (is_some (part_of t.shard (also_part parts now rows)))) x targets there

    awaited_yet : is_some (part_of x.shard parts) ≡ false → IsIn x (awaited targets parts)
    awaited_yet none = in_filter (λ (t : Target). not (is_some (part_of t.shard parts))) x targets found.0 (ap (λ b. not b) none)

    by_part : (b : Bool) → is_some (part_of now parts) ≡ b
        → is_some (part_of x.shard (if b then parts else parts ++ record { shard = now; rows = rows } ∷ [])) ≡ false
        → IsIn x (awaited targets parts) × (x.shard ≢ now)
    by_part true has none = (
      awaited_yet none,
      λ same.
          let one_has : is_some (part_of x.shard parts) ≡ true = ap (λ n. is_some (part_of n parts)) same ∙ has in
          cc (one_has, none),
    )
    by_part false has none =
        let apart = none_longer x.shard parts (record { shard = now; rows = rows }) none in
        (awaited_yet apart.0, λ same. eqb-false _ _ apart.1 (sym same))

module _ (r u : Router) (q : Open) (m : Letter) (rows : Result Rows HalfFault) (named : Bool) (at : ℕ) (stages : List Stage) (telling : Telling)
    (waits : q.wait ≡ for_shards) (work : q.work ≡ reading named at stages telling) (same : InSameLife r u) where
  -- the shards that are still waited for, and the parts that are
  abbrev others : List Target
  others = awaited q.targets (also_part q.parts m.sender rows)

  abbrev part_by : Target → Thing
  part_by x = a_part (id_of r q.count) x.shard 1

  things : things_of u (with_part q m.sender rows) ≡ things_of r (with_part q m.sender rows)
  things = same_things r u (with_part q m.sender rows) same

  one_of : (t : Thing) → IsIn t (things_of u (with_part q m.sender rows)) → (x : Target) × IsIn x others × (t ≡ part_by x)
  one_of t one =
      subst (λ k. IsAwaitedStored (id_of r q.count) r.me others q.namespace k t) work
      (subst (λ w. IsAwaited (id_of r q.count) r.me (untold q.told (shards_of r)) others q.namespace q.work w t) waits
      (awaits r (with_part q m.sender rows) t (subst (λ l. IsIn t l) things one)))

  still_among : (t : Thing) → IsIn t (things_of u (with_part q m.sender rows)) → IsIn t (things_of r q)
  still_among t one =
      let part = one_of t one in
      let still = still_awaited q.targets q.parts m.sender rows part.0 part.1 in
      subst (λ w. IsIn t (things_by (id_of r q.count) r.me (untold q.told (shards_of r)) (awaited q.targets q.parts) q.namespace q.work w)) (sym waits)
      (subst (λ k. IsIn t (things_stored (id_of r q.count) r.me (awaited q.targets q.parts) q.namespace k)) (sym work)
      (subst (λ x. IsIn x (map part_by (awaited q.targets q.parts))) (sym part.2) (in_map part_by part.0 (awaited q.targets q.parts) still.0)))

  none_left : things_of r (with_part q m.sender rows) ≡ [] → map part_by others ≡ []
  none_left none =
      subst (λ k. things_stored (id_of r q.count) r.me others q.namespace k ≡ []) work
      (subst (λ w. things_by (id_of r q.count) r.me (untold q.told (shards_of r)) others q.namespace q.work w ≡ []) waits none)

  -- the read waits for the parts of these, and that of the sender is none of them
  pub parted_waits : (id : RequestId) → m.body ≡ read_rows id 1 rows → IsIn q r.requests → others ≢ []
      → StillWaits r u (letter_input m) (with_part q m.sender rows)
  parted_waits id says there some = record {
    before = q;
    there = there;
    own = same_id r u q.count same;
    known = λ w. record { going = w.going; fits = w.fits; untried = w.untried; fresh = w.fresh };
    some = λ had none. some_more part_by others some (none_left (sym things ∙ none));
    among = still_among;
    not_come = λ t one n is brings.
        let part = one_of t one in
        let letter : m ≡ n = cc is in
        let l = subst (λ b. Brings t m.sender m.receiver b) says (subst (λ x. IsFor t x) (sym letter) brings) in
        let e : part_by part.0 ≡ a_part id m.sender 1 = sym part.2 ∙ l.0 in
        (still_awaited q.targets q.parts m.sender rows part.0 part.1).1 (cc e);
  }
