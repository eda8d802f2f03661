-- A shard returns its time to a read that waits for it.
use Rattle.std.proofs.Common.{◌≡◌, ◌≢◌, ℕ, ◌<◌, ◌≤◌, List, [], ◌∷◌, map, refl, sym, subst, ◌∙◌, arith, Bool}
use Rattle.std.specs.Prelude.{true, false, nat_lt, if◌then◌else◌}
use Rattle.std.proofs.lemmas.Bool.{ltb-true}
use Rattle.history_model.specs.History.{IsIn}
use Rattle.base_model.specs.Identities.{RequestId}
use Rattle.node_model.specs.Letters.{time_told, Letter, letter_input}
use Rattle.node_model.specs.States.{for_time, Router, Open}
use Rattle.node_model.specs.RouterRequests.{id_of, shards_of, untold}
use Rattle.node_model.specs.RouterNext.{awaited, also_told, with_told}
use Rattle.node_progress.specs.UnderWay.{Thing, a_time, things_by, things_of, Brings, IsFor}
use Rattle.node_progress.proofs.Members.{in_map, still_untold}
use Rattle.node_progress.proofs.Things.{IsAwaited, awaits, InSameLife, same_things}
use Rattle.node_progress.proofs.RouterWaits.{StillWaits, same_id}

pub some_more : {X Y : Type 0} (g : X → Y) (xs : List X) → xs ≢ [] → map g xs ≢ []
some_more g [] some = absurd (some refl)
some_more g (x ∷ xs) some = λ e. cc e

module _ (r u : Router) (q : Open) (m : Letter) (waits : q.wait ≡ for_time) (same : InSameLife r u) where
  -- the shards that are still waited for, and the times that are
  abbrev others : List ℕ
  others = untold (also_told q.told m.sender) (shards_of r)

  abbrev time_by : ℕ → Thing
  time_by shard = a_time (id_of r q.count) shard

  things : things_of u (with_told q m.sender) ≡ things_of r (with_told q m.sender)
  things = same_things r u (with_told q m.sender) same

  one_of : (t : Thing) → IsIn t (things_of u (with_told q m.sender)) → (shard : ℕ) × IsIn shard others × (t ≡ time_by shard)
  one_of t one =
      subst (λ w. IsAwaited (id_of r q.count) r.me others (awaited q.targets q.parts) q.namespace q.work w t) waits
      (awaits r (with_told q m.sender) t (subst (λ l. IsIn t l) things one))

  still_among : (t : Thing) → IsIn t (things_of u (with_told q m.sender)) → IsIn t (things_of r q)
  still_among t one =
      let time = one_of t one in
      let still = still_untold q.told (shards_of r) m.sender time.0 time.1 in
      subst (λ w. IsIn t (things_by (id_of r q.count) r.me (untold q.told (shards_of r)) (awaited q.targets q.parts) q.namespace q.work w)) (sym waits)
      (subst (λ x. IsIn x (map time_by (untold q.told (shards_of r)))) (sym time.2) (in_map time_by time.0 (untold q.told (shards_of r)) still.0))

  -- the read waits for the times of these, and that of the sender is none of them
  pub heard_waits : (id : RequestId) → m.body ≡ time_told id → IsIn q r.requests → others ≢ [] → StillWaits r u (letter_input m) (with_told q m.sender)
  heard_waits id says there some = record {
    before = q;
    there = there;
    own = same_id r u q.count same;
    known = λ w. record { going = w.going; fits = w.fits; untried = w.untried; fresh = w.fresh };
    some = λ had none.
        some_more time_by others some
        (subst (λ w. things_by (id_of r q.count) r.me others (awaited q.targets q.parts) q.namespace q.work w ≡ []) waits (sym things ∙ none));
    among = still_among;
    not_come = λ t one n is brings.
        let time = one_of t one in
        let letter : m ≡ n = cc is in
        let l = subst (λ b. Brings t m.sender m.receiver b) says (subst (λ x. IsFor t x) (sym letter) brings) in
        let e : time_by time.0 ≡ a_time id m.sender = sym time.2 ∙ l.0 in
        (still_untold q.told (shards_of r) m.sender time.0 time.1).1 (cc e);
  }

-- a read of a time that is reached does not wait for it
pub reached_now : (named : Bool) (at time : ℕ) → at ≤ time → nat_lt time (if named then at else time) ≡ false
reached_now named at time le = by_test (nat_lt time (if named then at else time)) refl
  where
    by_named : (b : Bool) → time < (if b then at else time) → ⊥
    by_named true less = omega (arith, less, le)
    by_named false less = omega (arith, less)

    by_test : (b : Bool) → nat_lt time (if named then at else time) ≡ b → b ≡ false
    by_test true is = absurd (by_named named (ltb-true time (if named then at else time) is))
    by_test false is = refl
