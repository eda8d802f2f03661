-- Where messages are delivered in order of sending, that comes to an end too: those after a place are the ones that wait.
use Rattle.std.proofs.Common.{◌≡◌, inl, inr, ℕ, zero, suc, ◌+◌, List, [], ◌∷◌, ◌++◌, refl, sym, subst, ap, ◌∙◌, arith}
use Rattle.std.specs.Prelude.{Some, drop}
use Rattle.std.specs.List.{slice_get}
use Rattle.history_model.specs.History.{IsIn}
use Rattle.history_model.proofs.Lists.{all_from, in_later}
use Rattle.node_model.specs.Letters.{Letter, Input, letter_input}
use Rattle.node_model.specs.World.{World, Meets, Happens, deliver_event, delivers}
use Rattle.node_replay.specs.Restarts.{EventOrStop, RunWithStops}
use Rattle.node_progress.specs.Firsts.{IsFirst}
use Rattle.node_weights.specs.Deliveries.{Waiting, Delivers, delivers_to, Ends, ends_after, EndsInOrder, ends_in_order}
use Rattle.node_weights.proofs.Endings.{deliveries_end}

-- the message at a place is the first of those from there on
dropped : {X : Type 0} (n : ℕ) (xs : List X) (x : X) → slice_get xs n ≡ Some x → drop n xs ≡ x ∷ drop (suc n) xs
dropped n [] x got = absurd (cc)
dropped zero (y ∷ xs) x got = let same : y ≡ x = cc in ap (λ z. z ∷ xs) same
dropped (suc n) (y ∷ xs) x got = dropped n xs x got

-- what is sent is behind them
dropped_more : {X : Type 0} (n : ℕ) (xs ys : List X) (x : X) → slice_get xs n ≡ Some x → drop (suc n) (xs ++ ys) ≡ drop (suc n) xs ++ ys
dropped_more n [] ys x got = absurd (cc)
dropped_more zero (y ∷ xs) ys x got = refl
dropped_more (suc n) (y ∷ xs) ys x got = dropped_more n xs ys x got

dropped_in : {X : Type 0} (n : ℕ) (xs : List X) (x : X) → IsIn x (drop n xs) → IsIn x xs
dropped_in zero xs x i = i
dropped_in (suc n) [] x i = i
dropped_in (suc n) (y ∷ xs) x i = in_later x y xs (dropped_in n xs x i)

-- what is sent where the message at a place is delivered
record IsDelivered (w : World) (next : ℕ) (v : World) : Type 0 where
  letter : Letter
  got : slice_get w.sent next ≡ Some letter
  meets : Meets w letter.receiver (letter_input letter) v
  more : List Letter
  grows : v.sent ≡ w.sent ++ more

meets_grows : (w v : World) (at : ℕ) (i : Input) → Meets w at i v → (more : List Letter) × (v.sent ≡ w.sent ++ more)
meets_grows w v at i (inl m) = (_, ap (λ (x : World). x.sent) m.then)
meets_grows w v at i (inr m) = (_, ap (λ (x : World). x.sent) m.then)

was_delivered : (w v : World) (at next : ℕ) → Happens w (deliver_event at next) v → IsDelivered w next v
was_delivered _ _ _ _ (delivers w v at next m got to meets) =
    let more = meets_grows w v at (letter_input m) meets in
    record { letter = m; got = got; meets = subst (λ n. Meets w n (letter_input m) v) (sym to) meets; more = more.0; grows = more.1 }

in_order : (x : Waiting) → Ends x → (next : ℕ) → x.letters ≡ drop next x.world.sent → EndsInOrder x.world next
in_order _ (ends_after x later) next here =
    ends_in_order x.world next (λ at v h. after v (was_delivered x.world v at next h) (λ then one place e. in_order then (later then one) place e))
  where
    after : (v : World) → IsDelivered x.world next v
        → ((then : Waiting) → Delivers x then → (place : ℕ) → then.letters ≡ drop place then.world.sent → EndsInOrder then.world place) → EndsInOrder v (next + 1)
    after v d go =
        let then : Waiting = record { world = v; letters = drop (suc next) x.world.sent ++ d.more } in
        let one : Delivers x then = delivers_to x.world v x.letters (drop (suc next) x.world.sent) d.more d.letter
        ([], drop (suc next) x.world.sent, here ∙ dropped next x.world.sent d.letter d.got, refl) d.meets d.grows in
        subst (λ n. EndsInOrder v n) (omega arith)
        (go then one (suc next) (sym (ap (λ l. drop (suc next) l) d.grows ∙ dropped_more next x.world.sent d.more d.letter d.got)))

pub deliveries_in_order_end : (first : World) (events : List EventOrStop) (w : World) (next : ℕ) → IsFirst first → RunWithStops first events w → EndsInOrder w next
deliveries_in_order_end first events w next is run =
    let x : Waiting = record { world = w; letters = drop next w.sent } in
    let sent = all_from (λ (m : Letter). IsIn m w.sent) (drop next w.sent) (λ m i. dropped_in next w.sent m i) in
    in_order x (deliveries_end first events x is run sent) next refl
