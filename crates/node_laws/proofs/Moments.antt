-- What a router's moment is: the last one that it was given; and that it had, when it took a request, the last one given before.
use Rattle.std.proofs.Common.{◌≡◌, ◌≢◌, ℕ, ◌+◌, ◌<◌, ◌≤◌, List, [], ◌∷◌, ◌++◌, refl, sym, ap, subst, ◌∙◌, arith, append-nil, Bool}
use Rattle.std.specs.Prelude.{true, false, ◌==◌, ◌&&◌, nat_lt, if◌then◌else◌}
use Rattle.std.specs.List.{AllByRecursion}
use Rattle.std.proofs.lemmas.Bool.{ltb-true, ltb-false, eqb-true, eqb-false}
use Rattle.history_model.proofs.Lists.{all_weaken, all_append}
use Rattle.base_model.specs.Times.{time_of_moment}
use Rattle.reply_model.specs.Exchanges.{Asked}
use Rattle.reply_model.specs.Accounts.{Given}
use Rattle.reply_model.specs.OneHistory.{last_from, last_given}
use Rattle.node_model.specs.Letters.{Letter, Input, client_input, letter_input, moment_input, opened_input, Taken, Effect, nothing}
use Rattle.node_model.specs.States.{Catalogue, Shard, Router, NodeState, catalogue_state, shard_state, router_state}
use Rattle.node_model.specs.CatalogueRows.{CatalogueRow, catalogue_create, catalogue_tell, catalogue_split, catalogue_bound, catalogue_none, catalogue_skip, catalogue_moment, catalogue_opened, catalogue_client}
use Rattle.node_model.specs.ShardRows.{ShardRow, shard_write, shard_repeat, shard_empty, shard_park, shard_waits, shard_stale, shard_read, shard_read_above, shard_rows, shard_excess, shard_overflow, shard_time, shard_learn, shard_known, shard_no_table, shard_skip, shard_moment, shard_opened, shard_client}
use Rattle.node_model.specs.RouterRows.{RouterRow, begins, router_begin, router_opened, router_plain, router_more, router_no_cursor, router_kill, router_take, router_learn, router_split, router_not_sharded, router_reach, router_hear, router_ahead, router_note, router_part, router_read, router_excess, router_overflow, router_refused, router_no_table, router_late, router_skip, router_moment}
use Rattle.node_model.specs.Steps.{Step, catalogue_step, shard_step, router_step, begin_step, other_step}
use Rattle.node_model.specs.World.{World, asked_by, moment_in, Moves, Misses, steps_after}
use Rattle.node_laws.proofs.Places.{EachAt, each_get, each_set}
use Rattle.node_laws.proofs.Journals.{with_more}

-- the last moment that a node was given
abbrev pub last_after : (node moment : ℕ) → List Given → ℕ
last_after node moment [] = moment
last_after node moment (g ∷ given) = if g.node == node then last_after node g.moment given else last_after node moment given

abbrev pub HasMoment : List Given → ℕ → NodeState → Type 0
HasMoment given at (router_state r) = (r.me ≡ at) × (r.moment ≡ last_after at 0 given) × (time_of_moment r.moment ≤ r.time)
HasMoment given at (catalogue_state c) = Unit {0}
HasMoment given at (shard_state s) = Unit {0}

abbrev pub HadMoment : List Given → Asked → Type 0
HadMoment given a = (a.moment ≡ last_given a.id.router a.came given) × (time_of_moment a.moment ≤ a.time)

pub record Moments (w : World) : Type 0 where
  pub nodes : EachAt (λ at h. HasMoment w.given at h.state) 0 w.nodes
  pub asked : AllByRecursion (λ a. HadMoment w.given a × (a.came < w.now)) w.asked
  pub givens : AllByRecursion (λ (g : Given). g.step < w.now) w.given

-- the moment after an input
abbrev pub moment_after : Input → ℕ → ℕ
moment_after (moment_input moment) old = moment
moment_after (client_input link number request) old = old
moment_after (letter_input m) old = old
moment_after opened_input old = old

-- what a request that is taken says of the router: its number, moment and time; only a client's request is taken
abbrev pub TakenBy : Input → Router → Taken → Type 0
TakenBy (client_input link number request) r x = (x.id.router ≡ r.me) × (x.moment ≡ r.moment) × (x.time ≡ r.time)
TakenBy (letter_input m) r x = ⊥
TakenBy (moment_input moment) r x = ⊥
TakenBy opened_input r x = ⊥

pub record RowMoments (r : Router) (i : Input) (f : Effect) (q : Router) : Type 0 where
  pub me : q.me ≡ r.me
  pub moment : q.moment ≡ moment_after i r.moment
  pub time : r.time ≤ q.time
  pub reached : time_of_moment r.moment ≤ r.time → time_of_moment q.moment ≤ q.time
  pub taken : AllByRecursion (TakenBy i r) f.taken

pub row_moments : (r q : Router) (i : Input) (f : Effect) → RouterRow r i f q → RowMoments r i f q
row_moments _ _ _ _ (router_begin r nb) = record { me = refl; moment = refl; time = omega arith; reached = λ h. h; taken = tt }
row_moments _ _ _ _ (router_opened r b) = record { me = refl; moment = refl; time = omega arith; reached = λ h. h; taken = tt }
row_moments _ _ _ _ (router_plain r link number request answer b p) = record
    { me = refl; moment = refl; time = omega arith; reached = λ h. h; taken = ((refl, refl, refl), tt) }
row_moments _ _ _ _ (router_more r link number request get c batch next b p found shows) = record
    { me = refl; moment = refl; time = omega arith; reached = λ h. h; taken = ((refl, refl, refl), tt) }
row_moments _ _ _ _ (router_no_cursor r link number request get b p none) = record
    { me = refl; moment = refl; time = omega arith; reached = λ h. h; taken = ((refl, refl, refl), tt) }
row_moments _ _ _ _ (router_kill r link number request kill killed missing next b p ends) = record
    { me = refl; moment = refl; time = omega arith; reached = λ h. h; taken = ((refl, refl, refl), tt) }
row_moments _ _ _ _ (router_take r link number request namespace work b p) = record
    { me = refl; moment = refl; time = omega arith; reached = λ h. h; taken = ((refl, refl, refl), tt) }
row_moments _ _ _ _ (router_learn r m namespace create at table says) = record
    { me = refl; moment = refl; time = omega arith; reached = λ h. omega arith; taken = tt }
row_moments _ _ _ _ (router_split r m id q middle says o work) = record
    { me = refl; moment = refl; time = omega arith; reached = λ h. omega arith; taken = tt }
row_moments _ _ _ _ (router_not_sharded r m id q middle says o work) = record
    { me = refl; moment = refl; time = omega arith; reached = λ h. omega arith; taken = tt }
row_moments _ _ _ _ (router_reach r m id q named at stages telling says o w t le) = record
    { me = refl; moment = refl; time = omega arith; reached = λ h. omega arith; taken = tt }
row_moments _ _ _ _ (router_hear r m id q named at stages telling says o w t le some) = record
    { me = refl; moment = refl; time = omega arith; reached = λ h. omega arith; taken = tt }
row_moments _ _ _ _ (router_ahead r m id q named at stages telling says o w t le all) = record
    { me = refl; moment = refl; time = omega arith; reached = λ h. omega arith; taken = tt }
row_moments _ _ _ _ (router_note r m id dones q kind ordered statements c next says o w n is) = record
    { me = refl; moment = refl; time = omega arith; reached = λ h. omega arith; taken = tt }
row_moments _ _ _ _ (router_part r m id rows q named at stages telling says o w target some) = record
    { me = refl; moment = refl; time = omega arith; reached = λ h. omega arith; taken = tt }
row_moments _ _ _ _ (router_read r m id rows q named at stages telling all out answer f says o w target whole got merged tells) = record
    { me = refl; moment = refl; time = omega arith; reached = λ h. omega arith; taken = tt }
row_moments _ _ _ _ (router_excess r m id rows n q named at stages telling says o w target whole got) = record
    { me = refl; moment = refl; time = omega arith; reached = λ h. omega arith; taken = tt }
row_moments _ _ _ _ (router_overflow r m id rows q named at stages telling says o w target whole got) = record
    { me = refl; moment = refl; time = omega arith; reached = λ h. omega arith; taken = tt }
row_moments _ _ _ _ (router_refused r m id turn first cause q next says o is) = record
    { me = refl; moment = refl; time = omega arith; reached = λ h. omega arith; taken = tt }
row_moments _ _ _ _ (router_no_table r m namespace create at node lack says) = record
    { me = refl; moment = refl; time = omega arith; reached = λ h. omega arith; taken = tt }
row_moments _ _ _ _ (router_late r m l) = record { me = refl; moment = refl; time = omega arith; reached = λ h. omega arith; taken = tt }
row_moments _ _ _ _ (router_skip r m s) = record { me = refl; moment = refl; time = omega arith; reached = λ h. h; taken = tt }
row_moments _ _ _ _ (router_moment r moment b) = record { me = refl; moment = refl; time = omega arith; reached = λ h. omega arith; taken = tt }

-- what a step says of moments: a router's; other nodes take nothing
abbrev pub StepMoments : NodeState → Input → Effect → NodeState → Type 0
StepMoments (router_state r) i f (router_state q) = RowMoments r i f q
StepMoments (catalogue_state c) i f (catalogue_state d) = f.taken ≡ []
StepMoments (shard_state s) i f (shard_state t) = f.taken ≡ []
StepMoments s i f t = ⊥

no_taken_catalogue : (c d : Catalogue) (i : Input) (f : Effect) → CatalogueRow c i f d → f.taken ≡ []
no_taken_catalogue _ _ _ _ (catalogue_create c m namespace at x says new) = refl
no_taken_catalogue _ _ _ _ (catalogue_split c m id namespace middle x says new) = refl
no_taken_catalogue _ _ _ _ (catalogue_bound c m id namespace middle says there) = refl
no_taken_catalogue _ _ _ _ (catalogue_none c m id namespace middle says none) = refl
no_taken_catalogue _ _ _ _ (catalogue_tell c m namespace create at says may) = refl
no_taken_catalogue _ _ _ _ (catalogue_skip c m skips) = refl
no_taken_catalogue _ _ _ _ (catalogue_moment c moment) = refl
no_taken_catalogue _ _ _ _ (catalogue_opened c) = refl
no_taken_catalogue _ _ _ _ (catalogue_client c link number request) = refl

no_taken_shard : (s t : Shard) (i : Input) (f : Effect) → ShardRow s i f t → f.taken ≡ []
no_taken_shard _ _ _ _ (shard_write s m id turn ordered namespace statements sent d dones made last says fit serves) = refl
no_taken_shard _ _ _ _ (shard_repeat s m id turn ordered namespace statements sent d dones says unfit again) = refl
no_taken_shard _ _ _ _ (shard_empty s m id turn ordered namespace sent says) = refl
no_taken_shard _ _ _ _ (shard_park s m a asks unseen old new) = refl
no_taken_shard _ _ _ _ (shard_waits s m a asks unseen old waits) = refl
no_taken_shard _ _ _ _ (shard_stale s m a met asks unseen old) = refl
no_taken_shard _ _ _ _ (shard_read s m id turn namespace at half sent says fit covered) = refl
no_taken_shard _ _ _ _ (shard_read_above s m id turn namespace at half sent says fit above) = refl
no_taken_shard _ _ _ _ (shard_rows s m id turn namespace at half documents rows says makes few) = refl
no_taken_shard _ _ _ _ (shard_excess s m id turn namespace at half documents rows length n says makes much told) = refl
no_taken_shard _ _ _ _ (shard_overflow s m id turn namespace at half documents says runs) = refl
no_taken_shard _ _ _ _ (shard_time s m id says) = refl
no_taken_shard _ _ _ _ (shard_learn s m namespace create at t says news) = refl
no_taken_shard _ _ _ _ (shard_known s m namespace create at table says none) = refl
no_taken_shard _ _ _ _ (shard_no_table s m namespace node lack says) = refl
no_taken_shard _ _ _ _ (shard_skip s m skips) = refl
no_taken_shard _ _ _ _ (shard_moment s moment) = refl
no_taken_shard _ _ _ _ (shard_opened s) = refl
no_taken_shard _ _ _ _ (shard_client s link number request) = refl

nothing_moves : (s : NodeState) (m : Letter) → StepMoments s (letter_input m) nothing s
nothing_moves (router_state r) m = record { me = refl; moment = refl; time = omega arith; reached = λ h. h; taken = tt }
nothing_moves (catalogue_state c) m = refl
nothing_moves (shard_state s) m = refl

pub step_moments : (s t : NodeState) (i : Input) (f : Effect) → Step s i f t → StepMoments s i f t
step_moments _ _ _ _ (catalogue_step c d i f for row) = no_taken_catalogue c d i f row
step_moments _ _ _ _ (shard_step s t i f for row) = no_taken_shard s t i f row
step_moments _ _ _ _ (router_step r q i f for row) = row_moments r q i f row
step_moments _ _ _ _ (begin_step r q i f nb before row) = let m = row_moments (begins r) q i f row in record
    { me = m.me; moment = m.moment; time = m.time; reached = m.reached; taken = taken_same i m.taken }
  where
    taken_same : (j : Input) → AllByRecursion (TakenBy j (begins r)) f.taken → AllByRecursion (TakenBy j r) f.taken
    taken_same (client_input link number request) all = all
    taken_same (letter_input m) all = all
    taken_same (moment_input moment) all = all
    taken_same opened_input all = all
step_moments _ _ _ _ (other_step s m other) = nothing_moves s m

-- MOMENTS THAT ARE GIVEN

pub last_else : (node moment : ℕ) (given : List Given) (at now : ℕ) (i : Input) → node ≢ at
    → last_after node moment (given ++ moment_in at now i) ≡ last_after node moment given
last_else node moment [] at now (client_input link number request) other = refl
last_else node moment [] at now (letter_input m) other = refl
last_else node moment [] at now opened_input other = refl
last_else node moment [] at now (moment_input given_now) other = by_test (at == node) refl
  where
    by_test : (b : Bool) → (at == node) ≡ b → (if b then given_now else moment) ≡ moment
    by_test true h = absurd (other (sym (eqb-true _ _ h)))
    by_test false h = refl
last_else node moment (g ∷ given) at now i other = by_test (g.node == node) (last_else node g.moment given at now i other)
    (last_else node moment given at now i other)
  where
    by_test : (b : Bool) → last_after node g.moment (given ++ moment_in at now i) ≡ last_after node g.moment given
        → last_after node moment (given ++ moment_in at now i) ≡ last_after node moment given
        → (if b then last_after node g.moment (given ++ moment_in at now i) else last_after node moment (given ++ moment_in at now i)) ≡
        (if b then last_after node g.moment given else last_after node moment given)
    by_test true p q = p
    by_test false p q = q

pub last_here : (at moment : ℕ) (given : List Given) (now : ℕ) (i : Input)
    → last_after at moment (given ++ moment_in at now i) ≡ moment_after i (last_after at moment given)
last_here at moment [] now (client_input link number request) = refl
last_here at moment [] now (letter_input m) = refl
last_here at moment [] now opened_input = refl
last_here at moment [] now (moment_input given_now) = by_test (at == at) refl
  where
    by_test : (b : Bool) → (at == at) ≡ b → (if b then given_now else moment) ≡ given_now
    by_test true h = refl
    by_test false h = absurd (eqb-false _ _ h refl)
last_here at moment (g ∷ given) now i = by_test (g.node == at) (last_here at g.moment given now i) (last_here at moment given now i)
  where
    by_test : (b : Bool) → last_after at g.moment (given ++ moment_in at now i) ≡ moment_after i (last_after at g.moment given)
        → last_after at moment (given ++ moment_in at now i) ≡ moment_after i (last_after at moment given)
        → (if b then last_after at g.moment (given ++ moment_in at now i) else last_after at moment (given ++ moment_in at now i)) ≡ moment_after i
        (if b then last_after at g.moment given else last_after at moment given)
    by_test true p q = p
    by_test false p q = q

-- a moment that comes after a request is none that it knew
pub last_stays : (node step moment : ℕ) (given more : List Given) → AllByRecursion (λ (g : Given). step < g.step + 1) more
    → last_from node step moment (given ++ more) ≡ last_from node step moment given
last_stays node step moment [] [] all = refl
last_stays node step moment [] (g ∷ more) all = by_test (g.node == node) (nat_lt g.step step) refl (last_stays node step moment [] more all.1)
  where
    by_test : (a b : Bool) → nat_lt g.step step ≡ b → last_from node step moment more ≡ moment
        → (if a && b then last_from node step g.moment more else last_from node step moment more) ≡ moment
    by_test true true h rest = absurd (let k : g.step < step = ltb-true _ _ h in let l = all.0 in omega arith)
    by_test true false h rest = rest
    by_test false b h rest = rest
last_stays node step moment (g ∷ given) more all = by_test ((g.node == node) && nat_lt g.step step) (last_stays node step g.moment given more all)
    (last_stays node step moment given more all)
  where
    by_test : (a : Bool) → last_from node step g.moment (given ++ more) ≡ last_from node step g.moment given
        → last_from node step moment (given ++ more) ≡ last_from node step moment given
        → (if a then last_from node step g.moment (given ++ more) else last_from node step moment (given ++ more)) ≡
        (if a then last_from node step g.moment given else last_from node step moment given)
    by_test true p q = p
    by_test false p q = q

-- where all moments came before a step, the last before it is the last of all
pub last_of_all : (node step moment : ℕ) (given : List Given) → AllByRecursion (λ (g : Given). g.step < step) given
    → last_from node step moment given ≡ last_after node moment given
last_of_all node step moment [] all = refl
last_of_all node step moment (g ∷ given) all = by_test (g.node == node) (nat_lt g.step step) refl (last_of_all node step g.moment given all.1)
    (last_of_all node step moment given all.1)
  where
    by_test : (a b : Bool) → nat_lt g.step step ≡ b → last_from node step g.moment given ≡ last_after node g.moment given
        → last_from node step moment given ≡ last_after node moment given
        → (if a && b then last_from node step g.moment given else last_from node step moment given) ≡
        (if a then last_after node g.moment given else last_after node moment given)
    by_test true true h p q = p
    by_test true false h p q = absurd (let k : step ≤ g.step = ltb-false _ _ h in let l = all.0 in omega arith)
    by_test false b h p q = q

pub given_now : (at now : ℕ) (i : Input) → AllByRecursion (λ (g : Given). g.step ≡ now) (moment_in at now i)
given_now at now (client_input link number request) = tt
given_now at now (letter_input m) = tt
given_now at now (moment_input moment) = (refl, tt)
given_now at now opened_input = tt

-- A STEP

pub other_has : (given : List Given) (at now : ℕ) (i : Input) (j : ℕ) (s : NodeState) → j ≢ at → HasMoment given j s → HasMoment (given ++ moment_in at now i) j s
other_has given at now i j (router_state r) other h = (h.0, h.1 ∙ sym (last_else j 0 given at now i other), h.2)
other_has given at now i j (catalogue_state c) other h = tt
other_has given at now i j (shard_state s) other h = tt

pub this_has : (given : List Given) (at now : ℕ) (i : Input) (f : Effect) (s t : NodeState) → StepMoments s i f t → HasMoment given at s
    → HasMoment (given ++ moment_in at now i) at t
this_has given at now i f (router_state r) (router_state q) m h =
    (m.me ∙ h.0, m.moment ∙ (ap (λ x. moment_after i x) h.1 ∙ sym (last_here at 0 given now i)), m.reached h.2)
this_has given at now i f (catalogue_state c) (catalogue_state d) m h = tt
this_has given at now i f (shard_state s) (shard_state t) m h = tt
this_has given at now i f (router_state r) (catalogue_state d) m h = absurd m
this_has given at now i f (router_state r) (shard_state d) m h = absurd m
this_has given at now i f (catalogue_state r) (router_state d) m h = absurd m
this_has given at now i f (catalogue_state r) (shard_state d) m h = absurd m
this_has given at now i f (shard_state r) (router_state d) m h = absurd m
this_has given at now i f (shard_state r) (catalogue_state d) m h = absurd m

pub old_had : (given : List Given) (at now : ℕ) (i : Input) (a : Asked) → a.came < now + 1 → HadMoment given a → HadMoment (given ++ moment_in at now i) a
old_had given at now i a came h = (
  h.0 ∙ sym (last_stays a.id.router a.came 0 given (moment_in at now i)
      (all_weaken (λ (g : Given). g.step ≡ now) (λ (g : Given). a.came < g.step + 1) (moment_in at now i) (λ g e. omega arith) (given_now at now i))),
  h.1,
)

new_had : (given : List Given) (at now : ℕ) (i : Input) (r : Router) (taken : List Taken) → HasMoment given at (router_state r)
    → AllByRecursion (λ (g : Given). g.step < now) given → AllByRecursion (TakenBy i r) taken
    → AllByRecursion (λ a. HadMoment (given ++ moment_in at now i) a × (a.came < now + 1)) (asked_by now taken)
new_had given at now i r [] has before all = tt
new_had given at now (letter_input m) r (x ∷ taken) has before all = absurd all.0
new_had given at now (moment_input moment) r (x ∷ taken) has before all = absurd all.0
new_had given at now opened_input r (x ∷ taken) has before all = absurd all.0
new_had given at now (client_input link number request) r (x ∷ taken) has before all =
    let router : x.id.router ≡ at = all.0.0 ∙ has.0 in
    let moment : x.moment ≡ last_given x.id.router now given = all.0.1
    ∙ (has.1 ∙ (sym (last_of_all at now 0 given before) ∙ ap (λ p. last_given p now given) (sym router))) in
    let reached : time_of_moment x.moment ≤ x.time = subst (λ n. time_of_moment n ≤ x.time) (sym all.0.1)
    (subst (λ n. time_of_moment r.moment ≤ n) (sym all.0.2) has.2) in (
      ((moment ∙ ap (λ l. last_given x.id.router now l) (sym (append-nil given)), reached), omega arith),
      new_had given at now
          (client_input link number request) r taken has before all.1,
    )

pub asked_news : (given : List Given) (at now : ℕ) (i : Input) (f : Effect) (s t : NodeState) → StepMoments s i f t → HasMoment given at s
    → AllByRecursion (λ (g : Given). g.step < now) given
    → AllByRecursion (λ a. HadMoment (given ++ moment_in at now i) a × (a.came < now + 1)) (asked_by now f.taken)
asked_news given at now i f (router_state r) (router_state q) m h before = new_had given at now i r f.taken h before m.taken
asked_news given at now i f (catalogue_state c) (catalogue_state d) m h before = subst
    (λ l. AllByRecursion (λ a. HadMoment (given ++ moment_in at now i) a × (a.came < now + 1)) (asked_by now l)) (sym m) tt
asked_news given at now i f (shard_state c) (shard_state d) m h before = subst
    (λ l. AllByRecursion (λ a. HadMoment (given ++ moment_in at now i) a × (a.came < now + 1)) (asked_by now l)) (sym m) tt
asked_news given at now i f (router_state r) (catalogue_state d) m h before = absurd m
asked_news given at now i f (router_state r) (shard_state d) m h before = absurd m
asked_news given at now i f (catalogue_state r) (router_state d) m h before = absurd m
asked_news given at now i f (catalogue_state r) (shard_state d) m h before = absurd m
asked_news given at now i f (shard_state r) (router_state d) m h before = absurd m
asked_news given at now i f (shard_state r) (catalogue_state d) m h before = absurd m

pub moments_move : (w v : World) (at : ℕ) (i : Input) → Moments w → Moves w at i v → Moments v
moments_move w v at i m move =
    let zero_at : 0 + at ≡ at = omega arith in
    let step = step_moments move.old.state move.new i move.f move.step in
    let has : HasMoment w.given at move.old.state = subst (λ k. HasMoment w.given k move.old.state) zero_at
    (each_get (λ j h. HasMoment w.given j h.state) 0 at w.nodes move.old m.nodes move.here) in
    subst (λ x. Moments x) (sym move.then) (record {
      nodes = each_set (λ j h. HasMoment w.given j h.state) (λ j h. HasMoment (w.given ++ moment_in at w.now i) j h.state) 0 at w.nodes
          (with_more move.old move.f.written move.new (move.old.steps + 1))
          (λ j h other old. other_has w.given at w.now i j h.state (λ e. other (omega (arith, e))) old)
          (subst (λ k. HasMoment (w.given ++ moment_in at w.now i) k move.new) (sym zero_at)
          (this_has w.given at w.now i move.f move.old.state move.new step has)) m.nodes;
      asked = all_append (λ a. HadMoment (w.given ++ moment_in at w.now i) a × (a.came < w.now + 1)) w.asked (asked_by w.now move.f.taken)
          (all_weaken (λ a. HadMoment w.given a × (a.came < w.now)) (λ a. HadMoment (w.given ++ moment_in at w.now i) a × (a.came < w.now + 1))
          w.asked (λ a h. (old_had w.given at w.now i a (let came = h.1 in omega arith) h.0, let came = h.1 in omega arith)) m.asked)
          (asked_news w.given at w.now i move.f move.old.state move.new step has m.givens);
      givens = all_append (λ (g : Given). g.step < w.now + 1) w.given (moment_in at w.now i)
          (all_weaken (λ (g : Given). g.step < w.now) (λ (g : Given). g.step < w.now + 1) w.given (λ g h. omega arith) m.givens)
          (all_weaken (λ (g : Given). g.step ≡ w.now) (λ (g : Given). g.step < w.now + 1) (moment_in at w.now i) (λ g e. omega arith) (given_now at w.now i));
    })

-- also where a node takes no step
pub moments_miss : (w v : World) (at : ℕ) (i : Input) → Moments w → Misses w at i v → Moments v
moments_miss w v at i m miss =
    subst (λ x. Moments x) (sym miss.then) (record {
      nodes = each_set (λ j h. HasMoment w.given j h.state) (λ j h. HasMoment w.given j h.state) 0 at w.nodes
          (record { state = miss.old.state; kept = miss.old.kept; steps = steps_after miss.lack miss.old.steps }) (λ j h other old. old)
          (each_get (λ j h. HasMoment w.given j h.state) 0 at w.nodes miss.old m.nodes miss.here) m.nodes;
      asked = all_weaken (λ a. HadMoment w.given a × (a.came < w.now)) (λ a. HadMoment w.given a × (a.came < w.now + 1)) w.asked
          (λ a h. (h.0, let came = h.1 in omega arith)) m.asked;
      givens = all_weaken (λ (g : Given). g.step < w.now) (λ (g : Given). g.step < w.now + 1) w.given (λ g h. omega arith) m.givens;
    })
