-- What becomes of each open request after a table arrives: some are answered, and the others stay open.
use Rattle.std.proofs.Common.{◌≡◌, ◌≢◌, ◌⊎◌, inl, inr, ℕ, List, [], ◌∷◌, ◌++◌, sym, ap, subst, ◌∙◌}
use Rattle.std.specs.List.{AllByRecursion, flat_map}
use Rattle.history_model.proofs.Lists.{all_weaken, all_both, all_append, in_first, in_later, in_cons}
use Rattle.history_model.specs.History.{IsIn}
use Rattle.base_model.specs.Identities.{RequestId}
use Rattle.reply_model.specs.Exchanges.{Answered}
use Rattle.reply_model.specs.OneHistory.{ids_told}
use Rattle.node_model.specs.Letters.{Letter, Reply}
use Rattle.node_model.specs.States.{Open, Router}
use Rattle.node_model.specs.RouterRequests.{id_of}
use Rattle.node_model.specs.RouterNext.{Next, stays, is_told, stay_in, letters_in, replies_in}
use Rattle.node_model.specs.World.{answered_by}
use Rattle.node_laws.proofs.Facts.{counts_of, AreDifferentCounts}
use Rattle.node_laws.proofs.OpenRequests.{IsParted}

-- what becomes of a request has its count
abbrev pub KeepsCount : Router → Open → Next → Type 0
KeepsCount r q (stays p letters) = p.count ≡ q.count
KeepsCount r q (is_told reply) = reply.id ≡ id_of r q.count

abbrev pub left_by : (Open → Next) → List Open → List Open
left_by next requests = flat_map (λ q. stay_in (next q)) requests

abbrev pub sent_by : (Open → Next) → List Open → List Letter
sent_by next requests = flat_map (λ q. letters_in (next q)) requests

abbrev pub told_by : (Open → Next) → List Open → List Reply
told_by next requests = flat_map (λ q. replies_in (next q)) requests

-- what holds of what becomes of each
abbrev pub NextIs : (Open → Type 0) → (Letter → Type 0) → (Reply → Type 0) → Next → Type 0
NextIs P Q R (stays p letters) = P p × AllByRecursion Q letters
NextIs P Q R (is_told reply) = R reply

pub record AreNext (P : Open → Type 0) (Q : Letter → Type 0) (R : Reply
    → Type 0) (requests : List Open) (letters : List Letter) (replies : List Reply) : Type 0 where
  pub stay : AllByRecursion P requests
  pub ask : AllByRecursion Q letters
  pub tell : AllByRecursion R replies

pub each_next : (P : Open → Type 0) (Q : Letter → Type 0) (R : Reply → Type 0) (next : Open → Next) (requests : List Open)
    → AllByRecursion (λ q. NextIs P Q R (next q)) requests → AreNext P Q R (left_by next requests) (sent_by next requests) (told_by next requests)
each_next P Q R next [] all = record { stay = tt; ask = tt; tell = tt }
each_next P Q R next (q ∷ requests) all = by_next (next q) all.0 (each_next P Q R next requests all.1)
  where
    by_next : (n : Next) → NextIs P Q R n → AreNext P Q R (left_by next requests) (sent_by next requests) (told_by next requests)
        → AreNext P Q R (stay_in n ++ left_by next requests) (letters_in n ++ sent_by next requests) (replies_in n ++ told_by next requests)
    by_next (stays p letters) is more = record { stay = (is.0, more.stay); ask = all_append Q letters (sent_by next requests) is.1 more.ask; tell = more.tell }
    by_next (is_told reply) is more = record { stay = more.stay; ask = more.ask; tell = (is, more.tell) }

all_unmapped : (P : ℕ → Type 0) (requests : List Open) → AllByRecursion P (counts_of requests) → AllByRecursion (λ (q : Open). P q.count) requests
all_unmapped P [] all = tt
all_unmapped P (q ∷ requests) all = (all.0, all_unmapped P requests all.1)

left_counts : (r : Router) (next : Open → Next) → ((q : Open) → KeepsCount r q (next q)) → (P : ℕ → Type 0) (requests : List Open)
    → AllByRecursion P (counts_of requests) → AllByRecursion P (counts_of (left_by next requests))
left_counts r next keeps P [] all = tt
left_counts r next keeps P (q ∷ requests) all = by_next (next q) (keeps q) (left_counts r next keeps P requests all.1)
  where
    by_next : (n : Next) → KeepsCount r q n → AllByRecursion P (counts_of (left_by next requests))
        → AllByRecursion P (counts_of (stay_in n ++ left_by next requests))
    by_next (stays p letters) same more = (subst P (sym same) all.0, more)
    by_next (is_told reply) same more = more

-- a count of which something holds
abbrev IsOfCount : Router → (ℕ → Type 0) → Answered → Type 0
IsOfCount r P t = (n : ℕ) × (t.id ≡ id_of r n) × P n

told_counts : (r : Router) (now : ℕ) (next : Open → Next) → ((q : Open) → KeepsCount r q (next q)) → (P : ℕ → Type 0) (requests : List Open)
    → AllByRecursion P (counts_of requests) → AllByRecursion (IsOfCount r P) (answered_by now (told_by next requests))
told_counts r now next keeps P [] all = tt
told_counts r now next keeps P (q ∷ requests) all = by_next (next q) (keeps q) (told_counts r now next keeps P requests all.1)
  where
    by_next : (n : Next) → KeepsCount r q n → AllByRecursion (IsOfCount r P) (answered_by now (told_by next requests))
        → AllByRecursion (IsOfCount r P) (answered_by now (replies_in n ++ told_by next requests))
    by_next (stays p letters) same more = more
    by_next (is_told reply) same more = ((q.count, same, all.0), more)

-- two requests of one router and life with one number have one count
one_count : (r : Router) (id : RequestId) (m n : ℕ) → id ≡ id_of r m → id ≡ id_of r n → m ≡ n
one_count r id m n a b = ap (λ (i : RequestId). i.count) (sym a ∙ b)

pub parted_next : (r : Router) (now : ℕ) (next : Open → Next) → ((q : Open) → KeepsCount r q (next q)) → (requests : List Open)
    → AreDifferentCounts (counts_of requests) → IsParted r requests (left_by next requests) (answered_by now (told_by next requests))
parted_next r now next keeps [] different = record { different = tt; silent = tt; apart = tt; own = tt; closed = λ n i. inl i }
parted_next r now next keeps (q ∷ requests) different = by_next (next q) (keeps q) (parted_next r now next keeps requests different.1)
  where
    left : AllByRecursion (λ n. n ≢ q.count) (counts_of (left_by next requests))
    left = left_counts r next keeps (λ n. n ≢ q.count) requests different.0

    told : AllByRecursion (IsOfCount r (λ n. n ≢ q.count)) (answered_by now (told_by next requests))
    told = told_counts r now next keeps (λ n. n ≢ q.count) requests different.0

    others : (id : RequestId) → id ≡ id_of r q.count → AllByRecursion (λ (t : Answered). t.id ≢ id) (answered_by now (told_by next requests))
    others id own =
        all_weaken (IsOfCount r (λ n. n ≢ q.count)) (λ (t : Answered). t.id ≢ id) (answered_by now (told_by next requests))
        (λ t c e. c.2 (one_count r t.id c.0 q.count c.1 (e ∙ own))) told

    deeper : IsParted r requests (left_by next requests) (answered_by now (told_by next requests))
        → AllByRecursion (λ (t : Answered). (p : Open) × IsIn p (q ∷ requests) × (t.id ≡ id_of r p.count)) (answered_by now (told_by next requests))
    deeper more =
        all_weaken (λ (t : Answered). (p : Open) × IsIn p requests × (t.id ≡ id_of r p.count))
        (λ (t : Answered). (p : Open) × IsIn p (q ∷ requests) × (t.id ≡ id_of r p.count))
        (answered_by now (told_by next requests)) (λ t o. (o.0, in_later o.0 q requests o.1, o.2)) more.own

    names : (rest : List Answered) (id : RequestId) → AllByRecursion (λ (t : Answered). t.id ≢ id) rest
        → AllByRecursion (λ other. ¬ (other ≡ id)) (ids_told rest)
    names [] id all = tt
    names (t ∷ rest) id all = (all.0, names rest id all.1)

    by_next : (n : Next) → KeepsCount r q n → IsParted r requests (left_by next requests) (answered_by now (told_by next requests))
        → IsParted r (q ∷ requests) (stay_in n ++ left_by next requests) (answered_by now (replies_in n ++ told_by next requests))
    by_next (stays p letters) same more = record {
      different = (subst (λ c. AllByRecursion (λ n. n ≢ c) (counts_of (left_by next requests))) (sym same) left, more.different);
      silent = (others (id_of r p.count) (ap (λ n. id_of r n) same), more.silent);
      apart = more.apart;
      own = deeper more;
      closed = λ n i. first n (in_cons n q.count (counts_of requests) i);
    }
      where
        later : (n : ℕ) → IsIn n (counts_of (left_by next requests)) ⊎ IsIn (id_of r n) (ids_told (answered_by now (told_by next requests)))
            → IsIn n (p.count ∷ counts_of (left_by next requests)) ⊎ IsIn (id_of r n) (ids_told (answered_by now (told_by next requests)))
        later n (inl k) = inl (in_later n p.count (counts_of (left_by next requests)) k)
        later n (inr k) = inr k

        first : (n : ℕ) → (n ≡ q.count) ⊎ IsIn n (counts_of requests)
            → IsIn n (p.count ∷ counts_of (left_by next requests)) ⊎ IsIn (id_of r n) (ids_told (answered_by now (told_by next requests)))
        first n (inl e) = inl (subst (λ m. IsIn n (m ∷ counts_of (left_by next requests))) (e ∙ sym same) (in_first n (counts_of (left_by next requests))))
        first n (inr j) = later n (more.closed n j)
    by_next (is_told reply) own more = record {
      different = more.different;
      silent =
          all_both (λ (p : Open). p.count ≢ q.count)
          (λ (p : Open). AllByRecursion (λ (t : Answered). t.id ≢ id_of r p.count) (answered_by now (told_by next requests)))
          (λ (p : Open). AllByRecursion (λ (t : Answered). t.id ≢ id_of r p.count) (answered_by now (reply ∷ told_by next requests))) (left_by next requests)
          (λ p other rest. ((λ e. other (one_count r reply.id p.count q.count e own)), rest))
          (all_unmapped (λ n. n ≢ q.count) (left_by next requests) left) more.silent;
      apart = (names (answered_by now (told_by next requests)) reply.id (others reply.id own), more.apart);
      own = ((q, in_first q requests, own), deeper more);
      closed = λ n i. first n (in_cons n q.count (counts_of requests) i);
    }
      where
        later : (n : ℕ) → IsIn n (counts_of (left_by next requests)) ⊎ IsIn (id_of r n) (ids_told (answered_by now (told_by next requests)))
            → IsIn n (counts_of (left_by next requests)) ⊎ IsIn (id_of r n) (reply.id ∷ ids_told (answered_by now (told_by next requests)))
        later n (inl k) = inl k
        later n (inr k) = inr (in_later (id_of r n) reply.id (ids_told (answered_by now (told_by next requests))) k)

        first : (n : ℕ) → (n ≡ q.count) ⊎ IsIn n (counts_of requests)
            → IsIn n (counts_of (left_by next requests)) ⊎ IsIn (id_of r n) (reply.id ∷ ids_told (answered_by now (told_by next requests)))
        first n (inl e) = inr (subst (λ i. IsIn i (reply.id ∷ ids_told (answered_by now (told_by next requests)))) (own ∙ ap (λ m. id_of r m) (sym e))
            (in_first reply.id (ids_told (answered_by now (told_by next requests)))))
        first n (inr j) = later n (more.closed n j)
