-- Which line bytes say, by the word that they begin with.
use Rattle.std.proofs.Common.{◌≡◌, ◌≢◌, ◌⊎◌, inl, inr, ℕ, List, ◌∷◌, ◌++◌, refl, sym, ap, subst, ◌∙◌, arith, rules}
use Rattle.std.specs.Prelude.{Some, codes}
use Rattle.script_lines.specs.Kinds.{IsKind}
use Rattle.script_lines.specs.Words.{AreNumbers, HasNone, IsCutAt, IsNumber, IsHex}
use Rattle.script_lines.specs.Lines.{Line, Says, says_client, says_deliver, says_moment, says_settle, says_except, says_next, says_restart, says_kept, says_lost, settle_line, next_line}
use Rattle.script_lines.proofs.Cuts.{no_cut, number_none, same_cut}

client_none : HasNone 32 (codes "client")
client_none = search rules

deliver_none : HasNone 32 (codes "deliver")
deliver_none = search rules

moment_none : HasNone 32 (codes "moment")
moment_none = search rules

settle_none : HasNone 32 (codes "settle")
settle_none = search rules

next_none : HasNone 32 (codes "next")
next_none = search rules

except_none : HasNone 32 (codes "except")
except_none = search rules

restart_none : HasNone 32 (codes "restart")
restart_none = search rules

kept_none : HasNone 32 (codes "kept")
kept_none = search rules

lost_none : HasNone 32 (codes "lost")
lost_none = search rules

heads_same : (x y : ℕ) (xs ys : List ℕ) → x ∷ xs ≡ y ∷ ys → x ≡ y
heads_same x y xs ys e = cc

tails_same : (xs ys : List ℕ) → codes "next" ++ 32 ∷ xs ≡ codes "next" ++ 32 ∷ ys → xs ≡ ys
tails_same xs ys e = cc

-- a router and bytes
pub record AreRouterAndBytes (rest : List ℕ) : Type 0 where
  pub before : List ℕ
  pub behind : List ℕ
  pub whole : rest ≡ before ++ 32 ∷ behind
  pub none : HasNone 32 before
  pub router : ℕ
  pub bytes : List ℕ
  pub is_router : IsNumber before router
  pub are_bytes : IsHex behind bytes

client_parts : (rest line : List ℕ) (other : Line) → Says line other → line ≡ codes "client" ++ 32 ∷ rest → AreRouterAndBytes rest
client_parts rest _ _ (says_client a b router bytes n h) e = record {
  before = a;
  behind = b;
  whole = cc e;
  none = number_none a router n;
  router = router;
  bytes = bytes;
  is_router = n;
  are_bytes = h;
}
client_parts rest _ _ (says_deliver words node k are) e = absurd (omega (arith, heads_same 100 99 _ _ e))
client_parts rest _ _ (says_moment words node moment are) e = absurd (omega (arith, heads_same 109 99 _ _ e))
client_parts rest _ _ says_settle e = absurd (omega (arith, heads_same 115 99 _ _ e))
client_parts rest _ _ (says_except kind is) e = absurd (omega (arith, heads_same 115 99 _ _ e))
client_parts rest _ _ (says_next kind is) e = absurd (omega (arith, heads_same 110 99 _ _ e))
client_parts rest _ _ (says_restart word node is) e = absurd (omega (arith, heads_same 114 99 _ _ e))
client_parts rest _ _ (says_kept a b node k n m) e = absurd (omega (arith, heads_same 114 99 _ _ e))
client_parts rest _ _ (says_lost a b node k n m) e = absurd (omega (arith, heads_same 114 99 _ _ e))

deliver_parts : (rest line : List ℕ) (other : Line) → Says line other → line ≡ codes "deliver" ++ 32 ∷ rest → (m n : ℕ) × AreNumbers rest m n
deliver_parts rest _ _ (says_client a b router bytes n h) e = absurd (omega (arith, heads_same 99 100 _ _ e))
deliver_parts rest _ _ (says_deliver words node k are) e = (node, k, subst (λ (l : List ℕ). AreNumbers l node k) (cc e) are)
deliver_parts rest _ _ (says_moment words node moment are) e = absurd (omega (arith, heads_same 109 100 _ _ e))
deliver_parts rest _ _ says_settle e = absurd (omega (arith, heads_same 115 100 _ _ e))
deliver_parts rest _ _ (says_except kind is) e = absurd (omega (arith, heads_same 115 100 _ _ e))
deliver_parts rest _ _ (says_next kind is) e = absurd (omega (arith, heads_same 110 100 _ _ e))
deliver_parts rest _ _ (says_restart word node is) e = absurd (omega (arith, heads_same 114 100 _ _ e))
deliver_parts rest _ _ (says_kept a b node k n m) e = absurd (omega (arith, heads_same 114 100 _ _ e))
deliver_parts rest _ _ (says_lost a b node k n m) e = absurd (omega (arith, heads_same 114 100 _ _ e))

moment_parts : (rest line : List ℕ) (other : Line) → Says line other → line ≡ codes "moment" ++ 32 ∷ rest → (m n : ℕ) × AreNumbers rest m n
moment_parts rest _ _ (says_client a b router bytes n h) e = absurd (omega (arith, heads_same 99 109 _ _ e))
moment_parts rest _ _ (says_deliver words node k are) e = absurd (omega (arith, heads_same 100 109 _ _ e))
moment_parts rest _ _ (says_moment words node moment are) e = (node, moment, subst (λ (l : List ℕ). AreNumbers l node moment) (cc e) are)
moment_parts rest _ _ says_settle e = absurd (omega (arith, heads_same 115 109 _ _ e))
moment_parts rest _ _ (says_except kind is) e = absurd (omega (arith, heads_same 115 109 _ _ e))
moment_parts rest _ _ (says_next kind is) e = absurd (omega (arith, heads_same 110 109 _ _ e))
moment_parts rest _ _ (says_restart word node is) e = absurd (omega (arith, heads_same 114 109 _ _ e))
moment_parts rest _ _ (says_kept a b node k n m) e = absurd (omega (arith, heads_same 114 109 _ _ e))
moment_parts rest _ _ (says_lost a b node k n m) e = absurd (omega (arith, heads_same 114 109 _ _ e))

except_parts : (rest line : List ℕ) (other : Line) → Says line other → line ≡ codes "settle" ++ 32 ∷ rest
    → (kind : List ℕ) × (rest ≡ codes "except" ++ 32 ∷ kind) × IsKind kind
except_parts rest _ _ (says_client a b router bytes n h) e = absurd (omega (arith, heads_same 99 115 _ _ e))
except_parts rest _ _ (says_deliver words node k are) e = absurd (omega (arith, heads_same 100 115 _ _ e))
except_parts rest _ _ (says_moment words node moment are) e = absurd (omega (arith, heads_same 109 115 _ _ e))
except_parts rest _ _ says_settle e = absurd (no_cut 32 (codes "settle") (codes "settle") rest settle_none e)
except_parts rest _ _ (says_except kind is) e = (kind, cc e, is)
except_parts rest _ _ (says_next kind is) e = absurd (omega (arith, heads_same 110 115 _ _ e))
except_parts rest _ _ (says_restart word node is) e = absurd (omega (arith, heads_same 114 115 _ _ e))
except_parts rest _ _ (says_kept a b node k n m) e = absurd (omega (arith, heads_same 114 115 _ _ e))
except_parts rest _ _ (says_lost a b node k n m) e = absurd (omega (arith, heads_same 114 115 _ _ e))

next_parts : (rest line : List ℕ) (other : Line) → Says line other → line ≡ codes "next" ++ 32 ∷ rest → IsKind rest
next_parts rest _ _ (says_client a b router bytes n h) e = absurd (omega (arith, heads_same 99 110 _ _ e))
next_parts rest _ _ (says_deliver words node k are) e = absurd (omega (arith, heads_same 100 110 _ _ e))
next_parts rest _ _ (says_moment words node moment are) e = absurd (omega (arith, heads_same 109 110 _ _ e))
next_parts rest _ _ says_settle e = absurd (omega (arith, heads_same 115 110 _ _ e))
next_parts rest _ _ (says_except kind is) e = absurd (omega (arith, heads_same 115 110 _ _ e))
next_parts rest _ _ (says_next kind is) e = subst (λ (l : List ℕ). IsKind l) (tails_same kind rest e) is
next_parts rest _ _ (says_restart word node is) e = absurd (omega (arith, heads_same 114 110 _ _ e))
next_parts rest _ _ (says_kept a b node k n m) e = absurd (omega (arith, heads_same 114 110 _ _ e))
next_parts rest _ _ (says_lost a b node k n m) e = absurd (omega (arith, heads_same 114 110 _ _ e))

-- what comes after a word `restart`
pub data AreOfRestart (rest : List ℕ) : Type 0 where
  node_alone : (node : ℕ) → IsNumber rest node → AreOfRestart rest
  with_step : (a word b : List ℕ) (node k : ℕ) → rest ≡ a ++ 32 ∷ (word ++ 32 ∷ b) → (word ≡ codes "kept") ⊎ (word ≡ codes "lost") → IsNumber a node
      → IsNumber b k → AreOfRestart rest

restart_parts : (rest line : List ℕ) (other : Line) → Says line other → line ≡ codes "restart" ++ 32 ∷ rest → AreOfRestart rest
restart_parts rest _ _ (says_client a b router bytes n h) e = absurd (omega (arith, heads_same 99 114 _ _ e))
restart_parts rest _ _ (says_deliver words node k are) e = absurd (omega (arith, heads_same 100 114 _ _ e))
restart_parts rest _ _ (says_moment words node moment are) e = absurd (omega (arith, heads_same 109 114 _ _ e))
restart_parts rest _ _ says_settle e = absurd (omega (arith, heads_same 115 114 _ _ e))
restart_parts rest _ _ (says_except kind is) e = absurd (omega (arith, heads_same 115 114 _ _ e))
restart_parts rest _ _ (says_next kind is) e = absurd (omega (arith, heads_same 110 114 _ _ e))
restart_parts rest _ _ (says_restart word node is) e = node_alone node (subst (λ (l : List ℕ). IsNumber l node) (cc e) is)
restart_parts rest _ _ (says_kept a b node k n m) e = with_step a (codes "kept") b node k (cc e) (inl refl) n m
restart_parts rest _ _ (says_lost a b node k n m) e = with_step a (codes "lost") b node k (cc e) (inr refl) n m

-- THE WORDS AFTER THE FIRST

pub client_one_word : (rest : List ℕ) → HasNone 32 rest → (other : Line) → Says (codes "client" ++ 32 ∷ rest) other → ⊥
client_one_word rest none other says = let two = client_parts rest _ other says refl in no_cut 32 rest two.before two.behind none two.whole

pub client_refused : (rest a b : List ℕ) → IsCutAt 32 rest a b → ((router : ℕ) (bytes : List ℕ) → IsNumber a router → IsHex b bytes → ⊥) → (other : Line)
    → Says (codes "client" ++ 32 ∷ rest) other → ⊥
client_refused rest a b cut none other says =
    let two = client_parts rest _ other says refl in
    let same = same_cut 32 two.before two.behind a b two.none cut.first (sym two.whole ∙ cut.whole) in
    none two.router two.bytes (subst (λ (l : List ℕ). IsNumber l two.router) same.0 two.is_router)
    (subst (λ (l : List ℕ). IsHex l two.bytes) same.1 two.are_bytes)

pub deliver_refused : (rest : List ℕ) → ((m n : ℕ) → AreNumbers rest m n → ⊥) → (other : Line) → Says (codes "deliver" ++ 32 ∷ rest) other → ⊥
deliver_refused rest none other says = let are = deliver_parts rest _ other says refl in none are.0 are.1 are.2

pub moment_refused : (rest : List ℕ) → ((m n : ℕ) → AreNumbers rest m n → ⊥) → (other : Line) → Says (codes "moment" ++ 32 ∷ rest) other → ⊥
moment_refused rest none other says = let are = moment_parts rest _ other says refl in none are.0 are.1 are.2

pub except_one_word : (rest : List ℕ) → HasNone 32 rest → (other : Line) → Says (codes "settle" ++ 32 ∷ rest) other → ⊥
except_one_word rest none other says = let two = except_parts rest _ other says refl in no_cut 32 rest (codes "except") two.0 none two.1

pub except_refused : (rest a b : List ℕ) → IsCutAt 32 rest a b → (a ≡ codes "except" → IsKind b → ⊥) → (other : Line)
    → Says (codes "settle" ++ 32 ∷ rest) other → ⊥
except_refused rest a b cut none other says =
    let two = except_parts rest _ other says refl in
    let same = same_cut 32 (codes "except") two.0 a b except_none cut.first (sym two.1 ∙ cut.whole) in
    none (sym same.0) (subst (λ (l : List ℕ). IsKind l) same.1 two.2)

pub next_refused : (rest : List ℕ) → (IsKind rest → ⊥) → (other : Line) → Says (codes "next" ++ 32 ∷ rest) other → ⊥
next_refused rest none other says = none (next_parts rest _ other says refl)

word_none : (word : List ℕ) → (word ≡ codes "kept") ⊎ (word ≡ codes "lost") → HasNone 32 word
word_none word (inl is) = subst (λ (l : List ℕ). HasNone 32 l) (sym is) kept_none
word_none word (inr is) = subst (λ (l : List ℕ). HasNone 32 l) (sym is) lost_none

pub node_refused : (rest : List ℕ) → HasNone 32 rest → ((node : ℕ) → IsNumber rest node → ⊥) → (other : Line) → Says (codes "restart" ++ 32 ∷ rest) other → ⊥
node_refused rest none not_so other says = by_parts (restart_parts rest _ other says refl)
  where
    by_parts : AreOfRestart rest → ⊥
    by_parts (node_alone node is) = not_so node is
    by_parts (with_step a word b node k whole which n m) = no_cut 32 rest a (word ++ 32 ∷ b) none whole

pub first_refused : (rest first words : List ℕ) → IsCutAt 32 rest first words → ((node : ℕ) → IsNumber first node → ⊥) → (other : Line)
    → Says (codes "restart" ++ 32 ∷ rest) other → ⊥
first_refused rest first words cut not_so other says = by_parts (restart_parts rest _ other says refl)
  where
    by_parts : AreOfRestart rest → ⊥
    by_parts (node_alone node is) = no_cut 32 rest first words (number_none rest node is) cut.whole
    by_parts (with_step a word b node k whole which n m) =
        let same = same_cut 32 a (word ++ 32 ∷ b) first words (number_none a node n) cut.first (sym whole ∙ cut.whole) in
        not_so node (subst (λ (l : List ℕ). IsNumber l node) same.0 n)

pub stop_refused : (first words : List ℕ) (node : ℕ) → IsNumber first node → ((word last : List ℕ) (k : ℕ) → words ≡ word ++ 32 ∷ last → HasNone 32 word
    → (word ≡ codes "kept") ⊎ (word ≡ codes "lost") → IsNumber last k → ⊥) → (other : Line)
    → Says (codes "restart" ++ 32 ∷ (first ++ 32 ∷ words)) other → ⊥
stop_refused first words node is not_so other says = by_parts (restart_parts (first ++ 32 ∷ words) _ other says refl)
  where
    by_parts : AreOfRestart (first ++ 32 ∷ words) → ⊥
    by_parts (node_alone n number) = no_cut 32 (first ++ 32 ∷ words) first words (number_none (first ++ 32 ∷ words) n number) refl
    by_parts (with_step a word b n k whole which number m) =
        let same = same_cut 32 a (word ++ 32 ∷ b) first words (number_none a n number) (number_none first node is) (sym whole) in
        not_so word b k (sym same.1) (word_none word which) which m

-- bytes without a space say one line
pub settle_refused : (line : List ℕ) → HasNone 32 line → line ≢ codes "settle" → (other : Line) → Says line other → ⊥
settle_refused _ none other _ (says_client a b router bytes n h) = no_cut 32 _ (codes "client") (a ++ 32 ∷ b) none refl
settle_refused _ none other _ (says_deliver words node k are) = no_cut 32 _ (codes "deliver") words none refl
settle_refused _ none other _ (says_moment words node moment are) = no_cut 32 _ (codes "moment") words none refl
settle_refused _ none other _ says_settle = other refl
settle_refused _ none other _ (says_except kind is) = no_cut 32 _ (codes "settle") (codes "except" ++ 32 ∷ kind) none refl
settle_refused _ none other _ (says_next kind is) = no_cut 32 _ (codes "next") kind none refl
settle_refused _ none other _ (says_restart word node is) = no_cut 32 _ (codes "restart") word none refl
settle_refused _ none other _ (says_kept a b node k n m) = no_cut 32 _ (codes "restart") (a ++ 32 ∷ (codes "kept" ++ 32 ∷ b)) none refl
settle_refused _ none other _ (says_lost a b node k n m) = no_cut 32 _ (codes "restart") (a ++ 32 ∷ (codes "lost" ++ 32 ∷ b)) none refl

-- no line begins with another word
pub word_refused : (line a b : List ℕ) → IsCutAt 32 line a b → a ≢ codes "client" → a ≢ codes "deliver" → a ≢ codes "moment" → a ≢ codes "settle"
    → a ≢ codes "next" → a ≢ codes "restart" → (other : Line) → Says line other → ⊥
word_refused _ a b cut client deliver moment settle next restart _ (says_client x y router bytes n h) =
    client (sym (same_cut 32 (codes "client") (x ++ 32 ∷ y) a b client_none cut.first cut.whole).0)
word_refused _ a b cut client deliver moment settle next restart _ (says_deliver words node k are) =
    deliver (sym (same_cut 32 (codes "deliver") words a b deliver_none cut.first cut.whole).0)
word_refused _ a b cut client deliver moment settle next restart _ (says_moment words node at are) =
    moment (sym (same_cut 32 (codes "moment") words a b moment_none cut.first cut.whole).0)
word_refused _ a b cut client deliver moment settle next restart _ says_settle = no_cut 32 (codes "settle") a b settle_none cut.whole
word_refused _ a b cut client deliver moment settle next restart _ (says_except kind is) =
    settle (sym (same_cut 32 (codes "settle") (codes "except" ++ 32 ∷ kind) a b settle_none cut.first cut.whole).0)
word_refused _ a b cut client deliver moment settle next restart _ (says_next kind is) =
    next (sym (same_cut 32 (codes "next") kind a b next_none cut.first cut.whole).0)
word_refused _ a b cut client deliver moment settle next restart _ (says_restart word node is) =
    restart (sym (same_cut 32 (codes "restart") word a b restart_none cut.first cut.whole).0)
word_refused _ a b cut client deliver moment settle next restart _ (says_kept x y node k n m) =
    restart (sym (same_cut 32 (codes "restart") (x ++ 32 ∷ (codes "kept" ++ 32 ∷ y)) a b restart_none cut.first cut.whole).0)
word_refused _ a b cut client deliver moment settle next restart _ (says_lost x y node k n m) =
    restart (sym (same_cut 32 (codes "restart") (x ++ 32 ∷ (codes "lost" ++ 32 ∷ y)) a b restart_none cut.first cut.whole).0)

pub except_said : (rest first second kind : List ℕ) → IsCutAt 32 rest first second → first ≡ codes "except" → kind ≡ second → IsKind second
    → Says (codes "settle" ++ 32 ∷ rest) (settle_line (Some kind))
except_said rest first second kind cut is same names =
    subst (λ (l : List ℕ). Says (codes "settle" ++ 32 ∷ l) (settle_line (Some kind)))
    (sym (cut.whole ∙ (ap (λ (l : List ℕ). l ++ 32 ∷ second) is ∙ ap (λ (l : List ℕ). codes "except" ++ 32 ∷ l) (sym same))))
    (says_except kind (subst (λ (l : List ℕ). IsKind l) (sym same) names))

pub next_said : (rest kind : List ℕ) → kind ≡ rest → IsKind rest → Says (codes "next" ++ 32 ∷ rest) (next_line kind)
next_said rest kind same names = subst (λ (l : List ℕ). Says (codes "next" ++ 32 ∷ rest) (next_line l)) (sym same) (says_next rest names)

-- the words of a stop in a step
pub stop_words : (words word last : List ℕ) → IsCutAt 32 words word last → (is : List ℕ) → word ≡ is → words ≡ is ++ 32 ∷ last
stop_words words word last cut is same = cut.whole ∙ ap (λ (l : List ℕ). l ++ 32 ∷ last) same
