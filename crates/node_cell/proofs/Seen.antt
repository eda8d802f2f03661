-- Steps of a group, and what was seen of them.
use Rattle.std.proofs.Common.{◌≡◌, ℕ, zero, suc, ◌+◌, ◌≤◌, length, arith, length-append, List, [], ◌∷◌, ◌++◌, map, sym, ap, ◌∙◌, subst, append-nil, append_assoc}
use Rattle.std.specs.Prelude.{Option, Result, Ok, Err, OnOk}
use Rattle.std.specs.List.{AllByRecursion}
use Rattle.std.proofs.lemmas.List.{length-map}
use Rattle.std.proofs.lemmas.Option.{none-some, same_Some}
use Rattle.node_model.specs.Letters.{Letter, Input}
use Rattle.node_traits.specs.declared.outputs.NotTaken.{NotTaken}
use Rattle.node_traits.specs.declared.outputs.ToLink.{ToLink}
use Rattle.group_steps.specs.declared.group.Part.{Part}
use Rattle.group_steps.specs.Parts.{Among, AreLeft, AreOn, AreTakenOut}
use Rattle.history_model.proofs.Lists.{all_append, all_weaken}
use Rattle.node_cell.specs.declared.view.View.{View}
use Rattle.node_cell.specs.Courses.{NodeFacts}
use Rattle.node_cell.specs.Deliveries.{AreAdded, AreDeliveries, AreKnown, AreSeenFrom, AreStepsOn, Delivers, IsSeen}
use Rattle.node_cell.specs.Standing.{AreAmong, Handed, IsKnown, IsPart}
use Rattle.node_cell.specs.Views.{mail_of, next_number, taken_from, told_from}
use Rattle.node_cell.proofs.Lists.{all_at, all_map, all_split, all_unmap, among_map, are_among_front, are_among_map, are_among_on, are_among_same, are_among_self, sits}
use Rattle.node_cell.proofs.Closing.{known_on}

pub on_any : {X E : Type 0} (P : Type 0) (r : Result X E) → P → OnOk r P
on_any P (Ok x) p = p
on_any P (Err e) p = tt

-- steps whose messages and replies were seen
pub seen_from : {N L M I : Type 0} (letter : M → Letter) (v : View N L M I) (number at : ℕ) (parts : List (Part M I)) → AreAmong (mail_of parts) v.seen
    → AreAmong (told_from number parts) v.told → AreAmong (taken_from number at parts) v.taken → AreSeenFrom letter v number at parts
seen_from letter v number at [] mail told taken = tt
seen_from {N} {L} {M} letter v number at (p ∷ parts) mail told taken =
    let m = all_split (λ x. Among x v.seen) p.outputs.mail (mail_of parts) mail in
    let r = all_split (λ x. Among x v.told) (map (λ r. (number, r)) p.outputs.replies) (told_from (next_number number) parts) told in (
      record {
        taken = taken.0;
        mail = all_weaken (λ x. Among x v.seen) (λ (x : M). Among (letter x) (map letter v.seen)) p.outputs.mail (λ x there. among_map letter x v.seen there) m.0;
        replies = all_unmap (λ x. (number, x)) (λ (x : ℕ × ToLink). Among x v.told) p.outputs.replies r.0;
      },
      seen_from letter v (next_number number) at parts m.1 r.1 taken.1,
    )

-- a list that grew
grown : {A : Type 0} (old more new : List A) → new ≡ old ++ more → AreAmong old new × AreAmong more new
grown {A} old more new is = (
  subst (λ (l : List A). AreAmong old l) (sym is) (are_among_front old old more (are_among_self old)),
  subst (λ (l : List A). AreAmong more l) (sym is) (sits old more),
)

module _ {N L M I : Type 0} (letter : M → Letter) (v w : View N L M I) (number at : ℕ) (parts : List (Part M I)) (seen : w.seen ≡ v.seen ++ mail_of parts)
    (told : w.told ≡ v.told ++ told_from number parts) (taken : w.taken ≡ v.taken ++ taken_from number at parts) (safe : w.safe ≡ v.safe) where
  pub seen_group : AreSeenFrom letter w number at parts
  seen_group =
      seen_from letter w number at parts (grown v.seen (mail_of parts) w.seen seen).1 (grown v.told (told_from number parts) w.told told).1
      (grown v.taken (taken_from number at parts) w.taken taken).1

  pub part_group : IsPart v w
  part_group = record {
    seen = (grown v.seen (mail_of parts) w.seen seen).0;
    told = (grown v.told (told_from number parts) w.told told).0;
    taken = (grown v.taken (taken_from number at parts) w.taken taken).0;
    safe = are_among_same v.safe w.safe (sym safe);
  }

-- what is known stays known as more is seen
pub known_more : {N L M I : Type 0} (f : NodeFacts N L M I) (routers at : ℕ) (v w : View N L M I) (inputs : List I) → IsPart v w
    → AreKnown f.meaning routers (map f.letter v.seen) at inputs → AreKnown f.meaning routers (map f.letter w.seen) at inputs
known_more f routers at v w inputs part known =
    all_weaken (λ i. IsKnown routers (map f.letter v.seen) at (f.meaning i)) (λ i. IsKnown routers (map f.letter w.seen) at (f.meaning i)) inputs
    (λ i was. known_on routers (map f.letter v.seen) (map f.letter w.seen) at (f.meaning i) (are_among_map f.letter v.seen w.seen part.seen) was) known

-- what is known of inputs stays known of those that are left
pub known_left : {N L M I : Type 0} (f : NodeFacts N L M I) (routers at : ℕ) (v w : View N L M I) (inputs left : List I) → AreLeft inputs left → IsPart v w
    → AreKnown f.meaning routers (map f.letter v.seen) at inputs → AreKnown f.meaning routers (map f.letter w.seen) at left
known_left {N} {L} {M} {I} f routers at v w inputs left (front, is) part known =
    let all = all_split (λ i. IsKnown routers (map f.letter v.seen) at (f.meaning i)) front left
    (subst (λ (l : List I). AreKnown f.meaning routers (map f.letter v.seen) at l) is known) in
    known_more f routers at v w left part all.1

-- of the first of them, and of the others
pub next_seen : {N L M I : Type 0} (letter : M → Letter) (v w : View N L M I) (number next at : ℕ) (p : Part M I) (all rest : List (Part M I)) → w ≡ v
    → all ≡ p ∷ rest → next ≡ next_number number → AreSeenFrom letter v number at all → IsSeen letter w number at p × AreSeenFrom letter w next at rest
next_seen {N} {L} {M} {I} letter v w number next at p all rest same first is seen =
    subst (λ (u : View N L M I). IsSeen letter u number at p × AreSeenFrom letter u next at rest) (sym same)
    (subst (λ (k : ℕ). IsSeen letter v number at p × AreSeenFrom letter v k at rest) (sym is)
    (subst (λ (l : List (Part M I)). AreSeenFrom letter v number at l) first seen))

-- of the messages that are left, the first and the others
pub message_next : {M : Type 0} (letter : M → Letter) (whole : List Letter) (m : M) (all rest : List M) → all ≡ m ∷ rest → AreAmong (map letter all) whole
    → Among (letter m) whole × AreAmong (map letter rest) whole
message_next {M} letter whole m all rest first among = subst (λ (l : List M). AreAmong (map letter l) whole) first among

pub part_then : {N L M I : Type 0} (u v w : View N L M I) → IsPart u v → IsPart v w → IsPart u w
part_then u v w a b = record {
  seen = are_among_on u.seen v.seen w.seen a.seen b.seen;
  told = are_among_on u.told v.told w.told a.told b.told;
  taken = are_among_on u.taken v.taken w.taken a.taken b.taken;
  safe = are_among_on u.safe v.safe w.safe a.safe b.safe;
}

module _ {M I : Type 0} where
  pub none_added : (inputs : List I) (steps : List (Handed M I)) → AreAdded inputs steps steps
  none_added inputs steps = ([], sym (append-nil steps), tt)

  -- one more step on one of the inputs
  pub one_added : (inputs : List I) (old now new : List (Handed M I)) (s : Handed M I) → AreAdded inputs old now → new ≡ now ++ s ∷ []
      → Among s.taken.input inputs → AreAdded inputs old new
  one_added inputs old now new s (more, is, on) grows among = (
    more ++ s ∷ [],
    grows ∙ (ap (λ (l : List (Handed M I)). l ++ s ∷ []) is ∙ append_assoc old more (s ∷ [])),
    all_append (λ x. Among x.taken.input inputs) more (s ∷ []) on (among, tt),
  )

  pub steps_on : (part inputs : List I) (steps : List (Handed M I)) → AreAmong part inputs → AreStepsOn part steps → AreStepsOn inputs steps
  steps_on part inputs steps among on =
      all_weaken (λ x. Among x.taken.input part) (λ x. Among x.taken.input inputs) steps
      (λ x there. all_at (λ i. Among i inputs) part there.0 x.taken.input there.1 among) on

  -- steps on some of the inputs
  pub added_on : (part inputs : List I) (old new : List (Handed M I)) → AreAmong part inputs → AreAdded part old new → AreAdded inputs old new
  added_on part inputs old new among (more, is, on) = (more, is, steps_on part inputs more among on)

  -- they are among the inputs that steps were taken on
  pub steps_more : (inputs left : List I) (old new : List (Handed M I)) → AreAmong left inputs → AreStepsOn inputs old → AreAdded left old new
      → AreStepsOn inputs new
  steps_more inputs left old new among on (more, is, those) =
      subst (λ (l : List (Handed M I)). AreStepsOn inputs l) (sym is)
      (all_append (λ x. Among x.taken.input inputs) old more on (steps_on left inputs more among those))

  -- the inputs of the steps of a group
  pub parts_among : (inputs : List I) (parts : List (Part M I)) → AreOn inputs parts → AreAmong (map (λ p. p.input.value) parts) inputs
  parts_among inputs parts on = all_map (λ p. p.input.value) (λ i. Among i inputs) parts on

  -- and of the first of them, and the others
  pub parts_next : (inputs : List I) (p : Part M I) (all rest : List (Part M I)) → all ≡ p ∷ rest → AreAmong (map (λ x. x.input.value) all) inputs
      → Among p.input.value inputs × AreAmong (map (λ x. x.input.value) rest) inputs
  parts_next inputs p all rest first among = subst (λ (l : List (Part M I)). AreAmong (map (λ x. x.input.value) l) inputs) first among

-- what is left of inputs
pub left_among : {I : Type 0} (inputs left : List I) → AreLeft inputs left → AreAmong left inputs
left_among {I} inputs left (front, is) = subst (λ (l : List I). AreAmong left l) (sym is) (sits front left)

-- the first input is the one that there is
only_one : {I : Type 0} (i j : I) → Among j (i ∷ []) → j ≡ i
only_one {I} i j (zero, is) = sym (same_Some i j is)
only_one {I} i j (suc k, is) = absurd (none-some j is)

pub on_first : {M I : Type 0} (inputs : List I) (i : I) (p : Part M I) (all rest : List (Part M I)) → inputs ≡ i ∷ [] → all ≡ p ∷ rest → AreOn inputs all
    → p.input.value ≡ i
on_first {M} {I} inputs i p all rest one first on =
    only_one i p.input.value (subst (λ (l : List I). Among p.input.value l) one (subst (λ (l : List (Part M I)). AreOn inputs l) first on).0)

-- steps on inputs that deliver messages are deliveries of these
pub deliveries_on : {M I : Type 0} (meaning : I → Input) (messages : List Letter) (inputs : List I) (steps : List (Handed M I))
    → AllByRecursion (λ i. Delivers meaning messages i) inputs → AreStepsOn inputs steps → AreDeliveries meaning messages steps
deliveries_on {M} {I} meaning messages inputs steps all on =
    all_weaken (λ (s : Handed M I). Among s.taken.input inputs) (λ (s : Handed M I). Delivers meaning messages s.taken.input) steps
    (λ s there. all_at (λ i. Delivers meaning messages i) inputs there.0 s.taken.input there.1 all) on

-- each step was taken on an input of its own
pub out_count : {M I : Type 0} (inputs : List I) (parts : List (Part M I)) (fault : Option NotTaken) (left : List I) → AreTakenOut inputs parts fault left
    → length parts + length left ≤ length inputs
out_count {M} {I} inputs parts fault left (lost, which, is) =
    let all : length inputs ≡ length (map (λ (p : Part M I). p.input.value) parts ++ (lost ++ left)) = ap (λ (l : List I). length l) is in
    omega (
      arith,
      all,
      length-append (map (λ (p : Part M I). p.input.value) parts) (lost ++ left),
      length-append lost left,
      length-map parts (λ (p : Part M I). p.input.value),
    )
