-- Replies that are put, one after another.
use Rattle.std.proofs.Common.{◌≡◌, ℕ, List, [], ◌∷◌, ◌++◌, Bool, ◌+◌, ◌<◌, ◌≤◌, suc, length, get_or, take, drop, drop-cons, add-one, ap, sym, subst}
use Rattle.std.proofs.Common.{◌∙◌, append_assoc, append-nil}
use Rattle.std.proofs.lemmas.Grind.{flat_map-append}
use Rattle.std.proofs.lemmas.List.{take-append-drop, drop_all}
use Rattle.outside.specs.Streams.{Put}
use Rattle.outside.proofs.Relations.{put_then}
use Rattle.node_traits.specs.declared.outputs.ToLink.{ToLink}
use Rattle.pipe_driver.specs.Pieces.{PutInPart}
use Rattle.pipe_driver.specs.Rounds.{bytes_of}

-- the first bytes of a piece are a prefix
pub put_first : (tells : Bool) (held piece held' : List ℕ) (n : ℕ) → Put tells held (take n piece) held' → PutInPart tells held piece held'
put_first tells held piece held' n put = (take n piece, (drop n piece, sym (take-append-drop n piece)), put)

pub put_nothing : (tells : Bool) (held : List ℕ) → Put tells held [] held
put_nothing tells held told = sym (append-nil held)

-- nothing more was put
pub put_no_more : (tells : Bool) (held bytes held' held'' : List ℕ) → Put tells held bytes held' → Put tells held' [] held'' → Put tells held bytes held''
put_no_more tells held bytes held' held'' put none told = none told ∙ (append-nil held' ∙ put told)

-- after bytes that were put
pub part_behind : (tells : Bool) (held bytes held' more held'' : List ℕ) → Put tells held bytes held' → PutInPart tells held' more held''
    → PutInPart tells held (bytes ++ more) held''
part_behind tells held bytes held' more held'' put (part, (others, is), puts) =
    (bytes ++ part, (others, ap (λ (l : List ℕ). bytes ++ l) is ∙ sym (append_assoc bytes part others)), put_then tells held bytes held' part held'' put puts)

-- a prefix of the first of several pieces
pub part_before : (tells : Bool) (held piece more held' : List ℕ) → PutInPart tells held piece held' → PutInPart tells held (piece ++ more) held'
part_before tells held piece more held' (part, (others, is), puts) =
    (part, (others ++ more, ap (λ (l : List ℕ). l ++ more) is ∙ append_assoc part others more), puts)

pub bytes_then : (a b : List ToLink) → bytes_of (a ++ b) ≡ bytes_of a ++ bytes_of b
bytes_then a b = flat_map-append (λ (t : ToLink). t.bytes) a b

-- WHILE REPLIES ARE PUT: what is left to put, put after what was put, is all

abbrev pub PutsRest : Bool → (held_before held : List ℕ) → (all rest : List ToLink) → Type 0
PutsRest tells held_before held all rest =
    ((held' : List ℕ) → Put tells held (bytes_of rest) held' → Put tells held_before (bytes_of all) held')
    × ((held' : List ℕ) → PutInPart tells held (bytes_of rest) held' → PutInPart tells held_before (bytes_of all) held')

pub puts_all : (tells : Bool) (held : List ℕ) (all : List ToLink) → PutsRest tells held held all all
puts_all tells held all = (λ held' p. p, λ held' p. p)

pub puts_next : (tells : Bool) (held_before held held' : List ℕ) (all rest : List ToLink) (reply : ToLink)
    → PutsRest tells held_before held all (reply ∷ rest) → Put tells held reply.bytes held' → PutsRest tells held_before held' all rest
puts_next tells held_before held held' all rest reply puts put = (
  λ after more. puts.0 after (put_then tells held reply.bytes held' (bytes_of rest) after put more),
  λ after more. puts.1 after (part_behind tells held reply.bytes held' (bytes_of rest) after put more),
)

-- the next reply, at a place
pub reply_cut : (replies : List ToLink) (i : ℕ) (reply : ToLink) → i < length replies → reply ≡ get_or replies i reply
    → drop i replies ≡ reply ∷ drop (i + 1) replies
reply_cut replies i reply inside is =
    rw add-one (drop-cons replies i reply inside ∙ ap (λ (first : ToLink). first ∷ drop (suc i) replies) (sym is))

pub reply_put : (tells : Bool) (held_before held held' bytes : List ℕ) (replies : List ToLink) (i : ℕ) (reply : ToLink) → i < length replies
    → reply ≡ get_or replies i reply → bytes ≡ reply.bytes → PutsRest tells held_before held replies (drop i replies)
    → Put tells held bytes held' → PutsRest tells held_before held' replies (drop (i + 1) replies)
reply_put tells held_before held held' bytes replies i reply inside is same puts put =
    puts_next tells held_before held held' replies (drop (i + 1) replies) reply
    (subst (λ (l : List ToLink). PutsRest tells held_before held replies l) (reply_cut replies i reply inside is) puts)
    (subst (λ (b : List ℕ). Put tells held b held') same put)

pub reply_short : (tells : Bool) (held_before held held' bytes : List ℕ) (replies : List ToLink) (i : ℕ) (reply : ToLink) → i < length replies
    → reply ≡ get_or replies i reply → bytes ≡ reply.bytes → PutsRest tells held_before held replies (drop i replies)
    → PutInPart tells held bytes held' → PutInPart tells held_before (bytes_of replies) held'
reply_short tells held_before held held' bytes replies i reply inside is same puts put =
    let rest : PutsRest tells held_before held replies (reply ∷ drop (i + 1) replies) =
    subst (λ (l : List ToLink). PutsRest tells held_before held replies l) (reply_cut replies i reply inside is) puts in
    rest.1 held' (part_before tells held reply.bytes (bytes_of (drop (i + 1) replies)) held'
    (subst (λ (b : List ℕ). PutInPart tells held b held') same put))

pub none_left : (tells : Bool) (held_before held : List ℕ) (replies : List ToLink) (i : ℕ) → length replies ≤ i
    → PutsRest tells held_before held replies (drop i replies) → Put tells held_before (bytes_of replies) held
none_left tells held_before held replies i past puts =
    puts.0 held (subst (λ (l : List ToLink). Put tells held (bytes_of l) held) (sym (drop_all i replies past)) (put_nothing tells held))
