-- What the parts of a link's requests and replies say of the whole.
use Rattle.std.proofs.Common.{◌≡◌, ℕ, ◌+◌, ◌≤◌, List, [], ◌∷◌, ◌++◌, length, Bool, true, false, ◌⊎◌, inl, inr, ⊎_elim, refl, sym, ap, ◌∙◌, subst, arith}
use Rattle.std.proofs.Common.{append_assoc, append-nil, length-append}
use Rattle.std.specs.Prelude.{Option, Some, None}
use Rattle.std.specs.Option.{unwrap_or}
use Rattle.std.proofs.lemmas.Grind.{flat_map-append}
use Rattle.opmsg_model.specs.Outline.{outline, partial_outline}
use Rattle.opmsg_model.specs.Requests.{Request, IsRequest}
use Rattle.outside.specs.Streams.{Put}
use Rattle.outside.specs.declared.exchange.Exchange.{Exchange}
use Rattle.outside.specs.declared.exchange.LinkEnd.{LinkEnd}
use Rattle.outside.specs.declared.exchange.LinkEnd.TheVariants.{AtEnd, NoFrame, ReadFault, WriteFault, Long, Lost}
use Rattle.outside.proofs.Relations.{put_then}
use Rattle.pipe_driver.proofs.Puts.{part_behind}
use Rattle.pipe_driver.specs.Pieces.{PutInPart}
use Rattle.node_model.specs.Letters.{Input}
use Rattle.node_cell.specs.declared.view.Taken.{Taken}
use Rattle.conn_server.specs.Talks.{AreAsWanted, AreRising, HasReply, IsAsked, IsRest, PutPart, PutWhole, Spoke, SpokeSome, SpokeToEnd, SpokeUntil}
use Rattle.conn_server.specs.Talks.{bytes_of, exchange_of, replies_of}
use Rattle.conn_server.proofs.Exchanged.{asked_on}

-- THE ORDER OF REQUESTS

pub rising_more : (from below : ℕ) (said : List Exchange) (e : Exchange) → AreRising from below said → below ≤ e.came
    → AreRising from (e.came + 1) (said ++ e ∷ [])
rising_more from below [] e are later = (omega (arith, are, later), omega arith)
rising_more from below (x ∷ said) e are later = (are.0, rising_more (x.came + 1) below said e are.1 later)

-- REQUESTS WITH THEIR REPLIES

still_replied : (lost : Type 0) (more : Bool) (later all : List Exchange) (reply : Option (List ℕ)) → HasReply ⊥ more later reply → HasReply lost more all reply
still_replied lost more later all None has = ⊎_elim (λ silent. inl silent) (λ t. absurd t.0) has
still_replied lost more later all (Some bytes) has = has

pub wanted_then : (lost : Type 0) (requests others : List Request) (said more : List Exchange) → AreAsWanted ⊥ requests said → AreAsWanted lost others more
    → AreAsWanted lost (requests ++ others) (said ++ more)
wanted_then lost [] others [] more are then = then
wanted_then lost [] others (e ∷ said) more are then = absurd are
wanted_then lost (r ∷ requests) others [] more are then = absurd are
wanted_then lost (r ∷ requests) others (e ∷ said) more are then =
    (are.0, are.1, still_replied lost r.more said (said ++ more) e.reply are.2, wanted_then lost requests others said more are.3 then)

replies_both : (said more : List Exchange) → replies_of (said ++ more) ≡ replies_of said ++ replies_of more
replies_both [] more = refl
replies_both (e ∷ said) more =
    ap (λ (l : List ℕ). unwrap_or e.reply [] ++ l) (replies_both said more) ∙ sym (append_assoc (unwrap_or e.reply []) (replies_of said) (replies_of more))

-- WHAT WAS WRITTEN

pub whole_none : (tells : Bool) (held : List ℕ) → PutWhole tells held held []
whole_none tells held = λ told. sym (append-nil held)

pub whole_then : (tells : Bool) (a b c x y : List ℕ) → PutWhole tells a b x → PutWhole tells b c y → PutWhole tells a c (x ++ y)
whole_then tells a b c x y first second = put_then tells a x b y c first second

pub part_then : (tells : Bool) (a b c x y : List ℕ) → PutWhole tells a b x → PutPart tells b c y → PutPart tells a c (x ++ y)
part_then tells a b c x y first second = part_behind tells a x b y c first second

-- nothing was said
pub spoke_none : (lost : Type 0) (puts : List ℕ → Type 0) (said said_after : List Exchange) → said_after ≡ said → puts [] → Spoke lost puts said said_after []
spoke_none lost puts said said_after same none =
    record { requests = []; more = []; bytes_are = refl; wanted = tt; all = same ∙ sym (append-nil said); put = none }

-- a link that spoke on
pub spoke_then : (lost : Type 0) (first_puts second_puts puts : List ℕ → Type 0) (s t u : List Exchange) (x y : List ℕ)
    → ((a b : List ℕ) → first_puts a → second_puts b → puts (a ++ b)) → Spoke ⊥ first_puts s t x → Spoke lost second_puts t u y → Spoke lost puts s u (x ++ y)
spoke_then lost first_puts second_puts puts s t u x y join first second = record {
  requests = first.requests ++ second.requests;
  more = first.more ++ second.more;
  bytes_are = ap (λ (l : List ℕ). l ++ y) first.bytes_are
      ∙ (ap (λ (l : List ℕ). bytes_of first.requests ++ l) second.bytes_are
      ∙ sym (flat_map-append (λ (r : Request). r.bytes) first.requests second.requests));
  wanted = wanted_then lost first.requests second.requests first.more second.more first.wanted second.wanted;
  all = second.all ∙ (ap (λ (l : List Exchange). l ++ second.more) first.all ∙ append_assoc s first.more second.more);
  put = subst puts (sym (replies_both first.more second.more)) (join (replies_of first.more) (replies_of second.more) first.put second.put);
}

pub whole_spoke_then : (tells : Bool) (a b c : List ℕ) (s t u : List Exchange) (x y : List ℕ) → Spoke ⊥ (PutWhole tells a b) s t x
    → Spoke ⊥ (PutWhole tells b c) t u y → Spoke ⊥ (PutWhole tells a c) s u (x ++ y)
whole_spoke_then tells a b c s t u x y first second =
    spoke_then ⊥ (PutWhole tells a b) (PutWhole tells b c) (PutWhole tells a c) s t u x y (λ p q. whole_then tells a b c p q) first second

pub until_then : (end : LinkEnd) (tells : Bool) (a b c : List ℕ) (s t u : List Exchange) (x y : List ℕ) → Spoke ⊥ (PutWhole tells a b) s t x
    → SpokeUntil end tells b c t u y → SpokeUntil end tells a c s u (x ++ y)
until_then WriteFault tells a b c s t u x y first second =
    spoke_then ⊥ (PutWhole tells a b) (PutPart tells b c) (PutPart tells a c) s t u x y (λ p q. part_then tells a b c p q) first second
until_then Lost tells a b c s t u x y first second =
    spoke_then (Unit {0}) (PutWhole tells a b) (PutWhole tells b c) (PutWhole tells a c) s t u x y (λ p q. whole_then tells a b c p q) first second
until_then AtEnd tells a b c s t u x y first second = whole_spoke_then tells a b c s t u x y first second
until_then (NoFrame place) tells a b c s t u x y first second = whole_spoke_then tells a b c s t u x y first second
until_then ReadFault tells a b c s t u x y first second = whole_spoke_then tells a b c s t u x y first second
until_then Long tells a b c s t u x y first second = whole_spoke_then tells a b c s t u x y first second

-- the end of a link that had spoken before
pub to_end_then : (end : LinkEnd) (tells : Bool) (a b c : List ℕ) (s t u : List Exchange) (offset later : ℕ) (all x y : List ℕ) → all ≡ x ++ y
    → later ≡ offset + length x → Spoke ⊥ (PutWhole tells a b) s t x → SpokeToEnd end tells b c t u later y → SpokeToEnd end tells a c s u offset all
to_end_then end tells a b c s t u offset later all x y split at first last = record {
  asked = x ++ last.asked;
  rest = last.rest;
  all_bytes = split ∙ (ap (λ (l : List ℕ). x ++ l) last.all_bytes ∙ sym (append_assoc x last.asked last.rest));
  rest_is = let same : later + length last.asked ≡ offset + length (x ++ last.asked) = omega (arith, at, length-append x last.asked) in
      subst (λ (k : ℕ). IsRest end k last.rest) same last.rest_is;
  spoke = until_then end tells a b c s t u x last.asked first last.spoke;
}

-- ONE REQUEST

module _ (said said_after : List Exchange) (came step : ℕ) (r : Request) (request copy : List ℕ) (is : IsRequest r) (bytes_are : r.bytes ≡ request)
    (copied : copy ≡ request) where
  -- it has its reply
  pub spoke_one : (puts : List ℕ → Type 0) (reply : List ℕ) → r.more ≡ false → said_after ≡ said ++ exchange_of came step copy (Some reply) ∷ [] → puts reply
      → Spoke ⊥ puts said said_after request
  spoke_one puts reply wants all put = record {
    requests = r ∷ [];
    more = exchange_of came step copy (Some reply) ∷ [];
    bytes_are = sym bytes_are ∙ sym (append-nil r.bytes);
    wanted = (copied ∙ sym bytes_are, is, wants, tt);
    all = all;
    put = subst puts (sym (append-nil reply)) put;
  }

  -- it has none
  pub spoke_silent : (lost : Type 0) (puts : List ℕ → Type 0) → (r.more ≡ true) ⊎ lost → said_after ≡ said ++ exchange_of came came copy None ∷ [] → puts []
      → Spoke lost puts said said_after request
  spoke_silent lost puts why all put = record {
    requests = r ∷ [];
    more = exchange_of came came copy None ∷ [];
    bytes_are = sym bytes_are ∙ sym (append-nil r.bytes);
    wanted = (copied ∙ sym bytes_are, is, ⊎_elim (λ silent. inl silent) (λ l. inr (l, refl)) why, tt);
    all = all;
    put = put;
  }

-- one exchange more, after what had been said before
pub said_more : (said before after : List Exchange) (e : Exchange) → after ≡ before ++ e ∷ [] → before ≡ said → after ≡ said ++ e ∷ []
said_more said before after e more same = more ∙ ap (λ (l : List Exchange). l ++ e ∷ []) same

-- a reply that was written from a slice of its bytes
pub whole_as : (tells : Bool) (a b piece reply : List ℕ) → piece ≡ reply → Put tells a piece b → PutWhole tells a b reply
whole_as tells a b piece reply same put = subst (λ (bytes : List ℕ). Put tells a bytes b) same put

pub part_as : (tells : Bool) (a b piece reply : List ℕ) → piece ≡ reply → PutInPart tells a piece b → PutPart tells a b reply
part_as tells a b piece reply same put = subst (λ (bytes : List ℕ). PutInPart tells a bytes b) same put

-- A LINK THAT ENDED WITHIN A REQUEST

pub end_short : (tells : Bool) (a b : List ℕ) (s t : List Exchange) (offset : ℕ) (request behind : List ℕ) → Spoke ⊥ (PutPart tells a b) s t request
    → SpokeToEnd WriteFault tells a b s t offset (request ++ behind)
end_short tells a b s t offset request behind spoke = record { asked = request; rest = behind; all_bytes = refl; rest_is = tt; spoke = spoke }

pub end_lost : (tells : Bool) (a b : List ℕ) (s t : List Exchange) (offset : ℕ) (request behind : List ℕ) → Spoke (Unit {0}) (PutWhole tells a b) s t request
    → SpokeToEnd Lost tells a b s t offset (request ++ behind)
end_lost tells a b s t offset request behind spoke = record { asked = request; rest = behind; all_bytes = refl; rest_is = tt; spoke = spoke }

pub end_unasked : (tells : Bool) (held : List ℕ) (s t : List Exchange) (offset : ℕ) (bytes : List ℕ) → t ≡ s → SpokeToEnd Lost tells held held s t offset bytes
end_unasked tells held s t offset bytes same = record {
  asked = [];
  rest = bytes;
  all_bytes = refl;
  rest_is = tt;
  spoke = spoke_none (Unit {0}) (PutWhole tells held held) s t same (whole_none tells held);
}

-- REQUESTS ONE AFTER ANOTHER, AND A REST

still_wanted : (lost : Type 0) (requests : List Request) (said : List Exchange) → AreAsWanted ⊥ requests said → AreAsWanted lost requests said
still_wanted lost [] [] are = tt
still_wanted lost [] (e ∷ said) are = absurd are
still_wanted lost (r ∷ requests) [] are = absurd are
still_wanted lost (r ∷ requests) (e ∷ said) are = (are.0, are.1, still_replied lost r.more said said e.reply are.2, still_wanted lost requests said are.3)

pub some_none : (tells : Bool) (held : List ℕ) (said : List Exchange) (offset : ℕ) (bytes : List ℕ)
    → SpokeSome tells held held said said offset bytes offset bytes
some_none tells held said offset bytes = record {
  asked = [];
  all_bytes = refl;
  moved = omega arith;
  spoke = spoke_none ⊥ (PutWhole tells held held) said said refl (whole_none tells held);
}

-- one request
pub some_one : (tells : Bool) (a b : List ℕ) (s t : List Exchange) (offset place : ℕ) (request rest bytes : List ℕ) → bytes ≡ request ++ rest
    → place ≡ offset + length request → Spoke ⊥ (PutWhole tells a b) s t request → SpokeSome tells a b s t offset bytes place rest
some_one tells a b s t offset place request rest bytes split at spoke = record { asked = request; all_bytes = split; moved = at; spoke = spoke }

pub some_then : (tells : Bool) (a b c : List ℕ) (s t u : List Exchange) (offset place further : ℕ) (bytes rest others : List ℕ)
    → SpokeSome tells a b s t offset bytes place rest → SpokeSome tells b c t u place rest further others → SpokeSome tells a c s u offset bytes further others
some_then tells a b c s t u offset place further bytes rest others first second = record {
  asked = first.asked ++ second.asked;
  all_bytes = first.all_bytes ∙ (ap (λ (l : List ℕ). first.asked ++ l) second.all_bytes ∙ sym (append_assoc first.asked second.asked others));
  moved = omega (arith, first.moved, second.moved, length-append first.asked second.asked);
  spoke = whole_spoke_then tells a b c s t u first.asked second.asked first.spoke second.spoke;
}

-- more bytes came
pub some_fed : (tells : Bool) (a b : List ℕ) (s t : List Exchange) (offset place : ℕ) (bytes rest piece fed : List ℕ) → fed ≡ rest ++ piece
    → SpokeSome tells a b s t offset bytes place rest → SpokeSome tells a b s t offset (bytes ++ piece) place fed
some_fed tells a b s t offset place bytes rest piece fed grown some = record {
  asked = some.asked;
  all_bytes = ap (λ (l : List ℕ). l ++ piece) some.all_bytes
      ∙ (append_assoc some.asked rest piece ∙ ap (λ (l : List ℕ). some.asked ++ l) (sym grown));
  moved = some.moved;
  spoke = some.spoke;
}

-- the link ended later
pub some_end : (end : LinkEnd) (tells : Bool) (a b c : List ℕ) (s t u : List Exchange) (offset place : ℕ) (bytes rest all : List ℕ) → rest ≡ all
    → SpokeSome tells a b s t offset bytes place rest → SpokeToEnd end tells b c t u place all → SpokeToEnd end tells a c s u offset bytes
some_end end tells a b c s t u offset place bytes rest all same some last =
    to_end_then end tells a b c s t u offset place bytes some.asked all (some.all_bytes ∙ ap (λ (l : List ℕ). some.asked ++ l) same) some.moved some.spoke last

-- or there
pub some_ends : (end : LinkEnd) (tells : Bool) (a b : List ℕ) (s t : List Exchange) (offset place : ℕ) (bytes rest : List ℕ)
    → IsRest end place rest → ((x : List ℕ) → Spoke ⊥ (PutWhole tells a b) s t x → SpokeUntil end tells a b s t x)
    → SpokeSome tells a b s t offset bytes place rest → SpokeToEnd end tells a b s t offset bytes
some_ends end tells a b s t offset place bytes rest is whole some = record {
  asked = some.asked;
  rest = rest;
  all_bytes = some.all_bytes;
  rest_is = subst (λ (k : ℕ). IsRest end k rest) some.moved is;
  spoke = whole some.asked some.spoke;
}

pub some_malformed : (tells : Bool) (a b : List ℕ) (s t : List Exchange) (offset place at : ℕ) (bytes rest : List ℕ) → IsRest (NoFrame at) place rest
    → SpokeSome tells a b s t offset bytes place rest → SpokeToEnd (NoFrame at) tells a b s t offset bytes
some_malformed tells a b s t offset place at bytes rest is some =
    some_ends (NoFrame at) tells a b s t offset place bytes rest is (λ x spoke. spoke) some

pub some_lost : (tells : Bool) (a b : List ℕ) (s t : List Exchange) (offset place : ℕ) (bytes rest : List ℕ)
    → SpokeSome tells a b s t offset bytes place rest → SpokeToEnd Lost tells a b s t offset bytes
some_lost tells a b s t offset place bytes rest some = record {
  asked = some.asked;
  rest = rest;
  all_bytes = some.all_bytes;
  rest_is = tt;
  spoke = let spoke = some.spoke in
      record {
        requests = spoke.requests;
        more = spoke.more;
        bytes_are = spoke.bytes_are;
        wanted = still_wanted (Unit {0}) spoke.requests spoke.more spoke.wanted;
        all = spoke.all;
        put = spoke.put;
      };
}

-- with an incomplete message
pub some_partial : (end : LinkEnd) (tells : Bool) (a b : List ℕ) (s t : List Exchange) (offset place : ℕ) (bytes rest : List ℕ)
    → (end ≡ AtEnd) ⊎ ((end ≡ ReadFault) ⊎ (end ≡ Long)) → outline rest ≡ partial_outline → SpokeSome tells a b s t offset bytes place rest
    → SpokeToEnd end tells a b s t offset bytes
some_partial end tells a b s t offset place bytes rest why partial some =
    let P : LinkEnd → Type 0 = λ e. SpokeToEnd e tells a b s t offset bytes in
    let parts = λ (e : LinkEnd) (is : IsRest e place rest) (whole : (x : List ℕ) → Spoke ⊥ (PutWhole tells a b) s t x → SpokeUntil e tells a b s t x).
    some_ends e tells a b s t offset place bytes rest is whole some in
    ⊎_elim (λ is. subst P (sym is) (parts AtEnd partial (λ x spoke. spoke)))
    (λ other. ⊎_elim (λ is. subst P (sym is) (parts ReadFault partial (λ x spoke. spoke)))
    (λ is. subst P (sym is) (parts Long partial (λ x spoke. spoke))) other) why

-- A REQUEST THAT WAS TAKEN

-- by the copy of its bytes, and after more was seen
pub asked_then : {I : Type 0} (meaning : I → Input) (taken all : List (Taken I)) (link link_after came : ℕ) (bytes copy : List ℕ)
    → IsAsked meaning taken link came bytes → (more : List (Taken I)) × (all ≡ taken ++ more) → link_after ≡ link → copy ≡ bytes
    → IsAsked meaning all link_after came copy
asked_then {I} meaning taken all link link_after came bytes copy asked whole same_link same =
    subst (λ (l : List (Taken I)). IsAsked meaning l link_after came copy) (sym whole.1)
    (asked_on meaning taken whole.0 link_after came copy
    (subst (λ (k : ℕ). IsAsked meaning taken k came copy) (sym same_link) (subst (λ (b : List ℕ). IsAsked meaning taken link came b) (sym same) asked)))

pub asked_by_copy : {I : Type 0} (meaning : I → Input) (taken : List (Taken I)) (link link_after came : ℕ) (bytes copy : List ℕ)
    → IsAsked meaning taken link came bytes → link_after ≡ link → copy ≡ bytes → IsAsked meaning taken link_after came copy
asked_by_copy {I} meaning taken link link_after came bytes copy asked same_link same =
    subst (λ (k : ℕ). IsAsked meaning taken k came copy) (sym same_link) (subst (λ (b : List ℕ). IsAsked meaning taken link came b) (sym same) asked)
