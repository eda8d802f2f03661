-- What was taken from a link, and how it ended.
use Rattle.std.proofs.Common.{◌≡◌, ◌≢◌, ◌⊎◌, inl, inr, ⊎_elim, ℕ, List, [], ◌++◌, Bool, IsTrue, refl, sym, ap, ◌∙◌, subst}
use Rattle.opmsg_model.specs.Outline.{outline, partial_outline}
use Rattle.outside.specs.Notes.{Note}
use Rattle.outside.specs.Streams.{Took}
use Rattle.outside.specs.declared.exchange.Exchange.{Exchange}
use Rattle.outside.specs.declared.exchange.LinkEnd.{LinkEnd}
use Rattle.outside.specs.declared.exchange.LinkEnd.TheVariants.{AtEnd, Long, Lost, ReadFault}
use Rattle.outside.proofs.Relations.{took_then}
use Rattle.conn_server.specs.Conversations.{WasTalked, link_facts}
use Rattle.conn_server.specs.Talks.{SpokeSome, SpokeToEnd}
use Rattle.conn_server.proofs.Written.{some_end, some_fed, some_lost, some_partial}

pub took_more : (tells : Bool) (first second third last read bytes : List ℕ) → Took tells first read second → Took tells second bytes third → last ≡ third
    → Took tells first (read ++ bytes) last
took_more tells first second third last read bytes took more same =
    subst (λ (l : List ℕ). Took tells first (read ++ bytes) l) (sym same) (took_then tells first read second bytes third took more)

took_none : (tells : Bool) (first second third read : List ℕ) → Took tells first read second → Took tells second [] third → Took tells first read third
took_none tells first second third read took none told = took told ∙ ap (λ (b : List ℕ). read ++ b) (none told)

module _ {S : Type 0} (gives : Bool) (left : S → List ℕ) (tells : Bool) (held : S → List ℕ) (noted : S → List Note) (closed : S → Bool)
    (opened link : S) where
  -- what was said, as it was after taking
  held_by : (after : S) (said : List Exchange) (place : ℕ) (read rest : List ℕ) → held after ≡ held link
      → SpokeSome tells (held opened) (held link) [] said 0 read place rest → SpokeSome tells (held opened) (held after) [] said 0 read place rest
  held_by after said place read rest same some = subst (λ (h : List ℕ). SpokeSome tells (held opened) h [] said 0 read place rest) (sym same) some

  pub talked_long : (said : List Exchange) (read rest : List ℕ) (place : ℕ) → Took gives (left opened) read (left link) → outline rest ≡ partial_outline
      → SpokeSome tells (held opened) (held link) [] said 0 read place rest → WasTalked (link_facts gives left tells held noted closed) Long opened link said
  talked_long said read rest place took partial some = record {
    read = read;
    took = took;
    to_end = λ is. absurd (cc is);
    spoke = some_partial Long tells (held opened) (held link) [] said 0 place read rest (inr (inr refl)) partial some;
  }

  pub talked_lost : (said : List Exchange) (read rest : List ℕ) (place : ℕ) → Took gives (left opened) read (left link)
      → SpokeSome tells (held opened) (held link) [] said 0 read place rest → WasTalked (link_facts gives left tells held noted closed) Lost opened link said
  talked_lost said read rest place took some = record {
    read = read;
    took = took;
    to_end = λ is. absurd (cc is);
    spoke = some_lost tells (held opened) (held link) [] said 0 place read rest some;
  }

  -- nothing more is taken
  pub talked_out : (after : S) (said : List Exchange) (end : LinkEnd) (read rest : List ℕ) (place : ℕ) → Took gives (left opened) read (left link)
      → Took gives (left link) [] (left after) → held after ≡ held link → (end ≡ AtEnd) ⊎ (end ≡ ReadFault)
      → (end ≡ AtEnd → IsTrue gives → left after ≡ []) → outline rest ≡ partial_outline
      → SpokeSome tells (held opened) (held link) [] said 0 read place rest → WasTalked (link_facts gives left tells held noted closed) end opened after said
  talked_out after said end read rest place took none same why at_end partial some = record {
    read = read;
    took = took_none gives (left opened) (left link) (left after) read took none;
    to_end = at_end;
    spoke = some_partial end tells (held opened) (held after) [] said 0 place read rest (⊎_elim (λ is. inl is) (λ is. inr (inl is)) why) partial
        (held_by after said place read rest same some);
  }

  -- what was taken can't be kept
  pub talked_no_more : (after : S) (said : List Exchange) (read rest bytes : List ℕ) (place : ℕ) → Took gives (left opened) read (left link)
      → Took gives (left link) bytes (left after) → held after ≡ held link
      → SpokeSome tells (held opened) (held link) [] said 0 read place rest → WasTalked (link_facts gives left tells held noted closed) Lost opened after said
  talked_no_more after said read rest bytes place took more same some = record {
    read = read ++ bytes;
    took = took_then gives (left opened) read (left link) bytes (left after) took more;
    to_end = λ is. absurd (cc is);
    spoke = some_lost tells (held opened) (held after) [] said 0 place (read ++ bytes) (rest ++ bytes)
        (some_fed tells (held opened) (held after) [] said 0 place read rest bytes (rest ++ bytes) refl (held_by after said place read rest same some));
  }

  -- it ended within what was taken
  pub talked_on : (taken after : S) (said said_after : List Exchange) (end : LinkEnd) (read bytes rest fed : List ℕ) (place same_place : ℕ)
      → Took gives (left opened) read (left link) → Took gives (left link) bytes (left taken) → left after ≡ left taken → held taken ≡ held link
      → same_place ≡ place → fed ≡ rest ++ bytes → end ≢ AtEnd → SpokeSome tells (held opened) (held link) [] said 0 read place rest
      → SpokeToEnd end tells (held taken) (held after) said said_after same_place fed
      → WasTalked (link_facts gives left tells held noted closed) end opened after said_after
  talked_on taken after said said_after end read bytes rest fed place same_place took more stays same at grown other some last = record {
    read = read ++ bytes;
    took = took_more gives (left opened) (left link) (left taken) (left after) read bytes took more stays;
    to_end = λ is. absurd (other is);
    spoke = some_end end tells (held opened) (held taken) (held after) [] said said_after 0 place (read ++ bytes) fed fed refl
        (some_fed tells (held opened) (held taken) [] said 0 place read rest bytes fed grown (held_by taken said place read rest same some))
        (subst (λ (k : ℕ). SpokeToEnd end tells (held taken) (held after) said said_after k fed) at last);
  }
