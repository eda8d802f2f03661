-- What a step that took a request, and one that returned a reply, leave in a note.
use Rattle.std.proofs.Common.{◌≡◌, ℕ, ℤ, List, ◌++◌, sym, subst}
use Rattle.opmsg_model.specs.Requests as wire
use Rattle.node_model.specs.Letters.{Input, client_input}
use Rattle.node_traits.specs.declared.outputs.ToLink.{ToLink}
use Rattle.node_cell.specs.declared.view.Taken.{Taken}
use Rattle.group_steps.specs.Parts.{Among}
use Rattle.node_cell.specs.Standing.{step_of}
use Rattle.node_cell.proofs.Lists.{among_behind}
use Rattle.conn_server.specs.Talks.{IsAsked, reply_on}

-- the step that a note has seen is among all that were seen
pub asked_by : {I : Type 0} (meaning : I → Input) (taken more all : List (Taken I)) (link came : ℕ) (number : ℤ) (request : wire.Request) (bytes : List ℕ)
    (t u : Taken I) → meaning t.input ≡ client_input link number request → wire.IsRequest request → request.bytes ≡ bytes → came ≡ t.number → u ≡ t
    → Among u more → all ≡ taken ++ more → IsAsked meaning all link came bytes
asked_by {I} meaning taken more all link came number request bytes t u asks reads same number_is is there whole = record {
  at = t.at;
  input = t.input;
  is = record { number = number; request = request; asks = asks; reads = reads; bytes_are = same };
  here = subst (λ (l : List (Taken I)). Among (step_of came t.at t.input) l) (sym whole)
      (among_behind (step_of came t.at t.input) taken more
      (subst (λ (n : ℕ). Among (step_of n t.at t.input) more) (sym number_is) (subst (λ (x : Taken I). Among x more) is there)));
}

pub replied_by : (told more all : List (ℕ × ToLink)) (link step : ℕ) (reply : ToLink) → reply.link ≡ link → Among (step, reply) more → all ≡ told ++ more
    → Among (step, reply_on link reply.bytes) all
replied_by told more all link step reply is there whole =
    subst (λ (l : List (ℕ × ToLink)). Among (step, reply_on link reply.bytes) l) (sym whole)
    (among_behind (step, reply_on link reply.bytes) told more
    (subst (λ (k : ℕ). Among (step, reply_on k reply.bytes) more) is there))

-- of the link under another name
pub replied_as : (told : List (ℕ × ToLink)) (link link_after step : ℕ) (reply : List ℕ) → Among (step, reply_on link reply) told → link_after ≡ link
    → Among (step, reply_on link_after reply) told
replied_as told link link_after step reply there same = subst (λ (k : ℕ). Among (step, reply_on k reply) told) (sym same) there
