-- A transition of the catalogue is a step that is planned.
use Rattle.std.proofs.Common.{◌≡◌, ℕ, List, [], ◌∷◌, refl, sym, ap, subst, ◌∙◌}
use Rattle.std.specs.Prelude.{Option, Some, None, max, Result, Ok, Err, IfOk}
use Rattle.std.specs.Option.{option_map}
use Rattle.base_model.specs.Times.{time_of_moment}
use Rattle.chunk_catalogue.specs.Views.{change_view}
use Rattle.chunk_catalogue.specs.declared.change.Change.{Change as Made}
use Rattle.chunk_model.specs.Changes.{Change}
use Rattle.node_model.specs.CatalogueRows.{CatalogueRow, catalogue_moment, at_later, with_change}
use Rattle.node_model.specs.Journal.{Kept, change_record, kept_change}
use Rattle.node_model.specs.Lacks.{requested_of_catalogue}
use Rattle.node_model.specs.Letters.{Body, Refused, Letter, Input, client_input, letter_input, moment_input, opened_input, nothing, sends, writes}
use Rattle.node_model.specs.States.{Catalogue, catalogue_state}
use Rattle.node_model.specs.Steps.{IsFor, catalogue_step, other_step}
use Rattle.node_traits.specs.Effects.{AreReadable, StepPlanned, spellings}
use Rattle.cluster_base.specs.declared.time.Time.{Time}
use Rattle.record_model.specs.RecordFormat.{spelled}
use Rattle.shard_records.specs.Readable.{IsReadable}
use Rattle.config_node.specs.Plans.{at_then}
use Rattle.config_node.specs.Told.{answer_of, answers, letters, told_of}
use Rattle.config_node.specs.declared.plan.Answer.{Answer}
use Rattle.config_node.specs.declared.plan.Answer.TheVariants.{Nothing}
use Rattle.config_node.specs.declared.plan.StepPlan.{StepPlan}

-- the plan is a step from this catalogue
abbrev pub Planned : Catalogue → Input → StepPlan → Type 0
Planned c i p =
    StepPlanned (catalogue_state c) i (answers c.me p.time.0 p.answer i) [] p.records.items
    (at_then c.me p.time.0 (option_map (λ x. change_view x.fields) p.change) c.changes)

-- WHAT IS ANSWERED

no_answer : (me sender time : ℕ) (what : Option Refused) → told_of me sender time Nothing what ≡ []
no_answer me sender time None = refl
no_answer me sender time (Some what) = refl

pub no_answers : (me time : ℕ) (i : Input) → answers me time Nothing i ≡ []
no_answers me time (letter_input m) = no_answer me m.sender time (requested_of_catalogue m.body)
no_answers me time (client_input link number request) = refl
no_answers me time (moment_input moment) = refl
no_answers me time opened_input = refl

-- an answer to what a message requests
pub one_answer : (me time : ℕ) (m : Letter) (answer : Answer) (what : Refused) (body : Body) → requested_of_catalogue m.body ≡ Some what
    → answer_of answer what ≡ Some body
    → answers me time answer (letter_input m) ≡ record { sender = me; receiver = m.sender; time = time; body = body } ∷ []
one_answer me time m answer what body asks is =
    ap (λ (o : Option Refused). told_of me m.sender time answer o) asks ∙ ap (λ (o : Option Body). letters me m.sender time o) is

-- that of a plan
pub same_answers : (me : ℕ) (m l : Letter) (p : StepPlan) (time : Time) (answer : Answer) → p.time ≡ time → p.answer ≡ answer
    → answers me time.0 answer (letter_input m) ≡ l ∷ [] → answers me p.time.0 p.answer (letter_input m) ≡ l ∷ []
same_answers me m l p time answer late said sent =
    (ap (λ (t : Time). answers me t.0 p.answer (letter_input m)) late ∙ ap (λ (a : Answer). answers me time.0 a (letter_input m)) said) ∙ sent

-- WHAT IS PLANNED

-- a transition that sends these, and changes nothing but the time
sends_planned : (c : Catalogue) (i : Input) (time : ℕ) (change : Option Change) (mail sent : List Letter) (records : List (List ℕ)) → IsFor c.me i
    → CatalogueRow c i (sends sent) (at_later c time) → change ≡ None → mail ≡ sent → records ≡ []
    → StepPlanned (catalogue_state c) i mail [] records (at_then c.me time change c.changes)
sends_planned c i time change mail sent records for row none said unwritten =
    subst (λ x. StepPlanned (catalogue_state c) i mail [] records (at_then c.me time x c.changes)) (sym none)
    (record { effect = sends sent; step = catalogue_step _ _ _ _ for row; sent = sym said; told = refl; readable = tt; spelled = unwritten })

-- a transition that stores these, and changes nothing but the time
stores_planned : (c : Catalogue) (i : Input) (time : ℕ) (change : Option Change) (kept : List Kept) (mail sent : List Letter) (records : List (List ℕ))
    → IsFor c.me i → CatalogueRow c i (writes kept sent) (at_later c time) → change ≡ None → mail ≡ sent → records ≡ spellings kept → AreReadable kept
    → StepPlanned (catalogue_state c) i mail [] records (at_then c.me time change c.changes)
stores_planned c i time change kept mail sent records for row none said written readable =
    subst (λ x. StepPlanned (catalogue_state c) i mail [] records (at_then c.me time x c.changes)) (sym none)
    (record { effect = writes kept sent; step = catalogue_step _ _ _ _ for row; sent = sym said; told = refl; readable = readable; spelled = written })

-- a transition that stores a change
writes_planned : (c : Catalogue) (i : Input) (x : Change) (time : ℕ) (change : Option Change) (mail sent : List Letter) (records : List (List ℕ)) → IsFor c.me i
    → CatalogueRow c i (writes (kept_change x ∷ []) sent) (with_change c time x) → change ≡ Some x → mail ≡ sent
    → records ≡ spelled 1 (change_record x) ∷ [] → IsReadable (change_record x)
    → StepPlanned (catalogue_state c) i mail [] records (at_then c.me time change c.changes)
writes_planned c i x time change mail sent records for row one said written readable =
    subst (λ y. StepPlanned (catalogue_state c) i mail [] records (at_then c.me time y c.changes)) (sym one)
    (record {
      effect = writes (kept_change x ∷ []) sent;
      step = catalogue_step _ _ _ _ for row;
      sent = sym said;
      told = refl;
      readable = (readable, tt);
      spelled = written;
    })

-- a plan without a message
module _ (c : Catalogue) (p : StepPlan) (none : p.change ≡ None) (silent : p.answer ≡ Nothing) (unwritten : p.records.items ≡ []) where
  silence : (i : Input) → answers c.me p.time.0 p.answer i ≡ []
  silence i = ap (λ (a : Answer). answers c.me p.time.0 a i) silent ∙ no_answers c.me p.time.0 i

  pub quiet : (i j : Input) → j ≡ i → IsFor c.me i → CatalogueRow c i nothing (at_later c p.time.0) → Planned c j p
  quiet i j same for row =
      subst (λ k. Planned c k p) (sym same)
      (sends_planned c i p.time.0 (option_map (λ x. change_view x.fields) p.change) (answers c.me p.time.0 p.answer i) [] p.records.items for row
      (ap (λ o. option_map (λ x. change_view x.fields) o) none) (silence i) unwritten)

  -- at the time of a moment
  pub at_moment : (j : Input) (moment : ℕ) → j ≡ moment_input moment → p.time.0 ≡ max c.time (time_of_moment moment) → Planned c j p
  at_moment j moment same late =
      quiet (moment_input moment) j same tt
      (subst (λ n. CatalogueRow c (moment_input moment) nothing (at_later c n)) (sym late) (catalogue_moment c moment))

  -- nothing happens
  pub stays : (i j : Input) → j ≡ i → IsFor c.me i → CatalogueRow c i nothing c → p.time.0 ≡ c.time → Planned c j p
  stays i j same for row late =
      quiet i j same for (subst (λ n. CatalogueRow c i nothing (at_later c n)) (sym late) row)

  -- the message is another node's
  pub stays_other : (m : Letter) → (m.receiver ≡ c.me → ⊥) → p.time.0 ≡ c.time → Planned c (letter_input m) p
  stays_other m other late =
      let sent : List Letter = answers c.me p.time.0 p.answer (letter_input m) in
      subst (λ n. StepPlanned (catalogue_state c) (letter_input m) sent [] p.records.items
      (at_then c.me n (option_map (λ x. change_view x.fields) p.change) c.changes)) (sym late)
      (subst (λ o. StepPlanned (catalogue_state c) (letter_input m) sent [] p.records.items
      (at_then c.me c.time (option_map (λ x. change_view x.fields) o) c.changes)) (sym none)
      (record {
        effect = nothing;
        step = other_step (catalogue_state c) m other;
        sent = sym (silence (letter_input m));
        told = refl;
        readable = tt;
        spelled = unwritten;
      }))

-- a plan with a message, which answers the one received
module _ (c : Catalogue) (m l : Letter) (time : Time) (here : m.receiver ≡ c.me) where
  pub told_planned : (p : StepPlan) → CatalogueRow c (letter_input m) (sends (l ∷ [])) (at_later c time.0)
      → p.time ≡ time → p.change ≡ None → answers c.me p.time.0 p.answer (letter_input m) ≡ l ∷ [] → p.records.items ≡ [] → Planned c (letter_input m) p
  told_planned p row late none sent unwritten =
      sends_planned c (letter_input m) p.time.0 (option_map (λ x. change_view x.fields) p.change) (answers c.me p.time.0 p.answer (letter_input m)) (l ∷ [])
      p.records.items here
      (subst (λ t. CatalogueRow c (letter_input m) (sends (l ∷ [])) (at_later c t.0)) (sym late) row)
      (ap (λ o. option_map (λ x. change_view x.fields) o) none) sent unwritten

  pub stored_planned : (kept : List Kept) (p : StepPlan) → CatalogueRow c (letter_input m) (writes kept (l ∷ [])) (at_later c time.0)
      → p.time ≡ time → p.change ≡ None → answers c.me p.time.0 p.answer (letter_input m) ≡ l ∷ [] → p.records.items ≡ spellings kept → AreReadable kept
      → Planned c (letter_input m) p
  stored_planned kept p row late none sent written readable =
      stores_planned c (letter_input m) p.time.0 (option_map (λ x. change_view x.fields) p.change) kept (answers c.me p.time.0 p.answer (letter_input m))
      (l ∷ []) p.records.items here
      (subst (λ t. CatalogueRow c (letter_input m) (writes kept (l ∷ [])) (at_later c t.0)) (sym late) row)
      (ap (λ o. option_map (λ x. change_view x.fields) o) none) sent written readable

  module _ {E : Type 0} (change : Made) (answer : Answer) (sent : answers c.me time.0 answer (letter_input m) ≡ l ∷ []) where
    pub made_planned : (r : Result StepPlan E)
        → CatalogueRow c (letter_input m) (writes (kept_change (change_view change.fields) ∷ []) (l ∷ [])) (with_change c time.0 (change_view change.fields))
        → IfOk r (λ p. p.time ≡ time) → IfOk r (λ p. p.change ≡ Some change) → IfOk r (λ p. p.answer ≡ answer)
        → IfOk r (λ p. p.records.items ≡ spelled 1 (change_record (change_view change.fields)) ∷ [])
        → IfOk r (λ p. IsReadable (change_record (change_view change.fields))) → IfOk r (λ p. Planned c (letter_input m) p)
    made_planned (Err e) row late one said written readable = tt
    made_planned (Ok p) row late one said written readable =
        writes_planned c (letter_input m) (change_view change.fields) p.time.0 (option_map (λ x. change_view x.fields) p.change)
        (answers c.me p.time.0 p.answer (letter_input m)) (l ∷ []) p.records.items here
        (subst (λ t. CatalogueRow c (letter_input m) (writes (kept_change (change_view change.fields) ∷ []) (l ∷ []))
        (with_change c t.0 (change_view change.fields))) (sym late) row)
        (ap (λ o. option_map (λ x. change_view x.fields) o) one) (same_answers c.me m l p time answer late said sent) written readable
