-- The plans to answer requests of the catalogue.
use Rattle.std.proofs.Common.{◌≡◌, ◌⊎◌, ℕ, ◌+◌, [], ◌∷◌, refl, sym, ap, subst, true, false, ◌∙◌}
use Rattle.std.specs.Prelude.{Bool, Option, Some, None, IsSome, max, Result, IfOk}
use Rattle.chunk_catalogue.specs.Views.{change_view}
use Rattle.chunk_catalogue.specs.declared.change.Change.{Change as Made}
use Rattle.chunk_model.specs.Changes.{known_table}
use Rattle.chunk_model.specs.Requests.{changed, unchanged, no_collection, create_answer, split_answer}
use Rattle.chunk_model.specs.Tables.{Table}
use Rattle.cluster_base.specs.declared.time.Time.{Time}
use Rattle.node_model.specs.CatalogueRows.{none_at}
use Rattle.node_model.specs.Journal.{change_record}
use Rattle.node_model.specs.Lacks.{requested_of_catalogue}
use Rattle.node_model.specs.Letters.{Letter, letter_input, of_table, table_told, split_done}
use Rattle.node_model.specs.States.{Catalogue}
use Rattle.node_traits.specs.Effects.{AreReadable, spellings}
use Rattle.node_traits.specs.Ids.{id_view}
use Rattle.protocol_model.specs.Bodies.{split_ask_view, table_ask_view}
use Rattle.protocol_model.specs.Tables.{at_view}
use Rattle.protocol_model.specs.declared.splits.SplitAsk.{SplitAsk}
use Rattle.protocol_model.specs.declared.tables.TableAsk.{TableAsk}
use Rattle.record_model.specs.RecordFormat.{spelled}
use Rattle.shard_records.specs.Readable.{IsReadable}
use Rattle.config_node.proofs.Plans.{Planned, made_planned, one_answer, same_answers, stored_planned, told_planned}
use Rattle.config_node.proofs.Rows.{creates, has_bound, has_none, says, splits, tells}
use Rattle.config_node.specs.Told.{answer_of, answers}
use Rattle.config_node.specs.declared.plan.Answer.{Answer}
use Rattle.config_node.specs.declared.plan.Answer.TheVariants.{Split}
use Rattle.config_node.specs.declared.plan.StepPlan.{StepPlan}

module _ (n : Catalogue) (m : Letter) (heard : Time) (late : heard.0 ≡ max n.time m.time) (here : m.receiver ≡ n.me) where
  module _ (ask : TableAsk) (found : Option Table) (is : m.body ≡ table_ask_view ask) (answer : Answer)
      (given : answer_of answer (of_table ask.namespace ask.create (at_view ask.at)) ≡ Some (table_told ask.namespace ask.create (at_view ask.at) found)) where
    -- the answer, at a time
    abbrev table_says : ℕ → Letter
    table_says time = says n m.sender time (table_told ask.namespace ask.create (at_view ask.at) found)

    table_answers : (time : ℕ) → answers n.me time answer (letter_input m) ≡ table_says time ∷ []
    table_answers time = one_answer n.me time m answer _ _ (ap requested_of_catalogue is) given

    -- a collection is created
    pub create_planned : {E : Type 0} (x : Made) (next : Time) (r : Result StepPlan E) → next.0 ≡ heard.0 + 1 → ask.create ≡ true
        → create_answer ask.namespace next.0 n.changes ≡ changed (change_view x.fields) → known_table ask.namespace (change_view x.fields ∷ n.changes) ≡ found
        → IfOk r (λ p. p.time ≡ next) → IfOk r (λ p. p.change ≡ Some x) → IfOk r (λ p. p.answer ≡ answer)
        → IfOk r (λ p. p.records.items ≡ spelled 1 (change_record (change_view x.fields)) ∷ [])
        → IfOk r (λ p. IsReadable (change_record (change_view x.fields))) → IfOk r (λ p. Planned n (letter_input m) p)
    create_planned x next r after create_true answered known timed one said written readable =
        made_planned n m (table_says next.0) next here x answer (table_answers next.0) r
        (creates n m next.0 ask.namespace ask.create (at_view ask.at) found is (change_view x.fields) create_true (after ∙ ap (λ t. t + 1) late) answered
        (sym known))
        timed one said written readable

    -- the present table, or none, is returned; that there is none at a time is stored
    pub tell_planned : (p : StepPlan) → (ask.create ≡ false) ⊎ IsSome (known_table ask.namespace n.changes) → found ≡ known_table ask.namespace n.changes
        → p.time ≡ heard → p.change ≡ None → p.answer ≡ answer → p.records.items ≡ spellings (none_at (at_view ask.at) found)
        → AreReadable (none_at (at_view ask.at) found) → Planned n (letter_input m) p
    tell_planned p may known timed none said written readable =
        stored_planned n m (table_says heard.0) heard here (none_at (at_view ask.at) found) p
        (tells n m heard.0 ask.namespace ask.create (at_view ask.at) found is may late known)
        timed none (same_answers n.me m (table_says heard.0) p heard answer timed said (table_answers heard.0)) written readable

  module _ (ask : SplitAsk) (is : m.body ≡ split_ask_view ask) (next : Time) (after : next.0 ≡ heard.0 + 1) where
    abbrev split_says : (time : ℕ) → (found : Bool) → Letter
    split_says time found = says n m.sender time (split_done (id_view ask.id) found)

    split_answers : (time : ℕ) (found : Bool) → answers n.me time (Split found) (letter_input m) ≡ split_says time found ∷ []
    split_answers time found = one_answer n.me time m (Split found) _ _ (ap requested_of_catalogue is) refl

    -- a chunk is split
    pub split_planned : {E : Type 0} (x : Made) (r : Result StepPlan E)
        → split_answer ask.namespace ask.middle next.0 n.changes ≡ changed (change_view x.fields)
        → IfOk r (λ p. p.time ≡ next) → IfOk r (λ p. p.change ≡ Some x) → IfOk r (λ p. p.answer ≡ Split true)
        → IfOk r (λ p. p.records.items ≡ spelled 1 (change_record (change_view x.fields)) ∷ [])
        → IfOk r (λ p. IsReadable (change_record (change_view x.fields))) → IfOk r (λ p. Planned n (letter_input m) p)
    split_planned x r answered timed one said written readable =
        made_planned n m (split_says next.0 true) next here x (Split true) (split_answers next.0 true) r
        (splits n m next.0 (id_view ask.id) ask.namespace ask.middle true is (change_view x.fields) refl (after ∙ ap (λ t. t + 1) late) answered)
        timed one said written readable

    -- what is told without a change
    same_told : (p : StepPlan) (found : Bool) → p.time ≡ heard → p.answer ≡ Split found
        → answers n.me p.time.0 p.answer (letter_input m) ≡ split_says heard.0 found ∷ []
    same_told p found timed said = same_answers n.me m (split_says heard.0 found) p heard (Split found) timed said (split_answers heard.0 found)

    -- a chunk begins there
    pub bound_planned : (p : StepPlan) → split_answer ask.namespace ask.middle next.0 n.changes ≡ unchanged
        → p.time ≡ heard → p.change ≡ None → p.answer ≡ Split true → p.records.items ≡ [] → Planned n (letter_input m) p
    bound_planned p answered timed none said unwritten =
        told_planned n m (split_says heard.0 true) heard here p
        (has_bound n m heard.0 (id_view ask.id) ask.namespace ask.middle true is refl late
        (subst (λ t. split_answer ask.namespace ask.middle t n.changes ≡ unchanged) (after ∙ ap (λ t. t + 1) late) answered))
        timed none (same_told p true timed said) unwritten

    -- there is no such collection
    pub none_planned : (p : StepPlan) → split_answer ask.namespace ask.middle next.0 n.changes ≡ no_collection
        → p.time ≡ heard → p.change ≡ None → p.answer ≡ Split false → p.records.items ≡ [] → Planned n (letter_input m) p
    none_planned p answered timed none said unwritten =
        told_planned n m (split_says heard.0 false) heard here p
        (has_none n m heard.0 (id_view ask.id) ask.namespace ask.middle false is refl late
        (subst (λ t. split_answer ask.namespace ask.middle t n.changes ≡ no_collection) (after ∙ ap (λ t. t + 1) late) answered))
        timed none (same_told p false timed said) unwritten
