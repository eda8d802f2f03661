-- What a router replies to a request to split.
use Rattle.std.proofs.Common.{◌≡◌, ℕ, List, [], ◌∷◌, ◌++◌, refl, sym, ap, subst, ◌∙◌, arith}
use Rattle.std.specs.List.{AllByRecursion}
use Rattle.std.specs.Prelude.{Result, Ok, true}
use Rattle.bson_model.specs.Tree.{Datum}
use Rattle.base_model.specs.Errors.{namespace_not_sharded}
use Rattle.base_model.specs.Refusals.{Refusal, without_evidence}
use Rattle.command_model.specs.Split.{SplitCommand}
use Rattle.command_model.specs.Command.{Command, split_command, command_of}
use Rattle.command_model.specs.Answers.{changed_answer, refusal_answer}
use Rattle.base_model.specs.Identities.{RequestId}
use Rattle.reply_model.specs.Exchanges.{Asked}
use Rattle.reply_model.specs.Right.{WasSplit, right_split, right_not_sharded}
use Rattle.node_model.specs.Journal.{Kept}
use Rattle.node_model.specs.Letters.{split_done, Letter}
use Rattle.node_model.specs.States.{splitting, Open, Router, router_state, without}
use Rattle.node_model.specs.RouterRequests.{heard}
use Rattle.node_model.specs.RouterNext.{reply_to}
use Rattle.node_model.specs.RouterRows.{as_before}
use Rattle.node_model.specs.World.{World}
use Rattle.reply_facts.proofs.Requests.{one_asked}
use Rattle.node_laws.proofs.Views.{Book, View, view_of, changes_in}
use Rattle.node_laws.proofs.SplitFacts.{IsSplitDone}
use Rattle.node_laws.proofs.Facts.{IsReached, WorkFits, IsOpenOf, NodeFits, SentFits, Good}
use Rattle.node_laws.proofs.Owes.{Owes}
use Rattle.node_laws.proofs.Growth.{begins_grows}
use Rattle.node_laws.proofs.Journals.{later_self}
use Rattle.node_laws.proofs.OpenRequests.{IsOpenWith}
use Rattle.node_laws.proofs.AnswerTimes.{changed_below, refusal_below}
use Rattle.node_laws.proofs.RouterAnswers.{as_answered, answer_fits}
use Rattle.node_laws.proofs.RouterLater.{goes_to, tells}
use Rattle.node_laws.proofs.RouterForms.{IsBehind, came_by, turns_stay, told_owes}
use Rattle.node_laws.proofs.RouterMessages.{later, heard_met, body_in}

same_split : (a b : SplitCommand) (command : Result Command Refusal) → command ≡ Ok (split_command a) → command ≡ Ok (split_command b) → a ≡ b
same_split a b command e f = cc

module _ (w : World) (book : Book) (at : ℕ) (kept : List Kept) (r : Router) (good : Good w book)
    (h : NodeFits (view_of w.nodes book) w.asked w.answered w.given at (record { state = router_state r; kept = kept }))
    (reach : AllByRecursion (IsReached book.reached r) r.requests)
    (m : Letter) (comes : SentFits (view_of w.nodes book) w.changed w.asked w.answered w.given m) where
  abbrev Behind : View → Type 0
  Behind v = IsBehind w book at kept r good h reach v

  -- what an open request to split is
  does : (v : View) (q : Open) (middle : Datum) → q.work ≡ splitting middle → (o : IsOpenOf v w.asked w.answered r q)
      → command_of o.request.request ≡ Ok (split_command (record { namespace = q.namespace; middle = middle }))
  does v q middle work o = subst (λ x. WorkFits o.request q.namespace x) work o.work

  begun_there : (v : View) → Behind v → (id : RequestId) (q : Open) (middle : Datum) → m.body ≡ split_done id true → IsOpenWith r id q
      → q.work ≡ splitting middle → (o : IsOpenOf v w.asked w.answered r q) → WasSplit (changes_in v) q.namespace middle (heard r m)
  begun_there v behind id q middle says found work o =
      let d : IsSplitDone v w.asked id m.time = body_in w book at kept r good h reach m comes v behind (split_done id true) says in
      let same : d.request ≡ o.request = one_asked d.request o.request w.asked good.one d.taken o.taken (d.own ∙ found.own ∙ sym o.own) in
      let one : d.split ≡ record { namespace = q.namespace; middle = middle } =
      same_split d.split (record { namespace = q.namespace; middle = middle }) (command_of o.request.request)
      (ap (λ (b : Asked). command_of b.request) (sym same) ∙ d.asks) (does v q middle work o) in
      subst (λ (s : SplitCommand). WasSplit (changes_in v) s.namespace s.middle (heard r m)) one
      (begins_grows v v d.split.namespace d.split.middle m.time (heard r m) (later_self v) (omega arith) d.begins)

  -- a chunk begins there
  pub split_owes : (id : RequestId) (q : Open) (middle : Datum) → m.body ≡ split_done id true → IsOpenWith r id q → q.work ≡ splitting middle
      → Owes w book at (record { state = router_state r; kept = kept })
      (tells (as_before r) [] (reply_to r (heard r m) q (changed_answer (heard r m)) ∷ []))
      (router_state (goes_to r (heard r m) r.moment r.tables (without q.count r.requests) (as_before r)))
  split_owes id q middle says found work =
      told_owes w book at kept r good h reach q (changed_answer (heard r m)) (heard r m) (as_before r) book.cursors found.stands
      (later w book at kept r good h reach m comes) (heard_met w book at kept r good h reach m comes) tt
      (turns_stay w book at kept r good h reach (heard r m) r.moment r.tables (without q.count r.requests) (later w book at kept r good h reach m comes))
      (λ v behind o n. (
        answer_fits v w.asked w.answered (w.answered ++ as_answered w.now (reply_to r (heard r m) q (changed_answer (heard r m))) ∷ []) r (heard r m) w.now q
            (changed_answer (heard r m)) book.cursors book.cursors o (later w book at kept r good h reach m comes)
            (came_by w book at kept r good h reach o.request o.taken)
            (record {
              right = right_split (record { namespace = q.namespace; middle = middle }) (does v q middle work o)
                  (begun_there v behind id q middle says found work o) refl;
              settled = tt;
            }),
        changed_below (heard r m) (heard r m) (omega arith),
      ))

  -- there is no such collection
  pub unsplit_owes : (id : RequestId) (q : Open) (middle : Datum) → IsOpenWith r id q → q.work ≡ splitting middle
      → Owes w book at (record { state = router_state r; kept = kept })
      (tells (as_before r) [] (reply_to r (heard r m) q (refusal_answer (without_evidence namespace_not_sharded)) ∷ []))
      (router_state (goes_to r (heard r m) r.moment r.tables (without q.count r.requests) (as_before r)))
  unsplit_owes id q middle found work =
      told_owes w book at kept r good h reach q (refusal_answer (without_evidence namespace_not_sharded)) (heard r m) (as_before r) book.cursors found.stands
      (later w book at kept r good h reach m comes) (heard_met w book at kept r good h reach m comes) tt
      (turns_stay w book at kept r good h reach (heard r m) r.moment r.tables (without q.count r.requests) (later w book at kept r good h reach m comes))
      (λ v behind o n. (
        answer_fits v w.asked w.answered
            (w.answered ++ as_answered w.now (reply_to r (heard r m) q (refusal_answer (without_evidence namespace_not_sharded))) ∷ []) r (heard r m) w.now q
            (refusal_answer (without_evidence namespace_not_sharded)) book.cursors book.cursors o (later w book at kept r good h reach m comes)
            (came_by w book at kept r good h reach o.request o.taken)
            (record {
              right = right_not_sharded (record { namespace = q.namespace; middle = middle }) (does v q middle work o) refl;
              settled = tt;
            }),
        refusal_below (heard r m) (without_evidence namespace_not_sharded),
      ))
